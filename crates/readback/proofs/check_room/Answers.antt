-- `check_room` meets its contract: 1 and 2 by the settings, and then its tests are the checks on the sizes, in their order. Assumes nothing.
use Rattle.std.proofs.Common.{arith, refl, ap}
use Rattle.plate.specs.declared.settings.Settings.{Settings}
use Rattle.plate.proofs.Calls.{handed-is}
use Rattle.readback.proofs.Answers.{short-errors, short-thicknesses, no-layer, above_most, short-output, all_pass, settings-bad, size-bad, size-good}
use Rattle.readback.proofs.check_room.Goals as goal
use Rattle.readback.proofs.check_room.Goals.{then-n-eq0-via-then-n-eq0, then-n-eq0-via-else-n-eq0+then-s-n}

pub returns-in_err-s : goal.returns-in_err-s
returns-in_err-s c = rw (handed-is _ _ c.from_residual.ensures.1) (settings-bad c.in_err-s.ensures _ _ _ _ _ refl)

pub returns-then-errors-s : goal.returns-then-errors-s
returns-then-errors-s c =
    let j = c.in_ok-s.ensures in
    let size = ap (λ (s : Settings). s.entries) (j.good _ refl).0 in
    size-bad j _ _ _ _ _ refl _ _ c.refusal_at.ensures (short-errors _ _ _ _ _ _ (omega (arith, size)))

pub returns-then-thicknesses-s : goal.returns-then-thicknesses-s
returns-then-thicknesses-s c =
    let j = c.in_ok-s.ensures in
    let size = ap (λ (s : Settings). s.entries) (j.good _ refl).0 in
    size-bad j _ _ _ _ _ refl _ _ c.refusal_at-then-thicknesses-s.ensures (short-thicknesses _ _ _ _ _ _ (omega (arith, size)) (omega (arith, size)))

pub returns-then-n-eq0 : goal.returns-then-n-eq0
returns-then-n-eq0 c =
    let j = c.in_ok-s.ensures in
    let size = ap (λ (s : Settings). s.entries) (j.good _ refl).0 in
    let most = ap (λ (s : Settings). s.counts) (j.good _ refl).0 in
    size-bad j _ _ _ _ _ refl _ _ c.refusal_at-then-n-eq0.ensures
    (elim c.then-n-eq0.branch [
      | then-n-eq0-via-then-n-eq0 w ↦ no-layer _ _ _ _ _ _ (omega (arith, size)) (omega (arith, size)) (omega arith)
      | then-n-eq0-via-else-n-eq0+then-s-n w ↦
          above_most _ _ _ _ _ _ (omega (arith, size)) (omega (arith, size)) (λ z. omega arith) (omega (arith, most))
    ])

pub returns-then-room-n : goal.returns-then-room-n
returns-then-room-n c =
    let j = c.in_ok-s.ensures in
    let size = ap (λ (s : Settings). s.entries) (j.good _ refl).0 in
    let most = ap (λ (s : Settings). s.counts) (j.good _ refl).0 in
    size-bad j _ _ _ _ _ refl _ _ c.refusal_at-then-room-n.ensures
    (short-output _ _ _ _ _ _ (omega (arith, size)) (omega (arith, size)) (λ z. omega arith) (omega (arith, most)) (omega arith))

pub returns : goal.returns
returns c =
    let j = c.in_ok-s.ensures in
    let size = ap (λ (s : Settings). s.entries) (j.good _ refl).0 in
    let most = ap (λ (s : Settings). s.counts) (j.good _ refl).0 in
    size-good j _ _ _ _ _ refl (all_pass _ _ _ _ _ _ (omega (arith, size)) (omega (arith, size)) (λ z. omega arith) (omega (arith, most)) (omega arith))
