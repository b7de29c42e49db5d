-- `check_lift` meets its contract: what the search finds decides, and behind the first layer also how high the layers below are. Assumes nothing.
use Rattle.std.proofs.Common.{◌≡◌, sym, ap, ap₂, ◌∙◌, ℕ, ◌+◌, ◌<◌, ◌≤◌, List, arith}
use mathlib.Core.Option.{some}
use Rattle.lists.specs.Search.{lowest}
use Rattle.paper.specs.Layer.{tmax}
use Rattle.paper.proofs.Thicknesses.{tmax-le}
use Rattle.plate.specs.Refusal.{Numbered}
use Rattle.plate.specs.Settings.{Sound}
use Rattle.plate.specs.declared.settings.Settings.{Settings}
use Rattle.record.specs.Bytes.{le32}
use Rattle.record.specs.Frame.{body_at}
use Rattle.orders.specs.File.{lift_place, lifts_by, thickness_at, lift_checks}
use Rattle.orders.specs.Parts.{Standing, Looked}
use Rattle.orders.specs.declared.Stack.{Stack}
use Rattle.orders.proofs.Lifts.{found, thickness-is, lift-none, lift-first, lift-high, lift-low, stands-first, stands-more}
use Rattle.orders.proofs.Setup.check_lift.Goals as goal
use Rattle.orders.proofs.Setup.check_lift.Goals.{else-read-ne0-via-then-read-ne0+else-self-read, else-read-ne0-via-else-read-ne0}
use Rattle.std.specs.Prelude.{Ok}

module _ (s : Settings) (sound : Sound s) (step : ℕ) (cures file : List ℕ) (read : Stack) (stands : Standing step read) (bits : ℕ) (e : bits ≡ le32 file (body_at (lift_place read.layers))) where
  abbrev at : ℕ
  at = lowest (lifts_by s.members step cures read.rise bits) s.tmax

  found-is : at ≡ found s.height s.members step cures file read
  found-is = ap₂ (λ (b n : ℕ). lowest (lifts_by s.members step cures read.rise b) n) e sound.greatest

  nothing : at ≡ s.tmax → found s.height s.members step cures file read ≡ tmax s.members
  nothing n = sym found-is ∙ n ∙ sound.greatest

  -- a thickness was found
  module _ (t : ℕ) (is : t ≡ at + 1) (l : at < s.tmax) where
    less : found s.height s.members step cures file read < tmax s.members
    less = omega (arith, found-is, l, sound.greatest)

    from : 1 ≤ t
    from = omega (arith, is)

    to : t ≤ 32
    to = omega (arith, is, l, sound.greatest, tmax-le s.members)

    thick : t ≡ thickness_at s.members step cures file read
    thick = is ∙ ap (λ (i : ℕ). i + 1) found-is ∙ sym (thickness-is s.height s.members step cures file read)

    -- it may be the first layer's, or a later one's
    first-fits : read.layers ≡ 0 → Looked (Ok t) (lift_checks s.height s.members step cures file read) (thickness_at s.members step cures file read) read step
    first-fits z = (lift-first s.height s.members step cures file read less z, thick, from, to, stands-first step read stands t from to z)

    later-fits : (read.layers ≡ 0 → ⊥) → read.rise + 1 < s.height + read.first
        → Looked (Ok t) (lift_checks s.height s.members step cures file read) (thickness_at s.members step cures file read) read step
    later-fits n h = (lift-low s.height s.members step cures file read less n h, thick, from, to, stands-more step read stands t from to n s.height sound.high h)

pub returns-in_default : goal.returns-in_default
returns-in_default c =
    let a = c.args in
    ap (λ (n : Numbered). some n) c.at.ensures
    ∙ lift-none a.self.now.settings.height a.self.now.settings.members a.self.now.step a.self.now.cure.now a.file.now a.read (nothing a.self.now.settings a.self.now.sound a.self.now.step a.self.now.cure.now a.file.now a.read c.requires _ c.quad.ensures c.in_default.ensures)

pub returns-then-self-read : goal.returns-then-self-read
returns-then-self-read c =
    let a = c.args in
    ap (λ (n : Numbered). some n) c.at-then-self-read.ensures
    ∙ lift-high a.self.now.settings.height a.self.now.settings.members a.self.now.step a.self.now.cure.now a.file.now a.read
    (less a.self.now.settings a.self.now.sound a.self.now.step a.self.now.cure.now a.file.now a.read c.requires _ c.quad.ensures _ c.in-Some.ensures.0 c.in-Some.ensures.1) c.if-read-ne0.true c.if-self-read.true

pub returns : goal.returns
returns c =
    let a = c.args in
    elim c.else-read-ne0.branch [
      | else-read-ne0-via-then-read-ne0+else-self-read w ↦
          later-fits a.self.now.settings a.self.now.sound a.self.now.step a.self.now.cure.now a.file.now a.read c.requires _ c.quad.ensures _ c.in-Some.ensures.0 c.in-Some.ensures.1 w.if-read-ne0.true w.if-self-read.false
      | else-read-ne0-via-else-read-ne0 w ↦
          first-fits a.self.now.settings a.self.now.sound a.self.now.step a.self.now.cure.now a.file.now a.read c.requires _ c.quad.ensures _ c.in-Some.ensures.0 c.in-Some.ensures.1 w.if-read-ne0.false
    ]
