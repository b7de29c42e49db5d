-- `least_of` meets its contract: a thickness that is a member is the least, since those before it are none. Assumes nothing.
use Rattle.std.proofs.Common.{ℕ, Bool, ◌≤◌, ◌≡◌, ◌+◌, ◌-◌, refl, sym, ap, ◌∙◌, arith}
use Rattle.paper.specs.Layer.{allowed, least_above, tmin}
use Rattle.paper.proofs.Thicknesses.{least-hit, least-miss}
use Rattle.plate.proofs.settings.least_of.Goals as goal

-- t, as the thickness after the one before it
member : (T t : ℕ) {b : Bool} → 1 ≤ t → allowed T t ≡ b → allowed T (t - 1 + 1) ≡ b
member T t l e = ap (allowed T) (let q : t - 1 + 1 ≡ t = omega arith in q) ∙ e

again : (T t : ℕ) → 1 ≤ t → least_above T (t - 1 + 1) (33 - t - 1) ≡ least_above T (t + 1 - 1) (33 - (t + 1))
again T t l =
    let p : t - 1 + 1 ≡ t + 1 - 1 = omega arith in
    let q : 33 - t - 1 ≡ 33 - (t + 1) = omega arith in
    ap (λ (k : ℕ). least_above T k (33 - t - 1)) p ∙ ap (least_above T (t + 1 - 1)) q

pub loop-t-init : goal.loop-t-init
unfolding tmin
loop-t-init c = refl

pub returns-then-is_allowed : goal.returns-then-is_allowed
returns-then-is_allowed c =
    let e = least-hit _ _ (33 - c.loop-t.t) (omega arith) (member c.args.members c.loop-t.t (omega arith) (sym c.is_allowed.ensures ∙ c.if-is_allowed.true)) in
    let k = c.loop-t.invariant in
    omega (arith, k, e)

pub loop-t-preserved : goal.loop-t-preserved
loop-t-preserved c =
    let e = least-miss _ _ (33 - c.loop-t.t) (omega arith) (member c.args.members c.loop-t.t (omega arith) (sym c.is_allowed.ensures ∙ c.if-is_allowed.false)) in
    c.loop-t.invariant ∙ e ∙ again _ _ (omega arith)

pub returns : goal.returns
unfolding least_above
returns c =
    let e : 33 - c.loop-t.t ≡ 0 = omega arith in
    sym (c.loop-t.invariant ∙ ap (least_above c.args.members (c.loop-t.t - 1)) e)
