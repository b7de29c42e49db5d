-- `is_large` meets its contract: settings in order are made, with the sizes that document 01 gives. Assumes nothing.
use Rattle.std.proofs.Common.{ℕ, ◌<◌, ◌≤◌, subst, ap, refl}
use borrow.Author.Tests.{lt-ltb, le-ltb}
use Rattle.plate.specs.declared.settings.Settings.{Settings}
use Rattle.load.specs.Load.{is_large}
use Rattle.load.proofs.is_large.Goals as goal

pub returns-then-most-s : goal.returns-then-most-s
unfolding is_large
returns-then-most-s c =
    let f = ap (λ (s : Settings). s.cells) (c.in-Ok.ensures.good _ refl).0 in
    let large = subst (λ (n : ℕ). c.args.most < n) f c.if-most-s.true in
    simp (lt-ltb _ _ c.if-most-s.true, lt-ltb _ _ large)

pub returns-else-most-s : goal.returns-else-most-s
unfolding is_large
returns-else-most-s c =
    let e = (c.in-Ok.ensures.good _ refl).0 in
    rw (ap (λ (s : Settings). s.entries) e) (simp (le-ltb _ _ (subst (λ (n : ℕ). n ≤ c.args.most) (ap (λ (s : Settings). s.cells) e) c.if-most-s.false)))
