-- Its tests are the checks, in their order. Assumes nothing.
use Rattle.std.proofs.Common.{◌≡◌, ℕ, true, false, refl, Bool, cond, ltb, length, arith}
use borrow.Author.Tests.{lt-ltb, le-ltb}
use Rattle.std.specs.Prelude.{Some, None}
use Rattle.save.specs.Runs.{total, file_size}
use Rattle.save.specs.Writing.{found_below, run_checks}
use Rattle.save.proofs.check_run.Goals as goal

-- where the search found one, and where it found none
hit : (k first n : ℕ) → Some k ≡ found_below first n → (first ≡ k) × (ltb k n ≡ true)
hit k first n e = go (ltb first n) refl e
  where
    go : (b : Bool) → ltb first n ≡ b → Some k ≡ cond b (Some first) None → (first ≡ k) × (ltb k n ≡ true)
    go true q e = let p : first ≡ k = cc in (p, rw (← p) q)
    go false q e = cc

miss : (first n : ℕ) → None ≡ found_below first n → ltb first n ≡ false
miss first n e = go (ltb first n) refl e
  where
    go : (b : Bool) → ltb first n ≡ b → None ≡ cond b (Some first) None → ltb first n ≡ false
    go true q e = cc
    go false q e = q

pub returns-then-run-together : goal.returns-then-run-together
unfolding run_checks
returns-then-run-together c =
    let a = c.args in
    rw c.refusal_at.ensures (simp (lt-ltb (length a.run.now) (total a.counts.now) (omega (arith, c.requires.together_value.0))))

pub returns-in-Some : goal.returns-in-Some
unfolding run_checks
returns-in-Some c =
    let a = c.args in
    let h = hit _ _ _ c.in-Some.ensures in
    rw c.refusal_at-in-Some.ensures (simp (le-ltb (length a.run.now) (total a.counts.now) (omega (arith, c.requires.together_value.0)), h.0, h.1))

pub returns-then-room-size : goal.returns-then-room-size
unfolding run_checks
returns-then-room-size c =
    let a = c.args in
    let t = c.requires.together_value in
    rw c.refusal_at-then-room-size.ensures
    (simp (le-ltb (length a.run.now) (total a.counts.now) (omega (arith, t.0)), miss _ _ c.in_default.ensures, lt-ltb a.room (file_size a.counts.now) (omega (arith, t.1))))

pub returns : goal.returns
unfolding run_checks
returns c =
    let a = c.args in
    let t = c.requires.together_value in
    simp (le-ltb (length a.run.now) (total a.counts.now) (omega (arith, t.0)), miss _ _ c.in_default.ensures, le-ltb a.room (file_size a.counts.now) (omega (arith, t.1)))
