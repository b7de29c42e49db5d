-- 5: a column whose count is right is refused exactly where its boundaries are out of order. Assumes nothing.
use mathlib.Core.Path.{◌≡◌, refl, sym, ◌∙◌}
use mathlib.Core.Bool.{Bool, true, false}
use mathlib.Core.List.{List}
use mathlib.Core.Option.{Option, none, some}
use Prim.Native.Nat.{ℕ}
use native.Mathlib.Omega.{arith}
use lib.ListN.{length}
use Rattle.lists.specs.Checks.{first}
use Rattle.lists.proofs.Checks.{first-none}
use Rattle.std.specs.Prelude.{Result, Ok, Err, ⊤}
use Rattle.std.specs.Result.{is_err}
use Rattle.std.proofs.lemmas.Bool.{false≢true}
use Rattle.plate.specs.Refusal.{Numbered, numbered, said_by}
use Rattle.plate.specs.declared.refusal.Refusal.{Refusal}
use Rattle.column.specs.Order.{wrong_count, disordered, column_checks}

module _ (N : ℕ) (bs : List ℕ) where
  pub ordered-passed : none ≡ first (column_checks N bs) → disordered N bs ≡ false
  unfolding column_checks
  ordered-passed e = ((first-none (column_checks N bs)).0 (sym e)).1.0

  pub disordered-refused : (r : Numbered) → wrong_count (length bs) ≡ false → some r ≡ first (column_checks N bs) → disordered N bs ≡ true
  unfolding column_checks
  disordered-refused r right e = go (disordered N bs) refl
    where
      go : (b : Bool) → disordered N bs ≡ b → b ≡ true
      go true d = refl
      go false d = absurd (let z : ◌≡◌ {A = Option Numbered} (some r) none = e ∙ simp (right, d) in let y : ◌≡◌ {A = ℕ} 0 1 = cc in omega arith)

  -- by what `is_err` finds of the result of asking it
  pub is-refused : (x : Result ⊤ Refusal) → is_err x ≡ true → wrong_count (length bs) ≡ false → said_by x ≡ first (column_checks N bs) → disordered N bs ≡ true
  is-refused (Ok u) e right s = absurd (false≢true e)
  is-refused (Err r) e right s = disordered-refused (numbered r) right s

  pub is-passed : (x : Result ⊤ Refusal) → is_err x ≡ false → said_by x ≡ first (column_checks N bs) → disordered N bs ≡ false
  is-passed (Ok u) e s = ordered-passed s
  is-passed (Err r) e s = absurd (false≢true (sym e))
