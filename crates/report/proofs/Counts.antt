-- The lines of the counts, one by one. Assumes nothing.
use mathlib.Core.Path.{◌≡◌, sym, ap, ◌∙◌}
use mathlib.Core.List.{List, ◌++◌}
use Prim.Native.Nat.{ℕ, suc, ◌+◌, ◌-◌, ◌≤◌, ◌<◌}
use native.Mathlib.Omega.{arith}
use Rattle.text.specs.declared.Page.{Page}
use Rattle.text.specs.Sink.{put}
use Rattle.text.specs.Page.{lay}
use Rattle.text.proofs.Pages.{lay-append}
use Rattle.report.specs.Lines.{count_lines}

module _ (line : ℕ → List ℕ) (n counts : ℕ) (k : Page) where
  -- the next one, and those after it
  pub count_next : n < counts → lay (count_lines line (n + 1) (counts - (n + 1))) (lay (line (n + 1)) k) ≡ lay (count_lines line n (counts - n)) k
  unfolding count_lines
  count_next l =
      let e : counts - n ≡ suc (counts - (n + 1)) = omega arith in
      let f : n + 1 ≡ suc n = omega arith in
      sym (lay-append (line (n + 1)) (count_lines line (n + 1) (counts - (n + 1))) k)
      ∙ ap (λ (t : List ℕ). lay t k) (ap (λ (m : ℕ). line m ++ count_lines line m (counts - (n + 1))) f ∙ ap (count_lines line n) (sym e))

  pub count-end : counts ≤ n → k ≡ lay (count_lines line n (counts - n)) k
  unfolding count_lines put
  count-end l = let e : counts - n ≡ 0 = omega arith in rw e
