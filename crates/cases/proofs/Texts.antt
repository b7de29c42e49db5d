-- Numbers that are put on a page one by one, and a byte's two digits. Assumes nothing.
use Rattle.std.proofs.Common.{◌≡◌, refl, sym, ap, ◌∙◌, Bool, true, false, List, ℕ, ◌+◌, ◌-◌, ◌≤◌, ◌<◌, length, get_or, drop, add-one, drop-cons, arith}
use native.Mathlib.Nat.{pow-le-pow_right}
use borrow.Author.Tests.{ltb-true, ltb-false}
use lib.Dec.{ltb}
use lib.ListN.{drop_of_length-le}
use Rattle.io.specs.Digits.{last_digits, IsDigitCount}
use Rattle.text.specs.declared.Page.{Page}
use Rattle.text.specs.Sink.{put}
use Rattle.text.specs.Page.{lay}
use Rattle.text.proofs.Pages.{lay-append}
use Rattle.cases.specs.Shown.{byte_text, each_text}

module _ (show : ℕ → List ℕ) (xs : List ℕ) (i : ℕ) (k : Page) where
  -- the next one, and those after it
  pub each-next : i < length xs → lay (each_text show (drop (i + 1) xs)) (lay (show (get_or xs i 0)) k) ≡ lay (each_text show (drop i xs)) k
  unfolding each_text
  each-next l =
      sym (lay-append (show (get_or xs i 0)) (each_text show (drop (i + 1) xs)) k)
      ∙ ap (λ (t : List ℕ). lay t k) (rw (add-one i) (sym (ap (each_text show) (drop-cons xs i 0 l))))

  pub each-end : length xs ≤ i → k ≡ lay (each_text show (drop i xs)) k
  unfolding each_text put
  each-end l = rw (drop_of_length-le xs l)

-- a byte has no more than two digits
two : (k n : ℕ) → n < 256 → IsDigitCount 16 2 n k → k ≡ 2
two k n l w = go (ltb 2 k) refl
  where
    go : (b : Bool) → ltb 2 k ≡ b → k ≡ 2
    go false e = omega (arith, ltb-false 2 k e, w.0)
    go true e =
        let m = ltb-true 2 k e in
        let p = w.2 m in
        let q = pow-le-pow_right {n = 16} (omega arith) {i = 2} {j = k - 1} (omega arith) in
        absurd (omega (arith, p, q))

pub two-digits : (k n x : ℕ) → n ≡ x → x < 256 → IsDigitCount 16 2 n k → last_digits 16 k n ≡ byte_text x
unfolding byte_text
two-digits k n x e l w = ap (λ (d : ℕ). last_digits 16 d n) (two k n (omega arith) w) ∙ ap (last_digits 16 2) e
