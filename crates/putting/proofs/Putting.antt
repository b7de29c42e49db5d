-- A last layer put on count after count. One count is one turn (`put-less`, `put-keep`); what is read lies before what is written, so that
-- a turn leaves alone what the later ones read, and counts put on in two parts are put on (`put-more`). Assumes nothing.
use Prim.Native.Nat.{ℕ, ◌+◌, ◌≤◌, ◌<◌}
use mathlib.Core.Path.{◌≡◌, sym, ap, ◌∙◌}
use mathlib.Core.List.{List}
use native.Mathlib.Omega.{arith}
use borrow.Author.Tests.{lt-ltb, le-ltb}
use lib.ListN.{length, get_or, set}
use Rattle.lists.proofs.Spans.{span_none, span_set, span-keep, span-as, span_more}
use Rattle.putting.specs.Putting.{sum_or_none, sum_at, better_error, better_thickness, PutOn}

-- the better of two
pub error-less : (sum error : ℕ) → sum < error → better_error sum error ≡ sum
unfolding better_error
error-less sum error l = simp (lt-ltb sum error l)

pub error-keep : (sum error : ℕ) → error ≤ sum → better_error sum error ≡ error
unfolding better_error
error-keep sum error l = simp (le-ltb sum error l)

pub thickness-less : (sum error t thickness : ℕ) → sum < error → better_thickness sum error t thickness ≡ t
unfolding better_thickness
thickness-less sum error t thickness l = simp (lt-ltb sum error l)

pub thickness-keep : (sum error t thickness : ℕ) → error ≤ sum → better_thickness sum error t thickness ≡ thickness
unfolding better_thickness
thickness-keep sum error t thickness l = simp (le-ltb sum error l)

module _ {apart first cell t : ℕ} {E F : List ℕ} where
  -- counts after counts, the later ones from `next` on
  module _ {G H G' H' : List ℕ} {next : ℕ} (k j : ℕ) (is : next ≡ first + k) (r : PutOn apart first cell t k E F G H) (s : PutOn apart next cell t j G H G' H')
      (l : k + j ≤ apart) where
    sum_same : (m : ℕ) → m < j → sum_at G cell (next + m) ≡ sum_at E cell (first + (k + m))
    sum_same m h =
        let e : next + m ≡ first + (k + m) = omega arith in
        ap (λ (x : ℕ). sum_or_none x cell) (ap (λ (i : ℕ). get_or G i 0) e ∙ r.errors-are.below (first + (k + m)) (omega arith))

    error-same : (m : ℕ) → get_or G (apart + next + m) 0 ≡ get_or E (apart + first + (k + m)) 0
    error-same m =
        let e : apart + next + m ≡ apart + first + (k + m) = omega arith in
        ap (λ (i : ℕ). get_or G i 0) e ∙ r.errors-are.above (apart + first + (k + m)) (omega arith)

    pub put-more : PutOn apart first cell t (k + j) E F G' H'
    put-more = record {
      errors-are = span_more (apart + next) j (omega arith) r.errors-are (span-as s.errors-are _ (λ m h. rw (sum_same m h)));
      thicknesses-are = span_more next j is r.thicknesses-are (span-as s.thicknesses-are _ (λ m h. rw (sum_same m h, error-same m)));
    }

  -- a loop's end
  pub put_as : {k : ℕ} {G H : List ℕ} (n : ℕ) → PutOn apart first cell t k E F G H → k ≤ n → n ≤ k → PutOn apart first cell t n E F G H
  put_as {k} n r l u = let e : k ≡ n = omega arith in rw e at r

-- one count
module _ (apart first cell t : ℕ) (E F : List ℕ) (sum : ℕ) (is : sum ≡ sum_at E cell first) where
  sum_is : sum_at E cell (first + 0) ≡ sum
  sum_is = let e : first + 0 ≡ first = omega arith in ap (sum_at E cell) e ∙ sym is

  old-is : get_or E (apart + first + 0) 0 ≡ get_or E (apart + first) 0
  old-is = let e : apart + first + 0 ≡ apart + first = omega arith in ap (λ (i : ℕ). get_or E i 0) e

  pub put-less : sum < get_or E (apart + first) 0 → apart + first < length E → first < length F → PutOn apart first cell t 1 E F (set E (apart + first) sum) (set F first t)
  put-less l a b = record {
    errors-are = span_set (span_none (apart + first) _ E) (apart + first) sum (omega arith) a (rw sum_is (sym (error-less sum (get_or E (apart + first) 0) l)));
    thicknesses-are = span_set (span_none first _ F) first t (omega arith) b (rw (sum_is, old-is) (sym (thickness-less sum (get_or E (apart + first) 0) t _ l)));
  }

  pub put-keep : get_or E (apart + first) 0 ≤ sum → PutOn apart first cell t 1 E F E F
  put-keep l = record {
    errors-are = span-keep (span_none (apart + first) _ E) (rw (sum_is, old-is) (error-keep sum (get_or E (apart + first) 0) l));
    thicknesses-are = span-keep (span_none first _ F) (rw (sum_is, old-is) (thickness-keep sum (get_or E (apart + first) 0) t _ l));
  }
