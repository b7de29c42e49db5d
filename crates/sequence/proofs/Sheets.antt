-- Reading back from the sheets that a plan leaves gives the chosen sequence, and never a fault: the entries at the end heights are the
-- leasts there, so the walk starts at the chosen top, and each thickness that it looks up is that of the chosen last layer. Assumes nothing.
use Prim.Native.Nat.{ℕ, zero, suc, ◌+◌, ◌-◌, ◌≤◌, ◌<◌}
use mathlib.Core.Path.{◌≡◌, refl, ◌∙◌, ap}
use mathlib.Core.Bool.{true, not}
use mathlib.Core.Option.{none, some}
use mathlib.Core.List.{List, ◌∷◌, ◌++◌, map}
use native.Mathlib.Omega.{arith}
use borrow.Author.Tests.{lt-ltb}
use lib.Dec.{leb, ltb, eqb}
use lib.IntN.{ℤ}
use lib.ListN.{get_or}
use Rattle.lists.specs.Grid.{flat}
use Rattle.lists.proofs.Grid.{flat-at}
use lib.Arith.{digits_lt}
use Rattle.paper.specs.Layer.{tmax}
use Rattle.paper.specs.Sequence.{M}
use Rattle.paper.specs.Sheets.{heights, entries, entry_index}
use Rattle.paper.proofs.Thicknesses.{and-true}
use Rattle.plate.specs.Datum.{height_of, row_of, at_row}
use Rattle.sequence.specs.Sequence.{Rules, lowest_end, up_from}
use Rattle.sequence.specs.Least.{least, last, walk}
use Rattle.sequence.specs.Rules.{rules, shape}
use Rattle.sequence.specs.Sheets.{entry, reads_back, fault_under, boundaries_under}
use Rattle.sequence.proofs.Layers.{or_right, shape-allowed, shape-above, shape-below, shape-from}
use Rattle.sequence.proofs.Least.{walk_is, least_step, some-starts}
use Rattle.sequence.proofs.Bounds.{built-low}

-- the place of a height and a count in a sheet
pub entry_in : (N T m h : ℕ) → 1 ≤ N → m ≤ M N T → 32 < h + tmax T → h < lowest_end N + tmax T → entry_index (M N T) (row_of (tmax T) h) m < entries N T
unfolding entries heights
entry_in N T m h n l u v = digits_lt (omega arith) (omega arith)

-- a sheet that holds the entries f has f m h at the height h and the count m
pub entry-is : (N T : ℕ) (sheet : List ℕ) (f : ℕ → ℕ → ℕ) → 1 ≤ N
    → ((i : ℕ) → i < entries N T → get_or sheet i 0 ≡ flat (M N T + 1) (λ row m. f m (at_row (tmax T) row)) i)
    → (m h : ℕ) → m ≤ M N T → 32 < h + tmax T → h < lowest_end N + tmax T → entry N T sheet m h ≡ f m h
unfolding entry
entry-is N T sheet f n holds m h l u v =
    let e : at_row (tmax T) (row_of (tmax T) h) ≡ h = omega arith in
    holds (entry_index (M N T) (row_of (tmax T) h) m) (entry_in N T m h n l u v)
    ∙ flat-at (M N T + 1) (λ row k. f k (at_row (tmax T) row)) (row_of (tmax T) h) m (omega arith)
    ∙ ap (f m) e

-- whatever layer of however many it is, one that has the shape of a layer reads back
module _ (N T n k h t : ℕ) where
  shape-reads : t ≤ h → shape N T (h - t) t ≡ true → reads_back N T n k h t ≡ true
  unfolding reads_back
  shape-reads l e =
      simp
      (shape-allowed N T (h - t) t e, lt-ltb 32 (h - t + tmax T) (shape-from N T (h - t) t e), or_right (not (eqb k n)) (ltb (h - t) (lowest_end N)) (lt-ltb (h - t) (lowest_end N) (shape-below N T (h - t) t e)), or_right (not (eqb k 1)) (ltb 32 h) (lt-ltb 32 h (omega (arith, shape-above N T (h - t) t e))))

module _ (N T bound : ℕ) (cell : ℕ → ℕ → ℕ) where
  abbrev p : Rules
  p = rules N T bound cell

  module _ (look : ℕ → ℕ → ℕ) (looks : (m h : ℕ) → m ≤ M N T → 32 < h + tmax T → h < lowest_end N + tmax T → look m h ≡ last p m h) where
    -- one step down: the layer that is looked up is the chosen last one, and reads back
    pub record Down (m h e : ℕ) : Type 0 where
      pub is : look (suc m) h ≡ last p (suc m) h
      pub within : last p (suc m) h ≤ h
      pub reads : shape N T (h - last p (suc m) h) (last p (suc m) h) ≡ true
      pub rest : ℕ
      pub below : least p m (h - last p (suc m) h) ≡ some rest
      pub low : h - last p (suc m) h < lowest_end N + tmax T

    down : (m h e : ℕ) → suc m ≤ M N T → h < lowest_end N + tmax T → least p (suc m) h ≡ some e → Down m h e
    down m h e l u q =
        let s = least_step p m h e q in
        let k = last p (suc m) h in
        let w = walk_is p m (h - k) s.rest s.below in
        let b = built-low p (h - k) (walk p m (h - k)) w.built in
        record {
          is = looks (suc m) h l (omega arith) u;
          within = s.layer.above;
          reads = (and-true (shape N T (h - k) k) (leb (cell (h - k) k) bound) s.layer.allowed).0;
          rest = s.rest;
          below = s.below;
          low = omega arith;
        }

    -- never a fault
    pub no-fault : (n m h e : ℕ) → m ≤ M N T → h < lowest_end N + tmax T → least p m h ≡ some e → fault_under look N T n m h ≡ none
    unfolding fault_under
    no-fault n zero h e l u q = simp (some-starts p h e q).0
    no-fault n (suc m) h e l u q =
        let d = down m h e l u q in
        let r = shape-reads N T n (suc m) h (last p (suc m) h) d.within d.reads in
        rw (d.is, r) (no-fault n m (h - last p (suc m) h) d.rest (omega arith) d.low d.below)

    -- and the boundaries of the chosen sequence
    pub walked : (m h e : ℕ) (above : List ℕ) → m ≤ M N T → h < lowest_end N + tmax T → least p m h ≡ some e → (rest : List ℤ)
        → boundaries_under look m h (map height_of above ++ rest) ≡ map height_of (up_from h (walk p m h) above) ++ rest
    unfolding boundaries_under walk
    walked zero h e above l u q rest = refl
    walked (suc m) h e above l u q rest =
        let d = down m h e l u q in
        rw d.is (walked m (h - last p (suc m) h) d.rest (h ∷ above) (omega arith) d.low d.below rest)
