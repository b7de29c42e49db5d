-- The sequence that is found is the one that document 01 names. Every admissible list of boundaries is the boundaries of one sequence
-- that is worked with, of the same error, count and order, and the other way round (`to-working`, `from-working`); so the chosen ones
-- are the same. All of it is for at least one layer, which an admissible sequence has. Assumes nothing.
use Prim.Native.Nat.{ℕ, zero, suc, ◌-◌, ◌≤◌}
use mathlib.Core.Path.{◌≡◌, refl, sym, ap, ap₂, ◌∙◌, subst}
use mathlib.Core.Logic.{◌↔◌}
use mathlib.Core.Option.{Option, none, some, map, map-eq-none_iff, map-eq-some_iff}
use mathlib.Core.List.{List, [], ◌∷◌}
use native.Mathlib.Omega.{arith}
use native.Mathlib.Decide.{ℕ_discrete}
use lib.ListN.{length}
use lib.Seq.{ext_get_or}
use lib.IntN.{ℤ, pos, nat_abs, ◌-ℤ◌}
use Rattle.paper.specs.Layer.{Plate, tmin}
use Rattle.paper.specs.Sequence.{◌!◌, count, thickness, Stack, Admissible, error_under, error, M, Chosen, None}
use Rattle.paper.specs.Sheets.{missing, Ending}
use Rattle.paper.proofs.Thicknesses.{tmin-least}
use Rattle.paper.proofs.Counts.{counts-most}
use Rattle.plate.specs.Datum.{datum, height_of}
use Rattle.plate.proofs.Datum.{lt-down, difference-height}
use Rattle.sequence.specs.Sequence as working
use Rattle.sequence.specs.Sequence.{up_from}
use Rattle.sequence.specs.Least.{chosen}
use Rattle.sequence.specs.Sheets.{mark}
use Rattle.sequence.proofs.Choice.{chosen_is, chosen_none, chosen-exact, chosen-exists, chosen-least-of, least-of}
use Rattle.sequence.proofs.Bounds.{rules-known, count_most}
use Rattle.meaning.specs.Working.{rules_of, heights_of, boundaries_of, found, found_error}
use Rattle.meaning.proofs.Sequence.{layers_under, length-under, ends-up, ends-down, Down, before-up, before-down}
use Rattle.meaning.proofs.Stacks.{at-datum}
use Rattle.meaning.proofs.Sheets.{place-top, length_up, layers-up, error-up, ending-up, built-at}

pub length-count : (n : ℕ) (zs : List ℤ) → 1 ≤ n → count zs ≡ n → length zs ≡ suc n
length-count n [] l e = absurd (omega arith)
length-count n (z ∷ zs) l e = ap suc e

pub count-length : (n : ℕ) (zs : List ℤ) → length zs ≡ suc n → count zs ≡ n
count-length n [] e = absurd (omega arith)
count-length n (z ∷ zs) e = omega arith

-- an admissible sequence as layers that end at zn
pub admissible-ending : (p : Plate) (bound : ℕ) (zs : List ℤ) → Admissible p bound zs → Ending p bound (count zs) (zs ! count zs) zs
admissible-ending p bound zs a = record {
  counts = length-count (count zs) zs a.layered refl;
  ends = refl;
  stack = a.stack;
}

module _ (p : Plate) (bound n : ℕ) (some-layer : 1 ≤ n) where
  -- a sequence of document 01 and one that is worked with
  pub record Same (zs : List ℤ) (s : working.Sequence) : Type 0 where
    pub down : Down n zs s
    pub back : boundaries_of s ≡ zs
    pub works : working.Admissible (rules_of p bound) s
    pub layers : working.count s ≡ n
    pub admissible : Admissible p bound zs
    pub counts : count zs ≡ n
    pub its : error p zs ≡ working.error (rules_of p bound) s

  pub from-working : (s : working.Sequence) → working.Admissible (rules_of p bound) s → working.count s ≡ n → Same (boundaries_of s) s
  from-working s a c =
      go (boundaries_of s) refl
      (subst (λ (k : ℕ). Ending p bound k (height_of s.top) (boundaries_of s)) c (ending-up p bound s.top s.layers a.built))
      (ap (layers_under (boundaries_of s)) (sym c) ∙ layers-up p bound s.top s.layers [] a.built)
      (ap (error_under p (boundaries_of s)) (sym c) ∙ error-up p bound s.top s.layers [] a.built)
    where
      go : (zs : List ℤ) → boundaries_of s ≡ zs → Ending p bound n (height_of s.top) zs → layers_under zs n ≡ s.layers
          → error_under p zs n ≡ working.error (rules_of p bound) s → Same zs s
      go zs b e l r =
          let k = count-length n zs e.counts in
          record {
            down = record { top = e.ends; layers = l };
            back = b;
            works = a;
            layers = c;
            admissible = record {
              layered = omega (arith, k, some-layer);
              stack = rw k e.stack;
              ends-from = rw (k, e.ends) (ends-up p bound s.top a.ends).0;
              ends-below = rw (k, e.ends) (ends-up p bound s.top a.ends).1;
            };
            counts = k;
            its = ap (error_under p zs) k ∙ r;
          }

  -- the boundaries are what the top and the thicknesses give
  places-back : (zs : List ℤ) → Stack p bound zs n → (k : ℕ) → k ≤ n → (h : ℕ) (above : List ℕ) → zs ! k ≡ height_of h
      → (j : ℕ) → j ≤ k → heights_of (up_from h (layers_under zs k) above) ! j ≡ zs ! j
  places-back zs a zero l h above e zero m = sym e
  places-back zs a zero l h above e (suc j) m = absurd (omega arith)
  places-back zs a (suc k) l h above e j m =
      go (datum (zs ! k)) (at-datum p bound zs n a k (omega arith)) (ℕ_discrete j (suc k))
      (λ g f u. places-back zs a k (omega arith) g (h ∷ above) f j u)
    where
      go : (g : ℕ) → zs ! k ≡ height_of g → Dec (j ≡ suc k)
          → ((g : ℕ) → zs ! k ≡ height_of g → j ≤ k → heights_of (up_from g (layers_under zs k) (h ∷ above)) ! j ≡ zs ! j)
          → heights_of (up_from h (layers_under zs (suc k)) above) ! j ≡ zs ! j
      go g f (yes d) ih =
          let y : j ≡ length (layers_under zs (suc k)) = d ∙ sym (length-under zs (suc k)) in
          ap (λ i. heights_of (up_from h (layers_under zs (suc k)) above) ! i) y
          ∙ place-top h (layers_under zs (suc k)) above
          ∙ sym e
          ∙ ap (λ i. zs ! i) (sym d)
      go g f (no d) ih =
          let l = lt-down g h (rw (f, e) at (a.layers k (omega arith)).rises) in
          let t : thickness zs k ≡ h - g = ap₂ (λ x y. nat_abs (x -ℤ y)) e f ∙ difference-height g h (omega arith) in
          let x : h - thickness zs k ≡ g = omega arith in
          ap (λ i. heights_of (up_from i (layers_under zs k) (h ∷ above)) ! j) x ∙ ih g f (omega arith)

  pub to-working : (zs : List ℤ) → Admissible p bound zs → count zs ≡ n → (s : working.Sequence) × Same zs s
  to-working zs a c = (
    record { top = h; layers = layers_under zs n },
    record {
      down = record { top = e; layers = refl };
      back =
          ext_get_or (pos 0) _ zs (omega (arith, b, en.counts))
          (λ i l. places-back zs en.stack n (omega arith) h [] e i (omega (arith, b)));
      works = record { ends = ends-down p bound h (rw (← e, ← c) a.ends-from) (rw (← e, ← c) a.ends-below); built = w.0 };
      layers = length-under zs n;
      admissible = a;
      counts = c;
      its = ap (error_under p zs) c ∙ sym w.1;
    },
  )
    where
      en : Ending p bound n (zs ! n) zs
      en = rw c at (admissible-ending p bound zs a)

      h : ℕ
      h = datum (zs ! n)

      e : zs ! n ≡ height_of h
      e = at-datum p bound zs n en.stack n (omega arith)

      w : working.Built (rules_of p bound) h (layers_under zs n) × (working.error_of (rules_of p bound) h (layers_under zs n) ≡ error_under p zs n)
      w = built-at p bound n zs en.stack h e

      b : length (heights_of (up_from h (layers_under zs n) [])) ≡ suc n
      b = length_up h (layers_under zs n) [] ∙ omega (arith, length-under zs n)

  -- the chosen one is the chosen one
  chosen-up : (zs : List ℤ) (s : working.Sequence) → Same zs s → working.Chosen (rules_of p bound) n s → Chosen p bound n zs
  chosen-up zs s m c = record {
    admissible = m.admissible;
    counts = m.counts;
    least = λ ys a l. let w = to-working ys a l in omega (arith, m.its, w.1.its, c.least w.0 w.1.works w.1.layers);
    first = λ ys a l q.
        let w = to-working ys a l in
        before-up n zs ys s w.0 m.down w.1.down (c.first w.0 w.1.works w.1.layers (sym w.1.its ∙ q ∙ m.its));
  }

  chosen-down : (zs : List ℤ) (s : working.Sequence) → Same zs s → Chosen p bound n zs → working.Chosen (rules_of p bound) n s
  chosen-down zs s m c = record {
    admissible = m.works;
    counts = m.layers;
    least = λ r a l. let w = from-working r a l in omega (arith, m.its, w.its, c.least _ w.admissible w.counts);
    first = λ r a l q.
        let w = from-working r a l in
        before-down n zs _ s r m.down w.down (c.first _ w.admissible w.counts (w.its ∙ q ∙ sym m.its));
  }

  chosen-same : (s : working.Sequence) → chosen (rules_of p bound) n ≡ some s → Same (boundaries_of s) s × Chosen p bound n (boundaries_of s)
  chosen-same s q =
      let c = chosen_is (rules_of p bound) n s q in
      let w = from-working s c.admissible c.counts in
      (w, chosen-up (boundaries_of s) s w c)

  -- 'Among sequences of equal least error and count: the smallest zn; then the thinnest last layer, then the thinnest before it, and so
  -- on down': what is found is exactly that one
  pub found-exact : (zs : List ℤ) → Chosen p bound n zs ↔ (found p bound n ≡ some zs)
  found-exact zs = (to, from)
    where
      to : Chosen p bound n zs → found p bound n ≡ some zs
      to c =
          let w = to-working zs c.admissible c.counts in
          ap (map boundaries_of) ((chosen-exact (rules_of p bound) n w.0).0 (chosen-down zs w.0 w.1 c)) ∙ ap some w.1.back

      from : found p bound n ≡ some zs → Chosen p bound n zs
      from q =
          let m = (map-eq-some_iff boundaries_of (chosen (rules_of p bound) n)).0 q in
          subst (λ (ys : List ℤ). Chosen p bound n ys) m.2 (chosen-same m.0 m.1).1

  -- there is at most one
  pub chosen-only : (xs ys : List ℤ) → Chosen p bound n xs → Chosen p bound n ys → xs ≡ ys
  chosen-only xs ys a b = let e = (found-exact xs).0 a in let f = (found-exact ys).0 b in cc

  -- there is one wherever an admissible sequence has n layers
  pub found_some : (zs : List ℤ) → Admissible p bound zs → count zs ≡ n → (ys : List ℤ) × Chosen p bound n ys
  found_some zs a c =
      let w = to-working zs a c in
      let x = chosen-exists (rules_of p bound) n w.0 w.1.works w.1.layers in
      (boundaries_of x.0, (chosen-same x.0 x.1).1)

  -- 'no admissible sequence of that count': then none is found, and only then
  pub found_none : (found p bound n ≡ none) ↔ None p bound n
  found_none = (to, from)
    where
      to : found p bound n ≡ none → None p bound n
      to q zs a c =
          let w = to-working zs a c in
          chosen_none (rules_of p bound) n ((map-eq-none_iff boundaries_of (chosen (rules_of p bound) n)).0 q) w.0 w.1.works w.1.layers

      go : (o : Option working.Sequence) → chosen (rules_of p bound) n ≡ o → None p bound n → found p bound n ≡ none
      go none t f = ap (map boundaries_of) t
      go (some s) t f = let w = (chosen-same s t).0 in absurd (f (boundaries_of s) w.admissible w.counts)

      from : None p bound n → found p bound n ≡ none
      from f = go (chosen (rules_of p bound) n) refl f

  -- 'A sequence's error is the sum over its layers': the least error of n layers is that of the sequence found
  pub chosen-error : (zs : List ℤ) → found p bound n ≡ some zs → found_error p bound n ≡ some (error p zs)
  chosen-error zs q =
      let m = (map-eq-some_iff boundaries_of (chosen (rules_of p bound) n)).0 q in
      let w = (chosen-same m.0 m.1).0 in
      chosen-least-of (rules_of p bound) n m.0 m.1 ∙ ap some (sym w.its ∙ ap (error p) m.2)

  pub none-error : found p bound n ≡ none → found_error p bound n ≡ none
  none-error q = go (found_error p bound n) refl
    where
      go : (o : Option ℕ) → found_error p bound n ≡ o → found_error p bound n ≡ none
      go none t = t
      go (some e) t =
          let s = (least-of (rules_of p bound) n e t).1 in
          let none-chosen = (map-eq-none_iff boundaries_of (chosen (rules_of p bound) n)).0 q in
          absurd (let z : ◌≡◌ {A = ℕ} 0 1 = cc in omega arith)

  -- 'A list of M 64-bit errors for counts 1 to M follows, 2^64-1 where there is none': what it holds at n
  pub listed : (zs : List ℤ) → Chosen p bound n zs → mark (found_error p bound n) ≡ error p zs
  listed zs c = ap mark (chosen-error zs ((found-exact zs).0 c))

  pub listed-none : None p bound n → mark (found_error p bound n) ≡ missing
  listed-none f = ap mark (none-error (found_none.1 f))

-- 'The greatest count asked for, M': no admissible sequence has more layers
pub count-in-range : (p : Plate) (bound : ℕ) (zs : List ℤ) → Admissible p bound zs → count zs ≤ M p.N p.T
count-in-range p bound zs a =
    let w = to-working p bound (count zs) a.layered zs a refl in
    let b = tmin-least p.T (thickness zs 0) (a.stack.layers 0 a.layered).member in
    rw (← w.1.layers) (counts-most p.N p.T (working.count w.0) b.0 (count_most (rules_of p bound) (tmin p.T) (rules-known p.N p.T bound _) w.0 w.1.works))
