-- The sheets: what stands at a height and a count is what document 01 says. Layers built from the top down are m layers that end at
-- that height, with the same thicknesses and the same error (`ending-up`), and back (`built-at`), by induction on the count. So the
-- least error and the walk down, which are the least and the first of what can be built, are those of document 01. Assumes nothing.
use Prim.Native.Nat.{ℕ, zero, suc, ◌+◌, ◌-◌, ◌≤◌, ◌<◌}
use mathlib.Core.Path.{◌≡◌, refl, sym, ap, ap₂, ◌∙◌, subst}
use mathlib.Core.Bool.{true}
use mathlib.Core.Option.{Option, none, some}
use mathlib.Core.List.{List, [], ◌∷◌}
use native.Mathlib.Omega.{arith}
use lib.ListN.{length, get_or, length-map}
use lib.IntN.{ℤ, nat_abs, ◌-ℤ◌}
use Rattle.paper.specs.Layer.{Plate, tmax}
use Rattle.paper.specs.Sequence.{◌!◌, thickness, Stack, error_under, Thinner}
use Rattle.paper.specs.Sheets.{missing, Ending, ChosenAt, last_of, Entries}
use Rattle.paper.proofs.Thicknesses.{allowed-tmax}
use Rattle.plate.specs.Datum.{datum, height_of}
use Rattle.plate.proofs.Datum.{difference-height, height-only}
use Rattle.sequence.specs.Sequence as working
use Rattle.sequence.specs.Sequence.{up_from}
use Rattle.sequence.specs.Least.{least, last, walk}
use Rattle.sequence.specs.Sheets.{mark}
use Rattle.sequence.proofs.Order.{first-antisym}
use Rattle.sequence.proofs.Least.{AtMost, at-most-some, Walked, walk_is, least-le, last-zero, last_none, walk_first}
use Rattle.meaning.specs.Working.{rules_of, heights_of}
use Rattle.meaning.proofs.Sequence.{Steps, step-at, PermittedBetween, layers_under, length-under, thinner-first, first-thinner}
use Rattle.meaning.proofs.Stacks.{stack-up, at-datum, start-at, rising-datum, thickness-datum, permitted-at}

-- ---- the places of boundaries that were listed from the top down

place_up : (h : ℕ) (ts above : List ℕ) (j : ℕ) → heights_of (up_from h ts above) ! (length ts + j) ≡ heights_of (h ∷ above) ! j
place_up h [] above j = let e : 0 + j ≡ j = omega arith in ap (λ i. heights_of (h ∷ above) ! i) e
place_up h (t ∷ ts) above j =
    let e : suc (length ts) + j ≡ length ts + suc j = omega arith in
    ap (λ i. heights_of (up_from (h - t) ts (h ∷ above)) ! i) e ∙ place_up (h - t) ts (h ∷ above) (suc j)

place_of : (hs : List ℕ) (k : ℕ) → k < length hs → heights_of hs ! k ≡ height_of (get_or hs k 0)
place_of [] k l = absurd (omega arith)
place_of (h ∷ hs) zero l = refl
place_of (h ∷ hs) (suc k) l = place_of hs k (omega arith)

pub place-top : (h : ℕ) (ts above : List ℕ) → heights_of (up_from h ts above) ! length ts ≡ height_of h
place-top h ts above =
    let e : length ts ≡ length ts + 0 = omega arith in
    ap (λ i. heights_of (up_from h ts above) ! i) e ∙ place_up h ts above 0

pub length_up : (h : ℕ) (ts above : List ℕ) → length (heights_of (up_from h ts above)) ≡ suc (length ts + length above)
length_up h [] above = ap suc (length-map above height_of) ∙ omega arith
length_up h (t ∷ ts) above = let e = length_up (h - t) ts (h ∷ above) in omega arith

module _ (p : Plate) (bound : ℕ) where
  -- ---- from the top down to the boundaries

  abbrev Standing : List ℕ → Type 0
  Standing [] = ⊥
  Standing (a ∷ bs) = (working.starts (tmax p.T) a ≡ true) × Steps (PermittedBetween p bound) a bs

  standing : (h : ℕ) (ts above : List ℕ) → working.Built (rules_of p bound) h ts → Steps (PermittedBetween p bound) h above → Standing (up_from h ts above)
  standing h [] above b s = (b, s)
  standing h (t ∷ ts) above b s =
      let y = b.0.above in
      let e : h - (h - t) ≡ t = omega arith in
      standing (h - t) ts (h ∷ above) b.1 (rw e b.0.allowed, s)

  last_up : (h t : ℕ) (ts above : List ℕ) → t ≤ h → thickness (heights_of (up_from h (t ∷ ts) above)) (length ts) ≡ t
  last_up h t ts above l =
      let e : h - (h - t) ≡ t = omega arith in
      ap₂ (λ x y. nat_abs (x -ℤ y)) (place-top h (t ∷ ts) above) (place-top (h - t) ts (h ∷ above)) ∙ difference-height (h - t) h (omega arith) ∙ e

  pub layers-up : (h : ℕ) (ts above : List ℕ) → working.Built (rules_of p bound) h ts → layers_under (heights_of (up_from h ts above)) (length ts) ≡ ts
  layers-up h [] above b = refl
  layers-up h (t ∷ ts) above b = ap₂ ◌∷◌ (last_up h t ts above b.0.above) (layers-up (h - t) ts (h ∷ above) b.1)

  pub error-up : (h : ℕ) (ts above : List ℕ) → working.Built (rules_of p bound) h ts
      → error_under p (heights_of (up_from h ts above)) (length ts) ≡ working.error_of (rules_of p bound) h ts
  error-up h [] above b = refl
  error-up h (t ∷ ts) above b =
      ap₂ ◌+◌ (error-up (h - t) ts (h ∷ above) b.1)
      (ap₂ p.layer_error (place-top (h - t) ts (h ∷ above)) (last_up h t ts above b.0.above))

  ending_of : (hs : List ℕ) (m : ℕ) (z : ℤ) → Standing hs → length hs ≡ suc m → heights_of hs ! m ≡ z → Ending p bound m z (heights_of hs)
  ending_of [] m z s l e = absurd s
  ending_of (a ∷ bs) m z s l e = record {
    counts = length-map (a ∷ bs) height_of ∙ l;
    ends = e;
    stack =
        stack-up p bound (heights_of (a ∷ bs)) m (λ k. get_or (a ∷ bs) k 0) (λ k u. place_of (a ∷ bs) k (omega arith))
        (λ k u. step-at (PermittedBetween p bound) a bs s.1 k (omega arith)) s.0;
  }

  pub ending-up : (h : ℕ) (ts : List ℕ) → working.Built (rules_of p bound) h ts → Ending p bound (length ts) (height_of h) (heights_of (up_from h ts []))
  ending-up h ts b =
      ending_of (up_from h ts []) (length ts) (height_of h) (standing h ts [] b tt) (let e = length_up h ts [] in omega (arith, length-map (up_from h ts []) height_of))
      (place-top h ts [])

  -- ---- from the boundaries down to the layers

  module _ (m : ℕ) (zs : List ℤ) (a : Stack p bound zs m) where
    built-datum : (k : ℕ) → k ≤ m
        → working.Built (rules_of p bound) (datum (zs ! k)) (layers_under zs k) × (working.error_of (rules_of p bound) (datum (zs ! k)) (layers_under zs k) ≡ error_under p zs k)
    built-datum zero l = (start-at p bound zs m a, refl)
    built-datum (suc k) l = go (built-datum k (omega arith))
      where
        go : working.Built (rules_of p bound) (datum (zs ! k)) (layers_under zs k) × (working.error_of (rules_of p bound) (datum (zs ! k)) (layers_under zs k) ≡ error_under p zs k)
            → working.Built (rules_of p bound) (datum (zs ! suc k)) (layers_under zs (suc k))
            × (working.error_of (rules_of p bound) (datum (zs ! suc k)) (layers_under zs (suc k)) ≡ error_under p zs (suc k))
        go i =
            let r = rising-datum p bound zs m a k (omega arith) in
            let t = thickness-datum p bound zs m a k (omega arith) in
            let n = allowed-tmax p.T (thickness zs k) (a.layers k (omega arith)).member in
            let w = permitted-at p bound zs m a k (omega arith) in
            let b : datum (zs ! suc k) - thickness zs k ≡ datum (zs ! k) = omega arith in (
              rw b (record { thick = omega arith; thin = n; above = omega arith; allowed = rw (b, t) w }, i.0),
              rw b (ap₂ ◌+◌ i.1 (ap (λ (z : ℤ). p.layer_error z (thickness zs k)) (sym (at-datum p bound zs m a k (omega arith))))),
            )

    pub built-at : (h : ℕ) → zs ! m ≡ height_of h
        → working.Built (rules_of p bound) h (layers_under zs m) × (working.error_of (rules_of p bound) h (layers_under zs m) ≡ error_under p zs m)
    built-at h e = rw (height-only h (datum (zs ! m)) (sym e ∙ at-datum p bound zs m a m (omega arith))) (built-datum m (omega arith))

  -- ---- one height and one count
  module _ (m h : ℕ) where
    -- the layers of a sequence that ends there, and the least error there
    record Below (zs : List ℤ) : Type 0 where
      built : working.Built (rules_of p bound) h (layers_under zs m)
      its : working.error_of (rules_of p bound) h (layers_under zs m) ≡ error_under p zs m
      smallest : ℕ
      is : least (rules_of p bound) m h ≡ some smallest
      no_less : smallest ≤ error_under p zs m

    below : (zs : List ℤ) → Ending p bound m (height_of h) zs → Below zs
    below zs a =
        let b = built-at m zs a.stack h a.ends in
        let x = at-most-some _ _
        (subst (λ (k : ℕ). AtMost (least (rules_of p bound) k h) (working.error_of (rules_of p bound) h (layers_under zs m))) (length-under zs m)
        (least-le (rules_of p bound) h (layers_under zs m) b.0)) in
        record { built = b.0; its = b.1; smallest = x.0; is = x.1; no_less = omega (arith, x.2, b.1) }

    -- the sequence that the sheets lead to
    abbrev walked : List ℤ
    walked = heights_of (up_from h (walk (rules_of p bound) m h) [])

    record Leads (e : ℕ) : Type 0 where
      chosen : ChosenAt p bound m (height_of h) walked
      its : error_under p walked m ≡ e
      layers : layers_under walked m ≡ walk (rules_of p bound) m h

    leads : (e : ℕ) → least (rules_of p bound) m h ≡ some e → Leads e
    leads e q = record { chosen = record { ending = en; least = no_less; first = is-first }; its = er; layers = la }
      where
        w : Walked (rules_of p bound) m h e
        w = walk_is (rules_of p bound) m h e q

        en : Ending p bound m (height_of h) walked
        en = subst (λ (k : ℕ). Ending p bound k (height_of h) walked) w.counts (ending-up h (walk (rules_of p bound) m h) w.built)

        er : error_under p walked m ≡ e
        er = ap (error_under p walked) (sym w.counts) ∙ error-up h (walk (rules_of p bound) m h) [] w.built ∙ w.errs

        la : layers_under walked m ≡ walk (rules_of p bound) m h
        la = ap (layers_under walked) (sym w.counts) ∙ layers-up h (walk (rules_of p bound) m h) [] w.built

        no_less : (ys : List ℤ) → Ending p bound m (height_of h) ys → error_under p walked m ≤ error_under p ys m
        no_less ys a =
            let b = below ys a in
            let s : b.smallest ≡ e = (let v = sym b.is ∙ q in cc) in
            omega (arith, s, er, b.no_less)

        is-first : (ys : List ℤ) → Ending p bound m (height_of h) ys → error_under p ys m ≡ error_under p walked m → Thinner walked ys m
        is-first ys a s =
            let b = below ys a in
            let n = length-under ys m in
            let r : least (rules_of p bound) (length (layers_under ys m)) h ≡ some (working.error_of (rules_of p bound) h (layers_under ys m)) =
            ap (λ k. least (rules_of p bound) k h) n ∙ q ∙ ap some (sym (b.its ∙ s ∙ er)) in
            let f = walk_first (rules_of p bound) h (layers_under ys m) b.built r in
            first-thinner walked ys m (rw la (subst (λ (k : ℕ). working.First (walk (rules_of p bound) k h) (layers_under ys m)) n f))

    -- where there is one of m layers that ends there, there is a chosen one
    pub chosen_at : (zs : List ℤ) → Ending p bound m (height_of h) zs → (ys : List ℤ) × ChosenAt p bound m (height_of h) ys
    chosen_at zs a = let b = below zs a in (walked, (leads b.smallest b.is).chosen)

    last-is : (k : ℕ) (zs : List ℤ) → layers_under zs k ≡ walk (rules_of p bound) k h → last (rules_of p bound) k h ≡ last_of zs k
    unfolding walk last
    last-is zero zs e = last-zero (rules_of p bound) h
    last-is (suc k) zs e = cc

    -- 'A plan fills, for each height and each count, the least error of that many layers ending there, started as above and within the
    -- bound, and the last thickness of the chosen one. Where none exists the error is 2^64-1 and the thickness 0.'
    pub entries : Entries p bound m (height_of h) (mark (least (rules_of p bound) m h)) (last (rules_of p bound) m h)
    entries = record { chosen = one; none = no_one }
      where
        one : (zs : List ℤ) → ChosenAt p bound m (height_of h) zs
            → (mark (least (rules_of p bound) m h) ≡ error_under p zs m) × (last (rules_of p bound) m h ≡ last_of zs m)
        one zs c =
            let b = below zs c.ending in
            let l = leads b.smallest b.is in
            let s : b.smallest ≡ error_under p zs m = omega (arith, b.no_less, c.least walked l.chosen.ending, l.its) in
            let f = thinner-first walked zs m (l.chosen.first zs c.ending (omega (arith, s, l.its))) in
            let g = thinner-first zs walked m (c.first walked l.chosen.ending (omega (arith, s, l.its))) in
            (ap mark b.is ∙ s, last-is m zs (first-antisym _ _ g f ∙ l.layers))

        no_one : ((zs : List ℤ) → Ending p bound m (height_of h) zs → ⊥)
            → (mark (least (rules_of p bound) m h) ≡ missing) × (last (rules_of p bound) m h ≡ 0)
        no_one n = go (least (rules_of p bound) m h) refl
          where
            go : (o : Option ℕ) → least (rules_of p bound) m h ≡ o
                → (mark (least (rules_of p bound) m h) ≡ missing) × (last (rules_of p bound) m h ≡ 0)
            go none q = (ap mark q, last_none (rules_of p bound) m h q)
            go (some e) q = absurd (n walked (leads e q).chosen.ending)

    -- and nothing else is
    pub entries-only : (e t : ℕ) → Entries p bound m (height_of h) e t → (e ≡ mark (least (rules_of p bound) m h)) × (t ≡ last (rules_of p bound) m h)
    entries-only e t n = go (least (rules_of p bound) m h) refl
      where
        go : (o : Option ℕ) → least (rules_of p bound) m h ≡ o → (e ≡ mark (least (rules_of p bound) m h)) × (t ≡ last (rules_of p bound) m h)
        go none q =
            let x = n.none (λ zs a. let i = (below zs a).is in let z : ◌≡◌ {A = ℕ} 0 1 = cc in omega arith) in
            (x.0 ∙ sym (ap mark q), x.1 ∙ sym (last_none (rules_of p bound) m h q))
        go (some d) q =
            let l = (leads d q).chosen in
            let x = n.chosen walked l in
            let y = entries.chosen walked l in
            (x.0 ∙ sym y.0, x.1 ∙ sym y.1)
