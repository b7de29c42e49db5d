-- Possible layers are those of document 01's admissible sequences with document 02 b)'s rules, and the file is the same; so what is proved of the
-- reader over layers holds over those. Layers on a first boundary have boundaries, and boundaries that rise have layers between them; where the
-- one goes with the other (`Follows`), every rule and every record of the one is that of the other. Assumes nothing.
use Prim.Native.Nat.{ℕ, zero, suc, ◌+◌, ◌-◌, ◌≤◌, ◌<◌}
use mathlib.Core.Path.{◌≡◌, refl, sym, ◌∙◌, ap, ap₂}
use mathlib.Core.Logic.{◌↔◌}
use mathlib.Core.Bool.{true}
use mathlib.Core.List.{List, [], ◌∷◌, ◌++◌, append_assoc}
use native.Mathlib.Omega.{arith}
use lib.Dec.{ltb}
use lib.ListN.{length, get_or, drop}
use lib.Seq.{drop-cons}
use lib.IntN.{ℤ, nat_abs, ◌-ℤ◌}
use lib.Signed.{◌<ℤ◌}
use borrow.Author.Tests.{ltb-true, lt-ltb}
use Rattle.paper.specs.Layer.{allowed, tmax, of_columns}
use Rattle.paper.specs.Limits.{largest_bound}
use Rattle.paper.specs.Sequence.{◌!◌, count, thickness, IsLayer}
use Rattle.paper.proofs.Thicknesses.{and-true, tmax-le}
use Rattle.plate.specs.Datum.{datum, height_of}
use Rattle.plate.proofs.Datum.{height-datum, datum-above, lt_up, lt-down, le_up, le_down, pos-height, neg-height, difference-height}
use Rattle.printed.specs.Possible.{cure_of, usable, rise, Stands}
use Rattle.printed.specs.Records.{Record, lift, cure, finish, orders_over, orders, Written, Begins}
use Rattle.printed.specs.Paper.{Orderable, layers_to, file_of, Printed, Started}
use Rattle.printed.proofs.Layers.{usable-from, rise-none, rise-suc}

-- ---- heights of layers

-- one layer more
pub rise-next : (ts : List ℕ) (k : ℕ) → k < length ts → rise ts (suc k) ≡ rise ts k + get_or ts k 0
unfolding rise
rise-next [] k l = absurd (omega arith)
rise-next (t ∷ ts) zero l = omega arith
rise-next (t ∷ ts) (suc k) l = let e = rise-next ts k (omega arith) in omega arith

same-height : (a b : ℕ) → a ≡ b → height_of a ≡ height_of b
same-height a b e = ap height_of e

-- ---- boundaries over layers

pub record Follows (h : ℕ) (ts : List ℕ) (zs : List ℤ) : Type 0 where
  pub counts : count zs ≡ length ts
  pub at : (k : ℕ) → k ≤ length ts → zs ! k ≡ height_of (h + rise ts k)

-- the boundaries of layers on a first one
abbrev climb : ℕ → List ℕ → List ℤ
climb h [] = height_of h ∷ []
climb h (t ∷ ts) = height_of h ∷ climb (h + t) ts

climb-length : (h : ℕ) (ts : List ℕ) → length (climb h ts) ≡ suc (length ts)
climb-length h [] = refl
climb-length h (t ∷ ts) = ap suc (climb-length (h + t) ts)

climb-at : (h : ℕ) (ts : List ℕ) (k : ℕ) → k ≤ length ts → climb h ts ! k ≡ height_of (h + rise ts k)
climb-at h [] zero l = same-height h (h + rise [] 0) (omega (arith, rise-none []))
climb-at h [] (suc k) l = absurd (omega arith)
climb-at h (t ∷ ts) zero l = same-height h (h + rise (t ∷ ts) 0) (omega (arith, rise-none (t ∷ ts)))
climb-at h (t ∷ ts) (suc k) l = climb-at (h + t) ts k (omega arith) ∙ same-height (h + t + rise ts k) (h + rise (t ∷ ts) (suc k)) (omega (arith, rise-suc t ts k))

count-length : (zs : List ℤ) (n : ℕ) → length zs ≡ suc n → count zs ≡ n
count-length [] n e = absurd (omega arith)
count-length (z ∷ zs) n e = omega arith

climb-follows : (h : ℕ) (ts : List ℕ) → Follows h ts (climb h ts)
climb-follows h ts = record { counts = count-length (climb h ts) (length ts) (climb-length h ts); at = climb-at h ts }

-- the layers between boundaries
abbrev gaps : ℤ → List ℤ → List ℕ
gaps z [] = []
gaps z (w ∷ ws) = nat_abs (w -ℤ z) ∷ gaps w ws

gaps-length : (z : ℤ) (ws : List ℤ) → length (gaps z ws) ≡ length ws
gaps-length z [] = refl
gaps-length z (w ∷ ws) = ap suc (gaps-length w ws)

gaps-at : (z : ℤ) (ws : List ℤ) (k : ℕ) → k < length ws → get_or (gaps z ws) k 0 ≡ thickness (z ∷ ws) k
gaps-at z [] k l = absurd (omega arith)
gaps-at z (w ∷ ws) zero l = refl
gaps-at z (w ∷ ws) (suc k) l = gaps-at w ws k (omega arith)

gaps-follows : (z : ℤ) (ws : List ℤ) → 1 ≤ datum z → ((k : ℕ) → k < length ws → (z ∷ ws) ! k <ℤ (z ∷ ws) ! suc k)
    → Follows (datum z) (gaps z ws) (z ∷ ws)
gaps-follows z ws d r = record { counts = sym (gaps-length z ws); at = λ k l. at k (omega (arith, gaps-length z ws)) }
  where
    next : (k g : ℕ) → k < length ws → (z ∷ ws) ! k ≡ height_of (datum z + rise (gaps z ws) k) → datum ((z ∷ ws) ! suc k) ≡ g
        → (z ∷ ws) ! suc k ≡ height_of (datum z + rise (gaps z ws) (suc k))
    next k g l e f =
        let a : height_of (datum z + rise (gaps z ws) k) <ℤ (z ∷ ws) ! suc k = rw e at (r k l) in
        let b = datum-above (datum z + rise (gaps z ws) k) ((z ∷ ws) ! suc k) a in
        let c : (z ∷ ws) ! suc k ≡ height_of g = sym (height-datum ((z ∷ ws) ! suc k) (omega arith)) ∙ ap height_of f in
        let m = difference-height (datum z + rise (gaps z ws) k) g (omega arith) in
        let t : thickness (z ∷ ws) k ≡ g - (datum z + rise (gaps z ws) k) = ap₂ (λ (x y : ℤ). nat_abs (x -ℤ y)) c e ∙ m in
        c
        ∙ same-height g (datum z + rise (gaps z ws) (suc k))
        (omega (arith, t, b, f, gaps-at z ws k l, rise-next (gaps z ws) k (omega (arith, gaps-length z ws))))

    at : (k : ℕ) → k ≤ length ws → (z ∷ ws) ! k ≡ height_of (datum z + rise (gaps z ws) k)
    at zero l = sym (height-datum z d) ∙ same-height (datum z) (datum z + rise (gaps z ws) 0) (omega (arith, rise-none (gaps z ws)))
    at (suc k) l = next k (datum ((z ∷ ws) ! suc k)) (omega arith) (at k (omega arith)) refl

-- ---- the same file

-- the orders of the k lowest layers
abbrev orders_to : List ℕ → List ℕ → ℕ → List Record
orders_to cures ts zero = []
orders_to cures ts (suc k) = orders_to cures ts k ++ (lift (rise ts (suc k)) ∷ cure (cure_of cures (get_or ts k 0)) ∷ [])

drop_all : (ts : List ℕ) → drop (length ts) ts ≡ []
drop_all [] = refl
drop_all (t ∷ ts) = drop_all ts

orders-to : (cures ts : List ℕ) (k : ℕ) → k ≤ length ts → orders_to cures ts k ++ orders_over cures k (rise ts k) (drop k ts) ≡ orders_over cures 0 0 ts
unfolding orders_over rise
orders-to cures ts zero l = refl
orders-to cures ts (suc k) l =
    append_assoc (orders_to cures ts k) (lift (rise ts (suc k)) ∷ cure (cure_of cures (get_or ts k 0)) ∷ []) (orders_over cures (suc k) (rise ts (suc k)) (drop (suc k) ts))
    ∙ ap (λ (rs : List Record). orders_to cures ts k ++ rs) (one (rise ts (suc k)) (rise-next ts k (omega arith)) (drop k ts) (drop-cons ts k 0 (omega arith)))
    ∙ orders-to cures ts k (omega arith)
  where
    one : (x : ℕ) → x ≡ rise ts k + get_or ts k 0 → (us : List ℕ) → us ≡ get_or ts k 0 ∷ drop (suc k) ts
        → lift x ∷ cure (cure_of cures (get_or ts k 0)) ∷ orders_over cures (suc k) x (drop (suc k) ts) ≡ orders_over cures k (rise ts k) us
    one x e us f = rw (e, f)

orders-all : (cures ts : List ℕ) → orders_to cures ts (length ts) ++ (finish (length ts) ∷ []) ≡ orders cures ts
unfolding orders orders_over
orders-all cures ts =
    ap (λ (us : List ℕ). orders_to cures ts (length ts) ++ orders_over cures (length ts) (rise ts (length ts)) us) (sym (drop_all ts))
    ∙ orders-to cures ts (length ts) (omega arith)

module _ (h : ℕ) (ts : List ℕ) (zs : List ℤ) (f : Follows h ts zs) where
  follows-thickness : (k : ℕ) → k < length ts → thickness zs k ≡ get_or ts k 0
  follows-thickness k l =
      let e = rise-next ts k l in
      ap₂ (λ (x y : ℤ). nat_abs (x -ℤ y)) (f.at (suc k) l) (f.at k (omega arith))
      ∙ difference-height (h + rise ts k) (h + rise ts (suc k)) (omega arith)
      ∙ omega arith

  follows-height : (k : ℕ) → k ≤ length ts → nat_abs (zs ! k -ℤ zs ! 0) ≡ rise ts k
  follows-height k l =
      let e = rise-none ts in
      ap₂ (λ (x y : ℤ). nat_abs (x -ℤ y)) (f.at k l) (f.at 0 (omega arith))
      ∙ difference-height (h + rise ts 0) (h + rise ts k) (omega arith)
      ∙ omega arith

  follows-orders : (cures : List ℕ) (k : ℕ) → k ≤ length ts → layers_to cures zs k ≡ orders_to cures ts k
  follows-orders cures zero l = refl
  follows-orders cures (suc k) l =
      ap₂ ◌++◌ (follows-orders cures k (omega arith))
      (ap₂ (λ (x t : ℕ). lift x ∷ cure (cure_of cures t) ∷ []) (follows-height (suc k) l) (follows-thickness k l))

  pub follows-file : (cures : List ℕ) → file_of cures zs ≡ orders cures ts
  follows-file cures =
      ap (λ (n : ℕ). layers_to cures zs n ++ (finish n ∷ [])) f.counts
      ∙ ap (λ (rs : List Record). rs ++ (finish (length ts) ∷ [])) (follows-orders cures (length ts) (omega arith))
      ∙ orders-all cures ts

  -- ---- the same rules

  module _ (N T : ℕ) (cures : List ℕ) where
    usable-both : (t : ℕ) → usable T cures t ≡ true → (allowed T t ≡ true) × (0 < cure_of cures t)
    unfolding usable
    usable-both t u = let b = and-true (allowed T t) (ltb 0 (cure_of cures t)) u in (b.0, ltb-true 0 (cure_of cures t) b.1)

    both-usable : (t : ℕ) → allowed T t ≡ true → 0 < cure_of cures t → usable T cures t ≡ true
    unfolding usable
    both-usable t a c = simp (a, lt-ltb 0 (cure_of cures t) c)

    -- the first boundary, the last and the last but one
    follows-first : zs ! 0 ≡ height_of h
    follows-first = f.at 0 (omega arith) ∙ same-height (h + rise ts 0) h (omega (arith, rise-none ts))

    follows-last : zs ! count zs ≡ height_of (h + rise ts (length ts))
    follows-last = ap (λ (k : ℕ). zs ! k) f.counts ∙ f.at (length ts) (omega arith)

    follows-before-last : zs ! (count zs - 1) ≡ height_of (h + rise ts (length ts - 1))
    follows-before-last = ap (λ (k : ℕ). zs ! (k - 1)) f.counts ∙ f.at (length ts - 1) (omega arith)

    pub stands-orderable : Stands N T cures ts h → Orderable N T cures zs
    stands-orderable s =
        let n : count zs ≡ length ts = f.counts in
        record {
          admissible = record {
            layered = omega (arith, s.layered);
            stack = record {
              starts-above = rw (follows-first, neg-height (tmax T) (tmax-le T)) (lt_up (32 - tmax T) h (omega (arith, s.starts-above, tmax-le T)));
              starts_by = rw (follows-first, pos-height 0) (le_up h 32 s.starts_by);
              layers = λ k l. layer k (omega arith);
              z1-above = λ l. rw (f.at 1 s.layered, pos-height 0) (lt_up 32 (h + rise ts 1) s.z1-above);
              before-last-below = λ l. rw (follows-before-last, pos-height N) (lt_up (h + rise ts (length ts - 1)) (N + 32) s.before-last-below);
            };
            ends-from = rw (follows-last, pos-height N) (le_up (N + 32) (h + rise ts (length ts)) s.ends-from);
            ends-below =
                rw (follows-last, pos-height (N + tmax T)) (lt_up (h + rise ts (length ts)) (N + tmax T + 32) (omega (arith, s.ends-below)));
          };
          cured = λ k l. rw (follows-thickness k (omega arith)) (usable-both (get_or ts k 0) (s.usables k (omega arith))).1;
        }
      where
        rises : (k : ℕ) → k < length ts → zs ! k <ℤ zs ! suc k
        rises k l =
            let e = rise-next ts k l in
            let a = usable-from T cures (get_or ts k 0) (s.usables k l) in
            rw (f.at k (omega arith), f.at (suc k) l) (lt_up (h + rise ts k) (h + rise ts (suc k)) (omega arith))

        -- there are no columns, so that no layer has an error
        layer : (k : ℕ) → k < length ts → IsLayer (of_columns N T []) largest_bound (zs ! k) (zs ! suc k)
        layer k l = record {
          rises = rises k l;
          member = rw (follows-thickness k l) (usable-both (get_or ts k 0) (s.usables k l)).0;
          within = omega arith;
        }

    pub orderable-stands : Orderable N T cures zs → Stands N T cures ts h
    orderable-stands o =
        let a = o.admissible in
        let b = a.stack in
        let n : count zs ≡ length ts = f.counts in
        let some-layer : 1 ≤ length ts = omega (arith, a.layered) in
        record {
          layered = some-layer;
          usables = λ k l.
              both-usable (get_or ts k 0) (rw (follows-thickness k l) at (b.layers k (omega arith)).member)
              (rw (follows-thickness k l) at (o.cured k (omega arith)));
          starts-above = omega (arith, lt-down (32 - tmax T) h (rw (follows-first, neg-height (tmax T) (tmax-le T)) at b.starts-above));
          starts_by = le_down h 32 (rw (follows-first, pos-height 0) at b.starts_by);
          ends-from = le_down (N + 32) (h + rise ts (length ts)) (rw (follows-last, pos-height N) at a.ends-from);
          ends-below =
              omega (arith, lt-down (h + rise ts (length ts)) (N + tmax T + 32) (rw (follows-last, pos-height (N + tmax T)) at a.ends-below));
          z1-above = lt-down 32 (h + rise ts 1) (rw (f.at 1 some-layer, pos-height 0) at (b.z1-above a.layered));
          before-last-below =
              lt-down (h + rise ts (length ts - 1)) (N + 32) (rw (follows-before-last, pos-height N) at (b.before-last-below a.layered));
        }

-- ---- so the files are the same

module _ (N T : ℕ) (cures : List ℕ) where
  pub written-printed : (rs : List Record) → Written N T cures rs → Printed N T cures rs
  written-printed rs w =
      let h = w.possible.start in
      let f = climb-follows h w.layers in
      record {
        sequence = climb h w.layers;
        orderable = stands-orderable h w.layers (climb h w.layers) f N T cures w.possible.stands;
        same = follows-file h w.layers (climb h w.layers) f cures ∙ w.same;
      }

  pub printed-written : (rs : List Record) → Printed N T cures rs → Written N T cures rs
  printed-written rs p = go p.sequence p.orderable p.same
    where
      go : (zs : List ℤ) → Orderable N T cures zs → file_of cures zs ≡ rs → Written N T cures rs
      go [] o e = absurd (let l = o.admissible.layered in omega arith)
      go (z ∷ ws) o e =
          let l : height_of (32 - tmax T) <ℤ z = rw (neg-height (tmax T) (tmax-le T)) at o.admissible.stack.starts-above in
          let d = datum-above (32 - tmax T) z l in
          let f = gaps-follows z ws (omega arith) (λ k l. (o.admissible.stack.layers k l).rises) in
          record {
            layers = gaps z ws;
            possible = record { start = datum z; stands = orderable-stands (datum z) (gaps z ws) (z ∷ ws) f N T cures o };
            same = sym (follows-file (datum z) (gaps z ws) (z ∷ ws) f cures) ∙ e;
          }

  pub written-exact : (rs : List Record) → Written N T cures rs ↔ Printed N T cures rs
  written-exact rs = (written-printed rs, printed-written rs)

  pub begins-started : (rs : List Record) → Begins N T cures rs → Started N T cures rs
  begins-started rs b = record { more = b.more; printed = written-printed (rs ++ b.more) b.written }

  pub started-begins : (rs : List Record) → Started N T cures rs → Begins N T cures rs
  started-begins rs b = record { more = b.more; written = printed-written (rs ++ b.more) b.printed }
