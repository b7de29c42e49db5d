-- What may come next after some layers, said of the layers as the reader of files counts them and of the states of the mathematics: they are the
-- same tests. Before the first record there are no layers, and their height is 0. Assumes nothing.
use mathlib.Core.Path.{◌≡◌, refl, sym, ap, subst, ◌∙◌}
use mathlib.Core.Bool.{Bool, true, false, cond, ◌&&◌}
use mathlib.Core.Option.{some}
use mathlib.Core.List.{List}
use Prim.Native.Nat.{ℕ, suc, ◌+◌, ◌-◌, ◌*◌, ◌≤◌, ◌<◌}
use native.Mathlib.Omega.{arith}
use borrow.Author.Tests.{eqb-true, eqb-false, eq-eqb, ne_eqb}
use lib.Dec.{eqb, leb}
use Rattle.paper.specs.Layer.{tmax}
use Rattle.paper.proofs.Thicknesses.{and-true}
use Rattle.printed.specs.Possible.{cure_of, usable}
use Rattle.printed.specs.Tests.{may_begin, may_lift, may_finish}
use Rattle.printed.specs.Records as reader
use Rattle.printed.specs.Records.{Record, lift, cure, finish, State, fresh, lifted, layered, whole, provided}
use Rattle.printed.proofs.Layers.{usable-from, usable-to, may-lift}
use Rattle.printed.proofs.Records.{none-some, provided-some}
use Rattle.printed.proofs.Reach.{Within}
use Rattle.orders.specs.File.{grown, may_follow}
use Rattle.orders.specs.declared.Stack.{Stack}

-- the state of the mathematics after some layers
abbrev pub state_of : Stack → State
state_of read = cond (eqb read.layers 0) fresh (layered read.layers read.first read.rise)

abbrev pub lifted_by : Stack → ℕ → State
lifted_by read t = lifted (grown read t).layers (grown read t).first (grown read t).rise t

-- no layers have no height
abbrev pub Flat : Stack → Type 0
Flat read = read.layers ≡ 0 → read.rise ≡ 0

pub grown-flat : (read : Stack) (t : ℕ) → Flat (grown read t)
grown-flat read t e = absurd (omega arith)

pub grown-state : (read : Stack) (t : ℕ) → state_of (grown read t) ≡ layered (grown read t).layers (grown read t).first (grown read t).rise
grown-state read t = simp (ne_eqb (read.layers + 1) 0 (λ e. omega arith))

pub not-whole : (read : Stack) → state_of read ≡ whole → ⊥
not-whole read = go (eqb read.layers 0)
  where
    go : (b : Bool) → cond b fresh (layered read.layers read.first read.rise) ≡ whole → ⊥
    go true e = let z : ◌≡◌ {A = ℕ} 0 1 = cc in omega arith
    go false e = let z : ◌≡◌ {A = ℕ} 0 1 = cc in omega arith

module _ (N T : ℕ) (cures : List ℕ) where
  -- ---- what may come next

  pub may-usable : (read : Stack) (t : ℕ) → may_follow N T cures read t ≡ true → usable T cures t ≡ true
  may-usable read t = go (eqb read.layers 0)
    where
      go : (b : Bool) → cond b (may_begin T cures t) (may_lift N T cures read.first read.rise t) ≡ true → usable T cures t ≡ true
      go true m = m
      go false m = (may-lift N T cures read.first read.rise t m).0

  module _ (read : Stack) (flat : Flat read) where
    pub lift-next : (t : ℕ) → may_follow N T cures read t ≡ true → reader.step N T cures (state_of read) (lift (read.rise + t)) ≡ some (lifted_by read t)
    unfolding reader.step
    lift-next t = go (eqb read.layers 0) (eqb-true read.layers 0)
      where
        go : (b : Bool) → (b ≡ true → read.layers ≡ 0) → cond b (may_begin T cures t) (may_lift N T cures read.first read.rise t) ≡ true
            → reader.step N T cures (cond b fresh (layered read.layers read.first read.rise)) (lift (read.rise + t))
            ≡ some (lifted (read.layers + 1) (cond b t read.first) (read.rise + t) t)
        go true e m =
            let none : read.layers ≡ 0 = e refl in
            let z : read.rise + t ≡ t = omega (arith, flat none) in
            let k : 1 ≡ read.layers + 1 = omega arith in
            ap (λ (x : ℕ). provided (may_begin T cures x) (lifted 1 x x x)) z
            ∙ ap (λ (b : Bool). provided b (lifted 1 t t t)) m
            ∙ (λ i. some (lifted (k i) t (sym z i) t))
        go false e m =
            let z : read.rise + t - read.rise ≡ t = omega arith in
            let k : suc read.layers ≡ read.layers + 1 = omega arith in
            ap (λ (d : ℕ). provided (may_lift N T cures read.first read.rise d) (lifted (suc read.layers) read.first (read.rise + t) d)) z
            ∙ ap (λ (b : Bool). provided b (lifted (suc read.layers) read.first (read.rise + t) t)) m
            ∙ ap (λ (n : ℕ). some (lifted n read.first (read.rise + t) t)) k

    pub cure-next : (t : ℕ) → reader.step N T cures (lifted_by read t) (cure (cure_of cures t)) ≡ some (state_of (grown read t))
    unfolding reader.step
    cure-next t =
        ap (λ (b : Bool). provided b (layered (grown read t).layers (grown read t).first (grown read t).rise)) (eq-eqb (cure_of cures t) (cure_of cures t) refl)
        ∙ ap some (sym (grown-state read t))

    pub finish-next : 0 < read.layers → may_finish N read.rise ≡ true → reader.step N T cures (state_of read) (finish read.layers) ≡ some whole
    unfolding reader.step
    finish-next some-layer m = simp (ne_eqb read.layers 0 (λ e. omega arith), eq-eqb read.layers read.layers refl, m)

    -- ---- and nothing else may

    abbrev DueIf : Bool → Record → Type 0
    DueIf none (lift x) = cond none (may_begin T cures (x - read.rise)) (may_lift N T cures read.first read.rise (x - read.rise)) ≡ true
    DueIf none (cure c) = ⊥
    DueIf none (finish n) = (0 < read.layers) × (n ≡ read.layers) × (may_finish N read.rise ≡ true)

    abbrev pub Due : Record → Type 0
    Due r = DueIf (eqb read.layers 0) r

    pub due : (r : Record) (o : State) → reader.step N T cures (state_of read) r ≡ some o → Due r
    unfolding reader.step
    due r o = go (eqb read.layers 0) (eqb-true read.layers 0) (eqb-false read.layers 0) r
      where
        go : (b : Bool) → (b ≡ true → read.layers ≡ 0) → (b ≡ false → read.layers ≡ 0 → ⊥) → (r : Record)
            → reader.step N T cures (cond b fresh (layered read.layers read.first read.rise)) r ≡ some o → DueIf b r
        go true e n (lift x) q =
            let z : x ≡ x - read.rise = omega (arith, flat (e refl)) in
            subst (λ (d : ℕ). may_begin T cures d ≡ true) z (provided-some (may_begin T cures x) (lifted 1 x x x) o q).0
        go true e n (cure c) q = none-some q
        go true e n (finish k) q = absurd (none-some q)
        go false e n (lift x) q =
            (provided-some (may_lift N T cures read.first read.rise (x - read.rise)) (lifted (suc read.layers) read.first x (x - read.rise)) o q).0
        go false e n (cure c) q = none-some q
        go false e n (finish k) q =
            let both = and-true (eqb k read.layers) (leb N read.rise) (provided-some (eqb k read.layers && leb N read.rise) whole o q).0 in
            let some-layer : 0 < read.layers = omega (arith, n refl) in
            (some-layer, eqb-true k read.layers both.0, both.1)

    -- no lift is higher than a file's can be
    module _ (some-height : 1 ≤ N) (w : Within N T cures some-height (state_of read)) where
      pub few-layers : read.layers ≤ N + 2 * tmax T
      few-layers = go (eqb read.layers 0) (eqb-true read.layers 0) w
        where
          go : (b : Bool) → (b ≡ true → read.layers ≡ 0) → Within N T cures some-height (cond b fresh (layered read.layers read.first read.rise))
              → read.layers ≤ N + 2 * tmax T
          go true e w = omega (arith, e refl)
          go false e w = omega (arith, w.count, w.height)

      pub may-low : (t u : ℕ) → may_follow N T cures read t ≡ true → u ≤ tmax T → read.rise + u ≤ N + 2 * tmax T - 2
      may-low t u m s = go (eqb read.layers 0) (eqb-true read.layers 0) w m
        where
          go : (b : Bool) → (b ≡ true → read.layers ≡ 0) → Within N T cures some-height (cond b fresh (layered read.layers read.first read.rise))
              → cond b (may_begin T cures t) (may_lift N T cures read.first read.rise t) ≡ true → read.rise + u ≤ N + 2 * tmax T - 2
          go true e w m = omega (arith, flat (e refl), usable-from T cures t m, usable-to T cures t m)
          go false e w m =
              let room = (may-lift N T cures read.first read.rise t m).1 in
              omega (arith, usable-to T cures read.first w.usable-first, usable-from T cures read.first w.usable-first)
