-- How far a reader can come: no height is above N + 2·tmax - 2, so that its product with a step stays below 2^24, and there are no more
-- layers than units of height, so that their count fits 16 bits. By one record after the other: before the last lift the height was at most
-- N + tmax - 2, by its test, and a thickness is at most tmax. Assumes nothing.
use Prim.Native.Nat.{ℕ, suc, ◌+◌, ◌-◌, ◌*◌, ◌≤◌}
use mathlib.Core.Path.{◌≡◌}
use mathlib.Core.Bool.{true, ◌&&◌}
use mathlib.Core.Option.{some}
use mathlib.Core.List.{List, [], ◌∷◌}
use native.Mathlib.Omega.{arith}
use lib.Dec.{leb, eqb}
use Rattle.paper.specs.Layer.{tmax}
use Rattle.printed.specs.Possible.{cure_of, usable}
use Rattle.printed.specs.Tests.{may_lift}
use Rattle.printed.specs.Records.{Record, lift, cure, finish, State, fresh, lifted, layered, whole, step, read_from}
use Rattle.printed.proofs.Layers.{usable-from, usable-to, may-lift}
use Rattle.printed.proofs.Records.{none-some, provided-some, read-nil}
use Rattle.printed.proofs.Bytes.{read_step}

pub record Bounded (N T : ℕ) (cures : List ℕ) (k first h : ℕ) : Type 0 where
  pub usable-first : usable T cures first ≡ true
  pub some-layer : 1 ≤ k
  pub count : k ≤ h
  pub from_first : first ≤ h
  pub height : h + 2 ≤ N + 2 * tmax T

module _ (N T : ℕ) (cures : List ℕ) (some-height : 1 ≤ N) where
  abbrev pub Within : State → Type 0
  Within fresh = Unit {0}
  Within (lifted k first h t) = Bounded N T cures k first h × (usable T cures t ≡ true)
  Within (layered k first h) = Bounded N T cures k first h
  Within whole = Unit {0}

  began : (t : ℕ) → usable T cures t ≡ true → Within (lifted 1 t t t)
  began t u =
      let f = usable-from T cures t u in
      let g = usable-to T cures t u in
      (record { usable-first = u; some-layer = omega arith; count = omega arith; from_first = omega arith; height = omega arith }, u)

  lifted-on : (k first h x : ℕ) → Bounded N T cures k first h → may_lift N T cures first h (x - h) ≡ true → Within (lifted (suc k) first x (x - h))
  lifted-on k first h x b m =
      let p = may-lift N T cures first h (x - h) m in
      let f = usable-from T cures (x - h) p.0 in
      let g = usable-to T cures (x - h) p.0 in
      let g' = usable-to T cures first b.usable-first in (
        record {
          usable-first = b.usable-first;
          some-layer = omega arith;
          count = omega (arith, b.count);
          from_first = omega (arith, b.from_first);
          height = omega (arith, p.1);
        },
        p.0,
      )

  pub step-within : (s : State) (r : Record) (o : State) → Within s → step N T cures s r ≡ some o → Within o
  unfolding step
  step-within fresh (lift x) o w e = let u = provided-some (usable T cures x) (lifted 1 x x x) o e in rw (← u.1) (began x u.0)
  step-within fresh (cure c) o w e = absurd (none-some e)
  step-within fresh (finish n) o w e = absurd (none-some e)
  step-within (lifted k first h t) (lift x) o w e = absurd (none-some e)
  step-within (lifted k first h t) (cure c) o w e = let u = provided-some (eqb c (cure_of cures t)) (layered k first h) o e in rw (← u.1) w.0
  step-within (lifted k first h t) (finish n) o w e = absurd (none-some e)
  step-within (layered k first h) (lift x) o w e =
      let u = provided-some (may_lift N T cures first h (x - h)) (lifted (suc k) first x (x - h)) o e in
      rw (← u.1) (lifted-on k first h x w u.0)
  step-within (layered k first h) (cure c) o w e = absurd (none-some e)
  step-within (layered k first h) (finish n) o w e = let u = provided-some (eqb n k && leb N h) whole o e in rw (← u.1) tt
  step-within whole r o w e = absurd (none-some e)

  read-within : (s : State) (rs : List Record) (o : State) → Within s → read_from N T cures s rs ≡ some o → Within o
  read-within s [] o w e = let x : s ≡ o = cc (read-nil N T cures s, e) in rw (← x) w
  read-within s (r ∷ rs) o w e =
      let t = read_step N T cures s r rs o e in read-within t.next rs o (step-within s r t.next w t.is) t.reads

  pub reached-within : (rs : List Record) (o : State) → read_from N T cures fresh rs ≡ some o → Within o
  reached-within rs o e = read-within fresh rs o tt e
