-- The records of a file are read on until one is at fault or is the end, since each of the others takes four bytes or more. So the first such
-- record decides. Assumes nothing.
use mathlib.Core.Path.{◌≡◌, refl, sym, subst, ◌∙◌}
use mathlib.Core.Logic.{◌⊎◌, inl, inr, ◌↔◌}
use mathlib.Core.List.{List}
use mathlib.Core.Option.{Option, none, some}
use Prim.Native.Nat.{ℕ, zero, suc, ◌-◌, ◌<◌}
use native.Mathlib.Omega.{arith}
use lib.ListN.{length}
use Rattle.lists.specs.Checks.{first}
use Rattle.plate.specs.Refusal.{Told, done, refused, Numbered}
use Rattle.job.specs.State.{start_state, asked_of}
use Rattle.job.specs.Record.{What, settings, column, ended, remark, Moved, read_record}
use Rattle.job.specs.File.{Finished, Asking, job_from}
use Rattle.job.specs.Reached.{Passes, Stops, Ends, Reached, start, further, columns_to}
use Rattle.job.specs.declared.State.{State}
use Rattle.job.proofs.Folding.{job_ending, goes_on, stopped, ended-there}

module _ (asking : Asking) (s : List ℕ) where
  -- a record is at fault, or the end
  abbrev Fault : ℕ → Told What → Type 0
  Fault at t = (number : ℕ) × (place : ℕ) × Stops asking at t number place

  abbrev Decides : ℕ → Told What → Type 0
  Decides at t = Fault at t ⊎ Ends t

  -- or it passes
  either : (at : ℕ) (t : Told What) → Decides at t ⊎ Passes asking at t
  either at (done (settings a)) = go (first (asking at a)) refl
    where
      go : (o : Option Numbered) → first (asking at a) ≡ o → Decides at (done (settings a)) ⊎ Passes asking at (done (settings a))
      go none e = inr e
      go (some r) e = inl (inl (r.number, r.place, e))
  either at (done (column from count)) = inr tt
  either at (done (ended columns)) = inl (inr (columns, refl))
  either at (done remark) = inr tt
  either at (refused number place) = inl (inl (number, place, (refl, refl)))

  -- the records are read on to one that decides
  abbrev Settled : Type 0
  Settled = (st : State) × (at : ℕ) × Reached asking s st at × Decides at (read_record s st at).told

  settled : (n : ℕ) (st : State) (at : ℕ) → length s - at < n → Reached asking s st at → Settled
  settled zero st at l r = absurd (omega arith)
  settled (suc n) st at l r =
      go (either at m.told) (λ p. let a = goes_on asking s st at p in settled n m.state m.next (omega (arith, a.on, a.within)) (further r p))
    where
      m : Moved
      m = read_record s st at

      go : Decides at m.told ⊎ Passes asking at m.told → (Passes asking at m.told → Settled) → Settled
      go (inl d) k = (st, at, r, d)
      go (inr p) k = k p

  all_settled : Settled
  all_settled = settled (suc (length s)) start_state 0 (omega arith) start

  -- 'the first record at fault decides'
  pub fault-decides : (number place : ℕ)
      → (job_from asking s ≡ refused number place) ↔ ((st : State) × (at : ℕ) × Reached asking s st at × Stops asking at (read_record s st at).told number place)
  fault-decides number place = (λ e. to e all_settled, λ f. stopped asking s f.2 number place f.3)
    where
      to : job_from asking s ≡ refused number place → Settled → (st : State) × (at : ℕ) × Reached asking s st at × Stops asking at (read_record s st at).told number place
      to e (st, at, r, inl (n, q, p)) =
          let f = sym (stopped asking s r n q p) ∙ e in
          let a : n ≡ number = cc in
          let b : q ≡ place = cc in
          let t = (read_record s st at).told in
          (st, at, r, subst (λ (x : ℕ). Stops asking at t x place) a (subst (λ (x : ℕ). Stops asking at t n x) b p))
      to e (st, at, r, inr p) = absurd (let f = sym (ended-there asking s r p) ∙ e in let z : ◌≡◌ {A = ℕ} 0 1 = cc in omega arith)

  -- and where none is, the end that is reached: with what was read on the way there
  pub end-decides : (f : Finished) → (job_from asking s ≡ done f)
      ↔ ((st : State) × (at : ℕ) × (r : Reached asking s st at) × Ends (read_record s st at).told
      × (job_ending (asked_of (read_record s st at).state) (columns_to r) (read_record s st at).next ≡ f))
  end-decides f = (λ e. to e all_settled, λ x. ended-there asking s x.2 x.3 ∙ (λ i. done (x.4 i)))
    where
      to : job_from asking s ≡ done f → Settled
          → (st : State) × (at : ℕ) × (r : Reached asking s st at) × Ends (read_record s st at).told
          × (job_ending (asked_of (read_record s st at).state) (columns_to r) (read_record s st at).next ≡ f)
      to e (st, at, r, inl (n, q, p)) = absurd (let g = sym (stopped asking s r n q p) ∙ e in let z : ◌≡◌ {A = ℕ} 0 1 = cc in omega arith)
      to e (st, at, r, inr p) = let g = sym (ended-there asking s r p) ∙ e in (st, at, r, p, (cc))
