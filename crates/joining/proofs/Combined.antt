-- The loop that makes each cell anew from two: before the first turn nothing is made, a turn makes the next cell, and where the rule says
-- one number alone the whole is `rewritten`. Assumes nothing.
use Rattle.std.proofs.Common.{◌≡◌, ℕ, ◌+◌, ◌<◌, List, length, get_or, refl, ◌∙◌, arith}
use native.Mathlib.Decide.{ℕ_discrete}
use lib.ListN.{set, length-set}
use lib.Seq.{get_or-set_same, get_or-set_other}
use Rattle.lists.specs.Rewrite.{rewritten}
use Rattle.lists.proofs.Rewrite.{rewritten-is}
use Rattle.joining.specs.Joining.{Combined}

module _ {rule : ℕ → ℕ → ℕ → Type 0} {other old : List ℕ} where
  pub combined_none : Combined rule 0 other old old
  combined_none = record { long = refl; inside = λ i h. absurd (omega arith); above = λ i h. refl }

  module _ {new : List ℕ} {i : ℕ} (s : Combined rule i other old new) where
    pub combined_set : (v : ℕ) → i < length new → rule (get_or new i 0) (get_or other i 0) v → Combined rule (i + 1) other old (set new i v)
    combined_set v h r = record {
      long = length-set new i v ∙ s.long;
      inside = λ k l. go k l (ℕ_discrete k i);
      above = λ k l. get_or-set_other new i k v 0 (λ x. omega arith) ∙ s.above k (omega arith);
    }
      where
        go : (k : ℕ) → k < i + 1 → Dec (k ≡ i) → rule (get_or old k 0) (get_or other k 0) (get_or (set new i v) k 0)
        go k l (yes q) = rw (q, get_or-set_same new i v 0 h, ← s.above i (omega arith)) r
        go k l (no q) = rw (get_or-set_other new i k v 0 q) (s.inside k (omega arith))

    pub combined-is : (g : ℕ → ℕ → ℕ) (n : ℕ) → i ≡ n → ((x y z : ℕ) → rule x y z → z ≡ g x y) → new ≡ rewritten (λ k x. g x (get_or other k 0)) n old
    combined-is g n e same = rw (← e) (rewritten-is 0 (λ k x. g x (get_or other k 0)) i old new s.long (λ k h l. same _ _ _ (s.inside k h)) s.above)
