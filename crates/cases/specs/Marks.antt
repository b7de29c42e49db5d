-- Marks come again after fifty, whatever number they begin with. Assumes nothing.
use Rattle.std.specs.Prelude.{◌≡◌, ℕ, ◌+◌, ◌%◌}
use Rattle.std.proofs.Math.Nat.{add-mod_right}

pub marks_again : (base i : ℕ) → base + (i + 50) % 50 ≡ base + i % 50
marks_again base i = λ k. base + add-mod_right i 50 k
