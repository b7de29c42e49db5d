-- `end_count` meets its contract: a row at 0 or less has no layers, and over it more than (start - tmax) / tmin layers on the lowest rise past the row.
-- Assumes nothing.
use Rattle.std.proofs.Common.{ℕ, ◌+◌, ◌-◌, ◌*◌, ◌/◌, ◌≤◌, ◌<◌, arith}
use native.Mathlib.Nat.{div-lt_iff_lt-mul}
use Rattle.paper.proofs.Counts.{counts_some}
use Rattle.plate.specs.Settings.{Sound}
use Rattle.plate.specs.declared.settings.Settings.{Settings}
use Rattle.plan.proofs.Work.end_count.Goals as goal

module _ (s : Settings) (k : Sound s) where
  some : 1 ≤ s.counts
  some = rw k.counts-are (counts_some s.height s.members (omega (arith, k.thin, k.least)))

  past : (z m : ℕ) → z / s.tmin + 2 ≤ m → z < (m - 1) * s.tmin
  past z m l = (div-lt_iff_lt-mul k.thin).0 (omega arith)

pub returns-then-start-s : goal.returns-then-start-s
returns-then-start-s c = (omega arith, some c.args.self.now.settings c.args.self.now.ready.sound, λ m l u. omega arith)

pub returns : goal.returns
returns c =
    let s = c.args.self.now.settings in
    let k = c.args.self.now.ready.sound in (
      omega (arith, some s k),
      omega arith,
      λ m l u. omega (arith, past s k (c.args.start - s.tmax) m (omega (arith, c.layers_in.ensures))),
    )
