-- Document 02 e), 'The printer's order list', as statements over document 01's own admissible sequences: which sequences are written, which files are
-- read and what is answered from them, where the others are refused, and what becomes of a sequence that is written and read again.
-- Assumes nothing.
use Rattle.std.specs.Prelude.{ℕ, suc, ◌+◌, ◌-◌, ◌*◌, ◌≤◌, ◌<◌, ◌≡◌, ◌↔◌, ◌⊎◌, List, [], Float, ℤ, pos, nat_abs, ◌-ℤ◌, length, take, drop}
use Rattle.paper.specs.Limits.{largest_bound}
use Rattle.paper.specs.Layer as paper
use Rattle.paper.specs.Layer.{tmax, of_columns}
use Rattle.paper.specs.Motor.{MotorHeight}
use Rattle.paper.specs.Sequence.{◌!◌, count, thickness, Admissible}
use Rattle.plate.specs.Call.{answer_of, left_by}
use Rattle.plate.specs.Refusal.{done, refused}
use Rattle.record.specs.Bytes.{Bytes}
use Rattle.printed.specs.Possible.{cure_of}
use Rattle.printed.specs.Paper.{Orderable, file_of}
use Rattle.printed.specs.Bytes.{FaultAt}
use Rattle.orders.specs.Layer.{micrometres, seconds, printed_layer, CureTime, Exactly}
use Rattle.orders.specs.Written.{record_bytes, order_bytes, file_size}
use Rattle.orders.specs.Order.{order_of, record_at}
use Rattle.orders.specs.Writing.{writing_orders}
use Rattle.orders.specs.Reading.{reading_order}
use Rattle.orders.specs.declared.Order.{Order}
use Rattle.orders.specs.declared.Order.TheVariants.{Lift, Cure, Finish}
use Rattle.promises.specs.Recounts.{LowestFault}

-- what both calls are handed is in order
pub record Lent (N T step : ℕ) (cures : List ℕ) : Type 0 where
  pub settings : paper.Settings N T
  pub step_from : 1 ≤ step
  pub step-to : step ≤ 8192
  -- an entry for each thickness from 1 to tmax
  pub listed : tmax T ≤ length cures

-- every f32 is exact, positive or the positive zero, and the only such f32
pub record FloatsExactly (N T step : ℕ) : Type 0 where
  pub height : (units : ℕ) → units ≤ N + 2 * tmax T - 2 → MotorHeight step (pos units) (micrometres step units)
  pub height-only : (units : ℕ) → units ≤ N + 2 * tmax T - 2 → (x : Float) → MotorHeight step (pos units) x → x ≡ micrometres step units
  pub time : (cure : ℕ) → cure < 65_536 → CureTime cure (seconds cure)
  pub time-only : (cure : ℕ) → cure < 65_536 → (x : Float) → CureTime cure x → x ≡ seconds cure

-- so each layer of a sequence to be ordered is printed exactly, its cure time where the list's entries have 16 bits
abbrev pub PrintsExactly : ℕ → ℕ → ℕ → List ℕ → List ℤ → Type 0
PrintsExactly N T step cures zs =
    (k : ℕ) → k < count zs → cure_of cures (thickness zs k) < 65_536
    → Exactly (printed_layer (nat_abs (zs ! suc k -ℤ zs ! 0)) (thickness zs k) step (cure_of cures (thickness zs k))) (nat_abs (zs ! suc k -ℤ zs ! 0)) (thickness zs k) step
    (cure_of cures (thickness zs k))

-- 'reading accepts exactly the files that the writer gives for some admissible sequence under these', whichever of them is taken, and refuses any other
-- 'at the first record after which no such file is possible': at the furthest end of a record up to which such a file agrees with the input, or at 0.
-- By which of document 02 f)'s numbers, `Faults` says
pub record ReadsExactly (N T step : ℕ) (cures file : List ℕ) (number : ℕ) : Type 0 where
  pub accepts : (o : Order) → (answer_of (reading_order N T step cures file number) ≡ done o)
      ↔ ((zs : List ℤ) × Orderable N T cures zs × (order_bytes step cures zs ≡ file) × (o ≡ order_of step (record_at (file_of cures zs) number)))
  pub refuses : (place : ℕ) → ((n : ℕ) × (answer_of (reading_order N T step cures file number) ≡ refused n place)) ↔ FaultAt N T cures (record_bytes step) file place

-- the first layer, from 1, whose cure time is 0
pub record FirstUncured (cures : List ℕ) (zs : List ℤ) (place : ℕ) : Type 0 where
  pub layer : ℕ
  pub is : place ≡ suc layer
  pub within : layer < count zs
  pub uncured : cure_of cures (thickness zs layer) ≡ 0
  pub cured-before : (k : ℕ) → k < layer → 0 < cure_of cures (thickness zs k)

-- what is written, and what is refused of a sequence
pub record WritesExactly (N T step : ℕ) (cures : List ℕ) (zs : List ℤ) (out : List ℕ) : Type 0 where
  pub writes : (size : ℕ) → (answer_of (writing_orders N T step cures zs out) ≡ done size)
      ↔ (Orderable N T cures zs × (size ≡ file_size (count zs)) × (size ≤ length out))
  pub inadmissible : (place : ℕ) → (answer_of (writing_orders N T step cures zs out) ≡ refused 13 place) ↔ LowestFault (of_columns N T []) largest_bound zs place
  pub uncured : (place : ℕ) → (answer_of (writing_orders N T step cures zs out) ≡ refused 18 place)
      ↔ (Admissible (of_columns N T []) largest_bound zs × FirstUncured cures zs place)
  pub short : (place : ℕ) → (answer_of (writing_orders N T step cures zs out) ≡ refused 3 place)
      ↔ (Orderable N T cures zs × (length out < file_size (count zs)) × (place ≡ 2))
  -- and nothing else
  pub refuses : (n place : ℕ) → answer_of (writing_orders N T step cures zs out) ≡ refused n place → (n ≡ 13) ⊎ ((n ≡ 18) ⊎ (n ≡ 3))

-- written, and then read, order after order: those of each layer as printed, and the finish
pub record WrittenThenRead (N T step : ℕ) (cures : List ℕ) (zs : List ℤ) (out : List ℕ) : Type 0 where
  pub length-is : length (order_bytes step cures zs) ≡ 16 * count zs + 6
  pub file : take (16 * count zs + 6) (left_by (writing_orders N T step cures zs out)) ≡ order_bytes step cures zs
  -- what stands behind it stays
  pub kept : drop (16 * count zs + 6) (left_by (writing_orders N T step cures zs out)) ≡ drop (16 * count zs + 6) out
  pub lifts : (k : ℕ) → k < count zs → answer_of (reading_order N T step cures (order_bytes step cures zs) (2 * k))
      ≡ done (Lift (printed_layer (nat_abs (zs ! suc k -ℤ zs ! 0)) (thickness zs k) step (cure_of cures (thickness zs k))).height)
  pub cures-for : (k : ℕ) → k < count zs → answer_of (reading_order N T step cures (order_bytes step cures zs) (2 * k + 1))
      ≡ done (Cure (printed_layer (nat_abs (zs ! suc k -ℤ zs ! 0)) (thickness zs k) step (cure_of cures (thickness zs k))).cure)
  pub finishes : (number : ℕ) → 2 * count zs ≤ number → answer_of (reading_order N T step cures (order_bytes step cures zs) number) ≡ done (Finish (count zs))

-- DOCUMENT 02 E), a field for each of its sentences, where what both calls are handed is in order
pub record PrintingOrders (N T step : ℕ) (cures : List ℕ) : Type 0 where
  pub floats : FloatsExactly N T step
  pub layers : (zs : List ℤ) → Orderable N T cures zs → PrintsExactly N T step cures zs
  pub writes : (zs : List ℤ) (out : List ℕ) → WritesExactly N T step cures zs out
  pub reads : (file : List ℕ) → Bytes file → (number : ℕ) → ReadsExactly N T step cures file number
  pub trips : (zs : List ℤ) → Orderable N T cures zs → (out : List ℕ) → 16 * count zs + 6 ≤ length out → WrittenThenRead N T step cures zs out
