-- Document 02 c), 'one start (signed, 2)': the start of each row, and whole numbers as 16 bits. Assumes nothing.
use Rattle.std.specs.Prelude.{ℕ, ◌-◌, ◌%◌, cond, ltb, ℤ, pos, negsuc, ◌-ℤ◌}
use Rattle.paper.specs.Layer.{tmax}

-- 'starts rising, every start present': that of row r, from 0
unfoldable pub row_start : ℕ → ℕ → ℤ
row_start T r = pos r -ℤ pos (tmax T - 1)

-- a whole number in two's complement; reduced, so that it is 16 bits whatever the number
unfoldable pub twos16 : ℤ → ℕ
twos16 (pos n) = n % 65_536
twos16 (negsuc n) = 65_535 - n % 65_536

-- 16 bits as a whole number
unfoldable pub signed16 : ℕ → ℤ
signed16 n = cond (ltb n 32_768) (pos n) (negsuc (65_535 - n))
