-- The rules of a height, a thickness set and a bound, over any layers' errors. Assumes nothing.
use Rattle.std.specs.Prelude.{ℕ, ◌+◌, Bool, ◌&&◌, leb, ltb}
use Rattle.paper.specs.Layer.{allowed, tmax}
use Rattle.sequence.specs.Sequence.{Rules, lowest_end}

-- the shape of a layer from h of thickness t, whatever its error is: a thickness in T, an end above 0, a start below N. So it holds some of the
-- plate's heights; and as it is no thicker than tmax, it starts above -tmax and ends below N + tmax
unfoldable pub shape : ℕ → ℕ → ℕ → ℕ → Bool
shape N T h t = allowed T t && (ltb 32 (h + t) && ltb h (lowest_end N))

abbrev pub rules : ℕ → ℕ → ℕ → (ℕ → ℕ → ℕ) → Rules
rules N T bound cell =
    record { cell = cell; may = λ h t. shape N T h t && leb (cell h t) bound; tmax = tmax T; height = N }
