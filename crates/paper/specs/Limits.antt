-- Document 01's limits, each by its name: the number stands here and nowhere else. Assumes nothing.
use Rattle.std.specs.Prelude.{ℕ, ◌-◌, ◌^◌}

-- 'Height is at least 1 and at most 512 units'
abbrev pub least_height : ℕ
least_height = 1

abbrev pub greatest_height : ℕ
greatest_height = 512

-- thicknesses are 1 to 32
abbrev pub most_thickness : ℕ
most_thickness = 32

-- 'A column is a list of 0 to 64 .. boundaries'
abbrev pub most_boundaries : ℕ
most_boundaries = 64

-- 'With a table goes its column count c, at most 1,000,000'
abbrev pub most_columns : ℕ
most_columns = 1_000_000

-- 'T is 32 bits': so many thickness sets there are
abbrev pub sets : ℕ
sets = 2 ^ 32

-- 'The bound is 32 bits; its largest value excludes nothing'
abbrev pub largest_bound : ℕ
largest_bound = 2 ^ 32 - 1
