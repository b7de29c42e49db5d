-- The version of the interface for other languages, which include/shagorent.h has too. Assumes nothing.
use Rattle.std.specs.Prelude.{ℕ, ◌+◌, ◌*◌}

-- another major version: a struct or a call's parameters are others; another minor one: there is more, or a rule is another; another patch: neither
abbrev pub major : ℕ
major = 5

abbrev pub minor : ℕ
minor = 0

abbrev pub patch : ℕ
patch = 0

-- the three as one number, so that a later version is a greater number
abbrev pub version : ℕ
version = major * 10_000 + minor * 100 + patch
