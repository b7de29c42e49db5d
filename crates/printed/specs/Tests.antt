-- Document 02 e), 'the first record after which no such file is possible': the reader's tests on layers, each by what was read before it alone.
-- Assumes nothing.
use Rattle.std.specs.Prelude.{ℕ, ◌+◌, Bool, true, false, ◌&&◌, List, [], ◌∷◌, leb, ltb}
use Rattle.printed.specs.Possible.{usable}

-- the first layer may be this thick
abbrev pub may_begin : ℕ → List ℕ → ℕ → Bool
may_begin T cures t = usable T cures t

-- over layers of height h, the first of them as thick as `first`, one of thickness t may follow: from the lowest start, 1 - first, they
-- end below N
unfoldable pub may_lift : ℕ → ℕ → List ℕ → ℕ → ℕ → ℕ → Bool
may_lift N T cures first h t = usable T cures t && ltb (h + 1) (N + first)

-- at least one layer being read, they may be all
abbrev pub may_finish : ℕ → ℕ → Bool
may_finish N h = leb N h

-- the lifts of ts one after the other, over layers of height h
unfoldable pub lifts : ℕ → ℕ → List ℕ → ℕ → ℕ → List ℕ → Bool
lifts N T cures first h [] = true
lifts N T cures first h (t ∷ ts) = may_lift N T cures first h t && lifts N T cures first (h + t) ts

-- the lifts of ts from the first on
unfoldable pub passes : ℕ → ℕ → List ℕ → List ℕ → Bool
passes N T cures [] = true
passes N T cures (t ∷ ts) = may_begin T cures t && lifts N T cures t t ts

-- and a finish after them
unfoldable pub finishes : ℕ → ℕ → List ℕ → ℕ → ℕ → List ℕ → Bool
finishes N T cures first h [] = may_finish N h
finishes N T cures first h (t ∷ ts) = may_lift N T cures first h t && finishes N T cures first (h + t) ts

unfoldable pub accepts : ℕ → ℕ → List ℕ → List ℕ → Bool
accepts N T cures [] = false
accepts N T cures (t ∷ ts) = may_begin T cures t && finishes N T cures t t ts
