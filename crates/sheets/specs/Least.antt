-- The least of some entries as the code has it: its error and its place, and none where there is none. Assumes nothing.
use Rattle.std.specs.Prelude.{◌≡◌, Option, Some, None}
use Rattle.lists.specs.Best.{Best, nothing, found}
use Rattle.sheets.specs.declared.Least.{Least}

abbrev pub as_least : Best → Option Least
as_least nothing = None
as_least (found error place) = Some (record { error = error; place = place })

pub record IsLeast (least : Option Least) (best : Best) : Type 0 where
  pub is : least ≡ as_least best
