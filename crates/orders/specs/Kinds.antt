-- Document 02 e), the kinds of records of an order file, which are allowed where, and which body lengths are right. Assumes nothing.
use Rattle.std.specs.Prelude.{◌≡◌, ℕ, Bool, cond, ltb, eqb, Result, Ok, Err}
use Rattle.orders.specs.declared.Kind.{Kind}
use Rattle.orders.specs.declared.Kind.TheVariants as kind
use Rattle.orders.specs.declared.UnknownKind.{UnknownKind}

-- 'kind 48 and 49 with the float's four bytes, in turn for each layer, then one kind 50 with a two-byte layer count'
abbrev pub lift_kind : ℕ
lift_kind = 48

abbrev pub cure_kind : ℕ
cure_kind = 49

abbrev pub finish_kind : ℕ
finish_kind = 50

-- the number of a kind
abbrev pub number_of : Kind → ℕ
number_of kind.Lift = lift_kind
number_of kind.Cure = cure_kind
number_of kind.Finish = finish_kind

-- a number is decoded to the kind that has it, and to no other; a number that no kind has is handed back
abbrev pub Decodes : ℕ → Result Kind UnknownKind → Type 0
Decodes number (Ok k) = number ≡ number_of k
Decodes number (Err e) = (e.0 ≡ number) × ((k : Kind) → number ≡ number_of k → ⊥)

abbrev pub float_length : ℕ
float_length = 4

abbrev pub finish_length : ℕ
finish_length = 2

-- after so many layers: a lift, or behind at least one layer the finish
unfoldable pub allowed_after : ℕ → ℕ → Bool
allowed_after layers kind = cond (eqb kind finish_kind) (ltb 0 layers) (eqb kind lift_kind)

-- the length is right for the kind
unfoldable pub fits : ℕ → ℕ → Bool
fits kind length = cond (eqb kind finish_kind) (eqb length finish_length) (eqb length float_length)
