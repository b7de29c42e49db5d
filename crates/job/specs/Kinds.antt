-- Document 01, 'Job file': the kinds of records, which are allowed where, and which body lengths are right. Assumes nothing.
use Rattle.std.specs.Prelude.{ℕ, ◌%◌, Bool, true, false, not, cond, leb, eqb}
use Rattle.job.specs.declared.State.{State}
use Rattle.job.specs.declared.Kind.{Kind}
use Rattle.job.specs.declared.Kind.TheVariants as kind

-- 'Kind 1, settings, .. Kind 2, column, .. Kind 3, end, .. Kinds 32768 to 65535 are remarks'
abbrev pub settings_kind : ℕ
settings_kind = 1

abbrev pub column_kind : ℕ
column_kind = 2

abbrev pub end_kind : ℕ
end_kind = 3

abbrev pub first_remark : ℕ
first_remark = 32_768

-- 'Other kinds are refused'
abbrev pub kind_of : ℕ → Kind
kind_of number =
    cond (eqb number settings_kind) kind.Settings
    (cond (eqb number column_kind) kind.Column
    (cond (eqb number end_kind) kind.End
    (cond (leb first_remark number) kind.Remark
    kind.Refused)))

-- 'Exactly one kind 1 comes first, remarks aside; then columns; then one end': by the kinds before it alone
abbrev pub allowed_here : State → Kind → Bool
allowed_here st kind.Settings = not st.begun
allowed_here st kind.Column = st.begun
allowed_here st kind.End = st.begun
allowed_here st kind.Remark = true
allowed_here st kind.Refused = false

-- the body's length is right for the kind
abbrev pub fits : Kind → ℕ → Bool
fits kind.Settings len = eqb len 10
fits kind.Column len = eqb (len % 2) 0
fits kind.End len = eqb len 4
fits kind.Remark len = true
fits kind.Refused len = true
