-- The limits are those of the columns that are left, which are no more than the first table's, so that none is above the greatest; and the
-- second table, being in order, has no cell above it.
use Rattle.std.proofs.Common.{List, ℕ, ◌≡◌, subst}
use Rattle.plate.specs.Head.{Held, less, capped, SettingsFor}
use Rattle.plate.specs.declared.head.Head.{Head}
use Rattle.plate.specs.declared.settings.Settings.{Settings}
use Rattle.plate.proofs.Heads.{capped_same, cells-for, less-not-over}
use Rattle.table.specs.Limits.{Limits}
use Rattle.table.proofs.Limits.{limits-under, lowest_as}
use Rattle.joining.specs.Handed.{seen}
use Rattle.joining.specs.Joining.{PairInOrder}
use Rattle.joining.proofs.Parts.{part_at}
use Rattle.joining.proofs.first_not_part.Goals as goal

-- the limits of what is left
rest-limits : (held other : Held) {s : Settings} (p : PairInOrder held other s) (rest : Head) (limits : List ℕ) → rest ≡ less held.head other.head → Limits (capped rest) limits
    → Limits (less held.head other.head) limits
rest-limits held other p rest limits e are =
    subst (λ (head : Head). Limits head limits) (capped_same (less held.head other.head) (less-not-over held.head other.head p.one.few))
    (subst (λ (head : Head). Limits (capped head) limits) e are)

pub first_apart-requires-clause-under_greatest : goal.first_apart-requires-clause-under_greatest
first_apart-requires-clause-under_greatest c =
    let p = c.requires.pair_in_order in
    let held = seen c.args.held in
    let other = seen c.args.other in
    (limits-under (less-not-over held.head other.head p.one.few) (rest-limits held other p _ _ c.without.ensures c.limits_of-limits.ensures), p.two.small)

pub returns : goal.returns
returns c =
    let k = c.requires.settings_for in
    let held = seen c.args.held in
    let other = seen c.args.other in
    let for : SettingsFor (less held.head other.head) c.args.s = record { is = k.is; sound = k.sound } in
    let are = rest-limits held other c.requires.pair_in_order _ _ c.without.ensures c.limits_of-limits.ensures in
    lowest_as _ _ _ _ _ (cells-for k) (λ i l. part_at for _ _ _ are i) c.first_apart.ensures
