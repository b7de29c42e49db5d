-- `read_entries` meets its contract: 11 where no end height has an entry, 12 where the walk down from the lowest one with the least entry has a fault,
-- and else that entry, with the walk written. Assumes nothing.
use Rattle.std.proofs.Common.{Err, ◌≡◌, ℕ, ◌+◌, ◌<◌, ◌++◌, length, map, take, drop, rules, arith, ap, ◌∙◌, length-take-le}
use Rattle.std.proofs.lemmas.List.{length-take}
use Rattle.plate.specs.Datum.{height_of}
use Rattle.plate.specs.declared.refusal.Refusal.{Refusal}
use Rattle.plate.specs.declared.refusal.Reason.TheVariants as reason
use Rattle.plate.proofs.Calls.{handed-is}
use Rattle.readback.specs.Walking.{fault_of}
use Rattle.readback.proofs.Ends as ends
use Rattle.readback.proofs.Walks.{noted-under}
use Rattle.readback.proofs.Answers.{room-passed, no_end, bad-walk, good-walk, err_made, ok_made}
use Rattle.readback.proofs.Sheets.read_entries.Goals as goal
use Rattle.readback.proofs.Sheets.read_entries.Goals.{In-Some}

pub returns-in_default : goal.returns-in_default
returns-in_default c =
    let a = c.args.self.now in
    rw c.refusal_at.ensures (no_end _ _ _ _ _ _ c.requires (ends.without-end a.settings a.sound _ a.errors_whole _ a.few c.in_default.ensures))

-- the end that was found is that of one of the last tmax rows
low : (c : In-Some) → c.in-Some.end.place < c.args.self.now.settings.tmax
low c = let a = c.args.self.now in ends.top-low a.settings a.sound _ a.errors_whole _ a.few c.in-Some.end c.in-Some.ensures

pub overflow_add-top-2 : goal.overflow_add-top-2
overflow_add-top-2 c = let k = c.args.self.now.sound in omega (arith, low (goal.at.overflow_add-top-2 c).In-Some, k.high, k.thick)

pub overflow_cast-top : goal.overflow_cast-top
overflow_cast-top c = let k = c.args.self.now.sound in omega (arith, low (goal.at.overflow_cast-top c).In-Some, k.high, k.thick)

pub walk_down-requires-clause-in_sheet : goal.walk_down-requires-clause-in_sheet
walk_down-requires-clause-in_sheet c =
    let k = c.args.self.now.sound in
    omega (arith, low (goal.at.walk_down-requires-clause-in_sheet c).In-Some, k.rows_are, k.low)

pub returns-in_err-map_err : goal.returns-in_err-map_err
returns-in_err-map_err c =
    let a = c.args.self.now in
    let bad =
    err_made c.walk_down.result c.map_err.result _ (λ (e : ℕ) (r : Refusal). r ≡ record { reason = reason.Unreadable; place = e }) (λ e r k. search rules) c.map_err.ensures.cases _
    c.in_err-map_err.was in
    rw (handed-is _ _ c.from_residual.ensures.1, bad.2)
    (bad-walk _ _ _ _ _ _ c.requires (ends.with-end a.settings a.sound _ a.errors_whole _ a.few c.in-Some.end c.in-Some.ensures) _ _
    (ends.top-row a.settings a.sound _ a.errors_whole _ a.few c.in-Some.end c.in-Some.ensures) c.walk_down.ensures.ends _ (ap fault_of {y = Err bad.0} bad.1))

pub write_heights-requires : goal.write_heights-requires
write_heights-requires c =
    let room = room-passed _ _ _ _ _ _ c.requires in
    omega (arith, room.output, length-take (c.args.self.now.layers + 1) c.walk_down.new.heights)

pub returns : goal.returns
returns c =
    let a = c.args.self.now in
    let heights = c.walk_down.new.heights in
    let long : length (take (a.layers + 1) heights) ≡ a.layers + 1 = length-take-le (a.layers + 1) heights (omega (arith, a.few, a.sound.few-counts)) in
    let fine = ap fault_of (ok_made _ _ _ c.map_err.ensures.cases _ c.in_ok-map_err.was) in
    good-walk _ _ _ _ _ _ c.requires (ends.with-end a.settings a.sound _ a.errors_whole _ a.few c.in-Some.end c.in-Some.ensures) _ _
    (ends.top-row a.settings a.sound _ a.errors_whole _ a.few c.in-Some.end c.in-Some.ensures) c.walk_down.ensures.ends _ _
    (ends.error-is a.settings a.sound _ a.errors_whole _ a.few c.in-Some.end c.in-Some.ensures) fine
    (noted-under _ _ _ _ _ _ _ _ _ c.walk_down.ensures fine
    (c.write_heights.ensures ∙ ap (λ (i : ℕ). map height_of (take (a.layers + 1) heights) ++ drop i c.args.out.now) long))
