-- The table's checks passed, so that the output's length decides; where it is enough, the file is written. Assumes nothing.
use Rattle.std.proofs.Common.{◌≡◌, ◌≤◌, length, sym, ap, ◌∙◌, arith}
use mathlib.Core.Option.{some}
use Rattle.plate.specs.Head.{Held, held_in}
use Rattle.plate.specs.Refusal.{numbered}
use Rattle.plate.specs.declared.refusal.Refusal.{Refusal}
use Rattle.plate.proofs.Calls.{refuses, works}
use Rattle.plate.proofs.Heads.{cells-for}
use Rattle.sent.specs.Written.{file_size}
use Rattle.sent.proofs.Places.{end-place}
use Rattle.table.proofs.Passed.{table-passed}
use Rattle.send.specs.Sending.{sending}
use Rattle.send.proofs.Answers.{output-stop, all_pass, file-left}
use Rattle.send.proofs.write_checked.Goals as goal

pub returns-then-out-size : goal.returns-then-out-size
unfolding sending
returns-then-out-size c =
    let a = c.args in
    let r = c.requires in
    let held : Held = held_in a.head a.table.now in
    refuses (sending held a.out.now) c.refusal_at.result
    (ap (λ (r : Refusal). some (numbered r)) c.refusal_at.ensures ∙ output-stop held a.out.now r.none_value (omega (arith, c.size_of-size.ensures, end-place r.settings_for)))

pub write_file-requires : goal.write_file-requires
write_file-requires c =
    let a = c.args in
    let r = c.requires in
    record {
      settings_for = r.settings_for;
      cells_in_bounds = (table-passed (held_in a.head a.table.now) r.settings_for r.none_value).room;
      size_value = (c.size_of-size.ensures ∙ sym (end-place r.settings_for), omega arith);
    }

pub returns : goal.returns
unfolding sending
returns c =
    let a = c.args in
    let r = c.requires in
    let held : Held = held_in a.head a.table.now in
    let size : c.size_of-size.result ≡ file_size a.head = c.size_of-size.ensures ∙ sym (end-place r.settings_for) in
    let room : file_size a.head ≤ length a.out.now = omega arith in
    works (sending held a.out.now) _ _ (all_pass held a.out.now r.none_value room) size
    (c.write_file.ensures ∙ file-left held a.out.now (omega (arith, (table-passed held r.settings_for r.none_value).room, cells-for r.settings_for)) room)
