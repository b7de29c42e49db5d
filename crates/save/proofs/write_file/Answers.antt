-- The settings, the columns and the end are stored one behind the other. Assumes nothing.
use Rattle.std.proofs.Common.{◌≡◌, ℕ, ◌+◌, ◌-◌, ◌≤◌, List, ◌++◌, length, sym, ap, ◌∙◌, arith}
use Rattle.std.proofs.Math.Seq.{length-sets}
use Rattle.std.proofs.lemmas.List.Edits.{sets}
use Rattle.record.proofs.Stores.{stored-then}
use Rattle.job.specs.declared.Asked.{Asked}
use Rattle.job.specs.Written.{settings_record, column_records, end_record, written}
use Rattle.save.specs.Runs.{total, columns_in, file_size}
use Rattle.save.proofs.Laid.{length-settings, length-columns}
use Rattle.save.proofs.Runs.{length-columns_in, boundaries-are}
use Rattle.save.proofs.Counts.{counts-right}
use Rattle.save.proofs.write_file.Goals as goal

module _ (asked : Asked) (counts run out : List ℕ) (size : ℕ) (enough : total counts ≤ length run) (e : size ≡ file_size counts) where
  -- the end stands behind the columns
  end-place : size - 8 ≡ 14 + length (column_records (columns_in counts run))
  unfolding file_size
  end-place = omega (arith, e, length-columns (columns_in counts run), length-columns_in counts run, boundaries-are counts run enough)

  -- the three parts are the file
  laid-out : (first second third : List ℕ) → first ≡ sets out 0 (settings_record asked) → second ≡ sets first 14 (column_records (columns_in counts run))
      → third ≡ sets second (size - 8) (end_record (length counts)) → third ≡ sets out 0 (written (record { asked = asked; columns = columns_in counts run }))
  unfolding written
  laid-out first second third f g h =
      let records = column_records (columns_in counts run) in
      let end = end_record (length counts) in
      h
      ∙ stored-then first second 14 (size - 8) records end g end-place
      ∙ stored-then out first 0 14 (settings_record asked) (records ++ end) f (omega (arith, length-settings asked))
      ∙ ap (λ (n : ℕ). sets out 0 (settings_record asked ++ (records ++ end_record n))) (sym (length-columns_in counts run))

pub write_settings-requires : goal.write_settings-requires
unfolding file_size
write_settings-requires c = (c.requires.height_le_greatest_height, omega (arith, c.requires.size_value.0, c.requires.size_value.1))

pub write_columns-requires : goal.write_columns-requires
unfolding file_size
write_columns-requires c =
    let a = c.args in
    let r = c.requires in
    let long : length c.write_settings.new.out ≡ length a.out.now = ap (λ (l : List ℕ). length l) c.write_settings.ensures ∙ length-sets a.out.now 0 (settings_record a.asked) in
    record { none_value = r.none_value; counts_in_bounds = r.counts_in_bounds; counts_in_bounds_2 = omega (arith, long, r.size_value.0, r.size_value.1) }

pub overflow_sub-size : goal.overflow_sub-size
unfolding file_size
overflow_sub-size c = omega (arith, c.requires.size_value.0)

pub write_end-requires : goal.write_end-requires
unfolding file_size
write_end-requires c =
    let a = c.args in
    let r = c.requires in
    let first : length c.write_settings.new.out ≡ length a.out.now = ap (λ (l : List ℕ). length l) c.write_settings.ensures ∙ length-sets a.out.now 0 (settings_record a.asked) in
    let second = ap (λ (l : List ℕ). length l) c.write_columns.ensures ∙ length-sets c.write_settings.new.out 14 (column_records (columns_in a.counts.now a.run.now)) in
    ((counts-right a.counts.now r.none_value).few, omega (arith, first, second, r.size_value.0, r.size_value.1))

pub returns : goal.returns
returns c =
    let a = c.args in
    let r = c.requires in
    laid-out a.asked a.counts.now a.run.now a.out.now a.size r.counts_in_bounds r.size_value.0 _ _ _ c.write_settings.ensures c.write_columns.ensures c.write_end.ensures
