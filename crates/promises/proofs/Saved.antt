-- Saving a plate. The reader's checks pass exactly on document 01's settings and columns, so that a job which can be saved is one in order (crate
-- `job`); what is written of it is read back, and a file without remarks is what is written of its job (crate `save`). A file is read as one
-- job only, so two jobs never give the same file. Assumes nothing.
use mathlib.Core.Path.{◌≡◌, refl, sym, ap, subst, ◌∙◌}
use mathlib.Core.Logic.{◌↔◌}
use mathlib.Core.List.{List, [], ◌∷◌}
use mathlib.Core.Option.{none}
use Prim.Native.Nat.{ℕ}
use Rattle.lists.specs.Checks.{first}
use Rattle.paper.specs.Layer.{Column}
use Rattle.plate.specs.Refusal.{done}
use Rattle.column.proofs.Fine.{settings-fine, column-fine, settings-passed}
use Rattle.record.specs.Bytes.{Bytes}
use Rattle.job.specs.File.{Job, Asking, whole_file}
use Rattle.job.specs.Reached.{ColumnsInOrder, Ordered}
use Rattle.job.specs.Written.{written}
use Rattle.job.proofs.Whole.{whole-ordered}
use Rattle.save.proofs.Laid.{length-written, bytes-written}
use Rattle.save.proofs.Reread.{read_back}
use Rattle.save.proofs.Rewritten.{written_back}
use Rattle.promises.specs.Runs.{Columns}
use Rattle.promises.specs.Saved.{Savable, nothing_more, Plainly, Saving}
use Rattle.promises.proofs.Files.{columns-passed}
use Rattle.promises.proofs.Writes.{saves, takes}

columns-fine : (N : ℕ) (columns : List Column) → Columns N columns → ColumnsInOrder N columns
columns-fine N [] c = tt
columns-fine N (one ∷ others) c = (column-fine N one c.0, columns-fine N others c.1)

module _ (asking : Asking) where
  read-after-write : (job : Job) → Savable job → first (asking 0 job.asked) ≡ none → Plainly asking (written job) job
  read-after-write job p unasked =
      let o : Ordered asking job = record {
        fine = settings-fine job.asked.height job.asked.members p.settings;
        place = 0;
        unasked = unasked;
        bits = p.settings.bits;
        low-bound = p.bound;
        order = columns-fine job.asked.height job.columns p.columns;
        few = p.few;
      } in
      let b = read_back asking job o unasked in
      record { read = b.0; unremarked = b.1 }

  module _ (s : List ℕ) (byte : Bytes s) (job : Job) where
    write-after-read : Plainly asking s job → written job ≡ s
    write-after-read p = written_back asking s byte job p.read p.unremarked

    savable : whole_file asking s ≡ done job → Savable job
    savable e =
        let o = whole-ordered asking s byte job e in
        record {
          settings = settings-passed job.asked.height job.asked.members o.bits o.fine;
          bound = o.low-bound;
          columns = columns-passed job.asked.height job.columns o.order;
          few = o.few;
        }

injective : (job other : Job) → Savable job → Savable other → written job ≡ written other → job ≡ other
injective job other p q e =
    let a = (read-after-write nothing_more job p refl).read in
    let b = (read-after-write nothing_more other q refl).read in
    let c = sym a ∙ ap (whole_file nothing_more) e ∙ b in
    cc

exactly : (s : List ℕ) → Bytes s → (job : Job) → Plainly nothing_more s job ↔ (Savable job × (s ≡ written job))
exactly s byte job = (
  λ p. (savable nothing_more s byte job p.read, sym (write-after-read nothing_more s byte job p)),
  λ r. subst (λ (x : List ℕ). Plainly nothing_more x job) (sym r.1) (read-after-write nothing_more job r.0 refl),
)

pub saving : Saving
saving = record {
  read-after-write = read-after-write;
  write-after-read = write-after-read;
  savable = savable;
  injective = injective;
  exactly = exactly;
  bytes = bytes-written;
  size = length-written;
  saves = λ N T bound bits low run counts out. saves N T bound run counts out bits low;
  takes = takes;
}
