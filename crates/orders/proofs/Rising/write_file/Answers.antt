-- `write_file` meets its contract: 18 and 3 are its two tests, and past them the layers and the finish are stored one behind the other. Assumes nothing.
use Rattle.std.proofs.Common.{◌≡◌, sym, ap, ◌∙◌, ℕ, ◌+◌, ◌-◌, ◌*◌, ◌≤◌, List, length, ℤ, arith}
use Rattle.std.proofs.lemmas.List.Edits.{sets}
use Rattle.std.proofs.Math.Seq.{length-sets}
use mathlib.Core.Option.{some}
use Rattle.paper.specs.Sequence.{count}
use Rattle.plate.specs.Refusal.{numbered}
use Rattle.plate.specs.declared.refusal.Refusal.{Refusal}
use Rattle.plate.proofs.Calls.{refuses, works}
use Rattle.record.specs.Written.{bytes16, framed}
use Rattle.printed.specs.Paper.{layers_to}
use Rattle.printed.specs.Bytes.{bytes_of}
use Rattle.orders.specs.Kinds.{finish_kind}
use Rattle.orders.specs.Parts.{Climbs}
use Rattle.orders.specs.Written.{record_bytes, file_size}
use Rattle.orders.specs.Writing.{first_uncured, filing}
use Rattle.orders.proofs.Sequences.{layers-are, few-layers}
use Rattle.orders.proofs.Records.{file-stored}
use Rattle.orders.proofs.Writes.{uncured-is, uncured-stop, output-stop, all_pass}
use Rattle.orders.proofs.Rising.write_file.Goals as goal

module _ (zs : List ℤ) (climbs : Climbs zs) where
  layers : length zs - 1 ≡ count zs
  layers = sym (layers-are zs climbs)

  few : length zs - 1 ≤ 600
  few = omega (arith, layers, few-layers zs climbs)

  size_is : 16 * (length zs - 1) + 6 ≡ file_size (count zs)
  unfolding file_size
  size_is = omega (arith, layers)

pub returns-in-Some : goal.returns-in-Some
unfolding filing
returns-in-Some c =
    let a = c.args in
    let e = c.in-Some.ensures in
    let is = sym (uncured-is a.step a.cure.now a.self.now.boundaries.now a.out.now) ∙ e.0 in
    refuses (filing a.step a.cure.now a.self.now.boundaries.now a.out.now) c.refusal_at.result
    (ap (λ (r : Refusal). some (numbered r)) c.refusal_at.ensures
    ∙ ap (λ (n : ℕ). some (record { number = 18; place = n + 1 })) (sym is)
    ∙ uncured-stop a.step a.cure.now a.self.now.boundaries.now a.out.now (omega (arith, is, e.1)))

pub overflow_mul-size : goal.overflow_mul-size
overflow_mul-size c = omega (arith, few c.args.self.now.boundaries.now c.args.self.now.climbs)

pub overflow_add-size : goal.overflow_add-size
overflow_add-size c = omega (arith, few c.args.self.now.boundaries.now c.args.self.now.climbs)

-- no cure time is 0
cured : (step : ℕ) (cures : List ℕ) (zs : List ℤ) (out : List ℕ) → first_uncured cures zs ≡ count zs → count zs ≤ first_uncured cures zs
cured step cures zs out e = omega (arith, e)

pub returns-then-out-size : goal.returns-then-out-size
unfolding filing
returns-then-out-size c =
    let a = c.args in
    let is = sym (uncured-is a.step a.cure.now a.self.now.boundaries.now a.out.now) ∙ c.in_default.ensures in
    refuses (filing a.step a.cure.now a.self.now.boundaries.now a.out.now) c.refusal_at-then-out-size.result
    (ap (λ (r : Refusal). some (numbered r)) c.refusal_at-then-out-size.ensures
    ∙ output-stop a.step a.cure.now a.self.now.boundaries.now a.out.now (cured a.step _ _ a.out.now is) (omega (arith, size_is a.self.now.boundaries.now c.args.self.now.climbs)))

pub write_finish-requires : goal.write_finish-requires
write_finish-requires c =
    let a = c.args in
    let zs = a.self.now.boundaries.now in
    let layers_bytes = bytes_of (record_bytes a.step) (layers_to a.cure.now zs (count zs)) in
    let long = ap (λ (l : List ℕ). length l) c.write_layers.ensures ∙ length-sets a.out.now 0 layers_bytes in
    (omega (arith, few zs c.args.self.now.climbs), omega (arith, long))

pub returns : goal.returns
unfolding filing
returns c =
    let a = c.args in
    let zs = a.self.now.boundaries.now in
    let is = sym (uncured-is a.step a.cure.now zs a.out.now) ∙ c.in_default.ensures in
    let n = layers zs c.args.self.now.climbs in
    let room : file_size (count zs) ≤ length a.out.now = omega (arith, size_is zs c.args.self.now.climbs) in
    works (filing a.step a.cure.now zs a.out.now) _ _ (all_pass a.step a.cure.now zs a.out.now (cured a.step _ _ a.out.now is) room) (size_is zs c.args.self.now.climbs)
    (c.write_finish.ensures
    ∙ ap (λ (n : ℕ). sets c.write_layers.new.out (16 * (length zs - 1)) (framed finish_kind (bytes16 n))) n
    ∙ file-stored a.step a.cure.now zs a.out.now c.write_layers.new.out (16 * (length zs - 1)) c.write_layers.ensures (omega (arith, n)) room)
