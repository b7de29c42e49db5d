-- One number more, by the law that each takes so many bytes. Assumes nothing.
use Rattle.std.proofs.Common.{ℕ, ◌+◌, ◌*◌, List, take, length, ◌∙◌, ap, arith}
use Rattle.std.proofs.Math.Nat.{mul-le-mul_right}
use Rattle.std.proofs.lemmas.List.Edits.{sets}
use Rattle.record.specs.Written.{spelled}
use Rattle.record.proofs.Stores.{one-more, put-sets}
use Rattle.record.proofs.store_all.Goals as goal

pub loop-i-preserved : goal.loop-i-preserved
loop-i-preserved g c =
    let a = c.args in
    let bytes = g.T.Stored.bytes in
    let i = c.loop-i.i in
    let n = c.index-numbers-i.result in
    let next = a.at + g.row.N * i in
    let long = g.met.T.Stored.long n in
    let room = mul-le-mul_right g.row.N c.loop-i-test.true in
    put-sets c.loop-i.out c.copy_from_slice.new.self (bytes n) next _ (c.copy_from_slice.ensures.after ∙ c.to_bytes.ensures) (omega (arith, long)) (omega (arith, long, room, c.requires, c.loop-i.auto.out))
    ∙ ap (λ (l : List ℕ). sets l next (bytes n)) c.loop-i.invariant
    ∙ one-more bytes g.row.N g.met.T.Stored.long a.out.now a.at i a.numbers.now n c.loop-i-test.true c.index-numbers-i.is
