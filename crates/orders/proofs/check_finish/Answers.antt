-- `check_finish` meets its contract: the number, the height, and then the bytes behind. Assumes nothing.
use Rattle.std.proofs.Common.{◌≡◌, sym, ap, ◌∙◌, [], ◌∷◌, ℕ, ◌+◌, ◌*◌, arith}
use mathlib.Core.Option.{some}
use Rattle.lists.specs.Checks.{first}
use Rattle.plate.specs.Refusal.{Numbered}
use Rattle.record.specs.Faults.{tail}
use Rattle.orders.proofs.Judged.{finish-miscounted, finish-low, finish-high}
use Rattle.orders.proofs.check_finish.Goals as goal

pub returns-then-from-read : goal.returns-then-from-read
returns-then-from-read c =
    ap (λ (n : Numbered). some n) c.at.ensures
    ∙ finish-miscounted _ _ _ (λ e. c.if-from-read.true (c.from.ensures ∙ c.word.ensures ∙ e))

pub returns-then-read-s : goal.returns-then-read-s
returns-then-read-s c =
    ap (λ (n : Numbered). some n) c.at-then-read-s.ensures
    ∙ finish-low _ _ _ (sym (c.from.ensures ∙ c.word.ensures) ∙ c.if-from-read.false) c.if-read-s.true

pub returns : goal.returns
returns c =
    let a = c.args in
    let past : 16 * a.read.layers + 6 ≡ 16 * a.read.layers + 4 + 2 = omega arith in
    c.check_tail.ensures ∙ ap (λ (n : ℕ). first (tail a.file.now n ∷ [])) past ∙ finish-high _ _ _ (sym (c.from.ensures ∙ c.word.ensures) ∙ c.if-from-read.false) c.if-read-s.false
