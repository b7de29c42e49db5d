-- `inside_of` meets its contract: a voxel is inside where an odd number of boundaries is at or below it. Assumes nothing.
use Rattle.std.proofs.Common.{◌≡◌, ◌+◌, ◌-◌, ◌%◌, ap, ◌∙◌, sym, arith}
use Rattle.column.specs.Inside.{passed}
use Rattle.column.proofs.Inside.{inside-none, inside-more}
use mir.Val.{bool_byte}
use Rattle.std.proofs.Common.{Bool, true, false, refl}
use Rattle.column.proofs.Shares.{bit, odd}
use Rattle.column.proofs.inside_of.Goals as goal

-- a test as the number that it is cast to
as_number : (b : Bool) → bool_byte b ≡ bit b
as_number true = refl
as_number false = refl

pub loop-h-init : goal.loop-h-init
loop-h-init c = let e : c.args.start - c.args.start ≡ 0 = omega arith in record { counted = rw e (sym (inside-none _ _)); few = omega arith }

pub loop-h-preserved : goal.loop-h-preserved
loop-h-preserved c =
    let l = c.loop-h in
    let a = c.args in
    let next : l.h + 1 - a.start ≡ l.h - a.start + 1 = omega arith in
    let here : a.start + (l.h - a.start) ≡ l.h = omega arith in
    let more = inside-more a.column.now a.start (l.h - a.start) in
    let one : c.from-n.result ≡ passed a.column.now l.h % 2 = c.from-n.ensures ∙ as_number _ ∙ odd c.passed_at.result ∙ ap (λ n. n % 2) c.passed_at.ensures in
    let there = ap (λ h. passed a.column.now h % 2) here in
    record { counted = rw next (omega (arith, more, there)); few = omega (arith, one) }
