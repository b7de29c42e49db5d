-- `read_file` meets its contract: each way out of a turn is one of the laws of `Walk`. Assumes nothing.
use Rattle.std.proofs.Common.{◌≡◌, sym, ap, ◌∙◌, subst, ℕ, ◌+◌, ◌-◌, ◌*◌, ◌<◌, true, false, List, length, arith}
use Prim.Native.Nat.{suc}
use mathlib.Core.Option.{Option, none, some}
use borrow.Author.Tests.{eq-eqb, ne_eqb}
use Rattle.lists.specs.Checks.{first}
use Rattle.plate.specs.Refusal.{Numbered, numbered, told, told_by, decided, refused}
use Rattle.plate.specs.declared.refusal.Refusal.{Refusal}
use Rattle.plate.proofs.Calls.{handed-told}
use Rattle.record.specs.Frame.{kind_at}
use Rattle.printed.specs.Possible.{cure_of}
use Rattle.orders.specs.Kinds.{finish_kind}
use Rattle.orders.specs.Layer.{printed_layer}
use Rattle.orders.specs.File.{lift_place, grown, thickness_at, next_checks, finishes, layer_checks, file_checks}
use Rattle.orders.specs.Reading.{order_in}
use Rattle.orders.specs.Parts.{Looked, Standing, picked}
use Rattle.orders.specs.declared.Order.{Order}
use Rattle.orders.specs.declared.Printed.{Printed}
use Rattle.orders.specs.declared.Stack.{Stack}
use Rattle.orders.proofs.Walk.{Walked, begun, over, frame-stops, finished, layer-stops, onward}
use Rattle.orders.proofs.Setup.read_file.Goals as goal
use Rattle.std.specs.Prelude.{Result, Ok, IsErrAnd}

module _ (N T step : ℕ) (cures file : List ℕ) (number : ℕ) where
  -- a refusal that is the file's
  stop : (result : Result Order Refusal) (r : Refusal) → IsErrAnd result (λ e. e ≡ r) → some (numbered r) ≡ first (file_checks N T step cures file)
      → told result ≡ decided (file_checks N T step cures file) (order_in T step cures file number)
  stop result r h e = handed-told result r h ∙ ap (λ (o : Option Numbered). told_by o (order_in T step cures file number)) e

  -- in a turn, of which something is left
  module _ (read : Stack) (known : Order) (w : Walked N T step cures file number read known) (l : 16 * read.layers < length file) where
    abbrev n : ℕ
    n = w.left - 1

    more : w.left ≡ suc n
    more = omega (arith, w.bytes)

    framed-out : (r : Refusal) → some (numbered r) ≡ first (next_checks file read.layers) → some (numbered r) ≡ first (file_checks N T step cures file)
    framed-out r e = frame-stops N T step cures file number read known w n more (numbered r) e

    -- behind the frame
    module _ (framed : none ≡ first (next_checks file read.layers)) (kind : ℕ) (is : kind ≡ kind_at file (lift_place read.layers)) (finish : ℕ) (of : finish ≡ finish_kind) where
      last : kind ≡ finish → finishes file read.layers ≡ true
      last e = eq-eqb _ finish_kind (sym is ∙ e ∙ of)

      not_last : (kind ≡ finish → ⊥) → finishes file read.layers ≡ false
      not_last e = ne_eqb _ finish_kind (λ p. e (is ∙ p ∙ sym of))

      layered-out : (kind ≡ finish → ⊥) → (r : Refusal) → some (numbered r) ≡ first (layer_checks N T step cures file read) → some (numbered r) ≡ first (file_checks N T step cures file)
      layered-out e r s = layer-stops N T step cures file number read known w n more framed (not_last e) (numbered r) s

      -- a layer was read, its order picked, and the stack grown
      module _ (e : kind ≡ finish → ⊥) (x : ℕ) (looked : Looked (Ok x) (layer_checks N T step cures file read) (thickness_at T step cures file read) read step) where
        abbrev t : ℕ
        t = thickness_at T step cures file read

        next : Walked N T step cures file number (grown read t) (picked known number read.layers (printed_layer (read.rise + t) t step (cure_of cures t)))
        next =
            onward N T step cures file number read known w n more framed (not_last e) looked.0
            (subst (λ (y : ℕ). Standing step (grown read y)) looked.1 looked.4)

        walked-on : (entry : ℕ) → entry ≡ cure_of cures x → (layer : Printed) → layer ≡ printed_layer (read.rise + x) x step entry
            → (order : Order) → order ≡ picked known number read.layers layer → (stack : Stack) → stack ≡ grown read x
            → Walked N T step cures file number stack order
        walked-on entry a layer b order c stack d =
            subst (λ (r : Stack). Walked N T step cures file number r order) (sym (d ∙ ap (grown read) looked.1))
            (subst (λ (o : Order). Walked N T step cures file number (grown read t) o)
            (sym
            (c
            ∙ ap (λ (p : Printed). picked known number read.layers p)
            (b
            ∙ ap (printed_layer (read.rise + x) x step) a
            ∙ ap (λ (y : ℕ). printed_layer (read.rise + y) y step (cure_of cures y)) looked.1)))
            next)

pub loop-read-init : goal.loop-read-init
loop-read-init c = begun c.args.self.now.settings.height c.args.self.now.settings.members c.args.self.now.step c.args.self.now.cure.now c.args.file.now c.args.number c.args.self.now.steps _

pub returns-in_err-check_next : goal.returns-in_err-check_next
returns-in_err-check_next c =
    let a = c.args in
    stop a.self.now.settings.height a.self.now.settings.members a.self.now.step a.self.now.cure.now a.file.now a.number _ _ c.from_residual.ensures.1
    (framed-out a.self.now.settings.height a.self.now.settings.members a.self.now.step a.self.now.cure.now a.file.now a.number _ _ c.loop-read.invariant c.loop-read-test.true _ c.in_err-check_next.ensures)

pub returns-then-kind_at-number : goal.returns-then-kind_at-number
returns-then-kind_at-number c =
    let a = c.args in
    let w = c.loop-read.invariant in
    let l = c.loop-read-test.true in
    let framed = c.in_ok-check_next.ensures in
    finished a.self.now.settings.height a.self.now.settings.members a.self.now.step a.self.now.cure.now a.file.now a.number _ _ w _ (more a.self.now.settings.height a.self.now.settings.members a.self.now.step a.self.now.cure.now a.file.now a.number _ _ w l) framed
    (last a.self.now.settings.height a.self.now.settings.members a.self.now.step a.self.now.cure.now a.file.now a.number _ _ w l framed _ c.kind_at.ensures _ c.number.ensures c.if-kind_at-number.true) _ c.order_of.ensures

pub returns-in_err-t : goal.returns-in_err-t
returns-in_err-t c =
    let a = c.args in
    stop a.self.now.settings.height a.self.now.settings.members a.self.now.step a.self.now.cure.now a.file.now a.number _ _ c.from_residual-in_err-t.ensures.1
    (layered-out a.self.now.settings.height a.self.now.settings.members a.self.now.step a.self.now.cure.now a.file.now a.number _ _ c.loop-read.invariant c.loop-read-test.true c.in_ok-check_next.ensures _ c.kind_at.ensures _ c.number.ensures
    c.if-kind_at-number.false _ c.in_err-t.ensures)

pub loop-read-preserved : goal.loop-read-preserved
loop-read-preserved c =
    let a = c.args in
    walked-on a.self.now.settings.height a.self.now.settings.members a.self.now.step a.self.now.cure.now a.file.now a.number _ _ c.loop-read.invariant c.loop-read-test.true c.in_ok-check_next.ensures _ c.kind_at.ensures _ c.number.ensures
    c.if-kind_at-number.false _ c.in_ok-t.ensures _ c.entry_of.ensures _ c.as_printed.ensures.0 _ c.order_in-order.ensures _ c.grow-read.ensures

pub returns : goal.returns
returns c =
    let a = c.args in
    ap (λ (n : Numbered). refused n.number n.place) c.at.ensures
    ∙ ap (λ (o : Option Numbered). told_by o (order_in a.self.now.settings.members a.self.now.step a.self.now.cure.now a.file.now a.number))
    (over a.self.now.settings.height a.self.now.settings.members a.self.now.step a.self.now.cure.now a.file.now a.number _ _ c.loop-read.invariant (omega arith))
