use mathlib.Core.Path.{ap}
use native.Mathlib.Omega.{arith}
use Rattle.printer.specs.Machine.{Open}
use Rattle.printer.specs.Stacks.{frame_in, buffer_in}
use Rattle.printer.proofs.StepTurns as law
use Rattle.printer.proofs.step.begin.Goals as goal

pub returns-then-is_plain : goal.returns-then-is_plain
returns-then-is_plain c = λ hs hr hw hc hk hm hn hl. c.plain.ensures hw c.args.tree.now c.args.starts.now (c.is_plain.ensures c.if-is_plain.true) (c.slot_in-slot.ensures hs).1 (c.slot_in-slot.ensures hs).0 (c.sort-sort.ensures hr hk) hc hk hm hn hl

pub overflow_add-result : goal.overflow_add-result
overflow_add-result c = omega arith

pub returns-then-level-stack : goal.returns-then-level-stack
returns-then-level-stack c = λ hs hr hw hc hk hm hn hl.
    let p = c.args.s.top in
    let m = (c.slot_in-slot.ensures hs).1 in
    let method = c.method-method.ensures m in
    let sorted = c.sort-sort.ensures hr hk in
    let statement = c.is_statement-statement.ensures c.args.kind c.args.note sorted in
    let wrapped = c.wraps-wrapped.ensures (frame_in p) c.args.kind c.args.map c.args.note sorted method in
    let f = law.begun_in (frame_in p) c.args.kind c.args.map c.args.note _ _ _ c.begun-f.ensures hk hm hn (c.following-how.ensures.0 c.args.kind c.args.map c.args.note m statement wrapped) c.following-how.ensures.1 (c.noted_at-seen.ensures.0 p m) c.noted_at-seen.ensures.1 in
    rw c.keep.ensures (law.begin_turned c.args.tree.now c.args.stack.now c.args.starts.now (buffer_in c.args.text.now c.args.s.spot) _ c.args.s c.args.kind c.args.map c.args.note _ _ c.opening-spot.result hc hl
    (c.opening-spot.ensures hw c.args.kind c.args.map c.args.note m (c.slot_in-slot.ensures hs).0 method statement wrapped sorted.head (ap (λ (o : Open). o.frame) f))
    f (c.around.ensures c.args.tree.now c.args.kind c.args.map m method hc))

pub returns : goal.returns
returns c = λ hs hr hw hc hk hm hn hl. absurd (omega (arith, hl, c.if-level-stack.false))
