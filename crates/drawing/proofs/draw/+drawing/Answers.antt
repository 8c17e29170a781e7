use Rattle.std.proofs.Common.{◌≡◌, ◌-◌, ◌%◌, ◌<◌, ◌≤◌, sym, refl, ◌∙◌, arith}
use Rattle.drawing.specs.Draw.{draw_field}
use Rattle.drawing.proofs.DrawingWaysOut as law
use Rattle.drawing.proofs.draw.+drawing.Goals as goal

pub fields-fields-i-requires : goal.fields-fields-i-requires
fields-fields-i-requires t c = (omega (arith, c.decreases, law.fields_fall c.args.row c.if-row-eq0.false), tt)

pub fields-fields-i-requires-2 : goal.fields-fields-i-requires-2
fields-fields-i-requires-2 t c = (omega (arith, c.decreases, law.fields_fall c.args.row c.if-row-eq0.false), tt)

pub node-fields-h-requires : goal.node-fields-h-requires
node-fields-h-requires t c = (omega (arith, c.decreases, law.row_few c.row-row.result c.form_at-form.result c.row-row.ensures, c.if-left-eq0.false), tt)

pub fields-returns-then-row-eq0 : goal.fields-returns-then-row-eq0
fields-returns-then-row-eq0 t c = law.fields_done _ _ _ _ _ _ _ _ _ c.if-row-eq0.true

pub fields-returns-then-t : goal.fields-returns-then-t
fields-returns-then-t t c = law.fields_stand _ _ _ _ _ _ _ _ _ _ c.if-row-eq0.false _ _ _ _ (sym c.if-t.true ∙ c.settle-t.ensures.0) c.settle-t.ensures.1 c.slot-h.ensures c.fields-i.ensures

pub fields-returns : goal.fields-returns
fields-returns t c = law.fields_skip _ _ _ _ _ _ _ _ _ _ c.if-row-eq0.false _ _ (sym c.if-t.false ∙ c.settle-t.ensures.0) c.settle-t.ensures.1 c.fields-i-2.ensures

pub items-returns-then-ended : goal.items-returns-then-ended
items-returns-then-ended t c = law.list_cut _ _ _ _ _ _ _ _ _ (sym c.if-ended.true ∙ c.ended.ensures) c.put_wide-at.ensures

pub items-loop-init : goal.items-loop-init
items-loop-init t c = let e : c.advanced-state.result % 4 - 0 ≡ c.advanced-state.result % 4 = omega arith in rw e (refl, refl, refl)

pub items-loop-preserved : goal.items-loop-preserved
items-loop-preserved t c =
    let z : 0 < c.advanced-state.result % 4 - c.loop.counter = omega arith in
    (law.items_again _ _ _ _ _ c.loop.h _ z (omega arith) c.node-h.ensures ∙ c.loop.invariant.0, law.node_silent _ _ _ _ _ c.node-h.ensures, c.node-h.auto.out ∙ c.loop.invariant.2)

pub items-returns : goal.items-returns
items-returns t c =
    let z : c.advanced-state.result % 4 - c.loop.counter ≤ 0 = omega arith in
    law.list_drawn _ _ _ _ _ _ _ _ _ _ _ _ _ (sym c.if-ended.false ∙ c.ended.ensures) c.advanced-state.ensures refl c.put_wide-at-2.ensures (law.items_end _ _ _ _ z c.loop.invariant.1 ∙ c.loop.invariant.0)

pub node-returns-then-left-eq0 : goal.node-returns-then-left-eq0
node-returns-then-left-eq0 t c = law.node_none _ _ _ _ _ _ _ _ _ c.if-left-eq0.true c.put_wide-at.ensures

pub node-returns : goal.node-returns
node-returns t c = law.node_drawn c.args.left (c.args.left - 1) _ _ _ _ _ _ _ _ _ _ _ _ _ _ _ _ _ _ _ (omega (arith, c.if-left-eq0.false)) c.choose-c.ensures c.form_at-form.ensures c.row-row.ensures c.saturating_sub.ensures c.put-map.ensures c.put-at.ensures c.fields-h.ensures c.put.ensures

pub slot-returns-in-1 : goal.slot-returns-in-1
slot-returns-in-1 t c = law.slot_node _ _ _ _ _ _ _ _ _ _ c.in-1.is c.node.ensures

pub slot-returns-then-g-eq1 : goal.slot-returns-then-g-eq1
slot-returns-then-g-eq1 t c = law.slot_first _ _ _ _ _ _ _ _ _ _ c.in-2.is c.if-g-eq1.true c.node-then-g-eq1.ensures

pub slot-returns-else-g-eq1 : goal.slot-returns-else-g-eq1
slot-returns-else-g-eq1 t c = law.slot_second _ _ _ _ _ _ _ _ _ _ c.in-2.is c.if-g-eq1.false c.node-else-g-eq1.ensures

pub slot-returns-in-3 : goal.slot-returns-in-3
unfolding draw_field
slot-returns-in-3 t c = law.slot_class _ _ _ _ _ _ _ _ _ _ 3 c.in-3.is c.items.ensures

pub slot-returns-in-4 : goal.slot-returns-in-4
unfolding draw_field
slot-returns-in-4 t c = law.slot_class _ _ _ _ _ _ _ _ _ _ 4 c.in-4.is c.items-in-4.ensures

pub slot-returns-in-5 : goal.slot-returns-in-5
unfolding draw_field
slot-returns-in-5 t c = law.slot_class _ _ _ _ _ _ _ _ _ _ 5 c.in-5.is c.text.ensures

pub slot-returns-in-6 : goal.slot-returns-in-6
unfolding draw_field
slot-returns-in-6 t c = law.slot_class _ _ _ _ _ _ _ _ _ _ 6 c.in-6.is c.mark.ensures

pub slot-returns-in-7 : goal.slot-returns-in-7
unfolding draw_field
slot-returns-in-7 t c = law.slot_class _ _ _ _ _ _ _ _ _ _ 7 c.in-7.is c.byte.ensures

pub slot-returns-in-8 : goal.slot-returns-in-8
unfolding draw_field
slot-returns-in-8 t c = law.slot_class _ _ _ _ _ _ _ _ _ _ 8 c.in-8.is c.byte-in-8.ensures

pub slot-returns-in-9 : goal.slot-returns-in-9
unfolding draw_field
slot-returns-in-9 t c = law.slot_class _ _ _ _ _ _ _ _ _ _ 9 c.in-9.is c.byte-in-9.ensures

pub slot-returns-in_default : goal.slot-returns-in_default
slot-returns-in_default t c = law.slot_number _ _ _ _ _ _ _ _ _ _ c.in_default.in_default-own.rest c.number.ensures
