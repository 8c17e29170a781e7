use mathlib.Core.Path.{◌≡◌, refl, sym, ◌∙◌}
use Prim.Native.Nat.{◌-◌}
use native.Mathlib.Omega.{arith}
use lib.ListN.{length}
use Rattle.tree.specs.Read.{read_field}
use Rattle.tree.specs.Note.{noted, note_node}
use Rattle.std.proofs.lemmas.Result.{err_from_is_err_and}
use Rattle.tree.proofs.ReaderCycle as law
use Rattle.tree.proofs.Noting as note
use Rattle.tree.proofs.Reading as read
use Prim.Native.Nat.{◌<◌}
use Rattle.tree.proofs.read.+fields_item_items_node_slot.Goals as goal
use Rattle.tree.proofs.read.+fields_item_items_node_slot.Goals.{item-else-holes-via-else-holes, item-else-holes-via-then-holes+else-kind-eq0}

pub fields-loop-r-init : goal.fields-loop-r-init
fields-loop-r-init t c = (refl, refl, refl)

pub fields-returns-in_err-part : goal.fields-returns-in_err-part
fields-returns-in_err-part t c = let p = err_from_is_err_and c.from_residual.result c.from_residual.ensures.1 in rw (p.1, p.2) (read.told_refused _ _ _ _ (law.fields_refused _ _ _ _ _ _ _ c.loop-r-test.true (read.told_not _ _ _ _ c.slot.ensures _ c.in_err-part.was) ∙ c.loop-r.invariant.1))

pub fields-loop-r-preserved : goal.fields-loop-r-preserved
fields-loop-r-preserved t c = (c.slot.auto.notes ∙ c.loop-r.invariant.0, law.fields_read _ _ _ _ _ _ _ _ c.loop-r-test.true (read.told_got _ _ _ _ c.slot.ensures _ c.in_ok-part.was) ∙ c.loop-r.invariant.1, note.fields_more _ _ _ _ _ _ _ c.loop-r-test.true (c.slot.ensures.writes _ c.in_ok-part.was) ∙ c.loop-r.invariant.2)

pub fields-returns : goal.fields-returns
fields-returns t c = read.told_read _ _ _ _ (law.fields_end _ _ _ _ _ _ c.loop-r-test.false ∙ c.loop-r.invariant.1) (note.fields_end _ _ _ _ _ _ c.loop-r-test.false ∙ c.loop-r.invariant.2)

pub item-overflow_add-result : goal.item-overflow_add-result
item-overflow_add-result t c = let h : c.args.at < length c.args.tree.now = c.peek-kind.ensures.within (omega arith) in omega arith

pub item-returns-then-kind-eq0 : goal.item-returns-then-kind-eq0
item-returns-then-kind-eq0 t c = read.told_read _ _ _ _ (law.item_hole _ _ _ _ _ _ c.if-holes.true c.peek-kind.ensures c.if-kind-eq0.true) (read.hole_moves _ _ 0 _ _ _ c.peek-kind.ensures c.if-kind-eq0.true ∙ note.item_hole _ _ _ _ _ _ c.if-holes.true c.peek-kind.ensures.value c.if-kind-eq0.true)

pub item-returns : goal.item-returns
item-returns t c = read.told_as _ _ _ _ _ _ (elim c.else-holes.branch [ item-else-holes-via-then-holes+else-kind-eq0 w ↦ law.item_other _ _ _ _ _ _ w.if-holes.true c.peek-kind.ensures w.if-kind-eq0.false | item-else-holes-via-else-holes w ↦ law.item_node _ _ _ _ _ w.if-holes.false ]) (note.met_law _ (note_node c.args.tree.now c.args.left) c.args.literal (noted c.args.notes.now c.args.at c.args.loud) _ _ c.peek-kind.ensures.value c.spread.ensures ∙ (elim c.else-holes.branch [ item-else-holes-via-then-holes+else-kind-eq0 w ↦ note.item_other _ _ _ _ (noted c.args.notes.now c.args.at c.args.loud) _ w.if-holes.true c.peek-kind.ensures.value w.if-kind-eq0.false | item-else-holes-via-else-holes w ↦ note.item_node _ _ _ _ (noted c.args.notes.now c.args.at c.args.loud) w.if-holes.false ])) c.node.ensures

pub items-returns-then-n-gt65535 : goal.items-returns-then-n-gt65535
items-returns-then-n-gt65535 t c = read.told_refused _ _ _ _ (law.list_missing _ _ _ _ _ _ c.wide_at-n.ensures c.if-n-gt65535.true)

pub items-loop-init : goal.items-loop-init
items-loop-init t c = let z : c.wide_at-n.result - 0 ≡ c.wide_at-n.result = omega arith in (refl, rw z (law.list_open _ _ _ _ _ _ c.wide_at-n.ensures c.if-n-gt65535.false), rw z (read.count_moves _ _ 0 _ _ _ _ _ _ c.wide_at-n.ensures c.if-n-gt65535.false))

pub items-returns-in_err-part : goal.items-returns-in_err-part
items-returns-in_err-part t c = let p = err_from_is_err_and c.from_residual.result c.from_residual.ensures.1 in rw (p.1, p.2) (read.told_refused _ _ _ _ (law.items_refused _ _ _ _ _ _ _ _ c.loop-test.true (read.told_not _ _ _ _ c.item.ensures _ c.in_err-part.was) ∙ c.loop.invariant.1))

pub items-loop-preserved : goal.items-loop-preserved
items-loop-preserved t c = (c.item.auto.notes ∙ c.loop.invariant.0, law.items_read _ _ _ _ _ _ _ _ _ c.loop-test.true (read.told_got _ _ _ _ c.item.ensures _ c.in_ok-part.was) ∙ c.loop.invariant.1, note.items_more _ _ _ _ _ _ _ _ c.loop-test.true (c.item.ensures.writes _ c.in_ok-part.was) ∙ c.loop.invariant.2)

pub items-returns : goal.items-returns
items-returns t c = read.told_read _ _ _ _ (law.items_end _ _ _ _ _ _ _ c.loop-test.false ∙ c.loop.invariant.1) (note.items_end _ _ _ _ _ _ _ c.loop-test.false ∙ c.loop.invariant.2)

pub node-returns-then-form-eq0 : goal.node-returns-then-form-eq0
node-returns-then-form-eq0 t c = read.told_refused _ _ _ _ (law.node_wrong _ _ _ _ _ _ _ c.peek-kind.ensures c.form_at-form.ensures c.if-form-eq0.true)

pub node-returns-then-left-eq0 : goal.node-returns-then-left-eq0
node-returns-then-left-eq0 t c = read.told_refused _ _ _ _ (law.node_deep _ _ _ _ _ _ _ c.peek-kind.ensures c.form_at-form.ensures c.if-form-eq0.false c.if-left-eq0.true)

pub node-overflow_add-at : goal.node-overflow_add-at
node-overflow_add-at t c = let h : c.args.at < length c.args.tree.now = law.node_in _ _ _ _ _ c.peek-kind.ensures c.form_at-form.ensures c.if-form-eq0.false in omega arith

pub node-overflow_add-at-then-fits : goal.node-overflow_add-at-then-fits
node-overflow_add-at-then-fits t c = let h : c.args.at < length c.args.tree.now = law.node_in _ _ _ _ _ c.peek-kind.ensures c.form_at-form.ensures c.if-form-eq0.false in omega arith

pub node-returns-then-loud : goal.node-returns-then-loud
node-returns-then-loud t c = read.node_got _ _ _ _ _ c.args.loud _ _ _ c.peek-kind.ensures c.form_at-form.ensures c.if-form-eq0.false c.if-left-eq0.false _ c.peek-map.ensures (sym c.fits.ensures ∙ c.if-fits.true) _ c.row-row.ensures _ c.rest-rest.ensures _ _ c.fields.ensures _ _ _ _ c.in_ok-part.was c.word.ensures c.put_wide.ensures (rw c.if-loud.true refl)

pub node-returns-else-loud : goal.node-returns-else-loud
node-returns-else-loud t c = read.node_got _ _ _ _ _ c.args.loud _ _ _ c.peek-kind.ensures c.form_at-form.ensures c.if-form-eq0.false c.if-left-eq0.false _ c.peek-map.ensures (sym c.fits.ensures ∙ c.if-fits.true) _ c.row-row.ensures _ c.rest-rest.ensures _ _ c.fields.ensures _ _ _ _ c.in_ok-part.was c.word.ensures c.put_wide.ensures (rw c.if-loud.false refl)

pub node-returns-in_err-part : goal.node-returns-in_err-part
node-returns-in_err-part t c = let p = err_from_is_err_and c.from_residual.result c.from_residual.ensures.1 in rw (p.1, p.2) (read.node_not _ _ _ _ _ c.args.loud _ _ _ c.peek-kind.ensures c.form_at-form.ensures c.if-form-eq0.false c.if-left-eq0.false _ c.peek-map.ensures (sym c.fits.ensures ∙ c.if-fits.true) _ c.row-row.ensures _ c.rest-rest.ensures _ _ c.fields.ensures _ _ _ c.in_err-part.was)

pub node-returns-else-fits : goal.node-returns-else-fits
node-returns-else-fits t c = read.told_refused _ _ _ _ (law.node_map _ _ _ _ _ _ _ c.peek-kind.ensures c.form_at-form.ensures _ c.if-form-eq0.false c.if-left-eq0.false c.peek-map.ensures (sym c.fits.ensures ∙ c.if-fits.false))

pub slot-returns-then-bit-eq0 : goal.slot-returns-then-bit-eq0
slot-returns-then-bit-eq0 t c = read.told_read _ _ _ _ (law.slot_absent _ _ _ _ _ _ c.if-bit-eq0.true) (note.slot_absent _ _ _ _ _ _ c.if-bit-eq0.true)

pub slot-returns-in-1 : goal.slot-returns-in-1
slot-returns-in-1 t c = read.told_as _ _ _ _ _ _ (law.slot_class _ _ _ _ _ _ c.if-bit-eq0.false 1 c.in-1.is) (note.slot_class _ _ _ _ _ _ c.if-bit-eq0.false 1 c.in-1.is) c.node.ensures

pub slot-returns-in-2 : goal.slot-returns-in-2
slot-returns-in-2 t c = read.told_as _ _ _ _ _ _ (law.slot_chosen _ _ _ _ _ _ c.if-bit-eq0.false _ _ c.choose.ensures refl c.in-2.is) (note.slot_class _ _ _ _ _ _ c.if-bit-eq0.false 2 c.in-2.is) c.node-in-2.ensures

pub slot-returns-in-3 : goal.slot-returns-in-3
slot-returns-in-3 t c = read.told_as _ _ _ _ _ _ (law.slot_class _ _ _ _ _ _ c.if-bit-eq0.false 3 c.in-3.is) (note.slot_class _ _ _ _ _ _ c.if-bit-eq0.false 3 c.in-3.is) c.items.ensures

pub slot-returns-in-4 : goal.slot-returns-in-4
slot-returns-in-4 t c = read.told_as _ _ _ _ _ _ (law.slot_class _ _ _ _ _ _ c.if-bit-eq0.false 4 c.in-4.is) (note.slot_class _ _ _ _ _ _ c.if-bit-eq0.false 4 c.in-4.is) c.items-in-4.ensures

pub slot-returns-in-5 : goal.slot-returns-in-5
unfolding read_field
slot-returns-in-5 t c = read.told_as _ _ _ _ _ _ (law.slot_class _ _ _ _ _ _ c.if-bit-eq0.false 5 c.in-5.is) (note.slot_class _ _ _ _ _ _ c.if-bit-eq0.false 5 c.in-5.is) (read.told_leaf _ _ _ _ _ _ c.leaf.ensures c.read_text.ensures (read.text_moves _ _ _ _ _))

pub slot-returns-in-6 : goal.slot-returns-in-6
unfolding read_field
slot-returns-in-6 t c = read.told_as _ _ _ _ _ _ (law.slot_class _ _ _ _ _ _ c.if-bit-eq0.false 6 c.in-6.is) (note.slot_class _ _ _ _ _ _ c.if-bit-eq0.false 6 c.in-6.is) (read.told_leaf _ _ _ _ _ _ c.leaf-in-6.ensures c.read_mark.ensures (read.mark_moves _ _ _ _ _))

pub slot-returns-in-7 : goal.slot-returns-in-7
unfolding read_field
slot-returns-in-7 t c = read.told_as _ _ _ _ _ _ (law.slot_class _ _ _ _ _ _ c.if-bit-eq0.false 7 c.in-7.is) (note.slot_class _ _ _ _ _ _ c.if-bit-eq0.false 7 c.in-7.is) (read.told_leaf _ _ _ _ _ _ c.leaf-in-7.ensures c.read_byte.ensures (read.byte_moves _ _ _ _ _ _ _))

pub slot-returns-in-8 : goal.slot-returns-in-8
unfolding read_field
slot-returns-in-8 t c = read.told_as _ _ _ _ _ _ (law.slot_class _ _ _ _ _ _ c.if-bit-eq0.false 8 c.in-8.is) (note.slot_class _ _ _ _ _ _ c.if-bit-eq0.false 8 c.in-8.is) (read.told_leaf _ _ _ _ _ _ c.leaf-in-8.ensures c.read_byte-in-8.ensures (read.byte_moves _ _ _ _ _ _ _))

pub slot-returns-in-9 : goal.slot-returns-in-9
unfolding read_field
slot-returns-in-9 t c = read.told_as _ _ _ _ _ _ (law.slot_class _ _ _ _ _ _ c.if-bit-eq0.false 9 c.in-9.is) (note.slot_class _ _ _ _ _ _ c.if-bit-eq0.false 9 c.in-9.is) (read.told_leaf _ _ _ _ _ _ c.leaf-in-9.ensures c.read_byte-in-9.ensures (read.byte_moves _ _ _ _ _ _ _))

pub slot-returns-in_default : goal.slot-returns-in_default
unfolding read_field
slot-returns-in_default t c = read.told_as _ _ _ _ _ _ (law.slot_number _ _ _ _ _ _ c.if-bit-eq0.false c.in_default.in_default-own.rest) (note.slot_number _ _ _ _ _ _ c.if-bit-eq0.false c.in_default.in_default-own.rest) (read.told_leaf _ _ _ _ _ _ c.leaf-in_default.ensures c.read_number.ensures (read.number_moves _ _ _ _ _))
