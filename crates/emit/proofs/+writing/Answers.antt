use Prim.Native.Nat.{◌<◌, ◌≤◌, ◌+◌, ◌-◌}
use native.Mathlib.Omega.{arith}
use mathlib.Core.Bool.{true, false, false≢true}
use mathlib.Core.Path.{◌≡◌, refl, sym, ap, ◌∙◌}
use Rattle.walk.specs.Whole.{hole_at}
use Rattle.walk.specs.Turns.{is_told}
use Rattle.walk.proofs.Running.{does_nothing, runs_does}
use Rattle.tree.proofs.Skipping.{node_none}
use Rattle.walk.proofs.Emits.{good_none}
use Rattle.walk.proofs.SpreadArguments as args
use Rattle.walk.proofs.SmallSteps as steps
use Rattle.walk.proofs.LiteralHeads as heads
use Rattle.walk.proofs.SourcesRead as sources
use Rattle.walk.proofs.HandRules as hands
use Rattle.walk.proofs.TargetCounts.{values_object}
use Rattle.walk.proofs.Running as running
use Rattle.tree.proofs.Skipping as skipping
use Rattle.walk.proofs.Emits as law
use Rattle.walk.proofs.KeysOnceFull as walked
use Rattle.emit.proofs.Excluding as excluding
use Rattle.walk.proofs.Viewing as viewing
use Rattle.walk.proofs.QuietValues as quiets
use Rattle.walk.proofs.ListTurns as turning
use Rattle.walk.proofs.RootTold as told
use Rattle.walk.proofs.Lookups.{denied, undenied}
use Rattle.emit.proofs.Looping as looping
use Rattle.pattern.proofs.CountsFit.{limited_below}
use Rattle.emit.proofs.Assigning as assigning
use Rattle.emit.proofs.MovedPatterns as moving
use Rattle.emit.proofs.Bodying as bodying
use Rattle.emit.proofs.Finding as finding
use Rattle.emit.proofs.Refusing.{refused_by, refused_none, refused_past}
use Rattle.emit.proofs.Declaring as declaring
use Rattle.pattern.proofs.SourceReads as reading
use Rattle.pattern.specs.Source.{read_of, after_read}
use Rattle.emit.proofs.+writing.Goals as goal
use Rattle.emit.proofs.+writing.Goals.{catch_clause-else-has_first-via-else-has_first, catch_clause-else-has_first-via-then-has_first+else-is_moved, property-else-is_spread-via-else-is_spread, property-else-is_spread-via-then-is_spread+else-has_first, assignment_to-else-peek-eq-OBJECT_PATTERN-via-else-peek-eq-OBJECT_PATTERN, assignment_to-else-peek-eq-OBJECT_PATTERN-via-then-peek-eq-OBJECT_PATTERN+else-has_second, function-else-any_moved-via-else-any_moved, function-else-any_moved-via-then-any_moved+else-stands, item-else-holes-via-else-holes, item-else-holes-via-then-holes+else-peek-eq0, key-else-taken-via-else-taken, key-else-taken-via-then-taken+else-is_other, turn-else-holes-via-else-holes, turn-else-holes-via-then-holes+else-peek-eq0, view_object-else-rest-via-else-rest, view_object-else-rest-via-then-rest+else-replaces}

-- where the walk stands, the builder that is handed back, and what is done
with-next : {A N B : Type 0} → A × B → N → A × N × B
with-next p n = (p.0, n, p.1)

pub front-returns-in-Some : goal.front-returns-in-Some
front-returns-in-Some t c = moving.add_refused _ _ _ _ _ _ _ c.has_nested_object_rest.ensures c.if-has_nested_object_rest.true (λ κ. refused_by c.from.ensures c.in-Some.is (c.refusal_below.ensures κ)) (refused_past _ c.from.ensures) (runs_does (c.refuse.ensures.0 _ _))

pub front-returns-then-has_nested_object_rest : goal.front-returns-then-has_nested_object_rest
front-returns-then-has_nested_object_rest t c = moving.add_lowered _ _ _ _ _ _ _ _ _ _ _ _ _ _ _ c.has_nested_object_rest.ensures c.if-has_nested_object_rest.true (λ κ. refused_none c.in_default.is (c.refusal_below.ensures κ)) (omega arith) c.at_root-root.ensures c.inside.ensures.0 c.mark.ensures (told.own_marked _ _ c.at_root-root.ensures _ c.inside.ensures.0 c.marked-d.ensures.0) (c.marked-d.ensures.1 ∙ c.inside.ensures.1) (c.pattern_hands-u.ensures.1 _) c.pattern_declarators-k.ensures (steps.does_declaration _ _ (c.declaration.ensures.0 _ _)) (c.to-u.ensures.0 _ _ _) c.to-u.ensures.1 (sources.held_source _ _ _ _ c.held.ensures) (c.declarators.ensures (reading.held_settled _ _ _ c.held.ensures))

pub front-returns : goal.front-returns
front-returns t c = moving.add_kept _ _ _ _ _ _ _ _ _ _ _ _ c.has_nested_object_rest.ensures c.if-has_nested_object_rest.false c.inside.ensures.0 c.mark.ensures c.marked-d.ensures.0 (c.marked-d.ensures.1 ∙ c.inside.ensures.1) (steps.does_declaration _ _ (c.declaration-2.ensures.0 _ _)) (runs_does (c.put2.ensures.0 _ _)) (c.to-u-2.ensures.0 _ _ _) c.to-u-2.ensures.1 c.node.ensures (runs_does c.temporary.ensures.0)

pub assignment-returns-then-has_rest_below_array_rest : goal.assignment-returns-then-has_rest_below_array_rest
assignment-returns-then-has_rest_below_array_rest t c = λ k. (c.to.ensures.1 ∙ c.skip.ensures, λ g. assigning.asg_refused _ _ _ _ _ _ c.less-left.ensures c.step-q.ensures _ c.has_rest_below_array_rest.ensures c.if-has_rest_below_array_rest.true (runs_does (c.refuse.ensures.0 _ _)) (c.to.ensures.0 _ _ _) k g)

pub assignment-assignment_to-requires : goal.assignment-assignment_to-requires
assignment-assignment_to-requires t c = (omega (arith, c.under.ensures.1, assigning.asg_falls _ _ _ _ _ c.less-left.ensures c.has_nested_object_rest.ensures c.if-has_nested_object_rest.true), tt)

pub assignment-returns-then-has_nested_object_rest : goal.assignment-returns-then-has_nested_object_rest
assignment-returns-then-has_nested_object_rest t c = λ k. (c.to-then-has_nested_object_rest.ensures.1 ∙ c.skip-then-has_nested_object_rest.ensures, λ g. assigning.asg_lowered _ _ _ _ _ _ c.less-left.ensures c.step-q.ensures _ _ _ _ _ _ _ _ c.has_rest_below_array_rest.ensures c.if-has_rest_below_array_rest.false c.has_nested_object_rest.ensures c.if-has_nested_object_rest.true c.skip-v.ensures c.step.ensures c.peek.ensures c.low-op.ensures (told.with_own _ c.under.ensures.0 c.at_root-root.ensures, c.under.ensures.1) c.assignment_to.ensures (c.to-then-has_nested_object_rest.ensures.0 _ _ _) k g)

pub assignment-returns : goal.assignment-returns
assignment-returns t c = λ k. (c.plain.ensures.0, λ g. assigning.asg_plain _ _ _ _ _ _ c.less-left.ensures c.step-q.ensures _ c.has_nested_object_rest.ensures c.if-has_nested_object_rest.false c.plain.ensures.1 k g)

pub assignment_to-returns-then-has_second : goal.assignment_to-returns-then-has_second
assignment_to-returns-then-has_second t c = assigning.asn_top _ _ _ _ _ _ _ _ _ c.peek.ensures c.if-peek-eq-OBJECT_PATTERN.true c.has_second.ensures c.if-has_second.true c.top.ensures

pub assignment_to-returns : goal.assignment_to-returns
assignment_to-returns t c = (elim c.else-peek-eq-OBJECT_PATTERN.branch [ assignment_to-else-peek-eq-OBJECT_PATTERN-via-then-peek-eq-OBJECT_PATTERN+else-has_second w ↦ assigning.asn_plain _ _ _ _ _ _ _ _ _ c.peek.ensures w.if-peek-eq-OBJECT_PATTERN.true w.has_second.ensures w.if-has_second.false c.nested.ensures | assignment_to-else-peek-eq-OBJECT_PATTERN-via-else-peek-eq-OBJECT_PATTERN w ↦ assigning.asn_other _ _ _ _ _ _ _ _ c.peek.ensures w.if-peek-eq-OBJECT_PATTERN.false c.nested.ensures ])

pub arrow-turns-u-requires : goal.arrow-turns-u-requires
arrow-turns-u-requires t c = let z : 0 < c.args.c.left = moving.moved_levels _ _ _ _ _ c.any_moved.ensures c.if-any_moved.true in
    (omega (arith, z, c.less-left.ensures, c.scoped-d.ensures.1), tt)

pub arrow-slot-u-requires : goal.arrow-slot-u-requires
arrow-slot-u-requires t c = let z : 0 < c.args.c.left = moving.moved_levels _ _ _ _ _ c.any_moved.ensures c.if-any_moved.true in
    (omega (arith, z, c.less-left.ensures, c.scoped-d.ensures.1), tt)

pub arrow-arrow_body-requires : goal.arrow-arrow_body-requires
arrow-arrow_body-requires t c = let z : 0 < c.args.c.left = moving.moved_levels _ _ _ _ _ c.any_moved.ensures c.if-any_moved.true in
    (omega (arith, z, c.less-left.ensures, c.scoped-d.ensures.1, c.wide_at-n.ensures.bound), tt)

pub arrow-returns-then-any_moved : goal.arrow-returns-then-any_moved
arrow-returns-then-any_moved t c = bodying.arrow_moved _ _ _ _ _ _ _ _ _ _ _ _ _ _ _ _ _ _ _ c.any_moved.ensures c.if-any_moved.true c.less-left.ensures c.scoped-d.ensures.0 c.scoped-d.ensures.1 c.step-q.ensures c.wide_at-n.ensures c.step-first.ensures c.moves_make.ensures.0 (c.moves_make.ensures.1 _ _) c.copy-u.ensures.1 (runs_does (c.copy-u.ensures.0 _ _)) (told.items_own _ _ _ _ _ _ _ _ _ _ _ told.untold_binding c.turns-u.ensures) c.second.ensures c.slot-u.ensures c.arrow_body.ensures (c.to.ensures.0 _ _ _) c.skip.ensures c.to.ensures.1

pub arrow-returns : goal.arrow-returns
arrow-returns t c = bodying.arrow_plain _ _ _ _ _ _ c.any_moved.ensures c.if-any_moved.false c.plain.ensures

pub fronts_of_items-returns-then-n-eq0 : goal.fronts_of_items-returns-then-n-eq0
fronts_of_items-returns-then-n-eq0 t c = moving.back_none _ _ _ _ _ _ c.if-n-eq0.true

pub fronts_of_items-returns-then-peek-eq0 : goal.fronts_of_items-returns-then-peek-eq0
fronts_of_items-returns-then-peek-eq0 t c = moving.back_hole _ _ _ _ _ _ _ c.if-n-eq1.true c.if-arrays.true c.peek.ensures c.if-peek-eq0.true

pub fronts_of_items-returns-then-arrays : goal.fronts_of_items-returns-then-arrays
fronts_of_items-returns-then-arrays t c = moving.back_item _ _ _ _ _ _ _ c.if-n-eq1.true c.if-arrays.true c.peek.ensures c.if-peek-eq0.false c.fronts_of_pattern.ensures

pub fronts_of_items-returns-then-has_nested_object_rest : goal.fronts_of_items-returns-then-has_nested_object_rest
fronts_of_items-returns-then-has_nested_object_rest t c = moving.back_moved _ _ _ _ _ _ _ _ _ _ _ c.if-n-eq1.true c.if-arrays.false c.less-left.ensures c.step-q.ensures c.has_nested_object_rest.ensures c.if-has_nested_object_rest.true c.under.ensures.0 c.under.ensures.1 c.fronts_of_pattern-then-has_nested_object_rest.ensures

pub fronts_of_items-returns-then-n-eq1 : goal.fronts_of_items-returns-then-n-eq1
fronts_of_items-returns-then-n-eq1 t c = moving.back_kept _ _ _ _ _ _ _ _ _ c.if-n-eq1.true c.if-arrays.false c.less-left.ensures c.step-q.ensures c.has_nested_object_rest.ensures c.if-has_nested_object_rest.false

pub fronts_of_items-returns : goal.fronts_of_items-returns
fronts_of_items-returns t c = moving.back_halves _ _ _ _ _ _ _ c.skip_items-mid.ensures c.fronts_of_items-u.ensures c.fronts_of_items.ensures

pub binding-moved_out-u-requires : goal.binding-moved_out-u-requires
binding-moved_out-u-requires t c = let z : 0 < c.less-left.result = moving.rest_levels _ _ _ _ c.has_nested_object_rest.ensures c.if-has_nested_object_rest.true in
    (omega (arith, z, c.less-left.ensures, c.inside.ensures.1), tt)

pub binding-slot-requires : goal.binding-slot-requires
binding-slot-requires t c = let z : 0 < c.less-left.result = moving.rest_levels _ _ _ _ c.has_nested_object_rest.ensures c.if-has_nested_object_rest.true in
    (omega (arith, z, c.less-left.ensures, c.inside-then-has_nested_object_rest.ensures.1), tt)

pub binding-returns-then-has_nested_object_rest : goal.binding-returns-then-has_nested_object_rest
binding-returns-then-has_nested_object_rest t c = moving.bind_moved _ _ _ _ _ _ _ _ _ _ _ _ _ _ _ c.less-left.ensures c.step-q.ensures c.has_nested_object_rest.ensures c.if-has_nested_object_rest.true c.copy.ensures.1 (runs_does (c.copy.ensures.0 _ _)) c.inside.ensures.0 c.inside.ensures.1 c.moved_out-u.ensures c.inside-then-has_nested_object_rest.ensures.0 c.inside-then-has_nested_object_rest.ensures.1 c.second.ensures c.slot.ensures

pub binding-returns : goal.binding-returns
binding-returns t c = moving.bind_kept _ _ _ _ _ _ _ _ c.less-left.ensures c.step-q.ensures c.has_nested_object_rest.ensures c.if-has_nested_object_rest.false c.node.ensures

pub block_body-overflow_add-k : goal.block_body-overflow_add-k
block_body-overflow_add-k t c = omega (arith, c.wide_at-k.ensures.bound, limited_below _ _ c.moved_in-more.ensures)

pub block_body-overflow_add-more : goal.block_body-overflow_add-more
block_body-overflow_add-more t c = omega (arith, limited_below _ _ c.moved_in-more.ensures)

pub block_body-returns-in-2 : goal.block_body-returns-in-2
block_body-returns-in-2 t c = looping.moves_block _ _ _ _ _ _ _ _ _ _ _ _ _ _ _ _ _ _ _ c.level-under.ensures.0 c.moved_in-more.ensures c.peek-kind.ensures c.in-2.is c.step-q.ensures c.wide_at-k.ensures c.step.ensures c.to.ensures.1 c.scoped.ensures.0 c.scoped.ensures.1 c.scoped-in-2.ensures.0 (c.scoped-in-2.ensures.1 ∙ c.less-left.ensures) (c.to.ensures.0 _ _ _) (runs_does (c.copy.ensures.0 _ _)) (steps.does_wide _ (c.wide.ensures.0 _ _)) c.fronts_of_items-u.ensures c.items.ensures

pub block_body-returns-in-13 : goal.block_body-returns-in-13
block_body-returns-in-13 t c = looping.moves_empty _ _ _ _ _ _ _ _ _ _ _ _ _ _ c.level-under.ensures.0 c.moved_in-more.ensures c.peek-kind.ensures c.in-13.is c.scoped-in-13.ensures.0 c.scoped-in-13.ensures.1 c.skip.ensures c.to-in-13.ensures.1 (c.to-in-13.ensures.0 _ _ _) (steps.does_block _ (c.block.ensures.0 _ _)) c.fronts_of_items-u-in-13.ensures

pub block_body-returns-in_default : goal.block_body-returns-in_default
block_body-returns-in_default t c = looping.moves_statement _ _ _ _ _ _ _ _ _ _ _ _ _ _ _ _ c.level-under.ensures.0 c.moved_in-more.ensures c.peek-kind.ensures (omega arith) (omega arith) c.scoped-in_default.ensures.0 c.scoped-in_default.ensures.1 c.scoped-in_default-2.ensures.0 c.scoped-in_default-2.ensures.1 c.to-in_default.ensures.1 (c.to-in_default.ensures.0 _ _ _) (steps.does_block _ (c.block-in_default.ensures.0 _ _)) c.fronts_of_items-u-in_default.ensures c.item.ensures

pub function_body-returns-then-c-eq0 : goal.function_body-returns-then-c-eq0
function_body-returns-then-c-eq0 t c = λ k s good items binds. law.good_none _ _ _ c.if-c-eq0.true good

pub function_body-overflow_add-k : goal.function_body-overflow_add-k
function_body-overflow_add-k t c = let z : c.moved_in-more.result ≤ 65536 = limited_below _ _ c.moved_in-more.ensures in omega (arith, z, c.wide_at-k.ensures.bound)

pub function_body-returns : goal.function_body-returns
function_body-returns t c = bodying.body_done _ _ _ _ _ _ _ _ _ _ _ _ _ _ _ _ _ _ c.less-left.ensures c.moved_in-more.ensures c.scoped-d.ensures.0 c.scoped-d.ensures.1 c.step.ensures c.copy.ensures.1 (runs_does (c.copy.ensures.0 _ _)) c.first_bit.ensures c.slot-u.ensures c.wide_at-k.ensures (steps.does_wide _ (c.wide.ensures.0 _ _)) c.fronts_of_items-u.ensures (c.to.ensures.0 _ _ _) c.step-2.ensures c.to.ensures.1 c.items.ensures

pub catch_clause-turns-u-requires : goal.catch_clause-turns-u-requires
catch_clause-turns-u-requires t c = (omega (arith, c.scoped-d.ensures.1, c.less-left.ensures, looping.moved_level _ _ _ _ c.is_moved.ensures c.if-is_moved.true), tt)

pub catch_clause-block_body-requires : goal.catch_clause-block_body-requires
catch_clause-block_body-requires t c = (omega (arith, c.scoped-d.ensures.1, c.less-left.ensures, looping.moved_level _ _ _ _ c.is_moved.ensures c.if-is_moved.true), tt)

pub catch_clause-returns-then-is_moved : goal.catch_clause-returns-then-is_moved
catch_clause-returns-then-is_moved t c = looping.catch_moves _ _ _ _ _ _ _ _ _ _ _ _ _ _ _ _ c.less-left.ensures c.step-q.ensures c.has_first.ensures c.if-has_first.true c.is_moved.ensures c.if-is_moved.true c.scoped-d.ensures.0 c.scoped-d.ensures.1 c.moves_make.ensures.0 c.copy-u.ensures.1 c.skip.ensures c.to.ensures.1 (c.to.ensures.0 _ _ _) (c.moves_make.ensures.1 _ _) (runs_does (c.copy-u.ensures.0 _ _)) (told.items_own _ _ _ _ _ _ _ _ _ _ _ told.untold_binding c.turns-u.ensures) c.block_body.ensures

pub catch_clause-returns : goal.catch_clause-returns
catch_clause-returns t c = (elim c.else-has_first.branch [ catch_clause-else-has_first-via-then-has_first+else-is_moved w ↦ looping.catch_keeps _ _ _ _ _ _ _ _ _ c.less-left.ensures c.step-q.ensures c.has_first.ensures w.if-has_first.true w.is_moved.ensures w.if-is_moved.false c.plain.ensures | catch_clause-else-has_first-via-else-has_first w ↦ looping.catch_stays _ _ _ _ _ _ c.has_first.ensures w.if-has_first.false c.plain.ensures ])

pub deep_array-returns-then-c-eq0 : goal.deep_array-returns-then-c-eq0
deep_array-returns-then-c-eq0 t c = λ k good suit. good_none _ _ _ c.if-c-eq0.true good

pub deep_array-returns-then-not-enters_arrays : goal.deep_array-returns-then-not-enters_arrays
deep_array-returns-then-not-enters_arrays t c = finding.array_taken _ _ _ _ _ _ _ c.skip-end.ensures (denied _ _ c.enters_arrays.ensures c.if-not-enters_arrays.true) c.to.ensures.1 (c.to.ensures.0 _ _ _)

pub deep_array-returns : goal.deep_array-returns
deep_array-returns t c = finding.array_items _ _ _ _ _ _ _ _ _ _ _ _ _ _ _ _ c.skip-end.ensures (undenied _ _ c.enters_arrays.ensures c.if-not-enters_arrays.false) c.step-q.ensures c.wide_at-n.ensures c.step.ensures c.to-2.ensures.1 (c.to-2.ensures.0 _ _ _) c.less.ensures c.under.ensures.1 (told.with_same _ c.under.ensures.0) c.item_mode.ensures (told.items_with _ _ _ _ _ _ _ _ _ _ _ (told.item_told c.args.mode _ c.item_mode.ensures) c.turns.ensures) c.to-3.ensures.1 (c.to-3.ensures.0 _ _ _)

pub deep_object-returns-then-c-eq0 : goal.deep_object-returns-then-c-eq0
deep_object-returns-then-c-eq0 t c = λ k good suit. good_none _ _ _ c.if-c-eq0.true good

pub deep_object-returns-then-not-counts : goal.deep_object-returns-then-not-counts
deep_object-returns-then-not-counts t c = finding.object_passed _ _ _ _ _ _ _ _ _ c.in-Reached.is (denied _ _ c.counts.ensures c.if-not-counts.true) c.has_second.ensures c.if-has_second.true c.skip-end.ensures c.to.ensures.1 (c.to.ensures.0 _ _ _)

pub deep_object-returns-then-has_second : goal.deep_object-returns-then-has_second
deep_object-returns-then-has_second t c = finding.object_own _ _ _ _ _ _ _ _ _ c.in-Reached.is (undenied _ _ c.counts.ensures c.if-not-counts.false) c.has_second.ensures c.if-has_second.true (assigning.own_top _ _ _ _ _ _ _ (told.with_inner _ _ c.inside.ensures.0, c.inside.ensures.1) c.cell.ensures c.top.ensures) c.skip-end.ensures c.to-then-has_second.ensures.1 (c.to-then-has_second.ensures.0 _ _ _)

pub deep_object-returns-in-Found : goal.deep_object-returns-in-Found
deep_object-returns-in-Found t c = finding.object_found _ _ _ _ _ _ c.in-Found.is c.found_object.ensures

pub deep_object-returns-else-has_second : goal.deep_object-returns-else-has_second
deep_object-returns-else-has_second t c = finding.object_plain _ _ _ _ _ _ _ _ c.in-Reached.is c.has_second.ensures c.if-has_second.false (c.object_properties.ensures (told.told_value_lem _))

pub declaration-returns-then-c-eq0 : goal.declaration-returns-then-c-eq0
declaration-returns-then-c-eq0 t c = λ k. (node_none _ _ _ c.if-c-eq0.true, λ good. good_none _ _ _ c.if-c-eq0.true good)

pub declaration-returns-in-Some : goal.declaration-returns-in-Some
declaration-returns-in-Some t c = declaring.declaration_refuses _ _ _ _ _ _ _ (λ κ. refused_by c.from.ensures c.in-Some.is (c.declaration_refusal.ensures κ)) (refused_past _ c.from.ensures) (runs_does (c.refuse.ensures.0 _ _)) c.skip.ensures c.to.ensures.1 (c.to.ensures.0 _ _ _)

pub declaration-returns : goal.declaration-returns
declaration-returns t c = declaring.declaration_writes _ _ _ _ _ _ _ _ _ _ _ _ _ _ _ _ _ _ (λ κ. refused_none c.in_default.is (c.declaration_refusal.ensures κ)) (omega arith) c.at_root-root.ensures c.declaration_hands-u.ensures.0 (c.declaration_hands-u.ensures.1 _) c.step-q.ensures c.declaration_becomes-k.ensures (runs_does (c.copy.ensures.0 _ _)) (steps.does_wide _ (c.wide.ensures.0 _ _)) c.step.ensures c.to-u.ensures.1 (c.to-u.ensures.0 _ _ _) c.skip-end.ensures c.less.ensures (told.with_own _ c.under.ensures.0 c.at_root-root.ensures) c.under.ensures.1 c.wide_at.ensures (told.items_with _ _ _ _ _ _ _ _ _ _ _ told.told_declarator c.turns.ensures) c.to-2.ensures.1 (c.to-2.ensures.0 _ _ _)

pub deep-returns-then-c-eq0 : goal.deep-returns-then-c-eq0
deep-returns-then-c-eq0 t c = λ good suit. good_none _ _ _ c.if-c-eq0.true good

pub deep-returns-in-34 : goal.deep-returns-in-34
deep-returns-in-34 t c = c.deep_object.ensures (sym c.peek-kind.ensures.value ∙ c.in-34.is)

pub deep-returns-in-36 : goal.deep-returns-in-36
deep-returns-in-36 t c = c.deep_array.ensures (sym c.peek-kind.ensures.value ∙ c.in-36.is)

pub deep-returns-in-37 : goal.deep-returns-in-37
deep-returns-in-37 t c = finding.deep_default _ _ _ _ _ _ _ _ _ _ _ _ _ _ c.peek-kind.ensures.value c.in-37.is c.less-left.ensures c.under.ensures.1 (told.with_same _ c.under.ensures.0) c.step.ensures c.to-u.ensures.1 (c.to-u.ensures.0 _ _ _) c.deep-u.ensures c.skip.ensures c.to.ensures.1 (c.to.ensures.0 _ _ _)

pub deep-returns-in_default : goal.deep-returns-in_default
deep-returns-in_default t c = finding.deep_leaf _ _ _ _ _ _ _ _ c.peek-kind.ensures.value (omega arith) (omega arith) (omega arith) c.skip-in_default.ensures c.to-in_default.ensures.1 (c.to-in_default.ensures.0 _ _ _)

pub declaring_head-returns-then-c-eq0 : goal.declaring_head-returns-then-c-eq0
declaring_head-returns-then-c-eq0 t c = λ loop four moved good. law.good_none _ _ _ c.if-c-eq0.true good

pub declaring_head-returns : goal.declaring_head-returns
declaring_head-returns t c = looping.declaring_does _ _ _ _ _ _ _ _ _ _ _ _ _ _ _ _ _ _ _ _ _ c.less-left.ensures c.less-under.ensures c.step.ensures c.step-s.ensures c.wide_at-n.ensures c.step-first.ensures c.scoped.ensures.0 c.scoped.ensures.1 c.scoped-2.ensures.0 c.scoped-2.ensures.1 c.scoped-3.ensures.0 c.scoped-3.ensures.1 c.moves_make.ensures.0 c.copy-u.ensures.1 (c.moves_make.ensures.1 _ _) (runs_does (c.copy-u.ensures.0 _ _)) (told.items_own _ _ _ _ _ _ _ _ _ _ _ told.untold_binding c.turns-u.ensures) c.node-u.ensures c.block_body-u.ensures (runs_does (c.await_of.ensures.1 _ _))

pub declarator-returns-in_default : goal.declarator-returns-in_default
declarator-returns-in_default t c = declaring.declarator_bare _ _ _ _ _ _ _ _ c.start_of.ensures c.in_default.is c.told_inside.ensures.0 c.told_inside.ensures.1 c.node.ensures

pub declarator-returns-then-has_nested_object_rest : goal.declarator-returns-then-has_nested_object_rest
declarator-returns-then-has_nested_object_rest t c = declaring.declarator_done _ _ _ _ _ _ _ _ _ _ _ _ _ _ _ c.less-left.ensures c.step-id.ensures c.start_of.ensures c.in-Some.is c.has_nested_object_rest.ensures c.if-has_nested_object_rest.true c.skip-end.ensures c.cell.ensures c.new-b.ensures (told.with_same _ c.under.ensures.0) c.under.ensures.1 c.lowered.ensures (c.to.ensures.0 _ _ _) c.to.ensures.1

pub declarator-returns : goal.declarator-returns
declarator-returns t c = declaring.declarator_stays _ _ _ _ _ _ _ _ _ _ _ _ c.less-left.ensures c.step-id.ensures c.start_of.ensures c.in-Some.is c.has_nested_object_rest.ensures c.if-has_nested_object_rest.false c.told_inside-2.ensures.0 c.told_inside-2.ensures.1 c.node-2.ensures

pub arrow_body-returns-then-peek-eq-FUNCTION_BODY : goal.arrow_body-returns-then-peek-eq-FUNCTION_BODY
arrow_body-returns-then-peek-eq-FUNCTION_BODY t c = c.function_body.ensures (sym c.peek.ensures.value ∙ c.if-peek-eq-FUNCTION_BODY.true)

pub arrow_body-overflow_add-more : goal.arrow_body-overflow_add-more
arrow_body-overflow_add-more t c = let z : c.moved_in-more.result ≤ 65536 = limited_below _ _ c.moved_in-more.ensures in omega (arith, z)

pub arrow_body-returns : goal.arrow_body-returns
arrow_body-returns t c = bodying.body_returned _ _ _ _ _ _ _ _ _ _ _ _ _ c.peek.ensures c.if-peek-eq-FUNCTION_BODY.false c.moved_in-more.ensures (runs_does (c.put2.ensures.0 _ _)) (steps.does_wide _ (c.wide.ensures.0 _ _)) c.fronts_of_items-u.ensures c.mark.ensures c.marked-d.ensures.0 c.marked-d.ensures.1 (runs_does (c.put2-2.ensures.0 _ _)) (runs_does (c.new_mark.ensures.0 _ _)) (c.to-u.ensures.0 _ _ _) c.to-u.ensures.1 c.node.ensures

pub excluded_key-returns-in-AsString : goal.excluded_key-returns-in-AsString
excluded_key-returns-in-AsString t c = excluding.excluded_string _ _ _ _ _ _ _ _ _ c.less-left.ensures c.step-k.ensures c.skip-end.ensures c.to.ensures.1 (c.to.ensures.0 _ _ _) c.key_sort-sort.ensures c.in-AsString.is (sources.does_string _ _ _ (c.string.ensures.1 _ _))

pub excluded_key-returns-in-AsItStands : goal.excluded_key-returns-in-AsItStands
excluded_key-returns-in-AsItStands t c = excluding.excluded_standing _ _ _ _ _ _ _ _ _ _ _ _ _ c.less-left.ensures c.step-k.ensures c.skip-end.ensures c.to-in-AsItStands-2.ensures.1 c.under.ensures.0 c.under.ensures.1 c.to-in-AsItStands.ensures.1 (c.to-in-AsItStands.ensures.0 _ _ _) (c.to-in-AsItStands-2.ensures.0 _ _ _) c.key_sort-sort.ensures c.in-AsItStands.is c.node.ensures

pub excluded_key-returns-in-LeftOut : goal.excluded_key-returns-in-LeftOut
excluded_key-returns-in-LeftOut t c = excluding.excluded_nothing _ _ _ _ _ _ _ _ _ c.less-left.ensures c.step-k.ensures c.skip-end.ensures c.to-in-LeftOut.ensures.1 (c.to-in-LeftOut.ensures.0 _ _ _) c.key_sort-sort.ensures c.in-LeftOut.is

pub excluded_key-returns-in-AsTemporary : goal.excluded_key-returns-in-AsTemporary
excluded_key-returns-in-AsTemporary t c = excluding.excluded_cell _ _ _ _ _ _ _ _ _ c.less-left.ensures c.step-k.ensures c.skip-end.ensures c.to-in-AsTemporary.ensures.1 (c.to-in-AsTemporary.ensures.0 _ _ _) c.key_sort-sort.ensures c.in-AsTemporary.is (runs_does c.temporary.ensures.0)

pub found_object-returns-then-c-eq0 : goal.found_object-returns-then-c-eq0
found_object-returns-then-c-eq0 t c = λ k good. good_none _ _ _ c.if-c-eq0.true good

pub found_object-returns-then-has_second : goal.found_object-returns-then-has_second
found_object-returns-then-has_second t c = finding.found_resting _ _ _ _ _ _ _ _ _ _ _ _ _ _ _ _ _ _ _ _ _ c.less-left.ensures c.under.ensures.1 (told.with_same _ c.under.ensures.0) c.step-q.ensures c.wide_at-n.ensures c.step-first.ensures c.to.ensures.1 c.has_second.ensures c.if-has_second.true c.cell.ensures (sources.held_source _ _ _ _ c.held.ensures) (c.own_keys-s.ensures.0, c.own_keys-s.ensures.2) c.cell.ensures (sources.held_source _ _ _ _ c.held.ensures) (declaring.later_rest _ _ _ _ _ _ _ c.own_keys-s.ensures.1 (reading.held_settled _ _ _ c.held.ensures) c.own_rest-u.ensures) (c.to.ensures.0 _ _ _) (told.items_with _ _ _ _ _ _ _ _ _ _ _ (told.told_value_lem _) c.turns-u.ensures) c.skip.ensures c.to-then-has_second.ensures.1 (c.to-then-has_second.ensures.0 _ _ _)

pub found_object-returns : goal.found_object-returns
found_object-returns t c = finding.found_plain _ _ _ _ _ _ _ _ _ _ _ _ _ c.less-left.ensures c.under-2.ensures.1 (told.with_same _ c.under-2.ensures.0) c.step-q.ensures c.wide_at-n.ensures c.step-first.ensures c.to-2.ensures.1 (c.to-2.ensures.0 _ _ _) (told.items_with _ _ _ _ _ _ _ _ _ _ _ (told.told_value_lem _) c.turns.ensures) c.has_second.ensures c.if-has_second.false

pub fields-loop-r-init : goal.fields-loop-r-init
fields-loop-r-init t c = (refl, refl, refl, refl, λ g. (g, law.onto_start _ _))

pub fields-loop-r-smaller : goal.fields-loop-r-smaller
fields-loop-r-smaller t c = omega (arith, c.loop-r-test.true)

pub fields-loop-r-preserved : goal.fields-loop-r-preserved
fields-loop-r-preserved t c = (
  omega (arith, c.loop-r.invariant.0, c.slot-v.auto.out),
  omega (arith, c.loop-r.invariant.1, c.slot-v.auto.list),
  omega (arith, c.loop-r.invariant.2, c.slot-v.auto.work),
  skipping.fields_more _ _ _ _ _ _ c.loop-r-test.true c.slot-v.ensures.0 ∙ c.loop-r.invariant.3,
  λ g.
      let y = c.loop-r.invariant.4 g in (
        law.good_rest _ _ _ _ _ _ _ _ c.loop-r-test.true c.slot-v.ensures.0 y.0,
        law.onto_more y.1 (law.fields_first _ _ _ _ _ _ _ _ c.loop-r-test.true c.slot-v.ensures.0) (c.slot-v.ensures.1 (law.good_slot _ _ _ _ _ _ _ c.loop-r-test.true y.0)),
      ),
)

pub fields-returns : goal.fields-returns
fields-returns t c = (skipping.fields_end _ _ _ _ _ c.loop-r-test.false ∙ c.loop-r.invariant.3, λ g. law.onto_end (c.loop-r.invariant.4 g).1 (law.fields_none _ _ _ _ _ _ _ c.loop-r-test.false))

pub function-slot-requires : goal.function-slot-requires
function-slot-requires t c = let z : 0 < c.args.c.left = moving.moved_levels _ _ _ _ _ c.any_moved.ensures c.if-any_moved.true in
    (omega (arith, z, c.less-left.ensures, c.scoped-d.ensures.1), tt)

pub function-turns-u-requires : goal.function-turns-u-requires
function-turns-u-requires t c = let z : 0 < c.args.c.left = moving.moved_levels _ _ _ _ _ c.any_moved.ensures c.if-any_moved.true in
    (omega (arith, z, c.less-left.ensures, c.scoped-d.ensures.1), tt)

pub function-slot-u-requires : goal.function-slot-u-requires
function-slot-u-requires t c = let z : 0 < c.args.c.left = moving.moved_levels _ _ _ _ _ c.any_moved.ensures c.if-any_moved.true in
    (omega (arith, z, c.less-left.ensures, c.scoped-d.ensures.1), tt)

pub function-function_body-requires : goal.function-function_body-requires
function-function_body-requires t c = let z : 0 < c.args.c.left = moving.moved_levels _ _ _ _ _ c.any_moved.ensures c.if-any_moved.true in
    (omega (arith, z, c.less-left.ensures, c.scoped-d.ensures.1, c.wide_at-n.ensures.bound), tt)

pub function-returns-then-stands : goal.function-returns-then-stands
function-returns-then-stands t c = bodying.function_moved _ _ _ _ _ _ _ _ _ _ _ _ _ _ _ _ _ _ _ _ _ _ _ _ c.any_moved.ensures c.if-any_moved.true c.stands.ensures c.if-stands.true c.less-left.ensures c.scoped-d.ensures.0 c.scoped-d.ensures.1 c.step-q.ensures c.step.ensures c.peek-bits.ensures c.skip_slot-s.ensures c.wide_at-n.ensures c.step-first.ensures c.moves_make.ensures.0 (c.moves_make.ensures.1 _ _) c.copy-u.ensures.1 (runs_does (c.copy-u.ensures.0 _ _)) c.slot.ensures c.copy-u-then-stands.ensures.1 (runs_does (c.copy-u-then-stands.ensures.0 _ _)) (told.items_own _ _ _ _ _ _ _ _ _ _ _ told.untold_binding c.turns-u.ensures) c.slot-u.ensures c.function_body.ensures (c.to.ensures.0 _ _ _) c.skip.ensures c.to.ensures.1

pub function-returns : goal.function-returns
function-returns t c = bodying.function_plain _ _ _ _ _ (elim c.else-any_moved.branch [ function-else-any_moved-via-then-any_moved+else-stands w ↦ bodying.bodiless _ _ _ _ w.stands.ensures w.if-stands.false | function-else-any_moved-via-else-any_moved w ↦ bodying.unmoved _ _ _ _ c.any_moved.ensures w.if-any_moved.false ]) c.plain.ensures

pub moved_out-returns-then-c-eq0 : goal.moved_out-returns-then-c-eq0
moved_out-returns-then-c-eq0 t c = λ good. law.good_none _ _ _ c.if-c-eq0.true good

pub moved_out-returns-then-has_second : goal.moved_out-returns-then-has_second
moved_out-returns-then-has_second t c = moving.gone_array_rest _ _ _ _ _ _ _ _ _ _ _ _ _ _ _ _ _ c.if-c-eq0.false c.peek-kind.ensures c.in-36.is c.less-left.ensures c.step-q.ensures c.wide_at-n.ensures c.step.ensures c.copy-u.ensures.1 c.inside.ensures.0 c.inside.ensures.1 c.inside-then-has_second.ensures.0 c.inside-then-has_second.ensures.1 c.has_second.ensures c.if-has_second.true (runs_does (c.copy-u.ensures.0 _ _)) (told.items_own _ _ _ _ _ _ _ _ _ _ _ told.untold_moved_out c.turns-u.ensures) c.moved_out.ensures

pub moved_out-returns-in-34 : goal.moved_out-returns-in-34
moved_out-returns-in-34 t c = moving.gone_object _ _ _ _ _ _ _ c.if-c-eq0.false c.peek-kind.ensures c.in-34.is c.skip.ensures c.to.ensures.1 (runs_does c.temporary.ensures.0) (c.to.ensures.0 _ _ _)

pub moved_out-returns-else-has_second : goal.moved_out-returns-else-has_second
moved_out-returns-else-has_second t c = moving.gone_array _ _ _ _ _ _ _ _ _ _ _ _ _ _ c.if-c-eq0.false c.peek-kind.ensures c.in-36.is c.less-left.ensures c.step-q.ensures c.wide_at-n.ensures c.step.ensures c.copy-u.ensures.1 c.inside.ensures.0 c.inside.ensures.1 c.has_second.ensures c.if-has_second.false (runs_does (c.copy-u.ensures.0 _ _)) (told.items_own _ _ _ _ _ _ _ _ _ _ _ told.untold_moved_out c.turns-u.ensures)

pub moved_out-returns-in-37 : goal.moved_out-returns-in-37
moved_out-returns-in-37 t c = moving.gone_default _ _ _ _ _ _ _ _ _ _ _ _ c.if-c-eq0.false c.peek-kind.ensures c.in-37.is c.less-left.ensures c.step-in-37.ensures c.skip-in-37.ensures c.to-u.ensures.1 c.inside-in-37.ensures.0 c.inside-in-37.ensures.1 (runs_does (c.put2.ensures.0 _ _)) (runs_does c.temporary-u.ensures.0) (c.to-u.ensures.0 _ _ _) c.node.ensures

pub moved_out-returns-in_default : goal.moved_out-returns-in_default
moved_out-returns-in_default t c = moving.gone_leaf _ _ _ _ _ _ c.if-c-eq0.false c.peek-kind.ensures (omega arith) (omega arith) (omega arith) c.node-in_default.ensures

pub given_value-returns-then-input : goal.given_value-returns-then-input
given_value-returns-then-input t c = assigning.giv_node _ _ _ _ _ _ _ c.if-input.true (c.to.ensures.0 _ _ _) c.to.ensures.1 c.node.ensures.1

pub given_value-returns : goal.given_value-returns
given_value-returns t c = λ g. assigning.giv_cell _ _ _ _ _ _ c.if-input.false (runs_does c.temporary.ensures.0)

pub loop_head-returns-then-any_moved : goal.loop_head-returns-then-any_moved
loop_head-returns-then-any_moved t c = λ loop. looping.head_declares _ _ _ _ _ _ _ c.less-left.ensures c.step-q.ensures c.peek.ensures loop _ _ _ c.if-peek-eq-DECLARATION.true c.any_moved.ensures c.if-any_moved.true c.skip.ensures c.to.ensures.1 (c.to.ensures.0 _ _ _) c.declaring_head.ensures

pub loop_head-returns-then-peek-eq-DECLARATION : goal.loop_head-returns-then-peek-eq-DECLARATION
loop_head-returns-then-peek-eq-DECLARATION t c = λ loop. looping.head_keeps _ _ _ _ _ _ _ c.less-left.ensures c.step-q.ensures c.peek.ensures loop _ _ c.if-peek-eq-DECLARATION.true c.any_moved.ensures c.if-any_moved.false c.plain.ensures

pub loop_head-returns-then-has_rest_below_array_rest : goal.loop_head-returns-then-has_rest_below_array_rest
loop_head-returns-then-has_rest_below_array_rest t c = λ loop. looping.head_refuses _ _ _ _ _ _ _ c.less-left.ensures c.step-q.ensures c.peek.ensures loop c.if-peek-eq-DECLARATION.false _ _ _ c.has_rest_below_array_rest.ensures c.if-has_rest_below_array_rest.true c.skip-then-has_rest_below_array_rest.ensures c.to-then-has_rest_below_array_rest.ensures.1 (c.to-then-has_rest_below_array_rest.ensures.0 _ _ _) (runs_does (c.refuse.ensures.0 _ _))

pub loop_head-returns-then-has_nested_object_rest : goal.loop_head-returns-then-has_nested_object_rest
loop_head-returns-then-has_nested_object_rest t c = λ loop. looping.head_assigns _ _ _ _ _ _ _ c.less-left.ensures c.step-q.ensures c.peek.ensures loop c.if-peek-eq-DECLARATION.false _ _ _ _ c.has_rest_below_array_rest.ensures c.if-has_rest_below_array_rest.false c.has_nested_object_rest.ensures c.if-has_nested_object_rest.true c.skip-then-has_nested_object_rest.ensures c.to-then-has_nested_object_rest.ensures.1 (c.to-then-has_nested_object_rest.ensures.0 _ _ _) c.assigning_head.ensures

pub loop_head-returns : goal.loop_head-returns
loop_head-returns t c = λ loop. looping.head_stays _ _ _ _ _ _ _ c.less-left.ensures c.step-q.ensures c.peek.ensures loop c.if-peek-eq-DECLARATION.false _ _ c.has_nested_object_rest.ensures c.if-has_nested_object_rest.false c.plain-2.ensures

pub item-returns-then-peek-eq0 : goal.item-returns-then-peek-eq0
item-returns-then-peek-eq0 t c = (c.copy.ensures.1 ∙ c.step.ensures ∙ skipping.item_hole _ _ _ _ _ c.if-holes.true c.peek.ensures c.if-peek-eq0.true, law.hole_does _ _ _ _ _ _ _ _ (law.is_hole _ _ _ _ c.if-holes.true c.peek.ensures c.if-peek-eq0.true) c.step.ensures (runs_does (c.copy.ensures.0 _ _)))

pub item-returns-then-l : goal.item-returns-then-l
item-returns-then-l t c = let e : hole_at _ _ _ ≡ false = (elim c.else-holes.branch [ item-else-holes-via-then-holes+else-peek-eq0 w ↦ law.no_hole _ _ _ _ w.if-holes.true w.peek.ensures w.if-peek-eq0.false | item-else-holes-via-else-holes w ↦ law.full _ _ _ w.if-holes.false ]) in
    (law.deeper_next _ _ _ _ _ c.marked.ensures.1 c.node.ensures.0 ∙ law.item_next _ _ _ _ e, law.statement_does _ _ _ _ _ _ _ _ _ _ e c.if-l.true c.step-then-l.ensures c.wide_at.ensures c.marked.ensures.0 (law.deeper _ _ _ _ _ c.marked.ensures.1 c.node.ensures.1))

pub item-returns : goal.item-returns
item-returns t c = let e : hole_at _ _ _ ≡ false = (elim c.else-holes.branch [ item-else-holes-via-then-holes+else-peek-eq0 w ↦ law.no_hole _ _ _ _ w.if-holes.true w.peek.ensures w.if-peek-eq0.false | item-else-holes-via-else-holes w ↦ law.full _ _ _ w.if-holes.false ]) in
    (c.node-2.ensures.0 ∙ law.item_next _ _ _ _ e, law.node_does _ _ _ _ _ _ _ e c.if-l.false c.node-2.ensures.1)

pub items-loop-init : goal.items-loop-init
items-loop-init t c = let e : c.args.count - 0 ≡ c.args.count = omega arith in rw e (refl, refl, refl, refl, λ g. (g, law.onto_start _ _))

pub items-loop-preserved : goal.items-loop-preserved
items-loop-preserved t c =
    let z : 0 < c.args.count - c.loop.counter = omega arith in
    let e : c.args.count - (c.loop.counter + 1) ≡ c.args.count - c.loop.counter - 1 = omega arith in
    rw e (
      omega (arith, c.loop.invariant.0, c.item-v.auto.out),
      omega (arith, c.loop.invariant.1, c.item-v.auto.list),
      omega (arith, c.loop.invariant.2, c.item-v.auto.work),
      skipping.items_more _ _ _ _ _ _ z c.item-v.ensures.0 ∙ c.loop.invariant.3,
      λ g.
          let y = c.loop.invariant.4 g in (
            law.good_items _ _ _ _ _ _ _ _ z c.item-v.ensures.0 y.0,
            law.onto_more y.1 (law.items_first _ _ _ _ _ _ _ _ z c.item-v.ensures.0) (c.item-v.ensures.1 (law.good_item _ _ _ _ _ _ _ z y.0)),
          ),
    )

pub items-returns : goal.items-returns
items-returns t c =
    let z : c.args.count - c.loop.counter ≤ 0 = omega arith in
    (skipping.items_end _ _ _ _ _ z ∙ c.loop.invariant.3, λ g. law.onto_end (c.loop.invariant.4 g).1 (law.items_none _ _ _ _ _ _ _ z))

pub key-returns-then-is_other : goal.key-returns-then-is_other
key-returns-then-is_other t c = viewing.key_cell _ _ _ _ _ _ _ _ _ c.if-taken.true c.is_other.ensures c.if-is_other.true c.skip.ensures c.to.ensures.1 (c.to.ensures.0 _ _ _) (runs_does c.temporary.ensures.0)

pub key-returns : goal.key-returns
key-returns t c = viewing.key_node_lem _ _ _ _ _ _ _ (elim c.else-taken.branch [ key-else-taken-via-then-taken+else-is_other w ↦ λ h. sym w.is_other.ensures ∙ w.if-is_other.false | key-else-taken-via-else-taken w ↦ λ h. absurd (false≢true (sym w.if-taken.false ∙ h)) ]) c.node.ensures

pub keys-returns-then-c-eq0 : goal.keys-returns-then-c-eq0
keys-returns-then-c-eq0 t c = (refl, λ good h. law.good_none _ _ _ c.if-c-eq0.true good)

pub keys-returns : goal.keys-returns
keys-returns t c = (c.to.ensures.1, excluding.keys_does _ _ _ _ _ _ _ _ _ _ _ _ c.step-q.ensures c.wide_at-n.ensures c.excluded_keys-k.ensures c.step.ensures c.to-u.ensures.1 c.told_under.ensures.0 (c.told_under.ensures.1 ∙ c.less.ensures) (c.to-u.ensures.0 _ _ _) (c.to.ensures.0 _ _ _) (runs_does (c.put2.ensures.0 _ _)) (steps.does_wide _ (c.wide.ensures.0 _ _)) (told.items_own _ _ _ _ _ _ _ _ _ _ _ told.untold_excluded_key c.turns.ensures))

pub key_value-returns-then-is_other : goal.key_value-returns-then-is_other
key_value-returns-then-is_other t c = excluding.key_value _ _ _ _ _ _ _ _ _ _ _ _ _ c.less-left.ensures c.step-k.ensures c.skip-end.ensures c.to.ensures.1 c.inside.ensures.0 c.inside.ensures.1 c.to-u.ensures.1 (c.to-u.ensures.0 _ _ _) (c.to.ensures.0 _ _ _) c.is_other.ensures c.if-is_other.true (runs_does (c.put2.ensures.0 _ _)) (runs_does c.temporary.ensures.0) c.node.ensures

pub key_value-returns : goal.key_value-returns
key_value-returns t c = excluding.key_plain _ _ _ _ _ _ _ _ _ c.less-left.ensures c.step-k.ensures c.skip-end.ensures c.to-2.ensures.1 (c.to-2.ensures.0 _ _ _) c.is_other.ensures c.if-is_other.false

pub literal-properties-requires : goal.literal-properties-requires
literal-properties-requires t c = (omega (arith, c.inside.ensures.1, c.less-left.ensures, heads.spread_levels _ _ _ (sym c.has_spread.ensures ∙ c.if-has_spread.true)), tt)

pub literal-returns-then-has_spread : goal.literal-returns-then-has_spread
literal-returns-then-has_spread t c = λ h. (c.to.ensures.1 ∙ c.skip.ensures, λ good. running.does_to (c.to.ensures.0 _ _ _) (args.object_does _ _ _ _ _ _ _ _ _ _ _ (λ k. c.has_spread.ensures ∙ heads.spread_literal _ _ _ k) c.if-has_spread.true h c.step-q.ensures c.step-first.ensures c.wide_at-n.ensures (c.inside.ensures.1 ∙ c.less-left.ensures) c.to-v.ensures.1 c.inside.ensures.0 (c.to-v.ensures.0 _ _ _) (args.levels _ _ _ _ _ c.inside.ensures.1 (heads.does_opening _ _ _ _ (c.opening.ensures.0 _ _))) c.properties.ensures.1 good))

pub literal-returns : goal.literal-returns
literal-returns t c = λ h. (c.plain.ensures.0, args.object_plain _ _ _ _ _ (λ k. c.has_spread.ensures ∙ heads.spread_literal _ _ _ k) c.if-has_spread.false h c.plain.ensures.1)

pub lowered-returns-in-Wanted : goal.lowered-returns-in-Wanted
lowered-returns-in-Wanted t c = declaring.lowered_kept _ _ _ _ _ _ _ _ _ _ _ _ _ _ _ _ _ _ c.in-Wanted.is (runs_does (c.put2.ensures.0 _ _)) (runs_does c.temporary.ensures.0) (c.to-u.ensures.0 _ _ _) c.to-u.ensures.1 c.place_of.ensures (c.create_read_expression-taken.ensures.0 ∙ sym (ap read_of c.in-Wanted.is)) c.told_inside.ensures.0 c.told_inside.ensures.1 c.node-u.ensures (c.create_read_expression-taken.ensures.1 ∙ sym (ap after_read c.in-Wanted.is)) (c.to.ensures.0 _ _ _) c.to.ensures.1 c.declarators.ensures

pub lowered-returns-in_default : goal.lowered-returns-in_default
lowered-returns-in_default t c = declaring.lowered_read _ _ _ _ _ _ _ (λ l m k s. c.in_default.not-Wanted l m k s) (c.to-in_default.ensures.0 _ _ _) c.to-in_default.ensures.1 c.declarators-in_default.ensures

pub fronts_of_pattern-returns-then-c-eq0 : goal.fronts_of_pattern-returns-then-c-eq0
fronts_of_pattern-returns-then-c-eq0 t c = moving.moved_none _ _ _ _ c.if-c-eq0.true

pub fronts_of_pattern-returns-then-has_second : goal.fronts_of_pattern-returns-then-has_second
fronts_of_pattern-returns-then-has_second t c = moving.moved_array_rest _ _ _ _ _ _ _ _ _ _ _ _ _ _ _ c.if-c-eq0.false c.peek-kind.ensures c.in-36.is c.less-left.ensures c.step-q.ensures c.wide_at-n.ensures c.step-first.ensures c.has_second.ensures c.if-has_second.true c.skip_items-r.ensures c.under.ensures.0 c.under.ensures.1 c.fronts_of_pattern-u.ensures c.under-then-has_second.ensures.0 c.under-then-has_second.ensures.1 c.fronts_of_items.ensures

pub fronts_of_pattern-returns-in-34 : goal.fronts_of_pattern-returns-in-34
fronts_of_pattern-returns-in-34 t c = moving.moved_object _ _ _ _ _ c.if-c-eq0.false c.peek-kind.ensures c.in-34.is c.front.ensures

pub fronts_of_pattern-returns-else-has_second : goal.fronts_of_pattern-returns-else-has_second
fronts_of_pattern-returns-else-has_second t c = moving.moved_array _ _ _ _ _ _ _ _ _ _ _ _ c.if-c-eq0.false c.peek-kind.ensures c.in-36.is c.less-left.ensures c.step-q.ensures c.wide_at-n.ensures c.step-first.ensures c.has_second.ensures c.if-has_second.false c.under-in-36.ensures.0 c.under-in-36.ensures.1 c.fronts_of_items-in-36.ensures

pub fronts_of_pattern-returns-in-37 : goal.fronts_of_pattern-returns-in-37
fronts_of_pattern-returns-in-37 t c = moving.moved_default _ _ _ _ _ _ _ _ _ c.if-c-eq0.false c.peek-kind.ensures c.in-37.is c.less-left.ensures c.step.ensures c.under-in-37.ensures.0 c.under-in-37.ensures.1 c.front-in-37.ensures

pub fronts_of_pattern-returns-in_default : goal.fronts_of_pattern-returns-in_default
fronts_of_pattern-returns-in_default t c = moving.moved_leaf _ _ _ _ _ c.if-c-eq0.false c.peek-kind.ensures (omega arith) (omega arith) (omega arith)

pub node-returns-then-quiet : goal.node-returns-then-quiet
node-returns-then-quiet t c = (c.copy.ensures.1 ∙ c.skip.ensures, law.quiet_does _ _ _ _ _ _ c.quiet.ensures c.if-quiet.true c.skip.ensures (runs_does (c.copy.ensures.0 _ _)))

pub node-returns-in-4 : goal.node-returns-in-4
node-returns-in-4 t c = c.declaration.ensures (sym c.peek-kind.ensures.value ∙ c.in-4.is)

pub node-returns-in-7 : goal.node-returns-in-7
node-returns-in-7 t c = c.loop_head.ensures (law.loop_in _ (sym c.peek-kind.ensures.value ∙ c.in-7.is))

pub node-returns-in-8 : goal.node-returns-in-8
node-returns-in-8 t c = c.loop_head-in-8.ensures (law.loop_of _ (sym c.peek-kind.ensures.value ∙ c.in-8.is))

pub node-returns-in-10 : goal.node-returns-in-10
node-returns-in-10 t c = c.catch_clause.ensures (sym c.peek-kind.ensures.value ∙ c.in-10.is)

pub node-returns-in-14 : goal.node-returns-in-14
node-returns-in-14 t c = c.function.ensures (sym c.peek-kind.ensures.value ∙ c.in-14.is)

pub node-returns-in-17 : goal.node-returns-in-17
node-returns-in-17 t c = c.arrow.ensures (sym c.peek-kind.ensures.value ∙ c.in-17.is)

pub node-returns-in-24 : goal.node-returns-in-24
node-returns-in-24 t c = c.literal.ensures (sym c.peek-kind.ensures.value ∙ c.in-24.is)

pub node-returns-in-27 : goal.node-returns-in-27
node-returns-in-27 t c = c.assignment.ensures (sym c.peek-kind.ensures.value ∙ c.in-27.is)

pub node-returns-in_default : goal.node-returns-in_default
node-returns-in_default t c = (c.plain.ensures.0, law.emits_does _ _ _ _ _ c.peek-kind.ensures (law.nowhere_else _ (omega arith) (omega arith) (omega arith) (omega arith) (omega arith) (omega arith) (omega arith) (omega arith)) c.plain.ensures.1)

pub nested-returns-in-Replacing : goal.nested-returns-in-Replacing
nested-returns-in-Replacing t c = assigning.nst_done _ _ _ _ _ _ _ _ _ _ _ _ _ _ _ _ _ (hands.places_counted _ _ _ _ c.places_in-k.ensures) (c.nested_hands-u.ensures.1 _) (runs_does (c.put2.ensures.0 _ _)) c.plus.ensures (steps.does_wide _ (c.wide.ensures.0 _ _)) (runs_does (c.assign.ensures.0 _ _)) (c.to-u.ensures.0 _ _ _) c.to-u.ensures.1 c.told_inside.ensures c.view-u.ensures c.told_inside-2.ensures c.given_value-u.ensures (assigning.nst_below _ _ _ _ _ _ _ c.in-Replacing.is (c.to.ensures.0 _ _ _) c.to.ensures.1 c.deep.ensures)

pub nested-returns-in-Taking : goal.nested-returns-in-Taking
nested-returns-in-Taking t c = assigning.nst_done _ _ _ _ _ _ _ _ _ _ _ _ _ _ _ _ _ (hands.places_counted _ _ _ _ c.places_in-k.ensures) (c.nested_hands-u.ensures.1 _) (runs_does (c.put2.ensures.0 _ _)) c.plus.ensures (steps.does_wide _ (c.wide.ensures.0 _ _)) (runs_does (c.assign.ensures.0 _ _)) (c.to-u.ensures.0 _ _ _) c.to-u.ensures.1 c.told_inside.ensures c.view-u.ensures c.told_inside-2.ensures c.given_value-u.ensures (assigning.nst_arrays _ _ _ _ _ _ _ c.in-Taking.is (c.object_properties.ensures (told.told_value_lem _)))

pub own_pattern-returns-then-has_no_properties : goal.own_pattern-returns-then-has_no_properties
own_pattern-returns-then-has_no_properties t c = with-next (declaring.own_pattern_left _ _ _ _ _ _ c.has_no_properties.ensures c.if-has_no_properties.true) (reading.keeps_same _)

pub own_pattern-returns : goal.own_pattern-returns
own_pattern-returns t c = with-next (declaring.own_pattern_done _ _ _ _ _ _ _ _ _ _ _ _ c.has_no_properties.ensures c.if-has_no_properties.false (runs_does (c.put2.ensures.0 _ _)) c.put2.ensures.1 c.told_inside.ensures.0 c.told_inside.ensures.1 c.view-u.ensures ((c.source-s.ensures.0, runs_does c.source-s.ensures.2)) (c.to.ensures.0 _ _ _) c.to.ensures.1) (reading.keeps_read _ _ c.source-s.ensures.1)

pub own_rest-returns-then-has_second : goal.own_rest-returns-then-has_second
own_rest-returns-then-has_second t c = declaring.own_rest_done _ _ _ _ _ _ _ _ _ _ _ _ _ _ _ _ _ _ _ _ c.has_second.ensures c.if-has_second.true c.less-left.ensures c.step-q.ensures c.wide_at.ensures c.step.ensures c.skip_items-r.ensures (runs_does (c.put2.ensures.0 _ _)) (c.to.ensures.0 _ _ _) c.to.ensures.1 c.told_inside.ensures.0 c.told_inside.ensures.1 c.node-u.ensures (told.with_inner _ _ c.inside.ensures.0) c.inside.ensures.1 (c.rest-s.ensures.0, c.rest-s.ensures.2) (c.to-then-has_second.ensures.0 _ _ _) c.to-then-has_second.ensures.1 (walked.source_quiet _ _)

pub own_rest-returns : goal.own_rest-returns
own_rest-returns t c = declaring.own_rest_left _ _ _ _ _ _ _ c.has_second.ensures c.if-has_second.false

pub own_keys-returns-then-c-eq0 : goal.own_keys-returns-then-c-eq0
own_keys-returns-then-c-eq0 t c = (refl, reading.keeps_same _, λ k good. good_none _ _ _ c.if-c-eq0.true good)

pub own_keys-returns-then-has_second : goal.own_keys-returns-then-has_second
own_keys-returns-then-has_second t c = with-next (declaring.own_keyed _ _ _ _ _ _ _ _ _ _ _ _ _ _ _ _ c.has_second.ensures c.if-has_second.true c.step-q.ensures c.wide_at-n.ensures c.step.ensures c.to.ensures.1 (c.to.ensures.0 _ _ _) c.less.ensures c.told_inside.ensures.1 c.told_inside.ensures.0 (told.items_own _ _ _ _ _ _ _ _ _ _ _ told.untold_key_value c.turns-u.ensures) (c.to-then-has_second.ensures.0 _ _ _) c.to-then-has_second.ensures.1 (c.own_pattern.ensures.0, c.own_pattern.ensures.2)) c.own_pattern.ensures.1

pub own_keys-returns : goal.own_keys-returns
own_keys-returns t c = with-next (declaring.own_plain _ _ _ _ _ _ _ c.has_second.ensures c.if-has_second.false (c.own_pattern-2.ensures.0, c.own_pattern-2.ensures.2)) c.own_pattern-2.ensures.1

pub declarators-returns-then-c-eq0 : goal.declarators-returns-then-c-eq0
declarators-returns-then-c-eq0 t c = λ _ good. good_none _ _ _ c.if-c-eq0.true good

pub declarators-returns-in-34 : goal.declarators-returns-in-34
declarators-returns-in-34 t c = λ settled. declaring.pattern_object_done _ _ _ _ _ _ _ _ _ _ _ _ _ _ _ _ _ c.peek-kind.ensures.value c.in-34.is c.step-q.ensures c.wide_at-n.ensures (c.own_keys-s.ensures.0, c.own_keys-s.ensures.2) c.step.ensures c.to-u.ensures.1 (c.to-u.ensures.0 _ _ _) c.less.ensures c.under.ensures.1 (told.with_same _ c.under.ensures.0) (told.items_with _ _ _ _ _ _ _ _ _ _ _ (told.told_value_lem _) c.turns.ensures) (c.to-u-in-34.ensures.0 _ _ _) c.to-u-in-34.ensures.1 (declaring.later_rest _ _ _ _ _ _ _ c.own_keys-s.ensures.1 settled c.own_rest.ensures)

pub declarators-returns-in-36 : goal.declarators-returns-in-36
declarators-returns-in-36 t c = λ _. declaring.pattern_array_done _ _ _ _ _ _ _ _ _ _ _ _ _ c.peek-kind.ensures.value c.in-36.is (runs_does (c.put2.ensures.0 _ _)) c.put2.ensures.1 c.told_inside.ensures.0 c.told_inside.ensures.1 c.view-u.ensures ((c.source-s.ensures.0, runs_does c.source-s.ensures.2)) (c.to-u-in-36.ensures.0 _ _ _) c.to-u-in-36.ensures.1 c.deep.ensures

pub declarators-returns-in_default : goal.declarators-returns-in_default
declarators-returns-in_default t c = λ _. declaring.pattern_other _ _ _ _ _ _ c.peek-kind.ensures.value (omega arith) (omega arith)

pub plain-returns-then-left-eq0 : goal.plain-returns-then-left-eq0
plain-returns-then-left-eq0 t c = (skipping.node_none _ _ _ c.if-left-eq0.true, law.good_none _ _ _ c.if-left-eq0.true)

pub plain-overflow_sub-left : goal.plain-overflow_sub-left
plain-overflow_sub-left t c = omega (arith, c.if-left-eq0.false)

pub plain-overflow_sub-left-then-kind-eq-SWITCH : goal.plain-overflow_sub-left-then-kind-eq-SWITCH
plain-overflow_sub-left-then-kind-eq-SWITCH t c = omega (arith, c.if-left-eq0.false)

pub plain-returns-then-kind-eq-SWITCH : goal.plain-returns-then-kind-eq-SWITCH
plain-returns-then-kind-eq-SWITCH t c = (c.to.ensures.1 ∙ c.skip.ensures, λ good. running.does_to (c.to.ensures.0 _ _ _) (law.switch_does _ _ _ _ _ _ _ _ _ _ _ _ _ _ c.if-left-eq0.false c.peek-kind.ensures.value c.if-kind-eq-SWITCH.true c.step.ensures c.peek-map.ensures.value c.step-2.ensures c.copy-v.ensures.1 c.parts_of-inner.ensures.0 c.parts_of-cases.ensures.0 c.parts_of-inner.ensures.1 c.parts_of-cases.ensures.1 (runs_does (c.copy-v.ensures.0 _ _)) c.fields-u.ensures.1 c.fields-u.ensures.0 c.fields.ensures.1 good))

pub plain-returns : goal.plain-returns
plain-returns t c = (c.to-2.ensures.1 ∙ c.skip-2.ensures, λ good. running.does_to (c.to-2.ensures.0 _ _ _) (law.plain_does _ _ _ _ _ _ _ _ _ _ _ _ _ c.if-left-eq0.false c.peek-kind.ensures.value c.step.ensures c.peek-map.ensures.value c.if-kind-eq-SWITCH.false c.row.ensures c.step-2.ensures c.copy-v.ensures.1 c.container.ensures c.parts_of-inner.ensures.0 c.parts_of-inner.ensures.1 (runs_does (c.copy-v.ensures.0 _ _)) c.fields-2.ensures.1 good))

pub object_properties-returns-then-c-eq0 : goal.object_properties-returns-then-c-eq0
object_properties-returns-then-c-eq0 t c = λ m k good suit. good_none _ _ _ c.if-c-eq0.true good

pub object_properties-returns : goal.object_properties-returns
object_properties-returns t c = λ m. finding.properties_done _ _ _ _ _ _ _ _ _ _ _ _ _ c.less.ensures c.under.ensures.1 (told.with_same _ c.under.ensures.0) c.step-q.ensures c.wide_at-n.ensures c.step.ensures c.to.ensures.1 (c.to.ensures.0 _ _ _) (told.items_with _ _ _ _ _ _ _ _ _ _ _ m c.turns.ensures)

pub view_property-returns-then-peek-eq-STATIC_KEY : goal.view_property-returns-then-peek-eq-STATIC_KEY
view_property-returns-then-peek-eq-STATIC_KEY t c = quiets.property_quiet _ _ _ _ _ _ _ _ _ _ c.quiet.ensures c.if-quiet.true c.step.ensures c.peek.ensures.value c.if-peek-eq-STATIC_KEY.true c.skip.ensures c.copy.ensures.1 (runs_does (c.copy.ensures.0 _ _))

pub view_property-returns : goal.view_property-returns
view_property-returns t c = viewing.property_does _ _ _ _ _ _ _ _ _ _ _ _ _ _ _ c.step-2.ensures c.copy-2.ensures.1 c.inside.ensures.0 (c.inside.ensures.1 ∙ c.less-left.ensures) c.inside-2.ensures.0 (c.inside-2.ensures.1 ∙ c.less-left.ensures) c.step-3.ensures c.copy-3.ensures.1 (runs_does (c.copy-2.ensures.0 _ _)) c.key-u.ensures c.view-u.ensures (runs_does (c.copy-3.ensures.0 _ _))

pub properties-loop-before-init : goal.properties-loop-before-init
properties-loop-before-init t c = let e : c.args.count - 0 ≡ c.args.count = omega arith in rw e (refl, refl, refl, refl, (λ z g. (g, law.onto_start _ _)))

pub properties-loop-before-preserved : goal.properties-loop-before-preserved
properties-loop-before-preserved t c =
    let z : 0 < c.args.count - c.loop-before.before = omega arith in
    let e : c.args.count - (c.loop-before.before + 1) ≡ c.args.count - c.loop-before.before - 1 = omega arith in
    rw e (
      omega (arith, c.loop-before.invariant.0, c.property-v.auto.out),
      omega (arith, c.loop-before.invariant.1, c.property-v.auto.list),
      omega (arith, c.loop-before.invariant.2, c.property-v.auto.work),
      args.items_next _ _ _ _ _ z c.property-v.ensures.0 ∙ c.loop-before.invariant.3,
      λ few g.
          let y = c.loop-before.invariant.4 few g in (
            args.good_rest _ _ _ _ _ _ z c.property-v.ensures.0 y.0,
            law.onto_more y.1 (args.parts_more _ _ _ _ _ _ z c.property-v.ensures.0) (c.property-v.ensures.1 (omega (arith, few)) (args.good_first _ _ _ _ _ z y.0)),
          ),
    )

pub properties-returns : goal.properties-returns
properties-returns t c =
    let z : c.args.count - c.loop-before.before ≤ 0 = omega arith in
    (skipping.items_end _ _ _ _ _ z ∙ c.loop-before.invariant.3, λ few g. law.onto_end (c.loop-before.invariant.4 few g).1 (args.parts_none _ _ _ _ _ z))

pub property-returns-then-has_first : goal.property-returns-then-has_first
property-returns-then-has_first t c = (
  c.pending.ensures.1 ∙ c.to-v.ensures.1 ∙ c.skip.ensures,
  λ small good. args.part_arg _ _ _ _ _ _ _ _ _ _ _ _ _ c.is_spread.ensures c.has_first.ensures c.if-is_spread.true c.if-has_first.true c.step.ensures c.to.ensures.1 (c.under.ensures.1 ∙ c.less-left.ensures) c.under.ensures.0 (c.to-v.ensures.1 ∙ c.skip.ensures) c.run_of-k.ensures (c.to.ensures.0 _ _ _) c.node.ensures.1 (c.to-v.ensures.0 _ _ _) (heads.does_pending _ (c.pending.ensures.0 _ _)) small good,
)

pub property-returns : goal.property-returns
property-returns t c = (c.node-2.ensures.0, λ small. (elim c.else-is_spread.branch [ property-else-is_spread-via-then-is_spread+else-has_first w ↦ λ good. args.part_plain _ _ _ _ _ _ _ c.is_spread.ensures w.has_first.ensures w.if-is_spread.true w.if-has_first.false good | property-else-is_spread-via-else-is_spread w ↦ args.part_node _ _ _ _ _ _ c.is_spread.ensures w.if-is_spread.false c.node-2.ensures.1 ]))

pub read-returns-then-hoisted : goal.read-returns-then-hoisted
read-returns-then-hoisted t c = (c.temporary.ensures.1, excluding.read_cell _ _ _ _ _ _ c.hoisted.ensures c.if-hoisted.true c.cell.ensures (runs_does c.temporary.ensures.0))

pub read-returns-then-all_primitive : goal.read-returns-then-all_primitive
read-returns-then-all_primitive t c = (c.keys.ensures.0, excluding.read_strings _ _ _ _ _ _ c.hoisted.ensures c.if-hoisted.false c.all_primitive.ensures c.if-all_primitive.true c.keys.ensures.1)

pub read-returns : goal.read-returns
read-returns t c = (c.mapped.ensures.1 ∙ c.keys-2.ensures.0 ∙ c.put2-u.ensures.1 ∙ c.put2.ensures.1, excluding.read_any _ _ _ _ _ _ c.hoisted.ensures c.if-hoisted.false c.all_primitive.ensures c.if-all_primitive.false (runs_does (c.put2.ensures.0 _ _)) (runs_does (c.put2-u.ensures.0 _ _)) c.keys-2.ensures.1 (runs_does (c.mapped.ensures.0 _ _)))

pub rest-returns-then-passes : goal.rest-returns-then-passes
rest-returns-then-passes t c = (refl, reading.keeps_same _, λ _ good k clear. walked.passed true _ c.passes.ensures c.if-passes.true (λ _. clear))

pub rest-returns-then-has_no_properties : goal.rest-returns-then-has_no_properties
rest-returns-then-has_no_properties t c = (c.source.ensures.0 ∙ c.source-s.ensures.0 ∙ c.empty_rest.ensures.1, reading.keeps_then _ _ _ (reading.keeps_read _ _ c.source-s.ensures.1) (reading.keeps_read _ _ c.source.ensures.1), λ settled good k _. excluding.rest_whole _ _ _ _ _ c.has_no_properties.ensures c.if-has_no_properties.true (runs_does (c.empty_rest.ensures.0 _ _)) (runs_does c.source-s.ensures.2) (running.does_as (runs_does c.source.ensures.2) (sources.same_source _ _ _ (ap read_of c.source-s.ensures.1 ∙ settled))))

pub rest-returns : goal.rest-returns
rest-returns t c = (c.read-u.ensures.0 ∙ c.source-s-2.ensures.0 ∙ c.call.ensures.1, reading.keeps_read _ _ c.source-s-2.ensures.1, λ _ good k _. excluding.rest_keys _ _ _ _ _ _ _ _ c.has_no_properties.ensures c.if-has_no_properties.false (told.with_inner _ _ c.inside.ensures.0) c.inside.ensures.1 (steps.does_call _ _ (c.call.ensures.0 _ _)) (runs_does c.source-s-2.ensures.2) c.read-u.ensures.1 good k)

pub turns-loop-init : goal.turns-loop-init
turns-loop-init t c = let e : c.args.count - 0 ≡ c.args.count = omega arith in rw e (refl, refl, refl, λ g a. turning.along_start _ _ _ _ _ _ _ _ g a)

pub turns-loop-preserved : goal.turns-loop-preserved
turns-loop-preserved t c =
    let z : 0 < c.args.count - c.loop.counter = omega arith in
    let e : c.args.count - (c.loop.counter + 1) ≡ c.args.count - c.loop.counter - 1 = omega arith in
    rw e (omega (arith, c.loop.invariant.0, c.turn-v.auto.out), omega (arith, c.loop.invariant.1, c.turn-v.auto.list), omega (arith, c.loop.invariant.2, c.turn-v.auto.work), λ g a. turning.along_more _ _ _ _ _ _ z c.turn-v.ensures (c.loop.invariant.3 g a))

pub turns-returns : goal.turns-returns
turns-returns t c =
    let z : c.args.count - c.loop.counter ≤ 0 = omega arith in
    λ g a. turning.along_end _ _ _ _ _ z (c.loop.invariant.3 g a)

pub slot-returns-then-bit-eq0 : goal.slot-returns-then-bit-eq0
slot-returns-then-bit-eq0 t c = (skipping.slot_absent _ _ _ _ _ c.if-bit-eq0.true, λ g. law.slot_none _ _ _ _ _ _ _ c.if-bit-eq0.true)

pub slot-returns-in-1 : goal.slot-returns-in-1
slot-returns-in-1 t c = (c.node.ensures.0 ∙ skipping.slot_class _ _ _ _ _ c.if-bit-eq0.false 1 c.in-1.is, law.child_does _ _ _ _ _ _ _ _ c.if-bit-eq0.false c.in-1.is c.node.ensures.1)

pub slot-returns-in-2 : goal.slot-returns-in-2
slot-returns-in-2 t c = (c.node-in-2.ensures.0 ∙ skipping.slot_class _ _ _ _ _ c.if-bit-eq0.false 2 c.in-2.is, law.chosen_does _ _ _ _ _ _ _ _ c.if-bit-eq0.false c.in-2.is c.node-in-2.ensures.1)

pub slot-returns-in-3 : goal.slot-returns-in-3
slot-returns-in-3 t c = (skipping.slot_many _ _ _ _ _ c.if-bit-eq0.false _ _ _ c.wide_at.ensures.value (c.copy.ensures.1 ∙ c.step.ensures) c.items.ensures.0 c.in-3.is, law.many_does _ _ _ _ _ _ _ _ c.if-bit-eq0.false _ _ _ c.in-3.is c.wide_at.ensures c.step.ensures c.copy.ensures.1 (runs_does (c.copy.ensures.0 _ _)) c.items.ensures.1)

pub slot-returns-in-4 : goal.slot-returns-in-4
slot-returns-in-4 t c = (skipping.slot_gaps _ _ _ _ _ c.if-bit-eq0.false _ _ _ c.wide_at-in-4.ensures.value (c.copy-in-4.ensures.1 ∙ c.step-in-4.ensures) c.items-in-4.ensures.0 c.in-4.is, law.gaps_does _ _ _ _ _ _ _ _ c.if-bit-eq0.false _ _ _ c.in-4.is c.wide_at-in-4.ensures c.step-in-4.ensures c.copy-in-4.ensures.1 (runs_does (c.copy-in-4.ensures.0 _ _)) c.items-in-4.ensures.1)

pub slot-returns-in_default : goal.slot-returns-in_default
slot-returns-in_default t c = (c.copy-in_default.ensures.1 ∙ c.skip_slot.ensures, law.leaf_does _ _ _ _ _ _ _ _ _ c.if-bit-eq0.false (omega arith) c.skip_slot.ensures (runs_does (c.copy-in_default.ensures.0 _ _)))

pub target_statement-returns : goal.target_statement-returns
target_statement-returns t c = looping.assigned_does _ _ _ _ _ _ _ c.mark.ensures (told.own_statement _ _ c.at_root-root.ensures _ c.statement-d.ensures.0) c.statement-d.ensures.1 (runs_does (c.put2.ensures.0 _ _)) (runs_does (c.new_mark-u.ensures.0 _ _)) c.assignment_to.ensures

pub assigning_body-overflow_add-k : goal.assigning_body-overflow_add-k
assigning_body-overflow_add-k t c = omega (arith, c.wide_at-k.ensures.bound)

pub assigning_body-returns-in-2 : goal.assigning_body-returns-in-2
assigning_body-returns-in-2 t c = looping.target_block _ _ _ _ _ _ _ _ _ _ _ _ _ _ _ c.peek-kind.ensures c.in-2.is c.step-q.ensures c.wide_at-k.ensures c.step.ensures c.to.ensures.1 c.scoped.ensures.0 c.scoped.ensures.1 c.scoped-in-2.ensures.0 (c.scoped-in-2.ensures.1 ∙ c.less.ensures) (c.to.ensures.0 _ _ _) (runs_does (c.copy.ensures.0 _ _)) (steps.does_wide _ (c.wide.ensures.0 _ _)) c.target_statement-u.ensures c.items.ensures

pub assigning_body-returns-in-13 : goal.assigning_body-returns-in-13
assigning_body-returns-in-13 t c = looping.target_empty _ _ _ _ _ _ _ _ _ _ c.peek-kind.ensures c.in-13.is c.scoped-in-13.ensures.0 c.scoped-in-13.ensures.1 c.skip.ensures c.to-in-13.ensures.1 (c.to-in-13.ensures.0 _ _ _) (steps.does_block _ (c.block.ensures.0 _ _)) c.target_statement.ensures

pub assigning_body-returns-in_default : goal.assigning_body-returns-in_default
assigning_body-returns-in_default t c = looping.target_statement _ _ _ _ _ _ _ _ _ _ _ _ c.peek-kind.ensures (omega arith) (omega arith) c.scoped-in_default.ensures.0 c.scoped-in_default.ensures.1 c.scoped-in_default-2.ensures.0 c.scoped-in_default-2.ensures.1 c.to-in_default.ensures.1 (c.to-in_default.ensures.0 _ _ _) (steps.does_block _ (c.block-in_default.ensures.0 _ _)) c.target_statement-u-in_default.ensures c.item.ensures

pub target-returns-then-object_count-gt0 : goal.target-returns-then-object_count-gt0
target-returns-then-object_count-gt0 t c = (reading.keeps_read _ _ c.create_read_expression-taken.ensures.1, λ reads. assigning.tgt_nested _ _ _ _ _ _ _ _ (λ k. c.object_count.ensures ∙ values_object _ _ _ _ k) c.if-object_count-gt0.true (told.own_inner _ _ refl c.told_inside-d.ensures.0, c.told_inside-d.ensures.1) (assigning.read_place _ _ _ _ _ c.place_of-x.ensures c.create_read_expression-taken.ensures.0 reads) c.nested-u.ensures)

pub target-returns : goal.target-returns
target-returns t c = (reading.keeps_read _ _ c.source.ensures.1, λ reads. assigning.tgt_kept _ _ _ _ _ _ _ _ _ _ (λ k. c.object_count.ensures ∙ values_object _ _ _ _ k) c.if-object_count-gt0.false c.told_inside-d.ensures (runs_does (c.assign.ensures.0 _ _)) (c.to.ensures.0 _ _ _) c.to.ensures.1 c.view-u.ensures refl (running.does_as (runs_does c.source.ensures.2) (sources.reads_cell _ _ _ _ reads)))

pub assigning_head-returns-then-c-eq0 : goal.assigning_head-returns-then-c-eq0
assigning_head-returns-then-c-eq0 t c = λ loop four na ob good. law.good_none _ _ _ c.if-c-eq0.true good

pub assigning_head-returns : goal.assigning_head-returns
assigning_head-returns t c = looping.assigning_does _ _ _ _ _ _ _ _ _ _ _ _ _ c.less-left.ensures c.step-q.ensures c.scoped-d.ensures.0 c.scoped-d.ensures.1 c.make.ensures.1 c.skip.ensures c.to.ensures.1 (c.to.ensures.0 _ _ _) (runs_does (c.make.ensures.0 _ _)) (runs_does (c.copy-u.ensures.0 _ _)) (steps.does_declaration _ _ (c.declaration.ensures.0 _ _)) (runs_does (c.put2.ensures.0 _ _)) (runs_does c.temporary-u.ensures.0) c.node-u.ensures c.assigning_body-u.ensures (runs_does (c.await_of.ensures.1 _ _))

pub top-returns-in-Some : goal.top-returns-in-Some
top-returns-in-Some t c = λ k h g x a. assigning.top_refused _ _ _ _ _ _ _ _ (refused_by c.from.ensures c.in-Some.is c.refusal.ensures) (refused_past _ c.from.ensures) (runs_does (c.refuse.ensures.0 _ _))

pub top-returns-then-c : goal.top-returns-then-c
top-returns-then-c t c = λ k h. assigning.top_does _ _ _ _ _ _ _ _ _ _ _ _ _ _ _ _ _ _ _ _ _ (refused_none c.in_default.is c.refusal.ensures) (omega arith) c.told_inside-d.ensures (c.top_hands-u.ensures.1 _) (hands.top_counted _ _ _ _ c.top_count-k.ensures) (runs_does (c.put2.ensures.0 _ _)) (steps.does_wide _ (c.wide.ensures.0 _ _)) (runs_does (c.assign.ensures.0 _ _)) c.cell-v.ensures (runs_does c.temporary-u.ensures.0) (assigning.given_at _ _ _ _ _ _ _ (assigning.forced_place _ _ _ _ _ _ _ c.place_of-y.ensures c.create_read_expression-first.ensures.0 c.new-b.ensures) c.given_value-u.ensures) (c.target-s.ensures.1 (assigning.forced_reads _ _ _ _ _ _ _ c.new-b.ensures c.create_read_expression-first.ensures.1 c.cell-v.ensures)) (c.object_properties-u.ensures (told.told_value_lem _)) (runs_does (c.assign-2.ensures.0 _ _)) c.assign-2.ensures.1 c.less.ensures c.told_inside.ensures c.node-u.ensures.1 refl (λ u. sources.reads_cell u _ _ _ ((c.target-s.ensures.0 (reading.settled_read _ _ c.create_read_expression-first.ensures.1)).1 ∙ (assigning.forced_reads _ _ _ _ _ _ _ c.new-b.ensures c.create_read_expression-first.ensures.1 c.cell-v.ensures))) (told.own_inner _ _ refl c.told_inside-d.ensures.0) (c.rest-s.ensures.2 (c.target-s.ensures.0 (reading.settled_read _ _ c.create_read_expression-first.ensures.1)).0) (λ w. does_nothing _) (assigning.read_none _ _ c.if-c.true) k h

pub top-returns : goal.top-returns
top-returns t c = λ k h. assigning.top_does _ _ _ _ _ _ _ _ _ _ _ _ _ _ _ _ _ _ _ _ _ (refused_none c.in_default.is c.refusal.ensures) (omega arith) c.told_inside-d.ensures (c.top_hands-u.ensures.1 _) (hands.top_counted _ _ _ _ c.top_count-k.ensures) (runs_does (c.put2.ensures.0 _ _)) (steps.does_wide _ (c.wide.ensures.0 _ _)) (runs_does (c.assign.ensures.0 _ _)) c.cell-v.ensures (runs_does c.temporary-u.ensures.0) (assigning.given_at _ _ _ _ _ _ _ (assigning.forced_place _ _ _ _ _ _ _ c.place_of-y.ensures c.create_read_expression-first.ensures.0 c.new-b.ensures) c.given_value-u.ensures) (c.target-s.ensures.1 (assigning.forced_reads _ _ _ _ _ _ _ c.new-b.ensures c.create_read_expression-first.ensures.1 c.cell-v.ensures)) (c.object_properties-u.ensures (told.told_value_lem _)) (runs_does (c.assign-2.ensures.0 _ _)) c.assign-2.ensures.1 c.less.ensures c.told_inside.ensures c.node-u.ensures.1 refl (λ u. sources.reads_cell u _ _ _ ((c.target-s.ensures.0 (reading.settled_read _ _ c.create_read_expression-first.ensures.1)).1 ∙ (assigning.forced_reads _ _ _ _ _ _ _ c.new-b.ensures c.create_read_expression-first.ensures.1 c.cell-v.ensures))) (told.own_inner _ _ refl c.told_inside-d.ensures.0) (c.rest-s.ensures.2 (c.target-s.ensures.0 (reading.settled_read _ _ c.create_read_expression-first.ensures.1)).0) (assigning.value_read _ _ refl (running.does_as (runs_does c.source.ensures.2) (sources.reads_cell _ _ _ _ ((c.rest-s.ensures.1 (c.target-s.ensures.0 (reading.settled_read _ _ c.create_read_expression-first.ensures.1)).0).1 ∙ ((c.target-s.ensures.0 (reading.settled_read _ _ c.create_read_expression-first.ensures.1)).1 ∙ (assigning.forced_reads _ _ _ _ _ _ _ c.new-b.ensures c.create_read_expression-first.ensures.1 c.cell-v.ensures)))))) (assigning.read_some _ _ c.if-c.false) k h

pub turn-returns-then-peek-eq0 : goal.turn-returns-then-peek-eq0
turn-returns-then-peek-eq0 t c = turning.turned_hole _ _ _ _ _ _ _ _ c.if-holes.true c.peek.ensures c.if-peek-eq0.true c.hole.ensures.0 (sources.does_hole _ _ _ (c.hole.ensures.1 _ _))

pub turn-returns-in-Viewed : goal.turn-returns-in-Viewed
turn-returns-in-Viewed t c = told.item_own _ _ _ _ _ _ _ _ _ _ (ap is_told c.in-Viewed.is ∙ told.untold_viewed) (turning.turned_viewed _ _ _ _ _ _ _ (elim c.else-holes.branch [ turn-else-holes-via-then-holes+else-peek-eq0 w ↦ law.no_hole _ _ _ _ w.if-holes.true w.peek.ensures w.if-peek-eq0.false | turn-else-holes-via-else-holes w ↦ law.full _ _ _ w.if-holes.false ]) c.in-Viewed.is c.view.ensures)

pub turn-returns-in-MovedOut : goal.turn-returns-in-MovedOut
turn-returns-in-MovedOut t c = told.item_own _ _ _ _ _ _ _ _ _ _ (ap is_told c.in-MovedOut.is ∙ told.untold_moved_out) (turning.turned_moved_out _ _ _ _ _ _ _ (elim c.else-holes.branch [ turn-else-holes-via-then-holes+else-peek-eq0 w ↦ law.no_hole _ _ _ _ w.if-holes.true w.peek.ensures w.if-peek-eq0.false | turn-else-holes-via-else-holes w ↦ law.full _ _ _ w.if-holes.false ]) c.in-MovedOut.is c.moved_out.ensures)

pub turn-returns-in-Below : goal.turn-returns-in-Below
turn-returns-in-Below t c = told.item_with _ _ _ _ _ _ _ _ _ _ (ap is_told c.in-Below.is ∙ told.told_below _) (turning.turned_below _ _ _ _ _ _ _ (elim c.else-holes.branch [ turn-else-holes-via-then-holes+else-peek-eq0 w ↦ law.no_hole _ _ _ _ w.if-holes.true w.peek.ensures w.if-peek-eq0.false | turn-else-holes-via-else-holes w ↦ law.full _ _ _ w.if-holes.false ]) _ c.in-Below.is c.deep.ensures)

pub turn-returns-in-Property : goal.turn-returns-in-Property
turn-returns-in-Property t c = told.item_own _ _ _ _ _ _ _ _ _ _ (ap is_told c.in-Property.is ∙ told.untold_property _) (turning.turned_property _ _ _ _ _ _ _ (elim c.else-holes.branch [ turn-else-holes-via-then-holes+else-peek-eq0 w ↦ law.no_hole _ _ _ _ w.if-holes.true w.peek.ensures w.if-peek-eq0.false | turn-else-holes-via-else-holes w ↦ law.full _ _ _ w.if-holes.false ]) _ c.in-Property.is c.view_property.ensures)

pub turn-returns-in-ExcludedKey : goal.turn-returns-in-ExcludedKey
turn-returns-in-ExcludedKey t c = told.item_own _ _ _ _ _ _ _ _ _ _ (ap is_told c.in-ExcludedKey.is ∙ told.untold_excluded_key) (turning.turned_excluded_key _ _ _ _ _ _ _ (elim c.else-holes.branch [ turn-else-holes-via-then-holes+else-peek-eq0 w ↦ law.no_hole _ _ _ _ w.if-holes.true w.peek.ensures w.if-peek-eq0.false | turn-else-holes-via-else-holes w ↦ law.full _ _ _ w.if-holes.false ]) c.in-ExcludedKey.is c.excluded_key.ensures)

pub turn-returns-in-KeyValue : goal.turn-returns-in-KeyValue
turn-returns-in-KeyValue t c = told.item_own _ _ _ _ _ _ _ _ _ _ (ap is_told c.in-KeyValue.is ∙ told.untold_key_value) (turning.turned_key_value _ _ _ _ _ _ _ (elim c.else-holes.branch [ turn-else-holes-via-then-holes+else-peek-eq0 w ↦ law.no_hole _ _ _ _ w.if-holes.true w.peek.ensures w.if-peek-eq0.false | turn-else-holes-via-else-holes w ↦ law.full _ _ _ w.if-holes.false ]) c.in-KeyValue.is c.key_value.ensures)

pub turn-returns-in-Value : goal.turn-returns-in-Value
turn-returns-in-Value t c = told.item_with _ _ _ _ _ _ _ _ _ _ (ap is_told c.in-Value.is ∙ told.told_value_lem _) (turning.turned_value _ _ _ _ _ _ _ (elim c.else-holes.branch [ turn-else-holes-via-then-holes+else-peek-eq0 w ↦ law.no_hole _ _ _ _ w.if-holes.true w.peek.ensures w.if-peek-eq0.false | turn-else-holes-via-else-holes w ↦ law.full _ _ _ w.if-holes.false ]) _ c.in-Value.is c.deep_value.ensures)

pub turn-returns-in-Declarator : goal.turn-returns-in-Declarator
turn-returns-in-Declarator t c = told.item_with _ _ _ _ _ _ _ _ _ _ (ap is_told c.in-Declarator.is ∙ told.told_declarator) (turning.turned_declarator _ _ _ _ _ _ _ (elim c.else-holes.branch [ turn-else-holes-via-then-holes+else-peek-eq0 w ↦ law.no_hole _ _ _ _ w.if-holes.true w.peek.ensures w.if-peek-eq0.false | turn-else-holes-via-else-holes w ↦ law.full _ _ _ w.if-holes.false ]) c.in-Declarator.is c.declarator.ensures)

pub turn-returns-in-Binding : goal.turn-returns-in-Binding
turn-returns-in-Binding t c = told.item_own _ _ _ _ _ _ _ _ _ _ (ap is_told c.in-Binding.is ∙ told.untold_binding) (turning.turned_binding _ _ _ _ _ _ _ (elim c.else-holes.branch [ turn-else-holes-via-then-holes+else-peek-eq0 w ↦ law.no_hole _ _ _ _ w.if-holes.true w.peek.ensures w.if-peek-eq0.false | turn-else-holes-via-else-holes w ↦ law.full _ _ _ w.if-holes.false ]) c.in-Binding.is c.binding.ensures)

pub view_array-returns-then-c-eq0 : goal.view_array-returns-then-c-eq0
view_array-returns-then-c-eq0 t c = λ h good. law.good_none _ _ _ c.if-c-eq0.true good

pub view_array-returns-then-has_second : goal.view_array-returns-then-has_second
view_array-returns-then-has_second t c = viewing.array_rest_lem _ _ _ _ _ _ _ _ _ _ _ _ _ _ _ _ c.has_second.ensures c.if-has_second.true c.step-q.ensures c.wide_at-n.ensures c.step.ensures c.copy-u.ensures.1 c.inside.ensures.0 (c.inside.ensures.1 ∙ c.less-left.ensures) c.inside-then-has_second.ensures.0 (c.inside-then-has_second.ensures.1 ∙ c.less-left.ensures) (runs_does (c.copy-u.ensures.0 _ _)) (told.items_own _ _ _ _ _ _ _ _ _ _ _ told.untold_viewed c.turns-u.ensures) c.node.ensures

pub view_array-returns : goal.view_array-returns
view_array-returns t c = viewing.array_plain _ _ _ _ _ _ _ _ _ _ _ _ _ c.has_second.ensures c.if-has_second.false c.step-q.ensures c.wide_at-n.ensures c.step.ensures c.copy-u.ensures.1 c.inside.ensures.0 (c.inside.ensures.1 ∙ c.less-left.ensures) (runs_does (c.copy-u.ensures.0 _ _)) (told.items_own _ _ _ _ _ _ _ _ _ _ _ told.untold_viewed c.turns-u.ensures)

pub view-returns-then-c-eq0 : goal.view-returns-then-c-eq0
view-returns-then-c-eq0 t c = λ good. law.good_none _ _ _ c.if-c-eq0.true good

pub view-returns-in-34 : goal.view-returns-in-34
view-returns-in-34 t c = c.view_object.ensures (sym c.peek-kind.ensures.value ∙ c.in-34.is)

pub view-returns-in-36 : goal.view-returns-in-36
view-returns-in-36 t c = c.view_array.ensures (sym c.peek-kind.ensures.value ∙ c.in-36.is)

pub view-returns-in-37 : goal.view-returns-in-37
view-returns-in-37 t c = viewing.view_37 _ _ _ _ _ _ _ _ _ _ _ _ _ _ c.peek-kind.ensures c.in-37.is c.step.ensures c.copy-u.ensures.1 c.inside.ensures.0 (c.inside.ensures.1 ∙ c.less-left.ensures) c.inside-in-37.ensures.0 (c.inside-in-37.ensures.1 ∙ c.less-left.ensures) (runs_does (c.copy-u.ensures.0 _ _)) c.view-u.ensures c.node.ensures

pub view-returns-in_default : goal.view-returns-in_default
view-returns-in_default t c = viewing.view_other _ _ _ _ _ _ _ c.peek-kind.ensures (omega arith) (omega arith) (omega arith) c.node-in_default.ensures

pub deep_value-returns-then-quiet : goal.deep_value-returns-then-quiet
deep_value-returns-then-quiet t c k good suit = finding.value_quiet _ _ _ _ _ _ _ _ c.quiet.ensures c.if-quiet.true c.skip.ensures c.to.ensures.1 (c.to.ensures.0 _ _ _) good

pub deep_value-returns : goal.deep_value-returns
deep_value-returns t c = finding.value_done _ _ _ _ _ _ _ _ _ _ _ _ _ _ c.less-left.ensures c.step.ensures c.skip-v.ensures c.to-2.ensures.1 (c.to-2.ensures.0 _ _ _) c.under.ensures.1 (told.with_same _ c.under.ensures.0) c.deep-u.ensures c.step-2.ensures c.to-3.ensures.1 (c.to-3.ensures.0 _ _ _)

-- the properties of a view, by what was seen of its rest, ask for themselves
pub view_object-returns-then-c-eq0 : goal.view_object-returns-then-c-eq0
view_object-returns-then-c-eq0 t c = λ h good. law.good_none _ _ _ c.if-c-eq0.true good

pub view_object-returns-then-replaces : goal.view_object-returns-then-replaces
view_object-returns-then-replaces t c = viewing.object_replaced _ _ _ _ _ _ _ _ _ c.has_second-rest.ensures c.if-rest.true c.replaces.ensures c.if-replaces.true c.skip.ensures c.to.ensures.1 (c.to.ensures.0 _ _ _) (runs_does c.temporary.ensures.0)

pub view_object-returns-then-rest-2 : goal.view_object-returns-then-rest-2
view_object-returns-then-rest-2 t c = viewing.object_rest_lem _ _ _ _ _ _ _ _ _ _ _ _ _ _ _ _ _ c.has_second-rest.ensures c.if-rest-2.true (elim c.else-rest.branch [ view_object-else-rest-via-then-rest+else-replaces w ↦ sym w.replaces.ensures ∙ w.if-replaces.false | view_object-else-rest-via-else-rest w ↦ absurd (false≢true (sym w.if-rest.false ∙ c.if-rest-2.true)) ]) c.step-q.ensures c.wide_at-n.ensures c.step.ensures c.to-u.ensures.1 c.inside.ensures.0 (c.inside.ensures.1 ∙ c.less-left.ensures) c.less-left.ensures refl (c.to-u.ensures.0 _ _ _) (runs_does (c.put2.ensures.0 _ _)) (steps.does_wide _ (c.wide.ensures.0 _ _)) (told.items_own _ _ _ _ _ _ _ _ _ _ _ (told.untold_property _) c.turns-u.ensures) c.skip-then-rest-2.ensures c.to-then-rest-2.ensures.1 (c.to-then-rest-2.ensures.0 _ _ _)

pub view_object-returns : goal.view_object-returns
view_object-returns t c = viewing.object_plain _ _ _ _ _ _ _ _ _ _ _ _ _ _ c.has_second-rest.ensures c.if-rest-2.false c.step-q.ensures c.wide_at-n.ensures c.step.ensures c.to-u.ensures.1 c.inside.ensures.0 (c.inside.ensures.1 ∙ c.less-left.ensures) refl (c.to-u.ensures.0 _ _ _) (runs_does (c.put2.ensures.0 _ _)) (steps.does_wide _ (c.wide.ensures.0 _ _)) (told.items_own _ _ _ _ _ _ _ _ _ _ _ (told.untold_property _) c.turns-u.ensures)
