-- A quiet node has no object with rest in it: nothing is found below the value of a quiet property, and with a static key the property is
-- its own view.
-- Assumes nothing.
use mathlib.Core.Path.{◌≡◌, refl, sym, ap, ◌∙◌}
use mathlib.Core.Bool.{Bool, true, false}
use mathlib.Core.List.{List, []}
use Prim.Native.Nat.{ℕ, zero, suc}
use native.Mathlib.Omega.{arith}
use Rattle.tree.specs.Tree.{Node, Items, depth}
use Rattle.tree.specs.Read.{byte_at}
use Rattle.tree.specs.Look.{Seen, onward, quiet_at, look_node}
use Rattle.lowering.specs.Parts.{piece_in, node_at_of, gather, change_node, ◌+++◌}
use Rattle.lowering.specs.Made.{Context}
use Rattle.lowering.specs.Patterns.{shape, properties, items_of, left_of, key, value, objects_with_rest, objects_below}
use Rattle.lowering.specs.Declarations.{nested, inner_objects}
use Rattle.lowering.proofs.Cases.{by_shape, object_is}
use Rattle.lowering.proofs.ChangeLaws.{change_node_same}
use Rattle.lowering.proofs.Simple.{Simple, node_at, items_at, no_rest, gather_none, has_none, cond_none}
use Rattle.sink.specs.Machine.{part}
use Rattle.direct.specs.Events.{Place, Emit, puts, context_of, emits}
use Rattle.direct.specs.Emit.{say, inner, emits_items, in_turn}
use Rattle.direct.specs.Views.{View, nameless, viewed, viewed_property, is_other, emits_property}
use Rattle.direct.specs.Views.View.{replacing, taking}
use Rattle.direct.specs.Objects.{objects_in, over_objects, Reach, enters, reached_at, over_reached}
use Rattle.direct.specs.Objects.Reach.{anywhere}
use Rattle.direct.specs.Declared.{emits_found}
use Rattle.direct.proofs.ViewedPatterns.{kept_key_is}
use Rattle.direct.proofs.Targets.{replaced_nothing}
use Rattle.walk.specs.Run.{Going, Does}
use Rattle.walk.specs.Whole.{Good, Emitted}
use Rattle.walk.specs.declared.views.View as views
use Rattle.walk.specs.declared.hand.Own.{Own}
use Rattle.walk.specs.declared.look.KeyClass.TheVariants.{AsString}
use Rattle.walk.specs.Turns.{view_of, own_of, over_all}
use Rattle.walk.proofs.Running.{does_nothing, does_as}
use Rattle.walk.proofs.Opened.{property_open, no_good}
use Rattle.walk.proofs.Emits.{quiet_does}
use Rattle.walk.proofs.Lookups.{static_class, other_is}

-- ---- nothing is found below it

reached_none : (r : Reach) (d : ℕ) (p : Node) → Simple p → reached_at r d p ≡ Items.none
unfolding reached_at
reached_none r zero p s = refl
reached_none r (suc d) p s =
    by_shape (shape p)
    (λ e. rw (e, reached_at, no_rest p (object_is p e) s) (gather_none (λ q. reached_at r d (value q)) (λ q z. reached_none r d (value q) (node_at 1 q z)) (properties p) (items_at 0 p s)))
    (λ e. rw (e, reached_at) (cond_none (enters r) (gather (λ x. reached_at anywhere d x) (items_of p)) (gather_none (λ x. reached_at anywhere d x) (λ x z. reached_none anywhere d x z) (items_of p) (items_at 0 p s))))
    (λ e. rw (e, reached_at) (reached_none r d (left_of p) (node_at 0 p s)))
    (λ e. rw (e, reached_at) refl)

pub reach_none : (f : Node → Emit) (r : Reach) (p : Node) → Simple p → over_reached f r p ≡ say []
unfolding over_reached in_turn
reach_none f r p s = ap (in_turn f) (reached_none r (depth p) p s)

module _ (c : Context) where
  objects_none : (d : ℕ) (p : Node) → Simple p → objects_with_rest c d p ≡ Items.none
  unfolding objects_with_rest ◌+++◌
  objects_none zero p s = refl
  objects_none (suc d) p s =
      by_shape (shape p)
      (λ e. rw (e, objects_with_rest, no_rest p (object_is p e) s, gather_none (λ q. objects_with_rest c d (value q)) (λ q z. objects_none d (value q) (node_at 1 q z)) (properties p) (items_at 0 p s)) refl)
      (λ e. rw (e, objects_with_rest) (gather_none (λ x. objects_with_rest c d x) (λ x z. objects_none d x z) (items_of p) (items_at 0 p s)))
      (λ e. rw (e, objects_with_rest) (objects_none d (left_of p) (node_at 0 p s)))
      (λ e. rw (e, objects_with_rest) refl)

  nested_none : (d : ℕ) (p : Node) → Simple p → nested c d p ≡ Items.none
  unfolding nested ◌+++◌
  nested_none zero p s = refl
  nested_none (suc d) p s =
      by_shape (shape p)
      (λ e. rw (e, nested, no_rest p (object_is p e) s) (gather_none (λ q. nested c d (value q)) (λ q z. nested_none d (value q) (node_at 1 q z)) (properties p) (items_at 0 p s)))
      (λ e. rw (e, nested) (gather_none (λ x. nested c d x) (λ x z. nested_none d x z) (items_of p) (items_at 0 p s)))
      (λ e. rw (e, nested) (nested_none d (left_of p) (node_at 0 p s)))
      (λ e. rw (e, nested) refl)

  objects_in_lem : (v : View) (p : Node) → Simple p → objects_in c v p ≡ Items.none
  unfolding objects_in inner_objects
  objects_in_lem replacing p s = objects_none (depth p) p s
  objects_in_lem taking p s =
      by_shape (shape p)
      (λ e. rw (e, inner_objects) (gather_none (λ q. objects_below c (value q)) (λ q z. objects_none (depth (value q)) (value q) (node_at 1 q z)) (properties p) (items_at 0 p s)))
      (λ e. rw (e, inner_objects) (objects_none (depth p) p s))
      (λ e. rw (e, inner_objects) (objects_none (depth p) p s))
      (λ e. rw (e, inner_objects) refl)

pub found_none : (c : Place) (p : Node) → Simple p → emits_found c p ≡ say []
unfolding emits_found emits_items
found_none c p s = ap (emits_items false (inner c)) (nested_none (context_of c) (depth p) p s)

all_none : (mode : Own) (v : views.View) (p : Node) → Simple p → over_all mode v p ≡ say []
unfolding over_all over_objects in_turn
all_none mode v p s = ap (in_turn (own_of mode)) (objects_in_lem nameless (view_of v) p s)

-- ---- the view of a property

value_same : (q : Node) → Simple q → change_node 1 (viewed nameless replacing) q ≡ q
unfolding viewed
value_same q s = change_node_same 1 (viewed nameless replacing) q (replaced_nothing nameless (value q) (has_none (depth (value q)) (value q) (node_at 1 q s)))

property_same : (taken : Bool) (q : Node) → Simple q → is_other (key q) ≡ false → viewed_property nameless taken replacing q ≡ q
unfolding viewed_property
property_same true q s o = rw (value_same q s) (kept_key_is nameless q ∙ rw o refl)
property_same false q s o = value_same q s

-- ---- by the note

module _ (t : List ℕ) where
  pub simple_here : (d at : ℕ) (b : Bool) → b ≡ quiet_at t at → b ≡ true → Good t d at → Simple (look_node t d at).value
  unfolding Good look_node
  simple_here zero at b e h good = absurd good
  simple_here (suc d) at b e h good = good.simple (sym e ∙ h)

  pub simple_value : (d at : ℕ) (b : Bool) → b ≡ quiet_at t at → b ≡ true → Good t d at → Simple (value (look_node t d at).value)
  simple_value d at b e h good = node_at 1 (look_node t d at).value (simple_here d at b e h good)

  pub all_quiet : {g : Going} (mode : Own) (v : views.View) (d at : ℕ) (b : Bool) → b ≡ quiet_at t at → b ≡ true → Good t d at → Does g g (over_all mode v (value (look_node t d at).value))
  all_quiet {g = g} mode v d at b e h good = does_as (does_nothing g) (sym (all_none mode v (value (look_node t d at).value) (simple_value d at b e h good)))

  pub reach_quiet : {g : Going} (f : Node → Emit) (r : Reach) (d at : ℕ) (b : Bool) → b ≡ quiet_at t at → b ≡ true → Good t d at → Does g g (over_reached f r (value (look_node t d at).value))
  reach_quiet {g = g} f r d at b e h good = does_as (does_nothing g) (sym (reach_none f r (value (look_node t d at).value) (simple_value d at b e h good)))

  -- a quiet property with a static key is copied whole
  static_key : (d at s k : ℕ) → s ≡ onward t at 2 → k ≡ byte_at t s → k ≡ 38 → byte_at t at ≡ 35 → Good t (suc d) at → is_other (key (look_node t (suc d) at).value) ≡ false
  unfolding node_at_of piece_in
  static_key zero at s k es ek z e35 good = no_good t _ (property_open t zero at good e35).key
  static_key (suc d) at s k es ek z e35 good =
      ap (λ (n : Seen Node). is_other (key n.value)) (property_open t (suc d) at good e35).whole
      ∙ sym (other_is (look_node t (suc d) (onward t at 2)).value AsString AsString (static_class t (suc d) (onward t at 2) k (omega arith) (ek ∙ ap (λ (x : ℕ). byte_at t x) es) z) refl)

  pub property_quiet : {g g' : Going} (c : Place) (d at s k q z : ℕ) (taken b : Bool) → b ≡ quiet_at t at → b ≡ true → s ≡ onward t at 2 → k ≡ byte_at t s → k ≡ 38 → q ≡ (look_node t d at).next → z ≡ q
      → Does g g' (say (puts (part at q t))) → byte_at t at ≡ 35 → Emitted t d at z g g' (emits_property c taken replacing)
  unfolding emits_property
  property_quiet c zero at s k q z taken b e h es ek y i j does e35 good = no_good t at good
  property_quiet c (suc d) at s k q z taken b e h es ek y i j does e35 good = (
    j ∙ i,
    does_as (quiet_does t c (suc d) at q b e h i does good)
        (ap (λ (n : Node). emits c n) (sym (property_same taken (look_node t (suc d) at).value (simple_here (suc d) at b e h good) (static_key d at s k es ek y e35 good)))),
  )
