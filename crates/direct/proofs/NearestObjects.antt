-- The objects with rest that stand nearest below a target: one level of an input pattern at a time, and what is left of a target when its
-- parts are replaced.
-- Assumes nothing.
use mathlib.Core.Path.{◌≡◌, refl, sym, ap, ap₂, ◌∙◌, fun_ext}
use mathlib.Core.Bool.{Bool, true, false, cond, not, ◌&&◌, ◌||◌, or-false}
use mathlib.Core.List.{[]}
use Prim.Native.Nat.{ℕ, zero, suc, ◌+◌, ◌≤◌, max}
use native.Mathlib.Omega.{arith}
use Rattle.tree.specs.Tree.{Node, Fields, Piece, Items, depth, depth_fields, depth_items}
use Rattle.tree.specs.Tree.Node.{node}
use Rattle.tree.specs.Tree.Fields.{field}
use Rattle.tree.specs.Tree.Piece.{one, list}
use Rattle.lowering.specs.Parts.{nothing, is, piece_in, stands_in, node_at_of, items_at_of, stands, is_empty, on_node, on_items, change_node, only, each, gather, any, ◌+++◌}
use Rattle.lowering.specs.Made.{Context, reference}
use Rattle.lowering.specs.Patterns.{shape, properties, items_of, rest, has_rest_of, left_of, value, with_left, with_values, has_nested_object_rest, has_nested_array_rest, has_object_rest, has_array_rest_over_object_rest, replaced, replaced_below}
use Rattle.lowering.specs.Patterns.Shape.{object_pattern, array_pattern, default, leaf}
use Rattle.lowering.specs.Keys.{kept_key, taken}
use Rattle.lowering.specs.Assignments.{is_top, nearest, outermost, parts_of, parts_replaced}
use Rattle.lowering.proofs.Accepted.{NoHoles}
use Rattle.lowering.proofs.Cases.{by_test, by_shape, or_left, or_right}
use Rattle.lowering.proofs.WeightKeys.{rest_changed}
use Rattle.lowering.proofs.Levels.{depth_pos, items_depth, gather_agrees, node_in, values_agree, array_levels, nearest_levels, replaced_levels, parts_levels, reference_clear}
use Rattle.lowering.proofs.Clauses.{replaced_plain, replaced_top, replaced_default, parts_object, parts_array, parts_default, parts_leaf, nearest_object, nearest_array, nearest_default, nearest_leaf}
use Rattle.lowering.proofs.ItemLaws.{none_empty, each_each, each_same, gather_same, gather_each, any_none}
use Rattle.lowering.proofs.ChangeLaws.{shape_changed}
use Rattle.lowering.proofs.SoundKeys.{value_kept}
use Rattle.direct.specs.Events.{Emit}
use Rattle.direct.specs.Emit.{say, in_turn}
use Rattle.direct.specs.Views.{object_at, object_rest_at, viewed, viewed_property}
use Rattle.direct.specs.Views.View.{replacing, taking}
use Rattle.direct.specs.Objects.{Reach, counts, enters, reached_at, reached, over_reached, reached_in, over_replaced, over_parts}
use Rattle.direct.specs.Objects.Reach.{anywhere, straight, in_arrays}
use Rattle.direct.proofs.ListsInTurn.{holes_none, holes_only, holes_append, turn_gather, turn_only}
use Rattle.direct.proofs.ViewedPatterns.{value_twice, kept_value_lem, taken_rest, values_rest, viewed_object, viewed_rest}
use Rattle.direct.proofs.ObjectsByLevel.{value_changed}
use Rattle.direct.proofs.DeclarationsByPart.{properties_changed}
use Rattle.direct.proofs.Targets.{values_twice, left_twice, values_changed, left_changed, has_object, has_array, has_default, has_leaf, over_object, over_array, over_default, shape_taken, any_taken}

-- ---- levels

pub reached_nothing : (r : Reach) (d : ℕ) → reached_at r d nothing ≡ Items.none
unfolding reached_at shape
reached_nothing r zero = refl
reached_nothing r (suc d) = refl

module _ (r : Reach) (d : ℕ) (p : Node) where
  reach_object : shape p ≡ object_pattern
      → reached_at r (suc d) p ≡ cond (has_rest_of p) (cond (counts r) (only p) Items.none) (gather (λ q. reached_at r d (value q)) (properties p))
  unfolding reached_at
  reach_object e = rw (e, reached_at) refl

  reach_array : shape p ≡ array_pattern → reached_at r (suc d) p ≡ cond (enters r) (gather (λ x. reached_at anywhere d x) (items_of p)) Items.none
  unfolding reached_at
  reach_array e = rw (e, reached_at) refl

  reach_default : shape p ≡ default → reached_at r (suc d) p ≡ reached_at r d (left_of p)
  unfolding reached_at
  reach_default e = rw (e, reached_at) refl

  reach_leaf : shape p ≡ leaf → reached_at r (suc d) p ≡ Items.none
  unfolding reached_at
  reach_leaf e = rw (e, reached_at) refl

reached_same : (r : Reach) (b d e : ℕ) (p : Node) → b ≤ d → b ≤ e → depth p ≤ b → reached_at r d p ≡ reached_at r e p
unfolding reached_at
reached_same r zero d e p h k l = let z = depth_pos p in absurd (omega arith)
reached_same r (suc b) zero e p h k l = absurd (omega arith)
reached_same r (suc b) (suc d) zero p h k l = absurd (omega arith)
reached_same r (suc b) (suc d) (suc e) p h k l =
    let agree : (s : Reach) (m : Node) → depth m ≤ b → reached_at s d m ≡ reached_at s e m = λ s m z. reached_same s b d e m (omega arith) (omega arith) z in
    let z = reached_nothing r d ∙ sym (reached_nothing r e) in
    let i = items_depth 0 p in
    by_shape (shape p)
    (λ s. reach_object r d p s
    ∙ ap (λ (x : Items). cond (has_rest_of p) (cond (counts r) (only p) Items.none) x) (gather_agrees (λ q. reached_at r d (value q)) (λ q. reached_at r e (value q)) b
    (λ q y. node_in (λ m. reached_at r d m) (λ m. reached_at r e m) b (agree r) z 1 q (omega arith)) (properties p) (omega arith))
    ∙ sym (reach_object r e p s))
    (λ s. reach_array r d p s
    ∙ ap (λ (x : Items). cond (enters r) x Items.none) (gather_agrees (λ m. reached_at anywhere d m) (λ m. reached_at anywhere e m) b (agree anywhere) (items_of p) (omega arith))
    ∙ sym (reach_array r e p s))
    (λ s. reach_default r d p s ∙ node_in (λ m. reached_at r d m) (λ m. reached_at r e m) b (agree r) z 0 p l ∙ sym (reach_default r e p s))
    (λ s. reach_leaf r d p s ∙ sym (reach_leaf r e p s))

pub reached_levels : (r : Reach) (d : ℕ) (p : Node) → depth p ≤ d → reached_at r d p ≡ reached r p
reached_levels r d p l = reached_same r (depth p) d (depth p) p l (omega arith) (omega arith)

-- ---- one level of an input pattern

module _ (r : Reach) where
  reached_value : (d : ℕ) (q : Node) → depth q ≤ d → reached_at r d (value q) ≡ reached r (value q)
  reached_value d q l =
      node_in (λ m. reached_at r d m) (λ m. reached r m) d (λ m h. reached_levels r d m h) (reached_nothing r d ∙ sym (reached_nothing r (depth nothing))) 1 q (omega arith)

  pub reached_object : (at : ℕ) (ps : Items) → reached r (object_at at ps) ≡ gather (λ q. reached r (value q)) ps
  unfolding reached_at shape depth stands stands_in items_at_of piece_in
  reached_object at ps =
      let d = max (depth_items ps) 0 in
      gather_agrees (λ q. reached_at r d (value q)) (λ q. reached r (value q)) d (λ q l. reached_value d q l) ps (omega arith)

  pub reached_rest : (at : ℕ) (ps : Items) (x : Node) → reached r (object_rest_at at ps x) ≡ cond (counts r) (only (object_rest_at at ps x)) Items.none
  unfolding reached_at shape depth stands stands_in
  reached_rest at ps x = refl

  pub reached_array : (at : ℕ) (is : Items) (fs : Fields) → reached r (node at 36 (field (list is) fs)) ≡ cond (enters r) (gather (reached anywhere) is) Items.none
  unfolding reached_at shape depth items_at_of piece_in
  reached_array at is fs =
      let d = max (depth_items is) (depth_fields fs) in
      ap (λ (x : Items). cond (enters r) x Items.none)
      (gather_agrees (λ n. reached_at anywhere d n) (λ n. reached anywhere n) d (λ m l. reached_levels anywhere d m l) is (omega arith))

  pub reached_default : (at : ℕ) (l : Node) (fs : Fields) → reached r (node at 37 (field (one l) fs)) ≡ reached r l
  unfolding reached_at shape depth node_at_of piece_in
  reached_default at l fs = reached_levels r (max (depth l) (depth_fields fs)) l (omega arith)

  pub reached_leaf : (p : Node) → shape p ≡ leaf → reached r p ≡ Items.none
  unfolding depth
  reached_leaf (node at k fs) e = reach_leaf r (depth_fields fs) (node at k fs) e

-- what is done for them
module _ (f : Node → Emit) where
  turn_cond : (b : Bool) (is : Items) → in_turn f (cond b is Items.none) ≡ cond b (in_turn f is) (say [])
  unfolding in_turn
  turn_cond true is = refl
  turn_cond false is = refl

  module _ (r : Reach) where
    pub reach_over_object : (at : ℕ) (ps : Items) → over_reached f r (object_at at ps) ≡ in_turn (λ q. over_reached f r (value q)) ps
    unfolding over_reached
    reach_over_object at ps = ap (in_turn f) (reached_object r at ps) ∙ turn_gather f (λ q. reached r (value q)) ps

    pub reach_over_rest : (at : ℕ) (ps : Items) (x : Node) → over_reached f r (object_rest_at at ps x) ≡ cond (counts r) (f (object_rest_at at ps x)) (say [])
    unfolding over_reached
    reach_over_rest at ps x =
        ap (in_turn f) (reached_rest r at ps x)
        ∙ turn_cond (counts r) (only (object_rest_at at ps x))
        ∙ ap (λ (e : Emit). cond (counts r) e (say [])) (turn_only f (object_rest_at at ps x))

    pub reach_over_array : (at : ℕ) (is : Items) (fs : Fields)
        → over_reached f r (node at 36 (field (list is) fs)) ≡ cond (enters r) (in_turn (over_reached f anywhere) is) (say [])
    unfolding over_reached
    reach_over_array at is fs =
        ap (in_turn f) (reached_array r at is fs)
        ∙ turn_cond (enters r) (gather (reached anywhere) is)
        ∙ ap (λ (e : Emit). cond (enters r) e (say [])) (turn_gather f (reached anywhere) is)

    pub reach_over_default : (at : ℕ) (l : Node) (fs : Fields) → over_reached f r (node at 37 (field (one l) fs)) ≡ over_reached f r l
    unfolding over_reached
    reach_over_default at l fs = ap (in_turn f) (reached_default r at l fs)

    pub reach_over_leaf : (p : Node) → shape p ≡ leaf → over_reached f r p ≡ say []
    unfolding over_reached in_turn
    reach_over_leaf p e = ap (in_turn f) (reached_leaf r p e)

  -- by the values of an object
  pub over_parts_lem : (p : Node) → over_parts f p ≡ in_turn (λ q. over_reached f straight (value q)) (properties p)
  unfolding over_parts over_reached
  over_parts_lem p = turn_gather f (λ q. reached straight (value q)) (properties p)

  pub over_arrays : (p : Node) → over_replaced f taking p ≡ in_turn (λ q. over_reached f in_arrays (value q)) (properties p)
  unfolding over_replaced over_reached
  over_arrays p = turn_gather f (λ q. reached in_arrays (value q)) (properties p)

  pub over_anywhere : (p : Node) → over_replaced f replacing p ≡ over_reached f anywhere p
  unfolding over_replaced over_reached
  over_anywhere p = refl

-- ---- what the definition finds

found_anywhere : (d : ℕ) (p : Node) → nearest true d p ≡ reached_at anywhere d p
unfolding nearest reached_at
found_anywhere zero p = refl
found_anywhere (suc d) p =
    by_shape (shape p)
    (λ e. nearest_object true d p e
    ∙ ap (λ (x : Items). cond (has_rest_of p) (only p) x) (gather_same (λ q. nearest true d (value q)) (λ q. reached_at anywhere d (value q)) (λ q. found_anywhere d (value q)) (properties p))
    ∙ sym (reach_object anywhere d p e))
    (λ e. nearest_array true d p e
    ∙ gather_same (λ q. nearest true d q) (λ q. reached_at anywhere d q) (λ q. found_anywhere d q) (items_of p)
    ∙ sym (reach_array anywhere d p e))
    (λ e. nearest_default true d p e ∙ found_anywhere d (left_of p) ∙ sym (reach_default anywhere d p e))
    (λ e. nearest_leaf true d p e ∙ sym (reach_leaf anywhere d p e))

found_straight : (d : ℕ) (p : Node) → nearest false d p ≡ reached_at straight d p
unfolding nearest reached_at
found_straight zero p = refl
found_straight (suc d) p =
    by_shape (shape p)
    (λ e. nearest_object false d p e
    ∙ ap (λ (x : Items). cond (has_rest_of p) (only p) x) (gather_same (λ q. nearest false d (value q)) (λ q. reached_at straight d (value q)) (λ q. found_straight d (value q)) (properties p))
    ∙ sym (reach_object straight d p e))
    (λ e. nearest_array false d p e ∙ sym (reach_array straight d p e))
    (λ e. nearest_default false d p e ∙ found_straight d (left_of p) ∙ sym (reach_default straight d p e))
    (λ e. nearest_leaf false d p e ∙ sym (reach_leaf straight d p e))

pub outermost_reached : (p : Node) → outermost p ≡ reached anywhere p
outermost_reached p = found_anywhere (depth p) p

pub parts_reached : (p : Node) → parts_of p ≡ reached_in straight p
parts_reached p =
    let D = depth p in
    let i = items_depth 0 p in
    gather_agrees (λ q. nearest false D (value q)) (λ q. reached straight (value q)) D
    (λ q l. found_straight D (value q) ∙ reached_value straight D q l) (properties p) (omega arith)

-- ---- the lists have no holes

holes_gather : (f : Node → Items) → ((n : Node) → NoHoles (f n)) → (is : Items) → NoHoles (gather f is)
unfolding NoHoles gather
holes_gather f h Items.none = tt
holes_gather f h (Items.hole is) = holes_gather f h is
holes_gather f h (Items.item n is) = holes_append (f n) (gather f is) (h n) (holes_gather f h is)

holes_cond : (b : Bool) (is js : Items) → NoHoles is → NoHoles js → NoHoles (cond b is js)
holes_cond true is js a b = a
holes_cond false is js a b = b

pub nearest_solid : (arrays : Bool) (d : ℕ) (p : Node) → NoHoles (nearest arrays d p)
unfolding nearest
nearest_solid arrays zero p = holes_none
nearest_solid arrays (suc d) p =
    by_shape (shape p)
    (λ e. rw (e, nearest)
    (holes_cond (has_rest_of p) (only p) (gather (λ q. nearest arrays d (value q)) (properties p)) (holes_only p)
    (holes_gather (λ q. nearest arrays d (value q)) (λ q. nearest_solid arrays d (value q)) (properties p))))
    (λ e. rw (e, nearest)
    (holes_cond arrays (gather (λ x. nearest arrays d x) (items_of p)) Items.none (holes_gather (λ x. nearest arrays d x) (λ x. nearest_solid arrays d x) (items_of p)) holes_none))
    (λ e. rw (e, nearest) (nearest_solid arrays d (left_of p)))
    (λ e. rw (e, nearest) holes_none)

pub parts_solid : (p : Node) → NoHoles (parts_of p)
parts_solid p = holes_gather (λ q. nearest false (depth p) (value q)) (λ q. nearest_solid false (depth p) (value q)) (properties p)

-- ---- an object is found where an object rest is, if none is below an array rest

empty_append : (is js : Items) → is_empty (is +++ js) ≡ is_empty is && is_empty js
unfolding is_empty ◌+++◌
empty_append Items.none js = refl
empty_append (Items.hole is) js = refl
empty_append (Items.item n is) js = refl

and_not : (a b : Bool) → not a && not b ≡ not (a || b)
and_not true b = refl
and_not false b = refl

empty_gather : (u t : Node → Bool) (f : Node → Items) → ((n : Node) → u n ≡ false → is_empty (f n) ≡ not (t n)) → (is : Items) → any u is ≡ false
    → is_empty (gather f is) ≡ not (any t is)
unfolding gather any is_empty
empty_gather u t f h Items.none e = refl
empty_gather u t f h (Items.hole is) e = empty_gather u t f h is e
empty_gather u t f h (Items.item n is) e =
    empty_append (f n) (gather f is)
    ∙ ap₂ (λ (x y : Bool). x && y) (h n (or_left (u n) (any u is) e)) (empty_gather u t f h is (or_right (u n) (any u is) e))
    ∙ and_not (t n) (any t is)

own_found : (r x : Bool) (o : Node) (is : Items) → is_empty is ≡ not x → is_empty (cond r (only o) is) ≡ not (r || x)
unfolding is_empty
own_found true x o is h = refl
own_found false x o is h = h

found_iff : (d : ℕ) (p : Node) → has_nested_array_rest d p ≡ false → is_empty (nearest true d p) ≡ not (has_nested_object_rest d p)
unfolding has_nested_object_rest nearest is_empty
found_iff zero p h = refl
found_iff (suc d) p h =
    let f : Node → Items = λ v. nearest true d v in
    let t : Node → Bool = λ v. has_nested_object_rest d v in
    let u : Node → Bool = λ v. has_nested_array_rest d v in
    by_shape (shape p)
    (λ e.
    ap is_empty (nearest_object true d p e)
    ∙ own_found (has_rest_of p) (any (λ q. t (value q)) (properties p)) p (gather (λ q. f (value q)) (properties p))
    (empty_gather (λ q. u (value q)) (λ q. t (value q)) (λ q. f (value q)) (λ q y. found_iff d (value q) y) (properties p) (sym (over_object d p e) ∙ h))
    ∙ ap not (sym (has_object d p e)))
    (λ e.
    let z = sym (over_array d p e) ∙ h in
    ap is_empty (nearest_array true d p e)
    ∙ empty_gather u t f (λ x y. found_iff d x y) (items_of p) (or_left (any u (items_of p)) (t (rest p)) z)
    ∙ ap not (sym (or-false (any t (items_of p))) ∙ ap (λ (b : Bool). any t (items_of p) || b) (sym (or_right (any u (items_of p)) (t (rest p)) z)) ∙ sym (has_array d p e)))
    (λ e. ap is_empty (nearest_default true d p e) ∙ found_iff d (left_of p) (sym (over_default d p e) ∙ h) ∙ ap not (sym (has_default d p e)))
    (λ e. ap is_empty (nearest_leaf true d p e) ∙ none_empty ∙ ap not (sym (has_leaf d p e)))

pub found_or_none : (p : Node) → has_array_rest_over_object_rest p ≡ false → is_empty (outermost p) ≡ not (has_object_rest p)
found_or_none p h = found_iff (depth p) p h

-- ---- parts replaced

module _ (κ : Context) where
  pub parts_nothing : (d : ℕ) → parts_replaced κ d nothing ≡ nothing
  unfolding parts_replaced shape
  parts_nothing zero = refl
  parts_nothing (suc d) = refl

  module _ (d : ℕ) (p : Node) (e : shape p ≡ object_pattern) where
    parts_top : has_rest_of p ≡ true → parts_replaced κ (suc d) p ≡ reference κ p
    parts_top r = parts_object κ d p e ∙ ap (λ (b : Bool). cond b (reference κ p) (with_values (λ v. parts_replaced κ d v) p)) r

    parts_plain : has_rest_of p ≡ false → parts_replaced κ (suc d) p ≡ with_values (λ v. parts_replaced κ d v) p
    parts_plain r = parts_object κ d p e ∙ ap (λ (b : Bool). cond b (reference κ p) (with_values (λ v. parts_replaced κ d v) p)) r

  reference_replaced : (d : ℕ) (p : Node) → replaced κ d (reference κ p) ≡ reference κ p
  unfolding replaced shape
  reference_replaced zero p = refl
  reference_replaced (suc d) p = refl

  reference_over : (d : ℕ) (p : Node) → has_nested_array_rest d (reference κ p) ≡ false
  unfolding has_nested_array_rest shape
  reference_over zero p = refl
  reference_over (suc d) p = refl

  -- what is then found are the objects below arrays
  found_left : (d : ℕ) (p : Node) → nearest true d (parts_replaced κ d p) ≡ reached_at in_arrays d p
  unfolding nearest reached_at
  found_left zero p = refl
  found_left (suc d) p =
      let f : Node → Node = λ v. parts_replaced κ d v in
      by_shape (shape p)
      (λ e. by_test (has_rest_of p)
      (λ r. ap (nearest true (suc d)) (parts_top d p e r)
      ∙ reference_clear κ p (suc d)
      ∙ ap (λ (b : Bool). cond b Items.none (gather (λ q. reached_at in_arrays d (value q)) (properties p))) (sym r)
      ∙ sym (reach_object in_arrays d p e))
      (λ r.
      let g : Piece → Piece = on_items (each (λ q. change_node 1 f q)) in
      ap (nearest true (suc d)) (parts_plain d p e r)
      ∙ nearest_object true d (with_values f p) (shape_changed 0 g p ∙ e)
      ∙ ap (λ (b : Bool). cond b (only (with_values f p)) (gather (λ q. nearest true d (value q)) (properties (with_values f p)))) (rest_changed 0 g p ∙ r)
      ∙ ap (gather (λ q. nearest true d (value q))) (properties_changed (λ q. change_node 1 f q) p)
      ∙ gather_each (λ q. nearest true d (value q)) (λ q. change_node 1 f q) (properties p)
      ∙ gather_same (λ q. nearest true d (value (change_node 1 f q))) (λ q. reached_at in_arrays d (value q))
      (λ q. ap (nearest true d) (value_changed f (parts_nothing d) q) ∙ found_left d (value q)) (properties p)
      ∙ ap (λ (b : Bool). cond b Items.none (gather (λ q. reached_at in_arrays d (value q)) (properties p))) (sym r)
      ∙ sym (reach_object in_arrays d p e)))
      (λ e. ap (nearest true (suc d)) (parts_array κ d p e)
      ∙ nearest_array true d p e
      ∙ gather_same (λ q. nearest true d q) (λ q. reached_at anywhere d q) (λ q. found_anywhere d q) (items_of p)
      ∙ sym (reach_array in_arrays d p e))
      (λ e. ap (nearest true (suc d)) (parts_default κ d p e)
      ∙ nearest_default true d (with_left f p) (shape_changed 0 (on_node f) p ∙ e)
      ∙ ap (nearest true d) (left_changed κ f (parts_nothing d) p)
      ∙ found_left d (left_of p)
      ∙ sym (reach_default in_arrays d p e))
      (λ e. ap (nearest true (suc d)) (parts_leaf κ d p e) ∙ nearest_leaf true d p e ∙ sym (reach_leaf in_arrays d p e))

  -- parts replaced first, and then all: the same as all at once
  replaced_twice : (d : ℕ) (p : Node) → replaced κ d (parts_replaced κ d p) ≡ replaced κ d p
  unfolding replaced parts_replaced
  replaced_twice zero p = refl
  replaced_twice (suc d) p =
      let f : Node → Node = λ v. parts_replaced κ d v in
      let g : Node → Node = λ v. replaced κ d v in
      by_shape (shape p)
      (λ e. by_test (has_rest_of p)
      (λ r. ap (replaced κ (suc d)) (parts_top d p e r) ∙ reference_replaced (suc d) p ∙ sym (replaced_top κ d p e r))
      (λ r.
      let h : Piece → Piece = on_items (each (λ q. change_node 1 f q)) in
      ap (replaced κ (suc d)) (parts_plain d p e r)
      ∙ replaced_plain κ d (with_values f p) (shape_changed 0 h p ∙ e) (rest_changed 0 h p ∙ r)
      ∙ values_twice g f p
      ∙ ap (λ (k : Node → Node). with_values k p) (fun_ext (λ v. replaced_twice d v))
      ∙ sym (replaced_plain κ d p e r)))
      (λ e. ap (replaced κ (suc d)) (parts_array κ d p e))
      (λ e. ap (replaced κ (suc d)) (parts_default κ d p e)
      ∙ replaced_default κ d (with_left f p) (shape_changed 0 (on_node f) p ∙ e)
      ∙ left_twice g f p
      ∙ ap (λ (k : Node → Node). with_left k p) (fun_ext (λ v. replaced_twice d v))
      ∙ sym (replaced_default κ d p e))
      (λ e. ap (replaced κ (suc d)) (parts_leaf κ d p e))

  -- no array rest comes over an object rest
  over_left : (d : ℕ) (p : Node) → has_nested_array_rest d p ≡ false → has_nested_array_rest d (parts_replaced κ d p) ≡ false
  unfolding has_nested_array_rest
  over_left zero p h = refl
  over_left (suc d) p h =
      let f : Node → Node = λ v. parts_replaced κ d v in
      let t : Node → Bool = λ v. has_nested_array_rest d v in
      by_shape (shape p)
      (λ e. by_test (has_rest_of p)
      (λ r. ap (has_nested_array_rest (suc d)) (parts_top d p e r) ∙ reference_over (suc d) p)
      (λ r.
      let g : Piece → Piece = on_items (each (λ q. change_node 1 f q)) in
      ap (has_nested_array_rest (suc d)) (parts_plain d p e r)
      ∙ over_object d (with_values f p) (shape_changed 0 g p ∙ e)
      ∙ values_changed κ t f (parts_nothing d) p
      ∙ any_none (λ q. t (value q)) (λ q. t (f (value q))) (λ q y. over_left d (value q) y) (properties p) (sym (over_object d p e) ∙ h)))
      (λ e. ap (has_nested_array_rest (suc d)) (parts_array κ d p e) ∙ h)
      (λ e. ap (has_nested_array_rest (suc d)) (parts_default κ d p e)
      ∙ over_default d (with_left f p) (shape_changed 0 (on_node f) p ∙ e)
      ∙ ap t (left_changed κ f (parts_nothing d) p)
      ∙ over_left d (left_of p) (sym (over_default d p e) ∙ h))
      (λ e. ap (has_nested_array_rest (suc d)) (parts_leaf κ d p e) ∙ h)

  -- ---- at the levels that a pattern has

  abbrev parts_below : Node → Node
  parts_below v = parts_replaced κ (depth v) v

  below_found : (v : Node) → outermost (parts_below v) ≡ reached in_arrays v
  below_found v =
      let x = parts_below v in
      let b = depth v + depth x in
      sym (nearest_levels b x (omega arith) true)
      ∙ ap (nearest true b) (sym (parts_levels b v (omega arith) κ))
      ∙ found_left b v
      ∙ reached_levels in_arrays b v (omega arith)

  below_replaced : (v : Node) → replaced_below κ (parts_below v) ≡ replaced_below κ v
  below_replaced v =
      let x = parts_below v in
      let b = depth v + depth x in
      sym (replaced_levels b x (omega arith) κ)
      ∙ ap (replaced κ b) (sym (parts_levels b v (omega arith) κ))
      ∙ replaced_twice b v
      ∙ replaced_levels b v (omega arith) κ

  -- ---- what is left of a target that is an object with rest

  abbrev pub left_over_of : Node → Node
  left_over_of p = taken κ (with_values (λ v. parts_replaced κ (depth p) v) p)

  module _ (at : ℕ) (ps : Items) (r : Node) where
    abbrev left_at : Node
    left_at = object_at at (each (kept_key κ) (each (λ q. change_node 1 (λ v. parts_below v) q) ps))

    left_is : left_over_of (object_rest_at at ps r) ≡ left_at
    left_is =
        let p = object_rest_at at ps r in
        ap (taken κ)
        (values_agree (λ v. parts_replaced κ (depth p) v) (λ v. parts_below v) (depth p) (λ m l. parts_levels (depth p) m l κ) p (omega arith)
        ∙ values_rest κ (λ v. parts_below v) at ps r)
        ∙ taken_rest κ at (each (λ q. change_node 1 (λ v. parts_below v) q) ps) r

    -- once the objects below its arrays are replaced as well it is the target with its rest taken
    pub left_viewed : replaced_below κ (left_over_of (object_rest_at at ps r)) ≡ viewed κ taking (object_rest_at at ps r)
    unfolding viewed viewed_property
    left_viewed =
        let w : Node → Node = λ v. parts_below v in
        let f : Node → Node = λ v. replaced_below κ v in
        ap (λ (x : Node). replaced_below κ x) left_is
        ∙ viewed_object κ replacing at (each (kept_key κ) (each (λ q. change_node 1 w q) ps))
        ∙ ap (object_at at)
        (ap (each (λ q. change_node 1 f q)) (each_each (kept_key κ) (λ q. change_node 1 w q) ps)
        ∙ each_each (λ q. change_node 1 f q) (λ q. kept_key κ (change_node 1 w q)) ps
        ∙ each_same (λ q. change_node 1 f (kept_key κ (change_node 1 w q))) (λ q. kept_key κ (change_node 1 f q))
        (λ q. kept_value_lem κ f (change_node 1 w q) ∙ ap (kept_key κ) (value_twice f w q ∙ ap (λ (h : Node → Node). change_node 1 h q) (fun_ext below_replaced))) ps)
        ∙ sym (viewed_rest κ taking refl at ps r)

    pub left_found : outermost (left_over_of (object_rest_at at ps r)) ≡ reached_in in_arrays (object_rest_at at ps r)
    unfolding items_at_of piece_in
    left_found =
        let w : Node → Node = λ v. parts_below v in
        let k : Node → Items = λ q. reached anywhere (value q) in
        ap (λ (x : Node). outermost x) left_is
        ∙ outermost_reached left_at
        ∙ reached_object anywhere at (each (kept_key κ) (each (λ q. change_node 1 w q) ps))
        ∙ gather_each k (kept_key κ) (each (λ q. change_node 1 w q) ps)
        ∙ gather_each (λ q. k (kept_key κ q)) (λ q. change_node 1 w q) ps
        ∙ gather_same (λ q. k (kept_key κ (change_node 1 w q))) (λ q. reached in_arrays (value q))
        (λ q. ap (λ (x : Node). reached anywhere x) (value_kept κ (change_node 1 w q) ∙ value_changed w below_nothing q) ∙ sym (outermost_reached (w (value q))) ∙ below_found (value q)) ps
      where
        below_nothing : parts_below nothing ≡ nothing
        below_nothing = parts_nothing (depth nothing)

    pub left_no_top : is_top (left_over_of (object_rest_at at ps r)) ≡ false
    unfolding is_top is stands stands_in
    left_no_top = ap is_top left_is ∙ refl

    object_shape : shape (object_rest_at at ps r) ≡ object_pattern
    unfolding shape
    object_shape = refl

    pub left_over : has_array_rest_over_object_rest (object_rest_at at ps r) ≡ false → has_array_rest_over_object_rest (left_over_of (object_rest_at at ps r)) ≡ false
    left_over h =
        let p = object_rest_at at ps r in
        let x = left_over_of p in
        let b = depth p + depth x in
        let f : Node → Node = λ v. parts_replaced κ b v in
        let t : Node → Bool = λ v. has_nested_array_rest b v in
        let g : Piece → Piece = on_items (each (λ q. change_node 1 f q)) in
        sym (array_levels (suc b) x (omega arith))
        ∙ ap (λ (n : Node). has_nested_array_rest (suc b) (taken κ n))
        (values_agree (λ v. parts_replaced κ (depth p) v) f (depth p) (λ m l. parts_levels (depth p) m l κ ∙ sym (parts_levels b m (omega arith) κ)) p (omega arith))
        ∙ over_object b (taken κ (with_values f p)) (shape_taken κ (with_values f p) ∙ shape_changed 0 g p ∙ object_shape)
        ∙ any_taken κ t (with_values f p)
        ∙ values_changed κ t f (parts_nothing b) p
        ∙ any_none (λ q. t (value q)) (λ q. t (f (value q))) (λ q y. over_left b (value q) y) (properties p)
        (sym (over_object b p object_shape) ∙ array_levels (suc b) p (omega arith) ∙ h)
