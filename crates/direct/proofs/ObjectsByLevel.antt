-- The objects with rest of a pattern: one level of an input pattern at a time.
-- Assumes nothing.
use mathlib.Core.Path.{◌≡◌, refl, sym, ap, ap₂, ◌∙◌, fun_ext}
use mathlib.Core.Bool.{true, cond, false≢true}
use mathlib.Core.List.{List, []}
use Prim.Native.Nat.{ℕ, zero, suc, ◌≤◌, max}
use native.Mathlib.Omega.{arith}
use Rattle.tree.specs.Tree.{Node, Fields, Items, depth, depth_fields, depth_items}
use Rattle.tree.specs.Tree.Node.{node}
use Rattle.tree.specs.Tree.Fields.{done, absent, field}
use Rattle.tree.specs.Tree.Piece.{one, list}
use Rattle.lowering.specs.Parts.{nothing, position, is, as_node, piece_in, stands_in, change_in, node_at_of, items_at_of, stands, change, on_node, on_items, change_node, only, each, gather, ◌+++◌}
use Rattle.lowering.specs.Made.{Context, temporary}
use Rattle.lowering.specs.Patterns.{shape, properties, value, has_rest_of, with_items, with_left, with_values, replaced, replaced_below, objects_with_rest, objects_below}
use Rattle.lowering.specs.Patterns.Shape.{object_pattern, array_pattern, default, leaf}
use Rattle.lowering.specs.Declarations.{inner_objects}
use Rattle.lowering.proofs.Levels.{gather_agrees, node_in, values_agree, objects_nothing, replaced_levels, objects_levels, below_leaf}
use Rattle.direct.specs.Events.{Emit}
use Rattle.direct.specs.Emit.{say, ◌▷◌, in_turn}
use Rattle.direct.specs.Views.{View, takes, object_at, object_rest_at, nameless}
use Rattle.direct.specs.Views.View.{replacing, taking}
use Rattle.direct.specs.Objects.{objects_in, over_objects}
use Rattle.direct.proofs.ListsInTurn.{turn_append, turn_gather, turn_only}
use Rattle.lowering.proofs.ItemLaws.{items_none}
use Rattle.lowering.proofs.ChangeLaws.{node_on}

-- ---- values

field_changed : (f : Node → Node) → f nothing ≡ nothing → (fs : Fields) (i : ℕ) → as_node (piece_in (change_in fs i (on_node f)) i) ≡ f (as_node (piece_in fs i))
unfolding piece_in change_in
field_changed f h done i = sym h
field_changed f h (absent fs) zero = sym h
field_changed f h (absent fs) (suc i) = field_changed f h fs i
field_changed f h (field p fs) zero = node_on f h p
field_changed f h (field p fs) (suc i) = field_changed f h fs i

pub value_changed : (f : Node → Node) → f nothing ≡ nothing → (q : Node) → value (change_node 1 f q) ≡ f (value q)
unfolding node_at_of change
value_changed f h (node at k fs) = field_changed f h fs 1

module _ (κ : Context) where
  -- ---- objects that are replaced

  found_in : (d : ℕ) (q : Node) → depth q ≤ d → objects_with_rest κ d (value q) ≡ objects_below κ (value q)
  found_in d q l =
      node_in (λ m. objects_with_rest κ d m) (λ m. objects_below κ m) d (λ m h. objects_levels d m h κ)
      (objects_nothing κ d ∙ sym (objects_nothing κ (depth nothing))) 1 q (omega arith)

  found_object : (at : ℕ) (ps : Items) → objects_below κ (object_at at ps) ≡ gather (λ q. objects_below κ (value q)) ps
  unfolding objects_with_rest shape depth stands stands_in items_at_of piece_in
  found_object at ps =
      let d = max (depth_items ps) 0 in
      items_none (gather (λ q. objects_with_rest κ d (value q)) ps)
      ∙ gather_agrees (λ q. objects_with_rest κ d (value q)) (λ q. objects_below κ (value q)) d (λ q l. found_in d q l) ps (omega arith)

  found_rest : (at : ℕ) (ps : Items) (r : Node)
      → objects_below κ (object_rest_at at ps r) ≡ gather (λ q. objects_below κ (value q)) ps +++ only (object_rest_at at (each (λ q. change_node 1 (λ v. replaced_below κ v) q) ps) r)
  unfolding objects_with_rest shape depth stands stands_in items_at_of piece_in change change_in on_items
  found_rest at ps r =
      let d = max (depth_items ps) (max (depth r) 0) in
      ap₂ (λ (x : Items) (y : Node). x +++ only y)
      (gather_agrees (λ q. objects_with_rest κ d (value q)) (λ q. objects_below κ (value q)) d (λ q l. found_in d q l) ps (omega arith))
      (values_agree (λ v. replaced κ d v) (λ v. replaced_below κ v) d (λ m l. replaced_levels d m l κ) (object_rest_at at ps r) (omega arith))

  found_array : (at : ℕ) (is : Items) (fs : Fields) → objects_below κ (node at 36 (field (list is) fs)) ≡ gather (λ n. objects_below κ n) is
  unfolding objects_with_rest shape depth items_at_of piece_in
  found_array at is fs =
      let d = max (depth_items is) (depth_fields fs) in
      gather_agrees (λ n. objects_with_rest κ d n) (λ n. objects_below κ n) d (λ m l. objects_levels d m l κ) is (omega arith)

  found_default : (at : ℕ) (l : Node) (fs : Fields) → objects_below κ (node at 37 (field (one l) fs)) ≡ objects_below κ l
  unfolding objects_with_rest shape depth node_at_of piece_in
  found_default at l fs = objects_levels (max (depth l) (depth_fields fs)) l (omega arith) κ

  pub objects_object : (v : View) (at : ℕ) (ps : Items) → objects_in κ v (object_at at ps) ≡ gather (λ q. objects_in κ replacing (value q)) ps
  unfolding objects_in inner_objects shape items_at_of piece_in
  objects_object replacing at ps = found_object at ps
  objects_object taking at ps = refl

  pub objects_rest : (at : ℕ) (ps : Items) (r : Node)
      → objects_in κ replacing (object_rest_at at ps r)
      ≡ gather (λ q. objects_in κ replacing (value q)) ps +++ only (object_rest_at at (each (λ q. change_node 1 (λ v. replaced_below κ v) q) ps) r)
  unfolding objects_in
  objects_rest at ps r = found_rest at ps r

  pub objects_taken : (v : View) → takes v ≡ true → (at : ℕ) (ps : Items) (r : Node) → objects_in κ v (object_rest_at at ps r) ≡ gather (λ q. objects_in κ replacing (value q)) ps
  unfolding objects_in inner_objects shape items_at_of piece_in
  objects_taken replacing h at ps r = absurd (false≢true h)
  objects_taken taking h at ps r = refl

  pub objects_array : (v : View) (at : ℕ) (is : Items) (fs : Fields) → objects_in κ v (node at 36 (field (list is) fs)) ≡ gather (objects_in κ replacing) is
  unfolding objects_in inner_objects shape
  objects_array replacing at is fs = found_array at is fs
  objects_array taking at is fs = found_array at is fs

  pub objects_default : (v : View) (at : ℕ) (l : Node) (fs : Fields) → objects_in κ v (node at 37 (field (one l) fs)) ≡ objects_in κ replacing l
  unfolding objects_in inner_objects shape
  objects_default replacing at l fs = found_default at l fs
  objects_default taking at l fs = found_default at l fs

  pub objects_leaf : (v : View) (p : Node) → shape p ≡ leaf → objects_in κ v p ≡ Items.none
  unfolding objects_in inner_objects
  objects_leaf replacing p e = below_leaf κ p e
  objects_leaf taking p e = rw (e, inner_objects) refl

-- ---- only the path of a context is used

module _ (κ μ : Context) (same : κ.path ≡ μ.path) where
  replaced_path : (d : ℕ) → ◌≡◌ {A = Node → Node} (λ p. replaced κ d p) (λ p. replaced μ d p)
  unfolding replaced
  replaced_path zero = refl
  replaced_path (suc d) =
      fun_ext (λ p.
      ap₂ (λ (x : List ℕ) (f : Node → Node).
      elim (shape p) [
        | object_pattern ↦ cond (has_rest_of p) (temporary x 1 (position p)) (with_values (λ v. f v) p)
        | array_pattern ↦ with_items (λ e. f e) p
        | default ↦ with_left (λ l. f l) p
        | leaf ↦ p
      ]) same (replaced_path d))

  pub replaced_same_path : (p : Node) → replaced_below κ p ≡ replaced_below μ p
  replaced_same_path p = ap (λ (f : Node → Node). f p) (replaced_path (depth p))

  found_path : (d : ℕ) → ◌≡◌ {A = Node → Items} (λ p. objects_with_rest κ d p) (λ p. objects_with_rest μ d p)
  unfolding objects_with_rest
  found_path zero = refl
  found_path (suc d) =
      fun_ext (λ p.
      ap₂ (λ (x : Node → Node) (f : Node → Items).
      elim (shape p) [
        | object_pattern ↦ gather (λ q. f (value q)) (properties p) +++ cond (has_rest_of p) (only (with_values (λ v. x v) p)) Items.none
        | array_pattern ↦ gather (λ e. f e) (items_at_of 0 p)
        | default ↦ f (node_at_of 0 p)
        | leaf ↦ Items.none
      ]) (replaced_path d) (found_path d))

  found_same : (p : Node) → objects_below κ p ≡ objects_below μ p
  found_same p = ap (λ (f : Node → Items). f p) (found_path (depth p))

  inner_same : (p : Node) → inner_objects κ p ≡ inner_objects μ p
  unfolding inner_objects
  inner_same p =
      ap (λ (f : Node → Items).
      elim (shape p) [
        | object_pattern ↦ gather (λ q. f (value q)) (properties p)
        | array_pattern ↦ f p
        | default ↦ f p
        | leaf ↦ Items.none
      ]) (fun_ext found_same)

  pub objects_same_path : (v : View) (p : Node) → objects_in κ v p ≡ objects_in μ v p
  unfolding objects_in
  objects_same_path replacing p = found_same p
  objects_same_path taking p = inner_same p

-- ---- what is done for them, one level

-- what does not look at the values of an object
abbrev pub Keyed : (Node → Emit) → Type 0
Keyed f = (g : Node → Node) (at : ℕ) (ps : Items) (r : Node) → f (object_rest_at at (each (λ q. change_node 1 g q) ps) r) ≡ f (object_rest_at at ps r)

module _ (f : Node → Emit) where
  over_gather : (g : Node → Items) (is : Items) (e : Items) → e ≡ gather g is → in_turn f e ≡ in_turn (λ q. in_turn f (g q)) is
  over_gather g is e h = ap (in_turn f) h ∙ turn_gather f g is

  pub over_object : (v : View) (at : ℕ) (ps : Items) → over_objects f v (object_at at ps) ≡ in_turn (λ q. over_objects f replacing (value q)) ps
  unfolding over_objects
  over_object v at ps = over_gather (λ q. objects_in nameless replacing (value q)) ps (objects_in nameless v (object_at at ps)) (objects_object nameless v at ps)

  pub over_rest : (at : ℕ) (ps : Items) (r : Node)
      → over_objects f replacing (object_rest_at at ps r)
      ≡ in_turn (λ q. over_objects f replacing (value q)) ps ▷ f (object_rest_at at (each (λ q. change_node 1 (λ v. replaced_below nameless v) q) ps) r)
  unfolding over_objects
  over_rest at ps r =
      let o = object_rest_at at (each (λ q. change_node 1 (λ v. replaced_below nameless v) q) ps) r in
      let is = gather (λ q. objects_in nameless replacing (value q)) ps in
      ap (in_turn f) (objects_rest nameless at ps r)
      ∙ turn_append f is (only o)
      ∙ ap₂ (λ (x y : Emit). x ▷ y) (turn_gather f (λ q. objects_in nameless replacing (value q)) ps) (turn_only f o)

  pub over_keyed : Keyed f → (at : ℕ) (ps : Items) (r : Node)
      → over_objects f replacing (object_rest_at at ps r) ≡ in_turn (λ q. over_objects f replacing (value q)) ps ▷ f (object_rest_at at ps r)
  over_keyed k at ps r =
      over_rest at ps r ∙ ap (λ (x : Emit). in_turn (λ q. over_objects f replacing (value q)) ps ▷ x) (k (λ v. replaced_below nameless v) at ps r)

  pub over_taken : (v : View) → takes v ≡ true → (at : ℕ) (ps : Items) (r : Node)
      → over_objects f v (object_rest_at at ps r) ≡ in_turn (λ q. over_objects f replacing (value q)) ps
  unfolding over_objects
  over_taken v h at ps r = over_gather (λ q. objects_in nameless replacing (value q)) ps (objects_in nameless v (object_rest_at at ps r)) (objects_taken nameless v h at ps r)

  pub over_array : (v : View) (at : ℕ) (is : Items) (fs : Fields) → over_objects f v (node at 36 (field (list is) fs)) ≡ in_turn (over_objects f replacing) is
  unfolding over_objects
  over_array v at is fs = over_gather (objects_in nameless replacing) is (objects_in nameless v (node at 36 (field (list is) fs))) (objects_array nameless v at is fs)

  pub over_default : (v : View) (at : ℕ) (l : Node) (fs : Fields) → over_objects f v (node at 37 (field (one l) fs)) ≡ over_objects f replacing l
  unfolding over_objects
  over_default v at l fs = ap (in_turn f) (objects_default nameless v at l fs)

  pub over_leaf : (v : View) (p : Node) → shape p ≡ leaf → over_objects f v p ≡ say []
  unfolding over_objects in_turn
  over_leaf v p e = ap (in_turn f) (objects_leaf nameless v p e)
