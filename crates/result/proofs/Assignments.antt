-- Assignments: what is made of one lies where it lay.
-- Assumes nothing.
use mathlib.Core.Path.{◌≡◌, refl, sym, ap, subst, ◌∙◌}
use mathlib.Core.Bool.{Bool, true, false, cond}
use mathlib.Core.List.{[], ◌∷◌}
use Prim.Native.Nat.{ℕ, zero, suc, ◌<◌, ◌≤◌}
use native.Mathlib.Omega.{arith}
use lib.Dec.{eqb}
use Rattle.tree.specs.Tree.{Node, Fields, depth}
use Rattle.tree.specs.Tree.Node.{node}
use Rattle.tree.specs.Tree.Fields.{done, field}
use Rattle.tree.specs.Tree.Piece.{one, byte}
use Rattle.tree.specs.Grammar.{Sort, Field, places, allowed, also, among, kind_of, form_in, form_at, fields_of, kinds}
use Rattle.tree.specs.Grammar.Stage.{rewritten}
use Rattle.lowering.specs.Parts.{kind, is, node_at_of, piece_in, change, change_in, on_node}
use Rattle.lowering.specs.Made.{Context, declared, reference, value_of}
use Rattle.lowering.specs.Patterns.{shape, has_rest_of, value, with_values, replaced, replaced_below}
use Rattle.lowering.specs.Patterns.Shape.{object_pattern, leaf}
use Rattle.lowering.specs.Assignments.{target, assigned, nearest, parts_of, outermost, parts_replaced, target_left, from_reference, top_sequence, top_entry, top_excludes, nested_sequence, nested_entry}
use Rattle.lowering.proofs.Cases.{by_shape, object_is, array_is, default_is, is_kind}
use Rattle.lowering.proofs.Clauses.{replaced_leaf}
use Rattle.result.proofs.PlaceRows.{covers, at_places, no_kind}
use Rattle.result.proofs.Lies.{Texts, Lies, LieFields, LiePiece, LieItems, make, moved, may_stand, lies_append, lies_only, lies_each, lies_gather, lies_if}
use Rattle.result.proofs.LyingPatterns.{fields_at}
use Rattle.result.proofs.Expressions.{Takes, takes_3, takes_27, form_27, temporary_lies, sequence_lies, assign_lies}
use Rattle.result.proofs.PatternsLie.{values_lies, properties_of, value_of_lem, rest_of, reference_lies, replaced_lies, parts_lie, nearest_lie}
use Rattle.result.proofs.KeysLie.{same_shape, bound, key_temporaries_lie, taken_lies, rest_value_lies, excluded_for_lies}

-- ---- 27 Assignment(op= left right)

pub data AssignmentView (T : Texts) : Node → Type 0 where
  assignment : {at op : ℕ} {left right : Node} → 1 ≤ op → op ≤ 2 → Lies T (cond (eqb op 1) 19 20) left → Lies T 3 right
      → AssignmentView T (node at 27 (field (byte op) (field (one left) (field (one right) done))))

assignment_parts : {T : Texts} {at : ℕ} {gs : Fields} → LieFields T 0 (Field.must (Sort.byte 1 2) ∷ Field.must (Sort.chosen 19 20) ∷ Field.must (Sort.child 3) ∷ []) gs → AssignmentView T (node at 27 gs)
assignment_parts (LieFields.needed (LiePiece.byte a b x) (LieFields.needed (LiePiece.chosen l) (LieFields.needed (LiePiece.child r) LieFields.done))) = AssignmentView.assignment a b l r

pub assignment_takes : {T : Texts} (p : ℕ) (n : Node) → Lies T p n → is 27 n ≡ true → Takes p
assignment_takes p (node at k fs) l e =
    takes_27 p (subst (λ (j : ℕ). 0 < form_at rewritten p j) (is_kind 27 (node at k fs) e) (may_stand l))

pub assignment_view : {T : Texts} (p : ℕ) (n : Node) → Lies T p n → is 27 n ≡ true → AssignmentView T n
unfolding fields_of kinds
assignment_view {T = T} p (node at k fs) l e =
    let q : k ≡ 27 = is_kind 27 (node at k fs) e in
    subst (λ (j : ℕ). AssignmentView T (node at j fs)) (sym q)
    (assignment_parts (fields_at p 27 27 (Field.must (Sort.byte 1 2) ∷ Field.must (Sort.chosen 19 20) ∷ Field.must (Sort.child 3) ∷ []) refl (form_27 p (assignment_takes p (node at k fs) l e)) refl l q))

-- ---- targets

-- a leaf is a target
pub target_of : {T : Texts} {n : Node} → Lies T 20 n → Lies T 19 n
unfolding covers allowed places also among form_in kind_of
target_of {n = n} l = moved 19 (at_places no_kind rewritten rewritten 20 19 refl (kind n) refl (may_stand l)) l

chosen_target : {T : Texts} (op : ℕ) (n : Node) → Lies T (cond (eqb op 1) 19 20) n → Lies T 19 n
chosen_target {T = T} op n l = go (eqb op 1) l
  where
    go : (b : Bool) → Lies T (cond b 19 20) n → Lies T 19 n
    go true m = m
    go false m = target_of m

pub target_lies : {T : Texts} (n : Node) → AssignmentView T n → Lies T 19 (target n)
unfolding node_at_of piece_in
target_lies n (AssignmentView.assignment {op = op} {left = left} a b l r) = chosen_target op left l

pub value_lies : {T : Texts} (n : Node) → AssignmentView T n → Lies T 3 (assigned n)
unfolding node_at_of piece_in
value_lies n (AssignmentView.assignment a b l r) = r

-- no pattern stands at the place of a leaf
not_at : {T : Texts} (p j : ℕ) (n : Node) → form_at rewritten p j ≡ 0 → Lies T p n → is j n ≡ true → ⊥
not_at p j n z l e =
    let y : form_at rewritten p (kind n) ≡ 0 = ap (form_at rewritten p) (is_kind j n e) ∙ z in
    let x = may_stand l in
    omega arith

pub leaf_shape : {T : Texts} (n : Node) → Lies T 20 n → shape n ≡ leaf
unfolding form_at allowed places also among form_in kind_of
leaf_shape n l =
    by_shape (shape n)
    (λ e. absurd (not_at 20 34 n refl l (object_is n e)))
    (λ e. absurd (not_at 20 36 n refl l (array_is n e)))
    (λ e. absurd (not_at 20 37 n refl l (default_is n e)))
    (λ e. e)

-- nor at the place of a name that binds
pub name_shape : {T : Texts} (n : Node) → Lies T 16 n → shape n ≡ leaf
unfolding form_at allowed places also among form_in kind_of
name_shape n l =
    by_shape (shape n)
    (λ e. absurd (not_at 16 34 n refl l (object_is n e)))
    (λ e. absurd (not_at 16 36 n refl l (array_is n e)))
    (λ e. absurd (not_at 16 37 n refl l (default_is n e)))
    (λ e. e)

module _ (c : Context) where
  pub declared_lies : {T : Texts} {id : Node} → Lies T 15 id → Lies T 4 (declared id)
  unfolding form_at allowed places also among form_in kind_of fields_of kinds
  declared_lies a = make 4 5 5 refl (omega arith) refl (LieFields.needed (LiePiece.child a) (LieFields.absent LieFields.done))

  from_reference_lies : {T : Texts} (p : Node) → Lies T 19 p → Lies T 3 (from_reference c p)
  from_reference_lies p l = assign_lies 3 takes_3 l (temporary_lies 3 takes_3 (omega arith) (omega arith))

  -- ---- a target that is itself an object with rest

  module _ {T : Texts} (n : Node) (l : Lies T 19 (target n)) (o : shape (target n) ≡ object_pattern) where
    parts_of_lie : LieItems T 19 false (parts_of (target n))
    parts_of_lie =
        lies_gather false (λ q. nearest false (depth (target n)) (value q)) (λ q m. nearest_lie true false (depth (target n)) true (value q) (value_of_lem true q m)) (properties_of true false (target n) l o)

    target_left_lies : Lies T 19 (target_left c n)
    target_left_lies =
        taken_lies c true false (with_values (λ v. parts_replaced c (depth (target n)) v) (target n))
        (values_lies true false (λ v. parts_replaced c (depth (target n)) v) (λ v m. parts_lie c true (depth (target n)) true v m) (target n) l o)
        (same_shape _ (target n) o)

    value_target : Lies T 19 (value_of c (target n))
    value_target = Lies.named {stem = 3} (Rattle.result.proofs.LyingPatterns.temporary_form true false) (omega arith) (omega arith)

    value_bound : Lies T 15 (value_of c (target n))
    value_bound = bound c {stem = 3} (omega arith) (omega arith)

    value_read : Lies T 3 (value_of c (target n))
    value_read = temporary_lies 3 takes_3 (omega arith) (omega arith)

    pub top_lies : (p : ℕ) → Takes p → Lies T 3 (assigned n) → has_rest_of (target n) ≡ true → Lies T p (top_sequence c n)
    unfolding top_sequence
    top_lies p t v h =
        sequence_lies p t
        (LieItems.item (assign_lies 3 takes_3 value_target v)
        (LieItems.item (assign_lies 3 takes_3 target_left_lies value_read)
        (lies_append (lies_each (from_reference c) from_reference_lies parts_of_lie)
        (LieItems.item (assign_lies 3 takes_3 (target_of (rest_of true false (target n) l o h)) (rest_value_lies c true false (target n) l o (value_of c (target n)) value_read))
        (lies_if c.statement (λ e. LieItems.none) (λ e. lies_only value_read))))))

    pub top_entry_lies : LieItems T 4 false (top_entry c n)
    unfolding top_entry
    top_entry_lies =
        LieItems.item (declared_lies value_bound)
        (lies_append (lies_each (λ p. declared (reference c p)) (λ p m. declared_lies (reference_lies c false false p)) parts_of_lie)
        (key_temporaries_lie c true false (target n) l o))

    pub top_excludes_lie : LieItems T 4 false (top_excludes c n)
    unfolding top_excludes
    top_excludes_lie = excluded_for_lies c true false (target n) l o

  -- ---- any other target

  chosen_replaced : {T : Texts} (d op : ℕ) (n : Node) → Lies T (cond (eqb op 1) 19 20) n → Lies T (cond (eqb op 1) 19 20) (replaced c d n)
  unfolding replaced
  chosen_replaced {T = T} d op n l = go (eqb op 1) l
    where
      at_leaf : (e : ℕ) → Lies T 20 n → Lies T 20 (replaced c e n)
      at_leaf zero m = m
      at_leaf (suc e) m = rw (replaced_leaf c e n (leaf_shape n m)) m

      go : (b : Bool) → Lies T (cond b 19 20) n → Lies T (cond b 19 20) (replaced c d n)
      go true m = replaced_lies c true d false n m
      go false m = at_leaf d m

  replaced_assignment : {T : Texts} (n : Node) → AssignmentView T n → Lies T 3 (change 1 (on_node (λ p. replaced_below c p)) n)
  unfolding change change_in on_node fields_of kinds
  replaced_assignment n (AssignmentView.assignment {op = op} {left = left} a b l r) =
      make 3 27 27 (form_27 3 takes_3) (omega arith) refl
      (LieFields.needed (LiePiece.byte a b (omega arith)) (LieFields.needed (LiePiece.chosen (chosen_replaced (depth left) op left l)) (LieFields.needed (LiePiece.child r) LieFields.done)))

  outermost_lie : {T : Texts} (n : Node) → Lies T 19 (target n) → LieItems T 19 false (outermost (target n))
  outermost_lie n l = nearest_lie true true (depth (target n)) false (target n) l

  pub nested_lies : {T : Texts} (p : ℕ) → Takes p → (n : Node) → AssignmentView T n → Lies T p (nested_sequence c n)
  unfolding nested_sequence
  nested_lies p t n v =
      sequence_lies p t (LieItems.item (replaced_assignment n v) (lies_each (from_reference c) from_reference_lies (outermost_lie n (target_lies n v))))

  pub nested_entry_lies : {T : Texts} (n : Node) → AssignmentView T n → LieItems T 4 false (nested_entry c n)
  unfolding nested_entry
  nested_entry_lies n v = lies_each (λ p. declared (reference c p)) (λ p m. declared_lies (reference_lies c false false p)) (outermost_lie n (target_lies n v))
