-- No object rest is below a pattern that is moved out, so a declaration of a loop's head is not lowered again.
-- Assumes nothing.
use mathlib.Core.Path.{◌≡◌, refl, ap, ◌∙◌}
use mathlib.Core.Bool.{true, false}
use mathlib.Core.List.{[], ◌∷◌, ◌++◌}
use Prim.Native.Nat.{ℕ, zero, suc, ◌≤◌}
use native.Mathlib.Omega.{arith}
use Rattle.tree.specs.Tree.{Node, Fields, Piece, Items, wide_bytes, count, depth, depth_fields, depth_piece, depth_items}
use Rattle.tree.specs.Tree.Node.{node}
use Rattle.lowering.specs.Parts.{nothing, is, piece_in, change_in, as_node, as_items_of, node_at_of, items_at_of, stands, change, on_node, on_items, each, any}
use Rattle.lowering.specs.Patterns.{shape, items_of, rest, left_of, with_left, with_items, with_rest, has_nested_object_rest, has_object_rest}
use Rattle.lowering.specs.Patterns.Shape.{array_pattern, default}
use Rattle.lowering.specs.Declarations.{is_lowered}
use Rattle.lowering.specs.Heads.{moved_out_of, is_moved, left_behind}
use Rattle.lowering.proofs.Cases.{by_test, by_shape, and_none}
use Rattle.lowering.proofs.Accepted.{NoHoles}
use Rattle.direct.specs.Events.{Place, puts, marks, context_of, emits}
use Rattle.direct.specs.Emit.{say, ◌▷◌, inner, emits_items}
use Rattle.direct.specs.Moved.{stand_in, out_of, behind, declaration_fields}
use Rattle.direct.proofs.OneLevel.{emits_unchanged}
use Rattle.direct.proofs.RulesKeep.{declaration_kept}
use Rattle.direct.proofs.MadeNodes.{stays_declaration}
use Rattle.direct.proofs.MovedOut.{behind_kept}
use Rattle.lowering.proofs.ItemLaws.{count_each}
use Rattle.lowering.proofs.ChangeLaws.{shape_changed}
use Rattle.lowering.proofs.Levels.{has_nothing, depth_pos}
use Rattle.lowering.proofs.Clauses.{has_leaf}
use Rattle.direct.specs.Views.{nameless}

-- ---- nothing is found in nothing, nor in a temporary, nor in a leaf

no_levels : (p : Node) → has_nested_object_rest 0 p ≡ false
unfolding has_nested_object_rest
no_levels p = refl

has_stand : (e : ℕ) (p : Node) → has_nested_object_rest e (stand_in p) ≡ false
unfolding has_nested_object_rest shape
has_stand zero p = refl
has_stand (suc e) p = refl

has_array : (e : ℕ) (p : Node) → shape p ≡ array_pattern → any (λ m. has_nested_object_rest e m) (items_of p) ≡ false → has_nested_object_rest e (rest p) ≡ false
    → has_nested_object_rest (suc e) p ≡ false
unfolding has_nested_object_rest
has_array e p h i r = rw (h, has_nested_object_rest, i) r

has_default : (e : ℕ) (p : Node) → shape p ≡ default → has_nested_object_rest e (left_of p) ≡ false → has_nested_object_rest (suc e) p ≡ false
unfolding has_nested_object_rest
has_default e p h l = rw (h, has_nested_object_rest) l

-- ---- parts that are changed

module _ (f : Node → Node) (e d : ℕ) (none : (m : Node) → depth m ≤ d → has_nested_object_rest e (f m) ≡ false) where
  each_none : (is : Items) → depth_items is ≤ d → any (λ m. has_nested_object_rest e m) (each f is) ≡ false
  unfolding each any depth
  each_none Items.none h = refl
  each_none (Items.hole ns) h = each_none ns h
  each_none (Items.item n ns) h = rw (none n (omega arith)) (each_none ns (omega arith))

  list_none : (p : Piece) → depth_piece p ≤ d → any (λ m. has_nested_object_rest e m) (as_items_of (on_items (each f) p)) ≡ false
  unfolding on_items any depth
  list_none (Piece.one n) h = refl
  list_none (Piece.list ns) h = each_none ns h
  list_none (Piece.text bs) h = refl
  list_none (Piece.byte b) h = refl
  list_none (Piece.mark b) h = refl
  list_none (Piece.number b) h = refl

  node_none : (p : Piece) → depth_piece p ≤ d → has_nested_object_rest e (as_node (on_node f p)) ≡ false
  unfolding on_node depth
  node_none (Piece.one n) h = none n h
  node_none (Piece.list ns) h = has_nothing e
  node_none (Piece.text bs) h = has_nothing e
  node_none (Piece.byte b) h = has_nothing e
  node_none (Piece.mark b) h = has_nothing e
  node_none (Piece.number b) h = has_nothing e

  items_in_lem : (fs : Fields) → depth_fields fs ≤ d
      → any (λ m. has_nested_object_rest e m) (as_items_of (piece_in (change_in (change_in fs 0 (on_items (each f))) 1 (on_node f)) 0)) ≡ false
  unfolding piece_in change_in any depth
  items_in_lem Fields.done h = refl
  items_in_lem (Fields.absent fs) h = refl
  items_in_lem (Fields.field p fs) h = list_none p (omega arith)

  first_in : (fs : Fields) → depth_fields fs ≤ d → has_nested_object_rest e (as_node (piece_in (change_in fs 0 (on_node f)) 0)) ≡ false
  unfolding piece_in change_in depth
  first_in Fields.done h = has_nothing e
  first_in (Fields.absent fs) h = has_nothing e
  first_in (Fields.field p fs) h = node_none p (omega arith)

  rest_in : (fs : Fields) → depth_fields fs ≤ d
      → has_nested_object_rest e (as_node (piece_in (change_in (change_in fs 0 (on_items (each f))) 1 (on_node f)) 1)) ≡ false
  unfolding piece_in change_in depth
  rest_in Fields.done h = has_nothing e
  rest_in (Fields.absent fs) h = first_in fs h
  rest_in (Fields.field p fs) h = first_in fs (omega arith)

-- the two parts of an array pattern
array_none : (f : Node → Node) (e d : ℕ) → ((m : Node) → depth m ≤ d → has_nested_object_rest e (f m) ≡ false) → (p : Node) → depth p ≤ suc d → shape p ≡ array_pattern
    → has_nested_object_rest (suc e) (with_rest f (with_items f p)) ≡ false
unfolding change items_at_of node_at_of depth
array_none f e d none (node at k fs) h s =
    has_array e (with_rest f (with_items f (node at k fs)))
    (shape_changed 1 (on_node f) (with_items f (node at k fs)) ∙ shape_changed 0 (on_items (each f)) (node at k fs) ∙ s)
    (items_in_lem f e d none fs (omega arith)) (rest_in f e d none fs (omega arith))

default_none : (e : ℕ) (p q : Node) → shape p ≡ default → has_nested_object_rest (suc e) (with_left (λ l. stand_in q) p) ≡ false
unfolding change node_at_of depth
default_none e (node at k fs) q s =
    has_default e (with_left (λ l. stand_in q) (node at k fs)) (shape_changed 0 (on_node (λ l. stand_in q)) (node at k fs) ∙ s)
    (first_in (λ l. stand_in q) e (depth_fields fs) (λ m h. has_stand e q) fs (omega arith))

out_none : (d e : ℕ) (p : Node) → depth p ≤ d → has_nested_object_rest e (moved_out_of nameless d p) ≡ false
unfolding moved_out_of
out_none zero e p h = let z = depth_pos p in absurd (omega arith)
out_none (suc d) zero p h = no_levels (moved_out_of nameless (suc d) p)
out_none (suc d) (suc e) p h =
    by_shape (shape p)
    (λ s. rw (s, moved_out_of) (has_stand (suc e) p))
    (λ s. rw (s, moved_out_of) (array_none (λ m. moved_out_of nameless d m) e d (λ m l. out_none d e m l) p h s))
    (λ s. rw (s, moved_out_of) (default_none e p p s))
    (λ s. rw (s, moved_out_of) (has_leaf (suc e) p s))

pub out_without_rest : (p : Node) → has_object_rest (out_of p) ≡ false
unfolding out_of
out_without_rest p = out_none (depth p) (depth (moved_out_of nameless (depth p) p)) p (omega arith)

-- ---- Declarators

piece_without : (p : Piece) → has_object_rest (as_node (on_node out_of p)) ≡ false
unfolding on_node
piece_without (Piece.one n) = out_without_rest n
piece_without (Piece.list ns) = has_nothing (depth nothing)
piece_without (Piece.text bs) = has_nothing (depth nothing)
piece_without (Piece.byte b) = has_nothing (depth nothing)
piece_without (Piece.mark b) = has_nothing (depth nothing)
piece_without (Piece.number b) = has_nothing (depth nothing)

first_without : (fs : Fields) → has_object_rest (as_node (piece_in (change_in fs 0 (on_node out_of)) 0)) ≡ false
unfolding piece_in change_in
first_without Fields.done = has_nothing (depth nothing)
first_without (Fields.absent fs) = has_nothing (depth nothing)
first_without (Fields.field p fs) = piece_without p

moved_without : (q : Node) → has_object_rest (node_at_of 0 (change 0 (on_node out_of) q)) ≡ false
unfolding node_at_of change
moved_without (node at k fs) = first_without fs

behind_is : (q : Node) → is_moved q ≡ true → behind q ≡ change 0 (on_node out_of) q
unfolding left_behind out_of
behind_is q h = rw h refl

pub behind_without_rest : (q : Node) → has_object_rest (node_at_of 0 (behind q)) ≡ false
unfolding is_moved
behind_without_rest q =
    by_test (is_moved q)
    (λ h. ap (λ (x : Node). has_object_rest (node_at_of 0 x)) (behind_is q h) ∙ moved_without q)
    (λ h. ap (λ (x : Node). has_object_rest (node_at_of 0 x)) (behind_kept q h) ∙ h)

pub behind_kept_again : (qs : Items) → any is_lowered (each behind qs) ≡ false
unfolding each any is_lowered
behind_kept_again Items.none = refl
behind_kept_again (Items.hole ns) = behind_kept_again ns
behind_kept_again (Items.item n ns) = rw (and_none (stands 1 (behind n)) (has_object_rest (node_at_of 0 (behind n))) (behind_without_rest n)) (behind_kept_again ns)

each_whole : (f : Node → Node) (is : Items) → NoHoles is → NoHoles (each f is)
unfolding each NoHoles
each_whole f Items.none w = tt
each_whole f (Items.hole ns) w = w
each_whole f (Items.item n ns) w = each_whole f ns w

-- the declaration of a loop's head, its patterns moved out
pub emits_declaring : (c : Place) (at m sort : ℕ) (qs : Items) → NoHoles qs
    → emits c (node at 4 (declaration_fields m sort (each behind qs)))
    ≡ say (puts (4 ∷ 7 ∷ []) ++ (marks m ++ puts (sort ∷ wide_bytes (count qs)))) ▷ emits_items false (inner c) (each behind qs)
unfolding is items_at_of piece_in
emits_declaring c at m sort qs w =
    let n = node at 4 (declaration_fields m sort (each behind qs)) in
    emits_unchanged c n (declaration_kept (context_of c) n refl (each_whole behind qs w) (behind_kept_again qs))
    ∙ stays_declaration c at m sort (each behind qs)
    ∙ ap (λ (x : ℕ). say (puts (4 ∷ 7 ∷ []) ++ (marks m ++ puts (sort ∷ wide_bytes x))) ▷ emits_items false (inner c) (each behind qs)) (count_each behind qs)
