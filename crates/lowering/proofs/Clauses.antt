-- The clauses of the searches below patterns, and of what they leave, as equations.
-- Assumes nothing.
use mathlib.Core.Path.{◌≡◌, refl}
use mathlib.Core.Bool.{Bool, cond, false, true, not, ◌&&◌}
use Prim.Native.Nat.{ℕ, suc, zero}
use lib.Dec.{eqb}
use Rattle.tree.specs.Tree.{Node, Fields, depth, Items}
use Rattle.tree.specs.Tree.Items.{none}
use Rattle.lowering.specs.Parts.{only, gather, ◌+++◌, is, node_at_of, stands, text_at_of}
use Rattle.lowering.specs.Made.{Context, reference, S}
use Rattle.lowering.specs.Patterns.{shape, properties, items_of, has_rest_of, left_of, value, with_left, with_items, with_values, replaced, objects_with_rest, objects_below, has_nested_object_rest, has_object_rest}
use Rattle.lowering.specs.Patterns.Shape.{object_pattern, array_pattern, default, leaf}
use Rattle.lowering.specs.Keys.{taken, key_sort, all_primitive, key_text, literal_text}
use Rattle.lowering.specs.Declarations.{inner_objects, is_lowered}
use Rattle.lowering.specs.Assignments.{nearest, parts_replaced, is_top}
use Rattle.tree.specs.Tree.Node.{node}
use Rattle.lowering.specs.Literals.{Call, opened, scan}
use Rattle.lowering.specs.Walk.{rule_of, rewrite, unchanged}
use Rattle.lowering.proofs.Cases.{and_right, and_left}
use borrow.Author.Tests.{eqb-true}
use Rattle.lowering.specs.Keys.Key.{again, name, literal}
use Rattle.lowering.specs.Rests.{is_hoisted, has_no_properties}

module _ (c : Context) where
  pub objects_object : (d : ℕ) (p : Node) → shape p ≡ object_pattern
      → objects_with_rest c (suc d) p ≡ gather (λ q. objects_with_rest c d (value q)) (properties p) +++ cond (has_rest_of p) (only (with_values (λ v. replaced c d v) p)) none
  unfolding objects_with_rest
  objects_object d p e = rw (e, objects_with_rest)

  pub objects_array : (d : ℕ) (p : Node) → shape p ≡ array_pattern → objects_with_rest c (suc d) p ≡ gather (λ m. objects_with_rest c d m) (items_of p)
  unfolding objects_with_rest
  objects_array d p e = rw (e, objects_with_rest)

  pub objects_default : (d : ℕ) (p : Node) → shape p ≡ default → objects_with_rest c (suc d) p ≡ objects_with_rest c d (left_of p)
  unfolding objects_with_rest
  objects_default d p e = rw (e, objects_with_rest)

  pub objects_leaf : (d : ℕ) (p : Node) → shape p ≡ leaf → objects_with_rest c (suc d) p ≡ none
  unfolding objects_with_rest
  objects_leaf d p e = rw (e, objects_with_rest)

  pub replaced_object : (d : ℕ) (p : Node) → shape p ≡ object_pattern → replaced c (suc d) p ≡ cond (has_rest_of p) (reference c p) (with_values (λ v. replaced c d v) p)
  unfolding replaced
  replaced_object d p e = rw (e, replaced)

  pub replaced_plain : (d : ℕ) (p : Node) → shape p ≡ object_pattern → has_rest_of p ≡ false → replaced c (suc d) p ≡ with_values (λ v. replaced c d v) p
  unfolding replaced
  replaced_plain d p e r = rw (e, replaced, r)

  pub replaced_top : (d : ℕ) (p : Node) → shape p ≡ object_pattern → has_rest_of p ≡ true → replaced c (suc d) p ≡ reference c p
  unfolding replaced
  replaced_top d p e r = rw (e, replaced, r)

  pub replaced_array : (d : ℕ) (p : Node) → shape p ≡ array_pattern → replaced c (suc d) p ≡ with_items (λ v. replaced c d v) p
  unfolding replaced
  replaced_array d p e = rw (e, replaced)

  pub replaced_default : (d : ℕ) (p : Node) → shape p ≡ default → replaced c (suc d) p ≡ with_left (λ v. replaced c d v) p
  unfolding replaced
  replaced_default d p e = rw (e, replaced)

  pub replaced_leaf : (d : ℕ) (p : Node) → shape p ≡ leaf → replaced c (suc d) p ≡ p
  unfolding replaced
  replaced_leaf d p e = rw (e, replaced)

  pub parts_object : (d : ℕ) (p : Node) → shape p ≡ object_pattern
      → parts_replaced c (suc d) p ≡ cond (has_rest_of p) (reference c p) (with_values (λ v. parts_replaced c d v) p)
  unfolding parts_replaced
  parts_object d p e = rw (e, parts_replaced)

  pub parts_array : (d : ℕ) (p : Node) → shape p ≡ array_pattern → parts_replaced c (suc d) p ≡ p
  unfolding parts_replaced
  parts_array d p e = rw (e, parts_replaced)

  pub parts_default : (d : ℕ) (p : Node) → shape p ≡ default → parts_replaced c (suc d) p ≡ with_left (λ v. parts_replaced c d v) p
  unfolding parts_replaced
  parts_default d p e = rw (e, parts_replaced)

  pub parts_leaf : (d : ℕ) (p : Node) → shape p ≡ leaf → parts_replaced c (suc d) p ≡ p
  unfolding parts_replaced
  parts_leaf d p e = rw (e, parts_replaced)

  pub taken_none : (p : Node) → has_rest_of p ≡ false → taken c p ≡ p
  unfolding taken
  taken_none p r = rw r

  pub inner_object : (p : Node) → shape p ≡ object_pattern → inner_objects c p ≡ gather (λ q. objects_below c (value q)) (properties p)
  unfolding inner_objects
  inner_object p e = rw (e, inner_objects)

  pub inner_array : (p : Node) → shape p ≡ array_pattern → inner_objects c p ≡ objects_below c p
  unfolding inner_objects
  inner_array p e = rw (e, inner_objects)

module _ (arrays : Bool) where
  pub nearest_object : (d : ℕ) (p : Node) → shape p ≡ object_pattern
      → nearest arrays (suc d) p ≡ cond (has_rest_of p) (only p) (gather (λ q. nearest arrays d (value q)) (properties p))
  unfolding nearest
  nearest_object d p e = rw (e, nearest)

  pub nearest_array : (d : ℕ) (p : Node) → shape p ≡ array_pattern
      → nearest arrays (suc d) p ≡ cond arrays (gather (λ m. nearest arrays d m) (items_of p)) none
  unfolding nearest
  nearest_array d p e = rw (e, nearest)

  pub nearest_default : (d : ℕ) (p : Node) → shape p ≡ default → nearest arrays (suc d) p ≡ nearest arrays d (left_of p)
  unfolding nearest
  nearest_default d p e = rw (e, nearest)

  pub nearest_leaf : (d : ℕ) (p : Node) → shape p ≡ leaf → nearest arrays (suc d) p ≡ none
  unfolding nearest
  nearest_leaf d p e = rw (e, nearest)

pub has_leaf : (e : ℕ) (p : Node) → shape p ≡ leaf → has_nested_object_rest e p ≡ false
unfolding has_nested_object_rest
has_leaf zero p h = refl
has_leaf (suc e) p h = rw (h, has_nested_object_rest) refl

pub has_leaf_at : (p : Node) → shape p ≡ leaf → has_object_rest p ≡ false
unfolding has_nested_object_rest depth
has_leaf_at (node at k fs) e = rw (e, has_nested_object_rest) refl

pub scan_spread : (c : Call) (pending : Items) (p : Node) (ps : Items) → is 26 p ≡ true
    → scan c pending (Items.item p ps) ≡ scan (Call.call (S (opened c pending +++ only (node_at_of 0 p)))) Items.none ps
unfolding scan
scan_spread c pending p ps e = rw (e, scan)

pub scan_other : (c : Call) (pending : Items) (p : Node) (ps : Items) → is 26 p ≡ false → scan c pending (Items.item p ps) ≡ scan c (pending +++ only p) ps
unfolding scan
scan_other c pending p ps e = rw (e, scan)

pub lowered_rest : (d : Node) → is_lowered d ≡ true → has_object_rest (node_at_of 0 d) ≡ true
unfolding is_lowered
lowered_rest d e = and_right (stands 1 d) (has_object_rest (node_at_of 0 d)) e

pub top_34 : (p : Node) → is_top p ≡ true → is 34 p ≡ true
unfolding is_top
top_34 p e = and_left (is 34 p) (has_rest_of p) e

pub top_rest : (p : Node) → is_top p ≡ true → has_rest_of p ≡ true
unfolding is_top
top_rest p t = and_right (is 34 p) (has_rest_of p) t

pub again_temporary : (k : Node) → is 20 k ≡ true → key_sort k ≡ again
unfolding key_sort is
again_temporary (node at k fs) e = rw (eqb-true k 20 e) refl

pub hoisted_primitive : (c : Context) (p : Node) → is_hoisted c p ≡ true → all_primitive p ≡ true
unfolding is_hoisted
hoisted_primitive c p h = and_right (not (has_no_properties p)) (all_primitive p) (and_right (not c.root) (not (has_no_properties p) && all_primitive p) h)

pub text_name : (k : Node) → key_sort k ≡ name → key_text k ≡ text_at_of 0 k
unfolding key_text
text_name k e = rw (e, key_text) refl

pub text_literal : (k : Node) → key_sort k ≡ literal → key_text k ≡ literal_text k
unfolding key_text
text_literal k e = rw (e, key_text) refl

-- a kind of no rule
pub others : (c : Context) (at k : ℕ) (fs : Fields) → eqb k 24 ≡ false → eqb k 4 ≡ false → eqb k 27 ≡ false → eqb k 14 ≡ false → eqb k 17 ≡ false → eqb k 10 ≡ false → eqb k 7 ≡ false → eqb k 8 ≡ false
    → rewrite c (node at k fs) ≡ unchanged (node at k fs)
unfolding rewrite rule_of
others c at k fs e₁ e₂ e₃ e₄ e₅ e₆ e₇ e₈ = rw (e₁, e₂, e₃, e₄, e₅, e₆, e₇, e₈, rewrite) refl
