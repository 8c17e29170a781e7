-- How many declarators a declaration has in the end.
-- Assumes nothing.
use mathlib.Core.Path.{◌≡◌, refl, sym, ap, ap₂, ◌∙◌, fun_ext}
use mathlib.Core.Bool.{Bool, true, false, cond}
use Prim.Native.Nat.{ℕ, zero, suc, ◌+◌}
use native.Mathlib.Omega.{arith}
use Rattle.tree.specs.Tree.{Node, Items, count, depth}
use Rattle.lowering.specs.Parts.{is, node_at_of, is_empty, on_items, change_node, only, each, gather, ◌+++◌}
use Rattle.lowering.specs.Made.{Context, declares, reference, value_of}
use Rattle.lowering.specs.Patterns.{shape, properties, items_of, left_of, value, rest, has_rest_of, with_values, replaced, replaced_below}
use Rattle.lowering.specs.Patterns.Shape.{object_pattern, array_pattern, default, leaf}
use Rattle.lowering.specs.Keys.{key_temporaries, taken}
use Rattle.lowering.specs.Rests.{rest_value}
use Rattle.lowering.specs.Declarations.{is_name_of, source, source_declarator, keys_before, pattern_declarator, rest_declarator, own, nested, nested_below, object_declarators, pattern_declarators, lower_declarator, is_lowered, declarators}
use Rattle.lowering.proofs.Cases.{by_test, by_shape}
use Rattle.lowering.proofs.WeightKeys.{rest_changed}
use Rattle.direct.specs.Events.{Place, context_of}
use Rattle.direct.specs.Views.{nameless}
use Rattle.direct.specs.Handed.{other_keys}
use Rattle.direct.specs.Declared.{declarator_count}
use Rattle.direct.specs.Counts.{sum_of, own_count, found_count, pattern_count, declarators_of}
use Rattle.direct.proofs.DeclarationsByPart.{properties_changed}
use Rattle.direct.proofs.HandedByObject.{keys_counted, other_values}
use Rattle.direct.proofs.Tests.{count_gather}
use Rattle.lowering.proofs.ItemLaws.{count_append, empty_each, count_none}

count_first : (b : Bool) (n : Node) → count (cond b (only n) Items.none) ≡ cond b 1 0
unfolding count
count_first true n = refl
count_first false n = refl

count_second : (b : Bool) (n : Node) → count (cond b Items.none (only n)) ≡ cond b 0 1
unfolding count
count_second true n = refl
count_second false n = refl

count_cond : (b : Bool) (is : Items) → count (cond b is Items.none) ≡ cond b (count is) 0
unfolding count
count_cond true is = refl
count_cond false is = refl

module _ (κ : Context) (g : Node → Node) (p s : Node) where
  keys_count : count (keys_before κ (with_values g p)) ≡ cond (has_rest_of p) (other_keys (properties p)) 0
  unfolding keys_before
  keys_count =
      let h : Node → Node = λ q. change_node 1 g q in
      count_cond (has_rest_of (with_values g p)) (key_temporaries κ (with_values g p))
      ∙ ap₂ (λ (b : Bool) (n : ℕ). cond b n 0) (rest_changed 0 (on_items (each h)) p) (keys_counted κ (with_values g p) ∙ ap other_keys (properties_changed h p) ∙ other_values g (properties p))

  pattern_count_lem : count (pattern_declarator κ (with_values g p) s) ≡ cond (is_empty (properties p)) 0 1
  unfolding pattern_declarator
  pattern_count_lem =
      let h : Node → Node = λ q. change_node 1 g q in
      count_second (is_empty (properties (with_values g p))) (declares (taken κ (with_values g p)) s)
      ∙ ap (λ (b : Bool). cond b 0 1) (ap is_empty (properties_changed h p) ∙ empty_each h (properties p))

  rest_count : count (rest_declarator κ (with_values g p) s) ≡ cond (has_rest_of p) 1 0
  unfolding rest_declarator
  rest_count =
      let h : Node → Node = λ q. change_node 1 g q in
      count_first (has_rest_of (with_values g p)) (declares (rest (with_values g p)) (rest_value κ (with_values g p) s))
      ∙ ap (λ (b : Bool). cond b 1 0) (rest_changed 0 (on_items (each h)) p)

  own_count_lem : count (own κ (with_values g p) s) ≡ own_count p + cond (has_rest_of p) 1 0
  unfolding own own_count
  own_count_lem =
      let q = with_values g p in
      let a = count_append (keys_before κ q) (pattern_declarator κ q s +++ rest_declarator κ q s) in
      let b = count_append (pattern_declarator κ q s) (rest_declarator κ q s) in
      let x = keys_count in
      let y = pattern_count_lem in
      let z = rest_count in
      omega arith

module _ (κ : Context) (d : ℕ) (p : Node) where
  nest_object : shape p ≡ object_pattern
      → nested κ (suc d) p ≡ cond (has_rest_of p) (own κ (with_values (λ v. replaced κ d v) p) (reference κ p)) Items.none +++ gather (λ q. nested κ d (value q)) (properties p)
  unfolding nested
  nest_object e = rw (e, nested) refl

  nest_array : shape p ≡ array_pattern → nested κ (suc d) p ≡ gather (λ x. nested κ d x) (items_of p)
  unfolding nested
  nest_array e = rw (e, nested) refl

  nest_default : shape p ≡ default → nested κ (suc d) p ≡ nested κ d (left_of p)
  unfolding nested
  nest_default e = rw (e, nested) refl

  nest_leaf : shape p ≡ leaf → nested κ (suc d) p ≡ Items.none
  unfolding nested
  nest_leaf e = rw (e, nested) refl

  object_count : shape p ≡ object_pattern
      → count (nested κ (suc d) p) ≡ cond (has_rest_of p) (own_count p + cond (has_rest_of p) 1 0) 0 + sum_of (λ q. count (nested κ d (value q))) (properties p)
  object_count e =
      let o = own κ (with_values (λ v. replaced κ d v) p) (reference κ p) in
      ap count (nest_object e)
      ∙ count_append (cond (has_rest_of p) o Items.none) (gather (λ q. nested κ d (value q)) (properties p))
      ∙ ap₂ (λ (x y : ℕ). x + y)
      (count_cond (has_rest_of p) o ∙ ap (λ (n : ℕ). cond (has_rest_of p) n 0) (own_count_lem κ (λ v. replaced κ d v) p (reference κ p)))
      (count_gather (λ q. nested κ d (value q)) (properties p))

-- the names of temporaries play no part
module _ (κ μ : Context) where
  nested_count : (d : ℕ) (p : Node) → count (nested κ d p) ≡ count (nested μ d p)
  unfolding nested
  nested_count zero p = refl
  nested_count (suc d) p =
      by_shape (shape p)
      (λ e.
      object_count κ d p e
      ∙ ap (λ (f : Node → ℕ). cond (has_rest_of p) (own_count p + cond (has_rest_of p) 1 0) 0 + sum_of f (properties p)) (fun_ext (λ q. nested_count d (value q)))
      ∙ sym (object_count μ d p e))
      (λ e.
      ap count (nest_array κ d p e)
      ∙ count_gather (λ x. nested κ d x) (items_of p)
      ∙ ap (λ (f : Node → ℕ). sum_of f (items_of p)) (fun_ext (λ x. nested_count d x))
      ∙ sym (count_gather (λ x. nested μ d x) (items_of p))
      ∙ ap count (sym (nest_array μ d p e)))
      (λ e. ap count (nest_default κ d p e) ∙ nested_count d (left_of p) ∙ ap count (sym (nest_default μ d p e)))
      (λ e. ap count (nest_leaf κ d p e) ∙ ap count (sym (nest_leaf μ d p e)))

pub found_counted : (κ : Context) (p : Node) → count (nested_below κ p) ≡ found_count p
unfolding found_count
found_counted κ p = nested_count κ nameless (depth p) p

-- ---- a pattern, a declarator, a declaration

module _ (κ : Context) where
  values_counted : (ps : Items) → count (gather (λ q. nested_below κ (value q)) ps) ≡ sum_of (λ q. found_count (value q)) ps
  values_counted ps = count_gather (λ q. nested_below κ (value q)) ps ∙ ap (λ (f : Node → ℕ). sum_of f ps) (fun_ext (λ q. found_counted κ (value q)))

  object_counted : (p s : Node) → count (object_declarators κ p s) ≡ own_count p + (sum_of (λ q. found_count (value q)) (properties p) + cond (has_rest_of p) 1 0)
  unfolding object_declarators own_count
  object_counted p s =
      let g : Node → Node = λ v. replaced_below κ v in
      let q = with_values g p in
      let f = gather (λ r. nested_below κ (value r)) (properties p) in
      let a = count_append (keys_before κ q) (pattern_declarator κ q s +++ f +++ rest_declarator κ q s) in
      let b = count_append (pattern_declarator κ q s) (f +++ rest_declarator κ q s) in
      let c = count_append f (rest_declarator κ q s) in
      let x = keys_count κ g p s in
      let y = pattern_count_lem κ g p s in
      let z = rest_count κ g p s in
      let v = values_counted (properties p) in
      omega arith

  array_counted : (p s : Node) → count (only (declares (replaced_below κ p) s) +++ nested_below κ p) ≡ suc (found_count p)
  unfolding count ◌+++◌
  array_counted p s = ap suc (found_counted κ p)

  pub pattern_counted : (p s : Node) → count (pattern_declarators κ p s) ≡ pattern_count p
  unfolding pattern_declarators pattern_count
  pattern_counted p s =
      by_shape (shape p)
      (λ e. rw (e, pattern_declarators, pattern_count) (object_counted p s))
      (λ e. rw (e, pattern_declarators, pattern_count) (array_counted p s))
      (λ e. rw (e, pattern_declarators, pattern_count) count_none)
      (λ e. rw (e, pattern_declarators, pattern_count) count_none)

  lowered_counted : (p init : Node) → count (lower_declarator κ p init) ≡ cond (is_name_of init) 0 1 + pattern_count p
  unfolding lower_declarator source_declarator
  lowered_counted p init =
      count_append (cond (is_name_of init) Items.none (only (declares (value_of κ p) init))) (pattern_declarators κ p (source κ p init))
      ∙ ap₂ (λ (x y : ℕ). x + y) (count_second (is_name_of init) (declares (value_of κ p) init)) (pattern_counted p (source κ p init))

  pub declarator_counted : (d : Node) → count (declarators κ d) ≡ declarators_of d
  unfolding declarators declarators_of count
  declarator_counted d = by_test (is_lowered d) (λ e. rw e (lowered_counted (node_at_of 0 d) (node_at_of 1 d))) (λ e. rw e refl)

pub declarator_count_lem : (c : Place) (ds : Items) → declarator_count c ds ≡ sum_of declarators_of ds
unfolding declarator_count
declarator_count_lem c ds = count_gather (declarators (context_of c)) ds ∙ ap (λ (f : Node → ℕ). sum_of f ds) (fun_ext (λ d. declarator_counted (context_of c) d))
