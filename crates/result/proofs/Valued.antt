-- Declarators without a value: a Declaration that had none with an object rest has none after its rules.
-- Assumes nothing.
use mathlib.Core.Path.{◌≡◌, refl, ◌∙◌}
use mathlib.Core.Bool.{Bool, true, false, cond}
use Prim.Native.Nat.{ℕ, zero, suc}
use Rattle.tree.specs.Tree.{Node, Fields, Piece, Items, depth}
use Rattle.tree.specs.Tree.Node.{node}
use Rattle.lowering.specs.Parts.{is, node_at_of, items_at_of, stands, stands_in, piece_in, as_items_of, change, change_in, on_items, on_node, only, each, gather, any, ◌+++◌}
use Rattle.lowering.specs.Made.{Context, value_of, declares, reference}
use Rattle.lowering.specs.Patterns.{shape, key, properties, items_of, rest, has_rest_of, left_of, value, with_values, has_object_rest, replaced, replaced_below}
use Rattle.lowering.specs.Keys.{key_sort, key_temporary, key_temporaries, taken}
use Rattle.lowering.specs.Rests.{has_no_properties, rest_value}
use Rattle.lowering.specs.Declarations.{is_name_of, source, source_declarator, keys_before, pattern_declarator, rest_declarator, own, nested, nested_below, object_declarators, pattern_declarators, lower_declarator, is_lowered, declarators}
use Rattle.lowering.specs.Heads.{is_moved, moved_out_of, left_behind}
use Rattle.lowering.proofs.Cases.{by_test, by_shape, by_key}
use Rattle.lowering.proofs.All.{AllItems, all_unit, all_append, all_gather, all_each, all_cond, none_passes, weaker_items}
use Rattle.lowering.proofs.ChangeLaws.{stands_changed}
use Rattle.result.specs.Left.{keeps_rest}
use Rattle.result.specs.Causes.{Cause, shows, lacks_value}

-- ---- lists

pub changed_items : (P : Node → Type 0) (fs : Fields) (i : ℕ) (g : Items → Items) → AllItems P (g (as_items_of (piece_in fs i))) → AllItems P (as_items_of (piece_in (change_in fs i (on_items g)) i))
unfolding piece_in change_in on_items
changed_items P Fields.done i g h = tt
changed_items P (Fields.absent fs) zero g h = tt
changed_items P (Fields.absent fs) (suc i) g h = changed_items P fs i g h
changed_items P (Fields.field (Piece.one n) fs) zero g h = tt
changed_items P (Fields.field (Piece.list is) fs) zero g h = h
changed_items P (Fields.field (Piece.text bs) fs) zero g h = tt
changed_items P (Fields.field (Piece.byte b) fs) zero g h = tt
changed_items P (Fields.field (Piece.mark b) fs) zero g h = tt
changed_items P (Fields.field (Piece.number b) fs) zero g h = tt
changed_items P (Fields.field p fs) (suc i) g h = changed_items P fs i g h

pub none_any : (f : Node → Bool) (is : Items) → AllItems (λ n. f n ≡ false) is → any f is ≡ false
unfolding any
none_any f Items.none h = refl
none_any f (Items.hole is) h = none_any f is h
none_any f (Items.item n is) h = rw h.0 (none_any f is h.1)

-- ---- what a declarator with a value becomes has values

abbrev Valued : Node → Type 0
Valued d = stands 1 d ≡ true

declares_valued : (id init : Node) → Valued (declares id init)
unfolding stands stands_in
declares_valued id init = refl

module _ (c : Context) where
  key_valued : (q : Node) → AllItems Valued (key_temporary c q)
  unfolding key_temporary
  key_valued q =
      by_key (key_sort (key q)) (λ e. rw (e, key_temporary) tt) (λ e. rw (e, key_temporary) tt) (λ e. rw (e, key_temporary) tt) (λ e. rw (e, key_temporary) tt) (λ e. rw (e, key_temporary) tt)
      (λ e. rw (e, key_temporary) (declares_valued _ (key q), tt))

  before_valued : (p : Node) → AllItems Valued (keys_before c p)
  unfolding keys_before key_temporaries
  before_valued p =
      all_cond Valued (has_rest_of p) (key_temporaries c p) Items.none (all_gather (λ q. Unit {0}) Valued (key_temporary c) (λ q u. key_valued q) (properties p) (all_unit (properties p))) tt

  pattern_valued : (p s : Node) → AllItems Valued (pattern_declarator c p s)
  unfolding pattern_declarator
  pattern_valued p s = all_cond Valued (has_no_properties p) Items.none (only (declares (taken c p) s)) tt (declares_valued (taken c p) s, tt)

  rest_valued : (p s : Node) → AllItems Valued (rest_declarator c p s)
  unfolding rest_declarator
  rest_valued p s = all_cond Valued (has_rest_of p) (only (declares (rest p) (rest_value c p s))) Items.none (declares_valued (rest p) (rest_value c p s), tt) tt

  own_valued : (p s : Node) → AllItems Valued (own c p s)
  unfolding own
  own_valued p s =
      all_append Valued (keys_before c p) (pattern_declarator c p s +++ rest_declarator c p s) (before_valued p)
      (all_append Valued (pattern_declarator c p s) (rest_declarator c p s) (pattern_valued p s) (rest_valued p s))

  nested_valued : (d : ℕ) (p : Node) → AllItems Valued (nested c d p)
  unfolding nested
  nested_valued zero p = tt
  nested_valued (suc d) p =
      by_shape (shape p)
      (λ e. rw (e, nested)
      (all_append Valued (cond (has_rest_of p) (own c (with_values (λ v. replaced c d v) p) (reference c p)) Items.none) (gather (λ q. nested c d (value q)) (properties p))
      (all_cond Valued (has_rest_of p) (own c (with_values (λ v. replaced c d v) p) (reference c p)) Items.none (own_valued (with_values (λ v. replaced c d v) p) (reference c p)) tt)
      (all_gather (λ q. Unit {0}) Valued (λ q. nested c d (value q)) (λ q u. nested_valued d (value q)) (properties p) (all_unit (properties p)))))
      (λ e. rw (e, nested) (all_gather (λ q. Unit {0}) Valued (λ q. nested c d q) (λ q u. nested_valued d q) (items_of p) (all_unit (items_of p))))
      (λ e. rw (e, nested) (nested_valued d (left_of p)))
      (λ e. rw (e, nested) tt)

  objects_valued : (p s : Node) → AllItems Valued (object_declarators c p s)
  unfolding object_declarators
  objects_valued p s =
      let q : Node = with_values (λ v. replaced_below c v) p in
      all_append Valued (keys_before c q) (pattern_declarator c q s +++ gather (λ r. nested_below c (value r)) (properties p) +++ rest_declarator c q s) (before_valued q)
      (all_append Valued (pattern_declarator c q s) (gather (λ r. nested_below c (value r)) (properties p) +++ rest_declarator c q s) (pattern_valued q s)
      (all_append Valued (gather (λ r. nested_below c (value r)) (properties p)) (rest_declarator c q s)
      (all_gather (λ q. Unit {0}) Valued (λ r. nested_below c (value r)) (λ q u. nested_valued (depth (value q)) (value q)) (properties p) (all_unit (properties p)))
      (rest_valued q s)))

  patterns_valued : (p s : Node) → AllItems Valued (pattern_declarators c p s)
  unfolding pattern_declarators
  patterns_valued p s =
      by_shape (shape p)
      (λ e. rw (e, pattern_declarators) (objects_valued p s))
      (λ e. rw (e, pattern_declarators) (all_append Valued (only (declares (replaced_below c p) s)) (nested_below c p) (declares_valued (replaced_below c p) s, tt) (nested_valued (depth p) p)))
      (λ e. rw (e, pattern_declarators) tt)
      (λ e. rw (e, pattern_declarators) tt)

  lowered_valued : (p init : Node) → AllItems Valued (lower_declarator c p init)
  unfolding lower_declarator source_declarator
  lowered_valued p init =
      all_append Valued (source_declarator c p init) (pattern_declarators c p (source c p init))
      (all_cond Valued (is_name_of init) Items.none (only (declares (value_of c p) init)) tt (declares_valued (value_of c p) init, tt))
      (patterns_valued p (source c p init))

  -- ---- none lacks one

  abbrev Fine : Node → Type 0
  Fine d = lacks_value d ≡ false

  pub valued_fine : (d : Node) → Valued d → Fine d
  unfolding lacks_value
  valued_fine d v = rw v refl

  declarators_fine : (d : Node) → Fine d → AllItems Fine (declarators c d)
  unfolding declarators
  declarators_fine d h =
      all_cond Fine (is_lowered d) (lower_declarator c (node_at_of 0 d) (node_at_of 1 d)) (only d)
      (weaker_items Valued Fine valued_fine (lower_declarator c (node_at_of 0 d) (node_at_of 1 d)) (lowered_valued (node_at_of 0 d) (node_at_of 1 d))) (h, tt)

  still_stands : (d : Node) → stands 1 d ≡ true → stands 1 (change 0 (on_node (λ p. moved_out_of c (depth p) p)) d) ≡ true
  unfolding stands change
  still_stands (node at k fs) s = stands_changed fs 0 (on_node (λ p. moved_out_of c (depth p) p)) 1 ∙ s

  behind_fine : (d : Node) → Fine d → Fine (left_behind c d)
  unfolding lacks_value left_behind is_moved
  behind_fine d h =
      by_test (stands 1 d)
      (λ s. by_test (is_moved d) (λ m. rw m (valued_fine (change 0 (on_node (λ p. moved_out_of c (depth p) p)) d) (still_stands d s))) (λ m. rw m h))
      (λ s. let m : has_object_rest (node_at_of 0 d) ≡ false = rw s at h in rw m h)

  -- a Declaration with its declarators changed
  module _ (g : Items → Items) (k : (is : Items) → AllItems Fine is → AllItems Fine (g is)) where
    items_shown : (at : ℕ) (fs : Fields) (s : Cause) → shows s (node at 4 fs) ≡ false → shows s (node at 4 (change_in fs 2 (on_items g))) ≡ false
    unfolding shows keeps_rest is items_at_of
    items_shown at fs Cause.rest_parameter h = refl
    items_shown at fs Cause.without_body h = refl
    items_shown at fs Cause.array_rest h = refl
    items_shown at fs Cause.in_key h = refl
    items_shown at fs Cause.in_template h = refl
    items_shown at fs Cause.without_value h =
        none_any lacks_value (as_items_of (piece_in (change_in fs 2 (on_items g)) 2)) (changed_items Fine fs 2 g (k (as_items_of (piece_in fs 2)) (none_passes lacks_value (as_items_of (piece_in fs 2)) h)))

  pub declaration_shown : (at : ℕ) (fs : Fields) (s : Cause) → shows s (node at 4 fs) ≡ false → shows s (node at 4 (change_in fs 2 (on_items (gather (declarators c))))) ≡ false
  declaration_shown = items_shown (gather (declarators c)) (λ is h. all_gather Fine Fine (declarators c) declarators_fine is h)

  pub behind_shown : (at : ℕ) (fs : Fields) (s : Cause) → shows s (node at 4 fs) ≡ false → shows s (node at 4 (change_in fs 2 (on_items (each (left_behind c))))) ≡ false
  behind_shown = items_shown (each (left_behind c)) (λ is h. all_each Fine Fine (left_behind c) behind_fine is h)
