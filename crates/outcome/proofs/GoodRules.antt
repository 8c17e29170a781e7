-- Each rewriting keeps what holds of every node (Good).
-- Assumes nothing.
use mathlib.Core.Path.{◌≡◌, refl, ap, ◌∙◌}
use mathlib.Core.Bool.{Bool, true, false, cond, ◌||◌, ◌&&◌}
use mathlib.Core.List.{List, [], ◌∷◌}
use Prim.Native.Nat.{ℕ, zero, suc}
use lib.Dec.{eqb}
use borrow.Author.Tests.{eqb-true}
use Rattle.tree.specs.Tree.{Node, Piece, Items, depth}
use Rattle.tree.specs.Tree.Node.{node}
use Rattle.tree.specs.Tree.Items.{none, hole, item}
use Rattle.lowering.specs.Parts.{position, piece_in, kind, is, node_at_of, items_at_of, stands, change, on_node, on_items, change_node, change_items, only, each, gather, any, ◌+++◌}
use Rattle.lowering.specs.Made.{Context, reference, value_of, key_of, helper, call, S, X, E, W, K, object, array, sequence, member, assign, string, declares, declared, let_of, var_of, assigning, returning, block, function_body}
use Rattle.lowering.specs.Patterns.{shape, properties, rest, has_rest_of, left_of, key, value, with_values, has_object_rest, has_array_rest_over_object_rest, replaced, replaced_below}
use Rattle.lowering.specs.Keys.{key_sort, excluded_key, excluded_keys, key_temporary, key_temporaries, all_primitive, taken, entry_of, key_text}
use Rattle.lowering.specs.Rests.{has_no_properties, mapped, is_hoisted, keys_read, rest_value}
use Rattle.lowering.specs.Literals.{Call, opened, closed, scan, literal}
use Rattle.lowering.specs.Declarations.{is_name_of, source, source_declarator, keys_before, pattern_declarator, rest_declarator, own, nested, nested_below, object_declarators, pattern_declarators, lower_declarator, is_lowered, declarators, declaration, declaration_refusal}
use Rattle.lowering.specs.Assignments.{is_top, target, assigned, parts_of, outermost, from_reference, top_refusal, target_left, top_sequence, nested_sequence}
use Rattle.lowering.specs.Heads.{is_moved, moved_from, moved_pattern, moved_out_of, left_behind, in_front, in_body, as_function_body, as_block, function, arrow, catch, declaring_head, assigning_head}
use Rattle.lowering.specs.Walk.{Rule, rule_of, rewrite, step_declaration, step_top, step_assignment, step_for}
use Rattle.lowering.specs.Walk.Rule.{literals, declarations, assignments, functions, arrows, catches, fors, nowhere}
use Rattle.lowering.proofs.All.{AllItems, all_each}
use Rattle.lowering.proofs.Cases.{by_test, by_shape, by_key, by_rule_lem, object_is, array_is, is_changed, function_body_is, block_is, by_entry, by_number}
use Rattle.outcome.proofs.GoodNodes.{NotDefault, temporary_20, temporary_simple, leaf_simple, object_simple, array_simple, rest_leaf, taken_simple, replaced_simple, reference_simple, moved_pattern_simple, Is35, changed_35, Good, GoodItems, GoodObject, free, nothing_good, from_all, node_good, items_good, append_good, gather_good, view_node, change_items_lem, each_items, change_free, temporary_good, reference_good, taken_good, replaced_view, values_good, moved_out_view, moved_good, moved_pattern_good, nearest_good, parts_good, left_good}
use Rattle.lowering.proofs.Clauses.{top_34}
use Rattle.tree.proofs.Sound.{never}
use Rattle.direct.proofs.AlikeRules.{function_body_kind, block_kind}

-- ---- nodes that the rules make

helper_good : (h : ℕ) → Good (helper h)
unfolding piece_in is
helper_good h = (
  record {
    temporary = λ e. never e;
    helper = λ e. record { which = h; whole = refl };
    reference = λ e. never e;
    object = λ e. never e;
    property = λ e. never e;
    first = refl;
  },
  (tt, tt),
)

call_good : (f : Node) (xs : Items) → NotDefault f → Good f → GoodItems xs → Good (call f xs)
unfolding piece_in
call_good f xs s h k = (free 29 _ refl refl refl refl refl s, (h, (k, tt)))

helper_simple : (h : ℕ) → NotDefault (helper h)
unfolding is
helper_simple h = refl

object_good : (ps : Items) → GoodItems ps → Good (object ps)
unfolding piece_in is
object_good ps h = (free 24 _ refl refl refl refl refl refl, (h, tt))

array_good : (xs : Items) → GoodItems xs → Good (array xs)
unfolding piece_in is
array_good xs h = (free 32 _ refl refl refl refl refl refl, (h, tt))

sequence_good : (xs : Items) → GoodItems xs → Good (sequence xs)
unfolding piece_in is
sequence_good xs h = (free 28 _ refl refl refl refl refl refl, (h, tt))

member_good : (a : Node) (bs : List ℕ) → NotDefault a → Good a → Good (member a bs)
unfolding piece_in
member_good a bs s h = (free 30 _ refl refl refl refl refl s, (h, (tt, tt)))

member_simple : (a : Node) (bs : List ℕ) → NotDefault (member a bs)
unfolding is
member_simple a bs = refl

array_not : (xs : Items) → NotDefault (array xs)
unfolding is
array_not xs = refl

assign_good : (l r : Node) → Good l → Good r → Good (assign l r)
unfolding piece_in is
assign_good l r h k = (free 27 _ refl refl refl refl refl refl, (tt, (h, (k, tt))))

string_good : (bs : List ℕ) → Good (string bs)
unfolding piece_in is
string_good bs = (free 22 _ refl refl refl refl refl refl, (tt, (tt, (tt, tt))))

declares_good : (i v : Node) → NotDefault i → Good i → Good v → Good (declares i v)
unfolding piece_in
declares_good i v s h k = (free 5 _ refl refl refl refl refl s, (h, (k, tt)))

declared_good : (i : Node) → NotDefault i → Good i → Good (declared i)
unfolding piece_in
declared_good i s h = (free 5 _ refl refl refl refl refl s, (h, tt))

let_good : (i v : Node) → NotDefault i → Good i → Good v → Good (let_of i v)
unfolding piece_in is
let_good i v s h k = (free 4 _ refl refl refl refl refl refl, (tt, (tt, ((declares_good i v s h k, tt), tt))))

var_good : (i : Node) → NotDefault i → Good i → Good (var_of i)
unfolding piece_in is
var_good i s h = (free 4 _ refl refl refl refl refl refl, (tt, (tt, ((declared_good i s h, tt), tt))))

assigning_good : (l r : Node) → Good l → Good r → Good (assigning l r)
unfolding piece_in is
assigning_good l r h k = (free 3 _ refl refl refl refl refl refl, (tt, (assign_good l r h k, tt)))

returning_good : (e : Node) → Good e → Good (returning e)
unfolding piece_in is
returning_good e h = (free 11 _ refl refl refl refl refl refl, (tt, (h, tt)))

block_good : (is : Items) → GoodItems is → Good (block is)
unfolding piece_in is
block_good is h = (free 2 _ refl refl refl refl refl refl, (tt, (h, tt)))

body_good : (is : Items) → GoodItems is → Good (function_body is)
unfolding piece_in is
body_good is h = (free 16 _ refl refl refl refl refl refl, (h, tt))

X-good : (s : Node) → Good s → Good (X (object none) (sequence (item (E s) (only s))))
X-good s h = call_good (helper 2) (item (object none) (only (sequence (item (E s) (only s))))) (helper_simple 2) (helper_good 2) (object_good none tt, (sequence_good (item (E s) (only s)) (call_good (helper 3) (only s) (helper_simple 3) (helper_good 3) (h, tt), (h, tt)), tt))

W-good : (a b : Node) → Good a → Good b → Good (W a b)
W-good a b h k = call_good (helper 4) (item a (only b)) (helper_simple 4) (helper_good 4) (h, (k, tt))

-- ---- literals

abbrev GoodCall : Call → Type 0
GoodCall Call.no_call = Unit {0}
GoodCall (Call.call c) = Good c

opened_good : (c : Call) (ps : Items) → GoodCall c → GoodItems ps → GoodItems (opened c ps)
unfolding opened
opened_good Call.no_call ps h k = (object_good ps k, tt)
opened_good (Call.call c) none h k = (h, tt)
opened_good (Call.call c) (hole ps) h k = (h, tt)
opened_good (Call.call c) (item p ps) h k = (h, (object_good none tt, (object_good (item p ps) k, tt)))

closed_good : (c : Call) (ps : Items) → GoodCall c → GoodItems ps → Good (closed c ps)
unfolding closed
closed_good Call.no_call ps h k = object_good ps k
closed_good (Call.call c) none h k = h
closed_good (Call.call c) (hole ps) h k = h
closed_good (Call.call c) (item p ps) h k = call_good (helper 1) (opened (Call.call c) (item p ps)) (helper_simple 1) (helper_good 1) (opened_good (Call.call c) (item p ps) h k)

scan_good : (c : Call) (pending ps : Items) → GoodCall c → GoodItems pending → GoodItems ps → Good (scan c pending ps)
unfolding scan
scan_good c pending none h k l = closed_good c pending h k
scan_good c pending (hole ps) h k l = scan_good c pending ps h k l
scan_good c pending (item p ps) h k l =
    let xs = opened c pending +++ only (node_at_of 0 p) in
    by_test (is 26 p)
    (λ e. rw (e, scan, Good)
    (scan_good (Call.call (S xs)) none ps
    (call_good (helper 1) xs (helper_simple 1) (helper_good 1) (append_good (opened c pending) (only (node_at_of 0 p)) (opened_good c pending h k) (node_good 0 p l.0, tt))) tt l.1))
    (λ e. rw (e, scan, Good) (scan_good c (pending +++ only p) ps h (append_good pending (only p) k (l.0, tt)) l.1))

literal_good : (n : Node) → Good n → Good (literal n)
unfolding literal
literal_good n h = by_test (any (λ p. is 26 p) (items_at_of 0 n)) (λ e. rw (e, Good) (scan_good Call.no_call none (items_at_of 0 n) tt tt (items_good 0 n h))) (λ e. rw (e, Good) h)

-- ---- kinds

abbrev Free : Node → Type 0
Free n = (eqb (kind n) 34 ≡ false) × (eqb (kind n) 35 ≡ false)

free_changed : (i : ℕ) (f : Piece → Piece) (n : Node) → Free n → Free (change i f n)
unfolding change
free_changed i f (node at k fs) h = h

-- what a rule says of the tests of the kind
abbrev Kinds : Rule → Bool → Bool → Type 0
Kinds literals o p = Unit {0}
Kinds declarations o p = (o ≡ false) × (p ≡ false)
Kinds assignments o p = (o ≡ false) × (p ≡ false)
Kinds functions o p = (o ≡ false) × (p ≡ false)
Kinds arrows o p = (o ≡ false) × (p ≡ false)
Kinds catches o p = (o ≡ false) × (p ≡ false)
Kinds fors o p = (o ≡ false) × (p ≡ false)
Kinds nowhere o p = Unit {0}

not_patterns : (k j : ℕ) → eqb k j ≡ true → eqb j 34 ≡ false → eqb j 35 ≡ false → (eqb k 34 ≡ false) × (eqb k 35 ≡ false)
not_patterns k j e a b = let z : k ≡ j = eqb-true k j e in (ap (λ (x : ℕ). eqb x 34) z ∙ a, ap (λ (x : ℕ). eqb x 35) z ∙ b)

kinds : (k : ℕ) → Kinds (rule_of k) (eqb k 34) (eqb k 35)
unfolding rule_of
kinds k =
    go (eqb k 24) (eqb k 4) refl (eqb k 27) refl (eqb k 14) refl (eqb k 17) refl (eqb k 10) refl (eqb k 7) refl (eqb k 8) refl
  where
    go : (l d : Bool) → eqb k 4 ≡ d → (a : Bool) → eqb k 27 ≡ a → (f : Bool) → eqb k 14 ≡ f → (r : Bool) → eqb k 17 ≡ r → (c : Bool) → eqb k 10 ≡ c → (i : Bool) → eqb k 7 ≡ i → (o : Bool) → eqb k 8 ≡ o
        → Kinds (cond l literals (cond d declarations (cond a assignments (cond f functions (cond r arrows (cond c catches (cond (i || o) fors nowhere))))))) (eqb k 34) (eqb k 35)
    go true d e0 a e1 f e2 r e3 c e4 i e5 o e6 = tt
    go false true e0 a e1 f e2 r e3 c e4 i e5 o e6 = not_patterns k 4 e0 refl refl
    go false false e0 true e1 f e2 r e3 c e4 i e5 o e6 = not_patterns k 27 e1 refl refl
    go false false e0 false e1 true e2 r e3 c e4 i e5 o e6 = not_patterns k 14 e2 refl refl
    go false false e0 false e1 false e2 true e3 c e4 i e5 o e6 = not_patterns k 17 e3 refl refl
    go false false e0 false e1 false e2 false e3 true e4 i e5 o e6 = not_patterns k 10 e4 refl refl
    go false false e0 false e1 false e2 false e3 false e4 true e5 o e6 = not_patterns k 7 e5 refl refl
    go false false e0 false e1 false e2 false e3 false e4 false e5 true e6 = not_patterns k 8 e6 refl refl
    go false false e0 false e1 false e2 false e3 false e4 false e5 false e6 = tt

kinds_at_lem : (k : ℕ) (r : Rule) → rule_of k ≡ r → Kinds r (eqb k 34) (eqb k 35)
kinds_at_lem k r e = rw e at (kinds k)

kind_not : (n : Node) (j : ℕ) → is j n ≡ true → eqb j 37 ≡ false → NotDefault n
unfolding is
kind_not n j e a = let z : kind n ≡ j = eqb-true (kind n) j e in ap (λ (x : ℕ). eqb x 37) z ∙ a

var_simple : (i : Node) → NotDefault (var_of i)
unfolding is
var_simple i = refl

module _ (c : Context) where
  -- ---- keys and rests

  excluded_key_good : (q : Node) → Good q → GoodItems (excluded_key c q)
  unfolding excluded_key
  excluded_key_good q h =
      let k = node_good 0 q h in
      by_entry (entry_of (key_sort (key q)))
      (λ e. rw (e, excluded_key, GoodItems) (string_good (key_text (key q)), tt))
      (λ e. rw (e, excluded_key, GoodItems) (k, tt))
      (λ e. rw (e, excluded_key, GoodItems) tt)
      (λ e. rw (e, excluded_key, GoodItems) (temporary_good c.path 4 (position q), tt))

  excluded_keys_good : (p : Node) → Good p → GoodItems (excluded_keys c p)
  unfolding excluded_keys
  excluded_keys_good p h = gather_good (excluded_key c) excluded_key_good (properties p) (items_good 0 p h)

  key_temporary_good : (q : Node) → Good q → GoodItems (key_temporary c q)
  unfolding key_temporary
  key_temporary_good q h =
      by_key (key_sort (key q))
      (λ e. rw (e, key_temporary, GoodItems) tt)
      (λ e. rw (e, key_temporary, GoodItems) tt)
      (λ e. rw (e, key_temporary, GoodItems) tt)
      (λ e. rw (e, key_temporary, GoodItems) tt)
      (λ e. rw (e, key_temporary, GoodItems) tt)
      (λ e. rw (e, key_temporary, GoodItems) (declares_good (key_of c q) (key q) (temporary_simple (key_of c q) (temporary_20 c.path 4 (position q))) (temporary_good c.path 4 (position q)) (node_good 0 q h), tt))

  key_temporaries_good : (p : Node) → Good p → GoodItems (key_temporaries c p)
  unfolding key_temporaries
  key_temporaries_good p h = gather_good (key_temporary c) key_temporary_good (properties p) (items_good 0 p h)

  mapped_good : (n : Node) → NotDefault n → Good n → Good (mapped n)
  unfolding mapped
  mapped_good n s h = call_good (member n (109 ∷ 97 ∷ 112 ∷ [])) (only K) (member_simple n (109 ∷ 97 ∷ 112 ∷ [])) (member_good n (109 ∷ 97 ∷ 112 ∷ []) s h) (helper_good 5, tt)

  keys_read_good : (p : Node) → Good p → Good (keys_read c p)
  unfolding keys_read
  keys_read_good p h =
      let a = array_good (excluded_keys c p) (excluded_keys_good p h) in
      by_test (is_hoisted c p)
      (λ e. rw (e, Good) (temporary_good c.path 2 (position p)))
      (λ e. rw (e, Good) (by_test (all_primitive p) (λ f. rw (f, Good) a) (λ f. rw (f, Good) (mapped_good (array (excluded_keys c p)) (array_not (excluded_keys c p)) a))))

  rest_value_good : (p s : Node) → Good p → Good s → Good (rest_value c p s)
  unfolding rest_value
  rest_value_good p s h k =
      by_test (has_no_properties p) (λ e. rw (e, Good) (X-good s k)) (λ e. rw (e, Good) (W-good s (keys_read c p) k (keys_read_good p h)))

  -- ---- declarators

  source_good : (p init : Node) → Good init → Good (source c p init)
  unfolding source
  source_good p init h = by_test (is_name_of init) (λ e. rw (e, Good) h) (λ e. rw (e, Good) (temporary_good c.path 3 (position p)))

  keys_before_good : (p : Node) → Good p → GoodItems (keys_before c p)
  unfolding keys_before
  keys_before_good p h = by_test (has_rest_of p) (λ e. rw (e, GoodItems) (key_temporaries_good p h)) (λ e. rw (e, GoodItems) tt)

  pattern_declarator_good : (p s : Node) → is 34 p ≡ true → Good p → Good s → GoodItems (pattern_declarator c p s)
  unfolding pattern_declarator
  pattern_declarator_good p s e h k =
      by_test (has_no_properties p) (λ z. rw (z, GoodItems) tt) (λ z. rw (z, GoodItems) (declares_good (taken c p) s (taken_simple c p (object_simple p e)) (taken_good c p e h) k, tt))

  rest_declarator_good : (p s : Node) → is 34 p ≡ true → Good p → Good s → GoodItems (rest_declarator c p s)
  unfolding rest_declarator
  rest_declarator_good p s e h k =
      by_test (has_rest_of p) (λ z. rw (z, GoodItems) (declares_good (rest p) (rest_value c p s) (leaf_simple (rest p) (rest_leaf p e h)) (node_good 1 p h) (rest_value_good p s h k), tt)) (λ z. rw (z, GoodItems) tt)

  own_good : (p s : Node) → is 34 p ≡ true → Good p → Good s → GoodItems (own c p s)
  unfolding own
  own_good p s e h k =
      append_good (keys_before c p) (pattern_declarator c p s +++ rest_declarator c p s) (keys_before_good p h)
      (append_good (pattern_declarator c p s) (rest_declarator c p s) (pattern_declarator_good p s e h k) (rest_declarator_good p s e h k))

  values_34 : (f : Node → Node) (p : Node) → is 34 p ≡ true → is 34 (with_values f p) ≡ true
  values_34 f p e = is_changed 0 (on_items (each (λ q. change_node 1 f q))) p 34 ∙ e

  nested_good : (d : ℕ) (p : Node) → Good p → GoodItems (nested c d p)
  unfolding nested
  nested_good zero p h = tt
  nested_good (suc d) p h =
      by_shape (shape p)
      (λ e. rw (e, nested, GoodItems)
      (append_good (cond (has_rest_of p) (own c (with_values (λ v. replaced c d v) p) (reference c p)) none) (gather (λ q. nested c d (value q)) (properties p))
      (by_test (has_rest_of p)
      (λ r. rw (r, GoodItems) (own_good (with_values (λ v. replaced c d v) p) (reference c p) (values_34 (λ v. replaced c d v) p (object_is p e)) (values_good c d p h) (reference_good c p)))
      (λ r. rw (r, GoodItems) tt))
      (gather_good (λ q. nested c d (value q)) (λ q g. nested_good d (value q) (node_good 1 q g)) (properties p) (items_good 0 p h))))
      (λ e. rw (e, nested, GoodItems) (gather_good (λ q. nested c d q) (λ q g. nested_good d q g) (properties p) (items_good 0 p h)))
      (λ e. rw (e, nested, GoodItems) (nested_good d (left_of p) (node_good 0 p h)))
      (λ e. rw (e, nested, GoodItems) tt)

  pub below_good : (p : Node) → Good p → Good (with_values (λ v. replaced_below c v) p)
  below_good p h =
      each_items (λ q. change_node 1 (λ v. replaced_below c v) q)
      (view_node (λ v. replaced_below c v) (record { keeps = λ n g. (replaced_view c (depth n)).keeps n g; fixes = λ n l. (replaced_view c (depth n)).fixes n l; simple = λ n l. (replaced_view c (depth n)).simple n l }) 1)
      (changed_35 1 (on_node (λ v. replaced_below c v))) 0 p h

  object_declarators_good : (p s : Node) → is 34 p ≡ true → Good p → Good s → GoodItems (object_declarators c p s)
  unfolding object_declarators
  object_declarators_good p s e h k =
      let q = with_values (λ v. replaced_below c v) p in
      let g = below_good p h in
      let ns = gather (λ r. nested_below c (value r)) (properties p) in
      append_good (keys_before c q) (pattern_declarator c q s +++ ns +++ rest_declarator c q s) (keys_before_good q g)
      (append_good (pattern_declarator c q s) (ns +++ rest_declarator c q s) (pattern_declarator_good q s (values_34 (λ v. replaced_below c v) p e) g k)
      (append_good ns (rest_declarator c q s)
      (gather_good (λ r. nested_below c (value r)) (λ r z. nested_good (depth (value r)) (value r) (node_good 1 r z)) (properties p) (items_good 0 p h))
      (rest_declarator_good q s (values_34 (λ v. replaced_below c v) p e) g k)))

  pattern_declarators_good : (p s : Node) → Good p → Good s → GoodItems (pattern_declarators c p s)
  unfolding pattern_declarators
  pattern_declarators_good p s h k =
      by_shape (shape p)
      (λ e. rw (e, pattern_declarators, GoodItems) (object_declarators_good p s (object_is p e) h k))
      (λ e. rw (e, pattern_declarators, GoodItems)
      (append_good (only (declares (replaced_below c p) s)) (nested_below c p) (declares_good (replaced_below c p) s (replaced_simple c (depth p) p (array_simple p (array_is p e))) ((replaced_view c (depth p)).keeps p h) k, tt) (nested_good (depth p) p h)))
      (λ e. rw (e, pattern_declarators, GoodItems) tt)
      (λ e. rw (e, pattern_declarators, GoodItems) tt)

  lower_declarator_good : (p init : Node) → Good p → Good init → GoodItems (lower_declarator c p init)
  unfolding lower_declarator source_declarator
  lower_declarator_good p init h k =
      append_good (cond (is_name_of init) none (only (declares (value_of c p) init))) (pattern_declarators c p (source c p init))
      (by_test (is_name_of init) (λ e. rw (e, GoodItems) tt) (λ e. rw (e, GoodItems) (declares_good (value_of c p) init (temporary_simple (value_of c p) (temporary_20 c.path 3 (position p))) (temporary_good c.path 3 (position p)) k, tt)))
      (pattern_declarators_good p (source c p init) h (source_good p init k))

  declarators_good : (d : Node) → Good d → GoodItems (declarators c d)
  unfolding declarators
  declarators_good d h =
      by_test (is_lowered d) (λ e. rw (e, GoodItems) (lower_declarator_good (node_at_of 0 d) (node_at_of 1 d) (node_good 0 d h) (node_good 1 d h))) (λ e. rw (e, GoodItems) (h, tt))

  declaration_good : (n : Node) → Free n → Good n → Good (declaration c n)
  unfolding declaration
  declaration_good n f h = change_items_lem (gather (declarators c)) (gather_good (declarators c) declarators_good) 2 n f.0 h

  -- ---- assignments

  from_good : (ps : Items) → AllItems (GoodObject c) ps → GoodItems (each (from_reference c) ps)
  from_good ps h =
      from_all (each (from_reference c) ps) (all_each (GoodObject c) Good (from_reference c) (λ q o. assign_good q (reference c q) o.1 (reference_good c q)) ps h)

  top_good : (n : Node) → is_top (target n) ≡ true → Good n → Good (top_sequence c n)
  unfolding top_sequence
  top_good n e h =
      let p = target n in
      let t = value_of c p in
      let g = temporary_good c.path 3 (position p) in
      let k = node_good 1 n h in
      let ps = each (from_reference c) (parts_of p) in
      let last = item (assign (rest p) (rest_value c p t)) (cond c.statement none (only t)) in
      sequence_good (item (assign t (assigned n)) (item (assign (target_left c n) t) (ps +++ last))) (
        assign_good t (assigned n) g (node_good 2 n h),
        (
          assign_good (target_left c n) t (left_good c p (top_34 p e) k) g,
          append_good ps last (from_good (parts_of p) (parts_good c p k)) (
            assign_good (rest p) (rest_value c p t) (node_good 1 p k) (rest_value_good p t k g),
            by_test c.statement (λ e. rw (e, GoodItems) tt) (λ e. rw (e, GoodItems) (g, tt)),
          ),
        ),
      )

  nested_sequence_good_lem2 : (n : Node) → Free n → Good n → Good (nested_sequence c n)
  unfolding nested_sequence
  nested_sequence_good_lem2 n f h =
      sequence_good (item (change_node 1 (λ m. replaced_below c m) n) (each (from_reference c) (outermost (target n)))) (
        change_free (λ m. replaced_below c m) (λ m g. (replaced_view c (depth m)).keeps m g) (λ m g. (replaced_view c (depth m)).simple m g) 1 n f.0 f.1 h,
        from_good (outermost (target n)) (nearest_good c true (depth (target n)) (target n) (node_good 1 n h)),
      )

  -- ---- heads

  left_behind_good : (q : Node) → Good q → Good (left_behind c q)
  unfolding left_behind
  left_behind_good q h =
      by_test (is_moved q)
      (λ e. rw (e, Good) (view_node (λ p. moved_out_of c (depth p) p) (record { keeps = λ n g. (moved_out_view c (depth n)).keeps n g; fixes = λ n l. (moved_out_view c (depth n)).fixes n l; simple = λ n l. (moved_out_view c (depth n)).simple n l }) 0 q h))
      (λ e. rw (e, Good) h)

  left_behind_35 : (q : Node) → Is35 q → Is35 (left_behind c q)
  unfolding left_behind
  left_behind_35 q h = by_test (is_moved q) (λ e. rw e (changed_35 0 (on_node (λ p. moved_out_of c (depth p) p)) q h)) (λ e. rw e h)

  left_behind_simple : (q : Node) → NotDefault q → NotDefault (left_behind c q)
  unfolding left_behind
  left_behind_simple q h = by_test (is_moved q) (λ e. rw e (is_changed 0 (on_node (λ p. moved_out_of c (depth p) p)) q 37 ∙ h)) (λ e. rw e h)

  moved_from_good : (q : Node) → Good q → GoodItems (moved_from q)
  unfolding moved_from
  moved_from_good q h = by_test (is_moved q) (λ e. rw (e, GoodItems) (moved_good (depth (node_at_of 0 q)) (node_at_of 0 q) (node_good 0 q h))) (λ e. rw (e, GoodItems) tt)

  in_front_good : (ps body : Items) → GoodItems ps → GoodItems body → GoodItems (in_front c ps body)
  unfolding in_front
  in_front_good none body h k = k
  in_front_good (hole ps) body h k = in_front_good ps body h k
  in_front_good (item p ps) body h k =
      in_front_good ps (item (let_of (moved_pattern p) (reference c p)) body) h.1 (let_good (moved_pattern p) (reference c p) (moved_pattern_simple p h.0) (moved_pattern_good p h.0) (reference_good c p), k)

  in_body_good : (ps : Items) (b : Node) → eqb (kind b) 34 ≡ false → GoodItems ps → Good b → Good (in_body c ps b)
  unfolding in_body
  in_body_good ps b a h k = change_items_lem (in_front c ps) (λ is g. in_front_good ps is h g) 1 b a k

  body_simple : (ps : Items) (b : Node) → NotDefault (in_body c ps (as_function_body b))
  unfolding in_body
  body_simple ps b = is_changed 1 (on_items (in_front c ps)) (as_function_body b) 37 ∙ kind_not (as_function_body b) 16 (function_body_is b) refl

  block_simple : (f : Items → Items) (b : Node) → NotDefault (change_items 1 f (as_block b))
  block_simple f b = is_changed 1 (on_items f) (as_block b) 37 ∙ kind_not (as_block b) 2 (block_is b) refl

  block_body : (ps : Items) (b : Node) → NotDefault (in_body c ps (as_block b))
  unfolding in_body
  block_body ps b = block_simple (in_front c ps) b

  as_function_body_good : (b : Node) → Good b → Good (as_function_body b)
  unfolding as_function_body
  as_function_body_good b h = by_test (is 16 b) (λ e. rw (e, Good) h) (λ e. rw (e, Good) (body_good (only (returning b)) (returning_good b h, tt)))

  as_block_good : (b : Node) → Good b → Good (as_block b)
  unfolding as_block
  as_block_good b h =
      by_test (is 2 b)
      (λ e. rw (e, Good) h)
      (λ e. rw (e, Good) (block_good (cond (is 13 b) none (only b)) (by_test (is 13 b) (λ z. rw (z, GoodItems) tt) (λ z. rw (z, GoodItems) (h, tt)))))

  function_good : (n : Node) → Free n → Good n → Good (function c n)
  unfolding function
  function_good n f h =
      let ps = gather moved_from (items_at_of 3 n) in
      let g = gather_good moved_from moved_from_good (items_at_of 3 n) (items_good 3 n h) in
      let m = change_items 3 (each (left_behind c)) n in
      let f' = free_changed 3 (on_items (each (left_behind c))) n f in
      by_test (stands 5 n && any is_moved (items_at_of 3 n))
      (λ e. rw (e, Good)
      (change_free (λ b. in_body c ps (as_function_body b)) (λ b k. in_body_good ps (as_function_body b) (function_body_kind b) g (as_function_body_good b k)) (λ b z. body_simple ps b) 5 m f'.0 f'.1 (each_items (left_behind c) left_behind_good left_behind_35 3 n h)))
      (λ e. rw (e, Good) h)

  arrow_good : (n : Node) → Free n → Good n → Good (arrow c n)
  unfolding arrow
  arrow_good n f h =
      let ps = gather moved_from (items_at_of 0 n) in
      let g = gather_good moved_from moved_from_good (items_at_of 0 n) (items_good 0 n h) in
      let m = change_items 0 (each (left_behind c)) n in
      let f' = free_changed 0 (on_items (each (left_behind c))) n f in
      by_test (any is_moved (items_at_of 0 n))
      (λ e. rw (e, Good)
      (change_free (λ b. in_body c ps (as_function_body b)) (λ b k. in_body_good ps (as_function_body b) (function_body_kind b) g (as_function_body_good b k)) (λ b z. body_simple ps b) 2 m f'.0 f'.1 (each_items (left_behind c) left_behind_good left_behind_35 0 n h)))
      (λ e. rw (e, Good) h)

  catch_good : (n : Node) → Free n → Good n → Good (catch c n)
  unfolding catch
  catch_good n f h =
      let ps = moved_from (node_at_of 0 n) in
      let g = moved_from_good (node_at_of 0 n) (node_good 0 n h) in
      let m = change_node 0 (left_behind c) n in
      let f' = free_changed 0 (on_node (left_behind c)) n f in
      by_test (is_moved (node_at_of 0 n))
      (λ e. rw (e, Good)
      (change_free (λ b. in_body c ps (as_block b)) (λ b k. in_body_good ps (as_block b) (block_kind b) g (as_block_good b k)) (λ b z. block_body ps b) 1 m f'.0 f'.1 (change_free (left_behind c) left_behind_good left_behind_simple 0 n f.0 f.1 h)))
      (λ e. rw (e, Good) h)

  declaring_head_good : (n : Node) → Free n → Good n → Good (declaring_head c n)
  unfolding declaring_head
  declaring_head_good n f h =
      let ds = items_at_of 2 (node_at_of 1 n) in
      let g = gather_good moved_from moved_from_good ds (items_good 2 (node_at_of 1 n) (node_good 1 n h)) in
      let left : Node → Node = λ l. change_items 2 (each (left_behind c)) l in
      let m = change_node 1 left n in
      let f' = free_changed 1 (on_node left) n f in
      by_test (any is_moved ds)
      (λ e. rw (e, Good)
      (change_free (λ b. in_body c (gather moved_from ds) (as_block b)) (λ b k. in_body_good (gather moved_from ds) (as_block b) (block_kind b) g (as_block_good b k)) (λ b z. block_body (gather moved_from ds) b) 3 m f'.0 f'.1
      (change_free left (λ l k. each_items (left_behind c) left_behind_good left_behind_35 2 l k) (λ l z. is_changed 2 (on_items (each (left_behind c))) l 37 ∙ z) 1 n f.0 f.1 h)))
      (λ e. rw (e, Good) h)

  assigning_head_good : (n : Node) → Free n → Good n → Good (assigning_head c n)
  unfolding assigning_head
  assigning_head_good n f h =
      let p = node_at_of 1 n in
      let s = assigning p (reference c p) in
      let left : Node → Node = λ l. var_of (reference c l) in
      let m = change_node 1 left n in
      let f' = free_changed 1 (on_node left) n f in
      by_test (has_object_rest p)
      (λ e. rw (e, Good)
      (change_free (λ b. change_items 1 (item s) (as_block b))
      (λ b k. change_items_lem (item s) (λ is g. (assigning_good p (reference c p) (node_good 1 n h) (reference_good c p), g)) 1 (as_block b) (block_kind b) (as_block_good b k)) (λ b z. block_simple (item s) b) 3 m f'.0 f'.1
      (change_free left (λ l k. var_good (reference c l) (reference_simple c l) (reference_good c l)) (λ l z. var_simple (reference c l)) 1 n f.0 f.1 h)))
      (λ e. rw (e, Good) h)

  -- ---- the steps

  declarations_good : (n : Node) → Free n → Good n → Good (step_declaration c n).result
  unfolding step_declaration
  declarations_good n f h = by_number (declaration_refusal c n) (λ r e. rw (e, step_declaration, Good) nothing_good) (λ e. rw (e, step_declaration, Good) (declaration_good n f h))

  tops_good : (n : Node) → is_top (target n) ≡ true → Good n → Good (step_top c n).result
  unfolding step_top
  tops_good n t h = by_number (top_refusal n) (λ r e. rw (e, step_top, Good) nothing_good) (λ e. rw (e, step_top, Good) (top_good n t h))

  assignments_good : (n : Node) → Free n → Good n → Good (step_assignment c n).result
  unfolding step_assignment
  assignments_good n f h =
      by_test (has_array_rest_over_object_rest (target n))
      (λ a. rw (a, step_assignment, Good) nothing_good)
      (λ a. rw (a, step_assignment, Good)
      (by_test (is_top (target n))
      (λ t. rw (t, step_assignment, Good) (tops_good n t h))
      (λ t. rw (t, step_assignment, Good) (by_test (has_object_rest (target n)) (λ r. rw (r, step_assignment, Good) (nested_sequence_good_lem2 n f h)) (λ r. rw (r, step_assignment, Good) h)))))

  fors_good : (n : Node) → Free n → Good n → Good (step_for c n).result
  unfolding step_for
  fors_good n f h =
      by_test (is 4 (node_at_of 1 n))
      (λ d. rw (d, step_for, Good) (declaring_head_good n f h))
      (λ d. rw (d, step_for, Good) (by_test (has_array_rest_over_object_rest (node_at_of 1 n)) (λ a. rw (a, step_for, Good) nothing_good) (λ a. rw (a, step_for, Good) (assigning_head_good n f h))))

  pub rewrite_good : (n : Node) → Good n → Good (rewrite c n).result
  unfolding rewrite
  rewrite_good n h =
      by_rule_lem (rule_of (kind n))
      (λ e. rw (e, rewrite, Good) (literal_good n h))
      (λ e. rw (e, rewrite, Good) (declarations_good n (kinds_at_lem (kind n) declarations e) h))
      (λ e. rw (e, rewrite, Good) (assignments_good n (kinds_at_lem (kind n) assignments e) h))
      (λ e. rw (e, rewrite, Good) (function_good n (kinds_at_lem (kind n) functions e) h))
      (λ e. rw (e, rewrite, Good) (arrow_good n (kinds_at_lem (kind n) arrows e) h))
      (λ e. rw (e, rewrite, Good) (catch_good n (kinds_at_lem (kind n) catches e) h))
      (λ e. rw (e, rewrite, Good) (fors_good n (kinds_at_lem (kind n) fors e) h))
      (λ e. rw (e, rewrite, Good) h)
