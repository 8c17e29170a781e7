-- The values of rests and the declarators of declarations that are alike.
-- Assumes nothing.
use mathlib.Core.Path.{◌≡◌, refl, sym, ap, ap₂, ◌∙◌, subst}
use mathlib.Core.Bool.{Bool, true, false, cond, ◌||◌, ◌&&◌, not, true≢false, false≢true}
use mathlib.Core.List.{List, [], ◌∷◌, ◌++◌, append_assoc}
use Prim.Native.Nat.{ℕ, zero, suc}
use lib.Dec.{eqb}
use Rattle.tree.specs.Tree.{Node, Items, depth, encode}
use Rattle.lowering.specs.Parts.{position, kind, is, piece_in, node_at_of, items_at_of, number_at, only, each, gather, any, ◌+++◌, or_else, first}
use Rattle.lowering.specs.Made.{Context, temporary, reference, excluded_of, value_of, array, declares, id_of}
use Rattle.lowering.specs.Patterns.{shape, properties, has_rest_of, key, value, with_values, replaced, objects_with_rest, replaced_below, objects_below}
use Rattle.lowering.specs.Patterns.Shape.{object_pattern}
use Rattle.lowering.specs.Keys.{is_primitive, excluded_key, all_primitive, keys_refusal, excluded_keys}
use Rattle.lowering.specs.Rests.{has_no_properties, mapped, is_hoisted, keys_read, rest_value, excluded_for, rest_makes}
use Rattle.lowering.specs.Declarations.{is_name_of, source, source_declarator, keys_before, pattern_declarator, rest_declarator, own, nested, nested_below, object_declarators, pattern_declarators, lower_declarator, inner_objects, declarator_makes, is_lowered, declarators, lowered_in, declaration, declaration_makes, declaration_excludes, declaration_refusal}
use Rattle.lowering.proofs.All.{AllItems, all_append, all_gather, all_unit}
use Rattle.lowering.proofs.Cases.{by_test, by_shape, not-true}
use Rattle.direct.specs.Events.{Deed, cell_of, stem_of, excludes, excluded_keys as excluded_deeds}
use Rattle.direct.specs.Events.Deed.{does}
use Rattle.sink.specs.Machine.{Event}
use Rattle.direct.proofs.Alike.{Alike, AlikeItems, Linked, helper_alike, temporary_alike, position_alike, is_alike, node_at, stands_at, depth_alike, empty_alike, tight, only_alike, more_alike, append_alike, each_alike, gather_alike, first_alike, cond_alike, cond_items, change_items_alike, declares_alike, call_alike, object_alike, array_of_alike, sequence_alike, member_alike}
use Rattle.direct.proofs.AlikePatterns.{props, parts, shaped, below_alike, primitive_one, keys_refusal_alike, all_alike, reference_alike, temporaries_alike, keys_alike, taken_alike, values_alike, shape_values, replaced_at, replaced_alike, objects_alike}
use Rattle.lowering.proofs.Clauses.{hoisted_primitive}

-- ---- lists of object patterns

abbrev pub Object : Node → Type 0
Object p = shape p ≡ object_pattern

cond_all : (P : Node → Type 0) (b : Bool) (is : Items) → (b ≡ true → AllItems P is) → AllItems P (cond b is Items.none)
cond_all P true is h = h refl
cond_all P false is h = tt

pub objects_objects : (c : Context) (d : ℕ) (p : Node) → AllItems Object (objects_with_rest c d p)
unfolding objects_with_rest
objects_objects c zero p = tt
objects_objects c (suc d) p =
    by_shape (shape p)
    (λ e. rw (e, objects_with_rest, AllItems)
    (all_append Object (gather (λ q. objects_with_rest c d (value q)) (properties p)) (cond (has_rest_of p) (only (with_values (λ v. replaced c d v) p)) Items.none)
    (all_gather (λ q. Unit {0}) Object (λ q. objects_with_rest c d (value q)) (λ q u. objects_objects c d (value q)) (properties p) (all_unit (properties p)))
    (cond_all Object (has_rest_of p) (only (with_values (λ v. replaced c d v) p)) (λ h. (shape_values (λ v. replaced c d v) p ∙ e, tt)))))
    (λ e. rw (e, objects_with_rest, AllItems) (all_gather (λ q. Unit {0}) Object (λ q. objects_with_rest c d q) (λ q u. objects_objects c d q) (items_at_of 0 p) (all_unit (items_at_of 0 p))))
    (λ e. rw (e, objects_with_rest, AllItems) (objects_objects c d (node_at_of 0 p)))
    (λ e. rw (e, objects_with_rest, AllItems) tt)

module _ (P : Node → Type 0) where
  pub gather_with : {ok : Bool} {is js : Items} (f g : Node → Items) → ((n m : Node) → P n → Alike ok n m → AlikeItems ok 0 (f n) (g m)) → AllItems P is → AlikeItems ok 0 is js → AlikeItems ok 0 (gather f is) (gather g js)
  unfolding gather
  gather_with f g h z AlikeItems.none = AlikeItems.none
  gather_with f g h z (AlikeItems.hole is) = gather_with f g h z is
  gather_with f g h z (AlikeItems.item {n = n} {m = m} a s is) = append_alike (h n m z.0 a) (gather_with f g h z.1 is)

  pub first_with : {ok : Bool} {is js : Items} (f g : Node → ℕ) → ((n m : Node) → P n → Alike ok n m → f n ≡ g m) → AllItems P is → AlikeItems ok 0 is js → first f is ≡ first g js
  unfolding first
  first_with f g h z AlikeItems.none = refl
  first_with f g h z (AlikeItems.hole is) = first_with f g h z is
  first_with f g h z (AlikeItems.item {n = n} {m = m} a s is) = ap₂ or_else (h n m z.0 a) (first_with f g h z.1 is)

-- ---- deeds of lists, one after another

module _ (deeds : Items → List Deed) (start : deeds Items.none ≡ []) (joins : (is js : Items) → deeds (is +++ js) ≡ deeds is ++ deeds js) where
  pub deeds_gather : {ok : Bool} (P : Node → Type 0) (k : ℕ) {is js : Items} (f g : Node → Items) → ((n m : Node) → P n → Linked ok k n m → deeds (f n) ≡ deeds (g m)) → AllItems P is → AlikeItems ok k is js
      → deeds (gather f is) ≡ deeds (gather g js)
  unfolding gather
  deeds_gather P k f g h z AlikeItems.none = refl
  deeds_gather P k f g h z (AlikeItems.hole is) = deeds_gather P k f g h z is
  deeds_gather P k f g h z (AlikeItems.item {n = n} {m = m} {is = is} {js = js} a s l) =
      joins (f n) (gather f is) ∙ ap₂ (λ (x y : List Deed). x ++ y) (h n m z.0 (a, s)) (deeds_gather P k f g h z.1 l) ∙ sym (joins (g m) (gather g js))

pub excluded_none : excluded_deeds Items.none ≡ []
unfolding excluded_deeds
excluded_none = refl

pub excluded_append : (is js : Items) → excluded_deeds (is +++ js) ≡ excluded_deeds is ++ excluded_deeds js
unfolding excluded_deeds ◌+++◌
excluded_append Items.none js = refl
excluded_append (Items.hole is) js = excluded_append is js
excluded_append (Items.item d is) js =
    let x = excludes (encode (node_at_of 1 d)) in
    ap (λ (y : List Deed). does Event.declarator ∷ does (Event.excluded_temporary (cell_of (id_of d)) (stem_of (id_of d))) ∷ y)
    (ap (λ (y : List Deed). x ++ y) (excluded_append is js) ∙ sym (append_assoc x (excluded_deeds is) (excluded_deeds js)))

-- ---- the value of a rest

keys_none : {ok : Bool} {is js : Items} (c d : Context) → AlikeItems ok 34 is js → any (λ q. not (is_primitive (key q))) is ≡ false → gather (excluded_key c) is ≡ gather (excluded_key d) js
unfolding gather any
keys_none c d AlikeItems.none h = refl
keys_none c d (AlikeItems.hole is) h = keys_none c d is h
keys_none c d (AlikeItems.item {n = n} {m = m} {is = is} a s l) h =
    let r = any (λ q. not (is_primitive (key q))) is in
    by_test (is_primitive (key n))
    (λ e.
    let z : not true || r ≡ false = subst (λ (x : Bool). not x || r ≡ false) e h in
    ap₂ (λ (x y : Items). x +++ y) (primitive_one c d n m (s refl) e) (keys_none c d l z))
    (λ e.
    let z : not false || r ≡ false = subst (λ (x : Bool). not x || r ≡ false) e h in
    absurd (true≢false z))

pub keys_same : {ok : Bool} {p q : Node} (c d : Context) → Object p → Alike ok p q → all_primitive p ≡ true → excluded_keys c p ≡ excluded_keys d q
unfolding excluded_keys all_primitive
keys_same {p = p} c d e a h = keys_none c d (props e a) (not-true (any (λ q. not (is_primitive (key q))) (properties p)) h)

module _ (c d : Context) (root : c.root ≡ d.root) where
  excluded_of_alike : {ok : Bool} {p q : Node} → Alike ok p q → Alike ok (excluded_of c p) (excluded_of d q)
  excluded_of_alike {ok = ok} {p = p} {q = q} a = subst (λ (x : ℕ). Alike ok (excluded_of c p) (temporary d.path 2 x)) (position_alike a) (temporary_alike c.path d.path 2 (position p))

  pub value_of_alike : {ok : Bool} {p q : Node} → Alike ok p q → Alike ok (value_of c p) (value_of d q)
  value_of_alike {ok = ok} {p = p} {q = q} a = subst (λ (x : ℕ). Alike ok (value_of c p) (temporary d.path 3 x)) (position_alike a) (temporary_alike c.path d.path 3 (position p))

  hoisted_alike : {ok : Bool} {p q : Node} → Object p → Alike ok p q → is_hoisted c p ≡ is_hoisted d q
  unfolding is_hoisted
  hoisted_alike e a =
      ap₂ (λ (x y : Bool). not x && y) root
      (ap₂ (λ (x y : Bool). not x && y) (empty_alike (props e a)) (all_alike e a))

  keys_read_alike : {ok : Bool} {p q : Node} → Object p → Alike ok p q → Alike ok (keys_read c p) (keys_read d q)
  unfolding keys_read mapped
  keys_read_alike {p = p} {q = q} e a =
      cond_alike (is_hoisted c p) (is_hoisted d q) (hoisted_alike e a) (λ h. excluded_of_alike a)
      (λ h. cond_alike (all_primitive p) (all_primitive q) (all_alike e a) (λ t. array_of_alike (keys_alike c d e a))
      (λ t. call_alike (member_alike (109 ∷ 97 ∷ 112 ∷ []) (array_of_alike (keys_alike c d e a))) (only_alike (helper_alike 5))))

  pub rest_value_alike : {ok : Bool} {p q s t : Node} → Object p → Alike ok p q → Alike ok s t → Alike ok (rest_value c p s) (rest_value d q t)
  unfolding rest_value
  rest_value_alike {p = p} {q = q} e a s =
      cond_alike (has_no_properties p) (has_no_properties q) (empty_alike (props e a))
      (λ h. call_alike (helper_alike 2)
      (more_alike (object_alike AlikeItems.none) (only_alike (sequence_alike (more_alike (call_alike (helper_alike 3) (only_alike s)) (only_alike s))))))
      (λ h. call_alike (helper_alike 4) (more_alike s (only_alike (keys_read_alike e a))))

  pub excluded_for_alike : {ok : Bool} {p q : Node} → Object p → Alike ok p q → AlikeItems ok 0 (excluded_for c p) (excluded_for d q)
  unfolding excluded_for
  excluded_for_alike {p = p} {q = q} e a =
      cond_items (is_hoisted c p) (is_hoisted d q) (hoisted_alike e a)
      (λ h. only_alike (declares_alike (excluded_of_alike a) (array_of_alike (keys_alike c d e a)))) (λ h. AlikeItems.none)

  -- what is handed out for the keys is the same
  pub excluded_for_deeds : {ok : Bool} {p q : Node} → Object p → Alike ok p q → excluded_deeds (excluded_for c p) ≡ excluded_deeds (excluded_for d q)
  unfolding excluded_for excluded_deeds cell_of node_at_of piece_in number_at
  excluded_for_deeds {p = p} {q = q} e a =
      by_test (is_hoisted c p)
      (λ h. rw (h, sym (hoisted_alike e a) ∙ h)
      (ap₂ (λ (x : ℕ) (y : Items). excluded_deeds (only (declares (temporary [] 2 x) (array y)))) (position_alike a) (keys_same c d e a (hoisted_primitive c p h))))
      (λ h. rw (h, sym (hoisted_alike e a) ∙ h) refl)

  pub ids_alike : {ok : Bool} {is js : Items} → AlikeItems ok 0 is js → AlikeItems ok 0 (each id_of is) (each id_of js)
  ids_alike a = each_alike 0 0 id_of id_of (λ n m l. (node_at 0 l.0, λ z. absurd (false≢true z))) a

  rest_makes_alike : {ok : Bool} {p q : Node} → Object p → Alike ok p q → AlikeItems ok 0 (rest_makes c p) (rest_makes d q)
  unfolding rest_makes
  rest_makes_alike e a = append_alike (ids_alike (temporaries_alike c d e a)) (ids_alike (excluded_for_alike e a))

  -- ---- declarators

  name_alike : {ok : Bool} {i j : Node} → Alike ok i j → is_name_of i ≡ is_name_of j
  unfolding is_name_of
  name_alike a = ap₂ (λ (x y : Bool). x || y) (is_alike 18 a) (is_alike 20 a)

  source_alike : {ok : Bool} {p q i j : Node} → Alike ok p q → Alike ok i j → Alike ok (source c p i) (source d q j)
  unfolding source
  source_alike {i = i} {j = j} a b = cond_alike (is_name_of i) (is_name_of j) (name_alike b) (λ h. b) (λ h. value_of_alike a)

  source_declarator_alike : {ok : Bool} {p q i j : Node} → Alike ok p q → Alike ok i j → AlikeItems ok 0 (source_declarator c p i) (source_declarator d q j)
  unfolding source_declarator
  source_declarator_alike {i = i} {j = j} a b = cond_items (is_name_of i) (is_name_of j) (name_alike b) (λ h. AlikeItems.none) (λ h. only_alike (declares_alike (value_of_alike a) b))

  keys_before_alike : {ok : Bool} {p q : Node} → Object p → Alike ok p q → AlikeItems ok 0 (keys_before c p) (keys_before d q)
  unfolding keys_before
  keys_before_alike {p = p} {q = q} e a = cond_items (has_rest_of p) (has_rest_of q) (stands_at 1 a) (λ h. temporaries_alike c d e a) (λ h. AlikeItems.none)

  pattern_declarator_alike : {ok : Bool} {p q s t : Node} → Object p → Alike ok p q → Alike ok s t → AlikeItems ok 0 (pattern_declarator c p s) (pattern_declarator d q t)
  unfolding pattern_declarator
  pattern_declarator_alike {p = p} {q = q} e a s =
      cond_items (has_no_properties p) (has_no_properties q) (empty_alike (props e a)) (λ h. AlikeItems.none) (λ h. only_alike (declares_alike (taken_alike c d e a) s))

  rest_declarator_alike : {ok : Bool} {p q s t : Node} → Object p → Alike ok p q → Alike ok s t → AlikeItems ok 0 (rest_declarator c p s) (rest_declarator d q t)
  unfolding rest_declarator
  rest_declarator_alike {p = p} {q = q} e a s =
      cond_items (has_rest_of p) (has_rest_of q) (stands_at 1 a) (λ h. only_alike (declares_alike (node_at 1 a) (rest_value_alike e a s))) (λ h. AlikeItems.none)

  own_alike : {ok : Bool} {p q s t : Node} → Object p → Alike ok p q → Alike ok s t → AlikeItems ok 0 (own c p s) (own d q t)
  unfolding own
  own_alike e a s = append_alike (keys_before_alike e a) (append_alike (pattern_declarator_alike e a s) (rest_declarator_alike e a s))

  nested_at : {ok : Bool} (b : ℕ) {p q : Node} → Alike ok p q → AlikeItems ok 0 (nested c b p) (nested d b q)
  unfolding nested
  nested_at zero a = AlikeItems.none
  nested_at {ok = ok} (suc b) {p = p} {q = q} a =
      let h : (n m : Node) → Alike ok n m → Alike ok (replaced c b n) (replaced d b m) = λ n m z. replaced_at c d b z in
      by_shape (shape p)
      (λ e. rw (e, shaped a e, nested)
      (append_alike
      (cond_items (has_rest_of p) (has_rest_of q) (stands_at 1 a)
      (λ t. own_alike (shape_values (λ v. replaced c b v) p ∙ e) (values_alike (λ v. replaced c b v) (λ v. replaced d b v) h a) (reference_alike c d a))
      (λ t. AlikeItems.none))
      (gather_alike 0 0 (λ m. nested c b (value m)) (λ m. nested d b (value m)) (λ n m l. nested_at b (node_at 1 l.0)) (parts 0 a))))
      (λ e. rw (e, shaped a e, nested) (gather_alike 0 0 (λ m. nested c b m) (λ m. nested d b m) (λ n m l. nested_at b l.0) (parts 0 a)))
      (λ e. rw (e, shaped a e, nested) (nested_at b (node_at 0 a)))
      (λ e. rw (e, shaped a e, nested) AlikeItems.none)

  nested_alike : {ok : Bool} {p q : Node} → Alike ok p q → AlikeItems ok 0 (nested_below c p) (nested_below d q)
  nested_alike {ok = ok} {p = p} {q = q} a = subst (λ (x : ℕ). AlikeItems ok 0 (nested_below c p) (nested d x q)) (depth_alike a) (nested_at (depth p) a)

  object_declarators_alike : {ok : Bool} {p q s t : Node} → Object p → Alike ok p q → Alike ok s t → AlikeItems ok 0 (object_declarators c p s) (object_declarators d q t)
  unfolding object_declarators
  object_declarators_alike {p = p} {q = q} e a s =
      let b = values_alike (λ v. replaced_below c v) (λ v. replaced_below d v) (λ n m z. replaced_alike c d z) a in
      let o : Object (with_values (λ v. replaced_below c v) p) = shape_values (λ v. replaced_below c v) p ∙ e in
      append_alike (keys_before_alike o b)
      (append_alike (pattern_declarator_alike o b s)
      (append_alike
      (gather_alike 0 0 (λ m. nested_below c (value m)) (λ m. nested_below d (value m)) (λ n m l. nested_alike (node_at 1 l.0)) (parts 0 a))
      (rest_declarator_alike o b s)))

  pattern_declarators_alike : {ok : Bool} {p q s t : Node} → Alike ok p q → Alike ok s t → AlikeItems ok 0 (pattern_declarators c p s) (pattern_declarators d q t)
  unfolding pattern_declarators
  pattern_declarators_alike {p = p} {q = q} a s =
      by_shape (shape p)
      (λ e. rw (e, shaped a e, pattern_declarators) (object_declarators_alike e a s))
      (λ e. rw (e, shaped a e, pattern_declarators) (append_alike (only_alike (declares_alike (replaced_alike c d a) s)) (nested_alike a)))
      (λ e. rw (e, shaped a e, pattern_declarators) AlikeItems.none)
      (λ e. rw (e, shaped a e, pattern_declarators) AlikeItems.none)

  inner_alike : {ok : Bool} {p q : Node} → Alike ok p q → AlikeItems ok 0 (inner_objects c p) (inner_objects d q)
  unfolding inner_objects
  inner_alike {p = p} {q = q} a =
      by_shape (shape p)
      (λ e. rw (e, shaped a e, inner_objects)
      (gather_alike 0 0 (λ m. objects_below c (value m)) (λ m. objects_below d (value m)) (λ n m l. objects_alike c d (node_at 1 l.0)) (parts 0 a)))
      (λ e. rw (e, shaped a e, inner_objects) (objects_alike c d a))
      (λ e. rw (e, shaped a e, inner_objects) (objects_alike c d a))
      (λ e. rw (e, shaped a e, inner_objects) AlikeItems.none)

  pub refs_alike : {ok : Bool} {is js : Items} → AlikeItems ok 0 is js → AlikeItems ok 0 (each (λ p. reference c p) is) (each (λ p. reference d p) js)
  refs_alike a = each_alike 0 0 (λ p. reference c p) (λ p. reference d p) (λ n m l. (reference_alike c d l.0, λ z. absurd (false≢true z))) a

  declarator_makes_alike : {ok : Bool} {p q i j : Node} → Alike ok p q → Alike ok i j → AlikeItems ok 0 (declarator_makes c p i) (declarator_makes d q j)
  unfolding declarator_makes
  declarator_makes_alike {p = p} a b =
      append_alike (ids_alike (source_declarator_alike a b))
      (append_alike (refs_alike (inner_alike a))
      (gather_with Object (rest_makes c) (rest_makes d) (λ n m o z. rest_makes_alike o z) (objects_objects c (depth p) p) (objects_alike c d a)))

  -- ---- declarations

  lowered_alike : {ok : Bool} {n m : Node} → Alike ok n m → is_lowered n ≡ is_lowered m
  unfolding is_lowered
  lowered_alike a = ap₂ (λ (x y : Bool). x && y) (stands_at 1 a) (below_alike (node_at 0 a))

  declarators_alike : {ok : Bool} {n m : Node} → Alike ok n m → AlikeItems ok 0 (declarators c n) (declarators d m)
  unfolding declarators lower_declarator
  declarators_alike {n = n} {m = m} a =
      cond_items (is_lowered n) (is_lowered m) (lowered_alike a)
      (λ h. append_alike (source_declarator_alike (node_at 0 a) (node_at 1 a)) (pattern_declarators_alike (node_at 0 a) (source_alike (node_at 0 a) (node_at 1 a))))
      (λ h. only_alike a)

  lowered_in_alike : {ok : Bool} {n m : Node} → Alike ok n m → AlikeItems ok 0 (lowered_in c n) (lowered_in d m)
  unfolding lowered_in
  lowered_in_alike {n = n} {m = m} a = cond_items (is_lowered n) (is_lowered m) (lowered_alike a) (λ h. objects_alike c d (node_at 0 a)) (λ h. AlikeItems.none)

  lowered_objects : (n : Node) → AllItems Object (lowered_in c n)
  unfolding lowered_in
  lowered_objects n = cond_all Object (is_lowered n) (objects_below c (node_at_of 0 n)) (λ h. objects_objects c (depth (node_at_of 0 n)) (node_at_of 0 n))

  pub declaration_alike : {ok : Bool} {n m : Node} → eqb (kind n) 34 ≡ false → Alike ok n m → Alike ok (declaration c n) (declaration d m)
  unfolding declaration
  declaration_alike {n = n} e a =
      change_items_alike 2 (gather (declarators c)) (gather (declarators d))
      (λ is js b. tight (kind n) e (gather_alike (kind n) 0 (declarators c) (declarators d) (λ x y l. declarators_alike l.0) b)) a

  pub declaration_makes_alike : {ok : Bool} {n m : Node} → Alike ok n m → AlikeItems ok 0 (declaration_makes c n) (declaration_makes d m)
  unfolding declaration_makes
  declaration_makes_alike a =
      gather_alike 0 0 (λ x. cond (is_lowered x) (declarator_makes c (node_at_of 0 x) (node_at_of 1 x)) Items.none) (λ x. cond (is_lowered x) (declarator_makes d (node_at_of 0 x) (node_at_of 1 x)) Items.none)
      (λ n m l. cond_items (is_lowered n) (is_lowered m) (lowered_alike l.0) (λ h. declarator_makes_alike (node_at 0 l.0) (node_at 1 l.0)) (λ h. AlikeItems.none)) (parts 2 a)

  pub declaration_refusal_alike : {ok : Bool} {n m : Node} → Alike ok n m → declaration_refusal c n ≡ declaration_refusal d m
  unfolding declaration_refusal
  declaration_refusal_alike a =
      first_alike 0 (λ x. first (λ p. keys_refusal p) (lowered_in c x)) (λ x. first (λ p. keys_refusal p) (lowered_in d x))
      (λ n m l. first_with Object (λ p. keys_refusal p) (λ p. keys_refusal p) (λ p q o z. keys_refusal_alike o z) (lowered_objects n) (lowered_in_alike l.0)) (parts 2 a)

  pub declaration_excludes_deeds : {ok : Bool} {n m : Node} → Alike ok n m → excluded_deeds (declaration_excludes c n) ≡ excluded_deeds (declaration_excludes d m)
  unfolding declaration_excludes
  declaration_excludes_deeds {n = n} a =
      deeds_gather excluded_deeds excluded_none excluded_append (λ x. Unit {0}) 0 (λ x. gather (excluded_for c) (lowered_in c x)) (λ x. gather (excluded_for d) (lowered_in d x))
      (λ x y u z. deeds_gather excluded_deeds excluded_none excluded_append Object 0 (excluded_for c) (excluded_for d) (λ p q o b. excluded_for_deeds o b.0) (lowered_objects x) (lowered_in_alike z.0))
      (all_unit (items_at_of 2 n)) (parts 2 a)
