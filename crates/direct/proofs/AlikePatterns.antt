-- Searches below patterns that are alike find the same, and views of them are alike, whatever the paths.
-- Assumes nothing.
use mathlib.Core.Path.{◌≡◌, refl, sym, ap, ap₂, ◌∙◌, subst}
use mathlib.Core.Bool.{Bool, true, false, cond, ◌||◌, not, true≢false, false≢true}
use mathlib.Core.List.{List}
use Prim.Native.Nat.{ℕ, zero, suc}
use native.Mathlib.Omega.{arith}
use lib.Dec.{eqb}
use borrow.Author.Tests.{eqb-true}
use Rattle.tree.specs.Tree.{Node, depth}
use Rattle.tree.specs.Tree.Node.{node}
use Rattle.lowering.specs.Parts.{position, kind, is, items_at_of, change, on_node, change_node, only, each, gather}
use Rattle.lowering.specs.Made.{Context, temporary, reference, key_of, string}
use Rattle.lowering.specs.Patterns.{Shape, shape, properties, has_rest_of, key, value, with_items, with_values, has_nested_object_rest, has_object_rest, has_nested_array_rest, has_array_rest_over_object_rest, replaced, objects_with_rest, replaced_below, objects_below}
use Rattle.lowering.specs.Patterns.Shape.{object_pattern, array_pattern, default, leaf}
use Rattle.lowering.specs.Keys.{key_sort, is_primitive, key_refusal, excluded_key, kept_key, key_temporary, all_primitive, keys_refusal, excluded_keys, key_temporaries, taken, key_text}
use Rattle.lowering.specs.Assignments.{target, nearest, outermost, parts_of, parts_replaced, target_left}
use Rattle.lowering.specs.Heads.{moved, moved_pattern, moved_out_of}
use Rattle.lowering.proofs.Cases.{by_shape, by_key, object_is}
use Rattle.direct.proofs.Alike.{SameKey, same, temporaries, Alike, AlikeItems, Linked, string_alike, temporary_alike, position_alike, shape_alike, node_at, items_at, stands_at, depth_alike, loose, recast, only_alike, append_alike, each_alike, gather_alike, any_alike, first_alike, cond_alike, cond_items, change_node_alike, change_items_alike, without_alike, key_kept, key_put, declares_alike}
use Rattle.lowering.proofs.Clauses.{again_temporary}

-- ---- the properties of an object pattern, the parts of any pattern

pub props : {ok : Bool} {p q : Node} → shape p ≡ object_pattern → Alike ok p q → AlikeItems ok 34 (properties p) (properties q)
unfolding is
props {p = p} e a = recast (kind p) 34 (λ h. object_is p e) (items_at 0 a)

pub parts : {ok : Bool} {p q : Node} (i : ℕ) → Alike ok p q → AlikeItems ok 0 (items_at_of i p) (items_at_of i q)
parts {p = p} i a = loose (kind p) (items_at i a)

pub shaped : {ok : Bool} {p q : Node} {s : Shape} → Alike ok p q → shape p ≡ s → shape q ≡ s
shaped a e = sym (shape_alike a) ∙ e

-- ---- searches

pub has_alike : {ok : Bool} (d : ℕ) {p q : Node} → Alike ok p q → has_nested_object_rest d p ≡ has_nested_object_rest d q
unfolding has_nested_object_rest
has_alike zero a = refl
has_alike (suc d) {p = p} {q = q} a =
    by_shape (shape p)
    (λ e. rw (e, shaped a e, has_nested_object_rest)
    (ap₂ (λ (x y : Bool). x || y) (stands_at 1 a)
    (any_alike 0 (λ m. has_nested_object_rest d (value m)) (λ m. has_nested_object_rest d (value m)) (λ n m l. has_alike d (node_at 1 l.0)) (parts 0 a))))
    (λ e. rw (e, shaped a e, has_nested_object_rest)
    (ap₂ (λ (x y : Bool). x || y)
    (any_alike 0 (λ m. has_nested_object_rest d m) (λ m. has_nested_object_rest d m) (λ n m l. has_alike d l.0) (parts 0 a)) (has_alike d (node_at 1 a))))
    (λ e. rw (e, shaped a e, has_nested_object_rest) (has_alike d (node_at 0 a)))
    (λ e. rw (e, shaped a e, has_nested_object_rest) refl)

pub below_alike : {ok : Bool} {p q : Node} → Alike ok p q → has_object_rest p ≡ has_object_rest q
below_alike {p = p} {q = q} a = ap (λ (x : ℕ). has_nested_object_rest x p) (depth_alike a) ∙ has_alike (depth q) a

array_alike : {ok : Bool} (d : ℕ) {p q : Node} → Alike ok p q → has_nested_array_rest d p ≡ has_nested_array_rest d q
unfolding has_nested_array_rest
array_alike zero a = refl
array_alike (suc d) {p = p} {q = q} a =
    by_shape (shape p)
    (λ e. rw (e, shaped a e, has_nested_array_rest)
    (any_alike 0 (λ m. has_nested_array_rest d (value m)) (λ m. has_nested_array_rest d (value m)) (λ n m l. array_alike d (node_at 1 l.0)) (parts 0 a)))
    (λ e. rw (e, shaped a e, has_nested_array_rest)
    (ap₂ (λ (x y : Bool). x || y)
    (any_alike 0 (λ m. has_nested_array_rest d m) (λ m. has_nested_array_rest d m) (λ n m l. array_alike d l.0) (parts 0 a)) (has_alike d (node_at 1 a))))
    (λ e. rw (e, shaped a e, has_nested_array_rest) (array_alike d (node_at 0 a)))
    (λ e. rw (e, shaped a e, has_nested_array_rest) refl)

pub over_alike : {ok : Bool} {p q : Node} → Alike ok p q → has_array_rest_over_object_rest p ≡ has_array_rest_over_object_rest q
over_alike {p = p} {q = q} a = ap (λ (x : ℕ). has_nested_array_rest x p) (depth_alike a) ∙ array_alike (depth q) a

-- the objects with rest that stand nearest
pub nearest_at : {ok : Bool} (arrays : Bool) (d : ℕ) {p q : Node} → Alike ok p q → AlikeItems ok 0 (nearest arrays d p) (nearest arrays d q)
unfolding nearest
nearest_at arrays zero a = AlikeItems.none
nearest_at arrays (suc d) {p = p} {q = q} a =
    by_shape (shape p)
    (λ e. rw (e, shaped a e, nearest)
    (cond_items (has_rest_of p) (has_rest_of q) (stands_at 1 a) (λ h. only_alike a)
    (λ h. gather_alike 0 0 (λ m. nearest arrays d (value m)) (λ m. nearest arrays d (value m)) (λ n m l. nearest_at arrays d (node_at 1 l.0)) (parts 0 a))))
    (λ e. rw (e, shaped a e, nearest)
    (cond_items arrays arrays refl (λ h. gather_alike 0 0 (λ m. nearest arrays d m) (λ m. nearest arrays d m) (λ n m l. nearest_at arrays d l.0) (parts 0 a)) (λ h. AlikeItems.none)))
    (λ e. rw (e, shaped a e, nearest) (nearest_at arrays d (node_at 0 a)))
    (λ e. rw (e, shaped a e, nearest) AlikeItems.none)

pub outermost_alike : {ok : Bool} {p q : Node} → Alike ok p q → AlikeItems ok 0 (outermost p) (outermost q)
outermost_alike {ok = ok} {p = p} {q = q} a = subst (λ (x : ℕ). AlikeItems ok 0 (outermost p) (nearest true x q)) (depth_alike a) (nearest_at true (depth p) a)

pub parts_alike : {ok : Bool} {p q : Node} → Alike ok p q → AlikeItems ok 0 (parts_of p) (parts_of q)
parts_alike {ok = ok} {p = p} {q = q} a =
    subst (λ (x : ℕ). AlikeItems ok 0 (parts_of p) (gather (λ m. nearest false x (value m)) (properties q))) (depth_alike a)
    (gather_alike 0 0 (λ m. nearest false (depth p) (value m)) (λ m. nearest false (depth p) (value m)) (λ n m l. nearest_at false (depth p) (node_at 1 l.0)) (parts 0 a))

-- ---- keys

pub key_alike : {k j : Node} → SameKey k j → key_sort k ≡ key_sort j
key_alike (same e) = ap key_sort e
key_alike {k = k} {j = j} (temporaries e h) = again_temporary k e ∙ sym (again_temporary j h)

pub primitive_alike : {k j : Node} → SameKey k j → is_primitive k ≡ is_primitive j
unfolding is_primitive
primitive_alike (same e) = ap is_primitive e
primitive_alike {k = k} {j = j} (temporaries e h) = rw (again_temporary k e, again_temporary j h, is_primitive) refl

not_again : (k : Node) → is 20 k ≡ true → is_primitive k ≡ false
unfolding is_primitive
not_again k e = rw (again_temporary k e, is_primitive) refl

refusal_temporary : (k : Node) → is 20 k ≡ true → key_refusal k ≡ 0
unfolding key_refusal is
refusal_temporary (node at k fs) e = rw (eqb-true k 20 e) refl

pub refusal_alike : {k j : Node} → SameKey k j → key_refusal k ≡ key_refusal j
refusal_alike (same e) = ap key_refusal e
refusal_alike {k = k} {j = j} (temporaries e h) = refusal_temporary k e ∙ sym (refusal_temporary j h)

pub keys_refusal_alike : {ok : Bool} {p q : Node} → shape p ≡ object_pattern → Alike ok p q → keys_refusal p ≡ keys_refusal q
unfolding keys_refusal
keys_refusal_alike e a = first_alike 34 (λ m. key_refusal (key m)) (λ m. key_refusal (key m)) (λ n m l. refusal_alike (l.1 refl)) (props e a)

pub all_alike : {ok : Bool} {p q : Node} → shape p ≡ object_pattern → Alike ok p q → all_primitive p ≡ all_primitive q
unfolding all_primitive
all_alike e a = ap not (any_alike 34 (λ m. not (is_primitive (key m))) (λ m. not (is_primitive (key m))) (λ n m l. ap not (primitive_alike (l.1 refl))) (props e a))

strings : {ok : Bool} (a b : List ℕ) → a ≡ b → AlikeItems ok 0 (only (string a)) (only (string b))
strings {ok = ok} a b e = subst (λ (x : List ℕ). AlikeItems ok 0 (only (string a)) (only (string x))) e (only_alike (string_alike a))

module _ (c d : Context) where
  pub reference_alike : {ok : Bool} {p q : Node} → Alike ok p q → Alike ok (reference c p) (reference d q)
  reference_alike {ok = ok} {p = p} {q = q} a = subst (λ (x : ℕ). Alike ok (reference c p) (temporary d.path 1 x)) (position_alike a) (temporary_alike c.path d.path 1 (position p))

  pub key_of_alike : {ok : Bool} {p q : Node} → Alike ok p q → Alike ok (key_of c p) (key_of d q)
  key_of_alike {ok = ok} {p = p} {q = q} a = subst (λ (x : ℕ). Alike ok (key_of c p) (temporary d.path 4 x)) (position_alike a) (temporary_alike c.path d.path 4 (position p))

  excluded_one : {ok : Bool} {p q : Node} → Linked ok 34 p q → SameKey (key p) (key q) → AlikeItems ok 0 (excluded_key c p) (excluded_key d q)
  unfolding excluded_key
  excluded_one {p = p} {q = q} l (same z) =
      let k : key_sort (key q) ≡ key_sort (key p) = ap key_sort (sym z) in
      by_key (key_sort (key p))
      (λ e. rw (e, k ∙ e, excluded_key) (strings (key_text (key p)) (key_text (key q)) (ap key_text z)))
      (λ e. rw (e, k ∙ e, excluded_key) (strings (key_text (key p)) (key_text (key q)) (ap key_text z)))
      (λ e. rw (e, k ∙ e, excluded_key) (only_alike (node_at 0 l.0)))
      (λ e. rw (e, k ∙ e, excluded_key) AlikeItems.none)
      (λ e. rw (e, k ∙ e, excluded_key) (only_alike (node_at 0 l.0)))
      (λ e. rw (e, k ∙ e, excluded_key) (only_alike (key_of_alike l.0)))
  excluded_one {p = p} {q = q} l (temporaries e h) = rw (again_temporary (key p) e, again_temporary (key q) h, excluded_key) (only_alike (node_at 0 l.0))

  -- the keys that are handed out are the same
  pub primitive_one : (p q : Node) → SameKey (key p) (key q) → is_primitive (key p) ≡ true → excluded_key c p ≡ excluded_key d q
  unfolding excluded_key is_primitive
  primitive_one p q (same z) h =
      let k : key_sort (key q) ≡ key_sort (key p) = ap key_sort (sym z) in
      by_key (key_sort (key p))
      (λ e. rw (e, k ∙ e, excluded_key) (ap (λ (x : Node). only (string (key_text x))) z))
      (λ e. rw (e, k ∙ e, excluded_key) (ap (λ (x : Node). only (string (key_text x))) z))
      (λ e. rw (e, k ∙ e, excluded_key) (ap (λ (x : Node). only x) z))
      (λ e. rw (e, k ∙ e, excluded_key) refl)
      (λ e. absurd (false≢true (rw (e, is_primitive) at h)))
      (λ e. absurd (false≢true (rw (e, is_primitive) at h)))
  primitive_one p q (temporaries e h) z = absurd (false≢true (sym (not_again (key p) e) ∙ z))

  kept_one : {ok : Bool} {p q : Node} → Linked ok 34 p q → Linked ok 34 (kept_key c p) (kept_key d q)
  unfolding kept_key is
  kept_one {p = p} {q = q} l =
      let k : key_sort (key q) ≡ key_sort (key p) = sym (key_alike (l.1 refl)) in
      by_key (key_sort (key p))
      (λ e. rw (e, k ∙ e, kept_key) l)
      (λ e. rw (e, k ∙ e, kept_key) l)
      (λ e. rw (e, k ∙ e, kept_key) l)
      (λ e. rw (e, k ∙ e, kept_key) l)
      (λ e. rw (e, k ∙ e, kept_key) l)
      (λ e. rw (e, k ∙ e, kept_key)
      (change_node_alike 0 (λ x. key_of c p) (λ x. key_of d q) (λ x y z. key_of_alike l.0) l.0, λ h. key_put (key_of c p) (key_of d q) refl refl l.0))

  temporary_one : {ok : Bool} {p q : Node} → Linked ok 34 p q → AlikeItems ok 0 (key_temporary c p) (key_temporary d q)
  unfolding key_temporary
  temporary_one {p = p} {q = q} l =
      let k : key_sort (key q) ≡ key_sort (key p) = sym (key_alike (l.1 refl)) in
      by_key (key_sort (key p))
      (λ e. rw (e, k ∙ e, key_temporary) AlikeItems.none)
      (λ e. rw (e, k ∙ e, key_temporary) AlikeItems.none)
      (λ e. rw (e, k ∙ e, key_temporary) AlikeItems.none)
      (λ e. rw (e, k ∙ e, key_temporary) AlikeItems.none)
      (λ e. rw (e, k ∙ e, key_temporary) AlikeItems.none)
      (λ e. rw (e, k ∙ e, key_temporary) (only_alike (declares_alike (key_of_alike l.0) (node_at 0 l.0))))

  pub temporaries_alike : {ok : Bool} {p q : Node} → shape p ≡ object_pattern → Alike ok p q → AlikeItems ok 0 (key_temporaries c p) (key_temporaries d q)
  unfolding key_temporaries
  temporaries_alike e a = gather_alike 34 0 (key_temporary c) (key_temporary d) (λ n m l. temporary_one l) (props e a)

  pub keys_alike : {ok : Bool} {p q : Node} → shape p ≡ object_pattern → Alike ok p q → AlikeItems ok 0 (excluded_keys c p) (excluded_keys d q)
  unfolding excluded_keys
  keys_alike e a = gather_alike 34 0 (excluded_key c) (excluded_key d) (λ n m l. excluded_one l (l.1 refl)) (props e a)

  pub taken_alike : {ok : Bool} {p q : Node} → shape p ≡ object_pattern → Alike ok p q → Alike ok (taken c p) (taken d q)
  unfolding taken is
  taken_alike {p = p} {q = q} e a =
      cond_alike (has_rest_of p) (has_rest_of q) (stands_at 1 a)
      (λ h. without_alike 1
      (change_items_alike 0 (each (kept_key c)) (each (kept_key d))
      (λ is js b. each_alike (kind p) (kind p) (kept_key c) (kept_key d)
      (λ n m l.
      let k = kept_one (l.0, λ z. l.1 (object_is p e)) in
      (k.0, λ z. k.1 refl)) b) a))
      (λ h. a)

-- ---- views

module _ {ok : Bool} (f g : Node → Node) (h : (n m : Node) → Alike ok n m → Alike ok (f n) (g m)) where
  pub values_alike : {p q : Node} → Alike ok p q → Alike ok (with_values f p) (with_values g q)
  values_alike {p = p} {q = q} a =
      change_items_alike 0 (each (λ x. change_node 1 f x)) (each (λ x. change_node 1 g x))
      (λ is js b. each_alike (kind p) (kind p) (λ x. change_node 1 f x) (λ x. change_node 1 g x)
      (λ n m l. (
        change_node_alike 1 f g h l.0,
        λ z. rw (key_kept (on_node f) n, key_kept (on_node g) m) (l.1 z),
      )) b) a

  pub all_items_alike : {p q : Node} → eqb (kind p) 34 ≡ false → Alike ok p q → Alike ok (with_items f p) (with_items g q)
  all_items_alike {p = p} {q = q} e a =
      change_items_alike 0 (each f) (each g)
      (λ is js b. each_alike (kind p) (kind p) f g (λ n m l. (h n m l.0, λ z. absurd (true≢false (sym z ∙ e)))) b) a

not_object : (p : Node) → shape p ≡ array_pattern → eqb (kind p) 34 ≡ false
unfolding shape
not_object p e = go (eqb (kind p) 34) e
  where
    go : (b : Bool) → cond b object_pattern (cond (eqb (kind p) 36) array_pattern (cond (eqb (kind p) 37) default leaf)) ≡ array_pattern → b ≡ false
    go true h = let z : ◌≡◌ {A = ℕ} 0 1 = cc in absurd (omega arith)
    go false h = refl

pub shape_values : (f : Node → Node) (p : Node) → shape (with_values f p) ≡ shape p
unfolding shape change
shape_values f (node at k fs) = refl

module _ (c d : Context) where
  pub replaced_at : {ok : Bool} (b : ℕ) {p q : Node} → Alike ok p q → Alike ok (replaced c b p) (replaced d b q)
  unfolding replaced
  replaced_at zero a = a
  replaced_at {ok = ok} (suc b) {p = p} {q = q} a =
      let h : (n m : Node) → Alike ok n m → Alike ok (replaced c b n) (replaced d b m) = λ n m z. replaced_at b z in
      by_shape (shape p)
      (λ e. rw (e, shaped a e, replaced)
      (cond_alike (has_rest_of p) (has_rest_of q) (stands_at 1 a) (λ t. reference_alike c d a)
      (λ t. values_alike (λ v. replaced c b v) (λ v. replaced d b v) h a)))
      (λ e. rw (e, shaped a e, replaced) (all_items_alike (λ v. replaced c b v) (λ v. replaced d b v) h (not_object p e) a))
      (λ e. rw (e, shaped a e, replaced) (change_node_alike 0 (λ v. replaced c b v) (λ v. replaced d b v) h a))
      (λ e. rw (e, shaped a e, replaced) a)

  pub replaced_alike : {ok : Bool} {p q : Node} → Alike ok p q → Alike ok (replaced_below c p) (replaced_below d q)
  replaced_alike {ok = ok} {p = p} {q = q} a = subst (λ (x : ℕ). Alike ok (replaced_below c p) (replaced d x q)) (depth_alike a) (replaced_at (depth p) a)

  objects_at : {ok : Bool} (b : ℕ) {p q : Node} → Alike ok p q → AlikeItems ok 0 (objects_with_rest c b p) (objects_with_rest d b q)
  unfolding objects_with_rest
  objects_at zero a = AlikeItems.none
  objects_at {ok = ok} (suc b) {p = p} {q = q} a =
      let h : (n m : Node) → Alike ok n m → Alike ok (replaced c b n) (replaced d b m) = λ n m z. replaced_at b z in
      by_shape (shape p)
      (λ e. rw (e, shaped a e, objects_with_rest)
      (append_alike
      (gather_alike 0 0 (λ m. objects_with_rest c b (value m)) (λ m. objects_with_rest d b (value m)) (λ n m l. objects_at b (node_at 1 l.0)) (parts 0 a))
      (cond_items (has_rest_of p) (has_rest_of q) (stands_at 1 a)
      (λ t. only_alike (values_alike (λ v. replaced c b v) (λ v. replaced d b v) h a)) (λ t. AlikeItems.none))))
      (λ e. rw (e, shaped a e, objects_with_rest) (gather_alike 0 0 (λ m. objects_with_rest c b m) (λ m. objects_with_rest d b m) (λ n m l. objects_at b l.0) (parts 0 a)))
      (λ e. rw (e, shaped a e, objects_with_rest) (objects_at b (node_at 0 a)))
      (λ e. rw (e, shaped a e, objects_with_rest) AlikeItems.none)

  pub objects_alike : {ok : Bool} {p q : Node} → Alike ok p q → AlikeItems ok 0 (objects_below c p) (objects_below d q)
  objects_alike {ok = ok} {p = p} {q = q} a = subst (λ (x : ℕ). AlikeItems ok 0 (objects_below c p) (objects_with_rest d x q)) (depth_alike a) (objects_at (depth p) a)

  parts_at : {ok : Bool} (b : ℕ) {p q : Node} → Alike ok p q → Alike ok (parts_replaced c b p) (parts_replaced d b q)
  unfolding parts_replaced
  parts_at zero a = a
  parts_at {ok = ok} (suc b) {p = p} {q = q} a =
      let h : (n m : Node) → Alike ok n m → Alike ok (parts_replaced c b n) (parts_replaced d b m) = λ n m z. parts_at b z in
      by_shape (shape p)
      (λ e. rw (e, shaped a e, parts_replaced)
      (cond_alike (has_rest_of p) (has_rest_of q) (stands_at 1 a) (λ t. reference_alike c d a)
      (λ t. values_alike (λ v. parts_replaced c b v) (λ v. parts_replaced d b v) h a)))
      (λ e. rw (e, shaped a e, parts_replaced) a)
      (λ e. rw (e, shaped a e, parts_replaced) (change_node_alike 0 (λ v. parts_replaced c b v) (λ v. parts_replaced d b v) h a))
      (λ e. rw (e, shaped a e, parts_replaced) a)

  pub left_alike : {ok : Bool} (n m : Node) → shape (target n) ≡ object_pattern → Alike ok (target n) (target m) → Alike ok (target_left c n) (target_left d m)
  left_alike {ok = ok} n m e a =
      let w : ℕ → Node = λ x. taken d (with_values (λ v. parts_replaced d x v) (target m)) in
      subst (λ (x : ℕ). Alike ok (target_left c n) (w x)) (depth_alike a)
      (taken_alike c d (shape_values (λ v. parts_replaced c (depth (target n)) v) (target n) ∙ e)
      (values_alike (λ v. parts_replaced c (depth (target n)) v) (λ v. parts_replaced d (depth (target n)) v) (λ x y z. parts_at (depth (target n)) z) a))

  moved_out : {ok : Bool} (b : ℕ) {p q : Node} → Alike ok p q → Alike ok (moved_out_of c b p) (moved_out_of d b q)
  unfolding moved_out_of
  moved_out zero a = a
  moved_out {ok = ok} (suc b) {p = p} {q = q} a =
      let h : (n m : Node) → Alike ok n m → Alike ok (moved_out_of c b n) (moved_out_of d b m) = λ n m z. moved_out b z in
      by_shape (shape p)
      (λ e. rw (e, shaped a e, moved_out_of) (reference_alike c d a))
      (λ e. rw (e, shaped a e, moved_out_of)
      (change_node_alike 1 (λ v. moved_out_of c b v) (λ v. moved_out_of d b v) h (all_items_alike (λ v. moved_out_of c b v) (λ v. moved_out_of d b v) h (not_object p e) a)))
      (λ e. rw (e, shaped a e, moved_out_of) (change_node_alike 0 (λ l. reference c p) (λ l. reference d q) (λ x y z. reference_alike c d a) a))
      (λ e. rw (e, shaped a e, moved_out_of) a)

  pub moved_out_alike : {ok : Bool} {p q : Node} → Alike ok p q → Alike ok (moved_out_of c (depth p) p) (moved_out_of d (depth q) q)
  moved_out_alike {ok = ok} {p = p} {q = q} a = subst (λ (x : ℕ). Alike ok (moved_out_of c (depth p) p) (moved_out_of d x q)) (depth_alike a) (moved_out (depth p) a)

moved_at : {ok : Bool} (b : ℕ) {p q : Node} → Alike ok p q → AlikeItems ok 0 (moved b p) (moved b q)
unfolding moved
moved_at zero a = AlikeItems.none
moved_at (suc b) {p = p} {q = q} a =
    by_shape (shape p)
    (λ e. rw (e, shaped a e, moved) (only_alike a))
    (λ e. rw (e, shaped a e, moved)
    (append_alike (gather_alike 0 0 (λ m. moved b m) (λ m. moved b m) (λ n m l. moved_at b l.0) (parts 0 a)) (moved_at b (node_at 1 a))))
    (λ e. rw (e, shaped a e, moved) (only_alike a))
    (λ e. rw (e, shaped a e, moved) AlikeItems.none)

pub moved_alike : {ok : Bool} {p q : Node} → Alike ok p q → AlikeItems ok 0 (moved (depth p) p) (moved (depth q) q)
moved_alike {ok = ok} {p = p} {q = q} a = subst (λ (x : ℕ). AlikeItems ok 0 (moved (depth p) p) (moved x q)) (depth_alike a) (moved_at (depth p) a)

pub pattern_alike : {ok : Bool} {p q : Node} → Alike ok p q → Alike ok (moved_pattern p) (moved_pattern q)
unfolding moved_pattern
pattern_alike {p = p} a =
    by_shape (shape p)
    (λ e. rw (e, shaped a e, moved_pattern) a)
    (λ e. rw (e, shaped a e, moved_pattern) a)
    (λ e. rw (e, shaped a e, moved_pattern) (node_at 0 a))
    (λ e. rw (e, shaped a e, moved_pattern) a)
