-- A rest that is left stands in one of the exceptions, and no other: by the path to it.
-- Assumes nothing.
use mathlib.Core.Path.{◌≡◌, refl, sym, ap, subst, ◌∙◌}
use mathlib.Core.Bool.{Bool, true, false, cond, ◌||◌, true≢false}
use mathlib.Core.List.{List, [], ◌∷◌}
use Prim.Native.Nat.{ℕ, zero, suc, ◌<◌}
use native.Mathlib.Omega.{arith}
use lib.Dec.{eqb}
use borrow.Author.Tests.{eqb-true}
use Rattle.tree.specs.Tree.{Node, Fields, Items, depth}
use Rattle.tree.specs.Tree.Node.{node}
use Rattle.tree.specs.Grammar.{Sort, Field, places, allowed, also, among, kind_of, form_in, form_at, fields_of, kinds}
use Rattle.tree.specs.Grammar.Field.{must, may}
use Rattle.tree.specs.Grammar.Stage.{rewritten}
use Rattle.lowering.specs.Parts.{kind, is, stands, stands_in, node_at_of, items_at_of, piece_in, as_node, as_items_of, is_empty}
use Rattle.lowering.specs.Visits.{FieldAt, PartAt, Stands}
use Rattle.lowering.specs.Patterns.{Shape, shape, has_rest_of, value, has_object_rest}
use Rattle.lowering.specs.Patterns.Shape.{object_pattern, array_pattern}
use Rattle.lowering.specs.Assignments.{nearest}
use Rattle.lowering.proofs.Cases.{by_test, by_shape, and_left, and_right, or_other, or_left, shape_34, object_is, array_is, default_is, is_kind}
use Rattle.lowering.proofs.All.{AllItems, none_passes}
use Rattle.lowering.proofs.PartsAt.{item_at}
use Rattle.lowering.proofs.Accepted.{is_pattern}
use Rattle.result.specs.Left.{keeps_rest, Below, is_rest_field, Section, Exception}
use Rattle.result.proofs.PlaceRows.{covers, at_places, form_4, form_7, form_8, form_10, form_17}
use Rattle.result.proofs.Lies as lie
use Rattle.result.specs.Causes.{Cause, lacks_value, shows, cause_of, Without, Caused}
use Rattle.result.proofs.Occurring.{occurs_unless}
use Rattle.result.proofs.Lies.{of_tree_of, Texts, shown_of, Lies, LieFields, fields_of_lem, sort_at, may_stand}
use Rattle.result.proofs.LyingPatterns.{array_rest_lem, whole_at, value_at, property_at, leaf_at, pattern_at, form_of, object_fields, property_fields, array_fields, default_fields, object_fields_lem, property_fields_lem, array_fields_lem, default_fields_lem, object_form, property_form, array_form, default_form, property_only, no_default_whole, fields_at}
use Rattle.result.proofs.Expressions.{takes_27, form_27}
use Rattle.result.proofs.Assignments.{target_of}
use Rattle.result.proofs.Declarations.{declarator_fields}
use Rattle.result.proofs.HeadsLie.{bound_fields, param_fields, function_fields, FunctionForm, function_forms, for_fields, head_target}
use Rattle.result.proofs.Rules.{leaves}
use Rattle.result.proofs.Comes.{Comes, Left, ComeFields}
use Rattle.result.proofs.Settled.{Taken, Still, Settled, settled}
use Rattle.result.proofs.Standing.{come_field, held, left_kind}
use Rattle.result.proofs.Searched.{part_depth, Found, found_here, found_value_lem, found_item, found_rest, found_left}
use Rattle.result.proofs.PatternPlaces.{is_outside, out_sort, leads, outside_tidy, is_quiet, quiet_left, SortLies, lie_sort, out_place, leaf_out, by_node}

-- ---- what the walk leaves of a node, at its place

record FromAt (T : Texts) (p : ℕ) (y : Node) : Type 0 where
  before : Node
  left : Left before y
  lies : Lies T p before
  calm : Settled before

from_at : {T : Texts} {x y : Node} → Comes x y → (p : ℕ) → Lies T p x → FromAt T p y
from_at (Comes.comes c {n = n} e l) p x =
    record { before = (Rattle.lowering.specs.Walk.rewrite c n).result; left = l; lies = (leaves c p n x).tree e; calm = settled c n p x e }

come_stands : {fs gs : Fields} → ComeFields fs gs → (i : ℕ) → stands_in gs i ≡ stands_in fs i
unfolding stands_in
come_stands ComeFields.done i = refl
come_stands (ComeFields.absent a) zero = refl
come_stands (ComeFields.absent a) (suc i) = come_stands a i
come_stands (ComeFields.field c a) zero = refl
come_stands (ComeFields.field c a) (suc i) = come_stands a i

left_stands : {x y : Node} → Left x y → is 20 x ≡ false → (i : ℕ) → stands i y ≡ stands i x
unfolding stands is
left_stands (Left.kept t a) e i = come_stands a i
left_stands (Left.named c) e i = absurd (true≢false e)

keeps_is : (x : Node) → keeps_rest x ≡ true → is 34 x ≡ true
unfolding keeps_rest
keeps_is x k = and_left (is 34 x) (stands 1 x) k

not_20 : (x : Node) → is 34 x ≡ true → is 20 x ≡ false
unfolding is
not_20 x e = rw (eqb-true (kind x) 34 e) refl

-- an object that keeps its rest kept it before
keeps_back : {x y : Node} → Left x y → keeps_rest y ≡ true → (shape x ≡ object_pattern) × (has_rest_of x ≡ true)
unfolding keeps_rest is
keeps_back {x = x} {y = y} l k =
    let a : is 34 y ≡ true = and_left (is 34 y) (stands 1 y) k in
    let b : is 34 x ≡ true = subst (λ (j : ℕ). eqb j 34 ≡ true) (left_kind l) a in
    (shape_34 x b, sym (left_stands l (not_20 x b) 1) ∙ and_right (is 34 y) (stands 1 y) k)

-- ---- results of the search along a path

-- x, at the path c, is an exception in the tree t, which stands at the path p, and its cause is not barred
pub data Due (barred : Cause → Type 0) (p : List ℕ) (t : Node) (c : List ℕ) (x : Node) : Type 0 where
  due : {q : List ℕ} {h : Node} → Stands p t q h → (e : Exception q h c x Section.tree) → (barred (cause_of e) → ⊥) → Due barred p t c x

-- in a pattern that was x: reached from it, or further on
data In (B : Cause → Type 0) (p : List ℕ) (y : Node) (u : List ℕ) (o x : Node) : Type 0 where
  spine : {b : Bool} → Below b p y u o → Found b x → (B Cause.array_rest → b ≡ true → ⊥) → In B p y u o x
  beyond : Due B p y u o → In B p y u o x

-- in a property: in its value
data InProperty (B : Cause → Type 0) (p : List ℕ) (y : Node) (u : List ℕ) (o x : Node) : Type 0 where
  spine : {b : Bool} {j : ℕ} {v : Node} → PartAt y 1 j v → Below b (j ∷ 1 ∷ p) v u o → Found b (value x) → depth (value x) < depth x → (B Cause.array_rest → b ≡ true → ⊥) → InProperty B p y u o x
  beyond : Due B p y u o → InProperty B p y u o x

-- in a declarator or a parameter: in its pattern
data InBound (B : Cause → Type 0) (p : List ℕ) (y : Node) (u : List ℕ) (o x : Node) : Type 0 where
  spine : {b : Bool} {j : ℕ} {v : Node} → PartAt y 0 j v → Below b (j ∷ 0 ∷ p) v u o → Found b (node_at_of 0 x) → (B Cause.array_rest → b ≡ true → ⊥) → InBound B p y u o x
  beyond : Due B p y u o → InBound B p y u o x

further : {B : Cause → Type 0} {p u : List ℕ} {y z o : Node} {i j : ℕ} → PartAt y i j z → Due B (j ∷ i ∷ p) z u o → Due B p y u o
further a (Due.due s e o) = Due.due (Stands.onward a s) e o

-- ---- fields by their number

object_field : {T : Texts} (t : Bool) (i : ℕ) {x : Node} → SortLies T (sort_at (object_fields t) i) x → {A : Type 0} → (i ≡ 0 → Lies T (property_at t) x → A) → (Lies T (leaf_at t) x → A) → A
object_field t zero l f g = f refl l
object_field t (suc zero) l f g = g l
object_field t (suc (suc i)) l f g = absurd l

array_field : {T : Texts} (t : Bool) (i : ℕ) {x : Node} → SortLies T (sort_at (array_fields t) i) x → {A : Type 0} → (i ≡ 0 → Lies T (value_at t) x → A) → (i ≡ 1 → Lies T (whole_at t) x → A) → A
array_field t zero l f g = f refl l
array_field t (suc zero) l f g = g refl l
array_field t (suc (suc i)) l f g = absurd l

default_field : {T : Texts} (t : Bool) (i : ℕ) {x : Node} → SortLies T (sort_at (default_fields t) i) x → {A : Type 0} → (i ≡ 0 → Lies T (whole_at t) x → A) → (Lies T 3 x → A) → A
default_field t zero l f g = f refl l
default_field t (suc zero) l f g = g l
default_field t (suc (suc i)) l f g = absurd l

property_field : {T : Texts} (t : Bool) (i : ℕ) {x : Node} → SortLies T (sort_at (property_fields t) i) x → {A : Type 0} → (Lies T 11 x → A) → (i ≡ 1 → Lies T (value_at t) x → A) → A
property_field t zero l f g = f l
property_field t (suc zero) l f g = g refl l
property_field t (suc (suc zero)) l f g = absurd l
property_field t (suc (suc (suc i))) l f g = absurd l

bound_field : {T : Texts} (i : ℕ) {x : Node} → SortLies T (sort_at bound_fields i) x → {A : Type 0} → (i ≡ 0 → Lies T 15 x → A) → (Lies T 3 x → A) → A
bound_field zero l f g = f refl l
bound_field (suc zero) l f g = g l
bound_field (suc (suc i)) l f g = absurd l

-- the same part, its field by another number
field_as : {fs : Fields} {i : ℕ} (n : ℕ) {j : ℕ} {x : Node} → i ≡ n → FieldAt fs i j x → FieldAt fs n j x
field_as {fs = fs} n {j = j} {x = x} e a = subst (λ (m : ℕ). FieldAt fs m j x) e a

-- ---- places by cases

leaf_kind_lem : (x : Node) → shape x ≡ Shape.leaf → is_pattern (kind x) ≡ false
unfolding shape is_pattern
leaf_kind_lem x s = go (eqb (kind x) 34) (eqb (kind x) 36) (eqb (kind x) 37) s
  where
    go : (a b c : Bool) → cond a object_pattern (cond b array_pattern (cond c Shape.default Shape.leaf)) ≡ Shape.leaf → a || (b || c) ≡ false
    go true b c e = let z : ◌≡◌ {A = ℕ} 0 1 = cc in absurd (omega arith)
    go false true c e = let z : ◌≡◌ {A = ℕ} 0 1 = cc in absurd (omega arith)
    go false false true e = let z : ◌≡◌ {A = ℕ} 0 1 = cc in absurd (omega arith)
    go false false false e = refl

-- a leaf of a pattern, at the place of a leaf
pattern_leaf : {T : Texts} (t w : Bool) (x : Node) → Lies T (pattern_at t w) x → shape x ≡ Shape.leaf → Lies T (leaf_at t) x
unfolding covers allowed places also among form_in kind_of is_pattern
pattern_leaf false false x l s = lie.moved 16 (at_places is_pattern rewritten rewritten 15 16 refl (kind x) (leaf_kind_lem x s) (may_stand l)) l
pattern_leaf false true x l s = lie.moved 16 (at_places is_pattern rewritten rewritten 18 16 refl (kind x) (leaf_kind_lem x s) (may_stand l)) l
pattern_leaf true false x l s = lie.moved 20 (at_places is_pattern rewritten rewritten 19 20 refl (kind x) (leaf_kind_lem x s) (may_stand l)) l
pattern_leaf true true x l s = lie.moved 20 (at_places is_pattern rewritten rewritten 23 20 refl (kind x) (leaf_kind_lem x s) (may_stand l)) l

quiet_pattern : (t w : Bool) → is_quiet (pattern_at t w) ≡ true
unfolding among
quiet_pattern false false = refl
quiet_pattern false true = refl
quiet_pattern true false = refl
quiet_pattern true true = refl

quiet_property : (t : Bool) → is_quiet (property_at t) ≡ true
unfolding among
quiet_property false = refl
quiet_property true = refl

outside_leaf : (t : Bool) → is_outside (leaf_at t) ≡ true
unfolding among
outside_leaf false = refl
outside_leaf true = refl

leaf_among : (t : Bool) → among (16 ∷ 20 ∷ []) (leaf_at t) ≡ true
unfolding among
leaf_among false = refl
leaf_among true = refl

outside_3 : is_outside 3 ≡ true
unfolding among
outside_3 = refl

outside_11 : is_outside 11 ≡ true
unfolding among
outside_11 = refl

default_at_lem : {T : Texts} (t w : Bool) {at k : ℕ} {fs : Fields} → Lies T (pattern_at t w) (node at k fs) → shape (node at k fs) ≡ Shape.default → LieFields T 0 (default_fields t) fs
default_at_lem t false {at = at} {k = k} {fs = fs} l s = absurd (no_default_whole t (node at k fs) l s)
default_at_lem t true {at = at} {k = k} {fs = fs} l s =
    fields_at (value_at t) 37 (form_of t 37) (default_fields t) refl (default_form t) (default_fields_lem t) l (is_kind 37 (node at k fs) (default_is (node at k fs) s))

-- ---- one step along the path, by the pattern around

not_found : {A : Type 0} {b : Bool} (x : Node) → Found b x → has_object_rest x ≡ false → A
not_found x f h = absurd (true≢false (sym (f.has (depth x) (omega arith)) ∙ h))

module _ {p u : List ℕ} {at k : ℕ} {fs gs : Fields} {i j : ℕ} {x y o : Node} (a : FieldAt gs i j y) (b : FieldAt fs i j x) where
  in_object : {T : Texts} (t : Bool) → LieFields T 0 (object_fields t) fs → shape (node at k fs) ≡ object_pattern → i ≡ 0 → InProperty T.barred (j ∷ i ∷ p) y u o x → In T.barred p (node at k gs) u o (node at k fs)
  unfolding items_at_of is
  in_object t f s z (InProperty.spine {b = c} {j = h} {v = v} q w g d r) =
      let n = part_depth (PartAt.part {at = at} {k = k} b) in
      In.spine (Below.property (object_is (node at k fs) s) (PartAt.part (field_as 0 z a)) q (subst (λ (n : ℕ). Below c (h ∷ 1 ∷ j ∷ n ∷ p) v u o) z w)) (found_value_lem (node at k fs) x s (by_node f (field_as 0 z b)) (omega arith) g) r
  in_object t f s z (InProperty.beyond r) = In.beyond (further (PartAt.part a) r)

  in_item : {T : Texts} (t : Bool) → LieFields T 0 (array_fields t) fs → shape (node at k fs) ≡ array_pattern → i ≡ 0 → In T.barred (j ∷ i ∷ p) y u o x → In T.barred p (node at k gs) u o (node at k fs)
  unfolding items_at_of is
  in_item t f s z (In.spine {b = c} w g r) =
      In.spine (Below.item (array_is (node at k fs) s) (PartAt.part (field_as 0 z a)) (subst (λ (n : ℕ). Below c (j ∷ n ∷ p) y u o) z w)) (found_item (node at k fs) x s (by_node f (field_as 0 z b)) (part_depth (PartAt.part b)) g) r
  in_item t f s z (In.beyond r) = In.beyond (further (PartAt.part a) r)

  in_rest : {T : Texts} (t : Bool) → LieFields T 0 (array_fields t) fs → shape (node at k fs) ≡ array_pattern → i ≡ 1 → (T.barred Cause.array_rest → has_object_rest (as_node (piece_in fs 1)) ≡ false) → In T.barred (j ∷ i ∷ p) y u o x → In T.barred p (node at k gs) u o (node at k fs)
  unfolding node_at_of is
  in_rest t f s z v (In.spine {b = c} w g r) =
      let e : as_node (piece_in fs 1) ≡ x = by_node f (field_as 1 z b) in
      In.spine (Below.array_rest (array_is (node at k fs) s) (PartAt.part (field_as 1 z a)) (subst (λ (n : ℕ). Below c (j ∷ n ∷ p) y u o) z w))
      (found_rest (node at k fs) s (subst (λ (m : Node). depth m < depth (node at k fs)) (sym e) (part_depth (PartAt.part b))) (subst (λ (m : Node). Found c m) (sym e) g))
      (λ d y. not_found (as_node (piece_in fs 1)) (subst (λ (m : Node). Found c m) (sym e) g) (v d))
  in_rest t f s z v (In.beyond r) = In.beyond (further (PartAt.part a) r)

  in_left : {T : Texts} (t : Bool) → LieFields T 0 (default_fields t) fs → shape (node at k fs) ≡ Shape.default → i ≡ 0 → In T.barred (j ∷ i ∷ p) y u o x → In T.barred p (node at k gs) u o (node at k fs)
  unfolding node_at_of is
  in_left t f s z (In.spine {b = c} w g r) =
      let e : as_node (piece_in fs 0) ≡ x = by_node f (field_as 0 z b) in
      In.spine (Below.left (default_is (node at k fs) s) (PartAt.part (field_as 0 z a)) (subst (λ (n : ℕ). Below c (j ∷ n ∷ p) y u o) z w))
      (found_left (node at k fs) s (subst (λ (m : Node). depth m < depth (node at k fs)) (sym e) (part_depth (PartAt.part b))) (subst (λ (m : Node). Found c m) (sym e) g)) r
  in_left t f s z (In.beyond r) = In.beyond (further (PartAt.part a) r)

  in_value_lem : {T : Texts} (t : Bool) → LieFields T 0 (property_fields t) fs → i ≡ 1 → In T.barred (j ∷ i ∷ p) y u o x → InProperty T.barred p (node at k gs) u o (node at k fs)
  unfolding node_at_of
  in_value_lem t f z (In.spine {b = c} w g r) =
      let e : as_node (piece_in fs 1) ≡ x = by_node f (field_as 1 z b) in
      InProperty.spine (PartAt.part (field_as 1 z a)) (subst (λ (n : ℕ). Below c (j ∷ n ∷ p) y u o) z w) (subst (λ (m : Node). Found c m) (sym e) g) (subst (λ (m : Node). depth m < depth (node at k fs)) (sym e) (part_depth (PartAt.part b))) r
  in_value_lem t f z (In.beyond r) = InProperty.beyond (further (PartAt.part a) r)

  in_bound : {T : Texts} → LieFields T 0 bound_fields fs → i ≡ 0 → In T.barred (j ∷ i ∷ p) y u o x → InBound T.barred p (node at k gs) u o (node at k fs)
  unfolding node_at_of
  in_bound f z (In.spine {b = c} w g r) =
      let e : as_node (piece_in fs 0) ≡ x = by_node f (field_as 0 z b) in
      InBound.spine (PartAt.part (field_as 0 z a)) (subst (λ (n : ℕ). Below c (j ∷ n ∷ p) y u o) z w) (subst (λ (m : Node). Found c m) (sym e) g) r
  in_bound f z (In.beyond r) = InBound.beyond (further (PartAt.part a) r)

-- ---- holders

-- a declarator or a parameter
data Bound (T : Texts) : Node → Type 0 where
  bound : {at k : ℕ} {fs : Fields} → eqb k 34 ≡ false → LieFields T 0 bound_fields fs → Bound T (node at k fs)

declarator_kind : {T : Texts} (x : Node) → Lies T 4 x → kind x ≡ 5
unfolding allowed places also among kind_of
declarator_kind x l = Rattle.result.proofs.PlaceRows.lone 4 5 (kind x) refl (may_stand l)

param_kind : {T : Texts} (x : Node) → Lies T 7 x → kind x ≡ 15
unfolding allowed places also among kind_of
param_kind x l = Rattle.result.proofs.PlaceRows.lone 7 15 (kind x) refl (may_stand l)

declarator_bound : {T : Texts} (x : Node) → Lies T 4 x → Bound T x
declarator_bound (node at k fs) l = Bound.bound {k = k} (rw (declarator_kind (node at k fs) l) refl) (declarator_fields Rattle.lowering.specs.Answer.top l)

param_bound : {T : Texts} (x : Node) → Lies T 7 x → Bound T x
param_bound (node at k fs) l = Bound.bound {k = k} (rw (param_kind (node at k fs) l) refl) (param_fields l)

not_near : {A : Type 0} (x : Node) → Found false x → nearest true (depth x) x ≡ Items.none → A
unfolding is_empty
not_near x f h = absurd (true≢false (sym (ap is_empty h) ∙ f.near refl (depth x) (omega arith)))

-- a declarator
with_value : {B : Cause → Type 0} (b : Bool) {p u : List ℕ} {t y o v : Node} (x : Node) {i j m : ℕ} → PartAt t i j y → is 5 y ≡ true → stands 1 y ≡ true → PartAt y 0 m v → Below b (m ∷ 0 ∷ j ∷ i ∷ p) v u o → Found b x → (B Cause.array_rest → b ≡ true → ⊥)
    → nearest true (depth x) x ≡ Items.none → Due B p t u o
with_value true x a e s q w f r h = Due.due (Stands.onward a Stands.here) (Exception.below_array_rest e s q w) (λ v. r v refl)
with_value false x a e s q w f r h = not_near x f h

lacks_still : (x : Node) → stands 1 x ≡ false → lacks_value x ≡ false → Still x
unfolding lacks_value
lacks_still x s h = rw s at h

declared : {B : Cause → Type 0} {p u : List ℕ} {t x y o : Node} {i j : ℕ} → PartAt t i j y → Left x y → kind x ≡ 5 → Taken x → (B Cause.without_value → lacks_value x ≡ false) → InBound B (j ∷ i ∷ p) y u o x → Due B p t u o
unfolding is
declared {x = x} {y = y} a l k h g (InBound.spine {b = b} q w f r) =
    let n : is 20 x ≡ false = rw k refl in
    let e : is 5 y ≡ true = rw (left_kind l ∙ k) refl in
    by_test (stands 1 x)
    (λ s. with_value b (node_at_of 0 x) a e (left_stands l n 1 ∙ s) q w f r (h s))
    (λ s. Due.due (Stands.onward a Stands.here) (Exception.without_value e (left_stands l n 1 ∙ s) q w) (λ v. not_found (node_at_of 0 x) f (lacks_still x s (g v))))
declared a l k h g (InBound.beyond r) = further a r

-- a parameter that keeps no rest
still_param : {B : Cause → Type 0} {p u : List ℕ} {t x y o : Node} {i j : ℕ} → PartAt t i j y → Still x → InBound B (j ∷ i ∷ p) y u o x → Due B p t u o
still_param {x = x} a h (InBound.spine q w f r) = not_found (node_at_of 0 x) f h
still_param a h (InBound.beyond r) = further a r

-- a target that keeps no rest
still_target : {B : Cause → Type 0} {p u : List ℕ} {t x y o : Node} {i j : ℕ} → PartAt t i j y → has_object_rest x ≡ false → In B (j ∷ i ∷ p) y u o x → Due B p t u o
still_target {x = x} a h (In.spine w f r) = not_found x f h
still_target a h (In.beyond r) = further a r

-- a rest parameter
rest_param : {B : Cause → Type 0} {p u : List ℕ} {t x y o : Node} {i j : ℕ} → PartAt t i j y → is_rest_field t i ≡ true → (B Cause.rest_parameter → has_object_rest x ≡ false) → In B (j ∷ i ∷ p) y u o x → Due B p t u o
rest_param {x = x} a h g (In.spine w f r) = Due.due Stands.here (Exception.rest_parameter h a w) (λ b. not_found x f (g b))
rest_param a h g (In.beyond r) = further a r

-- a parameter of a function without body
bodiless : {B : Cause → Type 0} {p u : List ℕ} {t x y o : Node} {j : ℕ} → PartAt t 3 j y → is 14 t ≡ true → stands 5 t ≡ false → (B Cause.without_body → Still x) → InBound B (j ∷ 3 ∷ p) y u o x → Due B p t u o
bodiless {x = x} a e s g (InBound.spine q w f r) = Due.due Stands.here (Exception.without_body e s a q w) (λ b. not_found (node_at_of 0 x) f (g b))
bodiless a e s g (InBound.beyond r) = further a r

-- ---- what a node that has no cause keeps

function_rest : (at : ℕ) (fs : Fields) → shows Cause.rest_parameter (node at 14 fs) ≡ false → has_object_rest (as_node (piece_in fs 4)) ≡ false
unfolding shows is node_at_of
function_rest at fs h = or_left (has_object_rest (as_node (piece_in fs 4))) false h

arrow_rest : (at : ℕ) (fs : Fields) → shows Cause.rest_parameter (node at 17 fs) ≡ false → has_object_rest (as_node (piece_in fs 1)) ≡ false
unfolding shows is node_at_of
arrow_rest at fs h = h

bodiless_still : (at : ℕ) (fs : Fields) → stands_in fs 5 ≡ false → shows Cause.without_body (node at 14 fs) ≡ false → AllItems Still (as_items_of (piece_in fs 3))
unfolding shows is stands items_at_of
bodiless_still at fs s h = none_passes (λ q. has_object_rest (node_at_of 0 q)) (as_items_of (piece_in fs 3)) (rw s at h)

declaration_fine : (at : ℕ) (fs : Fields) → shows Cause.without_value (node at 4 fs) ≡ false → AllItems (λ d. lacks_value d ≡ false) (as_items_of (piece_in fs 2))
unfolding shows is items_at_of
declaration_fine at fs h = none_passes lacks_value (as_items_of (piece_in fs 2)) h

-- ---- the fields that lead to patterns

module _ {T : Texts} {p u : List ℕ} {at : ℕ} {gs : Fields} {i j : ℕ} {x y o : Node} (r : ℕ) (a : FieldAt gs i j y) (c : Comes x y)
    (into : (t w : Bool) (x : Node) → Left x y → Lies T (pattern_at t w) x → In T.barred (j ∷ i ∷ p) y u o x)
    (intoBound : (x : Node) → Left x y → Bound T x → InBound T.barred (j ∷ i ∷ p) y u o x)
    (out : (n : Node) (q : ℕ) → Left n y → Lies T q n → Settled n → is_outside q ≡ true → Due T.barred (j ∷ i ∷ p) y u o) where
  led_4 : {fs : Fields} → AllItems Taken (as_items_of (piece_in fs 2)) → Lies T r (node at 4 fs) → FieldAt fs i j x → i ≡ 2 → Due T.barred p (node at 4 gs) u o
  unfolding fields_of kinds among
  led_4 h l b z =
      let f = fields_at r 4 4 (must Sort.mark ∷ must (Sort.byte 1 3) ∷ must (Sort.many 4) ∷ []) refl (form_4 r (may_stand l)) refl l refl in
      let m : Lies T 4 x = lie_sort f (field_as 2 z b) in
      let q = quiet_left c 4 m refl in
      declared (PartAt.part a) q (declarator_kind x m) (item_at Taken (by_node f (field_as 2 z b)) h) (λ v. item_at (λ d. lacks_value d ≡ false) (by_node f (field_as 2 z b)) (declaration_fine at _ (shown_of l refl Cause.without_value v))) (intoBound x q (declarator_bound x m))

  led_27 : {fs : Fields} → has_object_rest (as_node (piece_in fs 1)) ≡ false → Lies T r (node at 27 fs) → FieldAt fs i j x → i ≡ 1 → Due T.barred p (node at 27 gs) u o
  unfolding fields_of kinds among
  led_27 h l b z =
      let f = fields_at r 27 27 (must (Sort.byte 1 2) ∷ must (Sort.chosen 19 20) ∷ must (Sort.child 3) ∷ []) refl (form_27 r (takes_27 r (may_stand l))) refl l refl in
      let m : Lies T 19 x = chosen (lie_sort f (field_as 1 z b)) in
      still_target (PartAt.part a) (ap has_object_rest (sym (by_node f (field_as 1 z b))) ∙ h) (into true false x (quiet_left c 19 m refl) m)
    where
      chosen : (o : Bool) × Lies T (cond o 19 20) x → Lies T 19 x
      chosen q = go q.0 q.1
        where
          go : (o : Bool) → Lies T (cond o 19 20) x → Lies T 19 x
          go true m = m
          go false m = target_of m

  led_for : (k : ℕ) (ts : List Field) → eqb k 20 ≡ false → (0 < form_at rewritten r k → form_at rewritten r k ≡ k) → fields_of k ≡ for_fields Rattle.lowering.specs.Answer.top ts → {fs : Fields}
      → (is 4 (as_node (piece_in fs 1)) ≡ false → has_object_rest (as_node (piece_in fs 1)) ≡ false) → Lies T r (node at k fs) → FieldAt fs i j x → i ≡ 1 → Due T.barred p (node at k gs) u o
  unfolding among form_at allowed places also form_in kind_of is
  led_for k ts t g u h l b z =
      let f = fields_at r k k (for_fields Rattle.lowering.specs.Answer.top ts) t (g (may_stand l)) u l refl in
      let m : Lies T 21 x = lie_sort f (field_as 1 z b) in
      let e : as_node (piece_in _ 1) ≡ x = by_node f (field_as 1 z b) in
      by_test (is 4 x)
      (λ d.
      let n : Lies T 1 x = lie.moved 1 (ap (form_at rewritten 1) (eqb-true (kind x) 4 d) ∙ ap (form_at rewritten 21) (sym (eqb-true (kind x) 4 d))) m in
      let v = from_at c 1 n in
      further (PartAt.part a) (out v.before 1 v.left v.lies v.calm refl))
      (λ d.
      let n : Lies T 19 x = head_target Rattle.lowering.specs.Answer.top x m d in
      still_target (PartAt.part a) (ap has_object_rest (sym e) ∙ h (ap (is 4) e ∙ d)) (into true false x (quiet_left c 19 n refl) n))

  led_14 : {fs : Fields} → ComeFields fs gs → (stands_in fs 5 ≡ true → AllItems Still (as_items_of (piece_in fs 3))) → Lies T r (node at 14 fs) → FieldAt fs i j x → (eqb i 3 || eqb i 4) ≡ true → Due T.barred p (node at 14 gs) u o
  unfolding is_rest_field is stands among
  led_14 {fs = fs} cs h l b e = go (function_forms r (may_stand l))
    where
      go : FunctionForm (form_at rewritten r 14) → Due T.barred p (node at 14 gs) u o
      go (FunctionForm.function_form {low = low} {high = high} g) =
          let f = fields_at r 14 (form_at rewritten r 14) (function_fields low high) refl refl g l refl in
          by_test (eqb i 3)
          (λ t.
          let z : i ≡ 3 = eqb-true i 3 t in
          let m : Lies T 7 x = lie_sort f (field_as 3 z b) in
          let q = quiet_left c 7 m refl in
          by_test (stands_in fs 5)
          (λ s. still_param (PartAt.part a) (item_at Still (by_node f (field_as 3 z b)) (h s)) (intoBound x q (param_bound x m)))
          (λ s. bodiless (PartAt.part (field_as 3 z a)) refl (come_stands cs 5 ∙ s) (λ v. item_at Still (by_node f (field_as 3 z b)) (bodiless_still at fs s (shown_of l refl Cause.without_body v))) (subst (λ (n : ℕ). InBound T.barred (j ∷ n ∷ p) y u o x) z (intoBound x q (param_bound x m)))))
          (λ t.
          let z : i ≡ 4 = eqb-true i 4 (or_other (eqb i 3) (eqb i 4) t e) in
          let m : Lies T 15 x = lie_sort f (field_as 4 z b) in
          rest_param (PartAt.part a) (rw z refl) (λ v. ap has_object_rest (sym (by_node f (field_as 4 z b))) ∙ function_rest at fs (shown_of l refl Cause.rest_parameter v)) (into false false x (quiet_left c 15 m refl) m))

  led_17 : {fs : Fields} → AllItems Still (as_items_of (piece_in fs 0)) → Lies T r (node at 17 fs) → FieldAt fs i j x → (eqb i 0 || eqb i 1) ≡ true → Due T.barred p (node at 17 gs) u o
  unfolding is_rest_field is among fields_of kinds
  led_17 {fs = fs} h l b e =
      let f = fields_at r 17 17 (must (Sort.many 7) ∷ may (Sort.child 15) ∷ must (Sort.child 9) ∷ []) refl (form_17 r (may_stand l)) refl l refl in
      by_test (eqb i 0)
      (λ t.
      let z : i ≡ 0 = eqb-true i 0 t in
      let m : Lies T 7 x = lie_sort f (field_as 0 z b) in
      still_param (PartAt.part a) (item_at Still (by_node f (field_as 0 z b)) h) (intoBound x (quiet_left c 7 m refl) (param_bound x m)))
      (λ t.
      let z : i ≡ 1 = eqb-true i 1 (or_other (eqb i 0) (eqb i 1) t e) in
      let m : Lies T 15 x = lie_sort f (field_as 1 z b) in
      rest_param (PartAt.part a) (rw z refl) (λ v. ap has_object_rest (sym (by_node f (field_as 1 z b))) ∙ arrow_rest at fs (shown_of l refl Cause.rest_parameter v)) (into false false x (quiet_left c 15 m refl) m))

  led_10 : {fs : Fields} → Still (as_node (piece_in fs 0)) → Lies T r (node at 10 fs) → FieldAt fs i j x → i ≡ 0 → Due T.barred p (node at 10 gs) u o
  unfolding among fields_of kinds
  led_10 h l b z =
      let f = fields_at r 10 10 (may (Sort.child 7) ∷ must (Sort.child 5) ∷ []) refl (form_10 r (may_stand l)) refl l refl in
      let m : Lies T 7 x = lie_sort f (field_as 0 z b) in
      still_param (PartAt.part a) (subst Still (by_node f (field_as 0 z b)) h) (intoBound x (quiet_left c 7 m refl) (param_bound x m))

  led : {k : ℕ} {fs : Fields} → Settled (node at k fs) → Lies T r (node at k fs) → ComeFields fs gs → FieldAt fs i j x → leads k i ≡ true → Due T.barred p (node at k gs) u o
  unfolding leads fields_of kinds
  led (Settled.of_literal h) l cs b e = absurd (true≢false (sym e))
  led (Settled.of_declaration h) l cs b e = led_4 h l b (eqb-true i 2 e)
  led (Settled.of_assignment h) l cs b e = led_27 h l b (eqb-true i 1 e)
  led (Settled.of_function h) l cs b e = led_14 cs h l b e
  led (Settled.of_arrow h) l cs b e = led_17 h l b e
  led (Settled.of_catch h) l cs b e = led_10 h l b (eqb-true i 0 e)
  led (Settled.of_for_in h) l cs b e = led_for 7 [] refl (form_7 r) refl h l b (eqb-true i 1 e)
  led (Settled.of_for_of h) l cs b e = led_for 8 (may (Sort.byte 0 1) ∷ []) refl (form_8 r) refl h l b (eqb-true i 1 e)
  led (Settled.of_other e₁ e₂ e₃ e₄ e₅ e₆ e₇ e₈) l cs b e = absurd (true≢false (sym e ∙ rw (e₂, e₄, e₅, e₆, e₃, e₇, e₈) refl))

-- ---- the path

outside_not : {T : Texts} {r y : Node} {p : ℕ} → Left r y → Lies T p r → is_outside p ≡ true → is 34 y ≡ true → ⊥
unfolding is
outside_not {r = r} {p = p} l m o k = true≢false (sym (subst (λ (j : ℕ). eqb j 34 ≡ true) (left_kind l) k) ∙ (outside_tidy p (kind r) o (may_stand m)).0)

property_not : {T : Texts} {x y : Node} (t : Bool) → Left x y → Lies T (property_at t) x → is 34 y ≡ true → ⊥
unfolding is
property_not {x = x} t l m k = true≢false (sym (subst (λ (j : ℕ). eqb j 34 ≡ true) (left_kind l ∙ property_only t (kind x) (may_stand m)) k))

bound_not : {T : Texts} {x y : Node} → Left x y → Bound T x → is 34 y ≡ true → ⊥
unfolding is
bound_not l (Bound.bound e f) k = true≢false (sym (subst (λ (j : ℕ). eqb j 34 ≡ true) (left_kind l) k) ∙ e)

mutual
  inside : {T : Texts} {p q : List ℕ} {y o : Node} → Stands p y q o → (t w : Bool) {x : Node} → Left x y → Lies T (pattern_at t w) x → keeps_rest o ≡ true → In T.barred p y q o x
  inside Stands.here t w {x = x} l m k = let h = keeps_back l k in In.spine Below.here (found_here x h.0 h.1) (λ v z. true≢false (sym z))
  inside {T = T} (Stands.onward {p = p} (PartAt.part {at = at} {k = n} {fs = gs} {i = i} {j = j} a) s) t w (Left.kept {fs = fs} e cs) m k =
      let b = come_field cs a in
      by_shape (shape (node at n fs))
      (λ sh.
      let f = fields_at (pattern_at t w) 34 (form_of t 34) (object_fields t) refl (object_form t w) (object_fields_lem t) m (is_kind 34 (node at n fs) (object_is (node at n fs) sh)) in
      object_field t i (lie_sort f b.1)
      (λ z l. in_object a b.1 t f sh z (property s t (quiet_left b.2 (property_at t) l (quiet_property t)) l k))
      (λ l. let v = from_at b.2 (leaf_at t) l in In.beyond (further (PartAt.part a) (outside s v.left (leaf_at t) v.lies v.calm (outside_leaf t) k))))
      (λ sh.
      let f = fields_at (pattern_at t w) 36 (form_of t 36) (array_fields t) refl (array_form t w) (array_fields_lem t) m (is_kind 36 (node at n fs) (array_is (node at n fs) sh)) in
      array_field t i (lie_sort f b.1)
      (λ z l. in_item a b.1 t f sh z (inside s t true (quiet_left b.2 (value_at t) l (quiet_pattern t true)) l k))
      (λ z l. in_rest a b.1 t f sh z (λ v. array_rest_lem (subst (λ (j : ℕ). Lies T (pattern_at t w) (node at j fs)) (is_kind 36 (node at n fs) (array_is (node at n fs) sh)) m) v) (inside s t false (quiet_left b.2 (whole_at t) l (quiet_pattern t false)) l k)))
      (λ sh.
      let f = default_at_lem t w m sh in
      default_field t i (lie_sort f b.1)
      (λ z l. in_left a b.1 t f sh z (inside s t false (quiet_left b.2 (whole_at t) l (quiet_pattern t false)) l k))
      (λ l. let v = from_at b.2 3 l in In.beyond (further (PartAt.part a) (outside s v.left 3 v.lies v.calm outside_3 k))))
      (λ sh.
      let l = pattern_leaf t w (node at n fs) m sh in
      let f = fields_of_lem l e in
      let q = out_place (sort_at (fields_of (form_at rewritten (leaf_at t) n)) i) (leaf_out (leaf_at t) n (leaf_among t) f.0 i) (lie_sort f.1 b.1) in
      let v = from_at b.2 q.0 q.2 in
      In.beyond (further (PartAt.part a) (outside s v.left q.0 v.lies v.calm q.1 k)))
  inside (Stands.onward (PartAt.part a) s) t w (Left.named c) m k = absurd (true≢false (sym (held a)))

  property : {T : Texts} {p q : List ℕ} {y o : Node} → Stands p y q o → (t : Bool) {x : Node} → Left x y → Lies T (property_at t) x → keeps_rest o ≡ true → InProperty T.barred p y q o x
  property (Stands.here {n = y}) t l m k = absurd (property_not t l m (keeps_is y k))
  property (Stands.onward (PartAt.part {at = at} {k = n} {i = i} a) s) t (Left.kept {fs = fs} e cs) m k =
      let b = come_field cs a in
      let f = fields_at (property_at t) 35 (form_of t 35) (property_fields t) refl (property_form t) (property_fields_lem t) m (property_only t n (may_stand m)) in
      property_field t i (lie_sort f b.1)
      (λ l. let v = from_at b.2 11 l in InProperty.beyond (further (PartAt.part a) (outside s v.left 11 v.lies v.calm outside_11 k)))
      (λ z l. in_value_lem a b.1 t f z (inside s t true (quiet_left b.2 (value_at t) l (quiet_pattern t true)) l k))
  property (Stands.onward (PartAt.part a) s) t (Left.named c) m k = absurd (true≢false (sym (held a)))

  bounded : {T : Texts} {p q : List ℕ} {y o : Node} → Stands p y q o → {x : Node} → Left x y → Bound T x → keeps_rest o ≡ true → InBound T.barred p y q o x
  bounded (Stands.here {n = y}) l m k = absurd (bound_not l m (keeps_is y k))
  bounded (Stands.onward (PartAt.part {i = i} a) s) (Left.kept e cs) (Bound.bound n f) k =
      let b = come_field cs a in
      bound_field i (lie_sort f b.1)
      (λ z l. in_bound a b.1 f z (inside s false false (quiet_left b.2 15 l (quiet_pattern false false)) l k))
      (λ l. let v = from_at b.2 3 l in InBound.beyond (further (PartAt.part a) (outside s v.left 3 v.lies v.calm outside_3 k)))
  bounded (Stands.onward (PartAt.part a) s) (Left.named c) m k = absurd (true≢false (sym (held a)))

  outside : {T : Texts} {p q : List ℕ} {y o : Node} → Stands p y q o → {r : Node} → Left r y → (n : ℕ) → Lies T n r → Settled r → is_outside n ≡ true → keeps_rest o ≡ true → Due T.barred p y q o
  outside (Stands.here {n = y}) l n m st u k = absurd (outside_not l m u (keeps_is y k))
  outside (Stands.onward (PartAt.part {k = h} {i = i} a) s) (Left.kept {fs = fs} e cs) n m st u k =
      let b = come_field cs a in
      let f = fields_of_lem m e in
      let d = (outside_tidy n h u f.0).1 i in
      by_test (out_sort (sort_at (fields_of (form_at rewritten n h)) i))
      (λ t.
      let q = out_place (sort_at (fields_of (form_at rewritten n h)) i) t (lie_sort f.1 b.1) in
      let v = from_at b.2 q.0 q.2 in
      further (PartAt.part a) (outside s v.left q.0 v.lies v.calm q.1 k))
      (λ t.
      led n a b.2
      (λ t w x l z. inside s t w l z k) (λ x l z. bounded s l z k) (λ r q l z c o. outside s l q z c o k)
      st m cs b.1 (or_other (out_sort (sort_at (fields_of (form_at rewritten n h)) i)) (leads h i) t d))
  outside (Stands.onward (PartAt.part a) s) (Left.named c) n m st u k = absurd (true≢false (sym (held a)))

-- every rest that stands in what is left of a node, at a place outside patterns, is one of the exceptions, and its cause is not barred
pub rests_remain : {T : Texts} {x y : Node} → Comes x y → (n : ℕ) → Lies T n x → is_outside n ≡ true → {p q : List ℕ} {o : Node} → Stands p y q o → keeps_rest o ≡ true → Due T.barred p y q o
rests_remain c n l u s k = let v = from_at c n l in outside s v.left n v.lies v.calm u k

-- with every cause of the tree barred that a node n does not have, the causes occur in n
pub due_caused : {n : Node} {p c : List ℕ} {t x : Node} → Due (λ s. (of_tree_of s ≡ true) × Without s n) p t c x → Caused n Section.tree p t c x
due_caused {n = n} {c = c} {x = x} (Due.due {q = q} {h = h} s e o) = Caused.caused s e (occurs_unless (cause_of e) n (λ w. o (of_tree e, w)))
  where
    of_tree : (e : Exception q h c x Section.tree) → of_tree_of (cause_of e) ≡ true
    of_tree (Exception.below_array_rest a b d f) = refl
    of_tree (Exception.rest_parameter a b d) = refl
    of_tree (Exception.without_body a b d f g) = refl
    of_tree (Exception.without_value a b d f) = refl
