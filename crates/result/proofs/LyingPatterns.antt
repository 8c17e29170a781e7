-- Patterns that lie at a place, taken apart and put together. Those that bind and those that are targets have places and forms of their
-- own; `t` says which they are: false for binding, true for targets.
-- Assumes nothing.
use mathlib.Core.Path.{◌≡◌, refl, sym, ap, subst, ◌∙◌}
use mathlib.Core.Bool.{Bool, true, false}
use mathlib.Core.List.{List, [], ◌∷◌}
use Prim.Native.Nat.{ℕ, ◌+◌, ◌<◌, ◌≤◌}
use native.Mathlib.Omega.{arith}
use lib.Dec.{eqb}
use Rattle.tree.specs.Tree.{Node, Fields, Items}
use Rattle.tree.specs.Tree.Node.{node}
use Rattle.tree.specs.Tree.Fields.{done, absent, field}
use Rattle.tree.specs.Tree.Piece.{one, list, byte}
use Rattle.tree.specs.Grammar.{Sort, Field, places, allowed, also, among, kind_of, form_in, form_at, fields_of, kinds, variants}
use Rattle.tree.specs.Grammar.Stage.{rewritten}
use Rattle.lowering.specs.Parts.{is, node_at_of, piece_in, as_node}
use Rattle.lowering.specs.Patterns.{Shape, shape, has_object_rest}
use Rattle.lowering.specs.Patterns.Shape.{object_pattern, array_pattern}
use Rattle.lowering.proofs.Cases.{object_is, array_is, default_is, is_kind}
use Rattle.lowering.proofs.Levels.{has_nothing}
use Rattle.result.specs.Left.{keeps_rest}
use Rattle.result.specs.Causes.{Cause, shows}
use Rattle.result.proofs.PlaceRows.{lone}
use Rattle.result.proofs.Lies.{Texts, is_made, make_shown, shown_of, Lies, LieFields, LiePiece, LieItems, make, apart, may_stand}

-- ---- places and forms

-- a whole pattern; a value of a property or an item of an array; a property; the rest of an object
abbrev pub whole_at : Bool → ℕ
whole_at false = 15
whole_at true = 19

abbrev pub value_at : Bool → ℕ
value_at false = 18
value_at true = 23

abbrev pub property_at : Bool → ℕ
property_at false = 17
property_at true = 22

abbrev pub leaf_at : Bool → ℕ
leaf_at false = 16
leaf_at true = 20

-- where a pattern stands: as a whole, or as a value
abbrev pub pattern_at : Bool → Bool → ℕ
pattern_at t false = whole_at t
pattern_at t true = value_at t

-- the forms of 34 to 37
abbrev pub form_of : Bool → ℕ → ℕ
form_of false k = k
form_of true k = k + 32

module _ (t : Bool) where
  abbrev pub object_fields : List Field
  object_fields = Field.must (Sort.many (property_at t)) ∷ Field.may (Sort.child (leaf_at t)) ∷ []

  abbrev pub property_fields : List Field
  property_fields = Field.must (Sort.child 11) ∷ Field.must (Sort.child (value_at t)) ∷ Field.must (Sort.byte 0 3) ∷ []

  abbrev pub array_fields : List Field
  array_fields = Field.must (Sort.gaps (value_at t)) ∷ Field.may (Sort.child (whole_at t)) ∷ []

  abbrev pub default_fields : List Field
  default_fields = Field.must (Sort.child (whole_at t)) ∷ Field.must (Sort.child 3) ∷ []

pub object_fields_lem : (t : Bool) → fields_of (form_of t 34) ≡ object_fields t
unfolding fields_of kinds variants
object_fields_lem false = refl
object_fields_lem true = refl

pub property_fields_lem : (t : Bool) → fields_of (form_of t 35) ≡ property_fields t
unfolding fields_of kinds variants
property_fields_lem false = refl
property_fields_lem true = refl

pub array_fields_lem : (t : Bool) → fields_of (form_of t 36) ≡ array_fields t
unfolding fields_of kinds variants
array_fields_lem false = refl
array_fields_lem true = refl

pub default_fields_lem : (t : Bool) → fields_of (form_of t 37) ≡ default_fields t
unfolding fields_of kinds variants
default_fields_lem false = refl
default_fields_lem true = refl

pub object_form : (t w : Bool) → form_at rewritten (pattern_at t w) 34 ≡ form_of t 34
unfolding form_at allowed places also among form_in kind_of
object_form false false = refl
object_form false true = refl
object_form true false = refl
object_form true true = refl

pub array_form : (t w : Bool) → form_at rewritten (pattern_at t w) 36 ≡ form_of t 36
unfolding form_at allowed places also among form_in kind_of
array_form false false = refl
array_form false true = refl
array_form true false = refl
array_form true true = refl

pub default_form : (t : Bool) → form_at rewritten (value_at t) 37 ≡ form_of t 37
unfolding form_at allowed places also among form_in kind_of
default_form false = refl
default_form true = refl

no_default : (t : Bool) → form_at rewritten (whole_at t) 37 ≡ 0
unfolding form_at allowed places also among form_in kind_of
no_default false = refl
no_default true = refl

pub property_form : (t : Bool) → form_at rewritten (property_at t) 35 ≡ form_of t 35
unfolding form_at allowed places also among form_in kind_of
property_form false = refl
property_form true = refl

pub temporary_form : (t w : Bool) → 0 < form_at rewritten (pattern_at t w) 20
unfolding form_at allowed places also among form_in kind_of
temporary_form false false = omega arith
temporary_form false true = omega arith
temporary_form true false = omega arith
temporary_form true true = omega arith

form_pos : (t : Bool) (k : ℕ) → 0 < k → 0 < form_of t k
form_pos false k a = omega arith
form_pos true k a = omega arith

-- at the place of a property nothing else stands
pub property_only : (t : Bool) (k : ℕ) → 0 < form_at rewritten (property_at t) k → k ≡ 35
unfolding allowed places also among kind_of
property_only false k h = lone 17 35 k refl h
property_only true k h = lone 22 67 k refl h

-- ---- taken apart

-- the fields of a node of a known kind at a place
pub fields_at : {T : Texts} (p j f : ℕ) (ts : List Field) → eqb j 20 ≡ false → form_at rewritten p j ≡ f → fields_of f ≡ ts → {at k : ℕ} {fs : Fields} → Lies T p (node at k fs) → k ≡ j → LieFields T 0 ts fs
fields_at {T = T} p j f ts t e g {at = at} {fs = fs} l q =
    subst (λ (us : List Field). LieFields T 0 us fs) g
    (apart f (subst (λ (i : ℕ). Lies T p (node at i fs)) q l) t e)

-- 34 ObjectPattern(properties* rest?), by the places of its properties and its rest
pub data ObjectView (T : Texts) (a b : ℕ) : Node → Type 0 where
  plain : {at : ℕ} {ps : Items} → LieItems T a false ps → ObjectView T a b (node at 34 (field (list ps) (absent done)))
  rested : {at : ℕ} {ps : Items} {r : Node} → LieItems T a false ps → Lies T b r → ObjectView T a b (node at 34 (field (list ps) (field (one r) done)))

-- 35 PatternProperty(key value flags=), by the place of its value
pub data PropertyView (T : Texts) (a : ℕ) : Node → Type 0 where
  property : {at flags : ℕ} {key value : Node} → Lies T 11 key → Lies T a value → flags ≤ 3
      → PropertyView T a (node at 35 (field (one key) (field (one value) (field (byte flags) done))))

-- 36 ArrayPattern(items* rest?), by the places of its items and its rest
pub data ArrayView (T : Texts) (a b : ℕ) : Node → Type 0 where
  plain : {at : ℕ} {is : Items} → LieItems T a true is → ArrayView T a b (node at 36 (field (list is) (absent done)))
  rested : {at : ℕ} {is : Items} {r : Node} → LieItems T a true is → Lies T b r → (T.barred Cause.array_rest → has_object_rest r ≡ false) → ArrayView T a b (node at 36 (field (list is) (field (one r) done)))

-- 37 Default(left right), by the place of its left
pub data DefaultView (T : Texts) (a : ℕ) : Node → Type 0 where
  defaulted : {at : ℕ} {left right : Node} → Lies T a left → Lies T 3 right → DefaultView T a (node at 37 (field (one left) (field (one right) done)))

object_parts : {T : Texts} {a b at : ℕ} {gs : Fields} → LieFields T 0 (Field.must (Sort.many a) ∷ Field.may (Sort.child b) ∷ []) gs → ObjectView T a b (node at 34 gs)
object_parts (LieFields.needed (LiePiece.many x) (LieFields.absent LieFields.done)) = ObjectView.plain x
object_parts (LieFields.needed (LiePiece.many x) (LieFields.given (LiePiece.child r) LieFields.done)) = ObjectView.rested x r

array_parts : {T : Texts} {a b at : ℕ} {gs : Fields} → (T.barred Cause.array_rest → has_object_rest (as_node (piece_in gs 1)) ≡ false) → LieFields T 0 (Field.must (Sort.gaps a) ∷ Field.may (Sort.child b) ∷ []) gs → ArrayView T a b (node at 36 gs)
unfolding piece_in
array_parts u (LieFields.needed (LiePiece.gaps x) (LieFields.absent LieFields.done)) = ArrayView.plain x
array_parts u (LieFields.needed (LiePiece.gaps x) (LieFields.given (LiePiece.child r) LieFields.done)) = ArrayView.rested x r u

property_parts : {T : Texts} {a at : ℕ} {gs : Fields} → LieFields T 0 (Field.must (Sort.child 11) ∷ Field.must (Sort.child a) ∷ Field.must (Sort.byte 0 3) ∷ []) gs → PropertyView T a (node at 35 gs)
property_parts (LieFields.needed (LiePiece.child k) (LieFields.needed (LiePiece.child v) (LieFields.needed (LiePiece.byte c d e) LieFields.done))) = PropertyView.property k v d

default_parts : {T : Texts} {a at : ℕ} {gs : Fields} → LieFields T 0 (Field.must (Sort.child a) ∷ Field.must (Sort.child 3) ∷ []) gs → DefaultView T a (node at 37 gs)
default_parts (LieFields.needed (LiePiece.child l) (LieFields.needed (LiePiece.child r) LieFields.done)) = DefaultView.defaulted l r

pub array_rest_lem : {T : Texts} {p at : ℕ} {fs : Fields} → Lies T p (node at 36 fs) → T.barred Cause.array_rest → has_object_rest (as_node (piece_in fs 1)) ≡ false
unfolding shows is node_at_of
array_rest_lem l v = shown_of l refl Cause.array_rest v

module _ (t w : Bool) where
  pub object_view : {T : Texts} (n : Node) → Lies T (pattern_at t w) n → shape n ≡ object_pattern → ObjectView T (property_at t) (leaf_at t) n
  object_view {T = T} (node at k fs) l e =
      let q : k ≡ 34 = is_kind 34 (node at k fs) (object_is (node at k fs) e) in
      subst (λ (j : ℕ). ObjectView T (property_at t) (leaf_at t) (node at j fs)) (sym q)
      (object_parts (fields_at (pattern_at t w) 34 (form_of t 34) (object_fields t) refl (object_form t w) (object_fields_lem t) l q))

  pub array_view : {T : Texts} (n : Node) → Lies T (pattern_at t w) n → shape n ≡ array_pattern → ArrayView T (value_at t) (whole_at t) n
  array_view {T = T} (node at k fs) l e =
      let q : k ≡ 36 = is_kind 36 (node at k fs) (array_is (node at k fs) e) in
      subst (λ (j : ℕ). ArrayView T (value_at t) (whole_at t) (node at j fs)) (sym q)
      (array_parts (λ v. array_rest_lem (subst (λ (j : ℕ). Lies T (pattern_at t w) (node at j fs)) q l) v) (fields_at (pattern_at t w) 36 (form_of t 36) (array_fields t) refl (array_form t w) (array_fields_lem t) l q))

module _ (t : Bool) where
  pub property_view : {T : Texts} (n : Node) → Lies T (property_at t) n → PropertyView T (value_at t) n
  property_view {T = T} (node at k fs) l =
      let q : k ≡ 35 = property_only t k (may_stand l) in
      subst (λ (j : ℕ). PropertyView T (value_at t) (node at j fs)) (sym q)
      (property_parts (fields_at (property_at t) 35 (form_of t 35) (property_fields t) refl (property_form t) (property_fields_lem t) l q))

  pub default_view : {T : Texts} (n : Node) → Lies T (value_at t) n → shape n ≡ Shape.default → DefaultView T (whole_at t) n
  default_view {T = T} (node at k fs) l e =
      let q : k ≡ 37 = is_kind 37 (node at k fs) (default_is (node at k fs) e) in
      subst (λ (j : ℕ). DefaultView T (whole_at t) (node at j fs)) (sym q)
      (default_parts (fields_at (value_at t) 37 (form_of t 37) (default_fields t) refl (default_form t) (default_fields_lem t) l q))

  -- a Default stands as a value only
  pub no_default_whole : {T : Texts} (n : Node) → Lies T (whole_at t) n → shape n ≡ Shape.default → ⊥
  no_default_whole (node at k fs) l e =
      let q : k ≡ 37 = is_kind 37 (node at k fs) (default_is (node at k fs) e) in
      let z : form_at rewritten (whole_at t) k ≡ 0 = ap (form_at rewritten (whole_at t)) q ∙ no_default t in
      let y = may_stand l in
      omega arith

-- ---- put together

module _ (t w : Bool) where
  put : {T : Texts} (k : ℕ) (ts : List Field) → is_made k ≡ true → 0 < k → form_at rewritten (pattern_at t w) k ≡ form_of t k → fields_of (form_of t k) ≡ ts → {at : ℕ} {fs : Fields} → LieFields T 0 ts fs → Lies T (pattern_at t w) (node at k fs)
  put {T = T} k ts e z f g {fs = fs} l = make (pattern_at t w) k (form_of t k) f (form_pos t k z) e (subst (λ (us : List Field). LieFields T 0 us fs) (sym g) l)

  pub object_plain : {T : Texts} {at : ℕ} {ps : Items} → LieItems T (property_at t) false ps → Lies T (pattern_at t w) (node at 34 (field (list ps) (absent done)))
  object_plain a = put 34 (object_fields t) refl (omega arith) (object_form t w) (object_fields_lem t) (LieFields.needed (LiePiece.many a) (LieFields.absent LieFields.done))

  pub object_rested : {T : Texts} {at : ℕ} {ps : Items} {r : Node} → LieItems T (property_at t) false ps → Lies T (leaf_at t) r → Lies T (pattern_at t w) (node at 34 (field (list ps) (field (one r) done)))
  object_rested a r = put 34 (object_fields t) refl (omega arith) (object_form t w) (object_fields_lem t) (LieFields.needed (LiePiece.many a) (LieFields.given (LiePiece.child r) LieFields.done))

  put_array : {T : Texts} {at : ℕ} {fs : Fields} → (T.barred Cause.array_rest → has_object_rest (as_node (piece_in fs 1)) ≡ false) → LieFields T 0 (array_fields t) fs → Lies T (pattern_at t w) (node at 36 fs)
  unfolding shows keeps_rest is node_at_of
  put_array {T = T} {at = at} {fs = fs} u l =
      make_shown (pattern_at t w) 36 (form_of t 36) (array_form t w) (form_pos t 36 (omega arith)) refl shown (subst (λ (us : List Field). LieFields T 0 us fs) (sym (array_fields_lem t)) l)
    where
      shown : (s : Cause) → T.barred s → shows s (node at 36 fs) ≡ false
      shown Cause.rest_parameter b = refl
      shown Cause.without_body b = refl
      shown Cause.array_rest b = u b
      shown Cause.without_value b = refl
      shown Cause.in_key b = refl
      shown Cause.in_template b = refl

  pub array_plain : {T : Texts} {at : ℕ} {is : Items} → LieItems T (value_at t) true is → Lies T (pattern_at t w) (node at 36 (field (list is) (absent done)))
  unfolding piece_in
  array_plain a = put_array (λ u. has_nothing _) (LieFields.needed (LiePiece.gaps a) (LieFields.absent LieFields.done))

  pub array_rested : {T : Texts} {at : ℕ} {is : Items} {r : Node} → LieItems T (value_at t) true is → Lies T (whole_at t) r → (T.barred Cause.array_rest → has_object_rest r ≡ false)
      → Lies T (pattern_at t w) (node at 36 (field (list is) (field (one r) done)))
  unfolding piece_in
  array_rested a r u = put_array u (LieFields.needed (LiePiece.gaps a) (LieFields.given (LiePiece.child r) LieFields.done))

module _ (t : Bool) where
  pub property_made : {T : Texts} {at flags : ℕ} {key value : Node} → Lies T 11 key → Lies T (value_at t) value → flags ≤ 3
      → Lies T (property_at t) (node at 35 (field (one key) (field (one value) (field (byte flags) done))))
  property_made {T = T} {flags = flags} {key = key} {value = value} a b c =
      make (property_at t) 35 (form_of t 35) (property_form t) (form_pos t 35 (omega arith)) refl
      (subst (λ (us : List Field). LieFields T 0 us (field (one key) (field (one value) (field (byte flags) done)))) (sym (property_fields_lem t))
      (LieFields.needed (LiePiece.child a) (LieFields.needed (LiePiece.child b) (LieFields.needed (LiePiece.byte (omega arith) c (omega arith)) LieFields.done))))

  pub default_made : {T : Texts} {at : ℕ} {left right : Node} → Lies T (whole_at t) left → Lies T 3 right → Lies T (value_at t) (node at 37 (field (one left) (field (one right) done)))
  default_made {T = T} {left = left} {right = right} a b =
      make (value_at t) 37 (form_of t 37) (default_form t) (form_pos t 37 (omega arith)) refl
      (subst (λ (us : List Field). LieFields T 0 us (field (one left) (field (one right) done))) (sym (default_fields_lem t))
      (LieFields.needed (LiePiece.child a) (LieFields.needed (LiePiece.child b) LieFields.done)))
