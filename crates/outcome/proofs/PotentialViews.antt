-- The views of patterns: what is found below a pattern and what is left of it have together no more potential than the pattern.
-- Assumes nothing.
use mathlib.Core.Path.{◌≡◌, refl, sym, ap, ap₂, ◌∙◌, subst}
use mathlib.Core.Bool.{Bool, true, false, cond, ◌&&◌, false≢true}
use mathlib.Core.List.{List}
use Prim.Native.Nat.{ℕ, zero, suc, ◌+◌, ◌≤◌}
use native.Mathlib.Omega.{arith}
use lib.Dec.{eqb}
use borrow.Author.Tests.{eqb-true}
use Rattle.tree.specs.Tree.{Node, Fields, Piece, Items, depth}
use Rattle.tree.specs.Tree.Node.{node}
use Rattle.lowering.specs.Parts.{nothing, position, is, piece_in, change_in, as_node, as_items_of, node_at_of, items_at_of, stands, change, on_node, on_items, change_node, without, only, each, gather, ◌+++◌}
use Rattle.lowering.specs.Made.{Context, temporary, reference, key_of, string}
use Rattle.lowering.specs.Patterns.{shape, properties, items_of, rest, has_rest_of, left_of, key, value, with_left, with_items, with_rest, with_properties, with_values, replaced, objects_with_rest}
use Rattle.lowering.specs.Patterns.Shape.{object_pattern, array_pattern, default, leaf}
use Rattle.lowering.specs.Keys.{key_sort, excluded_key, excluded_keys, kept_key, taken, entry_of, key_text}
use Rattle.lowering.specs.Assignments.{is_top, nearest, parts_of, parts_replaced}
use Rattle.lowering.specs.Heads.{moved, moved_pattern, moved_out_of}
use Rattle.lowering.proofs.All.{AllItems, other_changed}
use Rattle.lowering.proofs.Cases.{by_test, by_shape, by_key, object_is, array_is, default_is, is_changed, by_entry}
use Rattle.lowering.proofs.Sites.{here, here_items}
use Rattle.lowering.proofs.Clauses.{objects_object, objects_array, objects_default, objects_leaf, replaced_object, replaced_array, replaced_default, parts_object, parts_array, parts_default, parts_leaf, nearest_object, nearest_array, nearest_default, nearest_leaf}
use Rattle.outcome.proofs.GoodNodes.{Leaf, Is35, Good, GoodItems, to_all, node_good, items_good, properties_35, replaced_view, parts_fixes}
use Rattle.outcome.proofs.ListedStand.{objects_zero}
use Rattle.lowering.proofs.WeightKeys.{values_rest}
use Rattle.outcome.proofs.Potential.{gone, slot, slot_moved, slots, slot_values, odd, odds, resting, own, pot, pot_items, pot_34, pot_35, pot_36, pot_37, inner_in, node_in, node_and_node, items_and_node, pot_append, only_pot, none_pot, temporary_pot, node_exchange, items_exchange, drop_exchange, odds_append, odds_none, only_odds, moved_less}
use Rattle.lowering.proofs.ChangeLaws.{position_changed, is_without, items_without, stands_without, items_changed}

-- ---- accessors of changed nodes

pub node_other : (i j : ℕ) → (i ≡ j → ⊥) → (g : Piece → Piece) (n : Node) → node_at_of j (change i g n) ≡ node_at_of j n
unfolding node_at_of change
node_other i j h g (node at k fs) = ap as_node (other_changed fs i g j h)

pub items_other : (i j : ℕ) → (i ≡ j → ⊥) → (g : Piece → Piece) (n : Node) → items_at_of j (change i g n) ≡ items_at_of j n
unfolding items_at_of change
items_other i j h g (node at k fs) = ap as_items_of (other_changed fs i g j h)

-- a node in a changed field: what f gives, or nothing
node_changed_piece : (m : Node → ℕ) → m nothing ≡ 0 → (f : Node → Node) (p : Piece) → m (as_node (on_node f p)) ≤ m (f (as_node p))
unfolding on_node
node_changed_piece m z f (Piece.one n) = omega arith
node_changed_piece m z f (Piece.list is) = omega arith
node_changed_piece m z f (Piece.text bs) = omega arith
node_changed_piece m z f (Piece.byte b) = omega arith
node_changed_piece m z f (Piece.mark b) = omega arith
node_changed_piece m z f (Piece.number b) = omega arith

pub node_changed_in : (m : Node → ℕ) → m nothing ≡ 0 → (f : Node → Node) (fs : Fields) (i : ℕ) → m (as_node (piece_in (change_in fs i (on_node f)) i)) ≤ m (f (as_node (piece_in fs i)))
unfolding change_in piece_in
node_changed_in m z f Fields.done i = omega arith
node_changed_in m z f (Fields.absent fs) zero = omega arith
node_changed_in m z f (Fields.absent fs) (suc i) = node_changed_in m z f fs i
node_changed_in m z f (Fields.field p fs) zero = node_changed_piece m z f p
node_changed_in m z f (Fields.field p fs) (suc i) = node_changed_in m z f fs i

pub node_changed : (m : Node → ℕ) → m nothing ≡ 0 → (i : ℕ) (f : Node → Node) (n : Node) → m (node_at_of i (change_node i f n)) ≤ m (f (node_at_of i n))
unfolding node_at_of change
node_changed m z i f (node at k fs) = node_changed_in m z f fs i

-- what is gone stays so
gone_leaf : (n : Node) → gone n ≡ true → Leaf n
unfolding gone is shape
gone_leaf (node at k fs) e =
    by_test (eqb k 20)
    (λ t. let z : k ≡ 20 = eqb-true k 20 t in ap (λ (y : ℕ). shape (node at y fs)) z)
    (λ t. let u : eqb k 0 ≡ true = rw t at e in let z : k ≡ 0 = eqb-true k 0 u in ap (λ (y : ℕ). shape (node at y fs)) z)

gone_piece : (f : Node → Node) → ((n : Node) → Leaf n → f n ≡ n) → (p : Piece) → gone (as_node p) ≡ true → gone (as_node (on_node f p)) ≡ true
unfolding on_node
gone_piece f v (Piece.one n) h = ap gone (v n (gone_leaf n h)) ∙ h
gone_piece f v (Piece.list is) h = h
gone_piece f v (Piece.text bs) h = h
gone_piece f v (Piece.byte b) h = h
gone_piece f v (Piece.mark b) h = h
gone_piece f v (Piece.number b) h = h

pub gone_in : (f : Node → Node) → ((n : Node) → Leaf n → f n ≡ n) → (fs : Fields) (i : ℕ) → gone (as_node (piece_in fs i)) ≡ true → gone (as_node (piece_in (change_in fs i (on_node f)) i)) ≡ true
unfolding change_in piece_in
gone_in f v Fields.done i h = h
gone_in f v (Fields.absent fs) zero h = h
gone_in f v (Fields.absent fs) (suc i) h = gone_in f v fs i h
gone_in f v (Fields.field p fs) zero h = gone_piece f v p h
gone_in f v (Fields.field p fs) (suc i) h = gone_in f v fs i h

stays_gone : (f : Node → Node) → ((n : Node) → Leaf n → f n ≡ n) → (i : ℕ) (n : Node) → gone (node_at_of i n) ≡ true → gone (node_at_of i (change_node i f n)) ≡ true
unfolding node_at_of change
stays_gone f v i (node at k fs) h = gone_in f v fs i h

-- a Temporary in place of the first field, or nothing
put_piece : (t : Node) → gone t ≡ true → (p : Piece) → gone (as_node (on_node (λ l. t) p)) ≡ true
unfolding on_node gone is
put_piece t e (Piece.one n) = e
put_piece t e (Piece.list is) = refl
put_piece t e (Piece.text bs) = refl
put_piece t e (Piece.byte b) = refl
put_piece t e (Piece.mark b) = refl
put_piece t e (Piece.number b) = refl

put_in : (t : Node) → gone t ≡ true → (fs : Fields) → gone (as_node (piece_in (change_in fs 0 (on_node (λ l. t))) 0)) ≡ true
unfolding change_in piece_in gone is
put_in t e Fields.done = refl
put_in t e (Fields.absent fs) = refl
put_in t e (Fields.field p fs) = put_piece t e p

put_gone : (t : Node) → gone t ≡ true → (n : Node) → gone (node_at_of 0 (change_node 0 (λ l. t) n)) ≡ true
unfolding node_at_of change
put_gone t e (node at k fs) = put_in t e fs

temporary_gone : (path : List ℕ) (stem at : ℕ) → gone (temporary path stem at) ≡ true
unfolding gone is
temporary_gone path stem at = refl

top_rest : (p : Node) → is 34 p ≡ true → is_top p ≡ false → has_rest_of p ≡ false
unfolding is_top
top_rest p e t = let z : true && has_rest_of p ≡ false = rw e at t in z

pub left_less : (h : ℕ) (b d : Bool) → (b ≡ true → d ≡ true) → cond d 0 h ≤ cond b 0 h
left_less h true true f = omega arith
left_less h true false f = absurd (false≢true (f refl))
left_less h false true f = omega arith
left_less h false false f = omega arith

-- a good property
abbrev pub Property : Node → Type 0
Property q = Is35 q × Good q

properties_all : (is : Items) → AllItems Is35 is → GoodItems is → AllItems Property is
properties_all Items.none h k = tt
properties_all (Items.hole is) h k = properties_all is h k
properties_all (Items.item n is) h k = ((h.0, k.0), properties_all is h.1 k.1)

pub properties_are : (p : Node) → is 34 p ≡ true → Good p → AllItems Property (properties p)
properties_are p e h = properties_all (properties p) (properties_35 p e h) (items_good 0 p h)

module _ (x : ℕ) where
  pub slot_nothing : slot x nothing ≡ 0
  unfolding slot is
  slot_nothing = refl

  pub slot_temporary : (path : List ℕ) (stem at : ℕ) → slot x (temporary path stem at) ≡ 0
  unfolding slot is
  slot_temporary path stem at = refl

  pub slot_changed : (i : ℕ) (g : Piece → Piece) (n : Node) → slot x (change i g n) ≡ slot x n
  unfolding slot is change
  slot_changed i g (node at k fs) = refl

  pub slot_34 : (p : Node) → is 34 p ≡ true → slot x p ≡ here x (position p) + here x (position p + 2)
  unfolding slot
  slot_34 p e = rw e refl

  pub slot_not : (p : Node) → is 34 p ≡ false → slot x p ≡ 0
  unfolding slot
  slot_not p e = rw e refl

  -- with its slot
  abbrev pub whole : Node → ℕ
  whole p = slot x p + pot x p

  unfoldable pub wholes : Items → ℕ
  wholes Items.none = 0
  wholes (Items.hole is) = wholes is
  wholes (Items.item p is) = whole p + wholes is

  pub wholes_append : (is js : Items) → wholes (is +++ js) ≡ wholes is + wholes js
  unfolding wholes ◌+++◌
  wholes_append Items.none js = omega arith
  wholes_append (Items.hole is) js = wholes_append is js
  wholes_append (Items.item n is) js = let h = wholes_append is js in omega arith

  pub only_wholes : (n : Node) → wholes (only n) ≡ whole n
  unfolding wholes
  only_wholes n = omega arith

  pub none_wholes : wholes Items.none ≡ 0
  unfolding wholes
  none_wholes = refl

  -- the positions of properties stay
  here_each : (f : Node → Node) → ((q : Node) → position (f q) ≡ position q) → (is : Items) → here_items x (each f is) ≡ here_items x is
  unfolding each here_items
  here_each f s Items.none = refl
  here_each f s (Items.hole is) = here_each f s is
  here_each f s (Items.item n is) = ap₂ (λ (a b : ℕ). here x a + b) (s n) (here_each f s is)

  pub resting_same : (a b : ℕ) (r s : Bool) (is js : Items) → a ≡ b → r ≡ s → here_items x is ≡ here_items x js → resting x a r is ≡ resting x b s js
  unfolding resting
  resting_same a b r s is js e f g =
      ap₂ (λ (u : ℕ) (v : Bool). cond v (here x (u + 1) + here_items x is) 0) e f ∙ ap (λ (u : ℕ). cond s (here x (b + 1) + u) 0) g

  -- a sum over what is found
  pub record Sum (M : Items → ℕ) : Type 0 where
    pub none : M Items.none ≡ 0
    pub append : (is js : Items) → M (is +++ js) ≡ M is + M js

  pub nil : Items → ℕ
  nil is = 0

  pub nil_sum : Sum nil
  unfolding nil
  nil_sum = record { none = refl; append = λ is js. omega arith }

  pub nil_is : (is : Items) → nil is ≡ 0
  unfolding nil
  nil_is is = refl

  pub wholes_sum : Sum wholes
  wholes_sum = record { none = none_wholes; append = wholes_append }

  -- found by h, measured by M; f is what is left; O is made good otherwise
  module _ (M O : Items → ℕ) (sum : Sum M) (other : Sum O) (h : Node → Items) (f : Node → Node) (together : (v : Node) → Good v → M (h v) + whole (f v) ≤ whole v + O (h v)) where
    -- of values of properties
    one_property : (q : Node) → Property q → M (h (node_at_of 1 q)) + (slot x (node_at_of 1 (change_node 1 f q)) + pot x (change_node 1 f q)) ≤ slot x (node_at_of 1 q) + pot x q + O (h (node_at_of 1 q))
    one_property q g =
        let t = together (node_at_of 1 q) (node_good 1 q g.1) in
        let e = node_exchange x 1 f q in
        let a = pot_35 x q g.0 in
        let b = pot_35 x (change_node 1 f q) (is_changed 1 (on_node f) q 35 ∙ g.0) in
        let s = node_changed (slot x) slot_nothing 1 f q in
        omega arith

    pub values_sum : (is : Items) → AllItems Property is
        → M (gather (λ q. h (node_at_of 1 q)) is) + (slot_values x (each (λ q. change_node 1 f q) is) + pot_items x (each (λ q. change_node 1 f q) is)) ≤ slot_values x is + pot_items x is + O (gather (λ q. h (node_at_of 1 q)) is)
    unfolding gather each slot_values pot
    values_sum Items.none g = let z = sum.none in omega arith
    values_sum (Items.hole is) g = values_sum is g
    values_sum (Items.item q is) g =
        let o = one_property q g.0 in
        let r = values_sum is g.1 in
        let a = sum.append (h (node_at_of 1 q)) (gather (λ m. h (node_at_of 1 m)) is) in
        let b = other.append (h (node_at_of 1 q)) (gather (λ m. h (node_at_of 1 m)) is) in
        omega arith

    -- of items
    pub items_sum : (is : Items) → AllItems Good is → M (gather h is) + (slots x (each f is) + pot_items x (each f is)) ≤ slots x is + pot_items x is + O (gather h is)
    unfolding gather each slots pot
    items_sum Items.none g = let z = sum.none in omega arith
    items_sum (Items.hole is) g = items_sum is g
    items_sum (Items.item n is) g =
        let o = together n g.0 in let r = items_sum is g.1 in let a = sum.append (h n) (gather h is) in let b = other.append (h n) (gather h is) in omega arith

    -- an object pattern with its values changed
    pub object_sum : (p : Node) → is 34 p ≡ true → Good p → M (gather (λ q. h (value q)) (properties p)) + pot x (with_values f p) ≤ pot x p + O (gather (λ q. h (value q)) (properties p))
    object_sum p e g =
        let F : Node → Node = λ q. change_node 1 f q in
        let p' = with_values f p in
        let s = values_sum (properties p) (properties_are p e g) in
        let a = pot_34 x p e in
        let b = pot_34 x p' (is_changed 0 (on_items (each F)) p 34 ∙ e) in
        let i = ap (slot_values x) (items_changed 0 F p) in
        let r = resting_same (position p') (position p) (stands 1 p') (stands 1 p) (items_at_of 0 p') (items_at_of 0 p) (position_changed 0 (on_items (each F)) p) (values_rest f p)
        (ap (here_items x) (items_changed 0 F p) ∙ here_each F (λ q. position_changed 1 (on_node f) q) (items_at_of 0 p)) in
        let t = items_exchange x 0 (each F) p in
        omega arith

    -- an array pattern with its items changed
    pub array_sum : (p : Node) → is 36 p ≡ true → Good p → M (gather h (items_of p)) + pot x (with_items f p) ≤ pot x p + O (gather h (items_of p))
    array_sum p e g =
        let p' = with_items f p in
        let s = items_sum (items_of p) (to_all (items_of p) (items_good 0 p g)) in
        let a = pot_36 x p e in
        let b = pot_36 x p' (is_changed 0 (on_items (each f)) p 36 ∙ e) in
        let i = ap (slots x) (items_changed 0 f p) in
        let n = ap (slot x) (node_other 0 1 (λ z. omega arith) (on_items (each f)) p) in
        let t = items_exchange x 0 (each f) p in
        omega arith

    -- a Default with its left changed
    pub default_sum : ((n : Node) → Leaf n → f n ≡ n) → (p : Node) → is 37 p ≡ true → Good p → M (h (left_of p)) + pot x (with_left f p) ≤ pot x p + O (h (left_of p))
    default_sum v p e g =
        let p' = with_left f p in
        let s = together (left_of p) (node_good 0 p g) in
        let a = pot_37 x p e in
        let b = pot_37 x p' (is_changed 0 (on_node f) p 37 ∙ e) in
        let n = node_changed (slot x) slot_nothing 0 f p in
        let t = node_exchange x 0 f p in
        let c = ap (λ (m : ℕ). cond (gone (node_at_of 0 p')) 0 (here x m)) (position_changed 0 (on_node f) p) in
        let d = left_less (here x (position p)) (gone (node_at_of 0 p)) (gone (node_at_of 0 p')) (λ z. stays_gone f v 0 p z) in
        omega arith

  module _ (c : Context) where
    reference_whole : (p : Node) → whole (reference c p) ≡ 0
    reference_whole p = let a = slot_temporary c.path 1 (position p) in let b = temporary_pot x c.path 1 (position p) in omega arith

    -- ---- replaced

    pub objects_sum : (d : ℕ) (p : Node) → Good p → wholes (objects_with_rest c d p) + whole (replaced c d p) ≤ whole p
    unfolding replaced
    objects_sum zero p g = let z = ap wholes (objects_zero c p) in let n = none_wholes in omega arith
    objects_sum (suc d) p g =
        let f : Node → Node = λ v. replaced c d v in
        let h : Node → Items = λ v. objects_with_rest c d v in
        let n = none_wholes in
        let together : (v : Node) → Good v → wholes (objects_with_rest c d v) + whole (replaced c d v) ≤ whole v + nil (objects_with_rest c d v) = λ v k. let o = objects_sum d v k in let z = nil_is (objects_with_rest c d v) in omega arith in
        by_shape (shape p)
        (λ e.
        let p' = with_values f p in
        let inside = gather (λ q. h (value q)) (properties p) in
        let s = object_sum wholes nil wholes_sum nil_sum h f together p (object_is p e) g in
        let z = nil_is (gather (λ q. h (value q)) (properties p)) in
        let i = ap wholes (objects_object c d p e) in
        let j = ap whole (replaced_object c d p e) in
        let k = slot_changed 0 (on_items (each (λ q. change_node 1 f q))) p in
        by_test (has_rest_of p)
        (λ r.
        let i' : wholes (objects_with_rest c (suc d) p) ≡ wholes (inside +++ only p') = rw r at i in
        let j' : whole (replaced c (suc d) p) ≡ whole (reference c p) = rw r at j in
        let a = wholes_append inside (only p') in
        let o = only_wholes p' in
        let t = reference_whole p in
        omega arith)
        (λ r.
        let i' : wholes (objects_with_rest c (suc d) p) ≡ wholes (inside +++ Items.none) = rw r at i in
        let j' : whole (replaced c (suc d) p) ≡ whole p' = rw r at j in
        let a = wholes_append inside Items.none in
        omega arith))
        (λ e.
        let s = array_sum wholes nil wholes_sum nil_sum h f together p (array_is p e) g in
        let z = nil_is (gather h (items_of p)) in
        let i = ap wholes (objects_array c d p e) in
        let j = ap whole (replaced_array c d p e) in
        let k = slot_changed 0 (on_items (each f)) p in
        omega arith)
        (λ e.
        let s = default_sum wholes nil wholes_sum nil_sum h f together (replaced_view c d).fixes p (default_is p e) g in
        let z = nil_is (h (left_of p)) in
        let i = ap wholes (objects_default c d p e) in
        let j = ap whole (replaced_default c d p e) in
        let k = slot_changed 0 (on_node f) p in
        omega arith)
        (λ e.
        let i = ap wholes (objects_leaf c d p e) in
        let j = ap whole ((replaced_view c (suc d)).fixes p e) in
        omega arith)

    -- a pattern that is no object with rest keeps its slot
    slot_kept : (d : ℕ) (p : Node) → is_top p ≡ false → slot x (replaced c d p) ≡ slot x p
    unfolding replaced
    slot_kept zero p t = refl
    slot_kept (suc d) p t =
        let f : Node → Node = λ v. replaced c d v in
        by_shape (shape p)
        (λ e.
        let r : has_rest_of p ≡ false = top_rest p (object_is p e) t in
        ap (slot x) (replaced_object c d p e) ∙ rw r (slot_changed 0 (on_items (each (λ q. change_node 1 f q))) p))
        (λ e. ap (slot x) (replaced_array c d p e) ∙ slot_changed 0 (on_items (each f)) p)
        (λ e. ap (slot x) (replaced_default c d p e) ∙ slot_changed 0 (on_node f) p)
        (λ e. ap (slot x) ((replaced_view c (suc d)).fixes p e))

    pub targets_sum : (d : ℕ) (p : Node) → is_top p ≡ false → Good p → wholes (objects_with_rest c d p) + pot x (replaced c d p) ≤ pot x p
    targets_sum d p t g = let s = objects_sum d p g in let k = slot_kept d p t in omega arith

    -- ---- the objects with rest of an assignment

    near_zero : (arrays : Bool) (p : Node) → nearest arrays 0 p ≡ Items.none
    unfolding nearest
    near_zero arrays p = refl

    -- with what is left when all are replaced
    near_sum : (d : ℕ) (p : Node) → Good p → wholes (nearest true d p) + whole (replaced c d p) ≤ whole p
    unfolding replaced
    near_sum zero p g = let z = ap wholes (near_zero true p) in let n = none_wholes in omega arith
    near_sum (suc d) p g =
        let f : Node → Node = λ v. replaced c d v in
        let h : Node → Items = λ v. nearest true d v in
        let n = none_wholes in
        let together : (v : Node) → Good v → wholes (nearest true d v) + whole (replaced c d v) ≤ whole v + nil (nearest true d v) = λ v k. let o = near_sum d v k in let z = nil_is (nearest true d v) in omega arith in
        by_shape (shape p)
        (λ e.
        let inside = gather (λ q. h (value q)) (properties p) in
        let i = ap wholes (nearest_object true d p e) in
        let j = ap whole (replaced_object c d p e) in
        by_test (has_rest_of p)
        (λ r.
        let i' : wholes (nearest true (suc d) p) ≡ wholes (only p) = rw r at i in
        let j' : whole (replaced c (suc d) p) ≡ whole (reference c p) = rw r at j in
        let o = only_wholes p in
        let t = reference_whole p in
        omega arith)
        (λ r.
        let i' : wholes (nearest true (suc d) p) ≡ wholes inside = rw r at i in
        let j' : whole (replaced c (suc d) p) ≡ whole (with_values f p) = rw r at j in
        let s = object_sum wholes nil wholes_sum nil_sum h f together p (object_is p e) g in
        let z = nil_is inside in
        let k = slot_changed 0 (on_items (each (λ q. change_node 1 f q))) p in
        omega arith))
        (λ e.
        let s = array_sum wholes nil wholes_sum nil_sum h f together p (array_is p e) g in
        let z = nil_is (gather h (items_of p)) in
        let i = ap wholes (nearest_array true d p e) in
        let j = ap whole (replaced_array c d p e) in
        let k = slot_changed 0 (on_items (each f)) p in
        omega arith)
        (λ e.
        let s = default_sum wholes nil wholes_sum nil_sum h f together (replaced_view c d).fixes p (default_is p e) g in
        let z = nil_is (h (left_of p)) in
        let i = ap wholes (nearest_default true d p e) in
        let j = ap whole (replaced_default c d p e) in
        let k = slot_changed 0 (on_node f) p in
        omega arith)
        (λ e.
        let i = ap wholes (nearest_leaf true d p e) in
        let j = ap whole ((replaced_view c (suc d)).fixes p e) in
        omega arith)

    pub outermost_sum : (d : ℕ) (p : Node) → is_top p ≡ false → Good p → wholes (nearest true d p) + pot x (replaced c d p) ≤ pot x p
    outermost_sum d p t g = let s = near_sum d p g in let k = slot_kept d p t in omega arith

    -- with what is left when those reached through objects are
    pub parts_sum : (d : ℕ) (p : Node) → Good p → wholes (nearest false d p) + whole (parts_replaced c d p) ≤ whole p
    unfolding parts_replaced
    parts_sum zero p g = let z = ap wholes (near_zero false p) in let n = none_wholes in omega arith
    parts_sum (suc d) p g =
        let f : Node → Node = λ v. parts_replaced c d v in
        let h : Node → Items = λ v. nearest false d v in
        let n = none_wholes in
        let together : (v : Node) → Good v → wholes (nearest false d v) + whole (parts_replaced c d v) ≤ whole v + nil (nearest false d v) = λ v k. let o = parts_sum d v k in let z = nil_is (nearest false d v) in omega arith in
        by_shape (shape p)
        (λ e.
        let inside = gather (λ q. h (value q)) (properties p) in
        let i = ap wholes (nearest_object false d p e) in
        let j = ap whole (parts_object c d p e) in
        by_test (has_rest_of p)
        (λ r.
        let i' : wholes (nearest false (suc d) p) ≡ wholes (only p) = rw r at i in
        let j' : whole (parts_replaced c (suc d) p) ≡ whole (reference c p) = rw r at j in
        let o = only_wholes p in
        let t = reference_whole p in
        omega arith)
        (λ r.
        let i' : wholes (nearest false (suc d) p) ≡ wholes inside = rw r at i in
        let j' : whole (parts_replaced c (suc d) p) ≡ whole (with_values f p) = rw r at j in
        let s = object_sum wholes nil wholes_sum nil_sum h f together p (object_is p e) g in
        let z = nil_is inside in
        let k = slot_changed 0 (on_items (each (λ q. change_node 1 f q))) p in
        omega arith))
        (λ e. let i = ap wholes (nearest_array false d p e) in let j = ap whole (parts_array c d p e) in omega arith)
        (λ e.
        let s = default_sum wholes nil wholes_sum nil_sum h f together (parts_fixes c d) p (default_is p e) g in
        let z = nil_is (h (left_of p)) in
        let i = ap wholes (nearest_default false d p e) in
        let j = ap whole (parts_default c d p e) in
        let k = slot_changed 0 (on_node f) p in
        omega arith)
        (λ e. let i = ap wholes (nearest_leaf false d p e) in let j = ap whole (parts_leaf c d p e) in omega arith)

    -- ---- keys

    string_pot : (bs : List ℕ) → pot x (string bs) ≡ 0
    unfolding pot own
    string_pot bs = refl

    excluded_key_pot : (q : Node) → pot_items x (excluded_key c q) ≤ pot x (key q)
    unfolding excluded_key
    excluded_key_pot q =
        let z = none_pot x in
        let k = only_pot x (key q) in
        by_entry (entry_of (key_sort (key q)))
        (λ e. rw (e, excluded_key) (let o = only_pot x (string (key_text (key q))) in let s = string_pot (key_text (key q)) in omega arith))
        (λ e. rw (e, excluded_key) (omega arith))
        (λ e. rw (e, excluded_key) (omega arith))
        (λ e. rw (e, excluded_key) (let o = only_pot x (key_of c q) in let t = temporary_pot x c.path 4 (position q) in omega arith))

    kept_key_pot : (q : Node) → Is35 q → pot x (kept_key c q) ≤ pot x q
    unfolding kept_key
    kept_key_pot q h =
        by_key (key_sort (key q))
        (λ e. rw (e, kept_key) (omega arith))
        (λ e. rw (e, kept_key) (omega arith))
        (λ e. rw (e, kept_key) (omega arith))
        (λ e. rw (e, kept_key) (omega arith))
        (λ e. rw (e, kept_key) (omega arith))
        (λ e. rw (e, kept_key)
        (let a = pot_35 x q h in
        let b = pot_35 x (change_node 0 (λ k. key_of c q) q) (is_changed 0 (on_node (λ k. key_of c q)) q 35 ∙ h) in
        let t = node_exchange x 0 (λ k. key_of c q) q in
        let z = temporary_pot x c.path 4 (position q) in
        omega arith))

    kept_key_value : (q : Node) → node_at_of 1 (kept_key c q) ≡ node_at_of 1 q
    unfolding kept_key
    kept_key_value q =
        by_key (key_sort (key q))
        (λ e. rw (e, kept_key) refl)
        (λ e. rw (e, kept_key) refl)
        (λ e. rw (e, kept_key) refl)
        (λ e. rw (e, kept_key) refl)
        (λ e. rw (e, kept_key) refl)
        (λ e. rw (e, kept_key) (node_other 0 1 (λ z. omega arith) (on_node (λ k. key_of c q)) q))

    kept_each : (is : Items) → AllItems Is35 is → slot_values x (each (kept_key c) is) + pot_items x (each (kept_key c) is) ≤ slot_values x is + pot_items x is
    unfolding each slot_values pot
    kept_each Items.none h = omega arith
    kept_each (Items.hole is) h = kept_each is h
    kept_each (Items.item q is) h =
        let a = kept_key_pot q h.0 in let b = ap (slot x) (kept_key_value q) in let r = kept_each is h.1 in omega arith

    no_rest : (at : ℕ) (r : Bool) (ps : Items) → r ≡ false → resting x at r ps ≡ 0
    unfolding resting
    no_rest at r ps e = rw e refl

    -- an object pattern whose rest is taken: what its rest may make, its rest, and what is left of it
    pub taken_sum : (p : Node) → is 34 p ≡ true → AllItems Is35 (properties p) → has_rest_of p ≡ true
        → resting x (position p) true (properties p) + (pot x (rest p) + pot x (taken c p)) ≤ pot x p
    unfolding taken
    taken_sum p e h r =
        rw r
        (let q = with_properties (kept_key c) p in
        let n = without 1 q in
        let e' : is 34 q ≡ true = is_changed 0 (on_items (each (kept_key c))) p 34 ∙ e in
        let a = pot_34 x p e in
        let b = pot_34 x n (is_without q 34 ∙ e') in
        let z = no_rest (position n) (stands 1 n) (items_at_of 0 n) (stands_without 1 q) in
        let y : resting x (position p) (stands 1 p) (items_at_of 0 p) ≡ resting x (position p) true (items_at_of 0 p) = ap (λ (u : Bool). resting x (position p) u (items_at_of 0 p)) r in
        let i = ap (slot_values x) (items_without q ∙ items_changed 0 (kept_key c) p) in
        let k = kept_each (properties p) h in
        let t = items_exchange x 0 (each (kept_key c)) p in
        let d = drop_exchange x q in
        let m = ap (pot x) (node_other 0 1 (λ w. omega arith) (on_items (each (kept_key c))) p) in
        omega arith)

    -- ---- what rests may make

    unfoldable pub restings : Items → ℕ
    restings Items.none = 0
    restings (Items.hole is) = restings is
    restings (Items.item r is) = resting x (position r) true (properties r) + restings is

    pub restings_append : (is js : Items) → restings (is +++ js) ≡ restings is + restings js
    unfolding restings ◌+++◌
    restings_append Items.none js = omega arith
    restings_append (Items.hole is) js = restings_append is js
    restings_append (Items.item n is) js = let h = restings_append is js in omega arith

    pub restings_none : restings Items.none ≡ 0
    unfolding restings
    restings_none = refl

    pub only_restings : (r : Node) → restings (only r) ≡ resting x (position r) true (properties r)
    unfolding restings
    only_restings r = omega arith

    values_properties : (f : Node → Node) (is : Items) → AllItems Is35 is → AllItems Is35 (each (λ q. change_node 1 f q) is)
    unfolding each
    values_properties f Items.none h = tt
    values_properties f (Items.hole is) h = values_properties f is h
    values_properties f (Items.item q is) h = (is_changed 1 (on_node f) q 35 ∙ h.0, values_properties f is h.1)

    -- an object with rest: its parts, what its rest may make, and what is left of it
    pub left_over_sum : (p : Node) → is 34 p ≡ true → has_rest_of p ≡ true → Good p
        → wholes (parts_of p) + (resting x (position p) true (properties p) + pot x (taken c (with_values (λ v. parts_replaced c (depth p) v) p))) ≤ pot x p
    left_over_sum p e r g =
        let d = depth p in
        let f : Node → Node = λ v. parts_replaced c d v in
        let h : Node → Items = λ v. nearest false d v in
        let p' = with_values f p in
        let together : (v : Node) → Good v → wholes (nearest false d v) + whole (parts_replaced c d v) ≤ whole v + nil (nearest false d v) = λ v k. let o = parts_sum d v k in let z = nil_is (nearest false d v) in omega arith in
        let s = object_sum wholes nil wholes_sum nil_sum h f together p e g in
        let z = nil_is (parts_of p) in
        let e' : is 34 p' ≡ true = is_changed 0 (on_items (each (λ q. change_node 1 f q))) p 34 ∙ e in
        let m = taken_sum p' e' (subst (AllItems Is35) (sym (items_changed 0 (λ q. change_node 1 f q) p)) (values_properties f (properties p) (properties_35 p e g))) (values_rest f p ∙ r) in
        let q = resting_same (position p') (position p) true true (properties p') (properties p) (position_changed 0 (on_items (each (λ m. change_node 1 f m))) p) refl
        (ap (here_items x) (items_changed 0 (λ m. change_node 1 f m) p) ∙ here_each (λ m. change_node 1 f m) (λ m. position_changed 1 (on_node f) m) (items_at_of 0 p)) in
        omega arith

    -- the keys of a pattern beside the parts below its values
    keys_beside : (d : ℕ) (is : Items) → AllItems Good is → wholes (gather (λ q. nearest false d (value q)) is) + pot_items x (gather (excluded_key c) is) ≤ slot_values x is + pot_items x is
    unfolding gather slot_values pot
    keys_beside d Items.none g = let z = none_wholes in omega arith
    keys_beside d (Items.hole is) g = keys_beside d is g
    keys_beside d (Items.item q is) g =
        let a = wholes_append (nearest false d (value q)) (gather (λ m. nearest false d (value m)) is) in
        let b = pot_append x (excluded_key c q) (gather (excluded_key c) is) in
        let k = excluded_key_pot q in
        let v = parts_sum d (value q) (node_good 1 q g.0) in
        let n = node_and_node x 0 1 (omega arith) q in
        let o = inner_in x q in
        let r = keys_beside d is g.1 in
        omega arith

    excluded_is : (p : Node) → pot_items x (excluded_keys c p) ≡ pot_items x (gather (excluded_key c) (properties p))
    unfolding excluded_keys
    excluded_is p = refl

    keys_all : (is : Items) → pot_items x (gather (excluded_key c) is) ≤ pot_items x is
    unfolding gather pot
    keys_all Items.none = omega arith
    keys_all (Items.hole is) = keys_all is
    keys_all (Items.item q is) =
        let b = pot_append x (excluded_key c q) (gather (excluded_key c) is) in
        let k = excluded_key_pot q in
        let n = node_in x 0 q in
        let o = inner_in x q in
        let r = keys_all is in
        omega arith

    pub excluded_keys_pot : (p : Node) → pot_items x (excluded_keys c p) ≤ pot_items x (properties p)
    excluded_keys_pot p = let e = excluded_is p in let k = keys_all (properties p) in omega arith

    -- an object with rest: its parts, what its rest may make, its rest and its keys
    pub rest_beside : (p : Node) → is 34 p ≡ true → has_rest_of p ≡ true → Good p
        → wholes (parts_of p) + (resting x (position p) true (properties p) + (pot x (rest p) + pot_items x (excluded_keys c p))) ≤ pot x p
    rest_beside p e r g =
        let a = pot_34 x p e in
        let y : resting x (position p) (stands 1 p) (items_at_of 0 p) ≡ resting x (position p) true (items_at_of 0 p) = ap (λ (u : Bool). resting x (position p) u (items_at_of 0 p)) r in
        let k = keys_beside (depth p) (properties p) (to_all (properties p) (items_good 0 p g)) in
        let m = items_and_node x 0 1 (omega arith) p in
        let n = excluded_is p in
        omega arith

    -- ---- moved out of a head

    unfoldable pub moves : Items → ℕ
    moves Items.none = 0
    moves (Items.hole is) = moves is
    moves (Items.item m is) = here x (position m) + pot x (moved_pattern m) + moves is

    pub moves_append : (is js : Items) → moves (is +++ js) ≡ moves is + moves js
    unfolding moves ◌+++◌
    moves_append Items.none js = omega arith
    moves_append (Items.hole is) js = moves_append is js
    moves_append (Items.item n is) js = let h = moves_append is js in omega arith

    pub moves_none : moves Items.none ≡ 0
    unfolding moves
    moves_none = refl

    only_moves : (m : Node) → moves (only m) ≡ here x (position m) + pot x (moved_pattern m)
    unfolding moves
    only_moves m = omega arith

    moves_sum : Sum moves
    moves_sum = record { none = moves_none; append = moves_append }

    odds_sum : Sum (odds x)
    odds_sum = record { none = odds_none x; append = odds_append x }

    moved_object : (d : ℕ) (p : Node) → shape p ≡ object_pattern → (moved (suc d) p ≡ only p) × (moved_out_of c (suc d) p ≡ reference c p) × (moved_pattern p ≡ p)
    unfolding moved moved_out_of moved_pattern
    moved_object d p e = (rw (e, moved), rw (e, moved_out_of), rw (e, moved_pattern))

    moved_array : (d : ℕ) (p : Node) → shape p ≡ array_pattern
        → (moved (suc d) p ≡ gather (λ m. moved d m) (items_of p) +++ moved d (rest p)) × (moved_out_of c (suc d) p ≡ with_rest (λ r. moved_out_of c d r) (with_items (λ m. moved_out_of c d m) p))
    unfolding moved moved_out_of
    moved_array d p e = (rw (e, moved), rw (e, moved_out_of))

    moved_default : (d : ℕ) (p : Node) → shape p ≡ default → (moved (suc d) p ≡ only p) × (moved_out_of c (suc d) p ≡ with_left (λ l. reference c p) p) × (moved_pattern p ≡ left_of p)
    unfolding moved moved_out_of moved_pattern
    moved_default d p e = (rw (e, moved), rw (e, moved_out_of), rw (e, moved_pattern))

    moved_leaf : (d : ℕ) (p : Node) → shape p ≡ leaf → (moved (suc d) p ≡ Items.none) × (moved_out_of c (suc d) p ≡ p)
    unfolding moved moved_out_of
    moved_leaf d p e = (rw (e, moved), rw (e, moved_out_of))

    slot_object : (p : Node) → is 34 p ≡ true → slot_moved x p ≡ here x (position p)
    unfolding slot_moved
    slot_object p e = rw e refl

    odd_37 : (p : Node) → is 37 p ≡ true → odd x p ≡ cond (gone (node_at_of 0 p)) (here x (position p)) 0
    unfolding odd
    odd_37 p e = rw e refl

    both_here : (b : Bool) (h : ℕ) → cond b h 0 + cond b 0 h ≡ h
    both_here true h = omega arith
    both_here false h = omega arith

    gone_none : (b : Bool) (h : ℕ) → b ≡ true → cond b 0 h ≡ 0
    gone_none b h e = rw e refl

    -- a Default whose left is moved
    default_moved : (p t : Node) → is 37 p ≡ true → gone t ≡ true → slot x t ≡ 0 → pot x t ≡ 0
        → here x (position p) + pot x (left_of p) + pot x (with_left (λ l. t) p) ≤ pot x p + odd x p
    default_moved p t e f s z =
        let p' = with_left (λ l. t) p in
        let a = pot_37 x p e in
        let b = pot_37 x p' (is_changed 0 (on_node (λ l. t)) p 37 ∙ e) in
        let o = odd_37 p e in
        let h = both_here (gone (node_at_of 0 p)) (here x (position p)) in
        let n = node_changed (slot x) slot_nothing 0 (λ l. t) p in
        let k = gone_none (gone (node_at_of 0 p')) (here x (position p')) (put_gone t f p) in
        let y = node_exchange x 0 (λ l. t) p in
        omega arith

    -- a pattern and what is moved out of it, with and without its slot
    record Moves (d : ℕ) (p : Node) : Type 0 where
      head : moves (moved d p) + pot x (moved_out_of c d p) ≤ slot_moved x p + pot x p + odds x (moved d p)
      inside : moves (moved d p) + whole (moved_out_of c d p) ≤ whole p + odds x (moved d p)

    moved_both : (d : ℕ) (p : Node) → Good p → Moves d p
    unfolding moved moved_out_of
    moved_both zero p g =
        let m = moves_none in let o = odds_none x in let l = moved_less x p in record { head = omega arith; inside = omega arith }
    moved_both (suc d) p g =
        let f : Node → Node = λ v. moved_out_of c d v in
        let h : Node → Items = λ v. moved d v in
        let l = moved_less x p in
        by_shape (shape p)
        (λ e.
        let k = moved_object d p e in
        let i = ap moves k.0 in
        let j = only_moves p in
        let m = ap (pot x) k.2 in
        let o = ap (odds x) k.0 in
        let r = ap (pot x) k.1 in
        let w = ap whole k.1 in
        let t = temporary_pot x c.path 1 (position p) in
        let z = reference_whole p in
        let s = slot_object p (object_is p e) in
        record { head = omega arith; inside = omega arith })
        (λ e.
        let k = moved_array d p e in
        let p1 = with_items f p in
        let p2 = with_rest f p1 in
        let i = ap moves k.0 ∙ moves_append (gather h (items_of p)) (h (rest p)) in
        let o = ap (odds x) k.0 ∙ odds_append x (gather h (items_of p)) (h (rest p)) in
        let r = ap (pot x) k.1 in
        let w = ap (slot x) k.1 ∙ slot_changed 1 (on_node f) p1 ∙ slot_changed 0 (on_items (each f)) p in
        let s = array_sum moves (odds x) moves_sum odds_sum h f (λ v u. (moved_both d v u).inside) p (array_is p e) g in
        let e1 : is 36 p1 ≡ true = is_changed 0 (on_items (each f)) p 36 ∙ array_is p e in
        let a = pot_36 x p1 e1 in
        let b = pot_36 x p2 (is_changed 1 (on_node f) p1 36 ∙ e1) in
        let u = ap (slots x) (items_other 1 0 (λ z. omega arith) (on_node f) p1) in
        let n = node_changed (slot x) slot_nothing 1 f p1 in
        let y = node_exchange x 1 f p1 in
        let q = ap (λ (v : Node). whole (f v)) (node_other 0 1 (λ z. omega arith) (on_items (each f)) p) in
        let q' = ap whole (node_other 0 1 (λ z. omega arith) (on_items (each f)) p) in
        let v = (moved_both d (rest p) (node_good 1 p g)).inside in
        record { head = omega arith; inside = omega arith })
        (λ e.
        let k = moved_default d p e in
        let i = ap moves k.0 in
        let j = only_moves p in
        let m = ap (pot x) k.2 in
        let o = ap (odds x) k.0 ∙ only_odds x p in
        let r = ap (pot x) k.1 in
        let w = ap (slot x) k.1 ∙ slot_changed 0 (on_node (λ l. reference c p)) p in
        let s = default_moved p (reference c p) (default_is p e) (temporary_gone c.path 1 (position p)) (slot_temporary c.path 1 (position p)) (temporary_pot x c.path 1 (position p)) in
        record { head = omega arith; inside = omega arith })
        (λ e.
        let k = moved_leaf d p e in
        let i = ap moves k.0 in
        let m = moves_none in
        let o = ap (odds x) k.0 in
        let n = odds_none x in
        let r = ap (pot x) k.1 in
        let w = ap (slot x) k.1 in
        record { head = omega arith; inside = omega arith })

    pub moved_sum : (d : ℕ) (p : Node) → Good p → moves (moved d p) + pot x (moved_out_of c d p) ≤ slot_moved x p + pot x p + odds x (moved d p)
    moved_sum d p g = (moved_both d p g).head
