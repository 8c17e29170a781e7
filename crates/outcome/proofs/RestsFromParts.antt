-- The rest of each object of a walked target is read from its own part.
-- Assumes nothing.
use mathlib.Core.Path.{◌≡◌, refl, sym, ap, ◌∙◌, subst}
use mathlib.Core.Bool.{Bool, true, false, cond, true≢false}
use mathlib.Core.Logic.{◌⊎◌, ⊎_elim}
use mathlib.Core.Logic.◌⊎◌.{inl, inr}
use Prim.Native.Nat.{ℕ, zero, suc, ◌≤◌, ◌<◌}
use native.Mathlib.Omega.{arith}
use Rattle.tree.specs.Tree.{Node, Piece, Items, depth, depth_fields, depth_piece}
use Rattle.tree.specs.Tree.Node.{node}
use Rattle.lowering.specs.Parts.{nothing, is, as_node, piece_in, node_at_of, items_at_of, is_empty, on_node, on_items, change_node, only, each, gather, ◌+++◌}
use Rattle.lowering.specs.Made.{Context, assign, reference, value_of, sequence}
use Rattle.lowering.specs.Patterns.{shape, properties, items_of, left_of, value, has_rest_of, with_values, with_properties, has_object_rest, has_array_rest_over_object_rest}
use Rattle.lowering.specs.Patterns.Shape.{object_pattern, array_pattern, default, leaf}
use Rattle.lowering.specs.Keys.{kept_key, taken}
use Rattle.lowering.specs.Assignments.{target, is_top, nearest, parts_of, outermost, parts_replaced, target_left, from_reference, top_refusal, top_sequence, nested_sequence}
use Rattle.lowering.specs.Walk.{rewrite, within, step_assignment, step_top}
use Rattle.lowering.specs.Weight.{weight}
use Rattle.lowering.specs.Visits.{ItemAt, NodeIn, FieldAt, PartAt, Visits}
use Rattle.lowering.proofs.Cases.{by_test, rule_27, not-false, shape_34, by_number}
use Rattle.lowering.proofs.Levels.{depth_pos, items_depth, piece_depth}
use Rattle.lowering.proofs.Clauses.{nearest_object, nearest_array, nearest_default, parts_object, parts_array, parts_default, top_34, top_rest}
use Rattle.lowering.proofs.ChangeLaws.{shape_changed, items_changed, items_without}
use Rattle.lowering.proofs.PartsAt.{part_at, item_depth}
use Rattle.lowering.proofs.Weights.{weight_pos}
use Rattle.lowering.proofs.Falls.{falls}
use Rattle.lowering.proofs.WeightKeys.{rest_changed}
use Rattle.lowering.proofs.SoundKeys.{value_kept}
use Rattle.direct.proofs.ObjectsByLevel.{value_changed}
use Rattle.direct.proofs.Targets.{left_changed, shape_taken}
use Rattle.direct.proofs.NearestObjects.{found_or_none}
use Rattle.direct.proofs.NearestObjects.{parts_nothing}
use Rattle.outcome.proofs.ListedStand.{left_no_top}
use Rattle.outcome.specs.Sources.{ObjectOf, Sourced, EachItsOwn, ReadFromValue}
use Rattle.outcome.specs.Sources.ObjectOf.{itself, in_value, in_item_of, in_left_of}

-- ---- items at places

at_left : {is : Items} {j : ℕ} {x : Node} (js : Items) → ItemAt is j x → ItemAt (is +++ js) j x
unfolding ◌+++◌
at_left js ItemAt.first = ItemAt.first
at_left js (ItemAt.behind a) = ItemAt.behind (at_left js a)
at_left js (ItemAt.behind_hole a) = ItemAt.behind_hole (at_left js a)

at_right : (is : Items) {js : Items} {j : ℕ} {x : Node} → ItemAt js j x → (k : ℕ) × ItemAt (is +++ js) k x
unfolding ◌+++◌
at_right Items.none {j = j} a = (j, a)
at_right (Items.hole is) a = let r = at_right is a in (suc r.0, ItemAt.behind_hole r.1)
at_right (Items.item n is) a = let r = at_right is a in (suc r.0, ItemAt.behind r.1)

at_gather : (f : Node → Items) {is : Items} {j k : ℕ} {m x : Node} → ItemAt is j m → ItemAt (f m) k x → (l : ℕ) × ItemAt (gather f is) l x
unfolding gather
at_gather f {k = k} {m = m} (ItemAt.first {is = is}) b = (k, at_left (gather f is) b)
at_gather f (ItemAt.behind {n = n} {is = is} a) b = let r = at_gather f a b in at_right (f n) r.1
at_gather f (ItemAt.behind_hole a) b = at_gather f a b

at_each : (f : Node → Node) {is : Items} {j : ℕ} {m : Node} → ItemAt is j m → ItemAt (each f is) j (f m)
unfolding each
at_each f ItemAt.first = ItemAt.first
at_each f (ItemAt.behind a) = ItemAt.behind (at_each f a)
at_each f (ItemAt.behind_hole a) = ItemAt.behind_hole (at_each f a)

some_item : {is : Items} {j : ℕ} {x : Node} → ItemAt is j x → is_empty is ≡ false
unfolding is_empty
some_item ItemAt.first = refl
some_item (ItemAt.behind a) = refl
some_item (ItemAt.behind_hole a) = refl

-- ---- their depth

node_deep : (i : ℕ) (n : Node) → depth (node_at_of i n) ≤ depth n
unfolding node_at_of depth
node_deep i (node at k fs) = go (piece_in fs i) (piece_depth fs i)
  where
    go : (p : Piece) → depth_piece p ≤ depth_fields fs → depth (as_node p) ≤ suc (depth_fields fs)
    go (Piece.one n) h = omega arith
    go (Piece.list is) h = omega arith
    go (Piece.text bs) h = omega arith
    go (Piece.byte b) h = omega arith
    go (Piece.mark b) h = omega arith
    go (Piece.number b) h = omega arith

-- ---- objects of a target

object_top : {p q : Node} → ObjectOf p q → is_top q ≡ true
object_top (itself t) = t
object_top (in_value e i o) = object_top o
object_top (in_item_of e i o) = object_top o
object_top (in_left_of e o) = object_top o

shape_none : {A : Type 0} → leaf ≡ object_pattern ⊎ (leaf ≡ array_pattern ⊎ leaf ≡ default) → A
shape_none (inl e) = let z : ◌≡◌ {A = ℕ} 0 1 = cc in absurd (omega arith)
shape_none (inr (inl e)) = let z : ◌≡◌ {A = ℕ} 0 1 = cc in absurd (omega arith)
shape_none (inr (inr e)) = let z : ◌≡◌ {A = ℕ} 0 1 = cc in absurd (omega arith)

no_object : {A : Type 0} (p q : Node) → p ≡ nothing → ObjectOf p q → A
unfolding is_top is shape
no_object p q z (itself t) = absurd (true≢false (sym t ∙ ap is_top z))
no_object p q z (in_value e i o) = shape_none (inl (sym (ap shape z) ∙ e))
no_object p q z (in_item_of e i o) = shape_none (inr (inl (sym (ap shape z) ∙ e)))
no_object p q z (in_left_of e o) = shape_none (inr (inr (sym (ap shape z) ∙ e)))

-- below a pattern there is one level less
left_deep : (p q : Node) → ObjectOf (left_of p) q → depth (left_of p) < depth p
unfolding node_at_of depth
left_deep (node at k fs) q o = go (piece_in fs 0) (piece_depth fs 0) o
  where
    go : (p : Piece) → depth_piece p ≤ depth_fields fs → ObjectOf (as_node p) q → depth (as_node p) < suc (depth_fields fs)
    go (Piece.one n) h o = omega arith
    go (Piece.list js) h o = no_object nothing q refl o
    go (Piece.text bs) h o = no_object nothing q refl o
    go (Piece.byte b) h o = no_object nothing q refl o
    go (Piece.mark b) h o = no_object nothing q refl o
    go (Piece.number b) h o = no_object nothing q refl o

value_deep : (p m : Node) {j : ℕ} → ItemAt (properties p) j m → depth (value m) < depth p
value_deep p m a = let h = item_depth a in let i = items_depth 0 p in let v = node_deep 1 m in omega arith

-- ---- one of the nearest has it in it

abbrev Nearest : Bool → ℕ → Node → Node → Type 0
Nearest arrays d p q = (k : ℕ) × (o : Node) × ItemAt (nearest arrays d p) k o × ObjectOf o q

found_here : (arrays : Bool) (d : ℕ) (p q : Node) → shape p ≡ object_pattern → has_rest_of p ≡ true → ObjectOf p q → Nearest arrays (suc d) p q
found_here arrays d p q e r o =
    (0, p, subst (λ (is : Items). ItemAt is 0 p) (sym (nearest_object arrays d p e ∙ ap (λ (b : Bool). cond b (only p) (gather (λ m. nearest arrays d (value m)) (properties p))) r)) ItemAt.first, o)

found_value_lem : (arrays : Bool) (d : ℕ) (p q m : Node) {j : ℕ} → shape p ≡ object_pattern → has_rest_of p ≡ false → ItemAt (properties p) j m → Nearest arrays d (value m) q → Nearest arrays (suc d) p q
found_value_lem arrays d p q m e r i n =
    let g = at_gather (λ m. nearest arrays d (value m)) i n.2 in
    (g.0, n.1, subst (λ (is : Items). ItemAt is g.0 n.1) (sym (nearest_object arrays d p e ∙ ap (λ (b : Bool). cond b (only p) (gather (λ m. nearest arrays d (value m)) (properties p))) r)) g.1, n.3)

found_item : (d : ℕ) (p q m : Node) {j : ℕ} → shape p ≡ array_pattern → ItemAt (items_of p) j m → Nearest true d m q → Nearest true (suc d) p q
found_item d p q m e i n =
    let g = at_gather (λ m. nearest true d m) i n.2 in
    (g.0, n.1, subst (λ (is : Items). ItemAt is g.0 n.1) (sym (nearest_array true d p e)) g.1, n.3)

found_left : (arrays : Bool) (d : ℕ) (p q : Node) → shape p ≡ default → Nearest arrays d (left_of p) q → Nearest arrays (suc d) p q
found_left arrays d p q e n = (n.0, n.1, subst (λ (is : Items). ItemAt is n.0 n.1) (sym (nearest_default arrays d p e)) n.2, n.3)

nearest_has : (d : ℕ) (p q : Node) → depth p ≤ d → ObjectOf p q → Nearest true d p q
nearest_has zero p q l o = let z = depth_pos p in absurd (omega arith)
nearest_has (suc d) p q l (itself t) = found_here true d p p (shape_34 p (top_34 p t)) (top_rest p t) (itself t)
nearest_has (suc d) p q l (in_value {m = m} e i o) =
    by_test (has_rest_of p)
    (λ r. found_here true d p q e r (in_value e i o))
    (λ r. let h = value_deep p m i in found_value_lem true d p q m e r i (nearest_has d (value m) q (omega arith) o))
nearest_has (suc d) p q l (in_item_of {m = m} e i o) =
    let h = item_depth i in let g = items_depth 0 p in found_item d p q m e i (nearest_has d m q (omega arith) o)
nearest_has (suc d) p q l (in_left_of e o) = let h = left_deep p q o in found_left true d p q e (nearest_has d (left_of p) q (omega arith) o)

-- a part has it in it, or it is left when the parts are replaced
module _ (c : Context) where
  value_left : (d : ℕ) (p q m : Node) {j : ℕ} → shape p ≡ object_pattern → ItemAt (properties p) j m → ObjectOf (parts_replaced c d (value m)) q → ObjectOf (with_values (λ v. parts_replaced c d v) p) q
  value_left d p q m {j = j} e i o =
      let f : Node → Node = λ v. parts_replaced c d v in
      in_value (shape_changed 0 (on_items (each (λ x. change_node 1 f x))) p ∙ e)
      (subst (λ (is : Items). ItemAt is j (change_node 1 f m)) (sym (items_changed 0 (λ x. change_node 1 f x) p)) (at_each (λ x. change_node 1 f x) i))
      (subst (λ (x : Node). ObjectOf x q) (sym (value_changed f (parts_nothing c d) m)) o)

  part_or_left : (d : ℕ) (p q : Node) → depth p ≤ d → ObjectOf p q → Nearest false d p q ⊎ ObjectOf (parts_replaced c d p) q
  part_or_left zero p q l o = let z = depth_pos p in absurd (omega arith)
  part_or_left (suc d) p q l (itself t) = inl (found_here false d p p (shape_34 p (top_34 p t)) (top_rest p t) (itself t))
  part_or_left (suc d) p q l (in_value {m = m} e i o) =
      by_test (has_rest_of p)
      (λ r. inl (found_here false d p q e r (in_value e i o)))
      (λ r.
      let h = value_deep p m i in
      ⊎_elim
      (λ n. inl (found_value_lem false d p q m e r i n))
      (λ u. inr (subst (λ (x : Node). ObjectOf x q) (sym (parts_object c d p e ∙ ap (λ (b : Bool). cond b (reference c p) (with_values (λ v. parts_replaced c d v) p)) r)) (value_left d p q m e i u)))
      (part_or_left d (value m) q (omega arith) o))
  part_or_left (suc d) p q l (in_item_of e i o) = inr (subst (λ (x : Node). ObjectOf x q) (sym (parts_array c d p e)) (in_item_of e i o))
  part_or_left (suc d) p q l (in_left_of e o) =
      let f : Node → Node = λ v. parts_replaced c d v in
      let h = left_deep p q o in
      ⊎_elim
      (λ n. inl (found_left false d p q e n))
      (λ u. inr (subst (λ (x : Node). ObjectOf x q) (sym (parts_default c d p e))
      (in_left_of (shape_changed 0 (on_node f) p ∙ e) (subst (λ (x : Node). ObjectOf x q) (sym (left_changed c f (parts_nothing c d) p)) u))))
      (part_or_left d (left_of p) q (omega arith) o)

  -- ---- what is left of a top

  top_left : (n q m : Node) {j : ℕ} → is_top (target n) ≡ true → ItemAt (properties (target n)) j m → ObjectOf (parts_replaced c (depth (target n)) (value m)) q → ObjectOf (target_left c n) q
  unfolding taken
  top_left n q m {j = j} t i o =
      let p = target n in
      let f : Node → Node = λ v. parts_replaced c (depth p) v in
      let w = with_values f p in
      let e = shape_34 p (top_34 p t) in
      let r = rest_changed 0 (on_items (each (λ x. change_node 1 f x))) p ∙ top_rest p t in
      in_value (shape_taken c w ∙ shape_changed 0 (on_items (each (λ x. change_node 1 f x))) p ∙ e)
      (subst (λ (is : Items). ItemAt is j (kept_key c (change_node 1 f m))) (sym (taken_items w r ∙ ap (each (kept_key c)) (items_changed 0 (λ x. change_node 1 f x) p)))
      (at_each (kept_key c) (at_each (λ x. change_node 1 f x) i)))
      (subst (λ (x : Node). ObjectOf x q) (sym (value_kept c (change_node 1 f m) ∙ value_changed f (parts_nothing c (depth p)) m)) o)
    where
      taken_items : (w : Node) → has_rest_of w ≡ true → properties (taken c w) ≡ each (kept_key c) (properties w)
      taken_items w r = rw r (items_without (with_properties (kept_key c) w) ∙ items_changed 0 (kept_key c) w)

-- ---- steps of an assignment

module _ (c : Context) (n : Node) (k : is 27 n ≡ true) where
  step_5 : has_array_rest_over_object_rest (target n) ≡ true → 0 < (rewrite c n).note.refusal
  unfolding rewrite step_assignment
  step_5 h = rw (rule_27 n k, rewrite, h, step_assignment) (omega arith)

  module _ (h : has_array_rest_over_object_rest (target n) ≡ false) where
    step_keys : (r : ℕ) → is_top (target n) ≡ true → top_refusal n ≡ suc r → 0 < (rewrite c n).note.refusal
    unfolding rewrite step_assignment step_top
    step_keys r t f = rw (rule_27 n k, rewrite, h, step_assignment, t, f, step_top) (omega arith)

    step_top_lem : is_top (target n) ≡ true → top_refusal n ≡ 0 → (rewrite c n).result ≡ top_sequence c n
    unfolding rewrite step_assignment step_top
    step_top_lem t f = rw (rule_27 n k, rewrite, h, step_assignment, t, f, step_top) refl

    step_nested : is_top (target n) ≡ false → has_object_rest (target n) ≡ true → (rewrite c n).result ≡ nested_sequence c n
    unfolding rewrite step_assignment
    step_nested t o = rw (rule_27 n k, rewrite, h, step_assignment, t, o) refl

-- ---- what stands in the sequences

in_sequence : {xs : Items} {j : ℕ} {x : Node} → ItemAt xs j x → PartAt (sequence xs) 0 j x
in_sequence a = PartAt.part (FieldAt.first (NodeIn.list a))

module _ (c : Context) (n : Node) where
  top_20 : is 20 (top_sequence c n) ≡ false
  unfolding top_sequence is
  top_20 = refl

  nested_20 : is 20 (nested_sequence c n) ≡ false
  unfolding nested_sequence is
  nested_20 = refl

  top_part : {k : ℕ} {o : Node} → ItemAt (parts_of (target n)) k o → PartAt (top_sequence c n) 0 (suc (suc k)) (from_reference c o)
  unfolding top_sequence
  top_part i = in_sequence (ItemAt.behind (ItemAt.behind (at_left _ (at_each (from_reference c) i))))

  left_part : PartAt (top_sequence c n) 0 1 (assign (target_left c n) (value_of c (target n)))
  unfolding top_sequence
  left_part = in_sequence (ItemAt.behind ItemAt.first)

  nested_part : {k : ℕ} {o : Node} → ItemAt (outermost (target n)) k o → PartAt (nested_sequence c n) 0 (suc k) (from_reference c o)
  unfolding nested_sequence
  nested_part i = in_sequence (ItemAt.behind (at_each (from_reference c) i))

-- ---- one node further in

module _ (c : Context) (n x q : Node) (j : ℕ) (e : is 20 (rewrite c n).result ≡ false) (a : PartAt (rewrite c n).result 0 j x) where
  abbrev inside : Context
  inside = within c (rewrite c n).result 0 j

  further : {d : Context} {m : Node} → Visits inside x d m → Visits c n d m
  further v = Visits.onward e a v

  lift : (target x ≡ q → (rewrite inside x).result ≡ top_sequence inside x → Sourced c n q) → Sourced inside x q → Sourced c n q
  lift f (Sourced.of_value t r) = f t r
  lift f (Sourced.of_place s) =
      Sourced.of_place (record {
        outer = s.outer;
        from = s.from;
        place = s.place;
        met = further s.met;
        left = s.left;
        own = s.own;
        comes = further s.comes;
        taken = s.taken;
      })
  lift f (Sourced.refused v r) = Sourced.refused (further v) r

-- the assignment of o stands beside what n leaves: it takes o apart
own_part : (c : Context) (n o q : Node) (j : ℕ) → is 20 (rewrite c n).result ≡ false → PartAt (rewrite c n).result 0 j (from_reference c o)
    → o ≡ q → (rewrite (within c (rewrite c n).result 0 j) (from_reference c o)).result ≡ top_sequence (within c (rewrite c n).result 0 j) (from_reference c o) → Sourced c n q
own_part c n o q j e a t r =
    subst (λ (x : Node). Sourced c n x) t
    (Sourced.of_place (record {
      outer = c;
      from = n;
      place = j;
      met = Visits.here;
      left = a;
      own = within c (rewrite c n).result 0 j;
      comes = Visits.onward e a Visits.here;
      taken = r;
    }))

-- ---- all

-- what is known of lighter nodes, and of parts of what n leaves
abbrev From : Context → Node → Node → Type 0
From c n q = (x : Node) (j : ℕ) → is 27 x ≡ true → ObjectOf (target x) q → PartAt (rewrite c n).result 0 j x → Sourced (within c (rewrite c n).result 0 j) x q

from_part : (c : Context) (n q y : Node) → From c n q → is 20 y ≡ false → (rewrite c n).result ≡ y → (o : Node) (j : ℕ) → PartAt y 0 j (from_reference c o) → ObjectOf o q → Sourced c n q
unfolding is node_at_of piece_in
from_part c n q y from z e o j b u =
    let a = subst (λ (x : Node). PartAt x 0 j (from_reference c o)) (sym e) b in
    let g = ap (is 20) e ∙ z in
    lift c n (from_reference c o) q j g a (λ t r. own_part c n o q j g a t r) (from (from_reference c o) j refl u a)

no_array : {A : Type 0} (p : Node) → is_top p ≡ true → shape p ≡ array_pattern → A
no_array p t e = let y : object_pattern ≡ array_pattern = sym (shape_34 p (top_34 p t)) ∙ e in let z : ◌≡◌ {A = ℕ} 0 1 = cc in absurd (omega arith)

no_default : {A : Type 0} (p : Node) → is_top p ≡ true → shape p ≡ default → A
no_default p t e = let y : object_pattern ≡ default = sym (shape_34 p (top_34 p t)) ∙ e in let z : ◌≡◌ {A = ℕ} 0 1 = cc in absurd (omega arith)

top_case : (c : Context) (n q : Node) → is_top (target n) ≡ true → (rewrite c n).result ≡ top_sequence c n → From c n q → (p : Node) → target n ≡ p → ObjectOf p q → Sourced c n q
unfolding is node_at_of piece_in
top_case c n q t e from p z (itself y) = Sourced.of_value z e
top_case c n q t e from p z (in_value {m = m} {j = j} y i o) =
    let i' = subst (λ (x : Node). ItemAt (properties x) j m) (sym z) i in
    let D = depth (target n) in
    let h = value_deep (target n) m i' in
    ⊎_elim
    (λ s. let g = at_gather (λ x. nearest false D (value x)) i' s.2 in from_part c n q (top_sequence c n) from (top_20 c n) e s.1 (suc (suc g.0)) (top_part c n g.1) s.3)
    (λ u.
    let x = assign (target_left c n) (value_of c (target n)) in
    let a = subst (λ (y : Node). PartAt y 0 1 x) (sym e) (left_part c n) in
    let g = ap (is 20) e ∙ top_20 c n in
    lift c n x q 1 g a (λ v r. absurd (true≢false (sym (object_top u) ∙ ap is_top (sym v) ∙ left_no_top c n t))) (from x 1 refl (top_left c n q m t i' u) a))
    (part_or_left c D (value m) q (omega arith) o)
top_case c n q t e from p z (in_item_of y i o) = no_array (target n) t (ap shape z ∙ y)
top_case c n q t e from p z (in_left_of y o) = no_default (target n) t (ap shape z ∙ y)

sources : (f : ℕ) (c : Context) (n q : Node) → weight n ≤ f → is 27 n ≡ true → ObjectOf (target n) q → Sourced c n q
sources zero c n q w k o = absurd (let z = weight_pos n in omega arith)
sources (suc f) c n q w k o =
    let p = target n in
    let from : From c n q =
    λ x j l u a. (let z = part_at (λ y. weight y < weight n) a (falls c n) in sources f (within c (rewrite c n).result 0 j) x q (omega arith) l u) in
    by_test (has_array_rest_over_object_rest p)
    (λ h. Sourced.refused Visits.here (step_5 c n k h))
    (λ h. by_test (is_top p)
    (λ t. by_number (top_refusal n)
    (λ r l. Sourced.refused Visits.here (step_keys c n k h r t l))
    (λ l. top_case c n q t (step_top_lem c n k h t l) from p refl o))
    (λ t.
    let s = nearest_has (depth p) p q (omega arith) o in
    let g = not-false (has_object_rest p) (sym (found_or_none p h) ∙ some_item s.2) in
    from_part c n q (nested_sequence c n) from (nested_20 c n) (step_nested c n k h t g) s.1 (suc s.0) (nested_part c n s.2) s.3))

pub each_its_own : EachItsOwn
each_its_own c n q k o = sources (weight n) c n q (omega arith) k o

pub read_from_value : ReadFromValue
unfolding top_sequence items_at_of piece_in
read_from_value d m =
    let r = at_right (each (from_reference d) (parts_of (target m))) ItemAt.first in (ItemAt.first, suc (suc r.0), ItemAt.behind (ItemAt.behind r.1))
