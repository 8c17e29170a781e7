-- What is done for the objects of a pattern, level by level, and for a list, item by item: the ways out of the code that goes over them.
-- Assumes nothing.
use mathlib.Core.Path.{◌≡◌, refl, sym, ap, ◌∙◌, subst, fun_ext}
use mathlib.Core.Bool.{Bool, true, false, cond, true≢false, false≢true}
use mathlib.Core.List.{List, []}
use Prim.Native.Nat.{ℕ, zero, suc, ◌-◌, ◌/◌, ◌%◌, ◌≤◌, ◌<◌}
use native.Mathlib.Omega.{arith}
use lib.Dec.{eqb}
use Rattle.tree.specs.Tree.{Node, Fields, Items}
use Rattle.tree.specs.Tree.Node.{node}
use Rattle.tree.specs.Tree.Fields.{field}
use Rattle.tree.specs.Tree.Piece.{list}
use Rattle.tree.specs.Read.{byte_at, wide_at}
use Rattle.tree.specs.Answer.{Peeked, Wide}
use Rattle.tree.specs.Look.{Seen, seen, seen_as, onward, look_item, look_items, look_node}
use Rattle.lowering.specs.Parts.{is, node_at_of, piece_in}
use Rattle.lowering.specs.Patterns.{shape, value}
use Rattle.lowering.specs.Patterns.Shape.{leaf}
use Rattle.lowering.proofs.All.{AllItems, all_unit}
use Rattle.lowering.proofs.Cases.{by_test}
use Rattle.direct.specs.Events.{Emit}
use Rattle.direct.specs.Emit.{say, ◌▷◌, in_turn}
use Rattle.direct.specs.Views.{View, takes, object_at, object_rest_at, default_at}
use Rattle.direct.specs.Views.View.{replacing, taking}
use Rattle.direct.specs.Objects.{over_objects}
use Rattle.direct.proofs.Threads.{say_nothing}
use Rattle.direct.proofs.ObjectsByLevel.{Keyed, over_object, over_keyed, over_taken, over_array, over_default, over_leaf}
use Rattle.direct.proofs.HandedByObject.{place_keyed, keys_keyed, excludes_keyed}
use Rattle.walk.specs.declared.views.View as views
use Rattle.walk.specs.declared.views.View.TheVariants.{Replacing}
use Rattle.walk.specs.declared.hand.Own.{Own}
use Rattle.walk.specs.declared.hand.Own.TheVariants as own
use Rattle.walk.specs.Run.{Going, Does}
use Rattle.walk.specs.Whole.{hole_at, GoodItem, GoodItems, Good}
use Rattle.walk.specs.Turns.{view_of, own_of, over_all}
use Rattle.walk.proofs.Running.{does_then, does_nothing, does_as}
use Rattle.walk.proofs.Emits.{Onto, onto_start, onto_more, onto_end, good_item, good_items, item_next, full, is_hole, no_hole}
use Rattle.walk.proofs.Opened.{leaf_here, no_good, object_open, array_open, property_open, default_open}
use Rattle.walk.proofs.Viewing.{one_view}

-- ---- lists, item by item

module _ (t : List ℕ) (R : ℕ → Seen Node) (f : Node → Emit) where
  hole_first : (h : Bool) (at : ℕ) (ns : Items) → in_turn f ((look_item t R h at).value ns) ≡ cond (hole_at t h at) (say []) (f (R at).value) ▷ in_turn f ns
  unfolding look_item hole_at in_turn
  hole_first true at ns = go (eqb (byte_at t at) 0)
    where
      go : (b : Bool) → in_turn f ((cond b (seen Items.hole (onward t at 1)) (seen_as (λ n is. Items.item n is) (R at))).value ns) ≡ cond b (say []) (f (R at).value) ▷ in_turn f ns
      go true = sym (say_nothing (in_turn f ns))
      go false = refl
  hole_first false at ns = refl

  turn_first : (h : Bool) (n at q : ℕ) → 0 < n → q ≡ (look_item t R h at).next
      → in_turn f (look_items t R h n at).value ≡ cond (hole_at t h at) (say []) (f (R at).value) ▷ in_turn f (look_items t R h (n - 1) q).value
  unfolding look_items
  turn_first h zero at q z e = absurd (omega arith)
  turn_first h (suc n) at q z e =
      let s : suc n - 1 ≡ n = omega arith in
      rw (s, e) (hole_first h at _)

  turn_none : (h : Bool) (n at : ℕ) → n ≤ 0 → in_turn f (look_items t R h n at).value ≡ say []
  unfolding look_items in_turn
  turn_none h zero at z = refl
  turn_none h (suc n) at z = absurd (omega arith)

module _ (t : List ℕ) (R : ℕ → Seen Node) (P : Node → Type 0) where
  hole_all : (h : Bool) (at : ℕ) (ns : Items) → AllItems P ((look_item t R h at).value ns) → (hole_at t h at ≡ false → P (R at).value) × AllItems P ns
  unfolding look_item hole_at
  hole_all true at ns a = go (eqb (byte_at t at) 0) a
    where
      go : (b : Bool) → AllItems P ((cond b (seen Items.hole (onward t at 1)) (seen_as (λ n is. Items.item n is) (R at))).value ns) → (b ≡ false → P (R at).value) × AllItems P ns
      go true a = (λ e. absurd (true≢false e), a)
      go false a = (λ e. a.0, a.1)
  hole_all false at ns a = (λ e. a.0, a.1)

  all_first : (h : Bool) (n at : ℕ) → 0 < n → AllItems P (look_items t R h n at).value → hole_at t h at ≡ false → P (R at).value
  unfolding look_items
  all_first h zero at z a = absurd (omega arith)
  all_first h (suc n) at z a = (hole_all h at _ a).0

  all_more : (h : Bool) (n at q : ℕ) → 0 < n → q ≡ (look_item t R h at).next → AllItems P (look_items t R h n at).value → AllItems P (look_items t R h (n - 1) q).value
  unfolding look_items
  all_more h zero at q z e a = absurd (omega arith)
  all_more h (suc n) at q z e a =
      let s : suc n - 1 ≡ n = omega arith in
      rw (s, e) (hole_all h at _ a).1

module _ (t : List ℕ) (d : ℕ) (h : Bool) (P : Node → Type 0) (f : Node → Emit) where
  -- what is left of a list, n items from p on, all good: what is done for them from g makes the whole from g₀
  pub record Left (g₀ : Going) (n₀ p₀ : ℕ) (g : Going) (n p : ℕ) : Type 0 where
    pub good : GoodItems t (look_node t d) (Good t d) false h n p
    pub all : AllItems P (look_items t (look_node t d) h n p).value
    pub onto : Onto g₀ g (in_turn f (look_items t (look_node t d) h n p).value) (in_turn f (look_items t (look_node t d) h n₀ p₀).value)

  pub left_start : (g : Going) (n p : ℕ) → GoodItems t (look_node t d) (Good t d) false h n p → AllItems P (look_items t (look_node t d) h n p).value → Left g n p g n p
  left_start g n p x a = record { good = x; all = a; onto = onto_start g (in_turn f (look_items t (look_node t d) h n p).value) }

  pub left_end : {g₀ g : Going} (n₀ p₀ n p : ℕ) → n ≤ 0 → Left g₀ n₀ p₀ g n p → Does g₀ g (in_turn f (look_items t (look_node t d) h n₀ p₀).value)
  left_end n₀ p₀ n p z l = onto_end l.onto (turn_none t (look_node t d) f h n p z)

  pub left_more : {g₀ g g' : Going} (n₀ p₀ n p q : ℕ) → 0 < n → q ≡ (look_item t (look_node t d) h p).next → Left g₀ n₀ p₀ g n p
      → ((hole_at t h p ≡ false → Good t d p) → (hole_at t h p ≡ false → P (look_node t d p).value) → Does g g' (cond (hole_at t h p) (say []) (f (look_node t d p).value)))
      → Left g₀ n₀ p₀ g' (n - 1) q
  left_more n₀ p₀ n p q z e l k =
      let i : GoodItem t (look_node t d) (Good t d) false h p = good_item t (look_node t d) (Good t d) false h n p z l.good in
      record {
        good = good_items t (look_node t d) (Good t d) false h n p q z e l.good;
        all = all_more t (look_node t d) P h n p q z e l.all;
        onto = onto_more l.onto (turn_first t (look_node t d) f h n p q z e) (k i.node (all_first t (look_node t d) P h n p z l.all));
      }

-- items of any kind
abbrev pub Any : Node → Type 0
Any n = Unit {0}

pub any_start : (t : List ℕ) (d : ℕ) (h : Bool) (f : Node → Emit) (g : Going) (n p : ℕ) → GoodItems t (look_node t d) (Good t d) false h n p → Left t d h Any f g n p g n p
any_start t d h f g n p x = left_start t d h Any f g n p x (all_unit (look_items t (look_node t d) h n p).value)

-- a list without holes
pub solid_more : (t : List ℕ) (d : ℕ) (P : Node → Type 0) (f : Node → Emit) {g₀ g g' : Going} (n₀ p₀ n p q : ℕ) → 0 < n → q ≡ (look_node t d p).next → Left t d false P f g₀ n₀ p₀ g n p
    → (Good t d p → P (look_node t d p).value → Does g g' (f (look_node t d p).value))
    → Left t d false P f g₀ n₀ p₀ g' (n - 1) q
solid_more t d P f {g = g} {g' = g'} n₀ p₀ n p q z e l k =
    let b : hole_at t false p ≡ false = full t false p refl in
    left_more t d false P f n₀ p₀ n p q z (e ∙ item_next t (look_node t d) false p b) l
    (λ x a. does_as (k (x b) (a b)) (ap (λ (c : Bool). cond c (say []) (f (look_node t d p).value)) (sym b)))

-- ---- the objects of a pattern, one level

-- what is done for an object does not look at its values
own_keyed : (mode : Own) → Keyed (own_of mode)
unfolding own_of
own_keyed own.Place = place_keyed
own_keyed own.Keys = keys_keyed
own_keyed (own.Excluded root) = excludes_keyed root

all_view : (mode : Own) (v : views.View) (p : Node) → over_all mode v p ≡ over_objects (own_of mode) (view_of v) p
unfolding over_all
all_view mode v p = refl

not_taken : (v : View) → takes v ≡ false → v ≡ replacing
not_taken replacing h = refl
not_taken taking h = absurd (true≢false h)

module _ (mode : Own) where
  values_view : (p : Node) → over_objects (own_of mode) replacing p ≡ over_all mode Replacing p
  values_view p = ap (λ (x : View). over_objects (own_of mode) x p) (sym one_view) ∙ sym (all_view mode Replacing p)

  in_values : (ps : Items) → in_turn (λ q. over_objects (own_of mode) replacing (value q)) ps ≡ in_turn (λ q. over_all mode Replacing (value q)) ps
  in_values ps = ap (λ (x : Node → Emit). in_turn (λ q. x (value q)) ps) (fun_ext values_view)

module _ (mode : Own) (v : views.View) where
  all_object : (at : ℕ) (ps : Items) → over_all mode v (object_at at ps) ≡ in_turn (λ q. over_all mode Replacing (value q)) ps
  all_object at ps = all_view mode v (object_at at ps) ∙ over_object (own_of mode) (view_of v) at ps ∙ in_values mode ps

  all_rest : takes (view_of v) ≡ false → (at : ℕ) (ps : Items) (r : Node)
      → over_all mode v (object_rest_at at ps r) ≡ in_turn (λ q. over_all mode Replacing (value q)) ps ▷ own_of mode (object_rest_at at ps r)
  all_rest h at ps r =
      let o = object_rest_at at ps r in
      all_view mode v o
      ∙ ap (λ (x : View). over_objects (own_of mode) x o) (not_taken (view_of v) h)
      ∙ over_keyed (own_of mode) (own_keyed mode) at ps r
      ∙ ap (λ (x : Emit). x ▷ own_of mode o) (in_values mode ps)

  all_taken : takes (view_of v) ≡ true → (at : ℕ) (ps : Items) (r : Node)
      → over_all mode v (object_rest_at at ps r) ≡ in_turn (λ q. over_all mode Replacing (value q)) ps
  all_taken h at ps r = all_view mode v (object_rest_at at ps r) ∙ over_taken (own_of mode) (view_of v) h at ps r ∙ in_values mode ps

  all_array : (at : ℕ) (ns : Items) (fs : Fields) → over_all mode v (node at 36 (field (list ns) fs)) ≡ in_turn (over_all mode Replacing) ns
  all_array at ns fs =
      all_view mode v (node at 36 (field (list ns) fs))
      ∙ over_array (own_of mode) (view_of v) at ns fs
      ∙ ap (λ (x : Node → Emit). in_turn x ns) (fun_ext (values_view mode))

  all_default : (at : ℕ) (l r : Node) → over_all mode v (default_at at l r) ≡ over_all mode Replacing l
  all_default at l r = all_view mode v (default_at at l r) ∙ over_default (own_of mode) (view_of v) at l _ ∙ values_view mode l

  all_leaf : (p : Node) → shape p ≡ leaf → over_all mode v p ≡ say []
  all_leaf p s = all_view mode v p ∙ over_leaf (own_of mode) (view_of v) p s

-- ---- the ways out of `over`

bit_of : (a c : Bool) → cond a false c ≡ true → (a ≡ false) × (c ≡ true)
bit_of true c h = absurd (false≢true h)
bit_of false c h = (refl, h)

taken_of : (a c : Bool) → cond a false c ≡ false → c ≡ true → a ≡ true
taken_of true c h e = refl
taken_of false c h e = absurd (false≢true (sym h ∙ e))

module _ (t : List ℕ) where
  -- a good node has a level
  pub at_level : (F : ℕ → Type 0) (left d at : ℕ) → d ≡ left - 1 → Good t left at → (Good t (suc d) at → F (suc d)) → F left
  at_level F zero d at e g k = no_good t at g
  at_level F (suc m) d at e g k = let z : suc d ≡ suc m = omega arith in subst F z (k (subst (λ (x : ℕ). Good t x at) (sym z) g))

  pub leaf_does : {g : Going} (left at b : ℕ) (v : views.View) (mode : Own) → b ≡ byte_at t at → (b ≡ 34 → ⊥) → (b ≡ 36 → ⊥) → (b ≡ 37 → ⊥) → Good t left at → Does g g (over_all mode v (look_node t left at).value)
  leaf_does zero at b v mode e x y z good = no_good t at good
  leaf_does {g = g} (suc d) at b v mode e x y z good = does_as (does_nothing g) (sym (all_leaf mode v (look_node t (suc d) at).value (leaf_here t d at b e x y z)))

  pub default_does : {g g' : Going} (left d at p : ℕ) (v : views.View) (mode : Own) → d ≡ left - 1 → p ≡ onward t at 2 → (Good t d p → Does g g' (over_all mode Replacing (look_node t d p).value))
      → byte_at t at ≡ 37 → Good t left at → Does g g' (over_all mode v (look_node t left at).value)
  default_does {g = g} {g' = g'} left d at p v mode e a k kind good =
      at_level (λ (m : ℕ). Does g g' (over_all mode v (look_node t m at).value)) left d at e good
      (λ here.
      let u = default_open t d at here kind in
      let whole = ap (λ (s : Seen Node). s.value) u.whole in
      let k' : Good t d (onward t at 2) → Does g g' (over_all mode Replacing (look_node t d (onward t at 2)).value) = subst (λ (x : ℕ). Good t d x → Does g g' (over_all mode Replacing (look_node t d x).value)) a k in
      does_as (k' u.left) (sym (all_default mode v at _ _) ∙ ap (over_all mode v) (sym whole)))

  pub value_does : {g g' : Going} (left d at s x : ℕ) (v : views.View) (mode : Own) → d ≡ left - 1 → s ≡ onward t at 2 → x ≡ (look_node t d s).next → (Good t d x → Does g g' (over_all mode v (look_node t d x).value))
      → Good t left at → byte_at t at ≡ 35 → Does g g' (over_all mode v (value (look_node t left at).value))
  unfolding node_at_of piece_in
  value_does {g = g} {g' = g'} left d at s x v mode e a b k good kind =
      at_level (λ (m : ℕ). Does g g' (over_all mode v (value (look_node t m at).value))) left d at e good
      (λ here.
      let u = property_open t d at here kind in
      let place : x ≡ (look_node t d (onward t at 2)).next = b ∙ ap (λ (y : ℕ). (look_node t d y).next) a in
      let k' = subst (λ (y : ℕ). Good t d y → Does g g' (over_all mode v (look_node t d y).value)) place k in
      does_as (k' u.value) (ap (λ (y : Seen Node). over_all mode v (value y.value)) (sym u.whole)))

  -- the list of a node stands behind its head
  module _ (left d at q p n : ℕ) (e : d ≡ left - 1) (a : q ≡ onward t at 2) (b : p ≡ onward t q 2) (w : Wide t q n) where
    pub list_from : (F : ℕ → ℕ → Type 0) → F n p → F (wide_at t (onward t at 2)) (onward t (onward t at 2) 2)
    list_from F x = subst (λ (m : ℕ). F m (onward t (onward t at 2) 2)) (w.value ∙ ap (λ (y : ℕ). wide_at t y) a) (subst (λ (y : ℕ). F n y) (b ∙ ap (λ (y : ℕ). onward t y 2) a) x)

    module _ {g g₁ : Going} (v : views.View) (mode : Own) (r : Bool) (f : r ≡ cond (takes (view_of v)) false (eqb (byte_at t (onward t at 1) / 2 % 2) 1))
        (k : GoodItems t (look_node t d) (Good t d) false false n p → AllItems (λ q. is 35 q ≡ true) (look_items t (look_node t d) false n p).value
        → Does g g₁ (in_turn (λ q. over_all mode Replacing (value q)) (look_items t (look_node t d) false n p).value)) where
      abbrev N : ℕ
      N = wide_at t (onward t at 2)

      abbrev Q : ℕ
      Q = onward t (onward t at 2) 2

      abbrev ps : Items
      ps = (look_items t (look_node t d) false N Q).value

      values : GoodItems t (look_node t d) (Good t d) false false N Q → AllItems (λ q. is 35 q ≡ true) ps → Does g g₁ (in_turn (λ q. over_all mode Replacing (value q)) ps)
      values x y =
          list_from (λ (m z : ℕ). GoodItems t (look_node t d) (Good t d) false false m z → AllItems (λ q. is 35 q ≡ true) (look_items t (look_node t d) false m z).value → Does g g₁ (in_turn (λ q. over_all mode Replacing (value q)) (look_items t (look_node t d) false m z).value)) k x y

      -- the object itself behind its values
      pub own_does : {g₂ : Going} → r ≡ true → (Good t left at → byte_at t at ≡ 34 → Does g₁ g₂ (own_of mode (look_node t left at).value))
          → Good t left at → byte_at t at ≡ 34 → Does g g₂ (over_all mode v (look_node t left at).value)
      own_does {g₂ = g₂} z o good kind =
          let two = bit_of (takes (view_of v)) (eqb (byte_at t (onward t at 1) / 2 % 2) 1) (sym f ∙ z) in
          at_level (λ (m : ℕ). Does g₁ g₂ (own_of mode (look_node t m at).value) → Does g g₂ (over_all mode v (look_node t m at).value)) left d at e good
          (λ here own.
          let u = object_open t d at here kind in
          let whole = ap (λ (s : Seen Node). s.value) (u.resting two.1) in
          does_as (does_then (values u.list.good u.properties) own)
          (ap (λ (x : Node). in_turn (λ q. over_all mode Replacing (value q)) ps ▷ own_of mode x) whole ∙ sym (all_rest mode v two.0 at ps _) ∙ ap (over_all mode v) (sym whole)))
          (o good kind)

      -- its values alone
      pub values_do : r ≡ false → Good t left at → byte_at t at ≡ 34 → Does g g₁ (over_all mode v (look_node t left at).value)
      values_do z good kind =
          at_level (λ (m : ℕ). Does g g₁ (over_all mode v (look_node t m at).value)) left d at e good
          (λ here.
          let u = object_open t d at here kind in
          let done = values u.list.good u.properties in
          by_test (eqb (byte_at t (onward t at 1) / 2 % 2) 1)
          (λ bit.
          let h : takes (view_of v) ≡ true = taken_of (takes (view_of v)) (eqb (byte_at t (onward t at 1) / 2 % 2) 1) (sym f ∙ z) bit in
          does_as done (sym (all_taken mode v h at ps _) ∙ ap (λ (s : Seen Node). over_all mode v s.value) (sym (u.resting bit))))
          (λ bit. does_as done (sym (all_object mode v at ps) ∙ ap (λ (s : Seen Node). over_all mode v s.value) (sym (u.plain bit)))))

    pub array_does : {g g₁ : Going} (v : views.View) (mode : Own)
        → (GoodItems t (look_node t d) (Good t d) false true n p → Does g g₁ (in_turn (over_all mode Replacing) (look_items t (look_node t d) true n p).value))
        → Good t left at → byte_at t at ≡ 36 → Does g g₁ (over_all mode v (look_node t left at).value)
    array_does {g = g} {g₁ = g₁} v mode k good kind =
        at_level (λ (m : ℕ). Does g g₁ (over_all mode v (look_node t m at).value)) left d at e good
        (λ here.
        let u = array_open t d at here kind in
        let ns = (look_items t (look_node t d) true (wide_at t (onward t at 2)) (onward t (onward t at 2) 2)).value in
        let done : Does g g₁ (in_turn (over_all mode Replacing) ns) = list_from (λ (m y : ℕ). GoodItems t (look_node t d) (Good t d) false true m y → Does g g₁ (in_turn (over_all mode Replacing) (look_items t (look_node t d) true m y).value)) k u.list.good in
        by_test (eqb (byte_at t (onward t at 1) / 2 % 2) 1)
        (λ bit. does_as done (sym (all_array mode v at ns _) ∙ ap (λ (s : Seen Node). over_all mode v s.value) (sym (u.resting bit))))
        (λ bit. does_as done (sym (all_array mode v at ns _) ∙ ap (λ (s : Seen Node). over_all mode v s.value) (sym (u.plain bit)))))

  -- an item of a list with holes
  pub hole_does : {g : Going} (at n : ℕ) (e : Emit) → Peeked t at n → n ≡ 0 → Does g g (cond (hole_at t true at) (say []) e)
  hole_does {g = g} at n e p z = does_as (does_nothing g) (ap (λ (b : Bool). cond b (say []) e) (sym (is_hole t true at n refl p z)))

  pub item_does : {g g' : Going} (d at n : ℕ) (e : Emit) → Peeked t at n → (n ≡ 0 → ⊥) → (Good t d at → Does g g' e) → (hole_at t true at ≡ false → Good t d at) → Does g g' (cond (hole_at t true at) (say []) e)
  item_does d at n e p z k good =
      let b : hole_at t true at ≡ false = no_hole t true at n refl p z in
      does_as (k (good b)) (ap (λ (x : Bool). cond x (say []) e) (sym b))
