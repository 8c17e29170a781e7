-- The target walk: the ways out of object, property and item.
-- Assumes nothing.
use mathlib.Core.Path.{◌≡◌, refl, sym, ap, ◌∙◌, subst}
use mathlib.Core.Bool.{Bool, true, false, cond}
use mathlib.Core.List.{List, [], ◌∷◌}
use Prim.Native.Nat.{ℕ, suc, ◌-◌, ◌/◌, ◌%◌, ◌≤◌, ◌<◌}
use native.Mathlib.Omega.{arith}
use lib.Dec.{eqb}
use borrow.Author.Tests.{ne_eqb}
use Rattle.tree.specs.Tree.{Node, Items}
use Rattle.tree.specs.Read.{byte_at, wide_at}
use Rattle.tree.specs.Answer.{Wide}
use Rattle.tree.specs.Look.{Seen, onward, look_item, look_items, look_node}
use Rattle.lowering.specs.Parts.{is, node_at_of, items_at_of, piece_in}
use Rattle.lowering.specs.Patterns.{properties, value}
use Rattle.lowering.proofs.Cases.{by_test}
use Rattle.sink.specs.Machine.Event.{listed_temporary}
use Rattle.direct.specs.Events.{Emit, lists}
use Rattle.direct.specs.Events.Deed.{does}
use Rattle.direct.specs.Emit.{say, in_turn}
use Rattle.direct.specs.Views.{object_rest_at}
use Rattle.direct.specs.Objects.{counts, enters, over_reached}
use Rattle.direct.specs.Objects.Reach.{anywhere}
use Rattle.direct.specs.Handed.{hands_place}
use Rattle.direct.proofs.NearestObjects.{reach_over_object, reach_over_rest, reach_over_array, reach_over_default, reach_over_leaf}
use Rattle.walk.specs.declared.reaches.Reach as reaches
use Rattle.walk.specs.declared.reaches.Reach.TheVariants.{Anywhere}
use Rattle.walk.specs.Run.{Going, Does}
use Rattle.walk.specs.Whole.{hole_at, Good}
use Rattle.walk.specs.Turns.{reach_of}
use Rattle.walk.proofs.Running.{does_nothing, does_as}
use Rattle.walk.proofs.Opened.{kind_byte, leaf_here, object_open, array_open, property_open, default_open}
use Rattle.walk.proofs.Hands.{Left, left_start, left_end, left_more, solid_more, Any, any_start, at_level}
use Rattle.walk.proofs.HandKeys.{object_listed}

-- what is listed of a target
abbrev pub Found : reaches.Reach → Node → Emit
Found reach p = over_reached hands_place (reach_of reach) p

abbrev Property : Node → Type 0
Property q = is 35 q ≡ true

-- a kind is no hole
pub no_zero : (k m : ℕ) → k ≡ m → 0 < m → k ≡ 0 → ⊥
no_zero k m e h z = omega arith

module _ (t : List ℕ) where
  abbrev many : ℕ → ℕ
  many at = wide_at t (onward t at 2)

  abbrev first : ℕ → ℕ
  first at = onward t (onward t at 2) 2

  -- ---- an object that stands a level above `left`

  module _ (left at : ℕ) (reach : reaches.Reach) where
    abbrev object : Node
    object = (look_node t (suc left) at).value

    rest_is : (c : Bool) → counts (reach_of reach) ≡ c → (ps : Items) (x : Node) → object ≡ object_rest_at at ps x → cond c (hands_place object) (say []) ≡ Found reach object
    rest_is c e ps x w =
        ap (λ (n : Node). cond c (hands_place n) (say [])) w
        ∙ sym (reach_over_rest hands_place (reach_of reach) at ps x ∙ ap (λ (b : Bool). cond b (hands_place (object_rest_at at ps x)) (say [])) e)
        ∙ ap (Found reach) (sym w)

    pub object_found : {g g₁ g₂ : Going} (b : Bool) → b ≡ eqb (byte_at t (onward t at 1) / 2 % 2) 1 → b ≡ true → counts (reach_of reach) ≡ true
        → Does g g₁ (say (lists (5 ∷ 1 ∷ []))) → Does g₁ g₂ (say (does (listed_temporary at 1) ∷ []))
        → Good t (suc left) at → byte_at t at ≡ 34 → Does g g₂ (Found reach object)
    object_found b e h z k l good kind =
        let o = object_open t left at good kind in
        does_as (object_listed t (suc left) at k l) (rest_is true z _ _ (ap (λ (s : Seen Node). s.value) (o.resting (sym e ∙ h))))

    pub object_passed : {g : Going} (b : Bool) → b ≡ eqb (byte_at t (onward t at 1) / 2 % 2) 1 → b ≡ true → counts (reach_of reach) ≡ false
        → Good t (suc left) at → byte_at t at ≡ 34 → Does g g (Found reach object)
    object_passed {g = g} b e h z good kind =
        let o = object_open t left at good kind in
        does_as (does_nothing g) (rest_is false z _ _ (ap (λ (s : Seen Node). s.value) (o.resting (sym e ∙ h))))

    -- its properties
    abbrev pub Values : Going → Going → ℕ → ℕ → Type 0
    Values g₀ g n p = Good t (suc left) at → byte_at t at ≡ 34 → Left t left false Property (λ q. Found reach (value q)) g₀ (many at) (first at) g n p

    pub values_start : {g : Going} (q n p : ℕ) → q ≡ onward t at 2 → Wide t q n → p ≡ onward t q 2 → Values g g n p
    values_start {g = g} q n p a w b good kind =
        let o = object_open t left at good kind in
        let nn : many at ≡ n = sym (w.value ∙ ap (λ (z : ℕ). wide_at t z) a) in
        let pp : first at ≡ p = sym (b ∙ ap (λ (z : ℕ). onward t z 2) a) in
        subst (λ (m : ℕ). Left t left false Property (λ q. Found reach (value q)) g (many at) (first at) g m p) nn
        (subst (λ (z : ℕ). Left t left false Property (λ q. Found reach (value q)) g (many at) (first at) g (many at) z) pp
        (left_start t left false Property (λ q. Found reach (value q)) g (many at) (first at) o.list.good o.properties))

    pub values_more : {g₀ g g' : Going} (n p q d : ℕ) → 0 < n → q ≡ (look_node t left p).next → d ≡ left - 1 → Values g₀ g n p
        → (Good t (suc d) p → byte_at t p ≡ 35 → Does g g' (Found reach (value (look_node t (suc d) p).value)))
        → Values g₀ g' (n - 1) q
    values_more {g = g} {g' = g'} n p q d z e f v k good kind =
        solid_more t left Property (λ q. Found reach (value q)) (many at) (first at) n p q z e (v good kind)
        (λ x i. at_level t (λ (m : ℕ). Does g g' (Found reach (value (look_node t m p).value))) left d p f x (λ here. k here (kind_byte t left p 35 x i)))

    object_is : (b : Bool) → b ≡ eqb (byte_at t (onward t at 1) / 2 % 2) 1 → b ≡ false → Good t (suc left) at → byte_at t at ≡ 34
        → in_turn (λ q. Found reach (value q)) (look_items t (look_node t left) false (many at) (first at)).value ≡ Found reach object
    object_is b e h good kind =
        let o = object_open t left at good kind in
        sym (reach_over_object hands_place (reach_of reach) at _) ∙ ap (λ (s : Seen Node). Found reach s.value) (sym (o.plain (sym e ∙ h)))

    -- without a rest it is its values
    pub object_plain : {g₀ g : Going} (b : Bool) → b ≡ eqb (byte_at t (onward t at 1) / 2 % 2) 1 → b ≡ false
        → (Good t (suc left) at → byte_at t at ≡ 34 → Does g₀ g (in_turn (λ q. Found reach (value q)) (properties object))) → Good t (suc left) at → byte_at t at ≡ 34 → Does g₀ g (Found reach object)
    unfolding items_at_of piece_in
    object_plain b e h k good kind =
        let o = object_open t left at good kind in
        does_as (k good kind) (ap (λ (s : Seen Node). in_turn (λ q. Found reach (value q)) (properties s.value)) (o.plain (sym e ∙ h)) ∙ object_is b e h good kind)

  -- the values alone, of an object at the level `left`
  pub values_all : {g₀ g : Going} (left d at : ℕ) (reach : reaches.Reach) (n p : ℕ) → d ≡ left - 1 → n ≤ 0 → Values d at reach g₀ g n p
      → Good t left at → byte_at t at ≡ 34 → Does g₀ g (in_turn (λ q. Found reach (value q)) (properties (look_node t left at).value))
  unfolding items_at_of piece_in
  values_all {g₀ = g₀} {g = g} left d at reach n p e z v good kind =
      at_level t (λ (m : ℕ). Does g₀ g (in_turn (λ q. Found reach (value q)) (properties (look_node t m at).value))) left d at e good
      (λ here.
      let o = object_open t d at here kind in
      let done = left_end t d false Property (λ q. Found reach (value q)) (many at) (first at) n p z (v here kind) in
      by_test (eqb (byte_at t (onward t at 1) / 2 % 2) 1)
      (λ bit. does_as done (ap (λ (s : Seen Node). in_turn (λ q. Found reach (value q)) (properties s.value)) (sym (o.resting bit))))
      (λ bit. does_as done (ap (λ (s : Seen Node). in_turn (λ q. Found reach (value q)) (properties s.value)) (sym (o.plain bit)))))

  pub values_of : {g₀ g : Going} (left d at : ℕ) (reach : reaches.Reach) → d ≡ left - 1
      → (Good t (suc d) at → byte_at t at ≡ 34 → Does g₀ g (in_turn (λ q. Found reach (value q)) (properties (look_node t (suc d) at).value)))
      → Good t left at → byte_at t at ≡ 34 → Does g₀ g (in_turn (λ q. Found reach (value q)) (properties (look_node t left at).value))
  values_of {g₀ = g₀} {g = g} left d at reach e k good kind =
      at_level t (λ (m : ℕ). Does g₀ g (in_turn (λ q. Found reach (value q)) (properties (look_node t m at).value))) left d at e good (λ here. k here kind)

  -- ---- a property that stands a level above `left`

  pub property_by : {g g' : Going} (left at s x : ℕ) (reach : reaches.Reach) → s ≡ onward t at 2 → x ≡ (look_node t left s).next → (Good t left x → Does g g' (Found reach (look_node t left x).value))
      → Good t (suc left) at → byte_at t at ≡ 35 → Does g g' (Found reach (value (look_node t (suc left) at).value))
  unfolding node_at_of piece_in
  property_by {g = g} {g' = g'} left at s x reach a b k good kind =
      let u = property_open t left at good kind in
      let place : x ≡ (look_node t left (onward t at 2)).next = b ∙ ap (λ (y : ℕ). (look_node t left y).next) a in
      let k' = subst (λ (y : ℕ). Good t left y → Does g g' (Found reach (look_node t left y).value)) place k in
      does_as (k' u.value) (ap (λ (y : Seen Node). Found reach (value y.value)) (sym u.whole))

  -- ---- the items of an array that stands a level above d

  module _ (d at : ℕ) where
    abbrev pub ItemsLeft : Going → Going → ℕ → ℕ → Type 0
    ItemsLeft g₀ g n i = Good t (suc d) at → byte_at t at ≡ 36 → Left t d true Any (Found Anywhere) g₀ (many at) (first at) g n i

    pub items_start : {g : Going} (q n i : ℕ) → q ≡ onward t at 2 → Wide t q n → i ≡ onward t q 2 → ItemsLeft g g n i
    items_start {g = g} q n i a w b good kind =
        let u = array_open t d at good kind in
        let nn : many at ≡ n = sym (w.value ∙ ap (λ (z : ℕ). wide_at t z) a) in
        let ii : first at ≡ i = sym (b ∙ ap (λ (z : ℕ). onward t z 2) a) in
        subst (λ (m : ℕ). Left t d true Any (Found Anywhere) g (many at) (first at) g m i) nn
        (subst (λ (z : ℕ). Left t d true Any (Found Anywhere) g (many at) (first at) g (many at) z) ii (any_start t d true (Found Anywhere) g (many at) (first at) u.list.good))

    pub items_more : {g₀ g g' : Going} (n i q : ℕ) → 0 < n → q ≡ (look_item t (look_node t d) true i).next → ItemsLeft g₀ g n i
        → ((h : Bool) → (hole_at t h i ≡ false → Good t d i) → Does g g' (cond (hole_at t h i) (say []) (Found Anywhere (look_node t d i).value)))
        → ItemsLeft g₀ g' (n - 1) q
    items_more n i q z y v f good kind = left_more t d true Any (Found Anywhere) (many at) (first at) n i q z y (v good kind) (λ x a. f true x)

  -- ---- a target at the level `left`, by its kind

  module _ (left d at k : ℕ) (reach : reaches.Reach) (e : d ≡ left - 1) (p : k ≡ byte_at t at) where
    pub by_object : {g g' : Going} → k ≡ 34 → (Good t (suc d) at → byte_at t at ≡ 34 → Does g g' (Found reach (look_node t (suc d) at).value)) → Good t left at → Does g g' (Found reach (look_node t left at).value)
    by_object {g = g} {g' = g'} y f good = at_level t (λ (m : ℕ). Does g g' (Found reach (look_node t m at).value)) left d at e good (λ here. f here (sym p ∙ y))

    pub by_default : {g g' : Going} (s : ℕ) → k ≡ 37 → s ≡ onward t at 2
        → ((h : Bool) → (hole_at t h s ≡ false → Good t d s) → Does g g' (cond (hole_at t h s) (say []) (Found reach (look_node t d s).value))) → Good t left at → Does g g' (Found reach (look_node t left at).value)
    unfolding hole_at
    by_default {g = g} {g' = g'} s y a f good =
        at_level t (λ (m : ℕ). Does g g' (Found reach (look_node t m at).value)) left d at e good
        (λ here.
        let u = default_open t d at here (sym p ∙ y) in
        let f' : Good t d s → Does g g' (Found reach (look_node t d s).value) = λ x. f false (λ z. x) in
        let f'' = subst (λ (z : ℕ). Good t d z → Does g g' (Found reach (look_node t d z).value)) a f' in
        does_as (f'' u.left) (sym (reach_over_default hands_place (reach_of reach) at _ _) ∙ ap (λ (z : Seen Node). Found reach z.value) (sym u.whole)))

    pub by_leaf : {g : Going} → (k ≡ 34 → ⊥) → (k ≡ 36 → ⊥) → (k ≡ 37 → ⊥) → Good t left at → Does g g (Found reach (look_node t left at).value)
    by_leaf {g = g} a b c good =
        at_level t (λ (m : ℕ). Does g g (Found reach (look_node t m at).value)) left d at e good
        (λ here. does_as (does_nothing g) (sym (reach_over_leaf hands_place (reach_of reach) (look_node t (suc d) at).value (leaf_here t d at k p a b c))))

    array_is : (c : Bool) → enters (reach_of reach) ≡ c → Good t (suc d) at → byte_at t at ≡ 36
        → cond c (in_turn (Found Anywhere) (look_items t (look_node t d) true (many at) (first at)).value) (say []) ≡ Found reach (look_node t (suc d) at).value
    unfolding reach_of
    array_is c y good kind =
        let u = array_open t d at good kind in
        let ns : Items = (look_items t (look_node t d) true (many at) (first at)).value in
        ap (λ (b : Bool). cond b (in_turn (over_reached hands_place anywhere) ns) (say [])) (sym y)
        ∙ by_test (eqb (byte_at t (onward t at 1) / 2 % 2) 1)
        (λ bit. sym (reach_over_array hands_place (reach_of reach) at ns _) ∙ ap (λ (s : Seen Node). Found reach s.value) (sym (u.resting bit)))
        (λ bit. sym (reach_over_array hands_place (reach_of reach) at ns _) ∙ ap (λ (s : Seen Node). Found reach s.value) (sym (u.plain bit)))

    pub array_passed : {g : Going} → k ≡ 36 → enters (reach_of reach) ≡ false → Good t left at → Does g g (Found reach (look_node t left at).value)
    array_passed {g = g} y z good =
        at_level t (λ (m : ℕ). Does g g (Found reach (look_node t m at).value)) left d at e good
        (λ here. does_as (does_nothing g) (array_is false z here (sym p ∙ y)))

    pub items_end : {g₀ g : Going} (n i : ℕ) → k ≡ 36 → enters (reach_of reach) ≡ true → n ≤ 0 → ItemsLeft d at g₀ g n i → Good t left at → Does g₀ g (Found reach (look_node t left at).value)
    items_end {g₀ = g₀} {g = g} n i y z m v good =
        at_level t (λ (x : ℕ). Does g₀ g (Found reach (look_node t x at).value)) left d at e good
        (λ here. does_as (left_end t d true Any (Found Anywhere) (many at) (first at) n i m (v here (sym p ∙ y))) (array_is true z here (sym p ∙ y)))

  -- ---- an item: it may be a hole

  pub item_solid : {g g' : Going} (left at k : ℕ) (reach : reaches.Reach) → k ≡ byte_at t at → (k ≡ 0 → ⊥) → (Good t left at → Does g g' (Found reach (look_node t left at).value))
      → (h : Bool) → (hole_at t h at ≡ false → Good t left at) → Does g g' (cond (hole_at t h at) (say []) (Found reach (look_node t left at).value))
  unfolding hole_at
  item_solid {g = g} {g' = g'} left at k reach e z f h good =
      let b : hole_at t h at ≡ false = solid h in
      does_as (f (good b)) (ap (λ (x : Bool). cond x (say []) (Found reach (look_node t left at).value)) (sym b))
    where
      solid : (h : Bool) → hole_at t h at ≡ false
      solid true = ne_eqb (byte_at t at) 0 (λ y. z (e ∙ y))
      solid false = refl

  pub item_else : {g : Going} (left at : ℕ) (reach : reaches.Reach) → (Good t left at → Does g g (Found reach (look_node t left at).value))
      → (h : Bool) → (hole_at t h at ≡ false → Good t left at) → Does g g (cond (hole_at t h at) (say []) (Found reach (look_node t left at).value))
  item_else {g = g} left at reach f h good =
      by_test (hole_at t h at)
      (λ b. does_as (does_nothing g) (ap (λ (x : Bool). cond x (say []) (Found reach (look_node t left at).value)) (sym b)))
      (λ b. does_as (f (good b)) (ap (λ (x : Bool). cond x (say []) (Found reach (look_node t left at).value)) (sym b)))
