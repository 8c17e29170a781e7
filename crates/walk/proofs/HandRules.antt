-- What a rule hands out: the ways out of the code for patterns, declarators, declarations and assignments.
-- Assumes nothing.
use mathlib.Core.Path.{◌≡◌, refl, sym, ap, ap₂, ◌∙◌, subst}
use mathlib.Core.Bool.{Bool, true, false, cond, true≢false}
use mathlib.Core.List.{List, [], ◌∷◌, ◌++◌}
use Prim.Native.Nat.{ℕ, suc, ◌+◌, ◌-◌, ◌/◌, ◌%◌, ◌≤◌}
use native.Mathlib.Omega.{arith}
use lib.Dec.{eqb}
use Rattle.tree.specs.Tree.{Node, count}
use Rattle.tree.specs.Tree.Node.{node}
use Rattle.tree.specs.Tree.Fields.{done, absent, field}
use Rattle.tree.specs.Tree.Piece.{one}
use Rattle.tree.specs.Read.{byte_at, wide_at}
use Rattle.tree.specs.Answer.{Wide}
use Rattle.tree.specs.Look.{Seen, onward, look_items, look_node}
use Rattle.lowering.specs.Parts.{position, is, node_at_of, items_at_of, stands, stands_in, piece_in}
use Rattle.lowering.specs.Made.{Context}
use Rattle.lowering.specs.Patterns.{properties, value}
use Rattle.lowering.specs.Keys.{key_temporaries}
use Rattle.lowering.specs.Declarations.{is_name_of, is_lowered}
use Rattle.lowering.proofs.All.{AllItems}
use Rattle.lowering.proofs.Cases.{by_test}
use Rattle.sink.specs.Machine.Event.{make, listed_temporary, entry}
use Rattle.pattern.specs.Tally.{limited}
use Rattle.pattern.proofs.CountsFit.{counted_whole, parts_fit}
use Rattle.direct.specs.Events as events
use Rattle.direct.specs.Events.{Emit, lists}
use Rattle.direct.specs.Events.Deed.{does}
use Rattle.direct.specs.Emit.{say, ◌▷◌, in_turn}
use Rattle.direct.specs.Views.{View, nameless}
use Rattle.direct.specs.Views.View.{replacing, taking}
use Rattle.direct.specs.Objects.{over_objects, reached, reached_in, over_reached, over_replaced, over_parts}
use Rattle.direct.specs.Objects.Reach.{straight, in_arrays}
use Rattle.direct.specs.Handed.{place_made, keys_made, excludes_of, hands_keys, hands_place, other_keys, places_in, parts_count, declarator_made, declarator_excludes, hands_top, hands_nested}
use Rattle.direct.proofs.Threads.{then_assoc, say_nothing}
use Rattle.direct.proofs.HandedByObject.{keys_counted}
use Rattle.direct.proofs.NearestObjects.{over_parts_lem, over_arrays, over_anywhere, parts_reached}
use Rattle.walk.specs.declared.views.View as views
use Rattle.walk.specs.declared.views.View.TheVariants.{Replacing, Taking}
use Rattle.walk.specs.declared.reaches.Reach.TheVariants.{Anywhere, Straight, InArrays}
use Rattle.walk.specs.declared.hand.Own.TheVariants as own
use Rattle.walk.specs.declared.hand.KeyUse.TheVariants as use-of
use Rattle.walk.specs.Run.{Going, Does}
use Rattle.walk.specs.Whole.{hole_at, GoodItems, Good}
use Rattle.walk.specs.declared.hand.Declared.{Declared}
use Rattle.walk.specs.declared.hand.Declared.TheVariants as declared
use Rattle.walk.specs.Turns.{view_of, reach_of, cell_at, values_count, places_at, top_at, own_of, over_all, key_of, declared_of}
use Rattle.walk.proofs.Running.{does_then, does_nothing, does_as}
use Rattle.walk.proofs.PlacesFit.{places_small}
use Rattle.walk.proofs.Opened.{position_here, good_short, good_within, declarator_open, declaration_open}
use Rattle.walk.proofs.Hands.{at_level}
use Rattle.walk.proofs.Lookups.{cell_within}
use Rattle.walk.proofs.TargetCounts.{values_object}
use Rattle.walk.proofs.HandKeys.{three_say, hands_turn}

-- ---- a pattern by mode and view

module _ (p : Node) where
  over_places : over_all own.Place Taking p ≡ over_objects place_made taking p
  unfolding over_all own_of view_of
  over_places = refl

  over_keys : over_all own.Keys Replacing p ≡ over_objects keys_made replacing p
  unfolding over_all own_of view_of
  over_keys = refl

  over_excludes : (root : Bool) → over_all (own.Excluded root) Replacing p ≡ over_objects (excludes_of root) replacing p
  unfolding over_all own_of view_of
  over_excludes root = refl

  -- ---- the ways out of `pattern_makes` and `pattern_hands`

  pub makes_do : {g g₁ g₂ : Going} → Does g g₁ (over_all own.Place Taking p) → Does g₁ g₂ (over_all own.Keys Replacing p) → Does g g₂ (over_objects place_made taking p ▷ over_objects keys_made replacing p)
  makes_do a b = does_then (does_as a over_places) (does_as b over_keys)

  pub hands_do : {g g₁ g₂ : Going} (root : Bool) → Does g g₁ (over_objects place_made taking p ▷ over_objects keys_made replacing p) → Does g₁ g₂ (over_all (own.Excluded root) Replacing p)
      → Does g g₂ (over_objects place_made taking p ▷ over_objects keys_made replacing p ▷ over_objects (excludes_of root) replacing p)
  hands_do root a b =
      does_as (does_then a (does_as b (over_excludes root)))
      (then_assoc (over_objects place_made taking p) (over_objects keys_made replacing p) (over_objects (excludes_of root) replacing p))

-- ---- declarators

abbrev pattern_made : Node → Emit
pattern_made p = over_objects place_made taking p ▷ over_objects keys_made replacing p

module _ (q : Node) where
  made_name : is_lowered q ≡ true → is_name_of (node_at_of 1 q) ≡ true → pattern_made (node_at_of 0 q) ≡ declarator_made q
  unfolding declarator_made
  made_name a b = rw (a, b) (sym (say_nothing (pattern_made (node_at_of 0 q))))

  made_other : is_lowered q ≡ true → is_name_of (node_at_of 1 q) ≡ false → say (does (make (events.cell 3 (position (node_at_of 0 q)))) ∷ []) ▷ pattern_made (node_at_of 0 q) ≡ declarator_made q
  unfolding declarator_made
  made_other a b = rw (a, b) refl

  made_none : is_lowered q ≡ false → say [] ≡ declarator_made q
  unfolding declarator_made
  made_none a = rw a refl

  excluded_some : (root : Bool) → is_lowered q ≡ true → over_objects (excludes_of root) replacing (node_at_of 0 q) ≡ declarator_excludes root q
  unfolding declarator_excludes
  excluded_some root a = rw a refl

  excluded_none : (root : Bool) → is_lowered q ≡ false → say [] ≡ declarator_excludes root q
  unfolding declarator_excludes
  excluded_none root a = rw a refl

bare_kept : (at : ℕ) (p : Node) → is_lowered (node at 5 (field (one p) (absent done))) ≡ false
unfolding is_lowered stands stands_in
bare_kept at p = refl

module _ (t : List ℕ) (left at : ℕ) (b : Bool) (w : b ≡ is_lowered (look_node t left at).value) where
  pub declarator_passed : {g : Going} (mode : Declared) → b ≡ false → Does g g (declared_of mode (look_node t left at).value)
  declarator_passed {g = g} declared.Made z = does_as (does_nothing g) (made_none (look_node t left at).value (sym w ∙ z))
  declarator_passed {g = g} (declared.Excluded root) z = does_as (does_nothing g) (excluded_none (look_node t left at).value root (sym w ∙ z))

  module _ (d p : ℕ) (e : d ≡ left - 1) (a : p ≡ onward t at 2) (z : b ≡ true) where
    -- the parts of a declarator that is lowered
    record Parts (n : Node) : Type 0 where
      lowered : is_lowered n ≡ true
      pattern : node_at_of 0 n ≡ (look_node t d p).value
      init : node_at_of 1 n ≡ (look_node t d (look_node t d p).next).value
      good : Good t d p

    parts_here : is_lowered (look_node t (suc d) at).value ≡ true → Good t (suc d) at → byte_at t at ≡ 5 → Parts (look_node t (suc d) at).value
    unfolding node_at_of piece_in
    parts_here l g kind =
        let u = declarator_open t d at g kind in
        by_test (eqb (byte_at t (onward t at 1) / 2 % 2) 1)
        (λ bit. record {
          lowered = l;
          pattern = ap (λ (s : Seen Node). node_at_of 0 s.value) (u.valued bit) ∙ ap (λ (x : ℕ). (look_node t d x).value) (sym a);
          init = ap (λ (s : Seen Node). node_at_of 1 s.value) (u.valued bit) ∙ ap (λ (x : ℕ). (look_node t d (look_node t d x).next).value) (sym a);
          good = subst (λ (x : ℕ). Good t d x) (sym a) u.pattern;
        })
        (λ bit. absurd (true≢false (sym l ∙ ap (λ (s : Seen Node). is_lowered s.value) (u.bare bit) ∙ bare_kept at _)))

    parts : Good t left at → byte_at t at ≡ 5 → Parts (look_node t left at).value
    parts good kind =
        at_level t (λ (m : ℕ). is_lowered (look_node t m at).value ≡ true → Parts (look_node t m at).value) left d at e good (λ here l. parts_here l here kind) (sym w ∙ z)

    pub declarator_named : {g g' : Going} (x : ℕ) (n : Bool) → x ≡ (look_node t d p).next → n ≡ is_name_of (look_node t d x).value → n ≡ true → (Good t d p → Does g g' (over_objects place_made taking (look_node t d p).value ▷ over_objects keys_made replacing (look_node t d p).value))
        → Good t left at → byte_at t at ≡ 5 → Does g g' (declarator_made (look_node t left at).value)
    declarator_named x n h i j k good kind =
        let u = parts good kind in
        let name : is_name_of (node_at_of 1 (look_node t left at).value) ≡ true = ap is_name_of (u.init ∙ ap (λ (y : ℕ). (look_node t d y).value) (sym h)) ∙ sym i ∙ j in
        does_as (k u.good) (ap (λ (y : Node). pattern_made y) (sym u.pattern) ∙ made_name (look_node t left at).value u.lowered name)

    pub declarator_valued : {g g₁ g₂ : Going} (x c : ℕ) (n : Bool) → x ≡ (look_node t d p).next → n ≡ is_name_of (look_node t d x).value → n ≡ false → c ≡ cell_at 3 p
        → Does g g₁ (say (does (make c) ∷ [])) → (Good t d p → Does g₁ g₂ (over_objects place_made taking (look_node t d p).value ▷ over_objects keys_made replacing (look_node t d p).value))
        → Good t left at → byte_at t at ≡ 5 → Does g g₂ (declarator_made (look_node t left at).value)
    declarator_valued x c n h i j f m k good kind =
        let u = parts good kind in
        let D = (look_node t left at).value in
        let name : is_name_of (node_at_of 1 D) ≡ false = ap is_name_of (u.init ∙ ap (λ (y : ℕ). (look_node t d y).value) (sym h)) ∙ sym i ∙ j in
        let y : c ≡ events.cell 3 (position (node_at_of 0 D)) =
        cell_within _ _ _ f (omega (arith, good_within t d p u.good)) ∙ ap (events.cell 3) (sym (ap position u.pattern ∙ position_here t d p)) in
        does_as (does_then m (k u.good))
        (ap₂ (λ (a : ℕ) (o : Node). say (does (make a) ∷ []) ▷ pattern_made o) y (sym u.pattern) ∙ made_other D u.lowered name)

    pub declarator_excluded : {g g' : Going} (root : Bool) → (Good t d p → Does g g' (over_all (own.Excluded root) Replacing (look_node t d p).value))
        → Good t left at → byte_at t at ≡ 5 → Does g g' (declarator_excludes root (look_node t left at).value)
    declarator_excluded root k good kind =
        let u = parts good kind in
        does_as (k u.good)
        (over_excludes (look_node t d p).value root
        ∙ ap (over_objects (excludes_of root) replacing) (sym u.pattern) ∙ excluded_some (look_node t left at).value root u.lowered)

-- ---- a declaration

module _ (t : List ℕ) (left d at q p n : ℕ) (e : d ≡ left - 1) (a : q ≡ onward t at 5) (b : p ≡ onward t q 2) (w : Wide t q n) where
  from_list : (F : ℕ → ℕ → Type 0) → F n p → F (wide_at t (onward t at 5)) (onward t (onward t at 5) 2)
  from_list F x = subst (λ (m : ℕ). F m (onward t (onward t at 5) 2)) (w.value ∙ ap (λ (y : ℕ). wide_at t y) a) (subst (λ (y : ℕ). F n y) (b ∙ ap (λ (y : ℕ). onward t y 2) a) x)

  pub declaration_does : {g g₁ g₂ : Going} (root : Bool)
      → (GoodItems t (look_node t d) (Good t d) false false n p → AllItems (λ q. is 5 q ≡ true) (look_items t (look_node t d) false n p).value → Does g g₁ (in_turn declarator_made (look_items t (look_node t d) false n p).value))
      → (GoodItems t (look_node t d) (Good t d) false false n p → AllItems (λ q. is 5 q ≡ true) (look_items t (look_node t d) false n p).value → Does g₁ g₂ (in_turn (declarator_excludes root) (look_items t (look_node t d) false n p).value))
      → Good t left at → byte_at t at ≡ 4
      → Does g g₂ (in_turn declarator_made (items_at_of 2 (look_node t left at).value) ▷ in_turn (declarator_excludes root) (items_at_of 2 (look_node t left at).value))
  unfolding items_at_of piece_in
  declaration_does {g = g} {g₁ = g₁} {g₂ = g₂} root f h good kind =
      at_level t (λ (m : ℕ). Does g g₂ (in_turn declarator_made (items_at_of 2 (look_node t m at).value) ▷ in_turn (declarator_excludes root) (items_at_of 2 (look_node t m at).value))) left d at e good
      (λ here.
      let u = declaration_open t d at here kind in
      let f' = from_list (λ (m y : ℕ). GoodItems t (look_node t d) (Good t d) false false m y → AllItems (λ q. is 5 q ≡ true) (look_items t (look_node t d) false m y).value → Does g g₁ (in_turn declarator_made (look_items t (look_node t d) false m y).value)) f in
      let h' = from_list (λ (m y : ℕ). GoodItems t (look_node t d) (Good t d) false false m y → AllItems (λ q. is 5 q ≡ true) (look_items t (look_node t d) false m y).value → Does g₁ g₂ (in_turn (declarator_excludes root) (look_items t (look_node t d) false m y).value)) h in
      does_as (does_then (f' u.list.good u.declarators) (h' u.list.good u.declarators))
      (ap (λ (s : Seen Node). in_turn declarator_made (items_at_of 2 s.value) ▷ in_turn (declarator_excludes root) (items_at_of 2 s.value)) (sym u.whole)))

-- ---- assignments

pub view_taking : (v : views.View) → v ≡ Taking → view_of v ≡ taking
unfolding view_of
view_taking v e = rw e refl

pub view_replacing : (v : views.View) → v ≡ Replacing → view_of v ≡ replacing
unfolding view_of
view_replacing v e = rw e refl

module _ (t : List ℕ) (left at : ℕ) where
  abbrev target : Node
  target = (look_node t left at).value

  places_within : (v : View) → Good t left at → places_in v target ≤ 16384
  places_within v g = omega (arith, places_small v target, good_short t left at g)

  -- how many parts there are
  parts_counted : (n : ℕ) → n ≡ limited (count (reached_in straight target)) → Good t left at → n ≡ parts_count target
  unfolding parts_count
  parts_counted n h good =
      let s = good_short t left at good in
      let z = parts_fit nameless target in
      let y = ap count (parts_reached target) in
      h ∙ counted_whole (count (reached_in straight target)) 16384 (omega arith) (omega arith)

  -- the entry, and the value's temporary
  head_does : {g g₁ g₂ g₃ : Going} (m k x : ℕ) → Good t left at → x ≡ cell_at 3 at
      → Does g g₁ (say (does (entry m k) ∷ [])) → Does g₁ g₂ (say (lists (5 ∷ 1 ∷ []))) → Does g₂ g₃ (say (does (listed_temporary x 3) ∷ []))
      → Does g g₃ (say (does (entry m k) ∷ lists (5 ∷ 1 ∷ []) ++ (does (listed_temporary (events.cell 3 at) 3) ∷ [])))
  head_does m k x good f a b c =
      let y : x ≡ events.cell 3 at = cell_within _ _ _ f (omega (arith, good_within t left at good)) in
      does_as (does_then a (does_then b c))
      (three_say (does (entry m k) ∷ []) (lists (5 ∷ 1 ∷ [])) (does (listed_temporary x 3) ∷ [])
      ∙ ap (λ (z : ℕ). say (does (entry m k) ∷ lists (5 ∷ 1 ∷ []) ++ (does (listed_temporary z 3) ∷ []))) y)

  entry_length : (n p k : ℕ) → p ≡ limited (count (reached_in straight target)) → ((c : Context) → k ≡ limited (count (key_temporaries c target))) → n ≡ limited (p + k) → Good t left at
      → 1 + n ≡ suc (parts_count target + other_keys (properties target))
  unfolding parts_count
  entry_length n p k a b e good =
      let s = good_short t left at good in
      let z = parts_fit nameless target in
      let y = ap count (parts_reached target) in
      let x : p ≡ count (reached_in straight target) = a ∙ counted_whole (count (reached_in straight target)) 16384 (omega arith) (omega arith) in
      let w : k ≡ count (key_temporaries nameless target) = b nameless ∙ counted_whole (count (key_temporaries nameless target)) 16384 (omega arith) (omega arith) in
      let v : n ≡ p + k = e ∙ counted_whole (p + k) 16384 (omega arith) (omega arith) in
      let u = keys_counted nameless target in
      omega arith

  top_is : (root : Bool) (m k : ℕ) → k ≡ suc (parts_count target + other_keys (properties target))
      → say (does (entry m k) ∷ lists (5 ∷ 1 ∷ []) ++ (does (listed_temporary (events.cell 3 at) 3) ∷ [])) ▷ over_parts hands_place target ▷ hands_keys target ▷ excludes_of root target ≡ hands_top root m target
  unfolding hands_top
  top_is root m k e =
      ap (λ (x : ℕ). say (does (entry m x) ∷ lists (5 ∷ 1 ∷ []) ++ (does (listed_temporary (events.cell 3 at) 3) ∷ [])) ▷ over_parts hands_place target ▷ hands_keys target ▷ excludes_of root target) e
      ∙ ap (λ (x : ℕ). say (does (entry m (suc (parts_count target + other_keys (properties target)))) ∷ lists (5 ∷ 1 ∷ []) ++ (does (listed_temporary (events.cell 3 x) 3) ∷ [])) ▷ over_parts hands_place target ▷ hands_keys target ▷ excludes_of root target) (sym (position_here t left at))

  straight_values : in_turn (λ q. over_reached hands_place (reach_of Straight) (value q)) (properties target) ≡ over_parts hands_place target
  unfolding reach_of
  straight_values = sym (over_parts_lem hands_place target)

  array_values : in_turn (λ q. over_reached hands_place (reach_of InArrays) (value q)) (properties target) ≡ over_replaced hands_place taking target
  unfolding reach_of
  array_values = sym (over_arrays hands_place target)

  anywhere_below : over_reached hands_place (reach_of Anywhere) target ≡ over_replaced hands_place replacing target
  unfolding reach_of
  anywhere_below = sym (over_anywhere hands_place target)

  pub top_does : {g g₁ g₂ g₃ g₄ g₅ g₆ : Going} (root : Bool) (m n p k x : ℕ) → p ≡ values_count t (reach_of Straight) left at
      → ((c : Context) → k ≡ limited (count (key_temporaries c target))) → n ≡ limited (p + k)
      → x ≡ cell_at 3 at
      → Does g g₁ (say (does (entry m (1 + n)) ∷ [])) → Does g₁ g₂ (say (lists (5 ∷ 1 ∷ []))) → Does g₂ g₃ (say (does (listed_temporary x 3) ∷ []))
      → (Good t left at → byte_at t at ≡ 34 → Does g₃ g₄ (in_turn (λ q. over_reached hands_place (reach_of Straight) (value q)) (properties target)))
      → (Good t left at → byte_at t at ≡ 34 → Does g₄ g₅ (in_turn (key_of use-of.Listed) (properties target)))
      → (Good t left at → byte_at t at ≡ 34 → Does g₅ g₆ (excludes_of root target))
      → Good t left at → byte_at t at ≡ 34 → Does g g₆ (hands_top root m target)
  unfolding reach_of
  top_does root m n p k x h j e f a b c u v w good kind =
      does_as
      (does_then (head_does m (1 + n) x good f a b c) (does_then (does_as (u good kind) straight_values) (does_then (does_as (v good kind) (hands_turn target)) (w good kind))))
      (top_is root m (1 + n) (entry_length n p k (h ∙ values_object t straight left at kind) j e good))

  -- how many places there are in a view
  pub places_counted : {n : ℕ} (v : views.View) → n ≡ places_at t v left at → (v ≡ Taking → byte_at t at ≡ 34) → n ≡ limited (places_in (view_of v) target)
  unfolding places_at places_in view_of
  places_counted Replacing e k = e
  places_counted Taking e k = e ∙ values_object t in_arrays left at (k refl)

  nested_is : (v : View) (m k : ℕ) → k ≡ places_in v target → say (does (entry m k) ∷ []) ▷ over_replaced hands_place v target ≡ hands_nested v m target
  unfolding hands_nested
  nested_is v m k e = ap (λ (x : ℕ). say (does (entry m x) ∷ []) ▷ over_replaced hands_place v target) e

  nested_by : {g g₁ g₂ : Going} (m n : ℕ) (v : View) → n ≡ limited (places_in v target)
      → Does g g₁ (say (does (entry m n) ∷ [])) → Does g₁ g₂ (over_replaced hands_place v target) → Good t left at → Does g g₂ (hands_nested v m target)
  nested_by m n v h a k good =
      does_as (does_then a k) (nested_is v m n (h ∙ counted_whole (places_in v target) 16384 (places_within v good) (omega arith)))

  pub nested_taking : {g g₁ g₂ : Going} (m n : ℕ) (v : views.View) → v ≡ Taking → n ≡ places_at t v left at
      → Does g g₁ (say (does (entry m n) ∷ [])) → (Good t left at → byte_at t at ≡ 34 → Does g₁ g₂ (in_turn (λ q. over_reached hands_place (reach_of InArrays) (value q)) (properties target)))
      → Good t left at → (v ≡ Taking → byte_at t at ≡ 34) → Does g g₂ (hands_nested (view_of v) m target)
  nested_taking {g = g} {g₂ = g₂} m n v e h a k good kind =
      let x : view_of v ≡ taking = view_taking v e in
      subst (λ (w : View). Does g g₂ (hands_nested w m target)) (sym x)
      (nested_by m n taking (places_counted v h kind ∙ ap (λ (w : View). limited (places_in w target)) x) a (does_as (k good (kind e)) array_values) good)

  pub nested_replacing : {g g₁ g₂ : Going} (m n : ℕ) (v : views.View) → v ≡ Replacing → n ≡ places_at t v left at
      → Does g g₁ (say (does (entry m n) ∷ []))
      → ((h : Bool) → (hole_at t h at ≡ false → Good t left at) → Does g₁ g₂ (cond (hole_at t h at) (say []) (over_reached hands_place (reach_of Anywhere) target)))
      → Good t left at → (v ≡ Taking → byte_at t at ≡ 34) → Does g g₂ (hands_nested (view_of v) m target)
  unfolding hole_at
  nested_replacing {g = g} {g₂ = g₂} m n v e h a k good kind =
      let x : view_of v ≡ replacing = view_replacing v e in
      subst (λ (w : View). Does g g₂ (hands_nested w m target)) (sym x)
      (nested_by m n replacing (places_counted v h kind ∙ ap (λ (w : View). limited (places_in w target)) x) a (does_as (k false (λ z. good)) anywhere_below) good)

  -- how long a sequence is
  pub top_counted : {n : ℕ} (statement : Bool) → n ≡ top_at t statement left at → Good t left at → byte_at t at ≡ 34 → n ≡ suc (suc (suc (cond statement (parts_count target) (suc (parts_count target)))))
  unfolding top_at
  top_counted statement e good k = e ∙ go statement (parts_counted (values_count t straight left at) (values_object t straight left at k) good)
    where
      go : (b : Bool) → values_count t straight left at ≡ parts_count target → cond b 3 4 + values_count t straight left at ≡ suc (suc (suc (cond b (parts_count target) (suc (parts_count target)))))
      go true w = omega (arith, w)
      go false w = omega (arith, w)

  -- as the code finds them
  pub places_taking : (n : ℕ) (v : views.View) → v ≡ Taking → n ≡ values_count t (reach_of InArrays) left at → n ≡ places_at t v left at
  unfolding places_at reach_of
  places_taking n v e h = rw e h

  pub places_replacing : (n : ℕ) (v : views.View) → v ≡ Replacing → n ≡ limited (count (reached (reach_of Anywhere) target)) → n ≡ places_at t v left at
  unfolding places_at reach_of
  places_replacing n v e h = rw e h

  pub count_statement : (statement : Bool) (n : ℕ) → n ≡ values_count t (reach_of Straight) left at → statement ≡ true → 3 + n ≡ top_at t statement left at
  unfolding top_at reach_of
  count_statement statement n h e = rw (e, h) refl

  pub count_read : (statement : Bool) (n : ℕ) → n ≡ values_count t (reach_of Straight) left at → statement ≡ false → 4 + n ≡ top_at t statement left at
  unfolding top_at reach_of
  count_read statement n h e = rw (e, h) refl
