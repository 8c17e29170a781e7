-- Assignments with an object rest below the target: the ways out of the code that writes them, one law for each.
-- Assumes nothing.
use mathlib.Core.Path.{◌≡◌, refl, sym, ap, ap₂, ◌∙◌, subst}
use mathlib.Core.Bool.{Bool, true, false, cond, not, ◌&&◌, false≢true}
use mathlib.Core.List.{List, [], ◌∷◌}
use Prim.Native.Nat.{ℕ, zero, suc, ◌+◌, ◌-◌, ◌/◌, ◌%◌, ◌≤◌, ◌<◌}
use native.Mathlib.Omega.{arith}
use lib.Dec.{eqb}
use borrow.Author.Tests.{ne_eqb, eqb-true}
use Rattle.tree.specs.Tree.{Node, Fields, Items, wide_bytes, count, depth}
use Rattle.tree.specs.Tree.Node.{node}
use Rattle.tree.specs.Tree.Fields.{field}
use Rattle.tree.specs.Tree.Piece.{list}
use Rattle.tree.specs.Read.{byte_at, wide_at}
use Rattle.tree.specs.Look.{Seen, onward, look_items, look_node}
use Rattle.tree.specs.Answer.{Peeked}
use Rattle.lowering.specs.Parts.{is, is_empty, piece_in, stands_in, node_at_of, items_at_of, stands, any}
use Rattle.lowering.specs.Patterns.{shape, properties, value, has_rest_of, has_nested_object_rest, has_object_rest, has_array_rest_over_object_rest}
use Rattle.lowering.specs.Patterns.Shape.{leaf}
use Rattle.lowering.specs.Keys.{keys_refusal}
use Rattle.lowering.specs.Assignments.{target, is_top, top_refusal}
use Rattle.lowering.proofs.All.{AllItems}
use Rattle.lowering.proofs.Cases.{by_test, by_number}
use Rattle.lowering.proofs.Clauses.{top_34, top_rest}
use Rattle.sink.specs.Machine.{low}
use Rattle.sink.specs.Machine.Event.{temporary}
use Rattle.pattern.specs.declared.source.ReferenceBuilder.{ReferenceBuilder}
use Rattle.pattern.specs.Source.{Given, builder_of, read_of, place_read, after_read}
use Rattle.pattern.proofs.SourceReads.{first_read, later_forced}
use Rattle.pattern.specs.Tally.{limited}
use Rattle.pattern.proofs.CountsFit.{parts_fit}
use Rattle.direct.specs.Events.{Place, Emit, puts, cell, emits}
use Rattle.direct.specs.Events.Deed.{does, refuses}
use Rattle.direct.specs.Emit.{say, ◌▷◌, inner, stays}
use Rattle.direct.specs.Views.{View, takes, object_at, object_rest_at, nameless, says_cell, emits_view}
use Rattle.direct.specs.Views.View.{replacing, taking}
use Rattle.direct.specs.Keys.{emits_rest}
use Rattle.direct.specs.Objects.{reached_in, over_replaced, over_parts}
use Rattle.direct.specs.Objects.Reach.{in_arrays}
use Rattle.direct.specs.Handed.{places_in, parts_count, hands_top, hands_nested}
use Rattle.direct.specs.Assigned.{assignment_at, assign_head, emits_rest_of, emits_inner, emits_nest, emits_target, top_count, emits_top}
use Rattle.direct.proofs.Threads.{say_say}
use Rattle.direct.proofs.ViewedPatterns.{says_cell_lem}
use Rattle.direct.proofs.Tests.{over_object_at}
use Rattle.direct.proofs.NearestObjects.{parts_reached, over_parts_lem, over_arrays, over_anywhere}
use Rattle.direct.proofs.AssignmentsByPart.{assignment_refused_5, assignment_refused_keys, assignment_stays, assignment_nested, assignment_top, target_nested, target_kept, rest_done, inner_refused, inner_done, rest_top}
use Rattle.walk.specs.declared.modes.Deep.TheVariants.{Reached}
use Rattle.walk.specs.declared.modes.Mode.TheVariants as modes
use Rattle.walk.specs.declared.views.View as views
use Rattle.walk.specs.declared.views.View.TheVariants.{Replacing, Taking}
use Rattle.walk.specs.declared.reaches.Reach.TheVariants.{Anywhere, Straight, InArrays}
use Rattle.walk.specs.Run.{Going, Does, Clear}
use Rattle.walk.specs.Whole.{Good}
use Rattle.walk.specs.Turns.{view_of, reach_of, turns_of, AllSuit, source_of, cell_at, given_deeds, given_node, unless_refused, deep_of, deep_suits}
use Rattle.walk.proofs.PlacesFit.{places_small}
use Rattle.walk.proofs.Running.{does_then, does_as, does_to, clear_after, clear_still}
use Rattle.walk.proofs.KeysOnceFull as walked
use Rattle.walk.proofs.KeysOnceFull.{source_quiet, target_again}
use Rattle.walk.proofs.SpreadArguments.{does_from}
use Rattle.emit.proofs.MovedPatterns.{as_refused}
use Rattle.walk.proofs.ListTurns.{deep_reached, turns_value_reached, suit_value_reached}
use Rattle.walk.proofs.Lookups.{cell_within}
use Rattle.walk.proofs.Opened.{ObjectOpen, AssignmentOpen, object_open, assignment_open, no_good, is_here, position_here, good_short, good_within}
use Rattle.walk.proofs.HandRules.{view_taking, view_replacing}
use Rattle.outcome.proofs.PotentialRules.{cell_1}

-- ---- the same at another place, level and position

carry : (E : Place → ℕ → ℕ → Type 0) {c c' : Place} {d d' p p' : ℕ} → c' ≡ c → d' ≡ d → p' ≡ p → E c' d' p' → E c d p
carry E {c = c} {c' = c'} {d = d} {d' = d'} {p = p} {p' = p'} u v w e =
    subst (λ (x : Place). E x d p) u (subst (λ (x : ℕ). E c' x p) v (subst (λ (x : ℕ). E c' d' x) w e))

-- the cell of a temporary as the code finds it
abbrev CellIs : ℕ → ℕ → ℕ → Type 0
CellIs z stem at = z ≡ cell_at stem at

cell_says : {g g' : Going} (z stem at : ℕ) → z ≡ cell stem at → Does g g' (say (does (temporary z stem) ∷ [])) → Does g g' (says_cell stem at)
unfolding says_cell
cell_says z stem at e d = does_as d (ap (λ (x : ℕ). say (does (temporary x stem) ∷ [])) e)

-- the head of a sequence
sequence_says : {g g₁ g₂ : Going} (k m : ℕ) → k ≡ m → m < 65536 → Does g g₁ (say (puts (28 ∷ 1 ∷ []))) → (k < 65536 → Does g₁ g₂ (say (puts (wide_bytes k)))) → Does g g₂ (say (puts (28 ∷ 1 ∷ wide_bytes m)))
sequence_says k m e h a b =
    let s : k < 65536 = omega arith in
    does_as (does_then a (b s)) (say_say (puts (28 ∷ 1 ∷ [])) (puts (wide_bytes k)) ∙ ap (λ (x : ℕ). say (puts (28 ∷ 1 ∷ wide_bytes x))) e)

-- the read of the value at the end of a sequence
pub value_read : {g g' : Going} (z p : ℕ) → CellIs z 3 p → Does g g' (say (does (temporary z 3) ∷ [])) → p < 16384 → Does g g' (says_cell 3 p)
value_read z p ce d wi = cell_says z 3 p (cell_within _ _ _ ce wi) d

pub read_none : (b : Bool) (p : ℕ) → b ≡ true → say [] ≡ cond b (say []) (says_cell 3 p)
read_none b p e = rw e refl

pub read_some : (b : Bool) (p : ℕ) → b ≡ false → says_cell 3 p ≡ cond b (say []) (says_cell 3 p)
read_some b p e = rw e refl

-- what a read gave, where it is a temporary
pub read_place : (x k s : ℕ) (r : Given) (b : ReferenceBuilder) → x ≡ place_read r → r ≡ read_of b → read_of b ≡ Given.temporary k s → x ≡ k
unfolding place_read
read_place x k s r b e f h = e ∙ ap place_read (f ∙ h)

-- ---- lists that hold something

some_counted : (is : Items) → 0 < count is → is_empty is ≡ false
unfolding is_empty count
some_counted Items.none h = absurd (omega (arith, h))
some_counted (Items.hole is) h = refl
some_counted (Items.item n is) h = refl

none_counted : (is : Items) → count is ≡ 0 → is_empty is ≡ true
unfolding is_empty count
none_counted Items.none h = refl
none_counted (Items.hole is) h = absurd (omega (arith, h))
none_counted (Items.item n is) h = absurd (omega (arith, h))

module _ (t : List ℕ) where
  -- ---- an object with rest where it stands

  abbrev list_at_of : ℕ → ℕ → Seen Items
  list_at_of e p = look_items t (look_node t e) false (wide_at t (onward t p 2)) (onward t (onward t p 2) 2)

  abbrev rest_node : ℕ → ℕ → Node
  rest_node e p = (look_node t e (list_at_of e p).next).value

  record RestHere (d e p : ℕ) : Type 0 where
    within : p < 16384
    whole : (look_node t d p).value ≡ object_rest_at p (list_at_of e p).value (rest_node e p)
    good : Good t e (list_at_of e p).next
    leafy : shape (rest_node e p) ≡ leaf

  plain_rest : (at : ℕ) (ps : Items) → has_rest_of (object_at at ps) ≡ false
  unfolding stands stands_in
  plain_rest at ps = refl

  rest_here : (d p : ℕ) → Good t d p → byte_at t p ≡ 34 → has_rest_of (look_node t d p).value ≡ true → RestHere d (d - 1) p
  rest_here zero p g k h = no_good t p g
  rest_here (suc d) p g k h =
      let o : ObjectOpen t d p = object_open t d p g k in
      let e : d ≡ suc d - 1 = omega arith in
      let b : eqb (byte_at t (onward t p 1) / 2 % 2) 1 ≡ true =
      by_test (eqb (byte_at t (onward t p 1) / 2 % 2) 1) (λ y. y)
      (λ y. absurd (false≢true (sym (plain_rest p _) ∙ ap (λ (s : Seen Node). has_rest_of s.value) (sym (o.plain y)) ∙ h))) in
      subst (λ (x : ℕ). RestHere (suc d) x p) e
      (record {
        within = omega (arith, o.within);
        whole = ap (λ (s : Seen Node). s.value) (o.resting b);
        good = o.rest b;
        leafy = o.leafy b;
      })

  second_rest : (d p : ℕ) → Good t d p → byte_at t p ≡ 34 → eqb (byte_at t (onward t p 1) / 2 % 2) 1 ≡ true → has_rest_of (look_node t d p).value ≡ true
  unfolding stands stands_in
  second_rest zero p g k b = no_good t p g
  second_rest (suc d) p g k b = ap (λ (s : Seen Node). has_rest_of s.value) ((object_open t d p g k).resting b)

  no_second : (d p : ℕ) → Good t d p → byte_at t p ≡ 34 → eqb (byte_at t (onward t p 1) / 2 % 2) 1 ≡ false → has_rest_of (look_node t d p).value ≡ false
  unfolding stands stands_in
  no_second zero p g k b = no_good t p g
  no_second (suc d) p g k b = ap (λ (s : Seen Node). has_rest_of s.value) ((object_open t d p g k).plain b)

  object_values : (at : ℕ) (ps : Items) (fs : Fields) → properties (node at 34 (field (list ps) fs)) ≡ ps
  unfolding items_at_of piece_in
  object_values at ps fs = refl

  -- what the values of an object suit
  values_clear : (d p : ℕ) → Good t d p → byte_at t p ≡ 34 → has_array_rest_over_object_rest (look_node t d p).value ≡ false
      → AllItems (λ q. is 35 q ≡ true) (properties (look_node t d p).value) × (any (λ q. has_array_rest_over_object_rest (value q)) (properties (look_node t d p).value) ≡ false)
  values_clear zero p g k h = no_good t p g
  values_clear (suc d) p g k h =
      let o : ObjectOpen t d p = object_open t d p g k in
      let ps = (list_at_of d p).value in
      let n = (look_node t (suc d) p).value in
      let by : (fs : Fields) → n ≡ node p 34 (field (list ps) fs)
      → AllItems (λ q. is 35 q ≡ true) (properties n) × (any (λ q. has_array_rest_over_object_rest (value q)) (properties n) ≡ false) =
      λ fs whole.
      let these : ps ≡ properties n = sym (object_values p ps fs) ∙ ap (λ (m : Node). properties m) (sym whole) in (
        subst (λ (xs : Items). AllItems (λ q. is 35 q ≡ true) xs) these o.properties,
        ap (λ (xs : Items). any (λ q. has_array_rest_over_object_rest (value q)) xs) (sym these) ∙ sym (over_object_at p ps fs) ∙ ap (λ (m : Node). has_array_rest_over_object_rest m) (sym whole) ∙ h,
      ) in
      by_test (eqb (byte_at t (onward t p 1) / 2 % 2) 1)
      (λ b. by _ (ap (λ (s : Seen Node). s.value) (o.resting b)))
      (λ b. by _ (ap (λ (s : Seen Node). s.value) (o.plain b)))

  -- ---- what is assigned

  pub giv_node : {g h g' : Going} (c : Place) (d x q stem : ℕ) (input : Bool) → input ≡ true → h ≡ g → q ≡ x
      → (Good t d q → Does h g' (emits c (look_node t d q).value)) → (input ≡ true → Good t d x) → Does g g' (given_deeds t d c input stem x)
  unfolding given_deeds
  giv_node {h = h} {g' = g'} c d x q stem input b m w n good =
      let a : Does h g' (emits c (look_node t d x).value) = carry (λ y e z. Good t e z → Does h g' (emits y (look_node t e z).value)) refl refl w n (good b) in
      does_from m (does_as a (ap (λ (y : Bool). cond y (emits c (look_node t d x).value) (say (does (temporary x stem) ∷ []))) (sym b)))

  pub giv_cell : {g g' : Going} (c : Place) (d x stem : ℕ) (input : Bool) → input ≡ false → Does g g' (say (does (temporary x stem) ∷ [])) → Does g g' (given_deeds t d c input stem x)
  unfolding given_deeds
  giv_cell c d x stem input b n = does_as n (ap (λ (y : Bool). cond y (emits c (look_node t d x).value) (say (does (temporary x stem) ∷ []))) (sym b))

  given_is : (c : Place) (d x : ℕ) (input : Bool) → emits c (given_node t d input x) ≡ given_deeds t d c input 1 x
  unfolding given_deeds says_cell
  given_is c d x true = refl
  given_is c d x false = says_cell_lem c [] 1 x ∙ ap (λ (z : ℕ). say (does (temporary z 1) ∷ [])) (cell_1 x)

  -- ---- the rest of an object, from a temporary

  -- the value of a rest as the code writes it
  rest_does : {g g' : Going} (c c' : Place) (d d' p z stem x : ℕ) (b : ReferenceBuilder) → c' ≡ c → d' ≡ d → z ≡ cell stem x → ((u : List ℕ) → source_of u b ≡ say (does (temporary z stem) ∷ []))
      → (Good t d' p → byte_at t p ≡ 34 → Does g g' (emits_rest c' p (properties (look_node t d' p).value) (source_of t b))) → Good t d p → byte_at t p ≡ 34
      → Does g g' (emits_rest c p (properties (look_node t d p).value) (says_cell stem x))
  unfolding says_cell
  rest_does {g = g} {g' = g'} c c' d d' p z stem x b u v e s r good k =
      does_as (carry (λ y f q. Good t f q → byte_at t q ≡ 34 → Does g g' (emits_rest y q (properties (look_node t f q).value) (source_of t b))) u v refl r good k)
      (ap (λ (y : Emit). emits_rest c p (properties (look_node t d p).value) y) (s t ∙ ap (λ (y : ℕ). say (does (temporary y stem) ∷ [])) e))

  node_does : {g h g' : Going} (c c' : Place) (d d' p q : ℕ) → h ≡ g → c' ≡ c → d' ≡ d → q ≡ p → (Good t d' q → Does h g' (emits c' (look_node t d' q).value)) → Good t d p → Does g g' (emits c (look_node t d p).value)
  node_does {h = h} {g' = g'} c c' d d' p q m u v w n good = does_from m (carry (λ y f z. Good t f z → Does h g' (emits y (look_node t f z).value)) u v w n good)

  -- ---- objects replaced, then an assignment for each

  view_does : {g h g' : Going} (v : View) (c c' : Place) (d d' p q r : ℕ) → h ≡ g → c' ≡ c → d' ≡ d → q ≡ p
      → (Good t d' q → (r ≡ (look_node t d' q).next) × Does h g' (emits_view c' v (look_node t d' q).value)) → Good t d p → Does g g' (emits_view c v (look_node t d p).value)
  view_does {h = h} {g' = g'} v c c' d d' p q r m u w e n good =
      does_from m (carry (λ y f z. Good t f z → (r ≡ (look_node t f z).next) × Does h g' (emits_view y v (look_node t f z).value)) u w e n good).1

  given_does : {g g' : Going} (c c' : Place) (d d' x stem : ℕ) (input : Bool) → c' ≡ c → d' ≡ d → ((input ≡ true → Good t d' x) → Does g g' (given_deeds t d' c' input stem x))
      → (input ≡ true → Good t d x) → Does g g' (given_deeds t d c input stem x)
  given_does {g = g} {g' = g'} c c' d d' x stem input u w n good = carry (λ y f z. (input ≡ true → Good t f z) → Does g g' (given_deeds t f y input stem z)) u w refl n good

  -- what is done for the objects that were replaced
  abbrev pub Replaced : Place → ℕ → views.View → ℕ → Going → Going → Type 0
  Replaced c d v p g g' =
      (v ≡ Taking → byte_at t p ≡ 34) → Good t d p → has_array_rest_over_object_rest (look_node t d p).value ≡ false → Does g g' (over_replaced (emits_inner c) (view_of v) (look_node t d p).value)

  suits_anywhere : (n : Node) → has_array_rest_over_object_rest n ≡ false → deep_suits (Reached Anywhere) n ≡ true
  unfolding deep_suits
  suits_anywhere n h = ap not h

  -- wherever they are
  pub nst_below : {g h g' : Going} (c : Place) (d : ℕ) (v : views.View) (p q r : ℕ) → v ≡ Replacing → h ≡ g → q ≡ p
      → (Good t d q → deep_suits (Reached Anywhere) (look_node t d q).value ≡ true → (r ≡ (look_node t d q).next) × Does h g' (deep_of (Reached Anywhere) c (look_node t d q).value))
      → Replaced c d v p g g'
  unfolding reach_of
  nst_below {h = h} {g' = g'} c d v p q r one m w deep kind good ar =
      let n = (look_node t d p).value in
      let D = subst (λ (z : ℕ). Good t d z → deep_suits (Reached Anywhere) (look_node t d z).value ≡ true → (r ≡ (look_node t d z).next) × Does h g' (deep_of (Reached Anywhere) c (look_node t d z).value)) w deep good (suits_anywhere n ar) in
      does_from m (does_as D.1 (deep_reached c n Anywhere ∙ sym (over_anywhere (emits_inner c) n) ∙ ap (λ (y : View). over_replaced (emits_inner c) y n) (sym (view_replacing v one))))

  -- below arrays alone
  pub nst_arrays : {g g' : Going} (c : Place) (d : ℕ) (v : views.View) (p r e : ℕ) → v ≡ Taking
      → (byte_at t p ≡ 34 → Good t d p → AllSuit (modes.Value (Reached InArrays)) (properties (look_node t d p).value) → (r ≡ e) × Does g g' (turns_of (modes.Value (Reached InArrays)) c (properties (look_node t d p).value)))
      → Replaced c d v p g g'
  unfolding reach_of
  nst_arrays c d v p r e two values kind good ar =
      let n = (look_node t d p).value in
      let k : byte_at t p ≡ 34 = kind two in
      let o = values_clear d p good k ar in
      does_as (values k good (suit_value_reached InArrays (properties n) o.0 o.1)).1
      (turns_value_reached c (properties n) InArrays ∙ sym (over_arrays (emits_inner c) n) ∙ ap (λ (y : View). over_replaced (emits_inner c) y n) (sym (view_taking v two)))

  one_more : (a k m : ℕ) → a ≤ 16384 → k ≡ limited a → m ≡ limited (k + 1) → m ≡ suc a
  unfolding limited
  one_more a k m h e f = omega arith

  pub nst_done : {g₀ g₁ g₂ g₃ g₄ h₄ g₅ g₆ g₇ : Going} (c c₁ c₂ : Place) (d d₁ d₂ : ℕ) (v : views.View) (op p q r₅ k m x stem : ℕ) (input : Bool)
      → ((v ≡ Taking → byte_at t p ≡ 34) → k ≡ limited (places_in (view_of v) (look_node t d p).value))
      → (Good t d p → (v ≡ Taking → byte_at t p ≡ 34) → Does g₀ g₁ (hands_nested (view_of v) c.mark (look_node t d p).value))
      → Does g₁ g₂ (say (puts (28 ∷ 1 ∷ []))) → m ≡ limited (k + 1) → (m < 65536 → Does g₂ g₃ (say (puts (wide_bytes m)))) → Does g₃ g₄ (assign_head op)
      → h₄ ≡ g₄ → q ≡ p → (c₁ ≡ inner c) × (d₁ ≡ d)
      → (Good t d₁ q → (r₅ ≡ (look_node t d₁ q).next) × Does h₄ g₅ (emits_view c₁ (view_of v) (look_node t d₁ q).value))
      → (c₂ ≡ inner c) × (d₂ ≡ d) → ((input ≡ true → Good t d₂ x) → Does g₅ g₆ (given_deeds t d₂ c₂ input stem x))
      → Replaced c d v p g₆ g₇
      → (v ≡ Taking → byte_at t p ≡ 34) → Good t d p → (input ≡ true → Good t d x) → has_array_rest_over_object_rest (look_node t d p).value ≡ false
      → Does g₀ g₇ (emits_nest c (view_of v) op (look_node t d p).value (given_deeds t d (inner c) input stem x))
  unfolding emits_nest
  nst_done c c₁ c₂ d d₁ d₂ v op p q r₅ k m x stem input pk hands two pm wide ass t₄ w₄ i₁ view i₂ giv last kind good gx ar =
      let n = (look_node t d p).value in
      let pl : places_in (view_of v) n ≤ 16384 = omega (arith, places_small (view_of v) n, good_short t d p good) in
      let mm : m ≡ suc (places_in (view_of v) n) = one_more (places_in (view_of v) n) k m pl (pk kind) pm in
      does_then (hands good kind)
      (does_then (sequence_says m (suc (places_in (view_of v) n)) mm (omega arith) two wide)
      (does_then ass
      (does_then (view_does (view_of v) (inner c) c₁ d d₁ p q r₅ t₄ i₁.0 i₁.1 w₄ view good)
      (does_then (given_does (inner c) c₂ d d₂ x stem input i₂.0 i₂.1 giv gx) (last kind good ar)))))

  -- ---- the target without its rest

  -- what is assigned to it: the temporary of its value
  value_given : (c : Place) (d p z : ℕ) → z ≡ cell 3 p → given_deeds t d c false 3 z ≡ says_cell 3 p
  unfolding given_deeds says_cell
  value_given c d p z e = ap (λ (x : ℕ). say (does (temporary x 3) ∷ [])) e

  nest_as : {g g' : Going} (c c' : Place) (d d' p z : ℕ) → c' ≡ c → d' ≡ d → z ≡ cell 3 p
      → ((◌≡◌ {A = views.View} Taking Taking → byte_at t p ≡ 34) → Good t d' p → (false ≡ true → Good t d' z) → has_array_rest_over_object_rest (look_node t d' p).value ≡ false
      → Does g g' (emits_nest c' (view_of Taking) 1 (look_node t d' p).value (given_deeds t d' (inner c') false 3 z)))
      → byte_at t p ≡ 34 → Good t d p → has_array_rest_over_object_rest (look_node t d p).value ≡ false → Does g g' (emits_nest c taking 1 (look_node t d p).value (says_cell 3 p))
  unfolding view_of
  nest_as {g = g} {g' = g'} c c' d d' p z u w e n k good ar =
      does_as
      (carry (λ y f q. (◌≡◌ {A = views.View} Taking Taking → byte_at t q ≡ 34) → Good t f q → (false ≡ true → Good t f z) → has_array_rest_over_object_rest (look_node t f q).value ≡ false
      → Does g g' (emits_nest y taking 1 (look_node t f q).value (given_deeds t f (inner y) false 3 z))) u w refl n
      (λ _. k) good (λ x. absurd (false≢true x)) ar)
      (ap (λ (s : Emit). emits_nest c taking 1 (look_node t d p).value s) (value_given (inner c) d p z e))

  object_within : (d p : ℕ) → Good t d p → p < 16384
  object_within d p g = omega (arith, good_within t d p g)

  -- whether objects are replaced below its arrays
  some_replaced : (n : Node) (k : ℕ) → k ≡ limited (count (reached_in (reach_of InArrays) n)) → 0 < k → is_empty (reached_in in_arrays n) ≡ false
  unfolding reach_of limited
  some_replaced n k e h = some_counted (reached_in in_arrays n) (omega arith)

  none_replaced : (n : Node) (k : ℕ) → k ≡ limited (count (reached_in (reach_of InArrays) n)) → k ≤ 0 → is_empty (reached_in in_arrays n) ≡ true
  unfolding reach_of limited
  none_replaced n k e h = none_counted (reached_in in_arrays n) (omega arith)

  -- the source of an assignment is forced: its first read gives what is assigned, and from then on it gives the temporary
  pub forced_place : (d x y k : ℕ) (r : Given) (b : ReferenceBuilder) → y ≡ place_read r → r ≡ read_of b → b ≡ builder_of t d x k 3 true → y ≡ x
  unfolding place_read
  forced_place d x y k r b e f h = e ∙ ap place_read (f ∙ ap read_of h ∙ first_read t d x k 3 true)

  pub forced_reads : (d x k p : ℕ) (b n : ReferenceBuilder) → b ≡ builder_of t d x k 3 true → n ≡ after_read b → k ≡ cell_at 3 p → read_of n ≡ Given.temporary (cell_at 3 p) 3
  forced_reads d x k p b n e f h = ap read_of (f ∙ ap after_read e) ∙ later_forced t d x k 3 ∙ ap (λ (y : ℕ). Given.temporary y 3) h

  pub given_at : {g g' : Going} (x y d stem : ℕ) (c : Place) (input : Bool) → y ≡ x → ((input ≡ true → Good t d y) → Does g g' (given_deeds t d c input stem y))
      → (input ≡ true → Good t d x) → Does g g' (given_deeds t d c input stem x)
  given_at {g = g} {g' = g'} x y d stem c input e h = subst (λ (z : ℕ). (input ≡ true → Good t d z) → Does g g' (given_deeds t d c input stem z)) e h

  pub tgt_nested : {g g' : Going} (c c₁ : Place) (d d₁ p z k : ℕ) → (byte_at t p ≡ 34 → k ≡ limited (count (reached_in (reach_of InArrays) (look_node t d p).value))) → 0 < k → (c₁ ≡ inner c) × (d₁ ≡ d) → CellIs z 3 p
      → ((◌≡◌ {A = views.View} Taking Taking → byte_at t p ≡ 34) → Good t d₁ p → (false ≡ true → Good t d₁ z) → has_array_rest_over_object_rest (look_node t d₁ p).value ≡ false
      → Does g g' (emits_nest c₁ (view_of Taking) 1 (look_node t d₁ p).value (given_deeds t d₁ (inner c₁) false 3 z)))
      → byte_at t p ≡ 34 → Good t d p → has_array_rest_over_object_rest (look_node t d p).value ≡ false → Does g g' (emits_target c (look_node t d p).value)
  tgt_nested c c₁ d d₁ p z k e h i ce n by good ar =
      let y = (look_node t d p).value in
      does_as (nest_as (inner c) c₁ d d₁ p z i.0 i.1 (cell_within _ _ _ ce (object_within d p good)) n by good ar)
      (ap (λ (x : ℕ). emits_nest (inner c) taking 1 y (says_cell 3 x)) (sym (position_here t d p)) ∙ sym (target_nested c y (some_replaced y k (e by) h)))

  pub tgt_kept : {g₀ g₁ h₁ g₂ g₃ : Going} (c c₁ : Place) (d d₁ p q r z k : ℕ) → (byte_at t p ≡ 34 → k ≡ limited (count (reached_in (reach_of InArrays) (look_node t d p).value))) → k ≤ 0 → (c₁ ≡ inner c) × (d₁ ≡ d)
      → Does g₀ g₁ (assign_head 1) → h₁ ≡ g₁ → q ≡ p
      → (Good t d₁ q → (r ≡ (look_node t d₁ q).next) × Does h₁ g₂ (emits_view c₁ (view_of Taking) (look_node t d₁ q).value))
      → CellIs z 3 p → Does g₂ g₃ (say (does (temporary z 3) ∷ []))
      → byte_at t p ≡ 34 → Good t d p → has_array_rest_over_object_rest (look_node t d p).value ≡ false → Does g₀ g₃ (emits_target c (look_node t d p).value)
  unfolding view_of
  tgt_kept c c₁ d d₁ p q r z k e h i ass m w view ce last by good ar =
      let y = (look_node t d p).value in
      does_as
      (does_then ass
      (does_then (view_does taking (inner c) c₁ d d₁ p q r m i.0 i.1 w view good)
      (cell_says z 3 p (cell_within _ _ _ ce (object_within d p good)) last)))
      (ap (λ (x : ℕ). assign_head 1 ▷ emits_view (inner c) taking y ▷ says_cell 3 x) (sym (position_here t d p)) ∙ sym (target_kept c y (none_replaced y k (e by) h)))

  -- ---- the target is an object with rest

  abbrev pub Topped : Place → ℕ → ℕ → Bool → ℕ → ℕ → Going → Going → Type 0
  Topped c d p input stem x g g' =
      Does g g' (unless_refused (keys_refusal (look_node t d p).value) (emits_top c (look_node t d p).value (given_deeds t d (inner c) input stem x)))

  top_way : {g g' : Going} (c : Place) (n : Node) (s : Emit) (b : ℕ) → keys_refusal n ≡ b → Does g g' (unless_refused b (emits_top c n s)) → Does g g' (unless_refused (keys_refusal n) (emits_top c n s))
  top_way c n s b e d = does_as d (ap (λ (x : ℕ). unless_refused x (emits_top c n s)) (sym e))

  refusing : {g g' : Going} (b : ℕ) (e : Emit) → 0 < b → Does g g' (say (refuses b ∷ puts (0 ∷ 0 ∷ []))) → Does g g' (unless_refused b e)
  refusing zero e h d = absurd (omega arith)
  refusing (suc b) e h d = d

  pub top_refused : {g g' : Going} (c : Place) (d p stem x : ℕ) (input : Bool) (b : ℕ) → b ≡ keys_refusal (look_node t d p).value → 0 < b
      → Does g g' (say (refuses b ∷ puts (0 ∷ 0 ∷ []))) → Topped c d p input stem x g g'
  top_refused c d p stem x input b e h r =
      top_way c (look_node t d p).value (given_deeds t d (inner c) input stem x) b (sym e) (refusing b (emits_top c (look_node t d p).value (given_deeds t d (inner c) input stem x)) h r)

  parts_small : (d p : ℕ) → Good t d p → parts_count (look_node t d p).value ≤ 16384
  unfolding parts_count
  parts_small d p good =
      let n = (look_node t d p).value in
      let s = good_short t d p good in
      let z = parts_fit nameless n in
      let y = ap count (parts_reached n) in
      omega arith

  count_is : (c : Place) (d p k : ℕ) → Good t d p → k ≡ suc (suc (suc (cond c.statement (parts_count (look_node t d p).value) (suc (parts_count (look_node t d p).value)))))
      → (k ≡ top_count c (look_node t d p).value) × (top_count c (look_node t d p).value < 65536)
  unfolding top_count
  count_is c d p k g h =
      (h, go c.statement (parts_count (look_node t d p).value) (parts_small d p g))
    where
      go : (b : Bool) (m : ℕ) → m ≤ 16384 → suc (suc (suc (cond b m (suc m)))) < 65536
      go true m l = omega arith
      go false m l = omega arith

  -- the rest, behind the target and the parts: what is written for the target refuses nothing, so its value does not
  rest_last : {g₇ i₀ i₁ i₂ : Going} (c c₁ c₂ : Place) (d d₁ d₂ e p r y z : ℕ) (f : ReferenceBuilder) → Clear g₇ (emits_target c (look_node t d p).value)
      → Does g₇ i₀ (assign_head 1) → y ≡ r → r ≡ (list_at_of (d - 1) p).next → e ≡ d - 1 → (c₂ ≡ inner c) × (d₂ ≡ e)
      → (Good t d₂ y → Does i₀ i₁ (emits c₂ (look_node t d₂ y).value))
      → CellIs z 3 p → ((u : List ℕ) → source_of u f ≡ say (does (temporary z 3) ∷ [])) → (c₁ ≡ inner c) × (d₁ ≡ d)
      → (Good t d₁ p → byte_at t p ≡ 34 → Clear i₁ (emits_rest c₁ p (properties (look_node t d₁ p).value) (source_of t f)) → Does i₁ i₂ (emits_rest c₁ p (properties (look_node t d₁ p).value) (source_of t f)))
      → byte_at t p ≡ 34 → has_rest_of (look_node t d p).value ≡ true → Good t d p → Does g₇ i₂ (emits_rest_of c (look_node t d p).value)
  unfolding items_at_of piece_in
  rest_last {i₁ = i₁} c c₁ c₂ d d₁ d₂ e p r w z f clear ass ww rr le in₂ nod ce so in₁ res k hr good =
      let o : RestHere d (d - 1) p = rest_here d p good k hr in
      let ps = (list_at_of (d - 1) p).value in
      let y = rest_node (d - 1) p in
      let N = node_does (inner c) c₂ (d - 1) d₂ (list_at_of (d - 1) p).next w refl in₂.0 (in₂.1 ∙ le) (ww ∙ rr) nod o.good in
      let again : Clear i₁ (emits_rest (inner c) p (properties (look_node t d p).value) (source_of t f)) =
      target_again c (look_node t d p).value (walked.object_here t d p good k) hr (source_of t f) (source_quiet t f) p (clear_still (clear_still clear ass) N) in
      let there : Clear i₁ (emits_rest c₁ p (properties (look_node t d₁ p).value) (source_of t f)) =
      subst (λ (m : Place). Clear i₁ (emits_rest m p (properties (look_node t d₁ p).value) (source_of t f))) (sym in₁.0)
      (subst (λ (y : ℕ). Clear i₁ (emits_rest (inner c) p (properties (look_node t y p).value) (source_of t f))) (sym in₁.1) again) in
      let Y = rest_does (inner c) c₁ d d₁ p z 3 p f in₁.0 in₁.1 (cell_within _ _ _ ce o.within) so (λ g e. res g e there) good k in
      does_as (does_then ass (does_then N Y))
      (ap (λ (n : Node). assign_head 1 ▷ emits (inner c) y ▷ emits_rest (inner c) p (properties n) (says_cell 3 p)) o.whole
      ∙ sym (rest_done c p ps y o.leafy) ∙ ap (emits_rest_of c) (sym o.whole))

  -- whatever is last
  pub top_does : {g₀ g₁ g₂ g₃ g₄ g₅ g₆ g₇ g₈ i₀ i₁ i₂ g₉ : Going} (c c₁ c₂ c₃ : Place) (d d₁ d₂ e p r y stem x k z z₂ : ℕ) (input : Bool) (b : ℕ) (f : ReferenceBuilder) (last : Emit)
      → b ≡ keys_refusal (look_node t d p).value → b ≤ 0 → (c₁ ≡ inner c) × (d₁ ≡ d)
      → (Good t d p → byte_at t p ≡ 34 → Does g₀ g₁ (hands_top c.root c.mark (look_node t d p).value))
      → (Good t d p → byte_at t p ≡ 34 → k ≡ suc (suc (suc (cond c.statement (parts_count (look_node t d p).value) (suc (parts_count (look_node t d p).value))))))
      → Does g₁ g₂ (say (puts (28 ∷ 1 ∷ []))) → (k < 65536 → Does g₂ g₃ (say (puts (wide_bytes k)))) → Does g₃ g₄ (assign_head 1)
      → CellIs z 3 p → Does g₄ g₅ (say (does (temporary z 3) ∷ []))
      → ((input ≡ true → Good t d₁ x) → Does g₅ g₆ (given_deeds t d₁ c₁ input stem x))
      → (byte_at t p ≡ 34 → Good t d p → has_array_rest_over_object_rest (look_node t d p).value ≡ false → Does g₆ g₇ (emits_target c (look_node t d p).value))
      → (byte_at t p ≡ 34 → Good t d p → AllSuit (modes.Value (Reached Straight)) (properties (look_node t d p).value) → (r ≡ (list_at_of (d - 1) p).next) × Does g₇ g₈ (turns_of (modes.Value (Reached Straight)) c (properties (look_node t d p).value)))
      → Does g₈ i₀ (assign_head 1) → y ≡ r → e ≡ d - 1 → (c₂ ≡ inner c) × (d₂ ≡ e)
      → (Good t d₂ y → Does i₀ i₁ (emits c₂ (look_node t d₂ y).value))
      → CellIs z₂ 3 p → ((u : List ℕ) → source_of u f ≡ say (does (temporary z₂ 3) ∷ [])) → c₃ ≡ inner c
      → (Good t d₁ p → byte_at t p ≡ 34 → Clear i₁ (emits_rest c₃ p (properties (look_node t d₁ p).value) (source_of t f)) → Does i₁ i₂ (emits_rest c₃ p (properties (look_node t d₁ p).value) (source_of t f)))
      → (p < 16384 → Does i₂ g₉ last) → last ≡ cond c.statement (say []) (says_cell 3 p)
      → byte_at t p ≡ 34 → has_rest_of (look_node t d p).value ≡ true → Good t d p → (input ≡ true → Good t d x) → has_array_rest_over_object_rest (look_node t d p).value ≡ false
      → Topped c d p input stem x g₀ g₉
  unfolding emits_top reach_of
  top_does c c₁ c₂ c₃ d d₁ d₂ e p r y stem x k z z₂ input b f last lacks h in₁ hands kk two wide ass ce temp giv tgt parts as₂ yy le in₂ nod ce₂ so in₃ res end ends by hr good gx ar =
      let n = (look_node t d p).value in
      let X = given_deeds t d (inner c) input stem x in
      let wi : p < 16384 = object_within d p good in
      let co = count_is c d p k good (kk good by) in
      let T = tgt by good ar in
      let o = values_clear d p good by ar in
      let P = parts by good (suit_value_reached Straight (properties n) o.0 o.1) in
      let R = rest_last c c₃ c₂ d d₁ d₂ e p r y z₂ f (clear_still (clear_after T) P.1) as₂ yy P.0 le in₂ nod ce₂ so (in₃, in₁.1) res by hr good in
      top_way c n X 0 (let w : b ≡ 0 = omega arith in sym lacks ∙ w)
      (does_as
      (does_then (hands good by)
      (does_then (sequence_says k (top_count c n) co.0 co.1 two wide)
      (does_then ass
      (does_then (cell_says z 3 p (cell_within _ _ _ ce wi) temp)
      (does_then (given_does (inner c) c₁ d d₁ x stem input in₁.0 in₁.1 giv gx)
      (does_then T
      (does_then (does_as P.1 (turns_value_reached c (properties n) Straight ∙ sym (over_parts_lem (emits_inner c) n)))
      (does_then R (does_as (end wi) ends)))))))))
      (ap (λ (y : ℕ). hands_top c.root c.mark n ▷ say (puts (28 ∷ 1 ∷ wide_bytes (top_count c n))) ▷ assign_head 1 ▷ says_cell 3 y ▷ X ▷ emits_target c n ▷ over_parts (emits_inner c) n ▷ emits_rest_of c n ▷ cond c.statement (say []) (says_cell 3 y))
      (sym (position_here t d p))))

  -- ---- an assignment

  -- wherever it stands: of a target that is an object with rest
  top_is : (c : Place) (at op pat : ℕ) (ps : Items) (r x : Node) → has_array_rest_over_object_rest (object_rest_at pat ps r) ≡ false
      → emits c (assignment_at at op (object_rest_at pat ps r) x)
      ≡ unless_refused (keys_refusal (object_rest_at pat ps r)) (emits_top c (object_rest_at pat ps r) (emits (inner c) x))
  unfolding is node_at_of piece_in top_refusal
  top_is c at op pat ps r x h =
      let p = object_rest_at pat ps r in
      let n = assignment_at at op p x in
      by_number (keys_refusal p)
      (λ m b. rw b (assignment_refused_keys c n refl (suc m) (omega arith) h (rest_top pat ps r) b ∙ as_refused (suc m) (omega arith)))
      (λ b. rw b (assignment_top c at op pat ps r x h b))

  kind_34 : (d p : ℕ) → Good t d p → is 34 (look_node t d p).value ≡ true → byte_at t p ≡ 34
  kind_34 zero p g h = no_good t p g
  kind_34 (suc d) p g h = eqb-true (byte_at t p) 34 (sym (is_here t d p 34) ∙ h)

  other_kind : (d p : ℕ) → Good t d p → (byte_at t p ≡ 34 → ⊥) → is 34 (look_node t d p).value ≡ false
  other_kind zero p g h = no_good t p g
  other_kind (suc d) p g h = is_here t d p 34 ∙ ne_eqb (byte_at t p) 34 h

  no_top : (n : Node) → is 34 n ≡ false → is_top n ≡ false
  unfolding is_top
  no_top n h = rw h refl

  no_rest_top : (n : Node) → has_rest_of n ≡ false → is_top n ≡ false
  unfolding is_top
  no_rest_top n h = rw h (go (is 34 n))
    where
      go : (b : Bool) → b && false ≡ false
      go true = refl
      go false = refl

  -- its position plays no part
  any_place : (c : Place) (at op d p : ℕ) (x : Node) → Good t d p → has_array_rest_over_object_rest (look_node t d p).value ≡ false → has_object_rest (look_node t d p).value ≡ true
      → emits c (assignment_at 0 op (look_node t d p).value x) ≡ emits c (assignment_at at op (look_node t d p).value x)
  any_place c at op d p x g h o =
      let n = (look_node t d p).value in
      by_test (is_top n)
      (λ b.
      let r : RestHere d (d - 1) p = rest_here d p g (kind_34 d p g (top_34 n b)) (top_rest n b) in
      let ps = (list_at_of (d - 1) p).value in
      let y = rest_node (d - 1) p in
      rw r.whole (let h' : has_array_rest_over_object_rest (object_rest_at p ps y) ≡ false = ap (λ (m : Node). has_array_rest_over_object_rest m) (sym r.whole) ∙ h in top_is c 0 op p ps y x h' ∙ sym (top_is c at op p ps y x h')))
      (λ b. assignment_nested c 0 op n x h b o ∙ sym (assignment_nested c at op n x h b o))

  pub asn_top : {g g' : Going} (c : Place) (d op p x k : ℕ) (input s : Bool) → Peeked t p k → k ≡ 34 → s ≡ eqb (byte_at t (onward t p 1) / 2 % 2) 1 → s ≡ true
      → (byte_at t p ≡ 34 → has_rest_of (look_node t d p).value ≡ true → Good t d p → (input ≡ true → Good t d x) → has_array_rest_over_object_rest (look_node t d p).value ≡ false → Topped c d p input 1 x g g')
      → Good t d p → (input ≡ true → Good t d x) → has_array_rest_over_object_rest (look_node t d p).value ≡ false → has_object_rest (look_node t d p).value ≡ true
      → Does g g' (emits c (assignment_at 0 op (look_node t d p).value (given_node t d input x)))
  asn_top c d op p x k input s pk kk se sh top good gx ar ob =
      let by : byte_at t p ≡ 34 = sym pk.value ∙ kk in
      let hr : has_rest_of (look_node t d p).value ≡ true = second_rest d p good by (sym se ∙ sh) in
      let r : RestHere d (d - 1) p = rest_here d p good by hr in
      let ps = (list_at_of (d - 1) p).value in
      let y = rest_node (d - 1) p in
      let X = given_node t d input x in
      let h' : has_array_rest_over_object_rest (object_rest_at p ps y) ≡ false = ap (λ (m : Node). has_array_rest_over_object_rest m) (sym r.whole) ∙ ar in
      does_as (top by hr good gx ar)
      (ap₂ (λ (m : Node) (s : Emit). unless_refused (keys_refusal m) (emits_top c m s)) r.whole (sym (given_is (inner c) d x input))
      ∙ sym (top_is c 0 op p ps y X h') ∙ ap (λ (m : Node). emits c (assignment_at 0 op m X)) (sym r.whole))

  asn_nest : {g g' : Going} (c : Place) (d op p x : ℕ) (input : Bool) → is_top (look_node t d p).value ≡ false
      → ((◌≡◌ {A = views.View} Replacing Taking → byte_at t p ≡ 34) → Good t d p → (input ≡ true → Good t d x) → has_array_rest_over_object_rest (look_node t d p).value ≡ false
      → Does g g' (emits_nest c (view_of Replacing) op (look_node t d p).value (given_deeds t d (inner c) input 1 x)))
      → Good t d p → (input ≡ true → Good t d x) → has_array_rest_over_object_rest (look_node t d p).value ≡ false → has_object_rest (look_node t d p).value ≡ true
      → Does g g' (emits c (assignment_at 0 op (look_node t d p).value (given_node t d input x)))
  unfolding view_of
  asn_nest c d op p x input h n good gx ar ob =
      let m = (look_node t d p).value in
      does_as (n (λ e. absurd (false≢true (ap (λ (v : views.View). takes (view_of v)) e))) good gx ar)
      (ap (λ (s : Emit). emits_nest c replacing op m s) (sym (given_is (inner c) d x input)) ∙ sym (assignment_nested c 0 op m (given_node t d input x) ar h ob))

  pub asn_plain : {g g' : Going} (c : Place) (d op p x k : ℕ) (input s : Bool) → Peeked t p k → k ≡ 34 → s ≡ eqb (byte_at t (onward t p 1) / 2 % 2) 1 → s ≡ false
      → ((◌≡◌ {A = views.View} Replacing Taking → byte_at t p ≡ 34) → Good t d p → (input ≡ true → Good t d x) → has_array_rest_over_object_rest (look_node t d p).value ≡ false
      → Does g g' (emits_nest c (view_of Replacing) op (look_node t d p).value (given_deeds t d (inner c) input 1 x)))
      → Good t d p → (input ≡ true → Good t d x) → has_array_rest_over_object_rest (look_node t d p).value ≡ false → has_object_rest (look_node t d p).value ≡ true
      → Does g g' (emits c (assignment_at 0 op (look_node t d p).value (given_node t d input x)))
  asn_plain c d op p x k input s pk kk se sh n good gx ar ob =
      asn_nest c d op p x input (no_rest_top (look_node t d p).value (no_second d p good (sym pk.value ∙ kk) (sym se ∙ sh))) n good gx ar ob

  pub asn_other : {g g' : Going} (c : Place) (d op p x k : ℕ) (input : Bool) → Peeked t p k → (k ≡ 34 → ⊥)
      → ((◌≡◌ {A = views.View} Replacing Taking → byte_at t p ≡ 34) → Good t d p → (input ≡ true → Good t d x) → has_array_rest_over_object_rest (look_node t d p).value ≡ false
      → Does g g' (emits_nest c (view_of Replacing) op (look_node t d p).value (given_deeds t d (inner c) input 1 x)))
      → Good t d p → (input ≡ true → Good t d x) → has_array_rest_over_object_rest (look_node t d p).value ≡ false → has_object_rest (look_node t d p).value ≡ true
      → Does g g' (emits c (assignment_at 0 op (look_node t d p).value (given_node t d input x)))
  asn_other c d op p x k input pk kn n good gx ar ob =
      asn_nest c d op p x input (no_top (look_node t d p).value (other_kind d p good (λ e. kn (pk.value ∙ e)))) n good gx ar ob

  -- ---- where the walk gets to one

  assignment_27 : (at op : ℕ) (p x : Node) → is 27 (assignment_at at op p x) ≡ true
  unfolding is
  assignment_27 at op p x = refl

  target_is : (at op : ℕ) (p x : Node) → target (assignment_at at op p x) ≡ p
  unfolding node_at_of piece_in
  target_is at op p x = refl

  -- it stands as a whole: its operator, its target at q, its value behind that
  record AssignmentHere (d e p q : ℕ) : Type 0 where
    op : byte_at t (onward t p 2) < 256
    whole : (look_node t d p).value ≡ assignment_at p (byte_at t (onward t p 2)) (look_node t e q).value (look_node t e (look_node t e q).next).value
    target : Good t e q
    value : Good t e (look_node t e q).next

  assignment_here : (d e p q : ℕ) → e ≡ d - 1 → q ≡ onward t p 3 → Good t d p → byte_at t p ≡ 27 → AssignmentHere d e p q
  assignment_here zero e p q u w g k = no_good t p g
  assignment_here (suc d) e p q u w g k =
      let o : AssignmentOpen t d p = assignment_open t d p g k in
      let i : d ≡ e = omega arith in
      subst (λ (x : ℕ). AssignmentHere (suc d) x p q) i
      (subst (λ (x : ℕ). AssignmentHere (suc d) d p x) (sym w)
      (record { op = o.op; whole = ap (λ (s : Seen Node). s.value) o.whole; target = o.target; value = o.value }))

  -- with an object rest below the target there are levels left
  nothing_here : (q : ℕ) → has_object_rest (look_node t 0 q).value ≡ false
  unfolding look_node has_nested_object_rest shape depth
  nothing_here q = refl

  pub asg_falls : (d e q : ℕ) (b : Bool) → e ≡ d - 1 → b ≡ has_object_rest (look_node t e q).value → b ≡ true → e < d
  asg_falls zero e q b l u h =
      let z : e ≡ 0 = omega arith in
      absurd (false≢true (sym (nothing_here q) ∙ ap (λ (x : ℕ). has_object_rest (look_node t x q).value) (sym z) ∙ sym u ∙ h))
  asg_falls (suc d) e q b l u h = omega arith

  module _ (c : Place) (d e p q : ℕ) (le : e ≡ d - 1) (lq : q ≡ onward t p 3) where
    abbrev aimed : Node
    aimed = (look_node t e q).value

    abbrev given : Node
    given = (look_node t e (look_node t e q).next).value

    abbrev op_here : ℕ
    op_here = byte_at t (onward t p 2)

    at_target : (f : Node → Bool) (b : Bool) → f aimed ≡ b → f (target (assignment_at p op_here aimed given)) ≡ b
    at_target f b h = ap f (target_is p op_here aimed given) ∙ h

    pub asg_refused : {g g₁ g' : Going} (b : Bool) → b ≡ has_array_rest_over_object_rest (look_node t e q).value → b ≡ true
        → Does g g₁ (say (refuses 5 ∷ puts (0 ∷ 0 ∷ []))) → g' ≡ g₁ → byte_at t p ≡ 27 → Good t d p → Does g g' (emits c (look_node t d p).value)
    asg_refused b u h r m k good =
        let o : AssignmentHere d e p q = assignment_here d e p q le lq good k in
        does_to m (does_as r
        (sym (as_refused 5 (omega arith))
        ∙ sym (assignment_refused_5 c (assignment_at p op_here aimed given) (assignment_27 p op_here aimed given) (at_target (λ n. has_array_rest_over_object_rest n) true (sym u ∙ h)))
        ∙ ap (emits c) (sym o.whole)))

    pub asg_plain : {g g' : Going} (b : Bool) → b ≡ has_object_rest (look_node t e q).value → b ≡ false
        → (Good t d p → Does g g' (stays c (look_node t d p).value)) → byte_at t p ≡ 27 → Good t d p → Does g g' (emits c (look_node t d p).value)
    asg_plain b u h s k good =
        let o : AssignmentHere d e p q = assignment_here d e p q le lq good k in
        does_as (s good)
        (ap (stays c) o.whole
        ∙ sym (assignment_stays c (assignment_at p op_here aimed given) (assignment_27 p op_here aimed given) (at_target (λ n. has_object_rest n) false (sym u ∙ h)))
        ∙ ap (emits c) (sym o.whole))

    pub asg_lowered : {g g₁ g' : Going} (c₁ : Place) (d₁ v i o op : ℕ) (a b : Bool) → a ≡ has_array_rest_over_object_rest (look_node t e q).value → a ≡ false → b ≡ has_object_rest (look_node t e q).value → b ≡ true
        → v ≡ (look_node t e q).next → i ≡ onward t p 2 → Peeked t i o → op ≡ low o → (c₁ ≡ c) × (d₁ ≡ e)
        → (Good t d₁ q → (◌≡◌ {A = Bool} true true → Good t d₁ v) → has_array_rest_over_object_rest (look_node t d₁ q).value ≡ false → has_object_rest (look_node t d₁ q).value ≡ true
        → Does g g₁ (emits c₁ (assignment_at 0 op (look_node t d₁ q).value (given_node t d₁ true v))))
        → g' ≡ g₁ → byte_at t p ≡ 27 → Good t d p → Does g g' (emits c (look_node t d p).value)
    unfolding low
    asg_lowered {g = g} {g₁ = g₁} c₁ d₁ v i o op a b ua ha ub hb lv li pk lo under asn m k good =
        let h : AssignmentHere d e p q = assignment_here d e p q le lq good k in
        let oo : o ≡ op_here = pk.value ∙ ap (λ (x : ℕ). byte_at t x) li in
        let same : op ≡ op_here = omega (arith, lo, oo, h.op) in
        let D = carry (λ y f z. Good t f q → (◌≡◌ {A = Bool} true true → Good t f z) → has_array_rest_over_object_rest (look_node t f q).value ≡ false → has_object_rest (look_node t f q).value ≡ true
        → Does g g₁ (emits y (assignment_at 0 op (look_node t f q).value (given_node t f true z)))) under.0 under.1 lv asn
        h.target (λ x. h.value) (sym ua ∙ ha) (sym ub ∙ hb) in
        does_to m (does_as D
        (any_place c p op e q given h.target (sym ua ∙ ha) (sym ub ∙ hb)
        ∙ ap (λ (x : ℕ). emits c (assignment_at p x aimed given)) same ∙ ap (emits c) (sym h.whole)))

  -- ---- the assignment of an object from the temporary in its place

  inner_given : (c : Place) (d x at : ℕ) → x ≡ cell 1 at → given_deeds t d c false 1 x ≡ says_cell 1 at
  unfolding given_deeds says_cell
  inner_given c d x at e = ap (λ (z : ℕ). say (does (temporary z 1) ∷ [])) e

  pub own_top : {g g' : Going} (c c₁ : Place) (d d₁ p x : ℕ) → (c₁ ≡ inner c) × (d₁ ≡ d) → CellIs x 1 p
      → (byte_at t p ≡ 34 → has_rest_of (look_node t d₁ p).value ≡ true → Good t d₁ p → (false ≡ true → Good t d₁ x) → has_array_rest_over_object_rest (look_node t d₁ p).value ≡ false → Topped c₁ d₁ p false 1 x g g')
      → byte_at t p ≡ 34 → has_rest_of (look_node t d p).value ≡ true → Good t d p → has_array_rest_over_object_rest (look_node t d p).value ≡ false → Does g g' (emits_inner c (look_node t d p).value)
  own_top {g = g} {g' = g'} c c₁ d d₁ p x i ce top k hr good ar =
      let n = (look_node t d p).value in
      let o : RestHere d (d - 1) p = rest_here d p good k hr in
      let ps = (list_at_of (d - 1) p).value in
      let y = rest_node (d - 1) p in
      let q = object_rest_at p ps y in
      let T : Topped (inner c) d p false 1 x g g' =
      carry (λ m f z. byte_at t z ≡ 34 → has_rest_of (look_node t f z).value ≡ true → Good t f z → (false ≡ true → Good t f x) → has_array_rest_over_object_rest (look_node t f z).value ≡ false → Topped m f z false 1 x g g')
      i.0 i.1 refl top k hr good (λ b. absurd (false≢true b)) ar in
      let ar' : has_array_rest_over_object_rest q ≡ false = ap (λ (m : Node). has_array_rest_over_object_rest m) (sym o.whole) ∙ ar in
      let same : unless_refused (keys_refusal q) (emits_top (inner c) q (says_cell 1 p)) ≡ emits_inner c q =
      by_number (keys_refusal q)
      (λ m b. rw b (sym (as_refused (suc m) (omega arith)) ∙ sym (inner_refused c p ps y (suc m) (omega arith) ar' b)))
      (λ b. rw b (sym (inner_done c p ps y ar' b))) in
      does_as T
      (ap₂ (λ (m : Node) (s : Emit). unless_refused (keys_refusal m) (emits_top (inner c) m s)) o.whole (inner_given (inner (inner c)) d x p (cell_within _ _ _ ce o.within))
      ∙ same ∙ ap (emits_inner c) (sym o.whole))
