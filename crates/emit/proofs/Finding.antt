-- What is below a pattern, by a mode: the ways out of the code that goes through it.
-- Assumes nothing.
use mathlib.Core.Path.{◌≡◌, refl, sym, ap, ap₂, ◌∙◌, subst}
use mathlib.Core.Bool.{Bool, true, false, cond, not, true≢false}
use mathlib.Core.List.{List, [], ◌∷◌}
use Prim.Native.Nat.{ℕ, zero, suc, ◌+◌, ◌-◌, ◌/◌, ◌%◌, ◌≤◌, ◌<◌}
use native.Mathlib.Omega.{arith}
use lib.Dec.{eqb}
use Rattle.tree.specs.Tree.{Node, Fields, Items}
use Rattle.tree.specs.Tree.Node.{node}
use Rattle.tree.specs.Tree.Fields.{done, absent, field}
use Rattle.tree.specs.Tree.Piece.{one, list}
use Rattle.tree.specs.Read.{byte_at, wide_at}
use Rattle.tree.specs.Look.{Seen, seen, onward, quiet_at, look_items, look_node}
use Rattle.tree.specs.Answer.{Wide}
use Rattle.lowering.specs.Parts.{is, stands_in, stands, node_at_of, items_at_of, piece_in, any}
use Rattle.lowering.specs.Patterns.{shape, properties, value, has_rest_of, has_array_rest_over_object_rest}
use Rattle.lowering.specs.Patterns.Shape.{leaf}
use Rattle.lowering.proofs.All.{AllItems}
use Rattle.lowering.proofs.Cases.{by_test, or_left}
use Rattle.sink.specs.Machine.Event.{temporary}
use Rattle.direct.specs.Events.{Place, Emit}
use Rattle.direct.specs.Events.Deed.{does}
use Rattle.direct.specs.Emit.{say, ◌▷◌, in_turn}
use Rattle.direct.specs.Views.{object_at, object_rest_at, property_at, array_at, array_rest_at, says_cell}
use Rattle.direct.specs.Objects.{counts, over_reached}
use Rattle.direct.specs.Objects.Reach.{anywhere}
use Rattle.direct.specs.Declared.{emits_own_keys, emits_own_pattern, emits_own_rest, emits_found}
use Rattle.direct.specs.Assigned.{emits_inner}
use Rattle.direct.proofs.Threads.{then_assoc}
use Rattle.direct.proofs.NearestObjects.{reach_over_object, reach_over_rest, reach_over_array, reach_over_default, reach_over_leaf}
use Rattle.direct.proofs.DeclarationsByPart.{found_object, found_rest, found_array, found_default, found_leaf}
use Rattle.direct.proofs.Tests.{over_object_at, over_array_at, over_array_rest_at, over_default_at}
use Rattle.walk.specs.declared.modes.Deep as deeps
use Rattle.walk.specs.declared.modes.Deep.TheVariants.{Found, Reached}
use Rattle.walk.specs.declared.modes.Mode.{Mode}
use Rattle.walk.specs.declared.modes.Mode.TheVariants as modes
use Rattle.walk.specs.declared.reaches.Reach as reaches
use Rattle.walk.specs.declared.reaches.Reach.TheVariants.{Anywhere}
use Rattle.walk.specs.Run.{Going, Does, Clear}
use Rattle.walk.specs.Whole.{GoodItems, Good}
use Rattle.walk.specs.Turns.{reach_of, deep_of, deep_suits, turns_of, AllSuit, item_mode, enters_arrays, cell_at}
use Rattle.walk.proofs.Running.{does_then, does_nothing, does_as, does_to, clear_after}
use Rattle.walk.proofs.SpreadArguments.{does_from}
use Rattle.walk.proofs.Lookups.{cell_within}
use Rattle.walk.proofs.Opened.{ObjectOpen, ArrayOpen, PropertyOpen, DefaultOpen, leaf_here, no_good, object_open, array_open, property_open, default_open}
use Rattle.walk.proofs.ListTurns.{deep_found, turns_found, turns_value_found, turns_reached, turns_value_reached, suit_found, suit_value_found, suit_reached, suit_value_reached}
use Rattle.walk.proofs.QuietValues.{found_none, reach_none, simple_value}
use Rattle.lowering.proofs.Cases.{not-true}
use Rattle.lowering.proofs.Simple.{Simple}

-- ---- one level

module _ (c : Place) where
  turn_default : (mode : deeps.Deep) (at : ℕ) (l : Node) (fs : Fields) → deep_of mode c (node at 37 (field (one l) fs)) ≡ deep_of mode c l
  unfolding deep_of
  turn_default Found at l fs = found_default c at l fs
  turn_default (Reached r) at l fs = reach_over_default (emits_inner c) (reach_of r) at l fs

  turn_leaf : (mode : deeps.Deep) (p : Node) → shape p ≡ leaf → deep_of mode c p ≡ say []
  unfolding deep_of
  turn_leaf Found p h = found_leaf c p h
  turn_leaf (Reached r) p h = reach_over_leaf (emits_inner c) (reach_of r) p h

  turn_none : (mode : deeps.Deep) (p : Node) → Simple p → deep_of mode c p ≡ say []
  unfolding deep_of
  turn_none Found p h = found_none c p h
  turn_none (Reached r) p h = reach_none (emits_inner c) (reach_of r) p h

suit_default : (mode : deeps.Deep) (at : ℕ) (l : Node) (fs : Fields) → deep_suits mode (node at 37 (field (one l) fs)) ≡ deep_suits mode l
unfolding deep_suits
suit_default Found at l fs = refl
suit_default (Reached r) at l fs = ap not (over_default_at at l fs)

-- no object rest below an array rest, where that is asked for
clear_reached : (r : reaches.Reach) (p : Node) → deep_suits (Reached r) p ≡ true → has_array_rest_over_object_rest p ≡ false
unfolding deep_suits
clear_reached r p h = not-true (has_array_rest_over_object_rest p) h

suit_values : (r : reaches.Reach) (at : ℕ) (ps : Items) (fs : Fields) → AllItems (λ q. is 35 q ≡ true) ps
    → deep_suits (Reached r) (node at 34 (field (list ps) fs)) ≡ true → AllSuit (modes.Value (Reached r)) ps
suit_values r at ps fs a h = suit_value_reached r ps a (sym (over_object_at at ps fs) ∙ clear_reached r (node at 34 (field (list ps) fs)) h)

suit_array : (at : ℕ) (is : Items) → has_array_rest_over_object_rest (array_at at is) ≡ false → AllSuit (modes.Below (Reached Anywhere)) is
suit_array at is h = suit_reached Anywhere is (sym (over_array_at at is) ∙ h)

suit_array_rest : (at : ℕ) (is : Items) (r : Node) → has_array_rest_over_object_rest (array_rest_at at is r) ≡ false → AllSuit (modes.Below (Reached Anywhere)) is
suit_array_rest at is r h = suit_reached Anywhere is (or_left (any (λ n. has_array_rest_over_object_rest n) is) _ (sym (over_array_rest_at at is r) ∙ h))

suit_items : (mode : deeps.Deep) (p : Node) (is : Items) → (has_array_rest_over_object_rest p ≡ false → AllSuit (modes.Below (Reached Anywhere)) is) → deep_suits mode p ≡ true → AllSuit (item_mode mode) is
suit_items Found p is a h = suit_found is
suit_items (Reached r) p is a h = a (clear_reached r p h)

turn_object : (r : reaches.Reach) (c : Place) (at : ℕ) (ps : Items) → deep_of (Reached r) c (object_at at ps) ≡ turns_of (modes.Value (Reached r)) c ps
unfolding deep_of
turn_object r c at ps = reach_over_object (emits_inner c) (reach_of r) at ps ∙ sym (turns_value_reached c ps r)

-- an array that is entered, and one that is not
turn_array : (mode : deeps.Deep) (c : Place) → enters_arrays mode ≡ true → (at : ℕ) (is : Items) (fs : Fields) → deep_of mode c (node at 36 (field (list is) fs)) ≡ turns_of (item_mode mode) c is
unfolding deep_of reach_of
turn_array Found c h at is fs = found_array c at is fs ∙ sym (turns_found c is)
turn_array (Reached r) c h at is fs =
    reach_over_array (emits_inner c) (reach_of r) at is fs
    ∙ ap (λ (b : Bool). cond b (in_turn (over_reached (emits_inner c) anywhere) is) (say [])) h
    ∙ sym (turns_reached c is Anywhere)

array_none : (mode : deeps.Deep) (c : Place) → enters_arrays mode ≡ false → (at : ℕ) (is : Items) (fs : Fields) → deep_of mode c (node at 36 (field (list is) fs)) ≡ say []
unfolding deep_of
array_none Found c h at is fs = absurd (true≢false h)
array_none (Reached r) c h at is fs =
    reach_over_array (emits_inner c) (reach_of r) at is fs ∙ ap (λ (b : Bool). cond b (in_turn (over_reached (emits_inner c) anywhere) is) (say [])) h

-- an object with rest: one that counts, and one that is passed over
turn_rest : (r : reaches.Reach) (c : Place) (b : Bool) → counts (reach_of r) ≡ b → (at : ℕ) (ps : Items) (x : Node)
    → deep_of (Reached r) c (object_rest_at at ps x) ≡ cond b (emits_inner c (object_rest_at at ps x)) (say [])
unfolding deep_of
turn_rest r c b e at ps x = reach_over_rest (emits_inner c) (reach_of r) at ps x ∙ ap (λ (b : Bool). cond b (emits_inner c (object_rest_at at ps x)) (say [])) e

pub rest_stands : (at : ℕ) (ps : Items) (r : Node) → has_rest_of (object_rest_at at ps r) ≡ true
unfolding stands stands_in
rest_stands at ps r = refl

module _ (t : List ℕ) where
  -- ---- what stands at a position, in the code's terms

  -- what deep, db and da do, and seq
  abbrev pub Deep : ℕ → ℕ → ℕ → deeps.Deep → Place → Going → Going → Type 0
  Deep d at s mode c g g' = Good t d at → deep_suits mode (look_node t d at).value ≡ true → (s ≡ (look_node t d at).next) × Does g g' (deep_of mode c (look_node t d at).value)

  abbrev pub Turned : ℕ → Bool → ℕ → ℕ → ℕ → Mode → Place → Going → Going → Type 0
  Turned e h n f s mode c g g' =
      GoodItems t (look_node t e) (Good t e) false h n f → AllSuit mode (look_items t (look_node t e) h n f).value
      → (s ≡ (look_items t (look_node t e) h n f).next) × Does g g' (turns_of mode c (look_items t (look_node t e) h n f).value)

  pub level_up : (d left e at : ℕ) → left ≡ d - 1 → e ≡ left → Good t d at → d ≡ suc e
  level_up zero left e at a b good = no_good t at good
  level_up (suc d) left e at a b good = omega arith

  pub lifted : (d e at : ℕ) → d ≡ suc e → Good t d at → Good t (suc e) at
  lifted d e at h good = subst (λ (n : ℕ). Good t n at) h good

  pub record ObjectAs (d e at n f : ℕ) : Type 0 where
    pub within : at + 4 ≤ 16384
    pub goods : GoodItems t (look_node t e) (Good t e) false false n f
    pub kinds : AllItems (λ q. is 35 q ≡ true) (look_items t (look_node t e) false n f).value
    pub plain : eqb (byte_at t (onward t at 1) / 2 % 2) 1 ≡ false → look_node t d at ≡ seen (object_at at (look_items t (look_node t e) false n f).value) (look_items t (look_node t e) false n f).next
    pub resting : eqb (byte_at t (onward t at 1) / 2 % 2) 1 ≡ true
        → look_node t d at
        ≡ seen (object_rest_at at (look_items t (look_node t e) false n f).value (look_node t e (look_items t (look_node t e) false n f).next).value) (look_node t e (look_items t (look_node t e) false n f).next).next
    pub rest : eqb (byte_at t (onward t at 1) / 2 % 2) 1 ≡ true → Good t e (look_items t (look_node t e) false n f).next

  pub object_as : (d left e at q n f : ℕ) → left ≡ d - 1 → e ≡ left → q ≡ onward t at 2 → n ≡ wide_at t q → f ≡ onward t q 2 → Good t d at → byte_at t at ≡ 34 → ObjectAs d e at n f
  object_as d left e at q n f a b u w v good k =
      let h : d ≡ suc e = level_up d left e at a b good in
      let o : ObjectOpen t e at = object_open t e at (lifted d e at h good) k in
      let nn : n ≡ wide_at t (onward t at 2) = w ∙ ap (λ (y : ℕ). wide_at t y) u in
      let ff : f ≡ onward t (onward t at 2) 2 = v ∙ ap (λ (y : ℕ). onward t y 2) u in
      record {
        within = o.within;
        goods = rw (nn, ff) o.list.good;
        kinds = rw (nn, ff) o.properties;
        plain = λ i. rw (h, nn, ff) (o.plain i);
        resting = λ i. rw (h, nn, ff) (o.resting i);
        rest = λ i. rw (nn, ff) (o.rest i);
      }

  -- ---- deep: below any pattern

  pub deep_leaf : {g g' : Going} (c : Place) (d at k q s : ℕ) (mode : deeps.Deep) → k ≡ byte_at t at → (k ≡ 34 → ⊥) → (k ≡ 36 → ⊥) → (k ≡ 37 → ⊥)
      → q ≡ (look_node t d at).next → s ≡ q → g' ≡ g → Deep d at s mode c g g'
  deep_leaf c zero at k q s mode kk a b e next moved same good suit = no_good t at good
  deep_leaf {g = g} c (suc d) at k q s mode kk a b e next moved same good suit =
      (moved ∙ next, does_to same (does_as (does_nothing g) (sym (turn_leaf c mode (look_node t (suc d) at).value (leaf_here t d at k kk a b e)))))

  pub deep_default : {g g₁ g₂ g' : Going} (c c' : Place) (d left e at k p q u z s : ℕ) (mode : deeps.Deep) → k ≡ byte_at t at → k ≡ 37 → left ≡ d - 1 → e ≡ left → c' ≡ c
      → p ≡ onward t at 2 → q ≡ p → g₁ ≡ g → (Deep e q u mode c' g₁ g₂) → z ≡ (look_node t left u).next → s ≡ z → g' ≡ g₂
      → Deep d at s mode c g g'
  deep_default {g = g} {g₂ = g₂} c c' d left e at k p q u z s mode kk is a b place pp qq from below next moved upto good suit =
      let h : d ≡ suc e = level_up d left e at a b good in
      let o : DefaultOpen t e at = default_open t e at (lifted d e at h good) (sym kk ∙ is) in
      let j : q ≡ onward t at 2 = qq ∙ pp in
      let l : Node = (look_node t e (onward t at 2)).value in
      let whole : look_node t d at ≡ look_node t (suc e) at = ap (λ (n : ℕ). look_node t n at) h in
      let l-as : (look_node t e q).value ≡ l = ap (λ (n : ℕ). (look_node t e n).value) j in
      let suit-l : deep_suits mode (look_node t e q).value ≡ true =
      ap (deep_suits mode) l-as ∙ sym (suit_default mode at l _) ∙ ap (λ (n : Seen Node). deep_suits mode n.value) (sym (whole ∙ o.whole)) ∙ suit in
      let r : (u ≡ (look_node t e q).next) × Does _ g₂ (deep_of mode c' (look_node t e q).value) = below (subst (λ (n : ℕ). Good t e n) (sym j) o.left) suit-l in (
        moved ∙ next ∙ ap₂ (λ (m n : ℕ). (look_node t m n).next) (sym b) (r.0 ∙ ap (λ (n : ℕ). (look_node t e n).next) j) ∙ ap (λ (n : Seen Node). n.next) (sym (whole ∙ o.whole)),
        does_to upto (does_from from (does_as r.1
            (ap₂ (λ (m : Place) (n : Node). deep_of mode m n) place l-as ∙ sym (turn_default c mode at l _) ∙ ap (λ (n : Seen Node). deep_of mode c n.value) (sym (whole ∙ o.whole))))),
      )

  -- ---- db, fb: below an object

  -- what is found
  pub object_found : {g g' : Going} (c : Place) (d at s : ℕ) (mode : deeps.Deep) → mode ≡ Found
      → (byte_at t at ≡ 34 → Good t d at → (s ≡ (look_node t d at).next) × Does g g' (emits_found c (look_node t d at).value))
      → byte_at t at ≡ 34 → Deep d at s mode c g g'
  object_found c d at s mode m found k good suit =
      let n : Node = (look_node t d at).value in
      let r = found k good in
      (r.0, does_as r.1 (sym (deep_found c n) ∙ ap (λ (y : deeps.Deep). deep_of y c n) (sym m)))

  -- ---- pr: the properties of an object

  pub properties_done : {g g₁ g₂ : Going} (c c' : Place) (d left e at q n p f u : ℕ) (mode : Mode) → left ≡ d - 1 → e ≡ left → c' ≡ c → q ≡ onward t at 2 → Wide t q n → p ≡ onward t q 2 → f ≡ p → g₁ ≡ g
      → Turned e false n f u mode c' g₁ g₂
      → byte_at t at ≡ 34 → Good t d at → AllSuit mode (properties (look_node t d at).value)
      → (u ≡ (look_items t (look_node t (d - 1)) false (wide_at t (onward t at 2)) (onward t (onward t at 2) 2)).next) × Does g g₂ (turns_of mode c (properties (look_node t d at).value))
  unfolding items_at_of piece_in
  properties_done {g = g} {g₁ = g₁} {g₂ = g₂} c c' d left e at q n p f u mode levels level place second many first move from values k good fit =
      let o = object_as d left e at q n f levels level second many.value (move ∙ first) good k in
      let ps : Items = (look_items t (look_node t e) false n f).value in
      let ee : e ≡ d - 1 = level ∙ levels in
      let nn : n ≡ wide_at t (onward t at 2) = many.value ∙ ap (λ (y : ℕ). wide_at t y) second in
      let ff : f ≡ onward t (onward t at 2) 2 = move ∙ first ∙ ap (λ (y : ℕ). onward t y 2) second in
      let these : ps ≡ properties (look_node t d at).value =
      by_test (eqb (byte_at t (onward t at 1) / 2 % 2) 1)
      (λ b. ap (λ (y : Seen Node). properties y.value) (sym (o.resting b)))
      (λ b. ap (λ (y : Seen Node). properties y.value) (sym (o.plain b))) in
      let r : (u ≡ (look_items t (look_node t e) false n f).next) × Does g₁ g₂ (turns_of mode c' ps) = values o.goods (subst (λ (is : Items). AllSuit mode is) (sym these) fit) in
      (rw (← ee, ← nn, ← ff) r.0, does_as (does_from from r.1) (ap₂ (λ (y : Place) (is : Items). turns_of mode y is) place these))

  -- ---- db: an object

  -- without a rest: its values
  pub object_plain : {g g' : Going} (c : Place) (d at u : ℕ) (mode : deeps.Deep) (r : reaches.Reach) (b : Bool) → mode ≡ Reached r → b ≡ eqb (byte_at t (onward t at 1) / 2 % 2) 1 → b ≡ false
      → (byte_at t at ≡ 34 → Good t d at → AllSuit (modes.Value (Reached r)) (properties (look_node t d at).value)
      → (u ≡ (look_items t (look_node t (d - 1)) false (wide_at t (onward t at 2)) (onward t (onward t at 2) 2)).next) × Does g g' (turns_of (modes.Value (Reached r)) c (properties (look_node t d at).value)))
      → byte_at t at ≡ 34 → Deep d at u mode c g g'
  unfolding items_at_of piece_in
  object_plain c zero at u mode r b m bit bare values k good suit = no_good t at good
  object_plain c (suc d) at u mode r b m bit bare values k good suit =
      let o = object_open t d at good k in
      let whole = o.plain (sym bit ∙ bare) in
      let ps : Items = (look_items t (look_node t d) false (wide_at t (onward t at 2)) (onward t (onward t at 2) 2)).value in
      let these : ps ≡ properties (look_node t (suc d) at).value = ap (λ (y : Seen Node). properties y.value) (sym whole) in
      let fit : AllSuit (modes.Value (Reached r)) ps = suit_values r at ps (absent done) o.properties (ap₂ (λ (x : deeps.Deep) (y : Seen Node). deep_suits x y.value) (sym m) (sym whole) ∙ suit) in
      let done = values k good (subst (λ (is : Items). AllSuit (modes.Value (Reached r)) is) these fit) in
      let below : suc d - 1 ≡ d = omega arith in (
        done.0 ∙ ap (λ (m : ℕ). (look_items t (look_node t m) false (wide_at t (onward t at 2)) (onward t (onward t at 2) 2)).next) below ∙ ap (λ (y : Seen Node). y.next) (sym whole),
        does_as done.1
            (ap (λ (is : Items). turns_of (modes.Value (Reached r)) c is) (sym these)
            ∙ sym (turn_object r c at ps)
            ∙ ap₂ (λ (x : deeps.Deep) (y : Seen Node). deep_of x c y.value) (sym m) (sym whole)),
      )

  -- with a rest: it is passed over
  pub object_passed : {g g' : Going} (c : Place) (d at q s : ℕ) (mode : deeps.Deep) (r : reaches.Reach) (b : Bool) → mode ≡ Reached r → counts (reach_of r) ≡ false → b ≡ eqb (byte_at t (onward t at 1) / 2 % 2) 1 → b ≡ true
      → q ≡ (look_node t d at).next → s ≡ q → g' ≡ g → byte_at t at ≡ 34 → Deep d at s mode c g g'
  object_passed c zero at q s mode r b m passed bit stood next moved upto k good suit = no_good t at good
  object_passed {g = g} c (suc d) at q s mode r b m passed bit stood next moved upto k good suit =
      let o = object_open t d at good k in
      let whole = o.resting (sym bit ∙ stood) in
      (moved ∙ next, does_to upto (does_as (does_nothing g) (sym (turn_rest r c false passed at _ _) ∙ ap₂ (λ (i : deeps.Deep) (y : Seen Node). deep_of i c y.value) (sym m) (sym whole))))

  -- or it has its own assignment
  pub object_own : {g g₁ g' : Going} (c : Place) (d at q s : ℕ) (mode : deeps.Deep) (r : reaches.Reach) (b : Bool) → mode ≡ Reached r → counts (reach_of r) ≡ true → b ≡ eqb (byte_at t (onward t at 1) / 2 % 2) 1 → b ≡ true
      → (byte_at t at ≡ 34 → has_rest_of (look_node t d at).value ≡ true → Good t d at → has_array_rest_over_object_rest (look_node t d at).value ≡ false → Does g g₁ (emits_inner c (look_node t d at).value))
      → q ≡ (look_node t d at).next → s ≡ q → g' ≡ g₁ → byte_at t at ≡ 34 → Deep d at s mode c g g'
  object_own c zero at q s mode r b m counted bit stood own next moved upto k good suit = no_good t at good
  object_own c (suc d) at q s mode r b m counted bit stood own next moved upto k good suit =
      let o = object_open t d at good k in
      let p : Node = (look_node t (suc d) at).value in
      let whole = ap (λ (y : Seen Node). y.value) (o.resting (sym bit ∙ stood)) in
      let rests : has_rest_of p ≡ true = ap (λ (y : Node). has_rest_of y) whole ∙ rest_stands at _ _ in (
        moved ∙ next,
        does_to upto (does_as (own k rests good (clear_reached r p (ap (λ (x : deeps.Deep). deep_suits x p) (sym m) ∙ suit)))
            (ap (emits_inner c) whole ∙ sym (turn_rest r c true counted at _ _) ∙ ap₂ (λ (i : deeps.Deep) (y : Node). deep_of i c y) (sym m) (sym whole))),
      )

  -- what is found below an object without rest
  pub found_plain : {g g₁ g₂ : Going} (c c' : Place) (d left e at q n p f u : ℕ) (b : Bool) → left ≡ d - 1 → e ≡ left → c' ≡ c → q ≡ onward t at 2 → Wide t q n → p ≡ onward t q 2 → f ≡ p → g₁ ≡ g
      → Turned e false n f u (modes.Value Found) c' g₁ g₂ → b ≡ eqb (byte_at t (onward t at 1) / 2 % 2) 1 → b ≡ false
      → byte_at t at ≡ 34 → Good t d at → (u ≡ (look_node t d at).next) × Does g g₂ (emits_found c (look_node t d at).value)
  found_plain c c' d left e at q n p f u b levels level place second many first move from values bit bare k good =
      let o = object_as d left e at q n f levels level second many.value (move ∙ first) good k in
      let ps : Items = (look_items t (look_node t e) false n f).value in
      let whole = o.plain (sym bit ∙ bare) in
      let r = values o.goods (suit_value_found ps o.kinds) in (
        r.0 ∙ ap (λ (y : Seen Node). y.next) (sym whole),
        does_as (does_from from r.1)
            (ap (λ (y : Place). turns_of (modes.Value Found) y ps) place ∙ turns_value_found c ps ∙ sym (found_object c at ps) ∙ ap (λ (y : Seen Node). emits_found c y.value) (sym whole)),
      )

  -- of one with rest: its own first, read from the temporary in its place
  pub found_resting : {g g₁ g₂ g₃ g₄ g' : Going} (c c' : Place) (d left e at q n p f u z s i j k₁ k₂ : ℕ) (b : Bool) (e₁ e₂ : Emit) → left ≡ d - 1 → e ≡ left → c' ≡ c → q ≡ onward t at 2 → Wide t q n → p ≡ onward t q 2 → f ≡ p
      → b ≡ eqb (byte_at t (onward t at 1) / 2 % 2) 1 → b ≡ true
      → k₁ ≡ cell_at 1 at → e₁ ≡ say (does (temporary k₁ 1) ∷ [])
      → (i ≡ at) × (byte_at t at ≡ 34 → Good t d at → Does g g₁ (emits_own_keys c (look_node t d at).value ▷ emits_own_pattern c (look_node t d at).value e₁))
      → k₂ ≡ cell_at 1 at → e₂ ≡ say (does (temporary k₂ 1) ∷ [])
      → (j ≡ i) × (byte_at t i ≡ 34 → Good t d i → Clear g₁ (emits_own_keys c (look_node t d i).value ▷ emits_own_pattern c (look_node t d i).value e₂) → Does g₁ g₂ (emits_own_rest c (look_node t d i).value e₂))
      → g₃ ≡ g₂ → Turned e false n f u (modes.Value Found) c' g₃ g₄ → z ≡ (look_node t left u).next → s ≡ z → g' ≡ g₄
      → byte_at t at ≡ 34 → Good t d at → (s ≡ (look_node t d at).next) × Does g g' (emits_found c (look_node t d at).value)
  unfolding says_cell
  found_resting {g₁ = g₁} {g₂ = g₂} c c' d left e at q n p f u z s i j k₁ k₂ b e₁ e₂ levels level place second many first move bit stood cell₁ says₁ own cell₂ says₂ last from values next moved upto k good =
      let o = object_as d left e at q n f levels level second many.value (move ∙ first) good k in
      let ps : Items = (look_items t (look_node t e) false n f).value in
      let within : at + 4 ≤ 16384 = o.within in
      let small : at < 16384 = omega arith in
      let whole = o.resting (sym bit ∙ stood) in
      let w : Node = (look_node t d at).value in
      let value-is = ap (λ (y : Seen Node). y.value) whole in
      let s₁ : e₁ ≡ says_cell 1 at = says₁ ∙ ap (λ (y : ℕ). say (does (temporary y 1) ∷ [])) (cell_within _ _ _ cell₁ small) in
      let s₂ : e₂ ≡ says_cell 1 at = says₂ ∙ ap (λ (y : ℕ). say (does (temporary y 1) ∷ [])) (cell_within _ _ _ cell₂ small) in
      let here : byte_at t i ≡ 34 = ap (byte_at t) own.0 ∙ k in
      let rest : Does g₁ g₂ (emits_own_rest c (look_node t d i).value e₂) = last.1 here (subst (λ (y : ℕ). Good t d y) (sym own.0) good)
      (subst (λ (x : Emit). Clear g₁ (emits_own_keys c (look_node t d i).value ▷ emits_own_pattern c (look_node t d i).value x)) (s₁ ∙ sym s₂)
      (subst (λ (y : ℕ). Clear g₁ (emits_own_keys c (look_node t d y).value ▷ emits_own_pattern c (look_node t d y).value e₁)) (sym own.0) (clear_after (own.1 k good)))) in
      let rest-as : emits_own_rest c (look_node t d i).value e₂ ≡ emits_own_rest c w (says_cell 1 at) = ap₂ (λ (y : ℕ) (x : Emit). emits_own_rest c (look_node t d y).value x) own.0 s₂ in
      let r = values o.goods (suit_value_found ps o.kinds) in
      let found : turns_of (modes.Value Found) c' ps ≡ in_turn (λ y. emits_found c (value y)) ps = ap (λ (y : Place). turns_of (modes.Value Found) y ps) place ∙ turns_value_found c ps in (
        moved ∙ next ∙ ap₂ (λ (m y : ℕ). (look_node t m y).next) (sym level) r.0 ∙ ap (λ (y : Seen Node). y.next) (sym whole),
        does_to upto (does_as (does_then (own.1 k good) (does_then rest (does_from from r.1)))
            (ap₂ (λ (x y : Emit). (emits_own_keys c w ▷ emits_own_pattern c w x) ▷ y) s₁ (ap₂ (λ (x y : Emit). x ▷ y) rest-as found)
            ∙ then_assoc (emits_own_keys c w) (emits_own_pattern c w (says_cell 1 at)) _
            ∙ ap (λ (y : Node). emits_own_keys c y ▷ emits_own_pattern c y (says_cell 1 at) ▷ emits_own_rest c y (says_cell 1 at) ▷ in_turn (λ v. emits_found c (value v)) ps) value-is
            ∙ sym (found_rest c at ps _)
            ∙ ap (emits_found c) (sym value-is))),
      )

  -- ---- da: below an array

  pub array_taken : {g g' : Going} (c : Place) (d at q s : ℕ) (mode : deeps.Deep) → q ≡ (look_node t d at).next → enters_arrays mode ≡ false → s ≡ q → g' ≡ g → byte_at t at ≡ 36 → Deep d at s mode c g g'
  array_taken c zero at q s mode next passed moved upto k good suit = no_good t at good
  array_taken {g = g} c (suc d) at q s mode next passed moved upto k good suit =
      let o : ArrayOpen t d at = array_open t d at good k in
      let none : deep_of mode c (look_node t (suc d) at).value ≡ say [] =
      by_test (eqb (byte_at t (onward t at 1) / 2 % 2) 1)
      (λ b. ap (λ (y : Seen Node). deep_of mode c y.value) (o.resting b) ∙ array_none mode c passed at _ _)
      (λ b. ap (λ (y : Seen Node). deep_of mode c y.value) (o.plain b) ∙ array_none mode c passed at _ _) in
      (moved ∙ next, does_to upto (does_as (does_nothing g) (sym none)))

  pub array_items : {g g₁ g₂ g' : Going} (c c' : Place) (d left e at q n p f u z s : ℕ) (im : Mode) (mode : deeps.Deep) → z ≡ (look_node t d at).next → enters_arrays mode ≡ true → q ≡ onward t at 2 → Wide t q n → p ≡ onward t q 2 → f ≡ p → g₁ ≡ g
      → left ≡ d - 1 → e ≡ left → c' ≡ c → im ≡ item_mode mode → Turned e true n f u im c' g₁ g₂ → s ≡ z → g' ≡ g₂ → byte_at t at ≡ 36 → Deep d at s mode c g g'
  array_items {g = g} {g₁ = g₁} {g₂ = g₂} c c' d left e at q n p f u z s im mode next entered second many first move from levels level place ims items moved upto k good suit =
      let h : d ≡ suc e = level_up d left e at levels level good in
      let o : ArrayOpen t e at = array_open t e at (lifted d e at h good) k in
      let nn : n ≡ wide_at t (onward t at 2) = many.value ∙ ap (λ (y : ℕ). wide_at t y) second in
      let ff : f ≡ onward t (onward t at 2) 2 = move ∙ first ∙ ap (λ (y : ℕ). onward t y 2) second in
      let is : Items = (look_items t (look_node t e) true n f).value in
      let w : Node = (look_node t d at).value in
      let goods : GoodItems t (look_node t e) (Good t e) false true n f = rw (nn, ff) o.list.good in
      let done : (fs : Fields) → w ≡ node at 36 (field (list is) fs) → (has_array_rest_over_object_rest (node at 36 (field (list is) fs)) ≡ false → AllSuit (modes.Below (Reached Anywhere)) is) → Does g g₂ (deep_of mode c w) =
      λ fs whole fit.
      let r : (u ≡ (look_items t (look_node t e) true n f).next) × Does g₁ g₂ (turns_of im c' is) =
      items goods (rw ims (suit_items mode (node at 36 (field (list is) fs)) is fit (ap (deep_suits mode) (sym whole) ∙ suit))) in
      does_as (does_from from r.1) (ap₂ (λ (m : Mode) (y : Place). turns_of m y is) ims place ∙ sym (turn_array mode c entered at is fs) ∙ ap (deep_of mode c) (sym whole)) in (
        moved ∙ next,
        does_to upto (by_test (eqb (byte_at t (onward t at 1) / 2 % 2) 1)
            (λ b. done (field (one (look_node t e (look_items t (look_node t e) true n f).next).value) Fields.done) (rw (h, nn, ff) (ap (λ (y : Seen Node). y.value) (o.resting b))) (suit_array_rest at is _))
            (λ b. done (absent Fields.done) (rw (h, nn, ff) (ap (λ (y : Seen Node). y.value) (o.plain b))) (suit_array at is))),
      )

  -- ---- val: below the value of a property

  property_value : (at : ℕ) (k v : Node) (b : ℕ) → value (property_at at k v b) ≡ v
  unfolding node_at_of piece_in
  property_value at k v b = refl

  pub value_done : {g g₁ g₂ g' : Going} (c c' : Place) (d left e at p v y u z s : ℕ) (mode : deeps.Deep) → left ≡ d - 1 → p ≡ onward t at 2 → v ≡ (look_node t left p).next → y ≡ v → g₁ ≡ g → e ≡ left → c' ≡ c
      → (Deep e y u mode c' g₁ g₂) → z ≡ onward t u 1 → s ≡ z → g' ≡ g₂
      → byte_at t at ≡ 35 → Good t d at → deep_suits mode (value (look_node t d at).value) ≡ true
      → (s ≡ (look_node t d at).next) × Does g g' (deep_of mode c (value (look_node t d at).value))
  value_done c c' d left e at p v y u z s mode levels second values move from level place below next moved upto k good suit =
      let h : d ≡ suc e = level_up d left e at levels level good in
      let o : PropertyOpen t e at = property_open t e at (lifted d e at h good) k in
      let yy : y ≡ (look_node t e (onward t at 2)).next = move ∙ values ∙ ap₂ (λ (m q : ℕ). (look_node t m q).next) (sym level) second in
      let whole : look_node t d at ≡ seen (property_at at (look_node t e (onward t at 2)).value (look_node t e y).value (byte_at t (look_node t e y).next)) (onward t (look_node t e y).next 1) = rw (h, yy) o.whole in
      let value-is : value (look_node t d at).value ≡ (look_node t e y).value = ap (λ (q : Seen Node). value q.value) whole ∙ property_value at _ _ _ in
      let r = below (subst (λ (q : ℕ). Good t e q) (sym yy) o.value) (ap (deep_suits mode) (sym value-is) ∙ suit) in (
        moved ∙ next ∙ ap (λ (q : ℕ). onward t q 1) r.0 ∙ ap (λ (q : Seen Node). q.next) (sym whole),
        does_to upto (does_from from (does_as r.1 (ap₂ (λ (m : Place) (q : Node). deep_of mode m q) place (sym value-is)))),
      )

  -- that of a quiet property is passed over
  pub value_quiet : {g g' : Going} (c : Place) (d at q s : ℕ) (mode : deeps.Deep) (b : Bool) → b ≡ quiet_at t at → b ≡ true → q ≡ (look_node t d at).next → s ≡ q → g' ≡ g
      → Good t d at → (s ≡ (look_node t d at).next) × Does g g' (deep_of mode c (value (look_node t d at).value))
  value_quiet {g = g} c d at q s mode b e h next moved upto good =
      (moved ∙ next, does_to upto (does_as (does_nothing g) (sym (turn_none c mode (value (look_node t d at).value) (simple_value t d at b e h good)))))
