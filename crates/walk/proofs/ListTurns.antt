-- Lists by a mode: what a turn does for one item and for all, which items suit it, and the ways out of the code that goes through them.
-- Assumes nothing.
use mathlib.Core.Path.{◌≡◌, refl, sym, ap, ap₂, ◌∙◌}
use mathlib.Core.Bool.{Bool, true, false, cond, not, ◌||◌, false≢true}
use mathlib.Core.List.{List, [], ◌∷◌}
use Prim.Native.Nat.{ℕ, zero, suc, ◌-◌, ◌≤◌, ◌<◌}
use native.Mathlib.Omega.{arith}
use lib.Dec.{eqb}
use Rattle.tree.specs.Tree.{Node, Items}
use Rattle.tree.specs.Read.{byte_at}
use Rattle.tree.specs.Look.{seen, seen_as, onward, look_item, look_items, look_node}
use Rattle.tree.specs.Answer.{Peeked}
use Rattle.tree.proofs.Skipping as skipping
use Rattle.lowering.specs.Parts.{is, each, any}
use Rattle.lowering.specs.Patterns.{value, has_array_rest_over_object_rest}
use Rattle.lowering.proofs.All.{AllItems, weaker_items}
use Rattle.lowering.proofs.Accepted.{NoHoles}
use Rattle.lowering.proofs.Cases.{and_left, and_right, or_left, or_right}
use Rattle.sink.specs.Machine.{part}
use Rattle.sink.specs.Machine.Event.{put}
use Rattle.direct.specs.Events.{Place, Emit, emits}
use Rattle.direct.specs.Events.Deed.{does}
use Rattle.direct.specs.Emit.{say, ◌▷◌, emits_items, in_turn}
use Rattle.direct.specs.Views.{each_does, emits_view, emits_property}
use Rattle.direct.specs.Views.View.{replacing}
use Rattle.direct.specs.Keys.{emits_excluded}
use Rattle.direct.specs.Objects.{over_reached}
use Rattle.direct.specs.Declared.{emits_key_value, emits_found, emits_declarator}
use Rattle.direct.specs.Assigned.{emits_inner}
use Rattle.direct.specs.Moved.{out_of, behind}
use Rattle.direct.proofs.Threads.{say_nothing}
use Rattle.walk.specs.declared.modes.Deep.{Deep}
use Rattle.walk.specs.declared.modes.Deep.TheVariants.{Found, Reached}
use Rattle.walk.specs.declared.modes.Mode.{Mode}
use Rattle.walk.specs.declared.modes.Mode.TheVariants as modes
use Rattle.walk.specs.declared.reaches.Reach as reaches
use Rattle.walk.specs.declared.views.View.TheVariants.{Replacing}
use Rattle.walk.specs.Run.{Going, Does}
use Rattle.walk.specs.Whole.{hole_at, GoodItem, GoodItems, Good, Emitted}
use Rattle.walk.specs.Turns.{view_of, reach_of, deep_of, turn_of, deep_suits, suits, hole_of, turns_of, AllSuit, spot_deeds}
use Rattle.walk.proofs.Running.{does_as}
use Rattle.walk.proofs.Opened.{no_good, kind_byte}
use Rattle.walk.proofs.Emits.{Onto, onto_start, onto_more, onto_end, is_hole, item_next, good_item, good_items}
use Rattle.direct.proofs.ListsInTurn.{items_each}

-- ---- what a turn does for one item

module _ (c : Place) (n : Node) where
  pub deep_found : deep_of Found c n ≡ emits_found c n
  unfolding deep_of
  deep_found = refl

  pub deep_reached : (r : reaches.Reach) → deep_of (Reached r) c n ≡ over_reached (emits_inner c) (reach_of r) n
  unfolding deep_of
  deep_reached r = refl

  pub turn_viewed : turn_of modes.Viewed c n ≡ emits_view c replacing n
  unfolding turn_of
  turn_viewed = refl

  pub turn_moved_out : turn_of modes.MovedOut c n ≡ emits c (out_of n)
  unfolding turn_of
  turn_moved_out = refl

  pub turn_below : (d : Deep) → turn_of (modes.Below d) c n ≡ deep_of d c n
  unfolding turn_of
  turn_below d = refl

  pub turn_property : (taken : Bool) → turn_of (modes.Property taken) c n ≡ emits_property c taken replacing n
  unfolding turn_of
  turn_property taken = refl

  pub turn_excluded_key : turn_of modes.ExcludedKey c n ≡ emits_excluded c n
  unfolding turn_of
  turn_excluded_key = refl

  pub turn_key_value : turn_of modes.KeyValue c n ≡ emits_key_value c n
  unfolding turn_of
  turn_key_value = refl

  pub turn_value : (d : Deep) → turn_of (modes.Value d) c n ≡ deep_of d c (value n)
  unfolding turn_of
  turn_value d = refl

  pub turn_declarator : turn_of modes.Declarator c n ≡ emits_declarator c n
  unfolding turn_of
  turn_declarator = refl

  pub turn_binding : turn_of modes.Binding c n ≡ emits c (behind n)
  unfolding turn_of
  turn_binding = refl

-- ---- and for all items

module _ (mode : Mode) (c : Place) (f : Node → Emit) (one : (n : Node) → turn_of mode c n ≡ f n) where
  -- holes write nothing
  turns_in : hole_of mode ≡ say [] → (ns : Items) → turns_of mode c ns ≡ in_turn f ns
  unfolding turns_of in_turn
  turns_in h Items.none = refl
  turns_in h (Items.hole ns) = ap₂ (λ (a b : Emit). a ▷ b) h (turns_in h ns) ∙ say_nothing (in_turn f ns)
  turns_in h (Items.item n ns) = ap₂ (λ (a b : Emit). a ▷ b) (one n) (turns_in h ns)

  -- a hole is a zero byte
  turns_each : hole_of mode ≡ say (does (put 0) ∷ []) → (ns : Items) → turns_of mode c ns ≡ each_does f ns
  unfolding turns_of each_does
  turns_each h Items.none = refl
  turns_each h (Items.hole ns) = ap₂ (λ (a b : Emit). a ▷ b) h (turns_each h ns)
  turns_each h (Items.item n ns) = ap₂ (λ (a b : Emit). a ▷ b) (one n) (turns_each h ns)

  -- there are no holes
  turns_solid : (ns : Items) → NoHoles ns → turns_of mode c ns ≡ each_does f ns
  unfolding turns_of each_does NoHoles
  turns_solid Items.none w = refl
  turns_solid (Items.hole ns) w = absurd w
  turns_solid (Items.item n ns) w = ap₂ (λ (a b : Emit). a ▷ b) (one n) (turns_solid ns w)

module _ (c : Place) (ns : Items) where
  pub turns_viewed : turns_of modes.Viewed c ns ≡ each_does (emits_view c replacing) ns
  unfolding hole_of
  turns_viewed = turns_each modes.Viewed c (emits_view c replacing) (turn_viewed c) refl ns

  pub turns_moved_out : turns_of modes.MovedOut c ns ≡ emits_items false c (each out_of ns)
  unfolding hole_of
  turns_moved_out = turns_each modes.MovedOut c (λ q. emits c (out_of q)) (turn_moved_out c) refl ns ∙ sym (items_each c out_of ns)

  -- the properties of an object in a view
  pub turns_property : (taken : Bool) → NoHoles ns → turns_of (modes.Property taken) c ns ≡ each_does (emits_property c taken replacing) ns
  turns_property taken w = turns_solid (modes.Property taken) c (emits_property c taken replacing) (λ n. turn_property c n taken) ns w

  pub turns_excluded_key : turns_of modes.ExcludedKey c ns ≡ in_turn (emits_excluded c) ns
  unfolding hole_of
  turns_excluded_key = turns_in modes.ExcludedKey c (emits_excluded c) (turn_excluded_key c) refl ns

  pub turns_key_value : turns_of modes.KeyValue c ns ≡ in_turn (emits_key_value c) ns
  unfolding hole_of
  turns_key_value = turns_in modes.KeyValue c (emits_key_value c) (turn_key_value c) refl ns

  pub turns_below : (d : Deep) → turns_of (modes.Below d) c ns ≡ in_turn (deep_of d c) ns
  unfolding hole_of
  turns_below d = turns_in (modes.Below d) c (deep_of d c) (λ n. turn_below c n d) refl ns

  pub turns_value : (d : Deep) → turns_of (modes.Value d) c ns ≡ in_turn (λ q. deep_of d c (value q)) ns
  unfolding hole_of
  turns_value d = turns_in (modes.Value d) c (λ q. deep_of d c (value q)) (λ n. turn_value c n d) refl ns

  pub turns_found : turns_of (modes.Below Found) c ns ≡ in_turn (emits_found c) ns
  unfolding deep_of
  turns_found = turns_below Found

  pub turns_value_found : turns_of (modes.Value Found) c ns ≡ in_turn (λ q. emits_found c (value q)) ns
  unfolding deep_of
  turns_value_found = turns_value Found

  pub turns_reached : (r : reaches.Reach) → turns_of (modes.Below (Reached r)) c ns ≡ in_turn (over_reached (emits_inner c) (reach_of r)) ns
  unfolding deep_of
  turns_reached r = turns_below (Reached r)

  pub turns_value_reached : (r : reaches.Reach) → turns_of (modes.Value (Reached r)) c ns ≡ in_turn (λ q. over_reached (emits_inner c) (reach_of r) (value q)) ns
  unfolding deep_of
  turns_value_reached r = turns_value (Reached r)

  pub turns_declarator : turns_of modes.Declarator c ns ≡ in_turn (emits_declarator c) ns
  unfolding hole_of
  turns_declarator = turns_in modes.Declarator c (emits_declarator c) (turn_declarator c) refl ns

  pub turns_binding : NoHoles ns → turns_of modes.Binding c ns ≡ emits_items false c (each behind ns)
  turns_binding w = turns_solid modes.Binding c (λ q. emits c (behind q)) (turn_binding c) ns w ∙ sym (items_each c behind ns)

-- ---- which items suit a mode

module _ (mode : Mode) where
  -- any
  suit_all : ((n : Node) → suits mode n ≡ true) → (ns : Items) → AllSuit mode ns
  suit_all h Items.none = tt
  suit_all h (Items.hole ns) = suit_all h ns
  suit_all h (Items.item n ns) = (h n, suit_all h ns)

  -- those of a kind
  suit_kind : (k : ℕ) → ((n : Node) → is k n ≡ true → suits mode n ≡ true) → (ns : Items) → AllItems (λ q. is k q ≡ true) ns → AllSuit mode ns
  suit_kind k h ns a = weaker_items (λ q. is k q ≡ true) (λ q. suits mode q ≡ true) h ns a

module _ (ns : Items) where
  pub suit_viewed : AllSuit modes.Viewed ns
  unfolding suits
  suit_viewed = suit_all modes.Viewed (λ n. refl) ns

  pub suit_moved_out : AllSuit modes.MovedOut ns
  unfolding suits
  suit_moved_out = suit_all modes.MovedOut (λ n. refl) ns

  pub suit_found : AllSuit (modes.Below Found) ns
  unfolding suits deep_suits
  suit_found = suit_all (modes.Below Found) (λ n. refl) ns

  module _ (a : AllItems (λ q. is 35 q ≡ true) ns) where
    pub suit_property : (taken : Bool) → AllSuit (modes.Property taken) ns
    unfolding suits
    suit_property taken = suit_kind (modes.Property taken) 35 (λ n e. e) ns a

    pub suit_excluded_key : AllSuit modes.ExcludedKey ns
    unfolding suits
    suit_excluded_key = suit_kind modes.ExcludedKey 35 (λ n e. e) ns a

    pub suit_key_value : AllSuit modes.KeyValue ns
    unfolding suits
    suit_key_value = suit_kind modes.KeyValue 35 (λ n e. e) ns a

    pub suit_value_found : AllSuit (modes.Value Found) ns
    unfolding suits deep_suits
    suit_value_found = suit_kind (modes.Value Found) 35 (λ n e. rw e refl) ns a

  pub suit_declarator : AllItems (λ q. is 5 q ≡ true) ns → AllSuit modes.Declarator ns
  unfolding suits
  suit_declarator a = suit_kind modes.Declarator 5 (λ n e. e) ns a

  -- parameters, declarators
  pub suit_binding : AllItems (λ q. is 15 q ≡ true) ns → AllSuit modes.Binding ns
  unfolding suits
  suit_binding a = suit_kind modes.Binding 15 (λ n e. rw e refl) ns a

  pub suit_binding_declarators : AllItems (λ q. is 5 q ≡ true) ns → AllSuit modes.Binding ns
  unfolding suits
  suit_binding_declarators a = suit_kind modes.Binding 5 (λ n e. rw e (or_true (is 15 n))) ns a
    where
      or_true : (b : Bool) → b || true ≡ true
      or_true true = refl
      or_true false = refl

-- no object rest below an array rest
pub suit_reached : (r : reaches.Reach) (ns : Items) → any (λ n. has_array_rest_over_object_rest n) ns ≡ false → AllSuit (modes.Below (Reached r)) ns
unfolding suits deep_suits any
suit_reached r Items.none h = tt
suit_reached r (Items.hole ns) h = suit_reached r ns h
suit_reached r (Items.item n ns) h =
    (ap not (or_left (has_array_rest_over_object_rest n) (any (λ n. has_array_rest_over_object_rest n) ns) h), suit_reached r ns (or_right (has_array_rest_over_object_rest n) (any (λ n. has_array_rest_over_object_rest n) ns) h))

-- nor below that of a value
pub suit_value_reached : (r : reaches.Reach) (ns : Items) → AllItems (λ q. is 35 q ≡ true) ns → any (λ q. has_array_rest_over_object_rest (value q)) ns ≡ false → AllSuit (modes.Value (Reached r)) ns
unfolding suits deep_suits any
suit_value_reached r Items.none a h = tt
suit_value_reached r (Items.hole ns) a h = suit_value_reached r ns a h
suit_value_reached r (Items.item n ns) a h =
    let here : has_array_rest_over_object_rest (value n) ≡ false = or_left (has_array_rest_over_object_rest (value n)) (any (λ q. has_array_rest_over_object_rest (value q)) ns) h in
    (rw (a.0, here) refl, suit_value_reached r ns a.1 (or_right (has_array_rest_over_object_rest (value n)) (any (λ q. has_array_rest_over_object_rest (value q)) ns) h))

-- ---- the ways out of one turn

module _ (t : List ℕ) where
  binds : (d at : ℕ) → Good t d at → suits modes.Binding (look_node t d at).value ≡ true → eqb (byte_at t at) 15 || eqb (byte_at t at) 5 ≡ true
  unfolding suits look_node is
  binds zero at good s = no_good t at good
  binds (suc d) at good s = s

  -- what a turn promises of the item at a position: the walk goes on at q
  abbrev pub Turned : Mode → Place → ℕ → Bool → ℕ → ℕ → Going → Going → Type 0
  Turned mode c d h at q g g' =
      GoodItem t (look_node t d) (Good t d) false h at → (hole_at t h at ≡ false → suits mode (look_node t d at).value ≡ true)
      → (q ≡ (look_item t (look_node t d) h at).next) × Does g g' (spot_deeds t (look_node t d) mode c h at)

  -- and all turns, of a list whose items begin at a position
  abbrev pub Sequenced : Mode → Place → ℕ → Bool → ℕ → ℕ → ℕ → Going → Going → Type 0
  Sequenced mode c d h n at q g g' =
      GoodItems t (look_node t d) (Good t d) false h n at → AllSuit mode (look_items t (look_node t d) h n at).value
      → (q ≡ (look_items t (look_node t d) h n at).next) × Does g g' (turns_of mode c (look_items t (look_node t d) h n at).value)

  -- the same of what is equal
  pub sequenced_as : {g g' : Going} (h : Bool) (mode mode₁ : Mode) (c c₁ : Place) (d d₁ n n₁ at at₁ q : ℕ) → mode₁ ≡ mode → c₁ ≡ c → d₁ ≡ d → n₁ ≡ n → at₁ ≡ at
      → Sequenced mode₁ c₁ d₁ h n₁ at₁ q g g' → Sequenced mode c d h n at q g g'
  sequenced_as h mode mode₁ c c₁ d d₁ n n₁ at at₁ q a b e f i k = rw (← a, ← b, ← e, ← f, ← i) k

  module _ (c : Place) (d : ℕ) (h : Bool) (at : ℕ) where
    spot_hole : (mode : Mode) → hole_at t h at ≡ true → hole_of mode ≡ spot_deeds t (look_node t d) mode c h at
    unfolding spot_deeds
    spot_hole mode e = rw e refl

    spot_node : (mode : Mode) → hole_at t h at ≡ false → turn_of mode c (look_node t d at).value ≡ spot_deeds t (look_node t d) mode c h at
    unfolding spot_deeds
    spot_node mode e = rw e refl

    pub turned_hole : {g g' : Going} (mode : Mode) (n q : ℕ) → h ≡ true → Peeked t at n → n ≡ 0 → q ≡ onward t at 1 → (part at (onward t at 1) t ≡ 0 ∷ [] → Does g g' (hole_of mode))
        → Turned mode c d h at q g g'
    turned_hole mode n q a p z e k good suit =
        let b : hole_at t h at ≡ true = is_hole t h at n a p z in
        (e ∙ skipping.item_hole t (look_node t d) h at n a p z, does_as (k (good.hole b)) (spot_hole mode b))

    -- anything else, by what the mode does
    turned_by : {g g' : Going} (mode m : Mode) (q : ℕ) (e : Emit) → hole_at t h at ≡ false → mode ≡ m → e ≡ turn_of m c (look_node t d at).value
        → (Good t d at → suits m (look_node t d at).value ≡ true → (q ≡ (look_node t d at).next) × Does g g' e) → Turned mode c d h at q g g'
    turned_by mode m q e b a f k good suit =
        let n : Node = (look_node t d at).value in
        let r = k (good.node b) (ap (λ (i : Mode). suits i n) (sym a) ∙ suit b) in
        (r.0 ∙ item_next t (look_node t d) h at b, does_as r.1 (f ∙ ap (λ (i : Mode). turn_of i c n) (sym a) ∙ spot_node mode b))

    module _ {g g' : Going} (mode : Mode) (q : ℕ) (b : hole_at t h at ≡ false) where
      pub turned_viewed : mode ≡ modes.Viewed → Emitted t d at q g g' (emits_view c (view_of Replacing)) → Turned mode c d h at q g g'
      unfolding view_of
      turned_viewed e k = turned_by mode modes.Viewed q _ b e (sym (turn_viewed c _)) (λ good s. k good)

      pub turned_moved_out : mode ≡ modes.MovedOut → Emitted t d at q g g' (λ p. emits c (out_of p)) → Turned mode c d h at q g g'
      turned_moved_out e k = turned_by mode modes.MovedOut q _ b e (sym (turn_moved_out c _)) (λ good s. k good)

      pub turned_below : (m : Deep) → mode ≡ modes.Below m
          → (Good t d at → deep_suits m (look_node t d at).value ≡ true → (q ≡ (look_node t d at).next) × Does g g' (deep_of m c (look_node t d at).value))
          → Turned mode c d h at q g g'
      unfolding suits
      turned_below m e k = turned_by mode (modes.Below m) q _ b e (sym (turn_below c _ m)) k

      pub turned_property : (taken : Bool) → mode ≡ modes.Property taken → (byte_at t at ≡ 35 → Emitted t d at q g g' (emits_property c taken replacing)) → Turned mode c d h at q g g'
      unfolding suits
      turned_property taken e k = turned_by mode (modes.Property taken) q _ b e (sym (turn_property c _ taken)) (λ good s. k (kind_byte t d at 35 good s) good)

      pub turned_excluded_key : mode ≡ modes.ExcludedKey → (byte_at t at ≡ 35 → Emitted t d at q g g' (emits_excluded c)) → Turned mode c d h at q g g'
      unfolding suits
      turned_excluded_key e k = turned_by mode modes.ExcludedKey q _ b e (sym (turn_excluded_key c _)) (λ good s. k (kind_byte t d at 35 good s) good)

      pub turned_key_value : mode ≡ modes.KeyValue → (byte_at t at ≡ 35 → Emitted t d at q g g' (emits_key_value c)) → Turned mode c d h at q g g'
      unfolding suits
      turned_key_value e k = turned_by mode modes.KeyValue q _ b e (sym (turn_key_value c _)) (λ good s. k (kind_byte t d at 35 good s) good)

      pub turned_value : (m : Deep) → mode ≡ modes.Value m
          → (byte_at t at ≡ 35 → Good t d at → deep_suits m (value (look_node t d at).value) ≡ true → (q ≡ (look_node t d at).next) × Does g g' (deep_of m c (value (look_node t d at).value)))
          → Turned mode c d h at q g g'
      unfolding suits
      turned_value m e k =
          turned_by mode (modes.Value m) q _ b e (sym (turn_value c _ m))
          (λ good s.
          let n : Node = (look_node t d at).value in
          k (kind_byte t d at 35 good (and_left (is 35 n) (deep_suits m (value n)) s)) good (and_right (is 35 n) (deep_suits m (value n)) s))

      pub turned_declarator : mode ≡ modes.Declarator → (byte_at t at ≡ 5 → Emitted t d at q g g' (emits_declarator c)) → Turned mode c d h at q g g'
      unfolding suits
      turned_declarator e k = turned_by mode modes.Declarator q _ b e (sym (turn_declarator c _)) (λ good s. k (kind_byte t d at 5 good s) good)

      pub turned_binding : mode ≡ modes.Binding → (eqb (byte_at t at) 15 || eqb (byte_at t at) 5 ≡ true → Emitted t d at q g g' (λ n. emits c (behind n))) → Turned mode c d h at q g g'
      turned_binding e k = turned_by mode modes.Binding q _ b e (sym (turn_binding c _)) (λ good s. k (binds d at good s) good)

  -- ---- all turns, one after another

  module _ (mode : Mode) (c : Place) (d : ℕ) where
    -- an item or a hole, and what is behind it
    turns_first : (h : Bool) (at : ℕ) (ns : Items) → turns_of mode c ((look_item t (look_node t d) h at).value ns) ≡ spot_deeds t (look_node t d) mode c h at ▷ turns_of mode c ns
    unfolding look_item spot_deeds hole_at turns_of
    turns_first true at ns = go (eqb (byte_at t at) 0)
      where
        go : (b : Bool) → turns_of mode c ((cond b (seen Items.hole (onward t at 1)) (seen_as (λ n is. Items.item n is) (look_node t d at))).value ns)
            ≡ cond b (hole_of mode) (turn_of mode c (look_node t d at).value) ▷ turns_of mode c ns
        go true = refl
        go false = refl
    turns_first false at ns = refl

    suits_first : (h : Bool) (at : ℕ) (ns : Items) → AllSuit mode ((look_item t (look_node t d) h at).value ns)
        → (hole_at t h at ≡ false → suits mode (look_node t d at).value ≡ true) × AllSuit mode ns
    unfolding look_item hole_at
    suits_first true at ns a = go (eqb (byte_at t at) 0) a
      where
        go : (b : Bool) → AllSuit mode ((cond b (seen Items.hole (onward t at 1)) (seen_as (λ n is. Items.item n is) (look_node t d at))).value ns)
            → (b ≡ false → suits mode (look_node t d at).value ≡ true) × AllSuit mode ns
        go true a = (λ e. absurd (false≢true (sym e)), a)
        go false a = (λ e. a.0, a.1)
    suits_first false at ns a = (λ e. a.0, a.1)

    module _ (h : Bool) where
      abbrev spots : ℕ → ℕ → Items
      spots n at = (look_items t (look_node t d) h n at).value

      turns_more : (n at q : ℕ) → 0 < n → q ≡ (look_item t (look_node t d) h at).next
          → turns_of mode c (spots n at) ≡ spot_deeds t (look_node t d) mode c h at ▷ turns_of mode c (spots (n - 1) q)
      unfolding look_items
      turns_more zero at q z e = absurd (omega arith)
      turns_more (suc n) at q z e =
          let s : suc n - 1 ≡ n = omega arith in
          rw (s, e) (turns_first h at _)

      turns_none : (n at : ℕ) → n ≤ 0 → turns_of mode c (spots n at) ≡ say []
      unfolding look_items turns_of
      turns_none zero at z = refl
      turns_none (suc n) at z = absurd (omega arith)

      suits_now : (n at : ℕ) → 0 < n → AllSuit mode (spots n at) → hole_at t h at ≡ false → suits mode (look_node t d at).value ≡ true
      unfolding look_items
      suits_now zero at z a = absurd (omega arith)
      suits_now (suc n) at z a = (suits_first h at _ a).0

      suits_more : (n at q : ℕ) → 0 < n → q ≡ (look_item t (look_node t d) h at).next → AllSuit mode (spots n at) → AllSuit mode (spots (n - 1) q)
      unfolding look_items
      suits_more zero at q z e a = absurd (omega arith)
      suits_more (suc n) at q z e a =
          let s : suc n - 1 ≡ n = omega arith in
          rw (s, e) (suits_first h at _ a).1

      -- n items are left at `at` of those that were there at the start
      pub record Along (count start n at : ℕ) (g g' : Going) : Type 0 where
        pub next : (look_items t (look_node t d) h n at).next ≡ (look_items t (look_node t d) h count start).next
        pub good : GoodItems t (look_node t d) (Good t d) false h n at
        pub suit : AllSuit mode (spots n at)
        pub onto : Onto g g' (turns_of mode c (spots n at)) (turns_of mode c (spots count start))

      pub along_start : (count start : ℕ) (g : Going) → GoodItems t (look_node t d) (Good t d) false h count start → AllSuit mode (spots count start)
          → Along count start count start g g
      along_start count start g a s = record { next = refl; good = a; suit = s; onto = onto_start g _ }

      pub along_more : {count start n at : ℕ} {g g₁ g₂ : Going} (q : ℕ) → 0 < n → Turned mode c d h at q g₁ g₂ → Along count start n at g g₁
          → Along count start (n - 1) q g g₂
      along_more {n = n} {at = at} q z k a =
          let r = k (good_item t (look_node t d) (Good t d) false h n at z a.good) (suits_now n at z a.suit) in
          record {
            next = skipping.items_more t (look_node t d) h n at q z r.0 ∙ a.next;
            good = good_items t (look_node t d) (Good t d) false h n at q z r.0 a.good;
            suit = suits_more n at q z r.0 a.suit;
            onto = onto_more a.onto (turns_more n at q z r.0) r.1;
          }

      pub along_end : {count start n at : ℕ} {g g₁ : Going} → n ≤ 0 → Along count start n at g g₁
          → (at ≡ (look_items t (look_node t d) h count start).next) × Does g g₁ (turns_of mode c (spots count start))
      along_end {n = n} {at = at} z a = (skipping.items_end t (look_node t d) h n at z ∙ a.next, onto_end a.onto (turns_none n at z))
