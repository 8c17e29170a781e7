-- Patterns in a view, their properties and keys: the ways out of the code that writes them.
-- Assumes nothing.
use mathlib.Core.Path.{◌≡◌, refl, sym, ap, ap₂, ◌∙◌, subst}
use mathlib.Core.Bool.{Bool, true, false, cond, not, false≢true}
use mathlib.Core.List.{List, [], ◌∷◌}
use Prim.Native.Nat.{ℕ, zero, suc, ◌+◌, ◌-◌, ◌/◌, ◌%◌, ◌<◌}
use native.Mathlib.Omega.{arith}
use lib.Dec.{eqb}
use Rattle.tree.specs.Tree.{Node, Items, wide_bytes, count}
use Rattle.tree.specs.Read.{byte_at, wide_at}
use Rattle.tree.specs.Look.{Seen, onward, look_items, look_node}
use Rattle.tree.specs.Answer.{Peeked, Wide}
use Rattle.lowering.proofs.Cases.{by_test}
use Rattle.sink.specs.Machine.{part}
use Rattle.sink.specs.Machine.Event.{temporary}
use Rattle.direct.specs.Events.{Place, Emit, puts, cell, emits}
use Rattle.direct.specs.Events.Deed.{does}
use Rattle.direct.specs.Emit.{say, ◌▷◌, inner}
use Rattle.direct.specs.Views.{View, takes, object_rest_at, each_does, says_cell, emits_view, emits_property, is_other, emits_key}
use Rattle.direct.specs.Views.View.{replacing, taking}
use Rattle.direct.proofs.Threads.{then_assoc, say_puts}
use Rattle.direct.proofs.ViewedPatterns.{view_object, view_replaced, view_rest, view_array, view_array_rest, view_default, view_leaf, view_property}
use Rattle.walk.specs.declared.modes.Mode.{Mode}
use Rattle.walk.specs.declared.modes.Mode.TheVariants as modes
use Rattle.walk.specs.declared.views.View as views
use Rattle.walk.specs.declared.views.View.TheVariants.{Replacing, Taking}
use Rattle.walk.specs.Run.{Going, Does}
use Rattle.walk.specs.Whole.{Ruled, Emitted}
use Rattle.walk.specs.Turns.{view_of}
use Rattle.walk.proofs.Running.{does_then, does_as, does_to}
use Rattle.walk.proofs.SpreadArguments.{does_from}
use Rattle.walk.proofs.Opened.{look_solid, ObjectOpen, ArrayOpen, leaf_here, no_good, object_open, array_open, property_open, default_open}
use Rattle.walk.proofs.ListTurns.{Sequenced, sequenced_as, turns_viewed, turns_property, suit_viewed, suit_property}

-- ---- views

pub replaces_yes : (v : views.View) → v ≡ Replacing → true ≡ not (takes (view_of v))
unfolding view_of
replaces_yes v e = rw e refl

pub replaces_not : (v : views.View) → v ≡ Taking → false ≡ not (takes (view_of v))
unfolding view_of
replaces_not v e = rw e refl

not_takes : (v : View) → true ≡ not (takes v) → v ≡ replacing
not_takes replacing e = refl
not_takes taking e = absurd (false≢true (sym e))

does_takes : (v : View) → false ≡ not (takes v) → takes v ≡ true
does_takes replacing e = absurd (false≢true e)
does_takes taking e = refl

-- the view of values
pub one_view : view_of Replacing ≡ replacing
unfolding view_of
one_view = refl

-- ---- cells

cell_1 : (at : ℕ) → say (does (temporary at 1) ∷ []) ≡ says_cell 1 at
unfolding says_cell cell
cell_1 at = let e : at ≡ at + 0 = omega arith in ap (λ (x : ℕ). say (does (temporary x 1) ∷ [])) e

pub cell_4 : (at : ℕ) → say (does (temporary at 4) ∷ []) ≡ says_cell 4 at
unfolding says_cell cell
cell_4 at = let e : at ≡ at + 0 = omega arith in ap (λ (x : ℕ). say (does (temporary x 4) ∷ [])) e

-- ---- the same of what is equal

module _ (t : List ℕ) where
  emitted_as : {g g' : Going} (F : Place → Node → Emit) (c c₁ : Place) (d d₁ at at₁ q : ℕ) → c₁ ≡ c → d₁ ≡ d → at₁ ≡ at
      → Emitted t d₁ at₁ q g g' (F c₁) → Emitted t d at q g g' (F c)
  emitted_as F c c₁ d d₁ at at₁ q a b e k = rw (← a, ← b, ← e) k

  pub ruled_as : {g g' : Going} (F : Place → Node → Emit) (c c₁ : Place) (d d₁ at at₁ q : ℕ) → c₁ ≡ c → d₁ ≡ d → at₁ ≡ at
      → Ruled t d₁ at₁ q g g' (F c₁) → Ruled t d at q g g' (F c)
  ruled_as F c c₁ d d₁ at at₁ q a b e k = rw (← a, ← b, ← e) k

  -- ---- a pattern by its kind

  -- neither an object, an array nor a default: as it stands
  pub view_other : {g g' : Going} (c : Place) (d at k q : ℕ) (v : views.View) → Peeked t at k → (k ≡ 34 → ⊥) → (k ≡ 36 → ⊥) → (k ≡ 37 → ⊥)
      → Ruled t d at q g g' (emits c) → Emitted t d at q g g' (emits_view c (view_of v))
  view_other c zero at k q v p a b e r good = no_good t at good
  view_other c (suc d) at k q v p a b e r good = (r.0, does_as (r.1 good) (sym (view_leaf c (view_of v) (look_node t (suc d) at).value (leaf_here t d at k p.value a b e))))

  -- a default: its head, its pattern, its value
  pub view_37 : {g g₁ g₂ g₃ : Going} (c c₁ c₂ : Place) (d d₁ d₂ at k s u w r : ℕ) (v : views.View) → Peeked t at k → k ≡ 37 → s ≡ onward t at 2 → u ≡ s
      → c₁ ≡ inner c → d₁ ≡ d - 1 → c₂ ≡ inner c → d₂ ≡ d - 1
      → Does g g₁ (say (puts (part at s t))) → Emitted t d₁ u w g₁ g₂ (emits_view c₁ (view_of Replacing)) → Ruled t d₂ w r g₂ g₃ (emits c₂)
      → Emitted t d at r g g₃ (emits_view c (view_of v))
  view_37 c c₁ c₂ zero d₁ d₂ at k s u w r v p e f h i j m n a b nd good = no_good t at good
  view_37 c c₁ c₂ (suc d) d₁ d₂ at k s u w r v p e f h i j m n a b nd good =
      let o = default_open t d at good (sym p.value ∙ e) in
      let x : d₁ ≡ d = omega arith in
      let x₂ : d₂ ≡ d = omega arith in
      let left : Node = (look_node t d (onward t at 2)).value in
      let right : Node = (look_node t d (look_node t d (onward t at 2)).next).value in
      let y = emitted_as (λ c. emits_view c (view_of Replacing)) (inner c) c₁ d d₁ (onward t at 2) u w i x (h ∙ f) b o.left in
      let z = ruled_as (λ c. emits c) (inner c) c₂ d d₂ (look_node t d (onward t at 2)).next w r m x₂ y.0 nd in
      let hd : say (puts (part at s t)) ≡ say (puts (37 ∷ 3 ∷ [])) = ap (λ (q : ℕ). say (puts (part at q t))) f ∙ ap (λ (bs : List ℕ). say (puts bs)) o.head in (
        z.0 ∙ sym (ap (λ (n : Seen Node). n.next) o.whole),
        does_as (does_then (does_as a hd) (does_then y.1 (z.1 o.right)))
            (ap (λ (q : View). say (puts (37 ∷ 3 ∷ [])) ▷ emits_view (inner c) q left ▷ emits (inner c) right) one_view
            ∙ sym (view_default c (view_of v) at left right)
            ∙ ap (λ (n : Seen Node). emits_view c (view_of v) n.value) (sym o.whole)),
      )

  -- ---- objects

  -- one with rest, replaced
  pub object_replaced : {g g₁ g₂ : Going} (c : Place) (d at s z : ℕ) (v : views.View) (b f : Bool) → b ≡ eqb (byte_at t (onward t at 1) / 2 % 2) 1 → b ≡ true → f ≡ not (takes (view_of v)) → f ≡ true
      → s ≡ (look_node t d at).next → z ≡ s → g₂ ≡ g₁ → Does g g₁ (say (does (temporary at 1) ∷ []))
      → byte_at t at ≡ 34 → Emitted t d at z g g₂ (emits_view c (view_of v))
  object_replaced c zero at s z v b f e h i j k l m a e34 good = no_good t at good
  object_replaced c (suc d) at s z v b f e h i j k l m a e34 good =
      let o = object_open t d at good e34 in
      let ps : Items = (look_items t (look_node t d) false (wide_at t (onward t at 2)) (onward t (onward t at 2) 2)).value in
      let r : Node = (look_node t d (look_items t (look_node t d) false (wide_at t (onward t at 2)) (onward t (onward t at 2) 2)).next).value in (
        l ∙ k,
        does_to m (does_as a
            (cell_1 at
            ∙ sym (view_replaced c at ps r)
            ∙ ap (λ (x : View). emits_view c x (object_rest_at at ps r)) (sym (not_takes (view_of v) (sym j ∙ i)))
            ∙ ap (λ (n : Seen Node). emits_view c (view_of v) n.value) (sym (o.resting (sym e ∙ h))))),
      )

  -- the head and the properties of any other
  object_written : {g g₁ g₂ g₃ g₄ : Going} (c c₁ : Place) (d d₁ at q n f x y : ℕ) (mode : Mode) (rest : Bool) → ObjectOpen t d at
      → q ≡ onward t at 2 → Wide t q n → f ≡ onward t q 2 → x ≡ f → c₁ ≡ inner c → d₁ ≡ d → mode ≡ modes.Property rest → g₃ ≡ g₂
      → Does g g₁ (say (puts (34 ∷ 1 ∷ []))) → (n < 65536 → Does g₁ g₂ (say (puts (wide_bytes n)))) → Sequenced t mode c₁ d₁ false n x y g₃ g₄
      → (y ≡ (look_items t (look_node t d) false (wide_at t (onward t at 2)) (onward t (onward t at 2) 2)).next)
      × Does g g₄ (say (puts (34 ∷ 1 ∷ wide_bytes (count (look_items t (look_node t d) false (wide_at t (onward t at 2)) (onward t (onward t at 2) 2)).value)))
      ▷ each_does (emits_property (inner c) rest replacing) (look_items t (look_node t d) false (wide_at t (onward t at 2)) (onward t (onward t at 2) 2)).value)
  object_written c c₁ d d₁ at q n f x y mode rest o eq w ef ex ec ed em eg a b sq =
      let nn : n ≡ wide_at t (onward t at 2) = w.value ∙ ap (λ (z : ℕ). wide_at t z) eq in
      let ff : x ≡ onward t (onward t at 2) 2 = ex ∙ ef ∙ ap (λ (z : ℕ). onward t z 2) eq in
      let ps : Items = (look_items t (look_node t d) false (wide_at t (onward t at 2)) (onward t (onward t at 2) 2)).value in
      let small : n < 65536 = subst (λ (z : ℕ). z < 65536) (sym nn) o.list.small in
      let r = sequenced_as t false (modes.Property rest) mode (inner c) c₁ d d₁ (wide_at t (onward t at 2)) n (onward t (onward t at 2) 2) x y em ec ed nn ff sq
      o.list.good (suit_property ps o.properties rest) in
      let each : Emit = each_does (emits_property (inner c) rest replacing) ps in
      let turns = turns_property (inner c) ps rest (look_solid t (look_node t d) (wide_at t (onward t at 2)) (onward t (onward t at 2) 2)) in (
        r.0,
        does_as (does_then a (does_then (b small) (does_from eg (does_as r.1 turns))))
            (sym (then_assoc (say (puts (34 ∷ 1 ∷ []))) (say (puts (wide_bytes n))) each)
            ∙ ap (λ (z : Emit). z ▷ each) (say_puts (34 ∷ 1 ∷ []) (wide_bytes n))
            ∙ ap (λ (z : ℕ). say (puts (34 ∷ 1 ∷ wide_bytes z)) ▷ each) (nn ∙ sym o.list.many)),
      )

  -- one without rest
  pub object_plain : {g g₁ g₂ g₃ g₄ : Going} (c c₁ : Place) (d d₁ at q n f x y : ℕ) (v : views.View) (mode : Mode) (rest : Bool) → rest ≡ eqb (byte_at t (onward t at 1) / 2 % 2) 1 → rest ≡ false
      → q ≡ onward t at 2 → Wide t q n → f ≡ onward t q 2 → x ≡ f → c₁ ≡ inner c → d₁ ≡ d - 1 → mode ≡ modes.Property rest → g₃ ≡ g₂
      → Does g g₁ (say (puts (34 ∷ 1 ∷ []))) → (n < 65536 → Does g₁ g₂ (say (puts (wide_bytes n)))) → Sequenced t mode c₁ d₁ false n x y g₃ g₄
      → byte_at t at ≡ 34 → Emitted t d at y g g₄ (emits_view c (view_of v))
  object_plain c c₁ zero d₁ at q n f x y v mode rest er h eq w ef ex ec ed em eg a b sq e34 good = no_good t at good
  object_plain c c₁ (suc d) d₁ at q n f x y v mode rest er h eq w ef ex ec ed em eg a b sq e34 good =
      let o = object_open t d at good e34 in
      let xd : d₁ ≡ d = omega arith in
      let whole = o.plain (sym er ∙ h) in
      let r = object_written c c₁ d d₁ at q n f x y mode rest o eq w ef ex ec xd em eg a b sq in
      let ps : Items = (look_items t (look_node t d) false (wide_at t (onward t at 2)) (onward t (onward t at 2) 2)).value in (
        r.0 ∙ sym (ap (λ (n : Seen Node). n.next) whole),
        does_as r.1
            (ap (λ (z : Bool). say (puts (34 ∷ 1 ∷ wide_bytes (count ps))) ▷ each_does (emits_property (inner c) z replacing) ps) h
            ∙ sym (view_object c (view_of v) at ps)
            ∙ ap (λ (n : Seen Node). emits_view c (view_of v) n.value) (sym whole)),
      )

  -- one with rest, without it
  pub object_rest_lem : {g g₁ g₂ g₃ g₄ g₅ : Going} (c c₁ : Place) (d d₁ e at q n f x y s z : ℕ) (v : views.View) (mode : Mode) (rest : Bool) → rest ≡ eqb (byte_at t (onward t at 1) / 2 % 2) 1 → rest ≡ true → not (takes (view_of v)) ≡ false
      → q ≡ onward t at 2 → Wide t q n → f ≡ onward t q 2 → x ≡ f → c₁ ≡ inner c → d₁ ≡ d - 1 → e ≡ d - 1 → mode ≡ modes.Property rest → g₃ ≡ g₂
      → Does g g₁ (say (puts (34 ∷ 1 ∷ []))) → (n < 65536 → Does g₁ g₂ (say (puts (wide_bytes n)))) → Sequenced t mode c₁ d₁ false n x y g₃ g₄
      → s ≡ (look_node t e y).next → z ≡ s → g₅ ≡ g₄
      → byte_at t at ≡ 34 → Emitted t d at z g g₅ (emits_view c (view_of v))
  object_rest_lem c c₁ zero d₁ e at q n f x y s z v mode rest er h hb eq w ef ex ec ed ee em eg a k sq es ez eh e34 good = no_good t at good
  object_rest_lem c c₁ (suc d) d₁ e at q n f x y s z v mode rest er h hb eq w ef ex ec ed ee em eg a k sq es ez eh e34 good =
      let o = object_open t d at good e34 in
      let xd : d₁ ≡ d = omega arith in
      let xe : e ≡ d = omega arith in
      let whole = o.resting (sym er ∙ h) in
      let r = object_written c c₁ d d₁ at q n f x y mode rest o eq w ef ex ec xd em eg a k sq in
      let ps : Items = (look_items t (look_node t d) false (wide_at t (onward t at 2)) (onward t (onward t at 2) 2)).value in
      let last : Node = (look_node t d (look_items t (look_node t d) false (wide_at t (onward t at 2)) (onward t (onward t at 2) 2)).next).value in (
        ez ∙ es ∙ ap (λ (x : ℕ). (look_node t x y).next) xe ∙ ap (λ (x : ℕ). (look_node t d x).next) r.0 ∙ sym (ap (λ (n : Seen Node). n.next) whole),
        does_to eh (does_as r.1
            (ap (λ (x : Bool). say (puts (34 ∷ 1 ∷ wide_bytes (count ps))) ▷ each_does (emits_property (inner c) x replacing) ps) h
            ∙ sym (view_rest c (view_of v) (does_takes (view_of v) (sym hb)) at ps last)
            ∙ ap (λ (n : Seen Node). emits_view c (view_of v) n.value) (sym whole))),
      )

  -- ---- arrays

  module _ (c c₁ : Place) (d d₁ at q n f x y : ℕ) where
    -- the head and the items
    array_written : {g g₁ g₂ : Going} (o : ArrayOpen t d at) → q ≡ onward t at 2 → Wide t q n → f ≡ onward t q 2 → x ≡ f → c₁ ≡ inner c → d₁ ≡ d
        → Does g g₁ (say (puts (part at f t))) → Sequenced t modes.Viewed c₁ d₁ true n x y g₁ g₂
        → (y ≡ (look_items t (look_node t d) true (wide_at t (onward t at 2)) (onward t (onward t at 2) 2)).next)
        × Does g g₂ (say (puts (36 ∷ cond (eqb (byte_at t (onward t at 1) / 2 % 2) 1) 3 1 ∷ wide_bytes (count (look_items t (look_node t d) true (wide_at t (onward t at 2)) (onward t (onward t at 2) 2)).value)))
        ▷ each_does (emits_view (inner c) replacing) (look_items t (look_node t d) true (wide_at t (onward t at 2)) (onward t (onward t at 2) 2)).value)
    array_written o eq w ef ex ec ed a sq =
        let bit : Bool = eqb (byte_at t (onward t at 1) / 2 % 2) 1 in
        let nn : n ≡ wide_at t (onward t at 2) = w.value ∙ ap (λ (z : ℕ). wide_at t z) eq in
        let ff : f ≡ onward t (onward t at 2) 2 = ef ∙ ap (λ (z : ℕ). onward t z 2) eq in
        let ns : Items = (look_items t (look_node t d) true (wide_at t (onward t at 2)) (onward t (onward t at 2) 2)).value in
        let r = sequenced_as t true modes.Viewed modes.Viewed (inner c) c₁ d d₁ (wide_at t (onward t at 2)) n (onward t (onward t at 2) 2) x y refl ec ed nn (ex ∙ ff) sq o.list.good (suit_viewed ns) in (
          r.0,
          does_then
              (does_as a
              (ap (λ (z : ℕ). say (puts (part at z t))) ff ∙ ap (λ (bs : List ℕ). say (puts bs)) o.head
              ∙ ap (λ (z : ℕ). say (puts (36 ∷ cond bit 3 1 ∷ wide_bytes z))) (sym o.list.many)))
              (does_as r.1 (turns_viewed (inner c) ns)),
        )

  pub array_plain : {g g₁ g₂ : Going} (c c₁ : Place) (d d₁ at q n f x y : ℕ) (v : views.View) (b : Bool) → b ≡ eqb (byte_at t (onward t at 1) / 2 % 2) 1 → b ≡ false
      → q ≡ onward t at 2 → Wide t q n → f ≡ onward t q 2 → x ≡ f → c₁ ≡ inner c → d₁ ≡ d - 1
      → Does g g₁ (say (puts (part at f t))) → Sequenced t modes.Viewed c₁ d₁ true n x y g₁ g₂
      → byte_at t at ≡ 36 → Emitted t d at y g g₂ (emits_view c (view_of v))
  array_plain c c₁ zero d₁ at q n f x y v b eb h eq w ef ex ec ed a sq e36 good = no_good t at good
  array_plain c c₁ (suc d) d₁ at q n f x y v b eb h eq w ef ex ec ed a sq e36 good =
      let o = array_open t d at good e36 in
      let xd : d₁ ≡ d = omega arith in
      let bit : eqb (byte_at t (onward t at 1) / 2 % 2) 1 ≡ false = sym eb ∙ h in
      let whole = o.plain bit in
      let r = array_written c c₁ d d₁ at q n f x y o eq w ef ex ec xd a sq in
      let ns : Items = (look_items t (look_node t d) true (wide_at t (onward t at 2)) (onward t (onward t at 2) 2)).value in (
        r.0 ∙ sym (ap (λ (n : Seen Node). n.next) whole),
        does_as r.1
            (ap (λ (z : Bool). say (puts (36 ∷ cond z 3 1 ∷ wide_bytes (count ns))) ▷ each_does (emits_view (inner c) replacing) ns) bit
            ∙ sym (view_array c (view_of v) at ns)
            ∙ ap (λ (n : Seen Node). emits_view c (view_of v) n.value) (sym whole)),
      )

  pub array_rest_lem : {g g₁ g₂ g₃ : Going} (c c₁ c₂ : Place) (d d₁ d₂ at q n f x y r : ℕ) (v : views.View) (b : Bool) → b ≡ eqb (byte_at t (onward t at 1) / 2 % 2) 1 → b ≡ true
      → q ≡ onward t at 2 → Wide t q n → f ≡ onward t q 2 → x ≡ f → c₁ ≡ inner c → d₁ ≡ d - 1 → c₂ ≡ inner c → d₂ ≡ d - 1
      → Does g g₁ (say (puts (part at f t))) → Sequenced t modes.Viewed c₁ d₁ true n x y g₁ g₂ → Ruled t d₂ y r g₂ g₃ (emits c₂)
      → byte_at t at ≡ 36 → Emitted t d at r g g₃ (emits_view c (view_of v))
  array_rest_lem c c₁ c₂ zero d₁ d₂ at q n f x y r v b eb h eq w ef ex ec ed ec₂ ed₂ a sq k e36 good = no_good t at good
  array_rest_lem c c₁ c₂ (suc d) d₁ d₂ at q n f x y r v b eb h eq w ef ex ec ed ec₂ ed₂ a sq k e36 good =
      let o = array_open t d at good e36 in
      let xd : d₁ ≡ d = omega arith in
      let xd₂ : d₂ ≡ d = omega arith in
      let bit : eqb (byte_at t (onward t at 1) / 2 % 2) 1 ≡ true = sym eb ∙ h in
      let whole = o.resting bit in
      let u = array_written c c₁ d d₁ at q n f x y o eq w ef ex ec xd a sq in
      let ns : Items = (look_items t (look_node t d) true (wide_at t (onward t at 2)) (onward t (onward t at 2) 2)).value in
      let end : ℕ = (look_items t (look_node t d) true (wide_at t (onward t at 2)) (onward t (onward t at 2) 2)).next in
      let z = ruled_as (λ c. emits c) (inner c) c₂ d d₂ end y r ec₂ xd₂ u.0 k in
      let last : Emit = emits (inner c) (look_node t d end).value in (
        z.0 ∙ sym (ap (λ (n : Seen Node). n.next) whole),
        does_as (does_then u.1 (z.1 (o.rest bit)))
            (ap (λ (z : Bool). (say (puts (36 ∷ cond z 3 1 ∷ wide_bytes (count ns))) ▷ each_does (emits_view (inner c) replacing) ns) ▷ last) bit
            ∙ then_assoc (say (puts (36 ∷ 3 ∷ wide_bytes (count ns)))) (each_does (emits_view (inner c) replacing) ns) last
            ∙ sym (view_array_rest c (view_of v) at ns (look_node t d end).value)
            ∙ ap (λ (n : Seen Node). emits_view c (view_of v) n.value) (sym whole)),
      )

  -- ---- properties: the head, the key, the value, the flags

  pub property_does : {g g₁ g₂ g₃ g₄ : Going} (c c₁ c₂ : Place) (d d₁ d₂ at s u w x e z : ℕ) (taken : Bool) → s ≡ onward t at 2 → u ≡ s
      → c₁ ≡ inner c → d₁ ≡ d - 1 → c₂ ≡ inner c → d₂ ≡ d - 1 → e ≡ onward t x 1 → z ≡ e
      → Does g g₁ (say (puts (part at s t))) → Emitted t d₁ u w g₁ g₂ (emits_key c₁ taken at) → Emitted t d₂ w x g₂ g₃ (emits_view c₂ (view_of Replacing)) → Does g₃ g₄ (say (puts (part x e t)))
      → byte_at t at ≡ 35 → Emitted t d at z g g₄ (emits_property c taken replacing)
  property_does c c₁ c₂ zero d₁ d₂ at s u w x e z taken es eu ec ed ec₂ ed₂ ee ez a k m b e35 good = no_good t at good
  property_does c c₁ c₂ (suc d) d₁ d₂ at s u w x e z taken es eu ec ed ec₂ ed₂ ee ez a k m b e35 good =
      let o = property_open t d at good e35 in
      let xd : d₁ ≡ d = omega arith in
      let xd₂ : d₂ ≡ d = omega arith in
      let key_at : ℕ = onward t at 2 in
      let value_at : ℕ = (look_node t d key_at).next in
      let flagsAt : ℕ = (look_node t d value_at).next in
      let kk = emitted_as (λ c. emits_key c taken at) (inner c) c₁ d d₁ key_at u w ec xd (eu ∙ es) k o.key in
      let mm = emitted_as (λ c. emits_view c (view_of Replacing)) (inner c) c₂ d d₂ value_at w x ec₂ xd₂ kk.0 m o.value in
      let xe : e ≡ onward t flagsAt 1 = ee ∙ ap (λ (y : ℕ). onward t y 1) mm.0 in
      let hd : say (puts (part at s t)) ≡ say (puts (35 ∷ 7 ∷ [])) = ap (λ (y : ℕ). say (puts (part at y t))) es ∙ ap (λ (bs : List ℕ). say (puts bs)) o.head in
      let fl : say (puts (part x e t)) ≡ say (puts (byte_at t flagsAt ∷ [])) = ap₂ (λ (y i : ℕ). say (puts (part y i t))) mm.0 xe ∙ ap (λ (bs : List ℕ). say (puts bs)) o.flags in (
        ez ∙ xe ∙ sym (ap (λ (n : Seen Node). n.next) o.whole),
        does_as (does_then (does_as a hd) (does_then kk.1 (does_then mm.1 (does_as b fl))))
            (ap (λ (y : View). say (puts (35 ∷ 7 ∷ [])) ▷ emits_key (inner c) taken at (look_node t d key_at).value ▷ emits_view (inner c) y (look_node t d value_at).value ▷ say (puts (byte_at t flagsAt ∷ []))) one_view
            ∙ sym (view_property c taken replacing at (look_node t d key_at).value (look_node t d value_at).value (byte_at t flagsAt))
            ∙ ap (λ (n : Seen Node). emits_property c taken replacing n.value) (sym o.whole)),
      )

  -- ---- keys

  -- a temporary
  pub key_cell : {g g₁ g₂ : Going} (c : Place) (d at p s z : ℕ) (taken b : Bool) → taken ≡ true → b ≡ is_other (look_node t d at).value → b ≡ true
      → s ≡ (look_node t d at).next → z ≡ s → g₂ ≡ g₁ → Does g g₁ (say (does (temporary p 4) ∷ []))
      → Emitted t d at z g g₂ (emits_key c taken p)
  unfolding emits_key
  key_cell c d at p s z taken b et eb h es ez eg a good =
      let other : is_other (look_node t d at).value ≡ true = sym eb ∙ h in
      (ez ∙ es, does_to eg (does_as a (cell_4 p ∙ rw (et, other) refl)))

  -- as it stands
  pub key_node_lem : {g g' : Going} (c : Place) (d at p q : ℕ) (taken : Bool) → (taken ≡ true → is_other (look_node t d at).value ≡ false)
      → Ruled t d at q g g' (emits c) → Emitted t d at q g g' (emits_key c taken p)
  unfolding emits_key
  key_node_lem c d at p q taken e k good = (
    k.0,
    does_as (k.1 good)
        (by_test taken
        (λ h. let other : is_other (look_node t d at).value ≡ false = e h in rw (h, other) refl)
        (λ h. rw h refl)),
  )
