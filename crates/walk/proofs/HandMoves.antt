-- What is made for the patterns that are moved out of heads: the ways out of the code.
-- Assumes nothing.
use mathlib.Core.Path.{◌≡◌, refl, sym, ap, ◌∙◌, subst}
use mathlib.Core.Bool.{Bool, true, false}
use mathlib.Core.List.{List, [], ◌∷◌}
use Prim.Native.Nat.{ℕ, zero, suc, ◌-◌, ◌/◌, ◌%◌}
use lib.Dec.{eqb}
use borrow.Author.Tests.{eq-eqb}
use Rattle.tree.specs.Tree.{Node, Fields, Items}
use Rattle.tree.specs.Tree.Node.{node}
use Rattle.tree.specs.Tree.Fields.{done, absent, field}
use Rattle.tree.specs.Tree.Piece.{one}
use Rattle.tree.specs.Read.{byte_at, wide_at}
use Rattle.tree.specs.Answer.{Wide}
use Rattle.tree.specs.Look.{Seen, onward, look_items, look_node}
use Rattle.lowering.specs.Parts.{position, is, node_at_of, piece_in, gather}
use Rattle.lowering.specs.Patterns.{has_object_rest}
use Rattle.lowering.specs.Heads.{is_moved, moved_from}
use Rattle.lowering.proofs.Cases.{by_test, or_other, shape_34}
use Rattle.sink.specs.Machine.Event.{make}
use Rattle.direct.specs.Events as events
use Rattle.direct.specs.Events.Deed.{does}
use Rattle.direct.specs.Emit.{say, in_turn}
use Rattle.direct.specs.Moved.{moved_in_of, makes}
use Rattle.direct.proofs.Threads.{say_say}
use Rattle.direct.proofs.HandedByObject.{Listed, listed_gather}
use Rattle.direct.proofs.MovedOut.{shape_37}
use Rattle.direct.proofs.MovedMade.{makes_join, makes_object, makes_default, makes_leaf, makes_array, makes_array_rest, makes_kept, makes_moved}
use Rattle.walk.specs.declared.modes.Mode.TheVariants as modes
use Rattle.walk.specs.Run.{Going, Does}
use Rattle.walk.specs.Whole.{GoodItems, Good}
use Rattle.walk.specs.Turns.{suits}
use Rattle.walk.proofs.Running.{does_then, does_nothing, does_as}
use Rattle.walk.proofs.Opened.{kind_byte, leaf_here, no_good, is_here, position_here, array_open, declarator_open, param_open}
use Rattle.walk.proofs.Hands.{at_level, list_from}
use Rattle.walk.proofs.HandKeys.{cell_1}

-- ---- lists

makes_listed : Listed makes
unfolding makes
makes_listed = record { empty = refl; skips = λ is. refl; joins = makes_join }

pub makes_turn : (f : Node → Items) (ns : Items) → in_turn (λ n. say (makes (f n))) ns ≡ say (makes (gather f ns))
makes_turn f ns = sym (listed_gather makes makes_listed f ns)

-- ---- a pattern

module _ (t : List ℕ) where
  module _ (d at b : ℕ) (e : b ≡ byte_at t at) where
    kind_is : (k : ℕ) → b ≡ k → is k (look_node t (suc d) at).value ≡ true
    kind_is k z = is_here t d at k ∙ eq-eqb (byte_at t at) k (sym e ∙ z)

    own_made : {g g' : Going} → makes (moved_in_of (look_node t (suc d) at).value) ≡ does (make (events.cell 1 (position (look_node t (suc d) at).value))) ∷ []
        → Does g g' (say (does (make at) ∷ [])) → Does g g' (say (makes (moved_in_of (look_node t (suc d) at).value)))
    own_made h k = does_as k (ap (λ (x : ℕ). say (does (make x) ∷ [])) (cell_1 at ∙ ap (events.cell 1) (sym (position_here t (suc d) at))) ∙ ap say (sym h))

  pub makes_34 : {g g' : Going} (left at b : ℕ) → b ≡ byte_at t at → b ≡ 34 → Does g g' (say (does (make at) ∷ [])) → Good t left at → Does g g' (say (makes (moved_in_of (look_node t left at).value)))
  makes_34 zero at b e z k good = no_good t at good
  makes_34 (suc d) at b e z k good = own_made d at b e (makes_object (look_node t (suc d) at).value (shape_34 (look_node t (suc d) at).value (kind_is d at b e 34 z))) k

  pub makes_37 : {g g' : Going} (left at b : ℕ) → b ≡ byte_at t at → b ≡ 37 → Does g g' (say (does (make at) ∷ [])) → Good t left at → Does g g' (say (makes (moved_in_of (look_node t left at).value)))
  makes_37 zero at b e z k good = no_good t at good
  makes_37 (suc d) at b e z k good = own_made d at b e (makes_default (look_node t (suc d) at).value (shape_37 (look_node t (suc d) at).value (kind_is d at b e 37 z))) k

  pub makes_nothing : {g : Going} (left at b : ℕ) → b ≡ byte_at t at → (b ≡ 34 → ⊥) → (b ≡ 36 → ⊥) → (b ≡ 37 → ⊥) → Good t left at → Does g g (say (makes (moved_in_of (look_node t left at).value)))
  makes_nothing zero at b e x y z good = no_good t at good
  makes_nothing {g = g} (suc d) at b e x y z good = does_as (does_nothing g) (ap say (sym (makes_leaf (look_node t (suc d) at).value (leaf_here t d at b e x y z))))

  module _ (left d at q p n : ℕ) (e : d ≡ left - 1) (a : q ≡ onward t at 2) (b : p ≡ onward t q 2) (w : Wide t q n) (r : Bool) (f : r ≡ eqb (byte_at t (onward t at 1) / 2 % 2) 1) where
    -- an array without a rest
    pub makes_items_lem : {g g₁ : Going} → r ≡ false
        → (GoodItems t (look_node t d) (Good t d) false true n p → Does g g₁ (say (makes (gather moved_in_of (look_items t (look_node t d) true n p).value))))
        → Good t left at → byte_at t at ≡ 36 → Does g g₁ (say (makes (moved_in_of (look_node t left at).value)))
    makes_items_lem {g = g} {g₁ = g₁} z k good kind =
        at_level t (λ (m : ℕ). Does g g₁ (say (makes (moved_in_of (look_node t m at).value)))) left d at e good
        (λ here.
        let u = array_open t d at here kind in
        let k' = list_from t left d at q p n e a b w (λ (m y : ℕ). GoodItems t (look_node t d) (Good t d) false true m y → Does g g₁ (say (makes (gather moved_in_of (look_items t (look_node t d) true m y).value)))) k in
        does_as (k' u.list.good) (ap say (sym (makes_array at _)) ∙ ap (λ (s : Seen Node). say (makes (moved_in_of s.value))) (sym (u.plain (sym f ∙ z)))))

    -- and with one
    pub makes_rest : {g g₁ g₂ : Going} (x : ℕ) → r ≡ true → x ≡ (look_items t (look_node t d) true n p).next
        → (GoodItems t (look_node t d) (Good t d) false true n p → Does g g₁ (say (makes (gather moved_in_of (look_items t (look_node t d) true n p).value))))
        → (Good t d x → Does g₁ g₂ (say (makes (moved_in_of (look_node t d x).value))))
        → Good t left at → byte_at t at ≡ 36 → Does g g₂ (say (makes (moved_in_of (look_node t left at).value)))
    makes_rest {g = g} {g₁ = g₁} {g₂ = g₂} x z h k l good kind =
        at_level t (λ (m : ℕ). Does g g₂ (say (makes (moved_in_of (look_node t m at).value)))) left d at e good
        (λ here.
        let u = array_open t d at here kind in
        let bit = sym f ∙ z in
        let ns = (look_items t (look_node t d) true (wide_at t (onward t at 2)) (onward t (onward t at 2) 2)).value in
        let y = (look_items t (look_node t d) true (wide_at t (onward t at 2)) (onward t (onward t at 2) 2)).next in
        let k' = list_from t left d at q p n e a b w (λ (m y : ℕ). GoodItems t (look_node t d) (Good t d) false true m y → Does g g₁ (say (makes (gather moved_in_of (look_items t (look_node t d) true m y).value)))) k in
        let h' : x ≡ y = list_from t left d at q p n e a b w (λ (m y : ℕ). x ≡ (look_items t (look_node t d) true m y).next) h in
        let l' = subst (λ (y : ℕ). Good t d y → Does g₁ g₂ (say (makes (moved_in_of (look_node t d y).value)))) h' l in
        does_as (does_then (k' u.list.good) (l' (u.rest bit)))
        (say_say (makes (gather moved_in_of ns)) (makes (moved_in_of (look_node t d y).value))
        ∙ ap say (sym (makes_array_rest at ns (look_node t d y).value)) ∙ ap (λ (s : Seen Node). say (makes (moved_in_of s.value))) (sym (u.resting bit))))

  -- ---- a Param or a Declarator

  record Binding (d at : ℕ) : Type 0 where
    kind : ℕ
    more : Fields
    whole : (look_node t (suc d) at).value ≡ node at kind (field (one (look_node t d (onward t at 2)).value) more)
    good : Good t d (onward t at 2)

  binding : (d at : ℕ) → Good t (suc d) at → suits modes.Binding (look_node t (suc d) at).value ≡ true → Binding d at
  unfolding suits
  binding d at g s =
      by_test (is 15 (look_node t (suc d) at).value)
      (λ e.
      let u = param_open t d at g (kind_byte t (suc d) at 15 g e) in
      by_test (eqb (byte_at t (onward t at 1) / 2 % 2) 1)
      (λ bit. record { kind = 15; more = field (one (look_node t d (look_node t d (onward t at 2)).next).value) done; whole = ap (λ (s : Seen Node). s.value) (u.valued bit); good = u.pattern })
      (λ bit. record { kind = 15; more = absent done; whole = ap (λ (s : Seen Node). s.value) (u.bare bit); good = u.pattern }))
      (λ e.
      let u = declarator_open t d at g (kind_byte t (suc d) at 5 g (or_other (is 15 (look_node t (suc d) at).value) (is 5 (look_node t (suc d) at).value) e s)) in
      by_test (eqb (byte_at t (onward t at 1) / 2 % 2) 1)
      (λ bit. record { kind = 5; more = field (one (look_node t d (look_node t d (onward t at 2)).next).value) done; whole = ap (λ (s : Seen Node). s.value) (u.valued bit); good = u.pattern })
      (λ bit. record { kind = 5; more = absent done; whole = ap (λ (s : Seen Node). s.value) (u.bare bit); good = u.pattern }))

  binds_kept : (at k : ℕ) (p : Node) (fs : Fields) → has_object_rest p ≡ false → makes (moved_from (node at k (field (one p) fs))) ≡ []
  unfolding is_moved node_at_of piece_in
  binds_kept at k p fs h = makes_kept (node at k (field (one p) fs)) h

  module _ (left d at p : ℕ) (e : d ≡ left - 1) (a : p ≡ onward t at 2) (b : Bool) (w : b ≡ has_object_rest (look_node t d p).value) where
    pub moves_none : {g : Going} → b ≡ false → Good t left at → suits modes.Binding (look_node t left at).value ≡ true → Does g g (say (makes (moved_from (look_node t left at).value)))
    moves_none {g = g} z good =
        at_level t (λ (m : ℕ). suits modes.Binding (look_node t m at).value ≡ true → Does g g (say (makes (moved_from (look_node t m at).value)))) left d at e good
        (λ here s.
        let u = binding d at here s in
        let h : has_object_rest (look_node t d (onward t at 2)).value ≡ false = ap (λ (x : ℕ). has_object_rest (look_node t d x).value) (sym a) ∙ sym w ∙ z in
        does_as (does_nothing g) (ap say (sym (binds_kept at u.kind (look_node t d (onward t at 2)).value u.more h) ∙ ap (λ (x : Node). makes (moved_from x)) (sym u.whole))))

    pub moves_some : {g g' : Going} → b ≡ true → (Good t d p → Does g g' (say (makes (moved_in_of (look_node t d p).value))))
        → Good t left at → suits modes.Binding (look_node t left at).value ≡ true → Does g g' (say (makes (moved_from (look_node t left at).value)))
    moves_some {g = g} {g' = g'} z k good =
        at_level t (λ (m : ℕ). suits modes.Binding (look_node t m at).value ≡ true → Does g g' (say (makes (moved_from (look_node t m at).value)))) left d at e good
        (λ here s.
        let u = binding d at here s in
        let h : has_object_rest (look_node t d (onward t at 2)).value ≡ true = ap (λ (x : ℕ). has_object_rest (look_node t d x).value) (sym a) ∙ sym w ∙ z in
        let k' = subst (λ (x : ℕ). Good t d x → Does g g' (say (makes (moved_in_of (look_node t d x).value)))) a k in
        does_as (k' u.good)
        (ap say (sym (makes_moved at u.kind (look_node t d (onward t at 2)).value u.more h) ∙ ap (λ (x : Node). makes (moved_from x)) (sym u.whole))))
