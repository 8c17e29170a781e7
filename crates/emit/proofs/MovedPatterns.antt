-- Patterns that are moved out of parameters and heads: what the code writes in their place and in front of a body, one law for each way out.
-- Assumes nothing.
use mathlib.Core.Path.{◌≡◌, refl, sym, ap, ap₂, ◌∙◌, subst}
use mathlib.Core.Bool.{Bool, true, false, cond, ◌||◌, false≢true}
use mathlib.Core.List.{List, [], ◌∷◌, ◌++◌}
use Prim.Native.Nat.{ℕ, zero, suc, ◌+◌, ◌-◌, ◌/◌, ◌%◌, ◌≤◌, ◌<◌}
use native.Mathlib.Omega.{arith}
use lib.Dec.{eqb}
use lib.ListN.{length}
use borrow.Author.Tests.{eq-eqb, ne_eqb, eqb-true, eqb-false}
use Rattle.tree.specs.Tree.{Node, Fields, Items, wide_bytes, count, encode}
use Rattle.tree.specs.Tree.Node.{node}
use Rattle.tree.specs.Tree.Items.{none, hole, item}
use Rattle.tree.specs.Read.{byte_at, wide_at}
use Rattle.tree.specs.Rows.{sort_of}
use Rattle.tree.specs.Look.{Seen, onward, look_item, look_items, look_field, look_slot, look_node}
use Rattle.tree.specs.Answer.{Peeked, Wide}
use Rattle.lowering.specs.Parts.{is, piece_in, stands_in, node_at_of, items_at_of, stands, only, gather, any, ◌+++◌, or_else, first}
use Rattle.lowering.specs.Made.{Context, declares, let_of}
use Rattle.lowering.specs.Made as made
use Rattle.lowering.specs.Patterns.{shape, left_of, has_object_rest, objects_below}
use Rattle.lowering.specs.Patterns.Shape.{leaf}
use Rattle.lowering.specs.Keys.{keys_refusal}
use Rattle.lowering.specs.Declarations.{is_name_of, pattern_declarators, is_lowered, lowered_in, declaration_refusal}
use Rattle.lowering.specs.Heads.{is_moved, moved_from}
use Rattle.lowering.proofs.All.{AllItems}
use Rattle.lowering.proofs.Cases.{by_test, or_other, shape_34}
use Rattle.sink.specs.Machine.{part}
use Rattle.sink.specs.Machine.Event.{temporary}
use Rattle.pattern.specs.Tally.{limited}
use Rattle.pattern.proofs.MovesCounted.{any_none}
use Rattle.pattern.proofs.CountsFit.{counted_whole, pattern_small}
use Rattle.direct.specs.Events.{Place, Emit, puts, marks, refused, context_of, emits}
use Rattle.direct.specs.Events.Deed.{does, refuses}
use Rattle.direct.specs.Emit.{say, ◌▷◌, inner, scoped, marking, emits_statement, emits_piece, in_turn}
use Rattle.direct.specs.Views.View.{replacing, taking}
use Rattle.direct.specs.Objects.{over_objects}
use Rattle.direct.specs.Handed.{place_made, keys_made, excludes_of, declarator_made, declarator_excludes}
use Rattle.direct.specs.Declared.{emits_pattern, emits_lowered, emits_declarator, declarator_count}
use Rattle.direct.specs.Counts.{sum_of, declarators_of}
use Rattle.direct.specs.Moved.{stand, out_of, moved_in_of, behind, Binder, fronts}
use Rattle.direct.proofs.MadeNodes.{new_declaration, emits_temporary}
use Rattle.direct.proofs.DeclarationsByPart.{declaration_refused, declaration_done}
use Rattle.direct.proofs.DeclaratorCounts.{pattern_counted, declarator_count_lem}
use Rattle.direct.proofs.Bodies.{inner_scoped, scoped_scoped}
use Rattle.direct.proofs.MovedOut.{shape_37, shape_leaf, emits_out_object, emits_out_leaf, emits_out_array_rest, emits_out_array, emits_out_default, emits_behind_kept, emits_behind_value, emits_behind}
use Rattle.direct.proofs.Fronts.{fronts_cut, fronts_empty, fronts_hole, fronts_one, fronts_kept, fronts_moved, fronts_object, fronts_default, fronts_leaf, fronts_array_rest, fronts_array, marked_let, front_kept}
use Rattle.direct.proofs.Threads.{then_assoc, say_nothing, then_nothing, say_say}
use Rattle.walk.specs.declared.modes.Mode.{Mode}
use Rattle.walk.specs.declared.modes.Mode.TheVariants as modes
use Rattle.walk.specs.Run.{Going, Does}
use Rattle.walk.specs.Whole.{hole_at, slot_deeds, GoodItems, GoodField, GoodSlot, Good, Ruled, Emitted}
use Rattle.walk.specs.Turns.{suits, turns_of, AllSuit, moves_of, AllBind, declaration_head}
use Rattle.walk.proofs.LiteralHeads.{halves}
use Rattle.walk.proofs.Running.{does_then, does_nothing, does_as, does_to, does_fresh}
use Rattle.walk.proofs.RefusalsWithoutMarks.{agree_say, agree_then, agree_marked}
use Rattle.walk.proofs.SpreadArguments.{does_from}
use Rattle.walk.proofs.Emits.{is_hole, no_hole, full, good_item}
use Rattle.walk.proofs.Opened.{ArrayOpen, BinderOpen, array_open, default_open, declarator_open, param_open, no_good, is_here, position_here, good_short, good_within}
use Rattle.walk.proofs.ListTurns.{turns_moved_out, suit_moved_out}
use Rattle.lowering.proofs.Clauses.{has_leaf_at}
use Rattle.direct.proofs.ListsInTurn.{turn_only}
use Rattle.outcome.proofs.PotentialRules.{cell_1}

-- ---- states and places

-- a scope's place
pub scoped_place : (c c' : Place) → c' ≡ scoped c → c' ≡ scoped c'
scoped_place c c' e = e ∙ sym (scoped_scoped c) ∙ ap scoped (sym e)

pub inner_place : (c : Place) → c ≡ scoped c → inner c ≡ c
inner_place c e = ap inner e ∙ inner_scoped c ∙ sym e

-- the same place, written in another way
place_as : (c c' : Place) → c' ≡ c → c ≡ scoped c → c' ≡ scoped c'
place_as c c' e s = e ∙ s ∙ ap scoped (sym e)

stand_is : (at : ℕ) → say (does (temporary at 1) ∷ []) ≡ say (stand at)
stand_is at = ap (λ (x : ℕ). say (does (temporary x 1) ∷ [])) (sym (cell_1 at))

-- ---- lists in two halves

all_left : (P : Node → Type 0) (is js : Items) → AllItems P (is +++ js) → AllItems P is
unfolding ◌+++◌
all_left P none js a = tt
all_left P (hole is) js a = all_left P is js a
all_left P (item n is) js a = (a.0, all_left P is js a.1)

all_right : (P : Node → Type 0) (is js : Items) → AllItems P (is +++ js) → AllItems P js
unfolding ◌+++◌
all_right P none js a = a
all_right P (hole is) js a = all_right P is js a
all_right P (item n is) js a = all_right P is js a.1

module _ (t : List ℕ) where
  module _ (R : ℕ → Seen Node) where
    good_halves : (G : ℕ → Type 0) (l h : Bool) (a b n at : ℕ) → n ≡ a + b → GoodItems t R G l h n at → GoodItems t R G l h a at × GoodItems t R G l h b (look_items t R h a at).next
    unfolding look_items GoodItems
    good_halves G l h zero b n at e g = let s : n ≡ b = omega arith in (tt, subst (λ (x : ℕ). GoodItems t R G l h x at) s g)
    good_halves G l h (suc a) b zero at e g = absurd (omega arith)
    good_halves G l h (suc a) b (suc n) at e g = let r = good_halves G l h a b n (look_item t R h at).next (omega arith) g.1 in ((g.0, r.0), r.1)

    -- a list of one
    one_item : (h : Bool) (n at : ℕ) → n ≡ 1 → hole_at t h at ≡ false → (look_items t R h n at).value ≡ only (R at).value
    unfolding look_items look_item hole_at
    one_item true n at e z = rw (e, z) refl
    one_item false n at e z = rw e refl

    one_hole : (h : Bool) (n at : ℕ) → n ≡ 1 → hole_at t h at ≡ true → (look_items t R h n at).value ≡ hole none
    unfolding look_items look_item hole_at
    one_hole true n at e z = rw (e, z) refl
    one_hole false n at e z = let w : ◌≡◌ {A = ℕ} 0 1 = cc in absurd (omega arith)

  -- ---- positions, counts and levels as the code has them

  pub look_as : (h : Bool) (e d n m y x : ℕ) → e ≡ d → n ≡ m → y ≡ x → look_items t (look_node t e) h n y ≡ look_items t (look_node t d) h m x
  look_as h e d n m y x a b f = rw (a, b, f) refl

  pub good_as : (l h : Bool) (e d n m y x : ℕ) → e ≡ d → n ≡ m → y ≡ x → GoodItems t (look_node t d) (Good t d) l h m x → GoodItems t (look_node t e) (Good t e) l h n y
  good_as l h e d n m y x a b f g = rw (a, b, f) g

  pub node_as : (e d y x : ℕ) → e ≡ d → y ≡ x → look_node t e y ≡ look_node t d x
  node_as e d y x a b = rw (a, b) refl

  pub stands_as : (e d y x : ℕ) → e ≡ d → y ≡ x → Good t d x → Good t e y
  stands_as e d y x a b g = rw (a, b) g

  -- the kind that was looked at
  pub kind_is : (d at k v : ℕ) → Peeked t at k → k ≡ v → is v (look_node t (suc d) at).value ≡ true
  kind_is d at k v p e = is_here t d at v ∙ eq-eqb (byte_at t at) v (sym p.value ∙ e)

  pub kind_not : (d at k v : ℕ) → Peeked t at k → (k ≡ v → ⊥) → is v (look_node t (suc d) at).value ≡ false
  kind_not d at k v p e = is_here t d at v ∙ ne_eqb (byte_at t at) v (λ x. e (p.value ∙ x))

  leaf_is : (d at k : ℕ) → Peeked t at k → (k ≡ 34 → ⊥) → (k ≡ 36 → ⊥) → (k ≡ 37 → ⊥) → shape (look_node t (suc d) at).value ≡ leaf
  leaf_is d at k p a b c = shape_leaf (look_node t (suc d) at).value (kind_not d at k 34 p a) (kind_not d at k 36 p b) (kind_not d at k 37 p c)

  -- what is found has a level
  pub rest_levels : (d at : ℕ) (b : Bool) → b ≡ has_object_rest (look_node t d at).value → b ≡ true → 0 < d
  unfolding look_node shape
  rest_levels zero at b e h = absurd (false≢true (sym (has_leaf_at (look_node t 0 at).value refl) ∙ sym e ∙ h))
  rest_levels (suc d) at b e h = omega arith

  pub moved_levels : (d at i : ℕ) (b : Bool) → b ≡ any is_moved (items_at_of i (look_node t d at).value) → b ≡ true → 0 < d
  moved_levels zero at i b e h = absurd (false≢true (any_none t 0 at i refl ∙ sym e ∙ h))
  moved_levels (suc d) at i b e h = omega arith

  -- ---- a pattern without the parts that are moved out

  pub gone_object : {g g₁ g' : Going} (c : Place) (d at k q x : ℕ) → (d ≡ 0 → ⊥) → Peeked t at k → k ≡ 34 → q ≡ (look_node t d at).next → x ≡ q
      → Does g g₁ (say (does (temporary at 1) ∷ [])) → g' ≡ g₁ → Emitted t d at x g g' (λ p. emits c (out_of p))
  gone_object c zero at k q x z p e f h a b good = absurd (z refl)
  gone_object c (suc d) at k q x z p e f h a b good =
      let n : Node = (look_node t (suc d) at).value in (
        h ∙ f,
        does_to b (does_as a
            (stand_is at ∙ ap (λ (y : ℕ). say (stand y)) (sym (position_here t (suc d) at)) ∙ sym (emits_out_object c n (shape_34 n (kind_is d at k 34 p e))))),
      )

  pub gone_leaf : {g g' : Going} (c : Place) (d at k x : ℕ) → (d ≡ 0 → ⊥) → Peeked t at k → (k ≡ 34 → ⊥) → (k ≡ 36 → ⊥) → (k ≡ 37 → ⊥)
      → Ruled t d at x g g' (emits c) → Emitted t d at x g g' (λ p. emits c (out_of p))
  gone_leaf c zero at k x z p e f h r good = absurd (z refl)
  gone_leaf c (suc d) at k x z p e f h r good =
      let n : Node = (look_node t (suc d) at).value in
      (r.0, does_as (r.1 good) (sym (emits_out_leaf c n (leaf_is d at k p e f h))))

  pub gone_default : {g g₁ g₂ g₃ g' : Going} (c c₁ : Place) (d l e at k q s y x : ℕ) → (d ≡ 0 → ⊥) → Peeked t at k → k ≡ 37 → l ≡ d - 1 → q ≡ onward t at 2 → s ≡ (look_node t l q).next → y ≡ s
      → c₁ ≡ inner c → e ≡ l → Does g g₁ (say (puts (37 ∷ 3 ∷ []))) → Does g₁ g₂ (say (does (temporary at 1) ∷ [])) → g₃ ≡ g₂
      → Ruled t e y x g₃ g' (emits c₁) → Emitted t d at x g g' (λ p. emits c (out_of p))
  gone_default c c₁ zero l e at k q s y x z p f a b h i j u v w o r good = absurd (z refl)
  gone_default c c₁ (suc d) l e at k q s y x z p f a b h i j u v w o r good =
      let op = default_open t d at good (sym p.value ∙ f) in
      let ll : l ≡ d = omega arith in
      let ee : e ≡ d = u ∙ ll in
      let yy : y ≡ (look_node t d (onward t at 2)).next = i ∙ h ∙ ap (λ (x : Seen Node). x.next) (node_as l d q (onward t at 2) ll b) in
      let left : Node = (look_node t d (onward t at 2)).value in
      let right : Node = (look_node t d (look_node t d (onward t at 2)).next).value in
      let same : look_node t e y ≡ look_node t d (look_node t d (onward t at 2)).next = node_as e d y _ ee yy in (
        r.0 ∙ ap (λ (x : Seen Node). x.next) (same) ∙ ap (λ (x : Seen Node). x.next) (sym op.whole),
        does_as (does_then (does_as (does_then v w) (ap (λ (x : Emit). say (puts (37 ∷ 3 ∷ [])) ▷ x) (stand_is at) ∙ say_say (puts (37 ∷ 3 ∷ [])) (stand at))) (does_from o (r.1 (stands_as e d y _ ee yy op.right))))
            (ap₂ (λ (x : Place) (n : Node). say (puts (37 ∷ 3 ∷ []) ++ stand at) ▷ emits x n) j (ap (λ (x : Seen Node). x.value) same)
            ∙ sym (emits_out_default c at left right)
            ∙ ap (λ (x : Seen Node). emits c (out_of x.value)) (sym op.whole)),
      )

  -- the items and the rest of an array pattern
  module _ (c : Place) (d at : ℕ) (good : Good t (suc d) at) (kind : byte_at t at ≡ 36) where
    abbrev items : Seen Items
    items = look_items t (look_node t d) true (wide_at t (onward t at 2)) (onward t (onward t at 2) 2)

    opened : ArrayOpen t d at
    opened = array_open t d at good kind

    array_head : (b : Bool) → eqb (byte_at t (onward t at 1) / 2 % 2) 1 ≡ b → part at (onward t (onward t at 2) 2) t ≡ 36 ∷ cond b 3 1 ∷ wide_bytes (count items.value)
    array_head b e = opened.head ∙ ap₂ (λ (x : Bool) (n : ℕ). 36 ∷ cond x 3 1 ∷ wide_bytes n) e (sym opened.list.many)

    array_out : eqb (byte_at t (onward t at 1) / 2 % 2) 1 ≡ false
        → say (puts (part at (onward t (onward t at 2) 2) t)) ▷ turns_of modes.MovedOut (inner c) items.value ≡ emits c (out_of (look_node t (suc d) at).value)
    array_out e =
        ap₂ (λ (x : List ℕ) (y : Emit). say (puts x) ▷ y) (array_head false e) (turns_moved_out (inner c) items.value)
        ∙ sym (emits_out_array c at items.value)
        ∙ ap (λ (x : Seen Node). emits c (out_of x.value)) (sym (opened.plain e))

    array_rest_out : eqb (byte_at t (onward t at 1) / 2 % 2) 1 ≡ true
        → say (puts (part at (onward t (onward t at 2) 2) t)) ▷ turns_of modes.MovedOut (inner c) items.value ▷ emits (inner c) (out_of (look_node t d items.next).value) ≡ emits c (out_of (look_node t (suc d) at).value)
    array_rest_out e =
        ap₂ (λ (x : List ℕ) (y : Emit). say (puts x) ▷ y ▷ emits (inner c) (out_of (look_node t d items.next).value)) (array_head true e) (turns_moved_out (inner c) items.value)
        ∙ sym (emits_out_array_rest c at items.value (look_node t d items.next).value)
        ∙ ap (λ (x : Seen Node). emits c (out_of x.value)) (sym (opened.resting e))

  -- what is said of the items by the code that goes through them
  abbrev pub Through : Mode → ℕ → Bool → ℕ → ℕ → ℕ → Going → Going → Place → Type 0
  Through mode d h n at q g g' c =
      GoodItems t (look_node t d) (Good t d) false h n at → AllSuit mode (look_items t (look_node t d) h n at).value
      → (q ≡ (look_items t (look_node t d) h n at).next) × Does g g' (turns_of mode c (look_items t (look_node t d) h n at).value)

  pub gone_array : {g g₁ g' : Going} (c c₁ : Place) (d l e at k q n s y x : ℕ) (b : Bool) → (d ≡ 0 → ⊥) → Peeked t at k → k ≡ 36 → l ≡ d - 1 → q ≡ onward t at 2 → Wide t q n → s ≡ onward t q 2 → y ≡ s
      → c₁ ≡ inner c → e ≡ l → b ≡ eqb (byte_at t (onward t at 1) / 2 % 2) 1 → b ≡ false → Does g g₁ (say (puts (part at s t)))
      → Through modes.MovedOut e true n y x g₁ g' c₁ → Emitted t d at x g g' (λ p. emits c (out_of p))
  gone_array c c₁ zero l e at k q n s y x b z p f a h w i j u v m o r sq good = absurd (z refl)
  gone_array c c₁ (suc d) l e at k q n s y x b z p f a h w i j u v m o r sq good =
      let kind : byte_at t at ≡ 36 = sym p.value ∙ f in
      let bit : eqb (byte_at t (onward t at 1) / 2 % 2) 1 ≡ false = sym m ∙ o in
      let ee : e ≡ d = omega arith in
      let nn : n ≡ wide_at t (onward t at 2) = w.value ∙ ap (λ (x : ℕ). wide_at t x) h in
      let ss : s ≡ onward t (onward t at 2) 2 = i ∙ ap (λ (x : ℕ). onward t x 2) h in
      let op = array_open t d at good kind in
      let same = look_as true e d n _ y _ ee nn (j ∙ ss) in
      let run = sq (good_as false true e d n _ y _ ee nn (j ∙ ss) op.list.good) (suit_moved_out (look_items t (look_node t e) true n y).value) in (
        run.0 ∙ ap (λ (x : Seen Items). x.next) same ∙ ap (λ (x : Seen Node). x.next) (sym (op.plain bit)),
        does_as (does_then r run.1)
            (ap (λ (x : ℕ). say (puts (part at x t)) ▷ turns_of modes.MovedOut c₁ (look_items t (look_node t e) true n y).value) ss
            ∙ ap₂ (λ (x : Place) (is : Seen Items). say (puts (part at (onward t (onward t at 2) 2) t)) ▷ turns_of modes.MovedOut x is.value) u same
            ∙ array_out c d at good kind bit),
      )

  pub gone_array_rest : {g g₁ g₂ g' : Going} (c c₁ c₂ : Place) (d l e f at k q n s y v x : ℕ) (b : Bool) → (d ≡ 0 → ⊥) → Peeked t at k → k ≡ 36 → l ≡ d - 1 → q ≡ onward t at 2 → Wide t q n → s ≡ onward t q 2 → y ≡ s
      → c₁ ≡ inner c → e ≡ l → c₂ ≡ inner c → f ≡ l → b ≡ eqb (byte_at t (onward t at 1) / 2 % 2) 1 → b ≡ true → Does g g₁ (say (puts (part at s t)))
      → Through modes.MovedOut e true n y v g₁ g₂ c₁ → Emitted t f v x g₂ g' (λ p. emits c₂ (out_of p)) → Emitted t d at x g g' (λ p. emits c (out_of p))
  gone_array_rest c c₁ c₂ zero l e f at k q n s y v x b z p h a i w j u m o m₂ o₂ bb bt r sq gn good = absurd (z refl)
  gone_array_rest c c₁ c₂ (suc d) l e f at k q n s y v x b z p h a i w j u m o m₂ o₂ bb bt r sq gn good =
      let kind : byte_at t at ≡ 36 = sym p.value ∙ h in
      let bit : eqb (byte_at t (onward t at 1) / 2 % 2) 1 ≡ true = sym bb ∙ bt in
      let ee : e ≡ d = omega arith in
      let ff : f ≡ d = omega arith in
      let nn : n ≡ wide_at t (onward t at 2) = w.value ∙ ap (λ (x : ℕ). wide_at t x) i in
      let ss : s ≡ onward t (onward t at 2) 2 = j ∙ ap (λ (x : ℕ). onward t x 2) i in
      let op = array_open t d at good kind in
      let same = look_as true e d n _ y _ ee nn (u ∙ ss) in
      let run = sq (good_as false true e d n _ y _ ee nn (u ∙ ss) op.list.good) (suit_moved_out (look_items t (look_node t e) true n y).value) in
      let vv = run.0 ∙ ap (λ (x : Seen Items). x.next) same in
      let last = node_as f d v _ ff vv in
      let rest = gn (stands_as f d v _ ff vv (op.rest bit)) in (
        rest.0 ∙ ap (λ (x : Seen Node). x.next) last ∙ ap (λ (x : Seen Node). x.next) (sym (op.resting bit)),
        does_as (does_then r (does_then run.1 rest.1))
            (ap (λ (x : ℕ). say (puts (part at x t)) ▷ turns_of modes.MovedOut c₁ (look_items t (look_node t e) true n y).value ▷ emits c₂ (out_of (look_node t f v).value)) ss
            ∙ ap₂ (λ (x : Place) (is : Seen Items). say (puts (part at (onward t (onward t at 2) 2) t)) ▷ turns_of modes.MovedOut x is.value ▷ emits c₂ (out_of (look_node t f v).value)) m same
            ∙ ap₂ (λ (x : Place) (n : Seen Node). say (puts (part at (onward t (onward t at 2) 2) t)) ▷ turns_of modes.MovedOut (inner c) (look_items t (look_node t d) true (wide_at t (onward t at 2)) (onward t (onward t at 2) 2)).value ▷ emits x (out_of n.value)) m₂ last
            ∙ array_rest_out c d at good kind bit),
      )

  -- ---- a field that may be absent: a node by its bit

  pub slot_on : (R : ℕ → Seen Node) (G : ℕ → Type 0) (l : Bool) (c : Place) (bit at : ℕ) → eqb bit 1 ≡ true
      → ((look_slot t R (sort_of 32) bit at).next ≡ (R at).next) × (G at → GoodSlot t R G l (sort_of 32) bit at) × (slot_deeds t R l c (sort_of 32) bit at ≡ emits c (R at).value)
  unfolding look_slot look_field GoodSlot GoodField slot_deeds emits_piece
  slot_on R G l c bit at e = rw (eqb-true bit 1 e) (refl, (λ g. g), refl)

  pub slot_off : (R : ℕ → Seen Node) (G : ℕ → Type 0) (l : Bool) (c : Place) (bit at : ℕ) → bit < 2 → eqb bit 1 ≡ false
      → ((look_slot t R (sort_of 32) bit at).next ≡ at) × GoodSlot t R G l (sort_of 32) bit at × (slot_deeds t R l c (sort_of 32) bit at ≡ say [])
  unfolding look_slot GoodSlot slot_deeds
  slot_off R G l c bit at h e =
      let z : bit ≡ 0 = omega (arith, eqb-false bit 1 e) in
      rw z (refl, tt, refl)

  -- ---- parameters and declarators

  -- by kind
  by_binder : {A : Type 0} (d at : ℕ) → Good t (suc d) at → eqb (byte_at t at) 15 || eqb (byte_at t at) 5 ≡ true → ((k : ℕ) → Binder k → BinderOpen t d at k → A) → A
  by_binder d at good h f =
      by_test (eqb (byte_at t at) 15)
      (λ e. f 15 Binder.param (param_open t d at good (eqb-true (byte_at t at) 15 e)))
      (λ e. f 5 Binder.declarator (declarator_open t d at good (eqb-true (byte_at t at) 5 (or_other (eqb (byte_at t at) 15) (eqb (byte_at t at) 5) e h))))

  module _ (d at k : ℕ) (op : BinderOpen t d at k) where
    abbrev pattern : Node
    pattern = (look_node t d (onward t at 2)).value

    abbrev bit2 : Bool
    bit2 = eqb (byte_at t (onward t at 1) / 2 % 2) 1

    moved_is : is_moved (look_node t (suc d) at).value ≡ has_object_rest pattern
    unfolding is_moved node_at_of piece_in
    moved_is =
        by_test bit2
        (λ e. ap (λ (x : Seen Node). is_moved x.value) (op.valued e))
        (λ e. ap (λ (x : Seen Node). is_moved x.value) (op.bare e))

    binder_fronts : (c : Place) → has_object_rest pattern ≡ true → fronts c (moved_from (look_node t (suc d) at).value) ≡ fronts c (moved_in_of pattern)
    binder_fronts c h =
        by_test bit2
        (λ e. ap (λ (x : Seen Node). fronts c (moved_from x.value)) (op.valued e) ∙ fronts_moved c at k pattern _ h)
        (λ e. ap (λ (x : Seen Node). fronts c (moved_from x.value)) (op.bare e) ∙ fronts_moved c at k pattern _ h)

    -- its bytes, the pattern with its parts moved out, the value if there is one
    binder_behind : (c : Place) (bit : ℕ) → Binder k → bit ≡ byte_at t (onward t at 1) / 2 % 2 → has_object_rest pattern ≡ true
        → say (puts (part at (onward t at 2) t)) ▷ emits (inner c) (out_of pattern) ▷ slot_deeds t (look_node t d) false (inner c) (sort_of 32) bit (look_node t d (onward t at 2)).next
        ≡ emits c (behind (look_node t (suc d) at).value)
    binder_behind c bit b u h =
        let v : ℕ = (look_node t d (onward t at 2)).next in
        let out : Emit = emits (inner c) (out_of pattern) in
        by_test bit2
        (λ e.
        let s = slot_on (look_node t d) (Good t d) false (inner c) bit v (ap (λ (x : ℕ). eqb x 1) u ∙ e) in
        ap₂ (λ (bs : List ℕ) (x : Emit). say (puts bs) ▷ out ▷ x) (op.head ∙ ap (λ (x : Bool). k ∷ cond x 3 1 ∷ []) e) s.2
        ∙ sym (emits_behind_value c at b pattern (look_node t d v).value h)
        ∙ ap (λ (x : Seen Node). emits c (behind x.value)) (sym (op.valued e)))
        (λ e.
        let s = slot_off (look_node t d) (Good t d) false (inner c) bit v (omega arith) (ap (λ (x : ℕ). eqb x 1) u ∙ e) in
        ap₂ (λ (bs : List ℕ) (x : Emit). say (puts bs) ▷ out ▷ x) (op.head ∙ ap (λ (x : Bool). k ∷ cond x 3 1 ∷ []) e) s.2
        ∙ ap (λ (x : Emit). say (puts (k ∷ 1 ∷ [])) ▷ x) (then_nothing out)
        ∙ sym (emits_behind c at b pattern h)
        ∙ ap (λ (x : Seen Node). emits c (behind x.value)) (sym (op.bare e)))

    binder_slot : (bit : ℕ) → bit ≡ byte_at t (onward t at 1) / 2 % 2 → GoodSlot t (look_node t d) (Good t d) false (sort_of 32) bit (look_node t d (onward t at 2)).next
    binder_slot bit u =
        let v : ℕ = (look_node t d (onward t at 2)).next in
        by_test bit2
        (λ e. (slot_on (look_node t d) (Good t d) false (record { root = false; statement = false; mark = 0 }) bit v (ap (λ (x : ℕ). eqb x 1) u ∙ e)).1 (op.value e))
        (λ e. (slot_off (look_node t d) (Good t d) false (record { root = false; statement = false; mark = 0 }) bit v (omega arith) (ap (λ (x : ℕ). eqb x 1) u ∙ e)).1)

    binder_end : (bit : ℕ) → bit ≡ byte_at t (onward t at 1) / 2 % 2 → (look_slot t (look_node t d) (sort_of 32) bit (look_node t d (onward t at 2)).next).next ≡ (look_node t (suc d) at).next
    binder_end bit u =
        let v : ℕ = (look_node t d (onward t at 2)).next in
        by_test bit2
        (λ e. (slot_on (look_node t d) (Good t d) false (record { root = false; statement = false; mark = 0 }) bit v (ap (λ (x : ℕ). eqb x 1) u ∙ e)).0 ∙ ap (λ (x : Seen Node). x.next) (sym (op.valued e)))
        (λ e. (slot_off (look_node t d) (Good t d) false (record { root = false; statement = false; mark = 0 }) bit v (omega arith) (ap (λ (x : ℕ). eqb x 1) u ∙ e)).0 ∙ ap (λ (x : Seen Node). x.next) (sym (op.bare e)))

  -- what is said of a field by the code that writes it
  abbrev pub Slotted : ℕ → ℕ → ℕ → ℕ → ℕ → Going → Going → Bool → Place → Type 0
  Slotted code bit d at q g g' l c =
      (q ≡ (look_slot t (look_node t d) (sort_of code) bit at).next)
      × (GoodSlot t (look_node t d) (Good t d) l (sort_of code) bit at → Does g g' (slot_deeds t (look_node t d) l c (sort_of code) bit at))

  pub bind_kept : {g g' : Going} (c : Place) (d l at q x : ℕ) (b : Bool) → l ≡ d - 1 → q ≡ onward t at 2 → b ≡ has_object_rest (look_node t l q).value → b ≡ false
      → Ruled t d at x g g' (emits c) → eqb (byte_at t at) 15 || eqb (byte_at t at) 5 ≡ true → Emitted t d at x g g' (λ n. emits c (behind n))
  bind_kept c zero l at q x b a h i j r kind good = no_good t at good
  bind_kept c (suc d) l at q x b a h i j r kind good =
      by_binder d at good kind λ k w op.
      let ll : l ≡ d = omega arith in
      let kept : is_moved (look_node t (suc d) at).value ≡ false = moved_is d at k op ∙ ap (λ (x : Seen Node). has_object_rest x.value) (sym (node_as l d q (onward t at 2) ll h)) ∙ sym i ∙ j in
      (r.0, does_as (r.1 good) (sym (emits_behind_kept c (look_node t (suc d) at).value kept)))

  pub bind_moved : {g g₁ g₂ g' : Going} (c c₁ c₂ : Place) (d l e f at q y z bit x : ℕ) (b : Bool) → l ≡ d - 1 → q ≡ onward t at 2 → b ≡ has_object_rest (look_node t l q).value → b ≡ true
      → y ≡ q → Does g g₁ (say (puts (part at q t))) → c₁ ≡ inner c → e ≡ l → Emitted t e y z g₁ g₂ (λ p. emits c₁ (out_of p))
      → c₂ ≡ inner c → f ≡ l → bit ≡ byte_at t (onward t at 1) / 2 % 2 → Slotted 32 bit f z x g₂ g' false c₂
      → eqb (byte_at t at) 15 || eqb (byte_at t at) 5 ≡ true → Emitted t d at x g g' (λ n. emits c (behind n))
  bind_moved c c₁ c₂ zero l e f at q y z bit x b a h i j u m v w gn v₂ w₂ o sl kind good = no_good t at good
  bind_moved c c₁ c₂ (suc d) l e f at q y z bit x b a h i j u m v w gn v₂ w₂ o sl kind good =
      by_binder d at good kind λ k bd op.
      let ll : l ≡ d = omega arith in
      let ee : e ≡ d = omega arith in
      let ff : f ≡ d = omega arith in
      let yy : y ≡ onward t at 2 = u ∙ h in
      let same = node_as e d y (onward t at 2) ee yy in
      let pat : has_object_rest (look_node t d (onward t at 2)).value ≡ true = ap (λ (x : Seen Node). has_object_rest x.value) (sym (node_as l d q (onward t at 2) ll h)) ∙ sym i ∙ j in
      let out = gn (stands_as e d y (onward t at 2) ee yy op.pattern) in
      let zz : z ≡ (look_node t d (onward t at 2)).next = out.0 ∙ ap (λ (x : Seen Node). x.next) same in (
        sl.0 ∙ ap (λ (x : ℕ). (look_slot t (look_node t x) (sort_of 32) bit z).next) ff ∙ ap (λ (x : ℕ). (look_slot t (look_node t d) (sort_of 32) bit x).next) zz ∙ binder_end d at k op bit o,
        does_as (does_then m (does_then out.1 (sl.1 (rw (ff, zz) (binder_slot d at k op bit o)))))
            (ap (λ (x : ℕ). say (puts (part at x t)) ▷ emits c₁ (out_of (look_node t e y).value) ▷ slot_deeds t (look_node t f) false c₂ (sort_of 32) bit z) h
            ∙ ap₂ (λ (p : Place) (x : Seen Node). say (puts (part at (onward t at 2) t)) ▷ emits p (out_of x.value) ▷ slot_deeds t (look_node t f) false c₂ (sort_of 32) bit z) v same
            ∙ ap (λ (x : Emit). say (puts (part at (onward t at 2) t)) ▷ emits (inner c) (out_of (look_node t d (onward t at 2)).value) ▷ x) (rw (ff, zz, v₂) refl)
            ∙ binder_behind d at k op c bit bd o pat),
      )

  -- ---- new statements for the patterns that are moved out of a list, later ones first

  -- what is said of a list by the code that goes through it
  abbrev pub Backed : Bool → ℕ → ℕ → ℕ → Going → Going → Place → Type 0
  Backed arrays d n at g g' c =
      c ≡ scoped c → GoodItems t (look_node t d) (Good t d) false arrays n at → AllBind arrays (look_items t (look_node t d) arrays n at).value
      → Does g g' (fronts c (gather (moves_of arrays) (look_items t (look_node t d) arrays n at).value))

  -- and of the pattern at a position
  abbrev pub Moved : ℕ → ℕ → Going → Going → Place → Type 0
  Moved d at g g' c = c ≡ scoped c → Good t d at → Does g g' (fronts c (moved_in_of (look_node t d at).value))

  look_none : (h : Bool) (d n at : ℕ) → n ≡ 0 → (look_items t (look_node t d) h n at).value ≡ none
  unfolding look_items
  look_none h d n at e = rw e refl

  pub back_none : {g : Going} (c : Place) (arrays : Bool) (d n at : ℕ) → n ≡ 0 → Backed arrays d n at g g c
  back_none {g = g} c arrays d n at e s good binds =
      does_as (does_nothing g) (sym (ap (λ (is : Items). fronts c (gather (moves_of arrays) is)) (look_none arrays d n at e) ∙ fronts_empty c (moves_of arrays)))

  pub back_hole : {g : Going} (c : Place) (arrays : Bool) (d n at k : ℕ) → n ≡ 1 → arrays ≡ true → Peeked t at k → k ≡ 0 → Backed arrays d n at g g c
  back_hole {g = g} c arrays d n at k e a p z s good binds =
      does_as (does_nothing g)
      (sym (ap (λ (is : Items). fronts c (gather (moves_of arrays) is)) (one_hole (look_node t d) arrays n at e (is_hole t arrays at k a p z))
      ∙ fronts_hole c (moves_of arrays) none ∙ fronts_empty c (moves_of arrays)))

  good_one : (h l : Bool) (d n at : ℕ) → n ≡ 1 → hole_at t h at ≡ false → GoodItems t (look_node t d) (Good t d) l h n at → Good t d at
  good_one h l d n at e z good = (good_item t (look_node t d) (Good t d) l h n at (omega arith) good).node z

  pub back_item : {g g' : Going} (c : Place) (arrays : Bool) (d n at k : ℕ) → n ≡ 1 → arrays ≡ true → Peeked t at k → (k ≡ 0 → ⊥) → Moved d at g g' c → Backed arrays d n at g g' c
  back_item c arrays d n at k e a p z m s good binds =
      let h : hole_at t arrays at ≡ false = no_hole t arrays at k a p z in
      does_as (m s (good_one arrays false d n at e h good))
      (sym (ap (λ (is : Items). fronts c (gather (moves_of arrays) is)) (one_item (look_node t d) arrays n at e h)
      ∙ fronts_one c (moves_of arrays) (look_node t d at).value
      ∙ ap (λ (x : Bool). fronts c (moves_of x (look_node t d at).value)) a))

  -- a list of one parameter or declarator
  binds_one : (d n at : ℕ) (arrays : Bool) → n ≡ 1 → arrays ≡ false → AllBind arrays (look_items t (look_node t (suc d)) arrays n at).value → eqb (byte_at t at) 15 || eqb (byte_at t at) 5 ≡ true
  unfolding suits
  binds_one d n at arrays e a binds =
      let x : AllSuit modes.Binding (only (look_node t (suc d) at).value) = subst (λ (is : Items). AllSuit modes.Binding is) (one_item (look_node t (suc d)) arrays n at e (full t arrays at a)) (binds a) in
      ap₂ (λ (x y : Bool). x || y) (sym (is_here t d at 15)) (sym (is_here t d at 5)) ∙ x.0

  one_fronts : (c : Place) (d n at : ℕ) (arrays : Bool) → n ≡ 1 → arrays ≡ false
      → fronts c (gather (moves_of arrays) (look_items t (look_node t d) arrays n at).value) ≡ fronts c (moved_from (look_node t d at).value)
  one_fronts c d n at arrays e a =
      ap (λ (is : Items). fronts c (gather (moves_of arrays) is)) (one_item (look_node t d) arrays n at e (full t arrays at a))
      ∙ fronts_one c (moves_of arrays) (look_node t d at).value
      ∙ ap (λ (x : Bool). fronts c (moves_of x (look_node t d at).value)) a

  pub back_kept : {g : Going} (c : Place) (arrays : Bool) (d l n at q : ℕ) (b : Bool) → n ≡ 1 → arrays ≡ false → l ≡ d - 1 → q ≡ onward t at 2 → b ≡ has_object_rest (look_node t l q).value → b ≡ false
      → Backed arrays d n at g g c
  back_kept c arrays zero l n at q b e a i h u w s good binds = no_good t at (good_one arrays false zero n at e (full t arrays at a) good)
  back_kept {g = g} c arrays (suc d) l n at q b e a i h u w s good binds =
      by_binder d at (good_one arrays false (suc d) n at e (full t arrays at a) good) (binds_one d n at arrays e a binds) λ k bd op.
      let ll : l ≡ d = omega arith in
      let kept : is_moved (look_node t (suc d) at).value ≡ false = moved_is d at k op ∙ ap (λ (x : Seen Node). has_object_rest x.value) (sym (node_as l d q (onward t at 2) ll h)) ∙ sym u ∙ w in
      does_as (does_nothing g) (sym (one_fronts c (suc d) n at arrays e a ∙ fronts_kept c (look_node t (suc d) at).value kept))

  pub back_moved : {g g' : Going} (c c₁ : Place) (arrays : Bool) (d l e n at q : ℕ) (b : Bool) → n ≡ 1 → arrays ≡ false → l ≡ d - 1 → q ≡ onward t at 2 → b ≡ has_object_rest (look_node t l q).value → b ≡ true
      → c₁ ≡ c → e ≡ l → Moved e q g g' c₁ → Backed arrays d n at g g' c
  back_moved c c₁ arrays zero l e n at q b o a i h u w v j m s good binds = no_good t at (good_one arrays false zero n at o (full t arrays at a) good)
  back_moved c c₁ arrays (suc d) l e n at q b o a i h u w v j m s good binds =
      by_binder d at (good_one arrays false (suc d) n at o (full t arrays at a) good) (binds_one d n at arrays o a binds) λ k bd op.
      let ll : l ≡ d = omega arith in
      let ee : e ≡ d = omega arith in
      let same = node_as e d q (onward t at 2) ee h in
      let pat : has_object_rest (look_node t d (onward t at 2)).value ≡ true = ap (λ (x : Seen Node). has_object_rest x.value) (sym (node_as l d q (onward t at 2) ll h)) ∙ sym u ∙ w in
      does_as (m (place_as c c₁ v s) (stands_as e d q (onward t at 2) ee h op.pattern))
      (ap₂ (λ (p : Place) (x : Seen Node). fronts p (moved_in_of x.value)) v same
      ∙ sym (one_fronts c (suc d) n at arrays o a ∙ binder_fronts d at k op c pat))

  pub back_halves : {g g₁ g' : Going} (c : Place) (arrays : Bool) (d n mid at : ℕ) → mid ≡ (look_items t (look_node t d) arrays (n / 2) at).next
      → Backed arrays d (n - n / 2) mid g g₁ c → Backed arrays d (n / 2) at g₁ g' c → Backed arrays d n at g g' c
  back_halves c arrays d n mid at e a b s good binds =
      let half : ℕ = n / 2 in
      let w : n ≡ half + (n - half) = omega arith in
      let ps : Items = (look_items t (look_node t d) arrays half at).value in
      let end : ℕ = (look_items t (look_node t d) arrays half at).next in
      let qs : Items = (look_items t (look_node t d) arrays (n - half) end).value in
      let cut : (look_items t (look_node t d) arrays n at).value ≡ ps +++ qs = halves t (look_node t d) arrays half (n - half) n at w in
      let two = good_halves (look_node t d) (Good t d) false arrays half (n - half) n at w good in
      let some : arrays ≡ false → AllSuit modes.Binding (ps +++ qs) = λ x. subst (λ (is : Items). AllSuit modes.Binding is) cut (binds x) in
      let later : AllBind arrays (look_items t (look_node t d) arrays (n - half) mid).value = λ x. subst (λ (y : ℕ). AllSuit modes.Binding (look_items t (look_node t d) arrays (n - half) y).value) (sym e) (all_right (λ n. suits modes.Binding n ≡ true) ps qs (some x)) in
      does_as
      (does_then (a s (subst (λ (y : ℕ). GoodItems t (look_node t d) (Good t d) false arrays (n - half) y) (sym e) two.1) later) (b s two.0 (λ x. all_left (λ n. suits modes.Binding n ≡ true) ps qs (some x))))
      (ap (λ (y : ℕ). fronts c (gather (moves_of arrays) (look_items t (look_node t d) arrays (n - half) y).value) ▷ fronts c (gather (moves_of arrays) ps)) e
      ∙ sym (fronts_cut c (moves_of arrays) ps qs)
      ∙ ap (λ (is : Items). fronts c (gather (moves_of arrays) is)) (sym cut))

  -- ---- the same for one pattern

  -- what is said of a new statement
  abbrev pub Added : ℕ → ℕ → ℕ → Going → Going → Place → Type 0
  Added d at o g g' c = c ≡ scoped c → Good t d at → o < 16384 → Does g g' (emits_statement c (let_of (look_node t d at).value (made.temporary [] 1 o)))

  pub moved_none : {g g' : Going} (c : Place) (d at : ℕ) → d ≡ 0 → Moved d at g g' c
  moved_none c zero at e s good = no_good t at good
  moved_none c (suc d) at e s good = absurd (omega arith)

  pub moved_object : {g g' : Going} (c : Place) (d at k : ℕ) → (d ≡ 0 → ⊥) → Peeked t at k → k ≡ 34 → Added d at at g g' c → Moved d at g g' c
  moved_object c zero at k z p e a s good = absurd (z refl)
  moved_object c (suc d) at k z p e a s good =
      let n : Node = (look_node t (suc d) at).value in
      let w : at < 16384 = omega (arith, good_within t (suc d) at good) in
      does_as (a s good w)
      (ap (λ (x : ℕ). emits_statement c (let_of n (made.temporary [] 1 x))) (sym (position_here t (suc d) at))
      ∙ sym (fronts_object c n (shape_34 n (kind_is d at k 34 p e))))

  pub moved_default : {g g' : Going} (c c₁ : Place) (d l e at k q : ℕ) → (d ≡ 0 → ⊥) → Peeked t at k → k ≡ 37 → l ≡ d - 1 → q ≡ onward t at 2 → c₁ ≡ c → e ≡ l → Added e q at g g' c₁ → Moved d at g g' c
  unfolding node_at_of piece_in
  moved_default c c₁ zero l e at k q z p f a h v j ad s good = absurd (z refl)
  moved_default c c₁ (suc d) l e at k q z p f a h v j ad s good =
      let n : Node = (look_node t (suc d) at).value in
      let op = default_open t d at good (sym p.value ∙ f) in
      let ee : e ≡ d = omega arith in
      let w : at < 16384 = omega (arith, good_within t (suc d) at good) in
      let left : (look_node t e q).value ≡ left_of n = ap (λ (x : Seen Node). x.value) (node_as e d q (onward t at 2) ee h) ∙ ap (λ (x : Seen Node). left_of x.value) (sym op.whole) in
      does_as (ad (place_as c c₁ v s) (stands_as e d q (onward t at 2) ee h op.left) w)
      (ap₂ (λ (x : Place) (m : Node). emits_statement x (let_of m (made.temporary [] 1 at))) v left
      ∙ ap (λ (x : ℕ). emits_statement c (let_of (left_of n) (made.temporary [] 1 x))) (sym (position_here t (suc d) at))
      ∙ sym (fronts_default c n (shape_37 n (kind_is d at k 37 p f))))

  pub moved_leaf : {g : Going} (c : Place) (d at k : ℕ) → (d ≡ 0 → ⊥) → Peeked t at k → (k ≡ 34 → ⊥) → (k ≡ 36 → ⊥) → (k ≡ 37 → ⊥) → Moved d at g g c
  moved_leaf c zero at k z p a b e s good = absurd (z refl)
  moved_leaf {g = g} c (suc d) at k z p a b e s good =
      does_as (does_nothing g) (sym (fronts_leaf c (look_node t (suc d) at).value (leaf_is d at k p a b e)))

  pub moved_array : {g g' : Going} (c c₁ : Place) (d l e at k q n s : ℕ) (b : Bool) → (d ≡ 0 → ⊥) → Peeked t at k → k ≡ 36 → l ≡ d - 1 → q ≡ onward t at 2 → Wide t q n → s ≡ onward t q 2
      → b ≡ eqb (byte_at t (onward t at 1) / 2 % 2) 1 → b ≡ false → c₁ ≡ c → e ≡ l → Backed true e n s g g' c₁ → Moved d at g g' c
  moved_array c c₁ zero l e at k q n s b z p f a h w i bb bt v j bk sc good = absurd (z refl)
  moved_array c c₁ (suc d) l e at k q n s b z p f a h w i bb bt v j bk sc good =
      let op = array_open t d at good (sym p.value ∙ f) in
      let bit : eqb (byte_at t (onward t at 1) / 2 % 2) 1 ≡ false = sym bb ∙ bt in
      let ee : e ≡ d = omega arith in
      let nn : n ≡ wide_at t (onward t at 2) = w.value ∙ ap (λ (x : ℕ). wide_at t x) h in
      let ss : s ≡ onward t (onward t at 2) 2 = i ∙ ap (λ (x : ℕ). onward t x 2) h in
      let same = look_as true e d n _ s _ ee nn ss in
      let none-binds : AllBind true (look_items t (look_node t e) true n s).value = λ x. let y : ◌≡◌ {A = ℕ} 0 1 = cc in absurd (omega arith) in
      does_as (bk (place_as c c₁ v sc) (good_as false true e d n _ s _ ee nn ss op.list.good) none-binds)
      (ap₂ (λ (x : Place) (is : Seen Items). fronts x (gather moved_in_of is.value)) v same
      ∙ sym (fronts_array c at (look_items t (look_node t d) true (wide_at t (onward t at 2)) (onward t (onward t at 2) 2)).value)
      ∙ ap (λ (x : Seen Node). fronts c (moved_in_of x.value)) (sym (op.plain bit)))

  pub moved_array_rest : {g g₁ g' : Going} (c c₁ c₂ : Place) (d l e f at k q n s r : ℕ) (b : Bool) → (d ≡ 0 → ⊥) → Peeked t at k → k ≡ 36 → l ≡ d - 1 → q ≡ onward t at 2 → Wide t q n → s ≡ onward t q 2
      → b ≡ eqb (byte_at t (onward t at 1) / 2 % 2) 1 → b ≡ true → r ≡ (look_items t (look_node t l) true n s).next
      → c₁ ≡ c → e ≡ l → Moved e r g g₁ c₁ → c₂ ≡ c → f ≡ l → Backed true f n s g₁ g' c₂ → Moved d at g g' c
  moved_array_rest c c₁ c₂ zero l e f at k q n s r b z p u a h w i bb bt o v j m v₂ j₂ bk sc good = absurd (z refl)
  moved_array_rest c c₁ c₂ (suc d) l e f at k q n s r b z p u a h w i bb bt o v j m v₂ j₂ bk sc good =
      let op = array_open t d at good (sym p.value ∙ u) in
      let bit : eqb (byte_at t (onward t at 1) / 2 % 2) 1 ≡ true = sym bb ∙ bt in
      let ll : l ≡ d = omega arith in
      let ee : e ≡ d = omega arith in
      let ff : f ≡ d = omega arith in
      let nn : n ≡ wide_at t (onward t at 2) = w.value ∙ ap (λ (x : ℕ). wide_at t x) h in
      let ss : s ≡ onward t (onward t at 2) 2 = i ∙ ap (λ (x : ℕ). onward t x 2) h in
      let same = look_as true f d n _ s _ ff nn ss in
      let rr = o ∙ ap (λ (is : Seen Items). is.next) (look_as true l d n _ s _ ll nn ss) in
      let last = node_as e d r _ ee rr in
      let none-binds : AllBind true (look_items t (look_node t f) true n s).value = λ x. let y : ◌≡◌ {A = ℕ} 0 1 = cc in absurd (omega arith) in
      does_as (does_then (m (place_as c c₁ v sc) (stands_as e d r _ ee rr (op.rest bit))) (bk (place_as c c₂ v₂ sc) (good_as false true f d n _ s _ ff nn ss op.list.good) none-binds))
      (ap₂ (λ (x : Place) (y : Seen Node). fronts x (moved_in_of y.value) ▷ fronts c₂ (gather moved_in_of (look_items t (look_node t f) true n s).value)) v last
      ∙ ap₂ (λ (x : Place) (is : Seen Items). fronts c (moved_in_of (look_node t d (look_items t (look_node t d) true (wide_at t (onward t at 2)) (onward t (onward t at 2) 2)).next).value) ▷ fronts x (gather moved_in_of is.value)) v₂ same
      ∙ sym (fronts_array_rest c at (look_items t (look_node t d) true (wide_at t (onward t at 2)) (onward t (onward t at 2) 2)).value (look_node t d (look_items t (look_node t d) true (wide_at t (onward t at 2)) (onward t (onward t at 2) 2)).next).value)
      ∙ ap (λ (x : Seen Node). fronts c (moved_in_of x.value)) (sym (op.resting bit)))

-- ---- a new statement: `let pattern = temporary`

-- one declarator with an object rest below its pattern, read from a temporary
module _ (id : Node) (o : ℕ) (below : has_object_rest id ≡ true) where
  abbrev read : Node
  read = made.temporary [] 1 o

  let_lowered : is_lowered (declares id read) ≡ true
  unfolding is_lowered stands stands_in node_at_of piece_in
  let_lowered = below

  let_named : is_name_of read ≡ true
  unfolding is_name_of is
  let_named = refl

  let_refusal : (κ : Context) → declaration_refusal κ (let_of id read) ≡ first (λ p. keys_refusal p) (objects_below κ id)
  unfolding declaration_refusal lowered_in items_at_of node_at_of piece_in first or_else
  let_refusal κ = rw let_lowered (or_none_lem (first (λ p. keys_refusal p) (objects_below κ id)))
    where
      or_none_lem : (n : ℕ) → or_else n 0 ≡ n
      or_none_lem zero = refl
      or_none_lem (suc n) = refl

  let_made : declarator_made (declares id read) ≡ over_objects place_made taking id ▷ over_objects keys_made replacing id
  unfolding declarator_made node_at_of piece_in
  let_made = rw (let_lowered, let_named) (say_nothing (over_objects place_made taking id ▷ over_objects keys_made replacing id))

  let_excludes : (root : Bool) → declarator_excludes root (declares id read) ≡ over_objects (excludes_of root) replacing id
  unfolding declarator_excludes node_at_of piece_in
  let_excludes root = rw let_lowered refl

  let_count : (c : Place) (κ : Context) (s : Node) → declarator_count c (only (declares id read)) ≡ count (pattern_declarators κ id s)
  unfolding sum_of declarators_of node_at_of piece_in
  let_count c κ s = declarator_count_lem c (only (declares id read)) ∙ rw (let_lowered, let_named) (omega (arith, pattern_counted κ id s))

  let_declares : (c : Place) → emits_declarator c (declares id read) ≡ emits_pattern c id (say (does (temporary o 1) ∷ []))
  unfolding emits_declarator emits_lowered node_at_of piece_in
  let_declares c = rw (let_lowered, let_named) (ap (emits_pattern c id) (emits_temporary (inner c) [] 1 o ∙ sym (stand_is o)))

  -- what it does: it hands out its temporaries and excluded keys, then come its declarators
  let_done : (c : Place) (κ : Context) (s : Node) → first (λ p. keys_refusal p) (objects_below (context_of c) id) ≡ 0
      → (over_objects place_made taking id ▷ over_objects keys_made replacing id ▷ over_objects (excludes_of c.root) replacing id)
      ▷ say (declaration_head 2 (count (pattern_declarators κ id s))) ▷ emits_pattern c id (say (does (temporary o 1) ∷ []))
      ≡ emits c (let_of id read)
  unfolding marks
  let_done c κ s lacks =
      let ds : Items = only (declares id read) in
      let a : Emit = over_objects place_made taking id in
      let b : Emit = over_objects keys_made replacing id in
      let x : Emit = over_objects (excludes_of c.root) replacing id in
      let e : Emit = emits_pattern c id (say (does (temporary o 1) ∷ [])) in
      let h : Emit = say (declaration_head 2 (count (pattern_declarators κ id s))) in
      sym
      (declaration_done c 0 0 2 ds (let_refusal (context_of c) ∙ lacks)
      ∙ ap₂ (λ (y z : Emit). y ▷ z ▷ say (declaration_head 2 (declarator_count c ds)) ▷ in_turn (emits_declarator c) ds)
      (turn_only declarator_made (declares id read) ∙ let_made) (turn_only (declarator_excludes c.root) (declares id read) ∙ let_excludes c.root)
      ∙ ap₂ (λ (n : ℕ) (y : Emit). (a ▷ b) ▷ x ▷ say (declaration_head 2 n) ▷ y) (let_count c κ s) (turn_only (emits_declarator c) (declares id read) ∙ let_declares c)
      ∙ then_assoc a b (x ▷ h ▷ e)
      ∙ ap (λ (y : Emit). a ▷ y) (sym (then_assoc b x (h ▷ e)))
      ∙ sym (then_assoc a (b ▷ x) (h ▷ e)))

-- what a refusing node does, its number not being 0
pub as_refused : (b : ℕ) → 0 < b → say (refused b ++ puts (0 ∷ 0 ∷ [])) ≡ say (refuses b ∷ puts (0 ∷ 0 ∷ []))
unfolding refused
as_refused zero h = absurd (omega arith)
as_refused (suc b) h = refl

module _ (t : List ℕ) where
  -- the statement's place
  statement_place : (c c₁ c₂ : Place) (m : ℕ) → c₁ ≡ inner c → c₂ ≡ marking c₁ m → c ≡ scoped c → c₂ ≡ marking c m
  statement_place c c₁ c₂ m a b s = b ∙ ap (λ (x : Place). marking x m) (a ∙ inner_place c s)

  pub add_refused : {g g' : Going} (c : Place) (d at o : ℕ) (b : Bool) (f : ℕ) → b ≡ has_object_rest (look_node t d at).value → b ≡ true
      → ((κ : Context) → f ≡ first keys_refusal (objects_below κ (look_node t d at).value)) → 0 < f → Does g g' (say (refuses f ∷ puts (0 ∷ 0 ∷ []))) → Added t d at o g g' c
  unfolding is
  add_refused {g = g} {g' = g'} c d at o b f e h l w r s good small =
      let id : Node = (look_node t d at).value in
      let m : ℕ = g.state.sink.mark in
      let lacks : declaration_refusal (context_of (marking c m)) (let_of id (made.temporary [] 1 o)) ≡ f = let_refusal id o (sym e ∙ h) (context_of (marking c m)) ∙ sym (l (context_of (marking c m))) in
      does_as (does_fresh (λ m. emits (marking c m) (let_of id (made.temporary [] 1 o))) m refl (λ k. agree_marked c (let_of id (made.temporary [] 1 o)) m k) (does_as r (sym (declaration_refused (marking c m) (let_of id (made.temporary [] 1 o)) f refl w lacks ∙ as_refused f w))))
      (sym (marked_let c id (made.temporary [] 1 o)))

  pub add_kept : {g g₁ g₂ g₃ g₄ g' : Going} (c c₁ c₂ : Place) (d e at o m y x : ℕ) (b : Bool) → b ≡ has_object_rest (look_node t d at).value → b ≡ false
      → c₁ ≡ inner c → m ≡ g.state.sink.mark → c₂ ≡ marking c₁ m → e ≡ d → (1 < 65536 → Does g g₁ (say (declaration_head 2 1))) → Does g₁ g₂ (say (puts (5 ∷ 3 ∷ []))) → g₃ ≡ g₂ → y ≡ at
      → Ruled t e y x g₃ g₄ (emits c₂) → Does g₄ g' (say (does (temporary o 1) ∷ [])) → Added t d at o g g' c
  add_kept {g = g} {g' = g'} c c₁ c₂ d e at o m y x b bb bt v k v₂ ee hd tw tt yy r tm s good small =
      let id : Node = (look_node t d at).value in
      let same = node_as t e d y at ee yy in
      let body : Does g g' (say (new_declaration 2 ++ puts (5 ∷ 3 ∷ [])) ▷ emits (marking (inner c) m) id ▷ say (stand o)) =
      does_as (does_then (does_as (does_then (hd (omega arith)) tw) (say_say (declaration_head 2 1) (puts (5 ∷ 3 ∷ [])))) (does_from tt (does_then (r.1 (stands_as t e d y at ee yy good)) (does_as tm (stand_is o)))))
      (ap₂ (λ (p : Place) (n : Seen Node). say (new_declaration 2 ++ puts (5 ∷ 3 ∷ [])) ▷ emits p n.value ▷ say (stand o)) (v₂ ∙ ap (λ (p : Place). marking p m) v) same) in
      does_as (does_fresh (λ m. say (new_declaration 2 ++ puts (5 ∷ 3 ∷ [])) ▷ emits (marking (inner c) m) id ▷ say (stand o)) m k
      (λ j. agree_then (agree_say (new_declaration 2 ++ puts (5 ∷ 3 ∷ []))) (agree_then (agree_marked (inner c) id m j) (agree_say (stand o)))) body)
      (sym (front_kept c id (node o 0 Fields.done) (sym bb ∙ bt)))

  pub add_lowered : {g g₁ g₂ g₃ g' : Going} (c c₁ c₂ : Place) (root : Bool) (d e at o m k y : ℕ) (b : Bool) (f : ℕ) (source : Emit) → b ≡ has_object_rest (look_node t d at).value → b ≡ true
      → ((κ : Context) → f ≡ first keys_refusal (objects_below κ (look_node t d at).value)) → f ≤ 0 → root ≡ c.root → c₁ ≡ inner c → m ≡ g.state.sink.mark → c₂ ≡ marking c₁ m → e ≡ d
      → (Good t d at → Does g g₁ (over_objects place_made taking (look_node t d at).value ▷ over_objects keys_made replacing (look_node t d at).value ▷ over_objects (excludes_of root) replacing (look_node t d at).value))
      → ((κ : Context) (z : Node) → k ≡ limited (count (pattern_declarators κ (look_node t d at).value z)))
      → (k < 65536 → Does g₁ g₂ (say (declaration_head 2 k))) → g₃ ≡ g₂ → y ≡ at → source ≡ say (does (temporary o 1) ∷ [])
      → (Good t e y → Does g₃ g' (emits_pattern c₂ (look_node t e y).value source)) → Added t d at o g g' c
  unfolding marking
  add_lowered {g = g} {g' = g'} c c₁ c₂ root d e at o m k y b f source bb bt l w asked v mk v₂ ee hands cn hd to yy src pt s good small =
      let id : Node = (look_node t d at).value in
      let κ : Context = context_of (marking c m) in
      let below : has_object_rest id ≡ true = sym bb ∙ bt in
      let n : ℕ = count (pattern_declarators κ id id) in
      let fits : n ≤ length (encode id) = (pattern_small κ id).fits id in
      let short : length (encode id) ≤ 16384 = good_short t d at good in
      let kn : k ≡ n = cn κ id ∙ counted_whole n (length (encode id)) fits short in
      let same = node_as t e d y at ee yy in
      let lacks : first (λ p. keys_refusal p) (objects_below κ id) ≡ 0 = (let z : f ≡ 0 = omega arith in sym (l κ) ∙ z) in
      let whole : Does g g' (emits (marking c m) (let_of id (made.temporary [] 1 o))) =
      does_as (does_then (hands good) (does_then (hd (omega arith)) (does_from to (pt (stands_as t e d y at ee yy good)))))
      (ap₂ (λ (z : ℕ) (x : Emit). (over_objects place_made taking id ▷ over_objects keys_made replacing id ▷ over_objects (excludes_of root) replacing id) ▷ say (declaration_head 2 z) ▷ x) kn
      (ap₂ (λ (p : Place) (z : Seen Node). emits_pattern p z.value source) (statement_place c c₁ c₂ m v v₂ s) same ∙ ap (λ (x : Emit). emits_pattern (marking c m) id x) src)
      ∙ ap (λ (r : Bool). (over_objects place_made taking id ▷ over_objects keys_made replacing id ▷ over_objects (excludes_of r) replacing id) ▷ say (declaration_head 2 n) ▷ emits_pattern (marking c m) id (say (does (temporary o 1) ∷ []))) asked
      ∙ let_done id o below (marking c m) κ id lacks) in
      does_as (does_fresh (λ m. emits (marking c m) (let_of id (made.temporary [] 1 o))) m mk (λ k. agree_marked c (let_of id (made.temporary [] 1 o)) m k) whole) (sym (marked_let c id (made.temporary [] 1 o)))
