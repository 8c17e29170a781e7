-- The emitters' ways out: what each part of a node does is what its code does, one law for each.
-- Assumes nothing.
use mathlib.Core.Path.{◌≡◌, refl, sym, ap, ◌∙◌, subst, fun_ext}
use mathlib.Core.Bool.{Bool, true, false, cond, ◌&&◌, ◌||◌, not, false≢true}
use mathlib.Core.List.{List, [], ◌∷◌}
use Prim.Native.Nat.{ℕ, zero, suc, ◌-◌, ◌/◌, ◌%◌, ◌≤◌, ◌<◌}
use native.Mathlib.Omega.{arith}
use lib.Dec.{eqb}
use borrow.Author.Tests.{eq-eqb, ne_eqb}
use Rattle.tree.specs.Tree.{Node, Fields, Items, wide_bytes, map_of, count, encode_piece}
use Rattle.tree.specs.Tree.Node.{node}
use Rattle.tree.specs.Grammar.{Sort, Field, fields_of, kinds}
use Rattle.tree.specs.Read.{byte_at, wide_at, sort_in}
use Rattle.tree.specs.Rows.{fields_in_of, field_of, sort_of, sort_from, unpacked}
use Rattle.tree.specs.Look.{Seen, onward, quiet_at, look_item, look_items, look_field, look_slot, look_fields, look_node}
use Rattle.tree.specs.Answer.{Peeked, Wide}
use Rattle.tree.proofs.GrammarRows.{NoKey, no_key, row_done, row_first, first_sort}
use Rattle.tree.specs.Look as Look
use Rattle.lowering.specs.Collect.{is_container}
use Rattle.lowering.specs.Parts.{kind, is}
use Rattle.lowering.specs.Walk.{rule_of, opens_scope}
use Rattle.lowering.specs.Walk.Rule.{nowhere}
use Rattle.sink.specs.Machine.{part}
use Rattle.direct.specs.Events.{Place, Emit, puts, marks, emits}
use Rattle.direct.specs.Emit.{say, ◌▷◌, below, marking, stays, emits_item, emits_items, emits_piece, emits_fields, emits_parts}
use Rattle.direct.proofs.Threads.{say_nothing, then_nothing, then_assoc}
use Rattle.direct.proofs.OneLevel.{emits_nowhere}
use Rattle.direct.proofs.StatementMarks.{emits_item_lem}
use Rattle.direct.proofs.SimpleCopied.{stays_plain}
use Rattle.walk.specs.Run.{Going, Does}
use Rattle.walk.specs.Whole.{hole_at, item_deeds, slot_deeds, GoodItem, GoodItems, GoodList, GoodField, GoodSlot, GoodFields, GoodHere, Good}
use Rattle.walk.proofs.Running.{does_then, does_nothing, does_as}

-- ---- a loop: what is left to do from g' makes the whole from g

pub record Onto (g g' : Going) (rest whole : Emit) : Type 0 where
  pub then : (g'' : Going) → Does g' g'' rest → Does g g'' whole

pub onto_start : (g : Going) (e : Emit) → Onto g g e e
onto_start g e = record { then = λ g'' d. d }

pub onto_more : {g g' g'' : Going} {e f r whole : Emit} → Onto g g' r whole → r ≡ e ▷ f → Does g' g'' e → Onto g g'' f whole
onto_more o h d = record { then = λ x k. o.then x (does_as (does_then d k) (sym h)) }

pub onto_end : {g g' : Going} {r whole : Emit} → Onto g g' r whole → r ≡ say [] → Does g g' whole
onto_end {g' = g'} o h = o.then g' (does_as (does_nothing g') (sym h))

-- the kinds of loops
pub loop_in : (k : ℕ) → k ≡ 7 → eqb k 7 || eqb k 8 ≡ true
loop_in k e = rw e refl

pub loop_of : (k : ℕ) → k ≡ 8 → eqb k 7 || eqb k 8 ≡ true
loop_of k e = rw e refl

-- a kind without a rule
pub nowhere_else : (k : ℕ) → (k ≡ 4 → ⊥) → (k ≡ 7 → ⊥) → (k ≡ 8 → ⊥) → (k ≡ 10 → ⊥) → (k ≡ 14 → ⊥) → (k ≡ 17 → ⊥) → (k ≡ 24 → ⊥) → (k ≡ 27 → ⊥) → rule_of k ≡ nowhere
unfolding rule_of
nowhere_else k a b c d e f g h = rw (ne_eqb k 24 g, ne_eqb k 4 a, ne_eqb k 27 h, ne_eqb k 14 e, ne_eqb k 17 f, ne_eqb k 10 d, ne_eqb k 7 b, ne_eqb k 8 c) refl

-- the fields of a node that is no Switch are all at one place
same_below : (c : Place) (at k : ℕ) (fs : Fields) (i : ℕ) → (k ≡ 43 → ⊥) → below c (node at k fs) 0 ≡ below c (node at k fs) i
unfolding below opens_scope
same_below c at k fs i h = rw (ne_eqb k 43 h) refl

-- what stands before the cases of a Switch, and the cases, as rows
abbrev pub switch_front : ℕ
switch_front = 36032

abbrev pub switch_cases : ℕ
switch_cases = 121

module _ (t : List ℕ) where
  -- ---- tests and marks

  pub is_hole : (h : Bool) (at n : ℕ) → h ≡ true → Peeked t at n → n ≡ 0 → hole_at t h at ≡ true
  unfolding hole_at
  is_hole h at n e p z = rw (e, eq-eqb (byte_at t at) 0 (sym p.value ∙ z)) refl

  pub no_hole : (h : Bool) (at n : ℕ) → h ≡ true → Peeked t at n → (n ≡ 0 → ⊥) → hole_at t h at ≡ false
  unfolding hole_at
  no_hole h at n e p z = rw (e, ne_eqb (byte_at t at) 0 (λ x. z (p.value ∙ x))) refl

  pub full : (h : Bool) (at : ℕ) → h ≡ false → hole_at t h at ≡ false
  unfolding hole_at
  full h at e = rw e refl

  marks_are : (m : ℕ) → 0 < m → say (marks m) ≡ say (puts (wide_bytes m))
  unfolding marks
  marks_are zero h = absurd (omega arith)
  marks_are (suc m) h = refl

  -- ---- what the parts do, one before the rest

  module _ (R : ℕ → Seen Node) where
    slot_first : (l : Bool) (c : ℕ → Place) (s : Sort) (bit at : ℕ) (fs : Fields)
        → emits_parts l c ((look_slot t R s bit at).value fs) ≡ slot_deeds t R l (c 0) s bit at ▷ emits_parts l (λ i. c (suc i)) fs
    unfolding look_slot slot_deeds emits_parts
    slot_first l c s zero at fs = sym (say_nothing (emits_parts l (λ i. c (suc i)) fs))
    slot_first l c s (suc b) at fs = refl

    pub fields_first : (l : Bool) (c : Place) (row m at q : ℕ) → 0 < row → q ≡ (look_slot t R (sort_of (row % 512)) (m % 2) at).next
        → emits_fields l c (look_fields t R (fields_in_of row) m at).value
        ≡ slot_deeds t R l c (sort_of (row % 512)) (m % 2) at ▷ emits_fields l c (look_fields t R (fields_in_of (row / 1024)) (m / 2) q).value
    unfolding look_fields
    fields_first l c row m at q h e = rw (row_first row h, first_sort row, e) (slot_first l (λ i. c) (sort_of (row % 512)) (m % 2) at _)

    pub fields_none : (l : Bool) (c : Place) (row m at : ℕ) → row ≤ 0 → emits_fields l c (look_fields t R (fields_in_of row) m at).value ≡ say []
    unfolding look_fields emits_parts
    fields_none l c row m at h = rw (row_done row (omega arith)) refl

    -- two fields before the rest
    two_first : (l : Bool) (c : ℕ → Place) (f g : Field) (ts : List Field) (m at : ℕ)
        → emits_parts l c (look_fields t R (f ∷ g ∷ ts) m at).value
        ≡ slot_deeds t R l (c 0) (sort_in f) (m % 2) at
        ▷ slot_deeds t R l (c 1) (sort_in g) (m / 2 % 2) (look_slot t R (sort_in f) (m % 2) at).next
        ▷ emits_parts l (λ i. c (suc (suc i))) (look_fields t R ts (m / 2 / 2) (look_fields t R (f ∷ g ∷ []) m at).next).value
    unfolding look_fields
    two_first l c f g ts m at =
        slot_first l c (sort_in f) (m % 2) at _
        ∙ ap (λ (x : Emit). slot_deeds t R l (c 0) (sort_in f) (m % 2) at ▷ x) (slot_first l (λ i. c (suc i)) (sort_in g) (m / 2 % 2) (look_slot t R (sort_in f) (m % 2) at).next _)

    one_last : (l : Bool) (c : ℕ → Place) (f : Field) (m at : ℕ) → emits_parts l c (look_fields t R (f ∷ []) m at).value ≡ slot_deeds t R l (c 0) (sort_in f) (m % 2) at ▷ say []
    unfolding look_fields emits_parts
    one_last l c f m at = slot_first l c (sort_in f) (m % 2) at _

    -- three fields, the first two at one place and the third at another
    three_apart : (l : Bool) (c : ℕ → Place) (a b : Place) → c 0 ≡ a → c 1 ≡ a → c 2 ≡ b → (f g h : Field) (m at : ℕ)
        → emits_parts l c (look_fields t R (f ∷ g ∷ h ∷ []) m at).value
        ≡ emits_fields l a (look_fields t R (f ∷ g ∷ []) m at).value ▷ emits_fields l b (look_fields t R (h ∷ []) (m / 2 / 2) (look_fields t R (f ∷ g ∷ []) m at).next).value
    unfolding look_fields emits_parts
    three_apart l c a b u v w f g h m at =
        let q = (look_fields t R (f ∷ g ∷ []) m at).next in
        let d : Place → Emit = λ z. slot_deeds t R l z (sort_in f) (m % 2) at in
        let e : Place → Emit = λ z. slot_deeds t R l z (sort_in g) (m / 2 % 2) (look_slot t R (sort_in f) (m % 2) at).next in
        let s : Place → Emit = λ z. slot_deeds t R l z (sort_in h) (m / 2 / 2 % 2) q ▷ say [] in
        let r : Emit = emits_fields l b (look_fields t R (h ∷ []) (m / 2 / 2) q).value in
        let p : s (c 2) ≡ r = ap s w ∙ sym (one_last l (λ i. b) h (m / 2 / 2) q) in
        two_first l c f g (h ∷ []) m at
        ∙ ap (λ (x : Emit). d (c 0) ▷ e (c 1) ▷ x) (one_last l (λ i. c (suc (suc i))) h (m / 2 / 2) q ∙ p)
        ∙ ap (λ (z : Place). d z ▷ e (c 1) ▷ r) u
        ∙ ap (λ (z : Place). d a ▷ e z ▷ r) v
        ∙ sym (then_assoc (d a) (e a) r)
        ∙ ap (λ (x : Emit). x ▷ r) (ap (λ (x : Emit). d a ▷ x) (sym (then_nothing (e a))) ∙ sym (two_first l (λ i. a) f g [] m at))

    hole_first : (l : Bool) (c : Place) (h : Bool) (at : ℕ) (is : Items)
        → emits_items l c ((look_item t R h at).value is) ≡ item_deeds t R l c h at ▷ emits_items l c is
    unfolding look_item item_deeds hole_at emits_items
    hole_first l c true at is = go (eqb (byte_at t at) 0)
      where
        go : (b : Bool) → emits_items l c ((cond b (Look.seen Items.hole (onward t at 1)) (Look.seen_as (λ n is. Items.item n is) (R at))).value is)
            ≡ cond b (say (puts (0 ∷ []))) (emits_item l c (R at).value) ▷ emits_items l c is
        go true = refl
        go false = refl
    hole_first l c false at is = refl

    pub items_first : (l : Bool) (c : Place) (h : Bool) (n at q : ℕ) → 0 < n → q ≡ (look_item t R h at).next
        → emits_items l c (look_items t R h n at).value ≡ item_deeds t R l c h at ▷ emits_items l c (look_items t R h (n - 1) q).value
    unfolding look_items
    items_first l c h zero at q z e = absurd (omega arith)
    items_first l c h (suc n) at q z e =
        let s : suc n - 1 ≡ n = omega arith in
        rw (s, e) (hole_first l c h at _)

    pub items_none : (l : Bool) (c : Place) (h : Bool) (n at : ℕ) → n ≤ 0 → emits_items l c (look_items t R h n at).value ≡ say []
    unfolding look_items emits_items
    items_none l c h zero at z = refl
    items_none l c h (suc n) at z = absurd (omega arith)

    pub item_next : (h : Bool) (at : ℕ) → hole_at t h at ≡ false → (R at).next ≡ (look_item t R h at).next
    unfolding hole_at look_item
    item_next true at e = rw e refl
    item_next false at e = refl

    pub slot_none : {g : Going} (l : Bool) (c : Place) (s : Sort) (bit at : ℕ) → bit ≡ 0 → Does g g (slot_deeds t R l c s bit at)
    unfolding slot_deeds
    slot_none {g = g} l c s bit at z = does_as (does_nothing g) (ap (λ (b : ℕ). slot_deeds t R l c s b at) (sym z))

    stands_deeds : (l : Bool) (c : Place) (s : Sort) (bit at : ℕ) → (bit ≡ 0 → ⊥) → emits_piece l c (look_field t R s at).value ≡ slot_deeds t R l c s bit at
    unfolding slot_deeds
    stands_deeds l c s zero at n = absurd (n refl)
    stands_deeds l c s (suc b) at n = refl

    stands_next : (s : Sort) (bit at : ℕ) → (bit ≡ 0 → ⊥) → (look_slot t R s bit at).next ≡ (look_field t R s at).next
    unfolding look_slot
    stands_next s zero at n = absurd (n refl)
    stands_next s (suc b) at n = refl

  -- ---- what is known of the parts, and what each way out does

  module _ (R : ℕ → Seen Node) (G : ℕ → Type 0) where
    pub good_slot : (l : Bool) (row m at : ℕ) → 0 < row → GoodFields t R G l (fields_in_of row) m at → GoodSlot t R G l (sort_of (row % 512)) (m % 2) at
    unfolding GoodFields
    good_slot l row m at h g =
        let x : GoodFields t R G l (field_of (row % 1024) ∷ fields_in_of (row / 1024)) m at = subst (λ (fs : List Field). GoodFields t R G l fs m at) (row_first row h) g in
        subst (λ (s : Sort). GoodSlot t R G l s (m % 2) at) (first_sort row) x.0

    pub good_rest : (l : Bool) (row m at q : ℕ) → 0 < row → q ≡ (look_slot t R (sort_of (row % 512)) (m % 2) at).next → GoodFields t R G l (fields_in_of row) m at
        → GoodFields t R G l (fields_in_of (row / 1024)) (m / 2) q
    unfolding GoodFields
    good_rest l row m at q h e g =
        let x : GoodFields t R G l (field_of (row % 1024) ∷ fields_in_of (row / 1024)) m at = subst (λ (fs : List Field). GoodFields t R G l fs m at) (row_first row h) g in
        subst (λ (p : ℕ). GoodFields t R G l (fields_in_of (row / 1024)) (m / 2) p) (ap (λ (s : Sort). (look_slot t R s (m % 2) at).next) (first_sort row) ∙ sym e) x.1

    pub good_item : (l h : Bool) (n at : ℕ) → 0 < n → GoodItems t R G l h n at → GoodItem t R G l h at
    unfolding GoodItems
    good_item l h zero at z g = absurd (omega arith)
    good_item l h (suc n) at z g = g.0

    pub good_items : (l h : Bool) (n at q : ℕ) → 0 < n → q ≡ (look_item t R h at).next → GoodItems t R G l h n at → GoodItems t R G l h (n - 1) q
    unfolding GoodItems
    good_items l h zero at q z e g = absurd (omega arith)
    good_items l h (suc n) at q z e g =
        let s : suc n - 1 ≡ n = omega arith in
        rw (s, e) g.1

    pub hole_does : {g g' : Going} (l : Bool) (c : Place) (h : Bool) (at q : ℕ) → hole_at t h at ≡ true → q ≡ onward t at 1
        → Does g g' (say (puts (part at q t))) → GoodItem t R G l h at → Does g g' (item_deeds t R l c h at)
    unfolding item_deeds
    hole_does l c h at q b w d good =
        does_as d (ap (λ (x : ℕ). say (puts (part at x t))) w ∙ ap (λ (bs : List ℕ). say (puts bs)) (good.hole b) ∙ ap (λ (x : Bool). cond x (say (puts (0 ∷ []))) (emits_item l c (R at).value)) (sym b))

    pub node_does : {g g' : Going} (l : Bool) (c : Place) (h : Bool) (at : ℕ) → hole_at t h at ≡ false → l ≡ false
        → (G at → Does g g' (emits c (R at).value)) → GoodItem t R G l h at → Does g g' (item_deeds t R l c h at)
    unfolding item_deeds
    node_does l c h at b e d good =
        does_as (d (good.node b))
        (sym (emits_item_lem c (R at).value) ∙ ap (λ (x : Bool). emits_item x c (R at).value) (sym e) ∙ ap (λ (x : Bool). cond x (say (puts (0 ∷ []))) (emits_item l c (R at).value)) (sym b))

    pub statement_does : {g g' : Going} (l : Bool) (c c' : Place) (h : Bool) (at q m : ℕ) → hole_at t h at ≡ false → l ≡ true → q ≡ onward t at 2 → Wide t q m → c' ≡ marking c m
        → (G at → Does g g' (emits c' (R at).value)) → GoodItem t R G l h at → Does g g' (item_deeds t R l c h at)
    unfolding item_deeds
    statement_does l c c' h at q m b e k w v d good =
        let n : Node = (R at).value in
        let i : m ≡ wide_at t (onward t at 2) = w.value ∙ ap (λ (x : ℕ). wide_at t x) k in
        does_as (d (good.node b))
        (ap (λ (x : Place). emits x n) v ∙ ap (λ (x : ℕ). emits (marking c x) n) i ∙ sym (good.begins b e c)
        ∙ ap (λ (x : Bool). emits_item x c n) (sym e) ∙ ap (λ (x : Bool). cond x (say (puts (0 ∷ []))) (emits_item l c n)) (sym b))

    stands_good : (l : Bool) (s : Sort) (bit at : ℕ) → (bit ≡ 0 → ⊥) → GoodSlot t R G l s bit at → GoodField t R G l s at
    unfolding GoodSlot
    stands_good l s zero at n g = absurd (n refl)
    stands_good l s (suc b) at n g = g

    module _ (l : Bool) (c : Place) (code bit at : ℕ) (stands : bit ≡ 0 → ⊥) where
      -- by the class of the code
      class_does : {g g' : Going} (n : ℕ) → code / 32 ≡ n → (GoodField t R G l (sort_from n (code % 32)) at → Does g g' (emits_piece l c (look_field t R (sort_from n (code % 32)) at).value))
          → GoodSlot t R G l (sort_of code) bit at → Does g g' (slot_deeds t R l c (sort_of code) bit at)
      class_does n e d good =
          does_as (d (subst (λ (k : ℕ). GoodField t R G l (sort_from k (code % 32)) at) e (stands_good l (sort_of code) bit at stands good)))
          (ap (λ (k : ℕ). emits_piece l c (look_field t R (sort_from k (code % 32)) at).value) (sym e) ∙ stands_deeds R l c (sort_of code) bit at stands)

      pub child_does : {g g' : Going} → code / 32 ≡ 1 → (G at → Does g g' (emits c (R at).value)) → GoodSlot t R G l (sort_of code) bit at → Does g g' (slot_deeds t R l c (sort_of code) bit at)
      unfolding GoodField look_field emits_piece
      child_does e d good = class_does 1 e d good

      pub chosen_does : {g g' : Going} → code / 32 ≡ 2 → (G at → Does g g' (emits c (R at).value)) → GoodSlot t R G l (sort_of code) bit at → Does g g' (slot_deeds t R l c (sort_of code) bit at)
      unfolding GoodField look_field emits_piece
      chosen_does e d good = class_does 2 e d good

      -- the count, then the items
      list_does : {g g₁ g' : Going} (h : Bool) (n q x : ℕ) → Wide t at n → q ≡ onward t at 2 → x ≡ q → Does g g₁ (say (puts (part at q t)))
          → (GoodItems t R G l h n x → Does g₁ g' (emits_items l c (look_items t R h n x).value)) → GoodList t R G l h at
          → Does g g' (say (puts (wide_bytes (count (look_items t R h (wide_at t at) (onward t at 2)).value))) ▷ emits_items l c (look_items t R h (wide_at t at) (onward t at 2)).value)
      list_does h n q x w e f d k good =
          let y : x ≡ onward t at 2 = f ∙ e in
          let i : GoodItems t R G l h n x = rw (w.value, y) good.items in
          does_as (does_then d (k i))
          (ap (λ (z : ℕ). say (puts (part at z t)) ▷ emits_items l c (look_items t R h n x).value) e
          ∙ ap (λ (bs : List ℕ). say (puts bs) ▷ emits_items l c (look_items t R h n x).value) good.head
          ∙ ap (λ (m : ℕ). say (puts (wide_bytes (count (look_items t R h (wide_at t at) (onward t at 2)).value))) ▷ emits_items l c (look_items t R h m x).value) w.value
          ∙ ap (λ (z : ℕ). say (puts (wide_bytes (count (look_items t R h (wide_at t at) (onward t at 2)).value))) ▷ emits_items l c (look_items t R h (wide_at t at) z).value) y)

      pub many_does : {g g₁ g' : Going} (n q x : ℕ) → code / 32 ≡ 3 → Wide t at n → q ≡ onward t at 2 → x ≡ q → Does g g₁ (say (puts (part at q t)))
          → (GoodItems t R G l false n x → Does g₁ g' (emits_items l c (look_items t R false n x).value))
          → GoodSlot t R G l (sort_of code) bit at → Does g g' (slot_deeds t R l c (sort_of code) bit at)
      unfolding GoodField look_field emits_piece
      many_does n q x e w f i d k good = class_does 3 e (λ z. list_does false n q x w f i d k z) good

      pub gaps_does : {g g₁ g' : Going} (n q x : ℕ) → code / 32 ≡ 4 → Wide t at n → q ≡ onward t at 2 → x ≡ q → Does g g₁ (say (puts (part at q t)))
          → (GoodItems t R G l true n x → Does g₁ g' (emits_items l c (look_items t R true n x).value))
          → GoodSlot t R G l (sort_of code) bit at → Does g g' (slot_deeds t R l c (sort_of code) bit at)
      unfolding GoodField look_field emits_piece
      gaps_does n q x e w f i d k good = class_does 4 e (λ z. list_does true n q x w f i d k z) good

    -- a piece without nodes is copied
    leaf_piece : (l : Bool) (c : Place) (class a at : ℕ) → NoKey Unit 1 4 class → GoodField t R G l (sort_from class a) at
        → say (puts (part at (look_field t R (sort_from class a) at).next t)) ≡ emits_piece l c (look_field t R (sort_from class a) at).value
    unfolding GoodField look_field emits_piece encode_piece
    leaf_piece l c zero a at h g = ap (λ (bs : List ℕ). say (puts bs)) g.bytes
    leaf_piece l c (suc zero) a at h g = absurd (omega (arith, no_key Unit 1 4 1 h (omega arith)))
    leaf_piece l c (suc (suc zero)) a at h g = absurd (omega (arith, no_key Unit 1 4 2 h (omega arith)))
    leaf_piece l c (suc (suc (suc zero))) a at h g = absurd (omega (arith, no_key Unit 1 4 3 h (omega arith)))
    leaf_piece l c (suc (suc (suc (suc zero)))) a at h g = absurd (omega (arith, no_key Unit 1 4 4 h (omega arith)))
    leaf_piece l c (suc (suc (suc (suc (suc zero))))) a at h g = ap (λ (bs : List ℕ). say (puts bs)) g.bytes
    leaf_piece l c (suc (suc (suc (suc (suc (suc zero)))))) a at h g = ap (λ (bs : List ℕ). say (puts bs)) g.bytes ∙ sym (marks_are (wide_at t at) (g.positive (wide_at t at) refl))
    leaf_piece l c (suc (suc (suc (suc (suc (suc (suc zero))))))) a at h g = ap (λ (bs : List ℕ). say (puts bs)) g.bytes
    leaf_piece l c (suc (suc (suc (suc (suc (suc (suc (suc zero)))))))) a at h g = ap (λ (bs : List ℕ). say (puts bs)) g.bytes
    leaf_piece l c (suc (suc (suc (suc (suc (suc (suc (suc (suc zero))))))))) a at h g = ap (λ (bs : List ℕ). say (puts bs)) g.bytes
    leaf_piece l c (suc (suc (suc (suc (suc (suc (suc (suc (suc (suc n)))))))))) a at h g = ap (λ (bs : List ℕ). say (puts bs)) g.bytes

    pub leaf_does : {g g' : Going} (l : Bool) (c : Place) (code bit at q : ℕ) → (bit ≡ 0 → ⊥) → NoKey Unit 1 4 (code / 32) → q ≡ (look_slot t R (sort_of code) bit at).next
        → Does g g' (say (puts (part at q t))) → GoodSlot t R G l (sort_of code) bit at → Does g g' (slot_deeds t R l c (sort_of code) bit at)
    leaf_does l c code bit at q n k e d good =
        does_as d
        (ap (λ (z : ℕ). say (puts (part at z t))) (e ∙ stands_next R (sort_of code) bit at n)
        ∙ leaf_piece l c (code / 32) (code % 32) at k (stands_good l (sort_of code) bit at n good)
        ∙ stands_deeds R l c (sort_of code) bit at n)

  -- ---- a node

  pub good_none : {A : Type 0} (d at : ℕ) → d ≡ 0 → Good t d at → A
  unfolding Good
  good_none zero at z g = absurd g
  good_none (suc d) at z g = absurd (omega arith)

  -- the same with the levels written in another way
  pub deeper : {g g' : Going} (c : Place) (d e at : ℕ) → e ≡ d → (Good t e at → Does g g' (emits c (look_node t e at).value)) → Good t d at → Does g g' (emits c (look_node t d at).value)
  deeper {g = g} {g' = g'} c d e at h k = subst (λ (z : ℕ). Good t z at → Does g g' (emits c (look_node t z at).value)) h k

  pub deeper_next : (d e at s : ℕ) → e ≡ d → s ≡ (look_node t e at).next → s ≡ (look_node t d at).next
  deeper_next d e at s h k = k ∙ ap (λ (z : ℕ). (look_node t z at).next) h

  kind_there : (d at k : ℕ) → Peeked t at k → Good t d at → kind (look_node t d at).value ≡ k
  unfolding Good look_node
  kind_there zero at k p g = absurd g
  kind_there (suc d) at k p g = sym p.value

  pub emits_does : {g g' : Going} (c : Place) (d at k : ℕ) → Peeked t at k → rule_of k ≡ nowhere → (Good t d at → Does g g' (stays c (look_node t d at).value)) → Good t d at → Does g g' (emits c (look_node t d at).value)
  emits_does c d at k p z f good = does_as (f good) (sym (emits_nowhere c (look_node t d at).value (ap rule_of (kind_there d at k p good) ∙ z)))

  module _ (c c' : Place) (d at k m row p q e x : ℕ) (l : Bool) (kinds : k ≡ byte_at t at) (second : p ≡ onward t at 1) (map : m ≡ byte_at t p)
      (rows : fields_in_of row ≡ fields_of k) (third : q ≡ onward t at 2) (moved : x ≡ q) (containers : l ≡ is_container k) (places : (at : ℕ) (fs : Fields) → (λ i. c') ≡ below c (node at k fs)) where
    fields_here : e ≡ d → GoodHere t (λ z. look_node t d z) (λ l fs m z. GoodFields t (λ z. look_node t d z) (λ z. Good t d z) l fs m z) at
        → GoodFields t (look_node t e) (Good t e) l (fields_in_of row) m x
    fields_here u g = rw (u, moved, third, containers, rows, map, second, kinds) g.below

    deeds_here : e ≡ d → (g : GoodHere t (λ z. look_node t d z) (λ l fs m z. GoodFields t (λ z. look_node t d z) (λ z. Good t d z) l fs m z) at)
        → say (puts (part at q t)) ▷ emits_fields l c' (look_fields t (look_node t e) (fields_in_of row) m x).value ≡ stays c (look_node t (suc d) at).value
    unfolding look_node
    deeds_here u g =
        let fs : Fields = (look_fields t (λ z. look_node t d z) (fields_of (byte_at t at)) (byte_at t (onward t at 1)) (onward t at 2)).value in
        let a : say (puts (part at q t)) ≡ say (puts (byte_at t at ∷ map_of fs ∷ [])) = ap (λ (z : ℕ). say (puts (part at z t))) third ∙ ap (λ (bs : List ℕ). say (puts bs)) g.head in
        let b : (look_fields t (look_node t e) (fields_in_of row) m x).value ≡ fs = rw (u, moved, third, rows, map, second, kinds) refl in
        let v : (λ i. c') ≡ below c (node at (byte_at t at) fs) = places at fs ∙ ap (λ (z : ℕ). below c (node at z fs)) kinds in
        let w : l ≡ is_container (byte_at t at) = containers ∙ ap (λ (z : ℕ). is_container z) kinds in
        ap (λ (z : Emit). z ▷ emits_fields l c' (look_fields t (look_node t e) (fields_in_of row) m x).value) a
        ∙ ap (λ (z : Fields). say (puts (byte_at t at ∷ map_of fs ∷ [])) ▷ emits_fields l c' z) b
        ∙ ap (λ (z : ℕ → Place). say (puts (byte_at t at ∷ map_of fs ∷ [])) ▷ emits_parts l z fs) v
        ∙ ap (λ (z : Bool). say (puts (byte_at t at ∷ map_of fs ∷ [])) ▷ emits_parts z (below c (node at (byte_at t at) fs)) fs) w
        ∙ sym (stays_plain c at (byte_at t at) fs g.temporary g.helper)

    pub plain_here : {g g₁ g' : Going} → e ≡ d → Does g g₁ (say (puts (part at q t)))
        → (GoodFields t (look_node t e) (Good t e) l (fields_in_of row) m x → Does g₁ g' (emits_fields l c' (look_fields t (look_node t e) (fields_in_of row) m x).value))
        → Good t (suc d) at → Does g g' (stays c (look_node t (suc d) at).value)
    unfolding Good
    plain_here u a b good = does_as (does_then a (b (fields_here u good))) (deeds_here u good)

  -- all fields are at the place of the first
  all_below : (c c' : Place) (k : ℕ) → (k ≡ 43 → ⊥) → ((at : ℕ) (fs : Fields) → c' ≡ below c (node at k fs) 0) → (at : ℕ) (fs : Fields) → (λ i. c') ≡ below c (node at k fs)
  all_below c c' k h v at fs = fun_ext (λ i. v at fs ∙ same_below c at k fs i h)

  pub plain_does : {g g₁ g' : Going} (c c' : Place) (d at k m row p q e x : ℕ) (l : Bool) → (d ≡ 0 → ⊥) → k ≡ byte_at t at → p ≡ onward t at 1 → m ≡ byte_at t p
      → (k ≡ 43 → ⊥) → fields_in_of row ≡ fields_of k → q ≡ onward t at 2 → x ≡ q → l ≡ is_container k → ((at : ℕ) (fs : Fields) → c' ≡ below c (node at k fs) 0) → e ≡ d - 1
      → Does g g₁ (say (puts (part at q t)))
      → (GoodFields t (look_node t e) (Good t e) l (fields_in_of row) m x → Does g₁ g' (emits_fields l c' (look_fields t (look_node t e) (fields_in_of row) m x).value))
      → Good t d at → Does g g' (stays c (look_node t d at).value)
  plain_does c c' zero at k m row p q e x l z a b f s r h i j v u = absurd (z refl)
  plain_does c c' (suc d) at k m row p q e x l z a b f s r h i j v u = plain_here c c' d at k m row p q e x l a b f r h i j (all_below c c' k s v) (omega arith)

  -- what is noted as quiet is copied whole
  pub quiet_does : {g g' : Going} (c : Place) (d at q : ℕ) (b : Bool) → b ≡ quiet_at t at → b ≡ true → q ≡ (look_node t d at).next → Does g g' (say (puts (part at q t))) → Good t d at
      → Does g g' (emits c (look_node t d at).value)
  unfolding Good look_node
  quiet_does c zero at q b e h i does good = absurd good
  quiet_does c (suc d) at q b e h i does good =
      does_as does (ap (λ (x : ℕ). say (puts (part at x t))) (i ∙ good.noted) ∙ ap (λ (bs : List ℕ). say (puts bs)) good.bytes ∙ sym (good.quiet (sym e ∙ h) c))

  -- ---- a Switch: what stands before its cases is at another place than they are

  module _ (R : ℕ → Seen Node) (m at : ℕ) where
    module _ (G : ℕ → Type 0) (good : GoodFields t R G false (fields_of 43) m at) where
      front_good : GoodFields t R G false (fields_in_of switch_front) m at
      unfolding GoodFields fields_of kinds unpacked
      front_good = (good.0, (good.1.0, tt))

      cases_good : GoodFields t R G false (fields_in_of switch_cases) (m / 4) (look_fields t R (fields_in_of switch_front) m at).next
      unfolding GoodFields look_fields fields_of kinds unpacked
      cases_good = let h : m / 4 ≡ m / 2 / 2 = omega arith in rw h good.1.1

    switch_apart : (c a b : Place) (n : ℕ) (fs : Fields) → a ≡ below c (node n 43 fs) 0 → b ≡ below c (node n 43 fs) 2
        → emits_parts false (below c (node n 43 fs)) (look_fields t R (fields_of 43) m at).value
        ≡ emits_fields false a (look_fields t R (fields_in_of switch_front) m at).value
        ▷ emits_fields false b (look_fields t R (fields_in_of switch_cases) (m / 4) (look_fields t R (fields_in_of switch_front) m at).next).value
    unfolding fields_of kinds unpacked below opens_scope
    switch_apart c a b n fs u v =
        let h : m / 4 ≡ m / 2 / 2 = omega arith in
        rw h (three_apart R false (below c (node n 43 fs)) a b (sym u) (sym u) (sym v) _ _ _ m at)

  module _ (c a b : Place) (d at k m p q x y : ℕ) (kinds-are : k ≡ byte_at t at) (switch : k ≡ 43) (second : p ≡ onward t at 1) (map : m ≡ byte_at t p) (third : q ≡ onward t at 2) (moved : x ≡ q)
      (fronts : (at : ℕ) (fs : Fields) → a ≡ below c (node at k fs) 0) (cases : (at : ℕ) (fs : Fields) → b ≡ below c (node at k fs) 2)
      (next : y ≡ (look_fields t (look_node t d) (fields_in_of switch_front) m x).next) where
    abbrev front : Emit
    front = emits_fields false a (look_fields t (look_node t d) (fields_in_of switch_front) m x).value

    abbrev behind : Emit
    behind = emits_fields false b (look_fields t (look_node t d) (fields_in_of switch_cases) (m / 4) y).value

    -- the fields as they are read, the kind known
    fields_good : GoodHere t (λ z. look_node t d z) (λ l fs m z. GoodFields t (λ z. look_node t d z) (λ z. Good t d z) l fs m z) at → GoodFields t (look_node t d) (Good t d) false (fields_of 43) m x
    unfolding is_container
    fields_good g =
        let e : GoodFields t (look_node t d) (Good t d) (is_container k) (fields_of k) m x = rw (moved, third, map, second, kinds-are) g.below in
        subst (λ (z : ℕ). GoodFields t (look_node t d) (Good t d) (is_container z) (fields_of z) m x) switch e

    switch_deeds : (g : GoodHere t (λ z. look_node t d z) (λ l fs m z. GoodFields t (λ z. look_node t d z) (λ z. Good t d z) l fs m z) at)
        → say (puts (part at q t)) ▷ front ▷ behind ≡ stays c (look_node t (suc d) at).value
    unfolding look_node is_container
    switch_deeds g =
        let fs : Fields = (look_fields t (λ z. look_node t d z) (fields_of (byte_at t at)) (byte_at t (onward t at 1)) (onward t at 2)).value in
        let h : say (puts (part at q t)) ≡ say (puts (byte_at t at ∷ map_of fs ∷ [])) = ap (λ (z : ℕ). say (puts (part at z t))) third ∙ ap (λ (bs : List ℕ). say (puts bs)) g.head in
        let n : k ≡ 43 = switch in
        let u : a ≡ below c (node at 43 fs) 0 = fronts at fs ∙ ap (λ (z : ℕ). below c (node at z fs) 0) n in
        let v : b ≡ below c (node at 43 fs) 2 = cases at fs ∙ ap (λ (z : ℕ). below c (node at z fs) 2) n in
        let r : behind ≡ emits_fields false b (look_fields t (look_node t d) (fields_in_of switch_cases) (m / 4) (look_fields t (look_node t d) (fields_in_of switch_front) m x).next).value = ap (λ (z : ℕ). emits_fields false b (look_fields t (look_node t d) (fields_in_of switch_cases) (m / 4) z).value) next in
        let w : (look_fields t (look_node t d) (fields_of 43) m x).value ≡ fs = rw (sym n, moved, third, map, second, kinds-are) refl in
        let z : byte_at t at ≡ 43 = sym kinds-are ∙ n in
        ap (λ (e : Emit). say (puts (part at q t)) ▷ front ▷ e) r
        ∙ ap (λ (e : Emit). say (puts (part at q t)) ▷ e) (sym (switch_apart (look_node t d) m x c a b at fs u v))
        ∙ ap (λ (e : Emit). e ▷ emits_parts false (below c (node at 43 fs)) (look_fields t (look_node t d) (fields_of 43) m x).value) h
        ∙ ap (λ (gs : Fields). say (puts (byte_at t at ∷ map_of fs ∷ [])) ▷ emits_parts false (below c (node at 43 fs)) gs) w
        ∙ ap (λ (j : ℕ). say (puts (byte_at t at ∷ map_of fs ∷ [])) ▷ emits_parts (is_container j) (below c (node at j fs)) fs) (sym z)
        ∙ sym (stays_plain c at (byte_at t at) fs g.temporary g.helper)

    switch_here : {g g₁ g₂ g' : Going} → Does g g₁ (say (puts (part at q t)))
        → (GoodFields t (look_node t d) (Good t d) false (fields_in_of switch_front) m x → Does g₁ g₂ front)
        → (GoodFields t (look_node t d) (Good t d) false (fields_in_of switch_cases) (m / 4) y → Does g₂ g' behind)
        → Good t (suc d) at → Does g g' (stays c (look_node t (suc d) at).value)
    unfolding Good
    switch_here head f h good =
        let w = fields_good good in
        let l : GoodFields t (look_node t d) (Good t d) false (fields_in_of switch_cases) (m / 4) y = subst (λ (z : ℕ). GoodFields t (look_node t d) (Good t d) false (fields_in_of switch_cases) (m / 4) z) (sym next) (cases_good (look_node t d) m x (Good t d) w) in
        does_as (does_then head (does_then (f (front_good (look_node t d) m x (Good t d) w)) (h l))) (switch_deeds good)

  -- the same with the levels written in another way
  pub switch_does : {g g₁ g₂ g' : Going} (c a b : Place) (d at k m p q e₁ e₂ x y : ℕ) → (d ≡ 0 → ⊥) → k ≡ byte_at t at → k ≡ 43 → p ≡ onward t at 1 → m ≡ byte_at t p → q ≡ onward t at 2 → x ≡ q
      → ((at : ℕ) (fs : Fields) → a ≡ below c (node at k fs) 0) → ((at : ℕ) (fs : Fields) → b ≡ below c (node at k fs) 2) → e₁ ≡ d - 1 → e₂ ≡ d - 1
      → Does g g₁ (say (puts (part at q t)))
      → (GoodFields t (look_node t e₁) (Good t e₁) false (fields_in_of switch_front) m x → Does g₁ g₂ (emits_fields false a (look_fields t (look_node t e₁) (fields_in_of switch_front) m x).value))
      → y ≡ (look_fields t (look_node t e₁) (fields_in_of switch_front) m x).next
      → (GoodFields t (look_node t e₂) (Good t e₂) false (fields_in_of switch_cases) (m / 4) y → Does g₂ g' (emits_fields false b (look_fields t (look_node t e₂) (fields_in_of switch_cases) (m / 4) y).value))
      → Good t d at → Does g g' (stays c (look_node t d at).value)
  switch_does c a b zero at k m p q e₁ e₂ x y z i s u v w o f h e l head first n rest = absurd (z refl)
  switch_does {g₁ = g₁} {g₂ = g₂} {g' = g'} c a b (suc d) at k m p q e₁ e₂ x y z i s u v w o f h e l head first n rest =
      let e : e₁ ≡ d = omega arith in
      let l : e₂ ≡ d = omega arith in
      switch_here c a b d at k m p q x y i s u v w o f h
      (subst (λ (j : ℕ). y ≡ (look_fields t (look_node t j) (fields_in_of switch_front) m x).next) e n)
      head
      (subst (λ (j : ℕ). GoodFields t (look_node t j) (Good t j) false (fields_in_of switch_front) m x → Does g₁ g₂ (emits_fields false a (look_fields t (look_node t j) (fields_in_of switch_front) m x).value)) e first)
      (subst (λ (j : ℕ). GoodFields t (look_node t j) (Good t j) false (fields_in_of switch_cases) (m / 4) y → Does g₂ g' (emits_fields false b (look_fields t (look_node t j) (fields_in_of switch_cases) (m / 4) y).value)) l rest)

-- ---- tests of the code

pub below_is : (c : Place) (at k : ℕ) (fs : Fields) (n : ℕ) (r s i : Bool) → i ≡ opens_scope k n → r ≡ c.root && not i → s ≡ eqb k 3 || (eqb k 31 && c.statement)
    → record { root = r; statement = s; mark = c.mark } ≡ below c (node at k fs) n
unfolding below is
below_is c at k fs n r s i e f g =
    let h : r ≡ c.root && not (opens_scope k n) = f ∙ ap (λ (x : Bool). c.root && not x) e in
    λ j. record { root = (h) j; statement = (g) j; mark = c.mark }

-- the kinds are told apart by tests of one number: one that is none of them leads to nothing
pub some_scope : (k i : ℕ) → ((k ≡ 2 → ⊥) → (k ≡ 6 → ⊥) → (k ≡ 7 → ⊥) → (k ≡ 8 → ⊥) → (k ≡ 10 → ⊥) → (k ≡ 14 → ⊥) → (k ≡ 17 → ⊥) → (k ≡ 40 → ⊥) → (k ≡ 42 → ⊥) → ⊥)
    → true ≡ opens_scope k i
unfolding opens_scope
some_scope k i h = go (opens_scope k i) refl
  where
    go : (b : Bool) → opens_scope k i ≡ b → true ≡ b
    go true e = refl
    go false e =
        let no : (n : ℕ) → opens_scope n i ≡ true → k ≡ n → ⊥ = λ n t z. false≢true (sym e ∙ ap (λ (x : ℕ). opens_scope x i) z ∙ t) in
        absurd (h (no 2 refl) (no 6 refl) (no 7 refl) (no 8 refl) (no 10 refl) (no 14 refl) (no 17 refl) (no 40 refl) (no 42 refl))

pub no_scope : (k i : ℕ) → (k ≡ 2 → ⊥) → (k ≡ 6 → ⊥) → (k ≡ 7 → ⊥) → (k ≡ 8 → ⊥) → (k ≡ 10 → ⊥) → (k ≡ 14 → ⊥) → (k ≡ 17 → ⊥) → (k ≡ 40 → ⊥) → (k ≡ 42 → ⊥) → (k ≡ 43 → ⊥)
    → false ≡ opens_scope k i
unfolding opens_scope
no_scope k i a b c d e f g h j l =
    rw (ne_eqb k 2 a, ne_eqb k 6 b, ne_eqb k 7 c, ne_eqb k 8 d, ne_eqb k 10 e, ne_eqb k 14 f, ne_eqb k 17 g, ne_eqb k 40 h, ne_eqb k 42 j, ne_eqb k 43 l) refl

pub no_container : (k : ℕ) → (k ≡ 1 → ⊥) → (k ≡ 2 → ⊥) → (k ≡ 16 → ⊥) → (k ≡ 42 → ⊥) → (k ≡ 44 → ⊥) → false ≡ is_container k
unfolding is_container
no_container k a b c d e = rw (ne_eqb k 1 a, ne_eqb k 2 b, ne_eqb k 16 c, ne_eqb k 42 d, ne_eqb k 44 e) refl

pub some_container : (k : ℕ) → ((k ≡ 1 → ⊥) → (k ≡ 2 → ⊥) → (k ≡ 16 → ⊥) → (k ≡ 42 → ⊥) → (k ≡ 44 → ⊥) → ⊥) → true ≡ is_container k
unfolding is_container
some_container k h = go (is_container k) refl
  where
    go : (b : Bool) → is_container k ≡ b → true ≡ b
    go true e = refl
    go false e =
        let no : (n : ℕ) → is_container n ≡ true → k ≡ n → ⊥ = λ n t z. false≢true (sym e ∙ ap is_container z ∙ t) in
        absurd (h (no 1 refl) (no 2 refl) (no 16 refl) (no 42 refl) (no 44 refl))
