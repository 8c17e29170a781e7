-- The loop of `leftover`: a pass that keeps whether a rest was met.
-- Assumes nothing.
use mathlib.Core.Path.{◌≡◌, refl, sym, ap, ap₂, ◌∙◌}
use mir.Val.{bool_byte}
use mathlib.Core.Bool.{Bool, true, false, cond, ◌&&◌, ◌||◌, true≢false, or-false}
use mathlib.Core.List.{List, [], ◌∷◌, ◌++◌}
use Prim.Native.Nat.{ℕ, ◌+◌, ◌-◌, ◌*◌, ◌/◌, ◌%◌, ◌<◌, ◌≤◌}
use native.Mathlib.Omega.{arith}
use lib.Dec.{eqb}
use lib.ListN.{length}
use borrow.Author.Tests.{eq-eqb, ne_eqb}
use Rattle.tree.specs.Tree.{Node, Fields, Piece, Items, map_of}
use Rattle.tree.specs.Tree.Node.{node}
use Rattle.tree.specs.Grammar.Stage.{rewritten}
use Rattle.tree.specs.Read.{Got, read_tree}
use Rattle.tree.specs.Read.Got.{got, refused}
use Rattle.lowering.specs.Parts.{is, stands, stands_in}
use Rattle.lowering.specs.Collect.{nodes, nodes_fields, nodes_piece, nodes_items}
use Rattle.rewritten.specs.Events.{Event, events, events_fields, events_piece, events_items}
use Rattle.rewritten.specs.Steps.{start, Took, Onward, event_in}
use Rattle.rewritten.specs.Pass.{folded, passed}
use Rattle.rewritten.specs.declared.step.Cursor.{Cursor}
use Rattle.rewritten.specs.declared.step.Event as told
use Rattle.rewritten.specs.declared.step.Step.{Step}
use Rattle.rewritten.specs.declared.step.Step.TheVariants.{Next, Done, Refused}
use Rattle.rewritten.proofs.Pass.{coming, onward, Inside, inside_start, inside_next, step_falls, concluded, concluded_start, concluded_next, concluded_whole, concluded_early, concluded_refused, passed_long}
use Rattle.result.specs.Left.{keeps_rest, any_of}
use Rattle.result.proofs.Occurring.{or_assoc, any_append}
use Rattle.result.specs.Leftover.{rest_left, left_in, leftover, is_rested, rest_met, meet_rest}

-- ---- the events of a tree meet what its nodes have

unfoldable met_in : List Event → Bool
met_in [] = false
met_in (e ∷ es) = rest_met e || met_in es

folded_met : (s : Bool) (es : List Event) → folded meet_rest s es ≡ s || met_in es
unfolding folded meet_rest met_in
folded_met s [] = sym (or-false s)
folded_met s (e ∷ es) = folded_met (s || rest_met e) es ∙ or_assoc s (rest_met e) (met_in es)

met_append : (es fs : List Event) → met_in (es ++ fs) ≡ met_in es || met_in fs
unfolding met_in
met_append [] fs = refl
met_append (e ∷ es) fs = ap (λ (b : Bool). rest_met e || b) (met_append es fs) ∙ sym (or_assoc (rest_met e) (met_in es) (met_in fs))

-- bit 1 of the map is the second field
bit_one : (fs : Fields) → eqb (map_of fs / 2 % 2) 1 ≡ stands_in fs 1
unfolding map_of stands_in
bit_one Fields.done = refl
bit_one (Fields.absent Fields.done) = refl
bit_one (Fields.absent (Fields.absent fs)) = ne_eqb (2 * (2 * map_of fs) / 2 % 2) 1 (λ e. omega arith)
bit_one (Fields.absent (Fields.field p fs)) = eq-eqb (2 * (1 + 2 * map_of fs) / 2 % 2) 1 (omega arith)
bit_one (Fields.field p Fields.done) = refl
bit_one (Fields.field p (Fields.absent fs)) = ne_eqb ((1 + 2 * (2 * map_of fs)) / 2 % 2) 1 (λ e. omega arith)
bit_one (Fields.field p (Fields.field q fs)) = eq-eqb ((1 + 2 * (1 + 2 * map_of fs)) / 2 % 2) 1 (omega arith)

mutual
  unfolding met_in rest_met events nodes any_of keeps_rest is_rested is stands

  node_met : (n : Node) → met_in (events n) ≡ any_of keeps_rest (nodes n)
  node_met (node at k fs) =
      ap₂ (λ (a b : Bool). a || b) (ap (λ (b : Bool). eqb k 34 && b) (bit_one fs))
      (met_append (events_fields fs) (Event.ends ∷ []) ∙ (or-false (met_in (events_fields fs)) ∙ fields_met fs))

  fields_met : (fs : Fields) → met_in (events_fields fs) ≡ any_of keeps_rest (nodes_fields fs)
  fields_met Fields.done = refl
  fields_met (Fields.absent fs) = fields_met fs
  fields_met (Fields.field p fs) =
      met_append (events_piece p) (events_fields fs) ∙ (ap₂ (λ (a b : Bool). a || b) (piece_met p) (fields_met fs) ∙ sym (any_append keeps_rest (nodes_piece p) (nodes_fields fs)))

  piece_met : (p : Piece) → met_in (events_piece p) ≡ any_of keeps_rest (nodes_piece p)
  piece_met (Piece.one n) = node_met n
  piece_met (Piece.list is) = met_append (events_items is) (Event.closes ∷ []) ∙ (or-false (met_in (events_items is)) ∙ items_met is)
  piece_met (Piece.text bs) = refl
  piece_met (Piece.byte b) = refl
  piece_met (Piece.mark n) = refl
  piece_met (Piece.number n) = refl

  items_met : (is : Items) → met_in (events_items is) ≡ any_of keeps_rest (nodes_items is)
  items_met Items.none = refl
  items_met (Items.hole is) = items_met is
  items_met (Items.item n is) = met_append (events n) (events_items is) ∙ (ap₂ (λ (a b : Bool). a || b) (node_met n) (items_met is) ∙ sym (any_append keeps_rest (nodes n) (nodes_items is)))

-- what the pass answers is the definition
abbrev answer : Bool → Bool
answer b = b

left_is : (l : List ℕ) → passed meet_rest answer false false (read_tree rewritten (length l) l) ≡ leftover l
unfolding leftover rest_left
left_is l = go (read_tree rewritten (length l) l)
  where
    go : (g : Got Node) → passed meet_rest answer false false g ≡ left_in g
    go (got n q k) = folded_met false (events n) ∙ node_met n
    go (refused r) = refl

-- ---- one event

pub rested_34 : (k m : ℕ) → k ≡ 34 → eqb (m / 2 % 2) 1 ≡ is_rested k m
unfolding is_rested
rested_34 k m e = rw e refl

pub rested_other : (k m : ℕ) → (k ≡ 34 → ⊥) → eqb k 34 ≡ is_rested k m
unfolding is_rested
rested_other k m n = rw (ne_eqb k 34 n) refl

pub met_before : (b : Bool) (e : Event) → b ≡ true → b ≡ meet_rest b e
unfolding meet_rest
met_before b e h = rw h refl

pub met_now : (b r : Bool) (e : Event) → b ≡ false → r ≡ rest_met e → r ≡ meet_rest b e
unfolding meet_rest
met_now b r e h k = rw h k

-- ---- the loop

pub record Looking (l fs : List ℕ) (c : Cursor) (met : Bool) (frames : ℕ) (v : Bool) : Type 0 where
  pub tour : Inside l fs c frames
  pub will : concluded meet_rest answer false l met (coming l fs c) ≡ v

pub looking_start : (l fs : List ℕ) → length l ≤ 32768 → (c : Cursor) → c ≡ start → Looking l fs c false (length fs) (leftover l)
looking_start l fs h c e = rw e (record { tour = inside_start l fs; will = concluded_start meet_rest answer false l fs false h ∙ left_is l })

pub too_long : (l : List ℕ) → 32768 < length l → false ≡ leftover l
too_long l h = passed_long meet_rest answer false l false h ∙ left_is l

module _ (l fs later : List ℕ) (c : Cursor) (met : Bool) (frames : ℕ) (v : Bool) (g : Looking l fs c met frames v) (r : Step) (t : Took l fs later (coming l fs c) c.at c.deep r) where
  module _ (e : told.Event) (d : Cursor) (w : r ≡ Next e d) where
    goes : Onward l fs later (coming l fs c) c.at c.deep e d
    goes = onward l fs later c r t e d w

    pub looking_falls : (length l - d.at) + d.deep < (length l - c.at) + c.deep
    looking_falls = step_falls l fs later c frames g.tour e d goes

    pub looking_next : length later ≡ length fs → (after : Bool) → ((tree : List ℕ) → after ≡ meet_rest met (event_in tree e)) → Looking l later d after frames v
    looking_next same after so = record {
      tour = inside_next l fs later c frames g.tour e d goes same;
      will = rw (so l) (concluded_next meet_rest answer false l fs later c met e d goes ∙ g.will);
    }

  pub looking_ends : r ≡ Done → c.at ≡ length l → met ≡ v
  looking_ends w e = sym (concluded_whole meet_rest answer false l fs later c met r t w e) ∙ g.will

  pub looking_early : r ≡ Done → (c.at ≡ length l → ⊥) → false ≡ v
  looking_early w n = sym (concluded_early meet_rest answer false l fs later c met r t w n) ∙ g.will

  pub looking_refused : r ≡ Refused → false ≡ v
  looking_refused w = sym (concluded_refused meet_rest answer false l fs later c met r t w) ∙ g.will

-- ---- the answer as a number

pub told_byte : (b : Bool) → bool_byte b ≡ cond b 1 0
told_byte true = refl
told_byte false = refl
