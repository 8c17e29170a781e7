-- Which patterns are moved, how many they are, and what is made for them.
-- Assumes nothing.
use mathlib.Core.Path.{◌≡◌, refl, ap, ap₂, ◌∙◌}
use mathlib.Core.Bool.{Bool, true, false, cond}
use mathlib.Core.List.{List, [], ◌∷◌, ◌++◌, append-nil}
use Prim.Native.Nat.{ℕ, ◌+◌, ◌≤◌}
use native.Mathlib.Omega.{arith}
use Rattle.tree.specs.Tree.{Node, Fields, Piece, Items, depth, depth_fields, depth_items}
use Rattle.tree.specs.Tree.Node.{node}
use Rattle.lowering.specs.Parts.{position, piece_in, node_at_of, items_at_of, number_at, stands, is_empty, only, each, gather, ◌+++◌}
use Rattle.lowering.specs.Made.{Context, reference}
use Rattle.lowering.specs.Patterns.{shape, has_object_rest}
use Rattle.lowering.specs.Patterns.Shape.{object_pattern, default, leaf}
use Rattle.lowering.specs.Heads.{moved, is_moved, moved_from, references, function_makes, arrow_makes, catch_makes, declaring_makes, assigning_makes}
use Rattle.lowering.specs.Walk.{rewritten}
use Rattle.lowering.proofs.Levels.{moved_levels, gather_agrees, moved_nothing}
use Rattle.sink.specs.Machine.{Event}
use Rattle.direct.specs.Events.{Deed, cell, cell_of, made, refused, entered, excluded_keys, hands_out}
use Rattle.direct.specs.Events.Deed.{does}
use Rattle.direct.specs.Moved.{moved_in_of, makes, number}
use Rattle.lowering.proofs.ItemLaws.{items_none, gather_none}

-- ---- lists

pub gather_hole : (f : Node → Items) (is : Items) → gather f (Items.hole is) ≡ gather f is
unfolding gather
gather_hole f ns = refl

pub gather_item : (f : Node → Items) (n : Node) (is : Items) → gather f (Items.item n is) ≡ f n +++ gather f is
unfolding gather
gather_item f n ns = refl

-- ---- which patterns are moved

pub moved_object : (p : Node) → shape p ≡ object_pattern → moved_in_of p ≡ only p
unfolding moved_in_of moved depth
moved_object (node at k fs) e = rw (e, moved) refl

pub moved_default : (p : Node) → shape p ≡ default → moved_in_of p ≡ only p
unfolding moved_in_of moved depth
moved_default (node at k fs) e = rw (e, moved) refl

pub moved_leaf : (p : Node) → shape p ≡ leaf → moved_in_of p ≡ Items.none
unfolding moved_in_of moved depth
moved_leaf (node at k fs) e = rw (e, moved) refl

gather_levels : (d : ℕ) (is : Items) → depth_items is ≤ d → gather (λ e. moved d e) is ≡ gather moved_in_of is
unfolding moved_in_of
gather_levels d ns h = gather_agrees (λ e. moved d e) moved_in_of d (λ e l. moved_levels d e l) ns h

pub moved_array_rest : (at : ℕ) (is : Items) (r : Node)
    → moved_in_of (node at 36 (Fields.field (Piece.list is) (Fields.field (Piece.one r) Fields.done))) ≡ gather moved_in_of is +++ moved_in_of r
unfolding moved_in_of moved shape depth items_at_of node_at_of piece_in
moved_array_rest at ns r =
    let d = depth_fields (Fields.field (Piece.list ns) (Fields.field (Piece.one r) Fields.done)) in
    ap₂ (λ (x y : Items). x +++ y) (gather_levels d ns (omega arith)) (moved_levels d r (omega arith))

pub moved_array : (at : ℕ) (is : Items) → moved_in_of (node at 36 (Fields.field (Piece.list is) (Fields.absent Fields.done))) ≡ gather moved_in_of is
unfolding moved_in_of moved shape depth items_at_of node_at_of piece_in
moved_array at ns =
    let d = depth_fields (Fields.field (Piece.list ns) (Fields.absent Fields.done)) in
    ap₂ (λ (x y : Items). x +++ y) (gather_levels d ns (omega arith)) (moved_nothing d) ∙ items_none (gather moved_in_of ns)

-- of a Param or a Declarator
pub from_kept : (q : Node) → is_moved q ≡ false → moved_from q ≡ Items.none
unfolding moved_from
from_kept q h = rw h refl

pub from_moved : (at k : ℕ) (p : Node) (fs : Fields) → has_object_rest p ≡ true → moved_from (node at k (Fields.field (Piece.one p) fs)) ≡ moved_in_of p
unfolding moved_from is_moved node_at_of piece_in moved_in_of
from_moved at k p fs h = rw h refl

-- ---- how many they are

pub number_join : (is js : Items) → number (is +++ js) ≡ number is + number js
unfolding number ◌+++◌
number_join Items.none js = omega arith
number_join (Items.hole ns) js = number_join ns js
number_join (Items.item n ns) js = let e = number_join ns js in omega arith

pub number_none : number Items.none ≡ 0
unfolding number
number_none = refl

-- of items, or of Params or Declarators
pub number_item : (f : Node → Items) (n : Node) (is : Items) → number (gather f (Items.item n is)) ≡ number (f n) + number (gather f is)
number_item f n ns = ap number (gather_item f n ns) ∙ number_join (f n) (gather f ns)

pub number_empty : (f : Node → Items) → number (gather f Items.none) ≡ 0
number_empty f = ap number (gather_none f) ∙ number_none

-- ---- what is made for them

pub makes_join : (is js : Items) → makes (is +++ js) ≡ makes is ++ makes js
unfolding makes ◌+++◌
makes_join Items.none js = refl
makes_join (Items.hole ns) js = makes_join ns js
makes_join (Items.item n ns) js = ap (λ (x : List Deed). does (Event.make (cell 1 (position n))) ∷ x) (makes_join ns js)

pub makes_none : makes Items.none ≡ []
unfolding makes
makes_none = refl

pub makes_only : (p : Node) → makes (only p) ≡ does (Event.make (cell 1 (position p))) ∷ []
unfolding makes
makes_only p = refl

pub makes_kept : (q : Node) → is_moved q ≡ false → makes (moved_from q) ≡ []
makes_kept q h = ap makes (from_kept q h) ∙ makes_none

pub makes_moved : (at k : ℕ) (p : Node) (fs : Fields) → has_object_rest p ≡ true → makes (moved_from (node at k (Fields.field (Piece.one p) fs))) ≡ makes (moved_in_of p)
makes_moved at k p fs h = ap makes (from_moved at k p fs h)

pub makes_object : (p : Node) → shape p ≡ object_pattern → makes (moved_in_of p) ≡ does (Event.make (cell 1 (position p))) ∷ []
makes_object p e = ap makes (moved_object p e) ∙ makes_only p

pub makes_default : (p : Node) → shape p ≡ default → makes (moved_in_of p) ≡ does (Event.make (cell 1 (position p))) ∷ []
makes_default p e = ap makes (moved_default p e) ∙ makes_only p

pub makes_leaf : (p : Node) → shape p ≡ leaf → makes (moved_in_of p) ≡ []
makes_leaf p e = ap makes (moved_leaf p e) ∙ makes_none

pub makes_array_rest : (at : ℕ) (is : Items) (r : Node)
    → makes (moved_in_of (node at 36 (Fields.field (Piece.list is) (Fields.field (Piece.one r) Fields.done)))) ≡ makes (gather moved_in_of is) ++ makes (moved_in_of r)
makes_array_rest at ns r = ap makes (moved_array_rest at ns r) ∙ makes_join (gather moved_in_of ns) (moved_in_of r)

pub makes_array : (at : ℕ) (is : Items) → makes (moved_in_of (node at 36 (Fields.field (Piece.list is) (Fields.absent Fields.done)))) ≡ makes (gather moved_in_of is)
makes_array at ns = ap makes (moved_array at ns)

-- ---- what the rules for heads hand out

made_references : (k : Context) (ps : Items) → made (references k ps) ≡ makes ps
unfolding each made makes number_at piece_in cell_of
made_references k Items.none = refl
made_references k (Items.hole ns) = made_references k ns
made_references k (Items.item n ns) = ap (λ (x : List Deed). does (Event.make (cell 1 (position n))) ∷ x) (made_references k ns)

hands_made : (m : ℕ) (ts : Items) (r : Node) → hands_out m (rewritten ts r).note ≡ made ts
unfolding hands_out refused entered excluded_keys is_empty
hands_made m ts r = append-nil (made ts ++ []) ∙ append-nil (made ts)

pub hands_references : (m : ℕ) (k : Context) (ps : Items) (r : Node) → hands_out m (rewritten (references k ps) r).note ≡ makes ps
hands_references m k ps r = hands_made m (references k ps) r ∙ made_references k ps

module _ (m : ℕ) (k : Context) (n r : Node) where
  pub hands_function : stands 5 n ≡ true → hands_out m (rewritten (function_makes k n) r).note ≡ makes (gather moved_from (items_at_of 3 n))
  unfolding function_makes
  hands_function h =
      ap (λ (b : Bool). hands_out m (rewritten (cond b (references k (gather moved_from (items_at_of 3 n))) Items.none) r).note) h
      ∙ hands_references m k (gather moved_from (items_at_of 3 n)) r

  pub hands_arrow : hands_out m (rewritten (arrow_makes k n) r).note ≡ makes (gather moved_from (items_at_of 0 n))
  unfolding arrow_makes
  hands_arrow = hands_references m k (gather moved_from (items_at_of 0 n)) r

  pub hands_catch : hands_out m (rewritten (catch_makes k n) r).note ≡ makes (moved_from (node_at_of 0 n))
  unfolding catch_makes
  hands_catch = hands_references m k (moved_from (node_at_of 0 n)) r

  pub hands_declaring : hands_out m (rewritten (declaring_makes k n) r).note ≡ makes (gather moved_from (items_at_of 2 (node_at_of 1 n)))
  unfolding declaring_makes
  hands_declaring = hands_references m k (gather moved_from (items_at_of 2 (node_at_of 1 n))) r

  pub hands_assigning : has_object_rest (node_at_of 1 n) ≡ true
      → hands_out m (rewritten (assigning_makes k n) r).note ≡ does (Event.make (cell 1 (position (node_at_of 1 n)))) ∷ []
  unfolding assigning_makes each
  hands_assigning h =
      ap (λ (b : Bool). hands_out m (rewritten (cond b (only (reference k (node_at_of 1 n))) Items.none) r).note) h
      ∙ hands_references m k (only (node_at_of 1 n)) r
      ∙ makes_only (node_at_of 1 n)
