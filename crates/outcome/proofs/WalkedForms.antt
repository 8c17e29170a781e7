-- The walk of a good node: its Temporaries and Helpers are such, and what holds of the note of each rewriting of a good node holds of every note.
-- Assumes nothing.
use mathlib.Core.Path.{◌≡◌, ap}
use mathlib.Core.Bool.{Bool, cond}
use Prim.Native.Nat.{ℕ, zero, suc, ◌+◌}
use native.Mathlib.Omega.{arith}
use borrow.Author.Tests.{eqb-true}
use Rattle.tree.specs.Tree.{Node, Fields, Piece, Items}
use Rattle.tree.specs.Tree.Node.{node}
use Rattle.lowering.specs.Made.{Context}
use Rattle.lowering.specs.Walk.{Note, Walked, each_item_of, each_piece, each_field, inside, rewrite, within, walk, unchanged}
use Rattle.lowering.specs.Weight.{weight, walked}
use Rattle.lowering.specs.Collect.{new_in, new_in_piece, is_container, mark_of, marked, visits, visits_fields, visits_piece, visits_items}
use Rattle.lowering.proofs.All.{AllItems, AllPiece, AllFields, Each, weaker_each}
use Rattle.lowering.proofs.Notes.{AllNotes, both, Everywhere}
use Rattle.outcome.proofs.Tokens.{IsTemporary, IsHelper, Formed, FormedFields, FormedPiece, FormedItems}
use Rattle.outcome.proofs.Scope.{IsNamed}
use Rattle.outcome.proofs.GoodNodes.{IsHelping, Good, parts}
use Rattle.outcome.proofs.GoodRules.{rewrite_good}

-- ---- forms

walked_named : (w : ℕ → ℕ → Node → Walked) (fs : Fields) → IsNamed fs → IsTemporary (each_field w 0 fs)
unfolding each_field each_piece
walked_named w fs h = record { stem = h.stem; path = h.path; whole = ap (each_field w 0) h.whole }

walked_helping : (w : ℕ → ℕ → Node → Walked) (fs : Fields) → IsHelping fs → IsHelper (each_field w 0 fs)
unfolding each_field each_piece
walked_helping w fs h = record { which = h.which; whole = ap (each_field w 0) h.whole }

module _ (w : ℕ → ℕ → Node → Walked) where
  abbrev Part : Node → Type 0
  Part m = (i j : ℕ) → Formed (w i j m)

  formed_items : (i : ℕ) (is : Items) (j : ℕ) → AllItems Part is → FormedItems (each_item_of (w i) j is)
  unfolding each_item_of
  formed_items i Items.none j h = tt
  formed_items i (Items.hole is) j h = formed_items i is (suc j) h
  formed_items i (Items.item n is) j h = (h.0 i j, formed_items i is (suc j) h.1)

  formed_piece : (i : ℕ) (p : Piece) → AllPiece Part p → FormedPiece (each_piece (w i) p)
  unfolding each_piece
  formed_piece i (Piece.one n) h = h i 0
  formed_piece i (Piece.list is) h = formed_items i is 0 h
  formed_piece i (Piece.text bs) h = tt
  formed_piece i (Piece.byte b) h = tt
  formed_piece i (Piece.mark b) h = tt
  formed_piece i (Piece.number b) h = tt

  formed_fields : (fs : Fields) (i : ℕ) → AllFields Part fs → FormedFields (each_field w i fs)
  unfolding each_field
  formed_fields Fields.done i h = tt
  formed_fields (Fields.absent fs) i h = formed_fields fs (suc i) h
  formed_fields (Fields.field p fs) i h = (formed_piece i p h.0, formed_fields fs (suc i) h.1)

  formed_node : (note : Note) (n : Node) → Good n → Each Part n → Formed (inside note w n)
  unfolding inside
  formed_node note (node at k fs) g h =
      ((λ e. walked_named w fs (g.0.temporary e)), (λ e. walked_helping w fs (g.0.helper e)), formed_fields fs 0 h)

pub walk_formed : (f : ℕ) (c : Context) (n : Node) → Good n → Formed (walk f c n)
unfolding walk
walk_formed zero c n g =
    ((λ e. absurd (let z : 0 ≡ 20 = eqb-true 0 20 e in omega arith)), (λ e. absurd (let z : 0 ≡ 21 = eqb-true 0 21 e in omega arith)), tt)
walk_formed (suc f) c n g =
    let s = rewrite c n in
    let r = s.result in
    let w : ℕ → ℕ → Node → Walked = λ i j m. walk f (within c r i j) m in
    let h = rewrite_good c n g in
    formed_node w s.note r h (weaker_each Good (Part w) (λ m k i j. walk_formed f (within c r i j) m k) r (parts r h))

pub walked_formed : (c : Context) (n : Node) → Good n → Formed (walked c n)
unfolding walked
walked_formed c n g = walk_formed (weight n) c n g

-- ---- notes

module _ (P : Note → Type 0) where
  module _ (w : ℕ → ℕ → Node → Walked) where
    abbrev All : Node → Type 0
    All m = (i j : ℕ) → Everywhere P (w i j m)

    in_items : (i : ℕ) (is : Items) (j : ℕ) → AllItems All is → (l : Bool) (next m : ℕ) → AllNotes P (visits_items l next m (each_item_of (w i) j is))
    unfolding each_item_of visits
    in_items i Items.none j h l next m = tt
    in_items i (Items.hole is) j h l next m = in_items i is (suc j) h l next m
    in_items i (Items.item n is) j h l next m =
        both P (visits next (cond l (marked next (mark_of (w i j n))) m) (w i j n)) (visits_items l (next + new_in (w i j n)) m (each_item_of (w i) (suc j) is))
        (h.0 i j next (cond l (marked next (mark_of (w i j n))) m)) (in_items i is (suc j) h.1 l (next + new_in (w i j n)) m)

    in_piece : (i : ℕ) (p : Piece) → AllPiece All p → (l : Bool) (next m : ℕ) → AllNotes P (visits_piece l next m (each_piece (w i) p))
    unfolding each_piece visits
    in_piece i (Piece.one n) h l next m = h i 0 next m
    in_piece i (Piece.list is) h l next m = in_items i is 0 h l next m
    in_piece i (Piece.text bs) h l next m = tt
    in_piece i (Piece.byte b) h l next m = tt
    in_piece i (Piece.mark b) h l next m = tt
    in_piece i (Piece.number b) h l next m = tt

    in_fields : (fs : Fields) (i : ℕ) → AllFields All fs → (l : Bool) (next m : ℕ) → AllNotes P (visits_fields l next m (each_field w i fs))
    unfolding each_field visits
    in_fields Fields.done i h l next m = tt
    in_fields (Fields.absent fs) i h l next m = in_fields fs (suc i) h l next m
    in_fields (Fields.field p fs) i h l next m =
        both P (visits_piece l next m (each_piece (w i) p)) (visits_fields l (next + new_in_piece (each_piece (w i) p)) m (each_field w (suc i) fs))
        (in_piece i p h.0 l next m) (in_fields fs (suc i) h.1 l (next + new_in_piece (each_piece (w i) p)) m)

    in_node_lem : (note : Note) (n : Node) → P note → Each All n → Everywhere P (inside note w n)
    unfolding inside visits
    in_node_lem note (node at k fs) p h next m = (p, in_fields fs 0 h (is_container k) next m)

  module _ (silent : (n : Node) → P (unchanged n).note) (step : (c : Context) (n : Node) → Good n → P (rewrite c n).note) where
    in_walk : (f : ℕ) (c : Context) (n : Node) → Good n → Everywhere P (walk f c n)
    unfolding walk visits
    in_walk zero c n g next m = (silent n, tt)
    in_walk (suc f) c n g next m =
        let s = rewrite c n in
        let r = s.result in
        let w : ℕ → ℕ → Node → Walked = λ i j k. walk f (within c r i j) k in
        in_node_lem w s.note r (step c n g) (weaker_each Good (All w) (λ k h i j. in_walk f (within c r i j) k h) r (parts r (rewrite_good c n g))) next m

    -- every note of the walk of a good node
    pub good_notes : (c : Context) (n : Node) → Good n → Everywhere P (walked c n)
    unfolding walked
    good_notes c n g = in_walk (weight n) c n g
