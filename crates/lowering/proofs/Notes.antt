-- What holds of every note of a walk, if it holds of the note of each rewriting.
-- Assumes nothing.
use mathlib.Core.List.{List, [], ◌∷◌, ◌++◌}
use Prim.Native.Nat.{ℕ, zero, suc, ◌+◌}
use mathlib.Core.Bool.{Bool, cond}
use Rattle.tree.specs.Tree.{Node, Fields, Piece, Items}
use Rattle.tree.specs.Tree.Node.{node}
use Rattle.lowering.specs.Made.{Context}
use Rattle.lowering.specs.Walk.{Note, Walked, each_item_of, each_piece, each_field, inside, rewrite, within, walk, unchanged}
use Rattle.lowering.specs.Weight.{weight, walked}
use Rattle.lowering.specs.Collect.{Visit, new_in, new_in_piece, is_container, mark_of, marked, visits, visits_fields, visits_piece, visits_items}

module _ (P : Note → Type 0) where
  abbrev pub AllNotes : List Visit → Type 0
  AllNotes [] = Unit {0}
  AllNotes (v ∷ vs) = P v.note × AllNotes vs

  pub both : (us vs : List Visit) → AllNotes us → AllNotes vs → AllNotes (us ++ vs)
  both [] vs h k = k
  both (u ∷ us) vs h k = (h.0, both us vs h.1 k)

  -- every note of a walked node, wherever it stands
  abbrev pub Everywhere : Walked → Type 0
  Everywhere w = (next m : ℕ) → AllNotes (visits next m w)

  in_items : (w : ℕ → Node → Walked) → ((j : ℕ) (n : Node) → Everywhere (w j n)) → (is : Items) (j : ℕ) (l : Bool) (next m : ℕ) → AllNotes (visits_items l next m (each_item_of w j is))
  unfolding each_item_of visits
  in_items w h Items.none j l next m = tt
  in_items w h (Items.hole is) j l next m = in_items w h is (suc j) l next m
  in_items w h (Items.item n is) j l next m =
      both (visits next (cond l (marked next (mark_of (w j n))) m) (w j n)) (visits_items l (next + new_in (w j n)) m (each_item_of w (suc j) is))
      (h j n next (cond l (marked next (mark_of (w j n))) m)) (in_items w h is (suc j) l (next + new_in (w j n)) m)

  in_piece : (w : ℕ → Node → Walked) → ((j : ℕ) (n : Node) → Everywhere (w j n)) → (p : Piece) (l : Bool) (next m : ℕ) → AllNotes (visits_piece l next m (each_piece w p))
  unfolding each_piece visits
  in_piece w h (Piece.one n) l next m = h 0 n next m
  in_piece w h (Piece.list is) l next m = in_items w h is 0 l next m
  in_piece w h (Piece.text bs) l next m = tt
  in_piece w h (Piece.byte b) l next m = tt
  in_piece w h (Piece.mark b) l next m = tt
  in_piece w h (Piece.number b) l next m = tt

  in_fields : (w : ℕ → ℕ → Node → Walked) → ((i j : ℕ) (n : Node) → Everywhere (w i j n)) → (fs : Fields) (i : ℕ) (l : Bool) (next m : ℕ) → AllNotes (visits_fields l next m (each_field w i fs))
  unfolding each_field visits
  in_fields w h Fields.done i l next m = tt
  in_fields w h (Fields.absent fs) i l next m = in_fields w h fs (suc i) l next m
  in_fields w h (Fields.field p fs) i l next m =
      both (visits_piece l next m (each_piece (w i) p)) (visits_fields l (next + new_in_piece (each_piece (w i) p)) m (each_field w (suc i) fs))
      (in_piece (w i) (h i) p l next m) (in_fields w h fs (suc i) l (next + new_in_piece (each_piece (w i) p)) m)

  in_node_lem : (note : Note) → P note → (w : ℕ → ℕ → Node → Walked) → ((i j : ℕ) (n : Node) → Everywhere (w i j n)) → (n : Node) → Everywhere (inside note w n)
  unfolding inside visits
  in_node_lem note p w h (node at k fs) next m = (p, in_fields w h fs 0 (is_container k) next m)

  module _ (silent : (n : Node) → P (unchanged n).note) (step : (c : Context) (n : Node) → P (rewrite c n).note) where
    pub in_walk : (f : ℕ) (c : Context) (n : Node) → Everywhere (walk f c n)
    unfolding walk visits
    in_walk zero c n next m = (silent n, tt)
    in_walk (suc f) c n next m =
        in_node_lem (rewrite c n).note (step c n) (λ i j k. walk f (within c (rewrite c n).result i j) k)
        (λ i j k. in_walk f (within c (rewrite c n).result i j) k) (rewrite c n).result next m

    pub in_walked : (c : Context) (n : Node) → Everywhere (walked c n)
    unfolding walked
    in_walked c n = in_walk (weight n) c n
