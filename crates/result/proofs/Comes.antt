-- What the walk leaves of a node, and is written, as a relation: no fuel, no numbers to be given. Every law of the tree that is written goes by it.
-- Assumes nothing.
use mathlib.Core.Path.{◌≡◌, refl}
use mathlib.Core.Bool.{Bool, false, cond}
use mathlib.Core.List.{List}
use Prim.Native.Nat.{ℕ, zero, suc, ◌+◌, ◌<◌, ◌≤◌}
use native.Mathlib.Omega.{arith}
use lib.Dec.{eqb}
use Rattle.tree.specs.Tree.{Node, Fields, Piece, Items}
use Rattle.tree.specs.Tree.Node.{node}
use Rattle.tree.specs.Grammar.{Sort, Field}
use Rattle.lowering.specs.Parts.{text_at_of, number_at, piece_in}
use Rattle.lowering.specs.Made.{Context, temporary}
use Rattle.lowering.specs.Walk.{Note, Walked, each_item_of, each_piece, each_field, inside, rewrite, within, walk}
use Rattle.lowering.specs.Weight.{weight, walked}
use Rattle.lowering.specs.Collect.{Name, same, name_of, new_in, new_in_fields, new_in_piece, new_in_items, is_container, mark_of, marked, visits, visits_fields, visits_piece, visits_items, first_refusal, bare, bare_fields, bare_piece, bare_items, number_in, numbered, numbered_fields, numbered_piece, numbered_items, with_number}
use Rattle.lowering.proofs.All.{AllItems, AllPiece, AllFields, Each, weaker_each, weaker_piece}
use Rattle.lowering.proofs.Weights.{weight_pos}
use Rattle.lowering.proofs.Falls.{falls}
use Rattle.lowering.proofs.RefusalsMet.{no_refusal, no_refusal_here}
use Rattle.result.proofs.Lies.{Texts, Lies, LieFields, LiePiece, LieItems}
use Rattle.result.proofs.Rules.{leaves}

mutual
  -- the node n is rewritten, without a refusal, and y is left of that
  pub data Comes : Node → Node → Type 0 where
    comes : (c : Context) {n y : Node} → (rewrite c n).note.refusal ≡ 0 → Left (rewrite c n).result y → Comes n y

  -- y is left of a node that was rewritten
  pub data Left : Node → Node → Type 0 where
    kept : {at k : ℕ} {fs gs : Fields} → eqb k 20 ≡ false → ComeFields fs gs → Left (node at k fs) (node at k gs)
    named : {at stem number : ℕ} {path : List ℕ} → number < 65536
        → Left (temporary path stem at) (node at 20 (Fields.field (Piece.number number) (Fields.field (Piece.byte stem) Fields.done)))

  pub data ComeFields : Fields → Fields → Type 0 where
    done : ComeFields Fields.done Fields.done
    absent : {fs gs : Fields} → ComeFields fs gs → ComeFields (Fields.absent fs) (Fields.absent gs)
    field : {p q : Piece} {fs gs : Fields} → ComePiece p q → ComeFields fs gs → ComeFields (Fields.field p fs) (Fields.field q gs)

  pub data ComePiece : Piece → Piece → Type 0 where
    one : {n y : Node} → Comes n y → ComePiece (Piece.one n) (Piece.one y)
    list : {is js : Items} → ComeItems is js → ComePiece (Piece.list is) (Piece.list js)
    text : {bs : List ℕ} → ComePiece (Piece.text bs) (Piece.text bs)
    byte : {b : ℕ} → ComePiece (Piece.byte b) (Piece.byte b)
    mark : {m j : ℕ} → j < 65536 → (0 < m → j ≡ m) → ComePiece (Piece.mark m) (Piece.mark j)
    number : {n : ℕ} → ComePiece (Piece.number n) (Piece.number n)

  pub data ComeItems : Items → Items → Type 0 where
    none : ComeItems Items.none Items.none
    hole : {is js : Items} → ComeItems is js → ComeItems (Items.hole is) (Items.hole js)
    item : {n y : Node} {is js : Items} → Comes n y → ComeItems is js → ComeItems (Items.item n is) (Items.item y js)

-- ---- no refusal in a list of visits

pub not_refused : (note : Note) (w : ℕ → ℕ → Node → Walked) (r : Node) (next m : ℕ) → first_refusal (visits next m (inside note w r)) ≡ 0 → note.refusal ≡ 0
unfolding inside visits
not_refused note w (node at k fs) next m r = (no_refusal_here (record { containing = m; note = note }) (visits_fields (is_container k) next m (each_field w 0 fs)) r).0

-- ---- the walk, with numbers given from a list of names

module _ (ns : List Name) (few : (a : Name) → number_in same 1 ns a < 65536) where
  -- what is written of a walked node, if nothing is refused in it
  abbrev pub Good : (T : Texts) → Node → Walked → Type 0
  Good T n w = (p next m : ℕ) → Lies T p n → first_refusal (visits next m w) ≡ 0 → next + new_in w ≤ 65536 → Comes n (numbered ns (bare next w))

  items_come_lem : {T : Texts} (w : ℕ → Node → Walked) {p : ℕ} {h : Bool} {is : Items} → LieItems T p h is → AllItems (λ n. (j : ℕ) → Good T n (w j n)) is → (j : ℕ) (l : Bool) (next m : ℕ)
      → first_refusal (visits_items l next m (each_item_of w j is)) ≡ 0 → next + new_in_items (each_item_of w j is) ≤ 65536 → ComeItems is (numbered_items ns (bare_items next (each_item_of w j is)))
  unfolding each_item_of visits bare numbered new_in
  items_come_lem w LieItems.none g j l next m r b = ComeItems.none
  items_come_lem w (LieItems.hole a) g j l next m r b = ComeItems.hole (items_come_lem w a g (suc j) l next m r b)
  items_come_lem w (LieItems.item {p = p} {n = n} {is = is} x a) g j l next m r b =
      let s = no_refusal (visits next (cond l (marked next (mark_of (w j n))) m) (w j n)) (visits_items l (next + new_in (w j n)) m (each_item_of w (suc j) is)) r in
      ComeItems.item (g.0 j p next (cond l (marked next (mark_of (w j n))) m) x s.0 (omega arith)) (items_come_lem w a g.1 (suc j) l (next + new_in (w j n)) m s.1 (omega arith))

  mark_comes : (next m : ℕ) → m < 65536 → next + new_in_piece (Rattle.lowering.specs.Walk.WalkedPiece.mark m) ≤ 65536 → ComePiece (Piece.mark m) (Piece.mark (marked next m))
  unfolding new_in
  mark_comes next zero a b = let z : next < 65536 = omega arith in ComePiece.mark {m = 0} z (λ (y : 0 < 0). absurd (omega arith))
  mark_comes next (suc m) a b = ComePiece.mark a (λ z. refl)

  piece_comes_lem : {T : Texts} (w : ℕ → Node → Walked) {b d : ℕ} {s : Sort} {p : Piece} → LiePiece T b s p d → AllPiece (λ n. (j : ℕ) → Good T n (w j n)) p → (l : Bool) (next m : ℕ)
      → first_refusal (visits_piece l next m (each_piece w p)) ≡ 0 → next + new_in_piece (each_piece w p) ≤ 65536 → ComePiece p (numbered_piece ns (bare_piece next (each_piece w p)))
  unfolding each_piece visits bare numbered new_in
  piece_comes_lem w (LiePiece.child {p = p} x) g l next m r b = ComePiece.one (g 0 p next m x r b)
  piece_comes_lem w (LiePiece.chosen {b = o} {p = p} {q = q} x) g l next m r b = ComePiece.one (g 0 (cond (eqb o 1) p q) next m x r b)
  piece_comes_lem w (LiePiece.many a) g l next m r b = ComePiece.list (items_come_lem w a g 0 l next m r b)
  piece_comes_lem w (LiePiece.gaps a) g l next m r b = ComePiece.list (items_come_lem w a g 0 l next m r b)
  piece_comes_lem w (LiePiece.text a) g l next m r b = ComePiece.text
  piece_comes_lem w (LiePiece.byte x y z) g l next m r b = ComePiece.byte
  piece_comes_lem w (LiePiece.mark {m = k} a) g l next m r b = mark_comes next k a b
  piece_comes_lem w (LiePiece.number a) g l next m r b = ComePiece.number

  fields_come : {T : Texts} (w : ℕ → ℕ → Node → Walked) {b : ℕ} {ts : List Field} {fs : Fields} → LieFields T b ts fs → AllFields (λ n. (i j : ℕ) → Good T n (w i j n)) fs → (i : ℕ) (l : Bool) (next m : ℕ)
      → first_refusal (visits_fields l next m (each_field w i fs)) ≡ 0 → next + new_in_fields (each_field w i fs) ≤ 65536 → ComeFields fs (numbered_fields ns (bare_fields next (each_field w i fs)))
  unfolding each_field visits bare numbered new_in
  fields_come w LieFields.done g i l next m r b = ComeFields.done
  fields_come w (LieFields.absent a) g i l next m r b = ComeFields.absent (fields_come w a g (suc i) l next m r b)
  fields_come {T = T} w (LieFields.needed {p = p} {fs = fs} x a) g i l next m r b =
      let s = no_refusal (visits_piece l next m (each_piece (w i) p)) (visits_fields l (next + new_in_piece (each_piece (w i) p)) m (each_field w (suc i) fs)) r in
      ComeFields.field (piece_comes_lem (w i) x (weaker_piece (λ n. (i j : ℕ) → Good T n (w i j n)) (λ n. (j : ℕ) → Good T n (w i j n)) (λ n h. h i) p g.0) l next m s.0 (omega arith))
      (fields_come w a g.1 (suc i) l (next + new_in_piece (each_piece (w i) p)) m s.1 (omega arith))
  fields_come {T = T} w (LieFields.given {p = p} {fs = fs} x a) g i l next m r b =
      let s = no_refusal (visits_piece l next m (each_piece (w i) p)) (visits_fields l (next + new_in_piece (each_piece (w i) p)) m (each_field w (suc i) fs)) r in
      ComeFields.field (piece_comes_lem (w i) x (weaker_piece (λ n. (i j : ℕ) → Good T n (w i j n)) (λ n. (j : ℕ) → Good T n (w i j n)) (λ n h. h i) p g.0) l next m s.0 (omega arith))
      (fields_come w a g.1 (suc i) l (next + new_in_piece (each_piece (w i) p)) m s.1 (omega arith))

  -- a node that was rewritten
  left_of_lem : {T : Texts} (note : Note) (w : ℕ → ℕ → Node → Walked) {p : ℕ} {r : Node} → Lies T p r → Each (λ n. (i j : ℕ) → Good T n (w i j n)) r → (next m : ℕ)
      → first_refusal (visits next m (inside note w r)) ≡ 0 → next + new_in (inside note w r) ≤ 65536 → (note.refusal ≡ 0) × Left r (numbered ns (bare next (inside note w r)))
  unfolding inside visits bare numbered new_in each_field each_piece with_number name_of text_at_of number_at piece_in
  left_of_lem note w (Lies.lies {at = at} {k = k} {fs = fs} z t u f) g next m r b =
      let s = no_refusal_here (record { containing = m; note = note }) (visits_fields (is_container k) next m (each_field w 0 fs)) r in
      (s.0, rw t (Left.kept t (fields_come w f g 0 (is_container k) next m s.1 b)))
  left_of_lem note w (Lies.named {at = at} {stem = stem} {path = path} z x y) g next m r b =
      let s = no_refusal_here (record { containing = m; note = note }) (visits_fields (is_container 20) next m (each_field w 0 (Fields.field (Piece.number stem) (Fields.field (Piece.text path) Fields.done)))) r in
      (s.0, Left.named (few (record { path = path; stem = stem; place = at })))

  pub walk_comes : {T : Texts} (f : ℕ) (c : Context) (n : Node) → weight n ≤ f → Good T n (walk f c n)
  unfolding walk
  walk_comes zero c n h p next m l r b = absurd (let z = weight_pos n in omega arith)
  walk_comes {T = T} (suc f) c n h p next m l r b =
      let w : ℕ → ℕ → Node → Walked = λ i j k. walk f (within c (rewrite c n).result i j) k in
      let e = not_refused (rewrite c n).note w (rewrite c n).result next m r in
      let g = left_of_lem (rewrite c n).note w ((leaves c p n l).tree e)
      (weaker_each (λ x. weight x < weight n) (λ x. (i j : ℕ) → Good T x (w i j x)) (λ x k i j. walk_comes f (within c (rewrite c n).result i j) x (omega arith)) (rewrite c n).result (falls c n))
      next m r b in
      Comes.comes c e g.1

  pub walked_comes : {T : Texts} (c : Context) (n : Node) → Good T n (walked c n)
  unfolding walked
  walked_comes c n = walk_comes (weight n) c n (omega arith)
