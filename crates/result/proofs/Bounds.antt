-- New marks and names of temporaries are few, since each of them takes bytes of what is written.
-- Assumes nothing.
use mathlib.Core.Path.{◌≡◌, refl}
use mathlib.Core.Bool.{Bool, false, cond}
use mathlib.Core.List.{List, [], ◌∷◌, ◌++◌}
use Prim.Native.Nat.{ℕ, zero, suc, ◌+◌, ◌*◌, ◌<◌, ◌≤◌}
use native.Mathlib.Omega.{arith}
use lib.Dec.{eqb}
use lib.ListN.{length, length-append}
use Rattle.tree.specs.Tree.{Node, Fields, Piece, Items, encode, encode_fields, encode_piece, encode_items}
use Rattle.tree.specs.Tree.Node.{node}
use Rattle.tree.specs.Grammar.{Sort, Field}
use Rattle.lowering.specs.Parts.{is}
use Rattle.lowering.specs.Made.{Context}
use Rattle.lowering.specs.Walk.{Note, Walked, WalkedPiece, each_item_of, each_piece, each_field, inside, rewrite, within, walk}
use Rattle.lowering.specs.Weight.{weight, walked}
use Rattle.lowering.specs.Collect.{Name, over, name_at, nodes, nodes_fields, nodes_piece, nodes_items, new_in, new_in_fields, new_in_piece, new_in_items, is_container, mark_of, marked, visits, visits_fields, visits_piece, visits_items, first_refusal, bare, bare_fields, bare_piece, bare_items, numbered, numbered_fields, numbered_piece, numbered_items, with_number}
use Rattle.lowering.proofs.Cases.{by_test}
use Rattle.lowering.proofs.All.{AllItems, AllPiece, AllFields, Each, weaker_each, weaker_piece}
use Rattle.lowering.proofs.Weights.{weight_pos}
use Rattle.lowering.proofs.Falls.{falls}
use Rattle.lowering.proofs.RefusalsMet.{no_refusal, no_refusal_here}
use Rattle.result.proofs.Lies.{Texts, Lies, LieFields, LiePiece, LieItems}
use Rattle.result.proofs.Rules.{leaves}
use Rattle.result.proofs.Comes.{not_refused}

-- how many names of temporaries stand among the nodes
abbrev pub names : List Node → ℕ
names xs = length (over name_at xs)

pub names_append : (xs ys : List Node) → names (xs ++ ys) ≡ names xs + names ys
unfolding over
names_append [] ys = omega arith
names_append (x ∷ xs) ys =
    let l = length-append (name_at x) (over name_at (xs ++ ys)) in
    let k = length-append (name_at x) (over name_at xs) in
    let r = names_append xs ys in
    omega arith

pub name_here : (n : Node) → length (name_at n) ≤ 1
unfolding name_at
name_here n = by_test (is 20 n) (λ e. rw e (omega arith)) (λ e. rw e (omega arith))

pub no_name_here : (n : Node) → is 20 n ≡ false → length (name_at n) ≡ 0
unfolding name_at
no_name_here n e = rw e refl

-- new marks and names, against the bytes that are written
pub record Small (new named bytes : ℕ) : Type 0 where
  pub marks : 2 * new ≤ bytes
  pub temporaries : 5 * named ≤ bytes

module _ (ns : List Name) where
  abbrev Few : (T : Texts) → Node → Walked → Type 0
  Few T n w = (p next m : ℕ) → Lies T p n → first_refusal (visits next m w) ≡ 0 → Small (new_in w) (names (nodes (bare next w))) (length (encode (numbered ns (bare next w))))

  items_few : {T : Texts} (w : ℕ → Node → Walked) {p : ℕ} {h : Bool} {is : Items} → LieItems T p h is → AllItems (λ n. (j : ℕ) → Few T n (w j n)) is → (j : ℕ) (l : Bool) (next m : ℕ)
      → first_refusal (visits_items l next m (each_item_of w j is)) ≡ 0
      → Small (new_in_items (each_item_of w j is)) (names (nodes_items (bare_items next (each_item_of w j is)))) (length (encode_items (numbered_items ns (bare_items next (each_item_of w j is)))))
  unfolding each_item_of visits bare numbered new_in nodes encode over
  items_few w LieItems.none g j l next m r = record { marks = omega arith; temporaries = omega arith }
  items_few w (LieItems.hole a) g j l next m r =
      let s = items_few w a g (suc j) l next m r in
      let x = s.marks in let y = s.temporaries in
      record { marks = omega arith; temporaries = omega arith }
  items_few w (LieItems.item {p = p} {n = n} {is = is} x a) g j l next m r =
      let s = no_refusal (visits next (cond l (marked next (mark_of (w j n))) m) (w j n)) (visits_items l (next + new_in (w j n)) m (each_item_of w (suc j) is)) r in
      let c = g.0 j p next (cond l (marked next (mark_of (w j n))) m) x s.0 in
      let d = items_few w a g.1 (suc j) l (next + new_in (w j n)) m s.1 in
      let e = length-append (encode (numbered ns (bare next (w j n)))) (encode_items (numbered_items ns (bare_items (next + new_in (w j n)) (each_item_of w (suc j) is)))) in
      let f = names_append (nodes (bare next (w j n))) (nodes_items (bare_items (next + new_in (w j n)) (each_item_of w (suc j) is))) in
      let c₁ = c.marks in let c₂ = c.temporaries in let d₁ = d.marks in let d₂ = d.temporaries in
      record { marks = omega arith; temporaries = omega arith }

  mark_few : (next m : ℕ) → Small (new_in_piece (WalkedPiece.mark m)) 0 2
  unfolding new_in
  mark_few next zero = record { marks = omega arith; temporaries = omega arith }
  mark_few next (suc m) = record { marks = omega arith; temporaries = omega arith }

  piece_few : {T : Texts} (w : ℕ → Node → Walked) {b d : ℕ} {s : Sort} {p : Piece} → LiePiece T b s p d → AllPiece (λ n. (j : ℕ) → Few T n (w j n)) p → (l : Bool) (next m : ℕ)
      → first_refusal (visits_piece l next m (each_piece w p)) ≡ 0
      → Small (new_in_piece (each_piece w p)) (names (nodes_piece (bare_piece next (each_piece w p)))) (length (encode_piece (numbered_piece ns (bare_piece next (each_piece w p)))))
  unfolding each_piece visits bare numbered new_in nodes encode over
  piece_few w (LiePiece.child {p = p} x) g l next m r = g 0 p next m x r
  piece_few w (LiePiece.chosen {b = o} {p = p} {q = q} x) g l next m r = g 0 (cond (eqb o 1) p q) next m x r
  piece_few w (LiePiece.many a) g l next m r =
      let s = items_few w a g 0 l next m r in let x = s.marks in let y = s.temporaries in record { marks = omega arith; temporaries = omega arith }
  piece_few w (LiePiece.gaps a) g l next m r =
      let s = items_few w a g 0 l next m r in let x = s.marks in let y = s.temporaries in record { marks = omega arith; temporaries = omega arith }
  piece_few w (LiePiece.text a) g l next m r = record { marks = omega arith; temporaries = omega arith }
  piece_few w (LiePiece.byte x y z) g l next m r = record { marks = omega arith; temporaries = omega arith }
  piece_few w (LiePiece.mark {m = k} a) g l next m r = mark_few next k
  piece_few w (LiePiece.number a) g l next m r = record { marks = omega arith; temporaries = omega arith }

  -- a field, and those after it
  one_more : {T : Texts} (w : ℕ → ℕ → Node → Walked) {b d : ℕ} {t : Sort} {p : Piece} (fs : Fields) → LiePiece T b t p d → AllFields (λ n. (i j : ℕ) → Few T n (w i j n)) (Fields.field p fs) → (i : ℕ) (l : Bool) (next m : ℕ)
      → first_refusal (visits_fields l next m (each_field w i (Fields.field p fs))) ≡ 0
      → (first_refusal (visits_fields l (next + new_in_piece (each_piece (w i) p)) m (each_field w (suc i) fs)) ≡ 0
      → Small (new_in_fields (each_field w (suc i) fs)) (names (nodes_fields (bare_fields (next + new_in_piece (each_piece (w i) p)) (each_field w (suc i) fs))))
      (length (encode_fields (numbered_fields ns (bare_fields (next + new_in_piece (each_piece (w i) p)) (each_field w (suc i) fs))))))
      → Small (new_in_fields (each_field w i (Fields.field p fs))) (names (nodes_fields (bare_fields next (each_field w i (Fields.field p fs))))) (length (encode_fields (numbered_fields ns (bare_fields next (each_field w i (Fields.field p fs))))))
  unfolding each_field visits bare numbered new_in nodes encode
  one_more {T = T} w {p = p} fs x g i l next m r more =
      let s = no_refusal (visits_piece l next m (each_piece (w i) p)) (visits_fields l (next + new_in_piece (each_piece (w i) p)) m (each_field w (suc i) fs)) r in
      let c = piece_few (w i) x (weaker_piece (λ n. (i j : ℕ) → Few T n (w i j n)) (λ n. (j : ℕ) → Few T n (w i j n)) (λ n h. h i) p g.0) l next m s.0 in
      let d = more s.1 in
      let e = length-append (encode_piece (numbered_piece ns (bare_piece next (each_piece (w i) p)))) (encode_fields (numbered_fields ns (bare_fields (next + new_in_piece (each_piece (w i) p)) (each_field w (suc i) fs)))) in
      let f = names_append (nodes_piece (bare_piece next (each_piece (w i) p))) (nodes_fields (bare_fields (next + new_in_piece (each_piece (w i) p)) (each_field w (suc i) fs))) in
      let c₁ = c.marks in let c₂ = c.temporaries in let d₁ = d.marks in let d₂ = d.temporaries in
      record { marks = omega arith; temporaries = omega arith }

  fields_few : {T : Texts} (w : ℕ → ℕ → Node → Walked) {b : ℕ} {ts : List Field} {fs : Fields} → LieFields T b ts fs → AllFields (λ n. (i j : ℕ) → Few T n (w i j n)) fs → (i : ℕ) (l : Bool) (next m : ℕ)
      → first_refusal (visits_fields l next m (each_field w i fs)) ≡ 0
      → Small (new_in_fields (each_field w i fs)) (names (nodes_fields (bare_fields next (each_field w i fs)))) (length (encode_fields (numbered_fields ns (bare_fields next (each_field w i fs)))))
  unfolding each_field visits bare numbered new_in nodes encode over
  fields_few w LieFields.done g i l next m r = record { marks = omega arith; temporaries = omega arith }
  fields_few w (LieFields.absent a) g i l next m r = fields_few w a g (suc i) l next m r
  fields_few w (LieFields.needed {p = p} {fs = fs} x a) g i l next m r = one_more w fs x g i l next m r (λ k. fields_few w a g.1 (suc i) l (next + new_in_piece (each_piece (w i) p)) m k)
  fields_few w (LieFields.given {p = p} {fs = fs} x a) g i l next m r = one_more w fs x g i l next m r (λ k. fields_few w a g.1 (suc i) l (next + new_in_piece (each_piece (w i) p)) m k)

  left_few : {T : Texts} (note : Note) (w : ℕ → ℕ → Node → Walked) {p : ℕ} {r : Node} → Lies T p r → Each (λ n. (i j : ℕ) → Few T n (w i j n)) r → (next m : ℕ)
      → first_refusal (visits next m (inside note w r)) ≡ 0
      → Small (new_in (inside note w r)) (names (nodes (bare next (inside note w r)))) (length (encode (numbered ns (bare next (inside note w r)))))
  unfolding inside visits bare numbered new_in each_field each_piece with_number nodes over encode is
  left_few note w (Lies.lies {at = at} {k = k} {fs = fs} z t u f) g next m r =
      let s = no_refusal_here (record { containing = m; note = note }) (visits_fields (is_container k) next m (each_field w 0 fs)) r in
      let c = fields_few w f g 0 (is_container k) next m s.1 in
      let e = no_name_here (node at k (bare_fields next (each_field w 0 fs))) t in
      let q = length-append (name_at (node at k (bare_fields next (each_field w 0 fs)))) (over name_at (nodes_fields (bare_fields next (each_field w 0 fs)))) in
      let c₁ = c.marks in let c₂ = c.temporaries in
      rw t (record { marks = omega arith; temporaries = omega arith })
  left_few note w (Lies.named {at = at} {stem = stem} {path = path} z x y) g next m r =
      let e = name_here (node at 20 (Fields.field (Piece.number stem) (Fields.field (Piece.text path) Fields.done))) in
      let q = length-append (name_at (node at 20 (Fields.field (Piece.number stem) (Fields.field (Piece.text path) Fields.done)))) [] in
      record { marks = omega arith; temporaries = omega arith }

  walk_few : {T : Texts} (f : ℕ) (c : Context) (n : Node) → weight n ≤ f → Few T n (walk f c n)
  unfolding walk
  walk_few zero c n h p next m l r = absurd (let z = weight_pos n in omega arith)
  walk_few {T = T} (suc f) c n h p next m l r =
      let w : ℕ → ℕ → Node → Walked = λ i j k. walk f (within c (rewrite c n).result i j) k in
      left_few (rewrite c n).note w ((leaves c p n l).tree (not_refused (rewrite c n).note w (rewrite c n).result next m r))
      (weaker_each (λ x. weight x < weight n) (λ x. (i j : ℕ) → Few T x (w i j x)) (λ x k i j. walk_few f (within c (rewrite c n).result i j) x (omega arith)) (rewrite c n).result (falls c n))
      next m r

  pub walked_few : {T : Texts} (c : Context) (n : Node) → Few T n (walked c n)
  unfolding walked
  walked_few c n = walk_few (weight n) c n (omega arith)
