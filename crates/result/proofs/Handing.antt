-- What the walk hands out lies where declarators may stand, each entry with a mark that fits.
-- Assumes nothing.
use mathlib.Core.Path.{◌≡◌}
use mathlib.Core.Bool.{Bool, true, false, cond}
use mathlib.Core.List.{List, [], ◌∷◌, ◌++◌}
use Prim.Native.Nat.{ℕ, zero, suc, ◌+◌, ◌<◌, ◌≤◌}
use native.Mathlib.Omega.{arith}
use lib.Dec.{eqb}
use Rattle.tree.specs.Tree.{Node, Fields, Piece, Items}
use Rattle.tree.specs.Grammar.{Sort, Field}
use Rattle.lowering.specs.Parts.{is_empty}
use Rattle.lowering.specs.Made.{Context}
use Rattle.lowering.specs.Walk.{Note, Walked, each_item_of, each_piece, each_field, inside, rewrite, within, walk}
use Rattle.lowering.specs.Weight.{weight, walked}
use Rattle.lowering.specs.Collect.{Visit, Entry, over, entry_at, entries, excluded_in, new_in, new_in_fields, new_in_piece, new_in_items, is_container, mark_of, mark_in, marked, visits, visits_fields, visits_piece, visits_items, first_refusal}
use Rattle.lowering.proofs.Cases.{by_test}
use Rattle.lowering.proofs.All.{AllItems, AllPiece, AllFields, Each, weaker_each, weaker_piece}
use Rattle.lowering.proofs.Weights.{weight_pos}
use Rattle.lowering.proofs.Falls.{falls}
use Rattle.lowering.proofs.RefusalsMet.{no_refusal, no_refusal_here}
use Rattle.result.proofs.Lies.{Texts, Lies, LieFields, LiePiece, LieItems, lies_append}
use Rattle.result.proofs.Rules.{leaves}
use Rattle.result.proofs.Comes.{not_refused}

-- one visit
pub record Hands (T : Texts) (v : Visit) : Type 0 where
  pub mark : v.containing < 65536
  pub entry : LieItems T 4 false v.note.entry
  pub excluded : LieItems T 4 false v.note.excluded

abbrev pub AllHand : (T : Texts) → List Visit → Type 0
AllHand T [] = Unit {0}
AllHand T (v ∷ vs) = Hands T v × AllHand T vs

all_hand : (T : Texts) (us vs : List Visit) → AllHand T us → AllHand T vs → AllHand T (us ++ vs)
all_hand T [] vs h k = k
all_hand T (u ∷ us) vs h k = (h.0, all_hand T us vs h.1 k)

-- the mark of a statement that was rewritten
mark_in_lem : {T : Texts} (w : ℕ → ℕ → Node → Walked) {b : ℕ} {ts : List Field} {fs : Fields} (i : ℕ) → LieFields T b ts fs → mark_in (each_field w i fs) < 65536
unfolding mark_in each_field each_piece
mark_in_lem w i LieFields.done = omega arith
mark_in_lem w i (LieFields.absent a) = omega arith
mark_in_lem w i (LieFields.needed (LiePiece.child x) a) = omega arith
mark_in_lem w i (LieFields.needed (LiePiece.chosen x) a) = omega arith
mark_in_lem w i (LieFields.needed (LiePiece.many x) a) = omega arith
mark_in_lem w i (LieFields.needed (LiePiece.gaps x) a) = omega arith
mark_in_lem w i (LieFields.needed (LiePiece.text x) a) = omega arith
mark_in_lem w i (LieFields.needed (LiePiece.byte x y z) a) = omega arith
mark_in_lem w i (LieFields.needed (LiePiece.mark x) a) = x
mark_in_lem w i (LieFields.needed (LiePiece.number x) a) = omega arith
mark_in_lem w i (LieFields.given (LiePiece.child x) a) = omega arith
mark_in_lem w i (LieFields.given (LiePiece.chosen x) a) = omega arith
mark_in_lem w i (LieFields.given (LiePiece.many x) a) = omega arith
mark_in_lem w i (LieFields.given (LiePiece.gaps x) a) = omega arith
mark_in_lem w i (LieFields.given (LiePiece.text x) a) = omega arith
mark_in_lem w i (LieFields.given (LiePiece.byte x y z) a) = omega arith
mark_in_lem w i (LieFields.given (LiePiece.mark x) a) = x
mark_in_lem w i (LieFields.given (LiePiece.number x) a) = omega arith

marked_fits : (next m : ℕ) → next ≤ 65535 → m < 65536 → marked next m < 65536
marked_fits next zero a b = omega arith
marked_fits next (suc m) a b = b

around_fits : (l : Bool) (next m k : ℕ) → next ≤ 65535 → m < 65536 → k < 65536 → cond l (marked next k) m < 65536
around_fits true next m k a b c = marked_fits next k a c
around_fits false next m k a b c = b

-- a walked node has a mark that fits, and hands out what lies
abbrev Given : (T : Texts) → Node → Walked → Type 0
Given T n w =
    (p next m : ℕ) → Lies T p n → first_refusal (visits next m w) ≡ 0
    → (mark_of w < 65536) × (next + new_in w ≤ 65535 → m < 65536 → AllHand T (visits next m w))

items_hand : {T : Texts} (w : ℕ → Node → Walked) {p : ℕ} {h : Bool} {is : Items} → LieItems T p h is → AllItems (λ n. (j : ℕ) → Given T n (w j n)) is → (j : ℕ) (l : Bool) (next m : ℕ)
    → first_refusal (visits_items l next m (each_item_of w j is)) ≡ 0 → next + new_in_items (each_item_of w j is) ≤ 65535 → m < 65536 → AllHand T (visits_items l next m (each_item_of w j is))
unfolding each_item_of visits new_in
items_hand w LieItems.none g j l next m r b k = tt
items_hand w (LieItems.hole a) g j l next m r b k = items_hand w a g (suc j) l next m r b k
items_hand {T = T} w (LieItems.item {p = p} {n = n} {is = is} x a) g j l next m r b k =
    let s = no_refusal (visits next (cond l (marked next (mark_of (w j n))) m) (w j n)) (visits_items l (next + new_in (w j n)) m (each_item_of w (suc j) is)) r in
    let c = g.0 j p next (cond l (marked next (mark_of (w j n))) m) x s.0 in
    all_hand T (visits next (cond l (marked next (mark_of (w j n))) m) (w j n)) (visits_items l (next + new_in (w j n)) m (each_item_of w (suc j) is))
    (c.1 (omega arith) (around_fits l next m (mark_of (w j n)) (omega arith) k c.0))
    (items_hand w a g.1 (suc j) l (next + new_in (w j n)) m s.1 (omega arith) k)

piece_hands : {T : Texts} (w : ℕ → Node → Walked) {b d : ℕ} {s : Sort} {p : Piece} → LiePiece T b s p d → AllPiece (λ n. (j : ℕ) → Given T n (w j n)) p → (l : Bool) (next m : ℕ)
    → first_refusal (visits_piece l next m (each_piece w p)) ≡ 0 → next + new_in_piece (each_piece w p) ≤ 65535 → m < 65536 → AllHand T (visits_piece l next m (each_piece w p))
unfolding each_piece visits new_in
piece_hands w (LiePiece.child {p = p} x) g l next m r b k = (g 0 p next m x r).1 b k
piece_hands w (LiePiece.chosen {b = o} {p = p} {q = q} x) g l next m r b k = (g 0 (cond (eqb o 1) p q) next m x r).1 b k
piece_hands w (LiePiece.many a) g l next m r b k = items_hand w a g 0 l next m r b k
piece_hands w (LiePiece.gaps a) g l next m r b k = items_hand w a g 0 l next m r b k
piece_hands w (LiePiece.text a) g l next m r b k = tt
piece_hands w (LiePiece.byte x y z) g l next m r b k = tt
piece_hands w (LiePiece.mark a) g l next m r b k = tt
piece_hands w (LiePiece.number a) g l next m r b k = tt

fields_hand : {T : Texts} (w : ℕ → ℕ → Node → Walked) {b : ℕ} {ts : List Field} {fs : Fields} → LieFields T b ts fs → AllFields (λ n. (i j : ℕ) → Given T n (w i j n)) fs → (i : ℕ) (l : Bool) (next m : ℕ)
    → first_refusal (visits_fields l next m (each_field w i fs)) ≡ 0 → next + new_in_fields (each_field w i fs) ≤ 65535 → m < 65536 → AllHand T (visits_fields l next m (each_field w i fs))
unfolding each_field visits new_in
fields_hand w LieFields.done g i l next m r b k = tt
fields_hand w (LieFields.absent a) g i l next m r b k = fields_hand w a g (suc i) l next m r b k
fields_hand {T = T} w (LieFields.needed {p = p} {fs = fs} x a) g i l next m r b k =
    let s = no_refusal (visits_piece l next m (each_piece (w i) p)) (visits_fields l (next + new_in_piece (each_piece (w i) p)) m (each_field w (suc i) fs)) r in
    all_hand T (visits_piece l next m (each_piece (w i) p)) (visits_fields l (next + new_in_piece (each_piece (w i) p)) m (each_field w (suc i) fs))
    (piece_hands (w i) x (weaker_piece (λ n. (i j : ℕ) → Given T n (w i j n)) (λ n. (j : ℕ) → Given T n (w i j n)) (λ n h. h i) p g.0) l next m s.0 (omega arith) k)
    (fields_hand w a g.1 (suc i) l (next + new_in_piece (each_piece (w i) p)) m s.1 (omega arith) k)
fields_hand {T = T} w (LieFields.given {p = p} {fs = fs} x a) g i l next m r b k =
    let s = no_refusal (visits_piece l next m (each_piece (w i) p)) (visits_fields l (next + new_in_piece (each_piece (w i) p)) m (each_field w (suc i) fs)) r in
    all_hand T (visits_piece l next m (each_piece (w i) p)) (visits_fields l (next + new_in_piece (each_piece (w i) p)) m (each_field w (suc i) fs))
    (piece_hands (w i) x (weaker_piece (λ n. (i j : ℕ) → Given T n (w i j n)) (λ n. (j : ℕ) → Given T n (w i j n)) (λ n h. h i) p g.0) l next m s.0 (omega arith) k)
    (fields_hand w a g.1 (suc i) l (next + new_in_piece (each_piece (w i) p)) m s.1 (omega arith) k)

node_hands : {T : Texts} (note : Note) → LieItems T 4 false note.entry → LieItems T 4 false note.excluded → (w : ℕ → ℕ → Node → Walked) {p : ℕ} {r : Node} → Lies T p r
    → Each (λ n. (i j : ℕ) → Given T n (w i j n)) r → (next m : ℕ) → first_refusal (visits next m (inside note w r)) ≡ 0
    → (mark_of (inside note w r) < 65536) × (next + new_in (inside note w r) ≤ 65535 → m < 65536 → AllHand T (visits next m (inside note w r)))
unfolding inside visits new_in each_field each_piece mark_in
node_hands note e x w (Lies.lies {k = k} {fs = fs} z t u f) g next m r =
    let s = no_refusal_here (record { containing = m; note = note }) (visits_fields (is_container k) next m (each_field w 0 fs)) r in
    (mark_in_lem w 0 f, λ b q. (record { mark = q; entry = e; excluded = x }, fields_hand w f g 0 (is_container k) next m s.1 b q))
node_hands note e x w (Lies.named z a b) g next m r = (omega arith, λ b q. (record { mark = q; entry = e; excluded = x }, tt))

walk_hands : {T : Texts} (f : ℕ) (c : Context) (n : Node) → weight n ≤ f → Given T n (walk f c n)
unfolding walk
walk_hands zero c n h p next m l r = absurd (let z = weight_pos n in omega arith)
walk_hands {T = T} (suc f) c n h p next m l r =
    let w : ℕ → ℕ → Node → Walked = λ i j k. walk f (within c (rewrite c n).result i j) k in
    let v = leaves c p n l in
    node_hands (rewrite c n).note v.entry v.excluded w (v.tree (not_refused (rewrite c n).note w (rewrite c n).result next m r))
    (weaker_each (λ x. weight x < weight n) (λ x. (i j : ℕ) → Given T x (w i j x)) (λ x k i j. walk_hands f (within c (rewrite c n).result i j) x (omega arith)) (rewrite c n).result (falls c n))
    next m r

pub walked_hands : {T : Texts} (c : Context) (n : Node) (p next m : ℕ) → Lies T p n → first_refusal (visits next m (walked c n)) ≡ 0 → next + new_in (walked c n) ≤ 65535 → m < 65536 → AllHand T (visits next m (walked c n))
unfolding walked
walked_hands c n p next m l r b k = (walk_hands (weight n) c n (omega arith) p next m l r).1 b k

-- ---- entries and excluded keys

abbrev pub EntriesLie : (T : Texts) → List Entry → Type 0
EntriesLie T [] = Unit {0}
EntriesLie T (e ∷ es) = (e.containing < 65536) × LieItems T 4 false e.declarators × EntriesLie T es

pub entries_lie : (T : Texts) (vs : List Visit) → AllHand T vs → EntriesLie T (entries vs)
unfolding entries over entry_at
entries_lie T [] h = tt
entries_lie T (v ∷ vs) h =
    by_test (is_empty v.note.entry)
    (λ e. rw e (entries_lie T vs h.1))
    (λ e. rw e (h.0.mark, h.0.entry, entries_lie T vs h.1))

pub excluded_lie : {T : Texts} (vs : List Visit) → AllHand T vs → LieItems T 4 false (excluded_in vs)
unfolding excluded_in
excluded_lie [] h = LieItems.none
excluded_lie (v ∷ vs) h = lies_append h.0.excluded (excluded_lie vs h.1)
