-- All cells of a walk are cells: those that may be made, and those of the temporaries that stand in the tree.
-- Assumes nothing.
use mathlib.Core.Path.{◌≡◌, refl, sym, subst}
use mathlib.Core.Bool.{Bool, true, false, cond}
use mathlib.Core.List.{List, [], ◌∷◌, ◌++◌}
use mathlib.Core.Logic.{⊎_elim}
use Prim.Native.Nat.{ℕ, zero, suc, ◌+◌, ◌≤◌, ◌<◌}
use native.Mathlib.Omega.{arith}
use native.Mathlib.Decide.{dec_lt}
use lib.Dec.{eqb}
use lib.ListN.{length}
use borrow.Author.Tests.{eq-eqb, eqb-true}
use Rattle.tree.specs.Tree.{Node, Fields, Piece, Items, wide_bytes, count, encode}
use Rattle.tree.specs.Tree.Node.{node}
use Rattle.lowering.specs.Parts.{node_at_of, number_at, stands, is_empty, each, ◌+++◌}
use Rattle.lowering.specs.Made.{Context, id_of}
use Rattle.lowering.specs.Walk.{Note, Walked, WalkedFields, each_item_of, each_piece, each_field, inside, rewrite, within, walk, unchanged}
use Rattle.lowering.specs.Walk.Walked.{noted}
use Rattle.lowering.specs.Weight.{weight, walked}
use Rattle.lowering.specs.Collect.{Name, name_of, new_in, new_in_piece, is_container, marked, mark_of}
use Rattle.lowering.proofs.All.{AllItems, AllPiece, AllFields, Each, weaker_each}
use Rattle.lowering.proofs.Cases.{by_test}
use Rattle.lowering.proofs.MadeAtSites.{times}
use Rattle.lowering.proofs.Occurs.{occurs, occurs_fields, occurs_piece, occurs_items, fields_in}
use Rattle.sink.specs.Shown.{Named, CellsOk, made_by, made_in_of}
use Rattle.sink.proofs.Joined.{cells_joined}
use Rattle.direct.specs.Events.{cell, cell_of, stem_of, later, number_in, count_in, map_in}
use Rattle.outcome.specs.Named
use Rattle.outcome.specs.Named.{Act, puts, lists, excludes, handed, entered, excluded_keys, hands_out, marks, written, named, named_fields, named_piece, named_items}
use Rattle.outcome.proofs.Listed.{made_append}
use Rattle.outcome.proofs.MadeOnce.{others, makes, number, makes_all, names_in, hands_made, in_cell, named_less}
use Rattle.outcome.proofs.Scope.{cell_at, IsNamed, origin, both_each, all_each, occurs_here, walked_cell, cell_name, named_there}
use Rattle.outcome.proofs.Numbers.{Every, every_append}

-- ---- temporaries in cells

abbrev Below : Items → Type 0
Below ts = AllItems (λ t. cell_of t < 16384) ts

below_from : (ts : Items) → ((x : ℕ) → 16384 ≤ x → number (in_cell x) ts ≡ 0) → Below ts
unfolding number
below_from Items.none h = tt
below_from (Items.hole ts) h = below_from ts h
below_from (Items.item t ts) h = (first, below_from ts (λ x l. let z = h x l in omega arith))
  where
    first : cell_of t < 16384
    first = elim (dec_lt (cell_of t) 16384) [
      | yes l ↦ l
      | no l ↦
          let z : cond (eqb (cell_of t) (cell_of t)) 1 0 + number (in_cell (cell_of t)) ts ≡ 0 = h (cell_of t) (omega arith) in
          let y : 1 + number (in_cell (cell_of t)) ts ≡ 0 = rw (eq-eqb (cell_of t) (cell_of t) refl) at z in
          absurd (omega arith)
    ]

below_left : (ts us : Items) → Below (ts +++ us) → Below ts
unfolding ◌+++◌
below_left Items.none us h = tt
below_left (Items.hole ts) us h = below_left ts us h
below_left (Items.item t ts) us h = (h.0, below_left ts us h.1)

below_right : (ts us : Items) → Below (ts +++ us) → Below us
unfolding ◌+++◌
below_right Items.none us h = h
below_right (Items.hole ts) us h = below_right ts us h
below_right (Items.item t ts) us h = below_right ts us h.1

either : (b : Bool) (es fs : List Act) → CellsOk es → CellsOk fs → CellsOk (cond b es fs)
either true es fs h k = h
either false es fs h k = k

lists_ok : (bs : List ℕ) → CellsOk (lists bs)
unfolding lists
lists_ok [] = tt
lists_ok (b ∷ bs) = (tt, lists_ok bs)

excludes_ok : (bs : List ℕ) → CellsOk (excludes bs)
unfolding excludes
excludes_ok [] = tt
excludes_ok (b ∷ bs) = (tt, excludes_ok bs)

made_ok : (ts : Items) → Below (others ts) → CellsOk (Named.made ts)
unfolding Named.made others
made_ok Items.none h = tt
made_ok (Items.hole ts) h = made_ok ts h
made_ok (Items.item t ts) h =
    by_test (eqb (number_at 0 t) 2)
    (λ e. let h' : Below (others ts) = rw (e, AllItems) at h in rw (e, CellsOk) (made_ok ts h'))
    (λ e. let h' : Below (Items.item t (others ts)) = rw (e, AllItems) at h in rw (e, CellsOk) (h'.0, made_ok ts h'.1))

handed_ok : (ds : Items) → Below (each id_of ds) → CellsOk (handed ds)
unfolding handed each
handed_ok Items.none h = tt
handed_ok (Items.hole ds) h = handed_ok ds h
handed_ok (Items.item d ds) h =
    let head : List ℕ = 5 ∷ cond (stands 1 d) 3 1 ∷ [] in
    let more = cond (stands 1 d) (lists (encode (node_at_of 1 d))) [] in
    let t = Named.listed_temporary (cell_of (id_of d)) (stem_of (id_of d)) (name_of (id_of d)) in
    cells_joined (lists head ++ (t ∷ more)) (handed ds)
    (cells_joined (lists head) (t ∷ more) (lists_ok head) (h.0, either (stands 1 d) (lists (encode (node_at_of 1 d))) [] (lists_ok (encode (node_at_of 1 d))) tt))
    (handed_ok ds h.1)

excluded_ok : (ds : Items) → Below (each id_of ds) → CellsOk (excluded_keys ds)
unfolding excluded_keys each
excluded_ok Items.none h = tt
excluded_ok (Items.hole ds) h = excluded_ok ds h
excluded_ok (Items.item d ds) h = (tt, (h.0, cells_joined (excludes (encode (node_at_of 1 d))) (excluded_keys ds) (excludes_ok (encode (node_at_of 1 d))) (excluded_ok ds h.1)))

hands_ok : (m : ℕ) (note : Note) → Below (makes note) → CellsOk (hands_out m note)
unfolding hands_out makes entered
hands_ok m note h =
    let first = cond (is_empty note.entry) (others note.made) (each id_of note.entry) in
    let l = below_left first (each id_of note.excluded) h in
    cells_joined (cond (is_empty note.entry) (Named.made note.made) [] ++ cond (is_empty note.entry) [] (Named.entry m (count note.entry) ∷ handed note.entry)) (excluded_keys note.excluded)
    (by_test (is_empty note.entry)
    (λ e. let l' : Below (others note.made) = rw (e, AllItems) at l in rw (e, CellsOk) (cells_joined (Named.made note.made) [] (made_ok note.made l') tt))
    (λ e. let l' : Below (each id_of note.entry) = rw (e, AllItems) at l in rw (e, CellsOk) (tt, handed_ok note.entry l')))
    (excluded_ok note.excluded (below_right first (each id_of note.excluded) h))

-- the names that are made are in cells
abbrev InCells : List Name → Type 0
InCells l = Every (λ a. cell_at a < 16384) l

below_names : (ts : Items) → Below ts → InCells (names_in ts)
unfolding names_in
below_names Items.none h = tt
below_names (Items.hole ts) h = below_names ts h
below_names (Items.item t ts) h = (subst (λ (x : ℕ). x < 16384) (cell_name t) h.0, below_names ts h.1)

-- ---- rows

pub record Ok (es : List Act) : Type 0 where
  pub cells : CellsOk es
  pub names : InCells (made_in_of es)

both_ok : (es fs : List Act) → Ok es → Ok fs → Ok (es ++ fs)
both_ok es fs h k =
    record {
      cells = cells_joined es fs h.cells k.cells;
      names = subst InCells (sym (made_append es fs)) (every_append (λ a. cell_at a < 16384) (made_in_of es) (made_in_of fs) h.names k.names);
    }

none_ok : Ok []
unfolding made_in_of
none_ok = record { cells = tt; names = tt }

puts_fine : (bs : List ℕ) → Ok (puts bs)
unfolding puts made_in_of made_by
puts_fine [] = record { cells = tt; names = tt }
puts_fine (b ∷ bs) = let r = puts_fine bs in record { cells = (tt, r.cells); names = r.names }

marks_fine : (b : ℕ) → Ok (marks b)
unfolding marks made_in_of made_by puts
marks_fine zero = record { cells = (tt, tt); names = tt }
marks_fine (suc b) = record { cells = (tt, (tt, tt)); names = tt }

put_fine : (b : ℕ) → Ok (Named.put b ∷ [])
unfolding made_in_of made_by
put_fine b = record { cells = (tt, tt); names = tt }

temporary_fine : (c stem : ℕ) → c < 16384 → Ok (Named.temporary c stem ∷ [])
unfolding made_in_of made_by
temporary_fine c stem h = record { cells = (h, tt); names = tt }

helper_fine : (h : ℕ) → Ok (Named.helper h ∷ [])
unfolding made_in_of made_by
helper_fine h = record { cells = (tt, tt); names = tt }

hands_fine : (m : ℕ) (note : Note) → Below (makes note) → Ok (hands_out m note)
hands_fine m note h = record { cells = hands_ok m note h; names = subst InCells (sym (hands_made m note)) (below_names (makes note) h) }

written_fine : (at k : ℕ) (fs : WalkedFields) (es : List Act) → (eqb k 20 ≡ true → cell (number_in fs) at < 16384) → Ok es → Ok (written at k fs es)
unfolding written
written_fine at k fs es f h =
    by_test (eqb k 20)
    (λ e. rw e (temporary_fine (cell (number_in fs) at) (number_in fs) (f e)))
    (λ e. rw e (by_test (eqb k 21) (λ d. rw d (helper_fine (number_in fs))) (λ d. rw d (both_ok (puts (k ∷ map_in fs ∷ [])) es (puts_fine (k ∷ map_in fs ∷ [])) h))))

-- ---- the walk

module _ (w : ℕ → ℕ → Node → Walked) where
  abbrev Part : Node → Type 0
  Part n = (i j next m : ℕ) → Ok (named next m (w i j n))

  items_ok : (i : ℕ) (is : Items) (j : ℕ) → AllItems Part is → (l : Bool) (next m : ℕ) → Ok (named_items l next m (each_item_of (w i) j is))
  unfolding each_item_of named
  items_ok i Items.none j p l next m = none_ok
  items_ok i (Items.hole is) j p l next m =
      both_ok (Named.put 0 ∷ []) (named_items l next m (each_item_of (w i) (suc j) is)) (put_fine 0) (items_ok i is (suc j) p l next m)
  items_ok i (Items.item n is) j p l next m =
      let v = w i j n in
      let c = cond l (marked next (mark_of v)) m in
      both_ok (named next c v) (named_items l (later next (new_in v)) m (each_item_of (w i) (suc j) is)) (p.0 i j next c) (items_ok i is (suc j) p.1 l (later next (new_in v)) m)

  piece_ok : (i : ℕ) (q : Piece) → AllPiece Part q → (l : Bool) (next m : ℕ) → Ok (named_piece l next m (each_piece (w i) q))
  unfolding each_piece named
  piece_ok i (Piece.one n) p l next m = p i 0 next m
  piece_ok i (Piece.list is) p l next m =
      both_ok (puts (wide_bytes (count_in (each_item_of (w i) 0 is)))) (named_items l next m (each_item_of (w i) 0 is)) (puts_fine (wide_bytes (count_in (each_item_of (w i) 0 is)))) (items_ok i is 0 p l next m)
  piece_ok i (Piece.text bs) p l next m = puts_fine (wide_bytes (length bs) ++ bs)
  piece_ok i (Piece.byte b) p l next m = put_fine b
  piece_ok i (Piece.mark b) p l next m = marks_fine b
  piece_ok i (Piece.number b) p l next m = puts_fine (wide_bytes b)

  fields_ok : (fs : Fields) (i : ℕ) → AllFields Part fs → (l : Bool) (next m : ℕ) → Ok (named_fields l next m (each_field w i fs))
  unfolding each_field named
  fields_ok Fields.done i p l next m = none_ok
  fields_ok (Fields.absent fs) i p l next m = fields_ok fs (suc i) p l next m
  fields_ok (Fields.field q fs) i p l next m =
      let v = each_piece (w i) q in
      both_ok (named_piece l next m v) (named_fields l (later next (new_in_piece v)) m (each_field w (suc i) fs)) (piece_ok i q p.0 l next m) (fields_ok fs (suc i) p.1 l (later next (new_in_piece v)) m)

  node_ok : (note : Note) (r : Node) → Below (makes note) → (is20 : (at k : ℕ) (fs : Fields) → r ≡ node at k fs → eqb k 20 ≡ true → IsNamed fs)
      → ((a : Name) → 0 < occurs a r → cell_at a < 16384) → Each Part r → (next m : ℕ) → Ok (named next m (inside note w r))
  unfolding inside named
  node_ok note (node at k fs) b is20 o p next m =
      both_ok (hands_out m note) (written at k (each_field w 0 fs) (named_fields (is_container k) next m (each_field w 0 fs))) (hands_fine m note b)
      (written_fine at k (each_field w 0 fs) (named_fields (is_container k) next m (each_field w 0 fs))
      (λ e. subst (λ (x : ℕ). x < 16384) (sym (walked_cell w at k fs (is20 at k fs refl e))) (o (name_of (node at k fs)) (occurs_here at k fs e)))
      (fields_ok fs 0 p (is_container k) next m))

-- what stands in a part stands in the node
low_items : (is : Items) → ((a : Name) → 0 < occurs_items a is → cell_at a < 16384) → AllItems (λ n. (a : Name) → 0 < occurs a n → cell_at a < 16384) is
unfolding occurs
low_items Items.none h = tt
low_items (Items.hole is) h = low_items is h
low_items (Items.item n is) h = ((λ a o. h a (omega arith)), low_items is (λ a o. h a (omega arith)))

low_piece : (p : Piece) → ((a : Name) → 0 < occurs_piece a p → cell_at a < 16384) → AllPiece (λ n. (a : Name) → 0 < occurs a n → cell_at a < 16384) p
unfolding occurs
low_piece (Piece.one n) h = h
low_piece (Piece.list is) h = low_items is h
low_piece (Piece.text bs) h = tt
low_piece (Piece.byte b) h = tt
low_piece (Piece.mark b) h = tt
low_piece (Piece.number b) h = tt

low_fields_lem : (fs : Fields) → ((a : Name) → 0 < occurs_fields a fs → cell_at a < 16384) → AllFields (λ n. (a : Name) → 0 < occurs a n → cell_at a < 16384) fs
unfolding occurs
low_fields_lem Fields.done h = tt
low_fields_lem (Fields.absent fs) h = low_fields_lem fs h
low_fields_lem (Fields.field p fs) h = (low_piece p (λ a o. h a (omega arith)), low_fields_lem fs (λ a o. h a (omega arith)))

low_parts : (n : Node) → ((a : Name) → 0 < occurs a n → cell_at a < 16384) → Each (λ m. (a : Name) → 0 < occurs a m → cell_at a < 16384) n
low_parts (node at k fs) h = low_fields_lem fs (λ a o. let l = fields_in a at k fs in h a (omega arith))

nothing_below : (n : Node) → Below (makes (unchanged n).note)
unfolding makes others is_empty each ◌+++◌
nothing_below n = tt

zero_ok : (next m : ℕ) (n : Node) → Ok (named next m (noted (unchanged n).note 0 0 WalkedFields.done))
unfolding named
zero_ok next m n =
    both_ok (hands_out m (unchanged n).note) (written 0 0 WalkedFields.done []) (hands_fine m (unchanged n).note (nothing_below n))
    (written_fine 0 0 WalkedFields.done [] (λ e. absurd (let z : 0 ≡ 20 = eqb-true 0 20 e in omega arith)) none_ok)

module _ (Good : Node → Type 0) (pot : ℕ → Node → ℕ)
    (named-20 : (at k : ℕ) (fs : Fields) → Good (node at k fs) → eqb k 20 ≡ true → IsNamed fs)
    (parts : (n : Node) → Good n → Each Good n)
    (step : (c : Context) (n : Node) → Good n → Good (rewrite c n).result)
    (spent : (x : ℕ) (c : Context) (n : Node) → Good n → pot x n ≤ 1
    → (number (in_cell x) (rewrite c n).note.made ≤ pot x n)
    × Each (λ m. number (in_cell x) (rewrite c n).note.made + pot x m ≤ pot x n) (rewrite c n).result) where
  -- no cell above is made, and the temporaries that stand in n are in cells
  abbrev Bound : Node → Type 0
  Bound n = (x : ℕ) → 16384 ≤ x → pot x n ≡ 0

  abbrev Low : Node → Type 0
  Low n = (a : Name) → 0 < occurs a n → cell_at a < 16384

  walk_ok : (f : ℕ) (c : Context) (n : Node) → Good n → ((x : ℕ) → pot x n ≤ 1) → Bound n → Low n → (next m : ℕ) → Ok (named next m (walk f c n))
  unfolding walk
  walk_ok zero c n g o b l next m = zero_ok next m n
  walk_ok (suc f) c n g o b l next m =
      let s = rewrite c n in
      let r = s.result in
      let w : ℕ → ℕ → Node → Walked = λ i j x. walk f (within c r i j) x in
      let made-low : (a : Name) → 0 < times a s.note.made → cell_at a < 16384 =
      λ a t.
      let e = named_there a s.note.made in
      let d = named_less (cell_at a) a s.note.made in
      let p = (spent (cell_at a) c n g (o (cell_at a))).0 in
      elim (dec_lt (cell_at a) 16384) [ yes y ↦ y | no y ↦ let z = b (cell_at a) (omega arith) in absurd (omega arith) ] in
      let low : (a : Name) → 0 < occurs a r → cell_at a < 16384 = λ a h. ⊎_elim (λ u. l a u) (λ t. made-low a t) (origin a c n h) in
      node_ok w s.note r
      (below_from (makes s.note) (λ x h. let e = makes_all (in_cell x) c n in let p = (spent x c n g (o x)).0 in let z = b x h in omega arith))
      (λ at k fs e z. named-20 at k fs (subst Good e (step c n g)) z)
      low
      (both_each Good (λ x. ((y : ℕ) → pot y x ≤ 1) × Bound x × Low x) (Part w)
      (λ x g' h i j next' m'. walk_ok f (within c r i j) x g' h.0 h.1 h.2 next' m')
      r (parts r (step c n g))
      (both_each (λ x. (y : ℕ) → (pot y x ≤ 1) × (16384 ≤ y → pot y x ≡ 0)) Low (λ x. ((y : ℕ) → pot y x ≤ 1) × Bound x × Low x)
      (λ x h k. ((λ y. (h y).0), (λ y z. (h y).1 z), k)) r
      (all_each (λ y x. (pot y x ≤ 1) × (16384 ≤ y → pot y x ≡ 0)) r
      (λ y. weaker_each (λ x. number (in_cell y) s.note.made + pot y x ≤ pot y n) (λ x. (pot y x ≤ 1) × (16384 ≤ y → pot y x ≡ 0))
      (λ x h. let q = o y in (omega arith, λ z. let v = b y z in omega arith)) r (spent y c n g (o y)).1))
      (low_parts r low)))
      next m

  pub walked_ok : (c : Context) (n : Node) → Good n → ((x : ℕ) → pot x n ≤ 1) → Bound n → Low n → (next m : ℕ) → Ok (named next m (walked c n))
  unfolding walked
  walked_ok c n g o b l next m = walk_ok (weight n) c n g o b l next m
