-- One level of the walk: what a rewriting hands out, then what it leaves, its parts walked.
-- Assumes nothing.
use mathlib.Core.Path.{◌≡◌, refl, sym, ap, ap₂, ◌∙◌, fun_ext}
use mathlib.Core.Bool.{Bool, true, false, cond}
use mathlib.Core.List.{List, [], ◌∷◌, ◌++◌}
use Prim.Native.Nat.{ℕ, suc, ◌+◌}
use native.Mathlib.Omega.{arith}
use lib.Dec.{eqb}
use Rattle.tree.specs.Tree.{Node, Fields, Piece, Items, wide_bytes, count, map_of}
use Rattle.tree.specs.Tree.Node.{node}
use Rattle.lowering.specs.Parts.{kind, is, piece_in, as_number, is_empty}
use Rattle.lowering.specs.Walk.{Note, Step, Walked, WalkedFields, each_item_of, each_piece, each_field, inside, unchanged, refuse, rule_of, rewrite, within}
use Rattle.lowering.specs.Walk.Walked.{noted}
use Rattle.lowering.specs.Walk.Rule.{nowhere}
use Rattle.lowering.specs.Weight.{walked}
use Rattle.lowering.specs.Collect.{is_container, marked, mark_in, mark_of}
use Rattle.lowering.proofs.Falls.{walked_is}
use Rattle.sink.specs.Machine.{Event}
use Rattle.direct.specs.Events.{Deed, Place, cell, puts, made, refused, entered, hands_out, excluded_keys, after, later, counted, new_marks, number_in, count_in, map_in, written, deeds, deeds_fields, deeds_piece, deeds_items, context_of, emits}
use Rattle.direct.specs.Events.Deed.{does}
use Rattle.direct.specs.Emit.{say, ◌▷◌, below, marking, mark_here, as_mark, emits_item, emits_items, emits_piece, emits_parts, stays}
use Rattle.direct.proofs.Threads.{hands_new, say_nothing}
use Rattle.direct.proofs.Alike.{alike_refl}
use Rattle.direct.proofs.PathFree.{SameDeeds, walked_alike}

-- ---- the parts

-- what the walk does with the parts, at the place c
module _ (c : Place) (w : ℕ → Node → Walked) (h : (j : ℕ) (n : Node) → SameDeeds (w j n) (walked (context_of c) n)) where
  item_done : (l : Bool) (j : ℕ) (n : Node) (next : ℕ) → deeds next (cond l (marked next (mark_of (w j n))) c.mark) (w j n) ≡ emits_item l c n next
  unfolding emits_item emits marking mark_here
  item_done true j n next =
      ap (λ (x : ℕ). deeds next (marked next x) (w j n)) (h j n).begins ∙ (h j n).does next (marked next (mark_of (walked (context_of c) n)))
  item_done false j n next = (h j n).does next c.mark

  items_done : (l : Bool) (j : ℕ) (is : Items) (next : ℕ) → deeds_items l next c.mark (each_item_of w j is) ≡ emits_items l c is next
  unfolding each_item_of deeds emits_items ◌▷◌ say new_marks counted
  items_done l j Items.none next = refl
  items_done l j (Items.hole ns) next = ap (λ (x : List Deed). does (Event.put 0) ∷ x) (items_done l (suc j) ns next)
  items_done l j (Items.item n is) next =
      ap (λ (x : List Deed). x ++ deeds_items l (after next x) c.mark (each_item_of w (suc j) is)) (item_done l j n next)
      ∙ ap (λ (x : List Deed). emits_item l c n next ++ x) (items_done l (suc j) is (after next (emits_item l c n next)))

  count_done : (j : ℕ) (is : Items) → count_in (each_item_of w j is) ≡ count is
  unfolding each_item_of count_in count
  count_done j Items.none = refl
  count_done j (Items.hole ns) = ap suc (count_done (suc j) ns)
  count_done j (Items.item n is) = ap suc (count_done (suc j) is)

  piece_done : (l : Bool) (p : Piece) (next : ℕ) → deeds_piece l next c.mark (each_piece w p) ≡ emits_piece l c p next
  unfolding each_piece deeds emits_piece emits ◌▷◌ say new_marks counted
  piece_done l (Piece.one n) next = (h 0 n).does next c.mark
  piece_done l (Piece.list is) next =
      ap₂ (λ (x : ℕ) (y : List Deed). puts (wide_bytes x) ++ y) (count_done 0 is) (items_done l 0 is next)
  piece_done l (Piece.text bs) next = refl
  piece_done l (Piece.byte b) next = refl
  piece_done l (Piece.mark b) next = refl
  piece_done l (Piece.number b) next = refl

-- the same with a place for each field, all in the statement with the mark m; d has the places from field i on
module _ (c : ℕ → Place) (m : ℕ) (in-statement : (i : ℕ) → (c i).mark ≡ m) (w : ℕ → ℕ → Node → Walked)
    (h : (i j : ℕ) (n : Node) → SameDeeds (w i j n) (walked (context_of (c i)) n)) where
  onward : (i : ℕ) (d : ℕ → Place) → ((j : ℕ) → d j ≡ c (j + i)) → (j : ℕ) → d (suc j) ≡ c (j + suc i)
  onward i d e j = let s : suc j + i ≡ j + suc i = omega arith in e (suc j) ∙ ap c s

  first_done : (l : Bool) (i : ℕ) (d : ℕ → Place) → ((j : ℕ) → d j ≡ c (j + i)) → (p : Piece) (next : ℕ)
      → deeds_piece l next m (each_piece (w i) p) ≡ emits_piece l (d 0) p next
  first_done l i d e p next =
      let z : c i ≡ d 0 = let s : i ≡ 0 + i = omega arith in ap c s ∙ sym (e 0) in
      ap (λ (x : ℕ). deeds_piece l next x (each_piece (w i) p)) (sym (in-statement i))
      ∙ piece_done (c i) (w i) (h i) l p next
      ∙ ap (λ (x : Place). emits_piece l x p next) z

  fields_done : (l : Bool) (i : ℕ) (d : ℕ → Place) → ((j : ℕ) → d j ≡ c (j + i)) → (fs : Fields) (next : ℕ)
      → deeds_fields l next m (each_field w i fs) ≡ emits_parts l d fs next
  unfolding each_field deeds emits_parts ◌▷◌ say
  fields_done l i d e Fields.done next = refl
  fields_done l i d e (Fields.absent fs) next = fields_done l (suc i) (λ j. d (suc j)) (onward i d e) fs next
  fields_done l i d e (Fields.field p fs) next =
      ap (λ (x : List Deed). x ++ deeds_fields l (after next x) m (each_field w (suc i) fs)) (first_done l i d e p next)
      ∙ ap (λ (x : List Deed). emits_piece l (d 0) p next ++ x) (fields_done l (suc i) (λ j. d (suc j)) (onward i d e) fs (after next (emits_piece l (d 0) p next)))

module _ (w : ℕ → ℕ → Node → Walked) where
  map_done : (i : ℕ) (fs : Fields) → map_in (each_field w i fs) ≡ map_of fs
  unfolding each_field map_in map_of
  map_done i Fields.done = refl
  map_done i (Fields.absent fs) = let e = map_done (suc i) fs in omega arith
  map_done i (Fields.field p fs) = let e = map_done (suc i) fs in omega arith

  number_done : (fs : Fields) → number_in (each_field w 0 fs) ≡ as_number (piece_in fs 0)
  unfolding each_field each_piece number_in piece_in
  number_done Fields.done = refl
  number_done (Fields.absent fs) = refl
  number_done (Fields.field (Piece.one n) fs) = refl
  number_done (Fields.field (Piece.list is) fs) = refl
  number_done (Fields.field (Piece.text bs) fs) = refl
  number_done (Fields.field (Piece.byte b) fs) = refl
  number_done (Fields.field (Piece.mark b) fs) = refl
  number_done (Fields.field (Piece.number b) fs) = refl

  pub mark_done : (fs : Fields) → mark_in (each_field w 0 fs) ≡ as_mark (piece_in fs 0)
  unfolding each_field each_piece mark_in piece_in
  mark_done Fields.done = refl
  mark_done (Fields.absent fs) = refl
  mark_done (Fields.field (Piece.one n) fs) = refl
  mark_done (Fields.field (Piece.list is) fs) = refl
  mark_done (Fields.field (Piece.text bs) fs) = refl
  mark_done (Fields.field (Piece.byte b) fs) = refl
  mark_done (Fields.field (Piece.mark b) fs) = refl
  mark_done (Fields.field (Piece.number b) fs) = refl

-- ---- a node

-- what the walk leaves to the parts of r, at the place c
parts_near : (c : Place) (r : Node) (i j : ℕ) (n : Node) → SameDeeds (walked (within (context_of c) r i j) n) (walked (context_of (below c r i)) n)
unfolding within below
parts_near c r i j n = walked_alike (within (context_of c) r i j) (context_of (below c r i)) n n (record { root = refl; statement = refl }) (alike_refl n)

noted_done : (note : Note) (at k : ℕ) (fs : WalkedFields) (next m : ℕ)
    → deeds next m (noted note at k fs) ≡ hands_out m note ++ written at k fs (deeds_fields (is_container k) next m fs)
unfolding deeds
noted_done note at k fs next m = refl

written_done : (c : Place) (at k : ℕ) (fs : Fields) (ws : WalkedFields) (next : ℕ) (ds : List Deed) → number_in ws ≡ as_number (piece_in fs 0) → map_in ws ≡ map_of fs
    → ds ≡ emits_parts (is_container k) (below c (node at k fs)) fs next → written at k ws ds ≡ stays c (node at k fs) next
unfolding stays written ◌▷◌ say new_marks counted
written_done c at k fs ws next ds a b e =
    rw (a, b, e) (go (eqb k 20) (eqb k 21))
  where
    go : (x y : Bool)
        → cond x (does (Event.temporary (cell (as_number (piece_in fs 0)) at) (as_number (piece_in fs 0))) ∷ [])
        (cond y (does (Event.helper (as_number (piece_in fs 0))) ∷ []) (puts (k ∷ map_of fs ∷ []) ++ emits_parts (is_container k) (below c (node at k fs)) fs next))
        ≡ cond x (say (does (Event.temporary (cell (as_number (piece_in fs 0)) at) (as_number (piece_in fs 0))) ∷ []))
        (cond y (say (does (Event.helper (as_number (piece_in fs 0))) ∷ [])) (say (puts (k ∷ map_of fs ∷ [])) ▷ emits_parts (is_container k) (below c (node at k fs)) fs)) next
    go true y = refl
    go false true = refl
    go false false = refl

inside_done : (c : Place) (note : Note) (r : Node) (next : ℕ)
    → deeds next c.mark (inside note (λ i j m. walked (within (context_of c) r i j) m) r) ≡ hands_out c.mark note ++ stays c r next
unfolding inside below
inside_done c note (node at k fs) next =
    let r = node at k fs in
    let w : ℕ → ℕ → Node → Walked = λ i j m. walked (within (context_of c) r i j) m in
    let h : (i j : ℕ) (n : Node) → SameDeeds (w i j n) (walked (context_of (below c r i)) n) = λ i j n. parts_near c r i j n in
    let e : (j : ℕ) → below c r j ≡ below c r (j + 0) = λ j. let s : j ≡ j + 0 = omega arith in ap (below c r) s in
    noted_done note at k (each_field w 0 fs) next c.mark
    ∙ ap (λ (x : List Deed). hands_out c.mark note ++ x)
    (written_done c at k fs (each_field w 0 fs) next (deeds_fields (is_container k) next c.mark (each_field w 0 fs))
    (number_done w fs) (map_done w 0 fs) (fields_done (below c r) c.mark (λ i. refl) w h (is_container k) 0 (below c r) e fs next))

-- what a rewriting hands out, then what it leaves
pub emits_step : (c : Place) (n : Node)
    → emits c n ≡ say (hands_out c.mark (rewrite (context_of c) n).note) ▷ stays c (rewrite (context_of c) n).result
unfolding emits ◌▷◌ say
emits_step c n =
    fun_ext (λ next.
    let s = rewrite (context_of c) n in
    let hs = hands_out c.mark s.note in
    let e : next ≡ after next hs = ap (later next) (sym (hands_new c.mark s.note)) in
    ap (deeds next c.mark) (walked_is (context_of c) n)
    ∙ inside_done c s.note s.result next
    ∙ ap (λ (x : ℕ). hs ++ stays c s.result x) e)

-- the same with the step named
pub emits_as : (c : Place) (n : Node) (s : Step) → rewrite (context_of c) n ≡ s → emits c n ≡ say (hands_out c.mark s.note) ▷ stays c s.result
emits_as c n s e = emits_step c n ∙ ap (λ (t : Step). say (hands_out c.mark t.note) ▷ stays c t.result) e

pub nothing_handed : (m : ℕ) (n : Node) → hands_out m (unchanged n).note ≡ []
unfolding hands_out refused made entered excluded_keys is_empty
nothing_handed m n = refl

-- a node that no rule changes
pub emits_unchanged : (c : Place) (n : Node) → rewrite (context_of c) n ≡ unchanged n → emits c n ≡ stays c n
emits_unchanged c n e =
    emits_as c n (unchanged n) e ∙ ap (λ (x : List Deed). say x ▷ stays c n) (nothing_handed c.mark n) ∙ say_nothing (stays c n)

-- in particular one that no rule is for
pub emits_nowhere : (c : Place) (n : Node) → rule_of (kind n) ≡ nowhere → emits c n ≡ stays c n
unfolding rewrite
emits_nowhere c n e = emits_unchanged c n (rw (e, rewrite) refl)

-- one that is refused
pub emits_refused : (c : Place) (n : Node) (r : ℕ) → rewrite (context_of c) n ≡ refuse r → emits c n ≡ say (refused r ++ puts (0 ∷ 0 ∷ []))
unfolding hands_out made entered excluded_keys is_empty stays emits_parts ◌▷◌ say new_marks counted map_of
emits_refused c n r e = emits_as c n (refuse r) e ∙ fun_ext (λ next. go (refused r))
  where
    go : (ds : List Deed) → ((ds ++ []) ++ []) ++ [] ++ (puts (0 ∷ 0 ∷ []) ++ []) ≡ ds ++ puts (0 ∷ 0 ∷ [])
    go [] = refl
    go (d ∷ ds) = ap (λ (x : List Deed). d ∷ x) (go ds)
