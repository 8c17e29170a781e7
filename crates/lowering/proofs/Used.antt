-- Each temporary that stands in the result, in the tree or in the list, was made by the walk; and it was made once (DistinctNames).
-- Assumes nothing.
use mathlib.Core.Path.{◌≡◌, refl, ap, ap₂, ◌∙◌}
use mathlib.Core.Bool.{Bool, cond}
use mathlib.Core.List.{List, [], ◌∷◌}
use Prim.Native.Nat.{ℕ, zero, suc, ◌+◌, ◌<◌}
use native.Mathlib.Omega.{arith}
use Rattle.tree.specs.Tree.{Node, Fields, Piece, Items}
use Rattle.tree.specs.Tree.Node.{node}
use Rattle.tree.specs.Grammar.Stage.{input}
use Rattle.tree.specs.Read.{read_tree}
use Rattle.tree.specs.Read.Got.{got}
use Rattle.lowering.specs.Parts.{piece_in, as_text, as_number, text_at_of, number_at, is_empty}
use Rattle.lowering.specs.Made.{Context}
use Rattle.lowering.specs.Walk.{Note, Walked, WalkedFields, WalkedPiece, WalkedItems, each_item_of, each_piece, each_field, inside, rewrite, within, walk}
use Rattle.lowering.specs.Walk.Walked.{noted}
use Rattle.lowering.specs.Weight.{weight, walked}
use Rattle.lowering.specs.Collect.{Name, name_of, over, Visit, Entry, new_in, new_in_piece, is_container, mark_of, marked, bare, bare_fields, bare_piece, bare_items, visits, visits_fields, visits_piece, visits_items, entry_at, entries, excluded_in, made_in_of}
use Rattle.lowering.specs.Answer.{top}
use Rattle.lowering.proofs.Cases.{by_test}
use Rattle.lowering.proofs.MadeAtSites.{times, times_append}
use Rattle.lowering.proofs.DistinctNames.{total_append}
use Rattle.lowering.proofs.Notes.{AllNotes, both}
use Rattle.lowering.proofs.Occurs.{occurs, occurs_fields, occurs_piece, occurs_items, fields_in, Free, occurs_append, none_occurs}
use Rattle.lowering.proofs.SoundSteps.{rewrite_sound}
use Rattle.lowering.proofs.Accepted.{Proper, ProperFields, ProperPiece, ProperItems, accepted_good}
use Rattle.lowering.proofs.Accepted.Proper.{proper}

-- ---- walking keeps the texts and numbers of a node

module _ (w : ℕ → Node → Walked) where
  piece_text : (next : ℕ) (p : Piece) → as_text (bare_piece next (each_piece w p)) ≡ as_text p
  unfolding bare each_piece
  piece_text next (Piece.one n) = refl
  piece_text next (Piece.list is) = refl
  piece_text next (Piece.text bs) = refl
  piece_text next (Piece.byte b) = refl
  piece_text next (Piece.mark b) = refl
  piece_text next (Piece.number b) = refl

  piece_number : (next : ℕ) (p : Piece) → as_number (bare_piece next (each_piece w p)) ≡ as_number p
  unfolding bare each_piece
  piece_number next (Piece.one n) = refl
  piece_number next (Piece.list is) = refl
  piece_number next (Piece.text bs) = refl
  piece_number next (Piece.byte b) = refl
  piece_number next (Piece.mark b) = refl
  piece_number next (Piece.number b) = refl

module _ (w : ℕ → ℕ → Node → Walked) where
  text_walked : (fs : Fields) (i j next : ℕ) → as_text (piece_in (bare_fields next (each_field w i fs)) j) ≡ as_text (piece_in fs j)
  unfolding bare each_field piece_in
  text_walked Fields.done i j next = refl
  text_walked (Fields.absent fs) i zero next = refl
  text_walked (Fields.absent fs) i (suc j) next = text_walked fs (suc i) j next
  text_walked (Fields.field p fs) i zero next = piece_text (w i) next p
  text_walked (Fields.field p fs) i (suc j) next = text_walked fs (suc i) j (next + new_in_piece (each_piece (w i) p))

  number_walked : (fs : Fields) (i j next : ℕ) → as_number (piece_in (bare_fields next (each_field w i fs)) j) ≡ as_number (piece_in fs j)
  unfolding bare each_field piece_in
  number_walked Fields.done i j next = refl
  number_walked (Fields.absent fs) i zero next = refl
  number_walked (Fields.absent fs) i (suc j) next = number_walked fs (suc i) j next
  number_walked (Fields.field p fs) i zero next = piece_number (w i) next p
  number_walked (Fields.field p fs) i (suc j) next = number_walked fs (suc i) j (next + new_in_piece (each_piece (w i) p))

  name_walked : (at k : ℕ) (fs : Fields) (next : ℕ) → name_of (node at k (bare_fields next (each_field w 0 fs))) ≡ name_of (node at k fs)
  unfolding name_of text_at_of number_at
  name_walked at k fs next =
      let t = text_walked fs 0 1 next in
      let n = number_walked fs 0 0 next in
      λ j. record { path = (t) j; stem = (n) j; place = at }

module _ (a : Name) where
  -- ---- how often the name is made in a walked tree

  unfoldable mutual
    makes : Walked → ℕ
    makes (noted note at k fs) = times a note.made + makes_fields fs

    makes_fields : WalkedFields → ℕ
    makes_fields WalkedFields.done = 0
    makes_fields (WalkedFields.absent fs) = makes_fields fs
    makes_fields (WalkedFields.field p fs) = makes_piece p + makes_fields fs

    makes_piece : WalkedPiece → ℕ
    makes_piece (WalkedPiece.one w) = makes w
    makes_piece (WalkedPiece.list is) = makes_items is
    makes_piece (WalkedPiece.text bs) = 0
    makes_piece (WalkedPiece.byte b) = 0
    makes_piece (WalkedPiece.mark b) = 0
    makes_piece (WalkedPiece.number b) = 0

    makes_items : WalkedItems → ℕ
    makes_items WalkedItems.none = 0
    makes_items (WalkedItems.hole is) = makes_items is
    makes_items (WalkedItems.item w is) = makes w + makes_items is

  mutual
    unfolding makes visits made_in_of times

    visits_make : (w : Walked) (next m : ℕ) → times a (made_in_of (visits next m w)) ≡ makes w
    visits_make (noted note at k fs) next m =
        times_append a note.made (made_in_of (visits_fields (is_container k) next m fs)) ∙ ap (λ (x : ℕ). times a note.made + x) (fields_make fs (is_container k) next m)

    fields_make : (fs : WalkedFields) (l : Bool) (next m : ℕ) → times a (made_in_of (visits_fields l next m fs)) ≡ makes_fields fs
    fields_make WalkedFields.done l next m = refl
    fields_make (WalkedFields.absent fs) l next m = fields_make fs l next m
    fields_make (WalkedFields.field p fs) l next m =
        total_append a (visits_piece l next m p) (visits_fields l (next + new_in_piece p) m fs)
        ∙ ap₂ (λ (x y : ℕ). x + y) (piece_makes p l next m) (fields_make fs l (next + new_in_piece p) m)

    piece_makes : (p : WalkedPiece) (l : Bool) (next m : ℕ) → times a (made_in_of (visits_piece l next m p)) ≡ makes_piece p
    piece_makes (WalkedPiece.one w) l next m = visits_make w next m
    piece_makes (WalkedPiece.list is) l next m = items_make is l next m
    piece_makes (WalkedPiece.text bs) l next m = refl
    piece_makes (WalkedPiece.byte b) l next m = refl
    piece_makes (WalkedPiece.mark b) l next m = refl
    piece_makes (WalkedPiece.number b) l next m = refl

    items_make : (is : WalkedItems) (l : Bool) (next m : ℕ) → times a (made_in_of (visits_items l next m is)) ≡ makes_items is
    items_make WalkedItems.none l next m = refl
    items_make (WalkedItems.hole is) l next m = items_make is l next m
    items_make (WalkedItems.item w is) l next m =
        let n = cond l (marked next (mark_of w)) m in
        total_append a (visits next n w) (visits_items l (next + new_in w) m is)
        ∙ ap₂ (λ (x y : ℕ). x + y) (visits_make w next n) (items_make is l (next + new_in w) m)

  -- ---- a tree in which it is not made, and nothing is handed out with it

  abbrev Quiet : Note → Type 0
  Quiet note = (occurs_items a note.entry ≡ 0) × (occurs_items a note.excluded ≡ 0)

  record Without (w : Walked) : Type 0 where
    tree : (next : ℕ) → occurs a (bare next w) ≡ 0
    notes : (next m : ℕ) → AllNotes Quiet (visits next m w)

  module _ (w : ℕ → ℕ → Node → Walked) (part : (i j : ℕ) (n : Node) → Free a n → makes (w i j n) ≡ 0 → Without (w i j n)) where
    items_free : (i : ℕ) (is : Items) (j next : ℕ) → occurs_items a is ≡ 0 → makes_items (each_item_of (w i) j is) ≡ 0 → occurs_items a (bare_items next (each_item_of (w i) j is)) ≡ 0
    unfolding bare each_item_of makes occurs
    items_free i Items.none j next f z = refl
    items_free i (Items.hole is) j next f z = items_free i is (suc j) next f z
    items_free i (Items.item n is) j next f z =
        let u = (part i j n (omega arith) (omega arith)).tree next in
        let v = items_free i is (suc j) (next + new_in (w i j n)) (omega arith) (omega arith) in
        omega arith

    piece_free : (i : ℕ) (p : Piece) (next : ℕ) → occurs_piece a p ≡ 0 → makes_piece (each_piece (w i) p) ≡ 0 → occurs_piece a (bare_piece next (each_piece (w i) p)) ≡ 0
    unfolding bare each_piece makes occurs
    piece_free i (Piece.one n) next f z = (part i 0 n f z).tree next
    piece_free i (Piece.list is) next f z = items_free i is 0 next f z
    piece_free i (Piece.text bs) next f z = refl
    piece_free i (Piece.byte b) next f z = refl
    piece_free i (Piece.mark b) next f z = refl
    piece_free i (Piece.number b) next f z = refl

    fields_free : (fs : Fields) (i next : ℕ) → occurs_fields a fs ≡ 0 → makes_fields (each_field w i fs) ≡ 0 → occurs_fields a (bare_fields next (each_field w i fs)) ≡ 0
    unfolding bare each_field makes occurs
    fields_free Fields.done i next f z = refl
    fields_free (Fields.absent fs) i next f z = fields_free fs (suc i) next f z
    fields_free (Fields.field p fs) i next f z =
        let u = piece_free i p next (omega arith) (omega arith) in
        let v = fields_free fs (suc i) (next + new_in_piece (each_piece (w i) p)) (omega arith) (omega arith) in
        omega arith

    items_quiet : (i : ℕ) (is : Items) (j : ℕ) (l : Bool) (next m : ℕ) → occurs_items a is ≡ 0 → makes_items (each_item_of (w i) j is) ≡ 0 → AllNotes Quiet (visits_items l next m (each_item_of (w i) j is))
    unfolding visits each_item_of makes occurs
    items_quiet i Items.none j l next m f z = tt
    items_quiet i (Items.hole is) j l next m f z = items_quiet i is (suc j) l next m f z
    items_quiet i (Items.item n is) j l next m f z =
        let k = cond l (marked next (mark_of (w i j n))) m in
        both Quiet (visits next k (w i j n)) (visits_items l (next + new_in (w i j n)) m (each_item_of (w i) (suc j) is))
        ((part i j n (omega arith) (omega arith)).notes next k) (items_quiet i is (suc j) l (next + new_in (w i j n)) m (omega arith) (omega arith))

    piece_quiet : (i : ℕ) (p : Piece) (l : Bool) (next m : ℕ) → occurs_piece a p ≡ 0 → makes_piece (each_piece (w i) p) ≡ 0 → AllNotes Quiet (visits_piece l next m (each_piece (w i) p))
    unfolding visits each_piece makes occurs
    piece_quiet i (Piece.one n) l next m f z = (part i 0 n f z).notes next m
    piece_quiet i (Piece.list is) l next m f z = items_quiet i is 0 l next m f z
    piece_quiet i (Piece.text bs) l next m f z = tt
    piece_quiet i (Piece.byte b) l next m f z = tt
    piece_quiet i (Piece.mark b) l next m f z = tt
    piece_quiet i (Piece.number b) l next m f z = tt

    fields_quiet : (fs : Fields) (i : ℕ) (l : Bool) (next m : ℕ) → occurs_fields a fs ≡ 0 → makes_fields (each_field w i fs) ≡ 0 → AllNotes Quiet (visits_fields l next m (each_field w i fs))
    unfolding visits each_field makes occurs
    fields_quiet Fields.done i l next m f z = tt
    fields_quiet (Fields.absent fs) i l next m f z = fields_quiet fs (suc i) l next m f z
    fields_quiet (Fields.field p fs) i l next m f z =
        both Quiet (visits_piece l next m (each_piece (w i) p)) (visits_fields l (next + new_in_piece (each_piece (w i) p)) m (each_field w (suc i) fs))
        (piece_quiet i p l next m (omega arith) (omega arith)) (fields_quiet fs (suc i) l (next + new_in_piece (each_piece (w i) p)) m (omega arith) (omega arith))

    node_tree : (note : Note) (n : Node) → Free a n → makes (inside note w n) ≡ 0 → (next : ℕ) → occurs a (bare next (inside note w n)) ≡ 0
    unfolding bare inside makes occurs
    node_tree note (node at k fs) f z next =
        rw (name_walked w at k fs next) (let u = fields_free fs 0 next (omega arith) (omega arith) in omega arith)

    node_notes : (note : Note) → Quiet note → (n : Node) → Free a n → makes (inside note w n) ≡ 0 → (next m : ℕ) → AllNotes Quiet (visits next m (inside note w n))
    unfolding visits inside makes
    node_notes note q (node at k fs) f z next m =
        let u = fields_in a at k fs in
        (q, fields_quiet fs 0 (is_container k) next m (omega arith) (omega arith))

  step_makes : (note : Note) (w : ℕ → ℕ → Node → Walked) (n : Node) → makes (inside note w n) ≡ 0 → times a note.made ≡ 0
  unfolding inside makes
  step_makes note w (node at k fs) z = omega arith

  walk_without : (f : ℕ) (c : Context) (n : Node) → Free a n → makes (walk f c n) ≡ 0 → Without (walk f c n)
  unfolding walk bare visits occurs
  walk_without zero c n h z = record { tree = λ next. refl; notes = λ next m. ((none_occurs a, none_occurs a), tt) }
  walk_without (suc f) c n h z =
      let s = rewrite c n in
      let w : ℕ → ℕ → Node → Walked = λ i j k. walk f (within c s.result i j) k in
      let p : (i j : ℕ) (k : Node) → Free a k → makes (w i j k) ≡ 0 → Without (w i j k) = λ i j k g y. walk_without f (within c s.result i j) k g y in
      let r = rewrite_sound a c n h (step_makes s.note w s.result z) in
      record { tree = node_tree w p s.note s.result r.0 z; notes = node_notes w p s.note (r.1, r.2) s.result r.0 z }

  -- ---- the list

  unfoldable pub in_entries : List Entry → ℕ
  in_entries [] = 0
  in_entries (e ∷ es) = occurs_items a e.declarators + in_entries es

  entries_without : (vs : List Visit) → AllNotes Quiet vs → in_entries (entries vs) ≡ 0
  unfolding entries over entry_at in_entries
  entries_without [] h = refl
  entries_without (v ∷ vs) h =
      let u = entries_without vs h.1 in
      let w = h.0.0 in
      by_test (is_empty v.note.entry) (λ e. rw e u) (λ e. rw e (omega arith))

  excluded_without : (vs : List Visit) → AllNotes Quiet vs → occurs_items a (excluded_in vs) ≡ 0
  unfolding excluded_in
  excluded_without [] h = none_occurs a
  excluded_without (v ∷ vs) h =
      let u = excluded_without vs h.1 in let w = h.0.1 in let e = occurs_append a v.note.excluded (excluded_in vs) in omega arith

  -- where a name is not made, it stands nowhere
  pub unmade_unused : (c : Context) (n : Node) → Free a n → (next m : ℕ) → times a (made_in_of (visits next m (walked c n))) ≡ 0
      → (occurs a (bare next (walked c n)) ≡ 0) × (in_entries (entries (visits next m (walked c n))) ≡ 0) × (occurs_items a (excluded_in (visits next m (walked c n))) ≡ 0)
  unfolding walked
  unmade_unused c n h next m z =
      let y = visits_make (walked c n) next m in
      let w = walk_without (weight n) c n h (omega arith) in
      let vs = visits next m (walked c n) in
      (w.tree next, entries_without vs (w.notes next m), excluded_without vs (w.notes next m))

-- a tree without temporaries, as every tree that is accepted is
mutual
  unfolding occurs

  pub no_temporary : (a : Name) (n : Node) → Proper n → Free a n
  no_temporary a (node at k fs) (proper names objects holes temporary helper p) = rw temporary (let u = no_fields a fs p in omega arith)

  no_fields : (a : Name) (fs : Fields) → ProperFields fs → occurs_fields a fs ≡ 0
  no_fields a Fields.done ProperFields.done = refl
  no_fields a (Fields.absent fs) (ProperFields.absent p) = no_fields a fs p
  no_fields a (Fields.field q fs) (ProperFields.field u p) = let v = no_piece a q u in let w = no_fields a fs p in omega arith

  no_piece : (a : Name) (q : Piece) → ProperPiece q → occurs_piece a q ≡ 0
  no_piece a (Piece.one n) (ProperPiece.one p) = no_temporary a n p
  no_piece a (Piece.list is) (ProperPiece.list p) = no_items a is p
  no_piece a (Piece.text bs) ProperPiece.text = refl
  no_piece a (Piece.byte b) ProperPiece.byte = refl
  no_piece a (Piece.mark b) (ProperPiece.mark h) = refl
  no_piece a (Piece.number b) ProperPiece.number = refl

  no_items : (a : Name) (is : Items) → ProperItems is → occurs_items a is ≡ 0
  no_items a Items.none ProperItems.none = refl
  no_items a (Items.hole is) (ProperItems.hole p) = no_items a is p
  no_items a (Items.item n is) (ProperItems.item u p) = let v = no_temporary a n u in let w = no_items a is p in omega arith

-- in the result of an accepted tree each name that stands somewhere was made
pub used_made : (limit : ℕ) (tree : List ℕ) (n : Node) (q next : ℕ) → read_tree input limit tree ≡ got n q next → (a : Name)
    → let vs = visits next 0 (walked top n) in 0 < occurs a (bare next (walked top n)) + (in_entries a (entries vs) + occurs_items a (excluded_in vs)) → 0 < times a (made_in_of vs)
used_made limit tree n q next e a h =
    let vs = visits next 0 (walked top n) in
    let f = no_temporary a n (accepted_good limit tree n q next e).fine in
    go (times a (made_in_of vs)) (λ z. unmade_unused a top n f next 0 z) h
  where
    vs : List Visit
    vs = visits next 0 (walked top n)

    go : (t : ℕ) → (t ≡ 0 → (occurs a (bare next (walked top n)) ≡ 0) × (in_entries a (entries vs) ≡ 0) × (occurs_items a (excluded_in vs) ≡ 0))
        → 0 < occurs a (bare next (walked top n)) + (in_entries a (entries vs) + occurs_items a (excluded_in vs)) → 0 < t
    go zero u k = let w = u refl in let x = w.0 in let y = w.1 in let z = w.2 in absurd (omega arith)
    go (suc t) u k = omega arith
