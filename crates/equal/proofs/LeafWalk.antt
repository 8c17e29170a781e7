-- The walk keeps what holds of Literals and StaticKeys, and so do the numbers of temporaries: in the tree and in what is handed out.
-- Assumes nothing.
use mathlib.Core.Path.{◌≡◌, refl, sym, ap, ap₂, subst}
use mathlib.Core.Bool.{Bool, true, cond}
use mathlib.Core.List.{List, [], ◌∷◌, ◌++◌}
use Prim.Native.Nat.{ℕ, zero, suc, ◌+◌}
use lib.Dec.{eqb}
use Rattle.tree.specs.Tree.{Node, Fields, Piece, Items}
use Rattle.tree.specs.Tree.Node.{node}
use Rattle.lowering.specs.Parts.{is_empty, kind}
use Rattle.lowering.specs.Made.{Context}
use Rattle.lowering.specs.Walk.{Note, Walked, each_item_of, each_piece, each_field, inside, rewrite, within, walk}
use Rattle.lowering.specs.Weight.{weight, walked}
use Rattle.lowering.specs.Collect.{Name, Visit, Entry, over, new_in, new_in_piece, is_container, mark_of, marked, bare, bare_fields, bare_piece, bare_items, visits, visits_fields, visits_piece, visits_items, entry_at, entries, excluded_in, nodes, nodes_fields, nodes_piece, nodes_items, list_nodes, with_number, numbered, numbered_fields, numbered_piece, numbered_items}
use Rattle.lowering.proofs.Appearance.{In, here, there}
use Rattle.lowering.proofs.Cases.{by_test}
use Rattle.lowering.proofs.Notes.{AllNotes, both}
use Rattle.equal.specs.Canonical.{each_entry}
use Rattle.equal.proofs.LeafParts.{NoPart, NoParts, is_leaf_of, Leaf, Leaves, LeavesFields, LeavesPiece, LeavesItems, other, alone, append_leaves}
use Rattle.equal.proofs.LeafViews.{Makes}
use Rattle.equal.proofs.LeafRules.{GoodNote, rewrite_good}

-- ---- a leaf is left alone

module _ (w : ℕ → Node → Walked) where
  piece_alone : (next : ℕ) (p : Piece) → NoPart p → bare_piece next (each_piece w p) ≡ p
  unfolding bare each_piece
  piece_alone next (Piece.one n) h = absurd h
  piece_alone next (Piece.list is) h = absurd h
  piece_alone next (Piece.text bs) h = refl
  piece_alone next (Piece.byte b) h = refl
  piece_alone next (Piece.mark b) h = absurd h
  piece_alone next (Piece.number b) h = refl

fields_alone : (w : ℕ → ℕ → Node → Walked) (i next : ℕ) (fs : Fields) → NoParts fs → bare_fields next (each_field w i fs) ≡ fs
unfolding bare each_field
fields_alone w i next Fields.done h = refl
fields_alone w i next (Fields.absent fs) h = ap Fields.absent (fields_alone w (suc i) next fs h)
fields_alone w i next (Fields.field p fs) h =
    ap₂ Fields.field (piece_alone (w i) next p h.0) (fields_alone w (suc i) (next + new_in_piece (each_piece (w i) p)) fs h.1)

piece_numbered : (ns : List Name) (p : Piece) → NoPart p → numbered_piece ns p ≡ p
unfolding numbered
piece_numbered ns (Piece.one n) h = absurd h
piece_numbered ns (Piece.list is) h = absurd h
piece_numbered ns (Piece.text bs) h = refl
piece_numbered ns (Piece.byte b) h = refl
piece_numbered ns (Piece.mark b) h = absurd h
piece_numbered ns (Piece.number b) h = refl

fields_numbered : (ns : List Name) (fs : Fields) → NoParts fs → numbered_fields ns fs ≡ fs
unfolding numbered
fields_numbered ns Fields.done h = refl
fields_numbered ns (Fields.absent fs) h = ap Fields.absent (fields_numbered ns fs h)
fields_numbered ns (Fields.field p fs) h = ap₂ Fields.field (piece_numbered ns p h.0) (fields_numbered ns fs h.1)

module _ (Q : Node → Type 0) (makes : Makes Q) where
  abbrev G : Node → Type 0
  G n = Leaves Q n

  -- ---- the walk

  record Walks (w : Walked) : Type 0 where
    tree : (next : ℕ) → G (bare next w)
    notes : (next m : ℕ) → AllNotes (GoodNote Q makes) (visits next m w)

  module _ (w : ℕ → ℕ → Node → Walked) (part : (i j : ℕ) (n : Node) → G n → Walks (w i j n)) where
    items_tree : (i : ℕ) (is : Items) (j next : ℕ) → LeavesItems Q is → LeavesItems Q (bare_items next (each_item_of (w i) j is))
    unfolding bare each_item_of
    items_tree i Items.none j next h = tt
    items_tree i (Items.hole is) j next h = items_tree i is (suc j) next h
    items_tree i (Items.item n is) j next h = ((part i j n h.0).tree next, items_tree i is (suc j) (next + new_in (w i j n)) h.1)

    piece_tree : (i : ℕ) (p : Piece) (next : ℕ) → LeavesPiece Q p → LeavesPiece Q (bare_piece next (each_piece (w i) p))
    unfolding bare each_piece
    piece_tree i (Piece.one n) next h = (part i 0 n h).tree next
    piece_tree i (Piece.list is) next h = items_tree i is 0 next h
    piece_tree i (Piece.text bs) next h = tt
    piece_tree i (Piece.byte b) next h = tt
    piece_tree i (Piece.mark b) next h = tt
    piece_tree i (Piece.number b) next h = tt

    fields_tree : (fs : Fields) (i next : ℕ) → LeavesFields Q fs → LeavesFields Q (bare_fields next (each_field w i fs))
    unfolding bare each_field
    fields_tree Fields.done i next h = tt
    fields_tree (Fields.absent fs) i next h = fields_tree fs (suc i) next h
    fields_tree (Fields.field p fs) i next h =
        (piece_tree i p next h.0, fields_tree fs (suc i) (next + new_in_piece (each_piece (w i) p)) h.1)

    node_tree : (note : Note) (n : Node) → G n → (next : ℕ) → G (bare next (inside note w n))
    unfolding bare inside
    node_tree note (node at k fs) h next = (
      (λ t. let l = h.0 t in subst (λ (gs : Fields). Leaf Q at k gs) (sym (fields_alone w 0 next fs l.alone)) l),
      fields_tree fs 0 next h.1,
    )

    items_notes : (i : ℕ) (is : Items) (j : ℕ) (l : Bool) (next m : ℕ) → LeavesItems Q is → AllNotes (GoodNote Q makes) (visits_items l next m (each_item_of (w i) j is))
    unfolding visits each_item_of
    items_notes i Items.none j l next m h = tt
    items_notes i (Items.hole is) j l next m h = items_notes i is (suc j) l next m h
    items_notes i (Items.item n is) j l next m h =
        let k = cond l (marked next (mark_of (w i j n))) m in
        both (GoodNote Q makes) (visits next k (w i j n)) (visits_items l (next + new_in (w i j n)) m (each_item_of (w i) (suc j) is))
        ((part i j n h.0).notes next k) (items_notes i is (suc j) l (next + new_in (w i j n)) m h.1)

    piece_notes : (i : ℕ) (p : Piece) (l : Bool) (next m : ℕ) → LeavesPiece Q p → AllNotes (GoodNote Q makes) (visits_piece l next m (each_piece (w i) p))
    unfolding visits each_piece
    piece_notes i (Piece.one n) l next m h = (part i 0 n h).notes next m
    piece_notes i (Piece.list is) l next m h = items_notes i is 0 l next m h
    piece_notes i (Piece.text bs) l next m h = tt
    piece_notes i (Piece.byte b) l next m h = tt
    piece_notes i (Piece.mark b) l next m h = tt
    piece_notes i (Piece.number b) l next m h = tt

    fields_notes : (fs : Fields) (i : ℕ) (l : Bool) (next m : ℕ) → LeavesFields Q fs → AllNotes (GoodNote Q makes) (visits_fields l next m (each_field w i fs))
    unfolding visits each_field
    fields_notes Fields.done i l next m h = tt
    fields_notes (Fields.absent fs) i l next m h = fields_notes fs (suc i) l next m h
    fields_notes (Fields.field p fs) i l next m h =
        both (GoodNote Q makes) (visits_piece l next m (each_piece (w i) p)) (visits_fields l (next + new_in_piece (each_piece (w i) p)) m (each_field w (suc i) fs))
        (piece_notes i p l next m h.0) (fields_notes fs (suc i) l (next + new_in_piece (each_piece (w i) p)) m h.1)

    node_notes : (note : Note) → GoodNote Q makes note → (n : Node) → G n → (next m : ℕ) → AllNotes (GoodNote Q makes) (visits next m (inside note w n))
    unfolding visits inside
    node_notes note g (node at k fs) h next m = (g, fields_notes fs 0 (is_container k) next m h.1)

  walk_good : (f : ℕ) (c : Context) (n : Node) → G n → Walks (walk f c n)
  unfolding walk bare visits
  walk_good zero c n h =
      record { tree = λ next. other Q 0 0 Fields.done refl tt; notes = λ next m. (record { entry = tt; excluded = tt }, tt) }
  walk_good (suc f) c n h =
      let s = rewrite c n in
      let g = rewrite_good Q makes c n h in
      let w : ℕ → ℕ → Node → Walked = λ i j k. walk f (within c s.result i j) k in
      let p : (i j : ℕ) (k : Node) → G k → Walks (w i j k) = λ i j k l. walk_good f (within c s.result i j) k l in
      record { tree = node_tree w p s.note s.result g.result; notes = node_notes w p s.note g.note s.result g.result }

  -- ---- what it gives: the tree, the entries, the excluded keys

  pub tree_leaves : (c : Context) (n : Node) → G n → (next : ℕ) → G (bare next (walked c n))
  unfolding walked
  tree_leaves c n h next = (walk_good (weight n) c n h).tree next

  abbrev pub LeavesEntries : List Entry → Type 0
  LeavesEntries [] = Unit {0}
  LeavesEntries (e ∷ es) = LeavesItems Q e.declarators × LeavesEntries es

  entries_good : (vs : List Visit) → AllNotes (GoodNote Q makes) vs → LeavesEntries (entries vs)
  unfolding entries over entry_at
  entries_good [] h = tt
  entries_good (v ∷ vs) h =
      by_test (is_empty v.note.entry) (λ e. rw e (entries_good vs h.1)) (λ e. rw e (h.0.entry, entries_good vs h.1))

  excluded_good : (vs : List Visit) → AllNotes (GoodNote Q makes) vs → LeavesItems Q (excluded_in vs)
  unfolding excluded_in
  excluded_good [] h = tt
  excluded_good (v ∷ vs) h = append_leaves Q v.note.excluded (excluded_in vs) h.0.excluded (excluded_good vs h.1)

  pub entries_leaves : (c : Context) (n : Node) → G n → (next m : ℕ) → LeavesEntries (entries (visits next m (walked c n)))
  unfolding walked
  entries_leaves c n h next m = entries_good (visits next m (walk (weight n) c n)) ((walk_good (weight n) c n h).notes next m)

  pub excluded_leaves : (c : Context) (n : Node) → G n → (next m : ℕ) → LeavesItems Q (excluded_in (visits next m (walked c n)))
  unfolding walked
  excluded_leaves c n h next m = excluded_good (visits next m (walk (weight n) c n)) ((walk_good (weight n) c n h).notes next m)

  -- ---- numbers

  module _ (ns : List Name) where
    mutual
      unfolding numbered with_number

      pub numbered_leaves : (n : Node) → G n → G (numbered ns n)
      numbered_leaves (node at k fs) h =
          by_test (eqb k 20)
          (λ e. rw e (alone Q (with_number ns (node at k fs)) refl refl))
          (λ e. rw e (
            (λ t. let l = h.0 t in subst (λ (gs : Fields). Leaf Q at k gs) (sym (fields_numbered ns fs l.alone)) l),
            fields_leaves fs h.1,
          ))

      fields_leaves : (fs : Fields) → LeavesFields Q fs → LeavesFields Q (numbered_fields ns fs)
      fields_leaves Fields.done h = tt
      fields_leaves (Fields.absent fs) h = fields_leaves fs h
      fields_leaves (Fields.field p fs) h = (piece_leaves p h.0, fields_leaves fs h.1)

      piece_leaves : (p : Piece) → LeavesPiece Q p → LeavesPiece Q (numbered_piece ns p)
      piece_leaves (Piece.one n) h = numbered_leaves n h
      piece_leaves (Piece.list is) h = items_numbered is h
      piece_leaves (Piece.text bs) h = tt
      piece_leaves (Piece.byte b) h = tt
      piece_leaves (Piece.mark b) h = tt
      piece_leaves (Piece.number b) h = tt

      pub items_numbered : (is : Items) → LeavesItems Q is → LeavesItems Q (numbered_items ns is)
      items_numbered Items.none h = tt
      items_numbered (Items.hole is) h = items_numbered is h
      items_numbered (Items.item n is) h = (numbered_leaves n h.0, items_numbered is h.1)

    pub entries_numbered : (es : List Entry) → LeavesEntries es → LeavesEntries (each_entry (λ is. numbered_items ns is) es)
    unfolding each_entry
    entries_numbered [] h = tt
    entries_numbered (e ∷ es) h = (items_numbered e.declarators h.0, entries_numbered es h.1)

  -- ---- so Q holds of each Literal and StaticKey among the nodes

  abbrev pub Each : List Node → Type 0
  Each ns = (m : Node) → In m ns → is_leaf_of (kind m) ≡ true → Q m

  split : (us vs : List Node) → Each us → Each vs → Each (us ++ vs)
  split [] vs f g m i = g m i
  split (u ∷ us) vs f g m (here e) = f m (here e)
  split (u ∷ us) vs f g m (there i) = split us vs (λ k j. f k (there j)) g m i

  first : (n : Node) (us : List Node) → (is_leaf_of (kind n) ≡ true → Q n) → Each us → Each (n ∷ us)
  first n us f g m (here e) t = subst Q (sym e) (f (subst (λ (k : Node). is_leaf_of (kind k) ≡ true) e t))
  first n us f g m (there i) t = g m i t

  mutual
    unfolding nodes

    pub each_node : (n : Node) → G n → Each (nodes n)
    each_node (node at k fs) h = first (node at k fs) (nodes_fields fs) (λ t. (h.0 t).holds) (each_fields fs h.1)

    each_fields : (fs : Fields) → LeavesFields Q fs → Each (nodes_fields fs)
    each_fields (Fields.absent fs) h = each_fields fs h
    each_fields (Fields.field p fs) h = split (nodes_piece p) (nodes_fields fs) (each_piece_lem p h.0) (each_fields fs h.1)
    each_fields Fields.done h = λ m i. elim i [ ]

    each_piece_lem : (p : Piece) → LeavesPiece Q p → Each (nodes_piece p)
    each_piece_lem (Piece.one n) h = each_node n h
    each_piece_lem (Piece.list is) h = each_items is h
    each_piece_lem (Piece.text bs) h = λ m i. elim i [ ]
    each_piece_lem (Piece.byte b) h = λ m i. elim i [ ]
    each_piece_lem (Piece.mark b) h = λ m i. elim i [ ]
    each_piece_lem (Piece.number b) h = λ m i. elim i [ ]

    pub each_items : (is : Items) → LeavesItems Q is → Each (nodes_items is)
    each_items Items.none h = λ m i. elim i [ ]
    each_items (Items.hole is) h = each_items is h
    each_items (Items.item n is) h = split (nodes n) (nodes_items is) (each_node n h.0) (each_items is h.1)

  each_entries : (es : List Entry) → LeavesEntries es → Each (over (λ e. nodes_items e.declarators) es)
  unfolding over
  each_entries [] h = λ m i. elim i [ ]
  each_entries (e ∷ es) h = split (nodes_items e.declarators) (over (λ d. nodes_items d.declarators) es) (each_items e.declarators h.0) (each_entries es h.1)

  pub each_written : (n : Node) (es : List Entry) (excluded : Items) → G n → LeavesEntries es → LeavesItems Q excluded → Each (nodes n ++ list_nodes es excluded)
  unfolding list_nodes
  each_written n es excluded h k l =
      split (nodes n) (over (λ e. nodes_items e.declarators) es ++ nodes_items excluded) (each_node n h)
      (split (over (λ e. nodes_items e.declarators) es) (nodes_items excluded) (each_entries es k) (each_items excluded l))
