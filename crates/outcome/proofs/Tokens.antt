-- The tree that named events write: where each Temporary has the name that its cell stands for, it is the bare tree, a name for each Temporary.
-- Assumes nothing.
use mathlib.Core.Path.{◌≡◌, refl, sym, ap, ap₂, ◌∙◌, subst}
use mathlib.Core.Bool.{Bool, true, false, cond}
use mathlib.Core.List.{List, [], ◌∷◌, ◌++◌, append_assoc}
use Prim.Native.Nat.{ℕ, zero, suc, ◌+◌}
use native.Mathlib.Nat.{add-zero}
use native.Mathlib.Omega.{arith}
use lib.Dec.{eqb}
use lib.ListN.{length}
use borrow.Author.Tests.{eqb-true}
use Rattle.tree.specs.Tree.{Fields, Items, wide_bytes, map_of, count, encode}
use Rattle.tree.specs.Tree.Node.{node}
use Rattle.lowering.specs.Parts.{node_at_of, number_at, piece_in, stands, is_empty}
use Rattle.lowering.specs.Walk.{Note, Walked, WalkedFields, WalkedPiece, WalkedItems}
use Rattle.lowering.specs.Walk.Walked.{noted}
use Rattle.lowering.specs.Collect.{Name, name_of, new_in, new_in_fields, new_in_piece, new_in_items, is_container, marked, mark_of, bare, bare_fields, bare_piece, bare_items}
use Rattle.lowering.proofs.Cases.{by_test}
use Rattle.sink.specs.Shown.{Named, Token, names_after, mark_after, tree_of, tree_tokens}
use Rattle.sink.specs.Shown.Token.{plain, temp}
use Rattle.direct.specs.Events.{cell, cell_of, stem_of, later, number_in, count_in, map_in}
use Rattle.outcome.specs.Named.{Act, puts, lists, excludes, made, handed, entered, excluded_keys, hands_out, marks, written, named, named_fields, named_piece, named_items, plains, tokens, tokens_fields, tokens_piece, tokens_items, after}
use Rattle.outcome.proofs.Refusals.{Leaf, Leafy, LeafyFields, LeafyPiece, LeafyItems}

-- ---- what a row of events does: the names of the cells, the next mark, the tree

unfoldable pub mark_run : ℕ → List Act → ℕ
mark_run k [] = k
mark_run k (e ∷ es) = mark_run (mark_after k e) es

-- from the next mark k on the row writes ts, and k' is the next mark then
pub record Writes (names : ℕ → Name) (k : ℕ) (es : List Act) (k' : ℕ) (ts : List (Token Name)) : Type 0 where
  pub next : mark_run k es ≡ k'
  pub tree : tree_tokens names k es ≡ ts

nothing_writes : (names : ℕ → Name) (k : ℕ) → Writes names k [] k []
unfolding mark_run tree_tokens
nothing_writes names k = record { next = refl; tree = refl }

pub after_append : (names : ℕ → Name) (es fs : List Act) → after names (es ++ fs) ≡ after (after names es) fs
unfolding after
after_append names [] fs = refl
after_append names (e ∷ es) fs = after_append (names_after names e) es fs

mark_run_append : (k : ℕ) (es fs : List Act) → mark_run k (es ++ fs) ≡ mark_run (mark_run k es) fs
unfolding mark_run
mark_run_append k [] fs = refl
mark_run_append k (e ∷ es) fs = mark_run_append (mark_after k e) es fs

tree_tokens_append : (names : ℕ → Name) (k : ℕ) (es fs : List Act)
    → tree_tokens names k (es ++ fs) ≡ tree_tokens names k es ++ tree_tokens (after names es) (mark_run k es) fs
unfolding tree_tokens after mark_run
tree_tokens_append names k [] fs = refl
tree_tokens_append names k (e ∷ es) fs =
    ap (λ (x : List (Token Name)). tree_of names k e ++ x) (tree_tokens_append (names_after names e) (mark_after k e) es fs)
    ∙ sym (append_assoc (tree_of names k e) (tree_tokens (names_after names e) (mark_after k e) es) (tree_tokens (after (names_after names e) es) (mark_run (mark_after k e) es) fs))

pub then_writes : (names : ℕ → Name) (k k' k'' : ℕ) (es fs : List Act) (ts us : List (Token Name))
    → Writes names k es k' ts → Writes (after names es) k' fs k'' us → Writes names k (es ++ fs) k'' (ts ++ us)
then_writes names k k' k'' es fs ts us r s =
    record {
      next = mark_run_append k es fs ∙ ap (λ (x : ℕ). mark_run x fs) r.next ∙ s.next;
      tree = tree_tokens_append names k es fs
          ∙ ap₂ (λ (x : List (Token Name)) (y : List (Token Name)). x ++ y) r.tree
          (ap (λ (y : ℕ). tree_tokens (after names es) y fs) r.next ∙ s.tree);
    }

-- the same row with other ends
pub writes_to : (names : ℕ → Name) (k k' k'' : ℕ) (es : List Act) (ts us : List (Token Name)) → k' ≡ k'' → ts ≡ us → Writes names k es k' ts → Writes names k es k'' us
writes_to names k k' k'' es ts us e f r = record { next = r.next ∙ e; tree = r.tree ∙ f }

pub puts_write : (names : ℕ → Name) (k : ℕ) (bs : List ℕ) → Writes names k (puts bs) k (plains bs)
unfolding puts plains mark_run tree_tokens names_after mark_after tree_of
puts_write names k [] = record { next = refl; tree = refl }
puts_write names k (b ∷ bs) =
    let r = puts_write names k bs in
    record { next = r.next; tree = ap (λ (x : List (Token Name)). plain b ∷ x) r.tree }

pub puts_after : (names : ℕ → Name) (bs : List ℕ) → after names (puts bs) ≡ names
unfolding puts after names_after
puts_after names [] = refl
puts_after names (b ∷ bs) = puts_after names bs

-- ---- rows that write nothing of the tree

abbrev pub Aside : List Act → Type 0
Aside [] = Unit {0}
Aside (Named.put b ∷ es) = ⊥
Aside (Named.helper h ∷ es) = ⊥
Aside (Named.temporary c stem ∷ es) = ⊥
Aside (Named.new_mark ∷ es) = ⊥
Aside (Named.make c a ∷ es) = Aside es
Aside (Named.listed b ∷ es) = Aside es
Aside (Named.listed_temporary c stem a ∷ es) = Aside es
Aside (Named.entry m n ∷ es) = Aside es
Aside (Named.excluded b ∷ es) = Aside es
Aside (Named.excluded_temporary c stem a ∷ es) = Aside es
Aside (Named.declarator ∷ es) = Aside es

pub aside_writes : (names : ℕ → Name) (k : ℕ) (es : List Act) → Aside es → Writes names k es k []
unfolding mark_run tree_tokens names_after mark_after tree_of
aside_writes names k [] h = record { next = refl; tree = refl }
aside_writes names k (Named.put b ∷ es) h = absurd h
aside_writes names k (Named.helper b ∷ es) h = absurd h
aside_writes names k (Named.temporary b stem ∷ es) h = absurd h
aside_writes names k (Named.new_mark ∷ es) h = absurd h
aside_writes names k (Named.make c a ∷ es) h =
    let r = aside_writes (names_after names (Named.make c a)) k es h in record { next = r.next; tree = r.tree }
aside_writes names k (Named.listed b ∷ es) h =
    let r = aside_writes (names_after names (Named.listed b)) k es h in record { next = r.next; tree = r.tree }
aside_writes names k (Named.listed_temporary c stem a ∷ es) h =
    let r = aside_writes (names_after names (Named.listed_temporary c stem a)) k es h in record { next = r.next; tree = r.tree }
aside_writes names k (Named.entry m n ∷ es) h =
    let r = aside_writes (names_after names (Named.entry m n)) k es h in record { next = r.next; tree = r.tree }
aside_writes names k (Named.excluded b ∷ es) h =
    let r = aside_writes (names_after names (Named.excluded b)) k es h in record { next = r.next; tree = r.tree }
aside_writes names k (Named.excluded_temporary c stem a ∷ es) h =
    let r = aside_writes (names_after names (Named.excluded_temporary c stem a)) k es h in record { next = r.next; tree = r.tree }
aside_writes names k (Named.declarator ∷ es) h =
    let r = aside_writes (names_after names (Named.declarator)) k es h in record { next = r.next; tree = r.tree }

aside_both : (es fs : List Act) → Aside es → Aside fs → Aside (es ++ fs)
aside_both [] fs h k = k
aside_both (Named.put b ∷ es) fs h k = absurd h
aside_both (Named.helper b ∷ es) fs h k = absurd h
aside_both (Named.temporary b stem ∷ es) fs h k = absurd h
aside_both (Named.new_mark ∷ es) fs h k = absurd h
aside_both (Named.make c a ∷ es) fs h k = aside_both es fs h k
aside_both (Named.listed b ∷ es) fs h k = aside_both es fs h k
aside_both (Named.listed_temporary c stem a ∷ es) fs h k = aside_both es fs h k
aside_both (Named.entry m n ∷ es) fs h k = aside_both es fs h k
aside_both (Named.excluded b ∷ es) fs h k = aside_both es fs h k
aside_both (Named.excluded_temporary c stem a ∷ es) fs h k = aside_both es fs h k
aside_both (Named.declarator ∷ es) fs h k = aside_both es fs h k

either : (b : Bool) (es fs : List Act) → Aside es → Aside fs → Aside (cond b es fs)
either true es fs h k = h
either false es fs h k = k

lists_aside : (bs : List ℕ) → Aside (lists bs)
unfolding lists
lists_aside [] = tt
lists_aside (b ∷ bs) = lists_aside bs

excludes_aside : (bs : List ℕ) → Aside (excludes bs)
unfolding excludes
excludes_aside [] = tt
excludes_aside (b ∷ bs) = excludes_aside bs

made_aside : (ts : Items) → Aside (made ts)
unfolding made
made_aside Items.none = tt
made_aside (Items.hole ts) = made_aside ts
made_aside (Items.item t ts) = either (eqb (number_at 0 t) 2) (made ts) (Named.make (cell_of t) (name_of t) ∷ made ts) (made_aside ts) (made_aside ts)

handed_aside : (ds : Items) → Aside (handed ds)
unfolding handed lists
handed_aside Items.none = tt
handed_aside (Items.hole ds) = handed_aside ds
handed_aside (Items.item d ds) =
    aside_both (cond (stands 1 d) (lists (encode (node_at_of 1 d))) []) (handed ds)
    (either (stands 1 d) (lists (encode (node_at_of 1 d))) [] (lists_aside (encode (node_at_of 1 d))) tt)
    (handed_aside ds)

entered_aside : (m : ℕ) (ds : Items) → Aside (entered m ds)
unfolding entered
entered_aside m ds = either (is_empty ds) [] (Named.entry m (count ds) ∷ handed ds) tt (handed_aside ds)

excluded_aside : (ds : Items) → Aside (excluded_keys ds)
unfolding excluded_keys
excluded_aside Items.none = tt
excluded_aside (Items.hole ds) = excluded_aside ds
excluded_aside (Items.item d ds) =
    aside_both (excludes (encode (node_at_of 1 d))) (excluded_keys ds) (excludes_aside (encode (node_at_of 1 d))) (excluded_aside ds)

pub hands_aside : (m : ℕ) (note : Note) → Aside (hands_out m note)
unfolding hands_out
hands_aside m note =
    aside_both (cond (is_empty note.entry) (made note.made) [] ++ entered m note.entry) (excluded_keys note.excluded)
    (aside_both (cond (is_empty note.entry) (made note.made) []) (entered m note.entry)
    (either (is_empty note.entry) (made note.made) [] (made_aside note.made) tt)
    (entered_aside m note.entry))
    (excluded_aside note.excluded)

-- ---- the names of the cells do not depend on marks

entered_names : (names : ℕ → Name) (m m' : ℕ) (ds : Items) → after names (entered m ds) ≡ after names (entered m' ds)
unfolding entered after names_after
entered_names names m m' ds = go (is_empty ds)
  where
    go : (b : Bool) → after names (cond b [] (Named.entry m (count ds) ∷ handed ds)) ≡ after names (cond b [] (Named.entry m' (count ds) ∷ handed ds))
    go true = refl
    go false = refl

pub hands_names : (names : ℕ → Name) (m m' : ℕ) (note : Note) → after names (hands_out m note) ≡ after names (hands_out m' note)
unfolding hands_out
hands_names names m m' note =
    let one = cond (is_empty note.entry) (made note.made) [] in
    let end = excluded_keys note.excluded in
    after_append names (one ++ entered m note.entry) end
    ∙ ap (λ (x : ℕ → Name). after x end)
    (after_append names one (entered m note.entry) ∙ entered_names (after names one) m m' note.entry ∙ sym (after_append names one (entered m' note.entry)))
    ∙ sym (after_append names (one ++ entered m' note.entry) end)

abbrev Alike : List Act → List Act → Type 0
Alike es fs = (names : ℕ → Name) → after names es ≡ after names fs

alike_both : (es es' fs fs' : List Act) → Alike es es' → Alike fs fs' → Alike (es ++ fs) (es' ++ fs')
alike_both es es' fs fs' h k names =
    after_append names es fs ∙ ap (λ (x : ℕ → Name). after x fs) (h names) ∙ k (after names es') ∙ sym (after_append names es' fs')

same_alike : (es : List Act) → Alike es es
same_alike es names = refl

written_alike : (at k : ℕ) (fs : WalkedFields) (es es' : List Act) → Alike es es' → Alike (written at k fs es) (written at k fs es')
unfolding written
written_alike at k fs es es' h names =
    by_test (eqb k 20)
    (λ e. rw e refl)
    (λ e. rw e (by_test (eqb k 21) (λ d. rw d refl) (λ d. rw d (alike_both (puts (k ∷ map_in fs ∷ [])) (puts (k ∷ map_in fs ∷ [])) es es' (same_alike (puts (k ∷ map_in fs ∷ []))) h names))))

mutual
  unfolding named

  pub named_alike : (w : Walked) (next m next' m' : ℕ) → Alike (named next m w) (named next' m' w)
  named_alike (noted note at k fs) next m next' m' =
      alike_both (hands_out m note) (hands_out m' note)
      (written at k fs (named_fields (is_container k) next m fs)) (written at k fs (named_fields (is_container k) next' m' fs))
      (λ names. hands_names names m m' note)
      (written_alike at k fs (named_fields (is_container k) next m fs) (named_fields (is_container k) next' m' fs)
      (fields_alike fs (is_container k) (is_container k) next m next' m'))

  pub fields_alike : (fs : WalkedFields) (l l' : Bool) (next m next' m' : ℕ) → Alike (named_fields l next m fs) (named_fields l' next' m' fs)
  fields_alike WalkedFields.done l l' next m next' m' = same_alike []
  fields_alike (WalkedFields.absent fs) l l' next m next' m' = fields_alike fs l l' next m next' m'
  fields_alike (WalkedFields.field p fs) l l' next m next' m' =
      alike_both (named_piece l next m p) (named_piece l' next' m' p) (named_fields l (later next (new_in_piece p)) m fs) (named_fields l' (later next' (new_in_piece p)) m' fs)
      (piece_alike p l l' next m next' m') (fields_alike fs l l' (later next (new_in_piece p)) m (later next' (new_in_piece p)) m')

  pub piece_alike : (p : WalkedPiece) (l l' : Bool) (next m next' m' : ℕ) → Alike (named_piece l next m p) (named_piece l' next' m' p)
  piece_alike (WalkedPiece.one w) l l' next m next' m' = named_alike w next m next' m'
  piece_alike (WalkedPiece.list is) l l' next m next' m' =
      alike_both (puts (wide_bytes (count_in is))) (puts (wide_bytes (count_in is))) (named_items l next m is) (named_items l' next' m' is)
      (same_alike (puts (wide_bytes (count_in is)))) (items_alike is l l' next m next' m')
  piece_alike (WalkedPiece.text bs) l l' next m next' m' = same_alike (puts (wide_bytes (length bs) ++ bs))
  piece_alike (WalkedPiece.byte b) l l' next m next' m' = same_alike (Named.put b ∷ [])
  piece_alike (WalkedPiece.mark b) l l' next m next' m' = same_alike (marks b)
  piece_alike (WalkedPiece.number b) l l' next m next' m' = same_alike (puts (wide_bytes b))

  pub items_alike : (is : WalkedItems) (l l' : Bool) (next m next' m' : ℕ) → Alike (named_items l next m is) (named_items l' next' m' is)
  items_alike WalkedItems.none l l' next m next' m' = same_alike []
  items_alike (WalkedItems.hole is) l l' next m next' m' =
      alike_both (Named.put 0 ∷ []) (Named.put 0 ∷ []) (named_items l next m is) (named_items l' next' m' is) (same_alike (Named.put 0 ∷ [])) (items_alike is l l' next m next' m')
  items_alike (WalkedItems.item w is) l l' next m next' m' =
      alike_both (named next (cond l (marked next (mark_of w)) m) w) (named next' (cond l' (marked next' (mark_of w)) m') w)
      (named_items l (later next (new_in w)) m is) (named_items l' (later next' (new_in w)) m' is)
      (named_alike w next (cond l (marked next (mark_of w)) m) next' (cond l' (marked next' (mark_of w)) m'))
      (items_alike is l l' (later next (new_in w)) m (later next' (new_in w)) m')

-- ---- walked trees whose Temporaries and Helpers are such, with marks that are 16-bit numbers

-- a Temporary has a number and a text, a Helper a byte, and nothing else
pub record IsTemporary (fs : WalkedFields) : Type 0 where
  pub stem : ℕ
  pub path : List ℕ
  pub whole : fs ≡ WalkedFields.field (WalkedPiece.number stem) (WalkedFields.field (WalkedPiece.text path) WalkedFields.done)

pub record IsHelper (fs : WalkedFields) : Type 0 where
  pub which : ℕ
  pub whole : fs ≡ WalkedFields.field (WalkedPiece.byte which) WalkedFields.done

abbrev mutual
  pub Formed : Walked → Type 0
  Formed (noted note at k fs) = (eqb k 20 ≡ true → IsTemporary fs) × (eqb k 21 ≡ true → IsHelper fs) × FormedFields fs

  pub FormedFields : WalkedFields → Type 0
  FormedFields WalkedFields.done = Unit {0}
  FormedFields (WalkedFields.absent fs) = FormedFields fs
  FormedFields (WalkedFields.field p fs) = FormedPiece p × FormedFields fs

  pub FormedPiece : WalkedPiece → Type 0
  FormedPiece (WalkedPiece.one w) = Formed w
  FormedPiece (WalkedPiece.list is) = FormedItems is
  FormedPiece (WalkedPiece.text bs) = Unit {0}
  FormedPiece (WalkedPiece.byte b) = Unit {0}
  FormedPiece (WalkedPiece.mark b) = Unit {0}
  FormedPiece (WalkedPiece.number b) = Unit {0}

  pub FormedItems : WalkedItems → Type 0
  FormedItems WalkedItems.none = Unit {0}
  FormedItems (WalkedItems.hole is) = FormedItems is
  FormedItems (WalkedItems.item w is) = Formed w × FormedItems is

temporary_leaf : (fs : WalkedFields) → IsTemporary fs → Leaf fs
temporary_leaf fs h = subst Leaf (sym h.whole) (tt, (tt, tt))

helper_leaf : (fs : WalkedFields) → IsHelper fs → Leaf fs
helper_leaf fs h = subst Leaf (sym h.whole) (tt, tt)

mutual
  pub formed_leafy : (w : Walked) → Formed w → Leafy w
  formed_leafy (noted note at k fs) h = ((λ e. temporary_leaf fs (h.0 e)), (λ e. helper_leaf fs (h.1 e)), formed_fields fs h.2)

  formed_fields : (fs : WalkedFields) → FormedFields fs → LeafyFields fs
  formed_fields WalkedFields.done h = tt
  formed_fields (WalkedFields.absent fs) h = formed_fields fs h
  formed_fields (WalkedFields.field p fs) h = (formed_piece p h.0, formed_fields fs h.1)

  formed_piece : (p : WalkedPiece) → FormedPiece p → LeafyPiece p
  formed_piece (WalkedPiece.one w) h = formed_leafy w h
  formed_piece (WalkedPiece.list is) h = formed_items is h
  formed_piece (WalkedPiece.text bs) h = tt
  formed_piece (WalkedPiece.byte b) h = tt
  formed_piece (WalkedPiece.mark b) h = tt
  formed_piece (WalkedPiece.number b) h = tt

  formed_items : (is : WalkedItems) → FormedItems is → LeafyItems is
  formed_items WalkedItems.none h = tt
  formed_items (WalkedItems.hole is) h = formed_items is h
  formed_items (WalkedItems.item w is) h = (formed_leafy w h.0, formed_items is h.1)

-- ---- each Temporary has the name that its cell stands for where it is written

abbrev mutual
  pub Scoped : (ℕ → Name) → Walked → Type 0
  Scoped names (noted note at k fs) =
      (eqb k 20 ≡ true → after names (hands_out 0 note) (cell (number_in fs) at) ≡ name_of (node at k (bare_fields 0 fs)))
      × ScopedFields (after names (hands_out 0 note)) fs

  pub ScopedFields : (ℕ → Name) → WalkedFields → Type 0
  ScopedFields names WalkedFields.done = Unit {0}
  ScopedFields names (WalkedFields.absent fs) = ScopedFields names fs
  ScopedFields names (WalkedFields.field p fs) = ScopedPiece names p × ScopedFields (after names (named_piece false 0 0 p)) fs

  pub ScopedPiece : (ℕ → Name) → WalkedPiece → Type 0
  ScopedPiece names (WalkedPiece.one w) = Scoped names w
  ScopedPiece names (WalkedPiece.list is) = ScopedItems names is
  ScopedPiece names (WalkedPiece.text bs) = Unit {0}
  ScopedPiece names (WalkedPiece.byte b) = Unit {0}
  ScopedPiece names (WalkedPiece.mark b) = Unit {0}
  ScopedPiece names (WalkedPiece.number b) = Unit {0}

  pub ScopedItems : (ℕ → Name) → WalkedItems → Type 0
  ScopedItems names WalkedItems.none = Unit {0}
  ScopedItems names (WalkedItems.hole is) = ScopedItems names is
  ScopedItems names (WalkedItems.item w is) = Scoped names w × ScopedItems (after names (named 0 0 w)) is

-- ---- the law

-- the bit map and the counts are those of the bare tree
map_same : (k : ℕ) (fs : WalkedFields) → map_in fs ≡ map_of (bare_fields k fs)
unfolding bare map_in map_of
map_same k WalkedFields.done = refl
map_same k (WalkedFields.absent fs) = let h = map_same k fs in omega arith
map_same k (WalkedFields.field p fs) = let h = map_same (k + new_in_piece p) fs in omega arith

count_same : (k : ℕ) (is : WalkedItems) → count_in is ≡ count (bare_items k is)
unfolding bare count_in count
count_same k WalkedItems.none = refl
count_same k (WalkedItems.hole is) = ap suc (count_same k is)
count_same k (WalkedItems.item w is) = ap suc (count_same (k + new_in w) is)

temporary_writes : (names : ℕ → Name) (k c stem r : ℕ) (a : Name) → names c ≡ a → stem ≡ r → Writes names k (Named.temporary c stem ∷ []) k (temp a r ∷ [])
unfolding mark_run tree_tokens names_after mark_after tree_of
temporary_writes names k c stem r a e s = record { next = refl; tree = ap₂ (λ (x : Name) (y : ℕ). temp x y ∷ []) e s }

helper_writes : (names : ℕ → Name) (k h : ℕ) → Writes names k (Named.helper h ∷ []) k (plain 21 ∷ plain 1 ∷ plain h ∷ [])
unfolding mark_run tree_tokens names_after mark_after tree_of
helper_writes names k h = record { next = refl; tree = refl }

marks_write : (names : ℕ → Name) (k b : ℕ) → Writes names k (marks b) (k + new_in_piece (WalkedPiece.mark b)) (plains (wide_bytes (marked k b)))
unfolding marks new_in_piece mark_run tree_tokens names_after mark_after tree_of plains
marks_write names k zero = record { next = omega arith; tree = refl }
marks_write names k (suc b) =
    let r = puts_write names k (wide_bytes (suc b)) in record { next = r.next ∙ omega arith; tree = r.tree }

put_writes : (names : ℕ → Name) (k b : ℕ) → Writes names k (Named.put b ∷ []) k (plain b ∷ [])
unfolding mark_run tree_tokens names_after mark_after tree_of
put_writes names k b = record { next = refl; tree = refl }

put_after : (names : ℕ → Name) (b : ℕ) → after names (Named.put b ∷ []) ≡ names
unfolding after names_after
put_after names b = refl

tokens_temporary : (at k : ℕ) (fs : Fields) → eqb k 20 ≡ true → tokens (node at k fs) ≡ temp (name_of (node at k fs)) (stem_of (node at k fs)) ∷ []
unfolding tokens
tokens_temporary at k fs e = rw e refl

tokens_node : (at k : ℕ) (fs : Fields) → eqb k 20 ≡ false → tokens (node at k fs) ≡ plains (k ∷ map_of fs ∷ []) ++ tokens_fields fs
unfolding tokens plains
tokens_node at k fs e = rw e refl

pub temporary_none : (fs : WalkedFields) → IsTemporary fs → new_in_fields fs ≡ 0
unfolding new_in_fields
temporary_none fs h = ap new_in_fields h.whole

pub helper_none : (fs : WalkedFields) → IsHelper fs → new_in_fields fs ≡ 0
unfolding new_in_fields
helper_none fs h = ap new_in_fields h.whole

module _ (at k' : ℕ) (fs : WalkedFields) where
  temporary_name : (k : ℕ) → IsTemporary fs → name_of (node at k' (bare_fields 0 fs)) ≡ name_of (node at k' (bare_fields k fs))
  unfolding bare
  temporary_name k h =
      ap (λ (x : WalkedFields). name_of (node at k' (bare_fields 0 x))) h.whole ∙ ap (λ (x : WalkedFields). name_of (node at k' (bare_fields k x))) (sym h.whole)

  -- the number that it begins with is its stem
  temporary_stem : (k : ℕ) → IsTemporary fs → number_in fs ≡ stem_of (node at k' (bare_fields k fs))
  unfolding bare number_in number_at piece_in
  temporary_stem k h = ap number_in h.whole ∙ ap (λ (x : WalkedFields). stem_of (node at k' (bare_fields k x))) (sym h.whole)

  helper_tokens : (k : ℕ) → eqb k' 20 ≡ false → eqb k' 21 ≡ true → (h : IsHelper fs) → plain 21 ∷ plain 1 ∷ plain (number_in fs) ∷ [] ≡ tokens (node at k' (bare_fields k fs))
  unfolding tokens bare number_in map_of
  helper_tokens k e d h =
      let j : k' ≡ 21 = eqb-true k' 21 d in
      ap (λ (x : WalkedFields). plain 21 ∷ plain 1 ∷ plain (number_in x) ∷ []) h.whole
      ∙ ap₂ (λ (x : ℕ) (y : WalkedFields). tokens (node at x (bare_fields k y))) (sym j) (sym h.whole)

  written_writes : (names : ℕ → Name) (k : ℕ) (es : List Act)
      → (eqb k' 20 ≡ true → IsTemporary fs) → (eqb k' 21 ≡ true → IsHelper fs)
      → (eqb k' 20 ≡ true → names (cell (number_in fs) at) ≡ name_of (node at k' (bare_fields 0 fs)))
      → Writes names k es (k + new_in_fields fs) (tokens_fields (bare_fields k fs))
      → Writes names k (written at k' fs es) (k + new_in_fields fs) (tokens (node at k' (bare_fields k fs)))
  unfolding written
  written_writes names k es f g s h =
      by_test (eqb k' 20)
      (λ e. rw e
      (writes_to names k k (k + new_in_fields fs) (Named.temporary (cell (number_in fs) at) (number_in fs) ∷ []) (temp (name_of (node at k' (bare_fields k fs))) (stem_of (node at k' (bare_fields k fs))) ∷ []) (tokens (node at k' (bare_fields k fs)))
      (let z = temporary_none fs (f e) in omega arith) (tokens_20 e)
      (temporary_writes names k (cell (number_in fs) at) (number_in fs) (stem_of (node at k' (bare_fields k fs))) (name_of (node at k' (bare_fields k fs))) (s e ∙ temporary_name k (f e)) (temporary_stem k (f e)))))
      (λ e. rw e
      (by_test (eqb k' 21)
      (λ d. rw d
      (writes_to names k k (k + new_in_fields fs) (Named.helper (number_in fs) ∷ []) (plain 21 ∷ plain 1 ∷ plain (number_in fs) ∷ []) (tokens (node at k' (bare_fields k fs)))
      (let z = helper_none fs (g d) in omega arith) (helper_tokens k e d (g d))
      (helper_writes names k (number_in fs))))
      (λ d. rw d
      (writes_to names k (k + new_in_fields fs) (k + new_in_fields fs) (puts (k' ∷ map_in fs ∷ []) ++ es) (plains (k' ∷ map_in fs ∷ []) ++ tokens_fields (bare_fields k fs)) (tokens (node at k' (bare_fields k fs)))
      refl (tokens_other e)
      (then_writes names k k (k + new_in_fields fs) (puts (k' ∷ map_in fs ∷ [])) es (plains (k' ∷ map_in fs ∷ [])) (tokens_fields (bare_fields k fs))
      (puts_write names k (k' ∷ map_in fs ∷ []))
      (subst (λ (x : ℕ → Name). Writes x k es (k + new_in_fields fs) (tokens_fields (bare_fields k fs))) (sym (puts_after names (k' ∷ map_in fs ∷ []))) h))))))
    where
      tokens_20 : eqb k' 20 ≡ true → temp (name_of (node at k' (bare_fields k fs))) (stem_of (node at k' (bare_fields k fs))) ∷ [] ≡ tokens (node at k' (bare_fields k fs))
      tokens_20 e = sym (tokens_temporary at k' (bare_fields k fs) e)

      tokens_other : eqb k' 20 ≡ false → plains (k' ∷ map_in fs ∷ []) ++ tokens_fields (bare_fields k fs) ≡ tokens (node at k' (bare_fields k fs))
      tokens_other e = sym (tokens_node at k' (bare_fields k fs) e ∙ ap (λ (x : ℕ). plains (k' ∷ x ∷ []) ++ tokens_fields (bare_fields k fs)) (sym (map_same k fs)))

mutual
  unfolding named bare tokens new_in

  -- from the next mark k on
  pub tree_writes : (names : ℕ → Name) (w : Walked) → Formed w → Scoped names w → (next m k : ℕ)
      → Writes names k (named next m w) (k + new_in w) (tokens (bare k w))
  tree_writes names (noted note at k' fs) f s next m k =
      let es = named_fields (is_container k') next m fs in
      let names' = after names (hands_out m note) in
      let e : after names (hands_out 0 note) ≡ names' = hands_names names 0 m note in
      then_writes names k k (k + new_in_fields fs) (hands_out m note) (written at k' fs es) [] (tokens (node at k' (bare_fields k fs)))
      (aside_writes names k (hands_out m note) (hands_aside m note))
      (written_writes at k' fs names' k es f.0 f.1
      (λ d. sym (ap (λ (x : ℕ → Name). x (cell (number_in fs) at)) e) ∙ s.0 d)
      (fields_write names' fs f.2 (subst (λ (x : ℕ → Name). ScopedFields x fs) e s.1) (is_container k') next m k))

  fields_write : (names : ℕ → Name) (fs : WalkedFields) → FormedFields fs → ScopedFields names fs → (l : Bool) (next m k : ℕ)
      → Writes names k (named_fields l next m fs) (k + new_in_fields fs) (tokens_fields (bare_fields k fs))
  fields_write names WalkedFields.done f s l next m k = writes_to names k k (k + 0) [] [] [] (sym (add-zero k)) refl (nothing_writes names k)
  fields_write names (WalkedFields.absent fs) f s l next m k = fields_write names fs f s l next m k
  fields_write names (WalkedFields.field p fs) f s l next m k =
      let k' = k + new_in_piece p in
      writes_to names k (k' + new_in_fields fs) (k + (new_in_piece p + new_in_fields fs)) (named_piece l next m p ++ named_fields l (later next (new_in_piece p)) m fs)
      (tokens_piece (bare_piece k p) ++ tokens_fields (bare_fields k' fs)) (tokens_piece (bare_piece k p) ++ tokens_fields (bare_fields k' fs)) (omega arith) refl
      (then_writes names k k' (k' + new_in_fields fs) (named_piece l next m p) (named_fields l (later next (new_in_piece p)) m fs) (tokens_piece (bare_piece k p)) (tokens_fields (bare_fields k' fs))
      (piece_writes names p f.0 s.0 l next m k)
      (fields_write (after names (named_piece l next m p)) fs f.1
      (subst (λ (x : ℕ → Name). ScopedFields x fs) (piece_alike p false l 0 0 next m names) s.1) l (later next (new_in_piece p)) m k'))

  piece_writes : (names : ℕ → Name) (p : WalkedPiece) → FormedPiece p → ScopedPiece names p → (l : Bool) (next m k : ℕ)
      → Writes names k (named_piece l next m p) (k + new_in_piece p) (tokens_piece (bare_piece k p))
  piece_writes names (WalkedPiece.one w) f s l next m k = tree_writes names w f s next m k
  piece_writes names (WalkedPiece.list is) f s l next m k =
      let c = wide_bytes (count_in is) in
      writes_to names k (k + new_in_items is) (k + new_in_items is) (puts c ++ named_items l next m is) (plains c ++ tokens_items (bare_items k is)) (plains (wide_bytes (count (bare_items k is))) ++ tokens_items (bare_items k is))
      refl (ap (λ (x : ℕ). plains (wide_bytes x) ++ tokens_items (bare_items k is)) (count_same k is))
      (then_writes names k k (k + new_in_items is) (puts c) (named_items l next m is) (plains c) (tokens_items (bare_items k is))
      (puts_write names k c)
      (subst (λ (x : ℕ → Name). Writes x k (named_items l next m is) (k + new_in_items is) (tokens_items (bare_items k is))) (sym (puts_after names c))
      (items_write names is f s l next m k)))
  piece_writes names (WalkedPiece.text bs) f s l next m k =
      writes_to names k k (k + 0) (puts (wide_bytes (length bs) ++ bs)) (plains (wide_bytes (length bs) ++ bs)) (plains (wide_bytes (length bs) ++ bs)) (sym (add-zero k)) refl (puts_write names k (wide_bytes (length bs) ++ bs))
  piece_writes names (WalkedPiece.byte b) f s l next m k =
      writes_to names k k (k + 0) (Named.put b ∷ []) (plain b ∷ []) (plain b ∷ []) (sym (add-zero k)) refl (put_writes names k b)
  piece_writes names (WalkedPiece.mark b) f s l next m k = marks_write names k b
  piece_writes names (WalkedPiece.number b) f s l next m k =
      writes_to names k k (k + 0) (puts (wide_bytes b)) (plains (wide_bytes b)) (plains (wide_bytes b)) (sym (add-zero k)) refl (puts_write names k (wide_bytes b))

  items_write : (names : ℕ → Name) (is : WalkedItems) → FormedItems is → ScopedItems names is → (l : Bool) (next m k : ℕ)
      → Writes names k (named_items l next m is) (k + new_in_items is) (tokens_items (bare_items k is))
  items_write names WalkedItems.none f s l next m k = writes_to names k k (k + 0) [] [] [] (sym (add-zero k)) refl (nothing_writes names k)
  items_write names (WalkedItems.hole is) f s l next m k =
      then_writes names k k (k + new_in_items is) (Named.put 0 ∷ []) (named_items l next m is) (plain 0 ∷ []) (tokens_items (bare_items k is))
      (put_writes names k 0)
      (subst (λ (x : ℕ → Name). Writes x k (named_items l next m is) (k + new_in_items is) (tokens_items (bare_items k is))) (sym (put_after names 0))
      (items_write names is f s l next m k))
  items_write names (WalkedItems.item w is) f s l next m k =
      let k' = k + new_in w in
      let here = named next (cond l (marked next (mark_of w)) m) w in
      writes_to names k (k' + new_in_items is) (k + (new_in w + new_in_items is)) (here ++ named_items l (later next (new_in w)) m is)
      (tokens (bare k w) ++ tokens_items (bare_items k' is)) (tokens (bare k w) ++ tokens_items (bare_items k' is)) (omega arith) refl
      (then_writes names k k' (k' + new_in_items is) here (named_items l (later next (new_in w)) m is) (tokens (bare k w)) (tokens_items (bare_items k' is))
      (tree_writes names w f.0 s.0 next (cond l (marked next (mark_of w)) m) k)
      (items_write (after names here) is f.1
      (subst (λ (x : ℕ → Name). ScopedItems x is) (named_alike w 0 0 next (cond l (marked next (mark_of w)) m) names) s.1) l (later next (new_in w)) m k'))
