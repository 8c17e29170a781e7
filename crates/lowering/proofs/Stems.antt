-- Stems in a result. Each temporary is written with the stem of what it was made for (Paths), which is 1 to 4, in the tree and in the
-- list; and temporaries of one number have one stem.
-- Assumes nothing.
use mathlib.Core.Path.{◌≡◌, refl, sym, ap, subst, ◌∙◌}
use mathlib.Core.Bool.{Bool, true, false}
use mathlib.Core.List.{List, [], ◌∷◌, ◌++◌}
use Prim.Native.Nat.{ℕ, zero, suc, ◌+◌, ◌<◌}
use native.Mathlib.Omega.{arith}
use lib.Dec.{eqb}
use Rattle.tree.specs.Tree.{Node, Fields, Piece, Items}
use Rattle.tree.specs.Tree.Node.{node}
use Rattle.tree.specs.Grammar.Stage.{input}
use Rattle.tree.specs.Read.{read_tree}
use Rattle.tree.specs.Read.Got.{got}
use Rattle.lowering.specs.Parts.{position, is, piece_in, number_at}
use Rattle.lowering.specs.Made.{Context, temporary}
use Rattle.lowering.specs.Walk.{Note, rewrite, unchanged}
use Rattle.lowering.specs.Weight.{walked}
use Rattle.lowering.specs.Collect.{Name, name_of, same, Visit, Entry, nodes, list_nodes, names_of, visits, bare, entries, excluded_in, made_in_of, with_number, numbered, numbered_fields, numbered_piece, numbered_items}
use Rattle.lowering.specs.Answer.{top}
use Rattle.lowering.proofs.All.{AllItems}
use Rattle.lowering.proofs.Cases.{by_test}
use Rattle.lowering.proofs.Notes.{AllNotes, in_walked}
use Rattle.lowering.proofs.MadeAtSites.{times, times_append}
use Rattle.lowering.proofs.Paths.{From, made_from}
use Rattle.lowering.proofs.Occurs.{occurs, occurs_fields, occurs_piece, occurs_items}
use Rattle.lowering.proofs.Used.{in_entries, used_made}
use Rattle.lowering.proofs.Appearance.{In, same_is, name_over, name_self, distinct_in, number_apart}

-- ---- what is made has a stem

pub record Stem (stem : ℕ) : Type 0 where
  pub some : 0 < stem
  pub known : stem < 5

module _ (a : Name) where
  stem_of_lem : (path : List ℕ) (stem at : ℕ) → Stem stem → same a (name_of (temporary path stem at)) ≡ true → Stem a.stem
  unfolding name_of number_at piece_in
  stem_of_lem path stem at h e = subst Stem (sym (ap (λ (x : Name). x.stem) (same_is a (name_of (temporary path stem at)) e))) h

  from_stem : (path : List ℕ) (t : Node) → From path t → same a (name_of t) ≡ true → Stem a.stem
  from_stem path t (From.for_pattern p) = stem_of_lem path 1 (position p) (record { some = omega arith; known = omega arith })
  from_stem path t (From.for_excluded p) = stem_of_lem path 2 (position p) (record { some = omega arith; known = omega arith })
  from_stem path t (From.for_value p) = stem_of_lem path 3 (position p) (record { some = omega arith; known = omega arith })
  from_stem path t (From.for_key q) = stem_of_lem path 4 (position q) (record { some = omega arith; known = omega arith })

  -- of temporaries
  made_stem : (path : List ℕ) (ts : Items) → AllItems (From path) ts → 0 < times a ts → Stem a.stem
  unfolding times
  made_stem path Items.none h z = absurd (omega arith)
  made_stem path (Items.hole ts) h z = made_stem path ts h z
  made_stem path (Items.item t ts) h z =
      by_test (same a (name_of t))
      (λ e. from_stem path t h.0 e)
      (λ e. made_stem path ts h.1 (let y : 0 < 0 + times a ts = rw e at z in omega arith))

  abbrev Stemmed-note : Note → Type 0
  Stemmed-note note = 0 < times a note.made → Stem a.stem

  -- of visits
  visits_stem : (vs : List Visit) → AllNotes Stemmed-note vs → 0 < times a (made_in_of vs) → Stem a.stem
  unfolding made_in_of times
  visits_stem [] h z = absurd (omega arith)
  visits_stem (v ∷ vs) h z = go (times a v.note.made) refl (λ y. visits_stem vs h.1 y)
    where
      go : (k : ℕ) → times a v.note.made ≡ k → (0 < times a (made_in_of vs) → Stem a.stem) → Stem a.stem
      go zero e f = f (omega (arith, times_append a v.note.made (made_in_of vs)))
      go (suc k) e f = h.0 (omega arith)

  silent_stem : (n : Node) → Stemmed-note (unchanged n).note
  unfolding times
  silent_stem n z = absurd (omega arith)

  -- a name that is made
  pub made_known : (c : Context) (n : Node) (next m : ℕ) → 0 < times a (made_in_of (visits next m (walked c n))) → Stem a.stem
  made_known c n next m z =
      visits_stem (visits next m (walked c n))
      (in_walked Stemmed-note silent_stem (λ d k y. made_stem d.path (rewrite d k).note.made (made_from d k) y) c n next m) z

-- ---- what is written: each Temporary has a stem

abbrev mutual
  pub Stemmed : Node → Type 0
  Stemmed (node at k fs) = (eqb k 20 ≡ true → Stem (number_at 1 (node at k fs))) × StemmedFields fs

  pub StemmedFields : Fields → Type 0
  StemmedFields Fields.done = Unit {0}
  StemmedFields (Fields.absent fs) = StemmedFields fs
  StemmedFields (Fields.field p fs) = StemmedPiece p × StemmedFields fs

  pub StemmedPiece : Piece → Type 0
  StemmedPiece (Piece.one n) = Stemmed n
  StemmedPiece (Piece.list is) = StemmedItems is
  StemmedPiece (Piece.text bs) = Unit {0}
  StemmedPiece (Piece.byte b) = Unit {0}
  StemmedPiece (Piece.mark b) = Unit {0}
  StemmedPiece (Piece.number b) = Unit {0}

  pub StemmedItems : Items → Type 0
  StemmedItems Items.none = Unit {0}
  StemmedItems (Items.hole is) = StemmedItems is
  StemmedItems (Items.item n is) = Stemmed n × StemmedItems is

module _ (ns : List Name) where
  -- the stem that is written is that of the name
  pub stem_written : (t : Node) → number_at 1 (with_number ns t) ≡ (name_of t).stem
  unfolding with_number number_at piece_in
  stem_written t = refl

  temporary_stemmed : (t : Node) → Stem (name_of t).stem → Stemmed (with_number ns t)
  unfolding with_number number_at piece_in
  temporary_stemmed t h = ((λ e. h), (tt, (tt, tt)))

  not_temporary : (at k : ℕ) (fs : Fields) → eqb k 20 ≡ false → StemmedFields fs → Stemmed (node at k fs)
  not_temporary at k fs e h = ((λ t. absurd (let z : ◌≡◌ {A = Bool} true false = sym t ∙ e in let y : ◌≡◌ {A = ℕ} 0 1 = cc in omega arith)), h)

  mutual
    unfolding numbered occurs

    -- if each name that stands in a tree has a stem
    numbered_stemmed : (n : Node) → ((a : Name) → 0 < occurs a n → Stem a.stem) → Stemmed (numbered ns n)
    numbered_stemmed (node at k fs) h =
        by_test (eqb k 20)
        (λ e. rw e (temporary_stemmed (node at k fs) (h (name_of (node at k fs)) (rw (e, name_self (name_of (node at k fs))) (omega arith)))))
        (λ e. rw e (not_temporary at k (numbered_fields ns fs) e (fields_stemmed fs (λ a z. h a (omega arith)))))

    fields_stemmed : (fs : Fields) → ((a : Name) → 0 < occurs_fields a fs → Stem a.stem) → StemmedFields (numbered_fields ns fs)
    fields_stemmed Fields.done h = tt
    fields_stemmed (Fields.absent fs) h = fields_stemmed fs h
    fields_stemmed (Fields.field p fs) h = (piece_stemmed p (λ a z. h a (omega arith)), fields_stemmed fs (λ a z. h a (omega arith)))

    piece_stemmed : (p : Piece) → ((a : Name) → 0 < occurs_piece a p → Stem a.stem) → StemmedPiece (numbered_piece ns p)
    piece_stemmed (Piece.one n) h = numbered_stemmed n h
    piece_stemmed (Piece.list is) h = items_stemmed is h
    piece_stemmed (Piece.text bs) h = tt
    piece_stemmed (Piece.byte b) h = tt
    piece_stemmed (Piece.mark b) h = tt
    piece_stemmed (Piece.number b) h = tt

    items_stemmed : (is : Items) → ((a : Name) → 0 < occurs_items a is → Stem a.stem) → StemmedItems (numbered_items ns is)
    items_stemmed Items.none h = tt
    items_stemmed (Items.hole is) h = items_stemmed is h
    items_stemmed (Items.item n is) h = (numbered_stemmed n (λ a z. h a (omega arith)), items_stemmed is (λ a z. h a (omega arith)))

  abbrev pub StemmedEntries : List Entry → Type 0
  StemmedEntries [] = Unit {0}
  StemmedEntries (e ∷ es) = StemmedItems (numbered_items ns e.declarators) × StemmedEntries es

  entries_stemmed : (es : List Entry) → ((a : Name) → 0 < in_entries a es → Stem a.stem) → StemmedEntries es
  unfolding in_entries
  entries_stemmed [] h = tt
  entries_stemmed (e ∷ es) h = (items_stemmed e.declarators (λ a z. h a (omega arith)), entries_stemmed es (λ a z. h a (omega arith)))

  -- the tree and the list of an accepted tree, as they are written
  pub accepted_stemmed : (limit : ℕ) (tree : List ℕ) (n : Node) (q next : ℕ) → read_tree input limit tree ≡ got n q next → let vs = visits next 0 (walked top n) in
      Stemmed (numbered ns (bare next (walked top n))) × StemmedEntries (entries vs) × StemmedItems (numbered_items ns (excluded_in vs))
  accepted_stemmed limit tree n q next e =
      let vs = visits next 0 (walked top n) in
      let known : (a : Name) → 0 < occurs a (bare next (walked top n)) + (in_entries a (entries vs) + occurs_items a (excluded_in vs)) → Stem a.stem
      = λ a z. made_known a top n next 0 (used_made limit tree n q next e a z) in
      (numbered_stemmed (bare next (walked top n)) (λ a z. known a (omega arith)), entries_stemmed (entries vs) (λ a z. known a (omega arith)), items_stemmed (excluded_in vs) (λ a z. known a (omega arith)))

-- ---- one number, one stem

-- of names that get a number
number_stem : (ns : List Name) (s t : Node) → In (name_of s) ns → number_at 0 (with_number ns s) ≡ number_at 0 (with_number ns t) → number_at 1 (with_number ns s) ≡ number_at 1 (with_number ns t)
unfolding with_number number_at piece_in
number_stem ns s t i e = ap (λ (x : Name). x.stem) (same_is (name_of s) (name_of t) (number_apart (name_of s) 1 (name_of t) i e))

-- temporaries s and t of a tree or its list, s and t as they are written
pub one_stem : (n : Node) (es : List Entry) (excluded : Items) (s t : Node) → let ns = names_of n es excluded in
    In s (nodes n ++ list_nodes es excluded) → is 20 s ≡ true → number_at 0 (with_number ns s) ≡ number_at 0 (with_number ns t) → number_at 1 (with_number ns s) ≡ number_at 1 (with_number ns t)
unfolding names_of
one_stem n es excluded s t i k e = number_stem (names_of n es excluded) s t (distinct_in (name_of s) (name_over s k i)) e
