-- Where each Temporary is written, its cell stands for its name: what is made below a node is made in other cells than those of the
-- temporaries that stand there. Two laws of one rewriting are asked for: of the form of nodes, and of the cells that are still to be made.
-- Assumes nothing.
use mathlib.Core.Path.{◌≡◌, refl, sym, ap, ◌∙◌, subst}
use mathlib.Core.Bool.{Bool, true, false, cond, ◌&&◌}
use mathlib.Core.List.{List, [], ◌∷◌, ◌++◌}
use mathlib.Core.Logic.{◌⊎◌, ⊎_elim}
use mathlib.Core.Logic.◌⊎◌.{inl, inr}
use Prim.Native.Nat.{ℕ, zero, suc, ◌+◌, ◌≤◌, ◌<◌}
use native.Mathlib.Omega.{arith}
use lib.Dec.{eqb}
use lib.ListN.{length}
use borrow.Author.Tests.{eqb-true, eq-eqb}
use Rattle.tree.specs.Tree.{Node, Fields, Piece, Items, wide_bytes}
use Rattle.tree.specs.Tree.Node.{node}
use Rattle.lowering.specs.Parts.{number_at, piece_in, is_empty}
use Rattle.lowering.specs.Made.{Context}
use Rattle.lowering.specs.Walk.{Note, Walked, WalkedFields, WalkedPiece, WalkedItems, each_item_of, each_piece, each_field, inside, rewrite, within, walk, unchanged}
use Rattle.lowering.specs.Walk.Walked.{noted}
use Rattle.lowering.specs.Weight.{weight, walked}
use Rattle.lowering.specs.Collect.{Name, name_of, same, new_in, new_in_piece, is_container, bare, bare_fields}
use Rattle.lowering.proofs.All.{AllItems, AllPiece, AllFields, Each, weaker_each, both_items}
use Rattle.lowering.proofs.Cases.{by_test}
use Rattle.lowering.proofs.Appearance.{same_is, name_self}
use Rattle.lowering.proofs.MadeAtSites.{times}
use Rattle.lowering.proofs.Occurs.{occurs, occurs_fields, occurs_piece, occurs_items, fields_in}
use Rattle.lowering.proofs.SoundSteps.{rewrite_sound}
use Rattle.sink.specs.Shown.{Named, names_after}
use Rattle.direct.specs.Events.{cell, cell_of, later, number_in, count_in, map_in}
use Rattle.outcome.specs.Named
use Rattle.outcome.specs.Named.{Act, puts, entered, excluded_keys, marks, hands_out, written, named, named_fields, named_piece, named_items, after}
use Rattle.outcome.proofs.Tokens.{after_append, puts_after, Scoped, ScopedFields, ScopedPiece, ScopedItems, fields_alike, items_alike}
use Rattle.outcome.proofs.MadeOnce.{makes, number, makes_all, hands_names, in_cell, named_cell, cell_left, cell_made, named_less}

-- ---- names and cells

-- the cell of a name
abbrev pub cell_at : Name → ℕ
cell_at a = cell a.stem a.place

pub cell_name : (t : Node) → cell_of t ≡ cell_at (name_of t)
unfolding cell_of name_of
cell_name t = refl

-- a temporary with the name is in the cell of the name
pub named_there : (a : Name) (ts : Items) → number (named_cell (cell_at a) a) ts ≡ times a ts
unfolding number times
named_there a Items.none = refl
named_there a (Items.hole ts) = named_there a ts
named_there a (Items.item t ts) =
    by_test (same a (name_of t))
    (λ s.
    let e : eqb (cell_at a) (cell_of t) ≡ true = eq-eqb (cell_at a) (cell_of t) (ap cell_at (same_is a (name_of t) s) ∙ sym (cell_name t)) in
    rw (s, e) (ap (λ (x : ℕ). 1 + x) (named_there a ts)))
    (λ s. rw s (go (eqb (cell_at a) (cell_of t)) (named_there a ts)))
  where
    go : (b : Bool) → number (named_cell (cell_at a) a) ts ≡ times a ts → cond (b && false) 1 0 + number (named_cell (cell_at a) a) ts ≡ 0 + times a ts
    go true h = ap (λ (x : ℕ). 0 + x) h
    go false h = ap (λ (x : ℕ). 0 + x) h

-- ---- what holds at a node

-- a Temporary has a number and a text, and nothing else
pub record IsNamed (fs : Fields) : Type 0 where
  pub stem : ℕ
  pub path : List ℕ
  pub whole : fs ≡ Fields.field (Piece.number stem) (Fields.field (Piece.text path) Fields.done)

pub occurs_here : (at k : ℕ) (fs : Fields) → eqb k 20 ≡ true → 0 < occurs (name_of (node at k fs)) (node at k fs)
unfolding occurs
occurs_here at k fs e = rw (e, name_self (name_of (node at k fs))) (omega arith)

walked_name : (w : ℕ → ℕ → Node → Walked) (at k : ℕ) (fs : Fields) → IsNamed fs → name_of (node at k fs) ≡ name_of (node at k (bare_fields 0 (each_field w 0 fs)))
unfolding bare each_field each_piece
walked_name w at k fs h =
    ap (λ (x : Fields). name_of (node at k x)) h.whole ∙ ap (λ (x : Fields). name_of (node at k (bare_fields 0 (each_field w 0 x)))) (sym h.whole)

pub walked_cell : (w : ℕ → ℕ → Node → Walked) (at k : ℕ) (fs : Fields) → IsNamed fs → cell (number_in (each_field w 0 fs)) at ≡ cell_at (name_of (node at k fs))
unfolding each_field each_piece number_in name_of number_at piece_in
walked_cell w at k fs h =
    ap (λ (x : Fields). cell (number_in (each_field w 0 x)) at) h.whole ∙ ap (λ (x : Fields). cell_at (name_of (node at k x))) (sym h.whole)

one_after : (names : ℕ → Name) (e : Act) → names_after names e ≡ names → after names (e ∷ []) ≡ names
unfolding after
one_after names e h = h

temporary_after : (names : ℕ → Name) (c stem : ℕ) → names_after names (Named.temporary c stem) ≡ names
unfolding names_after
temporary_after names c stem = refl

helper_after : (names : ℕ → Name) (h : ℕ) → names_after names (Named.helper h) ≡ names
unfolding names_after
helper_after names h = refl

put_after : (names : ℕ → Name) (b : ℕ) → names_after names (Named.put b) ≡ names
unfolding names_after
put_after names b = refl

marks_after : (names : ℕ → Name) (b : ℕ) → after names (marks b) ≡ names
unfolding marks after names_after
marks_after names zero = refl
marks_after names (suc b) = puts_after names (wide_bytes (suc b))

-- a cell that is left by what is below a node is left by the node as it is written
written_left : (names : ℕ → Name) (x at k : ℕ) (fs : WalkedFields) (es : List Act) → after names es x ≡ names x → after names (written at k fs es) x ≡ names x
unfolding written
written_left names x at k fs es h =
    by_test (eqb k 20)
    (λ e. rw e (ap (λ (s : ℕ → Name). s x) (one_after names (Named.temporary (cell (number_in fs) at) (number_in fs)) (temporary_after names (cell (number_in fs) at) (number_in fs)))))
    (λ e. rw e
    (by_test (eqb k 21)
    (λ d. rw d (ap (λ (s : ℕ → Name). s x) (one_after names (Named.helper (number_in fs)) (helper_after names (number_in fs)))))
    (λ d. rw d
    (ap (λ (s : ℕ → Name). s x) (after_append names (puts (k ∷ map_in fs ∷ [])) es) ∙ ap (λ (s : ℕ → Name). after s es x) (puts_after names (k ∷ map_in fs ∷ [])) ∙ h))))

none_after : (names : ℕ → Name) (x : ℕ) → after names [] x ≡ names x
unfolding after
none_after names x = refl

empty_after : (n : Node) (names : ℕ → Name) → after names (hands_out 0 (unchanged n).note) ≡ names
unfolding hands_out Named.made entered excluded_keys is_empty after
empty_after n names = refl

zero_left : (n : Node) (names : ℕ → Name) (x : ℕ) → after names (named 0 0 (noted (unchanged n).note 0 0 WalkedFields.done)) x ≡ names x
unfolding named
zero_left n names x =
    let names' = after names (hands_out 0 (unchanged n).note) in
    ap (λ (s : ℕ → Name). s x) (after_append names (hands_out 0 (unchanged n).note) (written 0 0 WalkedFields.done []))
    ∙ written_left names' x 0 0 WalkedFields.done [] (none_after names' x)
    ∙ ap (λ (s : ℕ → Name). s x) (empty_after n names)

-- what stands in the result stood there before, or is made
pub origin : (a : Name) (c : Context) (n : Node) → 0 < occurs a (rewrite c n).result → (0 < occurs a n) ⊎ (0 < times a (rewrite c n).note.made)
origin a c n h = go (occurs a n) (times a (rewrite c n).note.made) refl refl
  where
    go : (s t : ℕ) → occurs a n ≡ s → times a (rewrite c n).note.made ≡ t → (0 < s) ⊎ (0 < t)
    go (suc s) t e f = inl (omega arith)
    go zero (suc t) e f = inr (omega arith)
    go zero zero e f = let z = (rewrite_sound a c n e f).0 in absurd (omega arith)

-- ---- parts of a node

module _ (P Q R : Node → Type 0) (f : (m : Node) → P m → Q m → R m) where
  both_piece : (p : Piece) → AllPiece P p → AllPiece Q p → AllPiece R p
  both_piece (Piece.one n) h k = f n h k
  both_piece (Piece.list is) h k = both_items P Q R f is h k
  both_piece (Piece.text bs) h k = tt
  both_piece (Piece.byte b) h k = tt
  both_piece (Piece.mark b) h k = tt
  both_piece (Piece.number b) h k = tt

  both_fields : (fs : Fields) → AllFields P fs → AllFields Q fs → AllFields R fs
  both_fields Fields.done h k = tt
  both_fields (Fields.absent fs) h k = both_fields fs h k
  both_fields (Fields.field p fs) h k = (both_piece p h.0 k.0, both_fields fs h.1 k.1)

  pub both_each : (n : Node) → Each P n → Each Q n → Each R n
  both_each (node at k fs) h k' = both_fields fs h k'

-- what holds of each part for every x holds of each part
module _ (P : ℕ → Node → Type 0) where
  all_items : (is : Items) → ((x : ℕ) → AllItems (P x) is) → AllItems (λ m. (x : ℕ) → P x m) is
  all_items Items.none h = tt
  all_items (Items.hole is) h = all_items is h
  all_items (Items.item n is) h = ((λ x. (h x).0), all_items is (λ x. (h x).1))

  all_piece : (p : Piece) → ((x : ℕ) → AllPiece (P x) p) → AllPiece (λ m. (x : ℕ) → P x m) p
  all_piece (Piece.one n) h = h
  all_piece (Piece.list is) h = all_items is h
  all_piece (Piece.text bs) h = tt
  all_piece (Piece.byte b) h = tt
  all_piece (Piece.mark b) h = tt
  all_piece (Piece.number b) h = tt

  all_fields : (fs : Fields) → ((x : ℕ) → AllFields (P x) fs) → AllFields (λ m. (x : ℕ) → P x m) fs
  all_fields Fields.done h = tt
  all_fields (Fields.absent fs) h = all_fields fs h
  all_fields (Fields.field p fs) h = (all_piece p (λ x. (h x).0), all_fields fs (λ x. (h x).1))

  pub all_each : (n : Node) → ((x : ℕ) → Each (P x) n) → Each (λ m. (x : ℕ) → P x m) n
  all_each (node at k fs) h = all_fields fs h

-- ---- the walk

module _ (Good : Node → Type 0) (pot : ℕ → Node → ℕ) where
  abbrev Most : Node → Type 0
  Most m = (x : ℕ) → pot x m ≤ 1

  -- the temporaries that stand in n have the names that their cells stand for; no cell of theirs is made in the walk of n
  abbrev pub InForce : (ℕ → Name) → Node → Type 0
  InForce names n = (a : Name) → 0 < occurs a n → names (cell_at a) ≡ a

  abbrev pub Quiet : Node → Type 0
  Quiet n = (a : Name) → 0 < occurs a n → pot (cell_at a) n ≡ 0

  pub record Fine (names : ℕ → Name) (w : Walked) (n : Node) : Type 0 where
    pub scoped : Scoped names w
    pub left : (x : ℕ) → pot x n ≡ 0 → after names (named 0 0 w) x ≡ names x

  module _ (w : ℕ → ℕ → Node → Walked) where
    -- what is known of each part
    abbrev Part : Node → Type 0
    Part m = (names : ℕ → Name) → InForce names m → Quiet m → (i j : ℕ) → Fine names (w i j m) m

    record FineItems (names : ℕ → Name) (ws : WalkedItems) (is : Items) : Type 0 where
      scoped : ScopedItems names ws
      left : (x : ℕ) → AllItems (λ m. pot x m ≡ 0) is → after names (named_items false 0 0 ws) x ≡ names x

    record FinePiece (names : ℕ → Name) (wp : WalkedPiece) (p : Piece) : Type 0 where
      scoped : ScopedPiece names wp
      left : (x : ℕ) → AllPiece (λ m. pot x m ≡ 0) p → after names (named_piece false 0 0 wp) x ≡ names x

    record FineFields (names : ℕ → Name) (ws : WalkedFields) (fs : Fields) : Type 0 where
      scoped : ScopedFields names ws
      left : (x : ℕ) → AllFields (λ m. pot x m ≡ 0) fs → after names (named_fields false 0 0 ws) x ≡ names x

    items_fine : (i : ℕ) (is : Items) (j : ℕ) (names : ℕ → Name) → AllItems Part is
        → ((a : Name) → 0 < occurs_items a is → names (cell_at a) ≡ a)
        → ((a : Name) → 0 < occurs_items a is → AllItems (λ m. pot (cell_at a) m ≡ 0) is)
        → FineItems names (each_item_of (w i) j is) is
    unfolding each_item_of named occurs after
    items_fine i Items.none j names h force quiet = record { scoped = tt; left = λ x z. refl }
    items_fine i (Items.hole is) j names h force quiet =
        let r = items_fine i is (suc j) names h force quiet in
        record { scoped = r.scoped; left = λ x z. ap (λ (s : ℕ → Name). after s (named_items false 0 0 (each_item_of (w i) (suc j) is)) x) (put_after names 0) ∙ r.left x z }
    items_fine i (Items.item n is) j names h force quiet =
        let v = w i j n in
        let names' = after names (named 0 0 v) in
        let ws = each_item_of (w i) (suc j) is in
        let one = h.0 names (λ a o. force a (omega arith)) (λ a o. (quiet a (omega arith)).0) i j in
        let r = items_fine i is (suc j) names' h.1
        (λ a o. one.left (cell_at a) (quiet a (omega arith)).0 ∙ force a (omega arith))
        (λ a o. (quiet a (omega arith)).1) in
        record {
          scoped = (one.scoped, r.scoped);
          left = λ x z.
              ap (λ (s : ℕ → Name). s x) (after_append names (named 0 0 v) (named_items false (later 0 (new_in v)) 0 ws))
              ∙ ap (λ (s : ℕ → Name). s x) (items_alike ws false false (later 0 (new_in v)) 0 0 0 names')
              ∙ r.left x z.1 ∙ one.left x z.0;
        }

    piece_fine : (i : ℕ) (p : Piece) (names : ℕ → Name) → AllPiece Part p
        → ((a : Name) → 0 < occurs_piece a p → names (cell_at a) ≡ a)
        → ((a : Name) → 0 < occurs_piece a p → AllPiece (λ m. pot (cell_at a) m ≡ 0) p)
        → FinePiece names (each_piece (w i) p) p
    unfolding each_piece named occurs
    piece_fine i (Piece.one n) names h force quiet =
        let r = h names force quiet i 0 in record { scoped = r.scoped; left = λ x z. r.left x z }
    piece_fine i (Piece.list is) names h force quiet =
        let r = items_fine i is 0 names h force quiet in
        let ws = each_item_of (w i) 0 is in
        record {
          scoped = r.scoped;
          left = λ x z.
              ap (λ (s : ℕ → Name). s x) (after_append names (puts (wide_bytes (count_in ws))) (named_items false 0 0 ws))
              ∙ ap (λ (s : ℕ → Name). after s (named_items false 0 0 ws) x) (puts_after names (wide_bytes (count_in ws))) ∙ r.left x z;
        }
    piece_fine i (Piece.text bs) names h force quiet = record { scoped = tt; left = λ x z. ap (λ (s : ℕ → Name). s x) (puts_after names (wide_bytes (length bs) ++ bs)) }
    piece_fine i (Piece.byte b) names h force quiet = record { scoped = tt; left = λ x z. ap (λ (s : ℕ → Name). s x) (one_after names (Named.put b) (put_after names b)) }
    piece_fine i (Piece.mark b) names h force quiet = record { scoped = tt; left = λ x z. ap (λ (s : ℕ → Name). s x) (marks_after names b) }
    piece_fine i (Piece.number b) names h force quiet = record { scoped = tt; left = λ x z. ap (λ (s : ℕ → Name). s x) (puts_after names (wide_bytes b)) }

    fields_fine : (fs : Fields) (i : ℕ) (names : ℕ → Name) → AllFields Part fs
        → ((a : Name) → 0 < occurs_fields a fs → names (cell_at a) ≡ a)
        → ((a : Name) → 0 < occurs_fields a fs → AllFields (λ m. pot (cell_at a) m ≡ 0) fs)
        → FineFields names (each_field w i fs) fs
    unfolding each_field named occurs after
    fields_fine Fields.done i names h force quiet = record { scoped = tt; left = λ x z. refl }
    fields_fine (Fields.absent fs) i names h force quiet =
        let r = fields_fine fs (suc i) names h force quiet in record { scoped = r.scoped; left = r.left }
    fields_fine (Fields.field p fs) i names h force quiet =
        let v = each_piece (w i) p in
        let names' = after names (named_piece false 0 0 v) in
        let ws = each_field w (suc i) fs in
        let one = piece_fine i p names h.0 (λ a o. force a (omega arith)) (λ a o. (quiet a (omega arith)).0) in
        let r = fields_fine fs (suc i) names' h.1
        (λ a o. one.left (cell_at a) (quiet a (omega arith)).0 ∙ force a (omega arith))
        (λ a o. (quiet a (omega arith)).1) in
        record {
          scoped = (one.scoped, r.scoped);
          left = λ x z.
              ap (λ (s : ℕ → Name). s x) (after_append names (named_piece false 0 0 v) (named_fields false (later 0 (new_in_piece v)) 0 ws))
              ∙ ap (λ (s : ℕ → Name). s x) (fields_alike ws false false (later 0 (new_in_piece v)) 0 0 0 names')
              ∙ r.left x z.1 ∙ one.left x z.0;
        }

    -- a node and its parts, after its note
    node_fine : (note : Note) (r : Node) (names : ℕ → Name) → (is20 : (at : ℕ) (k : ℕ) (fs : Fields) → r ≡ node at k fs → eqb k 20 ≡ true → IsNamed fs)
        → Each Part r
        → ((a : Name) → 0 < occurs a r → after names (hands_out 0 note) (cell_at a) ≡ a)
        → ((a : Name) → 0 < occurs a r → Each (λ m. pot (cell_at a) m ≡ 0) r)
        → Scoped names (inside note w r) × ((x : ℕ) → after names (hands_out 0 note) x ≡ names x → Each (λ m. pot x m ≡ 0) r → after names (named 0 0 (inside note w r)) x ≡ names x)
    unfolding inside named
    node_fine note (node at k fs) names is20 h force quiet =
        let names' = after names (hands_out 0 note) in
        let ws = each_field w 0 fs in
        let f = fields_fine fs 0 names' h
        (λ a o. let l = fields_in a at k fs in force a (omega arith))
        (λ a o. let l = fields_in a at k fs in quiet a (omega arith)) in
        let below = named_fields (is_container k) 0 0 ws in (
          (
            (λ e.
                let t = is20 at k fs refl e in
                ap names' (walked_cell w at k fs t) ∙ force (name_of (node at k fs)) (occurs_here at k fs e) ∙ walked_name w at k fs t),
            f.scoped,
          ),
          (λ x l z.
              ap (λ (s : ℕ → Name). s x) (after_append names (hands_out 0 note) (written at k ws below))
              ∙ written_left names' x at k ws below (ap (λ (s : ℕ → Name). s x) (fields_alike ws (is_container k) false 0 0 0 0 names') ∙ f.left x z)
              ∙ l),
        )

  -- ---- one rewriting

  module _ (named-20 : (at k : ℕ) (fs : Fields) → Good (node at k fs) → eqb k 20 ≡ true → IsNamed fs)
      (parts : (n : Node) → Good n → Each Good n)
      (step : (c : Context) (n : Node) → Good n → Good (rewrite c n).result)
      (spent : (x : ℕ) (c : Context) (n : Node) → Good n → pot x n ≤ 1
      → (number (in_cell x) (rewrite c n).note.made ≤ pot x n)
      × Each (λ m. number (in_cell x) (rewrite c n).note.made + pot x m ≤ pot x n) (rewrite c n).result) where
    module _ (c : Context) (n : Node) (good : Good n) (most : Most n) (names : ℕ → Name) (force : InForce names n) (quiet : Quiet n) where
      once : (x : ℕ) → number (in_cell x) (makes (rewrite c n).note) ≤ 1
      once x = let e = makes_all (in_cell x) c n in let s = (spent x c n good (most x)).0 in let m = most x in omega arith

      -- a cell that may not be made is left by the note
      note_left : (x : ℕ) → pot x n ≡ 0 → after names (hands_out 0 (rewrite c n).note) x ≡ names x
      note_left x z =
          let e = makes_all (in_cell x) c n in
          let s = (spent x c n good (most x)).0 in
          ap (λ (s : ℕ → Name). s x) (hands_names 0 (rewrite c n).note names) ∙ cell_left names x (makes (rewrite c n).note) (omega arith)

      made_there : (a : Name) → 0 < times a (rewrite c n).note.made → 0 < number (in_cell (cell_at a)) (rewrite c n).note.made
      made_there a h =
          let e = named_there a (rewrite c n).note.made in let l = named_less (cell_at a) a (rewrite c n).note.made in omega arith

      force_after : (a : Name) → 0 < occurs a (rewrite c n).result → after names (hands_out 0 (rewrite c n).note) (cell_at a) ≡ a
      force_after a h =
          ⊎_elim
          (λ o. note_left (cell_at a) (quiet a o) ∙ force a o)
          (λ t.
          let e = makes_all (named_cell (cell_at a) a) c n in
          let d = named_there a (rewrite c n).note.made in
          ap (λ (s : ℕ → Name). s (cell_at a)) (hands_names 0 (rewrite c n).note names)
          ∙ cell_made names (cell_at a) a (makes (rewrite c n).note) (once (cell_at a)) (omega arith))
          (origin a c n h)

      -- no part makes the cell again
      nothing_left : (x : ℕ) → (pot x n ≡ 0) ⊎ (0 < number (in_cell x) (rewrite c n).note.made) → Each (λ m. pot x m ≡ 0) (rewrite c n).result
      nothing_left x h =
          let m = most x in
          weaker_each (λ k. number (in_cell x) (rewrite c n).note.made + pot x k ≤ pot x n) (λ k. pot x k ≡ 0)
          (λ k l. ⊎_elim (λ z. omega arith) (λ z. omega arith) h) (rewrite c n).result (spent x c n good (most x)).1

      quiet_after : (a : Name) → 0 < occurs a (rewrite c n).result → Each (λ m. pot (cell_at a) m ≡ 0) (rewrite c n).result
      quiet_after a h = nothing_left (cell_at a) (⊎_elim (λ o. inl (quiet a o)) (λ t. inr (made_there a t)) (origin a c n h))

    -- ---- the walk

    each_most : (c : Context) (n : Node) → Good n → Most n → Each Most (rewrite c n).result
    each_most c n good most =
        all_each (λ x m. pot x m ≤ 1) (rewrite c n).result
        (λ x. let l = most x in
        weaker_each (λ m. number (in_cell x) (rewrite c n).note.made + pot x m ≤ pot x n) (λ m. pot x m ≤ 1) (λ m h. omega arith) (rewrite c n).result (spent x c n good (most x)).1)

    zero_fine : (n : Node) (names : ℕ → Name) → Fine names (noted (unchanged n).note 0 0 WalkedFields.done) n
    zero_fine n names = record { scoped = ((λ e. absurd (let z : 0 ≡ 20 = eqb-true 0 20 e in omega arith)), tt); left = λ x z. zero_left n names x }

    pub walk_fine : (f : ℕ) (c : Context) (n : Node) → Good n → Most n → (names : ℕ → Name) → InForce names n → Quiet n → Fine names (walk f c n) n
    unfolding walk
    walk_fine zero c n good most names force quiet = zero_fine n names
    walk_fine (suc f) c n good most names force quiet =
        let s = rewrite c n in
        let w : ℕ → ℕ → Node → Walked = λ i j m. walk f (within c s.result i j) m in
        let most-parts = each_most c n good most in
        let r = node_fine w s.note s.result names
        (λ at k fs e z. named-20 at k fs (subst Good e (step c n good)) z)
        (both_each Good Most (Part w) (λ m g l names' force' quiet' i j. walk_fine f (within c s.result i j) m g l names' force' quiet')
        s.result (parts s.result (step c n good)) most-parts)
        (force_after c n good most names force quiet)
        (quiet_after c n good most names force quiet) in
        record {
          scoped = r.0;
          left = λ x z. r.1 x (note_left c n good most names force quiet x z) (nothing_left c n good most names force quiet x (inl z));
        }

    pub walked_scoped : (c : Context) (n : Node) → Good n → Most n → (names : ℕ → Name) → InForce names n → Quiet n → Scoped names (walked c n)
    unfolding walked
    walked_scoped c n good most names force quiet = (walk_fine (weight n) c n good most names force quiet).scoped
