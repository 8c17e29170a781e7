-- What is handed out by named events: those of each note in walk order. So the list, the counts and the names that are made are those of the notes.
-- Assumes nothing.
use mathlib.Core.Path.{◌≡◌, refl, sym, ap, ap₂, ◌∙◌}
use mathlib.Core.Bool.{Bool, true, cond}
use mathlib.Core.List.{List, [], ◌∷◌, ◌++◌, append_assoc}
use Prim.Native.Nat.{ℕ, zero, suc, ◌+◌, ◌≤◌}
use native.Mathlib.Omega.{arith}
use lib.Dec.{eqb}
use lib.ListN.{length}
use Rattle.tree.specs.Tree.{wide_bytes}
use Rattle.lowering.specs.Walk.{Note, Walked, WalkedFields, WalkedPiece, WalkedItems}
use Rattle.lowering.specs.Walk.Walked.{noted}
use Rattle.lowering.specs.Collect.{Name, Visit, over, new_in, new_in_fields, new_in_piece, new_in_items, is_container, marked, mark_of, visits, visits_fields, visits_piece, visits_items}
use Rattle.lowering.proofs.Cases.{by_test}
use Rattle.lowering.proofs.ItemLaws.{over_append}
use Rattle.sink.specs.Shown.{Named, Token, list_of, keys_of, list_tokens, keys_tokens, entry_in_of, declarator_in, entries_in, declarators_in, made_by, made_in_of}
use Rattle.direct.specs.Events.{later, count_in, map_in}
use Rattle.outcome.specs.Named.{Act, puts, hands_out, marks, written, named, named_fields, named_piece, named_items}
use Rattle.outcome.proofs.Refusals.{Leafy, LeafyFields, LeafyPiece, LeafyItems, leaf_visits}
use Rattle.outcome.proofs.Tokens.{Aside, hands_aside}

-- ---- the events that write nothing of the tree

unfoldable pub asides : List Act → List Act
asides [] = []
asides (Named.put b ∷ es) = asides es
asides (Named.helper h ∷ es) = asides es
asides (Named.temporary c stem ∷ es) = asides es
asides (Named.new_mark ∷ es) = asides es
asides (Named.make c a ∷ es) = Named.make c a ∷ asides es
asides (Named.listed b ∷ es) = Named.listed b ∷ asides es
asides (Named.listed_temporary c stem a ∷ es) = Named.listed_temporary c stem a ∷ asides es
asides (Named.entry m n ∷ es) = Named.entry m n ∷ asides es
asides (Named.excluded b ∷ es) = Named.excluded b ∷ asides es
asides (Named.excluded_temporary c stem a ∷ es) = Named.excluded_temporary c stem a ∷ asides es
asides (Named.declarator ∷ es) = Named.declarator ∷ asides es

asides_append : (es fs : List Act) → asides (es ++ fs) ≡ asides es ++ asides fs
unfolding asides
asides_append [] fs = refl
asides_append (Named.put b ∷ es) fs = asides_append es fs
asides_append (Named.helper h ∷ es) fs = asides_append es fs
asides_append (Named.temporary c stem ∷ es) fs = asides_append es fs
asides_append (Named.new_mark ∷ es) fs = asides_append es fs
asides_append (Named.make c a ∷ es) fs = ap (λ (x : List Act). Named.make c a ∷ x) (asides_append es fs)
asides_append (Named.listed b ∷ es) fs = ap (λ (x : List Act). Named.listed b ∷ x) (asides_append es fs)
asides_append (Named.listed_temporary c stem a ∷ es) fs = ap (λ (x : List Act). Named.listed_temporary c stem a ∷ x) (asides_append es fs)
asides_append (Named.entry m n ∷ es) fs = ap (λ (x : List Act). Named.entry m n ∷ x) (asides_append es fs)
asides_append (Named.excluded b ∷ es) fs = ap (λ (x : List Act). Named.excluded b ∷ x) (asides_append es fs)
asides_append (Named.excluded_temporary c stem a ∷ es) fs = ap (λ (x : List Act). Named.excluded_temporary c stem a ∷ x) (asides_append es fs)
asides_append (Named.declarator ∷ es) fs = ap (λ (x : List Act). Named.declarator ∷ x) (asides_append es fs)

aside_all : (es : List Act) → Aside es → asides es ≡ es
unfolding asides
aside_all [] h = refl
aside_all (Named.put b ∷ es) h = absurd h
aside_all (Named.helper b ∷ es) h = absurd h
aside_all (Named.temporary c stem ∷ es) h = absurd h
aside_all (Named.new_mark ∷ es) h = absurd h
aside_all (Named.make c a ∷ es) h = ap (λ (x : List Act). Named.make c a ∷ x) (aside_all es h)
aside_all (Named.listed b ∷ es) h = ap (λ (x : List Act). Named.listed b ∷ x) (aside_all es h)
aside_all (Named.listed_temporary c stem a ∷ es) h = ap (λ (x : List Act). Named.listed_temporary c stem a ∷ x) (aside_all es h)
aside_all (Named.entry m n ∷ es) h = ap (λ (x : List Act). Named.entry m n ∷ x) (aside_all es h)
aside_all (Named.excluded b ∷ es) h = ap (λ (x : List Act). Named.excluded b ∷ x) (aside_all es h)
aside_all (Named.excluded_temporary c stem a ∷ es) h = ap (λ (x : List Act). Named.excluded_temporary c stem a ∷ x) (aside_all es h)
aside_all (Named.declarator ∷ es) h = ap (λ (x : List Act). Named.declarator ∷ x) (aside_all es h)

pub list_aside : (es : List Act) → list_tokens es ≡ list_tokens (asides es)
unfolding asides list_tokens list_of
list_aside [] = refl
list_aside (Named.put b ∷ es) = list_aside es
list_aside (Named.helper h ∷ es) = list_aside es
list_aside (Named.temporary c stem ∷ es) = list_aside es
list_aside (Named.new_mark ∷ es) = list_aside es
list_aside (Named.make c a ∷ es) = ap (λ (x : List (Token Name)). list_of (Named.make c a) ++ x) (list_aside es)
list_aside (Named.listed b ∷ es) = ap (λ (x : List (Token Name)). list_of (Named.listed b) ++ x) (list_aside es)
list_aside (Named.listed_temporary c stem a ∷ es) = ap (λ (x : List (Token Name)). list_of (Named.listed_temporary c stem a) ++ x) (list_aside es)
list_aside (Named.entry m n ∷ es) = ap (λ (x : List (Token Name)). list_of (Named.entry m n) ++ x) (list_aside es)
list_aside (Named.excluded b ∷ es) = ap (λ (x : List (Token Name)). list_of (Named.excluded b) ++ x) (list_aside es)
list_aside (Named.excluded_temporary c stem a ∷ es) = ap (λ (x : List (Token Name)). list_of (Named.excluded_temporary c stem a) ++ x) (list_aside es)
list_aside (Named.declarator ∷ es) = ap (λ (x : List (Token Name)). list_of (Named.declarator) ++ x) (list_aside es)

pub keys_aside : (es : List Act) → keys_tokens es ≡ keys_tokens (asides es)
unfolding asides keys_tokens keys_of
keys_aside [] = refl
keys_aside (Named.put b ∷ es) = keys_aside es
keys_aside (Named.helper h ∷ es) = keys_aside es
keys_aside (Named.temporary c stem ∷ es) = keys_aside es
keys_aside (Named.new_mark ∷ es) = keys_aside es
keys_aside (Named.make c a ∷ es) = ap (λ (x : List (Token Name)). keys_of (Named.make c a) ++ x) (keys_aside es)
keys_aside (Named.listed b ∷ es) = ap (λ (x : List (Token Name)). keys_of (Named.listed b) ++ x) (keys_aside es)
keys_aside (Named.listed_temporary c stem a ∷ es) = ap (λ (x : List (Token Name)). keys_of (Named.listed_temporary c stem a) ++ x) (keys_aside es)
keys_aside (Named.entry m n ∷ es) = ap (λ (x : List (Token Name)). keys_of (Named.entry m n) ++ x) (keys_aside es)
keys_aside (Named.excluded b ∷ es) = ap (λ (x : List (Token Name)). keys_of (Named.excluded b) ++ x) (keys_aside es)
keys_aside (Named.excluded_temporary c stem a ∷ es) = ap (λ (x : List (Token Name)). keys_of (Named.excluded_temporary c stem a) ++ x) (keys_aside es)
keys_aside (Named.declarator ∷ es) = ap (λ (x : List (Token Name)). keys_of (Named.declarator) ++ x) (keys_aside es)

pub entries_aside : (es : List Act) → entries_in es ≡ entries_in (asides es)
unfolding asides entries_in entry_in_of
entries_aside [] = refl
entries_aside (Named.put b ∷ es) = (let h = entries_aside es in omega arith)
entries_aside (Named.helper h ∷ es) = (let h = entries_aside es in omega arith)
entries_aside (Named.temporary c stem ∷ es) = (let h = entries_aside es in omega arith)
entries_aside (Named.new_mark ∷ es) = (let h = entries_aside es in omega arith)
entries_aside (Named.make c a ∷ es) = ap (λ (x : ℕ). entry_in_of {A = Name} (Named.make c a) + x) (entries_aside es)
entries_aside (Named.listed b ∷ es) = ap (λ (x : ℕ). entry_in_of {A = Name} (Named.listed b) + x) (entries_aside es)
entries_aside (Named.listed_temporary c stem a ∷ es) = ap (λ (x : ℕ). entry_in_of {A = Name} (Named.listed_temporary c stem a) + x) (entries_aside es)
entries_aside (Named.entry m n ∷ es) = ap (λ (x : ℕ). entry_in_of {A = Name} (Named.entry m n) + x) (entries_aside es)
entries_aside (Named.excluded b ∷ es) = ap (λ (x : ℕ). entry_in_of {A = Name} (Named.excluded b) + x) (entries_aside es)
entries_aside (Named.excluded_temporary c stem a ∷ es) = ap (λ (x : ℕ). entry_in_of {A = Name} (Named.excluded_temporary c stem a) + x) (entries_aside es)
entries_aside (Named.declarator ∷ es) = ap (λ (x : ℕ). entry_in_of {A = Name} (Named.declarator) + x) (entries_aside es)

pub declarators_aside : (es : List Act) → declarators_in es ≡ declarators_in (asides es)
unfolding asides declarators_in declarator_in
declarators_aside [] = refl
declarators_aside (Named.put b ∷ es) = (let h = declarators_aside es in omega arith)
declarators_aside (Named.helper h ∷ es) = (let h = declarators_aside es in omega arith)
declarators_aside (Named.temporary c stem ∷ es) = (let h = declarators_aside es in omega arith)
declarators_aside (Named.new_mark ∷ es) = (let h = declarators_aside es in omega arith)
declarators_aside (Named.make c a ∷ es) = ap (λ (x : ℕ). declarator_in {A = Name} (Named.make c a) + x) (declarators_aside es)
declarators_aside (Named.listed b ∷ es) = ap (λ (x : ℕ). declarator_in {A = Name} (Named.listed b) + x) (declarators_aside es)
declarators_aside (Named.listed_temporary c stem a ∷ es) = ap (λ (x : ℕ). declarator_in {A = Name} (Named.listed_temporary c stem a) + x) (declarators_aside es)
declarators_aside (Named.entry m n ∷ es) = ap (λ (x : ℕ). declarator_in {A = Name} (Named.entry m n) + x) (declarators_aside es)
declarators_aside (Named.excluded b ∷ es) = ap (λ (x : ℕ). declarator_in {A = Name} (Named.excluded b) + x) (declarators_aside es)
declarators_aside (Named.excluded_temporary c stem a ∷ es) = ap (λ (x : ℕ). declarator_in {A = Name} (Named.excluded_temporary c stem a) + x) (declarators_aside es)
declarators_aside (Named.declarator ∷ es) = ap (λ (x : ℕ). declarator_in {A = Name} (Named.declarator) + x) (declarators_aside es)

-- ---- rows in turn

pub list_append : (es fs : List Act) → list_tokens (es ++ fs) ≡ list_tokens es ++ list_tokens fs
unfolding list_tokens
list_append [] fs = refl
list_append (e ∷ es) fs = ap (λ (x : List (Token Name)). list_of e ++ x) (list_append es fs) ∙ sym (append_assoc (list_of e) (list_tokens es) (list_tokens fs))

pub keys_append : (es fs : List Act) → keys_tokens (es ++ fs) ≡ keys_tokens es ++ keys_tokens fs
unfolding keys_tokens
keys_append [] fs = refl
keys_append (e ∷ es) fs = ap (λ (x : List (Token Name)). keys_of e ++ x) (keys_append es fs) ∙ sym (append_assoc (keys_of e) (keys_tokens es) (keys_tokens fs))

pub entries_append : (es fs : List Act) → entries_in (es ++ fs) ≡ entries_in es + entries_in fs
unfolding entries_in
entries_append [] fs = omega arith
entries_append (e ∷ es) fs = let h = entries_append es fs in omega arith

pub declarators_append : (es fs : List Act) → declarators_in (es ++ fs) ≡ declarators_in es + declarators_in fs
unfolding declarators_in
declarators_append [] fs = omega arith
declarators_append (e ∷ es) fs = let h = declarators_append es fs in omega arith

pub made_append : (es fs : List Act) → made_in_of (es ++ fs) ≡ made_in_of es ++ made_in_of fs
unfolding made_in_of
made_append [] fs = refl
made_append (e ∷ es) fs = ap (λ (x : List Name). made_by e ++ x) (made_append es fs) ∙ sym (append_assoc (made_by e) (made_in_of es) (made_in_of fs))

-- ---- the notes

abbrev pub hands : Visit → List Act
hands v = hands_out v.containing v.note

puts_none : (bs : List ℕ) → asides (puts bs) ≡ []
unfolding asides puts
puts_none [] = refl
puts_none (b ∷ bs) = puts_none bs

marks_none : (b : ℕ) → asides (marks b) ≡ []
unfolding asides marks puts
marks_none zero = refl
marks_none (suc b) = refl

abbrev Hands : List Act → List Visit → Type 0
Hands es vs = asides es ≡ over hands vs

no_hands : (es : List Act) → asides es ≡ [] → Hands es []
unfolding over
no_hands es h = h

both_hands : (es fs : List Act) (us vs : List Visit) → Hands es us → Hands fs vs → Hands (es ++ fs) (us ++ vs)
both_hands es fs us vs h k =
    asides_append es fs ∙ ap₂ (λ (x : List Act) (y : List Act). x ++ y) h k ∙ sym (over_append hands us vs)

after_puts : (bs : List ℕ) (fs : List Act) (vs : List Visit) → Hands fs vs → Hands (puts bs ++ fs) vs
after_puts bs fs vs h = asides_append (puts bs) fs ∙ ap (λ (x : List Act). x ++ asides fs) (puts_none bs) ∙ h

note_hands : (m : ℕ) (note : Note) (fs : List Act) (vs : List Visit) → Hands fs vs → Hands (hands_out m note ++ fs) (record { containing = m; note = note } ∷ vs)
unfolding over
note_hands m note fs vs h =
    asides_append (hands_out m note) fs ∙ ap₂ (λ (x : List Act) (y : List Act). x ++ y) (aside_all (hands_out m note) (hands_aside m note)) h

written_hands : (at k : ℕ) (fs : WalkedFields) (es : List Act) (vs : List Visit) → (eqb k 20 ≡ true → vs ≡ []) → (eqb k 21 ≡ true → vs ≡ []) → Hands es vs → Hands (written at k fs es) vs
unfolding written asides over
written_hands at k fs es vs f g h =
    by_test (eqb k 20)
    (λ e. rw e (ap (over hands) (sym (f e))))
    (λ e. rw e (by_test (eqb k 21) (λ d. rw d (ap (over hands) (sym (g d)))) (λ d. rw d (after_puts (k ∷ map_in fs ∷ []) es vs h))))

-- marks below 65536 are counted
later_is : (next n : ℕ) → next + n ≤ 65535 → later next n ≡ next + n
later_is next zero h = omega arith
later_is next (suc n) h = omega arith

mutual
  unfolding named visits new_in asides

  -- where no mark is above 65535
  pub named_hands : (w : Walked) → Leafy w → (next m : ℕ) → next + new_in w ≤ 65535 → asides (named next m w) ≡ over hands (visits next m w)
  named_hands (noted note at k fs) h next m b =
      let es = named_fields (is_container k) next m fs in
      let vs = visits_fields (is_container k) next m fs in
      note_hands m note (written at k fs es) vs
      (written_hands at k fs es vs
      (λ e. leaf_visits (is_container k) next m fs (h.0 e))
      (λ e. leaf_visits (is_container k) next m fs (h.1 e))
      (fields_hands fs h.2 (is_container k) next m b))

  fields_hands : (fs : WalkedFields) → LeafyFields fs → (l : Bool) (next m : ℕ) → next + new_in_fields fs ≤ 65535 → Hands (named_fields l next m fs) (visits_fields l next m fs)
  fields_hands WalkedFields.done h l next m b = no_hands [] refl
  fields_hands (WalkedFields.absent fs) h l next m b = fields_hands fs h l next m b
  fields_hands (WalkedFields.field p fs) h l next m b =
      let k = next + new_in_piece p in
      both_hands (named_piece l next m p) (named_fields l (later next (new_in_piece p)) m fs) (visits_piece l next m p) (visits_fields l k m fs)
      (piece_hands p h.0 l next m (omega arith))
      (ap (λ (x : ℕ). asides (named_fields l x m fs)) (later_is next (new_in_piece p) (omega arith)) ∙ fields_hands fs h.1 l k m (omega arith))

  piece_hands : (p : WalkedPiece) → LeafyPiece p → (l : Bool) (next m : ℕ) → next + new_in_piece p ≤ 65535 → Hands (named_piece l next m p) (visits_piece l next m p)
  piece_hands (WalkedPiece.one w) h l next m b = named_hands w h next m b
  piece_hands (WalkedPiece.list is) h l next m b = after_puts (wide_bytes (count_in is)) (named_items l next m is) (visits_items l next m is) (items_hands is h l next m b)
  piece_hands (WalkedPiece.text bs) h l next m b = no_hands (puts (wide_bytes (length bs) ++ bs)) (puts_none (wide_bytes (length bs) ++ bs))
  piece_hands (WalkedPiece.byte v) h l next m b = no_hands (Named.put v ∷ []) refl
  piece_hands (WalkedPiece.mark v) h l next m b = no_hands (marks v) (marks_none v)
  piece_hands (WalkedPiece.number v) h l next m b = no_hands (puts (wide_bytes v)) (puts_none (wide_bytes v))

  items_hands : (is : WalkedItems) → LeafyItems is → (l : Bool) (next m : ℕ) → next + new_in_items is ≤ 65535 → Hands (named_items l next m is) (visits_items l next m is)
  items_hands WalkedItems.none h l next m b = no_hands [] refl
  items_hands (WalkedItems.hole is) h l next m b = items_hands is h l next m b
  items_hands (WalkedItems.item w is) h l next m b =
      let c = cond l (marked next (mark_of w)) m in
      let k = next + new_in w in
      both_hands (named next c w) (named_items l (later next (new_in w)) m is) (visits next c w) (visits_items l k m is)
      (named_hands w h.0 next c (omega arith))
      (ap (λ (x : ℕ). asides (named_items l x m is)) (later_is next (new_in w) (omega arith)) ∙ items_hands is h.1 l k m (omega arith))
