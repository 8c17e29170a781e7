-- The deeds of a walk, run through the output machine, give the outcome of the definition. Of one rewriting one law is asked for: of the cells
-- that are still to be made.
-- Assumes nothing.
use mathlib.Core.Path.{◌≡◌, refl, sym, ap, ap₂, ◌∙◌}
use mathlib.Core.Bool.{true, false}
use mathlib.Core.List.{List, [], ◌∷◌, ◌++◌}
use Prim.Native.Nat.{ℕ, zero, suc, ◌+◌, ◌-◌, ◌*◌, ◌/◌, ◌%◌, ◌≤◌, ◌<◌, min}
use native.Mathlib.Omega.{arith}
use lib.Dec.{eqb, ltb}
use lib.ListN.{length, length-append, replicate}
use borrow.Author.Tests.{ne_eqb, ltb-false}
use Rattle.tree.specs.Tree.{Node, wide_bytes, count, encode}
use Rattle.lowering.specs.Made.{Context}
use Rattle.lowering.specs.Walk.{Walked, WalkedFields, WalkedPiece, WalkedItems, rewrite}
use Rattle.lowering.specs.Walk.Walked.{noted}
use Rattle.lowering.specs.Weight.{walked}
use Rattle.lowering.specs.Collect.{Name, name_at, same, over, distinct, number_in, Visit, new_in, new_in_fields, new_in_piece, new_in_items, bare, bare_fields, bare_piece, bare_items, visits, first_refusal, entries, excluded_in, helper_mask, nodes, list_nodes, names_of, numbered, list_bytes}
use Rattle.lowering.specs.Collect
use Rattle.lowering.specs.Answer.{Lent, Result, top, fits, fitted, collected, after_walk, outcome_of}
use Rattle.lowering.specs.Answer
use Rattle.lowering.proofs.All.{Each}
use Rattle.lowering.proofs.Cases.{by_test}
use Rattle.lowering.proofs.Answers.{zeros}
use Rattle.lowering.proofs.Notes.{AllNotes}
use Rattle.lowering.proofs.Appearance.{same_is, name_self}
use Rattle.lowering.proofs.MadeAtSites.{times}
use Rattle.lowering.proofs.Occurs.{occurs}
use Rattle.lowering.proofs.ItemLaws.{over_append}
use Rattle.sink.specs.Machine.{Event, end_of, nothing, steps, start, finished, mask_of}
use Rattle.sink.specs.Machine
use Rattle.sink.specs.Shown.{Token, events_of, tree_tokens, list_tokens, keys_tokens, entries_in, declarators_in, made_in_of, helpers_in, order, order_of, shown, place, tree_bytes, handed_back}
use Rattle.sink.specs.Shown
use Rattle.sink.proofs.Names.{size, size_append, length_shown}
use Rattle.sink.proofs.Firsts.{names_in}
use Rattle.sink.proofs.Result.{handed_back_lem}
use Rattle.direct.specs.Events.{cell, deeds}
use Rattle.outcome.specs.Named.{Act, first_refused, events_in, named, plains, tokens, tokens_fields, tokens_piece, tokens_items, outcome_from}
use Rattle.outcome.proofs.FormedTidy.{formed_tidy}
use Rattle.outcome.proofs.Refusals.{Leafy, first_refusal_lem}
use Rattle.outcome.proofs.SameEvents.{named_same}
use Rattle.outcome.proofs.Tokens.{Formed, FormedFields, FormedPiece, FormedItems, formed_leafy, tree_writes, temporary_none}
use Rattle.outcome.proofs.Listed.{asides, hands, named_hands, list_aside, keys_aside, entries_aside, declarators_aside}
use Rattle.outcome.proofs.MadeOnce.{number, in_cell}
use Rattle.outcome.proofs.Scope.{cell_at, walked_scoped}
use Rattle.outcome.proofs.GoodNodes.{Good, parts}
use Rattle.outcome.proofs.GoodRules.{rewrite_good}
use Rattle.outcome.proofs.WalkedForms.{walked_formed, good_notes}
use Rattle.outcome.proofs.HandedDeclarators.{Hands, rewrite_hands, unchanged_hands}
use Rattle.outcome.proofs.MarksKept.{Held, Walks, walked_keeps}
use Rattle.outcome.proofs.Numbers.{bytes, Every, every_weaker, bytes_same, shown_bytes, encode_tokens, Placed, all_placed, number_agrees, in_every}
use Rattle.outcome.proofs.Nodes.{tree_names, tree_mask}
use Rattle.outcome.proofs.ListWritten.{Says, machine_entry, visits_say, counts_small, list_bytes_lem, list_length, visits_marks, entries_marks, entries_small, size_plains}
use Rattle.outcome.proofs.Uses.{calm, used, walked_used, occurs_in, entries_every, excluded_every}
use Rattle.outcome.proofs.Cells.{Ok, walked_ok}
use Rattle.outcome.proofs.NamesApart.{made_apart}

-- ---- new marks take two bytes each

mutual
  unfolding new_in bare tokens

  marks_size : (k : ℕ) (w : Walked) → Formed w → 2 * new_in w ≤ size (tokens (bare k w))
  marks_size k (noted note at j fs) f =
      by_test (eqb j 20)
      (λ e. rw e (let z = temporary_none fs (f.0 e) in omega arith))
      (λ e. rw e (let h = fields_size k fs f.2 in omega arith))

  fields_size : (k : ℕ) (fs : WalkedFields) → FormedFields fs → 2 * new_in_fields fs ≤ size (tokens_fields (bare_fields k fs))
  fields_size k WalkedFields.done f = omega arith
  fields_size k (WalkedFields.absent fs) f = fields_size k fs f
  fields_size k (WalkedFields.field p fs) f =
      let a = piece_size k p f.0 in
      let b = fields_size (k + new_in_piece p) fs f.1 in
      let s = size_append (tokens_piece (bare_piece k p)) (tokens_fields (bare_fields (k + new_in_piece p) fs)) in
      omega arith

  piece_size : (k : ℕ) (p : WalkedPiece) → FormedPiece p → 2 * new_in_piece p ≤ size (tokens_piece (bare_piece k p))
  piece_size k (WalkedPiece.one w) f = marks_size k w f
  piece_size k (WalkedPiece.list is) f =
      let b = items_size k is f in let s = size_append (plains (wide_bytes (count (bare_items k is)))) (tokens_items (bare_items k is)) in omega arith
  piece_size k (WalkedPiece.text bs) f = omega arith
  piece_size k (WalkedPiece.byte b) f = omega arith
  piece_size k (WalkedPiece.mark zero) f = let s = size_plains (wide_bytes k) in omega arith
  piece_size k (WalkedPiece.mark (suc b)) f = omega arith
  piece_size k (WalkedPiece.number b) f = omega arith

  items_size : (k : ℕ) (is : WalkedItems) → FormedItems is → 2 * new_in_items is ≤ size (tokens_items (bare_items k is))
  items_size k WalkedItems.none f = omega arith
  items_size k (WalkedItems.hole is) f = let b = items_size k is f in omega arith
  items_size k (WalkedItems.item w is) f =
      let a = marks_size k w f.0 in
      let b = items_size (k + new_in w) is f.1 in
      let s = size_append (tokens (bare k w)) (tokens_items (bare_items (k + new_in w) is)) in
      omega arith

-- ---- the names of the cells at the start: none of them is made

abbrev first : ℕ → Name
first c = record { path = []; stem = 0; place = 16384 + c }

first_differ : (c d : ℕ) → c < 16384 → d < 16384 → same (first c) (first d) ≡ true → c ≡ d
first_differ c d h k e = let z : 16384 + c ≡ 16384 + d = ap (λ (x : Name). x.place) (same_is (first c) (first d) e) in omega arith

place_low : (a : Name) → cell_at a < 16384 → a.place < 16384
unfolding cell
place_low a h = omega arith

unlike : (a : Name) → cell_at a < 16384 → (c : ℕ) → c < 16384 → same a (first c) ≡ false
unfolding same
unlike a h c k = let l = place_low a h in rw (ne_eqb a.place (16384 + c) (λ e. omega arith)) refl

to_shown : (P : Name → Type 0) (l : List Name) → Every P l → Shown.Every P l
to_shown P [] h = tt
to_shown P (a ∷ l) h = (h.0, to_shown P l h.1)

-- ---- lengths of the machine's bytes

long_tree : (names : ℕ → Name) (next : ℕ) (es : List Act) (ts : List (Token Name)) → tree_tokens names next es ≡ ts → length (tree_bytes same names next es) ≡ size ts
unfolding tree_bytes
long_tree names next es ts e = length_shown same (order_of same names next es) (tree_tokens names next es) ∙ ap size e

long_list : (names : ℕ → Name) (next : ℕ) (es : List Act) (ts us : List (Token Name)) → list_tokens es ≡ ts → keys_tokens es ≡ us
    → length (Shown.list_bytes same names next es) ≡ 4 + (size ts + size us)
unfolding Shown.list_bytes
long_list names next es ts us e f =
    let o = order_of same names next es in
    let a = length_shown same o (list_tokens es) in
    let b = length_shown same o (keys_tokens es) in
    let c = length-append (entries_in es % 256 ∷ entries_in es / 256 ∷ shown same o (list_tokens es)) (declarators_in es % 256 ∷ declarators_in es / 256 ∷ shown same o (keys_tokens es)) in
    let d = ap size e in
    let g = ap size f in
    omega arith

-- ---- outcomes

module _ (options : ℕ) (s : Lent) where
  outcome_nothing : outcome_from options (nothing s.tree_slice s.list_slice s.work_slice) ≡ outcome_of s (Result.refusal 7)
  unfolding outcome_from outcome_of nothing
  outcome_nothing =
      let t = sym (zeros s.tree_slice) in
      let l = sym (zeros s.list_slice) in
      let k = sym (zeros s.work_slice) in
      λ j. record { answer = 7; helpers = 0; options = 0; tree_length = 0; list_length_of = 0; tree_out = (t) j; list_out = (l) j; work = (k) j }

  outcome_lowered : (mask : ℕ) (t l : List ℕ)
      → outcome_from options (end_of (Shown.filled s.tree_slice t) (Shown.filled s.list_slice l) (replicate s.work_slice 0) (record { fits = true; helpers = mask; tree = length t; list = length l }))
      ≡ outcome_of s (Result.lowered mask options t l)
  unfolding outcome_from outcome_of Shown.filled Answer.filled
  outcome_lowered mask t l =
      let k = sym (zeros s.work_slice) in
      λ j. record {
        answer = 0;
        helpers = mask;
        options = options;
        tree_length = length t;
        list_length_of = length l;
        tree_out = t ++ replicate (s.tree_slice - length t) 0;
        list_out = l ++ replicate (s.list_slice - length l) 0;
        work = (k) j;
      }

  -- what is handed back is the outcome, if the bytes are the same as far as they count
  outcome_same : (mask : ℕ) (t l l' : List ℕ) → (length t ≤ 32768 → length l ≡ length l') → (length t ≤ 32768 → length l' ≤ 16384 → l ≡ l')
      → outcome_from options (handed_back s.tree_slice s.list_slice s.work_slice mask t l) ≡ outcome_of s (fitted s mask options t l')
  unfolding handed_back Machine.over fitted fits
  outcome_same mask t l l' e f =
      by_test (ltb (min 32768 s.tree_slice) (length t))
      (λ u. rw u outcome_nothing)
      (λ u.
      let short : length t ≤ min 32768 s.tree_slice = ltb-false (min 32768 s.tree_slice) (length t) u in
      let d : length l ≡ length l' = e (omega arith) in
      by_test (ltb (min 16384 s.list_slice) (length l'))
      (λ v.
      let v' : ltb (min 16384 s.list_slice) (length l) ≡ true = ap (ltb (min 16384 s.list_slice)) d ∙ v in
      rw (u, v, v') outcome_nothing)
      (λ v.
      let v' : ltb (min 16384 s.list_slice) (length l) ≡ false = ap (ltb (min 16384 s.list_slice)) d ∙ v in
      let low : length l' ≤ min 16384 s.list_slice = ltb-false (min 16384 s.list_slice) (length l') v in
      rw (u, v, v')
      (ap (λ (x : List ℕ). outcome_from options (end_of (Shown.filled s.tree_slice t) (Shown.filled s.list_slice x) (replicate s.work_slice 0) (record { fits = true; helpers = mask; tree = length t; list = length x })))
      (f (omega arith) (omega arith)) ∙ outcome_lowered mask t l')))

-- the walk, where it refuses nothing
walk_result : (options : ℕ) (s : Lent) (next : ℕ) (w : Walked) → first_refusal (visits next 0 w) ≡ 0
    → after_walk options s next w ≡ collected options s (bare next w) (entries (visits next 0 w)) (excluded_in (visits next 0 w))
unfolding after_walk
walk_result options s next w e = rw (e, after_walk) refl

-- where it refuses
walk_refused : (options : ℕ) (s : Lent) (next : ℕ) (w : Walked) (r : ℕ) → first_refusal (visits next 0 w) ≡ suc r → after_walk options s next w ≡ Result.refusal (suc r)
unfolding after_walk
walk_refused options s next w r e = rw (e, after_walk) refl

-- ---- the theorem

module _ (pot : ℕ → Node → ℕ)
    (spent : (x : ℕ) (c : Context) (n : Node) → Good n → pot x n ≤ 1
    → (number (in_cell x) (rewrite c n).note.made ≤ pot x n)
    × Each (λ m. number (in_cell x) (rewrite c n).note.made + pot x m ≤ pot x n) (rewrite c n).result)
    (n : Node) (next : ℕ) (good : Good n) (held : Held (λ (b : ℕ). b < 65536) n) (clean : (a : Name) → occurs a n ≡ 0) (most : (x : ℕ) → pot x n ≤ 1) (bound : (x : ℕ) → 16384 ≤ x → pot x n ≡ 0)
    (apart : (a : Name) → times a (Collect.made_in_of (visits next 0 (walked top n))) ≤ 1) (small : next ≤ 16385) where
  abbrev w : Walked
  w = walked top n

  abbrev vs : List Visit
  vs = visits next 0 (walked top n)

  abbrev es : List Act
  es = named next 0 (walked top n)

  abbrev tree : Node
  tree = bare next (walked top n)

  abbrev ns : List Name
  ns = names_of (bare next (walked top n)) (entries (visits next 0 (walked top n))) (excluded_in (visits next 0 (walked top n)))

  formed : Formed w
  formed = walked_formed top n good

  kept : Walks (λ (b : ℕ). b < 65536) w
  kept = walked_keeps (λ (b : ℕ). b < 65536) (omega arith) top n held

  leafy : Leafy w
  leafy = formed_leafy w formed

  no_temporary : {A : Type 0} (a : Name) → 0 < occurs a n → A
  no_temporary a h = let z = clean a in absurd (omega arith)

  ok : Ok es
  ok =
      walked_ok Good pot (λ at k fs g e. g.0.temporary e) parts rewrite_good spent top n good most bound
      (λ a h. no_temporary a h) next 0

  tree_is : tree_tokens first next es ≡ tokens tree
  tree_is =
      (tree_writes first w formed
      (walked_scoped Good pot (λ at k fs g e. g.0.temporary e) parts rewrite_good spent top n good most first (λ a h. no_temporary a h) (λ a h. no_temporary a h))
      next 0 next).tree

  -- the numbers of the tree's names
  more : List Name
  more = over name_at (list_nodes (entries vs) (excluded_in vs))

  names_are : ns ≡ distinct same (names_in (tokens tree) ++ more)
  unfolding names_of more
  names_are =
      ap (distinct same)
      (over_append name_at (nodes tree) (list_nodes (entries vs) (excluded_in vs))
      ∙ ap (λ (x : List Name). x ++ over name_at (list_nodes (entries vs) (excluded_in vs))) (tree_names next w formed))

  abbrev machine_number : Name → ℕ
  machine_number a = place same a (order same [] (tokens tree))

  agrees : (a : Name) → Placed (tokens tree) a → machine_number a ≡ number_in same 1 ns a
  agrees a h = number_agrees (tokens tree) more a h ∙ ap (λ (l : List Name). number_in same 1 l a) (sym names_are)

  -- the tree
  pub tree_bytes_lem : tree_bytes same first next es ≡ encode (numbered ns tree)
  unfolding tree_bytes order_of
  tree_bytes_lem =
      ap (λ (x : List (Token Name)). shown same (order same [] x) x) tree_is
      ∙ shown_bytes (order same [] (tokens tree)) (tokens tree)
      ∙ bytes_same machine_number (number_in same 1 ns) (tokens tree)
      (every_weaker (Placed (tokens tree)) (λ a. machine_number a ≡ number_in same 1 ns a) agrees (names_in (tokens tree)) (all_placed (tokens tree)))
      ∙ sym (encode_tokens ns tree)

  order_is : order_of same first next es ≡ order same [] (tokens tree)
  unfolding order_of
  order_is = ap (λ (x : List (Token Name)). order same [] x) tree_is

  -- ---- the list, where the tree is within its limit

  handing : AllNotes Hands vs
  handing = good_notes Hands unchanged_hands (λ c m g. rewrite_hands c m g) top n good next 0

  tree_size : length (encode (numbered ns tree)) ≡ size (tokens tree)
  tree_size =
      ap length (sym tree_bytes_lem) ∙ long_tree first next es (tokens tree) tree_is

  module _ (short : length (encode (numbered ns tree)) ≤ 32768) where
    marks_fit : next + new_in w ≤ 65535
    marks_fit = let s = marks_size next w formed in let t = tree_size in omega arith

    asides_are : asides es ≡ over hands vs
    asides_are = named_hands w leafy next 0 marks_fit

    says : Says (over hands vs) (over machine_entry (entries vs)) (tokens_items (excluded_in vs)) (length (entries vs)) (count (excluded_in vs))
    says = visits_say vs handing

    list_are : list_tokens es ≡ over machine_entry (entries vs)
    list_are = list_aside es ∙ ap list_tokens asides_are ∙ says.list

    keys_are : keys_tokens es ≡ tokens_items (excluded_in vs)
    keys_are = keys_aside es ∙ ap keys_tokens asides_are ∙ says.keys

    entries_are : entries_in es ≡ length (entries vs)
    entries_are = entries_aside es ∙ ap entries_in asides_are ∙ says.entries

    declarators_are : declarators_in es ≡ count (excluded_in vs)
    declarators_are = declarators_aside es ∙ ap declarators_in asides_are ∙ says.declarators

    -- its length
    pub list_long : length (Shown.list_bytes same first next es) ≡ length (list_bytes ns (entries vs) (excluded_in vs))
    list_long =
        long_list first next es (over machine_entry (entries vs)) (tokens_items (excluded_in vs)) list_are keys_are
        ∙ sym (list_length ns (entries vs) (excluded_in vs))

    module _ (unrefused : first_refusal vs ≡ 0) where
      -- the names of the list are names of the tree
      in_tree : (a : Name) → 0 < used a vs → machine_number a ≡ number_in same 1 ns a
      in_tree a h =
          agrees a
          (in_every (Placed (tokens tree)) a (names_in (tokens tree)) (all_placed (tokens tree))
          (occurs_in a next w formed (walked_used a top n good next 0 next (calm w next 0 unrefused) h)))

      entries_same : bytes machine_number (over machine_entry (entries vs)) ≡ bytes (number_in same 1 ns) (over machine_entry (entries vs))
      entries_same =
          bytes_same machine_number (number_in same 1 ns) (over machine_entry (entries vs)) (entries_every (λ a. machine_number a ≡ number_in same 1 ns a) vs handing in_tree)

      excluded_same : bytes machine_number (tokens_items (excluded_in vs)) ≡ bytes (number_in same 1 ns) (tokens_items (excluded_in vs))
      excluded_same =
          bytes_same machine_number (number_in same 1 ns) (tokens_items (excluded_in vs)) (excluded_every (λ a. machine_number a ≡ number_in same 1 ns a) vs handing in_tree)

      -- the list, if it is within its limit too
      pub list_is : length (list_bytes ns (entries vs) (excluded_in vs)) ≤ 16384 → Shown.list_bytes same first next es ≡ list_bytes ns (entries vs) (excluded_in vs)
      unfolding Shown.list_bytes
      list_is h =
          let l = list_length ns (entries vs) (excluded_in vs) in
          let o = order_of same first next es in
          let first_part : shown same o (list_tokens es) ≡ bytes (number_in same 1 ns) (over machine_entry (entries vs)) =
          ap₂ (λ (x : List Name) (y : List (Token Name)). shown same x y) order_is list_are ∙ shown_bytes (order same [] (tokens tree)) (over machine_entry (entries vs)) ∙ entries_same in
          let second_part : shown same o (keys_tokens es) ≡ bytes (number_in same 1 ns) (tokens_items (excluded_in vs)) =
          ap₂ (λ (x : List Name) (y : List (Token Name)). shown same x y) order_is keys_are ∙ shown_bytes (order same [] (tokens tree)) (tokens_items (excluded_in vs)) ∙ excluded_same in
          ap₂ (λ (x : List ℕ) (y : List ℕ). x ++ y)
          (ap₂ (λ (x : ℕ) (y : List ℕ). wide_bytes x ++ y) entries_are first_part)
          (ap₂ (λ (x : ℕ) (y : List ℕ). wide_bytes x ++ y) declarators_are second_part)
          ∙ list_bytes_lem ns (entries vs) (excluded_in vs)
          (entries_small 16384 (entries vs) (omega arith) (entries_marks vs (visits_marks w kept next 0 (omega arith) marks_fit)) (counts_small 16384 (entries vs) (omega arith)))

  -- ---- the end of the run

  mask_is : mask_of (helpers_in es) ≡ helper_mask tree
  mask_is = tree_mask w formed next 0 next

  module _ (a b k : ℕ) (big : 49152 ≤ k) where
    handed : finished (steps (start a b k next) (events_of es)) ≡ handed_back a b k (mask_of (helpers_in es)) (tree_bytes same first next es) (Shown.list_bytes same first next es)
    handed =
        handed_back_lem same same_is name_self a b k next first es big (omega arith) ok.cells first_differ
        (to_shown (λ x. (c : ℕ) → c < 16384 → same x (first c) ≡ false) (made_in_of es) (every_weaker (λ x. cell_at x < 16384) (λ x. (c : ℕ) → c < 16384 → same x (first c) ≡ false) unlike (made_in_of es) ok.names))
        (made_apart top n leafy next 0 next 0 apart)

  -- the run of the deeds ends in the outcome of the definition, where nothing is refused
  pub outcome_is : (options : ℕ) (s : Lent) → 49152 ≤ s.work_slice → first_refused (deeds next 0 w) ≡ 0
      → outcome_from options (finished (steps (start s.tree_slice s.list_slice s.work_slice next) (events_in (deeds next 0 w)))) ≡ outcome_of s (after_walk options s next w)
  unfolding collected
  outcome_is options s big h =
      let calm' : first_refusal vs ≡ 0 = sym (first_refusal_lem w leafy next 0 next 0) ∙ h in
      ap (λ (x : List Event). outcome_from options (finished (steps (start s.tree_slice s.list_slice s.work_slice next) x))) (sym (named_same next 0 w (formed_tidy w formed)))
      ∙ ap (outcome_from options) (handed s.tree_slice s.list_slice s.work_slice big)
      ∙ ap₂ (λ (m : ℕ) (t : List ℕ). outcome_from options (handed_back s.tree_slice s.list_slice s.work_slice m t (Shown.list_bytes same first next es))) mask_is tree_bytes_lem
      ∙ outcome_same options s (helper_mask tree) (encode (numbered ns tree)) (Shown.list_bytes same first next es) (list_bytes ns (entries vs) (excluded_in vs))
      (λ short. list_long short) (λ short low. list_is short calm' low)
      ∙ ap (outcome_of s) (sym (walk_result options s next w calm'))

  -- and where something is, the first refusal is the answer
  pub refusal_is : (options : ℕ) (s : Lent) (r : ℕ) → first_refused (deeds next 0 w) ≡ suc r → after_walk options s next w ≡ Result.refusal (suc r)
  refusal_is options s r h = walk_refused options s next w r (sym (first_refusal_lem w leafy next 0 next 0) ∙ h)
