-- What is handed back is a tree of the rewritten stage, in which nothing is left but the exceptions, and a list by its layout.
-- Assumes nothing.
use mathlib.Core.Path.{◌≡◌, refl, sym, ap, subst, ◌∙◌}
use mathlib.Core.Bool.{true, false, ◌||◌, true≢false}
use mathlib.Core.List.{List, [], ◌∷◌, ◌++◌}
use mathlib.Core.Logic.{◌⊎◌, inl, inr}
use Prim.Native.Nat.{ℕ, ◌+◌, ◌*◌, ◌<◌, ◌≤◌, min}
use native.Mathlib.Omega.{arith}
use native.Mathlib.Nat.{add_comm}
use lib.Dec.{leb, ltb}
use lib.ListN.{length, length-append}
use borrow.Author.Tests.{ltb-false}
use Rattle.tree.specs.Tree.{Node, Items, depth, wide_bytes, encode, encode_piece, marks, placed}
use Rattle.tree.specs.Tree.Piece.{list}
use Rattle.tree.specs.Grammar.{root, among}
use Rattle.tree.specs.Grammar.Stage.{input, rewritten}
use Rattle.tree.specs.Read.{read_tree}
use Rattle.tree.specs.Read.Got.{got}
use Rattle.tree.specs.WellFormed.{Bytes, Counts, Fits, WellFormed}
use Rattle.tree.proofs.Sound.{sound}
use Rattle.tree.proofs.Complete.{complete}
use Rattle.tree.proofs.Limit.{tree_raised}
use Rattle.tree.proofs.EncodedLengths.{marks_long, counts_long}
use Rattle.rewritten.specs.Rewritten.{read_rewritten}
use Rattle.rewritten.specs.Rewritten as reading
use Rattle.rewritten.proofs.NeverTooDeep.{tree_never_too_deep}
use Rattle.rewritten.proofs.RewrittenExact.{rewritten_complete}
use Rattle.lowering.specs.Walk.{Walked}
use Rattle.lowering.specs.Weight.{walked}
use Rattle.lowering.specs.Collect.{Name, same, Entry, over, nodes, nodes_items, list_nodes, name_at, names_of, number_in, numbered, numbered_items, bare, new_in, visits, entries, excluded_in}
use Rattle.lowering.specs.Answer.{Lent, Result, fits, lowering, top, outcome, outcome_of}
use Rattle.lowering.specs.Answer.Result.{refusal, lowered}
use Rattle.lowering.specs.Refusals.{is_refusal}
use Rattle.lowering.proofs.Answers.{InTable, in_table}
use Rattle.lowering.proofs.Cases.{by_test, or_left, or_right, or_first, not-true}
use Rattle.lowering.proofs.CallLowers.{Lowers, lowers}
use Rattle.equal.specs.Canonical.{each_entry}
use Rattle.equal.specs.Equal.{entry_encoded, list_encoded}
use Rattle.equal.specs.Results.{written_by, result_by, own_names, tree_of, entries_of, excluded_of}
use Rattle.equal.proofs.One.{list_bytes_lem}
use Rattle.equal.proofs.PlacesByAppearance.{length_distinct, number_most}
use Rattle.result.specs.Left.{keeps_rest, keeps_spread, keeps, Section, Of}
use Rattle.result.specs.Leftover.{rest_left, left_in, leftover}
use Rattle.joining.specs.List.{handed, inner_marks, FitHanded}
use Rattle.joining.specs.Join.{found}
use Rattle.printer.specs.Text.{text_of}
use Rattle.printer.specs.Outcome as text
use Rattle.printer.specs.Outcome.{text_too_long}
use Rattle.joining.specs.Answer as joining
use Rattle.joining.specs.Answer.{taken}
use Rattle.result.specs.Marks.{copies_marks, result_marks, entries_found}
use Rattle.result.specs.Handed.{KeysOf}
use Rattle.result.specs.Whole.{result_of, LoweredRewritten}
use Rattle.result.specs.Causes.{Cause, Without, cause_of, Caused}
use Rattle.result.specs.Texts.{TextIn, TextInList, Known}
use Rattle.result.proofs.Lies.{Texts, Lies, LieItems, input_lies, input_bytes}
use Rattle.result.proofs.Comes.{Comes, walked_comes}
use Rattle.result.proofs.Bounds.{Small, names, names_append, walked_few}
use Rattle.result.proofs.WrittenFits.{fit}
use Rattle.result.proofs.Standing.{no_spread}
use Rattle.result.proofs.Occurring.{occurs_not}
use Rattle.result.proofs.PatternPlaces.{is_outside}
use Rattle.result.proofs.Resting.{rests_remain, due_caused}
use Rattle.result.proofs.EntriesLeft.{entries_caused}
use Rattle.result.proofs.Excluded.{excluded_caused}
use Rattle.lowering.specs.Visits.{Stands}
use Rattle.result.proofs.Handing.{AllHand, EntriesLie, walked_hands, entries_lie, excluded_lie}
use Rattle.result.proofs.TextOrigins.{texts_of, text_comes, text_list}
use Rattle.result.proofs.MarksApart.{marks_apart}
use Rattle.result.proofs.Entered.{all_entered}
use Rattle.result.proofs.Joins.{joins}
use Rattle.result.proofs.HandedKeys.{keys_handed}
use Rattle.result.proofs.Distinct.{distinct_front}
use Rattle.result.proofs.Numbering.{few_items, declarators_fit, entries_fit}

-- ---- names and entries of a list

module _ (ns : List Name) where
  entries_few : (T : Texts) (es : List Entry) → EntriesLie T es
      → (5 * names (over (λ e. nodes_items e.declarators) es) ≤ length (over entry_encoded (each_entry (λ is. numbered_items ns is) es)))
      × (length (each_entry (λ is. numbered_items ns is) es) ≤ length (over entry_encoded (each_entry (λ is. numbered_items ns is) es)))
  unfolding over each_entry entry_encoded encode
  entries_few T [] h = (omega arith, omega arith)
  entries_few T (e ∷ es) h =
      let a = few_items ns h.1 in
      let r = entries_few T es h.2 in
      let r₀ = r.0 in let r₁ = r.1 in
      let b = names_append (nodes_items e.declarators) (over (λ e. nodes_items e.declarators) es) in
      let c = length-append (wide_bytes e.containing ++ encode_piece (list (numbered_items ns e.declarators))) (over entry_encoded (each_entry (λ is. numbered_items ns is) es)) in
      (omega arith, omega arith)

fits_short : (s : Lent) (t l : List ℕ) → fits s t l ≡ true → (length t ≤ 32768) × (length l ≤ 16384)
unfolding fits
fits_short s t l e =
    let both = not-true (ltb (min 32768 s.tree_slice) (length t) || ltb (min 16384 s.list_slice) (length l)) e in
    let a = ltb-false (min 32768 s.tree_slice) (length t) (or_left (ltb (min 32768 s.tree_slice) (length t)) (ltb (min 16384 s.list_slice) (length l)) both) in
    let b = ltb-false (min 16384 s.list_slice) (length l) (or_right (ltb (min 32768 s.tree_slice) (length t)) (ltb (min 16384 s.list_slice) (length l)) both) in
    (omega arith, omega arith)

text_answers : (size : ℕ) (bs : List ℕ) → ((text.fitted size bs).answer ≡ 0) ⊎ ((text.fitted size bs).answer ≡ text_too_long)
unfolding text.fitted text.refusal
text_answers size bs = by_test (leb (length bs) size) (λ e. inl (rw e refl)) (λ e. inr (rw e refl))

-- ---- the law

module _ (limit : ℕ) (tree t l : List ℕ) (s : Lent) (b : Bytes tree) (k : Lowers limit tree s t l) where
  abbrev n : Node
  n = k.n

  abbrev next : ℕ
  next = k.next

  abbrev w : Walked
  w = walked top k.n

  abbrev ns : List Name
  ns = names_of (bare next w) (entries (visits next 0 w)) (excluded_in (visits next 0 w))

  fits_input : Fits input root n
  fits_input = (sound input limit tree n k.end next b k.read).well_formed.fits

  abbrev T : Texts
  T = texts_of n (λ bs i. input_bytes fits_input i)

  lies : Lies T root n
  lies = input_lies fits_input (λ bs i. Known.of_input i) (λ s b. b.1)

  next_few : next ≤ 8193
  next_few =
      let a = sound input limit tree n k.end next b k.read in
      let c = counts_long 1 (marks n) next a.well_formed.marked in
      let d = marks_long n in
      let e = a.well_formed.short in
      omega arith

  short : (length t ≤ 32768) × (length l ≤ 16384)
  short = fits_short s t l k.fit

  own_tree : t ≡ encode (result_of next n).tree
  unfolding result_by own_names tree_of entries_of excluded_of written_by
  own_tree = k.tree_bytes_lem

  own_list : l ≡ list_encoded (result_of next n).entries (result_of next n).excluded
  unfolding result_by own_names tree_of entries_of excluded_of written_by
  own_list = k.list_bytes_lem ∙ sym (list_bytes_lem (own_names next n) (tree_of next n) (entries_of next n) (excluded_of next n))

  written_tree : (result_of next n).tree ≡ numbered ns (bare next w)
  unfolding result_by own_names tree_of entries_of excluded_of written_by
  written_tree = refl

  tree_length_lem : length (encode (numbered ns (bare next w))) ≤ 32768
  tree_length_lem = subst (λ (m : Node). length (encode m) ≤ 32768) written_tree (subst (λ (x : List ℕ). length x ≤ 32768) own_tree short.0)

  small : Small (new_in w) (names (nodes (bare next w))) (length (encode (numbered ns (bare next w))))
  small = walked_few ns top n root next 0 lies k.unrefused

  next_fits : next + new_in w ≤ 65535
  next_fits = let a = small.marks in let c = tree_length_lem in let d = next_few in omega arith

  hands : AllHand T (visits next 0 w)
  hands = walked_hands top n root next 0 lies k.unrefused next_fits (omega arith)

  entries_are : EntriesLie T (entries (visits next 0 w))
  entries_are = entries_lie T (visits next 0 w) hands

  excluded_are : LieItems T 4 false (excluded_in (visits next 0 w))
  excluded_are = excluded_lie (visits next 0 w) hands

  written_list : list_encoded (result_of next n).entries (result_of next n).excluded
      ≡ wide_bytes (length (each_entry (λ is. numbered_items ns is) (entries (visits next 0 w))))
      ++ over entry_encoded (each_entry (λ is. numbered_items ns is) (entries (visits next 0 w)))
      ++ encode_piece (list (numbered_items ns (excluded_in (visits next 0 w))))
  unfolding result_by own_names tree_of entries_of excluded_of written_by list_encoded
  written_list = refl

  list_length : length (over entry_encoded (each_entry (λ is. numbered_items ns is) (entries (visits next 0 w)))) + length (encode_piece (list (numbered_items ns (excluded_in (visits next 0 w))))) ≤ 16384
  list_length =
      let es = over entry_encoded (each_entry (λ is. numbered_items ns is) (entries (visits next 0 w))) in
      let ex = encode_piece (list (numbered_items ns (excluded_in (visits next 0 w)))) in
      let a : length l ≡ length (wide_bytes (length (each_entry (λ is. numbered_items ns is) (entries (visits next 0 w)))) ++ es ++ ex) = ap length (own_list ∙ written_list) in
      let c = length-append es ex in
      let d = short.1 in
      omega arith

  few : (a : Name) → number_in same 1 ns a < 65536
  unfolding names_of list_nodes encode
  few a =
      let es = entries (visits next 0 w) in
      let ex = excluded_in (visits next 0 w) in
      let c = number_most same 1 ns a in
      let d = length_distinct same (over name_at (nodes (bare next w) ++ list_nodes es ex)) in
      let e = names_append (nodes (bare next w)) (list_nodes es ex) in
      let f = names_append (over (λ e. nodes_items e.declarators) es) (nodes_items ex) in
      let g = small.temporaries in
      let i = (entries_few ns T es entries_are).0 in
      let j = few_items ns excluded_are in
      let m = tree_length_lem in
      let q = list_length in
      omega arith

  tree_comes : Comes n (numbered ns (bare next w))
  tree_comes = walked_comes ns few top n root next 0 lies k.unrefused (let a = next_fits in omega arith)

  tree_formed : WellFormed rewritten (depth (numbered ns (bare next w))) (numbered ns (bare next w)) 1
  tree_formed = record { fits = fit tree_comes root lies (let a = tree_length_lem in omega arith); marked = refl; level = omega arith; short = tree_length_lem }

  tree_decoded : read_tree rewritten (length t) t ≡ got (placed (numbered ns (bare next w)) 0) (length t) 1
  tree_decoded =
      subst (λ (x : List ℕ). read_tree rewritten (length x) x ≡ got (placed (numbered ns (bare next w)) 0) (length x) 1) (sym (own_tree ∙ ap encode written_tree))
      (read_back (numbered ns (bare next w)) tree_formed)
    where
      read_back : (m : Node) → WellFormed rewritten (depth m) m 1 → read_tree rewritten (length (encode m)) (encode m) ≡ got (placed m 0) (length (encode m)) 1
      read_back m f =
          let x : List ℕ = encode m in
          let deep : read_tree rewritten (depth m + length x) x ≡ got (placed m 0) (length x) 1 = tree_raised x rewritten (length x) (depth m) (placed m 0) (length x) 1 (complete rewritten (depth m) m 1 f) in
          sym (tree_never_too_deep x rewritten (depth m)) ∙ ap (λ (d : ℕ). read_tree rewritten d x) (add_comm (length x) (depth m)) ∙ deep

  root_outside : is_outside root ≡ true
  unfolding among
  root_outside = refl

  tree_spreads : (q : List ℕ) (x : Node) → Stands [] (numbered ns (bare next w)) q x → keeps_spread x ≡ false
  tree_spreads q x s = no_spread tree_comes root lies s

  tree_caused : {q : List ℕ} {x : Node} → Stands [] (numbered ns (bare next w)) q x → keeps x ≡ true → Caused n Section.tree [] (numbered ns (bare next w)) q x
  unfolding keeps
  tree_caused {q = q} {x = x} s k = due_caused (rests_remain tree_comes root lies root_outside s (or_first (keeps_rest x) (keeps_spread x) (tree_spreads q x s) k))

  all_caused : (section : Section) (m : Node) → Of (result_of next n) section m → (q : List ℕ) (x : Node) → Stands [] m q x → keeps x ≡ true → Caused n section [] m q x
  unfolding result_by own_names tree_of entries_of excluded_of written_by
  all_caused Section.tree m Of.tree q x s k = tree_caused s k
  all_caused Section.entry m (Of.entry i) q x s k = entries_caused ns top n next i s k
  all_caused Section.excluded m (Of.excluded a) q x s k = excluded_caused ns top n next a s k

  tree_told : leftover t ≡ rest_left (placed (numbered ns (bare next w)) 0)
  unfolding leftover
  tree_told = ap left_in tree_decoded

  list_fits : FitHanded (handed (result_of next n).entries (result_of next n).excluded)
  unfolding result_by own_names tree_of entries_of excluded_of written_by
  list_fits =
      let a = list_length in
      let c = (entries_few ns T (entries (visits next 0 w)) entries_are).1 in
      record {
        few = omega arith;
        entries = entries_fit ns few T (entries (visits next 0 w)) entries_are (omega arith);
        excluded = declarators_fit ns few (excluded_in (visits next 0 w)) excluded_are (omega arith);
        short = subst (λ (x : List ℕ). length x ≤ 16384) own_list short.1;
      }

  tree_texts_lem : (bs : List ℕ) → TextIn (numbered ns (bare next w)) bs → Known n bs
  tree_texts_lem bs i = text_comes tree_comes root lies i

  list_texts_lem : (bs : List ℕ) → TextInList (result_of next n).entries (result_of next n).excluded bs → Known n bs
  unfolding result_by own_names tree_of entries_of excluded_of written_by
  list_texts_lem bs i = text_list ns (entries (visits next 0 w)) (excluded_in (visits next 0 w)) entries_are excluded_are i

  tree_counts : Counts 1 (marks n) next
  tree_counts = (sound input limit tree n k.end next b k.read).well_formed.marked

  entries_keys : KeysOf n (entries_of next n)
  unfolding entries_of
  entries_keys = keys_handed n T top next entries_are

  entries_entered : entries_found (result_of next n) ≡ true
  unfolding entries_found result_by own_names tree_of entries_of excluded_of written_by
  entries_entered = all_entered ns top n next lies k.unrefused

  distinct_marks : copies_marks n ≡ false → reading.distinct (result_marks (result_of next n)) ≡ true
  unfolding result_marks result_by own_names tree_of entries_of excluded_of written_by
  distinct_marks h = marks_apart ns top n next tree_counts fits_input h

  tree_apart : (m : Node) (es : List Entry) (ex : Items) → reading.distinct (taken m (handed es ex)) ≡ true → reading.distinct (marks m) ≡ true
  unfolding taken
  tree_apart m es ex e = distinct_front (marks m) (inner_marks (handed es ex)) e

  tree_accepted : copies_marks n ≡ false → read_rewritten t ≡ got (placed (result_of next n).tree 0) (length t) 1
  unfolding result_marks
  tree_accepted h =
      let m = (result_of next n).tree in
      subst (λ (x : List ℕ). read_rewritten x ≡ got (placed m 0) (length x) 1) (sym own_tree)
      (rewritten_complete m (record {
        formed = subst (λ (m : Node). WellFormed rewritten (depth m) m 1) (sym written_tree) tree_formed;
        apart = tree_apart m (result_of next n).entries (result_of next n).excluded (distinct_marks h);
      }))

  tree_printed : copies_marks n ≡ false → (size : ℕ) → ((text.outcome (read_rewritten t) size).answer ≡ 0) ⊎ ((text.outcome (read_rewritten t) size).answer ≡ text_too_long)
  tree_printed h size = rw (tree_accepted h) (text_answers size (text_of (placed (result_of next n).tree 0)))

  tree_joined : copies_marks n ≡ false → (room : ℕ) → (joining.answer_of (joining.outcome t l room) ≡ 0) ⊎ (joining.answer_of (joining.outcome t l room) ≡ 7)
  unfolding result_marks entries_found
  tree_joined h room =
      joins (result_of next n).tree (result_of next n).entries (result_of next n).excluded t l (tree_accepted h) list_fits own_list (as_taken (distinct_marks h)) as_found room
    where
      as_taken : reading.distinct (result_marks (result_of next n)) ≡ true → reading.distinct (taken (result_of next n).tree (handed (result_of next n).entries (result_of next n).excluded)) ≡ true
      as_taken e = e

      as_found : joining.all_found_of (found (result_of next n).tree) (result_of next n).entries ≡ true
      as_found = entries_entered

  both_are : LoweredRewritten limit tree t l
  both_are =
      record {
        n = n;
        end = k.end;
        next = next;
        read = k.read;
        is_tree = own_tree;
        formed = subst (λ (m : Node). WellFormed rewritten (depth m) m 1) (sym written_tree) tree_formed;
        decoded = subst (λ (m : Node). read_tree rewritten (length t) t ≡ got (placed m 0) (length t) 1) (sym written_tree) tree_decoded;
        spreads = subst (λ (m : Node). (q : List ℕ) (x : Node) → Stands [] m q x → keeps_spread x ≡ false) (sym written_tree) tree_spreads;
        left = all_caused;
        told = subst (λ (m : Node). leftover t ≡ rest_left (placed m 0)) (sym written_tree) tree_told;
        is_list_lem = own_list;
        listed = list_fits;
        tree_texts = subst (λ (m : Node). (bs : List ℕ) → TextIn m bs → Known n bs) (sym written_tree) tree_texts_lem;
        list_texts = list_texts_lem;
        keys = entries_keys;
        entered = entries_entered;
        apart = distinct_marks;
        accepted = tree_accepted;
        printed = tree_printed;
        joined = tree_joined;
      }

-- every lowering hands back a tree of the rewritten stage and a list by its layout
pub lowered_rewritten : (limit options : ℕ) (tree : List ℕ) (s : Lent) (helpers mask : ℕ) (t l : List ℕ) → Bytes tree
    → lowering limit options tree s ≡ lowered helpers mask t l → LoweredRewritten limit tree t l
lowered_rewritten limit options tree s helpers mask t l b e = both_are limit tree t l s b (lowers helpers mask t l limit options tree s e)

-- without causes in the input nothing at all is left, in tree and list
pub nothing_at_all : {limit : ℕ} {tree t l : List ℕ} (r : LoweredRewritten limit tree t l) → ((s : Cause) → Without s r.n) → (section : Section) (m : Node) → Of (result_of r.next r.n) section m
    → (q : List ℕ) (x : Node) → Stands [] m q x → keeps x ≡ false
nothing_at_all r h section m o q x s = by_test (keeps x) (λ k. absurd (uncaused (r.left section m o q x s k))) (λ k. k)
  where
    uncaused : Caused r.n section [] m q x → ⊥
    uncaused (Caused.caused a e u) = occurs_not u (h (cause_of e))

-- the same by the answer: 0 is given for a lowering alone
pub data Lowered (limit : ℕ) (tree : List ℕ) (r : Result) : Type 0 where
  is_lowered_lem : {helpers mask : ℕ} {t l : List ℕ} → r ≡ lowered helpers mask t l → LoweredRewritten limit tree t l → Lowered limit tree r

pub answers_0 : (limit options : ℕ) (tree : List ℕ) (s : Lent) → Bytes tree → (outcome limit options tree s).answer ≡ 0 → Lowered limit tree (lowering limit options tree s)
unfolding outcome outcome_of among
answers_0 limit options tree s b z = go (lowering limit options tree s) refl (in_table limit options tree s) z
  where
    go : (r : Result) → lowering limit options tree s ≡ r → InTable r → (outcome_of s r).answer ≡ 0 → Lowered limit tree (lowering limit options tree s)
    go (refusal n) e h y = absurd (true≢false (sym h ∙ ap is_refusal y))
    go (lowered helpers mask t l) e h y = Lowered.is_lowered_lem e (lowered_rewritten limit options tree s helpers mask t l b e)
