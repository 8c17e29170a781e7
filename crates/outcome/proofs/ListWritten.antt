-- The list of named events is that of the entries and excluded keys of the visits.
-- Assumes nothing.
use mathlib.Core.Path.{◌≡◌, refl, sym, ap, ap₂, ◌∙◌, subst}
use mathlib.Core.Bool.{Bool, true, false, cond}
use mathlib.Core.List.{List, [], ◌∷◌, ◌++◌, append_assoc, append-nil}
use Prim.Native.Nat.{ℕ, zero, suc, ◌+◌, ◌/◌, ◌%◌, ◌≤◌, ◌<◌}
use native.Mathlib.Omega.{arith}
use lib.Dec.{eqb}
use lib.ListN.{length, length-append}
use Rattle.tree.specs.Tree.{Node, Items, wide_bytes, count, encode}
use Rattle.tree.specs.Tree.Node.{node}
use Rattle.lowering.specs.Parts.{node_at_of, number_at, stands, is_empty, ◌+++◌}
use Rattle.lowering.specs.Made.{id_of}
use Rattle.lowering.specs.Walk.{Walked, WalkedFields, WalkedPiece, WalkedItems}
use Rattle.lowering.specs.Walk.Walked.{noted}
use Rattle.lowering.specs.Collect.{Name, name_of, Visit, Entry, over, entry_at, entries, excluded_in, number_in, same, declarator_bytes, entry_bytes, list_bytes, new_in, new_in_fields, new_in_piece, new_in_items, is_container, marked, mark_of, mark_in, visits, visits_fields, visits_piece, visits_items}
use Rattle.lowering.proofs.Notes.{AllNotes}
use Rattle.lowering.proofs.Cases.{by_test}
use Rattle.sink.specs.Machine.{low, high}
use Rattle.sink.specs.Shown.{Named, Token, list_of, keys_of, list_tokens, keys_tokens, entry_in_of, declarator_in, entries_in, declarators_in}
use Rattle.sink.specs.Shown.Token.{plain, temp}
use Rattle.sink.proofs.Names.{size, size_append}
use Rattle.sink.proofs.Events.{high_small}
use Rattle.direct.specs.Events.{cell_of, stem_of}
use Rattle.outcome.specs.Named
use Rattle.outcome.specs.Named.{Act, lists, excludes, handed, entered, excluded_keys, hands_out, plains, tokens, tokens_items}
use Rattle.outcome.proofs.MarksKept.{Walks, WalksFields, WalksPiece, WalksItems}
use Rattle.outcome.proofs.Listed.{list_append, keys_append, entries_append, declarators_append, hands}
use Rattle.outcome.proofs.HandedDeclarators.{Hands, Declares, Valued, Full, handed_listed, excluded_listed, excluded_counted}
use Rattle.outcome.proofs.Numbers.{bytes, bytes_append, bytes_plains, encode_items_lem}
use Rattle.lowering.proofs.ItemLaws.{count_append, over_append}

-- ---- the parts of a note that say nothing of a list

-- what a row says of lists
pub record Says (es : List Act) (ts us : List (Token Name)) (e d : ℕ) : Type 0 where
  pub list : list_tokens es ≡ ts
  pub keys : keys_tokens es ≡ us
  pub entries : entries_in es ≡ e
  pub declarators : declarators_in es ≡ d

both_say : (es fs : List Act) (ts us ts' us' : List (Token Name)) (e d e' d' : ℕ) → Says es ts us e d → Says fs ts' us' e' d' → Says (es ++ fs) (ts ++ ts') (us ++ us') (e + e') (d + d')
both_say es fs ts us ts' us' e d e' d' h k =
    record {
      list = list_append es fs ∙ ap₂ (λ (x : List (Token Name)) (y : List (Token Name)). x ++ y) h.list k.list;
      keys = keys_append es fs ∙ ap₂ (λ (x : List (Token Name)) (y : List (Token Name)). x ++ y) h.keys k.keys;
      entries = entries_append es fs ∙ ap₂ (λ (x : ℕ) (y : ℕ). x + y) h.entries k.entries;
      declarators = declarators_append es fs ∙ ap₂ (λ (x : ℕ) (y : ℕ). x + y) h.declarators k.declarators;
    }

-- the entry as the machine writes it
abbrev pub machine_entry : Entry → List (Token Name)
machine_entry e =
    plain (low e.containing) ∷ plain (high e.containing) ∷ plain (low (count e.declarators)) ∷ plain (high (count e.declarators)) ∷ tokens_items e.declarators

lists_keys : (bs : List ℕ) → keys_tokens (lists bs) ≡ []
unfolding lists keys_tokens keys_of
lists_keys [] = refl
lists_keys (b ∷ bs) = lists_keys bs

lists_count : (bs : List ℕ) → (entries_in (lists bs) ≡ 0) × (declarators_in (lists bs) ≡ 0)
unfolding lists entries_in declarators_in entry_in_of declarator_in
lists_count [] = (refl, refl)
lists_count (b ∷ bs) = let h = lists_count bs in let u = h.0 in let v = h.1 in (omega arith, omega arith)

excludes_list : (bs : List ℕ) → (list_tokens (excludes bs) ≡ []) × (entries_in (excludes bs) ≡ 0)
unfolding excludes list_tokens list_of entries_in entry_in_of
excludes_list [] = (refl, refl)
excludes_list (b ∷ bs) = let h = excludes_list bs in let v = h.1 in (h.0, omega arith)

record Quiet (es : List Act) : Type 0 where
  keys : keys_tokens es ≡ []
  entries : entries_in es ≡ 0
  declarators : declarators_in es ≡ 0

quiet_both : (es fs : List Act) → Quiet es → Quiet fs → Quiet (es ++ fs)
quiet_both es fs h k =
    record {
      keys = keys_append es fs ∙ ap₂ (λ (x : List (Token Name)) (y : List (Token Name)). x ++ y) h.keys k.keys;
      entries = entries_append es fs ∙ ap₂ (λ (x : ℕ) (y : ℕ). x + y) h.entries k.entries;
      declarators = declarators_append es fs ∙ ap₂ (λ (x : ℕ) (y : ℕ). x + y) h.declarators k.declarators;
    }

quiet_none : Quiet []
unfolding keys_tokens entries_in declarators_in
quiet_none = record { keys = refl; entries = refl; declarators = refl }

lists_quiet : (bs : List ℕ) → Quiet (lists bs)
lists_quiet bs = record { keys = lists_keys bs; entries = (lists_count bs).0; declarators = (lists_count bs).1 }

temporary_quiet : (c stem : ℕ) (a : Name) (es : List Act) → Quiet es → Quiet (Named.listed_temporary c stem a ∷ es)
unfolding keys_tokens keys_of entries_in declarators_in entry_in_of declarator_in
temporary_quiet c stem a es h = record { keys = h.keys; entries = (let z = h.entries in omega arith); declarators = (let z = h.declarators in omega arith) }

either_quiet : (b : Bool) (es : List Act) → Quiet es → Quiet (cond b es [])
either_quiet true es h = h
either_quiet false es h = quiet_none

handed_quiet : (ds : Items) → Quiet (handed ds)
unfolding handed
handed_quiet Items.none = quiet_none
handed_quiet (Items.hole ds) = handed_quiet ds
handed_quiet (Items.item d ds) =
    let head : List ℕ = 5 ∷ cond (stands 1 d) 3 1 ∷ [] in
    let more = cond (stands 1 d) (lists (encode (node_at_of 1 d))) [] in
    let t = Named.listed_temporary (cell_of (id_of d)) (stem_of (id_of d)) (name_of (id_of d)) in
    quiet_both (lists head ++ (t ∷ more)) (handed ds)
    (quiet_both (lists head) (t ∷ more) (lists_quiet head) (temporary_quiet (cell_of (id_of d)) (stem_of (id_of d)) (name_of (id_of d)) more (either_quiet (stands 1 d) (lists (encode (node_at_of 1 d))) (lists_quiet (encode (node_at_of 1 d))))))
    (handed_quiet ds)

excluded_silent : (ds : Items) → (list_tokens (excluded_keys ds) ≡ []) × (entries_in (excluded_keys ds) ≡ 0)
unfolding excluded_keys list_tokens list_of entries_in entry_in_of
excluded_silent Items.none = (refl, refl)
excluded_silent (Items.hole ds) = excluded_silent ds
excluded_silent (Items.item d ds) =
    let v = excludes (encode (node_at_of 1 d)) in
    let h = excludes_list (encode (node_at_of 1 d)) in
    let k = excluded_silent ds in
    let a = entries_append v (excluded_keys ds) in
    let u = h.1 in
    let w = k.1 in
    (list_append v (excluded_keys ds) ∙ ap₂ (λ (x : List (Token Name)) (y : List (Token Name)). x ++ y) h.0 k.0, omega arith)

made_says : (ts : Items) → Says (Named.made ts) [] [] 0 0
unfolding Named.made list_tokens keys_tokens entries_in declarators_in list_of keys_of entry_in_of declarator_in
made_says Items.none = record { list = refl; keys = refl; entries = refl; declarators = refl }
made_says (Items.hole ts) = made_says ts
made_says (Items.item t ts) =
    let h = made_says ts in
    by_test (eqb (number_at 0 t) 2)
    (λ e. rw e h)
    (λ e. rw e (record { list = h.list; keys = h.keys; entries = (let z = h.entries in omega arith); declarators = (let z = h.declarators in omega arith) }))

-- ---- notes

abbrev one_entry_of : ℕ → Items → List Entry
one_entry_of m ds = record { containing = m; declarators = ds } ∷ []

entry_says : (m : ℕ) (ds : Items) → Full Declares ds
    → Says (Named.entry m (count ds) ∷ handed ds) (over machine_entry (one_entry_of m ds)) [] (length (one_entry_of m ds)) 0
unfolding over list_tokens list_of keys_tokens keys_of entries_in entry_in_of declarators_in declarator_in
entry_says m ds f =
    let q = handed_quiet ds in
    record {
      list = ap (λ (x : List (Token Name)). plain (low m) ∷ plain (high m) ∷ plain (low (count ds)) ∷ plain (high (count ds)) ∷ x) (handed_listed ds f)
          ∙ sym (append-nil (machine_entry (record { containing = m; declarators = ds })));
      keys = q.keys;
      entries = (let z = q.entries in omega arith);
      declarators = (let z = q.declarators in omega arith);
    }

entered_says : (v : Visit) → Full Declares v.note.entry
    → Says (cond (is_empty v.note.entry) (Named.made v.note.made) [] ++ entered v.containing v.note.entry) (over machine_entry (entry_at v)) [] (length (entry_at v)) 0
unfolding entered entry_at over
entered_says v f =
    let ds = v.note.entry in
    by_test (is_empty ds)
    (λ e. rw e
    (let h = made_says v.note.made in
    let a = append-nil (Named.made v.note.made) in
    subst (λ (x : List Act). Says x [] [] 0 0) (sym a) h))
    (λ e. rw e (entry_says v.containing ds f))

excluded_says : (ds : Items) → Full Valued ds → Says (excluded_keys ds) [] (tokens_items ds) 0 (count ds)
excluded_says ds f =
    record { list = (excluded_silent ds).0; keys = excluded_listed ds f; entries = (excluded_silent ds).1; declarators = excluded_counted ds f }

hands_say : (v : Visit) → Hands v.note → Says (hands v) (over machine_entry (entry_at v)) (tokens_items v.note.excluded) (length (entry_at v)) (count v.note.excluded)
unfolding hands_out
hands_say v h =
    let es = cond (is_empty v.note.entry) (Named.made v.note.made) [] ++ entered v.containing v.note.entry in
    let b = both_say es (excluded_keys v.note.excluded) (over machine_entry (entry_at v)) [] [] (tokens_items v.note.excluded) (length (entry_at v)) 0 0 (count v.note.excluded)
    (entered_says v h.entry) (excluded_says v.note.excluded h.excluded) in
    record { list = b.list ∙ append-nil (over machine_entry (entry_at v)); keys = b.keys; entries = (let z = b.entries in omega arith); declarators = (let z = b.declarators in omega arith) }

tokens_append : (is js : Items) → tokens_items (is +++ js) ≡ tokens_items is ++ tokens_items js
unfolding tokens ◌+++◌
tokens_append Items.none js = refl
tokens_append (Items.hole is) js = ap (λ (x : List (Token Name)). plain 0 ∷ x) (tokens_append is js)
tokens_append (Items.item n is) js = ap (λ (x : List (Token Name)). tokens n ++ x) (tokens_append is js) ∙ sym (append_assoc (tokens n) (tokens_items is) (tokens_items js))

entries_split : (v : Visit) (vs : List Visit) → entries (v ∷ vs) ≡ entry_at v ++ entries vs
unfolding entries over
entries_split v vs = refl

over_hands : (v : Visit) (vs : List Visit) → over hands (v ∷ vs) ≡ hands v ++ over hands vs
unfolding over
over_hands v vs = refl

nothing_says : Says (over hands []) (over machine_entry (entries [])) (tokens_items Items.none) (length (entries [])) (count Items.none)
unfolding over entries tokens count list_tokens keys_tokens entries_in declarators_in
nothing_says = record { list = refl; keys = refl; entries = refl; declarators = refl }

pub visits_say : (vs : List Visit) → AllNotes Hands vs → Says (over hands vs) (over machine_entry (entries vs)) (tokens_items (excluded_in vs)) (length (entries vs)) (count (excluded_in vs))
unfolding excluded_in
visits_say [] h = nothing_says
visits_say (v ∷ vs) h =
    let r = visits_say vs h.1 in
    let b = both_say (hands v) (over hands vs) (over machine_entry (entry_at v)) (tokens_items v.note.excluded) (over machine_entry (entries vs)) (tokens_items (excluded_in vs))
    (length (entry_at v)) (count v.note.excluded) (length (entries vs)) (count (excluded_in vs)) (hands_say v h.0) r in
    let l = length-append (entry_at v) (entries vs) in
    let c = count_append v.note.excluded (excluded_in vs) in
    record {
      list = ap list_tokens (over_hands v vs) ∙ b.list ∙ sym (over_append machine_entry (entry_at v) (entries vs)) ∙ ap (over machine_entry) (sym (entries_split v vs));
      keys = ap keys_tokens (over_hands v vs) ∙ b.keys ∙ sym (tokens_append v.note.excluded (excluded_in vs));
      entries = ap entries_in (over_hands v vs) ∙ b.entries ∙ sym l ∙ ap length (sym (entries_split v vs));
      declarators = ap declarators_in (over_hands v vs) ∙ b.declarators ∙ sym c;
    }

-- ---- sizes

pub size_plains : (bs : List ℕ) → size (plains bs) ≡ length bs
unfolding plains
size_plains [] = refl
size_plains (b ∷ bs) = let h = size_plains bs in omega arith

tokens_size : (n : Node) → 1 ≤ size (tokens n)
unfolding tokens
tokens_size (node at k fs) = by_test (eqb k 20) (λ e. rw e (omega arith)) (λ e. rw e (omega arith))

count_size : (is : Items) → count is ≤ size (tokens_items is)
unfolding count tokens
count_size Items.none = omega arith
count_size (Items.hole is) = let h = count_size is in omega arith
count_size (Items.item n is) =
    let h = count_size is in let k = tokens_size n in let s = size_append (tokens n) (tokens_items is) in omega arith

-- what each entry of a list has
abbrev pub Entries : (Entry → Type 0) → List Entry → Type 0
Entries P [] = Unit {0}
Entries P (e ∷ es) = P e × Entries P es

entries_append_all : (P : Entry → Type 0) (es fs : List Entry) → Entries P es → Entries P fs → Entries P (es ++ fs)
entries_append_all P [] fs h k = k
entries_append_all P (e ∷ es) fs h k = (h.0, entries_append_all P es fs h.1 k)

pub counts_small : (b : ℕ) (es : List Entry) → size (over machine_entry es) ≤ b → Entries (λ e. count e.declarators ≤ b) es
unfolding over
counts_small b [] h = tt
counts_small b (e ∷ es) h =
    let s = size_append (machine_entry e) (over machine_entry es) in
    let c = count_size e.declarators in
    (omega arith, counts_small b es (omega arith))

-- ---- bytes

entry_tokens : Entry → List (Token Name)
entry_tokens e = plains (wide_bytes e.containing) ++ (plains (wide_bytes (count e.declarators)) ++ tokens_items e.declarators)

abbrev Small : Entry → Type 0
Small e = (e.containing < 65536) × (count e.declarators < 65536)

machine_entry_lem : (e : Entry) → Small e → machine_entry e ≡ entry_tokens e
unfolding entry_tokens plains low
machine_entry_lem e h =
    let a = high_small e.containing h.0 in
    let b = high_small (count e.declarators) h.1 in
    ap₂ (λ (x : ℕ) (y : ℕ). plain (e.containing % 256) ∷ plain x ∷ plain (count e.declarators % 256) ∷ plain y ∷ tokens_items e.declarators) a b

machine_entries : (es : List Entry) → Entries Small es → over machine_entry es ≡ over entry_tokens es
unfolding over
machine_entries [] h = refl
machine_entries (e ∷ es) h = ap₂ (λ (x : List (Token Name)) (y : List (Token Name)). x ++ y) (machine_entry_lem e h.0) (machine_entries es h.1)

module _ (ns : List Name) where
  abbrev number_of : Name → ℕ
  number_of a = number_in same 1 ns a

  declarator_bytes_lem : (is : Items) → declarator_bytes ns is ≡ bytes number_of (plains (wide_bytes (count is)) ++ tokens_items is)
  unfolding declarator_bytes
  declarator_bytes_lem is =
      ap (λ (x : List ℕ). wide_bytes (count is) ++ x) (encode_items_lem ns is)
      ∙ ap (λ (x : List ℕ). x ++ bytes number_of (tokens_items is)) (sym (bytes_plains number_of (wide_bytes (count is))))
      ∙ sym (bytes_append number_of (plains (wide_bytes (count is))) (tokens_items is))

  entry_bytes_lem : (e : Entry) → entry_bytes ns e ≡ bytes number_of (entry_tokens e)
  unfolding entry_bytes entry_tokens
  entry_bytes_lem e =
      let rest = plains (wide_bytes (count e.declarators)) ++ tokens_items e.declarators in
      ap₂ (λ (x : List ℕ) (y : List ℕ). x ++ y) (sym (bytes_plains number_of (wide_bytes e.containing))) (declarator_bytes_lem e.declarators)
      ∙ sym (bytes_append number_of (plains (wide_bytes e.containing)) rest)

  entries_bytes : (es : List Entry) → over (entry_bytes ns) es ≡ bytes number_of (over entry_tokens es)
  unfolding over bytes
  entries_bytes [] = refl
  entries_bytes (e ∷ es) =
      ap₂ (λ (x : List ℕ) (y : List ℕ). x ++ y) (entry_bytes_lem e) (entries_bytes es) ∙ sym (bytes_append number_of (entry_tokens e) (over entry_tokens es))

  -- the list, if marks and counts are 16-bit numbers
  pub list_bytes_lem : (es : List Entry) (ex : Items) → Entries Small es
      → (wide_bytes (length es) ++ bytes number_of (over machine_entry es)) ++ (wide_bytes (count ex) ++ bytes number_of (tokens_items ex)) ≡ list_bytes ns es ex
  unfolding list_bytes declarator_bytes
  list_bytes_lem es ex h =
      ap₂ (λ (x : List ℕ) (y : List ℕ). (wide_bytes (length es) ++ x) ++ (wide_bytes (count ex) ++ y))
      (ap (bytes number_of) (machine_entries es h) ∙ sym (entries_bytes es)) (sym (encode_items_lem ns ex))

  length_bytes : (ts : List (Token Name)) → length (bytes number_of ts) ≡ size ts
  unfolding bytes
  length_bytes [] = refl
  length_bytes (plain b ∷ ts) = let h = length_bytes ts in omega arith
  length_bytes (temp a stem ∷ ts) = let h = length_bytes ts in omega arith

  same_size : (es : List Entry) → size (over entry_tokens es) ≡ size (over machine_entry es)
  unfolding over entry_tokens plains
  same_size [] = refl
  same_size (e ∷ es) =
      let a = size_append (plain (e.containing % 256) ∷ plain (e.containing / 256) ∷ plain (count e.declarators % 256) ∷ plain (count e.declarators / 256) ∷ tokens_items e.declarators) (over entry_tokens es) in
      let b = size_append (machine_entry e) (over machine_entry es) in
      let h = same_size es in
      omega arith

  -- its length, whatever the marks and counts
  pub list_length : (es : List Entry) (ex : Items) → length (list_bytes ns es ex) ≡ 4 + (size (over machine_entry es) + size (tokens_items ex))
  unfolding list_bytes
  list_length es ex =
      let a = length-append (wide_bytes (length es) ++ over (entry_bytes ns) es) (declarator_bytes ns ex) in
      let b = length-append (wide_bytes (length es)) (over (entry_bytes ns) es) in
      let c = ap length (entries_bytes es) in
      let d = length_bytes (over entry_tokens es) in
      let e = same_size es in
      let f = ap length (declarator_bytes_lem ex) in
      let g = length_bytes (plains (wide_bytes (count ex)) ++ tokens_items ex) in
      let i = size_append (plains (wide_bytes (count ex))) (tokens_items ex) in
      let j = size_plains (wide_bytes (count ex)) in
      omega arith

-- ---- marks of containing statements

abbrev pub Marks : List Visit → Type 0
Marks [] = Unit {0}
Marks (v ∷ vs) = (v.containing < 65536) × Marks vs

marks_both : (us vs : List Visit) → Marks us → Marks vs → Marks (us ++ vs)
marks_both [] vs h k = k
marks_both (u ∷ us) vs h k = (h.0, marks_both us vs h.1 k)

mark_small : (fs : WalkedFields) → WalksFields (λ (b : ℕ). b < 65536) fs → mark_in fs < 65536
unfolding mark_in
mark_small WalkedFields.done f = omega arith
mark_small (WalkedFields.absent fs) f = omega arith
mark_small (WalkedFields.field (WalkedPiece.one w) fs) f = omega arith
mark_small (WalkedFields.field (WalkedPiece.list is) fs) f = omega arith
mark_small (WalkedFields.field (WalkedPiece.text bs) fs) f = omega arith
mark_small (WalkedFields.field (WalkedPiece.byte b) fs) f = omega arith
mark_small (WalkedFields.field (WalkedPiece.mark b) fs) f = f.0
mark_small (WalkedFields.field (WalkedPiece.number b) fs) f = omega arith

of_small : (w : Walked) → Walks (λ (b : ℕ). b < 65536) w → mark_of w < 65536
of_small (noted note at k fs) f = mark_small fs f

marked_small : (next m : ℕ) → next < 65536 → m < 65536 → marked next m < 65536
marked_small next zero h k = h
marked_small next (suc m) h k = k

either_small : (l : Bool) (a b : ℕ) → a < 65536 → b < 65536 → cond l a b < 65536
either_small true a b h k = h
either_small false a b h k = k

mutual
  unfolding visits new_in

  pub visits_marks : (w : Walked) → Walks (λ (b : ℕ). b < 65536) w → (next m : ℕ) → m < 65536 → next + new_in w ≤ 65535 → Marks (visits next m w)
  visits_marks (noted note at k fs) f next m h b = (h, fields_marks fs f (is_container k) next m h b)

  fields_marks : (fs : WalkedFields) → WalksFields (λ (b : ℕ). b < 65536) fs → (l : Bool) (next m : ℕ) → m < 65536 → next + new_in_fields fs ≤ 65535 → Marks (visits_fields l next m fs)
  fields_marks WalkedFields.done f l next m h b = tt
  fields_marks (WalkedFields.absent fs) f l next m h b = fields_marks fs f l next m h b
  fields_marks (WalkedFields.field p fs) f l next m h b =
      marks_both (visits_piece l next m p) (visits_fields l (next + new_in_piece p) m fs) (piece_marks p f.0 l next m h (omega arith)) (fields_marks fs f.1 l (next + new_in_piece p) m h (omega arith))

  piece_marks : (p : WalkedPiece) → WalksPiece (λ (b : ℕ). b < 65536) p → (l : Bool) (next m : ℕ) → m < 65536 → next + new_in_piece p ≤ 65535 → Marks (visits_piece l next m p)
  piece_marks (WalkedPiece.one w) f l next m h b = visits_marks w f next m h b
  piece_marks (WalkedPiece.list is) f l next m h b = items_marks is f l next m h b
  piece_marks (WalkedPiece.text bs) f l next m h b = tt
  piece_marks (WalkedPiece.byte v) f l next m h b = tt
  piece_marks (WalkedPiece.mark v) f l next m h b = tt
  piece_marks (WalkedPiece.number v) f l next m h b = tt

  items_marks : (is : WalkedItems) → WalksItems (λ (b : ℕ). b < 65536) is → (l : Bool) (next m : ℕ) → m < 65536 → next + new_in_items is ≤ 65535 → Marks (visits_items l next m is)
  items_marks WalkedItems.none f l next m h b = tt
  items_marks (WalkedItems.hole is) f l next m h b = items_marks is f l next m h b
  items_marks (WalkedItems.item w is) f l next m h b =
      let c = cond l (marked next (mark_of w)) m in
      marks_both (visits next c w) (visits_items l (next + new_in w) m is)
      (visits_marks w f.0 next c (either_small l (marked next (mark_of w)) m (marked_small next (mark_of w) (omega arith) (of_small w f.0)) h) (omega arith))
      (items_marks is f.1 l (next + new_in w) m h (omega arith))

entry_mark : (v : Visit) → v.containing < 65536 → Entries (λ e. e.containing < 65536) (entry_at v)
unfolding entry_at
entry_mark v h = by_test (is_empty v.note.entry) (λ e. rw (e, Entries) tt) (λ e. rw (e, Entries) (h, tt))

pub entries_marks : (vs : List Visit) → Marks vs → Entries (λ e. e.containing < 65536) (entries vs)
unfolding entries over
entries_marks [] h = tt
entries_marks (v ∷ vs) h = entries_append_all (λ e. e.containing < 65536) (entry_at v) (entries vs) (entry_mark v h.0) (entries_marks vs h.1)

pub entries_small : (b : ℕ) (es : List Entry) → b < 65536 → Entries (λ e. e.containing < 65536) es → Entries (λ e. count e.declarators ≤ b) es → Entries Small es
entries_small b [] l h k = tt
entries_small b (e ∷ es) l h k = (let m = k.0 in (h.0, omega arith), entries_small b es l h.1 k.1)
