-- What is left in the entries of the list stands in the values of keys' temporaries, and the input has its cause.
-- Assumes nothing.
use mathlib.Core.Path.{◌≡◌, refl, sym}
use mathlib.Core.Bool.{true, cond, ◌&&◌, true≢false}
use mathlib.Core.List.{List, [], ◌∷◌}
use Prim.Native.Nat.{ℕ}
use native.Mathlib.Omega.{arith}
use Rattle.tree.specs.Tree.{Node, Items}
use Rattle.lowering.specs.Parts.{is, node_at_of, piece_in, any, is_empty, each}
use Rattle.lowering.specs.Made.{Context, temporary, declares, declared, reference}
use Rattle.lowering.specs.Visits.{ItemAt, NodeIn, FieldAt, PartAt, Stands}
use Rattle.lowering.specs.Patterns.{key, properties}
use Rattle.lowering.specs.Keys.{key_sort, key_temporary, key_temporaries}
use Rattle.lowering.specs.Keys.Key.{other}
use Rattle.lowering.specs.Assignments.{target, parts_of, outermost, top_entry, nested_entry}
use Rattle.lowering.specs.Walk.{rewrite}
use Rattle.lowering.specs.Weight.{walked}
use Rattle.lowering.specs.Collect.{Name, Visit, Entry, over, entry_at, entries, nodes, visits, numbered, numbered_items, with_number}
use Rattle.lowering.proofs.Cases.{by_test, by_key}
use Rattle.lowering.proofs.All.{AllItems, all_append, all_gather, all_each, all_unit}
use Rattle.lowering.proofs.Notes.{AllNotes, in_walked}
use Rattle.equal.specs.Canonical.{each_entry}
use Rattle.result.specs.Left.{keeps_rest, keeps_spread, keeps, any_of, Section, Exception, EntryHas}
use Rattle.result.specs.Causes.{Cause, is_other, holds_kept, shows, Occurs, Caused}
use Rattle.result.proofs.Standing.{held}
use Rattle.result.proofs.Occurring.{occurs_unless}
use Rattle.result.proofs.Keeping.{kept_before}
use Rattle.result.proofs.Weighed.{total}
use Rattle.result.proofs.Copies.{Measure}
use Rattle.result.proofs.Tallies.{of_entries}
use Rattle.result.proofs.KeyWeights.{no_mark, light_handed, light_keys}
use Rattle.result.proofs.ByRule.{by_lists}

-- a declarator whose id is a Temporary, and whose value, if it has one, is a key that goes out
data Named : Node → Type 0 where
  valued : {path : List ℕ} {stem at : ℕ} {v : Node} → key_sort v ≡ other → Named (declares (temporary path stem at) v)
  lone : {path : List ℕ} {stem at : ℕ} → Named (declared (temporary path stem at))

module _ (c : Context) where
  key_named : (q : Node) → AllItems Named (key_temporary c q)
  unfolding key_temporary
  key_named q =
      by_key (key_sort (key q)) (λ e. rw (e, key_temporary) tt) (λ e. rw (e, key_temporary) tt) (λ e. rw (e, key_temporary) tt) (λ e. rw (e, key_temporary) tt) (λ e. rw (e, key_temporary) tt)
      (λ e. rw (e, key_temporary) (Named.valued e, tt))

  keys_named : (p : Node) → AllItems Named (key_temporaries c p)
  unfolding key_temporaries
  keys_named p = all_gather (λ q. Unit {0}) Named (key_temporary c) (λ q u. key_named q) (properties p) (all_unit (properties p))

  references_named : (is : Items) → AllItems Named (each (λ p. declared (reference c p)) is)
  references_named is = all_each (λ q. Unit {0}) Named (λ p. declared (reference c p)) (λ p u. Named.lone) is (all_unit is)

  top_named : (n : Node) → AllItems Named (top_entry c n)
  unfolding top_entry
  top_named n =
      (Named.lone, all_append Named (each (λ p. declared (reference c p)) (parts_of (target n))) (key_temporaries c (target n)) (references_named (parts_of (target n))) (keys_named (target n)))

  nested_named : (n : Node) → AllItems Named (nested_entry c n)
  unfolding nested_entry
  nested_named n = references_named (outermost (target n))

  note_named : (n : Node) → AllItems Named (rewrite c n).note.entry
  note_named n =
      (by_lists c (AllItems Named) (λ xs. Unit {0})
      (record { entry_none = tt; excluded_none = tt; top_entry_lem = top_named; nested_entry_lem = nested_named; declaration_excluded = λ m. tt; top_excluded = λ m. tt }) n).0

-- ---- what such values weigh

-- 1 for a key that goes out with something left in it
abbrev kept_key : Node → ℕ
kept_key k = cond (holds_kept is_other k) 1 0

abbrev kept_value : Node → ℕ
kept_value d = kept_key (node_at_of 1 d)

shown : (p : Node) → shows Cause.in_key p ≡ keeps_rest p && any (λ q. holds_kept is_other (key q)) (properties p)
unfolding shows
shown p = refl

unfoldable measure : Measure no_mark kept_key
unfolding holds_kept key_sort keeps keeps_rest keeps_spread any_of nodes is node_at_of piece_in total
measure =
    record {
      new = refl;
      none_kin = refl;
      entry = kept_value;
      excluded = λ d. 0;
      excluded_item = λ k. 0;
      entry_bare = λ path stem at. refl;
      entry_key = λ path stem at k e. omega arith;
      excluded_array = λ path stem at ks. omega arith;
      item_string = λ s. refl;
      item_temporary = λ path stem at. refl;
      item_key = λ k. omega arith;
    }

-- ---- with numbers

module _ (ns : List Name) where
  -- the id is a Temporary with its number, which has no parts
  named_left : {d : Node} → Named d → {q : List ℕ} {x : Node} → Stands [] (numbered ns d) q x → keeps x ≡ true → Exception [] (numbered ns d) q x Section.entry × (holds_kept is_other (node_at_of 1 d) ≡ true)
  unfolding numbered with_number keeps keeps_rest keeps_spread is node_at_of piece_in holds_kept
  named_left (Named.valued e) Stands.here k = absurd (true≢false (sym k))
  named_left (Named.valued e) (Stands.onward (PartAt.part (FieldAt.first NodeIn.one)) Stands.here) k = absurd (true≢false (sym k))
  named_left (Named.valued e) (Stands.onward (PartAt.part (FieldAt.first NodeIn.one)) (Stands.onward (PartAt.part a) s)) k = absurd (true≢false (sym (held a)))
  named_left (Named.valued {v = v} e) (Stands.onward (PartAt.part (FieldAt.behind (FieldAt.first NodeIn.one))) s) k =
      (Exception.in_key refl (PartAt.part (FieldAt.behind (FieldAt.first NodeIn.one))) s, rw (e, kept_before ns v s k) refl)
  named_left Named.lone Stands.here k = absurd (true≢false (sym k))
  named_left Named.lone (Stands.onward (PartAt.part (FieldAt.first NodeIn.one)) Stands.here) k = absurd (true≢false (sym k))
  named_left Named.lone (Stands.onward (PartAt.part (FieldAt.first NodeIn.one)) (Stands.onward (PartAt.part a) s)) k = absurd (true≢false (sym (held a)))
  named_left Named.lone (Stands.onward (PartAt.part (FieldAt.behind a)) s) k = absurd (true≢false (sym (held a)))
  named_left (Named.valued e) (Stands.onward (PartAt.part (FieldAt.behind (FieldAt.behind a))) s) k = elim a [ ]

  items_left : (js : Items) → AllItems Named js → {j : ℕ} {d : Node} → ItemAt (numbered_items ns js) j d → {q : List ℕ} {x : Node} → Stands [] d q x → keeps x ≡ true
      → Exception [] d q x Section.entry × (total kept_value js ≡ 0 → ⊥)
  unfolding numbered total
  items_left (Items.hole js) h (ItemAt.behind_hole a) s k = items_left js h a s k
  items_left (Items.item n js) h ItemAt.first s k =
      let r = named_left h.0 s k in
      (r.0, λ z. let o : kept_value n ≡ 1 = rw r.1 refl in absurd (omega arith))
  items_left (Items.item n js) h (ItemAt.behind a) s k = let r = items_left js h.1 a s k in (r.0, λ z. r.1 (omega arith))
  items_left Items.none h a s k = elim a [ ]

  abbrev EntriesNamed : List Entry → Type 0
  EntriesNamed [] = Unit {0}
  EntriesNamed (e ∷ es) = AllItems Named e.declarators × EntriesNamed es

  numbered_left : (es : List Entry) → EntriesNamed es → {d : Node} → EntryHas (each_entry (λ is. numbered_items ns is) es) d → {q : List ℕ} {x : Node} → Stands [] d q x → keeps x ≡ true
      → Exception [] d q x Section.entry × (of_entries measure es ≡ 0 → ⊥)
  unfolding each_entry of_entries measure
  numbered_left (e ∷ es) h (EntryHas.here a) s k = let r = items_left e.declarators h.0 a s k in (r.0, λ z. r.1 (omega arith))
  numbered_left (e ∷ es) h (EntryHas.later i) s k = let r = numbered_left es h.1 i s k in (r.0, λ z. r.1 (omega arith))
  numbered_left [] h a s k = elim a [ ]

  entries_named : (vs : List Visit) → AllNotes (λ note. AllItems Named note.entry) vs → EntriesNamed (entries vs)
  unfolding entries over entry_at
  entries_named [] h = tt
  entries_named (v ∷ vs) h = by_test (is_empty v.note.entry) (λ e. rw e (entries_named vs h.1)) (λ e. rw e (h.0, entries_named vs h.1))

  pub entries_caused : (c : Context) (n : Node) (next : ℕ) {d : Node} → EntryHas (each_entry (λ is. numbered_items ns is) (entries (visits next 0 (walked c n)))) d
      → {q : List ℕ} {x : Node} → Stands [] d q x → keeps x ≡ true → Caused n Section.entry [] d q x
  entries_caused c n next {d = d} i {q = q} {x = x} s k =
      let es = entries (visits next 0 (walked c n)) in
      let named = entries_named (visits next 0 (walked c n)) (in_walked (λ note. AllItems Named note.entry) (λ n. tt) (λ d k. note_named d k) c n next 0) in
      let r = numbered_left es named i s k in
      go r.0 (occurs_unless Cause.in_key n (λ h. r.1 (light_handed measure n (light_keys is_other Cause.in_key shown n h) c next).0))
    where
      go : Exception [] d q x Section.entry → Occurs Cause.in_key n → Caused n Section.entry [] d q x
      go (Exception.in_key a b e) o = Caused.caused Stands.here (Exception.in_key a b e) o
