-- What is left in the excluded keys of the list stands in Templates, and the input has its cause.
-- Assumes nothing.
use mathlib.Core.Path.{◌≡◌, refl, sym, subst, ◌∙◌}
use mathlib.Core.Bool.{Bool, true, false, cond, not, ◌&&◌, true≢false}
use mathlib.Core.List.{List, [], ◌∷◌}
use Prim.Native.Nat.{ℕ}
use native.Mathlib.Omega.{arith}
use borrow.Author.Tests.{eqb-true}
use Rattle.tree.specs.Tree.{Node, Fields, Items}
use Rattle.tree.specs.Tree.Node.{node}
use Rattle.lowering.specs.Parts.{is, stands, items_at_of, node_at_of, piece_in, any, gather}
use Rattle.lowering.specs.Made.{Context, temporary, declares, array, string}
use Rattle.lowering.specs.Visits.{ItemAt, NodeIn, FieldAt, PartAt, Stands}
use Rattle.lowering.specs.Patterns.{key, properties}
use Rattle.lowering.specs.Keys.{key_sort, is_primitive, all_primitive, excluded_key, excluded_keys}
use Rattle.lowering.specs.Keys.Key.{template}
use Rattle.lowering.specs.Rests.{is_hoisted, has_no_properties, excluded_for}
use Rattle.lowering.specs.Declarations.{lowered_in, declaration_excludes}
use Rattle.lowering.specs.Assignments.{target, top_excludes}
use Rattle.lowering.specs.Walk.{rewrite}
use Rattle.lowering.specs.Weight.{walked}
use Rattle.lowering.specs.Collect.{Name, Visit, excluded_in, visits, numbered, numbered_items, with_number}
use Rattle.lowering.proofs.Cases.{by_test, by_key, and_right, not-true}
use Rattle.lowering.proofs.All.{AllItems, all_append, all_gather, all_unit, none_passes}
use Rattle.lowering.proofs.Notes.{AllNotes, in_walked}
use Rattle.result.specs.Left.{keeps_rest, keeps_spread, keeps, Section, Exception}
use Rattle.result.specs.Causes.{Cause, is_template, holds_kept, shows, Occurs, Caused}
use Rattle.result.proofs.Standing.{held}
use Rattle.result.proofs.Occurring.{occurs_unless}
use Rattle.result.proofs.Keeping.{kept_before}
use Rattle.result.proofs.Weighed.{total}
use Rattle.result.proofs.Copies.{Measure, XI}
use Rattle.result.proofs.Distinct.{template_is}
use Rattle.result.proofs.KeyWeights.{no_mark, light_handed, light_keys}
use Rattle.result.proofs.ByRule.{by_lists}

-- a string, or a Template
data Plain : Node → Type 0 where
  spelled : {form : List ℕ} → Plain (string form)
  templated : {at : ℕ} {fs : Fields} → key_sort (node at 23 fs) ≡ template → Plain (node at 23 fs)

-- a declarator of such keys
data Hoisted : Node → Type 0 where
  hoisted : {path : List ℕ} {stem at : ℕ} {ks : Items} → AllItems Plain ks → Hoisted (declares (temporary path stem at) (array ks))

template_plain : (k : Node) → is 23 k ≡ true → key_sort k ≡ template → Plain k
unfolding is
template_plain (node at k fs) e = subst (λ (j : ℕ). key_sort (node at j fs) ≡ template → Plain (node at j fs)) (sym (eqb-true k 23 e)) Plain.templated

module _ (c : Context) where
  key_plain : (q : Node) → is_primitive (key q) ≡ true → AllItems Plain (excluded_key c q)
  unfolding excluded_key is_primitive
  key_plain q h =
      by_key (key_sort (key q))
      (λ e. rw (e, excluded_key) (Plain.spelled, tt))
      (λ e. rw (e, excluded_key) (Plain.spelled, tt))
      (λ e. rw (e, excluded_key) (template_plain (key q) (template_is (key q) e).0 e, tt))
      (λ e. rw (e, excluded_key) tt)
      (λ e. absurd (true≢false (sym h ∙ rw (e, is_primitive) refl)))
      (λ e. absurd (true≢false (sym h ∙ rw (e, is_primitive) refl)))

  keys_plain : (p : Node) → all_primitive p ≡ true → AllItems Plain (excluded_keys c p)
  unfolding excluded_keys all_primitive
  keys_plain p h =
      all_gather (λ q. not (is_primitive (key q)) ≡ false) Plain (excluded_key c) (λ q e. key_plain q (is_true (is_primitive (key q)) e)) (properties p)
      (none_passes (λ q. not (is_primitive (key q))) (properties p) (not-true (any (λ q. not (is_primitive (key q))) (properties p)) h))
    where
      is_true : (b : Bool) → not b ≡ false → b ≡ true
      is_true true e = refl
      is_true false e = absurd (true≢false e)

  excluded_plain : (p : Node) → AllItems Hoisted (excluded_for c p)
  unfolding excluded_for is_hoisted
  excluded_plain p =
      by_test (is_hoisted c p)
      (λ e. rw e (Hoisted.hoisted (keys_plain p (and_right (not (has_no_properties p)) (all_primitive p) (and_right (not c.root) (not (has_no_properties p) && all_primitive p) e))), tt))
      (λ e. rw e tt)

  declaration_plain : (n : Node) → AllItems Hoisted (declaration_excludes c n)
  unfolding declaration_excludes
  declaration_plain n =
      all_gather (λ d. Unit {0}) Hoisted (λ d. gather (excluded_for c) (lowered_in c d))
      (λ d u. all_gather (λ p. Unit {0}) Hoisted (excluded_for c) (λ p v. excluded_plain p) (lowered_in c d) (all_unit (lowered_in c d))) (items_at_of 2 n) (all_unit (items_at_of 2 n))

  top_plain : (n : Node) → AllItems Hoisted (top_excludes c n)
  unfolding top_excludes
  top_plain n = excluded_plain (target n)

  note_plain : (n : Node) → AllItems Hoisted (rewrite c n).note.excluded
  note_plain n =
      (by_lists c (λ xs. Unit {0}) (AllItems Hoisted)
      (record { entry_none = tt; excluded_none = tt; top_entry_lem = λ m. tt; nested_entry_lem = λ m. tt; declaration_excluded = declaration_plain; top_excluded = top_plain }) n).1

-- ---- what such keys weigh

-- 1 for a Template of one quasi with something left in it
abbrev kept_key : Node → ℕ
kept_key k = cond (holds_kept is_template k) 1 0

abbrev kept_keys : Node → ℕ
kept_keys d = total kept_key (items_at_of 0 (node_at_of 1 d))

shown : (p : Node) → shows Cause.in_template p ≡ keeps_rest p && any (λ q. holds_kept is_template (key q)) (properties p)
unfolding shows
shown p = refl

unfoldable measure : Measure no_mark kept_key
unfolding holds_kept key_sort is stands items_at_of node_at_of piece_in total
measure =
    record {
      new = refl;
      none_kin = refl;
      entry = λ d. 0;
      excluded = kept_keys;
      excluded_item = kept_key;
      entry_bare = λ path stem at. refl;
      entry_key = λ path stem at k e. omega arith;
      excluded_array = λ path stem at ks. omega arith;
      item_string = λ s. refl;
      item_temporary = λ path stem at. refl;
      item_key = λ k. omega arith;
    }

-- ---- with numbers

module _ (ns : List Name) where
  -- a key: it is a Template, or nothing is left in it
  key_left : {k : Node} → Plain k → {p q : List ℕ} {x : Node} → Stands p (numbered ns k) q x → keeps x ≡ true → (is 23 (numbered ns k) ≡ true) × (holds_kept is_template k ≡ true)
  unfolding numbered keeps keeps_rest keeps_spread is holds_kept
  key_left Plain.spelled Stands.here k = absurd (true≢false (sym k))
  key_left Plain.spelled (Stands.onward (PartAt.part a) s) k = absurd (true≢false (sym (held a)))
  key_left (Plain.templated {at = at} {fs = fs} e) s k = (refl, rw (e, kept_before ns (node at 23 fs) s k) refl)

  keys_left : (ks : Items) → AllItems Plain ks → {j : ℕ} {z : Node} → ItemAt (numbered_items ns ks) j z → {p q : List ℕ} {x : Node} → Stands p z q x → keeps x ≡ true
      → (is 23 z ≡ true) × (total kept_key ks ≡ 0 → ⊥)
  unfolding numbered total
  keys_left (Items.hole ks) h (ItemAt.behind_hole a) s k = keys_left ks h a s k
  keys_left (Items.item n ks) h ItemAt.first s k =
      let r = key_left h.0 s k in
      (r.0, λ z. let o : kept_key n ≡ 1 = rw r.1 refl in absurd (omega arith))
  keys_left (Items.item n ks) h (ItemAt.behind a) s k = let r = keys_left ks h.1 a s k in (r.0, λ z. r.1 (omega arith))
  keys_left Items.none h a s k = elim a [ ]

  hoisted_left : {d : Node} → Hoisted d → {q : List ℕ} {x : Node} → Stands [] (numbered ns d) q x → keeps x ≡ true → Exception [] (numbered ns d) q x Section.excluded × (kept_keys d ≡ 0 → ⊥)
  unfolding numbered with_number keeps keeps_rest keeps_spread is items_at_of node_at_of piece_in
  hoisted_left (Hoisted.hoisted h) Stands.here k = absurd (true≢false (sym k))
  hoisted_left (Hoisted.hoisted h) (Stands.onward (PartAt.part (FieldAt.first NodeIn.one)) Stands.here) k = absurd (true≢false (sym k))
  hoisted_left (Hoisted.hoisted h) (Stands.onward (PartAt.part (FieldAt.first NodeIn.one)) (Stands.onward (PartAt.part a) s)) k = absurd (true≢false (sym (held a)))
  hoisted_left (Hoisted.hoisted h) (Stands.onward (PartAt.part (FieldAt.behind (FieldAt.first NodeIn.one))) Stands.here) k = absurd (true≢false (sym k))
  hoisted_left (Hoisted.hoisted {ks = ks} h) (Stands.onward (PartAt.part (FieldAt.behind (FieldAt.first NodeIn.one))) (Stands.onward (PartAt.part (FieldAt.first (NodeIn.list a))) s)) k =
      let r = keys_left ks h a s k in
      (Exception.in_template refl (PartAt.part (FieldAt.behind (FieldAt.first NodeIn.one))) (PartAt.part (FieldAt.first (NodeIn.list a))) r.0 s, r.1)
  hoisted_left (Hoisted.hoisted h) (Stands.onward (PartAt.part (FieldAt.behind (FieldAt.first NodeIn.one))) (Stands.onward (PartAt.part (FieldAt.behind a)) s)) k = elim a [ ]
  hoisted_left (Hoisted.hoisted h) (Stands.onward (PartAt.part (FieldAt.behind (FieldAt.behind a))) s) k = elim a [ ]

  items_left : (js : Items) → AllItems Hoisted js → {j : ℕ} {d : Node} → ItemAt (numbered_items ns js) j d → {q : List ℕ} {x : Node} → Stands [] d q x → keeps x ≡ true
      → Exception [] d q x Section.excluded × (XI measure js ≡ 0 → ⊥)
  unfolding numbered total measure
  items_left (Items.hole js) h (ItemAt.behind_hole a) s k = items_left js h a s k
  items_left (Items.item n js) h ItemAt.first s k = let r = hoisted_left h.0 s k in (r.0, λ z. r.1 (omega arith))
  items_left (Items.item n js) h (ItemAt.behind a) s k = let r = items_left js h.1 a s k in (r.0, λ z. r.1 (omega arith))
  items_left Items.none h a s k = elim a [ ]

  all_hoisted : (vs : List Visit) → AllNotes (λ note. AllItems Hoisted note.excluded) vs → AllItems Hoisted (excluded_in vs)
  unfolding excluded_in
  all_hoisted [] h = tt
  all_hoisted (v ∷ vs) h = all_append Hoisted v.note.excluded (excluded_in vs) h.0 (all_hoisted vs h.1)

  pub excluded_caused : (c : Context) (n : Node) (next : ℕ) {j : ℕ} {d : Node} → ItemAt (numbered_items ns (excluded_in (visits next 0 (walked c n)))) j d
      → {q : List ℕ} {x : Node} → Stands [] d q x → keeps x ≡ true → Caused n Section.excluded [] d q x
  excluded_caused c n next {d = d} a {q = q} {x = x} s k =
      let hoisted = all_hoisted (visits next 0 (walked c n)) (in_walked (λ note. AllItems Hoisted note.excluded) (λ n. tt) (λ d k. note_plain d k) c n next 0) in
      let r = items_left (excluded_in (visits next 0 (walked c n))) hoisted a s k in
      go r.0 (occurs_unless Cause.in_template n (λ h. r.1 (light_handed measure n (light_keys is_template Cause.in_template shown n h) c next).1))
    where
      go : Exception [] d q x Section.excluded → Occurs Cause.in_template n → Caused n Section.excluded [] d q x
      go (Exception.in_template a b e f g) o = Caused.caused Stands.here (Exception.in_template a b e f g) o
