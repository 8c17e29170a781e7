-- The temporaries that are made where a rewriting hands something out are those of its note, each once.
-- Assumes nothing.
use mathlib.Core.Path.{◌≡◌, refl, sym, ap, ap₂, ◌∙◌, subst}
use mathlib.Core.Bool.{Bool, true, false, cond, ◌&&◌, false≢true}
use mathlib.Core.List.{List, [], ◌∷◌, ◌++◌}
use Prim.Native.Nat.{ℕ, ◌+◌, ◌≤◌, ◌<◌}
use native.Mathlib.Omega.{arith}
use lib.Dec.{eqb}
use Rattle.tree.specs.Tree.{Node, Items, count, encode}
use Rattle.tree.specs.Tree.Items.{none, hole, item}
use Rattle.lowering.specs.Parts.{position, kind, is, node_at_of, items_at_of, number_at, piece_in, stands, is_empty, only, each, gather, ◌+++◌}
use Rattle.lowering.specs.Made.{Context, temporary, reference, id_of}
use Rattle.lowering.specs.Patterns.{key, properties, has_object_rest, has_array_rest_over_object_rest, objects_below}
use Rattle.lowering.specs.Keys.{key_sort, key_temporary, key_temporaries}
use Rattle.lowering.specs.Rests.{is_hoisted, excluded_for, rest_makes}
use Rattle.lowering.specs.Declarations.{is_name_of, source_declarator, inner_objects, declarator_makes, is_lowered, lowered_in, declaration_makes, declaration_excludes, declaration_refusal}
use Rattle.lowering.specs.Assignments.{is_top, target, top_refusal, top_entry, top_makes, nested_entry, nested_makes}
use Rattle.lowering.specs.Heads.{moved_from, references, function_makes, arrow_makes, catch_makes, declaring_makes, assigning_makes}
use Rattle.lowering.specs.Walk.{Note, rule_of, rewrite, step_declaration, step_top, step_assignment, step_for}
use Rattle.lowering.specs.Collect.{Name, name_of, same}
use Rattle.lowering.proofs.Cases.{by_test, by_key, by_rule_lem, by_number}
use Rattle.lowering.proofs.Appearance.{same_is}
use Rattle.sink.specs.Shown.{Named, names_after, renamed, made_by, made_in_of}
use Rattle.direct.specs.Events.{cell_of, stem_of}
use Rattle.outcome.specs.Named
use Rattle.outcome.specs.Named.{Act, lists, excludes, handed, entered, hands_out, after}
use Rattle.outcome.proofs.Tokens.{after_append}
use Rattle.outcome.proofs.Listed.{made_append}
use Rattle.lowering.proofs.ItemLaws.{items_none, each_append}

-- ---- the temporaries in the order in which they are made

-- those that are not stem 2
unfoldable pub others : Items → Items
others none = none
others (hole ts) = others ts
others (item t ts) = cond (eqb (number_at 0 t) 2) (others ts) (item t (others ts))

unfoldable pub makes : Note → Items
makes note = cond (is_empty note.entry) (others note.made) (each id_of note.entry) +++ each id_of note.excluded

-- how many of them a test tells
module _ (f : Node → Bool) where
  unfoldable pub number : Items → ℕ
  number none = 0
  number (hole ts) = number ts
  number (item t ts) = cond (f t) 1 0 + number ts

  pub number_append : (ts us : Items) → number (ts +++ us) ≡ number ts + number us
  unfolding number ◌+++◌
  number_append none us = omega arith
  number_append (hole ts) us = number_append ts us
  number_append (item t ts) us = let h = number_append ts us in omega arith

  pub number_none : number none ≡ 0
  unfolding number
  number_none = refl

others_append : (ts us : Items) → others (ts +++ us) ≡ others ts +++ others us
unfolding others ◌+++◌
others_append none us = refl
others_append (hole ts) us = others_append ts us
others_append (item t ts) us = go (eqb (number_at 0 t) 2) (others_append ts us)
  where
    go : (b : Bool) → others (ts +++ us) ≡ others ts +++ others us → cond b (others (ts +++ us)) (item t (others (ts +++ us))) ≡ cond b (others ts) (item t (others ts)) +++ others us
    go true h = h
    go false h = ap (item t) h

empty_none : (is : Items) → is_empty is ≡ true → is ≡ none
unfolding is_empty
empty_none none h = refl
empty_none (hole is) h = absurd (false≢true h)
empty_none (item n is) h = absurd (false≢true h)

-- ---- the law of notes

module _ (f : Node → Bool) where
  -- some of ts are of stem 2, as many as us
  abbrev Split : Items → Items → Type 0
  Split ts us = number f ts ≡ number f (others ts) + number f us

  split_both : (ts us ts' us' : Items) → Split ts us → Split ts' us' → Split (ts +++ ts') (us +++ us')
  split_both ts us ts' us' h k =
      let a = number_append f ts ts' in
      let b = number_append f us us' in
      let c = ap (number f) (others_append ts ts') in
      let d = number_append f (others ts) (others ts') in
      omega arith

  split_none : Split none none
  unfolding number others
  split_none = refl

  split_gather : (g h : Node → Items) → ((n : Node) → Split (g n) (h n)) → (is : Items) → Split (gather g is) (gather h is)
  unfolding gather
  split_gather g h k none = split_none
  split_gather g h k (hole is) = split_gather g h k is
  split_gather g h k (item n is) = split_both (g n) (h n) (gather g is) (gather h is) (k n) (split_gather g h k is)

  -- ids of what a function gives for each item
  split_ids : (g : Node → Items) → ((n : Node) → Split (each id_of (g n)) none) → (is : Items) → Split (each id_of (gather g is)) none
  unfolding gather each ◌+++◌
  split_ids g k none = split_none
  split_ids g k (hole is) = split_ids g k is
  split_ids g k (item n is) =
      subst (λ (x : Items). Split x none) (sym (each_append id_of (g n) (gather g is)))
      (split_both (each id_of (g n)) none (each id_of (gather g is)) none (k n) (split_ids g k is))

  one_other : (path : List ℕ) (stem at : ℕ) → eqb stem 2 ≡ false → Split (only (temporary path stem at)) none
  unfolding number others number_at piece_in
  one_other path stem at e = rw e (omega arith)

  -- one of stem 2
  one_two : (path : List ℕ) (at : ℕ) → Split (only (temporary path 2 at)) (only (temporary path 2 at))
  unfolding number others number_at piece_in
  one_two path at = omega arith

  module _ (c : Context) where
    refs_split : (ps : Items) → Split (each (λ p. reference c p) ps) none
    unfolding each number others number_at piece_in
    refs_split none = refl
    refs_split (hole ps) = refs_split ps
    refs_split (item p ps) = let h = refs_split ps in omega arith

    source_split : (p init : Node) → Split (each id_of (source_declarator c p init)) none
    unfolding source_declarator each node_at_of piece_in
    source_split p init = by_test (is_name_of init) (λ e. rw e split_none) (λ e. rw e (one_other c.path 3 (position p) refl))

    key_split : (q : Node) → Split (each id_of (key_temporary c q)) none
    unfolding key_temporary each node_at_of piece_in
    key_split q =
        by_key (key_sort (key q))
        (λ e. rw (e, key_temporary) split_none)
        (λ e. rw (e, key_temporary) split_none)
        (λ e. rw (e, key_temporary) split_none)
        (λ e. rw (e, key_temporary) split_none)
        (λ e. rw (e, key_temporary) split_none)
        (λ e. rw (e, key_temporary) (one_other c.path 4 (position q) refl))

    keys_split : (p : Node) → Split (each id_of (key_temporaries c p)) none
    unfolding key_temporaries
    keys_split p = split_ids (key_temporary c) key_split (properties p)

    excluded_split : (p : Node) → Split (each id_of (excluded_for c p)) (each id_of (excluded_for c p))
    unfolding excluded_for each node_at_of piece_in
    excluded_split p = by_test (is_hoisted c p) (λ e. rw e (one_two c.path (position p))) (λ e. rw e split_none)

    rest_split : (p : Node) → Split (rest_makes c p) (each id_of (excluded_for c p))
    unfolding rest_makes ◌+++◌
    rest_split p = split_both (each id_of (key_temporaries c p)) none (each id_of (excluded_for c p)) (each id_of (excluded_for c p)) (keys_split p) (excluded_split p)

    ids_gathered : (g : Node → Items) (is : Items) → number f (each id_of (gather g is)) ≡ number f (gather (λ n. each id_of (g n)) is)
    unfolding gather each
    ids_gathered g none = refl
    ids_gathered g (hole is) = ids_gathered g is
    ids_gathered g (item n is) =
        ap (number f) (each_append id_of (g n) (gather g is)) ∙ number_append f (each id_of (g n)) (each id_of (gather g is))
        ∙ ap (λ (x : ℕ). number f (each id_of (g n)) + x) (ids_gathered g is) ∙ sym (number_append f (each id_of (g n)) (gather (λ m. each id_of (g m)) is))

    -- the ids of excluded keys, counted
    split_as : (ts us us' : Items) → number f us ≡ number f us' → Split ts us → Split ts us'
    split_as ts us us' e h = h ∙ ap (λ (x : ℕ). number f (others ts) + x) e

    declarator_split : (p init : Node) → Split (declarator_makes c p init) (each id_of (gather (excluded_for c) (objects_below c p)))
    unfolding declarator_makes ◌+++◌
    declarator_split p init =
        let g = gather (λ o. each id_of (excluded_for c o)) (objects_below c p) in
        split_as (declarator_makes c p init) g (each id_of (gather (excluded_for c) (objects_below c p))) (sym (ids_gathered (excluded_for c) (objects_below c p)))
        (split_both (each id_of (source_declarator c p init)) none (each (λ o. reference c o) (inner_objects c p) +++ gather (rest_makes c) (objects_below c p)) g
        (source_split p init)
        (split_both (each (λ o. reference c o) (inner_objects c p)) none (gather (rest_makes c) (objects_below c p)) g
        (refs_split (inner_objects c p)) (split_gather (rest_makes c) (λ o. each id_of (excluded_for c o)) rest_split (objects_below c p))))

    one_split : (d : Node) → Split (cond (is_lowered d) (declarator_makes c (node_at_of 0 d) (node_at_of 1 d)) none) (each id_of (gather (excluded_for c) (lowered_in c d)))
    unfolding lowered_in gather each
    one_split d = by_test (is_lowered d) (λ e. rw e (declarator_split (node_at_of 0 d) (node_at_of 1 d))) (λ e. rw e split_none)

    declaration_split : (n : Node) → Split (declaration_makes c n) (each id_of (declaration_excludes c n))
    unfolding declaration_makes declaration_excludes
    declaration_split n =
        let made = gather (λ d. cond (is_lowered d) (declarator_makes c (node_at_of 0 d) (node_at_of 1 d)) none) (items_at_of 2 n) in
        split_as made (gather (λ d. each id_of (gather (excluded_for c) (lowered_in c d))) (items_at_of 2 n)) (each id_of (gather (λ d. gather (excluded_for c) (lowered_in c d)) (items_at_of 2 n)))
        (sym (ids_gathered (λ d. gather (excluded_for c) (lowered_in c d)) (items_at_of 2 n)))
        (split_gather (λ d. cond (is_lowered d) (declarator_makes c (node_at_of 0 d) (node_at_of 1 d)) none) (λ d. each id_of (gather (excluded_for c) (lowered_in c d))) one_split (items_at_of 2 n))

  -- ---- notes

  abbrev Whole : Note → Type 0
  Whole note = number f (makes note) ≡ number f note.made

  -- no entry
  without_entry : (made excluded : Items) → Split made (each id_of excluded) → number f (others made +++ each id_of excluded) ≡ number f made
  without_entry made excluded h = number_append f (others made) (each id_of excluded) ∙ sym h

  aside_none : (made : Items) → Split made none → number f (others made +++ each id_of none) ≡ number f made
  unfolding each
  aside_none made h = without_entry made none h

  none_whole : number f (others none +++ each id_of none) ≡ number f none
  unfolding others each ◌+++◌
  none_whole = refl

  module _ (c : Context) where
    top_whole : (n : Node) → Whole (step_top c n).note
    unfolding step_top makes top_makes top_entry is_empty
    top_whole n = by_number (top_refusal n) (λ r e. rw (e, step_top, makes) none_whole) (λ e. rw (e, step_top, makes) refl)

    nested_whole : (n : Node) → number f (cond (is_empty (nested_entry c n)) (others (nested_makes c n)) (each id_of (nested_entry c n)) +++ each id_of none) ≡ number f (nested_makes c n)
    unfolding nested_makes each
    nested_whole n =
        by_test (is_empty (nested_entry c n))
        (λ e. rw e (subst (λ (x : Items). number f (others (each id_of x) +++ none) ≡ number f (each id_of x)) (sym (empty_none (nested_entry c n) e)) none_whole))
        (λ e. rw e (let a = number_append f (each id_of (nested_entry c n)) none in let z = number_none f in omega arith))

    assignment_whole : (n : Node) → Whole (step_assignment c n).note
    unfolding step_assignment makes is_empty
    assignment_whole n =
        by_test (has_array_rest_over_object_rest (target n))
        (λ e. rw (e, step_assignment, makes) none_whole)
        (λ e. rw (e, step_assignment, makes)
        (by_test (is_top (target n))
        (λ t. rw (t, makes) (top_whole n))
        (λ t. rw (t, makes) (by_test (has_object_rest (target n)) (λ r. rw (r, makes) (nested_whole n)) (λ r. rw (r, makes) none_whole)))))

    declaration_whole : (n : Node) → Whole (step_declaration c n).note
    unfolding step_declaration makes is_empty
    declaration_whole n =
        by_number (declaration_refusal c n)
        (λ r e. rw (e, step_declaration, makes) none_whole)
        (λ e. rw (e, step_declaration, makes) (without_entry (declaration_makes c n) (declaration_excludes c n) (declaration_split c n)))

    function_split : (n : Node) → Split (function_makes c n) none
    unfolding function_makes
    function_split n = by_test (stands 5 n) (λ e. rw e (refs_split c (gather moved_from (items_at_of 3 n)))) (λ e. rw e split_none)

    assigning_split : (n : Node) → Split (assigning_makes c n) none
    unfolding assigning_makes
    assigning_split n = by_test (has_object_rest (node_at_of 1 n)) (λ e. rw e (one_other c.path 1 (position (node_at_of 1 n)) refl)) (λ e. rw e split_none)

    for_whole : (n : Node) → Whole (step_for c n).note
    unfolding step_for makes is_empty declaring_makes
    for_whole n =
        by_test (is 4 (node_at_of 1 n))
        (λ d. rw (d, step_for, makes) (aside_none (references c (gather moved_from (items_at_of 2 (node_at_of 1 n)))) (refs_split c (gather moved_from (items_at_of 2 (node_at_of 1 n))))))
        (λ d. rw (d, step_for, makes)
        (by_test (has_array_rest_over_object_rest (node_at_of 1 n)) (λ e. rw (e, makes) none_whole) (λ e. rw (e, makes) (aside_none (assigning_makes c n) (assigning_split n)))))

    -- each temporary of the note is made once, and no other
    pub makes_all : (n : Node) → number f (makes (rewrite c n).note) ≡ number f (rewrite c n).note.made
    unfolding rewrite makes is_empty arrow_makes catch_makes
    makes_all n =
        by_rule_lem (rule_of (kind n))
        (λ e. rw (e, rewrite, makes) none_whole)
        (λ e. rw (e, rewrite, makes) (declaration_whole n))
        (λ e. rw (e, rewrite, makes) (assignment_whole n))
        (λ e. rw (e, rewrite, makes) (aside_none (function_makes c n) (function_split n)))
        (λ e. rw (e, rewrite, makes) (aside_none (references c (gather moved_from (items_at_of 0 n))) (refs_split c (gather moved_from (items_at_of 0 n)))))
        (λ e. rw (e, rewrite, makes) (aside_none (references c (moved_from (node_at_of 0 n))) (refs_split c (moved_from (node_at_of 0 n)))))
        (λ e. rw (e, rewrite, makes) (for_whole n))
        (λ e. rw (e, rewrite, makes) none_whole)

-- ---- the events that make them

-- the names of the cells after them
unfoldable pub assigned : (ℕ → Name) → Items → ℕ → Name
assigned names none = names
assigned names (hole ts) = assigned names ts
assigned names (item t ts) = assigned (renamed names (cell_of t) (name_of t)) ts

unfoldable pub names_in : Items → List Name
names_in none = []
names_in (hole ts) = names_in ts
names_in (item t ts) = name_of t ∷ names_in ts

pub names_append : (ts us : Items) → names_in (ts +++ us) ≡ names_in ts ++ names_in us
unfolding names_in ◌+++◌
names_append none us = refl
names_append (hole ts) us = names_append ts us
names_append (item t ts) us = ap (λ (x : List Name). name_of t ∷ x) (names_append ts us)

assigned_append : (names : ℕ → Name) (ts us : Items) → assigned names (ts +++ us) ≡ assigned (assigned names ts) us
unfolding assigned ◌+++◌
assigned_append names none us = refl
assigned_append names (hole ts) us = assigned_append names ts us
assigned_append names (item t ts) us = assigned_append (renamed names (cell_of t) (name_of t)) ts us

-- what a row makes
record Does (es : List Act) (ts : Items) : Type 0 where
  cells : (names : ℕ → Name) → after names es ≡ assigned names ts
  made : made_in_of es ≡ names_in ts

nothing_does : Does [] none
unfolding after assigned made_in_of names_in
nothing_does = record { cells = λ names. refl; made = refl }

both_do : (es fs : List Act) (ts us : Items) → Does es ts → Does fs us → Does (es ++ fs) (ts +++ us)
both_do es fs ts us h k =
    record {
      cells = λ names. after_append names es fs ∙ ap (λ (x : ℕ → Name). after x fs) (h.cells names) ∙ k.cells (assigned names ts) ∙ sym (assigned_append names ts us);
      made = made_append es fs ∙ ap₂ (λ (x : List Name) (y : List Name). x ++ y) h.made k.made ∙ sym (names_append ts us);
    }

lists_do : (bs : List ℕ) → Does (lists bs) none
unfolding lists after assigned names_after made_in_of made_by names_in
lists_do [] = record { cells = λ names. refl; made = refl }
lists_do (b ∷ bs) = let r = lists_do bs in record { cells = r.cells; made = r.made }

excludes_do : (bs : List ℕ) → Does (excludes bs) none
unfolding excludes after assigned names_after made_in_of made_by names_in
excludes_do [] = record { cells = λ names. refl; made = refl }
excludes_do (b ∷ bs) = let r = excludes_do bs in record { cells = r.cells; made = r.made }

make_does : (t : Node) (es : List Act) (ts : Items) → Does es ts → Does (Named.make (cell_of t) (name_of t) ∷ es) (item t ts)
unfolding after assigned names_after made_in_of made_by names_in
make_does t es ts h = record { cells = λ names. h.cells (renamed names (cell_of t) (name_of t)); made = ap (λ (x : List Name). name_of t ∷ x) h.made }

listed_does : (t : Node) (es : List Act) (ts : Items) → Does es ts → Does (Named.listed_temporary (cell_of t) (stem_of t) (name_of t) ∷ es) (item t ts)
unfolding after assigned names_after made_in_of made_by names_in
listed_does t es ts h = record { cells = λ names. h.cells (renamed names (cell_of t) (name_of t)); made = ap (λ (x : List Name). name_of t ∷ x) h.made }

excluded_does : (t : Node) (es : List Act) (ts : Items) → Does es ts → Does (Named.excluded_temporary (cell_of t) (stem_of t) (name_of t) ∷ es) (item t ts)
unfolding after assigned names_after made_in_of made_by names_in
excluded_does t es ts h = record { cells = λ names. h.cells (renamed names (cell_of t) (name_of t)); made = ap (λ (x : List Name). name_of t ∷ x) h.made }

declarator_does : (es : List Act) (ts : Items) → Does es ts → Does (Named.declarator ∷ es) ts
unfolding after assigned names_after made_in_of made_by names_in
declarator_does es ts h = record { cells = h.cells; made = h.made }

entry_does : (m k : ℕ) (es : List Act) (ts : Items) → Does es ts → Does (Named.entry m k ∷ es) ts
unfolding after assigned names_after made_in_of made_by names_in
entry_does m k es ts h = record { cells = h.cells; made = h.made }

either : (b : Bool) (es fs : List Act) (ts us : Items) → Does es ts → Does fs us → Does (cond b es fs) (cond b ts us)
either true es fs ts us h k = h
either false es fs ts us h k = k

made_does : (ts : Items) → Does (Named.made ts) (others ts)
unfolding Named.made others
made_does none = nothing_does
made_does (hole ts) = made_does ts
made_does (item t ts) =
    either (eqb (number_at 0 t) 2) (Named.made ts) (Named.make (cell_of t) (name_of t) ∷ Named.made ts) (others ts) (item t (others ts))
    (made_does ts) (make_does t (Named.made ts) (others ts) (made_does ts))

either_none : (b : Bool) (es : List Act) → Does es none → Does (cond b es []) none
either_none true es h = h
either_none false es h = nothing_does

hole_assigned : (names : ℕ → Name) (ts : Items) → assigned names ts ≡ assigned names (hole ts)
unfolding assigned
hole_assigned names ts = refl

hole_names : (ts : Items) → names_in ts ≡ names_in (hole ts)
unfolding names_in
hole_names ts = refl

handed_does : (ds : Items) → Does (handed ds) (each id_of ds)
unfolding handed each ◌+++◌
handed_does none = nothing_does
handed_does (hole ds) = let r = handed_does ds in record { cells = λ names. r.cells names ∙ hole_assigned names (each id_of ds); made = r.made ∙ hole_names (each id_of ds) }
handed_does (item d ds) =
    let t = id_of d in
    let head : List ℕ = 5 ∷ cond (stands 1 d) 3 1 ∷ [] in
    let more = cond (stands 1 d) (lists (encode (node_at_of 1 d))) [] in
    both_do (lists head ++ (Named.listed_temporary (cell_of t) (stem_of t) (name_of t) ∷ more)) (handed ds) (item t none) (each id_of ds)
    (both_do (lists head) (Named.listed_temporary (cell_of t) (stem_of t) (name_of t) ∷ more) none (item t none) (lists_do head)
    (listed_does t more none (either_none (stands 1 d) (lists (encode (node_at_of 1 d))) (lists_do (encode (node_at_of 1 d))))))
    (handed_does ds)

excluded_do : (ds : Items) → Does (Named.excluded_keys ds) (each id_of ds)
unfolding Named.excluded_keys each ◌+++◌
excluded_do none = nothing_does
excluded_do (hole ds) = let r = excluded_do ds in record { cells = λ names. r.cells names ∙ hole_assigned names (each id_of ds); made = r.made ∙ hole_names (each id_of ds) }
excluded_do (item d ds) =
    let t = id_of d in
    let v = excludes (encode (node_at_of 1 d)) in
    declarator_does (Named.excluded_temporary (cell_of t) (stem_of t) (name_of t) ∷ v ++ Named.excluded_keys ds) (item t (each id_of ds))
    (excluded_does t (v ++ Named.excluded_keys ds) (each id_of ds)
    (both_do v (Named.excluded_keys ds) none (each id_of ds) (excludes_do (encode (node_at_of 1 d))) (excluded_do ds)))

hands_do : (m : ℕ) (note : Note) → Does (hands_out m note) (makes note)
unfolding hands_out makes entered ◌+++◌
hands_do m note =
    both_do (cond (is_empty note.entry) (Named.made note.made) [] ++ entered m note.entry) (Named.excluded_keys note.excluded)
    (cond (is_empty note.entry) (others note.made) (each id_of note.entry)) (each id_of note.excluded)
    (go (is_empty note.entry))
    (excluded_do note.excluded)
  where
    go : (b : Bool) → Does (cond b (Named.made note.made) [] ++ cond b [] (Named.entry m (count note.entry) ∷ handed note.entry)) (cond b (others note.made) (each id_of note.entry))
    go true = subst (λ (x : Items). Does (Named.made note.made ++ []) x) (items_none (others note.made)) (both_do (Named.made note.made) [] (others note.made) none (made_does note.made) nothing_does)
    go false = entry_does m (count note.entry) (handed note.entry) (each id_of note.entry) (handed_does note.entry)

pub hands_names : (m : ℕ) (note : Note) (names : ℕ → Name) → after names (hands_out m note) ≡ assigned names (makes note)
hands_names m note names = (hands_do m note).cells names

pub hands_made : (m : ℕ) (note : Note) → made_in_of (hands_out m note) ≡ names_in (makes note)
hands_made m note = (hands_do m note).made

-- ---- a cell after them

-- the test of a cell, and of a cell and a name
abbrev pub in_cell : ℕ → Node → Bool
in_cell x t = eqb x (cell_of t)

abbrev pub named_cell : ℕ → Name → Node → Bool
named_cell x a t = eqb x (cell_of t) && same a (name_of t)

-- one that is not made is left
pub cell_left : (names : ℕ → Name) (x : ℕ) (ts : Items) → number (in_cell x) ts ≡ 0 → assigned names ts x ≡ names x
unfolding assigned number renamed
cell_left names x none h = refl
cell_left names x (hole ts) h = cell_left names x ts h
cell_left names x (item t ts) h =
    by_test (eqb x (cell_of t))
    (λ e. let z : 1 + number (in_cell x) ts ≡ 0 = rw e at h in absurd (omega arith))
    (λ e. let z : 0 + number (in_cell x) ts ≡ 0 = rw e at h in
    cell_left (renamed names (cell_of t) (name_of t)) x ts (omega arith) ∙ rw e refl)

-- what is made with the name is made in its cell
pub named_less : (x : ℕ) (a : Name) (ts : Items) → number (named_cell x a) ts ≤ number (in_cell x) ts
unfolding number
named_less x a Items.none = omega arith
named_less x a (Items.hole ts) = named_less x a ts
named_less x a (Items.item t ts) = go (eqb x (cell_of t)) (same a (name_of t)) (named_less x a ts)
  where
    go : (b d : Bool) → number (named_cell x a) ts ≤ number (in_cell x) ts → cond (b && d) 1 0 + number (named_cell x a) ts ≤ cond b 1 0 + number (in_cell x) ts
    go true true h = omega arith
    go true false h = omega arith
    go false d h = omega arith

-- one that is made once stands for what is made there
pub cell_made : (names : ℕ → Name) (x : ℕ) (a : Name) (ts : Items) → number (in_cell x) ts ≤ 1 → 0 < number (named_cell x a) ts → assigned names ts x ≡ a
unfolding assigned number renamed
cell_made names x a none h k = absurd (omega arith)
cell_made names x a (hole ts) h k = cell_made names x a ts h k
cell_made names x a (item t ts) h k =
    let l = named_less x a ts in
    by_test (eqb x (cell_of t))
    (λ e.
    let h' : 1 + number (in_cell x) ts ≤ 1 = rw e at h in
    by_test (same a (name_of t))
    (λ s. cell_left (renamed names (cell_of t) (name_of t)) x ts (omega arith) ∙ rw e (sym (same_is a (name_of t) s)))
    (λ s. let k' : 0 < 0 + number (named_cell x a) ts = rw (e, s) at k in absurd (omega arith)))
    (λ e.
    let h' : 0 + number (in_cell x) ts ≤ 1 = rw e at h in
    let k' : 0 < 0 + number (named_cell x a) ts = rw e at k in
    cell_made (renamed names (cell_of t) (name_of t)) x a ts (omega arith) (omega arith))
