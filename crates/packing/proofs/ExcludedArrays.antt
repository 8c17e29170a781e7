-- The program's list of excluded keys gives each temporary the array that was handed out for it, and no other: a name is made once, and a
-- number is given to one name.
-- Assumes nothing.
use mathlib.Core.Path.{◌≡◌, refl, ap, subst, ◌∙◌}
use mathlib.Core.Bool.{Bool, true, false, cond, ◌&&◌}
use mathlib.Core.List.{List, [], ◌∷◌, ◌++◌}
use Prim.Native.Nat.{ℕ, suc, ◌+◌, ◌≤◌, ◌<◌}
use native.Mathlib.Omega.{arith}
use lib.Dec.{eqb}
use borrow.Author.Tests.{eqb-true}
use Rattle.tree.specs.Tree.{Node, Items}
use Rattle.tree.specs.Tree.Items.{none, hole, item}
use Rattle.lowering.specs.Parts.{kind, is, piece_in, node_at_of, items_at_of, text_at_of, number_at, each, gather, ◌+++◌}
use Rattle.lowering.specs.Made.{Context, temporary, reference, declares, id_of, array}
use Rattle.lowering.specs.Patterns.{has_object_rest, has_array_rest_over_object_rest, objects_below}
use Rattle.lowering.specs.Keys.{key_temporaries}
use Rattle.lowering.specs.Rests.{is_hoisted, excluded_for, rest_makes}
use Rattle.lowering.specs.Declarations.{source_declarator, inner_objects, declarator_makes, is_lowered, lowered_in, declaration_makes, declaration_excludes, declaration_refusal}
use Rattle.lowering.specs.Assignments.{target, is_top, top_refusal, top_entry, top_excludes, top_makes}
use Rattle.lowering.specs.Walk.{Note, rule_of, rewrite, step_declaration, step_top, step_assignment, step_for}
use Rattle.lowering.specs.Weight.{walked}
use Rattle.lowering.specs.Collect.{Visit, Entry, Name, visits, names_of, over, nodes, nodes_items, list_nodes, name_of, name_at, same, number_in, excluded_in, made_in_of, numbered, numbered_items, with_number}
use Rattle.lowering.proofs.All.{AllItems}
use Rattle.lowering.proofs.Notes.{AllNotes, in_walked}
use Rattle.lowering.proofs.Cases.{by_test, by_rule_lem, by_number}
use Rattle.lowering.proofs.MadeAtSites.{times, times_append}
use Rattle.lowering.proofs.ItemLaws.{each_append}
use Rattle.lowering.proofs.Appearance.{In, same_is, in_second, name_over, name_self, distinct_in, number_apart}
use Rattle.lowering.proofs.Appearance.In.{here, there}
use Rattle.lowering.proofs.PartsAt.{item_nodes}
use Rattle.lowering.specs.Visits.{ItemAt}
use Rattle.packing.specs.Unpack.{same_temporary, array_of}
use Rattle.packing.proofs.DeclarationLeft.{same_self}

-- ---- what is handed out was made

-- a temporary with its array of keys
data Keys : Node → Type 0 where
  keys : (path : List ℕ) (stem at : ℕ) (ks : Items) → Keys (declares (temporary path stem at) (array ks))

-- declarators xs of excluded keys, each with a temporary of its own among those that are made
record Hoisted (xs made : Items) : Type 0 where
  shaped : AllItems Keys xs
  counted : (a : Name) → times a (each id_of xs) ≤ times a made

nothing_hoisted : (made : Items) → Hoisted none made
unfolding each times
nothing_hoisted made = record { shaped = tt; counted = λ a. omega arith }

all_append : (xs ys : Items) → AllItems Keys xs → AllItems Keys ys → AllItems Keys (xs +++ ys)
unfolding ◌+++◌
all_append none ys f g = g
all_append (hole xs) ys f g = all_append xs ys f g
all_append (item x xs) ys f g = (f.0, all_append xs ys f.1 g)

ids_append : (a : Name) (xs ys : Items) → times a (each id_of (xs +++ ys)) ≡ times a (each id_of xs) + times a (each id_of ys)
ids_append a xs ys = ap (times a) (each_append id_of xs ys) ∙ times_append a (each id_of xs) (each id_of ys)

both_hoisted : {xs ys made more : Items} → Hoisted xs made → Hoisted ys more → Hoisted (xs +++ ys) (made +++ more)
both_hoisted {xs} {ys} {made} {more} f g = record {
  shaped = all_append xs ys f.shaped g.shaped;
  counted = λ a. let u = f.counted a in let v = g.counted a in let s = ids_append a xs ys in let t = times_append a made more in omega arith;
}

-- more temporaries before those
after_hoisted : (more : Items) {xs made : Items} → Hoisted xs made → Hoisted xs (more +++ made)
after_hoisted more {xs} {made} f = record { shaped = f.shaped; counted = λ a. let u = f.counted a in let t = times_append a more made in omega arith }

gather_hoisted : (f g : Node → Items) → ((d : Node) → Hoisted (f d) (g d)) → (ds : Items) → Hoisted (gather f ds) (gather g ds)
unfolding gather
gather_hoisted f g h none = nothing_hoisted none
gather_hoisted f g h (hole ds) = gather_hoisted f g h ds
gather_hoisted f g h (item d ds) = both_hoisted (h d) (gather_hoisted f g h ds)

-- of what a rewriting hands out
abbrev Hands : Note → Type 0
Hands n = Hoisted n.excluded n.made

module _ (c : Context) where
  keys_shaped : (p : Node) → AllItems Keys (excluded_for c p)
  unfolding excluded_for
  keys_shaped p = by_test (is_hoisted c p) (λ e. rw e (keys _ _ _ _, tt)) (λ e. rw e tt)

  ids_hoisted : {xs : Items} → AllItems Keys xs → Hoisted xs (each id_of xs)
  ids_hoisted s = record { shaped = s; counted = λ a. omega arith }

  rest_hoisted : (p : Node) → Hoisted (excluded_for c p) (rest_makes c p)
  unfolding rest_makes
  rest_hoisted p = after_hoisted (each id_of (key_temporaries c p)) (ids_hoisted (keys_shaped p))

  declarator_hoisted : (d : Node) → Hoisted (gather (excluded_for c) (lowered_in c d)) (cond (is_lowered d) (declarator_makes c (node_at_of 0 d) (node_at_of 1 d)) none)
  unfolding lowered_in declarator_makes gather
  declarator_hoisted d = by_test (is_lowered d)
      (λ e. rw e (after_hoisted (each id_of (source_declarator c (node_at_of 0 d) (node_at_of 1 d))) (after_hoisted (each (λ o. reference c o) (inner_objects c (node_at_of 0 d)))
      (gather_hoisted (excluded_for c) (rest_makes c) rest_hoisted (objects_below c (node_at_of 0 d))))))
      (λ e. rw e (nothing_hoisted none))

  declaration_hands : (n : Node) → Hands (step_declaration c n).note
  unfolding step_declaration declaration_excludes declaration_makes
  declaration_hands n = by_number (declaration_refusal c n)
      (λ r e. rw (e, step_declaration) (nothing_hoisted none))
      (λ e. rw (e, step_declaration) (gather_hoisted (λ d. gather (excluded_for c) (lowered_in c d)) (λ d. cond (is_lowered d) (declarator_makes c (node_at_of 0 d) (node_at_of 1 d)) none) declarator_hoisted (items_at_of 2 n)))

  top_hands : (n : Node) → Hands (step_top c n).note
  unfolding step_top top_makes top_excludes
  top_hands n = by_number (top_refusal n)
      (λ r e. rw (e, step_top) (nothing_hoisted none))
      (λ e. rw (e, step_top) (after_hoisted (each id_of (top_entry c n)) (ids_hoisted (keys_shaped (target n)))))

  assignment_hands : (n : Node) → Hands (step_assignment c n).note
  unfolding step_assignment
  assignment_hands n = by_test (has_array_rest_over_object_rest (target n))
      (λ e. rw (e, step_assignment) (nothing_hoisted none))
      (λ e. rw (e, step_assignment) (by_test (is_top (target n))
      (λ t. rw t (top_hands n))
      (λ t. rw t (by_test (has_object_rest (target n)) (λ o. rw o (nothing_hoisted _)) (λ o. rw o (nothing_hoisted _))))))

  for_hands : (n : Node) → Hands (step_for c n).note
  unfolding step_for
  for_hands n = by_test (is 4 (node_at_of 1 n))
      (λ d. rw (d, step_for) (nothing_hoisted _))
      (λ d. rw (d, step_for) (by_test (has_array_rest_over_object_rest (node_at_of 1 n)) (λ e. rw e (nothing_hoisted _)) (λ e. rw e (nothing_hoisted _))))

  -- so it is of each rewriting
  hands : (n : Node) → Hands (rewrite c n).note
  unfolding rewrite
  hands n = by_rule_lem (rule_of (kind n))
      (λ e. rw (e, rewrite) (nothing_hoisted _))
      (λ e. rw (e, rewrite) (declaration_hands n))
      (λ e. rw (e, rewrite) (assignment_hands n))
      (λ e. rw (e, rewrite) (nothing_hoisted _))
      (λ e. rw (e, rewrite) (nothing_hoisted _))
      (λ e. rw (e, rewrite) (nothing_hoisted _))
      (λ e. rw (e, rewrite) (for_hands n))
      (λ e. rw (e, rewrite) (nothing_hoisted _))

-- and of all of them together
all_hoisted : (vs : List Visit) → AllNotes Hands vs → Hoisted (excluded_in vs) (made_in_of vs)
unfolding excluded_in made_in_of
all_hoisted [] h = nothing_hoisted none
all_hoisted (v ∷ vs) h = both_hoisted h.0 (all_hoisted vs h.1)

-- ---- the list has what each note has

-- an item of the list
abbrev pub Item : Node → Items → Type 0
Item y ys = (j : ℕ) × ItemAt ys j y

item_left : {y : Node} {xs : Items} (ys : Items) {j : ℕ} → ItemAt xs j y → Item y (xs +++ ys)
unfolding ◌+++◌
item_left ys ItemAt.first = (0, ItemAt.first)
item_left ys (ItemAt.behind a) = let r = item_left ys a in (suc r.0, ItemAt.behind r.1)
item_left ys (ItemAt.behind_hole a) = let r = item_left ys a in (suc r.0, ItemAt.behind_hole r.1)

item_right : {y : Node} (xs : Items) {ys : Items} {j : ℕ} → ItemAt ys j y → Item y (xs +++ ys)
unfolding ◌+++◌
item_right none {j = j} a = (j, a)
item_right (hole xs) a = let r = item_right xs a in (suc r.0, ItemAt.behind_hole r.1)
item_right (item x xs) a = let r = item_right xs a in (suc r.0, ItemAt.behind r.1)

-- of the whole list xs, where the notes from some on are given
collected : (xs : Items) (vs : List Visit) → ((y : Node) → Item y (excluded_in vs) → Item y xs) → AllNotes (λ n. (y : Node) → Item y n.excluded → Item y xs) vs
unfolding excluded_in
collected xs [] h = tt
collected xs (v ∷ vs) h = (λ y a. h y (item_left (excluded_in vs) a.1), collected xs vs (λ y a. h y (item_right v.note.excluded a.1)))

pub in_list : (vs : List Visit) → AllNotes (λ n. (y : Node) → Item y n.excluded → Item y (excluded_in vs)) vs
in_list vs = collected (excluded_in vs) vs (λ y a. a)

-- ---- the array of a temporary

times_some : (t : Node) (ks : Items) {xs : Items} {j : ℕ} → ItemAt xs j (declares t (array ks)) → 0 < times (name_of t) (each id_of xs)
unfolding each times node_at_of piece_in
times_some t ks ItemAt.first = rw (name_self (name_of t)) (omega arith)
times_some t ks (ItemAt.behind a) = let r = times_some t ks a in omega arith
times_some t ks (ItemAt.behind_hole a) = times_some t ks a

module _ (ns : List Name) where
  -- numbers tell the temporaries of the list apart
  numbers_tell : (t s : Node) → In (name_of s) ns → same_temporary (with_number ns s) (with_number ns t) ≡ true → same (name_of t) (name_of s) ≡ true
  unfolding same_temporary with_number number_at text_at_of piece_in
  numbers_tell t s i e =
      let N = number_in same 1 ns (name_of s) in
      let M = number_in same 1 ns (name_of t) in
      let q : same (name_of s) (name_of t) ≡ true = number_apart (name_of s) 1 (name_of t) i (eqb-true N M (first (eqb N M) e)) in
      subst (λ (x : Name). same x (name_of s) ≡ true) (same_is (name_of s) (name_of t) q) (name_self (name_of s))
    where
      first : (b : Bool) → b && true ≡ true → b ≡ true
      first true e = refl
      first false e = e

  -- the first of the list is ours, or it is another's
  array_first : (xs : Items) (path : List ℕ) (stem at : ℕ) (ks : Items) (t : Node)
      → array_of (numbered_items ns (item (declares (temporary path stem at) (array ks)) xs)) t
      ≡ cond (same_temporary (with_number ns (temporary path stem at)) t) (array (numbered_items ns ks)) (array_of (numbered_items ns xs) t)
  unfolding array_of numbered node_at_of piece_in
  array_first xs path stem at ks t = refl

  array_found : (path : List ℕ) (stem at : ℕ) (ks : Items) {xs : Items} {j : ℕ} → let t = temporary path stem at in
      ItemAt xs j (declares t (array ks)) → AllItems Keys xs → times (name_of t) (each id_of xs) ≤ 1 → ((y : Node) → Item y xs → In (name_of (id_of y)) ns)
      → array_of (numbered_items ns xs) (with_number ns t) ≡ array (numbered_items ns ks)
  unfolding array_of numbered each times node_at_of piece_in
  array_found path stem at ks (ItemAt.first {is = xs}) s m n =
      let t = temporary path stem at in
      array_first xs path stem at ks (with_number ns t) ∙ rw (same_self (with_number ns t)) refl
  array_found path stem at ks (ItemAt.behind_hole a) s m n = array_found path stem at ks a s m (λ y i. n y (suc i.0, ItemAt.behind_hole i.1))
  array_found path stem at ks (ItemAt.behind {n = y} {is = xs} a) s m n =
      go s.0 (n y (0, ItemAt.first)) m (λ l. array_found path stem at ks a s.1 l (λ y i. n y (suc i.0, ItemAt.behind i.1)))
    where
      t : Node
      t = temporary path stem at

      go : {y : Node} → Keys y → In (name_of (id_of y)) ns → cond (same (name_of t) (name_of (id_of y))) 1 0 + times (name_of t) (each id_of xs) ≤ 1
          → (times (name_of t) (each id_of xs) ≤ 1 → array_of (numbered_items ns xs) (with_number ns t) ≡ array (numbered_items ns ks))
          → array_of (numbered_items ns (item y xs)) (with_number ns t) ≡ array (numbered_items ns ks)
      go (keys path' stem' at' ks') i l f =
          let s = temporary path' stem' at' in
          array_first xs path' stem' at' ks' (with_number ns t)
          ∙ by_test (same_temporary (with_number ns s) (with_number ns t))
          (λ e. absurd (let q = numbers_tell t s i e in let u = times_some t ks a in let z : 1 + times (name_of t) (each id_of xs) ≤ 1 = simp q at l in omega arith))
          (λ e. rw e (f (let u : times (name_of t) (each id_of xs) ≤ cond (same (name_of t) (name_of s)) 1 0 + times (name_of t) (each id_of xs) = omega arith in omega arith)))

-- ---- the program's list

id_named : {y : Node} → Keys y → {xs : Items} {j : ℕ} → ItemAt xs j y → In (name_of (id_of y)) (over name_at (nodes_items xs))
unfolding nodes node_at_of piece_in is
id_named (keys path stem at ks) a = name_over (temporary path stem at) refl (item_nodes (temporary path stem at) a (there (here refl)))

keys_at_lem : {xs : Items} {j : ℕ} {y : Node} → ItemAt xs j y → AllItems Keys xs → Keys y
keys_at_lem ItemAt.first s = s.0
keys_at_lem (ItemAt.behind a) s = keys_at_lem a s.1
keys_at_lem (ItemAt.behind_hole a) s = keys_at_lem a s

over_append : {x : Name} (us ws : List Node) → In x (over name_at ws) → In x (over name_at (us ++ ws))
unfolding over
over_append [] ws i = i
over_append (u ∷ us) ws i = in_second (name_at u) (over_append us ws i)

all_named : (m : Node) (es : List Entry) (xs : Items) → AllItems Keys xs → (y : Node) → Item y xs → In (name_of (id_of y)) (names_of m es xs)
unfolding names_of list_nodes
all_named m es xs s y i =
    distinct_in (name_of (id_of y)) (over_append (nodes m) (over (λ e. nodes_items e.declarators) es ++ nodes_items xs)
    (over_append (over (λ e. nodes_items e.declarators) es) (nodes_items xs) (id_named (keys_at_lem i.1 s) i.1)))

-- what it gives each temporary, where the walk of n makes no name twice
pub array_given : (c : Context) (n m : Node) (next mark : ℕ) (es : List Entry) (path : List ℕ) (stem at : ℕ) (ks : Items)
    → let vs = visits next mark (walked c n) in let ns = names_of m es (excluded_in vs) in
    ((a : Name) → times a (made_in_of vs) ≤ 1) → Item (declares (temporary path stem at) (array ks)) (excluded_in vs)
    → array_of (numbered_items ns (excluded_in vs)) (with_number ns (temporary path stem at)) ≡ array (numbered_items ns ks)
array_given c n m next mark es path stem at ks once i =
    let vs = visits next mark (walked c n) in
    let h = all_hoisted vs (in_walked Hands (λ n. nothing_hoisted none) hands c n next mark) in
    let a = name_of (temporary path stem at) in
    array_found (names_of m es (excluded_in vs)) path stem at ks i.1 h.shaped (let u = h.counted a in let v = once a in omega arith) (all_named m es (excluded_in vs) h.shaped)
