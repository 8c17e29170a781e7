-- Assignments with an object rest below the target, part by part.
-- Assumes nothing.
use mathlib.Core.Path.{◌≡◌, refl, sym, ap, ap₂, ◌∙◌}
use mathlib.Core.Bool.{Bool, true, false, cond, not}
use mathlib.Core.List.{List, [], ◌∷◌, ◌++◌}
use Prim.Native.Nat.{ℕ, zero, suc, ◌<◌}
use native.Mathlib.Omega.{arith}
use Rattle.tree.specs.Tree.{Node, Items, wide_bytes, map_of, count, depth}
use Rattle.tree.specs.Tree.Piece.{one, byte}
use Rattle.lowering.specs.Parts.{position, is, piece_in, stands_in, change_in, node_at_of, items_at_of, stands, is_empty, change, on_node, only, each, ◌+++◌}
use Rattle.lowering.specs.Made.{temporary, assign, sequence, value_of}
use Rattle.lowering.specs.Patterns.{shape, rest, has_nested_object_rest, has_object_rest, has_array_rest_over_object_rest, replaced_below}
use Rattle.lowering.specs.Patterns.Shape.{leaf}
use Rattle.lowering.specs.Keys.{keys_refusal}
use Rattle.lowering.specs.Rests.{rest_value}
use Rattle.lowering.specs.Assignments.{target, is_top, parts_of, outermost, from_reference, top_refusal, top_sequence, top_entry, top_excludes, top_makes, nested_sequence, nested_entry, nested_makes}
use Rattle.lowering.specs.Walk.{rewrite, refuse, rule_of, opens_scope, step_assignment, step_top}
use Rattle.lowering.specs.Collect.{is_container}
use Rattle.lowering.proofs.Cases.{by_test, rule_27}
use Rattle.lowering.proofs.Accepted.{NoHoles}
use Rattle.direct.specs.Events.{Place, Emit, puts, refused, context_of, emits}
use Rattle.direct.specs.Emit.{say, ◌▷◌, below, inner, emits_items, emits_piece, stays, in_turn}
use Rattle.direct.specs.Views.{View, object_rest_at, viewed, each_does, says_cell, emits_view}
use Rattle.direct.specs.Views.View.{replacing, taking}
use Rattle.direct.specs.Keys.{emits_rest}
use Rattle.direct.specs.Objects.{reached_in, replaced_in, over_replaced, over_parts}
use Rattle.direct.specs.Objects.Reach.{in_arrays}
use Rattle.direct.specs.Handed.{places_in, parts_count}
use Rattle.direct.specs.Assigned.{assignment_at, assign_head, emits_rest_of, emits_inner, emits_nest, emits_target, top_count, emits_top}
use Rattle.direct.proofs.Threads.{then_assoc}
use Rattle.direct.proofs.OneLevel.{emits_as, emits_refused, emits_unchanged, emits_nowhere}
use Rattle.direct.proofs.RulesKeep.{assignment_kept}
use Rattle.direct.proofs.MadeNodes.{say_then, below_inner, three_fields, only_item, no_items, more_items, emits_sequence}
use Rattle.direct.proofs.ListsInTurn.{items_append, items_each}
use Rattle.direct.proofs.ViewedPatterns.{emits_viewed, says_cell_lem}
use Rattle.direct.proofs.RestValues.{rest_value_lem}
use Rattle.direct.proofs.ObjectsByLevel.{replaced_same_path}
use Rattle.direct.proofs.HandedByObject.{top_handed, nested_handed}
use Rattle.direct.proofs.Targets.{replaced_nothing, replaced_clear}
use Rattle.direct.proofs.NearestObjects.{outermost_reached, parts_reached, nearest_solid, parts_solid, found_or_none, left_over_of, left_viewed, left_found, left_no_top, left_over}
use Rattle.lowering.proofs.ItemLaws.{count_append, count_each}
use Rattle.lowering.proofs.Clauses.{has_leaf_at}
use Rattle.direct.proofs.DeclarationsByPart.{inner_inner}

-- ---- lists without holes

solid_does : (f : Node → Emit) (is : Items) → NoHoles is → each_does f is ≡ in_turn f is
unfolding NoHoles each_does in_turn
solid_does f Items.none h = refl
solid_does f (Items.hole is) h = absurd h
solid_does f (Items.item n is) h = ap (λ (e : Emit). f n ▷ e) (solid_does f is h)

-- ---- steps

module _ (c : Place) (n : Node) (k : is 27 n ≡ true) where
  step_5 : has_array_rest_over_object_rest (target n) ≡ true → rewrite (context_of c) n ≡ refuse 5
  unfolding rewrite step_assignment
  step_5 h = rw (rule_27 n k, rewrite, h, step_assignment) refl

  step_top_lem : has_array_rest_over_object_rest (target n) ≡ false → is_top (target n) ≡ true → rewrite (context_of c) n ≡ step_top (context_of c) n
  unfolding rewrite step_assignment
  step_top_lem h t = rw (rule_27 n k, rewrite, h, step_assignment, t) refl

  top_refuses : (r : ℕ) → 0 < r → top_refusal n ≡ r → step_top (context_of c) n ≡ refuse r
  unfolding step_top
  top_refuses zero z f = absurd (omega arith)
  top_refuses (suc r) z f = rw (f, step_top) refl

  top_steps : top_refusal n ≡ 0
      → step_top (context_of c) n ≡ record { note = record { refusal = 0; made = top_makes (context_of c) n; entry = top_entry (context_of c) n; excluded = top_excludes (context_of c) n }; result = top_sequence (context_of c) n }
  unfolding step_top
  top_steps f = rw (f, step_top) refl

  step_nested : has_array_rest_over_object_rest (target n) ≡ false → is_top (target n) ≡ false → has_object_rest (target n) ≡ true
      → rewrite (context_of c) n ≡ record { note = record { refusal = 0; made = nested_makes (context_of c) n; entry = nested_entry (context_of c) n; excluded = Items.none }; result = nested_sequence (context_of c) n }
  unfolding rewrite step_assignment
  step_nested h t o = rw (rule_27 n k, rewrite, h, step_assignment, t, o) refl

  -- an object rest below an array rest
  pub assignment_refused_5 : has_array_rest_over_object_rest (target n) ≡ true → emits c n ≡ say (refused 5 ++ puts (0 ∷ 0 ∷ []))
  assignment_refused_5 h = emits_refused c n 5 (step_5 h)

  -- a key that is refused
  pub assignment_refused_keys : (r : ℕ) → 0 < r → has_array_rest_over_object_rest (target n) ≡ false → is_top (target n) ≡ true → top_refusal n ≡ r
      → emits c n ≡ say (refused r ++ puts (0 ∷ 0 ∷ []))
  assignment_refused_keys r z h t f = emits_refused c n r (step_top_lem h t ∙ top_refuses r z f)

  -- no object rest below the target
  pub assignment_stays : has_object_rest (target n) ≡ false → emits c n ≡ stays c n
  assignment_stays h = emits_unchanged c n (assignment_kept (context_of c) n k h)

-- ---- parts

stays_sequence : (c : Place) (xs : Items) → stays c (sequence xs) ≡ say (puts (28 ∷ 1 ∷ wide_bytes (count xs))) ▷ emits_items false (inner c) xs
unfolding rule_of
stays_sequence c xs = sym (emits_nowhere c (sequence xs) refl) ∙ emits_sequence c xs

module _ (c : Place) where
  -- an assignment that stays
  pub assigns_done : (at op : ℕ) (p x : Node) → has_object_rest p ≡ false → emits c (assignment_at at op p x) ≡ assign_head op ▷ emits (inner c) p ▷ emits (inner c) x
  unfolding stays map_of is_container emits_piece is opens_scope node_at_of piece_in
  assigns_done at op p x h =
      let n = assignment_at at op p x in
      emits_unchanged c n (assignment_kept (context_of c) n refl h)
      ∙ ap (λ (e : Emit). say (puts (27 ∷ 7 ∷ [])) ▷ e)
      (three_fields false (below c n) (byte op) (one p) (one x)
      ∙ ap (λ (d : ℕ → Place). say (puts (op ∷ [])) ▷ emits (d 1) p ▷ emits (d 2) x) (below_inner c n (λ i. refl) refl refl))
      ∙ say_then (puts (27 ∷ 7 ∷ [])) (puts (op ∷ [])) (emits (inner c) p ▷ emits (inner c) x)

-- the same inside
inside_assigns : (c : Place) (at op : ℕ) (p x : Node) → has_object_rest p ≡ false → emits (inner c) (assignment_at at op p x) ≡ assign_head op ▷ emits (inner c) p ▷ emits (inner c) x
inside_assigns c at op p x h =
    assigns_done (inner c) at op p x h ∙ ap (λ (d : Place). assign_head op ▷ emits d p ▷ emits d x) (inner_inner c)

temporary_has : (path : List ℕ) (stem at : ℕ) → has_object_rest (temporary path stem at) ≡ false
unfolding has_nested_object_rest shape depth
temporary_has path stem at = refl

-- ---- objects replaced, then an assignment for each

from_gathered : (c : Place) (is : Items) → NoHoles is → emits_items false (inner c) (each (from_reference (context_of c)) is) ≡ in_turn (emits_inner c) is
unfolding emits_inner
from_gathered c is h = items_each (inner c) (from_reference (context_of c)) is ∙ solid_does (λ o. emits (inner c) (from_reference (context_of c) o)) is h

module _ (c : Place) where
  nested_result : (at op : ℕ) (q x : Node)
      → nested_sequence (context_of c) (assignment_at at op q x)
      ≡ sequence (Items.item (assignment_at at op (replaced_below (context_of c) q) x) (each (from_reference (context_of c)) (outermost q)))
  unfolding nested_sequence change change_in on_node node_at_of piece_in
  nested_result at op q x = refl

  -- q is left of p, by the view v of p
  nest_done : (v : View) (at op : ℕ) (q x p : Node) → has_array_rest_over_object_rest q ≡ false → is_top q ≡ false → has_object_rest q ≡ true
      → outermost q ≡ replaced_in v p → emits (inner c) (replaced_below (context_of c) q) ≡ emits_view (inner c) v p
      → emits c (assignment_at at op q x) ≡ emits_nest c v op p (emits (inner c) x)
  unfolding emits_nest over_replaced places_in is node_at_of piece_in count
  nest_done v at op q x p h t o a b =
      let κ = context_of c in
      let n = assignment_at at op q x in
      let os = outermost q in
      let left = assignment_at at op (replaced_below κ q) x in
      let seen = emits_view (inner c) v p in
      let X = emits (inner c) x in
      let R = in_turn (emits_inner c) (replaced_in v p) in
      emits_as c n (record { note = record { refusal = 0; made = nested_makes κ n; entry = nested_entry κ n; excluded = Items.none }; result = nested_sequence κ n }) (step_nested c n refl h t o)
      ∙ ap₂ (λ (e d : Emit). e ▷ d)
      (nested_handed κ refl c.mark n v p a (ap is_empty (sym a) ∙ found_or_none q h ∙ ap not o))
      (ap (stays c) (nested_result at op q x)
      ∙ stays_sequence c (Items.item left (each (from_reference κ) os))
      ∙ ap₂ (λ (k : ℕ) (e : Emit). say (puts (28 ∷ 1 ∷ wide_bytes (suc k))) ▷ e) (count_each (from_reference κ) os ∙ ap count a)
      (more_items (inner c) left (each (from_reference κ) os)
      ∙ ap₂ (λ (e d : Emit). e ▷ d)
      (inside_assigns c at op (replaced_below κ q) x (replaced_clear κ q h) ∙ ap (λ (e : Emit). assign_head op ▷ e ▷ X) b)
      (from_gathered c os (nearest_solid true (depth q) q) ∙ ap (in_turn (emits_inner c)) a)
      ∙ then_assoc (assign_head op) (seen ▷ X) R
      ∙ ap (λ (e : Emit). assign_head op ▷ e) (then_assoc seen X R)))

  -- a target that is no object with rest, with one below
  pub assignment_nested : (at op : ℕ) (p x : Node) → has_array_rest_over_object_rest p ≡ false → is_top p ≡ false → has_object_rest p ≡ true
      → emits c (assignment_at at op p x) ≡ emits_nest c replacing op p (emits (inner c) x)
  unfolding viewed
  assignment_nested at op p x h t o = nest_done replacing at op p x p h t o (outermost_reached p) (emits_viewed (inner c) (context_of c) replacing p)

-- ---- a target that is an object with rest

pub rest_top : (at : ℕ) (ps : Items) (r : Node) → is_top (object_rest_at at ps r) ≡ true
unfolding is_top is stands stands_in
rest_top at ps r = refl

module _ (c : Place) where
  -- without its rest, its parts replaced: some objects below arrays are left, or none
  target_done : (at : ℕ) (ps : Items) (r : Node) → has_array_rest_over_object_rest (object_rest_at at ps r) ≡ false
      → emits (inner c) (assign (left_over_of (context_of c) (object_rest_at at ps r)) (temporary [] 3 at)) ≡ emits_target c (object_rest_at at ps r)
  unfolding emits_target
  target_done at ps r h =
      let κ = context_of c in
      let p = object_rest_at at ps r in
      let x = left_over_of κ p in
      let t = temporary [] 3 at in
      let o = left_over κ at ps r h in
      let found : not (has_object_rest x) ≡ is_empty (reached_in in_arrays p) = sym (found_or_none x o) ∙ ap is_empty (left_found κ at ps r) in
      by_test (has_object_rest x)
      (λ b. rw (sym (sym (ap not b) ∙ found))
      (nest_done (inner c) taking 0 1 x t p o (left_no_top κ at ps r) b (left_found κ at ps r)
      (ap (emits (inner (inner c))) (replaced_same_path (context_of (inner c)) κ refl x ∙ left_viewed κ at ps r) ∙ emits_viewed (inner (inner c)) κ taking p)
      ∙ ap (λ (s : Emit). emits_nest (inner c) taking 1 p s) (says_cell_lem (inner (inner c)) [] 3 at)))
      (λ b. rw (sym (sym (ap not b) ∙ found))
      (inside_assigns c 0 1 x t b
      ∙ ap₂ (λ (e s : Emit). assign_head 1 ▷ e ▷ s)
      (ap (emits (inner c)) (sym (replaced_nothing κ x b) ∙ left_viewed κ at ps r) ∙ emits_viewed (inner c) κ taking p)
      (says_cell_lem (inner c) [] 3 at)))

  -- one way each
  pub target_nested : (p : Node) → is_empty (reached_in in_arrays p) ≡ false → emits_target c p ≡ emits_nest (inner c) taking 1 p (says_cell 3 (position p))
  unfolding emits_target
  target_nested p b = rw b refl

  pub target_kept : (p : Node) → is_empty (reached_in in_arrays p) ≡ true → emits_target c p ≡ assign_head 1 ▷ emits_view (inner c) taking p ▷ says_cell 3 (position p)
  unfolding emits_target
  target_kept p b = rw b refl

  -- its rest; it is no pattern
  pub rest_done : (at : ℕ) (ps : Items) (r : Node) → shape r ≡ leaf
      → emits_rest_of c (object_rest_at at ps r) ≡ assign_head 1 ▷ emits (inner c) r ▷ emits_rest (inner c) at ps (says_cell 3 at)
  unfolding emits_rest_of node_at_of items_at_of piece_in inner
  rest_done at ps r e =
      let o = object_rest_at at ps r in
      inside_assigns c 0 1 r (rest_value (context_of c) o (temporary [] 3 at)) (has_leaf_at r e)
      ∙ ap (λ (x : Emit). assign_head 1 ▷ emits (inner c) r ▷ x)
      (rest_value_lem (inner c) (context_of c) o (temporary [] 3 at) refl ∙ ap (λ (s : Emit). emits_rest (inner c) at ps s) (says_cell_lem (inner (inner c)) [] 3 at))

  -- ---- the whole of it

  top_result : (at op : ℕ) (p x : Node)
      → top_sequence (context_of c) (assignment_at at op p x)
      ≡ sequence (Items.item (assign (value_of (context_of c) p) x) (Items.item (assign (left_over_of (context_of c) p) (value_of (context_of c) p))
      (each (from_reference (context_of c)) (parts_of p)
      +++ Items.item (assign (rest p) (rest_value (context_of c) p (value_of (context_of c) p))) (cond c.statement Items.none (only (value_of (context_of c) p))))))
  unfolding top_sequence node_at_of piece_in
  top_result at op p x = refl

  count_tail : (f : Node → Node) (is : Items) (m t : Node) (s : Bool) → count (each f is +++ Items.item m (cond s Items.none (only t))) ≡ suc (cond s (count is) (suc (count is)))
  unfolding count
  count_tail f is m t true = let a = count_append (each f is) (Items.item m Items.none) in let b = count_each f is in let z : count (Items.item m Items.none) ≡ 1 = refl in omega arith
  count_tail f is m t false = let a = count_append (each f is) (Items.item m (only t)) in let b = count_each f is in let z : count (Items.item m (only t)) ≡ 2 = refl in omega arith

  read_done : (path : List ℕ) (at : ℕ) (s : Bool) → emits_items false (inner c) (cond s Items.none (only (temporary path 3 at))) ≡ cond s (say []) (says_cell 3 at)
  read_done path at true = no_items false (inner c)
  read_done path at false = only_item (inner c) (temporary path 3 at) ∙ says_cell_lem (inner c) path 3 at

  value_done : (at : ℕ) (x : Node) → emits (inner c) (assign (temporary [] 3 at) x) ≡ assign_head 1 ▷ says_cell 3 at ▷ emits (inner c) x
  value_done at x =
      inside_assigns c 0 1 (temporary [] 3 at) x (temporary_has [] 3 at) ∙ ap (λ (e : Emit). assign_head 1 ▷ e ▷ emits (inner c) x) (says_cell_lem (inner c) [] 3 at)

  parts_done : (p : Node) → emits_items false (inner c) (each (from_reference (context_of c)) (parts_of p)) ≡ over_parts (emits_inner c) p
  unfolding over_parts
  parts_done p = from_gathered c (parts_of p) (parts_solid p) ∙ ap (in_turn (emits_inner c)) (parts_reached p)

  rest_said : (p : Node) → emits (inner c) (assign (rest p) (rest_value (context_of c) p (temporary [] 3 (position p)))) ≡ emits_rest_of c p
  unfolding emits_rest_of
  rest_said p = refl

  pub assignment_top : (at op pat : ℕ) (ps : Items) (r x : Node) → has_array_rest_over_object_rest (object_rest_at pat ps r) ≡ false
      → keys_refusal (object_rest_at pat ps r) ≡ 0
      → emits c (assignment_at at op (object_rest_at pat ps r) x) ≡ emits_top c (object_rest_at pat ps r) (emits (inner c) x)
  unfolding emits_top top_count parts_count top_refusal is node_at_of piece_in count
  assignment_top at op pat ps r x h l =
      let κ = context_of c in
      let p = object_rest_at pat ps r in
      let n = assignment_at at op p x in
      let t = value_of κ p in
      let m = assign (rest p) (rest_value κ p t) in
      let qs = each (from_reference κ) (parts_of p) in
      let last = Items.item m (cond c.statement Items.none (only t)) in
      let R = over_parts (emits_inner c) p ▷ emits_rest_of c p ▷ cond c.statement (say []) (says_cell 3 pat) in
      emits_as c n (record { note = record { refusal = 0; made = top_makes κ n; entry = top_entry κ n; excluded = top_excludes κ n }; result = top_sequence κ n })
      (step_top_lem c n refl h (rest_top pat ps r) ∙ top_steps c n refl l)
      ∙ ap₂ (λ (e d : Emit). e ▷ d)
      (top_handed κ refl c.mark n (parts_reached p))
      (ap (stays c) (top_result at op p x)
      ∙ stays_sequence c (Items.item (assign t x) (Items.item (assign (left_over_of κ p) t) (qs +++ last)))
      ∙ ap₂ (λ (k : ℕ) (e : Emit). say (puts (28 ∷ 1 ∷ wide_bytes (suc (suc k)))) ▷ e)
      (count_tail (from_reference κ) (parts_of p) m t c.statement ∙ ap (λ (is : Items). suc (cond c.statement (count is) (suc (count is)))) (parts_reached p))
      (more_items (inner c) (assign t x) (Items.item (assign (left_over_of κ p) t) (qs +++ last))
      ∙ ap₂ (λ (e d : Emit). e ▷ d) (value_done pat x)
      (more_items (inner c) (assign (left_over_of κ p) t) (qs +++ last)
      ∙ ap₂ (λ (e d : Emit). e ▷ d) (target_done pat ps r h)
      (items_append false (inner c) qs last
      ∙ ap₂ (λ (e d : Emit). e ▷ d) (parts_done p)
      (more_items (inner c) m (cond c.statement Items.none (only t)) ∙ ap₂ (λ (e d : Emit). e ▷ d) (rest_said p) (read_done [] pat c.statement))))
      ∙ then_assoc (assign_head 1) (says_cell 3 pat ▷ emits (inner c) x) (emits_target c p ▷ R)
      ∙ ap (λ (e : Emit). assign_head 1 ▷ e) (then_assoc (says_cell 3 pat) (emits (inner c) x) (emits_target c p ▷ R))))

-- ---- an object's own assignment is the same rule, with the temporary in its place for the value

module _ (c : Place) where
  pub inner_done : (at : ℕ) (ps : Items) (r : Node) → has_array_rest_over_object_rest (object_rest_at at ps r) ≡ false → keys_refusal (object_rest_at at ps r) ≡ 0
      → emits_inner c (object_rest_at at ps r) ≡ emits_top (inner c) (object_rest_at at ps r) (says_cell 1 at)
  unfolding emits_inner
  inner_done at ps r h l =
      let p = object_rest_at at ps r in
      assignment_top (inner c) 0 1 at ps r (temporary [] 1 at) h l
      ∙ ap (λ (s : Emit). emits_top (inner c) p s) (says_cell_lem (inner (inner c)) [] 1 at)

  pub inner_refused : (at : ℕ) (ps : Items) (r : Node) (number : ℕ) → 0 < number → has_array_rest_over_object_rest (object_rest_at at ps r) ≡ false
      → keys_refusal (object_rest_at at ps r) ≡ number → emits_inner c (object_rest_at at ps r) ≡ say (refused number ++ puts (0 ∷ 0 ∷ []))
  unfolding emits_inner top_refusal is node_at_of piece_in
  inner_refused at ps r number z h l =
      let n = assign (object_rest_at at ps r) (temporary [] 1 at) in
      assignment_refused_keys (inner c) n refl number z h (rest_top at ps r) l
