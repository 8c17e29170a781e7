-- Refusals 5, 6 and 11 are met where the table says so, and nowhere else.
-- Assumes nothing.
use mathlib.Core.Path.{◌≡◌, refl, sym, ap, subst, ◌∙◌}
use mathlib.Core.Bool.{Bool, true, false, cond, ◌||◌, true≢false}
use mathlib.Core.List.{List, [], ◌∷◌, ◌++◌}
use mathlib.Core.Logic.{◌⊎◌, ⊎_elim}
use mathlib.Core.Logic.◌⊎◌.{inl, inr}
use Prim.Native.Nat.{ℕ, zero, suc, ◌+◌, ◌<◌}
use native.Mathlib.Omega.{arith}
use lib.Dec.{eqb}
use borrow.Author.Tests.{eqb-true, eq-eqb}
use Rattle.tree.specs.Tree.{Node, Fields, Piece, Items}
use Rattle.tree.specs.Tree.Node.{node}
use Rattle.tree.specs.Grammar.Stage.{input}
use Rattle.tree.specs.Read.{Got, read_tree}
use Rattle.tree.specs.Read.Got.{got, refused}
use Rattle.tree.specs.Read.Refusal.{not_a_tree, too_deep}
use Rattle.lowering.specs.Made.{Context}
use Rattle.lowering.specs.Parts.{kind, is, node_at_of}
use Rattle.lowering.specs.Patterns.{has_object_rest, has_array_rest_over_object_rest}
use Rattle.lowering.specs.Declarations.{declaration_refusal}
use Rattle.lowering.specs.Assignments.{is_top, target, top_refusal}
use Rattle.lowering.specs.Walk.{Note, Walked, Rule, rule_of, rewrite, within, each_item_of, each_piece, each_field, inside, walk, step_declaration, step_top, step_assignment, step_for}
use Rattle.lowering.specs.Walk.Rule.{literals, declarations, assignments, functions, arrows, catches, fors, nowhere}
use Rattle.lowering.specs.Weight.{weight, walked}
use Rattle.lowering.specs.Collect.{Visit, new_in, new_in_piece, is_container, mark_of, marked, visits, visits_fields, visits_piece, visits_items, bare, first_refusal, entries, excluded_in}
use Rattle.lowering.specs.Answer.{Lent, Result, fits, fitted, collected, after_walk, top, in_force, after_reading, lowering, outcome_of, outcome}
use Rattle.lowering.specs.Answer.Result.{refusal, lowered}
use Rattle.lowering.specs.Table.{Meets, MeetsIn, MeetsField, MeetsPiece, MeetsItem, TreeMeets, Five, AtKeys, Six, Eleven, Admitted}
use Rattle.lowering.specs.Table.Meets.{here, below}
use Rattle.lowering.proofs.Cases.{by_number, by_test, by_rule_lem, or_other, rule_4, rule_27}
use Rattle.lowering.proofs.KeyRefusals.{ByKeys, declaration_by, top_by}
use Rattle.lowering.proofs.Falls.{walked_is}
use Rattle.lowering.proofs.Answers.{ByWalk, walk_refuses}
use Rattle.lowering.proofs.RefusalOrder.{by_order, reading_decides}

-- ---- the first refusal of two lists

-- of a list whose first note has the refusal k, which b says is 0, and whose other notes have the first refusal m
abbrev choice : Bool → ℕ → ℕ → ℕ
choice b k m = elim b [ true ↦ m | false ↦ k ]

abbrev first_of : ℕ → ℕ → ℕ
first_of k m = choice (eqb k 0) k m

of_either : (r k m : ℕ) → first_of k m ≡ r → (k ≡ r) ⊎ (m ≡ r)
of_either r k m e = go (eqb k 0) e
  where
    go : (b : Bool) → choice b k m ≡ r → (k ≡ r) ⊎ (m ≡ r)
    go true e = inr e
    go false e = inl e

-- a refusal that is not 0 is the first
of_first : (k m : ℕ) → 0 < k → 0 < first_of k m
of_first k m h = go (eqb k 0) (eqb-true k 0)
  where
    go : (b : Bool) → (b ≡ true → k ≡ 0) → 0 < choice b k m
    go true z = let e = z refl in absurd (omega arith)
    go false z = h

of_rest : (k m : ℕ) → 0 < m → 0 < first_of k m
of_rest zero m h = h
of_rest (suc k) m h = of_first (suc k) m (omega arith)

first_in : (r : ℕ) (us vs : List Visit) → first_refusal (us ++ vs) ≡ r → (first_refusal us ≡ r) ⊎ (first_refusal vs ≡ r)
unfolding first_refusal
first_in r [] vs e = inr e
first_in r (u ∷ us) vs e = go (eqb u.note.refusal 0) (first_in r us vs) e
  where
    k : ℕ
    k = u.note.refusal

    go : (b : Bool) → (first_refusal (us ++ vs) ≡ r → (first_refusal us ≡ r) ⊎ (first_refusal vs ≡ r))
        → choice b k (first_refusal (us ++ vs)) ≡ r → (choice b k (first_refusal us) ≡ r) ⊎ (first_refusal vs ≡ r)
    go true h e = h e
    go false h e = inl e

first_left : (us vs : List Visit) → 0 < first_refusal us → 0 < first_refusal (us ++ vs)
unfolding first_refusal
first_left [] vs h = absurd (omega arith)
first_left (u ∷ us) vs h = go (eqb u.note.refusal 0) (first_left us vs) h
  where
    k : ℕ
    k = u.note.refusal

    go : (b : Bool) → (0 < first_refusal us → 0 < first_refusal (us ++ vs)) → 0 < choice b k (first_refusal us) → 0 < choice b k (first_refusal (us ++ vs))
    go true f h = f h
    go false f h = h

first_right : (us vs : List Visit) → 0 < first_refusal vs → 0 < first_refusal (us ++ vs)
unfolding first_refusal
first_right [] vs h = h
first_right (u ∷ us) vs h = of_rest u.note.refusal (first_refusal (us ++ vs)) (first_right us vs h)

pub no_refusal : (us vs : List Visit) → first_refusal (us ++ vs) ≡ 0 → (first_refusal us ≡ 0) × (first_refusal vs ≡ 0)
unfolding first_refusal
no_refusal [] vs h = (refl, h)
no_refusal (u ∷ us) vs h =
    by_test (eqb u.note.refusal 0)
    (λ e. let r = no_refusal us vs (rw (e, first_refusal) at h) in (rw (e, first_refusal) r.0, r.1))
    (λ e. absurd (true≢false (sym (eq-eqb u.note.refusal 0 (rw (e, first_refusal) at h)) ∙ e)))

pub no_refusal_here : (u : Visit) (us : List Visit) → first_refusal (u ∷ us) ≡ 0 → (u.note.refusal ≡ 0) × (first_refusal us ≡ 0)
unfolding first_refusal
no_refusal_here u us h =
    by_test (eqb u.note.refusal 0)
    (λ e. (eqb-true u.note.refusal 0 e, rw (e, first_refusal) at h))
    (λ e. (rw (e, first_refusal) at h, absurd (true≢false (sym (eq-eqb u.note.refusal 0 (rw (e, first_refusal) at h)) ∙ e))))

-- ---- the first refusal of a walk is one of a node that it meets

module _ (P : Context → Node → Type 0) (r : ℕ) (refuses : 0 < r) where
  -- what is refused by r has met a node of which P holds
  abbrev From : Walked → Context → Node → Type 0
  From w c n = (next m : ℕ) → first_refusal (visits next m w) ≡ r → Meets P c n

  from_items : (w : ℕ → Node → Walked) (place : ℕ → Context) → ((j : ℕ) (n : Node) → From (w j n) (place j) n)
      → (is : Items) (j : ℕ) (l : Bool) (next m : ℕ) → first_refusal (visits_items l next m (each_item_of w j is)) ≡ r → MeetsItem P place j is
  unfolding each_item_of visits first_refusal
  from_items w place h Items.none j l next m e = absurd (omega arith)
  from_items w place h (Items.hole is) j l next m e = MeetsItem.hole (from_items w place h is (suc j) l next m e)
  from_items w place h (Items.item n is) j l next m e =
      let here = cond l (marked next (mark_of (w j n))) m in
      let after = next + new_in (w j n) in
      ⊎_elim
      (λ a. MeetsItem.first (h j n next here a))
      (λ b. MeetsItem.after (from_items w place h is (suc j) l after m b))
      (first_in r (visits next here (w j n)) (visits_items l after m (each_item_of w (suc j) is)) e)

  from_piece : (w : ℕ → Node → Walked) (place : ℕ → Context) → ((j : ℕ) (n : Node) → From (w j n) (place j) n)
      → (p : Piece) (l : Bool) (next m : ℕ) → first_refusal (visits_piece l next m (each_piece w p)) ≡ r → MeetsPiece P place p
  unfolding each_piece visits first_refusal
  from_piece w place h (Piece.one n) l next m e = MeetsPiece.one (h 0 n next m e)
  from_piece w place h (Piece.list is) l next m e = MeetsPiece.list (from_items w place h is 0 l next m e)
  from_piece w place h (Piece.text bs) l next m e = absurd (omega arith)
  from_piece w place h (Piece.byte b) l next m e = absurd (omega arith)
  from_piece w place h (Piece.mark b) l next m e = absurd (omega arith)
  from_piece w place h (Piece.number b) l next m e = absurd (omega arith)

  from_fields : (w : ℕ → ℕ → Node → Walked) (place : ℕ → ℕ → Context) → ((i j : ℕ) (n : Node) → From (w i j n) (place i j) n)
      → (fs : Fields) (i : ℕ) (l : Bool) (next m : ℕ) → first_refusal (visits_fields l next m (each_field w i fs)) ≡ r → MeetsField P place i fs
  unfolding each_field visits first_refusal
  from_fields w place h Fields.done i l next m e = absurd (omega arith)
  from_fields w place h (Fields.absent fs) i l next m e = MeetsField.absent (from_fields w place h fs (suc i) l next m e)
  from_fields w place h (Fields.field p fs) i l next m e =
      let after = next + new_in_piece (each_piece (w i) p) in
      ⊎_elim
      (λ a. MeetsField.this (from_piece (w i) (place i) (h i) p l next m a))
      (λ b. MeetsField.later (from_fields w place h fs (suc i) l after m b))
      (first_in r (visits_piece l next m (each_piece (w i) p)) (visits_fields l after m (each_field w (suc i) fs)) e)

  from_node : (note : Note) (w : ℕ → ℕ → Node → Walked) (place : ℕ → ℕ → Context) → ((i j : ℕ) (n : Node) → From (w i j n) (place i j) n)
      → (n : Node) (next m : ℕ) → first_refusal (visits next m (inside note w n)) ≡ r → (note.refusal ≡ r) ⊎ MeetsIn P place n
  unfolding inside visits first_refusal
  from_node note w place h (node at k fs) next m e =
      ⊎_elim
      (λ a. inl a)
      (λ b. inr (MeetsIn.parts (from_fields w place h fs 0 (is_container k) next m b)))
      (of_either r note.refusal (first_refusal (visits_fields (is_container k) next m (each_field w 0 fs))) e)

  module _ (step : (c : Context) (n : Node) → (rewrite c n).note.refusal ≡ r → P c n) where
    from_walk : (f : ℕ) (c : Context) (n : Node) → From (walk f c n) c n
    unfolding walk visits first_refusal
    from_walk zero c n next m e = absurd (omega arith)
    from_walk (suc f) c n next m e =
        let s = rewrite c n in
        ⊎_elim
        (λ a. here (step c n a))
        (λ b. below b)
        (from_node s.note (λ i j k. walk f (within c s.result i j) k) (within c s.result)
        (λ i j k. from_walk f (within c s.result i j) k) s.result next m e)

    -- a walk that is refused by r meets a node of which P holds, if P holds of the nodes whose rewriting refuses by r
    pub refused_where : (c : Context) (n : Node) (next m : ℕ) → first_refusal (visits next m (walked c n)) ≡ r → Meets P c n
    unfolding walked
    refused_where c n next m e = from_walk (weight n) c n next m e

-- ---- a walk that meets a node that is refused is refused

module _ (P : Context → Node → Type 0) (step : (c : Context) (n : Node) → P c n → 0 < (rewrite c n).note.refusal) where
  -- the walk of the parts of a node that stand at these places
  abbrev at_place : (ℕ → ℕ → Context) → ℕ → ℕ → Node → Walked
  at_place place i j m = walked (place i j) m

  note_refused : (note : Note) (w : ℕ → ℕ → Node → Walked) (n : Node) → 0 < note.refusal → (next m : ℕ) → 0 < first_refusal (visits next m (inside note w n))
  unfolding inside visits first_refusal
  note_refused note w (node at k fs) h next m = of_first note.refusal (first_refusal (visits_fields (is_container k) next m (each_field w 0 fs))) h

  mutual
    unfolding inside each_field each_piece each_item_of visits first_refusal

    pub meets_refused : {c : Context} {n : Node} → Meets P c n → (next m : ℕ) → 0 < first_refusal (visits next m (walked c n))
    meets_refused {c} {n} (here p) next m =
        let s = rewrite c n in
        rw (walked_is c n) (note_refused s.note (at_place (within c s.result)) s.result (step c n p) next m)
    meets_refused {c} {n} (below h) next m = rw (walked_is c n) (in_refused (rewrite c n).note h next m)

    in_refused : (note : Note) {place : ℕ → ℕ → Context} {n : Node} → MeetsIn P place n → (next m : ℕ) → 0 < first_refusal (visits next m (inside note (at_place place) n))
    in_refused note (MeetsIn.parts {place} {at} {k} {fs} h) next m =
        of_rest note.refusal (first_refusal (visits_fields (is_container k) next m (each_field (at_place place) 0 fs))) (field_refused h (is_container k) next m)

    field_refused : {place : ℕ → ℕ → Context} {i : ℕ} {fs : Fields} → MeetsField P place i fs → (l : Bool) (next m : ℕ)
        → 0 < first_refusal (visits_fields l next m (each_field (at_place place) i fs))
    field_refused (MeetsField.absent h) l next m = field_refused h l next m
    field_refused (MeetsField.this {place} {i} {p} {fs} h) l next m = first_left (visits_piece l next m (each_piece (at_place place i) p)) _ (piece_refused h l next m)
    field_refused (MeetsField.later {place} {i} {p} {fs} h) l next m =
        first_right (visits_piece l next m (each_piece (at_place place i) p)) _ (field_refused h l (next + new_in_piece (each_piece (at_place place i) p)) m)

    piece_refused : {place : ℕ → Context} {p : Piece} → MeetsPiece P place p → (l : Bool) (next m : ℕ)
        → 0 < first_refusal (visits_piece l next m (each_piece (λ j k. walked (place j) k) p))
    piece_refused (MeetsPiece.one h) l next m = meets_refused h next m
    piece_refused (MeetsPiece.list h) l next m = item_refused h l next m

    item_refused : {place : ℕ → Context} {j : ℕ} {is : Items} → MeetsItem P place j is → (l : Bool) (next m : ℕ)
        → 0 < first_refusal (visits_items l next m (each_item_of (λ j k. walked (place j) k) j is))
    item_refused (MeetsItem.hole h) l next m = item_refused h l next m
    item_refused (MeetsItem.first {place} {j} {n} {is} h) l next m =
        first_left (visits next (cond l (marked next (mark_of (walked (place j) n))) m) (walked (place j) n)) _
        (meets_refused h next (cond l (marked next (mark_of (walked (place j) n))) m))
    item_refused (MeetsItem.after {place} {j} {n} {is} h) l next m =
        first_right (visits next (cond l (marked next (mark_of (walked (place j) n))) m) (walked (place j) n)) _
        (item_refused h l (next + new_in (walked (place j) n)) m)

-- ---- the kinds of the rules that refuse

-- what a rule says of the tests of the kind: 4, 27, and 7 or 8
abbrev Kinds : Rule → Bool → Bool → Bool → Type 0
Kinds literals d a o = Unit {0}
Kinds declarations d a o = d ≡ true
Kinds assignments d a o = a ≡ true
Kinds functions d a o = Unit {0}
Kinds arrows d a o = Unit {0}
Kinds catches d a o = Unit {0}
Kinds fors d a o = o ≡ true
Kinds nowhere d a o = Unit {0}

kinds : (k : ℕ) → Kinds (rule_of k) (eqb k 4) (eqb k 27) (eqb k 7 || eqb k 8)
unfolding rule_of
kinds k = go (eqb k 24) (eqb k 4) (eqb k 27) (eqb k 14) (eqb k 17) (eqb k 10) (eqb k 7 || eqb k 8)
  where
    go : (l d a f r c o : Bool)
        → Kinds (cond l literals (cond d declarations (cond a assignments (cond f functions (cond r arrows (cond c catches (cond o fors nowhere))))))) d a o
    go true d a f r c o = tt
    go false true a f r c o = refl
    go false false true f r c o = refl
    go false false false true r c o = tt
    go false false false false true c o = tt
    go false false false false false true o = tt
    go false false false false false false true = refl
    go false false false false false false false = tt

kinds_at_lem : (n : Node) (r : Rule) → rule_of (kind n) ≡ r → Kinds r (is 4 n) (is 27 n) (is 7 n || is 8 n)
unfolding is
kinds_at_lem n r e = rw e at (kinds (kind n))

rule_for : (n : Node) → is 7 n || is 8 n ≡ true → rule_of (kind n) ≡ fors
unfolding is rule_of
rule_for n h =
    by_test (eqb (kind n) 7)
    (λ e. ap rule_of (eqb-true (kind n) 7 e))
    (λ e. ap rule_of (eqb-true (kind n) 8 (or_other (eqb (kind n) 7) (eqb (kind n) 8) e h)))

-- ---- what the refusal of one rewriting says of the node

-- where a rewriting refuses, by the number
abbrev Says : Context → Node → ℕ → Type 0
Says c n r = (r ≡ 5 → Five c n) × (r ≡ 6 → Six c n) × (r ≡ 11 → Eleven c n)

module _ (c : Context) (n : Node) where
  silent : Says c n 0
  silent = (λ e. absurd (omega arith), λ e. absurd (omega arith), λ e. absurd (omega arith))

  says_five : Five c n → Says c n 5
  says_five h = (λ e. h, λ e. absurd (omega arith), λ e. absurd (omega arith))

  says_keys : (r : ℕ) → ByKeys r → AtKeys r c n → Says c n r
  says_keys r ByKeys.no h = silent
  says_keys r ByKeys.six h = (λ e. absurd (omega arith), λ e. h, λ e. absurd (omega arith))
  says_keys r ByKeys.eleven h = (λ e. absurd (omega arith), λ e. absurd (omega arith), λ e. h)

  declaration_says : is 4 n ≡ true → Says c n (step_declaration c n).note.refusal
  unfolding step_declaration
  declaration_says k =
      by_number (declaration_refusal c n)
      (λ r e. rw (e, step_declaration) (says_keys (suc r) (subst ByKeys e (declaration_by c n)) (AtKeys.declaration k e)))
      (λ e. rw (e, step_declaration) silent)

  top_says : is 27 n ≡ true → has_array_rest_over_object_rest (target n) ≡ false → is_top (target n) ≡ true → Says c n (step_top c n).note.refusal
  unfolding step_top
  top_says k a t =
      by_number (top_refusal n)
      (λ r e. rw (e, step_top) (says_keys (suc r) (subst ByKeys e (top_by n)) (AtKeys.assignment k a t e)))
      (λ e. rw (e, step_top) silent)

  assignment_says : is 27 n ≡ true → Says c n (step_assignment c n).note.refusal
  unfolding step_assignment
  assignment_says k =
      by_test (has_array_rest_over_object_rest (target n))
      (λ a. rw (a, step_assignment) (says_five (Five.assignment k a)))
      (λ a. rw (a, step_assignment)
      (by_test (is_top (target n))
      (λ t. rw t (top_says k a t))
      (λ t. rw t (by_test (has_object_rest (target n)) (λ h. rw h silent) (λ h. rw h silent)))))

  for_says : is 7 n || is 8 n ≡ true → Says c n (step_for c n).note.refusal
  unfolding step_for
  for_says k =
      by_test (is 4 (node_at_of 1 n))
      (λ d. rw (d, step_for) silent)
      (λ d. rw (d, step_for) (by_test (has_array_rest_over_object_rest (node_at_of 1 n)) (λ a. rw a (says_five (Five.head k d a))) (λ a. rw a silent)))

  rewrite_says : Says c n (rewrite c n).note.refusal
  unfolding rewrite
  rewrite_says =
      by_rule_lem (rule_of (kind n))
      (λ e. rw (e, rewrite) silent)
      (λ e. rw (e, rewrite) (declaration_says (kinds_at_lem n declarations e)))
      (λ e. rw (e, rewrite) (assignment_says (kinds_at_lem n assignments e)))
      (λ e. rw (e, rewrite) silent)
      (λ e. rw (e, rewrite) silent)
      (λ e. rw (e, rewrite) silent)
      (λ e. rw (e, rewrite) (for_says (kinds_at_lem n fors e)))
      (λ e. rw (e, rewrite) silent)

  -- and what the node says of its rewriting
  pub five_refuses : Five c n → (rewrite c n).note.refusal ≡ 5
  unfolding rewrite step_assignment step_for
  five_refuses (Five.assignment k a) = rw (rule_27 n k, rewrite, a, step_assignment) refl
  five_refuses (Five.head k d a) = rw (rule_for n k, rewrite, d, step_for, a) refl

  pub keys_refuse : (r : ℕ) → AtKeys (suc r) c n → (rewrite c n).note.refusal ≡ suc r
  unfolding rewrite step_declaration step_assignment step_top
  keys_refuse r (AtKeys.declaration k e) = rw (rule_4 n k, rewrite, e, step_declaration) refl
  keys_refuse r (AtKeys.assignment k a t e) = rw (rule_27 n k, rewrite, a, step_assignment, t, e, step_top) refl

-- ---- the table's lines

-- 5 is met only where an array rest with an object rest below it stands in a target
pub five_where : (c : Context) (n : Node) (next m : ℕ) → first_refusal (visits next m (walked c n)) ≡ 5 → Meets Five c n
five_where c n next m e = refused_where Five 5 (omega arith) (λ d k. (rewrite_says d k).0) c n next m e

-- 6 is met only where the first key that is refused is a Literal without form
pub six_where : (c : Context) (n : Node) (next m : ℕ) → first_refusal (visits next m (walked c n)) ≡ 6 → Meets Six c n
six_where c n next m e = refused_where Six 6 (omega arith) (λ d k. (rewrite_says d k).1) c n next m e

-- 11 only where it is one whose form differs from the string that is promised
pub eleven_where : (c : Context) (n : Node) (next m : ℕ) → first_refusal (visits next m (walked c n)) ≡ 11 → Meets Eleven c n
eleven_where c n next m e = refused_where Eleven 11 (omega arith) (λ d k. (rewrite_says d k).2) c n next m e

-- and where one of them stands the walk is refused
pub data OneMet (c : Context) (n : Node) : Type 0 where
  five : Meets Five c n → OneMet c n
  six : Meets Six c n → OneMet c n
  eleven : Meets Eleven c n → OneMet c n

pub refused_if : (c : Context) (n : Node) (next m : ℕ) → OneMet c n → 0 < first_refusal (visits next m (walked c n))
refused_if c n next m (OneMet.five f) = meets_refused Five (λ d k q. let e = five_refuses d k q in omega arith) f next m
refused_if c n next m (OneMet.six s) = meets_refused Six (λ d k q. let e = keys_refuse d k 5 q in omega arith) s next m
refused_if c n next m (OneMet.eleven s) = meets_refused Eleven (λ d k q. let e = keys_refuse d k 10 q in omega arith) s next m

-- and where none stands it is not
pub accepted_if : (c : Context) (n : Node) (next m : ℕ) → (OneMet c n → ⊥) → first_refusal (visits next m (walked c n)) ≡ 0
accepted_if c n next m f =
    go (first_refusal (visits next m (walked c n))) (walk_refuses next m c n) (five_where c n next m) (six_where c n next m) (eleven_where c n next m)
  where
    go : (x : ℕ) → ByWalk x → (x ≡ 5 → Meets Five c n) → (x ≡ 6 → Meets Six c n) → (x ≡ 11 → Meets Eleven c n) → x ≡ 0
    go x ByWalk.no a b d = refl
    go x ByWalk.five a b d = absurd (f (OneMet.five (a refl)))
    go x ByWalk.six a b d = absurd (f (OneMet.six (b refl)))
    go x ByWalk.eleven a b d = absurd (f (OneMet.eleven (d refl)))

-- ---- the answer

-- the answer that a result gives
abbrev answer_of : Result → ℕ
answer_of (refusal r) = r
answer_of (lowered h o t l) = 0

answer_is : (s : Lent) (x : Result) → (outcome_of s x).answer ≡ answer_of x
unfolding outcome_of
answer_is s (refusal r) = refl
answer_is s (lowered h o t l) = refl

-- a number that is the walk's alone
module _ (P : Context → Node → Type 0) (r : ℕ) (low : 4 < r) (seven : r ≡ 7 → ⊥) (nine : r ≡ 9 → ⊥)
    (law : (n : Node) (next : ℕ) → first_refusal (visits next 0 (walked top n)) ≡ r → Meets P top n) where
  fitted_not : (s : Lent) (h o : ℕ) (t l : List ℕ) → answer_of (fitted s h o t l) ≡ r → ⊥
  unfolding fitted
  fitted_not s h o t l e = go (fits s t l) e
    where
      go : (b : Bool) → answer_of (cond b (lowered h o t l) (refusal 7)) ≡ r → ⊥
      go true e = absurd (omega arith)
      go false e = seven (sym e)

  after_walk_lem : (o : ℕ) (s : Lent) (next : ℕ) (n : Node) → answer_of (after_walk o s next (walked top n)) ≡ r → Meets P top n
  unfolding after_walk collected
  after_walk_lem o s next n e = go (first_refusal (visits next 0 (walked top n))) (law n next) e
    where
      w : Walked
      w = walked top n

      go : (x : ℕ) → (x ≡ r → Meets P top n) → answer_of (elim x [
        | zero ↦ collected o s (bare next w) (entries (visits next 0 w)) (excluded_in (visits next 0 w))
        | suc y ↦ refusal (suc y)
      ]) ≡ r → Meets P top n
      go zero h e = absurd (fitted_not s _ o _ _ e)
      go (suc y) h e = h e

  after_reading_lem : (limit o : ℕ) (s : Lent) (tree : List ℕ) (g : Got Node) → read_tree input limit tree ≡ g → answer_of (after_reading o s g) ≡ r → TreeMeets P limit tree
  unfolding after_reading
  after_reading_lem limit o s tree (got n q next) h e = TreeMeets.accepted n q next h (after_walk_lem o s next n e)
  after_reading_lem limit o s tree (refused not_a_tree) h e = absurd (omega arith)
  after_reading_lem limit o s tree (refused too_deep) h e = absurd (omega arith)

  of_outcome : (limit o : ℕ) (tree : List ℕ) (s : Lent) → (outcome limit o tree s).answer ≡ r → TreeMeets P limit tree
  unfolding outcome
  of_outcome limit o tree s e =
      by_order limit o tree s (λ x. answer_of x ≡ r → TreeMeets P limit tree)
      (λ h. absurd (nine (sym h)))
      (λ h. absurd (omega arith))
      (λ h. absurd (omega arith))
      (after_reading_lem limit (in_force o) s tree (read_tree input limit tree) refl)
      (sym (answer_is s (lowering limit o tree s)) ∙ e)

-- 5, 6 and 11 are answered only for a tree that is accepted and has what the table says
pub answer_five : (limit o : ℕ) (tree : List ℕ) (s : Lent) → (outcome limit o tree s).answer ≡ 5 → TreeMeets Five limit tree
answer_five limit o tree s e = of_outcome Five 5 (omega arith) (λ z. absurd (omega arith)) (λ z. absurd (omega arith)) (λ n next. five_where top n next 0) limit o tree s e

pub answer_six : (limit o : ℕ) (tree : List ℕ) (s : Lent) → (outcome limit o tree s).answer ≡ 6 → TreeMeets Six limit tree
answer_six limit o tree s e = of_outcome Six 6 (omega arith) (λ z. absurd (omega arith)) (λ z. absurd (omega arith)) (λ n next. six_where top n next 0) limit o tree s e

pub answer_eleven : (limit o : ℕ) (tree : List ℕ) (s : Lent) → (outcome limit o tree s).answer ≡ 11 → TreeMeets Eleven limit tree
answer_eleven limit o tree s e = of_outcome Eleven 11 (omega arith) (λ z. absurd (omega arith)) (λ z. absurd (omega arith)) (λ n next. eleven_where top n next 0) limit o tree s e

-- a refusal of the walk is the answer, if limit, options and work are not refused
after_refusal : (o : ℕ) (s : Lent) (next : ℕ) (w : Walked) → 0 < first_refusal (visits next 0 w) → answer_of (after_walk o s next w) ≡ first_refusal (visits next 0 w)
unfolding after_walk
after_refusal o s next w h = go (first_refusal (visits next 0 w)) h
  where
    go : (x : ℕ) → 0 < x → answer_of (elim x [
      | zero ↦ collected o s (bare next w) (entries (visits next 0 w)) (excluded_in (visits next 0 w))
      | suc y ↦ refusal (suc y)
    ]) ≡ x
    go zero h = absurd (omega arith)
    go (suc y) h = refl

answer_of_lem : (limit o : ℕ) (tree : List ℕ) (s : Lent) (n : Node) (q next : ℕ) → Admitted limit o s → read_tree input limit tree ≡ got n q next
    → 0 < first_refusal (visits next 0 (walked top n)) → (outcome limit o tree s).answer ≡ first_refusal (visits next 0 (walked top n))
unfolding outcome after_reading
answer_of_lem limit o tree s n q next a e p =
    answer_is s (lowering limit o tree s)
    ∙ (ap answer_of (reading_decides limit o tree s a) ∙ (ap (λ (g : Got Node). answer_of (after_reading (in_force o) s g)) e ∙ after_refusal (in_force o) s next (walked top n) p))

-- so for a tree that is accepted and has what the table says at 5, 6 or 11, one of the three is answered
pub data OneInTree (limit : ℕ) (tree : List ℕ) : Type 0 where
  five : TreeMeets Five limit tree → OneInTree limit tree
  six : TreeMeets Six limit tree → OneInTree limit tree
  eleven : TreeMeets Eleven limit tree → OneInTree limit tree

pub answer_if : (limit o : ℕ) (tree : List ℕ) (s : Lent) → Admitted limit o s → OneInTree limit tree
    → ByWalk (outcome limit o tree s).answer × (0 < (outcome limit o tree s).answer)
answer_if limit o tree s a one = of_one one
  where
    go : {P : Context → Node → Type 0} → TreeMeets P limit tree → ((n : Node) → Meets P top n → OneMet top n)
        → ByWalk (outcome limit o tree s).answer × (0 < (outcome limit o tree s).answer)
    go (TreeMeets.accepted n q next e p) f =
        let r = refused_if top n next 0 (f n p) in
        let b = answer_of_lem limit o tree s n q next a e r in
        (subst ByWalk (sym b) (walk_refuses next 0 top n), omega arith)

    of_one : OneInTree limit tree → ByWalk (outcome limit o tree s).answer × (0 < (outcome limit o tree s).answer)
    of_one (OneInTree.five m) = go m (λ n p. OneMet.five p)
    of_one (OneInTree.six m) = go m (λ n p. OneMet.six p)
    of_one (OneInTree.eleven m) = go m (λ n p. OneMet.eleven p)
