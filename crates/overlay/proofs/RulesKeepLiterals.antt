-- No rule loses a literal: it stands in what the rewriting leaves or in what it hands out, unless the rule refuses.
-- Assumes nothing.
use mathlib.Core.Path.{◌≡◌, refl, sym, ap, subst, ◌∙◌}
use mathlib.Core.Bool.{Bool, true, false, cond, ◌&&◌, ◌||◌, not}
use mathlib.Core.List.{[]}
use Prim.Native.Nat.{ℕ, zero, suc, ◌+◌, ◌≤◌, ◌<◌}
use native.Mathlib.Omega.{arith}
use lib.Dec.{eqb}
use borrow.Author.Tests.{eqb-true, not-true}
use Rattle.tree.specs.Tree.{Node, Fields, Piece, Items, depth}
use Rattle.tree.specs.Tree.Node.{node}
use Rattle.tree.specs.Tree.Fields.{done, absent, field}
use Rattle.tree.specs.Tree.Piece.{one, list, text, byte, mark, number}
use Rattle.tree.specs.Tree.Items.{none, hole, item}
use Rattle.lowering.specs.Parts.{is, piece_in, stands_in, change_in, as_node, as_items_of, node_at_of, items_at_of, stands, change, on_node, on_items, change_items, only, each, gather, any, ◌+++◌}
use Rattle.lowering.specs.Made.{Context, S, object, reference, value_of, assign, assigning, declared, sequence, var_of, let_of, returning, block, function_body}
use Rattle.lowering.specs.Literals.{opened, closed, scan, literal}
use Rattle.lowering.specs.Literals.Call.{no_call, call}
use Rattle.lowering.specs.Patterns.{shape, has_object_rest, has_array_rest_over_object_rest, rest, has_rest_of, with_values, replaced_below}
use Rattle.lowering.specs.Keys.{key_temporaries, taken}
use Rattle.lowering.specs.Rests.{rest_value}
use Rattle.lowering.specs.Declarations.{declarators, declaration, declaration_refusal}
use Rattle.lowering.specs.Assignments.{target, assigned, is_top, parts_of, top_refusal, parts_replaced, target_left, from_reference, top_sequence, top_entry, outermost, nested_sequence}
use Rattle.lowering.specs.Heads.{is_moved, moved, moved_from, moved_out_of, moved_pattern, left_behind, in_front, in_body, as_function_body, as_block, function, arrow, catch, declaring_head, assigning_head}
use Rattle.lowering.specs.Walk.{Step, rule_of, rewrite, step_declaration, step_top, step_assignment, step_for}
use Rattle.lowering.proofs.All.{other_changed}
use Rattle.overlay.specs.Plain.{has_hole}
use Rattle.overlay.proofs.LaidOn.{differ}
use Rattle.overlay.proofs.LiteralsCounted.{is_list, takes_in, takes, are_params, has_body, is_atom, changes_it, held, held_all, held_piece, held_items_of, held_parts, held_pattern, held_declarators, held_declarator, at_24, at_26, at_27, at_34, at_37, at_4, declarator_held, held_append, piece_all, change_less, change_more, node_most, only_held, two_all}
use Rattle.overlay.proofs.ViewsKeep.{View, view, object_view, array_view, default_view, leaf_view, pattern_most, declarator_most, declarator_kept, replaced_kept, top_kept, held_lets, lets_add, moved_kept}
use Rattle.lowering.proofs.ChangeLaws.{stands_changed, items_changed_in}
use Rattle.lowering.proofs.Cases.{not-false, by_test, or_left, or_right, and_left, and_right, by_number}
use Rattle.lowering.proofs.Clauses.{others}

abbrev nowhere_context : Context
nowhere_context = record { path = []; root = true; statement = false }

module _ (wanted : Node → Bool) where
  abbrev H : Node → ℕ
  H n = held wanted n

  abbrev HI : Items → ℕ
  HI is = held_items_of wanted is

  abbrev pub own : Node → ℕ
  own n = cond (wanted n) 1 0

  -- in the parts of a node; a Temporary has none
  unfoldable pub parts_held_of : Node → ℕ
  parts_held_of (node at k fs) = cond (eqb k 20) 0 (held_all wanted fs)

  -- ---- a node that is left as it stands

  items_most : (p : Piece) → HI (as_items_of p) ≤ held_piece wanted p
  unfolding held
  items_most (one n) = omega arith
  items_most (list n) = omega arith
  items_most (text n) = omega arith
  items_most (byte n) = omega arith
  items_most (mark n) = omega arith
  items_most (number n) = omega arith

  parts_most : (qs : Items) → held_parts wanted qs ≤ HI qs
  unfolding held
  parts_most none = omega arith
  parts_most (hole qs) = parts_most qs
  parts_most (item q qs) = let h = parts_most qs in let u = upper (is 35 q) (H q) in omega arith
    where
      upper : (b : Bool) (x : ℕ) → cond b x 0 ≤ x
      upper true x = omega arith
      upper false x = omega arith

  declarators_most : (ds : Items) → held_declarators wanted ds ≤ HI ds
  unfolding held
  declarators_most none = omega arith
  declarators_most (hole ds) = declarators_most ds
  declarators_most (item d ds) = let h = declarators_most ds in let u = declarator_most wanted nowhere_context d in omega arith

  next_two : (fs : Fields) → held_piece wanted (piece_in fs 1) + held_piece wanted (piece_in fs 2) ≤ held_all wanted fs
  unfolding held piece_in
  next_two done = omega arith
  next_two (absent fs) = let h = two_all wanted fs in omega arith
  next_two (field p fs) = let h = two_all wanted fs in omega arith

  stays_24 : (at : ℕ) (fs : Fields) → H (node at 24 fs) ≤ own (node at 24 fs) + parts_held_of (node at 24 fs)
  unfolding parts_held_of
  stays_24 at fs = let e = at_24 wanted at fs in let a = items_most (piece_in fs 0) in let b = piece_all wanted fs 0 in omega arith

  stays_26 : (at : ℕ) (fs : Fields) → H (node at 26 fs) ≤ parts_held_of (node at 26 fs)
  unfolding parts_held_of
  stays_26 at fs = let e = at_26 wanted at fs in let a = node_most wanted (piece_in fs 0) in let b = piece_all wanted fs 0 in omega arith

  stays_27 : (at : ℕ) (fs : Fields) → H (node at 27 fs) ≤ parts_held_of (node at 27 fs)
  unfolding parts_held_of
  stays_27 at fs = let e = at_27 wanted at fs in let a = node_most wanted (piece_in fs 1) in let d = node_most wanted (piece_in fs 2) in let b = next_two fs in omega arith

  stays_34 : (at : ℕ) (fs : Fields) → H (node at 34 fs) ≤ parts_held_of (node at 34 fs)
  unfolding parts_held_of
  stays_34 at fs =
      let e = at_34 wanted at fs in
      let q = parts_most (as_items_of (piece_in fs 0)) in
      let a = items_most (piece_in fs 0) in
      let d = node_most wanted (piece_in fs 1) in
      let b = two_all wanted fs in
      omega arith

  stays_37 : (at : ℕ) (fs : Fields) → H (node at 37 fs) ≤ parts_held_of (node at 37 fs)
  unfolding parts_held_of
  stays_37 at fs =
      let e = at_37 wanted at fs in
      let q = pattern_most wanted (as_node (piece_in fs 0)) in
      let a = node_most wanted (piece_in fs 0) in
      let d = node_most wanted (piece_in fs 1) in
      let b = two_all wanted fs in
      omega arith

  stays_4 : (at : ℕ) (fs : Fields) → H (node at 4 fs) ≤ own (node at 4 fs) + parts_held_of (node at 4 fs)
  unfolding parts_held_of
  stays_4 at fs =
      let e = at_4 wanted at fs in
      let q = declarators_most (as_items_of (piece_in fs 2)) in
      let a = items_most (piece_in fs 2) in
      let b = piece_all wanted fs 2 in
      omega arith

  pub stays : (n : Node) → H n ≤ own n + parts_held_of n
  unfolding held parts_held_of is_atom
  stays (node at k fs) =
      by_test (eqb k 24)
      (λ e. subst (λ (x : ℕ). H (node at x fs) ≤ own (node at x fs) + parts_held_of (node at x fs)) (sym (eqb-true k 24 e)) (stays_24 at fs))
      (λ e₁. by_test (eqb k 26)
      (λ e. subst (λ (x : ℕ). H (node at x fs) ≤ own (node at x fs) + parts_held_of (node at x fs)) (sym (eqb-true k 26 e)) (let s = stays_26 at fs in omega arith))
      (λ e₂. by_test (eqb k 27)
      (λ e. subst (λ (x : ℕ). H (node at x fs) ≤ own (node at x fs) + parts_held_of (node at x fs)) (sym (eqb-true k 27 e)) (let s = stays_27 at fs in omega arith))
      (λ e₃. by_test (eqb k 34)
      (λ e. subst (λ (x : ℕ). H (node at x fs) ≤ own (node at x fs) + parts_held_of (node at x fs)) (sym (eqb-true k 34 e)) (let s = stays_34 at fs in omega arith))
      (λ e₄. by_test (eqb k 37)
      (λ e. subst (λ (x : ℕ). H (node at x fs) ≤ own (node at x fs) + parts_held_of (node at x fs)) (sym (eqb-true k 37 e)) (let s = stays_37 at fs in omega arith))
      (λ e₅. by_test (eqb k 4)
      (λ e. subst (λ (x : ℕ). H (node at x fs) ≤ own (node at x fs) + parts_held_of (node at x fs)) (sym (eqb-true k 4 e)) (let s = stays_4 at fs in omega arith))
      (λ e₆. by_test (eqb k 20)
      (λ e. subst (λ (x : ℕ). H (node at x fs) ≤ own (node at x fs) + parts_held_of (node at x fs)) (sym (eqb-true k 20 e)) (omega arith))
      (λ e₇. rw (e₁, e₂, e₃, e₄, e₅, e₆, e₇) (rest_of (eqb k 13 || (eqb k 18 || false)) (has_body k fs) (changes_it wanted k fs)))))))))
    where
      rest_of : (a b d : Bool) → cond a 0 (cond b (cond d 0 (held_all wanted fs)) 0) ≤ own (node at k fs) + held_all wanted fs
      rest_of true b d = omega arith
      rest_of false true true = omega arith
      rest_of false true false = omega arith
      rest_of false false d = omega arith

  -- ---- literals

  S-held : (xs : Items) → H (S xs) ≡ HI xs
  unfolding held is_atom has_body
  S-held xs = omega arith

  S-parts : (xs : Items) → parts_held_of (S xs) ≡ HI xs
  unfolding held parts_held_of is_atom has_body
  S-parts xs = omega arith

  object_most : (ps : Items) → HI ps ≤ H (object ps)
  unfolding piece_in
  object_most ps = let e = at_24 wanted 0 (field (list ps) done) in omega arith

  object_parts : (ps : Items) → parts_held_of (object ps) ≡ HI ps
  unfolding held parts_held_of
  object_parts ps = omega arith

  spread_held : (p : Node) → is 26 p ≡ true → H p ≡ H (node_at_of 0 p)
  unfolding is node_at_of
  spread_held (node at k fs) e = ap (λ (x : ℕ). H (node at x fs)) (eqb-true k 26 e) ∙ at_26 wanted at fs

  whole_snoc : (ps : Items) (p : Node) → has_hole (ps +++ only p) ≡ has_hole ps
  unfolding ◌+++◌
  whole_snoc none p = refl
  whole_snoc (hole ps) p = refl
  whole_snoc (item q ps) p = whole_snoc ps p

  opened_held : (xs pend : Items) → has_hole pend ≡ false → HI xs + HI pend ≤ HI (opened (call (S xs)) pend)
  unfolding opened held
  opened_held xs none e = let s = S-held xs in omega arith
  opened_held xs (hole ps) e = differ e
  opened_held xs (item p ps) e = let s = S-held xs in let o = object_most (item p ps) in omega arith

  next_held : (xs pend : Items) (p : Node) → has_hole pend ≡ false → is 26 p ≡ true → HI xs + HI pend + H p ≤ HI (opened (call (S xs)) pend +++ only (node_at_of 0 p))
  next_held xs pend p e s =
      let a = held_append wanted (opened (call (S xs)) pend) (only (node_at_of 0 p)) in
      let o = opened_held xs pend e in
      let h = spread_held p s in
      let b = only_held wanted (node_at_of 0 p) in
      omega arith

  first_held : (pend : Items) (p : Node) → is 26 p ≡ true → HI pend + H p ≤ HI (opened no_call pend +++ only (node_at_of 0 p))
  unfolding opened
  first_held pend p s =
      let a = held_append wanted (only (object pend)) (only (node_at_of 0 p)) in
      let o = object_most pend in
      let x = only_held wanted (object pend) in
      let h = spread_held p s in
      let b = only_held wanted (node_at_of 0 p) in
      omega arith

  call_kept : (xs pend ps : Items) → has_hole pend ≡ false → HI xs + HI pend + HI ps ≤ parts_held_of (scan (call (S xs)) pend ps)
  unfolding scan closed held
  call_kept xs none none e = let s = S-parts xs in omega arith
  call_kept xs (hole pend) none e = differ e
  call_kept xs (item p pend) none e = let s = S-parts (opened (call (S xs)) (item p pend)) in let o = opened_held xs (item p pend) e in omega arith
  call_kept xs pend (hole ps) e = call_kept xs pend ps e
  call_kept xs pend (item p ps) e =
      by_test (is 26 p)
      (λ s. let r = call_kept (opened (call (S xs)) pend +++ only (node_at_of 0 p)) none ps refl in
      let h = next_held xs pend p e s in
      rw (s, scan) (omega arith))
      (λ s. let r = call_kept xs (pend +++ only p) ps (whole_snoc pend p ∙ e) in
      let h = held_append wanted pend (only p) in
      let o = only_held wanted p in
      rw (s, scan) (omega arith))

  first_kept : (pend ps : Items) → has_hole pend ≡ false → HI pend + HI ps ≤ parts_held_of (scan no_call pend ps)
  unfolding scan closed held
  first_kept pend none e = let s = object_parts pend in omega arith
  first_kept pend (hole ps) e = first_kept pend ps e
  first_kept pend (item p ps) e =
      by_test (is 26 p)
      (λ s. let r = call_kept (opened no_call pend +++ only (node_at_of 0 p)) none ps refl in
      let h = first_held pend p s in
      rw (s, scan) (omega arith))
      (λ s. let r = first_kept (pend +++ only p) ps (whole_snoc pend p ∙ e) in
      let h = held_append wanted pend (only p) in
      let o = only_held wanted p in
      rw (s, scan) (omega arith))

  pub literal_kept : (at : ℕ) (fs : Fields) → H (node at 24 fs) ≤ own (node at 24 fs) + parts_held_of (literal (node at 24 fs))
  unfolding literal items_at_of held
  literal_kept at fs =
      by_test (any (λ p. is 26 p) (as_items_of (piece_in fs 0)))
      (λ e. let a = at_24 wanted at fs in let r = first_kept none (as_items_of (piece_in fs 0)) refl in rw e (omega arith))
      (λ e. rw e (stays (node at 24 fs)))

  -- ---- declarations

  module _ (c : Context) where
    declarators_kept : (ds : Items) → held_declarators wanted ds ≤ HI (gather (declarators c) ds)
    unfolding held gather
    declarators_kept none = omega arith
    declarators_kept (hole ds) = declarators_kept ds
    declarators_kept (item d ds) =
        let h = declarators_kept ds in
        let k = declarator_kept wanted c d in
        let a = held_append wanted (declarators c d) (gather (declarators c) ds) in
        omega arith

    list_all : (fs : Fields) (i : ℕ) (f : Items → Items) → HI (f none) ≡ 0 → HI (f (as_items_of (piece_in fs i))) ≤ held_all wanted (change_in fs i (on_items f))
    unfolding held piece_in change_in on_items
    list_all done i f z = omega arith
    list_all (absent fs) zero f z = omega arith
    list_all (absent fs) (suc i) f z = list_all fs i f z
    list_all (field (one n) fs) zero f z = omega arith
    list_all (field (list n) fs) zero f z = omega arith
    list_all (field (text n) fs) zero f z = omega arith
    list_all (field (byte n) fs) zero f z = omega arith
    list_all (field (mark n) fs) zero f z = omega arith
    list_all (field (number n) fs) zero f z = omega arith
    list_all (field p fs) (suc i) f z = let h = list_all fs i f z in omega arith

    gathered_none : HI (gather (declarators c) none) ≡ 0
    unfolding gather held
    gathered_none = refl

    pub declaration_kept : (at : ℕ) (fs : Fields) → H (node at 4 fs) ≤ own (node at 4 fs) + parts_held_of (declaration c (node at 4 fs))
    unfolding declaration change parts_held_of
    declaration_kept at fs =
        let e = at_4 wanted at fs in
        let k = declarators_kept (as_items_of (piece_in fs 2)) in
        let l = list_all fs 2 (gather (declarators c)) gathered_none in
        omega arith

    -- ---- assignments

    assign_held : (a b : Node) → H (assign a b) ≡ H a + H b
    unfolding held
    assign_held a b = omega arith

    sequence_parts : (xs : Items) → parts_held_of (sequence xs) ≡ HI xs
    unfolding held parts_held_of
    sequence_parts xs = omega arith

    at_assign : (at : ℕ) (fs : Fields) → H (node at 27 fs) ≡ H (target (node at 27 fs)) + H (assigned (node at 27 fs))
    unfolding node_at_of
    at_assign at fs = at_27 wanted at fs

    each_assign : (ps : Items) → HI ps ≤ HI (each (from_reference c) ps)
    unfolding held each
    each_assign none = omega arith
    each_assign (hole ps) = each_assign ps
    each_assign (item p ps) = let r = each_assign ps in let a = assign_held p (reference c p) in omega arith

    -- a target that is an object with rest
    left_all : (n : Node) → is_top (target n) ≡ true
        → H (target n) ≤ H (target_left c n) + (HI (parts_of (target n)) + (H (rest (target n)) + HI (key_temporaries c (target n))))
    unfolding is_top is
    left_all n top = go (target n) (and_left (is 34 (target n)) (has_rest_of (target n)) top) (and_right (is 34 (target n)) (has_rest_of (target n)) top)
      where
        go : (p : Node) → is 34 p ≡ true → has_rest_of p ≡ true
            → H p ≤ H (taken c (with_values (λ v. parts_replaced c (depth p) v) p)) + (HI (parts_of p) + (H (rest p) + HI (key_temporaries c p)))
        go (node at k fs) e r =
            subst (λ (k : ℕ). has_rest_of (node at k fs) ≡ true
            → H (node at k fs) ≤ H (taken c (with_values (λ v. parts_replaced c (depth (node at k fs)) v) (node at k fs))) + (HI (parts_of (node at k fs)) + (H (rest (node at k fs)) + HI (key_temporaries c (node at k fs)))))
            (sym (eqb-true k 34 e)) (λ r. top_kept wanted c (depth (node at 34 fs)) at fs r) r

    pub top_all : (at : ℕ) (fs : Fields) → let n = node at 27 fs in is_top (target n) ≡ true → H n ≤ parts_held_of (top_sequence c n) + HI (top_entry c n)
    unfolding top_sequence top_entry held
    top_all at fs top =
        let n = node at 27 fs in
        let p = target n in
        let t = value_of c p in
        let ps = each (from_reference c) (parts_of p) in
        let end = cond c.statement none (only t) in
        let last = item (assign (rest p) (rest_value c p t)) end in
        let h = at_assign at fs in
        let k = left_all n top in
        let r = each_assign (parts_of p) in
        let s = sequence_parts (item (assign t (assigned n)) (item (assign (target_left c n) t) (ps +++ last))) in
        let a = held_append wanted ps last in
        let b = assign_held (rest p) (rest_value c p t) in
        let x = assign_held t (assigned n) in
        let y = assign_held (target_left c n) t in
        let z = held_append wanted (each (λ q. declared (reference c q)) (parts_of p)) (key_temporaries c p) in
        omega arith

    -- the target, with some of it in a list
    target_kept : (fs : Fields) (f : Node → Node) (g : Node → Items) → ((v : Node) → H v ≤ H (f v) + HI (g v)) → H (as_node (piece_in fs 1)) ≤ H (as_node (piece_in (change_in fs 1 (on_node f)) 1)) + HI (g (as_node (piece_in fs 1)))
    unfolding piece_in change_in on_node held is_atom has_body
    target_kept done f g k = omega arith
    target_kept (absent done) f g k = omega arith
    target_kept (absent (absent fs)) f g k = omega arith
    target_kept (absent (field (one n) fs)) f g k = k n
    target_kept (absent (field (list n) fs)) f g k = omega arith
    target_kept (absent (field (text n) fs)) f g k = omega arith
    target_kept (absent (field (byte n) fs)) f g k = omega arith
    target_kept (absent (field (mark n) fs)) f g k = omega arith
    target_kept (absent (field (number n) fs)) f g k = omega arith
    target_kept (field p done) f g k = omega arith
    target_kept (field p (absent fs)) f g k = omega arith
    target_kept (field p (field (one n) fs)) f g k = k n
    target_kept (field p (field (list n) fs)) f g k = omega arith
    target_kept (field p (field (text n) fs)) f g k = omega arith
    target_kept (field p (field (byte n) fs)) f g k = omega arith
    target_kept (field p (field (mark n) fs)) f g k = omega arith
    target_kept (field p (field (number n) fs)) f g k = omega arith

    pub nested_all : (at : ℕ) (fs : Fields) → H (node at 27 fs) ≤ parts_held_of (nested_sequence c (node at 27 fs))
    unfolding nested_sequence change held node_at_of
    nested_all at fs =
        let n = node at 27 fs in
        let gs : Fields = change_in fs 1 (on_node (λ p. replaced_below c p)) in
        let os = outermost (target n) in
        let h = at_27 wanted at fs in
        let b = at_27 wanted at gs in
        let t = target_kept fs (λ p. replaced_below c p) (λ p. outermost p) (λ v. replaced_kept wanted c (depth v) v) in
        let d : H (as_node (piece_in gs 2)) ≡ H (as_node (piece_in fs 2)) = ap (λ (p : Piece). H (as_node p)) (other_changed fs 1 (on_node (λ p. replaced_below c p)) 2 (λ z. omega arith)) in
        let s = sequence_parts (item (node at 27 gs) (each (from_reference c) os)) in
        let a = each_assign os in
        omega arith

    -- ---- bodies that take statements in

    list_stands : (fs : Fields) (i : ℕ) → is_list (piece_in fs i) ≡ true → stands_in fs i ≡ true
    unfolding piece_in stands_in
    list_stands done i e = differ (sym e)
    list_stands (absent fs) zero e = differ (sym e)
    list_stands (absent fs) (suc i) e = list_stands fs i e
    list_stands (field p fs) zero e = refl
    list_stands (field p fs) (suc i) e = list_stands fs i e

    list_more : (f : Items → Items) (x : ℕ) → ((js : Items) → HI js + x ≤ HI (f js)) → (p : Piece) → is_list p ≡ true → held_piece wanted p + x ≤ held_piece wanted (on_items f p)
    unfolding held on_items
    list_more f x h (one n) e = differ (sym e)
    list_more f x h (list js) e = h js
    list_more f x h (text n) e = differ (sym e)
    list_more f x h (byte n) e = differ (sym e)
    list_more f x h (mark n) e = differ (sym e)
    list_more f x h (number n) e = differ (sym e)

    at_16 : (at : ℕ) (fs : Fields) → H (node at 16 fs) ≡ held_all wanted fs
    unfolding held is_atom has_body
    at_16 at fs = refl

    at_2 : (at : ℕ) (fs : Fields) → H (node at 2 fs) ≡ held_all wanted fs
    unfolding held is_atom has_body
    at_2 at fs = refl

    returning_held : (b : Node) → H (returning b) ≡ H b
    unfolding held is_atom has_body
    returning_held b = omega arith

    empty_held : (b : Node) → is 13 b ≡ true → H b ≡ 0
    unfolding is held is_atom
    empty_held (node at k fs) e = subst (λ (x : ℕ). H (node at x fs) ≡ 0) (sym (eqb-true k 13 e)) refl

    module _ (f : Items → Items) (x : ℕ) (more : (js : Items) → HI js + x ≤ HI (f js)) where
      fresh_16 : (b : Node) → H b + x ≤ H (change_items 1 f (function_body (only (returning b))))
      unfolding change change_in on_items held is_atom has_body
      fresh_16 b = let m = more (only (returning b)) in let r = returning_held b in let o = only_held wanted (returning b) in omega arith

      fresh_2 : (b : Node) → H b + x ≤ H (change_items 1 f (block (cond (is 13 b) none (only b))))
      unfolding change change_in on_items held is_atom has_body
      fresh_2 b =
          by_test (is 13 b)
          (λ e. let m = more none in let z = empty_held b e in rw e (omega arith))
          (λ e. let m = more (only b) in let o = only_held wanted b in rw e (omega arith))

      function_body_lem : (b : Node) → takes_in 16 b ≡ true → H b + x ≤ H (change_items 1 f (as_function_body b))
      unfolding as_function_body is change
      function_body_lem (node at k fs) t =
          by_test (eqb k 16)
          (λ e. rw e (subst (λ (y : ℕ). H (node at y fs) + x ≤ H (node at y (change_in fs 1 (on_items f)))) (sym (eqb-true k 16 e))
          (let l : is_list (piece_in fs 1) ≡ true = rw e at t in
          let a = at_16 at fs in
          let b = at_16 at (change_in fs 1 (on_items f)) in
          let r = change_more wanted fs 1 (on_items f) x (list_stands fs 1 l) (list_more f x more (piece_in fs 1) l) in
          omega arith)))
          (λ e. rw e (fresh_16 (node at k fs)))

      block_body : (b : Node) → takes_in 2 b ≡ true → H b + x ≤ H (change_items 1 f (as_block b))
      unfolding as_block is change
      block_body (node at k fs) t =
          by_test (eqb k 2)
          (λ e. rw e (subst (λ (y : ℕ). H (node at y fs) + x ≤ H (node at y (change_in fs 1 (on_items f)))) (sym (eqb-true k 2 e))
          (let l : is_list (piece_in fs 1) ≡ true = rw e at t in
          let a = at_2 at fs in
          let b = at_2 at (change_in fs 1 (on_items f)) in
          let r = change_more wanted fs 1 (on_items f) x (list_stands fs 1 l) (list_more f x more (piece_in fs 1) l) in
          omega arith)))
          (λ e. rw e (fresh_2 (node at k fs)))

      function_piece : (p : Piece) → takes 16 p ≡ true → held_piece wanted p + x ≤ held_piece wanted (on_node (λ b. change_items 1 f (as_function_body b)) p)
      unfolding held on_node
      function_piece (one b) t = function_body_lem b t
      function_piece (list n) t = differ (sym t)
      function_piece (text n) t = differ (sym t)
      function_piece (byte n) t = differ (sym t)
      function_piece (mark n) t = differ (sym t)
      function_piece (number n) t = differ (sym t)

      block_piece : (p : Piece) → takes 2 p ≡ true → held_piece wanted p + x ≤ held_piece wanted (on_node (λ b. change_items 1 f (as_block b)) p)
      unfolding held on_node
      block_piece (one b) t = block_body b t
      block_piece (list n) t = differ (sym t)
      block_piece (text n) t = differ (sym t)
      block_piece (byte n) t = differ (sym t)
      block_piece (mark n) t = differ (sym t)
      block_piece (number n) t = differ (sym t)

    takes_stands : (j : ℕ) (fs : Fields) (i : ℕ) → takes j (piece_in fs i) ≡ true → stands_in fs i ≡ true
    unfolding piece_in stands_in
    takes_stands j done i e = differ (sym e)
    takes_stands j (absent fs) zero e = differ (sym e)
    takes_stands j (absent fs) (suc i) e = takes_stands j fs i e
    takes_stands j (field p fs) zero e = refl
    takes_stands j (field p fs) (suc i) e = takes_stands j fs i e

    front_held : (ps js : Items) → HI (in_front c ps js) ≡ HI js + held_lets wanted c ps
    unfolding in_front held_lets held
    front_held none js = omega arith
    front_held (hole ps) js = front_held ps js
    front_held (item p ps) js = let r = front_held ps (item (let_of (moved_pattern p) (reference c p)) js) in omega arith

    front_more : (ps js : Items) → HI js + held_lets wanted c ps ≤ HI (in_front c ps js)
    front_more ps js = let r = front_held ps js in omega arith

    -- ---- what stays behind in a head

    at_15 : (at : ℕ) (fs : Fields) → H (node at 15 fs) ≡ held_all wanted fs
    unfolding held is_atom has_body
    at_15 at fs = refl

    moved_piece : (p : Piece) → held_piece wanted p ≤ held_piece wanted (on_node (λ p. moved_out_of c (depth p) p) p) + held_lets wanted c (moved (depth (as_node p)) (as_node p))
    unfolding held on_node
    moved_piece (one n) = moved_kept wanted c (depth n) n
    moved_piece (list n) = omega arith
    moved_piece (text n) = omega arith
    moved_piece (byte n) = omega arith
    moved_piece (mark n) = omega arith
    moved_piece (number n) = omega arith

    param_kept : (q : Node) → is 15 q ≡ true → H q ≤ H (left_behind c q) + held_lets wanted c (moved_from q)
    unfolding left_behind moved_from is change node_at_of held_lets
    param_kept (node at k fs) e =
        by_test (is_moved (node at k fs))
        (λ m. rw m (subst (λ (y : ℕ). H (node at y fs) ≤ H (node at y (change_in fs 0 (on_node (λ p. moved_out_of c (depth p) p)))) + held_lets wanted c (moved (depth (as_node (piece_in fs 0))) (as_node (piece_in fs 0)))) (sym (eqb-true k 15 e))
        (let a = at_15 at fs in
        let b = at_15 at (change_in fs 0 (on_node (λ p. moved_out_of c (depth p) p))) in
        let r = change_less wanted fs 0 (on_node (λ p. moved_out_of c (depth p) p)) (held_lets wanted c (moved (depth (as_node (piece_in fs 0))) (as_node (piece_in fs 0)))) (moved_piece (piece_in fs 0)) in
        omega arith)))
        (λ m. rw m (omega arith))

    params_kept : (qs : Items) → any (λ n. not (is 15 n)) qs ≡ false → HI qs ≤ HI (each (left_behind c) qs) + held_lets wanted c (gather moved_from qs)
    unfolding held each gather any held_lets
    params_kept none e = omega arith
    params_kept (hole qs) e = params_kept qs e
    params_kept (item q qs) e =
        let r = params_kept qs (or_right (not (is 15 q)) (any (λ n. not (is 15 n)) qs) e) in
        let k = param_kept q (not-false (is 15 q) (or_left (not (is 15 q)) (any (λ n. not (is 15 n)) qs) e)) in
        let a = (lets_add wanted c).append (moved_from q) (gather moved_from qs) in
        omega arith

    params_piece : (p : Piece) → are_params p ≡ true → held_piece wanted p ≤ held_piece wanted (on_items (each (left_behind c)) p) + held_lets wanted c (gather moved_from (as_items_of p))
    unfolding held on_items
    params_piece (one n) e = omega arith
    params_piece (list qs) e = params_kept qs (not-true (any (λ n. not (is 15 n)) qs) e)
    params_piece (text n) e = omega arith
    params_piece (byte n) e = omega arith
    params_piece (mark n) e = omega arith
    params_piece (number n) e = omega arith

    param_piece : (p : Piece) → are_params p ≡ true → held_piece wanted p ≤ held_piece wanted (on_node (left_behind c) p) + held_lets wanted c (moved_from (as_node p))
    unfolding held on_node
    param_piece (one n) e = param_kept n e
    param_piece (list n) e = omega arith
    param_piece (text n) e = omega arith
    param_piece (byte n) e = omega arith
    param_piece (mark n) e = omega arith
    param_piece (number n) e = omega arith

    -- ---- functions, arrows, catch

    -- the head changed at i, the body at j
    head_kept : (fs : Fields) (i j : ℕ) (f g : Piece → Piece) (x : ℕ) → (i ≡ j → ⊥) → held_piece wanted (piece_in fs i) ≤ held_piece wanted (f (piece_in fs i)) + x
        → stands_in fs j ≡ true → held_piece wanted (piece_in fs j) + x ≤ held_piece wanted (g (piece_in fs j)) → held_all wanted fs ≤ held_all wanted (change_in (change_in fs i f) j g)
    head_kept fs i j f g x d h s k =
        let a = change_less wanted fs i f x h in
        let e : piece_in (change_in fs i f) j ≡ piece_in fs j = other_changed fs i f j d in
        let b = change_more wanted (change_in fs i f) j g x (stands_changed fs i f j ∙ s) (subst (λ (p : Piece). held_piece wanted p + x ≤ held_piece wanted (g p)) (sym e) k) in
        omega arith

    upper : (b : Bool) (x y : ℕ) → (b ≡ true → x ≤ y) → cond b x 0 ≤ y
    upper true x y h = h refl
    upper false x y h = omega arith

    pub function_all : (at : ℕ) (fs : Fields) → H (node at 14 fs) ≤ parts_held_of (function c (node at 14 fs))
    unfolding held is_atom has_body function in_body change items_at_of stands parts_held_of
    function_all at fs =
        upper ((not (stands_in fs 5) || takes 16 (piece_in fs 5)) && are_params (piece_in fs 3)) (held_all wanted fs) (parts_held_of (function c (node at 14 fs)))
        (λ e. by_test (stands_in fs 5)
        (λ s. let t : takes 16 (piece_in fs 5) ≡ true = rw s at (and_left (not (stands_in fs 5) || takes 16 (piece_in fs 5)) (are_params (piece_in fs 3)) e) in
        let ps = gather moved_from (as_items_of (piece_in fs 3)) in
        by_test (any is_moved (as_items_of (piece_in fs 3)))
        (λ y. rw (s, y) (head_kept fs 3 5 (on_items (each (left_behind c))) (on_node (λ b. change_items 1 (in_front c ps) (as_function_body b))) (held_lets wanted c ps) (λ z. omega arith)
        (params_piece (piece_in fs 3) (and_right (not (stands_in fs 5) || takes 16 (piece_in fs 5)) (are_params (piece_in fs 3)) e))
        s (function_piece (in_front c ps) (held_lets wanted c ps) (front_more ps) (piece_in fs 5) t)))
        (λ y. rw (s, y) (omega arith)))
        (λ s. rw s (omega arith)))

    pub arrow_all : (at : ℕ) (fs : Fields) → H (node at 17 fs) ≤ parts_held_of (arrow c (node at 17 fs))
    unfolding held is_atom has_body arrow in_body change items_at_of parts_held_of
    arrow_all at fs =
        upper (takes 16 (piece_in fs 2) && are_params (piece_in fs 0)) (held_all wanted fs) (parts_held_of (arrow c (node at 17 fs)))
        (λ e. by_test (any is_moved (as_items_of (piece_in fs 0)))
        (λ s. let t : takes 16 (piece_in fs 2) ≡ true = and_left (takes 16 (piece_in fs 2)) (are_params (piece_in fs 0)) e in
        let ps = gather moved_from (as_items_of (piece_in fs 0)) in
        rw s (head_kept fs 0 2 (on_items (each (left_behind c))) (on_node (λ b. change_items 1 (in_front c ps) (as_function_body b))) (held_lets wanted c ps) (λ z. omega arith)
        (params_piece (piece_in fs 0) (and_right (takes 16 (piece_in fs 2)) (are_params (piece_in fs 0)) e))
        (takes_stands 16 fs 2 t) (function_piece (in_front c ps) (held_lets wanted c ps) (front_more ps) (piece_in fs 2) t)))
        (λ s. rw s (omega arith)))

    pub catch_all : (at : ℕ) (fs : Fields) → H (node at 10 fs) ≤ parts_held_of (catch c (node at 10 fs))
    unfolding held is_atom has_body catch in_body change node_at_of parts_held_of
    catch_all at fs =
        upper (takes 2 (piece_in fs 1) && are_params (piece_in fs 0)) (held_all wanted fs) (parts_held_of (catch c (node at 10 fs)))
        (λ e. let t : takes 2 (piece_in fs 1) ≡ true = and_left (takes 2 (piece_in fs 1)) (are_params (piece_in fs 0)) e in
        let ps = moved_from (as_node (piece_in fs 0)) in
        by_test (is_moved (as_node (piece_in fs 0)))
        (λ y. rw y (head_kept fs 0 1 (on_node (left_behind c)) (on_node (λ b. change_items 1 (in_front c ps) (as_block b))) (held_lets wanted c ps) (λ z. omega arith)
        (param_piece (piece_in fs 0) (and_right (takes 2 (piece_in fs 1)) (are_params (piece_in fs 0)) e))
        (takes_stands 2 fs 1 t) (block_piece (in_front c ps) (held_lets wanted c ps) (front_more ps) (piece_in fs 1) t)))
        (λ y. rw y (omega arith)))

    -- ---- heads of 7 and 8

    moved_default : (d : ℕ) (l : Node) → is 37 l ≡ false → is 37 (moved_out_of c d l) ≡ false
    unfolding moved_out_of shape is change
    moved_default zero l e = e
    moved_default (suc d) l e = go (view l) e
      where
        go : {l : Node} → View l → is 37 l ≡ false → is 37 (moved_out_of c (suc d) l) ≡ false
        go object_view e = refl
        go array_view e = refl
        go default_view e = differ e
        go (leaf_view z y) e = rw (z, moved_out_of) e

    pattern_moved : (l : Node) → held_pattern wanted l ≤ held_pattern wanted (moved_out_of c (depth l) l) + held_lets wanted c (moved (depth l) l)
    pattern_moved l =
        by_test (is 37 l)
        (λ e. rw e (omega arith))
        (λ e. let k = moved_kept wanted c (depth l) l in rw (e, moved_default (depth l) l e) (omega arith))

    left_moved : (fs : Fields) → held_pattern wanted (as_node (piece_in fs 0)) ≤ held_pattern wanted (as_node (piece_in (change_in fs 0 (on_node (λ p. moved_out_of c (depth p) p))) 0)) + held_lets wanted c (moved (depth (as_node (piece_in fs 0))) (as_node (piece_in fs 0)))
    unfolding piece_in change_in on_node held is_atom has_body is
    left_moved done = omega arith
    left_moved (absent fs) = omega arith
    left_moved (field (one n) fs) = pattern_moved n
    left_moved (field (list n) fs) = omega arith
    left_moved (field (text n) fs) = omega arith
    left_moved (field (byte n) fs) = omega arith
    left_moved (field (mark n) fs) = omega arith
    left_moved (field (number n) fs) = omega arith

    declarator_moved : (d : Node) → held_declarator wanted d ≤ held_declarator wanted (left_behind c d) + held_lets wanted c (moved_from d)
    unfolding left_behind moved_from change node_at_of held_lets is
    declarator_moved (node at k fs) =
        by_test (is_moved (node at k fs))
        (λ m. let gs : Fields = change_in fs 0 (on_node (λ p. moved_out_of c (depth p) p)) in
        let e = declarator_held wanted (node at k fs) in
        let f = declarator_held wanted (node at k gs) in
        let l = left_moved fs in
        let d : H (as_node (piece_in gs 1)) ≡ H (as_node (piece_in fs 1)) = ap (λ (p : Piece). H (as_node p)) (other_changed fs 0 (on_node (λ p. moved_out_of c (depth p) p)) 1 (λ z. omega arith)) in
        rw m (both (eqb k 5) (held_pattern wanted (as_node (piece_in fs 0)) + H (as_node (piece_in fs 1))) (held_pattern wanted (as_node (piece_in gs 0)) + H (as_node (piece_in gs 1)))
        (held_lets wanted c (moved (depth (as_node (piece_in fs 0))) (as_node (piece_in fs 0)))) (omega arith) e f))
        (λ m. rw m (omega arith))
      where
        both : (b : Bool) (x y z : ℕ) → x ≤ y + z → {u v : ℕ} → u ≡ cond b x 0 → v ≡ cond b y 0 → u ≤ v + z
        both true x y z h e f = omega arith
        both false x y z h e f = omega arith

    declarators_moved : (ds : Items) → held_declarators wanted ds ≤ held_declarators wanted (each (left_behind c) ds) + held_lets wanted c (gather moved_from ds)
    unfolding held each gather held_lets
    declarators_moved none = omega arith
    declarators_moved (hole ds) = declarators_moved ds
    declarators_moved (item d ds) =
        let r = declarators_moved ds in
        let k = declarator_moved d in
        let a = (lets_add wanted c).append (moved_from d) (gather moved_from ds) in
        omega arith

    third_changed : (fs : Fields) (h : Node → Node) → held_declarators wanted (each h (as_items_of (piece_in fs 2))) ≡ held_declarators wanted (as_items_of (piece_in (change_in fs 2 (on_items (each h))) 2))
    third_changed fs h = ap (held_declarators wanted) (sym (items_changed_in h fs 2))

    declaration_moved : (l : Node) → is 4 l ≡ true → wanted l ≡ false → H l ≤ H (change_items 2 (each (left_behind c)) l) + held_lets wanted c (gather moved_from (items_at_of 2 l))
    unfolding is change items_at_of
    declaration_moved (node at k fs) e u =
        let gs : Fields = change_in fs 2 (on_items (each (left_behind c))) in
        subst (λ (y : ℕ). wanted (node at y fs) ≡ false → H (node at y fs) ≤ H (node at y gs) + held_lets wanted c (gather moved_from (as_items_of (piece_in fs 2)))) (sym (eqb-true k 4 e))
        (λ u.
        let a = at_4 wanted at fs in
        let o : own (node at 4 fs) ≡ 0 = rw u refl in
        let b = at_4 wanted at gs in
        let r = declarators_moved (as_items_of (piece_in fs 2)) in
        let t = third_changed fs (left_behind c) in
        omega arith)
        u

    left_piece_lem : (p : Piece) → is 4 (as_node p) ≡ true → wanted (as_node p) ≡ false → held_piece wanted p ≤ held_piece wanted (on_node (λ l. change_items 2 (each (left_behind c)) l) p) + held_lets wanted c (gather moved_from (items_at_of 2 (as_node p)))
    unfolding held on_node
    left_piece_lem (one l) e u = declaration_moved l e u
    left_piece_lem (list n) e u = omega arith
    left_piece_lem (text n) e u = omega arith
    left_piece_lem (byte n) e u = omega arith
    left_piece_lem (mark n) e u = omega arith
    left_piece_lem (number n) e u = omega arith

    pub declaring_all : (at k : ℕ) (fs : Fields) → eqb k 20 ≡ false → takes 2 (piece_in fs 3) ≡ true → is 4 (node_at_of 1 (node at k fs)) ≡ true → wanted (node_at_of 1 (node at k fs)) ≡ false → held_all wanted fs ≤ parts_held_of (declaring_head c (node at k fs))
    unfolding declaring_head in_body change node_at_of parts_held_of
    declaring_all at k fs z t d u =
        let ps = gather moved_from (items_at_of 2 (as_node (piece_in fs 1))) in
        by_test (any is_moved (items_at_of 2 (as_node (piece_in fs 1))))
        (λ e. rw (e, z) (head_kept fs 1 3 (on_node (λ l. change_items 2 (each (left_behind c)) l)) (on_node (λ b. change_items 1 (in_front c ps) (as_block b))) (held_lets wanted c ps) (λ z. omega arith)
        (left_piece_lem (piece_in fs 1) d u)
        (takes_stands 2 fs 3 t) (block_piece (in_front c ps) (held_lets wanted c ps) (front_more ps) (piece_in fs 3) t)))
        (λ e. rw (e, z) (omega arith))

    assigning_held : (p : Node) → H (assigning p (reference c p)) ≡ H p
    unfolding held is_atom has_body
    assigning_held p = let a = assign_held p (reference c p) in omega arith

    target_piece : (p : Piece) (f : Node → Node) → held_piece wanted p ≤ held_piece wanted (on_node f p) + H (as_node p)
    unfolding held on_node
    target_piece (one l) f = omega arith
    target_piece (list n) f = omega arith
    target_piece (text n) f = omega arith
    target_piece (byte n) f = omega arith
    target_piece (mark n) f = omega arith
    target_piece (number n) f = omega arith

    pub assigning_all : (at k : ℕ) (fs : Fields) → eqb k 20 ≡ false → takes 2 (piece_in fs 3) ≡ true → held_all wanted fs ≤ parts_held_of (assigning_head c (node at k fs))
    unfolding assigning_head change node_at_of parts_held_of held
    assigning_all at k fs z t =
        let p = as_node (piece_in fs 1) in
        let s = assigning_held p in
        by_test (has_object_rest p)
        (λ e. rw (e, z) (head_kept fs 1 3 (on_node (λ l. var_of (reference c l))) (on_node (λ b. change_items 1 (item (assigning p (reference c p))) (as_block b))) (H p) (λ z. omega arith)
        (target_piece (piece_in fs 1) (λ l. var_of (reference c l)))
        (takes_stands 2 fs 3 t) (block_piece (item (assigning p (reference c p))) (H p) (λ js. omega arith) (piece_in fs 3) t)))
        (λ e. rw (e, z) (omega arith))

    -- ---- every rule

    -- n counts no more than itself, what the rewriting leaves below its result, and what it hands out; or it is refused
    pub data Kept (n : Node) : Type 0 where
      kept : H n ≤ own n + (parts_held_of (rewrite c n).result + (HI (rewrite c n).note.entry + HI (rewrite c n).note.excluded)) → Kept n
      refuses : 0 < (rewrite c n).note.refusal → Kept n

    keeps_24 : (at : ℕ) (fs : Fields) → Kept (node at 24 fs)
    unfolding rewrite rule_of held
    keeps_24 at fs = kept (let l = literal_kept at fs in omega arith)

    keeps_4 : (at : ℕ) (fs : Fields) → Kept (node at 4 fs)
    unfolding rewrite rule_of held step_declaration
    keeps_4 at fs =
        by_number (declaration_refusal c (node at 4 fs))
        (λ r e. refuses (rw (e, step_declaration) (omega arith)))
        (λ e. kept (rw (e, step_declaration) (let l = declaration_kept at fs in omega arith)))

    keeps_27 : (at : ℕ) (fs : Fields) → Kept (node at 27 fs)
    unfolding rewrite rule_of held step_assignment step_top
    keeps_27 at fs =
        let n = node at 27 fs in
        by_test (has_array_rest_over_object_rest (target n))
        (λ a. refuses (rw (a, step_assignment) (omega arith)))
        (λ a. by_test (is_top (target n))
        (λ t. by_number (top_refusal n)
        (λ r l. refuses (rw (a, step_assignment) (rw t (rw (l, step_top) (omega arith)))))
        (λ l. kept (rw (a, step_assignment) (rw t (rw (l, step_top) (let k = top_all at fs t in omega arith))))))
        (λ t. by_test (has_object_rest (target n))
        (λ o. kept (rw (a, step_assignment) (rw t (rw o (let k = nested_all at fs in omega arith)))))
        (λ o. kept (rw (a, step_assignment) (rw t (rw o (let k = stays_27 at fs in omega arith)))))))

    keeps_14 : (at : ℕ) (fs : Fields) → Kept (node at 14 fs)
    unfolding rewrite rule_of
    keeps_14 at fs = kept (let l = function_all at fs in omega arith)

    keeps_17 : (at : ℕ) (fs : Fields) → Kept (node at 17 fs)
    unfolding rewrite rule_of
    keeps_17 at fs = kept (let l = arrow_all at fs in omega arith)

    keeps_10 : (at : ℕ) (fs : Fields) → Kept (node at 10 fs)
    unfolding rewrite rule_of
    keeps_10 at fs = kept (let l = catch_all at fs in omega arith)

    keeps_7 : (at : ℕ) (fs : Fields) → Kept (node at 7 fs)
    unfolding rewrite rule_of step_for held is_atom has_body node_at_of
    keeps_7 at fs =
        let n = node at 7 fs in
        by_test (takes 2 (piece_in fs 3))
        (λ t. by_test (is 4 (node_at_of 1 n))
        (λ d. by_test (wanted (node_at_of 1 n))
        (λ u. kept (rw (t, d, u) (omega arith)))
        (λ u. kept (rw (t, d, u, step_for) (let l = declaring_all at 7 fs refl t d u in omega arith))))
        (λ d. by_test (has_array_rest_over_object_rest (node_at_of 1 n))
        (λ a. refuses (rw (d, step_for) (rw a (omega arith))))
        (λ a. kept (rw (t, d, step_for) (rw a (let l = assigning_all at 7 fs refl t in omega arith))))))
        (λ t. kept (rw t (omega arith)))

    keeps_8 : (at : ℕ) (fs : Fields) → Kept (node at 8 fs)
    unfolding rewrite rule_of step_for held is_atom has_body node_at_of
    keeps_8 at fs =
        let n = node at 8 fs in
        by_test (takes 2 (piece_in fs 3))
        (λ t. by_test (is 4 (node_at_of 1 n))
        (λ d. by_test (wanted (node_at_of 1 n))
        (λ u. kept (rw (t, d, u) (omega arith)))
        (λ u. kept (rw (t, d, u, step_for) (let l = declaring_all at 8 fs refl t d u in omega arith))))
        (λ d. by_test (has_array_rest_over_object_rest (node_at_of 1 n))
        (λ a. refuses (rw (d, step_for) (rw a (omega arith))))
        (λ a. kept (rw (t, d, step_for) (rw a (let l = assigning_all at 8 fs refl t in omega arith))))))
        (λ t. kept (rw t (omega arith)))

    none_held : HI none ≡ 0
    unfolding held
    none_held = refl

    pub keeps : (n : Node) → Kept n
    keeps (node at k fs) =
        let n = node at k fs in
        by_test (eqb k 24) (λ e. subst (λ (x : ℕ). Kept (node at x fs)) (sym (eqb-true k 24 e)) (keeps_24 at fs))
        (λ e₁. by_test (eqb k 4) (λ e. subst (λ (x : ℕ). Kept (node at x fs)) (sym (eqb-true k 4 e)) (keeps_4 at fs))
        (λ e₂. by_test (eqb k 27) (λ e. subst (λ (x : ℕ). Kept (node at x fs)) (sym (eqb-true k 27 e)) (keeps_27 at fs))
        (λ e₃. by_test (eqb k 14) (λ e. subst (λ (x : ℕ). Kept (node at x fs)) (sym (eqb-true k 14 e)) (keeps_14 at fs))
        (λ e₄. by_test (eqb k 17) (λ e. subst (λ (x : ℕ). Kept (node at x fs)) (sym (eqb-true k 17 e)) (keeps_17 at fs))
        (λ e₅. by_test (eqb k 10) (λ e. subst (λ (x : ℕ). Kept (node at x fs)) (sym (eqb-true k 10 e)) (keeps_10 at fs))
        (λ e₆. by_test (eqb k 7) (λ e. subst (λ (x : ℕ). Kept (node at x fs)) (sym (eqb-true k 7 e)) (keeps_7 at fs))
        (λ e₇. by_test (eqb k 8) (λ e. subst (λ (x : ℕ). Kept (node at x fs)) (sym (eqb-true k 8 e)) (keeps_8 at fs))
        (λ e₈. kept (subst (λ (s : Step). H n ≤ own n + (parts_held_of s.result + (HI s.note.entry + HI s.note.excluded)))
        (sym (others c at k fs e₁ e₂ e₃ e₄ e₅ e₆ e₇ e₈)) (let s = stays n in let z = none_held in omega arith))))))))))
