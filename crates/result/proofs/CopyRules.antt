-- What a rule leaves and hands out weighs no more than the node did. A clause for each rule; and so of the whole walk.
-- Assumes nothing.
use mathlib.Core.Path.{◌≡◌, refl, sym, ap, subst, ◌∙◌}
use mathlib.Core.Bool.{Bool, true, false, cond, ◌&&◌}
use Prim.Native.Nat.{ℕ, zero, suc, ◌+◌, ◌≤◌}
use native.Mathlib.Omega.{arith}
use lib.Dec.{eqb}
use borrow.Author.Tests.{eqb-true}
use Rattle.tree.specs.Tree.{Node, Fields, Piece, Items, depth}
use Rattle.tree.specs.Tree.Node.{node}
use Rattle.tree.specs.Tree.Fields.{done, absent, field}
use Rattle.tree.specs.Tree.Piece.{one, list, text, byte, mark, number}
use Rattle.tree.specs.Tree.Items.{none, hole, item}
use Rattle.lowering.specs.Parts.{nothing, position, is, piece_in, stands_in, change_in, as_node, as_items_of, node_at_of, items_at_of, stands, change, on_node, on_items, change_node, change_items, only, each, gather, any, ◌+++◌}
use Rattle.lowering.specs.Made.{Context, S, object, reference, value_of, assign, assigning, declared, sequence, var_of, let_of}
use Rattle.lowering.specs.Literals.{Call, opened, closed, scan, literal}
use Rattle.lowering.specs.Literals.Call.{no_call, call}
use Rattle.lowering.specs.Patterns.{has_object_rest, has_array_rest_over_object_rest, rest, has_rest_of, with_values, replaced_below}
use Rattle.lowering.specs.Keys.{key_temporaries, taken}
use Rattle.lowering.specs.Rests.{rest_value, excluded_for}
use Rattle.lowering.specs.Declarations.{is_name_of, declarators, declaration, declaration_refusal, declaration_excludes, lowered_in}
use Rattle.lowering.specs.Assignments.{target, assigned, is_top, parts_of, top_refusal, parts_replaced, target_left, from_reference, top_sequence, top_entry, top_excludes, outermost, nested_sequence, nested_entry}
use Rattle.lowering.specs.Heads.{is_moved, moved_from, moved_pattern, moved_out_of, left_behind, in_front, in_body, as_function_body, as_block, function, arrow, catch, declaring_head, assigning_head}
use Rattle.lowering.specs.Walk.{Step, rewrite, step_declaration, step_top, step_assignment, step_for}
use Rattle.lowering.proofs.All.{other_changed}
use Rattle.lowering.proofs.Cases.{by_number, by_test, and_left, and_right, function_body_is, block_is}
use Rattle.lowering.proofs.ChangeLaws.{items_changed_in}
use Rattle.result.proofs.ByRule.{by_rules}
use Rattle.result.proofs.Weighed.{total, total_append, total_gather, total_each, total_none, weigh, weigh_all, weigh_piece, weigh_items, sources_items, source_node, temporary_weighs, sources_by, again, source_by, all_most, piece_most, node_most, at_most, list_most, next_two, items_append, only_weighs, change_less, change_more}
use Rattle.result.proofs.Copies.{Measure, XI, EI, list_kept, node_kept, at_kept, declarator_kept, nearest_kept, top_kept, lets, behind_kept}

module _ {out : ℕ → ℕ} {kin : Node → ℕ} (measure : Measure out kin) where
  abbrev load : Node → ℕ
  load n = weigh out kin n

  abbrev loads : Items → ℕ
  loads is = weigh_items out kin is

  -- the parts of a node
  unfoldable pub parts : Node → ℕ
  parts (node at k fs) = weigh_all out kin fs

  parts_most : (n : Node) → parts n ≤ load n
  unfolding parts
  parts_most (node at k fs) = all_most out kin at k fs

  -- ---- literals

  abbrev so_far : Call → ℕ
  so_far no_call = 0
  so_far (call c) = load c

  S-weighs : (xs : Items) → load (S xs) ≡ loads xs
  unfolding weigh
  S-weighs xs = omega arith

  object_weighs : (ps : Items) → load (object ps) ≡ loads ps
  unfolding weigh
  object_weighs ps = omega arith

  opened_most : (c : Call) (pending : Items) → loads (opened c pending) ≤ so_far c + loads pending
  unfolding opened weigh
  opened_most no_call pending = let o = object_weighs pending in omega arith
  opened_most (call c) none = omega arith
  opened_most (call c) (hole ps) = omega arith
  opened_most (call c) (item p ps) = let o = object_weighs (item p ps) in let z = object_weighs none in omega arith

  closed_most : (c : Call) (pending : Items) → load (closed c pending) ≤ so_far c + loads pending
  unfolding closed weigh
  closed_most no_call pending = let o = object_weighs pending in omega arith
  closed_most (call c) none = omega arith
  closed_most (call c) (hole ps) = omega arith
  closed_most (call c) (item p ps) = let o = opened_most (call c) (item p ps) in let s = S-weighs (opened (call c) (item p ps)) in omega arith

  scan_most : (c : Call) (pending ps : Items) → load (scan c pending ps) ≤ so_far c + (loads pending + loads ps)
  unfolding scan weigh
  scan_most c pending none = let h = closed_most c pending in omega arith
  scan_most c pending (hole ps) = scan_most c pending ps
  scan_most c pending (item p ps) =
      by_test (is 26 p)
      (λ s. let xs = opened c pending +++ only (node_at_of 0 p) in
      let r = scan_most (call (S xs)) none ps in
      let h = S-weighs xs in
      let a = items_append out kin (opened c pending) (only (node_at_of 0 p)) in
      let o = opened_most c pending in
      let m = at_most out kin 0 p in
      let w = only_weighs out kin (node_at_of 0 p) in
      rw (s, scan) (omega arith))
      (λ s. let r = scan_most c (pending +++ only p) ps in
      let a = items_append out kin pending (only p) in
      let w = only_weighs out kin p in
      rw (s, scan) (omega arith))

  literal_kept : (at : ℕ) (fs : Fields) → load (literal (node at 24 fs)) ≤ load (node at 24 fs)
  unfolding literal items_at_of weigh
  literal_kept at fs =
      by_test (any (λ p. is 26 p) (as_items_of (piece_in fs 0)))
      (λ e. let r = scan_most no_call none (as_items_of (piece_in fs 0)) in
      let a = list_most out kin (piece_in fs 0) in
      let b = piece_most out kin fs 0 in
      let d = all_most out kin at 24 fs in
      rw e (omega arith))
      (λ e. rw e (omega arith))

  module _ (c : Context) where
    -- ---- declarations

    declarators_kept : (ds : Items) → loads (gather (declarators c) ds) + XI measure (gather (λ d. gather (excluded_for c) (lowered_in c d)) ds) ≤ loads ds + sources_items out kin ds
    unfolding weigh gather total
    declarators_kept none = omega arith
    declarators_kept (hole ds) = declarators_kept ds
    declarators_kept (item d ds) =
        let h = declarators_kept ds in
        let k = declarator_kept measure c d in
        let a = items_append out kin (declarators c d) (gather (declarators c) ds) in
        let b = total_append measure.excluded (gather (excluded_for c) (lowered_in c d)) (gather (λ d. gather (excluded_for c) (lowered_in c d)) ds) in
        omega arith

    -- a list changed, with what is handed out and what is added
    list_changed : (fs : Fields) (i : ℕ) (f : Items → Items) (x y : Items → ℕ) → ((is : Items) → loads (f is) + x is ≤ loads is + y is) → x none ≡ 0
        → weigh_all out kin (change_in fs i (on_items f)) + x (as_items_of (piece_in fs i)) ≤ weigh_all out kin fs + y (as_items_of (piece_in fs i))
    unfolding weigh piece_in change_in on_items
    list_changed done i f x y h z = omega arith
    list_changed (absent fs) zero f x y h z = omega arith
    list_changed (absent fs) (suc i) f x y h z = list_changed fs i f x y h z
    list_changed (field (one n) fs) zero f x y h z = omega arith
    list_changed (field (list is) fs) zero f x y h z = let a = h is in omega arith
    list_changed (field (text n) fs) zero f x y h z = omega arith
    list_changed (field (byte n) fs) zero f x y h z = omega arith
    list_changed (field (mark n) fs) zero f x y h z = omega arith
    list_changed (field (number n) fs) zero f x y h z = omega arith
    list_changed (field p fs) (suc i) f x y h z = let r = list_changed fs i f x y h z in omega arith

    none_excluded : XI measure (gather (λ d. gather (excluded_for c) (lowered_in c d)) none) ≡ 0
    unfolding gather total
    none_excluded = refl

    declaration_kept : (at : ℕ) (fs : Fields) → parts (declaration c (node at 4 fs)) + XI measure (declaration_excludes c (node at 4 fs)) ≤ load (node at 4 fs)
    unfolding declaration declaration_excludes change items_at_of parts weigh
    declaration_kept at fs =
        let k = list_changed fs 2 (gather (declarators c)) (λ ds. XI measure (gather (λ d. gather (excluded_for c) (lowered_in c d)) ds)) (λ ds. sources_items out kin ds) declarators_kept none_excluded in
        let e = sources_by out kin fs 2 in
        omega arith

    -- ---- assignments

    assign_weighs : (a b : Node) → load (assign a b) ≡ load a + load b
    unfolding weigh
    assign_weighs a b = omega arith

    sequence_parts : (xs : Items) → parts (sequence xs) ≡ loads xs
    unfolding weigh parts
    sequence_parts xs = omega arith

    at_assign : (at : ℕ) (fs : Fields) → load (target (node at 27 fs)) + load (assigned (node at 27 fs)) ≤ load (node at 27 fs)
    unfolding node_at_of
    at_assign at fs =
        let a = node_most out kin (piece_in fs 1) in
        let b = node_most out kin (piece_in fs 2) in
        let d = next_two out kin fs in
        let e = all_most out kin at 27 fs in
        omega arith

    each_assign : (ps : Items) → loads (each (from_reference c) ps) ≡ loads ps
    unfolding weigh each
    each_assign none = refl
    each_assign (hole ps) = each_assign ps
    each_assign (item p ps) = let r = each_assign ps in let a = assign_weighs p (reference c p) in let t = temporary_weighs out kin c.path 1 (position p) in omega arith

    each_declared : (ps : Items) → EI measure (each (λ p. declared (reference c p)) ps) ≡ 0
    each_declared ps =
        let a = total_each measure.entry (λ p. declared (reference c p)) ps in
        let b = total_none (λ p. measure.entry (declared (reference c p))) ps (λ p. measure.entry_bare c.path 1 (position p)) in
        omega arith

    top_kept_34 : (n : Node) (at k : ℕ) (fs : Fields) → target n ≡ node at k fs → eqb k 34 ≡ true → has_rest_of (target n) ≡ true → let t = value_of c (target n) in
        load (target_left c n) + (loads (parts_of (target n)) + (load (rest (target n)) + (load (rest_value c (target n) t) + (EI measure (key_temporaries c (target n)) + XI measure (excluded_for c (target n))))))
        ≤ load (target n) + (load t + load t)
    top_kept_34 n at k fs e b r =
        let q : target n ≡ node at 34 fs = e ∙ ap (λ (x : ℕ). node at x fs) (eqb-true k 34 b) in
        by_target (target n) q r
      where
        by_target : (p : Node) → p ≡ node at 34 fs → has_rest_of p ≡ true
            → load (taken c (with_values (λ v. parts_replaced c (depth p) v) p))
            + (loads (parts_of p) + (load (rest p) + (load (rest_value c p (value_of c p)) + (EI measure (key_temporaries c p) + XI measure (excluded_for c p)))))
            ≤ load p + (load (value_of c p) + load (value_of c p))
        by_target p q r =
            subst (λ (p : Node). has_rest_of p ≡ true
            → load (taken c (with_values (λ v. parts_replaced c (depth p) v) p))
            + (loads (parts_of p) + (load (rest p) + (load (rest_value c p (value_of c p)) + (EI measure (key_temporaries c p) + XI measure (excluded_for c p)))))
            ≤ load p + (load (value_of c p) + load (value_of c p))) (sym q)
            (λ r. top_kept measure c (depth (node at 34 fs)) at fs (value_of c (node at 34 fs)) r) r

    top_left : (n : Node) → is_top (target n) ≡ true → let t = value_of c (target n) in
        load (target_left c n) + (loads (parts_of (target n)) + (load (rest (target n)) + (load (rest_value c (target n) t) + (EI measure (key_temporaries c (target n)) + XI measure (excluded_for c (target n))))))
        ≤ load (target n) + (load t + load t)
    unfolding is_top is
    top_left n e = go (target n) refl e
      where
        go : (p : Node) → target n ≡ p → is_top p ≡ true → let t = value_of c (target n) in
            load (target_left c n) + (loads (parts_of (target n)) + (load (rest (target n)) + (load (rest_value c (target n) t) + (EI measure (key_temporaries c (target n)) + XI measure (excluded_for c (target n))))))
            ≤ load (target n) + (load t + load t)
        go (node at k fs) q e =
            top_kept_34 n at k fs q (and_left (eqb k 34) (has_rest_of (node at k fs)) e)
            (ap has_rest_of q ∙ and_right (eqb k 34) (has_rest_of (node at k fs)) e)

    top_all : (at : ℕ) (fs : Fields) → let n = node at 27 fs in is_top (target n) ≡ true
        → parts (top_sequence c n) + (EI measure (top_entry c n) + XI measure (top_excludes c n)) ≤ load n
    unfolding top_sequence top_entry top_excludes weigh total
    top_all at fs e =
        let n = node at 27 fs in
        let p = target n in
        let t = value_of c p in
        let z = temporary_weighs out kin c.path 3 (position p) in
        let a = assign_weighs t (assigned n) in
        let b = assign_weighs (target_left c n) t in
        let d = each_assign (parts_of p) in
        let f = assign_weighs (rest p) (rest_value c p t) in
        let last = cond c.statement none (only t) in
        let g : loads last ≡ 0 = last_read c.statement t z in
        let h = items_append out kin (each (from_reference c) (parts_of p)) (item (assign (rest p) (rest_value c p t)) last) in
        let s = sequence_parts (item (assign t (assigned n)) (item (assign (target_left c n) t) (each (from_reference c) (parts_of p) +++ item (assign (rest p) (rest_value c p t)) last))) in
        let i = measure.entry_bare c.path 3 (position p) in
        let j = total_append measure.entry (each (λ p. declared (reference c p)) (parts_of p)) (key_temporaries c p) in
        let l = each_declared (parts_of p) in
        let k = top_left n e in
        let m = at_assign at fs in
        omega arith
      where
        last_read : (b : Bool) (t : Node) → load t ≡ 0 → loads (cond b none (only t)) ≡ 0
        last_read true t z = refl
        last_read false t z = omega arith

    nested_all : (at : ℕ) (fs : Fields) → let n = node at 27 fs in parts (nested_sequence c n) + EI measure (nested_entry c n) ≤ load n
    unfolding nested_sequence nested_entry weigh change
    nested_all at fs =
        let n = node at 27 fs in
        let os = outermost (target n) in
        let s = sequence_parts (item (change_node 1 (λ p. replaced_below c p) n) (each (from_reference c) os)) in
        let d = each_assign os in
        let l = each_declared os in
        let k = at_target at fs in
        omega arith
      where
        at_target : (at : ℕ) (fs : Fields) → load (change_node 1 (λ p. replaced_below c p) (node at 27 fs)) + loads (outermost (target (node at 27 fs))) ≤ load (node at 27 fs)
        at_target at fs =
            at_kept measure (λ p. replaced_below c p) (λ p. loads (outermost p)) (λ p. nearest_kept measure c (depth p) p) 1 (node at 27 fs)

    -- ---- bodies that take statements in

    let_weighs : (p q : Node) → load (let_of p (reference c q)) ≡ load p
    unfolding weigh is_name_of is
    let_weighs p q = let z = measure.new in omega arith

    front_weighs : (ps js : Items) → loads (in_front c ps js) ≡ lets measure c ps + loads js
    unfolding in_front weigh total
    front_weighs none js = omega arith
    front_weighs (hole ps) js = front_weighs ps js
    front_weighs (item p ps) js =
        let r = front_weighs ps (item (let_of (moved_pattern p) (reference c p)) js) in
        let l = let_weighs (moved_pattern p) p in
        omega arith

    list_more : (f : Items → Items) (x : ℕ) → ((js : Items) → loads (f js) ≤ loads js + x) → (p : Piece) → weigh_piece out kin (on_items f p) ≤ weigh_piece out kin p + x
    unfolding weigh on_items
    list_more f x h (one n) = omega arith
    list_more f x h (list is) = h is
    list_more f x h (text n) = omega arith
    list_more f x h (byte n) = omega arith
    list_more f x h (mark n) = omega arith
    list_more f x h (number n) = omega arith

    at_plain : (j at : ℕ) (fs : Fields) → eqb j 34 ≡ false → eqb j 4 ≡ false → load (node at j fs) ≡ weigh_all out kin fs
    unfolding weigh
    at_plain j at fs a b = rw (a, b) (omega arith)

    body_most : (j : ℕ) → eqb j 34 ≡ false → eqb j 4 ≡ false → (f : Items → Items) (x : ℕ) → ((js : Items) → loads (f js) ≤ loads js + x) → (b : Node) → is j b ≡ true → load (change_items 1 f b) ≤ load b + x
    unfolding change is
    body_most j u v f x h (node at k fs) e =
        subst (λ (y : ℕ). load (node at y (change_in fs 1 (on_items f))) ≤ load (node at y fs) + x) (sym (eqb-true k j e))
        (let a = at_plain j at fs u v in
        let d = at_plain j at (change_in fs 1 (on_items f)) u v in
        let r = change_more out kin fs 1 (on_items f) x (list_more f x h) in
        omega arith)

    body_weighs : (b : Node) → load (as_function_body b) ≤ load b
    unfolding as_function_body weigh
    body_weighs b = by_test (is 16 b) (λ e. rw e (omega arith)) (λ e. let z = measure.new in rw e (omega arith))

    block_weighs : (b : Node) → load (as_block b) ≤ load b
    unfolding as_block weigh
    block_weighs b =
        let z = measure.new in
        by_test (is 2 b)
        (λ e. rw e (omega arith))
        (λ e. by_test (is 13 b) (λ f. rw (e, f) (omega arith)) (λ f. rw (e, f) (omega arith)))

    node_more : (f : Node → Node) (x : ℕ) → ((b : Node) → load (f b) ≤ load b + x) → (p : Piece) → weigh_piece out kin (on_node f p) ≤ weigh_piece out kin p + x
    unfolding weigh on_node
    node_more f x h (one n) = h n
    node_more f x h (list n) = omega arith
    node_more f x h (text n) = omega arith
    node_more f x h (byte n) = omega arith
    node_more f x h (mark n) = omega arith
    node_more f x h (number n) = omega arith

    module _ (f : Items → Items) (x : ℕ) (h : (js : Items) → loads (f js) ≤ loads js + x) where
      function_piece : (p : Piece) → weigh_piece out kin (on_node (λ b. change_items 1 f (as_function_body b)) p) ≤ weigh_piece out kin p + x
      function_piece =
          node_more (λ b. change_items 1 f (as_function_body b)) x
          (λ b. let a = body_most 16 refl refl f x h (as_function_body b) (function_body_is b) in let d = body_weighs b in omega arith)

      block_piece : (p : Piece) → weigh_piece out kin (on_node (λ b. change_items 1 f (as_block b)) p) ≤ weigh_piece out kin p + x
      block_piece =
          node_more (λ b. change_items 1 f (as_block b)) x
          (λ b. let a = body_most 2 refl refl f x h (as_block b) (block_is b) in let d = block_weighs b in omega arith)

    -- patterns are moved from field i to field j
    head_kept : (fs : Fields) (i j : ℕ) (f g : Piece → Piece) (x : ℕ) → weigh_piece out kin (f (piece_in fs i)) + x ≤ weigh_piece out kin (piece_in fs i)
        → ((p : Piece) → weigh_piece out kin (g p) ≤ weigh_piece out kin p + x) → weigh_all out kin (change_in (change_in fs i f) j g) ≤ weigh_all out kin fs
    head_kept fs i j f g x h k =
        let a = change_less out kin fs i f x h in
        let b = change_more out kin (change_in fs i f) j g x k in
        omega arith

    front_most : (ps js : Items) → loads (in_front c ps js) ≤ loads js + lets measure c ps
    front_most ps js = let e = front_weighs ps js in omega arith

    params_piece : (p : Piece) → weigh_piece out kin (on_items (each (left_behind c)) p) + lets measure c (gather moved_from (as_items_of p)) ≤ weigh_piece out kin p
    params_piece p =
        let a = list_kept measure (left_behind c) (λ q. lets measure c (moved_from q)) (behind_kept measure c) p in
        let e = total_gather (λ p. load (moved_pattern p)) moved_from (as_items_of p) in
        omega arith

    function_all : (at : ℕ) (fs : Fields) → parts (function c (node at 14 fs)) ≤ load (node at 14 fs)
    unfolding function in_body change items_at_of stands parts
    function_all at fs =
        let m = all_most out kin at 14 fs in
        let ps = gather moved_from (as_items_of (piece_in fs 3)) in
        by_test (stands_in fs 5 && any is_moved (as_items_of (piece_in fs 3)))
        (λ s. let h = head_kept fs 3 5 (on_items (each (left_behind c))) (on_node (λ b. change_items 1 (in_front c ps) (as_function_body b))) (lets measure c ps)
        (params_piece (piece_in fs 3)) (function_piece (in_front c ps) (lets measure c ps) (front_most ps)) in rw s (omega arith))
        (λ s. rw s (omega arith))

    arrow_all : (at : ℕ) (fs : Fields) → parts (arrow c (node at 17 fs)) ≤ load (node at 17 fs)
    unfolding arrow in_body change items_at_of parts
    arrow_all at fs =
        let m = all_most out kin at 17 fs in
        let ps = gather moved_from (as_items_of (piece_in fs 0)) in
        by_test (any is_moved (as_items_of (piece_in fs 0)))
        (λ s. let h = head_kept fs 0 2 (on_items (each (left_behind c))) (on_node (λ b. change_items 1 (in_front c ps) (as_function_body b))) (lets measure c ps)
        (params_piece (piece_in fs 0)) (function_piece (in_front c ps) (lets measure c ps) (front_most ps)) in rw s (omega arith))
        (λ s. rw s (omega arith))

    catch_all : (at : ℕ) (fs : Fields) → parts (catch c (node at 10 fs)) ≤ load (node at 10 fs)
    unfolding catch in_body change node_at_of parts
    catch_all at fs =
        let m = all_most out kin at 10 fs in
        let ps = moved_from (as_node (piece_in fs 0)) in
        by_test (is_moved (as_node (piece_in fs 0)))
        (λ s. let h = head_kept fs 0 1 (on_node (left_behind c)) (on_node (λ b. change_items 1 (in_front c ps) (as_block b))) (lets measure c ps)
        (node_kept measure (left_behind c) (λ q. lets measure c (moved_from q)) (behind_kept measure c) (piece_in fs 0)) (block_piece (in_front c ps) (lets measure c ps) (front_most ps)) in rw s (omega arith))
        (λ s. rw s (omega arith))

    -- ---- heads of 7 and 8

    second_same : (d : Node) → node_at_of 1 (change_node 0 (λ p. moved_out_of c (depth p) p) d) ≡ node_at_of 1 d
    unfolding change node_at_of
    second_same (node at k fs) = ap as_node (other_changed fs 0 (on_node (λ p. moved_out_of c (depth p) p)) 1 (λ z. omega arith))

    same_source : (d : Node) → source_node out kin (left_behind c d) ≡ source_node out kin d
    unfolding left_behind
    same_source d =
        by_test (is_moved d)
        (λ m. rw m (source_by out kin (change_node 0 (λ p. moved_out_of c (depth p) p) d) ∙ ap (again out kin) (second_same d) ∙ sym (source_by out kin d)))
        (λ m. rw m refl)

    same_sources : (ds : Items) → sources_items out kin (each (left_behind c) ds) ≡ sources_items out kin ds
    unfolding weigh each
    same_sources none = refl
    same_sources (hole ds) = same_sources ds
    same_sources (item d ds) = let r = same_sources ds in let a = same_source d in omega arith

    at_4 : (at : ℕ) (fs : Fields) → load (node at 4 fs) ≡ weigh_all out kin fs + sources_items out kin (as_items_of (piece_in fs 2))
    unfolding weigh
    at_4 at fs = let e = sources_by out kin fs 2 in omega arith

    declaration_moved : (l : Node) → is 4 l ≡ true → load (change_items 2 (each (left_behind c)) l) + lets measure c (gather moved_from (items_at_of 2 l)) ≤ load l
    unfolding is change items_at_of
    declaration_moved (node at k fs) e =
        let gs : Fields = change_in fs 2 (on_items (each (left_behind c))) in
        subst (λ (y : ℕ). load (node at y gs) + lets measure c (gather moved_from (as_items_of (piece_in fs 2))) ≤ load (node at y fs)) (sym (eqb-true k 4 e))
        (let a = at_4 at fs in
        let b = at_4 at gs in
        let r = change_less out kin fs 2 (on_items (each (left_behind c))) (lets measure c (gather moved_from (as_items_of (piece_in fs 2)))) (params_piece (piece_in fs 2)) in
        let s : sources_items out kin (as_items_of (piece_in gs 2)) ≡ sources_items out kin (as_items_of (piece_in fs 2)) = ap (sources_items out kin) (items_changed_in (left_behind c) fs 2) ∙ same_sources (as_items_of (piece_in fs 2)) in
        omega arith)

    left_piece_lem : (p : Piece) → is 4 (as_node p) ≡ true → weigh_piece out kin (on_node (λ l. change_items 2 (each (left_behind c)) l) p) + lets measure c (gather moved_from (items_at_of 2 (as_node p))) ≤ weigh_piece out kin p
    unfolding weigh on_node items_at_of piece_in gather total
    left_piece_lem (one l) e = declaration_moved l e
    left_piece_lem (list n) e = omega arith
    left_piece_lem (text n) e = omega arith
    left_piece_lem (byte n) e = omega arith
    left_piece_lem (mark n) e = omega arith
    left_piece_lem (number n) e = omega arith

    declaring_all : (at k : ℕ) (fs : Fields) → is 4 (node_at_of 1 (node at k fs)) ≡ true → parts (declaring_head c (node at k fs)) ≤ load (node at k fs)
    unfolding declaring_head in_body change node_at_of parts
    declaring_all at k fs d =
        let m = all_most out kin at k fs in
        let ps = gather moved_from (items_at_of 2 (as_node (piece_in fs 1))) in
        by_test (any is_moved (items_at_of 2 (as_node (piece_in fs 1))))
        (λ e. let h = head_kept fs 1 3 (on_node (λ l. change_items 2 (each (left_behind c)) l)) (on_node (λ b. change_items 1 (in_front c ps) (as_block b))) (lets measure c ps)
        (left_piece_lem (piece_in fs 1) d) (block_piece (in_front c ps) (lets measure c ps) (front_most ps)) in rw e (omega arith))
        (λ e. rw e (omega arith))

    var_weighs : (p : Node) → load (var_of (reference c p)) ≡ 0
    unfolding weigh is_name_of is
    var_weighs p = let z = measure.new in omega arith

    assigning_weighs : (p : Node) → load (assigning p (reference c p)) ≡ load p
    unfolding weigh
    assigning_weighs p = let z = measure.new in let a = assign_weighs p (reference c p) in omega arith

    target_piece : (p : Piece) → weigh_piece out kin (on_node (λ l. var_of (reference c l)) p) + load (as_node p) ≤ weigh_piece out kin p
    target_piece p = node_kept measure (λ l. var_of (reference c l)) (λ l. load l) (λ l. let z = var_weighs l in omega arith) p

    put : (p : Node) (js : Items) → loads (item (assigning p (reference c p)) js) ≤ loads js + load p
    unfolding weigh
    put p js = let a = assigning_weighs p in omega arith

    assigning_all : (at k : ℕ) (fs : Fields) → parts (assigning_head c (node at k fs)) ≤ load (node at k fs)
    unfolding assigning_head change node_at_of parts
    assigning_all at k fs =
        let m = all_most out kin at k fs in
        let p = as_node (piece_in fs 1) in
        by_test (has_object_rest p)
        (λ e. let h = head_kept fs 1 3 (on_node (λ l. var_of (reference c l))) (on_node (λ b. change_items 1 (item (assigning p (reference c p))) (as_block b))) (load p)
        (target_piece (piece_in fs 1)) (block_piece (item (assigning p (reference c p))) (load p) (put p)) in rw e (omega arith))
        (λ e. rw e (omega arith))

    -- ---- every rule

    abbrev pub Kept : Node → Step → Type 0
    Kept n s = parts s.result + (EI measure s.note.entry + XI measure s.note.excluded) ≤ load n

    refused : (n : Node) → parts nothing + (EI measure none + XI measure none) ≤ load n
    unfolding parts weigh total
    refused n = omega arith

    alone : (r n : Node) → parts r ≤ load n → parts r + (EI measure none + XI measure none) ≤ load n
    unfolding total
    alone r n h = omega arith

    with_entry : (r n : Node) (is : Items) → parts r + EI measure is ≤ load n → parts r + (EI measure is + XI measure none) ≤ load n
    unfolding total
    with_entry r n is h = omega arith

    assignment_step : (at : ℕ) (fs : Fields) → Kept (node at 27 fs) (step_assignment c (node at 27 fs))
    unfolding step_assignment step_top
    assignment_step at fs =
        let n = node at 27 fs in
        by_test (has_array_rest_over_object_rest (target n))
        (λ a. rw (a, step_assignment) (refused n))
        (λ a. by_test (is_top (target n))
        (λ t. by_number (top_refusal n)
        (λ r l. rw (a, step_assignment) (rw t (rw (l, step_top) (refused n))))
        (λ l. rw (a, step_assignment) (rw t (rw (l, step_top) (top_all at fs t)))))
        (λ t. by_test (has_object_rest (target n))
        (λ o. rw (a, step_assignment) (rw t (rw o (let k = nested_all at fs in with_entry (nested_sequence c n) n (nested_entry c n) k))))
        (λ o. rw (a, step_assignment) (rw t (rw o (alone n n (parts_most n)))))))

    declaration_step : (at : ℕ) (fs : Fields) → Kept (node at 4 fs) (step_declaration c (node at 4 fs))
    unfolding step_declaration total
    declaration_step at fs =
        by_number (declaration_refusal c (node at 4 fs))
        (λ r e. rw (e, step_declaration) (refused (node at 4 fs)))
        (λ e. rw (e, step_declaration) (let k = declaration_kept at fs in omega arith))

    for_step : (at k : ℕ) (fs : Fields) → Kept (node at k fs) (step_for c (node at k fs))
    unfolding step_for
    for_step at k fs =
        let n = node at k fs in
        by_test (is 4 (node_at_of 1 n))
        (λ d. rw (d, step_for) (alone (declaring_head c n) n (declaring_all at k fs d)))
        (λ d. by_test (has_array_rest_over_object_rest (node_at_of 1 n))
        (λ a. rw (d, step_for) (rw a (refused n)))
        (λ a. rw (d, step_for) (rw a (alone (assigning_head c n) n (assigning_all at k fs)))))

    pub keeps : (n : Node) → Kept n (rewrite c n)
    keeps = by_rules c Kept (record {
      literals = λ at fs. alone (literal (node at 24 fs)) (node at 24 fs) (let a = literal_kept at fs in let b = parts_most (literal (node at 24 fs)) in omega arith);
      declarations = declaration_step;
      assignments = assignment_step;
      functions = λ at fs. alone (function c (node at 14 fs)) (node at 14 fs) (function_all at fs);
      arrows = λ at fs. alone (arrow c (node at 17 fs)) (node at 17 fs) (arrow_all at fs);
      catches = λ at fs. alone (catch c (node at 10 fs)) (node at 10 fs) (catch_all at fs);
      for_ins = λ at fs. for_step at 7 fs;
      for_ofs = λ at fs. for_step at 8 fs;
      nowhere = λ at k fs e₁ e₂ e₃ e₄ e₅ e₆ e₇ e₈. alone (node at k fs) (node at k fs) (parts_most (node at k fs));
    })
