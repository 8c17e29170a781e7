-- The rules keep sites apart: if a position is a site of a node once at most, so it is of each part of what the node's rewriting leaves.
-- Assumes nothing.
use mathlib.Core.Path.{◌≡◌, refl, sym, ap, ◌∙◌, subst}
use mathlib.Core.Bool.{true, cond, ◌&&◌, false}
use Prim.Native.Nat.{ℕ, zero, suc, ◌+◌, ◌*◌, ◌≤◌}
use native.Mathlib.Omega.{arith}
use lib.Dec.{eqb}
use borrow.Author.Tests.{eqb-true}
use Rattle.tree.specs.Tree.{Node, Fields, Piece, Items, depth}
use Rattle.tree.specs.Tree.Node.{node}
use Rattle.tree.specs.Tree.Fields.{done, absent, field}
use Rattle.tree.specs.Tree.Piece.{one, list, text, byte, mark, number}
use Rattle.tree.specs.Tree.Items.{none, hole, item}
use Rattle.lowering.specs.Parts.{position, kind, is, piece_in, change_in, as_node, as_items_of, node_at_of, items_at_of, stands, change, on_node, on_items, change_node, change_items, only, each, gather, any, ◌+++◌}
use Rattle.lowering.specs.Made.{Context, reference, value_of, key_of, S, X, E, W, object, array, sequence, assign, declares, let_of, var_of, assigning, returning, block, function_body}
use Rattle.lowering.specs.Patterns.{shape, properties, items_of, rest, has_rest_of, left_of, key, value, with_values, has_object_rest, has_array_rest_over_object_rest, replaced, replaced_below}
use Rattle.lowering.specs.Keys.{key_sort, key_temporary, key_temporaries, excluded_keys, all_primitive, taken}
use Rattle.lowering.specs.Rests.{has_no_properties, mapped, is_hoisted, keys_read, rest_value}
use Rattle.lowering.specs.Literals.{Call, opened, closed, scan, literal}
use Rattle.lowering.specs.Literals.Call.{no_call}
use Rattle.lowering.specs.Declarations.{is_name_of, source, source_declarator, keys_before, pattern_declarator, rest_declarator, own, nested, nested_below, object_declarators, pattern_declarators, lower_declarator, is_lowered, declarators, declaration, declaration_refusal}
use Rattle.lowering.specs.Assignments.{is_top, target, assigned, parts_of, target_left, from_reference, top_sequence, top_refusal, outermost, nested_sequence}
use Rattle.lowering.specs.Heads.{moved_pattern, moved_out_of, is_moved, left_behind, moved_from, in_front, in_body, as_function_body, as_block, function, arrow, catch, declaring_head, assigning_head}
use Rattle.lowering.specs.Walk.{rule_of, rewrite, step_declaration, step_top, step_assignment, step_for}
use Rattle.lowering.proofs.All.{AllItems, AllPiece, AllFields, Each, all_append, all_gather, all_each, all_changed, other_changed}
use Rattle.lowering.proofs.Cases.{by_number, by_test, by_shape, by_key, by_rule_lem, function_body_is, block_is}
use Rattle.lowering.proofs.Sites.{is_name_kind, own as own_sites, sites, sites_fields, sites_piece, sites_items, fields_in, piece_in_lem, two_pieces, as_node_lem, as_items, node_in, items_in_lem, node_and_node, items_and_node, AtMost, each_item, each_piece_lem, each_field_lem, each_part, sites_append, gather_light, Light, on_items_lem, change_node_light, change_each_light, temporary_sites}
use Rattle.lowering.proofs.SiteViews.{only_sites, moved_sites, moved_pattern_sites, nearest_sites, parts_sites, replaced_light, moved_out_light, excluded_keys_sites, taken_fewer, left_fewer_than, none_sites}

module _ (x : ℕ) where
  -- ---- nodes that the rules make have the sites of their parts

  S-sites : (xs : Items) → sites x (S xs) ≡ sites_items x xs
  unfolding sites own_sites is_name_kind
  S-sites xs = omega arith

  object_sites : (ps : Items) → sites x (object ps) ≡ sites_items x ps
  unfolding sites own_sites is_name_kind
  object_sites ps = omega arith

  array_sites : (xs : Items) → sites x (array xs) ≡ sites_items x xs
  unfolding sites own_sites is_name_kind
  array_sites xs = omega arith

  mapped_sites : (n : Node) → sites x (mapped n) ≡ sites x n
  unfolding mapped sites own_sites is_name_kind
  mapped_sites n = omega arith

  X-sites : (s : Node) → sites x (X (object none) (sequence (item (E s) (only s)))) ≡ 2 * sites x s
  unfolding sites own_sites is_name_kind
  X-sites s = omega arith

  W-sites : (a b : Node) → sites x (W a b) ≡ sites x a + sites x b
  unfolding sites own_sites is_name_kind
  W-sites a b = omega arith

  assign_sites : (a b : Node) → sites x (assign a b) ≡ sites x a + sites x b
  unfolding sites own_sites is_name_kind
  assign_sites a b = omega arith

  declares_sites : (a b : Node) → sites x (declares a b) ≡ sites x a + sites x b
  unfolding sites own_sites is_name_kind
  declares_sites a b = omega arith

  let_sites : (a b : Node) → sites x (let_of a b) ≡ sites x a + sites x b
  unfolding sites own_sites is_name_kind
  let_sites a b = omega arith

  var_sites : (a : Node) → sites x (var_of a) ≡ sites x a
  unfolding sites own_sites is_name_kind
  var_sites a = omega arith

  assigning_sites : (a b : Node) → sites x (assigning a b) ≡ sites x a + sites x b
  unfolding sites own_sites is_name_kind
  assigning_sites a b = omega arith

  block_sites : (is : Items) → sites x (block is) ≡ sites_items x is
  unfolding sites own_sites is_name_kind
  block_sites is = omega arith

  returned_sites : (b : Node) → sites x (function_body (only (returning b))) ≡ sites x b
  unfolding sites own_sites is_name_kind
  returned_sites b = omega arith

  -- ---- literals

  abbrev so_far : Call → ℕ
  so_far no_call = 0
  so_far (Call.call c) = sites x c

  opened_sites : (c : Call) (pending : Items) → sites_items x (opened c pending) ≤ so_far c + sites_items x pending
  unfolding opened sites own_sites is_name_kind
  opened_sites no_call pending = omega arith
  opened_sites (Call.call c) none = omega arith
  opened_sites (Call.call c) (hole ps) = omega arith
  opened_sites (Call.call c) (item p ps) = omega arith

  closed_sites : (c : Call) (pending : Items) → sites x (closed c pending) ≤ so_far c + sites_items x pending
  unfolding closed
  closed_sites no_call pending = let o = object_sites pending in omega arith
  closed_sites (Call.call c) none = omega arith
  closed_sites (Call.call c) (hole ps) = omega arith
  closed_sites (Call.call c) (item p ps) =
      let o = opened_sites (Call.call c) (item p ps) in let s = S-sites (opened (Call.call c) (item p ps)) in omega arith

  scan_sites : (c : Call) (pending ps : Items) → sites x (scan c pending ps) ≤ so_far c + sites_items x pending + sites_items x ps
  unfolding scan sites
  scan_sites c pending none = let h = closed_sites c pending in omega arith
  scan_sites c pending (hole ps) = scan_sites c pending ps
  scan_sites c pending (item p ps) =
      by_test (is 26 p)
      (λ e. rw (e, scan)
      (let next = opened c pending +++ only (node_at_of 0 p) in
      let h = scan_sites (Call.call (S next)) none ps in
      let s = S-sites next in
      let a = sites_append x (opened c pending) (only (node_at_of 0 p)) in
      let b = opened_sites c pending in
      let o = only_sites x (node_at_of 0 p) in
      let n = node_in x 0 p in
      let z = none_sites x in
      omega arith))
      (λ e. rw (e, scan)
      (let h = scan_sites c (pending +++ only p) ps in let a = sites_append x pending (only p) in let o = only_sites x p in omega arith))

  literal_sites : (n : Node) → sites x (literal n) ≤ sites x n
  unfolding literal
  literal_sites n =
      by_test (any (λ p. is 26 p) (items_at_of 0 n))
      (λ e. rw e (let h = scan_sites no_call none (items_at_of 0 n) in let i = items_in_lem x 0 n in let z = none_sites x in omega arith))
      (λ e. rw e (omega arith))

  -- ---- two fields of a node changed

  two_kept : (b : ℕ) (fs : Fields) (i j : ℕ) (f g : Piece → Piece) → (i ≡ j → ⊥) → sites_fields x fs ≤ b
      → AllPiece (AtMost x b) (f (piece_in fs i)) → AllPiece (AtMost x b) (g (piece_in fs j)) → AllFields (AtMost x b) (change_in (change_in fs i f) j g)
  two_kept b fs i j f g d l u v =
      all_changed (AtMost x b) (change_in fs i f) j g (all_changed (AtMost x b) fs i f (each_field_lem x b fs l) u)
      (subst (λ (p : Piece). AllPiece (AtMost x b) (g p)) (sym (other_changed fs i f j d)) v)

  node_kept : (b e : ℕ) (f : Node → Node) → ((n : Node) → sites x (f n) ≤ sites x n + e) → (p : Piece) → sites_piece x p + e ≤ b → AllPiece (AtMost x b) (on_node f p)
  unfolding on_node sites
  node_kept b e f light (one n) h = let l = light n in omega arith
  node_kept b e f light (list is) h = each_item x b is (omega arith)
  node_kept b e f light (text bs) h = tt
  node_kept b e f light (byte y) h = tt
  node_kept b e f light (mark y) h = tt
  node_kept b e f light (number y) h = tt

  -- ---- bodies

  block_fields : (at k : ℕ) (fs : Fields) → eqb k 2 ≡ true → sites x (node at k fs) ≡ sites_fields x fs
  unfolding sites own_sites is_name_kind
  block_fields at k fs e = ap (λ (m : ℕ). sites x (node at m fs)) (eqb-true k 2 e) ∙ omega arith

  body_fields : (at k : ℕ) (fs : Fields) → eqb k 16 ≡ true → sites x (node at k fs) ≡ sites_fields x fs
  unfolding sites own_sites is_name_kind
  body_fields at k fs e = ap (λ (m : ℕ). sites x (node at m fs)) (eqb-true k 16 e) ∙ omega arith

  module _ (f : Items → Items) (e : ℕ) (grows : (is : Items) → sites_items x (f is) ≤ sites_items x is + e) where
    piece_grows : (p : Piece) → sites_piece x (on_items f p) ≤ sites_piece x p + e
    unfolding on_items sites
    piece_grows (one n) = omega arith
    piece_grows (list is) = grows is
    piece_grows (text bs) = omega arith
    piece_grows (byte y) = omega arith
    piece_grows (mark y) = omega arith
    piece_grows (number y) = omega arith

    fields_grow : (fs : Fields) (i : ℕ) → sites_fields x (change_in fs i (on_items f)) ≤ sites_fields x fs + e
    unfolding change_in sites
    fields_grow done i = omega arith
    fields_grow (absent fs) zero = omega arith
    fields_grow (absent fs) (suc i) = fields_grow fs i
    fields_grow (field p fs) zero = let h = piece_grows p in omega arith
    fields_grow (field p fs) (suc i) = let h = fields_grow fs i in omega arith

    block_grows : (n : Node) → is 2 n ≡ true → sites x (change_items 1 f n) ≤ sites x n + e
    unfolding change is
    block_grows (node at k fs) t =
        let a = block_fields at k (change_in fs 1 (on_items f)) t in
        let d = block_fields at k fs t in
        let g = fields_grow fs 1 in
        omega arith

    body_grows : (n : Node) → is 16 n ≡ true → sites x (change_items 1 f n) ≤ sites x n + e
    unfolding change is
    body_grows (node at k fs) t =
        let a = body_fields at k (change_in fs 1 (on_items f)) t in
        let d = body_fields at k fs t in
        let g = fields_grow fs 1 in
        omega arith

  as_function_body_sites : (b : Node) → sites x (as_function_body b) ≤ sites x b
  unfolding as_function_body
  as_function_body_sites b = by_test (is 16 b) (λ e. rw e (omega arith)) (λ e. rw e (let h = returned_sites b in omega arith))

  as_block_sites : (b : Node) → sites x (as_block b) ≤ sites x b
  unfolding as_block
  as_block_sites b =
      by_test (is 2 b)
      (λ e. rw e (omega arith))
      (λ e. rw e
      (by_test (is 13 b)
      (λ f. rw f (let h = block_sites none in let z = none_sites x in omega arith))
      (λ f. rw f (let h = block_sites (only b) in let o = only_sites x b in omega arith))))

  moved_from_sites : (q : Node) → sites_items x (moved_from q) ≤ sites x q
  unfolding moved_from
  moved_from_sites q =
      by_test (is_moved q)
      (λ e. rw e (let m = moved_sites x (depth (node_at_of 0 q)) (node_at_of 0 q) in let n = node_in x 0 q in omega arith))
      (λ e. rw e (let z = none_sites x in omega arith))

  -- a Reference or a Temporary with one site at most has none
  name_sites : (e : Node) → is_name_of e ≡ true → sites x e ≤ 1 → sites x e ≡ 0
  unfolding is_name_of is sites is_name_kind
  name_sites (node at k fs) t h = let m = rw t at h in rw t (omega arith)

  -- ---- the heads

  module _ (c : Context) where
    left_behind_fewer : (q : Node) → sites x (left_behind c q) ≤ sites x q
    unfolding left_behind
    left_behind_fewer q =
        by_test (is_moved q)
        (λ e. rw e ((change_node_light x 0 (λ p. moved_out_of c (depth p) p) (moved_out_light x c)).fewer q))
        (λ e. rw e (omega arith))

    left_behind_stays : (q : Node) → position (left_behind c q) ≡ position q
    unfolding left_behind
    left_behind_stays q =
        by_test (is_moved q)
        (λ e. rw e ((change_node_light x 0 (λ p. moved_out_of c (depth p) p) (moved_out_light x c)).stays q))
        (λ e. rw e refl)

    left_behind_light : Light x (left_behind c)
    left_behind_light = record { fewer = left_behind_fewer; stays = left_behind_stays }

    replaced_below_light : Light x (λ p. replaced_below c p)
    replaced_below_light = record { fewer = λ p. (replaced_light x c (depth p)).fewer p; stays = λ p. (replaced_light x c (depth p)).stays p }

    in_front_sites : (ps body : Items) → sites_items x (in_front c ps body) ≤ sites_items x body + sites_items x ps
    unfolding in_front sites
    in_front_sites none body = omega arith
    in_front_sites (hole ps) body = in_front_sites ps body
    in_front_sites (item p ps) body =
        let h = in_front_sites ps (item (let_of (moved_pattern p) (reference c p)) body) in
        let l = let_sites (moved_pattern p) (reference c p) in
        let t = temporary_sites x c.path 1 (position p) in
        let v = moved_pattern_sites x p in
        omega arith

    in_function_body : (ps : Items) (b : Node) → sites x (in_body c ps (as_function_body b)) ≤ sites x b + sites_items x ps
    unfolding in_body
    in_function_body ps b =
        let g = body_grows (in_front c ps) (sites_items x ps) (in_front_sites ps) (as_function_body b) (function_body_is b) in
        let w = as_function_body_sites b in
        omega arith

    in_block : (ps : Items) (b : Node) → sites x (in_body c ps (as_block b)) ≤ sites x b + sites_items x ps
    unfolding in_body
    in_block ps b =
        let g = block_grows (in_front c ps) (sites_items x ps) (in_front_sites ps) (as_block b) (block_is b) in
        let w = as_block_sites b in
        omega arith

    items_kept : (b : ℕ) (p : Piece) → sites_piece x p ≤ b → AllPiece (AtMost x b) (on_items (each (left_behind c)) p)
    items_kept b p h = let l = (on_items_lem x (left_behind c) left_behind_light).fewer p in each_piece_lem x b (on_items (each (left_behind c)) p) (omega arith)

    function_kept : (b : ℕ) (n : Node) → sites x n ≤ b → Each (AtMost x b) (function c n)
    unfolding function change items_at_of
    function_kept b (node at k fs) h =
        let n = node at k fs in
        let ps = as_items_of (piece_in fs 3) in
        let w = fields_in x at k fs in
        let a = as_items x (piece_in fs 3) in
        let m = gather_light x moved_from moved_from_sites ps in
        let t = two_pieces x fs 3 5 (omega arith) in
        by_test (stands 5 n && any is_moved (as_items_of (piece_in fs 3)))
        (λ s. rw (s, Each)
        (two_kept b fs 3 5 (on_items (each (left_behind c))) (on_node (λ y. in_body c (gather moved_from ps) (as_function_body y))) (omega arith) (omega arith)
        (items_kept b (piece_in fs 3) (omega arith))
        (node_kept b (sites_items x (gather moved_from ps)) (λ y. in_body c (gather moved_from ps) (as_function_body y)) (in_function_body (gather moved_from ps)) (piece_in fs 5) (omega arith))))
        (λ s. rw (s, Each) (each_part x b n h))

    arrow_kept : (b : ℕ) (n : Node) → sites x n ≤ b → Each (AtMost x b) (arrow c n)
    unfolding arrow change items_at_of
    arrow_kept b (node at k fs) h =
        let n = node at k fs in
        let ps = as_items_of (piece_in fs 0) in
        let w = fields_in x at k fs in
        let a = as_items x (piece_in fs 0) in
        let m = gather_light x moved_from moved_from_sites ps in
        let t = two_pieces x fs 0 2 (omega arith) in
        by_test (any is_moved ps)
        (λ s. rw (s, Each)
        (two_kept b fs 0 2 (on_items (each (left_behind c))) (on_node (λ y. in_body c (gather moved_from ps) (as_function_body y))) (omega arith) (omega arith)
        (items_kept b (piece_in fs 0) (omega arith))
        (node_kept b (sites_items x (gather moved_from ps)) (λ y. in_body c (gather moved_from ps) (as_function_body y)) (in_function_body (gather moved_from ps)) (piece_in fs 2) (omega arith))))
        (λ s. rw (s, Each) (each_part x b n h))

    catch_kept : (b : ℕ) (n : Node) → sites x n ≤ b → Each (AtMost x b) (catch c n)
    unfolding catch change node_at_of
    catch_kept b (node at k fs) h =
        let q = as_node (piece_in fs 0) in
        let w = fields_in x at k fs in
        let a = as_node_lem x (piece_in fs 0) in
        let m = moved_from_sites q in
        let t = two_pieces x fs 0 1 (omega arith) in
        by_test (is_moved q)
        (λ s. rw (s, Each)
        (two_kept b fs 0 1 (on_node (left_behind c)) (on_node (λ y. in_body c (moved_from q) (as_block y))) (omega arith) (omega arith)
        (node_kept b 0 (left_behind c) (λ y. let l = left_behind_light.fewer y in omega arith) (piece_in fs 0) (omega arith))
        (node_kept b (sites_items x (moved_from q)) (λ y. in_body c (moved_from q) (as_block y)) (in_block (moved_from q)) (piece_in fs 1) (omega arith))))
        (λ s. rw (s, Each) (each_part x b (node at k fs) h))

    declaring_kept : (b : ℕ) (n : Node) → sites x n ≤ b → Each (AtMost x b) (declaring_head c n)
    unfolding declaring_head change node_at_of
    declaring_kept b (node at k fs) h =
        let n = node at k fs in
        let ds = items_at_of 2 (as_node (piece_in fs 1)) in
        let w = fields_in x at k fs in
        let a = as_node_lem x (piece_in fs 1) in
        let i = items_in_lem x 2 (as_node (piece_in fs 1)) in
        let m = gather_light x moved_from moved_from_sites ds in
        let t = two_pieces x fs 1 3 (omega arith) in
        by_test (any is_moved ds)
        (λ s. rw (s, Each)
        (two_kept b fs 1 3 (on_node (λ l. change_items 2 (each (left_behind c)) l)) (on_node (λ y. in_body c (gather moved_from ds) (as_block y))) (omega arith) (omega arith)
        (node_kept b 0 (λ l. change_items 2 (each (left_behind c)) l) (λ y. let l = (change_each_light x 2 (left_behind c) left_behind_light).fewer y in omega arith) (piece_in fs 1) (omega arith))
        (node_kept b (sites_items x (gather moved_from ds)) (λ y. in_body c (gather moved_from ds) (as_block y)) (in_block (gather moved_from ds)) (piece_in fs 3) (omega arith))))
        (λ s. rw (s, Each) (each_part x b n h))

    item_grows : (s : Node) (is : Items) → sites_items x (item s is) ≤ sites_items x is + sites x s
    unfolding sites
    item_grows s is = omega arith

    in_block_first : (s b : Node) → sites x (change_items 1 (item s) (as_block b)) ≤ sites x b + sites x s
    in_block_first s b =
        let g = block_grows (item s) (sites x s) (item_grows s) (as_block b) (block_is b) in
        let w = as_block_sites b in
        omega arith

    assigning_kept : (b : ℕ) (n : Node) → sites x n ≤ b → Each (AtMost x b) (assigning_head c n)
    unfolding assigning_head change node_at_of
    assigning_kept b (node at k fs) h =
        let n = node at k fs in
        let p = as_node (piece_in fs 1) in
        let w = fields_in x at k fs in
        let a = as_node_lem x (piece_in fs 1) in
        let s = assigning_sites p (reference c p) in
        let z = temporary_sites x c.path 1 (position p) in
        let t = two_pieces x fs 1 3 (omega arith) in
        by_test (has_object_rest p)
        (λ r. rw (r, Each)
        (two_kept b fs 1 3 (on_node (λ l. var_of (reference c l))) (on_node (λ y. change_items 1 (item (assigning p (reference c p))) (as_block y))) (omega arith) (omega arith)
        (node_kept b 0 (λ l. var_of (reference c l)) (λ l. let v = var_sites (reference c l) in let y = temporary_sites x c.path 1 (position l) in omega arith) (piece_in fs 1) (omega arith))
        (node_kept b (sites x (assigning p (reference c p))) (λ y. change_items 1 (item (assigning p (reference c p))) (as_block y)) (in_block_first (assigning p (reference c p))) (piece_in fs 3) (omega arith))))
        (λ r. rw (r, Each) (each_part x b n h))

    -- ---- the value of a rest, read from a source without sites

    keys_read_sites : (p : Node) → sites x (keys_read c p) ≤ sites_items x (properties p)
    unfolding keys_read
    keys_read_sites p =
        let k = excluded_keys_sites x c p in
        let a = array_sites (excluded_keys c p) in
        let m = mapped_sites (array (excluded_keys c p)) in
        let t = temporary_sites x c.path 2 (position p) in
        by_test (is_hoisted c p)
        (λ e. rw e (omega arith))
        (λ e. rw e (by_test (all_primitive p) (λ f. rw f (omega arith)) (λ f. rw f (omega arith))))

    rest_sites : (p s : Node) → sites x s ≡ 0 → sites x (rest p) + sites x (rest_value c p s) ≤ sites x p
    unfolding rest_value
    rest_sites p s z =
        let a = items_and_node x 0 1 (omega arith) p in
        let b = keys_read_sites p in
        let d = X-sites s in
        let w = W-sites s (keys_read c p) in
        by_test (has_no_properties p) (λ h. rw h (omega arith)) (λ h. rw h (omega arith))

    -- ---- assignments

    -- from their temporaries
    from_kept : (is : Items) → sites_items x is ≤ 1 → AllItems (AtMost x 1) (each (from_reference c) is)
    from_kept is h =
        all_each (AtMost x 1) (AtMost x 1) (from_reference c)
        (λ q m. let a = assign_sites q (reference c q) in let y = temporary_sites x c.path 1 (position q) in omega arith)
        is (each_item x 1 is h)

    top_kept : (n : Node) → sites x n ≤ 1 → Each (AtMost x 1) (top_sequence c n)
    unfolding top_sequence
    top_kept n h =
        let p = target n in
        let t = value_of c p in
        let z = temporary_sites x c.path 3 (position p) in
        let a = node_and_node x 1 2 (omega arith) n in
        let l = left_fewer_than x c n in
        let d = assign_sites t (assigned n) in
        let e = assign_sites (target_left c n) t in
        let y = rest_sites p t z in
        let w = assign_sites (rest p) (rest_value c p t) in
        let g = parts_sites x false (depth p) p in
        let i = items_in_lem x 0 p in (
          (
            omega arith,
            (
              omega arith,
              all_append (AtMost x 1) (each (from_reference c) (parts_of p)) (item (assign (rest p) (rest_value c p t)) (cond c.statement none (only t)))
                  (from_kept (parts_of p) (omega arith))
                  (omega arith, by_test c.statement (λ s. rw (s, AllItems) tt) (λ s. rw (s, AllItems) (omega arith, tt))),
            ),
          ),
          tt,
        )

    nested_kept : (n : Node) → sites x n ≤ 1 → Each (AtMost x 1) (nested_sequence c n)
    unfolding nested_sequence
    nested_kept n h =
        let l = (change_node_light x 1 (λ p. replaced_below c p) replaced_below_light).fewer n in
        let t = node_in x 1 n in (
          (
            omega arith,
            let s = nearest_sites x true (depth (target n)) (target n) in from_kept (outermost (target n)) (omega arith),
          ),
          tt,
        )

    -- ---- declarators

    source_sites : (p init : Node) → sites x init ≤ 1 → sites x (source c p init) ≡ 0
    unfolding source
    source_sites p init h =
        by_test (is_name_of init)
        (λ e. rw e (name_sites init e h))
        (λ e. rw e (temporary_sites x c.path 3 (position p)))

    key_temporary_kept : (b : ℕ) (q : Node) → sites x q ≤ b → AllItems (AtMost x b) (key_temporary c q)
    unfolding key_temporary
    key_temporary_kept b q h =
        by_key (key_sort (key q))
        (λ e. rw (e, key_temporary, AllItems) tt)
        (λ e. rw (e, key_temporary, AllItems) tt)
        (λ e. rw (e, key_temporary, AllItems) tt)
        (λ e. rw (e, key_temporary, AllItems) tt)
        (λ e. rw (e, key_temporary, AllItems) tt)
        (λ e. rw (e, key_temporary, AllItems)
        (let d = declares_sites (key_of c q) (key q) in let t = temporary_sites x c.path 4 (position q) in let n = node_in x 0 q in (omega arith, tt)))

    keys_before_kept : (b : ℕ) (p : Node) → sites x p ≤ b → AllItems (AtMost x b) (keys_before c p)
    unfolding keys_before key_temporaries
    keys_before_kept b p h =
        let i = items_in_lem x 0 p in
        by_test (has_rest_of p)
        (λ r. rw (r, AllItems)
        (all_gather (AtMost x b) (AtMost x b) (key_temporary c) (λ q l. key_temporary_kept b q l) (properties p) (each_item x b (properties p) (omega arith))))
        (λ r. rw (r, AllItems) tt)

    pattern_kept : (b : ℕ) (p s : Node) → sites x s ≡ 0 → sites x p ≤ b → AllItems (AtMost x b) (pattern_declarator c p s)
    unfolding pattern_declarator
    pattern_kept b p s z h =
        by_test (has_no_properties p)
        (λ r. rw (r, AllItems) tt)
        (λ r. rw (r, AllItems) (let t = taken_fewer x c p in let d = declares_sites (taken c p) s in (omega arith, tt)))

    rest_declarator_kept : (b : ℕ) (p s : Node) → sites x s ≡ 0 → sites x p ≤ b → AllItems (AtMost x b) (rest_declarator c p s)
    unfolding rest_declarator
    rest_declarator_kept b p s z h =
        by_test (has_rest_of p)
        (λ r. rw (r, AllItems) (let y = rest_sites p s z in let d = declares_sites (rest p) (rest_value c p s) in (omega arith, tt)))
        (λ r. rw (r, AllItems) tt)

    own_kept : (b : ℕ) (p s : Node) → sites x s ≡ 0 → sites x p ≤ b → AllItems (AtMost x b) (own c p s)
    unfolding own
    own_kept b p s z h =
        all_append (AtMost x b) (keys_before c p) (pattern_declarator c p s +++ rest_declarator c p s) (keys_before_kept b p h)
        (all_append (AtMost x b) (pattern_declarator c p s) (rest_declarator c p s) (pattern_kept b p s z h) (rest_declarator_kept b p s z h))

    found_kept : (b d : ℕ) (p : Node) → sites x p ≤ b → AllItems (AtMost x b) (nested c d p)
    unfolding nested
    found_kept b zero p h = tt
    found_kept b (suc d) p h =
        let f : Node → Node = λ v. replaced c d v in
        let i = items_in_lem x 0 p in
        by_shape (shape p)
        (λ e. rw (e, nested, AllItems)
        (all_append (AtMost x b) (cond (has_rest_of p) (own c (with_values f p) (reference c p)) none) (gather (λ q. nested c d (value q)) (properties p))
        (by_test (has_rest_of p)
        (λ r. rw (r, AllItems)
        (let l = (change_each_light x 0 (λ q. change_node 1 f q) (change_node_light x 1 f (replaced_light x c d))).fewer p in
        own_kept b (with_values f p) (reference c p) (temporary_sites x c.path 1 (position p)) (omega arith)))
        (λ r. rw (r, AllItems) tt))
        (all_gather (AtMost x b) (AtMost x b) (λ q. nested c d (value q)) (λ q l. let v = node_in x 1 q in found_kept b d (value q) (omega arith)) (properties p) (each_item x b (properties p) (omega arith)))))
        (λ e. rw (e, nested, AllItems)
        (all_gather (AtMost x b) (AtMost x b) (λ q. nested c d q) (λ q l. found_kept b d q l) (items_of p) (each_item x b (items_of p) (omega arith))))
        (λ e. rw (e, nested, AllItems) (let l = node_in x 0 p in found_kept b d (left_of p) (omega arith)))
        (λ e. rw (e, nested, AllItems) tt)

    object_kept : (b : ℕ) (p s : Node) → sites x s ≡ 0 → sites x p ≤ b → AllItems (AtMost x b) (object_declarators c p s)
    unfolding object_declarators
    object_kept b p s z h =
        let f : Node → Node = λ v. replaced_below c v in
        let q = with_values f p in
        let i = items_in_lem x 0 p in
        let l = (change_each_light x 0 (λ y. change_node 1 f y) (change_node_light x 1 f replaced_below_light)).fewer p in
        let ns = gather (λ r. nested_below c (value r)) (properties p) in
        all_append (AtMost x b) (keys_before c q) (pattern_declarator c q s +++ ns +++ rest_declarator c q s) (keys_before_kept b q (omega arith))
        (all_append (AtMost x b) (pattern_declarator c q s) (ns +++ rest_declarator c q s) (pattern_kept b q s z (omega arith))
        (all_append (AtMost x b) ns (rest_declarator c q s)
        (all_gather (AtMost x b) (AtMost x b) (λ y. nested_below c (value y)) (λ y m. let v = node_in x 1 y in found_kept b (depth (value y)) (value y) (omega arith)) (properties p)
        (each_item x b (properties p) (omega arith)))
        (rest_declarator_kept b q s z (omega arith))))

    patterns_kept : (b : ℕ) (p s : Node) → sites x s ≡ 0 → sites x p ≤ b → AllItems (AtMost x b) (pattern_declarators c p s)
    unfolding pattern_declarators
    patterns_kept b p s z h =
        by_shape (shape p)
        (λ e. rw (e, AllItems) (object_kept b p s z h))
        (λ e. rw (e, AllItems)
        (let l = (replaced_light x c (depth p)).fewer p in
        let d = declares_sites (replaced_below c p) s in
        all_append (AtMost x b) (only (declares (replaced_below c p) s)) (nested_below c p) (omega arith, tt) (found_kept b (depth p) p h)))
        (λ e. rw (e, AllItems) tt)
        (λ e. rw (e, AllItems) tt)

    lowered_kept : (p init : Node) → sites x p ≤ 1 → sites x init ≤ 1 → AllItems (AtMost x 1) (lower_declarator c p init)
    unfolding lower_declarator source_declarator
    lowered_kept p init h k =
        let t = temporary_sites x c.path 3 (position p) in
        let d = declares_sites (value_of c p) init in
        all_append (AtMost x 1) (cond (is_name_of init) none (only (declares (value_of c p) init))) (pattern_declarators c p (source c p init))
        (by_test (is_name_of init) (λ e. rw (e, AllItems) tt) (λ e. rw (e, AllItems) (omega arith, tt)))
        (patterns_kept 1 p (source c p init) (source_sites p init k) h)

    declarators_kept : (d : Node) → sites x d ≤ 1 → AllItems (AtMost x 1) (declarators c d)
    unfolding declarators
    declarators_kept d h =
        let a = node_in x 0 d in
        let b = node_in x 1 d in
        by_test (is_lowered d)
        (λ e. rw (e, AllItems) (lowered_kept (node_at_of 0 d) (node_at_of 1 d) (omega arith) (omega arith)))
        (λ e. rw (e, AllItems) (h, tt))

    declaration_piece : (p : Piece) → sites_piece x p ≤ 1 → AllPiece (AtMost x 1) (on_items (gather (declarators c)) p)
    unfolding on_items sites
    declaration_piece (one n) h = h
    declaration_piece (list is) h = all_gather (AtMost x 1) (AtMost x 1) (declarators c) (λ d l. declarators_kept d l) is (each_item x 1 is h)
    declaration_piece (text bs) h = tt
    declaration_piece (byte b) h = tt
    declaration_piece (mark b) h = tt
    declaration_piece (number b) h = tt

    declaration_kept : (n : Node) → sites x n ≤ 1 → Each (AtMost x 1) (declaration c n)
    unfolding declaration change
    declaration_kept (node at k fs) h =
        let w = fields_in x at k fs in
        let b = piece_in_lem x fs 2 in
        all_changed (AtMost x 1) fs 2 (on_items (gather (declarators c))) (each_field_lem x 1 fs (omega arith)) (declaration_piece (piece_in fs 2) (omega arith))

    -- ---- the steps

    declarations_keep : (n : Node) → sites x n ≤ 1 → Each (AtMost x 1) (step_declaration c n).result
    unfolding step_declaration
    declarations_keep n h = by_number (declaration_refusal c n) (λ r e. rw (e, Each) tt) (λ e. rw (e, Each) (declaration_kept n h))

    tops_keep : (n : Node) → sites x n ≤ 1 → Each (AtMost x 1) (step_top c n).result
    unfolding step_top
    tops_keep n h = by_number (top_refusal n) (λ r e. rw (e, Each) tt) (λ e. rw (e, Each) (top_kept n h))

    assignments_keep : (n : Node) → sites x n ≤ 1 → Each (AtMost x 1) (step_assignment c n).result
    unfolding step_assignment
    assignments_keep n h =
        by_test (has_array_rest_over_object_rest (target n))
        (λ a. rw (a, Each) tt)
        (λ a. rw (a, Each)
        (by_test (is_top (target n))
        (λ t. rw (t, Each) (tops_keep n h))
        (λ t. rw (t, Each) (by_test (has_object_rest (target n)) (λ r. rw (r, Each) (nested_kept n h)) (λ r. rw (r, Each) (each_part x 1 n h))))))

    fors_keep : (n : Node) → sites x n ≤ 1 → Each (AtMost x 1) (step_for c n).result
    unfolding step_for
    fors_keep n h =
        by_test (is 4 (node_at_of 1 n))
        (λ d. rw (d, Each) (declaring_kept 1 n h))
        (λ d. rw (d, Each) (by_test (has_array_rest_over_object_rest (node_at_of 1 n)) (λ a. rw (a, Each) tt) (λ a. rw (a, Each) (assigning_kept 1 n h))))

    pub kept : (n : Node) → sites x n ≤ 1 → Each (AtMost x 1) (rewrite c n).result
    unfolding rewrite
    kept n h =
        by_rule_lem (rule_of (kind n))
        (λ e. rw (e, Each) (let l = literal_sites n in each_part x 1 (literal n) (omega arith)))
        (λ e. rw (e, Each) (declarations_keep n h))
        (λ e. rw (e, Each) (assignments_keep n h))
        (λ e. rw (e, Each) (function_kept 1 n h))
        (λ e. rw (e, Each) (arrow_kept 1 n h))
        (λ e. rw (e, Each) (catch_kept 1 n h))
        (λ e. rw (e, Each) (fors_keep n h))
        (λ e. rw (e, Each) (each_part x 1 n h))
