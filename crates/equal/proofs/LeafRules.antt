-- Each rule keeps what holds of Literals and StaticKeys, in what it leaves and in what it hands out.
-- Assumes nothing.
use mathlib.Core.Path.{◌≡◌, refl, ◌∙◌}
use mathlib.Core.Bool.{Bool, true, false, cond, ◌&&◌}
use Prim.Native.Nat.{ℕ, zero, suc}
use Rattle.tree.specs.Tree.{Node, Items, depth}
use Rattle.tree.specs.Tree.Fields.{done, absent, field}
use Rattle.tree.specs.Tree.Piece.{one, list, byte, mark}
use Rattle.tree.specs.Tree.Items.{none, hole, item}
use Rattle.lowering.specs.Parts.{kind, is, node_at_of, items_at_of, stands, change_node, change_items, on_items, only, each, gather, any, ◌+++◌}
use Rattle.lowering.specs.Made.{Context, reference, value_of, S, assign, declares, declared, let_of, var_of, assigning, returning, block, function_body, helper}
use Rattle.lowering.specs.Patterns.{shape, properties, rest, has_rest_of, left_of, value, with_values, has_object_rest, has_array_rest_over_object_rest, replaced, replaced_below, objects_below}
use Rattle.lowering.specs.Patterns.Shape.{object_pattern}
use Rattle.lowering.specs.Keys.{key_temporaries, taken}
use Rattle.lowering.specs.Rests.{has_no_properties, rest_value, excluded_for}
use Rattle.lowering.specs.Literals.{Call, opened, closed, scan, literal}
use Rattle.lowering.specs.Literals.Call.{no_call, call}
use Rattle.lowering.specs.Declarations.{is_name_of, source, source_declarator, keys_before, pattern_declarator, rest_declarator, own, nested, nested_below, object_declarators, pattern_declarators, lower_declarator, is_lowered, declarators, lowered_in, declaration, declaration_excludes, declaration_refusal}
use Rattle.lowering.specs.Assignments.{target, assigned, is_top, parts_of, top_refusal, target_left, from_reference, top_sequence, top_entry, top_excludes, outermost, nested_sequence, nested_entry}
use Rattle.lowering.specs.Heads.{moved, moved_pattern, is_moved, moved_from, moved_out_of, left_behind, in_front, in_body, as_function_body, as_block, function, arrow, catch, declaring_head, assigning_head}
use Rattle.lowering.specs.Walk.{Note, Step, rewritten, refuse, rule_of, rewrite, step_declaration, step_top, step_assignment, step_for}
use Rattle.lowering.proofs.Cases.{by_test, by_shape, by_rule_lem, object_is, is_changed, by_number}
use Rattle.lowering.proofs.Clauses.{top_34}
use Rattle.equal.proofs.LeafViews.{Makes, Good, GoodItems}
use Rattle.equal.proofs.LeafParts
use Rattle.equal.proofs.LeafViews as Views

module _ (Q : Node → Type 0) (makes : Makes Q) where
  abbrev G : Node → Type 0
  G n = Good Q makes n

  abbrev GI : Items → Type 0
  GI is = GoodItems Q makes is

  -- what a step leaves and hands out
  pub record GoodNote (n : Note) : Type 0 where
    pub entry : GI n.entry
    pub excluded : GI n.excluded

  pub record GoodStep (s : Step) : Type 0 where
    pub note : GoodNote s.note
    pub result : G s.result

  pub quiet : (is : Items) (n : Node) → G n → GoodStep (rewritten is n)
  quiet is n h = record { note = record { entry = tt; excluded = tt }; result = h }

  refused : (r : ℕ) → GoodStep (refuse r)
  refused r = record { note = record { entry = tt; excluded = tt }; result = LeafParts.nothing_leaves Q }

  one_or_none : (b : Bool) (is js : Items) → GI is → GI js → GI (cond b is js)
  one_or_none true is js h k = h
  one_or_none false is js h k = k

  one_or_other : (b : Bool) (m n : Node) → G m → G n → G (cond b m n)
  one_or_other true m n h k = h
  one_or_other false m n h k = k

  append : (is js : Items) → GI is → GI js → GI (is +++ js)
  append is js h k = LeafParts.append_leaves Q is js h k

  part : (i : ℕ) (n : Node) → G n → G (node_at_of i n)
  part i n h = LeafParts.node_leaves Q i n h

  parts : (i : ℕ) (n : Node) → G n → GI (items_at_of i n)
  parts i n h = LeafParts.items_leaves Q i n h

  -- ---- literals

  abbrev GoodCall : Call → Type 0
  GoodCall no_call = Unit {0}
  GoodCall (call c) = G c

  calls : (xs : Items) → GI xs → G (S xs)
  calls xs h = Views.call_good Q makes (helper 1) xs (Views.helper_good Q makes 1) h

  opened_good : (c : Call) (ps : Items) → GoodCall c → GI ps → GI (opened c ps)
  unfolding opened
  opened_good no_call ps g h = (Views.object_good Q makes ps h, tt)
  opened_good (call c) none g h = (g, tt)
  opened_good (call c) (hole ps) g h = (g, tt)
  opened_good (call c) (item p ps) g h = (g, (Views.object_good Q makes none tt, (Views.object_good Q makes (item p ps) h, tt)))

  closed_good : (c : Call) (ps : Items) → GoodCall c → GI ps → G (closed c ps)
  unfolding closed
  closed_good no_call ps g h = Views.object_good Q makes ps h
  closed_good (call c) none g h = g
  closed_good (call c) (hole ps) g h = g
  closed_good (call c) (item p ps) g h = calls (opened (call c) (item p ps)) (opened_good (call c) (item p ps) g h)

  scan_good : (ps : Items) (c : Call) (pending : Items) → GoodCall c → GI pending → GI ps → G (scan c pending ps)
  unfolding scan
  scan_good none c pending g h k = closed_good c pending g h
  scan_good (hole ps) c pending g h k = scan_good ps c pending g h k
  scan_good (item p ps) c pending g h k =
      let n = S (opened c pending +++ only (node_at_of 0 p)) in
      by_test (is 26 p)
      (λ e. rw (e, scan)
      (scan_good ps (call n) none (calls (opened c pending +++ only (node_at_of 0 p)) (append (opened c pending) (only (node_at_of 0 p)) (opened_good c pending g h) (part 0 p k.0, tt))) tt k.1))
      (λ e. rw (e, scan) (scan_good ps c (pending +++ only p) g (append pending (only p) h (k.0, tt)) k.1))

  literal_good : (n : Node) → G n → G (literal n)
  unfolding literal
  literal_good n h =
      one_or_other (any (λ p. is 26 p) (items_at_of 0 n)) (scan no_call none (items_at_of 0 n)) n (scan_good (items_at_of 0 n) no_call none tt tt (parts 0 n h)) h

  module _ (c : Context) where
    ref : (p : Node) → G (reference c p)
    ref p = Views.reference_good Q makes c p

    val : (p : Node) → G (value_of c p)
    val p = Views.temporary_good Q makes c.path 3 _

    -- ---- declarations

    source_good : (p init : Node) → G init → G (source c p init)
    unfolding source
    source_good p init h = one_or_other (is_name_of init) init (value_of c p) h (val p)

    source_declarator_good : (p init : Node) → G init → GI (source_declarator c p init)
    unfolding source_declarator
    source_declarator_good p init h =
        one_or_none (is_name_of init) none (only (declares (value_of c p) init)) tt (Views.declares_good Q makes (value_of c p) init (val p) h, tt)

    keys_before_good : (p : Node) → G p → GI (keys_before c p)
    unfolding keys_before
    keys_before_good p h = one_or_none (has_rest_of p) (key_temporaries c p) none (Views.key_temporaries_good Q makes c p h) tt

    pattern_declarator_good : (p s : Node) → is 34 p ≡ true → G p → G s → GI (pattern_declarator c p s)
    unfolding pattern_declarator
    pattern_declarator_good p s i h g =
        one_or_none (has_no_properties p) none (only (declares (taken c p) s)) tt
        (Views.declares_good Q makes (taken c p) s (Views.taken_good Q makes c p i h) g, tt)

    rest_declarator_good : (p s : Node) → G p → G s → GI (rest_declarator c p s)
    unfolding rest_declarator
    rest_declarator_good p s h g =
        one_or_none (has_rest_of p) (only (declares (rest p) (rest_value c p s))) none
        (Views.declares_good Q makes (rest p) (rest_value c p s) (part 1 p h) (Views.rest_value_good Q makes c p s h g), tt) tt

    own_good : (p s : Node) → is 34 p ≡ true → G p → G s → GI (own c p s)
    unfolding own
    own_good p s i h g =
        append (keys_before c p) (pattern_declarator c p s +++ rest_declarator c p s) (keys_before_good p h)
        (append (pattern_declarator c p s) (rest_declarator c p s) (pattern_declarator_good p s i h g) (rest_declarator_good p s h g))

    -- an object pattern with its values changed is one
    still_object : (f : Node → Node) (p : Node) → shape p ≡ object_pattern → is 34 (with_values f p) ≡ true
    still_object f p e = is_changed 0 (on_items (each (λ q. change_node 1 f q))) p 34 ∙ object_is p e

    nested_good : (d : ℕ) (p : Node) → G p → GI (nested c d p)
    unfolding nested
    nested_good zero p h = tt
    nested_good (suc d) p h =
        let f : Node → Node = λ v. replaced c d v in
        let g : Node → Items = λ v. nested c d v in
        by_shape (shape p)
        (λ e. rw (e, nested)
        (append (cond (has_rest_of p) (own c (with_values f p) (reference c p)) none) (gather (λ q. g (value q)) (properties p))
        (one_or_none (has_rest_of p) (own c (with_values f p) (reference c p)) none
        (own_good (with_values f p) (reference c p) (still_object f p e) (Views.values_good Q makes c f (Views.replaced_good Q makes c d) p h) (ref p)) tt)
        (Views.values_found Q makes c g (nested_good d) p h)))
        (λ e. rw (e, nested) (LeafParts.gather_leaves Q g (nested_good d) (items_at_of 0 p) (parts 0 p h)))
        (λ e. rw (e, nested) (nested_good d (left_of p) (part 0 p h)))
        (λ e. rw (e, nested) tt)

    nested_below_good : (p : Node) → G p → GI (nested_below c p)
    nested_below_good p h = nested_good (depth p) p h

    replaced_below_good : (p : Node) → G p → G (replaced_below c p)
    replaced_below_good p h = Views.replaced_good Q makes c (depth p) p h

    objects_below_good : (p : Node) → G p → GI (objects_below c p)
    objects_below_good p h = Views.objects_good Q makes c (depth p) p h

    object_declarators_good : (p s : Node) → shape p ≡ object_pattern → G p → G s → GI (object_declarators c p s)
    unfolding object_declarators
    object_declarators_good p s e h g =
        let q = with_values (λ v. replaced_below c v) p in
        let i = still_object (λ v. replaced_below c v) p e in
        let k : G q = Views.values_good Q makes c (λ v. replaced_below c v) replaced_below_good p h in
        let m = gather (λ r. nested_below c (value r)) (properties p) in
        append (keys_before c q) (pattern_declarator c q s +++ m +++ rest_declarator c q s) (keys_before_good q k)
        (append (pattern_declarator c q s) (m +++ rest_declarator c q s) (pattern_declarator_good q s i k g)
        (append m (rest_declarator c q s) (Views.values_found Q makes c (λ v. nested_below c v) nested_below_good p h) (rest_declarator_good q s k g)))

    pattern_declarators_good : (p s : Node) → G p → G s → GI (pattern_declarators c p s)
    unfolding pattern_declarators
    pattern_declarators_good p s h g =
        by_shape (shape p)
        (λ e. rw (e, pattern_declarators) (object_declarators_good p s e h g))
        (λ e. rw (e, pattern_declarators)
        (append (only (declares (replaced_below c p) s)) (nested_below c p) (Views.declares_good Q makes (replaced_below c p) s (replaced_below_good p h) g, tt) (nested_below_good p h)))
        (λ e. rw (e, pattern_declarators) tt)
        (λ e. rw (e, pattern_declarators) tt)

    lower_declarator_good : (p init : Node) → G p → G init → GI (lower_declarator c p init)
    unfolding lower_declarator
    lower_declarator_good p init h g =
        append (source_declarator c p init) (pattern_declarators c p (source c p init)) (source_declarator_good p init g)
        (pattern_declarators_good p (source c p init) h (source_good p init g))

    declarators_good : (d : Node) → G d → GI (declarators c d)
    unfolding declarators
    declarators_good d h =
        one_or_none (is_lowered d) (lower_declarator c (node_at_of 0 d) (node_at_of 1 d)) (only d)
        (lower_declarator_good (node_at_of 0 d) (node_at_of 1 d) (part 0 d h) (part 1 d h)) (h, tt)

    lowered_in_good : (d : Node) → G d → GI (lowered_in c d)
    unfolding lowered_in
    lowered_in_good d h = one_or_none (is_lowered d) (objects_below c (node_at_of 0 d)) none (objects_below_good (node_at_of 0 d) (part 0 d h)) tt

    excluded_good : (is : Items) → GI is → GI (gather (excluded_for c) is)
    excluded_good is h = LeafParts.gather_leaves Q (excluded_for c) (Views.excluded_for_good Q makes c) is h

    declaration_step : (n : Node) → G n → GoodStep (step_declaration c n)
    unfolding step_declaration declaration declaration_excludes
    declaration_step n h =
        by_number (declaration_refusal c n)
        (λ r e. rw (e, step_declaration) (refused (suc r)))
        (λ e. rw (e, step_declaration)
        (record {
          note = record {
            entry = tt;
            excluded = LeafParts.gather_leaves Q (λ d. gather (excluded_for c) (lowered_in c d)) (λ d g. excluded_good (lowered_in c d) (lowered_in_good d g)) (items_at_of 2 n) (parts 2 n h);
          };
          result = LeafParts.change_items_lem Q 2 (gather (declarators c)) (LeafParts.gather_leaves Q (declarators c) declarators_good) n h;
        }))

    -- ---- assignments

    -- assignments from temporaries, and their declarators
    from_good : (ps : Items) → GI ps → GI (each (from_reference c) ps)
    from_good ps g = LeafParts.each_leaves Q (from_reference c) (λ p k. Views.assign_good Q makes p (reference c p) k (ref p)) ps g

    declared_good : (ps : Items) → GI ps → GI (each (λ p. declared (reference c p)) ps)
    declared_good ps g = LeafParts.each_leaves Q (λ p. declared (reference c p)) (λ p k. Views.declared_good Q makes (reference c p) (ref p)) ps g

    top_sequence_good : (n : Node) → is_top (target n) ≡ true → G n → G (top_sequence c n)
    unfolding top_sequence
    top_sequence_good n top h =
        let p = target n in
        let t = value_of c p in
        let g : G p = part 1 n h in
        let ps : Items = each (from_reference c) (parts_of p) in
        let last : Items = item (assign (rest p) (rest_value c p t)) (cond c.statement none (only t)) in
        Views.sequence_good Q makes
        (item (assign t (assigned n)) (item (assign (target_left c n) t) (ps +++ last))) (
          Views.assign_good Q makes t (assigned n) (val p) (part 2 n h),
          (
            Views.assign_good Q makes (target_left c n) t (Views.target_left_good Q makes c n (top_34 p top) g) (val p),
            append ps last (from_good (parts_of p) (Views.parts_good Q makes c p g)) (
              Views.assign_good Q makes (rest p) (rest_value c p t) (part 1 p g) (Views.rest_value_good Q makes c p t g (val p)),
              one_or_none c.statement none (only t) tt (val p, tt),
            ),
          ),
        )

    top_entry_good : (n : Node) → G n → GI (top_entry c n)
    unfolding top_entry
    top_entry_good n h =
        let p = target n in
        let g : G p = part 1 n h in (
          Views.declared_good Q makes (value_of c p) (val p),
          append (each (λ q. declared (reference c q)) (parts_of p)) (key_temporaries c p)
              (declared_good (parts_of p) (Views.parts_good Q makes c p g)) (Views.key_temporaries_good Q makes c p g),
        )

    top_excludes_good : (n : Node) → G n → GI (top_excludes c n)
    unfolding top_excludes
    top_excludes_good n h = Views.excluded_for_good Q makes c (target n) (part 1 n h)

    top_step : (n : Node) → is_top (target n) ≡ true → G n → GoodStep (step_top c n)
    unfolding step_top
    top_step n top h =
        by_number (top_refusal n)
        (λ r e. rw (e, step_top) (refused (suc r)))
        (λ e. rw (e, step_top)
        (record { note = record { entry = top_entry_good n h; excluded = top_excludes_good n h }; result = top_sequence_good n top h }))

    outermost_good : (n : Node) → G n → GI (outermost (target n))
    outermost_good n h = Views.nearest_good Q makes c true (depth (target n)) (target n) (part 1 n h)

    nested_sequence_good_lem : (n : Node) → G n → G (nested_sequence c n)
    unfolding nested_sequence
    nested_sequence_good_lem n h =
        Views.sequence_good Q makes
        (item (change_node 1 (λ p. replaced_below c p) n) (each (from_reference c) (outermost (target n)))) (
          LeafParts.change_node_lem Q 1 (λ p. replaced_below c p) replaced_below_good n h,
          from_good (outermost (target n)) (outermost_good n h),
        )

    nested_entry_good : (n : Node) → G n → GI (nested_entry c n)
    unfolding nested_entry
    nested_entry_good n h = declared_good (outermost (target n)) (outermost_good n h)

    assignment_step : (n : Node) → G n → GoodStep (step_assignment c n)
    unfolding step_assignment
    assignment_step n h =
        by_test (has_array_rest_over_object_rest (target n))
        (λ e. rw (e, step_assignment) (refused 5))
        (λ e.
        by_test (is_top (target n))
        (λ f. rw (e, step_assignment, f) (top_step n f h))
        (λ f.
        by_test (has_object_rest (target n))
        (λ g. rw (e, step_assignment, f, g) (record { note = record { entry = nested_entry_good n h; excluded = tt }; result = nested_sequence_good_lem n h }))
        (λ g. rw (e, step_assignment, f, g) (quiet none n h))))

    -- ---- heads

    moved_from_good : (q : Node) → G q → GI (moved_from q)
    unfolding moved_from
    moved_from_good q h =
        one_or_none (is_moved q) (moved (depth (node_at_of 0 q)) (node_at_of 0 q)) none (Views.moved_good Q makes c (depth (node_at_of 0 q)) (node_at_of 0 q) (part 0 q h)) tt

    all_moved_good : (is : Items) → GI is → GI (gather moved_from is)
    all_moved_good is h = LeafParts.gather_leaves Q moved_from moved_from_good is h

    left_behind_good : (q : Node) → G q → G (left_behind c q)
    unfolding left_behind
    left_behind_good q h =
        one_or_other (is_moved q) (change_node 0 (λ p. moved_out_of c (depth p) p) q) q
        (LeafParts.change_node_lem Q 0 (λ p. moved_out_of c (depth p) p) (λ p g. Views.moved_out_good Q makes c (depth p) p g) q h) h

    let_good : (a b : Node) → G a → G b → G (let_of a b)
    let_good a b g h =
        LeafParts.other Q 0 4 (field (mark 0) (field (byte 2) (field (list (only (declares a b))) done))) refl (tt, (tt, ((Views.declares_good Q makes a b g h, tt), tt)))

    in_front_good : (ps body : Items) → GI ps → GI body → GI (in_front c ps body)
    unfolding in_front
    in_front_good none body h k = k
    in_front_good (hole ps) body h k = in_front_good ps body h k
    in_front_good (item p ps) body h k =
        in_front_good ps (item (let_of (moved_pattern p) (reference c p)) body) h.1
        (let_good (moved_pattern p) (reference c p) (Views.moved_pattern_good Q makes c p h.0) (ref p), k)

    in_body_good : (ps : Items) (b : Node) → GI ps → G b → G (in_body c ps b)
    unfolding in_body
    in_body_good ps b h g = LeafParts.change_items_lem Q 1 (in_front c ps) (λ is k. in_front_good ps is h k) b g

    function_body_good : (b : Node) → G b → G (as_function_body b)
    unfolding as_function_body
    function_body_good b h =
        one_or_other (is 16 b) b (function_body (only (returning b))) h
        (LeafParts.other Q 0 16 (absent (field (list (only (returning b))) done)) refl
        ((LeafParts.other Q 0 11 (field (mark 0) (field (one b) done)) refl (tt, (h, tt)), tt), tt))

    block_good : (b : Node) → G b → G (as_block b)
    unfolding as_block
    block_good b h =
        one_or_other (is 2 b) b (block (cond (is 13 b) none (only b))) h
        (LeafParts.other Q 0 2 (field (mark 0) (field (list (cond (is 13 b) none (only b))) done)) refl
        (tt, (one_or_none (is 13 b) none (only b) tt (h, tt), tt)))

    lefts : (i : ℕ) (n : Node) → G n → G (change_items i (each (left_behind c)) n)
    lefts i n h = LeafParts.change_items_lem Q i (each (left_behind c)) (LeafParts.each_leaves Q (left_behind c) left_behind_good) n h

    function_good : (n : Node) → G n → G (function c n)
    unfolding function
    function_good n h =
        let ps = gather moved_from (items_at_of 3 n) in
        let m = change_items 3 (each (left_behind c)) n in
        one_or_other (stands 5 n && any is_moved (items_at_of 3 n)) (change_node 5 (λ b. in_body c ps (as_function_body b)) m) n
        (LeafParts.change_node_lem Q 5 (λ b. in_body c ps (as_function_body b)) (λ b g. in_body_good ps (as_function_body b) (all_moved_good (items_at_of 3 n) (parts 3 n h)) (function_body_good b g)) m (lefts 3 n h))
        h

    arrow_good : (n : Node) → G n → G (arrow c n)
    unfolding arrow
    arrow_good n h =
        let ps = gather moved_from (items_at_of 0 n) in
        let m = change_items 0 (each (left_behind c)) n in
        one_or_other (any is_moved (items_at_of 0 n)) (change_node 2 (λ b. in_body c ps (as_function_body b)) m) n
        (LeafParts.change_node_lem Q 2 (λ b. in_body c ps (as_function_body b)) (λ b g. in_body_good ps (as_function_body b) (all_moved_good (items_at_of 0 n) (parts 0 n h)) (function_body_good b g)) m (lefts 0 n h))
        h

    catch_good : (n : Node) → G n → G (catch c n)
    unfolding catch
    catch_good n h =
        let ps = moved_from (node_at_of 0 n) in
        let m = change_node 0 (left_behind c) n in
        one_or_other (is_moved (node_at_of 0 n)) (change_node 1 (λ b. in_body c ps (as_block b)) m) n
        (LeafParts.change_node_lem Q 1 (λ b. in_body c ps (as_block b)) (λ b g. in_body_good ps (as_block b) (moved_from_good (node_at_of 0 n) (part 0 n h)) (block_good b g)) m
        (LeafParts.change_node_lem Q 0 (left_behind c) left_behind_good n h))
        h

    declaring_head_good : (n : Node) → G n → G (declaring_head c n)
    unfolding declaring_head
    declaring_head_good n h =
        let ds = items_at_of 2 (node_at_of 1 n) in
        let m = change_node 1 (λ l. change_items 2 (each (left_behind c)) l) n in
        one_or_other (any is_moved ds) (change_node 3 (λ b. in_body c (gather moved_from ds) (as_block b)) m) n
        (LeafParts.change_node_lem Q 3 (λ b. in_body c (gather moved_from ds) (as_block b))
        (λ b g. in_body_good (gather moved_from ds) (as_block b) (all_moved_good ds (parts 2 (node_at_of 1 n) (part 1 n h))) (block_good b g)) m
        (LeafParts.change_node_lem Q 1 (λ l. change_items 2 (each (left_behind c)) l) (λ l g. lefts 2 l g) n h))
        h

    assigning_good : (a b : Node) → G a → G b → G (assigning a b)
    assigning_good a b g h = LeafParts.other Q 0 3 (field (mark 0) (field (one (assign a b)) done)) refl (tt, (Views.assign_good Q makes a b g h, tt))

    var_good : (a : Node) → G a → G (var_of a)
    var_good a g = LeafParts.other Q 0 4 (field (mark 0) (field (byte 1) (field (list (only (declared a))) done))) refl (tt, (tt, ((Views.declared_good Q makes a g, tt), tt)))

    assigning_head_good : (n : Node) → G n → G (assigning_head c n)
    unfolding assigning_head
    assigning_head_good n h =
        let p = node_at_of 1 n in
        let m = change_node 1 (λ l. var_of (reference c l)) n in
        one_or_other (has_object_rest p) (change_node 3 (λ b. change_items 1 (item (assigning p (reference c p))) (as_block b)) m) n
        (LeafParts.change_node_lem Q 3 (λ b. change_items 1 (item (assigning p (reference c p))) (as_block b))
        (λ b g. LeafParts.change_items_lem Q 1 (item (assigning p (reference c p))) (λ is k. (assigning_good p (reference c p) (part 1 n h) (ref p), k)) (as_block b) (block_good b g)) m
        (LeafParts.change_node_lem Q 1 (λ l. var_of (reference c l)) (λ l g. var_good (reference c l) (ref l)) n h))
        h

    for_step : (n : Node) → G n → GoodStep (step_for c n)
    unfolding step_for
    for_step n h =
        by_test (is 4 (node_at_of 1 n))
        (λ e. rw (e, step_for) (quiet _ (declaring_head c n) (declaring_head_good n h)))
        (λ e.
        by_test (has_array_rest_over_object_rest (node_at_of 1 n))
        (λ f. rw (e, step_for, f) (refused 5))
        (λ f. rw (e, step_for, f) (quiet _ (assigning_head c n) (assigning_head_good n h))))

    -- ---- one node

    pub rewrite_good : (n : Node) → G n → GoodStep (rewrite c n)
    unfolding rewrite
    rewrite_good n h =
        by_rule_lem (rule_of (kind n))
        (λ e. rw (e, rewrite) (quiet none (literal n) (literal_good n h)))
        (λ e. rw (e, rewrite) (declaration_step n h))
        (λ e. rw (e, rewrite) (assignment_step n h))
        (λ e. rw (e, rewrite) (quiet _ (function c n) (function_good n h)))
        (λ e. rw (e, rewrite) (quiet _ (arrow c n) (arrow_good n h)))
        (λ e. rw (e, rewrite) (quiet _ (catch c n) (catch_good n h)))
        (λ e. rw (e, rewrite) (for_step n h))
        (λ e. rw (e, rewrite) (quiet none n h))
