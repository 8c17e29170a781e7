-- What holds of 0 and of every mark of a tree holds of every mark that a rewriting leaves, and of every mark after the walk.
-- Assumes nothing.
use mathlib.Core.Bool.{Bool, true, false, cond, ◌&&◌}
use Prim.Native.Nat.{ℕ, zero, suc}
use Rattle.tree.specs.Tree.{Node, Fields, Piece, Items, depth}
use Rattle.tree.specs.Tree.Node.{node}
use Rattle.tree.specs.Tree.Items.{none, hole, item}
use Rattle.lowering.specs.Parts.{piece_in, change_in, drop_in, as_node, as_items_of, kind, is, node_at_of, items_at_of, stands, change, on_node, on_items, change_node, change_items, without, only, each, gather, any, ◌+++◌}
use Rattle.lowering.specs.Made.{Context, reference, value_of, key_of, S, let_of, var_of, assign, assigning, declares, array}
use Rattle.lowering.specs.Patterns.{shape, properties, items_of, rest, has_rest_of, left_of, key, value, with_items, with_values, with_properties, has_object_rest, has_array_rest_over_object_rest, replaced, replaced_below}
use Rattle.lowering.specs.Keys.{key_sort, excluded_key, excluded_keys, kept_key, key_temporary, key_temporaries, all_primitive, taken, entry_of}
use Rattle.lowering.specs.Rests.{has_no_properties, mapped, is_hoisted, keys_read, rest_value}
use Rattle.lowering.specs.Literals.{Call, opened, closed, scan, literal}
use Rattle.lowering.specs.Declarations.{is_name_of, source, source_declarator, keys_before, pattern_declarator, rest_declarator, own, nested, nested_below, object_declarators, pattern_declarators, lower_declarator, is_lowered, declarators, declaration, declaration_refusal}
use Rattle.lowering.specs.Assignments.{is_top, target, nearest, parts_of, parts_replaced, outermost, from_reference, top_refusal, top_sequence, nested_sequence}
use Rattle.lowering.specs.Heads.{is_moved, moved, moved_from, moved_pattern, moved_out_of, left_behind, in_front, in_body, as_function_body, as_block, function, arrow, catch, declaring_head, assigning_head}
use Rattle.lowering.specs.Walk.{Note, Walked, WalkedFields, WalkedPiece, WalkedItems, each_item_of, each_piece, each_field, inside, rule_of, rewrite, step_declaration, step_top, step_assignment, step_for, within, walk}
use Rattle.lowering.specs.Walk.Walked.{noted}
use Rattle.lowering.specs.Weight.{weight, walked}
use Rattle.lowering.proofs.Cases.{by_test, by_shape, by_key, by_rule_lem, by_entry, by_number}

module _ (P : ℕ → Type 0) where
  -- P holds of every mark of a node
  abbrev mutual
    pub Held : Node → Type 0
    Held (node at k fs) = HeldFields fs

    pub HeldFields : Fields → Type 0
    HeldFields Fields.done = Unit {0}
    HeldFields (Fields.absent fs) = HeldFields fs
    HeldFields (Fields.field p fs) = HeldPiece p × HeldFields fs

    pub HeldPiece : Piece → Type 0
    HeldPiece (Piece.one n) = Held n
    HeldPiece (Piece.list ns) = HeldItems ns
    HeldPiece (Piece.text bs) = Unit {0}
    HeldPiece (Piece.byte b) = Unit {0}
    HeldPiece (Piece.mark b) = P b
    HeldPiece (Piece.number b) = Unit {0}

    pub HeldItems : Items → Type 0
    HeldItems Items.none = Unit {0}
    HeldItems (Items.hole ns) = HeldItems ns
    HeldItems (Items.item n ns) = Held n × HeldItems ns

  -- and of every mark of a walked one
  abbrev mutual
    pub Walks : Walked → Type 0
    Walks (noted note at k fs) = WalksFields fs

    pub WalksFields : WalkedFields → Type 0
    WalksFields WalkedFields.done = Unit {0}
    WalksFields (WalkedFields.absent fs) = WalksFields fs
    WalksFields (WalkedFields.field p fs) = WalksPiece p × WalksFields fs

    pub WalksPiece : WalkedPiece → Type 0
    WalksPiece (WalkedPiece.one w) = Walks w
    WalksPiece (WalkedPiece.list ns) = WalksItems ns
    WalksPiece (WalkedPiece.text bs) = Unit {0}
    WalksPiece (WalkedPiece.byte b) = Unit {0}
    WalksPiece (WalkedPiece.mark b) = P b
    WalksPiece (WalkedPiece.number b) = Unit {0}

    pub WalksItems : WalkedItems → Type 0
    WalksItems WalkedItems.none = Unit {0}
    WalksItems (WalkedItems.hole ns) = WalksItems ns
    WalksItems (WalkedItems.item w ns) = Walks w × WalksItems ns

  module _ (fresh : P 0) where
    -- ---- parts

    piece_held : (fs : Fields) (i : ℕ) → HeldFields fs → HeldPiece (piece_in fs i)
    unfolding piece_in
    piece_held Fields.done i h = tt
    piece_held (Fields.absent fs) zero h = tt
    piece_held (Fields.absent fs) (suc i) h = piece_held fs i h
    piece_held (Fields.field p fs) zero h = h.0
    piece_held (Fields.field p fs) (suc i) h = piece_held fs i h.1

    as_node_lem : (p : Piece) → HeldPiece p → Held (as_node p)
    as_node_lem (Piece.one n) h = h
    as_node_lem (Piece.list ns) h = tt
    as_node_lem (Piece.text bs) h = tt
    as_node_lem (Piece.byte b) h = tt
    as_node_lem (Piece.mark b) h = tt
    as_node_lem (Piece.number b) h = tt

    as_items : (p : Piece) → HeldPiece p → HeldItems (as_items_of p)
    as_items (Piece.one n) h = tt
    as_items (Piece.list ns) h = h
    as_items (Piece.text bs) h = tt
    as_items (Piece.byte b) h = tt
    as_items (Piece.mark b) h = tt
    as_items (Piece.number b) h = tt

    node_held : (i : ℕ) (n : Node) → Held n → Held (node_at_of i n)
    unfolding node_at_of
    node_held i (node at k fs) h = as_node_lem (piece_in fs i) (piece_held fs i h)

    items_held : (i : ℕ) (n : Node) → Held n → HeldItems (items_at_of i n)
    unfolding items_at_of
    items_held i (node at k fs) h = as_items (piece_in fs i) (piece_held fs i h)

    append_held : (ns js : Items) → HeldItems ns → HeldItems js → HeldItems (ns +++ js)
    unfolding ◌+++◌
    append_held none js h k = k
    append_held (hole ns) js h k = append_held ns js h k
    append_held (item n ns) js h k = (h.0, append_held ns js h.1 k)

    gather_held : (f : Node → Items) → ((n : Node) → Held n → HeldItems (f n)) → (ns : Items) → HeldItems ns → HeldItems (gather f ns)
    unfolding gather
    gather_held f g none h = tt
    gather_held f g (hole ns) h = gather_held f g ns h
    gather_held f g (item n ns) h = append_held (f n) (gather f ns) (g n h.0) (gather_held f g ns h.1)

    each_held : (f : Node → Node) → ((n : Node) → Held n → Held (f n)) → (ns : Items) → HeldItems ns → HeldItems (each f ns)
    unfolding each
    each_held f g none h = tt
    each_held f g (hole ns) h = each_held f g ns h
    each_held f g (item n ns) h = (g n h.0, each_held f g ns h.1)

    -- ---- a field changed

    changed_fields : (g : Piece → Piece) → ((p : Piece) → HeldPiece p → HeldPiece (g p)) → (fs : Fields) (i : ℕ) → HeldFields fs → HeldFields (change_in fs i g)
    unfolding change_in
    changed_fields g f Fields.done i h = tt
    changed_fields g f (Fields.absent fs) zero h = h
    changed_fields g f (Fields.absent fs) (suc i) h = changed_fields g f fs i h
    changed_fields g f (Fields.field p fs) zero h = (f p h.0, h.1)
    changed_fields g f (Fields.field p fs) (suc i) h = (h.0, changed_fields g f fs i h.1)

    on_node_lem : (f : Node → Node) → ((n : Node) → Held n → Held (f n)) → (p : Piece) → HeldPiece p → HeldPiece (on_node f p)
    unfolding on_node
    on_node_lem f g (Piece.one n) h = g n h
    on_node_lem f g (Piece.list ns) h = h
    on_node_lem f g (Piece.text bs) h = tt
    on_node_lem f g (Piece.byte b) h = tt
    on_node_lem f g (Piece.mark b) h = h
    on_node_lem f g (Piece.number b) h = tt

    on_items_lem : (f : Items → Items) → ((ns : Items) → HeldItems ns → HeldItems (f ns)) → (p : Piece) → HeldPiece p → HeldPiece (on_items f p)
    unfolding on_items
    on_items_lem f g (Piece.one n) h = h
    on_items_lem f g (Piece.list ns) h = g ns h
    on_items_lem f g (Piece.text bs) h = tt
    on_items_lem f g (Piece.byte b) h = tt
    on_items_lem f g (Piece.mark b) h = h
    on_items_lem f g (Piece.number b) h = tt

    change_node_lem : (i : ℕ) (f : Node → Node) → ((n : Node) → Held n → Held (f n)) → (n : Node) → Held n → Held (change_node i f n)
    unfolding change
    change_node_lem i f g (node at k fs) h = changed_fields (on_node f) (on_node_lem f g) fs i h

    change_items_lem : (i : ℕ) (f : Items → Items) → ((ns : Items) → HeldItems ns → HeldItems (f ns)) → (n : Node) → Held n → Held (change_items i f n)
    unfolding change
    change_items_lem i f g (node at k fs) h = changed_fields (on_items f) (on_items_lem f g) fs i h

    change_each : (i : ℕ) (f : Node → Node) → ((n : Node) → Held n → Held (f n)) → (n : Node) → Held n → Held (change_items i (each f) n)
    change_each i f g = change_items_lem i (each f) (each_held f g)

    dropped_fields : (fs : Fields) (i : ℕ) → HeldFields fs → HeldFields (drop_in fs i)
    unfolding drop_in
    dropped_fields Fields.done i h = tt
    dropped_fields (Fields.absent fs) zero h = h
    dropped_fields (Fields.absent fs) (suc i) h = dropped_fields fs i h
    dropped_fields (Fields.field p fs) zero h = h.1
    dropped_fields (Fields.field p fs) (suc i) h = (h.0, dropped_fields fs i h.1)

    without_held : (i : ℕ) (n : Node) → Held n → Held (without i n)
    unfolding without
    without_held i (node at k fs) h = dropped_fields fs i h

    -- ---- literals

    abbrev HeldCall : Call → Type 0
    HeldCall Call.no_call = Unit {0}
    HeldCall (Call.call c) = Held c

    opened_held : (c : Call) (ps : Items) → HeldCall c → HeldItems ps → HeldItems (opened c ps)
    unfolding opened
    opened_held Call.no_call ps h k = ((k, tt), tt)
    opened_held (Call.call c) none h k = (h, tt)
    opened_held (Call.call c) (hole ps) h k = (h, tt)
    opened_held (Call.call c) (item p ps) h k = (h, ((tt, tt), ((k, tt), tt)))

    closed_held : (c : Call) (ps : Items) → HeldCall c → HeldItems ps → Held (closed c ps)
    unfolding closed
    closed_held Call.no_call ps h k = (k, tt)
    closed_held (Call.call c) none h k = h
    closed_held (Call.call c) (hole ps) h k = h
    closed_held (Call.call c) (item p ps) h k = ((tt, tt), (opened_held (Call.call c) (item p ps) h k, tt))

    scan_held : (c : Call) (pending ps : Items) → HeldCall c → HeldItems pending → HeldItems ps → Held (scan c pending ps)
    unfolding scan
    scan_held c pending none h k l = closed_held c pending h k
    scan_held c pending (hole ps) h k l = scan_held c pending ps h k l
    scan_held c pending (item p ps) h k l =
        let xs = opened c pending +++ only (node_at_of 0 p) in
        by_test (is 26 p)
        (λ e. rw (e, scan, Held)
        (scan_held (Call.call (S xs)) none ps ((tt, tt), (append_held (opened c pending) (only (node_at_of 0 p)) (opened_held c pending h k) (node_held 0 p l.0, tt), tt)) tt l.1))
        (λ e. rw (e, scan, Held) (scan_held c (pending +++ only p) ps h (append_held pending (only p) k (l.0, tt)) l.1))

    literal_held : (n : Node) → Held n → Held (literal n)
    unfolding literal
    literal_held n h = by_test (any (λ p. is 26 p) (items_at_of 0 n)) (λ e. rw (e, Held) (scan_held Call.no_call none (items_at_of 0 n) tt tt (items_held 0 n h))) (λ e. rw (e, Held) h)

    -- ---- views of patterns

    moved_held : (d : ℕ) (p : Node) → Held p → HeldItems (moved d p)
    unfolding moved
    moved_held zero p h = tt
    moved_held (suc d) p h =
        by_shape (shape p)
        (λ e. rw (e, moved, HeldItems) (h, tt))
        (λ e. rw (e, moved, HeldItems)
        (append_held (gather (λ m. moved d m) (items_of p)) (moved d (rest p)) (gather_held (λ m. moved d m) (moved_held d) (items_of p) (items_held 0 p h)) (moved_held d (rest p) (node_held 1 p h))))
        (λ e. rw (e, moved, HeldItems) (h, tt))
        (λ e. rw (e, moved, HeldItems) tt)

    moved_pattern_held : (p : Node) → Held p → Held (moved_pattern p)
    unfolding moved_pattern
    moved_pattern_held p h =
        by_shape (shape p)
        (λ e. rw (e, moved_pattern, Held) h)
        (λ e. rw (e, moved_pattern, Held) h)
        (λ e. rw (e, moved_pattern, Held) (node_held 0 p h))
        (λ e. rw (e, moved_pattern, Held) h)

    moved_from_held : (q : Node) → Held q → HeldItems (moved_from q)
    unfolding moved_from
    moved_from_held q h = by_test (is_moved q) (λ e. rw (e, HeldItems) (moved_held (depth (node_at_of 0 q)) (node_at_of 0 q) (node_held 0 q h))) (λ e. rw (e, HeldItems) tt)

    some_held : (b : Bool) (is js : Items) → HeldItems is → HeldItems js → HeldItems (cond b is js)
    some_held true is js h k = h
    some_held false is js h k = k

    nearest_held : (arrays : Bool) (d : ℕ) (p : Node) → Held p → HeldItems (nearest arrays d p)
    unfolding nearest
    nearest_held arrays zero p h = tt
    nearest_held arrays (suc d) p h =
        by_shape (shape p)
        (λ e. rw (e, nearest)
        (some_held (has_rest_of p) (only p) (gather (λ q. nearest arrays d (value q)) (properties p)) (h, tt)
        (gather_held (λ q. nearest arrays d (value q)) (λ q g. nearest_held arrays d (value q) (node_held 1 q g)) (properties p) (items_held 0 p h))))
        (λ e. rw (e, nearest)
        (some_held arrays (gather (λ q. nearest arrays d q) (items_of p)) none
        (gather_held (λ q. nearest arrays d q) (λ q g. nearest_held arrays d q g) (items_of p) (items_held 0 p h)) tt))
        (λ e. rw (e, nearest) (nearest_held arrays d (left_of p) (node_held 0 p h)))
        (λ e. rw (e, nearest) tt)

    parts_held : (p : Node) → Held p → HeldItems (parts_of p)
    parts_held p h =
        gather_held (λ q. nearest false (depth p) (value q)) (λ q g. nearest_held false (depth p) (value q) (node_held 1 q g)) (properties p) (items_held 0 p h)

    as_function_body_held : (b : Node) → Held b → Held (as_function_body b)
    unfolding as_function_body
    as_function_body_held b h = by_test (is 16 b) (λ e. rw (e, Held) h) (λ e. rw (e, Held) (((fresh, (h, tt)), tt), tt))

    as_block_held : (b : Node) → Held b → Held (as_block b)
    unfolding as_block
    as_block_held b h =
        by_test (is 2 b)
        (λ e. rw (e, Held) h)
        (λ e. rw (e, Held) (fresh, (by_test (is 13 b) (λ f. rw (f, HeldItems) tt) (λ f. rw (f, HeldItems) (h, tt)), tt)))

    mapped_held : (n : Node) → Held n → Held (mapped n)
    unfolding mapped
    mapped_held n h = ((h, (tt, tt)), (((tt, tt), tt), tt))

    module _ (c : Context) where
      kept_key_held : (q : Node) → Held q → Held (kept_key c q)
      unfolding kept_key
      kept_key_held q h =
          by_key (key_sort (key q))
          (λ e. rw (e, kept_key, Held) h)
          (λ e. rw (e, kept_key, Held) h)
          (λ e. rw (e, kept_key, Held) h)
          (λ e. rw (e, kept_key, Held) h)
          (λ e. rw (e, kept_key, Held) h)
          (λ e. rw (e, kept_key, Held) (change_node_lem 0 (λ k. key_of c q) (λ k g. (tt, (tt, tt))) q h))

      taken_held : (p : Node) → Held p → Held (taken c p)
      unfolding taken
      taken_held p h =
          by_test (has_rest_of p)
          (λ r. rw (r, Held) (without_held 1 (with_properties (kept_key c) p) (change_each 0 (kept_key c) kept_key_held p h)))
          (λ r. rw (r, Held) h)

      values_held : (f : Node → Node) → ((n : Node) → Held n → Held (f n)) → (p : Node) → Held p → Held (with_values f p)
      values_held f g = change_each 0 (λ q. change_node 1 f q) (change_node_lem 1 f g)

      replaced_held : (d : ℕ) (p : Node) → Held p → Held (replaced c d p)
      unfolding replaced
      replaced_held zero p h = h
      replaced_held (suc d) p h =
          let f : Node → Node = λ v. replaced c d v in
          by_shape (shape p)
          (λ e. rw (e, replaced, Held) (by_test (has_rest_of p) (λ r. rw (r, Held) (tt, (tt, tt))) (λ r. rw (r, Held) (values_held f (replaced_held d) p h))))
          (λ e. rw (e, replaced, Held) (change_each 0 f (replaced_held d) p h))
          (λ e. rw (e, replaced, Held) (change_node_lem 0 f (replaced_held d) p h))
          (λ e. rw (e, replaced, Held) h)

      replaced_below_held : (p : Node) → Held p → Held (replaced_below c p)
      replaced_below_held p h = replaced_held (depth p) p h

      parts_replaced_held : (d : ℕ) (p : Node) → Held p → Held (parts_replaced c d p)
      unfolding parts_replaced
      parts_replaced_held zero p h = h
      parts_replaced_held (suc d) p h =
          let f : Node → Node = λ v. parts_replaced c d v in
          by_shape (shape p)
          (λ e. rw (e, parts_replaced, Held) (by_test (has_rest_of p) (λ r. rw (r, Held) (tt, (tt, tt))) (λ r. rw (r, Held) (values_held f (parts_replaced_held d) p h))))
          (λ e. rw (e, parts_replaced, Held) h)
          (λ e. rw (e, parts_replaced, Held) (change_node_lem 0 f (parts_replaced_held d) p h))
          (λ e. rw (e, parts_replaced, Held) h)

      left_held : (p : Node) → Held p → Held (taken c (with_values (λ v. parts_replaced c (depth p) v) p))
      left_held p h = taken_held (with_values (λ v. parts_replaced c (depth p) v) p) (values_held (λ v. parts_replaced c (depth p) v) (parts_replaced_held (depth p)) p h)

      moved_out_held : (d : ℕ) (p : Node) → Held p → Held (moved_out_of c d p)
      unfolding moved_out_of
      moved_out_held zero p h = h
      moved_out_held (suc d) p h =
          let f : Node → Node = λ v. moved_out_of c d v in
          by_shape (shape p)
          (λ e. rw (e, moved_out_of, Held) (tt, (tt, tt)))
          (λ e. rw (e, moved_out_of, Held) (change_node_lem 1 f (moved_out_held d) (with_items f p) (change_each 0 f (moved_out_held d) p h)))
          (λ e. rw (e, moved_out_of, Held) (change_node_lem 0 (λ l. reference c p) (λ l g. (tt, (tt, tt))) p h))
          (λ e. rw (e, moved_out_of, Held) h)

      -- ---- keys and rests

      excluded_key_held : (q : Node) → Held q → HeldItems (excluded_key c q)
      unfolding excluded_key
      excluded_key_held q h =
          let k = node_held 0 q h in
          by_entry (entry_of (key_sort (key q)))
          (λ e. rw (e, excluded_key, HeldItems) ((tt, (tt, (tt, tt))), tt))
          (λ e. rw (e, excluded_key, HeldItems) (k, tt))
          (λ e. rw (e, excluded_key, HeldItems) tt)
          (λ e. rw (e, excluded_key, HeldItems) ((tt, (tt, tt)), tt))

      excluded_keys_held : (p : Node) → Held p → HeldItems (excluded_keys c p)
      unfolding excluded_keys
      excluded_keys_held p h = gather_held (excluded_key c) excluded_key_held (properties p) (items_held 0 p h)

      key_temporary_held : (q : Node) → Held q → HeldItems (key_temporary c q)
      unfolding key_temporary
      key_temporary_held q h =
          by_key (key_sort (key q))
          (λ e. rw (e, key_temporary, HeldItems) tt)
          (λ e. rw (e, key_temporary, HeldItems) tt)
          (λ e. rw (e, key_temporary, HeldItems) tt)
          (λ e. rw (e, key_temporary, HeldItems) tt)
          (λ e. rw (e, key_temporary, HeldItems) tt)
          (λ e. rw (e, key_temporary, HeldItems) (((tt, (tt, tt)), (node_held 0 q h, tt)), tt))

      key_temporaries_held : (p : Node) → Held p → HeldItems (key_temporaries c p)
      unfolding key_temporaries
      key_temporaries_held p h = gather_held (key_temporary c) key_temporary_held (properties p) (items_held 0 p h)

      keys_read_held : (p : Node) → Held p → Held (keys_read c p)
      unfolding keys_read
      keys_read_held p h =
          let a = excluded_keys_held p h in
          by_test (is_hoisted c p)
          (λ e. rw (e, Held) (tt, (tt, tt)))
          (λ e. rw (e, Held) (by_test (all_primitive p) (λ f. rw (f, Held) (a, tt)) (λ f. rw (f, Held) (mapped_held (array (excluded_keys c p)) (a, tt)))))

      rest_value_held : (p s : Node) → Held p → Held s → Held (rest_value c p s)
      unfolding rest_value
      rest_value_held p s h k =
          by_test (has_no_properties p)
          (λ e. rw (e, Held) ((tt, tt), (((tt, tt), (((((tt, tt), ((k, tt), tt)), (k, tt)), tt), tt)), tt)))
          (λ e. rw (e, Held) ((tt, tt), ((k, (keys_read_held p h, tt)), tt)))

      -- ---- declarators

      source_held : (p init : Node) → Held init → Held (source c p init)
      unfolding source
      source_held p init h = by_test (is_name_of init) (λ e. rw (e, Held) h) (λ e. rw (e, Held) (tt, (tt, tt)))

      keys_before_held : (p : Node) → Held p → HeldItems (keys_before c p)
      unfolding keys_before
      keys_before_held p h = by_test (has_rest_of p) (λ e. rw (e, HeldItems) (key_temporaries_held p h)) (λ e. rw (e, HeldItems) tt)

      pattern_declarator_held : (p s : Node) → Held p → Held s → HeldItems (pattern_declarator c p s)
      unfolding pattern_declarator
      pattern_declarator_held p s h k = by_test (has_no_properties p) (λ z. rw (z, HeldItems) tt) (λ z. rw (z, HeldItems) ((taken_held p h, (k, tt)), tt))

      rest_declarator_held : (p s : Node) → Held p → Held s → HeldItems (rest_declarator c p s)
      unfolding rest_declarator
      rest_declarator_held p s h k = by_test (has_rest_of p) (λ z. rw (z, HeldItems) ((node_held 1 p h, (rest_value_held p s h k, tt)), tt)) (λ z. rw (z, HeldItems) tt)

      own_held : (p s : Node) → Held p → Held s → HeldItems (own c p s)
      unfolding own
      own_held p s h k =
          append_held (keys_before c p) (pattern_declarator c p s +++ rest_declarator c p s) (keys_before_held p h)
          (append_held (pattern_declarator c p s) (rest_declarator c p s) (pattern_declarator_held p s h k) (rest_declarator_held p s h k))

      nested_held : (d : ℕ) (p : Node) → Held p → HeldItems (nested c d p)
      unfolding nested
      nested_held zero p h = tt
      nested_held (suc d) p h =
          by_shape (shape p)
          (λ e. rw (e, nested, HeldItems)
          (append_held (cond (has_rest_of p) (own c (with_values (λ v. replaced c d v) p) (reference c p)) none) (gather (λ q. nested c d (value q)) (properties p))
          (by_test (has_rest_of p)
          (λ r. rw (r, HeldItems) (own_held (with_values (λ v. replaced c d v) p) (reference c p) (values_held (λ v. replaced c d v) (replaced_held d) p h) (tt, (tt, tt))))
          (λ r. rw (r, HeldItems) tt))
          (gather_held (λ q. nested c d (value q)) (λ q g. nested_held d (value q) (node_held 1 q g)) (properties p) (items_held 0 p h))))
          (λ e. rw (e, nested, HeldItems) (gather_held (λ q. nested c d q) (λ q g. nested_held d q g) (properties p) (items_held 0 p h)))
          (λ e. rw (e, nested, HeldItems) (nested_held d (left_of p) (node_held 0 p h)))
          (λ e. rw (e, nested, HeldItems) tt)

      object_declarators_held : (p s : Node) → Held p → Held s → HeldItems (object_declarators c p s)
      unfolding object_declarators
      object_declarators_held p s h k =
          let q = with_values (λ v. replaced_below c v) p in
          let g = values_held (λ v. replaced_below c v) replaced_below_held p h in
          let ns = gather (λ r. nested_below c (value r)) (properties p) in
          append_held (keys_before c q) (pattern_declarator c q s +++ ns +++ rest_declarator c q s) (keys_before_held q g)
          (append_held (pattern_declarator c q s) (ns +++ rest_declarator c q s) (pattern_declarator_held q s g k)
          (append_held ns (rest_declarator c q s)
          (gather_held (λ r. nested_below c (value r)) (λ r z. nested_held (depth (value r)) (value r) (node_held 1 r z)) (properties p) (items_held 0 p h))
          (rest_declarator_held q s g k)))

      pattern_declarators_held : (p s : Node) → Held p → Held s → HeldItems (pattern_declarators c p s)
      unfolding pattern_declarators
      pattern_declarators_held p s h k =
          by_shape (shape p)
          (λ e. rw (e, pattern_declarators, HeldItems) (object_declarators_held p s h k))
          (λ e. rw (e, pattern_declarators, HeldItems) (append_held (only (declares (replaced_below c p) s)) (nested_below c p) ((replaced_below_held p h, (k, tt)), tt) (nested_held (depth p) p h)))
          (λ e. rw (e, pattern_declarators, HeldItems) tt)
          (λ e. rw (e, pattern_declarators, HeldItems) tt)

      lower_declarator_held : (p init : Node) → Held p → Held init → HeldItems (lower_declarator c p init)
      unfolding lower_declarator source_declarator
      lower_declarator_held p init h k =
          append_held (cond (is_name_of init) none (only (declares (value_of c p) init))) (pattern_declarators c p (source c p init))
          (by_test (is_name_of init) (λ e. rw (e, HeldItems) tt) (λ e. rw (e, HeldItems) (((tt, (tt, tt)), (k, tt)), tt)))
          (pattern_declarators_held p (source c p init) h (source_held p init k))

      declarators_held : (d : Node) → Held d → HeldItems (declarators c d)
      unfolding declarators
      declarators_held d h =
          by_test (is_lowered d) (λ e. rw (e, HeldItems) (lower_declarator_held (node_at_of 0 d) (node_at_of 1 d) (node_held 0 d h) (node_held 1 d h))) (λ e. rw (e, HeldItems) (h, tt))

      declaration_held : (n : Node) → Held n → Held (declaration c n)
      unfolding declaration
      declaration_held n h = change_items_lem 2 (gather (declarators c)) (gather_held (declarators c) declarators_held) n h

      -- ---- assignments

      from_held : (ps : Items) → HeldItems ps → HeldItems (each (from_reference c) ps)
      from_held ps h = each_held (from_reference c) (λ q o. (tt, (o, ((tt, (tt, tt)), tt)))) ps h

      top_held : (n : Node) → Held n → Held (top_sequence c n)
      unfolding top_sequence
      top_held n h =
          let p = target n in
          let t = value_of c p in
          let k = node_held 1 n h in (
            (
              (tt, ((tt, (tt, tt)), (node_held 2 n h, tt))),
              (
                (tt, (left_held p k, ((tt, (tt, tt)), tt))),
                append_held (each (from_reference c) (parts_of p)) (item (assign (rest p) (rest_value c p t)) (cond c.statement none (only t)))
                    (from_held (parts_of p) (parts_held p k))
                    ((tt, (node_held 1 p k, (rest_value_held p t k (tt, (tt, tt)), tt))), by_test c.statement (λ e. rw (e, HeldItems) tt) (λ e. rw (e, HeldItems) ((tt, (tt, tt)), tt))),
              ),
            ),
            tt,
          )

      nested_sequence_held : (n : Node) → Held n → Held (nested_sequence c n)
      unfolding nested_sequence
      nested_sequence_held n h = (
        (
          change_node_lem 1 (λ m. replaced_below c m) replaced_below_held n h,
          from_held (outermost (target n)) (nearest_held true (depth (target n)) (target n) (node_held 1 n h)),
        ),
        tt,
      )

      -- ---- heads

      left_behind_held : (q : Node) → Held q → Held (left_behind c q)
      unfolding left_behind
      left_behind_held q h = by_test (is_moved q) (λ e. rw (e, Held) (change_node_lem 0 (λ p. moved_out_of c (depth p) p) (λ p g. moved_out_held (depth p) p g) q h)) (λ e. rw (e, Held) h)

      in_front_held : (ps body : Items) → HeldItems ps → HeldItems body → HeldItems (in_front c ps body)
      unfolding in_front
      in_front_held none body h k = k
      in_front_held (hole ps) body h k = in_front_held ps body h k
      in_front_held (item p ps) body h k =
          in_front_held ps (item (let_of (moved_pattern p) (reference c p)) body) h.1 ((fresh, (tt, (((moved_pattern_held p h.0, ((tt, (tt, tt)), tt)), tt), tt))), k)

      in_body_held : (ps : Items) (b : Node) → HeldItems ps → Held b → Held (in_body c ps b)
      unfolding in_body
      in_body_held ps b h k = change_items_lem 1 (in_front c ps) (λ ns g. in_front_held ps ns h g) b k

      function_held : (n : Node) → Held n → Held (function c n)
      unfolding function
      function_held n h =
          let ps = gather moved_from (items_at_of 3 n) in
          let g = gather_held moved_from moved_from_held (items_at_of 3 n) (items_held 3 n h) in
          by_test (stands 5 n && any is_moved (items_at_of 3 n))
          (λ e. rw (e, Held)
          (change_node_lem 5 (λ b. in_body c ps (as_function_body b)) (λ b k. in_body_held ps (as_function_body b) g (as_function_body_held b k)) (change_items 3 (each (left_behind c)) n) (change_each 3 (left_behind c) left_behind_held n h)))
          (λ e. rw (e, Held) h)

      arrow_held : (n : Node) → Held n → Held (arrow c n)
      unfolding arrow
      arrow_held n h =
          let ps = gather moved_from (items_at_of 0 n) in
          let g = gather_held moved_from moved_from_held (items_at_of 0 n) (items_held 0 n h) in
          by_test (any is_moved (items_at_of 0 n))
          (λ e. rw (e, Held)
          (change_node_lem 2 (λ b. in_body c ps (as_function_body b)) (λ b k. in_body_held ps (as_function_body b) g (as_function_body_held b k)) (change_items 0 (each (left_behind c)) n) (change_each 0 (left_behind c) left_behind_held n h)))
          (λ e. rw (e, Held) h)

      catch_held : (n : Node) → Held n → Held (catch c n)
      unfolding catch
      catch_held n h =
          let ps = moved_from (node_at_of 0 n) in
          let g = moved_from_held (node_at_of 0 n) (node_held 0 n h) in
          by_test (is_moved (node_at_of 0 n))
          (λ e. rw (e, Held)
          (change_node_lem 1 (λ b. in_body c ps (as_block b)) (λ b k. in_body_held ps (as_block b) g (as_block_held b k)) (change_node 0 (left_behind c) n) (change_node_lem 0 (left_behind c) left_behind_held n h)))
          (λ e. rw (e, Held) h)

      declaring_head_held : (n : Node) → Held n → Held (declaring_head c n)
      unfolding declaring_head
      declaring_head_held n h =
          let ds = items_at_of 2 (node_at_of 1 n) in
          let ps = gather moved_from ds in
          let g = gather_held moved_from moved_from_held ds (items_held 2 (node_at_of 1 n) (node_held 1 n h)) in
          let left : Node → Node = λ l. change_items 2 (each (left_behind c)) l in
          by_test (any is_moved ds)
          (λ e. rw (e, Held)
          (change_node_lem 3 (λ b. in_body c ps (as_block b)) (λ b k. in_body_held ps (as_block b) g (as_block_held b k)) (change_node 1 left n) (change_node_lem 1 left (change_each 2 (left_behind c) left_behind_held) n h)))
          (λ e. rw (e, Held) h)

      assigning_head_held : (n : Node) → Held n → Held (assigning_head c n)
      unfolding assigning_head
      assigning_head_held n h =
          let p = node_at_of 1 n in
          let s = assigning p (reference c p) in
          let left : Node → Node = λ l. var_of (reference c l) in
          by_test (has_object_rest p)
          (λ e. rw (e, Held)
          (change_node_lem 3 (λ b. change_items 1 (item s) (as_block b))
          (λ b k. change_items_lem 1 (item s) (λ ns g. ((fresh, ((tt, (node_held 1 n h, ((tt, (tt, tt)), tt))), tt)), g)) (as_block b) (as_block_held b k)) (change_node 1 left n)
          (change_node_lem 1 left (λ l k. (fresh, (tt, ((((tt, (tt, tt)), tt), tt), tt)))) n h)))
          (λ e. rw (e, Held) h)

      -- ---- the steps

      declarations_held : (n : Node) → Held n → Held (step_declaration c n).result
      unfolding step_declaration
      declarations_held n h = by_number (declaration_refusal c n) (λ r e. rw (e, step_declaration, Held) tt) (λ e. rw (e, step_declaration, Held) (declaration_held n h))

      tops_held : (n : Node) → Held n → Held (step_top c n).result
      unfolding step_top
      tops_held n h = by_number (top_refusal n) (λ r e. rw (e, step_top, Held) tt) (λ e. rw (e, step_top, Held) (top_held n h))

      assignments_held : (n : Node) → Held n → Held (step_assignment c n).result
      unfolding step_assignment
      assignments_held n h =
          by_test (has_array_rest_over_object_rest (target n))
          (λ a. rw (a, step_assignment, Held) tt)
          (λ a. rw (a, step_assignment, Held)
          (by_test (is_top (target n))
          (λ t. rw (t, step_assignment, Held) (tops_held n h))
          (λ t. rw (t, step_assignment, Held) (by_test (has_object_rest (target n)) (λ r. rw (r, step_assignment, Held) (nested_sequence_held n h)) (λ r. rw (r, step_assignment, Held) h)))))

      fors_held : (n : Node) → Held n → Held (step_for c n).result
      unfolding step_for
      fors_held n h =
          by_test (is 4 (node_at_of 1 n))
          (λ d. rw (d, step_for, Held) (declaring_head_held n h))
          (λ d. rw (d, step_for, Held) (by_test (has_array_rest_over_object_rest (node_at_of 1 n)) (λ a. rw (a, step_for, Held) tt) (λ a. rw (a, step_for, Held) (assigning_head_held n h))))

      rewrite_held : (n : Node) → Held n → Held (rewrite c n).result
      unfolding rewrite
      rewrite_held n h =
          by_rule_lem (rule_of (kind n))
          (λ e. rw (e, rewrite, Held) (literal_held n h))
          (λ e. rw (e, rewrite, Held) (declarations_held n h))
          (λ e. rw (e, rewrite, Held) (assignments_held n h))
          (λ e. rw (e, rewrite, Held) (function_held n h))
          (λ e. rw (e, rewrite, Held) (arrow_held n h))
          (λ e. rw (e, rewrite, Held) (catch_held n h))
          (λ e. rw (e, rewrite, Held) (fors_held n h))
          (λ e. rw (e, rewrite, Held) h)

    -- ---- the walk

    module _ (w : ℕ → ℕ → Node → Walked) (keeps : (i j : ℕ) (n : Node) → Held n → Walks (w i j n)) where
      walks_items : (i j : ℕ) (ns : Items) → HeldItems ns → WalksItems (each_item_of (w i) j ns)
      unfolding each_item_of
      walks_items i j none h = tt
      walks_items i j (hole ns) h = walks_items i (suc j) ns h
      walks_items i j (item n ns) h = (keeps i j n h.0, walks_items i (suc j) ns h.1)

      walks_piece : (i : ℕ) (p : Piece) → HeldPiece p → WalksPiece (each_piece (w i) p)
      unfolding each_piece
      walks_piece i (Piece.one n) h = keeps i 0 n h
      walks_piece i (Piece.list ns) h = walks_items i 0 ns h
      walks_piece i (Piece.text bs) h = tt
      walks_piece i (Piece.byte b) h = tt
      walks_piece i (Piece.mark b) h = h
      walks_piece i (Piece.number b) h = tt

      walks_fields : (i : ℕ) (fs : Fields) → HeldFields fs → WalksFields (each_field w i fs)
      unfolding each_field
      walks_fields i Fields.done h = tt
      walks_fields i (Fields.absent fs) h = walks_fields (suc i) fs h
      walks_fields i (Fields.field p fs) h = (walks_piece i p h.0, walks_fields (suc i) fs h.1)

      walks_inside : (note : Note) (n : Node) → Held n → Walks (inside note w n)
      unfolding inside
      walks_inside note (node at k fs) h = walks_fields 0 fs h

    walk_keeps : (f : ℕ) (c : Context) (n : Node) → Held n → Walks (walk f c n)
    unfolding walk
    walk_keeps zero c n h = tt
    walk_keeps (suc f) c n h =
        let s = rewrite c n in
        walks_inside (λ i j m. walk f (within c s.result i j) m) (λ i j m g. walk_keeps f (within c s.result i j) m g) s.note s.result (rewrite_held c n h)

    pub walked_keeps : (c : Context) (n : Node) → Held n → Walks (walked c n)
    unfolding walked
    walked_keeps c n h = walk_keeps (weight n) c n h
