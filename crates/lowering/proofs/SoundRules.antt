-- A rewriting puts no temporary into the tree, the entries or the excluded keys but those that it makes.
-- Assumes nothing.
use mathlib.Core.Path.{◌≡◌, refl, sym, ap, ap₂, ◌∙◌}
use mathlib.Core.Bool.{true}
use mathlib.Core.List.{[]}
use Prim.Native.Nat.{ℕ, zero, suc, ◌+◌, ◌≤◌}
use native.Mathlib.Omega.{arith}
use Rattle.tree.specs.Tree.{Node, Fields, Piece, Items, depth}
use Rattle.tree.specs.Tree.Node.{node}
use Rattle.tree.specs.Tree.Fields.{done, absent, field}
use Rattle.tree.specs.Tree.Piece.{one, list, text, byte, mark, number}
use Rattle.tree.specs.Tree.Items.{none, hole, item}
use Rattle.lowering.specs.Parts.{position, is, piece_in, change_in, as_node, as_items_of, node_at_of, items_at_of, stands, change, on_node, on_items, change_node, change_items, only, each, gather, any, ◌+++◌}
use Rattle.lowering.specs.Made.{Context, temporary, reference, S, declares, let_of, var_of, assigning}
use Rattle.lowering.specs.Patterns.{properties, key, with_values, has_object_rest}
use Rattle.lowering.specs.Keys.{key_sort, key_temporary, key_temporaries}
use Rattle.lowering.specs.Keys.Key.{name, literal, template, private, again, other}
use Rattle.lowering.specs.Literals.{Call, opened, closed, scan}
use Rattle.lowering.specs.Literals.Call.{no_call}
use Rattle.lowering.specs.Heads.{moved, moved_pattern, moved_out_of, is_moved, moved_from, left_behind, in_front, in_body, as_function_body, as_block, function, function_makes, arrow, arrow_makes, catch, catch_makes, declaring_head, declaring_makes, assigning_head, assigning_makes}
use Rattle.lowering.specs.Collect.{Name}
use Rattle.lowering.proofs.Cases.{by_test}
use Rattle.lowering.proofs.MadeAtSites.{times, only_times}
use Rattle.lowering.proofs.Occurs.{occurs, occurs_fields, occurs_piece, occurs_items, node_in, items_in_lem, Free, occurs_append, only_occurs, none_occurs, temporary_occurs, change_more, on_node_lem, on_items_lem, each_more, node_more, gathered, refs, gather_less, moved_occurs, moved_pattern_occurs, moved_out_more}
use Rattle.lowering.proofs.SoundKeys.{key_kept, S-occurs, object_occurs, let_occurs, var_occurs, assigning_occurs, block_occurs, returned_occurs}
use Rattle.lowering.proofs.ChangeLaws.{position_changed, items_changed_in}

-- ---- the keys of a pattern do not depend on its values

changed_items : (g : Node → Node) (p : Node) → items_at_of 0 (change_items 0 (each g) p) ≡ each g (items_at_of 0 p)
unfolding items_at_of change
changed_items g (node at k fs) = items_changed_in g fs 0

gather_each : (h : Node → Items) (g : Node → Node) → ((n : Node) → h (g n) ≡ h n) → (is : Items) → gather h (each g is) ≡ gather h is
unfolding gather each
gather_each h g e none = refl
gather_each h g e (hole is) = gather_each h g e is
gather_each h g e (item n is) = ap₂ (λ (x y : Items). x +++ y) (e n) (gather_each h g e is)

module _ (c : Context) where
  -- a key temporary, by the key and the position of the property
  unfoldable key_at : Node → ℕ → Items
  key_at k at =
      elim (key_sort k) [ name ↦ none | literal ↦ none | template ↦ none | private ↦ none | again ↦ none | other ↦ only (declares (temporary c.path 4 at) k) ]

  key_at_lem : (q : Node) → key_temporary c q ≡ key_at (key q) (position q)
  unfolding key_temporary key_at
  key_at_lem q = refl

  pub key_temporary_value : (f : Node → Node) (q : Node) → key_temporary c (change_node 1 f q) ≡ key_temporary c q
  key_temporary_value f q = key_at_lem (change_node 1 f q) ∙ (ap₂ key_at (key_kept f q) (position_changed 1 (on_node f) q) ∙ sym (key_at_lem q))

  pub keys_value : (f : Node → Node) (p : Node) → key_temporaries c (with_values f p) ≡ key_temporaries c p
  unfolding key_temporaries
  keys_value f p =
      ap (gather (key_temporary c)) (changed_items (λ q. change_node 1 f q) p)
      ∙ gather_each (key_temporary c) (λ q. change_node 1 f q) (key_temporary_value f) (properties p)

module _ (a : Name) where
  -- ---- a field changed

  changed_piece : (p : Piece) (g : Items → Items) → occurs_items a (g (as_items_of p)) ≡ 0 → occurs_piece a (on_items g p) ≤ occurs_piece a p
  unfolding on_items occurs
  changed_piece (one n) g z = omega arith
  changed_piece (list is) g z = omega arith
  changed_piece (text bs) g z = omega arith
  changed_piece (byte b) g z = omega arith
  changed_piece (mark b) g z = omega arith
  changed_piece (number b) g z = omega arith

  changed_fields : (fs : Fields) (i : ℕ) (g : Items → Items) → occurs_items a (g (as_items_of (piece_in fs i))) ≡ 0 → occurs_fields a (change_in fs i (on_items g)) ≤ occurs_fields a fs
  unfolding piece_in change_in occurs
  changed_fields done i g z = omega arith
  changed_fields (absent fs) zero g z = omega arith
  changed_fields (absent fs) (suc i) g z = changed_fields fs i g z
  changed_fields (field p fs) zero g z = let u = changed_piece p g z in omega arith
  changed_fields (field p fs) (suc i) g z = let u = changed_fields fs i g z in omega arith

  node_piece : (p : Piece) (f : Node → Node) → occurs a (f (as_node p)) ≡ 0 → occurs_piece a (on_node f p) ≤ occurs_piece a p
  unfolding on_node occurs
  node_piece (one n) f z = omega arith
  node_piece (list is) f z = omega arith
  node_piece (text bs) f z = omega arith
  node_piece (byte b) f z = omega arith
  node_piece (mark b) f z = omega arith
  node_piece (number b) f z = omega arith

  changed_node : (fs : Fields) (i : ℕ) (f : Node → Node) → occurs a (f (as_node (piece_in fs i))) ≡ 0 → occurs_fields a (change_in fs i (on_node f)) ≤ occurs_fields a fs
  unfolding piece_in change_in occurs
  changed_node done i f z = omega arith
  changed_node (absent fs) zero f z = omega arith
  changed_node (absent fs) (suc i) f z = changed_node fs i f z
  changed_node (field p fs) zero f z = let u = node_piece p f z in omega arith
  changed_node (field p fs) (suc i) f z = let u = changed_node fs i f z in omega arith

  pub node_free_at : (i : ℕ) (f : Node → Node) (n : Node) → Free a n → occurs a (f (node_at_of i n)) ≡ 0 → Free a (change_node i f n)
  unfolding change node_at_of
  node_free_at i f (node at k fs) h z =
      let u = change_more a i 0 (on_node f) (on_node_lem f) at k fs (let v = changed_node fs i f z in omega arith) in omega arith

  first_item : (s : Node) (is : Items) → occurs a s ≡ 0 → occurs_items a is ≡ 0 → occurs_items a (item s is) ≡ 0
  unfolding occurs
  first_item s is y z = omega arith

  pub items_free_at : (i : ℕ) (g : Items → Items) (n : Node) → Free a n → occurs_items a (g (items_at_of i n)) ≡ 0 → Free a (change_items i g n)
  unfolding change items_at_of
  items_free_at i g (node at k fs) h z =
      let u = change_more a i 0 (on_items g) (on_items_lem g) at k fs (let w = changed_fields fs i g z in omega arith) in omega arith

  pub node_free : (i : ℕ) (f : Node → Node) → ((b : Node) → Free a b → Free a (f b)) → (n : Node) → Free a n → Free a (change_node i f n)
  node_free i f free n h = let w = node_in a i n in node_free_at i f n h (free (node_at_of i n) (omega arith))

  -- ---- literals

  abbrev so_far : Call → ℕ
  so_far no_call = 0
  so_far (Call.call c) = occurs a c

  opened_occurs : (c : Call) (pending : Items) → occurs_items a (opened c pending) ≤ so_far c + occurs_items a pending
  unfolding opened occurs
  opened_occurs no_call pending = omega arith
  opened_occurs (Call.call c) none = omega arith
  opened_occurs (Call.call c) (hole ps) = omega arith
  opened_occurs (Call.call c) (item p ps) = omega arith

  closed_occurs : (c : Call) (pending : Items) → occurs a (closed c pending) ≤ so_far c + occurs_items a pending
  unfolding closed
  closed_occurs no_call pending = let o = object_occurs a pending in omega arith
  closed_occurs (Call.call c) none = omega arith
  closed_occurs (Call.call c) (hole ps) = omega arith
  closed_occurs (Call.call c) (item p ps) =
      let o = opened_occurs (Call.call c) (item p ps) in let s = S-occurs a (opened (Call.call c) (item p ps)) in omega arith

  scan_occurs : (c : Call) (pending ps : Items) → occurs a (scan c pending ps) ≤ so_far c + occurs_items a pending + occurs_items a ps
  unfolding scan occurs
  scan_occurs c pending none = let h = closed_occurs c pending in omega arith
  scan_occurs c pending (hole ps) = scan_occurs c pending ps
  scan_occurs c pending (item p ps) =
      by_test (is 26 p)
      (λ e. rw (e, scan)
      (let next = opened c pending +++ only (node_at_of 0 p) in
      let h = scan_occurs (Call.call (S next)) none ps in
      let s = S-occurs a next in
      let u = occurs_append a (opened c pending) (only (node_at_of 0 p)) in
      let b = opened_occurs c pending in
      let o = only_occurs a (node_at_of 0 p) in
      let n = node_in a 0 p in
      let z = none_occurs a in
      omega arith))
      (λ e. rw (e, scan)
      (let h = scan_occurs c (pending +++ only p) ps in let u = occurs_append a pending (only p) in let o = only_occurs a p in omega arith))

  pub literal_free : (n : Node) → Free a n → Free a (Rattle.lowering.specs.Literals.literal n)
  unfolding Rattle.lowering.specs.Literals.literal
  literal_free n f =
      by_test (any (λ p. is 26 p) (items_at_of 0 n))
      (λ e. rw e (let h = scan_occurs no_call none (items_at_of 0 n) in let i = items_in_lem a 0 n in let z = none_occurs a in omega arith))
      (λ e. rw e f)

  -- ---- heads

  as_function_body_free : (b : Node) → Free a b → Free a (as_function_body b)
  unfolding as_function_body
  as_function_body_free b f = by_test (is 16 b) (λ e. rw e f) (λ e. rw e (let h = returned_occurs a b in omega arith))

  as_block_free : (b : Node) → Free a b → Free a (as_block b)
  unfolding as_block
  as_block_free b f =
      by_test (is 2 b)
      (λ e. rw e f)
      (λ e. rw e
      (by_test (is 13 b)
      (λ g. rw g (let h = block_occurs a none in let z = none_occurs a in omega arith))
      (λ g. rw g (let h = block_occurs a (only b) in let o = only_occurs a b in omega arith))))

  moved_from_occurs : (q : Node) → occurs_items a (moved_from q) ≤ occurs a q
  unfolding moved_from
  moved_from_occurs q =
      by_test (is_moved q)
      (λ e. rw e (let m = moved_occurs a (record { path = []; root = true; statement = true }) (depth (node_at_of 0 q)) (node_at_of 0 q) in let n = node_in a 0 q in omega arith))
      (λ e. rw e (let z = none_occurs a in omega arith))

  module _ (c : Context) where
    left_behind_more : (q : Node) → occurs a (left_behind c q) ≤ occurs a q + times a (refs a c (moved_from q))
    unfolding left_behind moved_from
    left_behind_more q =
        by_test (is_moved q)
        (λ e. rw e (node_more a (λ p. moved_out_of c (depth p) p) (λ p. refs a c (moved (depth p) p)) (λ p. moved_out_more a c (depth p) p) 0 q))
        (λ e. rw e (omega arith))

    in_front_more : (ps body : Items) → occurs_items a (in_front c ps body) ≤ occurs_items a body + occurs_items a ps + times a (refs a c ps)
    unfolding in_front occurs each times
    in_front_more none body = omega arith
    in_front_more (hole ps) body = in_front_more ps body
    in_front_more (item p ps) body =
        let h = in_front_more ps (item (let_of (moved_pattern p) (reference c p)) body) in
        let l = let_occurs a (moved_pattern p) (reference c p) in
        let t = temporary_occurs a c.path 1 (position p) in
        let v = moved_pattern_occurs a c p in
        omega arith

    in_body_free : (ps : Items) → occurs_items a ps ≡ 0 → times a (refs a c ps) ≡ 0 → (b : Node) → Free a b → Free a (in_body c ps b)
    unfolding in_body
    in_body_free ps y z b f =
        let i = items_in_lem a 1 b in
        let g = in_front_more ps (items_at_of 1 b) in
        items_free_at 1 (in_front c ps) b f (omega arith)

    params_free : (is : Items) → occurs_items a is ≡ 0 → times a (refs a c (gather moved_from is)) ≡ 0 → occurs_items a (each (left_behind c) is) ≡ 0
    params_free is y z =
        let u = each_more a (left_behind c) (λ q. refs a c (moved_from q)) left_behind_more is in
        let g = gathered a (λ p. reference c p) moved_from is in
        omega arith

    pub function_free : (n : Node) → Free a n → times a (function_makes c n) ≡ 0 → Free a (function c n)
    unfolding function function_makes
    function_free n f z =
        let is = items_at_of 3 n in
        let i = items_in_lem a 3 n in
        let m = gather_less a moved_from moved_from_occurs is in
        by_test (stands 5 n)
        (λ s.
        let z' : times a (refs a c (gather moved_from is)) ≡ 0 = rw s at z in
        by_test (any is_moved is)
        (λ e. rw (s, e)
        (node_free 5 (λ b. in_body c (gather moved_from is) (as_function_body b))
        (λ b g. in_body_free (gather moved_from is) (omega arith) z' (as_function_body b) (as_function_body_free b g))
        (change_items 3 (each (left_behind c)) n) (items_free_at 3 (each (left_behind c)) n f (params_free is (omega arith) z'))))
        (λ e. rw (s, e) f))
        (λ s. rw s f)

    pub arrow_free : (n : Node) → Free a n → times a (arrow_makes c n) ≡ 0 → Free a (arrow c n)
    unfolding arrow arrow_makes
    arrow_free n f z =
        let is = items_at_of 0 n in
        let i = items_in_lem a 0 n in
        let m = gather_less a moved_from moved_from_occurs is in
        by_test (any is_moved is)
        (λ e. rw e
        (node_free 2 (λ b. in_body c (gather moved_from is) (as_function_body b))
        (λ b g. in_body_free (gather moved_from is) (omega arith) z (as_function_body b) (as_function_body_free b g))
        (change_items 0 (each (left_behind c)) n) (items_free_at 0 (each (left_behind c)) n f (params_free is (omega arith) z))))
        (λ e. rw e f)

    param_free : (q : Node) → times a (refs a c (moved_from q)) ≡ 0 → Free a q → Free a (left_behind c q)
    param_free q z f = let u = left_behind_more q in omega arith

    pub catch_free : (n : Node) → Free a n → times a (catch_makes c n) ≡ 0 → Free a (catch c n)
    unfolding catch catch_makes
    catch_free n f z =
        let q = node_at_of 0 n in
        let i = node_in a 0 n in
        let m = moved_from_occurs q in
        by_test (is_moved q)
        (λ e. rw e
        (node_free 1 (λ b. in_body c (moved_from q) (as_block b)) (λ b g. in_body_free (moved_from q) (omega arith) z (as_block b) (as_block_free b g))
        (change_node 0 (left_behind c) n) (node_free_at 0 (left_behind c) n f (param_free q z (omega arith)))))
        (λ e. rw e f)

    pub declaring_free : (n : Node) → Free a n → times a (declaring_makes c n) ≡ 0 → Free a (declaring_head c n)
    unfolding declaring_head declaring_makes
    declaring_free n f z =
        let l = node_at_of 1 n in
        let ds = items_at_of 2 l in
        let j = node_in a 1 n in
        let i = items_in_lem a 2 l in
        let m = gather_less a moved_from moved_from_occurs ds in
        by_test (any is_moved ds)
        (λ e. rw e
        (node_free 3 (λ b. in_body c (gather moved_from ds) (as_block b)) (λ b g. in_body_free (gather moved_from ds) (omega arith) z (as_block b) (as_block_free b g))
        (change_node 1 (λ k. change_items 2 (each (left_behind c)) k) n)
        (node_free_at 1 (λ k. change_items 2 (each (left_behind c)) k) n f (items_free_at 2 (each (left_behind c)) l (omega arith) (params_free ds (omega arith) z)))))
        (λ e. rw e f)

    pub assigning_free : (n : Node) → Free a n → times a (assigning_makes c n) ≡ 0 → Free a (assigning_head c n)
    unfolding assigning_head assigning_makes
    assigning_free n f z =
        let p = node_at_of 1 n in
        let j = node_in a 1 n in
        let t = only_times a (reference c p) in
        let s = temporary_occurs a c.path 1 (position p) in
        let o = assigning_occurs a p (reference c p) in
        let v = var_occurs a (reference c p) in
        by_test (has_object_rest p)
        (λ e.
        let z' : times a (only (reference c p)) ≡ 0 = rw e at z in
        rw e
        (node_free 3 (λ b. change_items 1 (item (assigning p (reference c p))) (as_block b))
        (λ b g. let h = as_block_free b g in let i = items_in_lem a 1 (as_block b) in
        items_free_at 1 (item (assigning p (reference c p))) (as_block b) h (first_item (assigning p (reference c p)) (items_at_of 1 (as_block b)) (omega arith) (omega arith)))
        (change_node 1 (λ l. var_of (reference c l)) n) (node_free_at 1 (λ l. var_of (reference c l)) n f (omega arith))))
        (λ e. rw e f)
