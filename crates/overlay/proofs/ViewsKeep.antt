-- No view of a pattern loses a literal: what is not in the one is in the other.
-- Assumes nothing.
use mathlib.Core.Path.{◌≡◌, refl, sym, ap, ap₂, subst, ◌∙◌}
use mathlib.Core.Bool.{Bool, true, false, cond, ◌&&◌}
use mathlib.Core.List.{List}
use Prim.Native.Nat.{ℕ, zero, suc, ◌+◌, ◌≤◌}
use native.Mathlib.Omega.{arith}
use lib.Dec.{eqb}
use borrow.Author.Tests.{eqb-true}
use Rattle.tree.specs.Tree.{Node, Fields, Piece, Items, depth}
use Rattle.tree.specs.Tree.Node.{node}
use Rattle.tree.specs.Tree.Fields.{done, absent, field}
use Rattle.tree.specs.Tree.Piece.{one, list, text, byte, mark, number}
use Rattle.tree.specs.Tree.Items.{none, hole, item}
use Rattle.lowering.specs.Parts.{is, piece_in, stands_in, change_in, drop_in, as_node, as_items_of, node_at_of, items_at_of, stands, change, on_node, on_items, change_node, without, only, each, gather, is_empty, ◌+++◌}
use Rattle.lowering.specs.Made.{Context, temporary, reference, key_of, value_of, declares, let_of}
use Rattle.lowering.specs.Patterns.{shape, properties, items_of, rest, has_rest_of, left_of, value, key, with_left, with_items, with_rest, with_values, has_object_rest, replaced, replaced_below}
use Rattle.lowering.specs.Patterns.Shape.{leaf}
use Rattle.lowering.specs.Keys.{Key, key_sort, kept_key, key_temporary, key_temporaries, taken}
use Rattle.lowering.specs.Rests.{has_no_properties, rest_value}
use Rattle.lowering.specs.Declarations.{is_name_of, source, source_declarator, keys_before, pattern_declarator, rest_declarator, own, nested, nested_below, object_declarators, pattern_declarators, lower_declarator, is_lowered, declarators}
use Rattle.lowering.specs.Assignments.{nearest, parts_replaced}
use Rattle.lowering.specs.Heads.{moved, moved_pattern, moved_out_of}
use Rattle.lowering.proofs.All.{other_changed}
use Rattle.overlay.proofs.LaidOn.{differ}
use Rattle.overlay.proofs.LiteralsCounted.{is_atom, has_body, held, held_all, held_piece, held_items_of, held_parts, held_pattern, held_declarator, at_34, at_37, declarator_held, held_append, change_less, node_most, only_held, two_all}
use Rattle.lowering.proofs.ChangeLaws.{items_changed_in}
use Rattle.lowering.proofs.WeightKeys.{values_rest}
use Rattle.lowering.proofs.Clauses.{taken_none, has_leaf}
use Rattle.lowering.proofs.Cases.{by_test, and_right}
use Rattle.lowering.proofs.SoundRules.{key_temporary_value}

-- ---- patterns by kind

pub data View : Node → Type 0 where
  object_view : {at : ℕ} {fs : Fields} → View (node at 34 fs)
  array_view : {at : ℕ} {fs : Fields} → View (node at 36 fs)
  default_view : {at : ℕ} {fs : Fields} → View (node at 37 fs)
  leaf_view : {p : Node} → shape p ≡ leaf → is 37 p ≡ false → View p

pub view : (p : Node) → View p
unfolding shape is
view (node at k fs) =
    by_test (eqb k 34)
    (λ a. subst (λ (x : ℕ). View (node at x fs)) (sym (eqb-true k 34 a)) object_view)
    (λ a. by_test (eqb k 36)
    (λ b. subst (λ (x : ℕ). View (node at x fs)) (sym (eqb-true k 36 b)) array_view)
    (λ b. by_test (eqb k 37)
    (λ d. subst (λ (x : ℕ). View (node at x fs)) (sym (eqb-true k 37 d)) default_view)
    (λ d. leaf_view (rw (a, b, d) refl) d)))

-- a measure of lists that adds up
pub record Adds (M : Items → ℕ) : Type 0 where
  pub append : (is js : Items) → M (is +++ js) ≡ M is + M js

module _ (wanted : Node → Bool) where
  abbrev H : Node → ℕ
  H n = held wanted n

  abbrev HI : Items → ℕ
  HI is = held_items_of wanted is

  pub held_adds : Adds (held_items_of wanted)
  unfolding held
  held_adds = record { append = held_append wanted }

  pub temporary_held : (path : List ℕ) (stem at : ℕ) → held wanted (temporary path stem at) ≡ 0
  unfolding held is_atom
  temporary_held path stem at = refl

  pub at_35 : (at : ℕ) (fs : Fields) → H (node at 35 fs) ≡ held_all wanted fs
  unfolding held is_atom has_body
  at_35 at fs = refl

  at_36 : (at : ℕ) (fs : Fields) → H (node at 36 fs) ≡ held_all wanted fs
  unfolding held is_atom has_body
  at_36 at fs = refl

  pub declares_held : (a b : Node) → H (declares a b) ≡ H a + H b
  unfolding held is_atom has_body
  declares_held a b = omega arith

  pub pattern_most : (p : Node) → held_pattern wanted p ≤ H p
  pattern_most p = by_test (is 37 p) (λ e. rw e (omega arith)) (λ e. rw e (omega arith))

  -- ---- a function of each value, item or node, that hands some of it to a list
  module _ (M : Items → ℕ) (adds : Adds M) (f : Node → Node) (g : Node → Items) (keeps : (v : Node) → H v ≤ H (f v) + M (g v)) where
    node_kept : (p : Piece) → held_piece wanted p ≤ held_piece wanted (on_node f p) + M (g (as_node p))
    unfolding held on_node
    node_kept (one n) = keeps n
    node_kept (list n) = omega arith
    node_kept (text n) = omega arith
    node_kept (byte n) = omega arith
    node_kept (mark n) = omega arith
    node_kept (number n) = omega arith

    pub each_kept : (is : Items) → HI is ≤ HI (each f is) + M (gather g is)
    unfolding held each gather
    each_kept none = omega arith
    each_kept (hole is) = each_kept is
    each_kept (item n is) =
        let r = each_kept is in
        let k = keeps n in
        let e = adds.append (g n) (gather g is) in
        omega arith

    list_kept : (p : Piece) → held_piece wanted p ≤ held_piece wanted (on_items (each f) p) + M (gather g (as_items_of p))
    unfolding held on_items
    list_kept (one n) = omega arith
    list_kept (list is) = each_kept is
    list_kept (text n) = omega arith
    list_kept (byte n) = omega arith
    list_kept (mark n) = omega arith
    list_kept (number n) = omega arith

    -- the value of a property
    value_kept : (q : Node) → cond (is 35 q) (H q) 0 ≤ cond (is 35 (change_node 1 f q)) (H (change_node 1 f q)) 0 + M (g (value q))
    unfolding is change node_at_of
    value_kept (node at k fs) =
        by_test (eqb k 35)
        (λ e. rw e (subst (λ (x : ℕ). H (node at x fs) ≤ H (node at x (change_in fs 1 (on_node f))) + M (g (as_node (piece_in fs 1)))) (sym (eqb-true k 35 e))
        (let a = at_35 at fs in
        let b = at_35 at (change_in fs 1 (on_node f)) in
        let r = change_less wanted fs 1 (on_node f) (M (g (as_node (piece_in fs 1)))) (node_kept (piece_in fs 1)) in omega arith)))
        (λ e. rw e (omega arith))

    pub values_kept : (qs : Items) → held_parts wanted qs ≤ held_parts wanted (each (λ q. change_node 1 f q) qs) + M (gather (λ q. g (value q)) qs)
    unfolding held each gather
    values_kept none = omega arith
    values_kept (hole qs) = values_kept qs
    values_kept (item q qs) =
        let r = values_kept qs in
        let k = value_kept q in
        let e = adds.append (g (value q)) (gather (λ q. g (value q)) qs) in
        omega arith

    -- an object pattern with its values changed, an array pattern with its items, a default with its left
    pub object_kept : (at : ℕ) (fs : Fields) → H (node at 34 fs) ≤ H (with_values f (node at 34 fs)) + M (gather (λ q. g (value q)) (properties (node at 34 fs)))
    unfolding change items_at_of
    object_kept at fs =
        let gs : Fields = change_in fs 0 (on_items (each (λ q. change_node 1 f q))) in
        let a = at_34 wanted at fs in
        let b = at_34 wanted at gs in
        let e : held_parts wanted (as_items_of (piece_in gs 0)) ≡ held_parts wanted (each (λ q. change_node 1 f q) (as_items_of (piece_in fs 0))) = ap (held_parts wanted) (items_changed_in (λ q. change_node 1 f q) fs 0) in
        let d : H (as_node (piece_in gs 1)) ≡ H (as_node (piece_in fs 1)) = ap (λ (p : Piece). H (as_node p)) (other_changed fs 0 (on_items (each (λ q. change_node 1 f q))) 1 (λ z. omega arith)) in
        let r = values_kept (as_items_of (piece_in fs 0)) in
        omega arith

    pub array_kept : (at : ℕ) (fs : Fields) → H (node at 36 fs) ≤ H (with_items f (node at 36 fs)) + M (gather g (items_of (node at 36 fs)))
    unfolding change items_at_of
    array_kept at fs =
        let a = at_36 at fs in
        let b = at_36 at (change_in fs 0 (on_items (each f))) in
        let r = change_less wanted fs 0 (on_items (each f)) (M (gather g (as_items_of (piece_in fs 0)))) (list_kept (piece_in fs 0)) in
        omega arith

    module _ (stays : (l : Node) → is 37 l ≡ false → is 37 (f l) ≡ false) where
      pattern_kept : (l : Node) → held_pattern wanted l ≤ held_pattern wanted (f l) + M (g l)
      pattern_kept l =
          by_test (is 37 l)
          (λ e. rw e (omega arith))
          (λ e. let k = keeps l in rw (e, stays l e) (omega arith))

      left_kept : (fs : Fields) → held_pattern wanted (as_node (piece_in fs 0)) ≤ held_pattern wanted (as_node (piece_in (change_in fs 0 (on_node f)) 0)) + M (g (as_node (piece_in fs 0)))
      unfolding piece_in change_in on_node held is_atom has_body is
      left_kept done = omega arith
      left_kept (absent fs) = omega arith
      left_kept (field (one n) fs) = pattern_kept n
      left_kept (field (list n) fs) = omega arith
      left_kept (field (text n) fs) = omega arith
      left_kept (field (byte n) fs) = omega arith
      left_kept (field (mark n) fs) = omega arith
      left_kept (field (number n) fs) = omega arith

      pub default_kept : (at : ℕ) (fs : Fields) → H (node at 37 fs) ≤ H (with_left f (node at 37 fs)) + M (g (left_of (node at 37 fs)))
      unfolding change node_at_of
      default_kept at fs =
          let a = at_37 wanted at fs in
          let b = at_37 wanted at (change_in fs 0 (on_node f)) in
          let d : H (as_node (piece_in (change_in fs 0 (on_node f)) 1)) ≡ H (as_node (piece_in fs 1)) = ap (λ (p : Piece). H (as_node p)) (other_changed fs 0 (on_node f) 1 (λ z. omega arith)) in
          let r = left_kept fs in
          omega arith

  -- ---- the objects with rest replaced, and those objects

  module _ (c : Context) where
    replaced_default : (d : ℕ) (l : Node) → is 37 l ≡ false → is 37 (replaced c d l) ≡ false
    unfolding replaced shape is change
    replaced_default zero l e = e
    replaced_default (suc d) l e = go (view l) e
      where
        go : {l : Node} → View l → is 37 l ≡ false → is 37 (replaced c (suc d) l) ≡ false
        go (object_view {at = at} {fs = fs}) e = by_test (has_rest_of (node at 34 fs)) (λ r. rw (r, replaced) refl) (λ r. rw (r, replaced) refl)
        go array_view e = refl
        go default_view e = differ e
        go (leaf_view z y) e = rw (z, replaced) e

    pub replaced_kept : (d : ℕ) (p : Node) → H p ≤ H (replaced c d p) + HI (nearest true d p)
    unfolding replaced nearest shape held
    replaced_kept zero p = omega arith
    replaced_kept (suc d) p = go (view p) (λ v. replaced_kept d v)
      where
        go : {p : Node} → View p → ((v : Node) → H v ≤ H (replaced c d v) + HI (nearest true d v)) → H p ≤ H (replaced c (suc d) p) + HI (nearest true (suc d) p)
        go (object_view {at = at} {fs = fs}) k =
            let p = node at 34 fs in
            let r = object_kept (held_items_of wanted) held_adds (λ v. replaced c d v) (λ v. nearest true d v) k at fs in
            by_test (has_rest_of p)
            (λ e. rw (e, replaced, nearest) (let o = only_held wanted p in omega arith))
            (λ e. rw (e, replaced, nearest) (omega arith))
        go (array_view {at = at} {fs = fs}) k = array_kept (held_items_of wanted) held_adds (λ v. replaced c d v) (λ v. nearest true d v) k at fs
        go (default_view {at = at} {fs = fs}) k = default_kept (held_items_of wanted) held_adds (λ v. replaced c d v) (λ v. nearest true d v) k (replaced_default d) at fs
        go (leaf_view {p = p} z y) k = rw (z, replaced, nearest) (omega arith)

    -- ---- keys

    key_piece_lem : (t : Node) (p : Piece) → H t ≡ 0 → held_piece wanted p ≤ held_piece wanted (on_node (λ k. t) p) + HI (only (declares t (as_node p)))
    unfolding held on_node is_atom has_body
    key_piece_lem t (one n) e = omega arith
    key_piece_lem t (list n) e = omega arith
    key_piece_lem t (text n) e = omega arith
    key_piece_lem t (byte n) e = omega arith
    key_piece_lem t (mark n) e = omega arith
    key_piece_lem t (number n) e = omega arith

    other_key : (t : Node) (q : Node) → H t ≡ 0 → cond (is 35 q) (H q) 0 ≤ cond (is 35 (change_node 0 (λ k. t) q)) (H (change_node 0 (λ k. t) q)) 0 + HI (only (declares t (key q)))
    unfolding is change node_at_of
    other_key t (node at k fs) z =
        let f : Piece → Piece = on_node (λ k. t) in
        by_test (eqb k 35)
        (λ e. rw e (subst (λ (x : ℕ). H (node at x fs) ≤ H (node at x (change_in fs 0 f)) + HI (only (declares t (as_node (piece_in fs 0))))) (sym (eqb-true k 35 e))
        (let a = at_35 at fs in
        let b = at_35 at (change_in fs 0 f) in
        let r = change_less wanted fs 0 f (HI (only (declares t (as_node (piece_in fs 0))))) (key_piece_lem t (piece_in fs 0) z) in omega arith)))
        (λ e. rw e (omega arith))

    key_kept : (q : Node) → cond (is 35 q) (H q) 0 ≤ cond (is 35 (kept_key c q)) (H (kept_key c q)) 0 + HI (key_temporary c q)
    unfolding kept_key key_temporary
    key_kept q = go (key_sort (key q)) refl
      where
        go : (s : Key) → key_sort (key q) ≡ s → cond (is 35 q) (H q) 0 ≤ cond (is 35 (kept_key c q)) (H (kept_key c q)) 0 + HI (key_temporary c q)
        go Key.name e = rw (e, kept_key, key_temporary) (omega arith)
        go Key.literal e = rw (e, kept_key, key_temporary) (omega arith)
        go Key.template e = rw (e, kept_key, key_temporary) (omega arith)
        go Key.private e = rw (e, kept_key, key_temporary) (omega arith)
        go Key.again e = rw (e, kept_key, key_temporary) (omega arith)
        go Key.other e = rw (e, kept_key, key_temporary) (other_key (key_of c q) q (temporary_held _ _ _))

    keys_kept : (qs : Items) → held_parts wanted qs ≤ held_parts wanted (each (kept_key c) qs) + HI (gather (key_temporary c) qs)
    unfolding held each gather
    keys_kept none = omega arith
    keys_kept (hole qs) = keys_kept qs
    keys_kept (item q qs) =
        let r = keys_kept qs in
        let k = key_kept q in
        let e = held_append wanted (key_temporary c q) (gather (key_temporary c) qs) in
        omega arith

    -- ---- an object pattern whose rest is taken

    each_changed : (h : Node → Node) (fs : Fields) → as_items_of (piece_in (drop_in (change_in fs 0 (on_items (each h))) 1) 0) ≡ each h (as_items_of (piece_in fs 0))
    unfolding piece_in change_in drop_in on_items each
    each_changed h done = refl
    each_changed h (absent fs) = refl
    each_changed h (field (one n) fs) = refl
    each_changed h (field (list n) fs) = refl
    each_changed h (field (text n) fs) = refl
    each_changed h (field (byte n) fs) = refl
    each_changed h (field (mark n) fs) = refl
    each_changed h (field (number n) fs) = refl

    pub taken_kept : (at : ℕ) (fs : Fields) → has_rest_of (node at 34 fs) ≡ true → held_parts wanted (properties (node at 34 fs)) ≤ H (taken c (node at 34 fs)) + HI (key_temporaries c (node at 34 fs))
    unfolding taken without change items_at_of key_temporaries
    taken_kept at fs e =
        let gs : Fields = drop_in (change_in fs 0 (on_items (each (kept_key c)))) 1 in
        let a = at_34 wanted at gs in
        let b : held_parts wanted (as_items_of (piece_in gs 0)) ≡ held_parts wanted (each (kept_key c) (as_items_of (piece_in fs 0))) = ap (held_parts wanted) (each_changed (kept_key c) fs) in
        let r = keys_kept (as_items_of (piece_in fs 0)) in
        rw e (omega arith)

    no_parts : (qs : Items) → is_empty qs ≡ true → held_parts wanted qs ≡ 0
    unfolding held is_empty
    no_parts none e = refl
    no_parts (hole qs) e = differ (sym e)
    no_parts (item q qs) e = differ (sym e)

    not_there : (fs : Fields) (i : ℕ) → stands_in fs i ≡ false → H (as_node (piece_in fs i)) ≡ 0
    unfolding stands_in piece_in held is_atom has_body
    not_there done i e = refl
    not_there (absent fs) zero e = refl
    not_there (absent fs) (suc i) e = not_there fs i e
    not_there (field p fs) zero e = differ e
    not_there (field p fs) (suc i) e = not_there fs i e

    at_pattern : (at : ℕ) (fs : Fields) → H (node at 34 fs) ≡ held_parts wanted (properties (node at 34 fs)) + H (rest (node at 34 fs))
    unfolding items_at_of node_at_of
    at_pattern at fs = at_34 wanted at fs

    no_rest : (at : ℕ) (fs : Fields) → has_rest_of (node at 34 fs) ≡ false → H (rest (node at 34 fs)) ≡ 0
    unfolding node_at_of stands
    no_rest at fs e = not_there fs 1 e

    declares_one : (a b : Node) → H a ≤ HI (only (declares a b))
    declares_one a b = let x = only_held wanted (declares a b) in let y = declares_held a b in omega arith

    -- the pattern is dropped only if there is nothing in it
    dropped_kept : (p x : Node) (k : ℕ) → held_parts wanted (properties p) ≤ H x + k → (s : Node) → held_parts wanted (properties p) ≤ HI (cond (has_no_properties p) none (only (declares x s))) + k
    dropped_kept p x k h s =
        by_test (has_no_properties p)
        (λ e. let z = no_parts (properties p) e in rw e (omega arith))
        (λ e. let z = declares_one x s in rw e (omega arith))

    -- keys, pattern, rest
    pub own_parts : (at : ℕ) (fs : Fields) (s : Node) → H (node at 34 fs) ≤ HI (keys_before c (node at 34 fs)) + (HI (pattern_declarator c (node at 34 fs) s) + HI (rest_declarator c (node at 34 fs) s))
    unfolding keys_before pattern_declarator rest_declarator held
    own_parts at fs s =
        let p = node at 34 fs in
        let h = at_pattern at fs in
        by_test (has_rest_of p)
        (λ r. let t = dropped_kept p (taken c p) (HI (key_temporaries c p)) (taken_kept at fs r) s in
        let d = declares_one (rest p) (rest_value c p s) in
        rw r (omega arith))
        (λ r. let z = no_rest at fs r in
        let q : H (taken c p) ≡ H p = ap (held wanted) (taken_none c p r) in
        let t = dropped_kept p (taken c p) 0 (omega arith) s in
        rw r (omega arith))

    pub own_kept : (at : ℕ) (fs : Fields) (s : Node) → H (node at 34 fs) ≤ HI (own c (node at 34 fs) s)
    unfolding own
    own_kept at fs s =
        let p = node at 34 fs in
        let a = held_append wanted (keys_before c p) (pattern_declarator c p s +++ rest_declarator c p s) in
        let b = held_append wanted (pattern_declarator c p s) (rest_declarator c p s) in
        let r = own_parts at fs s in
        omega arith

    -- ---- declarators found below a pattern

    values_own : (at : ℕ) (fs : Fields) (f : Node → Node) (s : Node) → H (with_values f (node at 34 fs)) ≤ HI (own c (with_values f (node at 34 fs)) s)
    unfolding change
    values_own at fs f s = own_kept at (change_in fs 0 (on_items (each (λ q. change_node 1 f q)))) s

    pub nested_kept : (d : ℕ) (p : Node) → H p ≤ H (replaced c d p) + HI (nested c d p)
    unfolding replaced nested shape held
    nested_kept zero p = omega arith
    nested_kept (suc d) p = go (view p) (λ v. nested_kept d v)
      where
        go : {p : Node} → View p → ((v : Node) → H v ≤ H (replaced c d v) + HI (nested c d v)) → H p ≤ H (replaced c (suc d) p) + HI (nested c (suc d) p)
        go (object_view {at = at} {fs = fs}) k =
            let p = node at 34 fs in
            let gs = gather (λ q. nested c d (value q)) (properties p) in
            let o = with_values (λ v. replaced c d v) p in
            let r = object_kept (held_items_of wanted) held_adds (λ v. replaced c d v) (λ v. nested c d v) k at fs in
            by_test (has_rest_of p)
            (λ e. rw (e, replaced, nested) (let a = held_append wanted (own c o (reference c p)) gs in let w = values_own at fs (λ v. replaced c d v) (reference c p) in omega arith))
            (λ e. rw (e, replaced, nested) (let a = held_append wanted none gs in omega arith))
        go (array_view {at = at} {fs = fs}) k = array_kept (held_items_of wanted) held_adds (λ v. replaced c d v) (λ v. nested c d v) k at fs
        go (default_view {at = at} {fs = fs}) k = default_kept (held_items_of wanted) held_adds (λ v. replaced c d v) (λ v. nested c d v) k (replaced_default d) at fs
        go (leaf_view {p = p} z y) k = rw (z, replaced, nested) (omega arith)

    -- ---- a declarator

    values_parts : (at : ℕ) (fs : Fields) (f : Node → Node) (s : Node) → let q = with_values f (node at 34 fs) in H q ≤ HI (keys_before c q) + (HI (pattern_declarator c q s) + HI (rest_declarator c q s))
    unfolding change
    values_parts at fs f s = own_parts at (change_in fs 0 (on_items (each (λ q. change_node 1 f q)))) s

    default_zero : (at : ℕ) (fs : Fields) {n : ℕ} → held_pattern wanted (node at 37 fs) ≤ n
    unfolding is
    default_zero at fs = omega arith

    at_5 : (at : ℕ) (fs : Fields) → H (node at 5 fs) ≡ held_all wanted fs
    unfolding held is_atom has_body
    at_5 at fs = refl

    -- a declarator counts as a node at least as much
    pub declarator_most : (d : Node) → held_declarator wanted d ≤ H d
    unfolding is node_at_of
    declarator_most (node at k fs) =
        let e = declarator_held wanted (node at k fs) in
        by_test (eqb k 5)
        (λ b. let e₁ : held_declarator wanted (node at k fs) ≡ held_pattern wanted (as_node (piece_in fs 0)) + H (as_node (piece_in fs 1)) = e ∙ ap (λ (x : Bool). cond x (held_pattern wanted (as_node (piece_in fs 0)) + H (as_node (piece_in fs 1))) 0) b in
        let z : H (node at k fs) ≡ held_all wanted fs = ap (λ (x : ℕ). H (node at x fs)) (eqb-true k 5 b) ∙ at_5 at fs in
        let t = two_all wanted fs in
        let m₀ = node_most wanted (piece_in fs 0) in
        let m₁ = node_most wanted (piece_in fs 1) in
        let p = pattern_most (as_node (piece_in fs 0)) in
        omega arith)
        (λ b. let e₁ : held_declarator wanted (node at k fs) ≡ 0 = e ∙ ap (λ (x : Bool). cond x (held_pattern wanted (as_node (piece_in fs 0)) + H (as_node (piece_in fs 1))) 0) b in
        omega arith)

    pub pattern_declared : (p : Node) (s : Node) → has_object_rest p ≡ true → held_pattern wanted p ≤ HI (pattern_declarators c p s)
    unfolding pattern_declarators shape object_declarators
    pattern_declared p s h = go (view p) h
      where
        below : (v : Node) → H v ≤ H (replaced_below c v) + HI (nested_below c v)
        below v = nested_kept (depth v) v

        go : {p : Node} → View p → has_object_rest p ≡ true → held_pattern wanted p ≤ HI (pattern_declarators c p s)
        go (object_view {at = at} {fs = fs}) h =
            let p = node at 34 fs in
            let q = with_values (λ v. replaced_below c v) p in
            let gs = gather (λ r. nested_below c (value r)) (properties p) in
            let m = pattern_most p in
            let r = object_kept (held_items_of wanted) held_adds (λ v. replaced_below c v) (λ v. nested_below c v) below at fs in
            let o = values_parts at fs (λ v. replaced_below c v) s in
            let a₁ = held_append wanted (keys_before c q) (pattern_declarator c q s +++ gs +++ rest_declarator c q s) in
            let a₂ = held_append wanted (pattern_declarator c q s) (gs +++ rest_declarator c q s) in
            let a₃ = held_append wanted gs (rest_declarator c q s) in
            omega arith
        go (array_view {at = at} {fs = fs}) h =
            let p = node at 36 fs in
            let m = pattern_most p in
            let b = below p in
            let d = declares_one (replaced_below c p) s in
            let a = held_append wanted (only (declares (replaced_below c p) s)) (nested_below c p) in
            omega arith
        go (default_view {at = at} {fs = fs}) h = default_zero at fs
        go (leaf_view {p = p} z y) h = differ (sym h ∙ has_leaf (depth p) p z)

    name_held : (e : Node) → is_name_of e ≡ true → H e ≡ 0
    unfolding is_name_of is held is_atom
    name_held (node at k fs) e =
        by_test (eqb k 18)
        (λ a. subst (λ (x : ℕ). H (node at x fs) ≡ 0) (sym (eqb-true k 18 a)) refl)
        (λ a. subst (λ (x : ℕ). H (node at x fs) ≡ 0) (sym (eqb-true k 20 (rw a at e))) refl)

    source_kept : (p init : Node) → H init ≤ HI (source_declarator c p init)
    unfolding source_declarator held
    source_kept p init =
        by_test (is_name_of init)
        (λ e. let z = name_held init e in rw e (omega arith))
        (λ e. let o = only_held wanted (declares (value_of c p) init) in let d = declares_held (value_of c p) init in rw e (omega arith))

    pub declarator_kept : (d : Node) → held_declarator wanted d ≤ HI (declarators c d)
    unfolding declarators is_lowered lower_declarator
    declarator_kept d =
        let e = declarator_held wanted d in
        by_test (stands 1 d && has_object_rest (node_at_of 0 d))
        (λ l. let p = node_at_of 0 d in
        let i = node_at_of 1 d in
        let a = held_append wanted (source_declarator c p i) (pattern_declarators c p (source c p i)) in
        let b = source_kept p i in
        let g = pattern_declared p (source c p i) (and_right (stands 1 d) (has_object_rest (node_at_of 0 d)) l) in
        let u = upper (is 5 d) (held_pattern wanted p + H i) in
        rw l (omega arith))
        (λ l. let u = declarator_most d in let o = only_held wanted d in rw l (omega arith))
      where
        upper : (b : Bool) (x : ℕ) → cond b x 0 ≤ x
        upper true x = omega arith
        upper false x = omega arith

    -- ---- a target that is an object with rest

    keys_same : (f : Node → Node) (qs : Items) → gather (key_temporary c) (each (λ q. change_node 1 f q) qs) ≡ gather (key_temporary c) qs
    unfolding gather each
    keys_same f none = refl
    keys_same f (hole qs) = keys_same f qs
    keys_same f (item q qs) = ap₂ (λ (x y : Items). x +++ y) (key_temporary_value c f q) (keys_same f qs)

    values_properties : (at : ℕ) (fs : Fields) (f : Node → Node) → properties (with_values f (node at 34 fs)) ≡ each (λ q. change_node 1 f q) (properties (node at 34 fs))
    unfolding change items_at_of piece_in change_in on_items each
    values_properties at done f = refl
    values_properties at (absent fs) f = refl
    values_properties at (field (one n) fs) f = refl
    values_properties at (field (list n) fs) f = refl
    values_properties at (field (text n) fs) f = refl
    values_properties at (field (byte n) fs) f = refl
    values_properties at (field (mark n) fs) f = refl
    values_properties at (field (number n) fs) f = refl

    values_taken : (at : ℕ) (fs : Fields) (f : Node → Node) → has_rest_of (node at 34 fs) ≡ true
        → held_parts wanted (each (λ q. change_node 1 f q) (properties (node at 34 fs))) ≤ H (taken c (with_values f (node at 34 fs))) + HI (key_temporaries c (node at 34 fs))
    unfolding change key_temporaries
    values_taken at fs f e =
        let p = node at 34 fs in
        let q = with_values f p in
        let t = taken_kept at (change_in fs 0 (on_items (each (λ q. change_node 1 f q)))) (values_rest f p ∙ e) in
        let a : held_parts wanted (properties q) ≡ held_parts wanted (each (λ q. change_node 1 f q) (properties p)) = ap (held_parts wanted) (values_properties at fs f) in
        let b : HI (gather (key_temporary c) (properties q)) ≡ HI (gather (key_temporary c) (properties p)) = ap (held_items_of wanted) (ap (gather (key_temporary c)) (values_properties at fs f) ∙ keys_same f (properties p)) in
        omega arith

    parts_default : (d : ℕ) (l : Node) → is 37 l ≡ false → is 37 (parts_replaced c d l) ≡ false
    unfolding parts_replaced shape is change
    parts_default zero l e = e
    parts_default (suc d) l e = go (view l) e
      where
        go : {l : Node} → View l → is 37 l ≡ false → is 37 (parts_replaced c (suc d) l) ≡ false
        go (object_view {at = at} {fs = fs}) e = by_test (has_rest_of (node at 34 fs)) (λ r. rw (r, parts_replaced) refl) (λ r. rw (r, parts_replaced) refl)
        go array_view e = refl
        go default_view e = differ e
        go (leaf_view z y) e = rw (z, parts_replaced) e

    parts_kept : (d : ℕ) (p : Node) → H p ≤ H (parts_replaced c d p) + HI (nearest false d p)
    unfolding parts_replaced nearest shape held
    parts_kept zero p = omega arith
    parts_kept (suc d) p = go (view p) (λ v. parts_kept d v)
      where
        go : {p : Node} → View p → ((v : Node) → H v ≤ H (parts_replaced c d v) + HI (nearest false d v)) → H p ≤ H (parts_replaced c (suc d) p) + HI (nearest false (suc d) p)
        go (object_view {at = at} {fs = fs}) k =
            let p = node at 34 fs in
            let r = object_kept (held_items_of wanted) held_adds (λ v. parts_replaced c d v) (λ v. nearest false d v) k at fs in
            by_test (has_rest_of p)
            (λ e. rw (e, parts_replaced, nearest) (let o = only_held wanted p in omega arith))
            (λ e. rw (e, parts_replaced, nearest) (omega arith))
        go (array_view {at = at} {fs = fs}) k = omega arith
        go (default_view {at = at} {fs = fs}) k = default_kept (held_items_of wanted) held_adds (λ v. parts_replaced c d v) (λ v. nearest false d v) k (parts_default d) at fs
        go (leaf_view {p = p} z y) k = rw (z, parts_replaced, nearest) (omega arith)

    -- what is left of it, its parts, its rest and the keys that are handed out
    pub top_kept : (d : ℕ) (at : ℕ) (fs : Fields) → has_rest_of (node at 34 fs) ≡ true → let p = node at 34 fs in
        H p ≤ H (taken c (with_values (λ v. parts_replaced c d v) p)) + (HI (gather (λ q. nearest false d (value q)) (properties p)) + (H (rest p) + HI (key_temporaries c p)))
    top_kept d at fs e =
        let p = node at 34 fs in
        let h = at_pattern at fs in
        let v = values_kept (held_items_of wanted) held_adds (λ v. parts_replaced c d v) (λ v. nearest false d v) (parts_kept d) (properties p) in
        let t = values_taken at fs (λ v. parts_replaced c d v) e in
        omega arith

    -- ---- what is moved out of a head

    -- `let pattern = temporary` for each
    unfoldable pub held_lets : Items → ℕ
    held_lets none = 0
    held_lets (hole ps) = held_lets ps
    held_lets (item p ps) = H (let_of (moved_pattern p) (reference c p)) + held_lets ps

    lets_append : (is js : Items) → held_lets (is +++ js) ≡ held_lets is + held_lets js
    unfolding held_lets ◌+++◌
    lets_append none js = omega arith
    lets_append (hole is) js = lets_append is js
    lets_append (item n is) js = let h = lets_append is js in omega arith

    pub lets_add : Adds held_lets
    unfolding held_lets
    lets_add = record { append = lets_append }

    let_held : (p : Node) (path : List ℕ) (stem at : ℕ) → held_pattern wanted p ≤ H (let_of p (temporary path stem at))
    unfolding held is_atom
    let_held p path stem at = omega arith

    object_pattern_lem : (at : ℕ) (fs : Fields) → held_pattern wanted (node at 34 fs) ≡ H (node at 34 fs)
    unfolding is
    object_pattern_lem at fs = refl

    rest_kept : (at : ℕ) (fs : Fields) (f : Node → Node) (g : Node → Items) → ((v : Node) → H v ≤ H (f v) + held_lets (g v))
        → H (with_items f (node at 36 fs)) ≤ H (with_rest f (with_items f (node at 36 fs))) + held_lets (g (rest (node at 36 fs)))
    unfolding change node_at_of
    rest_kept at fs f g k =
        let gs : Fields = change_in fs 0 (on_items (each f)) in
        let a = at_36 at gs in
        let b = at_36 at (change_in gs 1 (on_node f)) in
        let e : held_lets (g (as_node (piece_in gs 1))) ≡ held_lets (g (as_node (piece_in fs 1))) = ap (λ (p : Piece). held_lets (g (as_node p))) (other_changed fs 0 (on_items (each f)) 1 (λ z. omega arith)) in
        let r = change_less wanted gs 1 (on_node f) (held_lets (g (as_node (piece_in gs 1)))) (node_kept held_lets lets_add f g k (piece_in gs 1)) in
        omega arith

    left_gone : (at : ℕ) (fs : Fields) (t : Node) → H (node at 37 fs) ≤ H (with_left (λ l. t) (node at 37 fs)) + held_pattern wanted (left_of (node at 37 fs))
    unfolding change node_at_of
    left_gone at fs t =
        let gs : Fields = change_in fs 0 (on_node (λ l. t)) in
        let a = at_37 wanted at fs in
        let b = at_37 wanted at gs in
        let d : H (as_node (piece_in gs 1)) ≡ H (as_node (piece_in fs 1)) = ap (λ (p : Piece). H (as_node p)) (other_changed fs 0 (on_node (λ l. t)) 1 (λ z. omega arith)) in
        omega arith

    pub moved_kept : (d : ℕ) (p : Node) → H p ≤ H (moved_out_of c d p) + held_lets (moved d p)
    unfolding moved_out_of moved shape held_lets moved_pattern
    moved_kept zero p = omega arith
    moved_kept (suc d) p = go (view p) (λ v. moved_kept d v)
      where
        go : {p : Node} → View p → ((v : Node) → H v ≤ H (moved_out_of c d v) + held_lets (moved d v)) → H p ≤ H (moved_out_of c (suc d) p) + held_lets (moved (suc d) p)
        go (object_view {at = at} {fs = fs}) k =
            let p = node at 34 fs in
            let l = let_held p c.path 1 at in
            let z = object_pattern_lem at fs in
            omega arith
        go (array_view {at = at} {fs = fs}) k =
            let p = node at 36 fs in
            let a = array_kept held_lets lets_add (λ v. moved_out_of c d v) (λ v. moved d v) k at fs in
            let b = rest_kept at fs (λ v. moved_out_of c d v) (λ v. moved d v) k in
            let e = lets_append (gather (λ e. moved d e) (items_of p)) (moved d (rest p)) in
            omega arith
        go (default_view {at = at} {fs = fs}) k =
            let p = node at 37 fs in
            let l = let_held (left_of p) c.path 1 at in
            let z = left_gone at fs (reference c p) in
            omega arith
        go (leaf_view {p = p} z y) k = rw (z, moved_out_of, moved) (omega arith)
