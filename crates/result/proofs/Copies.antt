-- What the views of a pattern weigh together is at most what the pattern weighs: what stands in one of them is gone from the others.
-- Assumes nothing.
use mathlib.Core.Path.{◌≡◌, refl, sym, ap, ap₂, subst, ◌∙◌}
use mathlib.Core.Bool.{Bool, true, false, cond}
use mathlib.Core.List.{List}
use Prim.Native.Nat.{ℕ, zero, suc, ◌+◌, ◌≤◌}
use native.Mathlib.Omega.{arith}
use lib.Dec.{eqb}
use borrow.Author.Tests.{eqb-true}
use Rattle.tree.specs.Tree.{Node, Fields, Piece, Items, depth}
use Rattle.tree.specs.Tree.Node.{node}
use Rattle.tree.specs.Tree.Fields.{done, absent, field}
use Rattle.tree.specs.Tree.Piece.{one, list, text, byte, mark, number}
use Rattle.tree.specs.Tree.Items.{none, hole, item}
use Rattle.lowering.specs.Parts.{nothing, position, is, piece_in, stands_in, change_in, drop_in, as_node, as_items_of, node_at_of, items_at_of, stands, change, on_node, on_items, change_node, without, only, each, gather, ◌+++◌}
use Rattle.lowering.specs.Made.{Context, temporary, reference, key_of, value_of, excluded_of, declares, declared, string, array, object, sequence, X, E, W}
use Rattle.lowering.specs.Patterns.{shape, properties, items_of, rest, has_rest_of, left_of, value, key, with_left, with_items, with_rest, with_values, replaced, objects_with_rest, replaced_below, objects_below}
use Rattle.lowering.specs.Patterns.Shape.{leaf}
use Rattle.lowering.specs.Keys.{Key, key_sort, key_text, excluded_key, excluded_keys, kept_key, key_temporary, key_temporaries, all_primitive, taken}
use Rattle.lowering.specs.Rests.{has_no_properties, mapped, is_hoisted, keys_read, rest_value, excluded_for}
use Rattle.lowering.specs.Declarations.{is_name_of, source, source_declarator, keys_before, pattern_declarator, rest_declarator, own, nested, nested_below, object_declarators, pattern_declarators, lower_declarator, is_lowered, declarators, lowered_in}
use Rattle.lowering.specs.Assignments.{nearest, parts_replaced}
use Rattle.lowering.specs.Heads.{moved, moved_pattern, is_moved, moved_from, moved_out_of, left_behind}
use Rattle.lowering.proofs.All.{other_changed}
use Rattle.lowering.proofs.ChangeLaws.{stands_changed, stands_dropped, each_on, items_changed_in}
use Rattle.lowering.proofs.Clauses.{taken_none}
use Rattle.lowering.proofs.Cases.{by_test, by_key}
use Rattle.lowering.proofs.Levels.{below_object}
use Rattle.lowering.proofs.SoundKeys.{key_kept as key_value}
use Rattle.result.proofs.Weighed.{is_copied, total, total_append, total_plus, total_most, total_gather, weigh, weigh_all, weigh_piece, weigh_items, keys_items, key_node, source_node, nothing_weighs, temporary_weighs, keys_by, again, source_by, of_key, key_by_lem, all_most, node_most, two_most, items_append, only_weighs, items_gather, change_less, change_node_less_lem}

-- ---- patterns by kind

pub data View : Node → Type 0 where
  object_view : {at : ℕ} {fs : Fields} → View (node at 34 fs)
  array_view : {at : ℕ} {fs : Fields} → View (node at 36 fs)
  default_view : {at : ℕ} {fs : Fields} → View (node at 37 fs)
  leaf_view : {p : Node} → shape p ≡ leaf → View p

pub view : (p : Node) → View p
unfolding shape
view (node at k fs) =
    by_test (eqb k 34)
    (λ a. subst (λ (x : ℕ). View (node at x fs)) (sym (eqb-true k 34 a)) object_view)
    (λ a. by_test (eqb k 36)
    (λ b. subst (λ (x : ℕ). View (node at x fs)) (sym (eqb-true k 36 b)) array_view)
    (λ b. by_test (eqb k 37)
    (λ d. subst (λ (x : ℕ). View (node at x fs)) (sym (eqb-true k 37 d)) default_view)
    (λ d. leaf_view (rw (a, b, d) refl))))

-- What is measured of declarators that are handed out: of an entry, of excluded keys, and of each of these
pub record Measure (out : ℕ → ℕ) (kin : Node → ℕ) : Type 0 where
  pub new : out 0 ≡ 0
  pub none_kin : kin nothing ≡ 0
  pub entry : Node → ℕ
  pub excluded : Node → ℕ
  pub excluded_item : Node → ℕ
  pub entry_bare : (path : List ℕ) (stem at : ℕ) → entry (declared (temporary path stem at)) ≡ 0
  pub entry_key : (path : List ℕ) (stem at : ℕ) (k : Node) → key_sort k ≡ Key.other → entry (declares (temporary path stem at) k) ≤ weigh out kin k + kin k
  pub excluded_array : (path : List ℕ) (stem at : ℕ) (ks : Items) → excluded (declares (temporary path stem at) (array ks)) ≤ total excluded_item ks
  pub item_string : (s : List ℕ) → excluded_item (string s) ≡ 0
  pub item_temporary : (path : List ℕ) (stem at : ℕ) → excluded_item (temporary path stem at) ≡ 0
  pub item_key : (k : Node) → excluded_item k ≤ weigh out kin k + kin k

module _ {out : ℕ → ℕ} {kin : Node → ℕ} (measure : Measure out kin) where
  abbrev load : Node → ℕ
  load n = weigh out kin n

  abbrev loads : Items → ℕ
  loads is = weigh_items out kin is

  -- what is handed out for a pattern's excluded keys
  abbrev pub XI : Items → ℕ
  XI is = total measure.excluded is

  abbrev pub EI : Items → ℕ
  EI is = total measure.entry is

  pub declares_weighs : (a b : Node) → load (declares a b) ≡ load a + load b
  unfolding weigh
  declares_weighs a b = omega arith

  -- ---- a function of each value, item or node, that leaves some of it to a measure

  module _ (f : Node → Node) (g : Node → ℕ) (keeps : (v : Node) → load (f v) + g v ≤ load v) where
    nothing_left : g nothing ≡ 0
    nothing_left = let k = keeps nothing in let z = nothing_weighs out kin in omega arith

    pub node_kept : (p : Piece) → weigh_piece out kin (on_node f p) + g (as_node p) ≤ weigh_piece out kin p
    unfolding weigh on_node
    node_kept (one n) = keeps n
    node_kept (list n) = let z = nothing_left in omega arith
    node_kept (text n) = let z = nothing_left in omega arith
    node_kept (byte n) = let z = nothing_left in omega arith
    node_kept (mark n) = let z = nothing_left in omega arith
    node_kept (number n) = let z = nothing_left in omega arith

    pub each_kept : (is : Items) → loads (each f is) + total g is ≤ loads is
    unfolding weigh each total
    each_kept none = omega arith
    each_kept (hole is) = each_kept is
    each_kept (item n is) = let r = each_kept is in let k = keeps n in omega arith

    pub list_kept : (p : Piece) → weigh_piece out kin (on_items (each f) p) + total g (as_items_of p) ≤ weigh_piece out kin p
    unfolding weigh on_items total
    list_kept (one n) = omega arith
    list_kept (list is) = each_kept is
    list_kept (text n) = omega arith
    list_kept (byte n) = omega arith
    list_kept (mark n) = omega arith
    list_kept (number n) = omega arith

    -- field i of a node
    pub at_kept : (i : ℕ) (q : Node) → load (change_node i f q) + g (node_at_of i q) ≤ load q
    unfolding change node_at_of
    at_kept i (node at k fs) = change_node_less_lem out kin at k fs i f (g (as_node (piece_in fs i))) (node_kept (piece_in fs i))

    values_kept : (qs : Items) → loads (each (λ q. change_node 1 f q) qs) + total (λ q. g (value q)) qs ≤ loads qs
    unfolding weigh each total
    values_kept none = omega arith
    values_kept (hole qs) = values_kept qs
    values_kept (item q qs) = let r = values_kept qs in let k = at_kept 1 q in omega arith

    value_piece : (p : Piece) → weigh_piece out kin (on_items (each (λ q. change_node 1 f q)) p) + total (λ q. g (value q)) (as_items_of p) ≤ weigh_piece out kin p
    unfolding weigh on_items total
    value_piece (one n) = omega arith
    value_piece (list is) = values_kept is
    value_piece (text n) = omega arith
    value_piece (byte n) = omega arith
    value_piece (mark n) = omega arith
    value_piece (number n) = omega arith

  keys_same : (r : Bool) (f : Node → Node) (qs : Items) → keys_items out kin r (each (λ q. change_node 1 f q) qs) ≡ keys_items out kin r qs
  unfolding weigh each
  keys_same r f none = refl
  keys_same r f (hole qs) = keys_same r f qs
  keys_same r f (item q qs) =
      let h = keys_same r f qs in
      let a : key_node out kin r (change_node 1 f q) ≡ key_node out kin r q = key_by_lem out kin measure.none_kin r (change_node 1 f q) ∙ ap (of_key out kin r) (key_value f q) ∙ sym (key_by_lem out kin measure.none_kin r q) in
      omega arith

  at_34 : (at : ℕ) (fs : Fields) → load (node at 34 fs) ≡ weigh_all out kin fs + keys_items out kin (stands_in fs 1) (as_items_of (piece_in fs 0))
  unfolding weigh
  at_34 at fs = let e = keys_by out kin (stands_in fs 1) fs in omega arith

  at_36 : (at : ℕ) (fs : Fields) → load (node at 36 fs) ≡ weigh_all out kin fs
  unfolding weigh
  at_36 at fs = omega arith

  module _ (f : Node → Node) (g : Node → ℕ) (keeps : (v : Node) → load (f v) + g v ≤ load v) where
    -- an object pattern with its values changed, an array pattern with its items
    pub object_kept : (at : ℕ) (fs : Fields) → load (with_values f (node at 34 fs)) + total (λ q. g (value q)) (properties (node at 34 fs)) ≤ load (node at 34 fs)
    unfolding change items_at_of
    object_kept at fs =
        let h : Node → Node = λ q. change_node 1 f q in
        let gs : Fields = change_in fs 0 (on_items (each h)) in
        let a = at_34 at fs in
        let b = at_34 at gs in
        let d = change_less out kin fs 0 (on_items (each h)) (total (λ q. g (value q)) (as_items_of (piece_in fs 0))) (value_piece f g keeps (piece_in fs 0)) in
        let e : keys_items out kin (stands_in gs 1) (as_items_of (piece_in gs 0)) ≡ keys_items out kin (stands_in fs 1) (as_items_of (piece_in fs 0)) =
        ap₂ (keys_items out kin) (stands_changed fs 0 (on_items (each h)) 1) (items_changed_in h fs 0) ∙ keys_same (stands_in fs 1) f (as_items_of (piece_in fs 0)) in
        omega arith

    pub array_kept : (at : ℕ) (fs : Fields) → load (with_items f (node at 36 fs)) + total g (items_of (node at 36 fs)) ≤ load (node at 36 fs)
    unfolding change items_at_of
    array_kept at fs =
        let a = at_36 at fs in
        let b = at_36 at (change_in fs 0 (on_items (each f))) in
        let r = change_less out kin fs 0 (on_items (each f)) (total g (as_items_of (piece_in fs 0))) (list_kept f g keeps (piece_in fs 0)) in
        omega arith

  -- ---- keys: what is handed out of them, and what stands among the excluded ones

  module _ (c : Context) where
    -- a key that goes out to a temporary; a key that is copied
    unfoldable pub out_key : Node → ℕ
    out_key q = elim (key_sort (key q)) [ Key.name ↦ 0 | Key.literal ↦ 0 | Key.template ↦ 0 | Key.private ↦ 0 | Key.again ↦ 0 | Key.other ↦ load (key q) + kin (key q) ]

    unfoldable pub copy : Node → ℕ
    copy q = cond (is_copied (key q)) (load (key q) + kin (key q)) 0

    key_piece_lem : (t : Node) (p : Piece) → load t ≡ 0 → weigh_piece out kin (on_node (λ k. t) p) + load (as_node p) ≤ weigh_piece out kin p
    unfolding weigh on_node
    key_piece_lem t (one n) e = omega arith
    key_piece_lem t (list n) e = omega arith
    key_piece_lem t (text n) e = omega arith
    key_piece_lem t (byte n) e = omega arith
    key_piece_lem t (mark n) e = omega arith
    key_piece_lem t (number n) e = omega arith

    other_key : (t : Node) (q : Node) → load t ≡ 0 → load (change_node 0 (λ k. t) q) + load (key q) ≤ load q
    unfolding change node_at_of
    other_key t (node at k fs) z = change_node_less_lem out kin at k fs 0 (λ k. t) (load (as_node (piece_in fs 0))) (key_piece_lem t (piece_in fs 0) z)

    -- what is left of a property, its key's temporary and its copy
    key_kept : (q : Node) → load (kept_key c q) + key_node out kin false (kept_key c q) + (out_key q + copy q) ≤ load q + key_node out kin true q
    unfolding kept_key out_key copy
    key_kept q =
        let a = key_by_lem out kin measure.none_kin true q in
        by_key (key_sort (key q))
        (λ e. rw (e, kept_key, out_key) (let d = key_by_lem out kin measure.none_kin false q in omega arith))
        (λ e. rw (e, kept_key, out_key) (let d = key_by_lem out kin measure.none_kin false q in omega arith))
        (λ e. rw (e, kept_key, out_key) (let d = key_by_lem out kin measure.none_kin false q in omega arith))
        (λ e. rw (e, kept_key, out_key) (let d = key_by_lem out kin measure.none_kin false q in omega arith))
        (λ e. rw (e, kept_key, out_key) (let d = key_by_lem out kin measure.none_kin false q in omega arith))
        (λ e. rw (e, kept_key, out_key)
        (let t = key_of c q in
        let d = key_by_lem out kin measure.none_kin false (change_node 0 (λ k. t) q) in
        let h = other_key t q (temporary_weighs out kin _ _ _) in
        omega arith))

    keys_kept : (qs : Items) → loads (each (kept_key c) qs) + keys_items out kin false (each (kept_key c) qs) + (total out_key qs + total copy qs) ≤ loads qs + keys_items out kin true qs
    unfolding weigh each total
    keys_kept none = omega arith
    keys_kept (hole qs) = keys_kept qs
    keys_kept (item q qs) = let r = keys_kept qs in let k = key_kept q in omega arith

    keys_piece_lem : (p : Piece) → let qs = as_items_of p in
        weigh_piece out kin (on_items (each (kept_key c)) p) + keys_items out kin false (each (kept_key c) qs) + (total out_key qs + total copy qs) ≤ weigh_piece out kin p + keys_items out kin true qs
    unfolding weigh on_items each total
    keys_piece_lem (one n) = omega arith
    keys_piece_lem (list is) = keys_kept is
    keys_piece_lem (text n) = omega arith
    keys_piece_lem (byte n) = omega arith
    keys_piece_lem (mark n) = omega arith
    keys_piece_lem (number n) = omega arith

    -- ---- an object pattern whose rest is taken

    taken_all : (h : Items → Items) (x y : ℕ) (fs : Fields) → weigh_piece out kin (on_items h (piece_in fs 0)) + x ≤ weigh_piece out kin (piece_in fs 0) + y
        → weigh_all out kin (drop_in (change_in fs 0 (on_items h)) 1) + (load (as_node (piece_in fs 1)) + x) ≤ weigh_all out kin fs + y
    unfolding weigh piece_in change_in drop_in on_items
    taken_all h x y done e = omega arith
    taken_all h x y (absent done) e = omega arith
    taken_all h x y (absent (absent fs)) e = omega arith
    taken_all h x y (absent (field p fs)) e = let m = node_most out kin p in omega arith
    taken_all h x y (field q done) e = omega arith
    taken_all h x y (field q (absent fs)) e = omega arith
    taken_all h x y (field q (field p fs)) e = let m = node_most out kin p in omega arith

    items_kept : (h : Node → Node) (fs : Fields) → as_items_of (piece_in (drop_in (change_in fs 0 (on_items (each h))) 1) 0) ≡ each h (as_items_of (piece_in fs 0))
    unfolding piece_in change_in drop_in each
    items_kept h done = refl
    items_kept h (absent fs) = refl
    items_kept h (field p fs) = each_on h p

    pub taken_kept : (at : ℕ) (fs : Fields) → has_rest_of (node at 34 fs) ≡ true → let p = node at 34 fs in
        load (taken c p) + (load (rest p) + (total out_key (properties p) + total copy (properties p))) ≤ load p
    unfolding taken without change items_at_of node_at_of stands
    taken_kept at fs e =
        let qs : Items = as_items_of (piece_in fs 0) in
        let gs : Fields = drop_in (change_in fs 0 (on_items (each (kept_key c)))) 1 in
        let a = at_34 at gs in
        let b : keys_items out kin (stands_in gs 1) (as_items_of (piece_in gs 0)) ≡ keys_items out kin false (each (kept_key c) qs) =
        ap₂ (keys_items out kin) (stands_dropped (change_in fs 0 (on_items (each (kept_key c)))) 1) (items_kept (kept_key c) fs) in
        let d = at_34 at fs in
        let f : keys_items out kin (stands_in fs 1) qs ≡ keys_items out kin true qs = ap (λ (r : Bool). keys_items out kin r qs) e in
        let k = keys_piece_lem (piece_in fs 0) in
        let g = taken_all (each (kept_key c)) (keys_items out kin false (each (kept_key c) qs) + (total out_key qs + total copy qs)) (keys_items out kin true qs) fs (omega arith) in
        rw e (omega arith)

    -- ---- the keys' temporaries, and the excluded keys

    temporary_out : (q : Node) → (loads (key_temporary c q) ≤ out_key q) × (EI (key_temporary c q) ≤ out_key q)
    unfolding key_temporary out_key weigh total
    temporary_out q =
        by_key (key_sort (key q))
        (λ e. rw (e, key_temporary, out_key) (omega arith, omega arith))
        (λ e. rw (e, key_temporary, out_key) (omega arith, omega arith))
        (λ e. rw (e, key_temporary, out_key) (omega arith, omega arith))
        (λ e. rw (e, key_temporary, out_key) (omega arith, omega arith))
        (λ e. rw (e, key_temporary, out_key) (omega arith, omega arith))
        (λ e. rw (e, key_temporary, out_key) (let h = measure.entry_key c.path 4 (position q) (key q) e in (omega arith, omega arith)))

    pub temporaries_tree : (p : Node) → loads (key_temporaries c p) ≤ total out_key (properties p)
    unfolding key_temporaries
    temporaries_tree p =
        let a = items_gather out kin (key_temporary c) (properties p) in
        let b = total_most (λ q. loads (key_temporary c q)) out_key (λ q. (temporary_out q).0) (properties p) in
        omega arith

    pub temporaries_out : (p : Node) → EI (key_temporaries c p) ≤ total out_key (properties p)
    unfolding key_temporaries
    temporaries_out p =
        let a = total_gather measure.entry (key_temporary c) (properties p) in
        let b = total_most (λ q. EI (key_temporary c q)) out_key (λ q. (temporary_out q).1) (properties p) in
        omega arith

    string_weighs : (s : List ℕ) → load (string s) ≡ 0
    unfolding weigh
    string_weighs s = refl

    excluded_key_lem : (q : Node) → (loads (excluded_key c q) ≤ copy q) × (total measure.excluded_item (excluded_key c q) ≤ copy q)
    unfolding excluded_key copy weigh total is_copied
    excluded_key_lem q =
        by_key (key_sort (key q))
        (λ e. rw (e, excluded_key) (let s = string_weighs (key_text (key q)) in let t = measure.item_string (key_text (key q)) in (omega arith, omega arith)))
        (λ e. rw (e, excluded_key) (let s = string_weighs (key_text (key q)) in let t = measure.item_string (key_text (key q)) in (omega arith, omega arith)))
        (λ e. rw (e, excluded_key, is_copied) (let t = measure.item_key (key q) in (omega arith, omega arith)))
        (λ e. rw (e, excluded_key) (omega arith, omega arith))
        (λ e. rw (e, excluded_key, is_copied) (let t = measure.item_key (key q) in (omega arith, omega arith)))
        (λ e. rw (e, excluded_key) (let t = measure.item_temporary c.path 4 (position q) in (omega arith, omega arith)))

    excluded_keys_lem : (p : Node) → (loads (excluded_keys c p) ≤ total copy (properties p)) × (total measure.excluded_item (excluded_keys c p) ≤ total copy (properties p))
    unfolding excluded_keys
    excluded_keys_lem p =
        let a = items_gather out kin (excluded_key c) (properties p) in
        let b = total_most (λ q. loads (excluded_key c q)) copy (λ q. (excluded_key_lem q).0) (properties p) in
        let d = total_gather measure.excluded_item (excluded_key c) (properties p) in
        let e = total_most (λ q. total measure.excluded_item (excluded_key c q)) copy (λ q. (excluded_key_lem q).1) (properties p) in
        (omega arith, omega arith)

    array_weighs : (ks : Items) → load (array ks) ≡ loads ks
    unfolding weigh
    array_weighs ks = omega arith

    mapped_weighs : (n : Node) → load (mapped n) ≡ load n
    unfolding mapped weigh
    mapped_weighs n = omega arith

    without_weighs : (a b : Node) → load (W a b) ≡ load a + load b
    unfolding weigh
    without_weighs a b = omega arith

    extended_weighs : (s : Node) → load (X (object none) (sequence (item (E s) (only s)))) ≡ load s + load s
    unfolding weigh
    extended_weighs s = omega arith

    handed_out : (p : Node) → XI (only (declares (excluded_of c p) (array (excluded_keys c p)))) ≤ total measure.excluded_item (excluded_keys c p)
    unfolding total
    handed_out p = let h = measure.excluded_array c.path 2 (position p) (excluded_keys c p) in omega arith

    -- the value of the rest, and what is handed out for it
    pub rest_kept : (p s : Node) → load (rest_value c p s) + XI (excluded_for c p) ≤ total copy (properties p) + (load s + load s)
    unfolding rest_value excluded_for keys_read total
    rest_kept p s =
        let k = excluded_keys_lem p in
        let k₀ = k.0 in
        let k₁ = k.1 in
        let h = handed_out p in
        let x = extended_weighs s in
        by_test (has_no_properties p)
        (λ e. by_test (is_hoisted c p)
        (λ i. rw (e, i) (omega arith))
        (λ i. rw (e, i) (omega arith)))
        (λ e. by_test (is_hoisted c p)
        (λ i. rw (e, i) (let w = without_weighs s (excluded_of c p) in let t = temporary_weighs out kin c.path 2 (position p) in omega arith))
        (λ i. by_test (all_primitive p)
        (λ a. rw (e, i, a) (let w = without_weighs s (array (excluded_keys c p)) in let t = array_weighs (excluded_keys c p) in omega arith))
        (λ a. rw (e, i, a) (let w = without_weighs s (mapped (array (excluded_keys c p))) in let t = array_weighs (excluded_keys c p) in let m = mapped_weighs (array (excluded_keys c p)) in omega arith))))

    -- ---- keys, pattern, rest

    own_parts : (at : ℕ) (fs : Fields) (s : Node) → let p = node at 34 fs in
        loads (keys_before c p) + (loads (pattern_declarator c p s) + loads (rest_declarator c p s)) + cond (has_rest_of p) (XI (excluded_for c p)) 0 ≤ load p + (load s + (load s + load s))
    unfolding keys_before pattern_declarator rest_declarator weigh
    own_parts at fs s =
        let p = node at 34 fs in
        let d = declares_weighs (taken c p) s in
        let o : loads (cond (has_no_properties p) none (only (declares (taken c p) s))) ≤ load (taken c p) + load s = dropped (has_no_properties p) (declares (taken c p) s) (load (taken c p) + load s) (omega arith) in
        by_test (has_rest_of p)
        (λ r. let t = taken_kept at fs r in
        let k = temporaries_tree p in
        let x = rest_kept p s in
        let e = declares_weighs (rest p) (rest_value c p s) in
        rw r (omega arith))
        (λ r. let q : load (taken c p) ≡ load p = ap load (taken_none c p r) in
        rw r (omega arith))
      where
        dropped : (b : Bool) (x : Node) (n : ℕ) → load x ≤ n → loads (cond b none (only x)) ≤ n
        dropped true x n h = omega arith
        dropped false x n h = omega arith

    own_kept : (at : ℕ) (fs : Fields) (s : Node) → let p = node at 34 fs in
        loads (own c p s) + cond (has_rest_of p) (XI (excluded_for c p)) 0 ≤ load p + (load s + (load s + load s))
    unfolding own
    own_kept at fs s =
        let p = node at 34 fs in
        let a = items_append out kin (keys_before c p) (pattern_declarator c p s +++ rest_declarator c p s) in
        let b = items_append out kin (pattern_declarator c p s) (rest_declarator c p s) in
        let r = own_parts at fs s in
        omega arith

    values_rest : (at : ℕ) (fs : Fields) (f : Node → Node) → has_rest_of (with_values f (node at 34 fs)) ≡ has_rest_of (node at 34 fs)
    unfolding change stands
    values_rest at fs f = stands_changed fs 0 (on_items (each (λ q. change_node 1 f q))) 1

    values_own : (at : ℕ) (fs : Fields) (f : Node → Node) (s : Node) → let q = with_values f (node at 34 fs) in
        has_rest_of (node at 34 fs) ≡ true → loads (own c q s) + XI (excluded_for c q) ≤ load q + (load s + (load s + load s))
    unfolding change
    values_own at fs f s e =
        let gs : Fields = change_in fs 0 (on_items (each (λ q. change_node 1 f q))) in
        let h = own_kept at gs s in
        let r : has_rest_of (node at 34 gs) ≡ true = values_rest at fs f ∙ e in
        let x : cond (has_rest_of (node at 34 gs)) (XI (excluded_for c (node at 34 gs))) 0 ≡ XI (excluded_for c (node at 34 gs)) = rw r refl in
        omega arith

    -- ---- what is found below a pattern, and what is handed out for it

    abbrev handed_below : ℕ → Node → ℕ
    handed_below d p = loads (nested c d p) + XI (gather (excluded_for c) (objects_with_rest c d p))

    excluded_append : (is js : Items) → XI (gather (excluded_for c) (is +++ js)) ≡ XI (gather (excluded_for c) is) + XI (gather (excluded_for c) js)
    unfolding gather ◌+++◌ total
    excluded_append none js = omega arith
    excluded_append (hole is) js = excluded_append is js
    excluded_append (item n is) js =
        let r = excluded_append is js in
        let a = total_append measure.excluded (excluded_for c n) (gather (excluded_for c) (is +++ js)) in
        let b = total_append measure.excluded (excluded_for c n) (gather (excluded_for c) is) in
        omega arith

    gathered : (d : ℕ) (h : Node → Node) (is : Items)
        → total (λ n. handed_below d (h n)) is ≡ loads (gather (λ n. nested c d (h n)) is) + XI (gather (excluded_for c) (gather (λ n. objects_with_rest c d (h n)) is))
    unfolding total gather weigh
    gathered d h none = refl
    gathered d h (hole is) = gathered d h is
    gathered d h (item n is) =
        let r = gathered d h is in
        let a = items_append out kin (nested c d (h n)) (gather (λ n. nested c d (h n)) is) in
        let b = excluded_append (objects_with_rest c d (h n)) (gather (λ n. objects_with_rest c d (h n)) is) in
        omega arith

    excluded_only : (p : Node) → XI (gather (excluded_for c) (only p)) ≡ XI (excluded_for c p)
    unfolding gather total
    excluded_only p = let a = total_append measure.excluded (excluded_for c p) none in omega arith

    excluded_none : XI (gather (excluded_for c) none) ≡ 0
    unfolding gather total
    excluded_none = refl

    pub nested_kept : (d : ℕ) (p : Node) → load (replaced c d p) + handed_below d p ≤ load p
    unfolding replaced nested objects_with_rest shape weigh
    nested_kept zero p = let z = excluded_none in omega arith
    nested_kept (suc d) p = go (view p) (λ v. nested_kept d v)
      where
        go : {p : Node} → View p → ((v : Node) → load (replaced c d v) + handed_below d v ≤ load v) → load (replaced c (suc d) p) + handed_below (suc d) p ≤ load p
        go (object_view {at = at} {fs = fs}) k =
            let p = node at 34 fs in
            let o = with_values (λ v. replaced c d v) p in
            let qs = properties p in
            let ns = gather (λ q. nested c d (value q)) qs in
            let os = gather (λ q. objects_with_rest c d (value q)) qs in
            let r = object_kept (λ v. replaced c d v) (handed_below d) k at fs in
            let g = gathered d value qs in
            by_test (has_rest_of p)
            (λ e. rw (e, replaced, nested, objects_with_rest)
            (let a = items_append out kin (own c o (reference c p)) ns in
            let w = values_own at fs (λ v. replaced c d v) (reference c p) e in
            let t = temporary_weighs out kin c.path 1 at in
            let x = excluded_append os (only o) in
            let y = excluded_only o in
            omega arith))
            (λ e. rw (e, replaced, nested, objects_with_rest)
            (let a = items_append out kin none ns in
            let x = excluded_append os none in
            let y = excluded_none in
            omega arith))
        go (array_view {at = at} {fs = fs}) k =
            let r = array_kept (λ v. replaced c d v) (handed_below d) k at fs in
            let g = gathered d (λ e. e) (items_of (node at 36 fs)) in
            omega arith
        go (default_view {at = at} {fs = fs}) k = at_kept (λ v. replaced c d v) (handed_below d) k 0 (node at 37 fs)
        go (leaf_view {p = p} z) k = rw (z, replaced, nested, objects_with_rest) (let y = excluded_none in omega arith)

    gathered_excluded : (g : Node → Items) (is : Items) → XI (gather (excluded_for c) (gather g is)) ≡ total (λ n. XI (gather (excluded_for c) (g n))) is
    unfolding gather total
    gathered_excluded g none = refl
    gathered_excluded g (hole is) = gathered_excluded g is
    gathered_excluded g (item n is) = let r = gathered_excluded g is in let a = excluded_append (g n) (gather g is) in omega arith

    rested : (b : Bool) (q : Node) → XI (gather (excluded_for c) (cond b (only q) none)) ≡ cond b (XI (excluded_for c q)) 0
    rested true q = excluded_only q
    rested false q = excluded_none

    values_parts : (at : ℕ) (fs : Fields) (f : Node → Node) (s : Node) → let q = with_values f (node at 34 fs) in
        loads (keys_before c q) + (loads (pattern_declarator c q s) + loads (rest_declarator c q s)) + cond (has_rest_of (node at 34 fs)) (XI (excluded_for c q)) 0 ≤ load q + (load s + (load s + load s))
    unfolding change
    values_parts at fs f s =
        let gs : Fields = change_in fs 0 (on_items (each (λ q. change_node 1 f q))) in
        let x : cond (has_rest_of (node at 34 gs)) (XI (excluded_for c (node at 34 gs))) 0 ≡ cond (has_rest_of (node at 34 fs)) (XI (excluded_for c (node at 34 gs))) 0 = ap (λ (b : Bool). cond b (XI (excluded_for c (node at 34 gs))) 0) (values_rest at fs f) in
        let h = own_parts at gs s in
        omega arith

    -- ---- a declarator

    pub pattern_kept : (p s : Node) → loads (pattern_declarators c p s) + XI (gather (excluded_for c) (objects_below c p)) ≤ load p + (load s + (load s + load s))
    unfolding pattern_declarators shape object_declarators weigh
    pattern_kept p s = go (view p)
      where
        below : (v : Node) → load (replaced_below c v) + (loads (nested_below c v) + XI (gather (excluded_for c) (objects_below c v))) ≤ load v
        below v = nested_kept (depth v) v

        go : {p : Node} → View p → loads (pattern_declarators c p s) + XI (gather (excluded_for c) (objects_below c p)) ≤ load p + (load s + (load s + load s))
        go (object_view {at = at} {fs = fs}) =
            let p = node at 34 fs in
            let f : Node → Node = λ v. replaced_below c v in
            let q = with_values f p in
            let qs = properties p in
            let ns = gather (λ r. nested_below c (value r)) qs in
            let os = gather (λ r. objects_below c (value r)) qs in
            let r = object_kept f (λ v. loads (nested_below c v) + XI (gather (excluded_for c) (objects_below c v))) below at fs in
            let t = total_plus (λ r. loads (nested_below c (value r))) (λ r. XI (gather (excluded_for c) (objects_below c (value r)))) qs in
            let n = items_gather out kin (λ r. nested_below c (value r)) qs in
            let m = gathered_excluded (λ r. objects_below c (value r)) qs in
            let o = values_parts at fs f s in
            let a₁ = items_append out kin (keys_before c q) (pattern_declarator c q s +++ ns +++ rest_declarator c q s) in
            let a₂ = items_append out kin (pattern_declarator c q s) (ns +++ rest_declarator c q s) in
            let a₃ = items_append out kin ns (rest_declarator c q s) in
            let b : XI (gather (excluded_for c) (objects_below c p)) ≡ XI (gather (excluded_for c) (os +++ cond (has_rest_of p) (only q) none)) = ap (λ (is : Items). XI (gather (excluded_for c) is)) (below_object c p refl) in
            let e = excluded_append os (cond (has_rest_of p) (only q) none) in
            let d = rested (has_rest_of p) q in
            omega arith
        go (array_view {at = at} {fs = fs}) =
            let p = node at 36 fs in
            let b = below p in
            let d = declares_weighs (replaced_below c p) s in
            let a = items_append out kin (only (declares (replaced_below c p) s)) (nested_below c p) in
            omega arith
        go (default_view {at = at} {fs = fs}) = let b = below (node at 37 fs) in omega arith
        go (leaf_view {p = p} z) = rw (z, pattern_declarators) (let b = below p in omega arith)

    sides_most : (d : Node) → load (node_at_of 0 d) + load (node_at_of 1 d) ≤ load d
    unfolding node_at_of
    sides_most (node at k fs) =
        let a = two_most out kin fs in
        let b = node_most out kin (piece_in fs 0) in
        let e = node_most out kin (piece_in fs 1) in
        let f = all_most out kin at k fs in
        omega arith

    lowered_kept : (p init : Node) → loads (lower_declarator c p init) + XI (gather (excluded_for c) (objects_below c p)) ≤ load p + (load init + again out kin init)
    unfolding lower_declarator source_declarator source weigh
    lowered_kept p init =
        by_test (is_name_of init)
        (λ e. let a = items_append out kin none (pattern_declarators c p init) in let k = pattern_kept p init in rw e (omega arith))
        (λ e. let t = value_of c p in
        let a = items_append out kin (only (declares t init)) (pattern_declarators c p t) in
        let k = pattern_kept p t in
        let z = temporary_weighs out kin c.path 3 (position p) in
        let d = declares_weighs t init in
        rw e (omega arith))

    pub declarator_kept : (d : Node) → loads (declarators c d) + XI (gather (excluded_for c) (lowered_in c d)) ≤ load d + source_node out kin d
    unfolding declarators lowered_in
    declarator_kept d =
        let e = source_by out kin d in
        by_test (is_lowered d)
        (λ l. let k = lowered_kept (node_at_of 0 d) (node_at_of 1 d) in let s = sides_most d in rw l (omega arith))
        (λ l. let o = only_weighs out kin d in let z = excluded_none in rw l (omega arith))

    -- ---- a target

    pub nearest_kept : (d : ℕ) (p : Node) → load (replaced c d p) + loads (nearest true d p) ≤ load p
    unfolding replaced nearest shape weigh
    nearest_kept zero p = omega arith
    nearest_kept (suc d) p = go (view p) (λ v. nearest_kept d v)
      where
        go : {p : Node} → View p → ((v : Node) → load (replaced c d v) + loads (nearest true d v) ≤ load v) → load (replaced c (suc d) p) + loads (nearest true (suc d) p) ≤ load p
        go (object_view {at = at} {fs = fs}) k =
            let p = node at 34 fs in
            let r = object_kept (λ v. replaced c d v) (λ v. loads (nearest true d v)) k at fs in
            let g = items_gather out kin (λ q. nearest true d (value q)) (properties p) in
            let t = temporary_weighs out kin c.path 1 at in
            by_test (has_rest_of p)
            (λ e. rw (e, replaced, nearest) (let o = only_weighs out kin p in omega arith))
            (λ e. rw (e, replaced, nearest) (omega arith))
        go (array_view {at = at} {fs = fs}) k =
            let r = array_kept (λ v. replaced c d v) (λ v. loads (nearest true d v)) k at fs in
            let g = items_gather out kin (λ e. nearest true d e) (items_of (node at 36 fs)) in
            omega arith
        go (default_view {at = at} {fs = fs}) k = at_kept (λ v. replaced c d v) (λ v. loads (nearest true d v)) k 0 (node at 37 fs)
        go (leaf_view {p = p} z) k = rw (z, replaced, nearest) (omega arith)

    parts_kept : (d : ℕ) (p : Node) → load (parts_replaced c d p) + loads (nearest false d p) ≤ load p
    unfolding parts_replaced nearest shape weigh
    parts_kept zero p = omega arith
    parts_kept (suc d) p = go (view p) (λ v. parts_kept d v)
      where
        go : {p : Node} → View p → ((v : Node) → load (parts_replaced c d v) + loads (nearest false d v) ≤ load v) → load (parts_replaced c (suc d) p) + loads (nearest false (suc d) p) ≤ load p
        go (object_view {at = at} {fs = fs}) k =
            let p = node at 34 fs in
            let r = object_kept (λ v. parts_replaced c d v) (λ v. loads (nearest false d v)) k at fs in
            let g = items_gather out kin (λ q. nearest false d (value q)) (properties p) in
            let t = temporary_weighs out kin c.path 1 at in
            by_test (has_rest_of p)
            (λ e. rw (e, parts_replaced, nearest) (let o = only_weighs out kin p in omega arith))
            (λ e. rw (e, parts_replaced, nearest) (omega arith))
        go (array_view {at = at} {fs = fs}) k = omega arith
        go (default_view {at = at} {fs = fs}) k = at_kept (λ v. parts_replaced c d v) (λ v. loads (nearest false d v)) k 0 (node at 37 fs)
        go (leaf_view {p = p} z) k = rw (z, parts_replaced, nearest) (omega arith)

    values_total : (h : Node → ℕ) → ((f : Node → Node) (q : Node) → h (change_node 1 f q) ≡ h q) → (f : Node → Node) (qs : Items) → total h (each (λ q. change_node 1 f q) qs) ≡ total h qs
    unfolding each total
    values_total h e f none = refl
    values_total h e f (hole qs) = values_total h e f qs
    values_total h e f (item q qs) = let r = values_total h e f qs in let a = e f q in omega arith

    out_value : (f : Node → Node) (q : Node) → out_key (change_node 1 f q) ≡ out_key q
    unfolding out_key
    out_value f q = ap (λ (k : Node). elim (key_sort k) [ Key.name ↦ 0 | Key.literal ↦ 0 | Key.template ↦ 0 | Key.private ↦ 0 | Key.again ↦ 0 | Key.other ↦ load k + kin k ]) (key_value f q)

    copy_value : (f : Node → Node) (q : Node) → copy (change_node 1 f q) ≡ copy q
    unfolding copy
    copy_value f q = ap (λ (k : Node). cond (is_copied k) (load k + kin k) 0) (key_value f q)

    -- what is left of a target, its parts, its rest, its value, and what is handed out for it
    pub top_kept : (d at : ℕ) (fs : Fields) (s : Node) → has_rest_of (node at 34 fs) ≡ true → let p = node at 34 fs in
        load (taken c (with_values (λ v. parts_replaced c d v) p)) + (loads (gather (λ q. nearest false d (value q)) (properties p)) + (load (rest p) + (load (rest_value c p s) + (EI (key_temporaries c p) + XI (excluded_for c p)))))
        ≤ load p + (load s + load s)
    unfolding change items_at_of node_at_of
    top_kept d at fs s e =
        let p = node at 34 fs in
        let f : Node → Node = λ v. parts_replaced c d v in
        let gs : Fields = change_in fs 0 (on_items (each (λ q. change_node 1 f q))) in
        let qs : Items = as_items_of (piece_in fs 0) in
        let r = object_kept f (λ v. loads (nearest false d v)) (parts_kept d) at fs in
        let g = items_gather out kin (λ q. nearest false d (value q)) qs in
        let t = taken_kept at gs (values_rest at fs f ∙ e) in
        let i = items_changed_in (λ q. change_node 1 f q) fs 0 in
        let a : total out_key (as_items_of (piece_in gs 0)) ≡ total out_key qs = ap (total out_key) i ∙ values_total out_key out_value f qs in
        let b : total copy (as_items_of (piece_in gs 0)) ≡ total copy qs = ap (total copy) i ∙ values_total copy copy_value f qs in
        let o : load (as_node (piece_in gs 1)) ≡ load (as_node (piece_in fs 1)) = ap (λ (x : Piece). load (as_node x)) (other_changed fs 0 (on_items (each (λ q. change_node 1 f q))) 1 (λ z. omega arith)) in
        let k = temporaries_out p in
        let x = rest_kept p s in
        omega arith

    -- ---- what is moved out of a head

    -- the patterns that are moved
    abbrev pub lets : Items → ℕ
    lets ps = total (λ p. load (moved_pattern p)) ps

    left_gone : (t : Node) (p : Node) → load t ≡ 0 → load (with_left (λ l. t) p) + load (left_of p) ≤ load p
    unfolding change node_at_of
    left_gone t (node at k fs) z = change_node_less_lem out kin at k fs 0 (λ l. t) (load (as_node (piece_in fs 0))) (key_piece_lem t (piece_in fs 0) z)

    second_kept : (at : ℕ) (fs : Fields) (f : Node → Node) (g : Node → ℕ) → ((v : Node) → load (f v) + g v ≤ load v)
        → load (with_rest f (with_items f (node at 36 fs))) + g (rest (node at 36 fs)) ≤ load (with_items f (node at 36 fs))
    unfolding change node_at_of
    second_kept at fs f g k =
        let gs : Fields = change_in fs 0 (on_items (each f)) in
        let a = at_36 at gs in
        let b = at_36 at (change_in gs 1 (on_node f)) in
        let e : g (as_node (piece_in gs 1)) ≡ g (as_node (piece_in fs 1)) = ap (λ (p : Piece). g (as_node p)) (other_changed fs 0 (on_items (each f)) 1 (λ z. omega arith)) in
        let r = change_less out kin gs 1 (on_node f) (g (as_node (piece_in gs 1))) (node_kept f g k (piece_in gs 1)) in
        omega arith

    pub moved_kept : (d : ℕ) (p : Node) → load (moved_out_of c d p) + lets (moved d p) ≤ load p
    unfolding moved_out_of moved shape moved_pattern total
    moved_kept zero p = omega arith
    moved_kept (suc d) p = go (view p) (λ v. moved_kept d v)
      where
        go : {p : Node} → View p → ((v : Node) → load (moved_out_of c d v) + lets (moved d v) ≤ load v) → load (moved_out_of c (suc d) p) + lets (moved (suc d) p) ≤ load p
        go (object_view {at = at} {fs = fs}) k = let t = temporary_weighs out kin c.path 1 at in omega arith
        go (array_view {at = at} {fs = fs}) k =
            let p = node at 36 fs in
            let a = array_kept (λ v. moved_out_of c d v) (λ v. lets (moved d v)) k at fs in
            let b = second_kept at fs (λ v. moved_out_of c d v) (λ v. lets (moved d v)) k in
            let g = total_gather (λ p. load (moved_pattern p)) (λ e. moved d e) (items_of p) in
            let e = total_append (λ p. load (moved_pattern p)) (gather (λ e. moved d e) (items_of p)) (moved d (rest p)) in
            omega arith
        go (default_view {at = at} {fs = fs}) k =
            let p = node at 37 fs in
            let t = temporary_weighs out kin c.path 1 at in
            let z = left_gone (reference c p) p t in
            omega arith
        go (leaf_view {p = p} z) k = rw (z, moved_out_of, moved) (omega arith)

    pub behind_kept : (q : Node) → load (left_behind c q) + lets (moved_from q) ≤ load q
    unfolding left_behind moved_from total
    behind_kept q =
        by_test (is_moved q)
        (λ m. rw m (at_kept (λ p. moved_out_of c (depth p) p) (λ p. lets (moved (depth p) p)) (λ p. moved_kept (depth p) p) 0 q))
        (λ m. rw m (omega arith))
