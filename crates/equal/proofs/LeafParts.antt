-- What holds of each Literal and each StaticKey of a tree, none of which has parts. What the rules are built of keeps it.
-- Assumes nothing.
use mathlib.Core.Path.{◌≡◌, refl, sym, ap, ◌∙◌, subst}
use mathlib.Core.Bool.{Bool, true, false, ◌||◌, true≢false}
use mathlib.Core.List.{List}
use Prim.Native.Nat.{ℕ, zero, suc}
use lib.Dec.{eqb}
use Rattle.tree.specs.Tree.{Node, Fields, Piece, Items}
use Rattle.tree.specs.Tree.Node.{node}
use Rattle.tree.specs.Tree.Fields.{done, absent, field}
use Rattle.tree.specs.Tree.Piece.{one, list, text, byte, mark, number}
use Rattle.tree.specs.Tree.Items.{none, hole, item}
use Rattle.lowering.specs.Parts.{nothing, kind, is, piece_in, change_in, drop_in, as_node, as_items_of, node_at_of, items_at_of, change, on_node, on_items, change_node, change_items, without, each, gather, ◌+++◌}
use Rattle.lowering.specs.Made.{string}
use Rattle.lowering.proofs.Cases.{or_left, or_right}

-- 22 Literal, 38 StaticKey
abbrev pub is_leaf_of : ℕ → Bool
is_leaf_of k = eqb k 22 || eqb k 38

-- no node, no list and no mark
abbrev pub NoPart : Piece → Type 0
NoPart (one n) = ⊥
NoPart (list is) = ⊥
NoPart (text bs) = Unit {0}
NoPart (byte b) = Unit {0}
NoPart (mark b) = ⊥
NoPart (number b) = Unit {0}

abbrev pub NoParts : Fields → Type 0
NoParts done = Unit {0}
NoParts (absent fs) = NoParts fs
NoParts (field p fs) = NoPart p × NoParts fs

-- whether a node or a list stands in a field
abbrev pub holds_nodes : Piece → Bool
holds_nodes (one n) = true
holds_nodes (list is) = true
holds_nodes (text bs) = false
holds_nodes (byte b) = false
holds_nodes (mark b) = false
holds_nodes (number b) = false

abbrev pub fields_in_of : Node → Fields
fields_in_of (node at k fs) = fs

abbrev pub any_holds : Fields → Bool
any_holds done = false
any_holds (absent fs) = any_holds fs
any_holds (field p fs) = holds_nodes p || any_holds fs

module _ (Q : Node → Type 0) where
  pub record Leaf (at k : ℕ) (fs : Fields) : Type 0 where
    pub alone : NoParts fs
    pub holds : Q (node at k fs)

  -- each Literal and StaticKey is a leaf of which Q holds
  abbrev mutual
    pub Leaves : Node → Type 0
    Leaves (node at k fs) = (is_leaf_of k ≡ true → Leaf at k fs) × LeavesFields fs

    pub LeavesFields : Fields → Type 0
    LeavesFields done = Unit {0}
    LeavesFields (absent fs) = LeavesFields fs
    LeavesFields (field p fs) = LeavesPiece p × LeavesFields fs

    pub LeavesPiece : Piece → Type 0
    LeavesPiece (one n) = Leaves n
    LeavesPiece (list is) = LeavesItems is
    LeavesPiece (text bs) = Unit {0}
    LeavesPiece (byte b) = Unit {0}
    LeavesPiece (mark b) = Unit {0}
    LeavesPiece (number b) = Unit {0}

    pub LeavesItems : Items → Type 0
    LeavesItems none = Unit {0}
    LeavesItems (hole is) = LeavesItems is
    LeavesItems (item n is) = Leaves n × LeavesItems is

  -- ---- nodes that are neither

  pub other : (at k : ℕ) (fs : Fields) → is_leaf_of k ≡ false → LeavesFields fs → Leaves (node at k fs)
  other at k fs e h = ((λ t. absurd (true≢false (sym t ∙ e))), h)

  flat_piece : (p : Piece) → holds_nodes p ≡ false → LeavesPiece p
  flat_piece (one n) e = absurd (true≢false e)
  flat_piece (list is) e = absurd (true≢false e)
  flat_piece (text bs) e = tt
  flat_piece (byte b) e = tt
  flat_piece (mark b) e = tt
  flat_piece (number b) e = tt

  flat : (fs : Fields) → any_holds fs ≡ false → LeavesFields fs
  flat done e = tt
  flat (absent fs) e = flat fs e
  flat (field p fs) e = (flat_piece p (or_left (holds_nodes p) (any_holds fs) e), flat fs (or_right (holds_nodes p) (any_holds fs) e))

  -- and whose fields hold no node
  pub alone : (n : Node) → is_leaf_of (kind n) ≡ false → any_holds (fields_in_of n) ≡ false → Leaves n
  alone (node at k fs) e h = other at k fs e (flat fs h)

  pub own : (n : Node) → is_leaf_of (kind n) ≡ true → Leaves n → Q n
  own (node at k fs) e h = (h.0 e).holds

  pub nothing_leaves : Leaves nothing
  nothing_leaves = other 0 0 done refl tt

  -- ---- parts

  piece_leaves : (fs : Fields) (i : ℕ) → LeavesFields fs → LeavesPiece (piece_in fs i)
  unfolding piece_in
  piece_leaves done i h = tt
  piece_leaves (absent fs) zero h = tt
  piece_leaves (absent fs) (suc i) h = piece_leaves fs i h
  piece_leaves (field p fs) zero h = h.0
  piece_leaves (field p fs) (suc i) h = piece_leaves fs i h.1

  as_node_lem : (p : Piece) → LeavesPiece p → Leaves (as_node p)
  as_node_lem (one n) h = h
  as_node_lem (list is) h = nothing_leaves
  as_node_lem (text bs) h = nothing_leaves
  as_node_lem (byte b) h = nothing_leaves
  as_node_lem (mark b) h = nothing_leaves
  as_node_lem (number b) h = nothing_leaves

  as_items : (p : Piece) → LeavesPiece p → LeavesItems (as_items_of p)
  as_items (one n) h = tt
  as_items (list is) h = h
  as_items (text bs) h = tt
  as_items (byte b) h = tt
  as_items (mark b) h = tt
  as_items (number b) h = tt

  pub node_leaves : (i : ℕ) (n : Node) → Leaves n → Leaves (node_at_of i n)
  unfolding node_at_of
  node_leaves i (node at k fs) h = as_node_lem (piece_in fs i) (piece_leaves fs i h.1)

  pub items_leaves : (i : ℕ) (n : Node) → Leaves n → LeavesItems (items_at_of i n)
  unfolding items_at_of
  items_leaves i (node at k fs) h = as_items (piece_in fs i) (piece_leaves fs i h.1)

  -- ---- lists

  pub append_leaves : (is js : Items) → LeavesItems is → LeavesItems js → LeavesItems (is +++ js)
  unfolding ◌+++◌
  append_leaves none js h k = k
  append_leaves (hole is) js h k = append_leaves is js h k
  append_leaves (item n is) js h k = (h.0, append_leaves is js h.1 k)

  pub each_leaves : (f : Node → Node) → ((n : Node) → Leaves n → Leaves (f n)) → (is : Items) → LeavesItems is → LeavesItems (each f is)
  unfolding each
  each_leaves f g none h = tt
  each_leaves f g (hole is) h = each_leaves f g is h
  each_leaves f g (item n is) h = (g n h.0, each_leaves f g is h.1)

  pub gather_leaves : (f : Node → Items) → ((n : Node) → Leaves n → LeavesItems (f n)) → (is : Items) → LeavesItems is → LeavesItems (gather f is)
  unfolding gather
  gather_leaves f g none h = tt
  gather_leaves f g (hole is) h = gather_leaves f g is h
  gather_leaves f g (item n is) h = append_leaves (f n) (gather f is) (g n h.0) (gather_leaves f g is h.1)

  -- ---- a field changed; a leaf has none that could be

  -- a change of parts alone
  pub record Changes (f : Piece → Piece) : Type 0 where
    pub kept : (p : Piece) → NoPart p → f p ≡ p
    pub leaves : (p : Piece) → LeavesPiece p → LeavesPiece (f p)

  pub on_node_lem : (f : Node → Node) → ((n : Node) → Leaves n → Leaves (f n)) → Changes (on_node f)
  unfolding on_node
  on_node_lem f g = record { kept = kept; leaves = leaves }
    where
      kept : (p : Piece) → NoPart p → on_node f p ≡ p
      kept (one n) h = absurd h
      kept (list is) h = absurd h
      kept (text bs) h = refl
      kept (byte b) h = refl
      kept (mark b) h = absurd h
      kept (number b) h = refl

      leaves : (p : Piece) → LeavesPiece p → LeavesPiece (on_node f p)
      leaves (one n) h = g n h
      leaves (list is) h = h
      leaves (text bs) h = tt
      leaves (byte b) h = tt
      leaves (mark b) h = tt
      leaves (number b) h = tt

  pub on_items_lem : (f : Items → Items) → ((is : Items) → LeavesItems is → LeavesItems (f is)) → Changes (on_items f)
  unfolding on_items
  on_items_lem f g = record { kept = kept; leaves = leaves }
    where
      kept : (p : Piece) → NoPart p → on_items f p ≡ p
      kept (one n) h = absurd h
      kept (list is) h = absurd h
      kept (text bs) h = refl
      kept (byte b) h = refl
      kept (mark b) h = absurd h
      kept (number b) h = refl

      leaves : (p : Piece) → LeavesPiece p → LeavesPiece (on_items f p)
      leaves (one n) h = h
      leaves (list is) h = g is h
      leaves (text bs) h = tt
      leaves (byte b) h = tt
      leaves (mark b) h = tt
      leaves (number b) h = tt

  module _ (f : Piece → Piece) (c : Changes f) where
    same_fields_lem : (fs : Fields) (i : ℕ) → NoParts fs → change_in fs i f ≡ fs
    unfolding change_in
    same_fields_lem done i h = refl
    same_fields_lem (absent fs) zero h = refl
    same_fields_lem (absent fs) (suc i) h = ap absent (same_fields_lem fs i h)
    same_fields_lem (field p fs) zero h = ap (λ (q : Piece). field q fs) (c.kept p h.0)
    same_fields_lem (field p fs) (suc i) h = ap (field p) (same_fields_lem fs i h.1)

    fields_changed : (fs : Fields) (i : ℕ) → LeavesFields fs → LeavesFields (change_in fs i f)
    unfolding change_in
    fields_changed done i h = tt
    fields_changed (absent fs) zero h = h
    fields_changed (absent fs) (suc i) h = fields_changed fs i h
    fields_changed (field p fs) zero h = (c.leaves p h.0, h.1)
    fields_changed (field p fs) (suc i) h = (h.0, fields_changed fs i h.1)

    changed_leaves : (i : ℕ) (n : Node) → Leaves n → Leaves (change i f n)
    unfolding change
    changed_leaves i (node at k fs) h = (
      (λ t. let l = h.0 t in subst (λ (gs : Fields). Leaf at k gs) (sym (same_fields_lem fs i l.alone)) l),
      fields_changed fs i h.1,
    )

  pub change_node_lem : (i : ℕ) (f : Node → Node) → ((n : Node) → Leaves n → Leaves (f n)) → (n : Node) → Leaves n → Leaves (change_node i f n)
  change_node_lem i f g n h = changed_leaves (on_node f) (on_node_lem f g) i n h

  pub change_items_lem : (i : ℕ) (f : Items → Items) → ((is : Items) → LeavesItems is → LeavesItems (f is)) → (n : Node) → Leaves n → Leaves (change_items i f n)
  change_items_lem i f g n h = changed_leaves (on_items f) (on_items_lem f g) i n h

  -- ---- a field dropped, of what is no leaf

  fields_dropped : (fs : Fields) (i : ℕ) → LeavesFields fs → LeavesFields (drop_in fs i)
  unfolding drop_in
  fields_dropped done i h = tt
  fields_dropped (absent fs) zero h = h
  fields_dropped (absent fs) (suc i) h = fields_dropped fs i h
  fields_dropped (field p fs) zero h = h.1
  fields_dropped (field p fs) (suc i) h = (h.0, fields_dropped fs i h.1)

  pub without_leaves : (i : ℕ) (n : Node) → is_leaf_of (kind n) ≡ false → Leaves n → Leaves (without i n)
  unfolding without
  without_leaves i (node at k fs) e h = other at k (drop_in fs i) e (fields_dropped fs i h.1)

  -- ---- a string

  pub string_leaves : (form : List ℕ) → Q (string form) → Leaves (string form)
  string_leaves form q = ((λ t. record { alone = (tt, (tt, (tt, tt))); holds = q }), (tt, (tt, (tt, tt))))
