-- How often a position is that of a pattern, or of a property of an object pattern, in a tree: the positions that name temporaries.
-- Every view of a pattern has at most as many such sites as the pattern.
-- Assumes nothing.
use mathlib.Core.Path.{◌≡◌, refl, ap, ap₂}
use mathlib.Core.Bool.{Bool, true, false, cond, ◌||◌}
use mathlib.Core.List.{List}
use Prim.Native.Nat.{ℕ, zero, suc, ◌+◌, ◌*◌, ◌≤◌, ◌<◌}
use native.Mathlib.Omega.{arith}
use lib.Dec.{eqb}
use borrow.Author.Tests.{eqb-true}
use Rattle.tree.specs.Tree.{Node, Fields, Piece, Items}
use Rattle.tree.specs.Tree.Node.{node}
use Rattle.tree.specs.Tree.Fields.{done, absent, field}
use Rattle.tree.specs.Tree.Piece.{one, list, text, byte, mark, number}
use Rattle.tree.specs.Tree.Items.{none, hole, item}
use Rattle.lowering.specs.Parts.{nothing, position, is, piece_in, change_in, drop_in, as_node, as_items_of, node_at_of, items_at_of, change, on_node, on_items, change_node, change_items, without, each, gather, ◌+++◌}
use Rattle.lowering.specs.Made.{temporary}
use Rattle.lowering.proofs.All.{AllItems, AllPiece, AllFields, Each}
use Rattle.lowering.proofs.ChangeLaws.{position_changed}

-- 18 Reference and 20 Temporary, which have no parts in a tree
unfoldable pub is_name_kind : ℕ → Bool
is_name_kind k = eqb k 18 || eqb k 20

-- how many nodes are directly in the fields
unfoldable pub direct_items : Items → ℕ
direct_items none = 0
direct_items (hole is) = direct_items is
direct_items (item n is) = suc (direct_items is)

unfoldable pub direct_piece : Piece → ℕ
direct_piece (one n) = 1
direct_piece (list is) = direct_items is
direct_piece (text bs) = 0
direct_piece (byte b) = 0
direct_piece (mark b) = 0
direct_piece (number b) = 0

unfoldable pub direct : Fields → ℕ
direct done = 0
direct (absent fs) = direct fs
direct (field p fs) = direct_piece p + direct fs

module _ (x : ℕ) where
  -- 1 at the position x
  unfoldable pub here : ℕ → ℕ
  here at = cond (eqb x at) 1 0

  unfoldable pub here_items : Items → ℕ
  here_items none = 0
  here_items (hole is) = here_items is
  here_items (item n is) = here (position n) + here_items is

  -- an object pattern and its properties; an array pattern; a default
  unfoldable pub own : ℕ → ℕ → Fields → ℕ
  own at k fs = cond (eqb k 34) (here at + here_items (as_items_of (piece_in fs 0))) (cond (eqb k 36 || eqb k 37) (here at) 0)

  -- a name may be read twice: parts in it would count twice, and more, so that a tree with one site at most has none there
  unfoldable mutual
    pub sites : Node → ℕ
    sites (node at k fs) = cond (is_name_kind k) (2 * (direct fs + sites_fields fs)) (own at k fs + sites_fields fs)

    pub sites_fields : Fields → ℕ
    sites_fields done = 0
    sites_fields (absent fs) = sites_fields fs
    sites_fields (field p fs) = sites_piece p + sites_fields fs

    pub sites_piece : Piece → ℕ
    sites_piece (one n) = sites n
    sites_piece (list is) = sites_items is
    sites_piece (text bs) = 0
    sites_piece (byte b) = 0
    sites_piece (mark b) = 0
    sites_piece (number b) = 0

    pub sites_items : Items → ℕ
    sites_items none = 0
    sites_items (hole is) = sites_items is
    sites_items (item n is) = sites n + sites_items is

  -- ---- parts

  pub fields_in : (at k : ℕ) (fs : Fields) → sites_fields fs ≤ sites (node at k fs)
  unfolding sites
  fields_in at k fs = go (is_name_kind k)
    where
      go : (b : Bool) → sites_fields fs ≤ cond b (2 * (direct fs + sites_fields fs)) (own at k fs + sites_fields fs)
      go true = omega arith
      go false = omega arith

  pub piece_in_lem : (fs : Fields) (i : ℕ) → sites_piece (piece_in fs i) ≤ sites_fields fs
  unfolding sites piece_in
  piece_in_lem done i = omega arith
  piece_in_lem (absent fs) zero = omega arith
  piece_in_lem (absent fs) (suc i) = piece_in_lem fs i
  piece_in_lem (field p fs) zero = omega arith
  piece_in_lem (field p fs) (suc i) = let h = piece_in_lem fs i in omega arith

  pub two_pieces : (fs : Fields) (i j : ℕ) → i < j → sites_piece (piece_in fs i) + sites_piece (piece_in fs j) ≤ sites_fields fs
  unfolding piece_in sites
  two_pieces done i j h = omega arith
  two_pieces (absent fs) zero zero h = absurd (omega arith)
  two_pieces (absent fs) zero (suc j) h = let k = piece_in_lem fs j in omega arith
  two_pieces (absent fs) (suc i) zero h = absurd (omega arith)
  two_pieces (absent fs) (suc i) (suc j) h = two_pieces fs i j (omega arith)
  two_pieces (field p fs) zero zero h = absurd (omega arith)
  two_pieces (field p fs) zero (suc j) h = let k = piece_in_lem fs j in omega arith
  two_pieces (field p fs) (suc i) zero h = absurd (omega arith)
  two_pieces (field p fs) (suc i) (suc j) h = let k = two_pieces fs i j (omega arith) in omega arith

  pub as_node_lem : (p : Piece) → sites (as_node p) ≤ sites_piece p
  unfolding sites own is_name_kind
  as_node_lem (one n) = omega arith
  as_node_lem (list is) = omega arith
  as_node_lem (text bs) = omega arith
  as_node_lem (byte b) = omega arith
  as_node_lem (mark b) = omega arith
  as_node_lem (number b) = omega arith

  pub as_items : (p : Piece) → sites_items (as_items_of p) ≤ sites_piece p
  unfolding sites
  as_items (one n) = omega arith
  as_items (list is) = omega arith
  as_items (text bs) = omega arith
  as_items (byte b) = omega arith
  as_items (mark b) = omega arith
  as_items (number b) = omega arith

  pub node_in : (i : ℕ) (n : Node) → sites (node_at_of i n) ≤ sites n
  unfolding node_at_of
  node_in i (node at k fs) = let a = as_node_lem (piece_in fs i) in let b = piece_in_lem fs i in let c = fields_in at k fs in omega arith

  pub items_in_lem : (i : ℕ) (n : Node) → sites_items (items_at_of i n) ≤ sites n
  unfolding items_at_of
  items_in_lem i (node at k fs) = let a = as_items (piece_in fs i) in let b = piece_in_lem fs i in let c = fields_in at k fs in omega arith

  pub node_and_node : (i j : ℕ) → i < j → (n : Node) → sites (node_at_of i n) + sites (node_at_of j n) ≤ sites n
  unfolding node_at_of
  node_and_node i j h (node at k fs) =
      let a = as_node_lem (piece_in fs i) in let b = as_node_lem (piece_in fs j) in let c = two_pieces fs i j h in let d = fields_in at k fs in omega arith

  pub items_and_node : (i j : ℕ) → i < j → (n : Node) → sites_items (items_at_of i n) + sites (node_at_of j n) ≤ sites n
  unfolding node_at_of items_at_of
  items_and_node i j h (node at k fs) =
      let a = as_items (piece_in fs i) in let b = as_node_lem (piece_in fs j) in let c = two_pieces fs i j h in let d = fields_in at k fs in omega arith

  -- ---- each part of a node has at most as many as the node

  abbrev pub AtMost : ℕ → Node → Type 0
  AtMost b n = sites n ≤ b

  pub each_item : (b : ℕ) (is : Items) → sites_items is ≤ b → AllItems (AtMost b) is
  unfolding sites
  each_item b none h = tt
  each_item b (hole is) h = each_item b is h
  each_item b (item n is) h = (omega arith, each_item b is (omega arith))

  pub each_piece_lem : (b : ℕ) (p : Piece) → sites_piece p ≤ b → AllPiece (AtMost b) p
  unfolding sites
  each_piece_lem b (one n) h = h
  each_piece_lem b (list is) h = each_item b is h
  each_piece_lem b (text bs) h = tt
  each_piece_lem b (byte x) h = tt
  each_piece_lem b (mark x) h = tt
  each_piece_lem b (number x) h = tt

  pub each_field_lem : (b : ℕ) (fs : Fields) → sites_fields fs ≤ b → AllFields (AtMost b) fs
  unfolding sites
  each_field_lem b done h = tt
  each_field_lem b (absent fs) h = each_field_lem b fs h
  each_field_lem b (field p fs) h = (each_piece_lem b p (omega arith), each_field_lem b fs (omega arith))

  pub each_part : (b : ℕ) (n : Node) → sites n ≤ b → Each (AtMost b) n
  each_part b (node at k fs) h = let f = fields_in at k fs in each_field_lem b fs (omega arith)

  -- ---- lists

  pub sites_append : (is js : Items) → sites_items (is +++ js) ≡ sites_items is + sites_items js
  unfolding sites ◌+++◌
  sites_append none js = omega arith
  sites_append (hole is) js = sites_append is js
  sites_append (item n is) js = let h = sites_append is js in omega arith

  pub here_append : (is js : Items) → here_items (is +++ js) ≡ here_items is + here_items js
  unfolding here_items ◌+++◌
  here_append none js = omega arith
  here_append (hole is) js = here_append is js
  here_append (item n is) js = let h = here_append is js in omega arith

  -- what a function gives for an item has at most as many sites as the item
  pub gather_light : (f : Node → Items) → ((n : Node) → sites_items (f n) ≤ sites n) → (is : Items) → sites_items (gather f is) ≤ sites_items is
  unfolding gather sites
  gather_light f light none = omega arith
  gather_light f light (hole is) = gather_light f light is
  gather_light f light (item n is) =
      let h = gather_light f light is in let l = light n in let e = sites_append (f n) (gather f is) in omega arith

  -- ---- views: functions that keep the position, and give at most as many sites

  pub record Light (f : Node → Node) : Type 0 where
    pub fewer : (n : Node) → sites (f n) ≤ sites n
    pub stays : (n : Node) → position (f n) ≡ position n

  -- the same of a change of a piece
  pub record LightPiece (f : Piece → Piece) : Type 0 where
    pub fewer : (p : Piece) → sites_piece (f p) ≤ sites_piece p
    pub narrower : (p : Piece) → direct_piece (f p) ≤ direct_piece p
    pub stays : (p : Piece) → here_items (as_items_of (f p)) ≤ here_items (as_items_of p)

  module _ (f : Node → Node) (light : Light f) where
    pub each_light : (is : Items) → sites_items (each f is) ≤ sites_items is
    unfolding each sites
    each_light none = omega arith
    each_light (hole is) = each_light is
    each_light (item n is) = let h = each_light is in let l = light.fewer n in omega arith

    each_direct : (is : Items) → direct_items (each f is) ≤ direct_items is
    unfolding each direct_items
    each_direct none = omega arith
    each_direct (hole is) = each_direct is
    each_direct (item n is) = let h = each_direct is in omega arith

    each_here : (is : Items) → here_items (each f is) ≡ here_items is
    unfolding each here_items
    each_here none = refl
    each_here (hole is) = each_here is
    each_here (item n is) = ap₂ (λ (a b : ℕ). here a + b) (light.stays n) (each_here is)

    node_fewer : (p : Piece) → sites_piece (on_node f p) ≤ sites_piece p
    unfolding on_node sites
    node_fewer (one n) = light.fewer n
    node_fewer (list is) = omega arith
    node_fewer (text bs) = omega arith
    node_fewer (byte b) = omega arith
    node_fewer (mark b) = omega arith
    node_fewer (number b) = omega arith

    node_narrower : (p : Piece) → direct_piece (on_node f p) ≤ direct_piece p
    unfolding on_node direct_piece
    node_narrower (one n) = omega arith
    node_narrower (list is) = omega arith
    node_narrower (text bs) = omega arith
    node_narrower (byte b) = omega arith
    node_narrower (mark b) = omega arith
    node_narrower (number b) = omega arith

    node_stays : (p : Piece) → here_items (as_items_of (on_node f p)) ≤ here_items (as_items_of p)
    unfolding on_node
    node_stays (one n) = omega arith
    node_stays (list is) = omega arith
    node_stays (text bs) = omega arith
    node_stays (byte b) = omega arith
    node_stays (mark b) = omega arith
    node_stays (number b) = omega arith

    list_fewer : (p : Piece) → sites_piece (on_items (each f) p) ≤ sites_piece p
    unfolding on_items sites
    list_fewer (one n) = omega arith
    list_fewer (list is) = each_light is
    list_fewer (text bs) = omega arith
    list_fewer (byte b) = omega arith
    list_fewer (mark b) = omega arith
    list_fewer (number b) = omega arith

    list_narrower : (p : Piece) → direct_piece (on_items (each f) p) ≤ direct_piece p
    unfolding on_items direct_piece
    list_narrower (one n) = omega arith
    list_narrower (list is) = each_direct is
    list_narrower (text bs) = omega arith
    list_narrower (byte b) = omega arith
    list_narrower (mark b) = omega arith
    list_narrower (number b) = omega arith

    list_stays : (p : Piece) → here_items (as_items_of (on_items (each f) p)) ≤ here_items (as_items_of p)
    unfolding on_items
    list_stays (one n) = omega arith
    list_stays (list is) = let h = each_here is in omega arith
    list_stays (text bs) = omega arith
    list_stays (byte b) = omega arith
    list_stays (mark b) = omega arith
    list_stays (number b) = omega arith

    pub on_node_lem : LightPiece (on_node f)
    on_node_lem = record { fewer = node_fewer; narrower = node_narrower; stays = node_stays }

    pub on_items_lem : LightPiece (on_items (each f))
    on_items_lem = record { fewer = list_fewer; narrower = list_narrower; stays = list_stays }

  -- ---- a node with other fields

  -- with e sites fewer
  pub fewer_fields : (e at k : ℕ) (fs gs : Fields) → e + sites_fields gs ≤ sites_fields fs → direct gs ≤ direct fs
      → here_items (as_items_of (piece_in gs 0)) ≤ here_items (as_items_of (piece_in fs 0)) → e + sites (node at k gs) ≤ sites (node at k fs)
  unfolding sites own
  fewer_fields e at k fs gs a b c = go (is_name_kind k) (eqb k 34) (eqb k 36 || eqb k 37)
    where
      go : (n o d : Bool)
          → e + cond n (2 * (direct gs + sites_fields gs)) (cond o (here at + here_items (as_items_of (piece_in gs 0))) (cond d (here at) 0) + sites_fields gs)
          ≤ cond n (2 * (direct fs + sites_fields fs)) (cond o (here at + here_items (as_items_of (piece_in fs 0))) (cond d (here at) 0) + sites_fields fs)
      go true o d = omega arith
      go false true d = omega arith
      go false false true = omega arith
      go false false false = omega arith

  pub other_fields : (at k : ℕ) (fs gs : Fields) → sites_fields gs ≤ sites_fields fs → direct gs ≤ direct fs
      → here_items (as_items_of (piece_in gs 0)) ≤ here_items (as_items_of (piece_in fs 0)) → sites (node at k gs) ≤ sites (node at k fs)
  other_fields at k fs gs a b c = let h = fewer_fields 0 at k fs gs (omega arith) b c in omega arith

  changed_sites : (fs : Fields) (i : ℕ) (f : Piece → Piece) → LightPiece f → sites_fields (change_in fs i f) ≤ sites_fields fs
  unfolding change_in sites
  changed_sites done i f l = omega arith
  changed_sites (absent fs) zero f l = omega arith
  changed_sites (absent fs) (suc i) f l = changed_sites fs i f l
  changed_sites (field p fs) zero f l = let h = l.fewer p in omega arith
  changed_sites (field p fs) (suc i) f l = let h = changed_sites fs i f l in omega arith

  changed_direct : (fs : Fields) (i : ℕ) (f : Piece → Piece) → LightPiece f → direct (change_in fs i f) ≤ direct fs
  unfolding change_in direct
  changed_direct done i f l = omega arith
  changed_direct (absent fs) zero f l = omega arith
  changed_direct (absent fs) (suc i) f l = changed_direct fs i f l
  changed_direct (field p fs) zero f l = let h = l.narrower p in omega arith
  changed_direct (field p fs) (suc i) f l = let h = changed_direct fs i f l in omega arith

  changed_here : (fs : Fields) (i : ℕ) (f : Piece → Piece) → LightPiece f → here_items (as_items_of (piece_in (change_in fs i f) 0)) ≤ here_items (as_items_of (piece_in fs 0))
  unfolding change_in piece_in
  changed_here done i f l = omega arith
  changed_here (absent fs) zero f l = omega arith
  changed_here (absent fs) (suc i) f l = omega arith
  changed_here (field p fs) zero f l = l.stays p
  changed_here (field p fs) (suc i) f l = omega arith

  change_fewer : (i : ℕ) (f : Piece → Piece) → LightPiece f → (n : Node) → sites (change i f n) ≤ sites n
  unfolding change
  change_fewer i f l (node at k fs) = other_fields at k fs (change_in fs i f) (changed_sites fs i f l) (changed_direct fs i f l) (changed_here fs i f l)

  change_light : (i : ℕ) (f : Piece → Piece) → LightPiece f → Light (change i f)
  change_light i f l = record { fewer = change_fewer i f l; stays = position_changed i f }

  pub change_node_light : (i : ℕ) (f : Node → Node) → Light f → Light (change_node i f)
  change_node_light i f l = change_light i (on_node f) (on_node_lem f l)

  pub change_each_light : (i : ℕ) (f : Node → Node) → Light f → Light (change_items i (each f))
  change_each_light i f l = change_light i (on_items (each f)) (on_items_lem f l)

  dropped_sites : (fs : Fields) (i : ℕ) → sites_fields (drop_in fs i) ≤ sites_fields fs
  unfolding drop_in sites
  dropped_sites done i = omega arith
  dropped_sites (absent fs) zero = omega arith
  dropped_sites (absent fs) (suc i) = dropped_sites fs i
  dropped_sites (field p fs) zero = omega arith
  dropped_sites (field p fs) (suc i) = let h = dropped_sites fs i in omega arith

  dropped_direct : (fs : Fields) (i : ℕ) → direct (drop_in fs i) ≤ direct fs
  unfolding drop_in direct
  dropped_direct done i = omega arith
  dropped_direct (absent fs) zero = omega arith
  dropped_direct (absent fs) (suc i) = dropped_direct fs i
  dropped_direct (field p fs) zero = omega arith
  dropped_direct (field p fs) (suc i) = let h = dropped_direct fs i in omega arith

  dropped_here : (fs : Fields) → here_items (as_items_of (piece_in (drop_in fs 1) 0)) ≤ here_items (as_items_of (piece_in fs 0))
  unfolding drop_in piece_in
  dropped_here done = omega arith
  dropped_here (absent fs) = omega arith
  dropped_here (field p fs) = omega arith

  pub without_fewer : (n : Node) → sites (without 1 n) ≤ sites n
  unfolding without
  without_fewer (node at k fs) = other_fields at k fs (drop_in fs 1) (dropped_sites fs 1) (dropped_direct fs 1) (dropped_here fs)

  pub temporary_sites : (path : List ℕ) (stem at : ℕ) → sites (temporary path stem at) ≡ 0
  unfolding sites direct direct_piece is_name_kind
  temporary_sites path stem at = refl

  -- ---- what is found below and what is left behind have together at most as many as there were

  module _ (h : Node → Items) (f : Node → Node) (light : Light f) (together : (n : Node) → sites_items (h n) + sites (f n) ≤ sites n) where
    pub gather_sum : (is : Items) → sites_items (gather h is) + sites_items (each f is) ≤ sites_items is
    unfolding gather each sites
    gather_sum none = omega arith
    gather_sum (hole is) = gather_sum is
    gather_sum (item n is) =
        let a = gather_sum is in let b = together n in let e = sites_append (h n) (gather h is) in omega arith

    list_sum_lem : (p : Piece) → sites_items (gather h (as_items_of p)) + sites_piece (on_items (each f) p) ≤ sites_piece p
    unfolding on_items gather sites
    list_sum_lem (one n) = omega arith
    list_sum_lem (list is) = gather_sum is
    list_sum_lem (text bs) = omega arith
    list_sum_lem (byte b) = omega arith
    list_sum_lem (mark b) = omega arith
    list_sum_lem (number b) = omega arith

    fields_sum : (fs : Fields) (i : ℕ) → sites_items (gather h (as_items_of (piece_in fs i))) + sites_fields (change_in fs i (on_items (each f))) ≤ sites_fields fs
    unfolding piece_in change_in gather sites
    fields_sum done i = omega arith
    fields_sum (absent fs) zero = omega arith
    fields_sum (absent fs) (suc i) = fields_sum fs i
    fields_sum (field p fs) zero = let a = list_sum_lem p in omega arith
    fields_sum (field p fs) (suc i) = let a = fields_sum fs i in omega arith

    pub items_sum : (i : ℕ) (n : Node) → sites_items (gather h (items_at_of i n)) + sites (change_items i (each f) n) ≤ sites n
    unfolding items_at_of change
    items_sum i (node at k fs) =
        fewer_fields (sites_items (gather h (as_items_of (piece_in fs i)))) at k fs (change_in fs i (on_items (each f))) (fields_sum fs i)
        (changed_direct fs i (on_items (each f)) (on_items_lem f light)) (changed_here fs i (on_items (each f)) (on_items_lem f light))

    module _ (nowhere : sites_items (h nothing) ≡ 0) where
      piece_sum : (p : Piece) → sites_items (h (as_node p)) + sites_piece (on_node f p) ≤ sites_piece p
      unfolding on_node sites
      piece_sum (one n) = together n
      piece_sum (list is) = omega arith
      piece_sum (text bs) = omega arith
      piece_sum (byte b) = omega arith
      piece_sum (mark b) = omega arith
      piece_sum (number b) = omega arith

      node_fields_sum : (fs : Fields) (i : ℕ) → sites_items (h (as_node (piece_in fs i))) + sites_fields (change_in fs i (on_node f)) ≤ sites_fields fs
      unfolding piece_in change_in sites
      node_fields_sum done i = omega arith
      node_fields_sum (absent fs) zero = omega arith
      node_fields_sum (absent fs) (suc i) = node_fields_sum fs i
      node_fields_sum (field p fs) zero = let a = piece_sum p in omega arith
      node_fields_sum (field p fs) (suc i) = let a = node_fields_sum fs i in omega arith

      pub node_sum : (i : ℕ) (n : Node) → sites_items (h (node_at_of i n)) + sites (change_node i f n) ≤ sites n
      unfolding node_at_of change
      node_sum i (node at k fs) =
          fewer_fields (sites_items (h (as_node (piece_in fs i)))) at k fs (change_in fs i (on_node f)) (node_fields_sum fs i)
          (changed_direct fs i (on_node f) (on_node_lem f light)) (changed_here fs i (on_node f) (on_node_lem f light))

  -- ---- an object pattern and its properties

  abbrev pub shell : Node → ℕ
  shell p = here (position p) + here_items (items_at_of 0 p)

  unfoldable pub shells : Items → ℕ
  shells none = 0
  shells (hole is) = shells is
  shells (item n is) = shell n + shells is

  sites_of : (at k j : ℕ) (fs : Fields) → eqb k j ≡ true → sites (node at k fs) ≡ sites (node at j fs)
  sites_of at k j fs e = ap (λ (m : ℕ). sites (node at m fs)) (eqb-true k j e)

  object_sites : (at : ℕ) (fs : Fields) → sites (node at 34 fs) ≡ here at + here_items (as_items_of (piece_in fs 0)) + sites_fields fs
  unfolding sites own is_name_kind
  object_sites at fs = refl

  array_sites : (at : ℕ) (fs : Fields) → sites (node at 36 fs) ≡ here at + sites_fields fs
  unfolding sites own is_name_kind
  array_sites at fs = refl

  default_sites : (at : ℕ) (fs : Fields) → sites (node at 37 fs) ≡ here at + sites_fields fs
  unfolding sites own is_name_kind
  default_sites at fs = refl

  pub object_whole : (p : Node) → is 34 p ≡ true → shell p + sites_items (items_at_of 0 p) ≤ sites p
  unfolding is items_at_of
  object_whole (node at k fs) e =
      let a = sites_of at k 34 fs e in let b = object_sites at fs in let c = as_items (piece_in fs 0) in let d = piece_in_lem fs 0 in omega arith

  pub array_here : (p : Node) → is 36 p ≡ true → here (position p) ≤ sites p
  unfolding is
  array_here (node at k fs) e = let a = sites_of at k 36 fs e in let b = array_sites at fs in omega arith

  pub default_here : (p : Node) → is 37 p ≡ true → here (position p) ≤ sites p
  unfolding is
  default_here (node at k fs) e = let a = sites_of at k 37 fs e in let b = default_sites at fs in omega arith

  pub gather_here : (h : Node → Items) → ((n : Node) → here_items (h n) ≤ sites n) → (is : Items) → here_items (gather h is) ≤ sites_items is
  unfolding gather here_items sites
  gather_here h light none = omega arith
  gather_here h light (hole is) = gather_here h light is
  gather_here h light (item n is) =
      let a = gather_here h light is in let b = light n in let e = here_append (h n) (gather h is) in omega arith

  abbrev pub Object : Node → Type 0
  Object p = is 34 p ≡ true

  pub shells_in : (is : Items) → AllItems Object is → shells is ≤ sites_items is
  unfolding shells sites
  shells_in none h = omega arith
  shells_in (hole is) h = shells_in is h
  shells_in (item n is) h = let a = object_whole n h.0 in let b = shells_in is h.1 in omega arith

  pub here_in : (is : Items) → here_items is ≤ shells is
  unfolding shells here_items
  here_in none = omega arith
  here_in (hole is) = here_in is
  here_in (item n is) = let a = here_in is in omega arith
