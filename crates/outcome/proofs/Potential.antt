-- How many temporaries may still be made in a cell by the walk of a node: the potential of the node at the cell.
-- A pattern may be replaced (stem 1, at its position) where it stands in another pattern or in a head, not where it is what a declarator or an
-- assignment takes apart; a rest may be taken (stems 2, 4); a value may be wanted of a pattern that is taken apart (stem 3).
-- Assumes nothing.
use mathlib.Core.Path.{◌≡◌, refl, ap}
use mathlib.Core.Bool.{Bool, true, cond, ◌||◌}
use mathlib.Core.List.{List}
use Prim.Native.Nat.{ℕ, zero, suc, ◌+◌, ◌≤◌, ◌<◌}
use native.Mathlib.Omega.{arith}
use lib.Dec.{eqb}
use borrow.Author.Tests.{eqb-true}
use Rattle.tree.specs.Tree.{Node, Fields, Piece, Items}
use Rattle.tree.specs.Tree.Node.{node}
use Rattle.lowering.specs.Parts.{nothing, position, is, piece_in, stands_in, change_in, drop_in, as_node, as_items_of, node_at_of, items_at_of, stands, change, on_node, on_items, change_node, change_items, without, only, ◌+++◌}
use Rattle.lowering.specs.Made.{temporary}
use Rattle.lowering.specs.Assignments.{is_top}
use Rattle.lowering.specs.Declarations.{is_name_of}
use Rattle.lowering.specs.Heads.{moved_from}
use Rattle.lowering.proofs.All.{AllItems}
use Rattle.lowering.proofs.Cases.{by_test}
use Rattle.lowering.proofs.Sites.{here, here_items}

-- 34, 36, 37
unfoldable pub is_pattern : Node → Bool
is_pattern p = is 34 p || (is 36 p || is 37 p)

-- a Temporary, or no node
unfoldable pub gone : Node → Bool
gone p = is 20 p || is 0 p

module _ (x : ℕ) where
  -- ---- places of patterns

  -- an object pattern that may be replaced, and then taken apart by an assignment
  unfoldable pub slot : Node → ℕ
  slot p = cond (is 34 p) (here x (position p) + here x (position p + 2)) 0

  -- one that is moved out of a head
  unfoldable pub slot_moved : Node → ℕ
  slot_moved p = cond (is 34 p) (here x (position p)) 0

  pub moved_less : (p : Node) → slot_moved p ≤ slot p
  unfolding slot_moved slot
  moved_less p = by_test (is 34 p) (λ e. rw e (omega arith)) (λ e. rw e (omega arith))

  -- the pattern that a declarator takes apart
  unfoldable pub slot_value : Node → ℕ
  slot_value p = cond (is_pattern p) (here x (position p + 2)) 0

  -- the target of an assignment
  unfoldable pub slot_top : Node → ℕ
  slot_top p = cond (is_top p) (here x (position p + 2)) 0

  unfoldable pub slots : Items → ℕ
  slots Items.none = 0
  slots (Items.hole is) = slots is
  slots (Items.item p is) = slot p + slots is

  unfoldable pub slot_values : Items → ℕ
  slot_values Items.none = 0
  slot_values (Items.hole is) = slot_values is
  slot_values (Items.item q is) = slot (node_at_of 1 q) + slot_values is

  -- a Default that is moved though it has a Temporary, or nothing, at its left
  unfoldable pub odd : Node → ℕ
  odd p = cond (is 37 p) (cond (gone (node_at_of 0 p)) (here x (position p)) 0) 0

  unfoldable pub odds : Items → ℕ
  odds Items.none = 0
  odds (Items.hole is) = odds is
  odds (Items.item p is) = odd p + odds is

  pub odds_append : (is js : Items) → odds (is +++ js) ≡ odds is + odds js
  unfolding odds ◌+++◌
  odds_append Items.none js = omega arith
  odds_append (Items.hole is) js = odds_append is js
  odds_append (Items.item n is) js = let h = odds_append is js in omega arith

  pub odds_none : odds Items.none ≡ 0
  unfolding odds
  odds_none = refl

  pub only_odds : (p : Node) → odds (only p) ≡ odd p
  unfolding odds
  only_odds p = omega arith

  -- what is moved out of a parameter or a declarator of a head
  unfoldable pub head : Node → ℕ
  head q = slot_moved (node_at_of 0 q) + odds (moved_from q)

  unfoldable pub heads : Items → ℕ
  heads Items.none = 0
  heads (Items.hole is) = heads is
  heads (Items.item q is) = head q + heads is

  -- the parameter of a Catch is no pattern; one that is one would count for more than there may be
  unfoldable pub head_catch : Node → ℕ
  head_catch q = cond (is_pattern q) 2 (head q)

  -- the left of a ForIn or ForOf; it is no Default
  unfoldable pub head_for : Node → ℕ
  head_for l = cond (is 4 l) (heads (items_at_of 2 l)) (slot l + cond (is 36 l) (here x (position l)) (cond (is 37 l) 2 0))

  -- what is no Declarator among the declarators of a Declaration would count for more than there may be
  unfoldable pub aliens : Items → ℕ
  aliens Items.none = 0
  aliens (Items.hole ds) = aliens ds
  aliens (Items.item d ds) = cond (is 5 d) 0 2 + aliens ds

  -- a rest that may be taken
  unfoldable pub resting : ℕ → Bool → Items → ℕ
  resting at r ps = cond r (here x (at + 1) + here_items x ps) 0

  -- a Declarator whose value is no name
  unfoldable pub declaring : Bool → Node → Node → ℕ
  declaring s i v = cond s (cond (is_name_of v) 0 (slot_value i)) 0

  unfoldable pub own : ℕ → ℕ → Fields → ℕ
  own at k fs =
      cond (eqb k 34) (slot_values (as_items_of (piece_in fs 0)) + resting at (stands_in fs 1) (as_items_of (piece_in fs 0)))
      (cond (eqb k 36) (slots (as_items_of (piece_in fs 0)) + slot (as_node (piece_in fs 1)))
      (cond (eqb k 37) (slot (as_node (piece_in fs 0)) + cond (gone (as_node (piece_in fs 0))) 0 (here x at))
      (cond (eqb k 14) (heads (as_items_of (piece_in fs 3)))
      (cond (eqb k 17) (heads (as_items_of (piece_in fs 0)))
      (cond (eqb k 10) (head_catch (as_node (piece_in fs 0)))
      (cond (eqb k 7 || eqb k 8) (head_for (as_node (piece_in fs 1)))
      (cond (eqb k 27) (slot_top (as_node (piece_in fs 1)))
      (cond (eqb k 5) (declaring (stands_in fs 1) (as_node (piece_in fs 0)) (as_node (piece_in fs 1)))
      (cond (eqb k 4) (aliens (as_items_of (piece_in fs 2))) 0)))))))))

  unfoldable mutual
    pub pot : Node → ℕ
    pot (node at k fs) = own at k fs + pot_fields fs

    pub pot_fields : Fields → ℕ
    pot_fields Fields.done = 0
    pot_fields (Fields.absent fs) = pot_fields fs
    pot_fields (Fields.field p fs) = pot_piece p + pot_fields fs

    pub pot_piece : Piece → ℕ
    pot_piece (Piece.one n) = pot n
    pot_piece (Piece.list is) = pot_items is
    pot_piece (Piece.text bs) = 0
    pot_piece (Piece.byte b) = 0
    pot_piece (Piece.mark b) = 0
    pot_piece (Piece.number b) = 0

    pub pot_items : Items → ℕ
    pot_items Items.none = 0
    pot_items (Items.hole is) = pot_items is
    pot_items (Items.item n is) = pot n + pot_items is

  -- without its own
  unfoldable pub inner : Node → ℕ
  inner (node at k fs) = pot_fields fs

  -- ---- by kind

  own_at : (at k j : ℕ) (fs : Fields) → eqb k j ≡ true → pot (node at k fs) ≡ pot (node at j fs)
  own_at at k j fs e = ap (λ (m : ℕ). pot (node at m fs)) (eqb-true k j e)

  pub pot_34 : (p : Node) → is 34 p ≡ true → pot p ≡ slot_values (items_at_of 0 p) + resting (position p) (stands 1 p) (items_at_of 0 p) + inner p
  unfolding is pot own inner items_at_of stands
  pot_34 (node at k fs) e = own_at at k 34 fs e

  pub pot_36 : (p : Node) → is 36 p ≡ true → pot p ≡ slots (items_at_of 0 p) + slot (node_at_of 1 p) + inner p
  unfolding is pot own inner items_at_of node_at_of
  pot_36 (node at k fs) e = own_at at k 36 fs e

  pub pot_37 : (p : Node) → is 37 p ≡ true → pot p ≡ slot (node_at_of 0 p) + cond (gone (node_at_of 0 p)) 0 (here x (position p)) + inner p
  unfolding is pot own inner node_at_of
  pot_37 (node at k fs) e = own_at at k 37 fs e

  pub pot_35 : (q : Node) → is 35 q ≡ true → pot q ≡ inner q
  unfolding is pot own inner
  pot_35 (node at k fs) e = let h = own_at at k 35 fs e in omega arith

  pub pot_14 : (n : Node) → is 14 n ≡ true → pot n ≡ heads (items_at_of 3 n) + inner n
  unfolding is pot own inner items_at_of
  pot_14 (node at k fs) e = own_at at k 14 fs e

  pub pot_17 : (n : Node) → is 17 n ≡ true → pot n ≡ heads (items_at_of 0 n) + inner n
  unfolding is pot own inner items_at_of
  pot_17 (node at k fs) e = own_at at k 17 fs e

  pub pot_10 : (n : Node) → is 10 n ≡ true → pot n ≡ head_catch (node_at_of 0 n) + inner n
  unfolding is pot own inner node_at_of
  pot_10 (node at k fs) e = own_at at k 10 fs e

  pub pot_7 : (n : Node) → is 7 n ≡ true → pot n ≡ head_for (node_at_of 1 n) + inner n
  unfolding is pot own inner node_at_of
  pot_7 (node at k fs) e = own_at at k 7 fs e

  pub pot_8 : (n : Node) → is 8 n ≡ true → pot n ≡ head_for (node_at_of 1 n) + inner n
  unfolding is pot own inner node_at_of
  pot_8 (node at k fs) e = own_at at k 8 fs e

  pub pot_27 : (n : Node) → is 27 n ≡ true → pot n ≡ slot_top (node_at_of 1 n) + inner n
  unfolding is pot own inner node_at_of
  pot_27 (node at k fs) e = own_at at k 27 fs e

  pub pot_5 : (d : Node) → is 5 d ≡ true → pot d ≡ declaring (stands 1 d) (node_at_of 0 d) (node_at_of 1 d) + inner d
  unfolding is pot own inner node_at_of stands
  pot_5 (node at k fs) e = own_at at k 5 fs e

  pub pot_4 : (n : Node) → is 4 n ≡ true → pot n ≡ aliens (items_at_of 2 n) + inner n
  unfolding is pot own inner items_at_of
  pot_4 (node at k fs) e = own_at at k 4 fs e

  -- ---- parts

  pub inner_in : (n : Node) → inner n ≤ pot n
  unfolding inner pot
  inner_in (node at k fs) = omega arith

  pub piece_in_lem : (fs : Fields) (i : ℕ) → pot_piece (piece_in fs i) ≤ pot_fields fs
  unfolding pot piece_in
  piece_in_lem Fields.done i = omega arith
  piece_in_lem (Fields.absent fs) zero = omega arith
  piece_in_lem (Fields.absent fs) (suc i) = piece_in_lem fs i
  piece_in_lem (Fields.field p fs) zero = omega arith
  piece_in_lem (Fields.field p fs) (suc i) = let h = piece_in_lem fs i in omega arith

  pub two_pieces : (fs : Fields) (i j : ℕ) → i < j → pot_piece (piece_in fs i) + pot_piece (piece_in fs j) ≤ pot_fields fs
  unfolding piece_in pot
  two_pieces Fields.done i j h = omega arith
  two_pieces (Fields.absent fs) zero zero h = absurd (omega arith)
  two_pieces (Fields.absent fs) zero (suc j) h = let k = piece_in_lem fs j in omega arith
  two_pieces (Fields.absent fs) (suc i) zero h = absurd (omega arith)
  two_pieces (Fields.absent fs) (suc i) (suc j) h = two_pieces fs i j (omega arith)
  two_pieces (Fields.field p fs) zero zero h = absurd (omega arith)
  two_pieces (Fields.field p fs) zero (suc j) h = let k = piece_in_lem fs j in omega arith
  two_pieces (Fields.field p fs) (suc i) zero h = absurd (omega arith)
  two_pieces (Fields.field p fs) (suc i) (suc j) h = let k = two_pieces fs i j (omega arith) in omega arith

  pub nothing_pot : pot nothing ≡ 0
  unfolding pot own
  nothing_pot = refl

  pub as_node_lem : (p : Piece) → pot (as_node p) ≤ pot_piece p
  unfolding pot own
  as_node_lem (Piece.one n) = omega arith
  as_node_lem (Piece.list is) = omega arith
  as_node_lem (Piece.text bs) = omega arith
  as_node_lem (Piece.byte b) = omega arith
  as_node_lem (Piece.mark b) = omega arith
  as_node_lem (Piece.number b) = omega arith

  pub as_items : (p : Piece) → pot_items (as_items_of p) ≤ pot_piece p
  unfolding pot
  as_items (Piece.one n) = omega arith
  as_items (Piece.list is) = omega arith
  as_items (Piece.text bs) = omega arith
  as_items (Piece.byte b) = omega arith
  as_items (Piece.mark b) = omega arith
  as_items (Piece.number b) = omega arith

  pub node_in : (i : ℕ) (n : Node) → pot (node_at_of i n) ≤ inner n
  unfolding node_at_of inner
  node_in i (node at k fs) = let a = as_node_lem (piece_in fs i) in let b = piece_in_lem fs i in omega arith

  pub items_in_lem : (i : ℕ) (n : Node) → pot_items (items_at_of i n) ≤ inner n
  unfolding items_at_of inner
  items_in_lem i (node at k fs) = let a = as_items (piece_in fs i) in let b = piece_in_lem fs i in omega arith

  pub node_and_node : (i j : ℕ) → i < j → (n : Node) → pot (node_at_of i n) + pot (node_at_of j n) ≤ inner n
  unfolding node_at_of inner
  node_and_node i j h (node at k fs) =
      let a = as_node_lem (piece_in fs i) in let b = as_node_lem (piece_in fs j) in let c = two_pieces fs i j h in omega arith

  pub items_and_node : (i j : ℕ) → i < j → (n : Node) → pot_items (items_at_of i n) + pot (node_at_of j n) ≤ inner n
  unfolding node_at_of items_at_of inner
  items_and_node i j h (node at k fs) =
      let a = as_items (piece_in fs i) in let b = as_node_lem (piece_in fs j) in let c = two_pieces fs i j h in omega arith

  pub pot_append : (is js : Items) → pot_items (is +++ js) ≡ pot_items is + pot_items js
  unfolding pot ◌+++◌
  pot_append Items.none js = omega arith
  pot_append (Items.hole is) js = pot_append is js
  pot_append (Items.item n is) js = let h = pot_append is js in omega arith

  pub only_pot : (n : Node) → pot_items (only n) ≡ pot n
  unfolding pot
  only_pot n = omega arith

  pub none_pot : pot_items Items.none ≡ 0
  unfolding pot
  none_pot = refl

  pub temporary_pot : (path : List ℕ) (stem at : ℕ) → pot (temporary path stem at) ≡ 0
  unfolding pot own
  temporary_pot path stem at = refl

  -- each part has at most as much as all
  pub each_item : (b : ℕ) (is : Items) → pot_items is ≤ b → AllItems (λ m. pot m ≤ b) is
  unfolding pot
  each_item b Items.none h = tt
  each_item b (Items.hole is) h = each_item b is h
  each_item b (Items.item n is) h = (omega arith, each_item b is (omega arith))

  -- ---- a field changed

  node_exchange_piece : (f : Node → Node) (p : Piece) → pot_piece (on_node f p) + pot (as_node p) ≤ pot_piece p + pot (f (as_node p))
  unfolding on_node pot own
  node_exchange_piece f (Piece.one n) = omega arith
  node_exchange_piece f (Piece.list is) = omega arith
  node_exchange_piece f (Piece.text bs) = omega arith
  node_exchange_piece f (Piece.byte b) = omega arith
  node_exchange_piece f (Piece.mark b) = omega arith
  node_exchange_piece f (Piece.number b) = omega arith

  items_exchange_piece : (f : Items → Items) (p : Piece) → pot_piece (on_items f p) + pot_items (as_items_of p) ≤ pot_piece p + pot_items (f (as_items_of p))
  unfolding on_items pot
  items_exchange_piece f (Piece.one n) = omega arith
  items_exchange_piece f (Piece.list is) = omega arith
  items_exchange_piece f (Piece.text bs) = omega arith
  items_exchange_piece f (Piece.byte b) = omega arith
  items_exchange_piece f (Piece.mark b) = omega arith
  items_exchange_piece f (Piece.number b) = omega arith

  items_exchange_in : (f : Items → Items) (fs : Fields) (i : ℕ) → pot_fields (change_in fs i (on_items f)) + pot_items (as_items_of (piece_in fs i)) ≤ pot_fields fs + pot_items (f (as_items_of (piece_in fs i)))
  unfolding change_in piece_in pot
  items_exchange_in f Fields.done i = omega arith
  items_exchange_in f (Fields.absent fs) zero = omega arith
  items_exchange_in f (Fields.absent fs) (suc i) = items_exchange_in f fs i
  items_exchange_in f (Fields.field p fs) zero = let h = items_exchange_piece f p in omega arith
  items_exchange_in f (Fields.field p fs) (suc i) = let h = items_exchange_in f fs i in omega arith

  drop_exchange_in : (fs : Fields) (i : ℕ) → pot_fields (drop_in fs i) + pot (as_node (piece_in fs i)) ≤ pot_fields fs
  unfolding drop_in piece_in pot
  drop_exchange_in Fields.done i = let z = nothing_pot in omega arith
  drop_exchange_in (Fields.absent fs) zero = let z = nothing_pot in omega arith
  drop_exchange_in (Fields.absent fs) (suc i) = drop_exchange_in fs i
  drop_exchange_in (Fields.field p fs) zero = let h = as_node_lem p in omega arith
  drop_exchange_in (Fields.field p fs) (suc i) = let h = drop_exchange_in fs i in omega arith

  pub node_exchange_in : (f : Node → Node) (fs : Fields) (i : ℕ) → pot_fields (change_in fs i (on_node f)) + pot (as_node (piece_in fs i)) ≤ pot_fields fs + pot (f (as_node (piece_in fs i)))
  unfolding change_in piece_in pot
  node_exchange_in f Fields.done i = let z = nothing_pot in omega arith
  node_exchange_in f (Fields.absent fs) zero = let z = nothing_pot in omega arith
  node_exchange_in f (Fields.absent fs) (suc i) = node_exchange_in f fs i
  node_exchange_in f (Fields.field p fs) zero = let h = node_exchange_piece f p in omega arith
  node_exchange_in f (Fields.field p fs) (suc i) = let h = node_exchange_in f fs i in omega arith

  pub node_exchange : (i : ℕ) (f : Node → Node) (n : Node) → inner (change_node i f n) + pot (node_at_of i n) ≤ inner n + pot (f (node_at_of i n))
  unfolding change node_at_of inner
  node_exchange i f (node at k fs) = node_exchange_in f fs i

  pub items_exchange : (i : ℕ) (f : Items → Items) (n : Node) → inner (change_items i f n) + pot_items (items_at_of i n) ≤ inner n + pot_items (f (items_at_of i n))
  unfolding change items_at_of inner
  items_exchange i f (node at k fs) = items_exchange_in f fs i

  pub drop_exchange : (n : Node) → inner (without 1 n) + pot (node_at_of 1 n) ≤ inner n
  unfolding without node_at_of inner
  drop_exchange (node at k fs) = drop_exchange_in fs 1
