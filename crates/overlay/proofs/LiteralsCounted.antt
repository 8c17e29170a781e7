-- How often a literal or a Declaration stands in a tree, at the places where the rules look. `wanted` says which it is. A place that the
-- grammar does not have is not counted, so that what is said of the count holds of every tree.
-- Assumes nothing.
use mathlib.Core.Path.{◌≡◌, refl, ap, ap₂, ◌∙◌}
use mathlib.Core.Bool.{Bool, true, false, cond, ◌&&◌, ◌||◌, not}
use Prim.Native.Nat.{ℕ, zero, suc, ◌+◌, ◌≤◌}
use native.Mathlib.Omega.{arith}
use lib.Dec.{eqb}
use Rattle.tree.specs.Tree.{Node, Fields, Piece, Items}
use Rattle.tree.specs.Tree.Node.{node}
use Rattle.tree.specs.Tree.Fields.{done, absent, field}
use Rattle.tree.specs.Tree.Piece.{one, list, text, byte, mark, number}
use Rattle.tree.specs.Tree.Items.{none, hole, item}
use Rattle.lowering.specs.Parts.{is, piece_in, stands_in, change_in, as_node, as_items_of, node_at_of, any, ◌+++◌, only}
use Rattle.tree.proofs.Sound.{never}

-- ---- bodies that take statements in: 16 FunctionBody(directives*? body*), 2 Block(# body*)

abbrev pub is_list : Piece → Bool
is_list (one n) = false
is_list (list is) = true
is_list (text bs) = false
is_list (byte b) = false
is_list (mark b) = false
is_list (number b) = false

-- a node that is of the kind, and has its list, or of another kind
abbrev pub takes_in : ℕ → Node → Bool
takes_in j (node at k fs) = not (eqb k j) || is_list (piece_in fs 1)

abbrev pub takes : ℕ → Piece → Bool
takes j (one n) = takes_in j n
takes j (list is) = false
takes j (text bs) = false
takes j (byte b) = false
takes j (mark b) = false
takes j (number b) = false

-- parameters are 15 Param(pattern default?)
abbrev pub are_params : Piece → Bool
are_params (one n) = is 15 n
are_params (list ns) = not (any (λ n. not (is 15 n)) ns)
are_params (text bs) = true
are_params (byte b) = true
are_params (mark b) = true
are_params (number b) = true

-- 14 Function, 17 Arrow, 10 Catch, 7 ForIn and 8 ForOf have their bodies at 5, 2, 1 and 3
unfoldable pub has_body : ℕ → Fields → Bool
has_body k fs =
    cond (eqb k 14) ((not (stands_in fs 5) || takes 16 (piece_in fs 5)) && are_params (piece_in fs 3))
    (cond (eqb k 17) (takes 16 (piece_in fs 2) && are_params (piece_in fs 0))
    (cond (eqb k 10) (takes 2 (piece_in fs 1) && are_params (piece_in fs 0))
    (cond (eqb k 7 || eqb k 8) (takes 2 (piece_in fs 3)) true)))

-- names, and 13 Empty(#), have no parts
unfoldable pub is_atom : ℕ → Bool
is_atom k = eqb k 13 || (eqb k 18 || eqb k 20)

-- how a field is counted: as a node; as the left of a Default or the id of a Declarator, which are no Default; as a list; as the properties of an
-- ObjectPattern, 35 PatternProperty(key value flags=); as declarators, 5 Declarator(id init?)
pub data Way : Type 0 where
  as_one : Way
  as_left : Way
  as_list : Way
  as_parts : Way
  as_declared : Way

module _ (wanted : Node → Bool) where
  -- 7 ForIn and 8 ForOf change the Declaration that is their left. Where that one is wanted, nothing is counted
  abbrev pub changes_it : ℕ → Fields → Bool
  changes_it k fs = (eqb k 7 || eqb k 8) && (is 4 (as_node (piece_in fs 1)) && wanted (as_node (piece_in fs 1)))

  unfoldable mutual
    pub held : Node → ℕ
    held (node at k fs) =
        let own : ℕ = cond (wanted (node at k fs)) 1 0 in
        cond (eqb k 24) (own + held_at fs Way.as_list 0)
        (cond (eqb k 26) (held_at fs Way.as_one 0)
        (cond (eqb k 27) (held_at fs Way.as_one 1 + held_at fs Way.as_one 2)
        (cond (eqb k 34) (held_at fs Way.as_parts 0 + held_at fs Way.as_one 1)
        (cond (eqb k 37) (held_at fs Way.as_left 0 + held_at fs Way.as_one 1)
        (cond (eqb k 4) (own + held_at fs Way.as_declared 2)
        (cond (is_atom k) 0
        (cond (has_body k fs) (cond (changes_it k fs) 0 (held_all fs)) 0)))))))

    pub held_all : Fields → ℕ
    held_all done = 0
    held_all (absent fs) = held_all fs
    held_all (field p fs) = held_piece p + held_all fs

    pub held_piece : Piece → ℕ
    held_piece (one n) = held n
    held_piece (list is) = held_items_of is
    held_piece (text bs) = 0
    held_piece (byte b) = 0
    held_piece (mark b) = 0
    held_piece (number b) = 0

    pub held_items_of : Items → ℕ
    held_items_of none = 0
    held_items_of (hole is) = held_items_of is
    held_items_of (item n is) = held n + held_items_of is

    pub held_at : Fields → Way → ℕ → ℕ
    held_at done w i = 0
    held_at (absent fs) w zero = 0
    held_at (absent fs) w (suc i) = held_at fs w i
    held_at (field p fs) w zero = held_by p w
    held_at (field p fs) w (suc i) = held_at fs w i

    pub held_by : Piece → Way → ℕ
    held_by (one n) Way.as_one = held n
    held_by (one n) Way.as_left = cond (is 37 n) 0 (held n)
    held_by (one n) Way.as_list = 0
    held_by (one n) Way.as_parts = 0
    held_by (one n) Way.as_declared = 0
    held_by (list is) Way.as_one = 0
    held_by (list is) Way.as_left = 0
    held_by (list is) Way.as_list = held_items_of is
    held_by (list is) Way.as_parts = held_parts is
    held_by (list is) Way.as_declared = held_declarators is
    held_by (text bs) w = 0
    held_by (byte b) w = 0
    held_by (mark b) w = 0
    held_by (number b) w = 0

    pub held_parts : Items → ℕ
    held_parts none = 0
    held_parts (hole ns) = held_parts ns
    held_parts (item n ns) = cond (is 35 n) (held n) 0 + held_parts ns

    pub held_declarators : Items → ℕ
    held_declarators none = 0
    held_declarators (hole is) = held_declarators is
    held_declarators (item d is) = held_declarator d + held_declarators is

    pub held_declarator : Node → ℕ
    held_declarator (node at k fs) = cond (eqb k 5) (held_at fs Way.as_left 0 + held_at fs Way.as_one 1) 0

  abbrev pub held_pattern : Node → ℕ
  held_pattern n = cond (is 37 n) 0 (held n)

  -- ---- by the parts that the rules read

  at_held : (fs : Fields) (w : Way) (i : ℕ) → held_at fs w i ≡ held_by (piece_in fs i) w
  unfolding held piece_in
  at_held done w i = refl
  at_held (absent fs) w zero = refl
  at_held (absent fs) w (suc i) = at_held fs w i
  at_held (field p fs) w zero = refl
  at_held (field p fs) w (suc i) = at_held fs w i

  one_by : (p : Piece) → held_by p Way.as_one ≡ held (as_node p)
  unfolding held is_atom has_body
  one_by (one n) = refl
  one_by (list n) = refl
  one_by (text n) = refl
  one_by (byte n) = refl
  one_by (mark n) = refl
  one_by (number n) = refl

  left_by : (p : Piece) → held_by p Way.as_left ≡ held_pattern (as_node p)
  unfolding held is_atom has_body is
  left_by (one n) = refl
  left_by (list n) = refl
  left_by (text n) = refl
  left_by (byte n) = refl
  left_by (mark n) = refl
  left_by (number n) = refl

  list_by : (p : Piece) → held_by p Way.as_list ≡ held_items_of (as_items_of p)
  unfolding held
  list_by (one n) = refl
  list_by (list n) = refl
  list_by (text n) = refl
  list_by (byte n) = refl
  list_by (mark n) = refl
  list_by (number n) = refl

  parts_by : (p : Piece) → held_by p Way.as_parts ≡ held_parts (as_items_of p)
  unfolding held
  parts_by (one n) = refl
  parts_by (list n) = refl
  parts_by (text n) = refl
  parts_by (byte n) = refl
  parts_by (mark n) = refl
  parts_by (number n) = refl

  declared_by : (p : Piece) → held_by p Way.as_declared ≡ held_declarators (as_items_of p)
  unfolding held
  declared_by (one n) = refl
  declared_by (list n) = refl
  declared_by (text n) = refl
  declared_by (byte n) = refl
  declared_by (mark n) = refl
  declared_by (number n) = refl

  one_held : (fs : Fields) (i : ℕ) → held_at fs Way.as_one i ≡ held (as_node (piece_in fs i))
  one_held fs i = at_held fs Way.as_one i ∙ one_by (piece_in fs i)

  left_held : (fs : Fields) (i : ℕ) → held_at fs Way.as_left i ≡ held_pattern (as_node (piece_in fs i))
  left_held fs i = at_held fs Way.as_left i ∙ left_by (piece_in fs i)

  -- ---- each kind that is counted by its parts

  pub at_24 : (at : ℕ) (fs : Fields) → held (node at 24 fs) ≡ cond (wanted (node at 24 fs)) 1 0 + held_items_of (as_items_of (piece_in fs 0))
  unfolding held
  at_24 at fs = ap (λ (x : ℕ). cond (wanted (node at 24 fs)) 1 0 + x) (at_held fs Way.as_list 0 ∙ list_by (piece_in fs 0))

  pub at_26 : (at : ℕ) (fs : Fields) → held (node at 26 fs) ≡ held (as_node (piece_in fs 0))
  unfolding held
  at_26 at fs = one_held fs 0

  pub at_27 : (at : ℕ) (fs : Fields) → held (node at 27 fs) ≡ held (as_node (piece_in fs 1)) + held (as_node (piece_in fs 2))
  unfolding held
  at_27 at fs = ap₂ (λ (x y : ℕ). x + y) (one_held fs 1) (one_held fs 2)

  pub at_34 : (at : ℕ) (fs : Fields) → held (node at 34 fs) ≡ held_parts (as_items_of (piece_in fs 0)) + held (as_node (piece_in fs 1))
  unfolding held
  at_34 at fs = ap₂ (λ (x y : ℕ). x + y) (at_held fs Way.as_parts 0 ∙ parts_by (piece_in fs 0)) (one_held fs 1)

  pub at_37 : (at : ℕ) (fs : Fields) → held (node at 37 fs) ≡ held_pattern (as_node (piece_in fs 0)) + held (as_node (piece_in fs 1))
  unfolding held
  at_37 at fs = ap₂ (λ (x y : ℕ). x + y) (left_held fs 0) (one_held fs 1)

  pub at_4 : (at : ℕ) (fs : Fields) → held (node at 4 fs) ≡ cond (wanted (node at 4 fs)) 1 0 + held_declarators (as_items_of (piece_in fs 2))
  unfolding held
  at_4 at fs = ap (λ (x : ℕ). cond (wanted (node at 4 fs)) 1 0 + x) (at_held fs Way.as_declared 2 ∙ declared_by (piece_in fs 2))

  pub declarator_held : (d : Node) → held_declarator d ≡ cond (is 5 d) (held_pattern (node_at_of 0 d) + held (node_at_of 1 d)) 0
  unfolding held node_at_of is
  declarator_held (node at k fs) = ap (λ (x : ℕ). cond (eqb k 5) x 0) (ap₂ (λ (x y : ℕ). x + y) (left_held fs 0) (one_held fs 1))

  -- ---- lists

  pub held_append : (is js : Items) → held_items_of (is +++ js) ≡ held_items_of is + held_items_of js
  unfolding held ◌+++◌
  held_append none js = omega arith
  held_append (hole is) js = held_append is js
  held_append (item n is) js = let h = held_append is js in omega arith

  -- ---- a field changed

  pub piece_all : (fs : Fields) (i : ℕ) → held_piece (piece_in fs i) ≤ held_all fs
  unfolding held piece_in
  piece_all done i = omega arith
  piece_all (absent fs) zero = omega arith
  piece_all (absent fs) (suc i) = piece_all fs i
  piece_all (field p fs) zero = omega arith
  piece_all (field p fs) (suc i) = let h = piece_all fs i in omega arith

  -- what the change takes away is at most x
  pub change_less : (fs : Fields) (i : ℕ) (f : Piece → Piece) (x : ℕ) → held_piece (piece_in fs i) ≤ held_piece (f (piece_in fs i)) + x → held_all fs ≤ held_all (change_in fs i f) + x
  unfolding held piece_in change_in
  change_less done i f x h = omega arith
  change_less (absent fs) zero f x h = omega arith
  change_less (absent fs) (suc i) f x h = change_less fs i f x h
  change_less (field p fs) zero f x h = omega arith
  change_less (field p fs) (suc i) f x h = let r = change_less fs i f x h in omega arith

  -- what it adds is at least x
  pub change_more : (fs : Fields) (i : ℕ) (f : Piece → Piece) (x : ℕ) → stands_in fs i ≡ true → held_piece (piece_in fs i) + x ≤ held_piece (f (piece_in fs i)) → held_all fs + x ≤ held_all (change_in fs i f)
  unfolding held piece_in change_in stands_in
  change_more done i f x s h = never s
  change_more (absent fs) zero f x s h = never s
  change_more (absent fs) (suc i) f x s h = change_more fs i f x s h
  change_more (field p fs) zero f x s h = omega arith
  change_more (field p fs) (suc i) f x s h = let r = change_more fs i f x s h in omega arith

  -- ---- some of the parts are at most all

  pub node_most : (p : Piece) → held (as_node p) ≤ held_piece p
  unfolding held is_atom has_body
  node_most (one n) = omega arith
  node_most (list n) = omega arith
  node_most (text n) = omega arith
  node_most (byte n) = omega arith
  node_most (mark n) = omega arith
  node_most (number n) = omega arith

  pub only_held : (n : Node) → held_items_of (only n) ≡ held n
  unfolding held
  only_held n = omega arith

  pub two_all : (fs : Fields) → held_piece (piece_in fs 0) + held_piece (piece_in fs 1) ≤ held_all fs
  unfolding held piece_in
  two_all done = omega arith
  two_all (absent fs) = let h = piece_all fs 0 in omega arith
  two_all (field p fs) = let h = piece_all fs 0 in omega arith
