-- How much a tree weighs: each mark by `out`, each key beside a rest by `kin`, and besides that what a rule copies: the keys that the rest leaves
-- out as they stand, and a name from which a declarator reads. What is said of it holds of every tree.
-- Assumes nothing.
use mathlib.Core.Path.{◌≡◌, refl, ap, ap₂, ◌∙◌}
use mathlib.Core.Bool.{Bool, true, false, cond}
use mathlib.Core.List.{List}
use Prim.Native.Nat.{ℕ, zero, suc, ◌+◌, ◌≤◌}
use native.Mathlib.Omega.{arith}
use lib.Dec.{eqb}
use Rattle.tree.specs.Tree.{Node, Fields, Piece, Items}
use Rattle.tree.specs.Tree.Node.{node}
use Rattle.tree.specs.Tree.Fields.{done, absent, field}
use Rattle.tree.specs.Tree.Piece.{one, list, text, byte, mark, number}
use Rattle.tree.specs.Tree.Items.{none, hole, item}
use Rattle.lowering.specs.Parts.{nothing, is, piece_in, stands_in, change_in, as_node, as_items_of, node_at_of, items_at_of, stands, on_node, only, each, gather, ◌+++◌}
use Rattle.lowering.specs.Made.{temporary}
use Rattle.lowering.specs.Patterns.{key}
use Rattle.lowering.specs.Keys.{Key, key_sort}
use Rattle.lowering.specs.Declarations.{is_name_of}
use Rattle.lowering.proofs.ChangeLaws.{stands_changed}

-- a key that stands among the excluded keys as it is
unfoldable pub is_copied : Node → Bool
is_copied k =
    elim (key_sort k) [ Key.name ↦ false | Key.literal ↦ false | Key.template ↦ true | Key.private ↦ false | Key.again ↦ true | Key.other ↦ false ]

-- ---- a sum over the items of a list

unfoldable pub total : (Node → ℕ) → Items → ℕ
total f none = 0
total f (hole is) = total f is
total f (item n is) = f n + total f is

pub total_append : (f : Node → ℕ) (is js : Items) → total f (is +++ js) ≡ total f is + total f js
unfolding total ◌+++◌
total_append f none js = omega arith
total_append f (hole is) js = total_append f is js
total_append f (item n is) js = let h = total_append f is js in omega arith

pub total_plus : (f g : Node → ℕ) (is : Items) → total (λ n. f n + g n) is ≡ total f is + total g is
unfolding total
total_plus f g none = omega arith
total_plus f g (hole is) = total_plus f g is
total_plus f g (item n is) = let h = total_plus f g is in omega arith

pub total_most : (f g : Node → ℕ) → ((n : Node) → f n ≤ g n) → (is : Items) → total f is ≤ total g is
unfolding total
total_most f g h none = omega arith
total_most f g h (hole is) = total_most f g h is
total_most f g h (item n is) = let a = h n in let r = total_most f g h is in omega arith

pub total_gather : (f : Node → ℕ) (g : Node → Items) (is : Items) → total f (gather g is) ≡ total (λ n. total f (g n)) is
unfolding total gather
total_gather f g none = refl
total_gather f g (hole is) = total_gather f g is
total_gather f g (item n is) = let h = total_gather f g is in let a = total_append f (g n) (gather g is) in omega arith

pub total_each : (f : Node → ℕ) (g : Node → Node) (is : Items) → total f (each g is) ≡ total (λ n. f (g n)) is
unfolding total each
total_each f g none = refl
total_each f g (hole is) = total_each f g is
total_each f g (item n is) = let h = total_each f g is in omega arith

pub total_none : (f : Node → ℕ) (is : Items) → ((n : Node) → f n ≡ 0) → total f is ≡ 0
unfolding total
total_none f none h = refl
total_none f (hole is) h = total_none f is h
total_none f (item n is) h = let a = h n in let r = total_none f is h in omega arith

-- ---- the weight

module _ (out : ℕ → ℕ) (kin : Node → ℕ) where
  unfoldable mutual
    pub weigh : Node → ℕ
    weigh (node at k fs) = weigh_all fs + cond (eqb k 34) (keys_in (stands_in fs 1) fs) (cond (eqb k 4) (sources_in fs 2) 0)

    pub weigh_all : Fields → ℕ
    weigh_all done = 0
    weigh_all (absent fs) = weigh_all fs
    weigh_all (field p fs) = weigh_piece p + weigh_all fs

    pub weigh_piece : Piece → ℕ
    weigh_piece (one n) = weigh n
    weigh_piece (list is) = weigh_items is
    weigh_piece (text bs) = 0
    weigh_piece (byte b) = 0
    weigh_piece (mark m) = out m
    weigh_piece (number b) = 0

    pub weigh_items : Items → ℕ
    weigh_items none = 0
    weigh_items (hole is) = weigh_items is
    weigh_items (item n is) = weigh n + weigh_items is

    -- the list of field 0 as properties of a pattern, which has a rest if r says so
    pub keys_in : Bool → Fields → ℕ
    keys_in r done = 0
    keys_in r (absent fs) = 0
    keys_in r (field p fs) = keys_piece r p

    pub keys_piece : Bool → Piece → ℕ
    keys_piece r (one n) = 0
    keys_piece r (list is) = keys_items r is
    keys_piece r (text bs) = 0
    keys_piece r (byte b) = 0
    keys_piece r (mark m) = 0
    keys_piece r (number b) = 0

    pub keys_items : Bool → Items → ℕ
    keys_items r none = 0
    keys_items r (hole is) = keys_items r is
    keys_items r (item q is) = key_node r q + keys_items r is

    pub key_node : Bool → Node → ℕ
    key_node r (node at k fs) = key_fields r fs

    pub key_fields : Bool → Fields → ℕ
    key_fields r done = 0
    key_fields r (absent fs) = 0
    key_fields r (field p fs) = key_piece r p

    pub key_piece : Bool → Piece → ℕ
    key_piece r (one k) = cond r (kin k + cond (is_copied k) (weigh k + kin k) 0) 0
    key_piece r (list is) = 0
    key_piece r (text bs) = 0
    key_piece r (byte b) = 0
    key_piece r (mark m) = 0
    key_piece r (number b) = 0

    -- the list of field i as declarators
    pub sources_in : Fields → ℕ → ℕ
    sources_in done i = 0
    sources_in (absent fs) zero = 0
    sources_in (absent fs) (suc i) = sources_in fs i
    sources_in (field p fs) zero = sources_piece p
    sources_in (field p fs) (suc i) = sources_in fs i

    pub sources_piece : Piece → ℕ
    sources_piece (one n) = 0
    sources_piece (list is) = sources_items is
    sources_piece (text bs) = 0
    sources_piece (byte b) = 0
    sources_piece (mark m) = 0
    sources_piece (number b) = 0

    pub sources_items : Items → ℕ
    sources_items none = 0
    sources_items (hole is) = sources_items is
    sources_items (item d is) = source_node d + sources_items is

    pub source_node : Node → ℕ
    source_node (node at k fs) = source_in_of fs 1

    pub source_in_of : Fields → ℕ → ℕ
    source_in_of done i = 0
    source_in_of (absent fs) zero = 0
    source_in_of (absent fs) (suc i) = source_in_of fs i
    source_in_of (field p fs) zero = source_piece p
    source_in_of (field p fs) (suc i) = source_in_of fs i

    pub source_piece : Piece → ℕ
    source_piece (one n) = cond (is_name_of n) (weigh n + weigh n) 0
    source_piece (list is) = 0
    source_piece (text bs) = 0
    source_piece (byte b) = 0
    source_piece (mark m) = 0
    source_piece (number b) = 0

  -- ---- by the parts that the rules read

  pub nothing_weighs : weigh nothing ≡ 0
  unfolding weigh
  nothing_weighs = refl

  pub temporary_weighs : (path : List ℕ) (stem at : ℕ) → weigh (temporary path stem at) ≡ 0
  unfolding weigh
  temporary_weighs path stem at = refl

  pub keys_by : (r : Bool) (fs : Fields) → keys_in r fs ≡ keys_items r (as_items_of (piece_in fs 0))
  unfolding weigh piece_in
  keys_by r done = refl
  keys_by r (absent fs) = refl
  keys_by r (field (one n) fs) = refl
  keys_by r (field (list n) fs) = refl
  keys_by r (field (text n) fs) = refl
  keys_by r (field (byte n) fs) = refl
  keys_by r (field (mark n) fs) = refl
  keys_by r (field (number n) fs) = refl

  pub sources_by : (fs : Fields) (i : ℕ) → sources_in fs i ≡ sources_items (as_items_of (piece_in fs i))
  unfolding weigh piece_in
  sources_by done i = refl
  sources_by (absent fs) zero = refl
  sources_by (absent fs) (suc i) = sources_by fs i
  sources_by (field (one n) fs) zero = refl
  sources_by (field (list n) fs) zero = refl
  sources_by (field (text n) fs) zero = refl
  sources_by (field (byte n) fs) zero = refl
  sources_by (field (mark n) fs) zero = refl
  sources_by (field (number n) fs) zero = refl
  sources_by (field p fs) (suc i) = sources_by fs i

  -- what a source weighs besides
  abbrev pub again : Node → ℕ
  again e = cond (is_name_of e) (weigh e + weigh e) 0

  source_in : (fs : Fields) (i : ℕ) → source_in_of fs i ≡ again (as_node (piece_in fs i))
  unfolding weigh piece_in is_name_of is
  source_in done i = refl
  source_in (absent fs) zero = refl
  source_in (absent fs) (suc i) = source_in fs i
  source_in (field (one n) fs) zero = refl
  source_in (field (list n) fs) zero = refl
  source_in (field (text n) fs) zero = refl
  source_in (field (byte n) fs) zero = refl
  source_in (field (mark n) fs) zero = refl
  source_in (field (number n) fs) zero = refl
  source_in (field p fs) (suc i) = source_in fs i

  pub source_by : (d : Node) → source_node d ≡ again (node_at_of 1 d)
  unfolding weigh node_at_of
  source_by (node at k fs) = source_in fs 1

  -- what a key weighs besides
  abbrev pub of_key : Bool → Node → ℕ
  of_key r k = cond r (kin k + cond (is_copied k) (weigh k + kin k) 0) 0

  module _ (none_kin : kin nothing ≡ 0) where
    nothing_key : (r : Bool) → 0 ≡ of_key r nothing
    unfolding is_copied key_sort is items_at_of stands
    nothing_key true = omega arith
    nothing_key false = refl

    key_in : (r : Bool) (fs : Fields) → key_fields r fs ≡ of_key r (as_node (piece_in fs 0))
    unfolding weigh piece_in
    key_in r done = nothing_key r
    key_in r (absent fs) = nothing_key r
    key_in r (field (one n) fs) = refl
    key_in r (field (list n) fs) = nothing_key r
    key_in r (field (text n) fs) = nothing_key r
    key_in r (field (byte n) fs) = nothing_key r
    key_in r (field (mark n) fs) = nothing_key r
    key_in r (field (number n) fs) = nothing_key r

    pub key_by_lem : (r : Bool) (q : Node) → key_node r q ≡ of_key r (key q)
    unfolding weigh node_at_of
    key_by_lem r (node at k fs) = key_in r fs

  -- ---- some of the parts are at most all

  pub all_most : (at k : ℕ) (fs : Fields) → weigh_all fs ≤ weigh (node at k fs)
  unfolding weigh
  all_most at k fs = omega arith

  pub piece_most : (fs : Fields) (i : ℕ) → weigh_piece (piece_in fs i) ≤ weigh_all fs
  unfolding weigh piece_in
  piece_most done i = omega arith
  piece_most (absent fs) zero = omega arith
  piece_most (absent fs) (suc i) = piece_most fs i
  piece_most (field p fs) zero = omega arith
  piece_most (field p fs) (suc i) = let h = piece_most fs i in omega arith

  pub node_most : (p : Piece) → weigh (as_node p) ≤ weigh_piece p
  unfolding weigh
  node_most (one n) = omega arith
  node_most (list n) = omega arith
  node_most (text n) = omega arith
  node_most (byte n) = omega arith
  node_most (mark n) = omega arith
  node_most (number n) = omega arith

  pub at_most : (i : ℕ) (p : Node) → weigh (node_at_of i p) ≤ weigh p
  unfolding node_at_of
  at_most i (node at k fs) = let a = node_most (piece_in fs i) in let b = piece_most fs i in let e = all_most at k fs in omega arith

  pub list_most : (p : Piece) → weigh_items (as_items_of p) ≤ weigh_piece p
  unfolding weigh
  list_most (one n) = omega arith
  list_most (list n) = omega arith
  list_most (text n) = omega arith
  list_most (byte n) = omega arith
  list_most (mark n) = omega arith
  list_most (number n) = omega arith

  pub two_most : (fs : Fields) → weigh_piece (piece_in fs 0) + weigh_piece (piece_in fs 1) ≤ weigh_all fs
  unfolding weigh piece_in
  two_most done = omega arith
  two_most (absent fs) = let h = piece_most fs 0 in omega arith
  two_most (field p fs) = let h = piece_most fs 0 in omega arith

  pub next_two : (fs : Fields) → weigh_piece (piece_in fs 1) + weigh_piece (piece_in fs 2) ≤ weigh_all fs
  unfolding weigh piece_in
  next_two done = omega arith
  next_two (absent fs) = let h = two_most fs in omega arith
  next_two (field p fs) = let h = two_most fs in omega arith

  pub items_append : (is js : Items) → weigh_items (is +++ js) ≡ weigh_items is + weigh_items js
  unfolding weigh ◌+++◌
  items_append none js = omega arith
  items_append (hole is) js = items_append is js
  items_append (item n is) js = let h = items_append is js in omega arith

  pub only_weighs : (n : Node) → weigh_items (only n) ≡ weigh n
  unfolding weigh
  only_weighs n = omega arith

  pub items_gather : (g : Node → Items) (is : Items) → weigh_items (gather g is) ≡ total (λ n. weigh_items (g n)) is
  unfolding weigh total gather
  items_gather g none = refl
  items_gather g (hole is) = items_gather g is
  items_gather g (item n is) = let h = items_gather g is in let a = items_append (g n) (gather g is) in omega arith

  -- ---- a field changed

  -- what the change takes away is at least x
  pub change_less : (fs : Fields) (i : ℕ) (f : Piece → Piece) (x : ℕ) → weigh_piece (f (piece_in fs i)) + x ≤ weigh_piece (piece_in fs i) → weigh_all (change_in fs i f) + x ≤ weigh_all fs
  unfolding weigh piece_in change_in
  change_less done i f x h = omega arith
  change_less (absent fs) zero f x h = omega arith
  change_less (absent fs) (suc i) f x h = change_less fs i f x h
  change_less (field p fs) zero f x h = omega arith
  change_less (field p fs) (suc i) f x h = let r = change_less fs i f x h in omega arith

  -- what it adds is at most x
  pub change_more : (fs : Fields) (i : ℕ) (f : Piece → Piece) (x : ℕ) → ((p : Piece) → weigh_piece (f p) ≤ weigh_piece p + x) → weigh_all (change_in fs i f) ≤ weigh_all fs + x
  unfolding weigh change_in
  change_more done i f x h = omega arith
  change_more (absent fs) zero f x h = omega arith
  change_more (absent fs) (suc i) f x h = change_more fs i f x h
  change_more (field p fs) zero f x h = let a = h p in omega arith
  change_more (field p fs) (suc i) f x h = let r = change_more fs i f x h in omega arith

  -- a node changed in a field that is no list keeps what it weighs besides
  abbrev besides : ℕ → Fields → ℕ
  besides k fs = cond (eqb k 34) (keys_in (stands_in fs 1) fs) (cond (eqb k 4) (sources_in fs 2) 0)

  keys_node : (r : Bool) (fs : Fields) (i : ℕ) (g : Node → Node) → keys_in r (change_in fs i (on_node g)) ≡ keys_in r fs
  unfolding weigh change_in on_node
  keys_node r done i g = refl
  keys_node r (absent fs) zero g = refl
  keys_node r (absent fs) (suc i) g = refl
  keys_node r (field (one n) fs) zero g = refl
  keys_node r (field (list n) fs) zero g = refl
  keys_node r (field (text n) fs) zero g = refl
  keys_node r (field (byte n) fs) zero g = refl
  keys_node r (field (mark n) fs) zero g = refl
  keys_node r (field (number n) fs) zero g = refl
  keys_node r (field p fs) (suc i) g = refl

  sources_node : (fs : Fields) (j i : ℕ) (g : Node → Node) → sources_in (change_in fs i (on_node g)) j ≡ sources_in fs j
  unfolding weigh change_in on_node
  sources_node done j i g = refl
  sources_node (absent fs) j zero g = refl
  sources_node (absent fs) zero (suc i) g = refl
  sources_node (absent fs) (suc j) (suc i) g = sources_node fs j i g
  sources_node (field (one n) fs) zero zero g = refl
  sources_node (field (list n) fs) zero zero g = refl
  sources_node (field (text n) fs) zero zero g = refl
  sources_node (field (byte n) fs) zero zero g = refl
  sources_node (field (mark n) fs) zero zero g = refl
  sources_node (field (number n) fs) zero zero g = refl
  sources_node (field p fs) (suc j) zero g = refl
  sources_node (field p fs) zero (suc i) g = refl
  sources_node (field p fs) (suc j) (suc i) g = sources_node fs j i g

  besides_node : (k : ℕ) (fs : Fields) (i : ℕ) (g : Node → Node) → besides k (change_in fs i (on_node g)) ≡ besides k fs
  besides_node k fs i g =
      ap₂ (λ (x y : ℕ). cond (eqb k 34) x (cond (eqb k 4) y 0))
      (keys_node (stands_in (change_in fs i (on_node g)) 1) fs i g ∙ ap (λ (r : Bool). keys_in r fs) (stands_changed fs i (on_node g) 1))
      (sources_node fs 2 i g)

  pub change_node_less_lem : (at k : ℕ) (fs : Fields) (i : ℕ) (g : Node → Node) (x : ℕ) → weigh_piece (on_node g (piece_in fs i)) + x ≤ weigh_piece (piece_in fs i)
      → weigh (node at k (change_in fs i (on_node g))) + x ≤ weigh (node at k fs)
  unfolding weigh
  change_node_less_lem at k fs i g x h =
      let r = change_less fs i (on_node g) x h in
      let e = besides_node k fs i g in
      omega arith
