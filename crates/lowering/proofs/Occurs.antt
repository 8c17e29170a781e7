-- How often a name stands in a tree. What the views of a pattern put there are temporaries that are made with them.
-- Assumes nothing.
use mathlib.Core.Path.{◌≡◌, refl, sym, ap, ◌∙◌}
use mathlib.Core.Bool.{cond, ◌&&◌}
use mathlib.Core.List.{List}
use Prim.Native.Nat.{ℕ, zero, suc, ◌+◌, ◌≤◌, ◌<◌}
use native.Mathlib.Omega.{arith}
use lib.Dec.{eqb}
use Rattle.tree.specs.Tree.{Node, Fields, Piece, Items}
use Rattle.tree.specs.Tree.Node.{node}
use Rattle.tree.specs.Tree.Fields.{done, absent, field}
use Rattle.tree.specs.Tree.Piece.{one, list, text, byte, mark, number}
use Rattle.tree.specs.Tree.Items.{none, hole, item}
use Rattle.lowering.specs.Parts.{nothing, position, is, piece_in, change_in, as_node, as_items_of, as_text, as_number, node_at_of, items_at_of, text_at_of, number_at, change, on_node, on_items, change_node, change_items, only, each, gather, ◌+++◌}
use Rattle.lowering.specs.Made.{Context, temporary, reference}
use Rattle.lowering.specs.Patterns.{shape, properties, items_of, rest, has_rest_of, value, with_items, with_rest, with_values, replaced, objects_with_rest}
use Rattle.lowering.specs.Heads.{moved, moved_pattern, moved_out_of}
use Rattle.lowering.specs.Collect.{Name, name_of, same}
use Rattle.lowering.proofs.All.{AllItems}
use Rattle.lowering.proofs.Cases.{by_test, by_shape}
use Rattle.lowering.proofs.Clauses.{objects_object, objects_array, objects_default, objects_leaf, replaced_object, replaced_array, replaced_default, replaced_leaf}
use Rattle.lowering.proofs.MadeAtSites.{times, times_append, only_times}
use Rattle.lowering.proofs.ItemLaws.{each_append}
use Rattle.lowering.proofs.ChangeLaws.{position_changed}

-- ---- changes of a field that leave texts and numbers alone

pub record Plain (f : Piece → Piece) : Type 0 where
  pub texts : (p : Piece) → as_text (f p) ≡ as_text p
  pub numbers : (p : Piece) → as_number (f p) ≡ as_number p

node_texts : (f : Node → Node) (p : Piece) → as_text (on_node f p) ≡ as_text p
unfolding on_node
node_texts f (one n) = refl
node_texts f (list is) = refl
node_texts f (text bs) = refl
node_texts f (byte b) = refl
node_texts f (mark b) = refl
node_texts f (number b) = refl

node_numbers : (f : Node → Node) (p : Piece) → as_number (on_node f p) ≡ as_number p
unfolding on_node
node_numbers f (one n) = refl
node_numbers f (list is) = refl
node_numbers f (text bs) = refl
node_numbers f (byte b) = refl
node_numbers f (mark b) = refl
node_numbers f (number b) = refl

items_texts : (f : Items → Items) (p : Piece) → as_text (on_items f p) ≡ as_text p
unfolding on_items
items_texts f (one n) = refl
items_texts f (list is) = refl
items_texts f (text bs) = refl
items_texts f (byte b) = refl
items_texts f (mark b) = refl
items_texts f (number b) = refl

items_numbers : (f : Items → Items) (p : Piece) → as_number (on_items f p) ≡ as_number p
unfolding on_items
items_numbers f (one n) = refl
items_numbers f (list is) = refl
items_numbers f (text bs) = refl
items_numbers f (byte b) = refl
items_numbers f (mark b) = refl
items_numbers f (number b) = refl

pub on_node_lem : (f : Node → Node) → Plain (on_node f)
on_node_lem f = record { texts = node_texts f; numbers = node_numbers f }

pub on_items_lem : (f : Items → Items) → Plain (on_items f)
on_items_lem f = record { texts = items_texts f; numbers = items_numbers f }

text_kept : (f : Piece → Piece) → Plain f → (fs : Fields) (i j : ℕ) → as_text (piece_in (change_in fs i f) j) ≡ as_text (piece_in fs j)
unfolding change_in piece_in
text_kept f l done i j = refl
text_kept f l (absent fs) zero j = refl
text_kept f l (absent fs) (suc i) zero = refl
text_kept f l (absent fs) (suc i) (suc j) = text_kept f l fs i j
text_kept f l (field p fs) zero zero = l.texts p
text_kept f l (field p fs) zero (suc j) = refl
text_kept f l (field p fs) (suc i) zero = refl
text_kept f l (field p fs) (suc i) (suc j) = text_kept f l fs i j

number_kept : (f : Piece → Piece) → Plain f → (fs : Fields) (i j : ℕ) → as_number (piece_in (change_in fs i f) j) ≡ as_number (piece_in fs j)
unfolding change_in piece_in
number_kept f l done i j = refl
number_kept f l (absent fs) zero j = refl
number_kept f l (absent fs) (suc i) zero = refl
number_kept f l (absent fs) (suc i) (suc j) = number_kept f l fs i j
number_kept f l (field p fs) zero zero = l.numbers p
number_kept f l (field p fs) zero (suc j) = refl
number_kept f l (field p fs) (suc i) zero = refl
number_kept f l (field p fs) (suc i) (suc j) = number_kept f l fs i j

name_kept : (f : Piece → Piece) → Plain f → (at k : ℕ) (fs : Fields) (i : ℕ) → name_of (node at k (change_in fs i f)) ≡ name_of (node at k fs)
unfolding name_of text_at_of number_at
name_kept f l at k fs i =
    let t = text_kept f l fs i 1 in
    let n = number_kept f l fs i 0 in
    λ j. record { path = (t) j; stem = (n) j; place = at }

second_kept : (f : Piece → Piece) (fs : Fields) → piece_in (change_in fs 0 f) 1 ≡ piece_in fs 1
unfolding change_in piece_in
second_kept f done = refl
second_kept f (absent fs) = refl
second_kept f (field p fs) = refl

-- field 1 of a pattern whose field 0 was changed
rest_kept : (f : Node → Node) (p : Node) → rest (with_items f p) ≡ rest p
unfolding node_at_of change
rest_kept f (node at k fs) = ap as_node (second_kept (on_items (each f)) fs)

-- ---- occurrences

module _ (a : Name) where
  unfoldable mutual
    pub occurs : Node → ℕ
    occurs (node at k fs) = cond (eqb k 20 && same a (name_of (node at k fs))) 1 0 + occurs_fields fs

    pub occurs_fields : Fields → ℕ
    occurs_fields done = 0
    occurs_fields (absent fs) = occurs_fields fs
    occurs_fields (field p fs) = occurs_piece p + occurs_fields fs

    pub occurs_piece : Piece → ℕ
    occurs_piece (one n) = occurs n
    occurs_piece (list is) = occurs_items is
    occurs_piece (text bs) = 0
    occurs_piece (byte b) = 0
    occurs_piece (mark b) = 0
    occurs_piece (number b) = 0

    pub occurs_items : Items → ℕ
    occurs_items none = 0
    occurs_items (hole is) = occurs_items is
    occurs_items (item n is) = occurs n + occurs_items is

  -- ---- parts

  pub fields_in : (at k : ℕ) (fs : Fields) → occurs_fields fs ≤ occurs (node at k fs)
  unfolding occurs
  fields_in at k fs = omega arith

  pub piece_in_lem : (fs : Fields) (i : ℕ) → occurs_piece (piece_in fs i) ≤ occurs_fields fs
  unfolding occurs piece_in
  piece_in_lem done i = omega arith
  piece_in_lem (absent fs) zero = omega arith
  piece_in_lem (absent fs) (suc i) = piece_in_lem fs i
  piece_in_lem (field p fs) zero = omega arith
  piece_in_lem (field p fs) (suc i) = let h = piece_in_lem fs i in omega arith

  as_node_lem : (p : Piece) → occurs (as_node p) ≤ occurs_piece p
  unfolding occurs
  as_node_lem (one n) = omega arith
  as_node_lem (list is) = omega arith
  as_node_lem (text bs) = omega arith
  as_node_lem (byte b) = omega arith
  as_node_lem (mark b) = omega arith
  as_node_lem (number b) = omega arith

  as_items : (p : Piece) → occurs_items (as_items_of p) ≤ occurs_piece p
  unfolding occurs
  as_items (one n) = omega arith
  as_items (list is) = omega arith
  as_items (text bs) = omega arith
  as_items (byte b) = omega arith
  as_items (mark b) = omega arith
  as_items (number b) = omega arith

  pub node_in : (i : ℕ) (n : Node) → occurs (node_at_of i n) ≤ occurs n
  unfolding node_at_of
  node_in i (node at k fs) = let u = as_node_lem (piece_in fs i) in let v = piece_in_lem fs i in let w = fields_in at k fs in omega arith

  pub items_in_lem : (i : ℕ) (n : Node) → occurs_items (items_at_of i n) ≤ occurs n
  unfolding items_at_of
  items_in_lem i (node at k fs) = let u = as_items (piece_in fs i) in let v = piece_in_lem fs i in let w = fields_in at k fs in omega arith

  -- the name does not occur
  abbrev pub Free : Node → Type 0
  Free n = occurs n ≡ 0

  pub each_item : (is : Items) → occurs_items is ≡ 0 → AllItems Free is
  unfolding occurs
  each_item none h = tt
  each_item (hole is) h = each_item is h
  each_item (item n is) h = (omega arith, each_item is (omega arith))

  pub occurs_append : (is js : Items) → occurs_items (is +++ js) ≡ occurs_items is + occurs_items js
  unfolding occurs ◌+++◌
  occurs_append none js = omega arith
  occurs_append (hole is) js = occurs_append is js
  occurs_append (item n is) js = let h = occurs_append is js in omega arith

  pub only_occurs : (n : Node) → occurs_items (only n) ≡ occurs n
  unfolding occurs
  only_occurs n = omega arith

  pub none_occurs : occurs_items none ≡ 0
  unfolding occurs
  none_occurs = refl

  pub nothing_occurs : occurs nothing ≡ 0
  unfolding occurs
  nothing_occurs = refl

  pub temporary_occurs : (path : List ℕ) (stem at : ℕ) → occurs (temporary path stem at) ≡ cond (same a (name_of (temporary path stem at))) 1 0
  unfolding occurs
  temporary_occurs path stem at = omega arith

  -- ---- a field changed

  pub change_more : (i e : ℕ) (f : Piece → Piece) → Plain f → (at k : ℕ) (fs : Fields) → occurs_fields (change_in fs i f) ≤ occurs_fields fs + e
      → occurs (node at k (change_in fs i f)) ≤ occurs (node at k fs) + e
  unfolding occurs
  change_more i e f l at k fs h = rw (name_kept f l at k fs i) (omega arith)

  -- with what is found below, in the same
  module _ (h : Node → Items) (f : Node → Node) (m : Node → Items) (together : (n : Node) → occurs_items (h n) + occurs (f n) ≤ occurs n + times a (m n)) where
    pub gather_sum : (is : Items) → occurs_items (gather h is) + occurs_items (each f is) ≤ occurs_items is + times a (gather m is)
    unfolding gather each occurs times
    gather_sum none = omega arith
    gather_sum (hole is) = gather_sum is
    gather_sum (item n is) =
        let u = gather_sum is in
        let v = together n in
        let w = occurs_append (h n) (gather h is) in
        let t = times_append a (m n) (gather m is) in
        omega arith

    list_sum_lem : (p : Piece) → occurs_items (gather h (as_items_of p)) + occurs_piece (on_items (each f) p) ≤ occurs_piece p + times a (gather m (as_items_of p))
    unfolding on_items gather occurs times
    list_sum_lem (one n) = omega arith
    list_sum_lem (list is) = gather_sum is
    list_sum_lem (text bs) = omega arith
    list_sum_lem (byte b) = omega arith
    list_sum_lem (mark b) = omega arith
    list_sum_lem (number b) = omega arith

    fields_sum : (fs : Fields) (i : ℕ) → occurs_items (gather h (as_items_of (piece_in fs i))) + occurs_fields (change_in fs i (on_items (each f))) ≤ occurs_fields fs + times a (gather m (as_items_of (piece_in fs i)))
    unfolding piece_in change_in gather occurs times
    fields_sum done i = omega arith
    fields_sum (absent fs) zero = omega arith
    fields_sum (absent fs) (suc i) = fields_sum fs i
    fields_sum (field p fs) zero = let u = list_sum_lem p in omega arith
    fields_sum (field p fs) (suc i) = let u = fields_sum fs i in omega arith

    pub items_sum : (i : ℕ) (n : Node) → occurs_items (gather h (items_at_of i n)) + occurs (change_items i (each f) n) ≤ occurs n + times a (gather m (items_at_of i n))
    unfolding items_at_of change occurs
    items_sum i (node at k fs) = rw (name_kept (on_items (each f)) (on_items_lem (each f)) at k fs i) (let u = fields_sum fs i in omega arith)

    module _ (nowhere : occurs_items (h nothing) ≡ 0) where
      piece_sum : (p : Piece) → occurs_items (h (as_node p)) + occurs_piece (on_node f p) ≤ occurs_piece p + times a (m (as_node p))
      unfolding on_node occurs
      piece_sum (one n) = together n
      piece_sum (list is) = omega arith
      piece_sum (text bs) = omega arith
      piece_sum (byte b) = omega arith
      piece_sum (mark b) = omega arith
      piece_sum (number b) = omega arith

      node_fields_sum : (fs : Fields) (i : ℕ) → occurs_items (h (as_node (piece_in fs i))) + occurs_fields (change_in fs i (on_node f)) ≤ occurs_fields fs + times a (m (as_node (piece_in fs i)))
      unfolding piece_in change_in occurs
      node_fields_sum done i = omega arith
      node_fields_sum (absent fs) zero = omega arith
      node_fields_sum (absent fs) (suc i) = node_fields_sum fs i
      node_fields_sum (field p fs) zero = let u = piece_sum p in omega arith
      node_fields_sum (field p fs) (suc i) = let u = node_fields_sum fs i in omega arith

      pub node_sum : (i : ℕ) (n : Node) → occurs_items (h (node_at_of i n)) + occurs (change_node i f n) ≤ occurs n + times a (m (node_at_of i n))
      unfolding node_at_of change occurs
      node_sum i (node at k fs) = rw (name_kept (on_node f) (on_node_lem f) at k fs i) (let u = node_fields_sum fs i in omega arith)

  -- the same, where nothing is found
  module _ (f : Node → Node) (m : Node → Items) (more : (n : Node) → occurs (f n) ≤ occurs n + times a (m n)) where
    alone : (n : Node) → occurs_items none + occurs (f n) ≤ occurs n + times a (m n)
    alone n = let z = none_occurs in let u = more n in omega arith

    pub each_more : (is : Items) → occurs_items (each f is) ≤ occurs_items is + times a (gather m is)
    each_more is = let u = gather_sum (λ n. none) f m alone is in omega arith

    pub items_more : (i : ℕ) (n : Node) → occurs (change_items i (each f) n) ≤ occurs n + times a (gather m (items_at_of i n))
    items_more i n = let u = items_sum (λ q. none) f m alone i n in omega arith

    pub node_more : (i : ℕ) (n : Node) → occurs (change_node i f n) ≤ occurs n + times a (m (node_at_of i n))
    node_more i n = let u = node_sum (λ q. none) f m alone none_occurs i n in omega arith

  -- ---- the objects with rest, and what is left of the pattern

  pub gathered : (f : Node → Node) (h : Node → Items) (is : Items) → times a (gather (λ n. each f (h n)) is) ≡ times a (each f (gather h is))
  unfolding gather each times
  gathered f h none = refl
  gathered f h (hole is) = gathered f h is
  gathered f h (item n is) =
      let u = gathered f h is in
      let v = times_append a (each f (h n)) (gather (λ q. each f (h q)) is) in
      let w = ap (times a) (each_append f (h n) (gather h is)) in
      let t = times_append a (each f (h n)) (each f (gather h is)) in
      omega arith

  pub two_pieces : (fs : Fields) (i j : ℕ) → i < j → occurs_piece (piece_in fs i) + occurs_piece (piece_in fs j) ≤ occurs_fields fs
  unfolding piece_in occurs
  two_pieces done i j h = omega arith
  two_pieces (absent fs) zero zero h = absurd (omega arith)
  two_pieces (absent fs) zero (suc j) h = let k = piece_in_lem fs j in omega arith
  two_pieces (absent fs) (suc i) zero h = absurd (omega arith)
  two_pieces (absent fs) (suc i) (suc j) h = two_pieces fs i j (omega arith)
  two_pieces (field p fs) zero zero h = absurd (omega arith)
  two_pieces (field p fs) zero (suc j) h = let k = piece_in_lem fs j in omega arith
  two_pieces (field p fs) (suc i) zero h = absurd (omega arith)
  two_pieces (field p fs) (suc i) (suc j) h = let k = two_pieces fs i j (omega arith) in omega arith

  pub items_and_node : (i j : ℕ) → i < j → (n : Node) → occurs_items (items_at_of i n) + occurs (node_at_of j n) ≤ occurs n
  unfolding node_at_of items_at_of
  items_and_node i j h (node at k fs) =
      let u = as_items (piece_in fs i) in let v = as_node_lem (piece_in fs j) in let w = two_pieces fs i j h in let x = fields_in at k fs in omega arith

  pub gather_less : (f : Node → Items) → ((n : Node) → occurs_items (f n) ≤ occurs n) → (is : Items) → occurs_items (gather f is) ≤ occurs_items is
  unfolding gather occurs
  gather_less f less none = omega arith
  gather_less f less (hole is) = gather_less f less is
  gather_less f less (item n is) =
      let h = gather_less f less is in let l = less n in let e = occurs_append (f n) (gather f is) in omega arith

  moved_array : (d : ℕ) (p : Node) → ((m : Node) → occurs_items (moved d m) ≤ occurs m) → occurs_items (gather (λ m. moved d m) (items_of p) +++ moved d (rest p)) ≤ occurs p
  moved_array d p less =
      let u = gather_less (λ m. moved d m) less (items_of p) in
      let v = less (rest p) in
      let w = occurs_append (gather (λ m. moved d m) (items_of p)) (moved d (rest p)) in
      let x = items_and_node 0 1 (omega arith) p in
      omega arith

  put_piece : (p : Piece) (t : Node) → occurs_piece (on_node (λ l. t) p) ≤ occurs_piece p + occurs t
  unfolding on_node occurs
  put_piece (one n) t = omega arith
  put_piece (list is) t = omega arith
  put_piece (text bs) t = omega arith
  put_piece (byte b) t = omega arith
  put_piece (mark b) t = omega arith
  put_piece (number b) t = omega arith

  put_fields : (fs : Fields) (t : Node) → occurs_fields (change_in fs 0 (on_node (λ l. t))) ≤ occurs_fields fs + occurs t
  unfolding change_in occurs
  put_fields done t = omega arith
  put_fields (absent fs) t = omega arith
  put_fields (field p fs) t = let u = put_piece p t in omega arith

  module _ (c : Context) where
    abbrev pub refs : Items → Items
    refs ps = each (λ p. reference c p) ps

    pub ref_times : (p : Node) → times a (refs (only p)) ≡ occurs (reference c p)
    unfolding each
    ref_times p = only_times a (reference c p) ∙ sym (temporary_occurs c.path 1 (position p))

    objects_nothing : (d : ℕ) → occurs_items (objects_with_rest c d nothing) ≡ 0
    unfolding objects_with_rest shape occurs
    objects_nothing zero = refl
    objects_nothing (suc d) = refl

    pub objects_sum : (d : ℕ) (p : Node) → occurs_items (objects_with_rest c d p) + occurs (replaced c d p) ≤ occurs p + times a (refs (objects_with_rest c d p))
    unfolding objects_with_rest replaced
    objects_sum zero p = let z = none_occurs in omega arith
    objects_sum (suc d) p =
        let f : Node → Node = λ v. replaced c d v in
        let h : Node → Items = λ v. objects_with_rest c d v in
        let z = none_occurs in
        by_shape (shape p)
        (λ e.
        let inner = gather (λ q. h (value q)) (properties p) in
        let own = with_values f p in
        let u = items_sum (λ q. h (value q)) (λ q. change_node 1 f q) (λ q. refs (h (value q)))
        (λ q. node_sum h f (λ v. refs (h v)) (objects_sum d) (objects_nothing d) 1 q) 0 p in
        let g = gathered (λ q. reference c q) (λ q. h (value q)) (properties p) in
        let i = ap (occurs_items) (objects_object c d p e) in
        let t = ap (λ (is : Items). times a (refs is)) (objects_object c d p e) in
        let j = ap (occurs) (replaced_object c d p e) in
        by_test (has_rest_of p)
        (λ r.
        let i' : occurs_items (objects_with_rest c (suc d) p) ≡ occurs_items (inner +++ only own) = rw r at i in
        let t' : times a (refs (objects_with_rest c (suc d) p)) ≡ times a (refs (inner +++ only own)) = rw r at t in
        let j' : occurs (replaced c (suc d) p) ≡ occurs (reference c p) = rw r at j in
        let w = occurs_append inner (only own) in
        let o = only_occurs own in
        let x = ap (times a) (each_append (λ q. reference c q) inner (only own)) in
        let y = times_append a (refs inner) (refs (only own)) in
        let v = ref_times own in
        let k = ap (λ (m : ℕ). occurs (temporary c.path 1 m)) (position_changed 0 (on_items (each (λ q. change_node 1 f q))) p) in
        omega arith)
        (λ r.
        let i' : occurs_items (objects_with_rest c (suc d) p) ≡ occurs_items (inner +++ none) = rw r at i in
        let t' : times a (refs (objects_with_rest c (suc d) p)) ≡ times a (refs (inner +++ none)) = rw r at t in
        let j' : occurs (replaced c (suc d) p) ≡ occurs own = rw r at j in
        let w = occurs_append inner none in
        let x = ap (times a) (each_append (λ q. reference c q) inner none) in
        let y = times_append a (refs inner) (refs none) in
        omega arith))
        (λ e.
        let u = items_sum h f (λ v. refs (h v)) (objects_sum d) 0 p in
        let g = gathered (λ q. reference c q) h (items_of p) in
        let i = ap (occurs_items) (objects_array c d p e) in
        let t = ap (λ (is : Items). times a (refs is)) (objects_array c d p e) in
        let j = ap (occurs) (replaced_array c d p e) in
        omega arith)
        (λ e.
        let u = node_sum h f (λ v. refs (h v)) (objects_sum d) (objects_nothing d) 0 p in
        let i = ap (occurs_items) (objects_default c d p e) in
        let t = ap (λ (is : Items). times a (refs is)) (objects_default c d p e) in
        let j = ap (occurs) (replaced_default c d p e) in
        omega arith)
        (λ e.
        let i = ap (occurs_items) (objects_leaf c d p e) in
        let j = ap (occurs) (replaced_leaf c d p e) in
        omega arith)

    pub replaced_more : (d : ℕ) (p : Node) → occurs (replaced c d p) ≤ occurs p + times a (refs (objects_with_rest c d p))
    replaced_more d p = let h = objects_sum d p in omega arith

    -- ---- moved out of a head

    pub moved_occurs : (d : ℕ) (p : Node) → occurs_items (moved d p) ≤ occurs p
    unfolding moved
    moved_occurs zero p = let z = none_occurs in omega arith
    moved_occurs (suc d) p =
        let z = none_occurs in
        let o = only_occurs p in
        by_shape (shape p)
        (λ e. rw (e, moved) (omega arith))
        (λ e. rw (e, moved) (moved_array d p (moved_occurs d)))
        (λ e. rw (e, moved) (omega arith))
        (λ e. rw (e, moved) (omega arith))

    pub moved_pattern_occurs : (p : Node) → occurs (moved_pattern p) ≤ occurs p
    unfolding moved_pattern
    moved_pattern_occurs p =
        by_shape (shape p)
        (λ e. rw (e, moved_pattern) (omega arith))
        (λ e. rw (e, moved_pattern) (omega arith))
        (λ e. rw (e, moved_pattern) (node_in 0 p))
        (λ e. rw (e, moved_pattern) (omega arith))

    -- a temporary put in place of field 0
    pub put_more : (p t : Node) → occurs (change_node 0 (λ l. t) p) ≤ occurs p + occurs t
    unfolding change
    put_more (node at k fs) t = change_more 0 (occurs t) (on_node (λ l. t)) (on_node_lem (λ l. t)) at k fs (put_fields fs t)

    moved_out_array : (d : ℕ) (p : Node) → ((m : Node) → occurs (moved_out_of c d m) ≤ occurs m + times a (refs (moved d m)))
        → occurs (with_rest (λ v. moved_out_of c d v) (with_items (λ v. moved_out_of c d v) p)) ≤ occurs p + times a (refs (gather (λ m. moved d m) (items_of p) +++ moved d (rest p)))
    moved_out_array d p more =
        let f : Node → Node = λ v. moved_out_of c d v in
        let u = items_more f (λ v. refs (moved d v)) more 0 p in
        let v = node_more f (λ v. refs (moved d v)) more 1 (with_items f p) in
        let g = gathered (λ q. reference c q) (λ m. moved d m) (items_of p) in
        let x = ap (times a) (each_append (λ q. reference c q) (gather (λ m. moved d m) (items_of p)) (moved d (rest p))) in
        let y = times_append a (refs (gather (λ m. moved d m) (items_of p))) (refs (moved d (rest p))) in
        let r = ap (λ (n : Node). times a (refs (moved d n))) (rest_kept f p) in
        omega arith

    pub moved_out_more : (d : ℕ) (p : Node) → occurs (moved_out_of c d p) ≤ occurs p + times a (refs (moved d p))
    unfolding moved_out_of moved
    moved_out_more zero p = omega arith
    moved_out_more (suc d) p =
        let f : Node → Node = λ v. moved_out_of c d v in
        let m : Node → Items = λ v. refs (moved d v) in
        let r = ref_times p in
        by_shape (shape p)
        (λ e. rw (e, moved_out_of, moved) (omega arith))
        (λ e. rw (e, moved_out_of, moved) (moved_out_array d p (moved_out_more d)))
        (λ e. rw (e, moved_out_of, moved) (let u = put_more p (reference c p) in omega arith))
        (λ e. rw (e, moved_out_of, moved) (omega arith))
