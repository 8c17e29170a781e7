-- No count is larger than the bytes of the node that it is of. So of a tree that is accepted no count is cut off at 65536.
-- Assumes nothing.
use mathlib.Core.Path.{◌≡◌, refl, ap, ◌∙◌}
use mathlib.Core.Bool.{Bool, true, false, cond}
use Prim.Native.Nat.{ℕ, zero, suc, ◌+◌, ◌≤◌}
use native.Mathlib.Omega.{arith}
use lib.ListN.{length, length-append}
use Rattle.tree.specs.Tree.{Node, Fields, Piece, Items, count, depth, depth_fields, encode, encode_fields, encode_piece, encode_items, wide_bytes}
use Rattle.tree.specs.Tree.Node.{node}
use Rattle.tree.specs.Tree.Fields.{done, absent, field}
use Rattle.tree.specs.Tree.Piece.{one, list, text, byte, mark, number}
use Rattle.tree.specs.Tree.Items.{none, hole, item}
use Rattle.lowering.specs.Parts.{nothing, piece_in, as_node, as_items_of, node_at_of, items_at_of, only, gather, change_node, ◌+++◌}
use Rattle.lowering.specs.Made.{Context, reference, declares}
use Rattle.lowering.specs.Patterns.Shape.{array_pattern}
use Rattle.lowering.specs.Patterns.{shape, properties, items_of, rest, has_rest_of, left_of, value, key, with_values, replaced, replaced_below, objects_with_rest, objects_below}
use Rattle.lowering.specs.Keys.{key_sort, excluded_key, key_temporary, excluded_keys, key_temporaries, taken}
use Rattle.lowering.specs.Rests.{has_no_properties, rest_value}
use Rattle.lowering.specs.Assignments.{nearest, parts_of}
use Rattle.lowering.specs.Declarations.{is_name_of, source, source_declarator, keys_before, pattern_declarator, rest_declarator, own, nested, nested_below, object_declarators, pattern_declarators, lower_declarator, is_lowered, declarators}
use Rattle.lowering.specs.Heads.{moved, is_moved, moved_from}
use Rattle.pattern.specs.Tally.{limited}
use Rattle.pattern.specs.Moves.{moved_below}
use Rattle.pattern.proofs.RestsFound.{values_changed}
use Rattle.lowering.proofs.ItemLaws.{count_append, gather_each, count_none}
use Rattle.lowering.proofs.Cases.{by_shape, by_key}

-- a count that is not cut off
pub limited_is : (n : ℕ) → n ≤ 65536 → limited n ≡ n
unfolding limited
limited_is n h = omega arith

pub limited_below : (m n : ℕ) → m ≡ limited n → m ≤ 65536
unfolding limited
limited_below m n e = omega arith

-- of an accepted tree (tree's proofs/Sound.antt: its encoding is the input, of at most 16384 bytes)
pub counted_whole : (m b : ℕ) → m ≤ b → b ≤ 16384 → limited m ≡ m
counted_whole m b h g = limited_is m (omega arith)

-- ---- how many bytes parts have

abbrev pub size : Node → ℕ
size n = length (encode n)

abbrev size_items : Items → ℕ
size_items is = length (encode_items is)

abbrev size_piece : Piece → ℕ
size_piece p = length (encode_piece p)

abbrev size_fields : Fields → ℕ
size_fields fs = length (encode_fields fs)

size_node : (at k : ℕ) (fs : Fields) → size (node at k fs) ≡ 2 + size_fields fs
unfolding encode
size_node at k fs = omega arith

size_field : (p : Piece) (fs : Fields) → size_fields (field p fs) ≡ size_piece p + size_fields fs
unfolding encode
size_field p fs = length-append (encode_piece p) (encode_fields fs)

size_item : (n : Node) (is : Items) → size_items (item n is) ≡ size n + size_items is
unfolding encode
size_item n is = length-append (encode n) (encode_items is)

size_pos : (n : Node) → 2 ≤ size n
size_pos (node at k fs) = let h = size_node at k fs in omega arith

items_piece : (p : Piece) → size_items (as_items_of p) ≤ size_piece p
unfolding encode
items_piece (one n) = omega arith
items_piece (list is) = let h = length-append (wide_bytes (count is)) (encode_items is) in omega arith
items_piece (text bs) = omega arith
items_piece (byte b) = omega arith
items_piece (mark b) = omega arith
items_piece (number b) = omega arith

items_fields : (fs : Fields) (i : ℕ) → size_items (as_items_of (piece_in fs i)) ≤ size_fields fs
unfolding piece_in encode
items_fields done i = omega arith
items_fields (absent fs) zero = omega arith
items_fields (absent fs) (suc i) = items_fields fs i
items_fields (field p fs) zero = let h = items_piece p in let g = size_field p fs in omega arith
items_fields (field p fs) (suc i) = let h = items_fields fs i in let g = size_field p fs in omega arith

items_small : (i : ℕ) (n : Node) → size_items (items_at_of i n) + 2 ≤ size n
unfolding items_at_of
items_small i (node at k fs) = let h = items_fields fs i in let g = size_node at k fs in omega arith

hole_less : (is : Items) (n : ℕ) → size_items (hole is) ≤ n → size_items is ≤ n
unfolding encode
hole_less is n h = omega arith

abbrev pub EachWithin : ℕ → Items → Type 0
EachWithin b none = Unit {0}
EachWithin b (hole is) = EachWithin b is
EachWithin b (item n is) = (size n ≤ b) × EachWithin b is

within : (b : ℕ) (is : Items) → size_items is ≤ b → EachWithin b is
within b none h = tt
within b (hole is) h = within b is (hole_less is b h)
within b (item n is) h = let g = size_item n is in (omega arith, within b is (omega arith))

-- ---- what is counted below

-- a count of nodes that no node has more of than bytes, and nothing has none of
pub record Small (f : Node → Items) : Type 0 where
  pub fits : (n : Node) → count (f n) ≤ size n
  pub bare : count (f nothing) ≡ 0

module _ (f : Node → Items) (small : Small f) where
  piece_small : (p : Piece) → count (f (as_node p)) ≤ size_piece p
  unfolding encode
  piece_small (one n) = small.fits n
  piece_small (list is) = let h = small.bare in omega arith
  piece_small (text bs) = let h = small.bare in omega arith
  piece_small (byte b) = let h = small.bare in omega arith
  piece_small (mark b) = let h = small.bare in omega arith
  piece_small (number b) = let h = small.bare in omega arith

  fields_small : (fs : Fields) (i : ℕ) → count (f (as_node (piece_in fs i))) ≤ size_fields fs
  unfolding piece_in encode
  fields_small done i = let h = small.bare in omega arith
  fields_small (absent fs) zero = let h = small.bare in omega arith
  fields_small (absent fs) (suc i) = fields_small fs i
  fields_small (field p fs) zero = let h = piece_small p in let g = size_field p fs in omega arith
  fields_small (field p fs) (suc i) = let h = fields_small fs i in let g = size_field p fs in omega arith

  -- in a field: two bytes are the node's own
  node_small : (i : ℕ) (n : Node) → count (f (node_at_of i n)) + 2 ≤ size n
  unfolding node_at_of
  node_small i (node at k fs) = let h = fields_small fs i in let g = size_node at k fs in omega arith

  both_small : (fs : Fields) → size_items (as_items_of (piece_in fs 0)) + count (f (as_node (piece_in fs 1))) ≤ size_fields fs
  unfolding piece_in encode
  both_small done = let h = small.bare in omega arith
  both_small (absent fs) = let a = fields_small fs 0 in omega arith
  both_small (field p fs) = let h = items_piece p in let a = fields_small fs 0 in let g = size_field p fs in omega arith

  -- in field 1, beside the items of field 0
  rest_small : (n : Node) → size_items (items_at_of 0 n) + count (f (node_at_of 1 n)) + 2 ≤ size n
  unfolding node_at_of items_at_of
  rest_small (node at k fs) = let g = size_node at k fs in let h = both_small fs in omega arith

-- ---- lists

hole_more : (is : Items) (n : ℕ) → n ≤ size_items is → n ≤ size_items (hole is)
unfolding encode
hole_more is n h = omega arith

gather_small : (f : Node → Items) → ((n : Node) → count (f n) ≤ size n) → (is : Items) → count (gather f is) ≤ size_items is
unfolding gather count
gather_small f h none = omega arith
gather_small f h (hole is) = let a = gather_small f h is in hole_more is (count (gather f is)) a
gather_small f h (item n is) =
    let a = h n in
    let b = gather_small f h is in
    let c = count_append (f n) (gather f is) in
    let d = size_item n is in
    omega arith

gather_two : (f g : Node → Items) → ((n : Node) → count (f n) + count (g n) ≤ size n) → (is : Items) → count (gather f is) + count (gather g is) ≤ size_items is
unfolding gather count
gather_two f g h none = omega arith
gather_two f g h (hole is) = let a = gather_two f g h is in hole_more is (count (gather f is) + count (gather g is)) a
gather_two f g h (item n is) =
    let a = h n in
    let b = gather_two f g h is in
    let c = count_append (f n) (gather f is) in
    let e = count_append (g n) (gather g is) in
    let d = size_item n is in
    omega arith

one_if : (b : Bool) (n : Node) → count (cond b (only n) none) ≤ 1
unfolding count
one_if true n = omega arith
one_if false n = omega arith

none_if : (b : Bool) (n : Node) → count (cond b none (only n)) ≤ 1
unfolding count
none_if true n = omega arith
none_if false n = omega arith

some_if : (b : Bool) (is : Items) → count (cond b is none) ≤ count is
unfolding count
some_if true is = omega arith
some_if false is = omega arith

nothing_counted : (n : Node) → count none ≤ size n
unfolding count
nothing_counted n = omega arith

module _ (f : Node → Items) (small : Small f) where
  -- of the values of an object's properties, and one more
  pub object_small : (p m : Node) (b : Bool) → count (gather (λ q. f (value q)) (properties p) +++ cond b (only m) none) ≤ size p
  object_small p m b =
      let i = items_small 0 p in
      let a = gather_small (λ q. f (value q)) (λ q. (let x = node_small f small 1 q in omega arith)) (properties p) in
      let o = one_if b m in
      let e = count_append (gather (λ q. f (value q)) (properties p)) (cond b (only m) none) in
      omega arith

  -- of the left of a default
  pub left_small : (p : Node) → count (f (left_of p)) ≤ size p
  left_small p = let a = node_small f small 0 p in omega arith

-- ---- keys

module _ (c : Context) where
  excluded_one : (q : Node) → count (excluded_key c q) ≤ 1
  unfolding excluded_key count
  excluded_one q =
      by_key (key_sort (key q))
      (λ s. rw (s, excluded_key) (omega arith)) (λ s. rw (s, excluded_key) (omega arith)) (λ s. rw (s, excluded_key) (omega arith))
      (λ s. rw (s, excluded_key) (omega arith)) (λ s. rw (s, excluded_key) (omega arith)) (λ s. rw (s, excluded_key) (omega arith))

  temporary_one : (q : Node) → count (key_temporary c q) ≤ 1
  unfolding key_temporary count
  temporary_one q =
      by_key (key_sort (key q))
      (λ s. rw (s, key_temporary) (omega arith)) (λ s. rw (s, key_temporary) (omega arith)) (λ s. rw (s, key_temporary) (omega arith))
      (λ s. rw (s, key_temporary) (omega arith)) (λ s. rw (s, key_temporary) (omega arith)) (λ s. rw (s, key_temporary) (omega arith))

  pub excluded_fit : (p : Node) → count (excluded_keys c p) ≤ size p
  unfolding excluded_keys
  excluded_fit p =
      let h = gather_small (excluded_key c) (λ q. (let a = excluded_one q in let b = size_pos q in omega arith)) (properties p) in
      let g = items_small 0 p in
      omega arith

  pub temporaries_fit : (p : Node) → count (key_temporaries c p) ≤ size p
  unfolding key_temporaries
  temporaries_fit p =
      let h = gather_small (key_temporary c) (λ q. (let a = temporary_one q in let b = size_pos q in omega arith)) (properties p) in
      let g = items_small 0 p in
      omega arith

  -- ---- objects with rest

  objects_bare : (d : ℕ) → count (objects_with_rest c d nothing) ≡ 0
  unfolding objects_with_rest shape count
  objects_bare zero = refl
  objects_bare (suc d) = refl

  objects_step : (d : ℕ) → Small (λ p. objects_with_rest c d p) → (p : Node) → count (objects_with_rest c (suc d) p) ≤ size p
  unfolding objects_with_rest
  objects_step d small p =
      let i = items_small 0 p in
      by_shape (shape p)
      (λ s. rw (s, objects_with_rest) (object_small (λ p. objects_with_rest c d p) small p (with_values (λ v. replaced c d v) p) (has_rest_of p)))
      (λ s. rw (s, objects_with_rest) (let a = gather_small (λ e. objects_with_rest c d e) small.fits (items_of p) in omega arith))
      (λ s. rw (s, objects_with_rest) (left_small (λ p. objects_with_rest c d p) small p))
      (λ s. rw (s, objects_with_rest) (nothing_counted p))

  pub small_objects : (d : ℕ) → Small (λ p. objects_with_rest c d p)
  unfolding objects_with_rest
  small_objects zero = record { fits = λ p. nothing_counted p; bare = count_none }
  small_objects (suc d) = record { fits = objects_step d (small_objects d); bare = objects_bare (suc d) }

  pub objects_fit : (p : Node) → count (objects_below c p) ≤ size p
  objects_fit p = (small_objects (depth p)).fits p

  -- ---- declarators

  keys_each : (f : Node → Node) (p : Node) → count (key_temporaries c (with_values f p)) ≡ count (gather (λ q. key_temporary c (change_node 1 f q)) (properties p))
  unfolding key_temporaries
  keys_each f p = ap (λ (x : Items). count (gather (key_temporary c) x)) (values_changed f p) ∙ ap count (gather_each (key_temporary c) (λ q. change_node 1 f q) (properties p))

  own_fit : (p s : Node) → count (own c p s) ≤ count (key_temporaries c p) + 2
  unfolding own keys_before pattern_declarator rest_declarator
  own_fit p s =
      let a = some_if (has_rest_of p) (key_temporaries c p) in
      let b = none_if (has_no_properties p) (declares (taken c p) s) in
      let d = one_if (has_rest_of p) (declares (rest p) (rest_value c p s)) in
      let e = count_append (cond (has_rest_of p) (key_temporaries c p) none) (cond (has_no_properties p) none (only (declares (taken c p) s)) +++ cond (has_rest_of p) (only (declares (rest p) (rest_value c p s))) none) in
      let f = count_append (cond (has_no_properties p) none (only (declares (taken c p) s))) (cond (has_rest_of p) (only (declares (rest p) (rest_value c p s))) none) in
      omega arith

  nested_bare : (d : ℕ) → count (nested c d nothing) ≡ 0
  unfolding nested shape count
  nested_bare zero = refl
  nested_bare (suc d) = refl

  -- keys and what is found in the values, of all properties together
  values_fit : (f : Node → Node) (g : Node → Items) → Small g → (p : Node) → count (key_temporaries c (with_values f p)) + count (gather (λ q. g (value q)) (properties p)) + 2 ≤ size p
  values_fit f g small p =
      let i = items_small 0 p in
      let k = keys_each f p in
      let t = gather_two (λ q. key_temporary c (change_node 1 f q)) (λ q. g (value q)) (λ q. (let x = node_small g small 1 q in let y = temporary_one (change_node 1 f q) in omega arith)) (properties p) in
      omega arith

  nested_step : (d : ℕ) → Small (λ p. nested c d p) → (p : Node) → count (nested c (suc d) p) ≤ size p
  unfolding nested
  nested_step d small p =
      let i = items_small 0 p in
      by_shape (shape p)
      (λ s. rw (s, nested)
      (let q : Node = with_values (λ v. replaced c d v) p in
      let a = some_if (has_rest_of p) (own c q (reference c p)) in
      let b = own_fit q (reference c p) in
      let t = values_fit (λ v. replaced c d v) (λ p. nested c d p) small p in
      let e = count_append (cond (has_rest_of p) (own c q (reference c p)) none) (gather (λ q. nested c d (value q)) (properties p)) in
      omega arith))
      (λ s. rw (s, nested) (let a = gather_small (λ e. nested c d e) small.fits (items_of p) in omega arith))
      (λ s. rw (s, nested) (let a = node_small (λ p. nested c d p) small 0 p in omega arith))
      (λ s. rw (s, nested) (nothing_counted p))

  small_nested : (d : ℕ) → Small (λ p. nested c d p)
  unfolding nested
  small_nested zero = record { fits = λ p. nothing_counted p; bare = count_none }
  small_nested (suc d) = record { fits = nested_step d (small_nested d); bare = nested_bare (suc d) }

  small_below : Small (λ p. nested_below c p)
  small_below = record { fits = λ p. (small_nested (depth p)).fits p; bare = nested_bare (depth nothing) }

  -- an array's own bytes leave room for its declarator
  array_room : (p : Node) → shape p ≡ array_pattern → count (nested_below c p) + 2 ≤ size p
  unfolding nested depth
  array_room (node at k fs) s =
      let i = items_small 0 (node at k fs) in
      rw (s, nested) (let a = gather_small (λ e. nested c (depth_fields fs) e) (small_nested (depth_fields fs)).fits (items_of (node at k fs)) in omega arith)

  pattern_fit : (s p : Node) → count (pattern_declarators c p s) ≤ size p
  unfolding pattern_declarators object_declarators keys_before pattern_declarator rest_declarator
  pattern_fit s p =
      by_shape (shape p)
      (λ e. rw (e, pattern_declarators)
      (let q : Node = with_values (λ v. replaced_below c v) p in
      let g : Items = gather (λ r. nested_below c (value r)) (properties p) in
      let x : Items = cond (has_rest_of q) (key_temporaries c q) none in
      let y : Items = cond (has_no_properties q) none (only (declares (taken c q) s)) in
      let z : Items = cond (has_rest_of q) (only (declares (rest q) (rest_value c q s))) none in
      let a = some_if (has_rest_of q) (key_temporaries c q) in
      let b = none_if (has_no_properties q) (declares (taken c q) s) in
      let d = one_if (has_rest_of q) (declares (rest q) (rest_value c q s)) in
      let t = values_fit (λ v. replaced_below c v) (λ p. nested_below c p) small_below p in
      let h = count_append x (y +++ g +++ z) in
      let i = count_append y (g +++ z) in
      let j = count_append g z in
      omega arith))
      (λ e. rw (e, pattern_declarators)
      (let a = array_room p e in
      let b = count_append (only (declares (replaced_below c p) s)) (nested_below c p) in
      let d = one_if true (declares (replaced_below c p) s) in
      omega arith))
      (λ e. rw (e, pattern_declarators) (nothing_counted p))
      (λ e. rw (e, pattern_declarators) (nothing_counted p))

  pattern_bare : (s : Node) → count (pattern_declarators c nothing s) ≡ 0
  unfolding pattern_declarators shape count
  pattern_bare s = refl

  pub pattern_small : (s : Node) → Small (λ p. pattern_declarators c p s)
  pattern_small s = record { fits = pattern_fit s; bare = pattern_bare s }

  pub declarator_fits : (d : Node) → count (declarators c d) ≤ size d
  unfolding declarators lower_declarator source_declarator
  declarator_fits d =
      let p : Node = node_at_of 0 d in
      let v : Node = node_at_of 1 d in
      let a = node_small (λ p. pattern_declarators c p (source c (node_at_of 0 d) (node_at_of 1 d))) (pattern_small (source c (node_at_of 0 d) (node_at_of 1 d))) 0 d in
      let b = none_if (is_name_of v) (declares (Rattle.lowering.specs.Made.value_of c p) v) in
      let e = count_append (cond (is_name_of v) none (only (declares (Rattle.lowering.specs.Made.value_of c p) v))) (pattern_declarators c p (source c p v)) in
      let o = one_if true d in
      let z = size_pos d in
      go (is_lowered d) (omega arith) (omega arith)
    where
      go : (b : Bool) → count (cond (is_name_of (node_at_of 1 d)) none (only (declares (Rattle.lowering.specs.Made.value_of c (node_at_of 0 d)) (node_at_of 1 d))) +++ pattern_declarators c (node_at_of 0 d) (source c (node_at_of 0 d) (node_at_of 1 d))) ≤ size d → count (only d) ≤ size d
          → count (cond b (cond (is_name_of (node_at_of 1 d)) none (only (declares (Rattle.lowering.specs.Made.value_of c (node_at_of 0 d)) (node_at_of 1 d))) +++ pattern_declarators c (node_at_of 0 d) (source c (node_at_of 0 d) (node_at_of 1 d))) (only d)) ≤ size d
      go true h g = h
      go false h g = g

  -- of all declarators in field i of a node
  pub declarations_fit : (i : ℕ) (n : Node) → count (gather (declarators c) (items_at_of i n)) ≤ size n
  declarations_fit i n = let h = gather_small (declarators c) declarator_fits (items_at_of i n) in let g = items_small i n in omega arith

-- ---- the objects with rest of an assignment

module _ (arrays : Bool) where
  nearest_bare : (d : ℕ) → count (nearest arrays d nothing) ≡ 0
  unfolding nearest shape count
  nearest_bare zero = refl
  nearest_bare (suc d) = refl

  one_or_inside : (b : Bool) (p : Node) (is : Items) → count is + 2 ≤ size p → count (cond b (only p) is) ≤ size p
  one_or_inside true p is h = let o = one_if true p in omega arith
  one_or_inside false p is h = omega arith

  nearest_values : (d : ℕ) → Small (λ p. nearest arrays d p) → (p : Node) → count (gather (λ q. nearest arrays d (value q)) (properties p)) + 2 ≤ size p
  nearest_values d small p =
      let h = gather_small (λ q. nearest arrays d (value q)) (λ q. (let a = node_small (λ p. nearest arrays d p) small 1 q in omega arith)) (properties p) in let g = items_small 0 p in omega arith

  nearest_step : (d : ℕ) → Small (λ p. nearest arrays d p) → (p : Node) → count (nearest arrays (suc d) p) ≤ size p
  unfolding nearest
  nearest_step d small p =
      by_shape (shape p)
      (λ s. rw (s, nearest) (one_or_inside (has_rest_of p) p (gather (λ q. nearest arrays d (value q)) (properties p)) (nearest_values d small p)))
      (λ s. rw (s, nearest)
      (let a = some_if arrays (gather (λ e. nearest arrays d e) (items_of p)) in let b = gather_small (λ e. nearest arrays d e) small.fits (items_of p) in let g = items_small 0 p in omega arith))
      (λ s. rw (s, nearest) (left_small (λ p. nearest arrays d p) small p))
      (λ s. rw (s, nearest) (nothing_counted p))

  small_nearest : (d : ℕ) → Small (λ p. nearest arrays d p)
  unfolding nearest
  small_nearest zero = record { fits = λ p. nothing_counted p; bare = count_none }
  small_nearest (suc d) = record { fits = nearest_step d (small_nearest d); bare = nearest_bare (suc d) }

pub nearest_fit : (arrays : Bool) (d : ℕ) (p : Node) → count (nearest arrays d p) ≤ size p
nearest_fit arrays d p = (small_nearest arrays d).fits p

-- the parts of an object and its keys together
pub parts_fit : (c : Context) (p : Node) → count (parts_of p) + count (key_temporaries c p) + 2 ≤ size p
unfolding key_temporaries
parts_fit c p =
    let d = depth p in
    let t = gather_two (λ q. nearest false d (value q)) (key_temporary c)
    (λ q. (let x = node_small (λ m. nearest false d m) (small_nearest false d) 1 q in let y = temporary_one c q in omega arith)) (properties p) in
    let i = items_small 0 p in
    omega arith

-- ---- what is moved

moved_bare : (d : ℕ) → count (moved d nothing) ≡ 0
unfolding moved shape count
moved_bare zero = refl
moved_bare (suc d) = refl

moved_step : (d : ℕ) → Small (λ p. moved d p) → (p : Node) → count (moved (suc d) p) ≤ size p
unfolding moved
moved_step d small p =
    let o = one_if true p in
    let z = size_pos p in
    by_shape (shape p)
    (λ s. rw (s, moved) (omega arith))
    (λ s. rw (s, moved)
    (let a = gather_small (λ e. moved d e) small.fits (items_of p) in
    let b = rest_small (λ p. moved d p) small p in
    let e = count_append (gather (λ e. moved d e) (items_of p)) (moved d (rest p)) in
    omega arith))
    (λ s. rw (s, moved) (omega arith))
    (λ s. rw (s, moved) (nothing_counted p))

small_moved : (d : ℕ) → Small (λ p. moved d p)
unfolding moved
small_moved zero = record { fits = λ p. nothing_counted p; bare = count_none }
small_moved (suc d) = record { fits = moved_step d (small_moved d); bare = moved_bare (suc d) }

pub moved_fit : (p : Node) → count (moved_below p) ≤ size p
moved_fit p = (small_moved (depth p)).fits p

small_moved_below : Small (λ p. moved_below p)
small_moved_below = record { fits = moved_fit; bare = moved_bare (depth nothing) }

pub from_fits : (q : Node) → count (moved_from q) ≤ size q
unfolding moved_from
from_fits q =
    let a = some_if (is_moved q) (moved_below (node_at_of 0 q)) in
    let b = node_small (λ p. moved_below p) small_moved_below 0 q in
    omega arith
