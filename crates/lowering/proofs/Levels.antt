-- The searches below patterns: from the depth of the pattern on, more levels change nothing. So as many as the limit are enough for a
-- tree that is accepted, and the code may search with as many as it has left.
-- Assumes nothing.
use mathlib.Core.Path.{◌≡◌, refl, sym, ap, ap₂, ◌∙◌}
use mathlib.Core.Bool.{Bool, true, false, cond, ◌||◌}
use Prim.Native.Nat.{ℕ, zero, suc, ◌≤◌, ◌<◌}
use native.Mathlib.Omega.{arith}
use Rattle.tree.specs.Tree.{Node, Fields, Piece, Items, depth, depth_fields, depth_piece, depth_items}
use Rattle.tree.specs.Tree.Node.{node}
use Rattle.tree.specs.Tree.Fields.{done, absent, field}
use Rattle.tree.specs.Tree.Piece.{one, list, text, byte, mark, number}
use Rattle.tree.specs.Tree.Items.{none, hole, item}
use Rattle.lowering.specs.Parts.{nothing, piece_in, change_in, change, on_node, on_items, change_node, change_items, as_node, as_items_of, node_at_of, items_at_of, only, each, gather, any, ◌+++◌}
use Rattle.lowering.specs.Made.{Context, reference}
use Rattle.lowering.specs.Patterns.{shape, properties, items_of, has_rest_of, value, with_items, with_rest, with_values, has_nested_object_rest, has_nested_array_rest, replaced, objects_with_rest, replaced_below, objects_below}
use Rattle.lowering.specs.Patterns.Shape.{object_pattern, leaf}
use Rattle.lowering.specs.Declarations.{own, nested}
use Rattle.lowering.specs.Assignments.{nearest, parts_replaced}
use Rattle.lowering.specs.Heads.{moved, moved_out_of}
use Rattle.lowering.proofs.Cases.{by_shape}
use Rattle.lowering.proofs.Clauses.{objects_object, objects_leaf}

-- ---- two functions that agree on nodes of at most b levels agree on the parts of a node of one level more

pub depth_pos : (n : Node) → 0 < depth n
unfolding depth
depth_pos (node at k fs) = omega arith

pub piece_depth : (fs : Fields) (i : ℕ) → depth_piece (piece_in fs i) ≤ depth_fields fs
unfolding piece_in depth
piece_depth done i = omega arith
piece_depth (absent fs) zero = omega arith
piece_depth (absent fs) (suc i) = piece_depth fs i
piece_depth (field p fs) zero = omega arith
piece_depth (field p fs) (suc i) = let h = piece_depth fs i in omega arith

module _ {A : Type 0} (f g : Node → A) (b : ℕ) (agree : (m : Node) → depth m ≤ b → f m ≡ g m) where
  node_agrees : f nothing ≡ g nothing → (p : Piece) → depth_piece p ≤ b → f (as_node p) ≡ g (as_node p)
  unfolding depth
  node_agrees z (one n) h = agree n h
  node_agrees z (list is) h = z
  node_agrees z (text bs) h = z
  node_agrees z (byte x) h = z
  node_agrees z (mark x) h = z
  node_agrees z (number x) h = z

  pub node_in : f nothing ≡ g nothing → (i : ℕ) (n : Node) → depth n ≤ suc b → f (node_at_of i n) ≡ g (node_at_of i n)
  unfolding node_at_of depth
  node_in z i (node at k fs) h = let l = piece_depth fs i in node_agrees z (piece_in fs i) (omega arith)

pub items_depth : (i : ℕ) (n : Node) → depth_items (items_at_of i n) < depth n
unfolding items_at_of depth
items_depth i (node at k fs) = let l = piece_depth fs i in go (piece_in fs i) l
  where
    go : (p : Piece) → depth_piece p ≤ depth_fields fs → depth_items (as_items_of p) < suc (depth_fields fs)
    go (one n) h = omega arith
    go (list is) h = omega arith
    go (text bs) h = omega arith
    go (byte x) h = omega arith
    go (mark x) h = omega arith
    go (number x) h = omega arith

module _ (f g : Node → Bool) (b : ℕ) (agree : (m : Node) → depth m ≤ b → f m ≡ g m) where
  pub any_agrees : (is : Items) → depth_items is ≤ b → any f is ≡ any g is
  unfolding any depth
  any_agrees none h = refl
  any_agrees (hole is) h = any_agrees is h
  any_agrees (item n is) h = ap₂ (λ (x y : Bool). x || y) (agree n (omega arith)) (any_agrees is (omega arith))

module _ (f g : Node → Items) (b : ℕ) (agree : (m : Node) → depth m ≤ b → f m ≡ g m) where
  pub gather_agrees : (is : Items) → depth_items is ≤ b → gather f is ≡ gather g is
  unfolding gather depth
  gather_agrees none h = refl
  gather_agrees (hole is) h = gather_agrees is h
  gather_agrees (item n is) h = ap₂ (λ (x y : Items). x +++ y) (agree n (omega arith)) (gather_agrees is (omega arith))

module _ (f g : Node → Node) (b : ℕ) (agree : (m : Node) → depth m ≤ b → f m ≡ g m) where
  pub each_agrees : (is : Items) → depth_items is ≤ b → each f is ≡ each g is
  unfolding each depth
  each_agrees none h = refl
  each_agrees (hole is) h = ap hole (each_agrees is h)
  each_agrees (item n is) h = ap₂ item (agree n (omega arith)) (each_agrees is (omega arith))

  on_node_agrees : (p : Piece) → depth_piece p ≤ b → on_node f p ≡ on_node g p
  unfolding on_node depth
  on_node_agrees (one n) h = ap one (agree n h)
  on_node_agrees (list is) h = refl
  on_node_agrees (text bs) h = refl
  on_node_agrees (byte x) h = refl
  on_node_agrees (mark x) h = refl
  on_node_agrees (number x) h = refl

  on_items_agrees : (p : Piece) → depth_piece p ≤ b → on_items (each f) p ≡ on_items (each g) p
  unfolding on_items depth
  on_items_agrees (one n) h = refl
  on_items_agrees (list is) h = ap list (each_agrees is h)
  on_items_agrees (text bs) h = refl
  on_items_agrees (byte x) h = refl
  on_items_agrees (mark x) h = refl
  on_items_agrees (number x) h = refl

changed_agrees : (f g : Piece → Piece) (b : ℕ) → ((p : Piece) → depth_piece p ≤ b → f p ≡ g p) → (fs : Fields) (i : ℕ) → depth_fields fs ≤ b
    → change_in fs i f ≡ change_in fs i g
unfolding change_in depth
changed_agrees f g b agree done i h = refl
changed_agrees f g b agree (absent fs) zero h = refl
changed_agrees f g b agree (absent fs) (suc i) h = ap absent (changed_agrees f g b agree fs i h)
changed_agrees f g b agree (field p fs) zero h = ap (λ (x : Piece). field x fs) (agree p (omega arith))
changed_agrees f g b agree (field p fs) (suc i) h = ap (field p) (changed_agrees f g b agree fs i (omega arith))

module _ (f g : Node → Node) (b : ℕ) (agree : (m : Node) → depth m ≤ b → f m ≡ g m) where
  change_node_agrees : (i : ℕ) (n : Node) → depth n ≤ suc b → change_node i f n ≡ change_node i g n
  unfolding change depth
  change_node_agrees i (node at k fs) h = ap (node at k) (changed_agrees (on_node f) (on_node g) b (on_node_agrees f g b agree) fs i (omega arith))

  change_each_agrees : (i : ℕ) (n : Node) → depth n ≤ suc b → change_items i (each f) n ≡ change_items i (each g) n
  unfolding change depth
  change_each_agrees i (node at k fs) h =
      ap (node at k) (changed_agrees (on_items (each f)) (on_items (each g)) b (on_items_agrees f g b agree) fs i (omega arith))

pub values_agree : (f g : Node → Node) (b : ℕ) → ((m : Node) → depth m ≤ b → f m ≡ g m) → (p : Node) → depth p ≤ suc b → with_values f p ≡ with_values g p
values_agree f g b agree p h =
    change_each_agrees (λ q. change_node 1 f q) (λ q. change_node 1 g q) b (λ q l. change_node_agrees f g b agree 1 q (omega arith)) 0 p h

shallow : (at k : ℕ) (fs : Fields) (b : ℕ) → depth (node at k fs) ≤ suc b → depth_fields fs ≤ b
unfolding depth
shallow at k fs b h = omega arith

-- fields 0 and 1 changed
both_changed : (f g : Node → Node) (b : ℕ) → ((m : Node) → depth m ≤ b → f m ≡ g m) → (fs : Fields) → depth_fields fs ≤ b
    → change_in (change_in fs 0 (on_items (each f))) 1 (on_node f) ≡ change_in (change_in fs 0 (on_items (each g))) 1 (on_node g)
unfolding change_in depth
both_changed f g b agree done h = refl
both_changed f g b agree (absent fs) h = ap absent (changed_agrees (on_node f) (on_node g) b (on_node_agrees f g b agree) fs 0 h)
both_changed f g b agree (field p fs) h =
    ap₂ field (on_items_agrees f g b agree p (omega arith))
    (changed_agrees (on_node f) (on_node g) b (on_node_agrees f g b agree) fs 0 (omega arith))

both_agree : (f g : Node → Node) (b : ℕ) → ((m : Node) → depth m ≤ b → f m ≡ g m) → (p : Node) → depth p ≤ suc b
    → with_rest f (with_items f p) ≡ with_rest g (with_items g p)
unfolding change
both_agree f g b agree (node at k fs) h = ap (node at k) (both_changed f g b agree fs (shallow at k fs b h))

-- ---- the searches. Each is the same with any two numbers of levels that are both enough

-- nothing is found in nothing

pub has_nothing : (d : ℕ) → has_nested_object_rest d nothing ≡ false
unfolding has_nested_object_rest shape
has_nothing zero = refl
has_nothing (suc d) = refl

pub array_nothing : (d : ℕ) → has_nested_array_rest d nothing ≡ false
unfolding has_nested_array_rest shape
array_nothing zero = refl
array_nothing (suc d) = refl

pub nearest_nothing : (arrays : Bool) (d : ℕ) → nearest arrays d nothing ≡ none
unfolding nearest shape
nearest_nothing arrays zero = refl
nearest_nothing arrays (suc d) = refl

pub reference_clear : (c : Context) (p : Node) (d : ℕ) → nearest true d (reference c p) ≡ none
unfolding nearest shape
reference_clear c p zero = refl
reference_clear c p (suc d) = refl

pub reference_bare : (c : Context) (p : Node) (d : ℕ) → has_nested_object_rest d (reference c p) ≡ false
unfolding has_nested_object_rest shape
reference_bare c p zero = refl
reference_bare c p (suc d) = refl

pub moved_nothing : (d : ℕ) → moved d nothing ≡ none
unfolding moved shape
moved_nothing zero = refl
moved_nothing (suc d) = refl

module _ (c : Context) where
  pub objects_nothing : (d : ℕ) → objects_with_rest c d nothing ≡ none
  unfolding objects_with_rest shape
  objects_nothing zero = refl
  objects_nothing (suc d) = refl

  pub nested_nothing : (d : ℕ) → nested c d nothing ≡ none
  unfolding nested shape
  nested_nothing zero = refl
  nested_nothing (suc d) = refl

has_same : (b d e : ℕ) (p : Node) → b ≤ d → b ≤ e → depth p ≤ b → has_nested_object_rest d p ≡ has_nested_object_rest e p
unfolding has_nested_object_rest
has_same zero d e p h k l = let z = depth_pos p in absurd (omega arith)
has_same (suc b) zero e p h k l = absurd (omega arith)
has_same (suc b) (suc d) zero p h k l = absurd (omega arith)
has_same (suc b) (suc d) (suc e) p h k l =
    let agree : (m : Node) → depth m ≤ b → has_nested_object_rest d m ≡ has_nested_object_rest e m = λ m z. has_same b d e m (omega arith) (omega arith) z in
    let z = has_nothing d ∙ sym (has_nothing e) in
    let i = items_depth 0 p in
    by_shape (shape p)
    (λ s. rw (s, has_nested_object_rest) (ap (λ (x : Bool). has_rest_of p || x) (any_agrees (λ q. has_nested_object_rest d (value q)) (λ q. has_nested_object_rest e (value q)) b
    (λ q y. node_in (λ m. has_nested_object_rest d m) (λ m. has_nested_object_rest e m) b agree z 1 q (omega arith)) (properties p) (omega arith))))
    (λ s. rw (s, has_nested_object_rest) (ap₂ (λ (x y : Bool). x || y) (any_agrees (λ m. has_nested_object_rest d m) (λ m. has_nested_object_rest e m) b agree (items_of p) (omega arith)) (node_in (λ m. has_nested_object_rest d m) (λ m. has_nested_object_rest e m) b agree z 1 p l)))
    (λ s. rw (s, has_nested_object_rest) (node_in (λ m. has_nested_object_rest d m) (λ m. has_nested_object_rest e m) b agree z 0 p l))
    (λ s. rw (s, has_nested_object_rest) refl)

array_same : (b d e : ℕ) (p : Node) → b ≤ d → b ≤ e → depth p ≤ b → has_nested_array_rest d p ≡ has_nested_array_rest e p
unfolding has_nested_array_rest
array_same zero d e p h k l = let z = depth_pos p in absurd (omega arith)
array_same (suc b) zero e p h k l = absurd (omega arith)
array_same (suc b) (suc d) zero p h k l = absurd (omega arith)
array_same (suc b) (suc d) (suc e) p h k l =
    let agree : (m : Node) → depth m ≤ b → has_nested_array_rest d m ≡ has_nested_array_rest e m = λ m z. array_same b d e m (omega arith) (omega arith) z in
    let z = array_nothing d ∙ sym (array_nothing e) in
    let y = has_nothing d ∙ sym (has_nothing e) in
    let i = items_depth 0 p in
    by_shape (shape p)
    (λ s. rw (s, has_nested_array_rest) (any_agrees (λ q. has_nested_array_rest d (value q)) (λ q. has_nested_array_rest e (value q)) b
    (λ q y. node_in (λ m. has_nested_array_rest d m) (λ m. has_nested_array_rest e m) b agree z 1 q (omega arith)) (properties p) (omega arith)))
    (λ s. rw (s, has_nested_array_rest) (ap₂ (λ (x y : Bool). x || y) (any_agrees (λ m. has_nested_array_rest d m) (λ m. has_nested_array_rest e m) b agree (items_of p) (omega arith))
    (node_in (λ m. has_nested_object_rest d m) (λ m. has_nested_object_rest e m) b (λ m u. has_same b d e m (omega arith) (omega arith) u) y 1 p l)))
    (λ s. rw (s, has_nested_array_rest) (node_in (λ m. has_nested_array_rest d m) (λ m. has_nested_array_rest e m) b agree z 0 p l))
    (λ s. rw (s, has_nested_array_rest) refl)

nearest_same : (arrays : Bool) (b d e : ℕ) (p : Node) → b ≤ d → b ≤ e → depth p ≤ b → nearest arrays d p ≡ nearest arrays e p
unfolding nearest
nearest_same arrays zero d e p h k l = let z = depth_pos p in absurd (omega arith)
nearest_same arrays (suc b) zero e p h k l = absurd (omega arith)
nearest_same arrays (suc b) (suc d) zero p h k l = absurd (omega arith)
nearest_same arrays (suc b) (suc d) (suc e) p h k l =
    let agree : (m : Node) → depth m ≤ b → nearest arrays d m ≡ nearest arrays e m = λ m z. nearest_same arrays b d e m (omega arith) (omega arith) z in
    let z = nearest_nothing arrays d ∙ sym (nearest_nothing arrays e) in
    let i = items_depth 0 p in
    by_shape (shape p)
    (λ s. rw (s, nearest) (ap (λ (x : Items). cond (has_rest_of p) (only p) x) (gather_agrees (λ q. nearest arrays d (value q)) (λ q. nearest arrays e (value q)) b
    (λ q y. node_in (λ m. nearest arrays d m) (λ m. nearest arrays e m) b agree z 1 q (omega arith)) (properties p) (omega arith))))
    (λ s. rw (s, nearest) (ap (λ (x : Items). cond arrays x none) (gather_agrees (λ m. nearest arrays d m) (λ m. nearest arrays e m) b agree (items_of p) (omega arith))))
    (λ s. rw (s, nearest) (node_in (λ m. nearest arrays d m) (λ m. nearest arrays e m) b agree z 0 p l))
    (λ s. rw (s, nearest) refl)

moved_same : (b d e : ℕ) (p : Node) → b ≤ d → b ≤ e → depth p ≤ b → moved d p ≡ moved e p
unfolding moved
moved_same zero d e p h k l = let z = depth_pos p in absurd (omega arith)
moved_same (suc b) zero e p h k l = absurd (omega arith)
moved_same (suc b) (suc d) zero p h k l = absurd (omega arith)
moved_same (suc b) (suc d) (suc e) p h k l =
    let agree : (m : Node) → depth m ≤ b → moved d m ≡ moved e m = λ m z. moved_same b d e m (omega arith) (omega arith) z in
    let z = moved_nothing d ∙ sym (moved_nothing e) in
    let i = items_depth 0 p in
    by_shape (shape p)
    (λ s. rw (s, moved) (refl))
    (λ s. rw (s, moved) (ap₂ (λ (x y : Items). x +++ y) (gather_agrees (λ m. moved d m) (λ m. moved e m) b agree (items_of p) (omega arith)) (node_in (λ m. moved d m) (λ m. moved e m) b agree z 1 p l)))
    (λ s. rw (s, moved) (refl))
    (λ s. rw (s, moved) refl)

module _ (c : Context) where
  replaced_same : (b d e : ℕ) (p : Node) → b ≤ d → b ≤ e → depth p ≤ b → replaced c d p ≡ replaced c e p
  unfolding replaced
  replaced_same zero d e p h k l = let z = depth_pos p in absurd (omega arith)
  replaced_same (suc b) zero e p h k l = absurd (omega arith)
  replaced_same (suc b) (suc d) zero p h k l = absurd (omega arith)
  replaced_same (suc b) (suc d) (suc e) p h k l =
      let agree : (m : Node) → depth m ≤ b → replaced c d m ≡ replaced c e m = λ m z. replaced_same b d e m (omega arith) (omega arith) z in
      let i = items_depth 0 p in
      by_shape (shape p)
      (λ s. rw (s, replaced) (ap (λ (x : Node). cond (has_rest_of p) (reference c p) x) (values_agree (λ m. replaced c d m) (λ m. replaced c e m) b agree p l)))
      (λ s. rw (s, replaced) (change_each_agrees (λ m. replaced c d m) (λ m. replaced c e m) b agree 0 p l))
      (λ s. rw (s, replaced) (change_node_agrees (λ m. replaced c d m) (λ m. replaced c e m) b agree 0 p l))
      (λ s. rw (s, replaced) refl)

  objects_same : (b d e : ℕ) (p : Node) → b ≤ d → b ≤ e → depth p ≤ b → objects_with_rest c d p ≡ objects_with_rest c e p
  unfolding objects_with_rest
  objects_same zero d e p h k l = let z = depth_pos p in absurd (omega arith)
  objects_same (suc b) zero e p h k l = absurd (omega arith)
  objects_same (suc b) (suc d) zero p h k l = absurd (omega arith)
  objects_same (suc b) (suc d) (suc e) p h k l =
      let agree : (m : Node) → depth m ≤ b → objects_with_rest c d m ≡ objects_with_rest c e m = λ m z. objects_same b d e m (omega arith) (omega arith) z in
      let z = objects_nothing c d ∙ sym (objects_nothing c e) in
      let i = items_depth 0 p in
      by_shape (shape p)
      (λ s. rw (s, objects_with_rest) (ap₂ (λ (x : Items) (y : Node). x +++ cond (has_rest_of p) (only y) none) (gather_agrees (λ q. objects_with_rest c d (value q)) (λ q. objects_with_rest c e (value q)) b
      (λ q y. node_in (λ m. objects_with_rest c d m) (λ m. objects_with_rest c e m) b agree z 1 q (omega arith)) (properties p) (omega arith))
      (values_agree (λ m. replaced c d m) (λ m. replaced c e m) b (λ m u. replaced_same b d e m (omega arith) (omega arith) u) p l)))
      (λ s. rw (s, objects_with_rest) (gather_agrees (λ m. objects_with_rest c d m) (λ m. objects_with_rest c e m) b agree (items_of p) (omega arith)))
      (λ s. rw (s, objects_with_rest) (node_in (λ m. objects_with_rest c d m) (λ m. objects_with_rest c e m) b agree z 0 p l))
      (λ s. rw (s, objects_with_rest) refl)

  nested_same : (b d e : ℕ) (p : Node) → b ≤ d → b ≤ e → depth p ≤ b → nested c d p ≡ nested c e p
  unfolding nested
  nested_same zero d e p h k l = let z = depth_pos p in absurd (omega arith)
  nested_same (suc b) zero e p h k l = absurd (omega arith)
  nested_same (suc b) (suc d) zero p h k l = absurd (omega arith)
  nested_same (suc b) (suc d) (suc e) p h k l =
      let agree : (m : Node) → depth m ≤ b → nested c d m ≡ nested c e m = λ m z. nested_same b d e m (omega arith) (omega arith) z in
      let z = nested_nothing c d ∙ sym (nested_nothing c e) in
      let i = items_depth 0 p in
      by_shape (shape p)
      (λ s. rw (s, nested) (ap₂ (λ (x : Node) (y : Items). cond (has_rest_of p) (own c x (reference c p)) none +++ y) (values_agree (λ m. replaced c d m) (λ m. replaced c e m) b (λ m u. replaced_same b d e m (omega arith) (omega arith) u) p l)
      (gather_agrees (λ q. nested c d (value q)) (λ q. nested c e (value q)) b
      (λ q y. node_in (λ m. nested c d m) (λ m. nested c e m) b agree z 1 q (omega arith)) (properties p) (omega arith))))
      (λ s. rw (s, nested) (gather_agrees (λ m. nested c d m) (λ m. nested c e m) b agree (items_of p) (omega arith)))
      (λ s. rw (s, nested) (node_in (λ m. nested c d m) (λ m. nested c e m) b agree z 0 p l))
      (λ s. rw (s, nested) refl)

  parts_same : (b d e : ℕ) (p : Node) → b ≤ d → b ≤ e → depth p ≤ b → parts_replaced c d p ≡ parts_replaced c e p
  unfolding parts_replaced
  parts_same zero d e p h k l = let z = depth_pos p in absurd (omega arith)
  parts_same (suc b) zero e p h k l = absurd (omega arith)
  parts_same (suc b) (suc d) zero p h k l = absurd (omega arith)
  parts_same (suc b) (suc d) (suc e) p h k l =
      let agree : (m : Node) → depth m ≤ b → parts_replaced c d m ≡ parts_replaced c e m = λ m z. parts_same b d e m (omega arith) (omega arith) z in
      let i = items_depth 0 p in
      by_shape (shape p)
      (λ s. rw (s, parts_replaced) (ap (λ (x : Node). cond (has_rest_of p) (reference c p) x) (values_agree (λ m. parts_replaced c d m) (λ m. parts_replaced c e m) b agree p l)))
      (λ s. rw (s, parts_replaced) (refl))
      (λ s. rw (s, parts_replaced) (change_node_agrees (λ m. parts_replaced c d m) (λ m. parts_replaced c e m) b agree 0 p l))
      (λ s. rw (s, parts_replaced) refl)

  moved_out_same : (b d e : ℕ) (p : Node) → b ≤ d → b ≤ e → depth p ≤ b → moved_out_of c d p ≡ moved_out_of c e p
  unfolding moved_out_of
  moved_out_same zero d e p h k l = let z = depth_pos p in absurd (omega arith)
  moved_out_same (suc b) zero e p h k l = absurd (omega arith)
  moved_out_same (suc b) (suc d) zero p h k l = absurd (omega arith)
  moved_out_same (suc b) (suc d) (suc e) p h k l =
      let agree : (m : Node) → depth m ≤ b → moved_out_of c d m ≡ moved_out_of c e m = λ m z. moved_out_same b d e m (omega arith) (omega arith) z in
      let i = items_depth 0 p in
      by_shape (shape p)
      (λ s. rw (s, moved_out_of) (refl))
      (λ s. rw (s, moved_out_of) (both_agree (λ m. moved_out_of c d m) (λ m. moved_out_of c e m) b agree p l))
      (λ s. rw (s, moved_out_of) (refl))
      (λ s. rw (s, moved_out_of) refl)

-- ---- more levels than the pattern has change nothing

module _ (d : ℕ) (p : Node) (enough : depth p ≤ d) where
  pub has_levels : has_nested_object_rest d p ≡ has_nested_object_rest (depth p) p
  has_levels = has_same (depth p) d (depth p) p enough (omega arith) (omega arith)

  pub array_levels : has_nested_array_rest d p ≡ has_nested_array_rest (depth p) p
  array_levels = array_same (depth p) d (depth p) p enough (omega arith) (omega arith)

  pub nearest_levels : (arrays : Bool) → nearest arrays d p ≡ nearest arrays (depth p) p
  nearest_levels arrays = nearest_same arrays (depth p) d (depth p) p enough (omega arith) (omega arith)

  pub moved_levels : moved d p ≡ moved (depth p) p
  moved_levels = moved_same (depth p) d (depth p) p enough (omega arith) (omega arith)

  module _ (c : Context) where
    pub replaced_levels : replaced c d p ≡ replaced c (depth p) p
    replaced_levels = replaced_same c (depth p) d (depth p) p enough (omega arith) (omega arith)

    pub objects_levels : objects_with_rest c d p ≡ objects_with_rest c (depth p) p
    objects_levels = objects_same c (depth p) d (depth p) p enough (omega arith) (omega arith)

    pub nested_levels : nested c d p ≡ nested c (depth p) p
    nested_levels = nested_same c (depth p) d (depth p) p enough (omega arith) (omega arith)

    pub parts_levels : parts_replaced c d p ≡ parts_replaced c (depth p) p
    parts_levels = parts_same c (depth p) d (depth p) p enough (omega arith) (omega arith)

    pub moved_out_levels : moved_out_of c d p ≡ moved_out_of c (depth p) p
    moved_out_levels = moved_out_same c (depth p) d (depth p) p enough (omega arith) (omega arith)

-- ---- the objects below a pattern, by its parts

module _ (c : Context) where
  pub below_leaf : (p : Node) → shape p ≡ leaf → objects_below c p ≡ none
  unfolding depth
  below_leaf (node at k fs) e = objects_leaf c (depth_fields fs) (node at k fs) e

  -- below an object pattern: those below its values, and itself
  pub below_object : (p : Node) → shape p ≡ object_pattern
      → objects_below c p ≡ gather (λ q. objects_below c (value q)) (properties p) +++ cond (has_rest_of p) (only (with_values (λ v. replaced_below c v) p)) none
  unfolding depth
  below_object (node at k fs) e =
      let p = node at k fs in
      let d = depth_fields fs in
      let i = items_depth 0 p in
      objects_object c d p e
      ∙ ap₂ (λ (x : Items) (y : Node). x +++ cond (has_rest_of p) (only y) none)
      (gather_agrees (λ q. objects_with_rest c d (value q)) (λ q. objects_below c (value q)) d
      (λ q l.
      node_in (λ m. objects_with_rest c d m) (λ m. objects_below c m) d (λ m h. objects_levels d m h c)
      (objects_nothing c d ∙ sym (objects_nothing c (depth nothing))) 1 q (omega arith))
      (properties p) (omega arith))
      (values_agree (λ v. replaced c d v) (λ v. replaced_below c v) d (λ m h. replaced_levels d m h c) p (omega arith))
