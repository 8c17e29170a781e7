-- The searches without their levels: begun with the pattern's own depth, each is what it says of the parts, begun with theirs.
-- Assumes nothing.
use mathlib.Core.Path.{◌≡◌, refl, sym, ap, ap₂, ◌∙◌}
use mathlib.Core.Bool.{Bool, true, false, cond, ◌||◌}
use Prim.Native.Nat.{ℕ, ◌≤◌}
use native.Mathlib.Omega.{arith}
use lib.Dec.{eqb}
use borrow.Author.Tests.{eq-eqb, ne_eqb, eqb-true}
use Rattle.tree.specs.Tree.{Node, Fields, Piece, Items, depth, depth_fields, depth_piece, depth_items}
use Rattle.tree.specs.Tree.Node.{node}
use Rattle.tree.specs.Tree.Piece.{one, list, text, byte, mark, number}
use Rattle.tree.specs.Tree.Items.{none, hole, item}
use Rattle.lowering.specs.Parts.{nothing, kind, piece_in, as_node, as_items_of, node_at_of, items_at_of, gather, any, ◌+++◌}
use Rattle.lowering.specs.Patterns.{shape, properties, items_of, rest, has_rest_of, left_of, value, has_nested_object_rest, has_nested_array_rest, has_object_rest, has_array_rest_over_object_rest}
use Rattle.lowering.specs.Patterns.Shape.{object_pattern, array_pattern, default, leaf}
use Rattle.lowering.proofs.Levels.{has_levels, array_levels}
use Rattle.pattern.proofs.NodeParts.{Blank}
use Rattle.lowering.proofs.Levels as levels
use Rattle.lowering.proofs.Levels.{piece_depth}

-- ---- the shape by the kind

module _ (p : Node) where
  pub is_object_lem : kind p ≡ 34 → shape p ≡ object_pattern
  unfolding shape
  is_object_lem e = rw (eq-eqb (kind p) 34 e)

  pub is_array : kind p ≡ 36 → shape p ≡ array_pattern
  unfolding shape
  is_array e = rw e

  pub is_default : kind p ≡ 37 → shape p ≡ default
  unfolding shape
  is_default e = rw e

  pub is_leaf : (kind p ≡ 34 → ⊥) → (kind p ≡ 36 → ⊥) → (kind p ≡ 37 → ⊥) → shape p ≡ leaf
  unfolding shape
  is_leaf a b c = rw (ne_eqb (kind p) 34 a, ne_eqb (kind p) 36 b, ne_eqb (kind p) 37 c)

  pub object_kind : shape p ≡ object_pattern → kind p ≡ 34
  unfolding shape
  object_kind e = go (eqb (kind p) 34) (eqb (kind p) 36) (eqb (kind p) 37) refl e
    where
      go : (a b c : Bool) → eqb (kind p) 34 ≡ a → cond a object_pattern (cond b array_pattern (cond c default leaf)) ≡ object_pattern → kind p ≡ 34
      go true b c w f = eqb-true (kind p) 34 w
      go false true c w f = let z : ◌≡◌ {A = ℕ} 0 1 = cc in absurd (omega arith)
      go false false true w f = let z : ◌≡◌ {A = ℕ} 0 1 = cc in absurd (omega arith)
      go false false false w f = let z : ◌≡◌ {A = ℕ} 0 1 = cc in absurd (omega arith)

  pub array_kind : shape p ≡ array_pattern → kind p ≡ 36
  unfolding shape
  array_kind e = go (eqb (kind p) 34) (eqb (kind p) 36) (eqb (kind p) 37) refl e
    where
      go : (a b c : Bool) → eqb (kind p) 36 ≡ b → cond a object_pattern (cond b array_pattern (cond c default leaf)) ≡ array_pattern → kind p ≡ 36
      go true b c w f = let z : ◌≡◌ {A = ℕ} 0 1 = cc in absurd (omega arith)
      go false true c w f = eqb-true (kind p) 36 w
      go false false true w f = let z : ◌≡◌ {A = ℕ} 0 1 = cc in absurd (omega arith)
      go false false false w f = let z : ◌≡◌ {A = ℕ} 0 1 = cc in absurd (omega arith)

-- ---- the depth of parts

items_depth : (i at k : ℕ) (fs : Fields) → depth_items (items_at_of i (node at k fs)) ≤ depth_fields fs
unfolding items_at_of depth
items_depth i at k fs = let h = piece_depth fs i in go (piece_in fs i) h
  where
    go : (p : Piece) → depth_piece p ≤ depth_fields fs → depth_items (as_items_of p) ≤ depth_fields fs
    go (one n) h = omega arith
    go (list is) h = h
    go (text bs) h = omega arith
    go (byte x) h = omega arith
    go (mark x) h = omega arith
    go (number x) h = omega arith

any_agrees : (f g : Node → Bool) (b : ℕ) → ((m : Node) → depth m ≤ b → f m ≡ g m) → (is : Items) → depth_items is ≤ b → any f is ≡ any g is
unfolding any depth
any_agrees f g b agree none h = refl
any_agrees f g b agree (hole is) h = any_agrees f g b agree is h
any_agrees f g b agree (item n is) h = ap₂ (λ (x y : Bool). x || y) (agree n (omega arith)) (any_agrees f g b agree is (omega arith))

gather_agrees : (f g : Node → Items) (b : ℕ) → ((m : Node) → depth m ≤ b → f m ≡ g m) → (is : Items) → depth_items is ≤ b → gather f is ≡ gather g is
unfolding gather depth
gather_agrees f g b agree none h = refl
gather_agrees f g b agree (hole is) h = gather_agrees f g b agree is h
gather_agrees f g b agree (item n is) h = ap₂ (λ (x y : Items). x +++ y) (agree n (omega arith)) (gather_agrees f g b agree is (omega arith))

-- ---- a search F, and the same begun with the depth

abbrev pub Levels : {A : Type 0} → (ℕ → Node → A) → Type 0
Levels F = (d : ℕ) (p : Node) → depth p ≤ d → F d p ≡ F (depth p) p

abbrev pub free : {A : Type 0} → (ℕ → Node → A) → Node → A
free F p = F (depth p) p

module _ {A : Type 0} (F : ℕ → Node → A) (z : A) (levels : Levels F) (bare : (d : ℕ) → F d nothing ≡ z) where
  piece_free : (b : ℕ) (p : Piece) → depth_piece p ≤ b → F b (as_node p) ≡ free F (as_node p)
  unfolding depth
  piece_free b (one n) h = levels b n h
  piece_free b (list is) h = bare b ∙ sym (bare (depth nothing))
  piece_free b (text bs) h = bare b ∙ sym (bare (depth nothing))
  piece_free b (byte x) h = bare b ∙ sym (bare (depth nothing))
  piece_free b (mark x) h = bare b ∙ sym (bare (depth nothing))
  piece_free b (number x) h = bare b ∙ sym (bare (depth nothing))

  -- the node in field i
  pub node_free : (b i at k : ℕ) (fs : Fields) → depth_fields fs ≤ b → F b (node_at_of i (node at k fs)) ≡ free F (node_at_of i (node at k fs))
  unfolding node_at_of
  node_free b i at k fs h = let y = piece_depth fs i in piece_free b (piece_in fs i) (omega arith)

  value_free : (b : ℕ) (q : Node) → depth q ≤ b → F b (value q) ≡ free F (value q)
  unfolding depth
  value_free b (node at k fs) h = node_free b 1 at k fs (omega arith)

module _ (F : ℕ → Node → Bool) (levels : Levels F) (bare : (d : ℕ) → F d nothing ≡ false) where
  pub any_free : (i at k : ℕ) (fs : Fields) → any (λ e. F (depth_fields fs) e) (items_at_of i (node at k fs)) ≡ any (λ e. free F e) (items_at_of i (node at k fs))
  any_free i at k fs = any_agrees (λ e. F (depth_fields fs) e) (λ e. free F e) (depth_fields fs) (λ m h. levels (depth_fields fs) m h) (items_at_of i (node at k fs)) (items_depth i at k fs)

  pub any_values : (i at k : ℕ) (fs : Fields) → any (λ q. F (depth_fields fs) (value q)) (items_at_of i (node at k fs)) ≡ any (λ q. free F (value q)) (items_at_of i (node at k fs))
  any_values i at k fs = any_agrees (λ q. F (depth_fields fs) (value q)) (λ q. free F (value q)) (depth_fields fs) (λ m h. value_free F false levels bare (depth_fields fs) m h) (items_at_of i (node at k fs)) (items_depth i at k fs)

module _ (F : ℕ → Node → Items) (levels : Levels F) (bare : (d : ℕ) → F d nothing ≡ none) where
  pub gather_free : (i at k : ℕ) (fs : Fields) → gather (λ e. F (depth_fields fs) e) (items_at_of i (node at k fs)) ≡ gather (λ e. free F e) (items_at_of i (node at k fs))
  gather_free i at k fs = gather_agrees (λ e. F (depth_fields fs) e) (λ e. free F e) (depth_fields fs) (λ m h. levels (depth_fields fs) m h) (items_at_of i (node at k fs)) (items_depth i at k fs)

  pub gather_values : (i at k : ℕ) (fs : Fields) → gather (λ q. F (depth_fields fs) (value q)) (items_at_of i (node at k fs)) ≡ gather (λ q. free F (value q)) (items_at_of i (node at k fs))
  gather_values i at k fs = gather_agrees (λ q. F (depth_fields fs) (value q)) (λ q. free F (value q)) (depth_fields fs) (λ m h. value_free F none levels bare (depth_fields fs) m h) (items_at_of i (node at k fs)) (items_depth i at k fs)

-- ---- an object rest below

abbrev pub has : Node → Bool
has p = has_object_rest p

pub has_blank : Blank has
unfolding has_nested_object_rest shape depth
has_blank at = refl

pub has_nothing : has nothing ≡ false
has_nothing = levels.has_nothing (depth nothing)

pub has_object : (p : Node) → shape p ≡ object_pattern → has p ≡ has_rest_of p || any (λ q. has (value q)) (properties p)
unfolding has_nested_object_rest depth
has_object (node at k fs) s =
    rw (s, has_nested_object_rest) (ap (λ (x : Bool). has_rest_of (node at k fs) || x) (any_values (λ d p. has_nested_object_rest d p) has_levels levels.has_nothing 0 at k fs))

pub has_array : (p : Node) → shape p ≡ array_pattern → has p ≡ any (λ e. has e) (items_of p) || has (rest p)
unfolding has_nested_object_rest depth
has_array (node at k fs) s =
    rw (s, has_nested_object_rest)
    (ap₂ (λ (x y : Bool). x || y) (any_free (λ d p. has_nested_object_rest d p) has_levels levels.has_nothing 0 at k fs)
    (node_free (λ d p. has_nested_object_rest d p) false has_levels levels.has_nothing (depth_fields fs) 1 at k fs (omega arith)))

pub has_default : (p : Node) → shape p ≡ default → has p ≡ has (left_of p)
unfolding has_nested_object_rest depth
has_default (node at k fs) s = rw (s, has_nested_object_rest) (node_free (λ d p. has_nested_object_rest d p) false has_levels levels.has_nothing (depth_fields fs) 0 at k fs (omega arith))

pub has_leaf : (p : Node) → shape p ≡ leaf → has p ≡ false
unfolding has_nested_object_rest depth
has_leaf (node at k fs) s = rw (s, has_nested_object_rest)

-- ---- an array rest with an object rest below it

abbrev pub below : Node → Bool
below p = has_array_rest_over_object_rest p

pub below_blank : Blank below
unfolding has_nested_array_rest shape depth
below_blank at = refl

pub below_nothing : below nothing ≡ false
below_nothing = levels.array_nothing (depth nothing)

pub below_object : (p : Node) → shape p ≡ object_pattern → below p ≡ any (λ q. below (value q)) (properties p)
unfolding has_nested_array_rest depth
below_object (node at k fs) s = rw (s, has_nested_array_rest) (any_values (λ d p. has_nested_array_rest d p) array_levels levels.array_nothing 0 at k fs)

pub below_array : (p : Node) → shape p ≡ array_pattern → below p ≡ any (λ e. below e) (items_of p) || has (rest p)
unfolding has_nested_array_rest depth
below_array (node at k fs) s =
    rw (s, has_nested_array_rest)
    (ap₂ (λ (x y : Bool). x || y) (any_free (λ d p. has_nested_array_rest d p) array_levels levels.array_nothing 0 at k fs)
    (node_free (λ d p. has_nested_object_rest d p) false has_levels levels.has_nothing (depth_fields fs) 1 at k fs (omega arith)))

pub below_default : (p : Node) → shape p ≡ default → below p ≡ below (left_of p)
unfolding has_nested_array_rest depth
below_default (node at k fs) s = rw (s, has_nested_array_rest) (node_free (λ d p. has_nested_array_rest d p) false array_levels levels.array_nothing (depth_fields fs) 0 at k fs (omega arith))

pub below_leaf : (p : Node) → shape p ≡ leaf → below p ≡ false
unfolding has_nested_array_rest depth
below_leaf (node at k fs) s = rw (s, has_nested_array_rest)
