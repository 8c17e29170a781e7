-- The nodes of a tree are those that stand in it, so that a cause occurs in it or no node has it.
-- Assumes nothing.
use mathlib.Core.Path.{◌≡◌, refl, sym, ap, subst, ◌∙◌}
use mathlib.Core.Bool.{Bool, true, false, ◌||◌, true≢false}
use mathlib.Core.List.{List, [], ◌∷◌, ◌++◌}
use mathlib.Core.Logic.{◌⊎◌, inl, inr}
use Prim.Native.Nat.{ℕ}
use Rattle.tree.specs.Tree.{Node, Fields, Piece, Items}
use Rattle.tree.specs.Tree.Node.{node}
use Rattle.lowering.specs.Visits.{ItemAt, NodeIn, FieldAt, PartAt, Stands}
use Rattle.lowering.specs.Collect.{nodes, nodes_fields, nodes_piece, nodes_items}
use Rattle.lowering.proofs.Appearance.{In, in_first, in_second}
use Rattle.lowering.proofs.Cases.{by_test, or_left, or_right}
use Rattle.lowering.proofs.PartsAt.{item_nodes}
use Rattle.result.specs.Left.{any_of}
use Rattle.result.specs.Causes.{Cause, shows, Within, Without, Occurs}

-- ---- tests on lists of nodes

pub or_assoc : (a b c : Bool) → (a || b) || c ≡ a || (b || c)
or_assoc true b c = refl
or_assoc false b c = refl

module _ (f : Node → Bool) where
  pub any_append : (ms ns : List Node) → any_of f (ms ++ ns) ≡ any_of f ms || any_of f ns
  unfolding any_of
  any_append [] ns = refl
  any_append (m ∷ ms) ns = ap (λ (b : Bool). f m || b) (any_append ms ns) ∙ sym (or_assoc (f m) (any_of f ms) (any_of f ns))

  pub any_split : (ms ns : List Node) → any_of f (ms ++ ns) ≡ false → (any_of f ms ≡ false) × (any_of f ns ≡ false)
  any_split ms ns h = let e = sym (any_append ms ns) ∙ h in (or_left (any_of f ms) (any_of f ns) e, or_right (any_of f ms) (any_of f ns) e)

  pub any_both : (ms ns : List Node) → any_of f ms ≡ false → any_of f ns ≡ false → any_of f (ms ++ ns) ≡ false
  any_both ms ns a b = any_append ms ns ∙ rw (a, b) refl

  pub any_in : {x : Node} {ns : List Node} → In x ns → f x ≡ true → any_of f ns ≡ true
  unfolding any_of
  any_in (In.here q) e = rw (ap f (sym q) ∙ e) refl
  any_in (In.there {b = b} i) e = by_test (f b) (λ a. rw a refl) (λ a. rw a (any_in i e))

  -- one of them passes, or none does
  passing : (ns : List Node) → ((x : Node) × In x ns × (f x ≡ true)) ⊎ ((x : Node) → In x ns → f x ≡ false)
  passing [] = inr (λ x i. elim i [ ])
  passing (n ∷ ns) = by_test (f n) (λ e. inl (n, In.here refl, e)) (λ e. further e (passing ns))
    where
      none : f n ≡ false → ((x : Node) → In x ns → f x ≡ false) → (x : Node) → In x (n ∷ ns) → f x ≡ false
      none e h x (In.here q) = ap f q ∙ e
      none e h x (In.there i) = h x i

      further : f n ≡ false → ((x : Node) × In x ns × (f x ≡ true)) ⊎ ((x : Node) → In x ns → f x ≡ false) → ((x : Node) × In x (n ∷ ns) × (f x ≡ true)) ⊎ ((x : Node) → In x (n ∷ ns) → f x ≡ false)
      further e (inl r) = inl (r.0, In.there r.1, r.2)
      further e (inr h) = inr (none e h)

in_either : {A : Type 0} {a : A} (xs : List A) {ys : List A} → In a (xs ++ ys) → In a xs ⊎ In a ys
in_either [] i = inr i
in_either (x ∷ xs) (In.here e) = inl (In.here e)
in_either {a = a} (x ∷ xs) {ys = ys} (In.there i) = go (in_either xs i)
  where
    go : In a xs ⊎ In a ys → In a (x ∷ xs) ⊎ In a ys
    go (inl j) = inl (In.there j)
    go (inr j) = inr j

-- ---- the nodes of a tree stand in it

data InFields (fs : Fields) (x : Node) : Type 0 where
  in_field : {i j : ℕ} {y : Node} → FieldAt fs i j y → Within y x → InFields fs x

data InPiece (p : Piece) (x : Node) : Type 0 where
  in_node_lem : {j : ℕ} {y : Node} → NodeIn p j y → Within y x → InPiece p x

data InItems (is : Items) (x : Node) : Type 0 where
  in_item : {j : ℕ} {y : Node} → ItemAt is j y → Within y x → InItems is x

first_field : {p : Piece} {fs : Fields} {x : Node} → InPiece p x → InFields (Fields.field p fs) x
first_field (InPiece.in_node_lem a w) = InFields.in_field (FieldAt.first a) w

behind_field : {p : Piece} {fs : Fields} {x : Node} → InFields fs x → InFields (Fields.field p fs) x
behind_field (InFields.in_field a w) = InFields.in_field (FieldAt.behind a) w

behind_absent_lem : {fs : Fields} {x : Node} → InFields fs x → InFields (Fields.absent fs) x
behind_absent_lem (InFields.in_field a w) = InFields.in_field (FieldAt.behind_absent a) w

behind_item : {n : Node} {is : Items} {x : Node} → InItems is x → InItems (Items.item n is) x
behind_item (InItems.in_item a w) = InItems.in_item (ItemAt.behind a) w

behind_hole_lem : {is : Items} {x : Node} → InItems is x → InItems (Items.hole is) x
behind_hole_lem (InItems.in_item a w) = InItems.in_item (ItemAt.behind_hole a) w

of_list : {is : Items} {x : Node} → InItems is x → InPiece (Piece.list is) x
of_list (InItems.in_item a w) = InPiece.in_node_lem (NodeIn.list a) w

of_part : {at k : ℕ} {fs : Fields} {x : Node} → InFields fs x → Within (node at k fs) x
of_part (InFields.in_field a w) = Within.deeper (PartAt.part a) w

mutual
  unfolding nodes

  pub nodes_within : (n : Node) {x : Node} → In x (nodes n) → Within n x
  nodes_within (node at k fs) (In.here e) = subst (λ (y : Node). Within (node at k fs) y) (sym e) Within.here
  nodes_within (node at k fs) (In.there i) = of_part (fields_within fs i)

  fields_within : (fs : Fields) {x : Node} → In x (nodes_fields fs) → InFields fs x
  fields_within (Fields.absent fs) i = behind_absent_lem (fields_within fs i)
  fields_within (Fields.field p fs) i = elim (in_either (nodes_piece p) i) [ inl j ↦ first_field (piece_within p j) | inr j ↦ behind_field (fields_within fs j) ]
  fields_within Fields.done i = elim i [ ]

  piece_within : (p : Piece) {x : Node} → In x (nodes_piece p) → InPiece p x
  piece_within (Piece.one n) i = InPiece.in_node_lem NodeIn.one (nodes_within n i)
  piece_within (Piece.list is) i = of_list (items_within is i)
  piece_within (Piece.text a) i = elim i [ ]
  piece_within (Piece.byte a) i = elim i [ ]
  piece_within (Piece.mark a) i = elim i [ ]
  piece_within (Piece.number a) i = elim i [ ]

  items_within : (is : Items) {x : Node} → In x (nodes_items is) → InItems is x
  items_within (Items.hole is) i = behind_hole_lem (items_within is i)
  items_within (Items.item n is) i = elim (in_either (nodes n) i) [ inl j ↦ InItems.in_item ItemAt.first (nodes_within n j) | inr j ↦ behind_item (items_within is j) ]
  items_within Items.none i = elim i [ ]

-- ---- and what stands in it is among them

first_node : (n : Node) → In n (nodes n)
unfolding nodes
first_node (node at k fs) = In.here refl

module _ {x : Node} where
  piece_nodes : {p : Piece} {j : ℕ} {y : Node} → NodeIn p j y → In x (nodes y) → In x (nodes_piece p)
  unfolding nodes
  piece_nodes NodeIn.one i = i
  piece_nodes (NodeIn.list a) i = item_nodes x a i

  field_nodes : {fs : Fields} {i j : ℕ} {y : Node} → FieldAt fs i j y → In x (nodes y) → In x (nodes_fields fs)
  unfolding nodes
  field_nodes (FieldAt.first {fs = fs} a) i = in_first (nodes_fields fs) (piece_nodes a i)
  field_nodes (FieldAt.behind {p = p} a) i = in_second (nodes_piece p) (field_nodes a i)
  field_nodes (FieldAt.behind_absent a) i = field_nodes a i

  pub within_nodes : {n : Node} → Within n x → In x (nodes n)
  unfolding nodes
  within_nodes Within.here = first_node x
  within_nodes (Within.deeper (PartAt.part a) w) = In.there (field_nodes a (within_nodes w))

  pub stands_nodes : {p q : List ℕ} {n : Node} → Stands p n q x → In x (nodes n)
  unfolding nodes
  stands_nodes Stands.here = first_node x
  stands_nodes (Stands.onward (PartAt.part a) s) = In.there (field_nodes a (stands_nodes s))

-- ---- causes

pub occurs_unless : (s : Cause) (n : Node) → (Without s n → ⊥) → Occurs s n
occurs_unless s n h = go (passing (shows s) (nodes n))
  where
    go : ((x : Node) × In x (nodes n) × (shows s x ≡ true)) ⊎ ((x : Node) → In x (nodes n) → shows s x ≡ false) → Occurs s n
    go (inl r) = Occurs.occurs (nodes_within n r.1) r.2
    go (inr k) = absurd (h (λ x w. k x (within_nodes w)))

pub occurs_not : {s : Cause} {n : Node} → Occurs s n → Without s n → ⊥
occurs_not (Occurs.occurs {x = x} w e) h = true≢false (sym e ∙ h x w)
