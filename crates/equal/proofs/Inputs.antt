-- A tree that is accepted has no temporaries, so two of them are equal exactly if their bytes are the same.
-- Assumes nothing.
use mathlib.Core.Path.{◌≡◌, refl, sym, ap, ap₂, ◌∙◌}
use mathlib.Core.Bool.{false}
use mathlib.Core.List.{List, [], ◌++◌}
use mathlib.Core.Logic.{◌↔◌}
use Prim.Native.Nat.{ℕ}
use Rattle.tree.specs.Tree.{Node, Fields, Piece, Items, encode}
use Rattle.tree.specs.Tree.Node.{node}
use Rattle.tree.specs.Grammar.Stage.{input}
use Rattle.tree.specs.Read.{read_tree}
use Rattle.tree.specs.Read.Got.{got}
use Rattle.lowering.proofs.Accepted.{Proper, ProperFields, ProperPiece, ProperItems, accepted_good}
use Rattle.lowering.proofs.Accepted.Proper.{proper}
use Rattle.lowering.proofs.Appearance.{In}
use Rattle.equal.specs.Canonical.{numbers, numbers_fields, numbers_piece, numbers_items, place_of, canonical}
use Rattle.equal.specs.Equal.{Equal}
use Rattle.equal.proofs.Renumber.{trees}

abbrev joined : List ℕ → List ℕ → List ℕ
joined xs ys = xs ++ ys

mutual
  unfolding numbers

  none_numbered : (n : Node) → Proper n → numbers n ≡ []
  none_numbered (node at k fs) (proper names objects holes temporary helper p) = rw temporary (fields_none fs p)

  fields_none : (fs : Fields) → ProperFields fs → numbers_fields false fs ≡ []
  fields_none Fields.done ProperFields.done = refl
  fields_none (Fields.absent fs) (ProperFields.absent p) = fields_none fs p
  fields_none (Fields.field q fs) (ProperFields.field u p) = ap₂ joined (piece_none q u) (fields_none fs p)

  piece_none : (q : Piece) → ProperPiece q → numbers_piece false q ≡ []
  piece_none (Piece.one n) (ProperPiece.one p) = none_numbered n p
  piece_none (Piece.list is) (ProperPiece.list p) = items_none is p
  piece_none (Piece.text bs) ProperPiece.text = refl
  piece_none (Piece.byte b) ProperPiece.byte = refl
  piece_none (Piece.mark b) (ProperPiece.mark h) = refl
  piece_none (Piece.number b) ProperPiece.number = refl

  items_none : (is : Items) → ProperItems is → numbers_items is ≡ []
  items_none Items.none ProperItems.none = refl
  items_none (Items.hole is) (ProperItems.hole p) = items_none is p
  items_none (Items.item n is) (ProperItems.item u p) = ap₂ joined (none_numbered n u) (items_none is p)

-- a tree without temporaries is its own canonical form
itself : (n : Node) → numbers n ≡ [] → canonical n ≡ n
unfolding canonical
itself n e = trees.agree (place_of (numbers n)) (λ a. a) n (λ a i. absurd (nowhere a (rw e at i))) ∙ trees.nothing n
  where
    nowhere : (a : ℕ) → In a [] → ⊥
    nowhere a i = elim i [ ]

pub input_canonical : (limit : ℕ) (tree : List ℕ) (n : Node) (q next : ℕ) → read_tree input limit tree ≡ got n q next → canonical n ≡ n
input_canonical limit tree n q next e = itself n (none_numbered n (accepted_good limit tree n q next e).fine)

pub input_equal : (limit : ℕ) (a b : List ℕ) (m n : Node) (p q j k : ℕ) → read_tree input limit a ≡ got m p j → read_tree input limit b ≡ got n q k
    → Equal m n ↔ (encode m ≡ encode n)
unfolding Equal
input_equal limit a b m n p q j k f g =
    let u = ap encode (input_canonical limit a m p j f) in
    let v = ap encode (input_canonical limit b n q k g) in
    ((λ e. sym u ∙ (e ∙ v)), (λ e. u ∙ (e ∙ sym v)))
