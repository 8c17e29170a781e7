-- Trees compared.
-- Assumes nothing.
use mathlib.Core.Path.{◌≡◌, refl, sym, ap, ap₂}
use mathlib.Core.Bool.{Bool, true, false, ◌&&◌}
use lib.Dec.{eqb}
use borrow.Author.Tests.{eqb-true, eq-eqb}
use Rattle.tree.specs.Tree.{Node, Fields, Piece, Items}
use Rattle.tree.specs.Tree.Node.{node}
use Rattle.tree.specs.Tree.Fields.{done, absent, field}
use Rattle.tree.specs.Tree.Piece.{one, list, text, byte, mark, number}
use Rattle.tree.specs.Tree.Items.{none, hole, item}
use Rattle.overlay.specs.Objects.{same_text}
use Rattle.overlay.proofs.LaidOn.{differ, text_is, text_same}
use Rattle.lowering.proofs.Cases.{and_left, and_right}

unfoldable mutual
  pub same : Node → Node → Bool
  same (node at k fs) (node at' k' fs') = eqb at at' && (eqb k k' && same_fields fs fs')

  same_fields : Fields → Fields → Bool
  same_fields done done = true
  same_fields done (absent fs') = false
  same_fields done (field p' fs') = false
  same_fields (absent fs) done = false
  same_fields (absent fs) (absent fs') = same_fields fs fs'
  same_fields (absent fs) (field p' fs') = false
  same_fields (field p fs) done = false
  same_fields (field p fs) (absent fs') = false
  same_fields (field p fs) (field p' fs') = same_piece p p' && same_fields fs fs'

  same_piece : Piece → Piece → Bool
  same_piece (one n) (one n') = same n n'
  same_piece (one n) (list is') = false
  same_piece (one n) (text bs') = false
  same_piece (one n) (byte b') = false
  same_piece (one n) (mark b') = false
  same_piece (one n) (number b') = false
  same_piece (list is) (one n') = false
  same_piece (list is) (list is') = same_items is is'
  same_piece (list is) (text bs') = false
  same_piece (list is) (byte b') = false
  same_piece (list is) (mark b') = false
  same_piece (list is) (number b') = false
  same_piece (text bs) (one n') = false
  same_piece (text bs) (list is') = false
  same_piece (text bs) (text bs') = same_text bs bs'
  same_piece (text bs) (byte b') = false
  same_piece (text bs) (mark b') = false
  same_piece (text bs) (number b') = false
  same_piece (byte b) (one n') = false
  same_piece (byte b) (list is') = false
  same_piece (byte b) (text bs') = false
  same_piece (byte b) (byte b') = eqb b b'
  same_piece (byte b) (mark b') = false
  same_piece (byte b) (number b') = false
  same_piece (mark b) (one n') = false
  same_piece (mark b) (list is') = false
  same_piece (mark b) (text bs') = false
  same_piece (mark b) (byte b') = false
  same_piece (mark b) (mark b') = eqb b b'
  same_piece (mark b) (number b') = false
  same_piece (number b) (one n') = false
  same_piece (number b) (list is') = false
  same_piece (number b) (text bs') = false
  same_piece (number b) (byte b') = false
  same_piece (number b) (mark b') = false
  same_piece (number b) (number b') = eqb b b'

  same_items : Items → Items → Bool
  same_items none none = true
  same_items none (hole is') = false
  same_items none (item n' is') = false
  same_items (hole is) none = false
  same_items (hole is) (hole is') = same_items is is'
  same_items (hole is) (item n' is') = false
  same_items (item n is) none = false
  same_items (item n is) (hole is') = false
  same_items (item n is) (item n' is') = same n n' && same_items is is'

mutual
  unfolding same

  pub same_is : (n n' : Node) → same n n' ≡ true → n ≡ n'
  same_is (node at k fs) (node at' k' fs') e =
      let e₁ = and_right (eqb at at') _ e in
      let a : at ≡ at' = eqb-true at at' (and_left (eqb at at') _ e) in
      let b : k ≡ k' = eqb-true k k' (and_left (eqb k k') (same_fields fs fs') e₁) in
      let c : fs ≡ fs' = fields_is fs fs' (and_right (eqb k k') (same_fields fs fs') e₁) in
      cc

  fields_is : (fs fs' : Fields) → same_fields fs fs' ≡ true → fs ≡ fs'
  fields_is done done e = refl
  fields_is done (absent fs') e = differ (sym e)
  fields_is done (field p' fs') e = differ (sym e)
  fields_is (absent fs) done e = differ (sym e)
  fields_is (absent fs) (absent fs') e = ap absent (fields_is fs fs' e)
  fields_is (absent fs) (field p' fs') e = differ (sym e)
  fields_is (field p fs) done e = differ (sym e)
  fields_is (field p fs) (absent fs') e = differ (sym e)
  fields_is (field p fs) (field p' fs') e = ap₂ field (piece_is p p' (and_left (same_piece p p') (same_fields fs fs') e)) (fields_is fs fs' (and_right (same_piece p p') (same_fields fs fs') e))

  piece_is : (p p' : Piece) → same_piece p p' ≡ true → p ≡ p'
  piece_is (one n) (one n') e = ap one (same_is n n' e)
  piece_is (one n) (list is') e = differ (sym e)
  piece_is (one n) (text bs') e = differ (sym e)
  piece_is (one n) (byte b') e = differ (sym e)
  piece_is (one n) (mark b') e = differ (sym e)
  piece_is (one n) (number b') e = differ (sym e)
  piece_is (list is) (one n') e = differ (sym e)
  piece_is (list is) (list is') e = ap list (items_is is is' e)
  piece_is (list is) (text bs') e = differ (sym e)
  piece_is (list is) (byte b') e = differ (sym e)
  piece_is (list is) (mark b') e = differ (sym e)
  piece_is (list is) (number b') e = differ (sym e)
  piece_is (text bs) (one n') e = differ (sym e)
  piece_is (text bs) (list is') e = differ (sym e)
  piece_is (text bs) (text bs') e = ap text (text_is bs bs' e)
  piece_is (text bs) (byte b') e = differ (sym e)
  piece_is (text bs) (mark b') e = differ (sym e)
  piece_is (text bs) (number b') e = differ (sym e)
  piece_is (byte b) (one n') e = differ (sym e)
  piece_is (byte b) (list is') e = differ (sym e)
  piece_is (byte b) (text bs') e = differ (sym e)
  piece_is (byte b) (byte b') e = ap byte (eqb-true b b' e)
  piece_is (byte b) (mark b') e = differ (sym e)
  piece_is (byte b) (number b') e = differ (sym e)
  piece_is (mark b) (one n') e = differ (sym e)
  piece_is (mark b) (list is') e = differ (sym e)
  piece_is (mark b) (text bs') e = differ (sym e)
  piece_is (mark b) (byte b') e = differ (sym e)
  piece_is (mark b) (mark b') e = ap mark (eqb-true b b' e)
  piece_is (mark b) (number b') e = differ (sym e)
  piece_is (number b) (one n') e = differ (sym e)
  piece_is (number b) (list is') e = differ (sym e)
  piece_is (number b) (text bs') e = differ (sym e)
  piece_is (number b) (byte b') e = differ (sym e)
  piece_is (number b) (mark b') e = differ (sym e)
  piece_is (number b) (number b') e = ap number (eqb-true b b' e)

  items_is : (is is' : Items) → same_items is is' ≡ true → is ≡ is'
  items_is none none e = refl
  items_is none (hole is') e = differ (sym e)
  items_is none (item n' is') e = differ (sym e)
  items_is (hole is) none e = differ (sym e)
  items_is (hole is) (hole is') e = ap hole (items_is is is' e)
  items_is (hole is) (item n' is') e = differ (sym e)
  items_is (item n is) none e = differ (sym e)
  items_is (item n is) (hole is') e = differ (sym e)
  items_is (item n is) (item n' is') e = ap₂ item (same_is n n' (and_left (same n n') (same_items is is') e)) (items_is is is' (and_right (same n n') (same_items is is') e))

mutual
  unfolding same

  pub same_self : (n : Node) → same n n ≡ true
  same_self (node at k fs) = rw (eq-eqb at at refl, eq-eqb k k refl) (fields_self fs)

  fields_self : (fs : Fields) → same_fields fs fs ≡ true
  fields_self done = refl
  fields_self (absent fs) = fields_self fs
  fields_self (field p fs) = rw (piece_self p) (fields_self fs)

  piece_self : (p : Piece) → same_piece p p ≡ true
  piece_self (one n) = same_self n
  piece_self (list is) = items_self is
  piece_self (text bs) = text_same bs
  piece_self (byte b) = eq-eqb b b refl
  piece_self (mark b) = eq-eqb b b refl
  piece_self (number b) = eq-eqb b b refl

  items_self : (is : Items) → same_items is is ≡ true
  items_self none = refl
  items_self (hole is) = items_self is
  items_self (item n is) = rw (same_self n) (items_self is)
