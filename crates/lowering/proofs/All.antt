-- What holds of each part of a node, and walks that agree on each part.
-- Assumes nothing.
use mathlib.Core.Path.{◌≡◌, refl, ap, ap₂}
use Prim.Native.Nat.{ℕ, zero, suc}
use Rattle.tree.specs.Tree.{Node, Fields, Piece, Items}
use Rattle.tree.specs.Tree.Node.{node}
use Rattle.tree.specs.Tree.Fields.{done, absent, field}
use Rattle.tree.specs.Tree.Piece.{one, list, text, byte, mark, number}
use Rattle.tree.specs.Tree.Items.{none, hole, item}
use Rattle.lowering.specs.Parts.{piece_in, is, each, gather, ◌+++◌, change_in, any}
use Rattle.lowering.specs.Walk.{Note, Walked, WalkedFields, WalkedPiece, WalkedItems, each_item_of, each_piece, each_field, inside}
use Rattle.lowering.specs.Walk.Walked.{noted}
use mathlib.Core.Bool.{Bool, cond, false, true}
use Rattle.lowering.proofs.Cases.{or_left, or_right}

abbrev pub AllItems : (Node → Type 0) → Items → Type 0
AllItems P none = Unit {0}
AllItems P (hole is) = AllItems P is
AllItems P (item n is) = P n × AllItems P is

abbrev pub AllPiece : (Node → Type 0) → Piece → Type 0
AllPiece P (one n) = P n
AllPiece P (list is) = AllItems P is
AllPiece P (text bs) = Unit {0}
AllPiece P (byte b) = Unit {0}
AllPiece P (mark b) = Unit {0}
AllPiece P (number b) = Unit {0}

abbrev pub AllFields : (Node → Type 0) → Fields → Type 0
AllFields P done = Unit {0}
AllFields P (absent fs) = AllFields P fs
AllFields P (field p fs) = AllPiece P p × AllFields P fs

abbrev pub Each : (Node → Type 0) → Node → Type 0
Each P (node at k fs) = AllFields P fs

module _ (P Q : Node → Type 0) (f : (n : Node) → P n → Q n) where
  pub weaker_items : (is : Items) → AllItems P is → AllItems Q is
  weaker_items none h = tt
  weaker_items (hole is) h = weaker_items is h
  weaker_items (item n is) h = (f n h.0, weaker_items is h.1)

  pub weaker_piece : (p : Piece) → AllPiece P p → AllPiece Q p
  weaker_piece (one n) h = f n h
  weaker_piece (list is) h = weaker_items is h
  weaker_piece (text bs) h = tt
  weaker_piece (byte b) h = tt
  weaker_piece (mark b) h = tt
  weaker_piece (number b) h = tt

  pub weaker_fields : (fs : Fields) → AllFields P fs → AllFields Q fs
  weaker_fields done h = tt
  weaker_fields (absent fs) h = weaker_fields fs h
  weaker_fields (field p fs) h = (weaker_piece p h.0, weaker_fields fs h.1)

  pub weaker_each : (n : Node) → Each P n → Each Q n
  weaker_each (node at k fs) h = weaker_fields fs h

pub both_items : (P Q R : Node → Type 0) → ((n : Node) → P n → Q n → R n) → (is : Items) → AllItems P is → AllItems Q is → AllItems R is
both_items P Q R f none h k = tt
both_items P Q R f (hole is) h k = both_items P Q R f is h k
both_items P Q R f (item n is) h k = (f n h.0 k.0, both_items P Q R f is h.1 k.1)

pub all_unit : (is : Items) → AllItems (λ q. Unit {0}) is
all_unit none = tt
all_unit (hole is) = all_unit is
all_unit (item n is) = (tt, all_unit is)

pub all_append : (P : Node → Type 0) (is js : Items) → AllItems P is → AllItems P js → AllItems P (is +++ js)
unfolding ◌+++◌
all_append P none js h k = k
all_append P (hole is) js h k = all_append P is js h k
all_append P (item n is) js h k = (h.0, all_append P is js h.1 k)

pub all_cond : (P : Node → Type 0) (b : Bool) (is js : Items) → AllItems P is → AllItems P js → AllItems P (cond b is js)
all_cond P true is js h k = h
all_cond P false is js h k = k

pub all_gather : (P Q : Node → Type 0) (f : Node → Items) → ((n : Node) → P n → AllItems Q (f n)) → (is : Items) → AllItems P is → AllItems Q (gather f is)
unfolding gather
all_gather P Q f g none h = tt
all_gather P Q f g (hole is) h = all_gather P Q f g is h
all_gather P Q f g (item n is) h = all_append Q (f n) (gather f is) (g n h.0) (all_gather P Q f g is h.1)

pub all_each : (P Q : Node → Type 0) (f : Node → Node) → ((n : Node) → P n → Q (f n)) → (is : Items) → AllItems P is → AllItems Q (each f is)
unfolding each
all_each P Q f g none h = tt
all_each P Q f g (hole is) h = all_each P Q f g is h
all_each P Q f g (item n is) h = (g n h.0, all_each P Q f g is h.1)

pub all_changed : (P : Node → Type 0) (fs : Fields) (i : ℕ) (f : Piece → Piece) → AllFields P fs → AllPiece P (f (piece_in fs i)) → AllFields P (change_in fs i f)
unfolding piece_in change_in
all_changed P done i f h k = tt
all_changed P (absent fs) zero f h k = h
all_changed P (absent fs) (suc i) f h k = all_changed P fs i f h k
all_changed P (field p fs) zero f h k = (k, h.1)
all_changed P (field p fs) (suc i) f h k = (h.0, all_changed P fs i f h.1 k)

pub other_changed : (fs : Fields) (i : ℕ) (f : Piece → Piece) (j : ℕ) → (i ≡ j → ⊥) → piece_in (change_in fs i f) j ≡ piece_in fs j
unfolding piece_in change_in
other_changed done i f j h = refl
other_changed (absent fs) zero f zero h = refl
other_changed (absent fs) zero f (suc j) h = refl
other_changed (absent fs) (suc i) f zero h = refl
other_changed (absent fs) (suc i) f (suc j) h = other_changed fs i f j (λ e. h (ap suc e))
other_changed (field p fs) zero f zero h = absurd (h refl)
other_changed (field p fs) zero f (suc j) h = refl
other_changed (field p fs) (suc i) f zero h = refl
other_changed (field p fs) (suc i) f (suc j) h = other_changed fs i f j (λ e. h (ap suc e))

module _ (v w : ℕ → Node → Walked) where
  each_same : (j : ℕ) (is : Items) → AllItems (λ m. (i : ℕ) → v i m ≡ w i m) is → each_item_of v j is ≡ each_item_of w j is
  unfolding each_item_of
  each_same j none h = refl
  each_same j (hole is) h = ap WalkedItems.hole (each_same (suc j) is h)
  each_same j (item n is) h = ap₂ WalkedItems.item (h.0 j) (each_same (suc j) is h.1)

  piece_same : (p : Piece) → AllPiece (λ m. (i : ℕ) → v i m ≡ w i m) p → each_piece v p ≡ each_piece w p
  unfolding each_piece
  piece_same (one n) h = ap WalkedPiece.one (h 0)
  piece_same (list is) h = ap WalkedPiece.list (each_same 0 is h)
  piece_same (text bs) h = refl
  piece_same (byte b) h = refl
  piece_same (mark b) h = refl
  piece_same (number b) h = refl

-- two walks that agree on each part of a node
module _ (v w : ℕ → ℕ → Node → Walked) where
  fields_same : (i : ℕ) (fs : Fields) → AllFields (λ m. (i j : ℕ) → v i j m ≡ w i j m) fs → each_field v i fs ≡ each_field w i fs
  unfolding each_field
  fields_same i done h = refl
  fields_same i (absent fs) h = ap WalkedFields.absent (fields_same (suc i) fs h)
  fields_same i (field p fs) h =
      ap₂ WalkedFields.field
      (piece_same (v i) (w i) p (weaker_piece (λ m. (i j : ℕ) → v i j m ≡ w i j m) (λ m. (j : ℕ) → v i j m ≡ w i j m) (λ m a. a i) p h.0))
      (fields_same (suc i) fs h.1)

  pub inside_same : (note : Note) (n : Node) → Each (λ m. (i j : ℕ) → v i j m ≡ w i j m) n → inside note v n ≡ inside note w n
  unfolding inside
  inside_same note (node at k fs) h = ap (noted note at k) (fields_same 0 fs h)

pub none_passes : (f : Node → Bool) (is : Items) → any f is ≡ false → AllItems (λ n. f n ≡ false) is
unfolding any
none_passes f Items.none h = tt
none_passes f (Items.hole is) h = none_passes f is h
none_passes f (Items.item n is) h = (or_left (f n) (any f is) h, none_passes f is (or_right (f n) (any f is) h))
