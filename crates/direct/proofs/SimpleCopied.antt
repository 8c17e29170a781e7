-- A node of an accepted tree without object rest and spread below it does nothing but write its bytes. So does a name.
-- Assumes nothing.
use mathlib.Core.Path.{◌≡◌, refl, ap, ap₂, ◌∙◌, fun_ext}
use mathlib.Core.Bool.{Bool, true, false}
use mathlib.Core.List.{List, [], ◌∷◌}
use Prim.Native.Nat.{ℕ, zero, suc, ◌<◌}
use native.Mathlib.Omega.{arith}
use lib.Dec.{eqb}
use Rattle.tree.specs.Tree.{Node, Fields, Piece, Items, wide_bytes, map_of, count, encode, encode_fields, encode_piece, encode_items}
use Rattle.tree.specs.Tree.Node.{node}
use Rattle.lowering.specs.Collect.{is_container, marked}
use Rattle.lowering.proofs.Simple.{Simple, SimpleFields, SimplePiece, SimpleItems, simple, rewrite_same}
use Rattle.lowering.proofs.Accepted.{Proper, ProperFields, ProperPiece, ProperItems}
use Rattle.lowering.proofs.Accepted.Proper.{proper}
use Rattle.sink.specs.Machine.{Event}
use Rattle.direct.specs.Events.{Place, Emit, puts, marks, context_of, emits}
use Rattle.direct.specs.Events.Deed.{does}
use Rattle.direct.specs.Emit.{say, ◌▷◌, below, marking, mark_here, emits_item, emits_items, emits_piece, emits_parts, stays}
use Rattle.direct.proofs.Threads.{say_puts}
use Rattle.direct.proofs.OneLevel.{emits_unchanged}

pub mark_bytes : (m : ℕ) → 0 < m → marks m ≡ puts (wide_bytes m)
unfolding marks
mark_bytes zero h = absurd (omega arith)
mark_bytes (suc m) h = refl

item_copied : (l : Bool) (c : Place) (n : Node) (bs : List ℕ) → ((d : Place) → emits d n ≡ say (puts bs)) → emits_item l c n ≡ say (puts bs)
unfolding emits_item say
item_copied true c n bs h = fun_ext (λ next. ap (λ (f : Emit). f next) (h (marking c (marked next (mark_here c n)))))
item_copied false c n bs h = h c

pub stays_plain : (c : Place) (at k : ℕ) (fs : Fields) → eqb k 20 ≡ false → eqb k 21 ≡ false
    → stays c (node at k fs) ≡ say (puts (k ∷ map_of fs ∷ [])) ▷ emits_parts (is_container k) (below c (node at k fs)) fs
unfolding stays
stays_plain c at k fs t h = rw (t, h) refl

mutual
  unfolding emits_items emits_piece emits_parts encode

  pub emits_copied : (n : Node) → Simple n → Proper n → (c : Place) → emits c n ≡ say (puts (encode n))
  emits_copied (node at k fs) (simple o l s) (proper names objects holes t h p) c =
      let n = node at k fs in
      emits_unchanged c n (rewrite_same (context_of c) n (simple o l s) (proper names objects holes t h p))
      ∙ stays_plain c at k fs t h
      ∙ ap (λ (x : Emit). say (puts (k ∷ map_of fs ∷ [])) ▷ x) (fields_copied fs s p (is_container k) (below c n))
      ∙ say_puts (k ∷ map_of fs ∷ []) (encode_fields fs)

  pub fields_copied : (fs : Fields) → SimpleFields fs → ProperFields fs → (l : Bool) (c : ℕ → Place) → emits_parts l c fs ≡ say (puts (encode_fields fs))
  fields_copied Fields.done s p l c = refl
  fields_copied (Fields.absent fs) (SimpleFields.absent s) (ProperFields.absent p) l c = fields_copied fs s p l (λ i. c (suc i))
  fields_copied (Fields.field q fs) (SimpleFields.field a s) (ProperFields.field b p) l c =
      ap₂ (λ (x y : Emit). x ▷ y) (piece_copied q a b l (c 0)) (fields_copied fs s p l (λ i. c (suc i))) ∙ say_puts (encode_piece q) (encode_fields fs)

  pub piece_copied : (p : Piece) → SimplePiece p → ProperPiece p → (l : Bool) (c : Place) → emits_piece l c p ≡ say (puts (encode_piece p))
  piece_copied (Piece.one n) (SimplePiece.one s) (ProperPiece.one p) l c = emits_copied n s p c
  piece_copied (Piece.list ns) (SimplePiece.list s) (ProperPiece.list p) l c =
      ap (λ (x : Emit). say (puts (wide_bytes (count ns))) ▷ x) (items_copied ns s p l c) ∙ say_puts (wide_bytes (count ns)) (encode_items ns)
  piece_copied (Piece.text bs) s p l c = refl
  piece_copied (Piece.byte b) s p l c = refl
  piece_copied (Piece.mark b) s (ProperPiece.mark h) l c = ap say (mark_bytes b h)
  piece_copied (Piece.number b) s p l c = refl

  pub items_copied : (ns : Items) → SimpleItems ns → ProperItems ns → (l : Bool) (c : Place) → emits_items l c ns ≡ say (puts (encode_items ns))
  items_copied Items.none s p l c = refl
  items_copied (Items.hole ns) (SimpleItems.hole s) (ProperItems.hole p) l c =
      ap (λ (x : Emit). say (does (Event.put 0) ∷ []) ▷ x) (items_copied ns s p l c) ∙ say_puts (0 ∷ []) (encode_items ns)
  items_copied (Items.item n ns) (SimpleItems.item a s) (ProperItems.item b p) l c =
      ap₂ (λ (x y : Emit). x ▷ y) (item_copied l c n (encode n) (λ d. emits_copied n a b d)) (items_copied ns s p l c) ∙ say_puts (encode n) (encode_items ns)
