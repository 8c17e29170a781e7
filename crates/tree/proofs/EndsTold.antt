-- Of a node that the reader accepts, the decoder that reads ends from notes gives that node, if the notes in the slice tell the end of each node of it.
-- Assumes nothing.
use mathlib.Core.Path.{◌≡◌, refl, sym, ap, ap₂, ◌∙◌}
use mathlib.Core.Bool.{Bool, true, false, cond, not}
use mathlib.Core.List.{List, [], ◌∷◌}
use Prim.Native.Nat.{ℕ, zero, suc, ◌+◌, ◌/◌, ◌%◌, ◌<◌, ◌≤◌}
use native.Mathlib.Omega.{arith}
use lib.Dec.{leb, ltb, eqb}
use lib.ListN.{length, take, drop}
use borrow.Author.Tests.{lt-ltb, le-ltb, ltb-true, leb-true, eqb-true}
use Rattle.tree.specs.Tree.{Node, Fields, Piece, Items}
use Rattle.tree.specs.Tree.Node.{node}
use Rattle.tree.specs.Tree.Fields.{field}
use Rattle.tree.specs.Tree.Piece.{one, list, text}
use Rattle.tree.specs.Tree.Items.{hole, item}
use Rattle.tree.specs.Grammar.{Sort, Field, Stage, form_at, fields_of, map_ok}
use Rattle.tree.specs.Grammar.Sort.{child, chosen, many, gaps, byte, mark, number}
use Rattle.tree.specs.Grammar.Stage.{input, rewritten}
use Rattle.tree.specs.Read.{Got, mapped, sort_in, byte_at, wide_at, chosen_place, read_text, read_byte, read_mark, read_number, read_item, read_items, read_list, read_field, read_slot, read_fields, read_node}
use Rattle.tree.specs.Read.Got.{got, refused}
use Rattle.tree.specs.Read.Refusal.{too_deep}
use Rattle.tree.specs.Look.{Seen, seen, seen_as, seen_both, onward, end_at, quiet_at, look_item, look_items, look_field, look_slot, look_fields, look_node}
use Rattle.tree.specs.Note.{Note, word, note_of, notes_of, notes_fields, notes_piece, notes_items}
use Rattle.tree.proofs.HoldsOfRead.{Holds, holds, of_mapped, of_accepted, of_joined, weaker}
use Rattle.tree.proofs.Within.{there, wide_there, map_byte}
use Rattle.tree.proofs.Look.{layouts, form_alike, kind_at, on_fits, on_byte, on_wide, fields_alike}
use Rattle.tree.proofs.Limit.{limit_raised}
use Rattle.tree.proofs.Sound.{SoundNode, node_sound}
use Rattle.tree.proofs.Laid.{All, all_left, all_right}
use Rattle.tree.proofs.Passed.{given}

pub word_end : (e : ℕ) (b : Bool) → e < 32768 → word e b % 32768 ≡ e
unfolding word
word_end e true h = omega arith
word_end e false h = omega arith

pub word_quiet : (e : ℕ) (b : Bool) → ltb (word e b) 32768 ≡ not b
unfolding word
word_quiet e true = le-ltb (e % 32768 + 32768) 32768 (omega arith)
word_quiet e false = lt-ltb (e % 32768 + 0) 32768 (omega arith)

-- what the notes in a slice tell of a node
pub record Known (s : List ℕ) (x : Note) : Type 0 where
  pub ends : end_at s x.at ≡ x.end
  pub quiet : quiet_at s x.at ≡ not x.loud

module _ (l : List ℕ) where
  -- the notes of it are told
  abbrev pub Tell : List Note → Type 0
  Tell ws = All (Known l) ws

  -- ---- what the reader gives is what the decoder sees

  abbrev pub NodeLooks : Seen Node → Node → ℕ → ℕ → Type 0
  NodeLooks s n q j = Tell (notes_of n) → s ≡ seen n q

  module _ (R : ℕ → Seen Node) (r : ℕ → ℕ → Got Node) (good : (at k : ℕ) → Holds (NodeLooks (R at)) (r at k)) where
    -- an item, if the notes of the items from it on are told
    abbrev ItemLooks : Seen (Items → Items) → (Items → Items) → ℕ → ℕ → Type 0
    ItemLooks s add q j = (is : Items) → Tell (notes_items (add is)) → (s ≡ seen add q) × Tell (notes_items is)

    item_node : (at k : ℕ) → Holds {A = Items → Items} (ItemLooks (seen_as (λ n is. item n is) (R at))) (mapped (λ n is. item n is) (r at k))
    unfolding notes_items
    item_node at k =
        of_mapped {B = Items → Items} (ItemLooks (seen_as (λ n is. item n is) (R at))) (λ n is. item n is) (r at k)
        (weaker (NodeLooks (R at)) _ (r at k)
        (λ n q j e is a. (ap (seen_as (λ n is. item n is)) (e (all_left (Known l) (notes_of n) (notes_items is) a)), all_right (Known l) (notes_of n) (notes_items is) a))
        (good at k))

    item_looks : (h : Bool) (at k : ℕ) → Holds {A = Items → Items} (ItemLooks (look_item l R h at)) (read_item l r h at k)
    unfolding read_item look_item notes_items
    item_looks true at k = go (eqb (byte_at l at) 0) refl
      where
        go : (b : Bool) → eqb (byte_at l at) 0 ≡ b → Holds {A = Items → Items} (ItemLooks (cond b (seen hole (onward l at 1)) (seen_as (λ n is. item n is) (R at)))) (cond b (got hole (at + 1) k) (mapped (λ n is. item n is) (r at k)))
        go true e = λ is a. (ap (seen hole) (on_byte l at (omega (arith, eqb-true (byte_at l at) 0 e))), a)
        go false e = item_node at k
    item_looks false at k = item_node at k

    abbrev ItemsLook : Seen Items → Items → ℕ → ℕ → Type 0
    ItemsLook s is q j = Tell (notes_items is) → s ≡ seen is q

    items_look : (h : Bool) (n at k : ℕ) → Holds (ItemsLook (look_items l R h n at)) (read_items l r h n at k)
    unfolding read_items look_items
    items_look h zero at k = λ _. refl
    items_look h (suc n) at k =
        of_joined (ItemsLook (seen_both (λ add is. add is) (look_item l R h at) (λ q. look_items l R h n q))) (λ add is. add is) (read_item l r h at k) (λ q j. read_items l r h n q j)
        (weaker {A = Items → Items} (ItemLooks (look_item l R h at)) _ (read_item l r h at k)
        (λ add q j first. weaker (ItemsLook (look_items l R h n q)) _ (read_items l r h n q j)
        (λ is c i e a. ap (λ (x : Seen (Items → Items)). seen_both (λ add is. add is) x (λ q. look_items l R h n q)) (first is a).0 ∙ ap (seen_as add) (e (first is a).1))
        (items_look h n q j))
        (item_looks h at k))

    list_looks : (h : Bool) (at k : ℕ) → Holds (ItemsLook (look_items l R h (wide_at l at) (onward l at 2))) (read_list l r h at k)
    unfolding read_list
    list_looks h at k =
        of_accepted (ItemsLook (look_items l R h (wide_at l at) (onward l at 2))) (ltb (wide_at l at) 65536) (read_items l r h (wide_at l at) (at + 2) k) λ t.
        rw (on_wide l at (wide_there l at (ltb-true _ _ t))) (items_look h (wide_at l at) (at + 2) k)

  -- ---- fields

  abbrev PieceLooks : Seen Piece → Piece → ℕ → ℕ → Type 0
  PieceLooks s p q j = Tell (notes_piece p) → s ≡ seen p q

  wide_looks : (p : Piece) (at k : ℕ) → wide_at l at < 65536 → PieceLooks (seen p (onward l at 2)) p (at + 2) k
  wide_looks p at k h = λ _. ap (seen p) (on_wide l at (wide_there l at h))

  mark_looks : (stage : Stage) (at k : ℕ) → Holds (PieceLooks (seen (Piece.mark (wide_at l at)) (onward l at 2))) (read_mark l stage at k)
  unfolding read_mark
  mark_looks input at k =
      of_accepted (PieceLooks (seen (Piece.mark (wide_at l at)) (onward l at 2))) (ltb (wide_at l at) 65536) _ λ t.
      of_accepted (PieceLooks (seen (Piece.mark (wide_at l at)) (onward l at 2))) (eqb (wide_at l at) k) _ λ _.
      wide_looks (Piece.mark (wide_at l at)) at (k + 1) (ltb-true _ _ t)
  mark_looks rewritten at k =
      of_accepted (PieceLooks (seen (Piece.mark (wide_at l at)) (onward l at 2))) (ltb (wide_at l at) 65536) _ λ t.
      wide_looks (Piece.mark (wide_at l at)) at k (ltb-true _ _ t)

  module _ (stage : Stage) where
    module _ (R : ℕ → Seen Node) (r : ℕ → ℕ → ℕ → Got Node) (good : (p at k : ℕ) → Holds (NodeLooks (R at)) (r p at k)) where
      one_looks : (p at k : ℕ) → Holds (PieceLooks (seen_as one (R at))) (mapped one (r p at k))
      unfolding notes_piece
      one_looks p at k = of_mapped (PieceLooks (seen_as one (R at))) one (r p at k) (weaker (NodeLooks (R at)) _ (r p at k) (λ n q j v a. ap (seen_as one) (v a)) (good p at k))

      many_look : (h : Bool) (p at k : ℕ) → Holds (PieceLooks (seen_as list (look_items l R h (wide_at l at) (onward l at 2)))) (mapped list (read_list l (r p) h at k))
      unfolding notes_piece
      many_look h p at k =
          of_mapped (PieceLooks (seen_as list (look_items l R h (wide_at l at) (onward l at 2)))) list (read_list l (r p) h at k)
          (weaker (λ is q j. Tell (notes_items is) → look_items l R h (wide_at l at) (onward l at 2) ≡ seen is q) _ (read_list l (r p) h at k) (λ is q j e a. ap (seen_as list) (e a)) (list_looks R (r p) (good p) h at k))

      pub field_looks : (t : Sort) (at k : ℕ) → Holds (PieceLooks (look_field l R t at)) (read_field l stage r t at k)
      unfolding read_field read_text read_byte read_number look_field
      field_looks (child p) at k = one_looks p at k
      field_looks (chosen p q) at k = one_looks (chosen_place l p q at) at k
      field_looks (many p) at k = many_look false p at k
      field_looks (gaps p) at k = many_look true p at k
      field_looks Sort.text at k =
          of_accepted (PieceLooks (seen (text (take (wide_at l at) (drop (at + 2) l))) (onward l at (2 + wide_at l at)))) (leb (at + 2 + wide_at l at) (length l)) _ λ t _.
          let h : at + 2 + wide_at l at ≤ length l = leb-true _ _ t in
          let e : at + (2 + wide_at l at) ≡ at + 2 + wide_at l at = omega arith in
          ap (seen (text (take (wide_at l at) (drop (at + 2) l)))) (on_fits l at (2 + wide_at l at) (omega arith) ∙ e)
      field_looks (byte a b) at k =
          of_accepted (PieceLooks (seen (Piece.byte (byte_at l at)) (onward l at 1))) (ltb (byte_at l at) 256) _ λ t.
          of_accepted (PieceLooks (seen (Piece.byte (byte_at l at)) (onward l at 1))) (leb a (byte_at l at)) _ λ _.
          of_accepted (PieceLooks (seen (Piece.byte (byte_at l at)) (onward l at 1))) (leb (byte_at l at) b) _ λ _ _.
          ap (seen (Piece.byte (byte_at l at))) (on_byte l at (ltb-true _ _ t))
      field_looks mark at k = mark_looks stage at k
      field_looks number at k =
          of_accepted (PieceLooks (seen (Piece.number (wide_at l at)) (onward l at 2))) (ltb (wide_at l at) 65536) _ λ t.
          wide_looks (Piece.number (wide_at l at)) at k (ltb-true _ _ t)

      -- a field, if the notes of the fields from it on are told
      abbrev SlotLooks : Seen (Fields → Fields) → (Fields → Fields) → ℕ → ℕ → Type 0
      SlotLooks s add q j = (gs : Fields) → Tell (notes_fields (add gs)) → (s ≡ seen add q) × Tell (notes_fields gs)

      slot_looks : (t : Sort) (bit at k : ℕ) → Holds {A = Fields → Fields} (SlotLooks (look_slot l R t bit at)) (read_slot l stage r t bit at k)
      unfolding read_slot look_slot notes_fields
      slot_looks t zero at k = λ gs a. (refl, a)
      slot_looks t (suc bit) at k =
          of_mapped {B = Fields → Fields} (SlotLooks (seen_as (λ p fs. field p fs) (look_field l R t at))) (λ p fs. field p fs) (read_field l stage r t at k)
          (weaker (PieceLooks (look_field l R t at)) _ (read_field l stage r t at k)
          (λ p q j e gs a. (ap (seen_as (λ p fs. field p fs)) (e (all_left (Known l) (notes_piece p) (notes_fields gs) a)), all_right (Known l) (notes_piece p) (notes_fields gs) a))
          (field_looks t at k))

      abbrev FieldsLook : Seen Fields → Fields → ℕ → ℕ → Type 0
      FieldsLook s gs q j = Tell (notes_fields gs) → s ≡ seen gs q

      fields_look : (fs : List Field) (m at k : ℕ) → Holds (FieldsLook (look_fields l R fs m at)) (read_fields l stage r fs m at k)
      unfolding read_fields look_fields
      fields_look [] m at k = λ _. refl
      fields_look (f ∷ fs) m at k =
          of_joined (FieldsLook (seen_both (λ add gs. add gs) (look_slot l R (sort_in f) (m % 2) at) (λ q. look_fields l R fs (m / 2) q))) (λ add gs. add gs) (read_slot l stage r (sort_in f) (m % 2) at k) (λ q j. read_fields l stage r fs (m / 2) q j)
          (weaker {A = Fields → Fields} (SlotLooks (look_slot l R (sort_in f) (m % 2) at)) _ (read_slot l stage r (sort_in f) (m % 2) at k)
          (λ add q j first. weaker (FieldsLook (look_fields l R fs (m / 2) q)) _ (read_fields l stage r fs (m / 2) q j)
          (λ gs c i e a. ap (λ (x : Seen (Fields → Fields)). seen_both (λ add gs. add gs) x (λ q. look_fields l R fs (m / 2) q)) (first gs a).0 ∙ ap (seen_as add) (e (first gs a).1))
          (fields_look fs (m / 2) q j))
          (slot_looks (sort_in f) (m % 2) at k))

    -- ---- a node

    module _ (bytes : (i : ℕ) → i < length l → byte_at l i < 256) where
      entered : (d p at k : ℕ) → ((p' q j : ℕ) → Holds (NodeLooks (look_node l d q)) (read_node l stage d p' q j))
          → Holds (λ n q j. SoundNode l stage (suc d) p at k n q j → NodeLooks (look_node l (suc d) at) n q j) (read_node l stage (suc d) p at k)
      unfolding read_node look_node notes_of
      entered d p at k good =
          let b : ℕ = byte_at l at in
          let f : ℕ = form_at stage p b in
          let m : ℕ = byte_at l (at + 1) in
          let r : ℕ → ℕ → ℕ → Got Node = λ p' q j. read_node l stage d p' q j in
          let R : ℕ → Seen Node = λ q. look_node l d q in
          let P : Node → ℕ → ℕ → Type 0 = λ n q j. SoundNode l stage (suc d) p at k n q j → NodeLooks (look_node l (suc d) at) n q j in
          of_accepted P (ltb 0 f) _ λ t.
          of_accepted P (map_ok (fields_of f) m) _ λ u.
          let h : at + 1 < length l = there l (at + 1) (map_byte f m u) in
          let e : layouts (fields_of b) ≡ layouts (fields_of f) = ap (λ (x : ℕ). layouts (fields_of x)) (sym (kind_at stage p b (ltb-true _ _ t))) ∙ sym (form_alike f) in
          of_mapped P (node at b) (read_fields l stage r (fields_of f) m (at + 2) k)
          (weaker (λ gs q j. Tell (notes_fields gs) → look_fields l R (fields_of f) m (at + 2) ≡ seen gs q) _ (read_fields l stage r (fields_of f) m (at + 2) k)
          (λ gs q j v s a.
          let n : Node = node at b gs in
          ap₂ (λ (x o : ℕ). seen (node at b (look_fields l R (fields_of b) (byte_at l x) o).value) (end_at l at)) (on_fits l at 1 (omega arith)) (on_fits l at 2 (omega arith))
          ∙ ap₂ (λ (x : Seen Fields) (o : ℕ). seen (node at b x.value) o) (fields_alike l R (fields_of b) (fields_of f) m (at + 2) e ∙ v (all_left (Known l) (notes_fields gs) (note_of n ∷ []) a)) ((all_right (Known l) (notes_fields gs) (note_of n ∷ []) a).0.ends ∙ sym s.part.stands.end))
          (fields_look R r good (fields_of f) m (at + 2) k))

      pub node_looks : (d p at k : ℕ) → Holds (NodeLooks (look_node l d at)) (read_node l stage d p at k)
      unfolding read_node
      node_looks zero p at k = of_accepted (NodeLooks (look_node l zero at)) (ltb 0 (form_at stage p (byte_at l at))) (refused too_deep) (λ _. tt)
      node_looks (suc d) p at k = given (SoundNode l stage (suc d) p at k) (NodeLooks (look_node l (suc d) at)) (read_node l stage (suc d) p at k) (node_sound l stage bytes (suc d) p at k) (entered d p at k (λ p' q j. node_looks d p' q j))

      -- the law: where the reader accepts a node whose notes are told, that node stands there, and ends where the reader says
      pub accepted_stands : (d p at k : ℕ) (n : Node) (q j : ℕ) → Tell (notes_of n) → read_node l stage d p at k ≡ got n q j → look_node l d at ≡ seen n q
      accepted_stands d p at k n q j a e = holds (NodeLooks (look_node l d at)) (read_node l stage d p at k) n q j (node_looks d p at k) e a

      -- with more levels too
      pub stands_deeper : (e d p at k : ℕ) (n : Node) (q j : ℕ) → Tell (notes_of n) → read_node l stage d p at k ≡ got n q j → look_node l (d + e) at ≡ seen n q
      stands_deeper e d p at k n q j a w = accepted_stands (d + e) p at k n q j a (limit_raised l stage e d p at k n q j w)

      -- and its fields end there too
      fields_there : (d p at k : ℕ) → Holds (λ n q j. Tell (notes_of n) → (look_fields l (λ z. look_node l d z) (fields_of (byte_at l at)) (byte_at l (onward l at 1)) (onward l at 2)).next ≡ q) (read_node l stage (suc d) p at k)
      unfolding read_node notes_of
      fields_there d p at k =
          let b : ℕ = byte_at l at in
          let f : ℕ = form_at stage p b in
          let m : ℕ = byte_at l (at + 1) in
          let r : ℕ → ℕ → ℕ → Got Node = λ p' q j. read_node l stage d p' q j in
          let R : ℕ → Seen Node = λ q. look_node l d q in
          let P : Node → ℕ → ℕ → Type 0 = λ n q j. Tell (notes_of n) → (look_fields l R (fields_of b) (byte_at l (onward l at 1)) (onward l at 2)).next ≡ q in
          of_accepted P (ltb 0 f) _ λ t.
          of_accepted P (map_ok (fields_of f) m) _ λ u.
          let h : at + 1 < length l = there l (at + 1) (map_byte f m u) in
          let e : layouts (fields_of b) ≡ layouts (fields_of f) = ap (λ (x : ℕ). layouts (fields_of x)) (sym (kind_at stage p b (ltb-true _ _ t))) ∙ sym (form_alike f) in
          of_mapped P (node at b) (read_fields l stage r (fields_of f) m (at + 2) k)
          (weaker (λ gs q j. Tell (notes_fields gs) → look_fields l R (fields_of f) m (at + 2) ≡ seen gs q) _ (read_fields l stage r (fields_of f) m (at + 2) k)
          (λ gs q j v a.
          ap₂ (λ (x o : ℕ). (look_fields l R (fields_of b) (byte_at l x) o).next) (on_fits l at 1 (omega arith)) (on_fits l at 2 (omega arith))
          ∙ ap (λ (x : Seen Fields). x.next) (fields_alike l R (fields_of b) (fields_of f) m (at + 2) e ∙ v (all_left (Known l) (notes_fields gs) (note_of (node at b gs) ∷ []) a)))
          (fields_look R r (λ p' q j. node_looks d p' q j) (fields_of f) m (at + 2) k))

      pub fields_stand : (d p at k : ℕ) (n : Node) (q j : ℕ) → Tell (notes_of n) → read_node l stage (suc d) p at k ≡ got n q j
          → (look_fields l (λ z. look_node l d z) (fields_of (byte_at l at)) (byte_at l (onward l at 1)) (onward l at 2)).next ≡ q
      fields_stand d p at k n q j a e =
          holds (λ n q j. Tell (notes_of n) → (look_fields l (λ z. look_node l d z) (fields_of (byte_at l at)) (byte_at l (onward l at 1)) (onward l at 2)).next ≡ q) (read_node l stage (suc d) p at k) n q j (fields_there d p at k) e a
