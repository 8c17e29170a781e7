-- The first pass makes the entries of a tree from its events: a node's byte is put into its entry when it is met.
-- Assumes nothing.
use mathlib.Core.Path.{◌≡◌, refl, sym, ap, ◌∙◌}
use mathlib.Core.List.{List, [], ◌∷◌, ◌++◌, append_assoc, append-nil}
use Prim.Native.Nat.{ℕ}
use lib.ListN.{length}
use Rattle.tree.specs.Tree.{Node, Fields, Piece, Items, map_of, count}
use Rattle.tree.specs.Tree.Node.{node}
use Rattle.tree.specs.Tree.Fields.{done, absent, field}
use Rattle.tree.specs.Tree.Piece.{one, list, text, byte, mark, number}
use Rattle.tree.specs.Tree.Items.{none, hole, item}
use Rattle.rewritten.specs.Events.{Event, events, events_fields, events_piece, events_items}
use Rattle.rewritten.specs.Events.Event.{ends, closes}
use Rattle.rewritten.specs.Pass.{folded}
use Rattle.printer.specs.Text.{note_by, note_from}
use Rattle.printer.specs.Entries.{Entry, entries, entries_fields, entries_piece, entries_items, Made, with_byte, byte_at_place, collect}

-- two runs of events, one after the other
pub folded_append : {S : Type 0} (step : S → Event → S) (s : S) (a b : List Event) → folded step s (a ++ b) ≡ folded step (folded step s a) b
unfolding folded
folded_append step s [] b = refl
folded_append step s (e ∷ a) b = folded_append step (step s e) a b

abbrev pub made : List ℕ → List Entry → Made
made is es = record { open_places = is; made = es }

byte_there : (o es : List Entry) (e : Entry) (b : ℕ) → byte_at_place (o ++ (e ∷ es)) (length o) b ≡ o ++ (with_byte b e ∷ es)
unfolding byte_at_place
byte_there [] es e b = refl
byte_there (x ∷ o) es e b = ap (λ (l : List Entry). x ∷ l) (byte_there o es e b)

-- one more behind those of a node that is open
step_on : (o ms : List Entry) (h e : Entry) → (o ++ (h ∷ ms)) ++ (e ∷ []) ≡ o ++ (h ∷ (ms ++ (e ∷ [])))
step_on o ms h e = append_assoc o (h ∷ ms) (e ∷ [])

mutual
  unfolding folded collect events events_fields events_piece events_items entries entries_fields entries_piece entries_items note_from

  pub node_collected : (n : Node) (is : List ℕ) (o : List Entry) → folded collect (made is o) (events n) ≡ made is (o ++ entries n)
  node_collected (node at kind fs) is o =
      folded_append collect (made (length o ∷ is) (o ++ (Entry.node kind (map_of fs) 0 ∷ []))) (events_fields fs) (ends ∷ [])
      ∙ ap (λ (s : Made). collect s ends) (fields_collected fs is o kind (map_of fs) 0 [])
      ∙ ap (made is) (step_on o (entries_fields fs) (Entry.node kind (map_of fs) (note_from 0 fs)) Entry.ends)

  -- b is the byte so far, ms the entries of the fields so far
  fields_collected : (fs : Fields) (is : List ℕ) (o : List Entry) (kind map b : ℕ) (ms : List Entry) → folded collect (made (length o ∷ is) (o ++ (Entry.node kind map b ∷ ms))) (events_fields fs) ≡ made (length o ∷ is) (o ++ (Entry.node kind map (note_from b fs) ∷ (ms ++ entries_fields fs)))
  fields_collected done is o kind map b ms = ap (λ (l : List Entry). made (length o ∷ is) (o ++ (Entry.node kind map b ∷ l))) (sym (append-nil ms))
  fields_collected (absent fs) is o kind map b ms = fields_collected fs is o kind map b ms
  fields_collected (field p fs) is o kind map b ms =
      folded_append collect (made (length o ∷ is) (o ++ (Entry.node kind map b ∷ ms))) (events_piece p) (events_fields fs)
      ∙ ap (λ (s : Made). folded collect s (events_fields fs)) (piece_collected p is o kind map b ms)
      ∙ fields_collected fs is o kind map (note_by b p) (ms ++ entries_piece p)
      ∙ ap (λ (l : List Entry). made (length o ∷ is) (o ++ (Entry.node kind map (note_from (note_by b p) fs) ∷ l))) (append_assoc ms (entries_piece p) (entries_fields fs))

  piece_collected : (p : Piece) (is : List ℕ) (o : List Entry) (kind map b : ℕ) (ms : List Entry) → folded collect (made (length o ∷ is) (o ++ (Entry.node kind map b ∷ ms))) (events_piece p) ≡ made (length o ∷ is) (o ++ (Entry.node kind map (note_by b p) ∷ (ms ++ entries_piece p)))
  piece_collected (one n) is o kind map b ms = node_collected n (length o ∷ is) (o ++ (Entry.node kind map b ∷ ms)) ∙ ap (made (length o ∷ is)) (append_assoc o (Entry.node kind map b ∷ ms) (entries n))
  piece_collected (list xs) is o kind map b ms =
      let f : List Entry = o ++ (Entry.node kind map b ∷ ms) in
      folded_append collect (made (length f ∷ (length o ∷ is)) (f ++ (Entry.opens (count xs) ∷ []))) (events_items xs) (closes ∷ [])
      ∙ ap (λ (s : Made). collect s closes) (items_collected xs (length f ∷ (length o ∷ is)) (f ++ (Entry.opens (count xs) ∷ [])))
      ∙ ap (made (length o ∷ is))
      (ap (λ (l : List Entry). l ++ (Entry.closes ∷ [])) (append_assoc f (Entry.opens (count xs) ∷ []) (entries_items xs))
      ∙ append_assoc f (Entry.opens (count xs) ∷ entries_items xs) (Entry.closes ∷ [])
      ∙ append_assoc o (Entry.node kind map b ∷ ms) (Entry.opens (count xs) ∷ (entries_items xs ++ (Entry.closes ∷ []))))
  piece_collected (text bs) is o kind map b ms = ap (made (length o ∷ is)) (step_on o ms (Entry.node kind map b) (Entry.text bs))
  piece_collected (byte v) is o kind map b ms = ap (λ (l : List Entry). made (length o ∷ is) (l ++ (Entry.quiet ∷ []))) (byte_there o ms (Entry.node kind map b) v) ∙ ap (made (length o ∷ is)) (step_on o ms (Entry.node kind map v) Entry.quiet)
  piece_collected (mark n) is o kind map b ms = ap (made (length o ∷ is)) (step_on o ms (Entry.node kind map b) Entry.quiet)
  piece_collected (number n) is o kind map b ms = ap (made (length o ∷ is)) (step_on o ms (Entry.node kind map b) (Entry.number n))

  items_collected : (xs : Items) (is : List ℕ) (o : List Entry) → folded collect (made is o) (events_items xs) ≡ made is (o ++ entries_items xs)
  items_collected none is o = ap (made is) (sym (append-nil o))
  items_collected (hole xs) is o = items_collected xs is (o ++ (Entry.hole ∷ [])) ∙ ap (made is) (append_assoc o (Entry.hole ∷ []) (entries_items xs))
  items_collected (item n xs) is o =
      folded_append collect (made is o) (events n) (events_items xs)
      ∙ ap (λ (s : Made). folded collect s (events_items xs)) (node_collected n is o)
      ∙ items_collected xs is (o ++ entries n)
      ∙ ap (made is) (append_assoc o (entries n) (entries_items xs))
