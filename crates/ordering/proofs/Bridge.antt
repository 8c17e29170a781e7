-- The order of two trees is the first difference of their events.
-- Assumes nothing.
use mathlib.Core.Path.{◌≡◌, refl, sym, ap, ap₂, ◌∙◌}
use mathlib.Core.List.{List, [], ◌∷◌, ◌++◌, append_assoc, append-nil}
use Prim.Native.Nat.{ℕ, ◌+◌, ◌*◌}
use native.Mathlib.Omega.{arith}
use Rattle.tree.specs.Tree.{Node, Fields, Piece, Items, map_of, count}
use Rattle.tree.specs.Tree.Node.{node}
use Rattle.tree.specs.Tree.Fields.{done, absent, field}
use Rattle.tree.specs.Tree.Piece.{one, list, text, byte, mark, number}
use Rattle.tree.specs.Tree.Items.{none, hole, item}
use Rattle.rewritten.specs.Events.{Event, events, events_fields, events_piece, events_items}
use Rattle.rewritten.specs.Events.Event.{begins, ends, opens, closes}
use Rattle.std.specs.declared.cmp.Ordering.{Ordering}
use Rattle.ordering.specs.Verdicts.{or_else, by_value, lexical}
use Rattle.std.specs.declared.cmp.Ordering.TheVariants.{Less, Equal, Greater}
use Rattle.ordering.specs.Order.{compare, compare_fields, compare_piece, compare_items, by_key_of, by_event, first_difference}
use Rattle.ordering.proofs.LexicalOrder.{or_nothing, or_or, value_same}

-- kind and bit map, then what stands
begun : (k m f r z : Ordering) → (m ≡ Equal → r ≡ or_else f z) → or_else (or_else k (or_else m Equal)) r ≡ or_else (or_else k (or_else m f)) z
begun Less m f r z h = refl
begun Equal Less f r z h = refl
begun Equal Equal f r z h = h refl
begun Equal Greater f r z h = refl
begun Greater m f r z h = refl

nothing_stands : (fs : Fields) → map_of fs ≡ 0 → events_fields fs ≡ []
unfolding map_of events_fields
nothing_stands done e = refl
nothing_stands (absent fs) e = let w : 2 * map_of fs ≡ 0 = e in nothing_stands fs (omega arith)
nothing_stands (field p fs) e = let w : 1 + 2 * map_of fs ≡ 0 = e in absurd (omega arith)

-- two parts, each against its own
parts : (a b x c d y : List Event) (v w : Ordering) → first_difference (a ++ (b ++ x)) (c ++ (d ++ y)) ≡ or_else v (first_difference (b ++ x) (d ++ y)) → first_difference (b ++ x) (d ++ y) ≡ or_else w (first_difference x y) → first_difference ((a ++ b) ++ x) ((c ++ d) ++ y) ≡ or_else (or_else v w) (first_difference x y)
parts a b x c d y v w e f =
    ap₂ first_difference (append_assoc a b x) (append_assoc c d y)
    ∙ e
    ∙ ap (or_else v) f
    ∙ sym (or_or v w (first_difference x y))

-- a node against an event that no node begins with
node_before : (m : Node) (x y : List Event) (f : Event) → ((at k p : ℕ) → by_event (begins at k p) f ≡ Less) → first_difference (events m ++ x) (f ∷ y) ≡ Less
unfolding first_difference events
node_before (node at k fs) x y f h = ap (λ (v : Ordering). or_else v (lexical by_event ((events_fields fs ++ (ends ∷ [])) ++ x) y)) (h at k (map_of fs))

node_after : (m : Node) (x y : List Event) (f : Event) → ((at k p : ℕ) → by_event f (begins at k p) ≡ Greater) → first_difference (f ∷ y) (events m ++ x) ≡ Greater
unfolding first_difference events
node_after (node at k fs) x y f h = ap (λ (v : Ordering). or_else v (lexical by_event y ((events_fields fs ++ (ends ∷ [])) ++ x))) (h at k (map_of fs))

item_before : (m : Node) (x y : List Event) (f : Event) → ((at k p : ℕ) → by_event f (begins at k p) ≡ Less) → first_difference (f ∷ y) (events m ++ x) ≡ Less
unfolding first_difference events
item_before (node at k fs) x y f h = ap (λ (v : Ordering). or_else v (lexical by_event y ((events_fields fs ++ (ends ∷ [])) ++ x))) (h at k (map_of fs))

item_after : (m : Node) (x y : List Event) (f : Event) → ((at k p : ℕ) → by_event (begins at k p) f ≡ Greater) → first_difference (events m ++ x) (f ∷ y) ≡ Greater
unfolding first_difference events
item_after (node at k fs) x y f h = ap (λ (v : Ordering). or_else v (lexical by_event ((events_fields fs ++ (ends ∷ [])) ++ x) y)) (h at k (map_of fs))

-- a list's events with its end
lists : (x y : List Event) (is js : Items) → first_difference (events_items is ++ (closes ∷ x)) (events_items js ++ (closes ∷ y)) ≡ or_else (compare_items is js) (first_difference x y) → first_difference (events_piece (list is) ++ x) (events_piece (list js) ++ y) ≡ or_else (compare_items is js) (first_difference x y)
unfolding first_difference by_event by_key_of events_piece
lists x y is js e = ap₂ first_difference (append_assoc (events_items is) (closes ∷ []) x) (append_assoc (events_items js) (closes ∷ []) y) ∙ e

mutual
  unfolding compare compare_fields compare_piece compare_items events events_fields events_piece events_items first_difference by_event by_key_of map_of

  pub node_law : (m n : Node) (x y : List Event) → first_difference (events m ++ x) (events n ++ y) ≡ or_else (compare m n) (first_difference x y)
  node_law (node at k fs) (node at' k' gs) x y =
      begun (by_value k k') (by_value (map_of fs) (map_of gs)) (compare_fields fs gs) (first_difference ((events_fields fs ++ (ends ∷ [])) ++ x) ((events_fields gs ++ (ends ∷ [])) ++ y)) (first_difference x y)
      (λ e. ap₂ first_difference (append_assoc (events_fields fs) (ends ∷ []) x) (append_assoc (events_fields gs) (ends ∷ []) y) ∙ fields_law fs gs (ends ∷ x) (ends ∷ y) (value_same (map_of fs) (map_of gs) e))

  fields_law : (fs gs : Fields) (x y : List Event) → map_of fs ≡ map_of gs → first_difference (events_fields fs ++ x) (events_fields gs ++ y) ≡ or_else (compare_fields fs gs) (first_difference x y)
  fields_law done gs x y e = ap (λ (es : List Event). first_difference x (es ++ y)) (nothing_stands gs (sym e))
  fields_law (absent fs) done x y e = ap (λ (es : List Event). first_difference (es ++ x) y) (nothing_stands (absent fs) e)
  fields_law (absent fs) (absent gs) x y e = let w : 2 * map_of fs ≡ 2 * map_of gs = e in fields_law fs gs x y (omega arith)
  fields_law (absent fs) (field q gs) x y e = let w : 2 * map_of fs ≡ 1 + 2 * map_of gs = e in absurd (omega arith)
  fields_law (field p fs) done x y e = let w : 1 + 2 * map_of fs ≡ 0 = e in absurd (omega arith)
  fields_law (field p fs) (absent gs) x y e = let w : 1 + 2 * map_of fs ≡ 2 * map_of gs = e in absurd (omega arith)
  fields_law (field p fs) (field q gs) x y e =
      let w : 1 + 2 * map_of fs ≡ 1 + 2 * map_of gs = e in
      parts (events_piece p) (events_fields fs) x (events_piece q) (events_fields gs) y (compare_piece p q) (compare_fields fs gs) (piece_law p q (events_fields fs ++ x) (events_fields gs ++ y)) (fields_law fs gs x y (omega arith))

  piece_law : (p q : Piece) (x y : List Event) → first_difference (events_piece p ++ x) (events_piece q ++ y) ≡ or_else (compare_piece p q) (first_difference x y)
  piece_law (one m) (one n) x y = node_law m n x y
  piece_law (one m) (list js) x y = node_before m x ((events_items js ++ (closes ∷ [])) ++ y) (opens (count js)) (λ at k p. refl)
  piece_law (one m) (text cs) x y = node_before m x y (Event.text cs) (λ at k p. refl)
  piece_law (one m) (byte c) x y = node_before m x y (Event.byte c) (λ at k p. refl)
  piece_law (one m) (mark v) x y = node_before m x y (Event.mark v) (λ at k p. refl)
  piece_law (one m) (number v) x y = node_before m x y (Event.number v) (λ at k p. refl)
  piece_law (list is) (one n) x y = node_after n y ((events_items is ++ (closes ∷ [])) ++ x) (opens (count is)) (λ at k p. refl)
  piece_law (list is) (list js) x y = lists x y is js (items_law is js x y)
  piece_law (list is) (text cs) x y = refl
  piece_law (list is) (byte c) x y = refl
  piece_law (list is) (mark v) x y = refl
  piece_law (list is) (number v) x y = refl
  piece_law (text bs) (one n) x y = node_after n y x (Event.text bs) (λ at k p. refl)
  piece_law (text bs) (list js) x y = refl
  piece_law (text bs) (text cs) x y = refl
  piece_law (text bs) (byte c) x y = refl
  piece_law (text bs) (mark v) x y = refl
  piece_law (text bs) (number v) x y = refl
  piece_law (byte b) (one n) x y = node_after n y x (Event.byte b) (λ at k p. refl)
  piece_law (byte b) (list js) x y = refl
  piece_law (byte b) (text cs) x y = refl
  piece_law (byte b) (byte c) x y = ap (λ (v : Ordering). or_else v (first_difference x y)) (or_nothing (by_value b c))
  piece_law (byte b) (mark v) x y = refl
  piece_law (byte b) (number v) x y = refl
  piece_law (mark u) (one n) x y = node_after n y x (Event.mark u) (λ at k p. refl)
  piece_law (mark u) (list js) x y = refl
  piece_law (mark u) (text cs) x y = refl
  piece_law (mark u) (byte c) x y = refl
  piece_law (mark u) (mark v) x y = ap (λ (v : Ordering). or_else v (first_difference x y)) (or_nothing (by_value u v))
  piece_law (mark u) (number v) x y = refl
  piece_law (number u) (one n) x y = node_after n y x (Event.number u) (λ at k p. refl)
  piece_law (number u) (list js) x y = refl
  piece_law (number u) (text cs) x y = refl
  piece_law (number u) (byte c) x y = refl
  piece_law (number u) (mark v) x y = refl
  piece_law (number u) (number v) x y = ap (λ (v : Ordering). or_else v (first_difference x y)) (or_nothing (by_value u v))

  items_law : (is js : Items) (x y : List Event) → first_difference (events_items is ++ (closes ∷ x)) (events_items js ++ (closes ∷ y)) ≡ or_else (compare_items is js) (first_difference x y)
  items_law none none x y = refl
  items_law none (hole js) x y = refl
  items_law none (item n js) x y = ap (first_difference (closes ∷ x)) (append_assoc (events n) (events_items js) (closes ∷ y)) ∙ item_before n (events_items js ++ (closes ∷ y)) x closes (λ at k p. refl)
  items_law (hole is) none x y = refl
  items_law (hole is) (hole js) x y = items_law is js x y
  items_law (hole is) (item n js) x y = ap (first_difference (Event.hole ∷ (events_items is ++ (closes ∷ x)))) (append_assoc (events n) (events_items js) (closes ∷ y)) ∙ item_before n (events_items js ++ (closes ∷ y)) (events_items is ++ (closes ∷ x)) Event.hole (λ at k p. refl)
  items_law (item m is) none x y = ap (λ (es : List Event). first_difference es (closes ∷ y)) (append_assoc (events m) (events_items is) (closes ∷ x)) ∙ item_after m (events_items is ++ (closes ∷ x)) y closes (λ at k p. refl)
  items_law (item m is) (hole js) x y = ap (λ (es : List Event). first_difference es (Event.hole ∷ (events_items js ++ (closes ∷ y)))) (append_assoc (events m) (events_items is) (closes ∷ x)) ∙ item_after m (events_items is ++ (closes ∷ x)) (events_items js ++ (closes ∷ y)) Event.hole (λ at k p. refl)
  items_law (item m is) (item n js) x y =
      ap₂ first_difference (append_assoc (events m) (events_items is) (closes ∷ x)) (append_assoc (events n) (events_items js) (closes ∷ y))
      ∙ node_law m n (events_items is ++ (closes ∷ x)) (events_items js ++ (closes ∷ y))
      ∙ ap (or_else (compare m n)) (items_law is js x y)
      ∙ sym (or_or (compare m n) (compare_items is js) (first_difference x y))

-- the law: what two trees are is the first difference of what is met in them
pub compare_events : (m n : Node) → compare m n ≡ first_difference (events m) (events n)
unfolding first_difference
compare_events m n =
    sym (or_nothing (compare m n))
    ∙ sym (node_law m n [] [])
    ∙ ap₂ first_difference (append-nil (events m)) (append-nil (events n))
