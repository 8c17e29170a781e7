-- The laws of the order, for all trees; and the order as the first difference of two tours, each with its own table of temporaries.
-- Assumes nothing.
use mathlib.Core.Path.{◌≡◌, refl, sym, ap, ap₂, ◌∙◌}
use mathlib.Core.Bool.{Bool, false}
use mathlib.Core.Logic.{◌⊎◌, inl, inr}
use mathlib.Core.List.{List, [], ◌∷◌, ◌++◌, append_assoc, append-nil}
use Prim.Native.Nat.{ℕ, suc, ◌+◌, ◌*◌}
use lib.Dec.{eqb}
use Rattle.tree.specs.Tree.{Node, Fields, Piece, Items, map_of, count}
use Rattle.tree.specs.Grammar.{Stage}
use Rattle.tree.specs.Tree.Node.{node}
use Rattle.tree.specs.Tree.Fields.{done, absent, field}
use Rattle.tree.specs.Tree.Piece.{one, list, text, byte, mark, number}
use Rattle.tree.specs.Tree.Items.{none, hole, item}
use Rattle.rewritten.specs.Events.{Event, events, events_fields, events_piece, events_items}
use Rattle.rewritten.specs.Events.Event.{begins, ends, opens, closes}
use Rattle.std.specs.declared.cmp.Ordering.{Ordering}
use Rattle.ordering.specs.Verdicts.{turn, by_text}
use Rattle.std.specs.declared.cmp.Ordering.TheVariants.{Less, Equal, Greater}
use Rattle.equal.specs.Canonical.{canonical}
use Rattle.equal.specs.Met.{met, met_fields, met_piece, met_items, in_turn, in_turn_fields, in_turn_piece, in_turn_items}
use Rattle.equal.specs.Equal.{Equal as Same}
use Rattle.equal.specs.Renaming.{unplaced, Formed}
use Rattle.equal.proofs.Turn.{in_turn_canonical}
use Rattle.equal.proofs.Back.{equal_unplaced}
use Rattle.ordering.specs.Order.{compare, order, Key, key_of, by_key_of, by_event, first_difference, placed_all}
use Rattle.std.specs.Cmp.{IsTotalOrder}
use Rattle.std.proofs.lemmas.Cmp.{nat_list_cmp_total, tied_itself, tied_back}
use Rattle.ordering.proofs.LexicalOrder.{less_not_equal, greater_not_less, greater_not_equal, less_then_equal, equal_then_less, equal_then_equal, lists_order, image_orders}
use Rattle.ordering.proofs.Bridge.{compare_events}
use Rattle.ordering.proofs.Same.{node_bytes, node_unplaced}

-- ---- the laws

abbrev flat : Key → List ℕ
flat k = k.rank ∷ k.first ∷ k.second ∷ k.text

key_orders : IsTotalOrder by_key_of
unfolding by_key_of
key_orders = image_orders by_text nat_list_cmp_total flat by_key_of (λ e f. refl)

pub event_orders : IsTotalOrder by_event
unfolding by_event
event_orders = image_orders by_key_of key_orders key_of by_event (λ e f. refl)

pub lists_of_events : IsTotalOrder first_difference
unfolding first_difference
lists_of_events = lists_order by_event event_orders

pub compare_orders : IsTotalOrder compare
compare_orders = image_orders first_difference lists_of_events events compare (λ m n. compare_events m n)

pub order_orders : IsTotalOrder order
unfolding order
order_orders = image_orders compare compare_orders canonical order (λ m n. refl)

-- exactly one of the three comes out
pub record One (v : Ordering) : Type 0 where
  pub some : (v ≡ Less) ⊎ ((v ≡ Equal) ⊎ (v ≡ Greater))
  pub not_less_and_equal : v ≡ Less → v ≡ Equal → ⊥
  pub not_less_and_greater : v ≡ Less → v ≡ Greater → ⊥
  pub not_equal_and_greater : v ≡ Equal → v ≡ Greater → ⊥

pub one_verdict : (a b : Node) → One (order a b)
one_verdict a b = record {
  some = go (order a b);
  not_less_and_equal = λ e f. less_not_equal (sym e ∙ f);
  not_less_and_greater = λ e f. greater_not_less (sym f ∙ e);
  not_equal_and_greater = λ e f. greater_not_equal (sym f ∙ e);
}
  where
    go : (v : Ordering) → (v ≡ Less) ⊎ ((v ≡ Equal) ⊎ (v ≡ Greater))
    go Less = inl refl
    go Equal = inr (inl refl)
    go Greater = inr (inr refl)

-- and the other way round the opposite
pub turned : (a b : Node) → order b a ≡ turn (order a b)
turned a b = order_orders.antisymm b a

pub less_carries : (a b c : Node) → order a b ≡ Less → order b c ≡ Less → order a c ≡ Less
less_carries a b c = order_orders.trans a b c

pub less_equal_carries : (a b c : Node) → order a b ≡ Less → order b c ≡ Equal → order a c ≡ Less
less_equal_carries a b c = less_then_equal order_orders a b c

pub equal_less_carries : (a b c : Node) → order a b ≡ Equal → order b c ≡ Less → order a c ≡ Less
equal_less_carries a b c = equal_then_less order_orders a b c

pub equal_carries : (a b c : Node) → order a b ≡ Equal → order b c ≡ Equal → order a c ≡ Equal
equal_carries a b c = equal_then_equal order_orders a b c

pub equal_self : (a : Node) → order a a ≡ Equal
equal_self a = tied_itself order_orders a

-- equal is equality of trees as spelled: of all trees one way, and both ways of those that are laid out by the grammar
pub equal_then_same : (a b : Node) → order a b ≡ Equal → Same a b
unfolding order Same
equal_then_same a b e = node_bytes (canonical a) (canonical b) e

unplaced_equal : (m n : Node) → unplaced m ≡ unplaced n → compare m n ≡ Equal
unplaced_equal m n e =
    compare_orders.congr m (unplaced m) n (node_unplaced m)
    ∙ ap (λ (x : Node). compare x n) e
    ∙ tied_back compare_orders n (unplaced n) (node_unplaced n)

pub equal_is : (stage : Stage) (a b : Node) → Formed stage a → Formed stage b → (order a b ≡ Equal → Same a b) × (Same a b → order a b ≡ Equal)
unfolding order
equal_is stage a b f g = (equal_then_same a b, λ e. unplaced_equal (canonical a) (canonical b) (equal_unplaced stage a b f g e))

-- ---- the events of the canonical form

map_in_turn : (fs : Fields) (t : Bool) (ms : List ℕ) → map_of (in_turn_fields fs t ms) ≡ map_of fs
unfolding map_of in_turn_fields
map_in_turn done t ms = refl
map_in_turn (absent fs) t ms = ap (λ (x : ℕ). 2 * x) (map_in_turn fs t ms)
map_in_turn (field p fs) t ms = ap (λ (x : ℕ). 1 + 2 * x) (map_in_turn fs false (met_piece p t ms))

count_in_turn : (is : Items) (ms : List ℕ) → count (in_turn_items is ms) ≡ count is
unfolding count in_turn_items
count_in_turn none ms = refl
count_in_turn (hole is) ms = ap suc (count_in_turn is ms)
count_in_turn (item n is) ms = ap suc (count_in_turn is (met n ms))

mutual
  unfolding placed_all events events_fields events_piece events_items met met_fields met_piece met_items in_turn in_turn_fields in_turn_piece in_turn_items

  node_placed : (n : Node) (t : Bool) (ms : List ℕ) (es : List Event) → placed_all t ms (events n ++ es) ≡ events (in_turn n ms) ++ placed_all false (met n ms) es
  node_placed (node at kind fs) t ms es =
      ap₂ (λ (m : ℕ) (xs : List Event). begins at kind m ∷ xs) (sym (map_in_turn fs (eqb kind 20) ms))
      (ap (placed_all (eqb kind 20) ms) (append_assoc (events_fields fs) (ends ∷ []) es)
      ∙ fields_placed fs (eqb kind 20) ms es
      ∙ sym (append_assoc (events_fields (in_turn_fields fs (eqb kind 20) ms)) (ends ∷ []) (placed_all false (met_fields fs (eqb kind 20) ms) es)))

  fields_placed : (fs : Fields) (t : Bool) (ms : List ℕ) (es : List Event) → placed_all t ms (events_fields fs ++ (ends ∷ es)) ≡ events_fields (in_turn_fields fs t ms) ++ (ends ∷ placed_all false (met_fields fs t ms) es)
  fields_placed done t ms es = refl
  fields_placed (absent fs) t ms es = fields_placed fs t ms es
  fields_placed (field p fs) t ms es =
      ap (placed_all t ms) (append_assoc (events_piece p) (events_fields fs) (ends ∷ es))
      ∙ piece_placed p t ms (events_fields fs ++ (ends ∷ es))
      ∙ ap (λ (xs : List Event). events_piece (in_turn_piece p t ms) ++ xs) (fields_placed fs false (met_piece p t ms) es)
      ∙ sym (append_assoc (events_piece (in_turn_piece p t ms)) (events_fields (in_turn_fields fs false (met_piece p t ms))) (ends ∷ placed_all false (met_fields fs false (met_piece p t ms)) es))

  piece_placed : (p : Piece) (t : Bool) (ms : List ℕ) (es : List Event) → placed_all t ms (events_piece p ++ es) ≡ events_piece (in_turn_piece p t ms) ++ placed_all false (met_piece p t ms) es
  piece_placed (one n) t ms es = node_placed n t ms es
  piece_placed (list is) t ms es =
      ap₂ (λ (m : ℕ) (xs : List Event). opens m ∷ xs) (sym (count_in_turn is ms))
      (ap (placed_all false ms) (append_assoc (events_items is) (closes ∷ []) es)
      ∙ items_placed is ms (closes ∷ es)
      ∙ sym (append_assoc (events_items (in_turn_items is ms)) (closes ∷ []) (placed_all false (met_items is ms) es)))
  piece_placed (text bs) t ms es = refl
  piece_placed (byte b) t ms es = refl
  piece_placed (mark n) t ms es = refl
  piece_placed (number n) t ms es = refl

  items_placed : (is : Items) (ms : List ℕ) (es : List Event) → placed_all false ms (events_items is ++ es) ≡ events_items (in_turn_items is ms) ++ placed_all false (met_items is ms) es
  items_placed none ms es = refl
  items_placed (hole is) ms es = ap (λ (xs : List Event). Event.hole ∷ xs) (items_placed is ms es)
  items_placed (item n is) ms es =
      ap (placed_all false ms) (append_assoc (events n) (events_items is) es)
      ∙ node_placed n false ms (events_items is ++ es)
      ∙ ap (λ (xs : List Event). events (in_turn n ms) ++ xs) (items_placed is (met n ms) es)
      ∙ sym (append_assoc (events (in_turn n ms)) (events_items (in_turn_items is (met n ms))) (placed_all false (met_items is (met n ms)) es))

pub canonical_events : (n : Node) → events (canonical n) ≡ placed_all false [] (events n)
unfolding placed_all
canonical_events n = ap events (sym (in_turn_canonical n)) ∙ sym (append-nil (events (in_turn n []))) ∙ sym (node_placed n false [] []) ∙ ap (placed_all false []) (append-nil (events n))

-- the bridge: the order of two trees is the first difference of their tours, temporaries by their places
pub order_events : (m n : Node) → order m n ≡ first_difference (placed_all false [] (events m)) (placed_all false [] (events n))
unfolding order
order_events m n = compare_events (canonical m) (canonical n) ∙ ap₂ first_difference (canonical_events m) (canonical_events n)
