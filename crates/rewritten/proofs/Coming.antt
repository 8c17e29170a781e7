-- What is left to come, one event at a time.
-- Assumes nothing.
use mathlib.Core.Path.{◌≡◌, refl, sym, ap, ◌∙◌, fun_ext}
use mathlib.Core.Bool.{Bool, true, false, cond}
use mathlib.Core.List.{List, [], ◌∷◌, ◌++◌, append_assoc, append-nil}
use Prim.Native.Nat.{ℕ, zero, suc, ◌+◌, ◌*◌, ◌/◌, ◌%◌, ◌<◌}
use native.Mathlib.Omega.{arith}
use lib.Dec.{ltb, eqb}
use borrow.Author.Tests.{lt-ltb, le-ltb, eq-eqb, ne_eqb, eqb-true}
use Rattle.tree.specs.Tree.{Node, Fields, Items, map_of, count}
use Rattle.tree.specs.Tree.Node.{node}
use Rattle.tree.specs.Tree.Fields.{absent, field}
use Rattle.tree.specs.Tree.Piece.{one, list}
use Rattle.tree.specs.Tree.Items.{hole, item}
use Rattle.tree.specs.Grammar.{Sort, Field, form_at, fields_of, map_ok}
use Rattle.tree.specs.Grammar.Stage.{rewritten}
use Rattle.tree.specs.Grammar.Sort.{child, chosen}
use Rattle.tree.specs.Read.{Got, mapped, joined, accepted, sort_in, byte_at, wide_at, chosen_place, read_item, read_items, read_list, read_field, read_slot, read_fields}
use Rattle.tree.specs.Read.Got.{got, refused}
use Rattle.tree.specs.Read.Refusal.{not_a_tree}
use Rattle.tree.proofs.HoldsOfRead.{Holds, of_mapped, of_joined, weaker}
use Rattle.tree.proofs.Within.{map_rest}
use Rattle.rewritten.specs.Events.{Event, events, events_fields, events_piece, events_items}
use Rattle.rewritten.specs.Events.Event.{begins, ends, opens, closes}
use Rattle.rewritten.specs.Pending.{Task, closing, by_bit_of, standing, and_then, node_in_of, node_comes, piece_comes, slots_come, items_come, comes, pending}
use Rattle.rewritten.specs.Pending.Task.{slots, items}
use Rattle.rewritten.specs.Steps.{list_sort}
use Rattle.rewritten.proofs.NeverTooDeep.{own_body}

-- ---- events and then more

abbrev Coming : Type 0
Coming = Got (List Event)

-- one event and more
abbrev pub led : Event → Coming → Coming
led e g = mapped (λ es. e ∷ es) g

mapped_twice : {A B C : Type 0} (f : B → C) (h : A → B) (g : Got A) → mapped f (mapped h g) ≡ mapped (λ a. f (h a)) g
mapped_twice f h (got a q k) = refl
mapped_twice f h (refused n) = refl

mapped_same : {A B : Type 0} (f h : A → B) (g : Got A) → Holds (λ a q j. f a ≡ h a) g → mapped f g ≡ mapped h g
mapped_same f h (got a q k) e = ap (λ (b : _). got b q k) e
mapped_same f h (refused n) e = refl

accepted_mapped : {A B : Type 0} (f : A → B) (b : Bool) (g : Got A) → mapped f (accepted b g) ≡ accepted b (mapped f g)
accepted_mapped f true g = refl
accepted_mapped f false g = refl

-- no events, and then more
nothing_then : (g : Coming) → mapped (λ es. [] ++ es) g ≡ g
nothing_then (got a q k) = refl
nothing_then (refused n) = refl

pub then_nothing : (g : Coming) → and_then g (λ q j. got [] q j) ≡ g
then_nothing (got a q k) = ap (λ (es : List Event). got es q k) (append-nil a)
then_nothing (refused n) = refl

then_then : (g : Coming) (h t : ℕ → ℕ → Coming) → and_then (and_then g h) t ≡ and_then g (λ q j. and_then (h q j) t)
then_then (refused n) h t = refl
then_then (got a q k) h t = go (h q k)
  where
    last : (b : List Event) (x : Coming) → mapped (λ es. (a ++ b) ++ es) x ≡ mapped (λ es. a ++ es) (mapped (λ es. b ++ es) x)
    last b (got c r m) = ap (λ (es : List Event). got es r m) (append_assoc a b c)
    last b (refused n) = refl

    go : (x : Coming) → and_then (mapped (λ es. a ++ es) x) t ≡ mapped (λ es. a ++ es) (and_then x t)
    go (got b r m) = last b (t r m)
    go (refused n) = refl

led_then : (e : Event) (g : Coming) (t : ℕ → ℕ → Coming) → and_then (led e g) t ≡ led e (and_then g t)
led_then e (refused n) t = refl
led_then e (got a q k) t = go (t q k)
  where
    go : (x : Coming) → mapped (λ es. (e ∷ a) ++ es) x ≡ led e (mapped (λ es. a ++ es) x)
    go (got b r m) = refl
    go (refused n) = refl

-- what closes it comes last
closed_then : (e : Event) (g : Coming) (t : ℕ → ℕ → Coming) → and_then (mapped (λ es. es ++ (e ∷ [])) g) t ≡ and_then g (λ q j. led e (t q j))
closed_then e (refused n) t = refl
closed_then e (got a q k) t = go (t q k)
  where
    go : (x : Coming) → mapped (λ es. (a ++ (e ∷ [])) ++ es) x ≡ mapped (λ es. a ++ es) (led e x)
    go (got b r m) = ap (λ (es : List Event). got es r m) (append_assoc a (e ∷ []) b)
    go (refused n) = refl

-- the parts of a value come one after the other
parts_then : {A B C : Type 0} (f : A → B → C) (x : A → List Event) (y : B → List Event) (z : C → List Event) → ((a : A) (b : B) → z (f a b) ≡ x a ++ y b) → (g : Got A) (rest : ℕ → ℕ → Got B) → mapped z (joined f g rest) ≡ and_then (mapped x g) (λ q j. mapped y (rest q j))
parts_then f x y z e (refused n) rest = refl
parts_then f x y z e (got a q k) rest = go (rest q k)
  where
    go : (r : Got _) → mapped z (mapped (f a) r) ≡ mapped (λ es. x a ++ es) (mapped y r)
    go (got b r m) = ap (λ (es : List Event). got es r m) (e a b)
    go (refused n) = refl

joined_mapped : {A B C D : Type 0} (f : B → C → D) (h : A → B) (g : Got A) (rest : ℕ → ℕ → Got C) → joined f (mapped h g) rest ≡ joined (λ a. f (h a)) g rest
joined_mapped f h (got a q k) rest = refl
joined_mapped f h (refused n) rest = refl

accepted_same : {A : Type 0} (b : Bool) (g h : Got A) → (b ≡ true → g ≡ h) → accepted b g ≡ accepted b h
accepted_same true g h e = e refl
accepted_same false g h e = refl

of_all : {A : Type 0} (P : A → ℕ → ℕ → Type 0) (g : Got A) → ((a : A) (q j : ℕ) → P a q j) → Holds P g
of_all P (got a q k) h = h a q k
of_all P (refused n) h = tt

-- ---- counts and bit maps are what was read

module _ (l : List ℕ) where
  abbrev AddsOne : (Items → Items) → ℕ → ℕ → Type 0
  AddsOne add q j = (is : Items) → count (add is) ≡ suc (count is)

  abbrev Counted : ℕ → Items → ℕ → ℕ → Type 0
  Counted n is q j = count is ≡ n

  item_adds : (r : ℕ → ℕ → Got Node) (h : Bool) (at k : ℕ) → Holds AddsOne (read_item l r h at k)
  unfolding read_item count
  item_adds r false at k = of_mapped AddsOne (λ n is. item n is) (r at k) (of_all (λ n q j. AddsOne (λ is. item n is) q j) (r at k) (λ n q j is. refl))
  item_adds r true at k = go (eqb (byte_at l at) 0)
    where
      go : (b : Bool) → Holds AddsOne (cond b (got hole (at + 1) k) (mapped (λ n is. item n is) (r at k)))
      go true = λ is. refl
      go false = of_mapped AddsOne (λ n is. item n is) (r at k) (of_all (λ n q j. AddsOne (λ is. item n is) q j) (r at k) (λ n q j is. refl))

  items_count : (r : ℕ → ℕ → Got Node) (h : Bool) (n at k : ℕ) → Holds (Counted n) (read_items l r h n at k)
  unfolding read_items count
  items_count r h zero at k = refl
  items_count r h (suc n) at k =
      of_joined (Counted (suc n)) (λ add is. add is) (read_item l r h at k) (λ q j. read_items l r h n q j)
      (weaker AddsOne (λ add q j. Holds (λ is q' j'. Counted (suc n) (add is) q' j') (read_items l r h n q j)) (read_item l r h at k)
      (λ add q j e. weaker (Counted n) (λ is q' j'. Counted (suc n) (add is) q' j') (read_items l r h n q j) (λ is q' j' c. e is ∙ ap suc c) (items_count r h n q j))
      (item_adds r h at k))

  abbrev AddsBit : ℕ → (Fields → Fields) → ℕ → ℕ → Type 0
  AddsBit b add q j = (gs : Fields) → map_of (add gs) ≡ b + 2 * map_of gs

  abbrev Mapped : ℕ → Fields → ℕ → ℕ → Type 0
  Mapped m gs q j = map_of gs ≡ m

  module _ (r : ℕ → ℕ → ℕ → Got Node) where
    slot_adds : (s : Sort) (b at k : ℕ) → b < 2 → Holds (AddsBit b) (read_slot l rewritten r s b at k)
    unfolding read_slot map_of
    slot_adds s zero at k h = λ gs. omega arith
    slot_adds s (suc b) at k h = of_mapped (AddsBit (suc b)) (λ p fs. field p fs) (read_field l rewritten r s at k) (of_all (λ p q j. AddsBit (suc b) (λ fs. field p fs) q j) (read_field l rewritten r s at k) (λ p q j gs. omega arith))

    fields_map : (fs : List Field) (m at k : ℕ) → map_ok fs m ≡ true → Holds (Mapped m) (read_fields l rewritten r fs m at k)
    unfolding read_fields map_of map_ok
    fields_map [] m at k ok = sym (eqb-true m 0 ok)
    fields_map (f ∷ fs) m at k ok =
        of_joined (Mapped m) (λ add gs. add gs) (read_slot l rewritten r (sort_in f) (m % 2) at k) (λ q j. read_fields l rewritten r fs (m / 2) q j)
        (weaker (AddsBit (m % 2)) (λ add q j. Holds (λ gs q' j'. Mapped m (add gs) q' j') (read_fields l rewritten r fs (m / 2) q j)) (read_slot l rewritten r (sort_in f) (m % 2) at k)
        (λ add q j e. weaker (Mapped (m / 2)) (λ gs q' j'. Mapped m (add gs) q' j') (read_fields l rewritten r fs (m / 2) q j) (λ gs q' j' c. e gs ∙ (omega arith)) (fields_map fs (m / 2) q j (map_rest f fs m ok)))
        (slot_adds (sort_in f) (m % 2) at k (omega arith)))

  -- ---- the fields of a node

  fields_come : (fs : List Field) (m at k : ℕ) → mapped events_fields (read_fields l rewritten (node_in_of l) fs m at k) ≡ slots_come l (standing fs m) at k
  unfolding read_fields read_slot standing slots_come events_fields piece_comes
  fields_come [] m at k = refl
  fields_come (f ∷ fs) m at k = go (m % 2) (λ q j. fields_come fs (m / 2) q j)
    where
      go : (b : ℕ) → ((q j : ℕ) → mapped events_fields (read_fields l rewritten (node_in_of l) fs (m / 2) q j) ≡ slots_come l (standing fs (m / 2)) q j) → mapped events_fields (joined (λ add gs. add gs) (read_slot l rewritten (node_in_of l) (sort_in f) b at k) (λ q j. read_fields l rewritten (node_in_of l) fs (m / 2) q j)) ≡ slots_come l (by_bit_of b (sort_in f) (standing fs (m / 2))) at k
      go zero rest = mapped_twice events_fields absent (read_fields l rewritten (node_in_of l) fs (m / 2) at k) ∙ rest at k
      go (suc b) rest =
          ap (mapped events_fields) (joined_mapped (λ add gs. add gs) (λ p fs. field p fs) (read_field l rewritten (node_in_of l) (sort_in f) at k) (λ q j. read_fields l rewritten (node_in_of l) fs (m / 2) q j))
          ∙ parts_then (λ p gs. field p gs) events_piece events_fields events_fields (λ p gs. refl) (read_field l rewritten (node_in_of l) (sort_in f) at k) (λ q j. read_fields l rewritten (node_in_of l) fs (m / 2) q j)
          ∙ ap (λ (x : ℕ → ℕ → Coming). and_then (mapped events_piece (read_field l rewritten (node_in_of l) (sort_in f) at k)) x) (fun_ext (λ q. fun_ext (λ j. rest q j)))

  -- ---- a node

  node_comes_lem : (p at k : ℕ) → node_comes l p at k ≡ accepted (ltb 0 (form_at rewritten p (byte_at l at))) (accepted (map_ok (fields_of (form_at rewritten p (byte_at l at))) (byte_at l (at + 1))) (led (begins at (byte_at l at) (byte_at l (at + 1))) (mapped (λ es. es ++ (ends ∷ [])) (slots_come l (standing (fields_of (form_at rewritten p (byte_at l at))) (byte_at l (at + 1))) (at + 2) k))))
  unfolding node_comes node_in_of events
  node_comes_lem p at k =
      let f : ℕ = form_at rewritten p (byte_at l at) in
      let m : ℕ = byte_at l (at + 1) in
      let g : Got Fields = read_fields l rewritten (node_in_of l) (fields_of f) m (at + 2) k in
      let e : Event = begins at (byte_at l at) m in
      ap (mapped events) (own_body l rewritten p at k)
      ∙ accepted_mapped events (ltb 0 f) (accepted (map_ok (fields_of f) m) (mapped (node at (byte_at l at)) g))
      ∙ ap (accepted (ltb 0 f)) (accepted_mapped events (map_ok (fields_of f) m) (mapped (node at (byte_at l at)) g))
      ∙ ap (accepted (ltb 0 f)) (accepted_same (map_ok (fields_of f) m) (mapped events (mapped (node at (byte_at l at)) g)) (led e (mapped (λ es. es ++ (ends ∷ [])) (slots_come l (standing (fields_of f) m) (at + 2) k)))
      (λ ok. mapped_twice events (node at (byte_at l at)) g
      ∙ mapped_same (λ gs. events (node at (byte_at l at) gs)) (λ gs. e ∷ (events_fields gs ++ (ends ∷ []))) g (weaker (Mapped m) (λ gs q j. events (node at (byte_at l at) gs) ≡ e ∷ (events_fields gs ++ (ends ∷ []))) g (λ gs q j c. ap (λ (x : ℕ). begins at (byte_at l at) x ∷ (events_fields gs ++ (ends ∷ []))) c) (fields_map (node_in_of l) (fields_of f) m (at + 2) k ok))
      ∙ sym (mapped_twice (λ es. e ∷ es) (λ gs. events_fields gs ++ (ends ∷ [])) g)
      ∙ ap (λ (x : Coming). led e x) (sym (mapped_twice (λ es. es ++ (ends ∷ [])) events_fields g))
      ∙ ap (λ (x : Coming). led e (mapped (λ es. es ++ (ends ∷ [])) x)) (fields_come (fields_of f) m (at + 2) k)))

  -- ---- a list

  pub items_none : (p : ℕ) (h : Bool) (at k : ℕ) → items_come l p h 0 at k ≡ got [] at k
  unfolding items_come read_items events_items
  items_none p h at k = refl

  item_node : (p : ℕ) (h : Bool) (n at k : ℕ) (g : Got Node) → mapped events_items (joined {A = Items → Items} {B = Items} {C = Items} (λ add is. add is) (mapped (λ n is. item n is) g) (λ q j. read_items l (node_in_of l p) h n q j)) ≡ and_then (mapped events g) (λ q j. items_come l p h n q j)
  unfolding items_come events_items
  item_node p h n at k g =
      ap (mapped events_items) (joined_mapped (λ add is. add is) (λ n is. item n is) g (λ q j. read_items l (node_in_of l p) h n q j))
      ∙ parts_then (λ n is. item n is) events events_items events_items (λ n is. refl) g (λ q j. read_items l (node_in_of l p) h n q j)

  pub items_plain : (p n at k : ℕ) → items_come l p false (suc n) at k ≡ and_then (node_comes l p at k) (λ q j. items_come l p false n q j)
  unfolding items_come read_items read_item node_comes
  items_plain p n at k = item_node p false n at k (node_in_of l p at k)

  pub items_other : (p n at k : ℕ) → (byte_at l at ≡ 0 → ⊥) → items_come l p true (suc n) at k ≡ and_then (node_comes l p at k) (λ q j. items_come l p true n q j)
  unfolding items_come read_items read_item node_comes
  items_other p n at k h = rw (ne_eqb (byte_at l at) 0 h) (item_node p true n at k (node_in_of l p at k))

  pub items_hole : (p n at k : ℕ) → byte_at l at ≡ 0 → items_come l p true (suc n) at k ≡ led Event.hole (items_come l p true n (at + 1) k)
  unfolding items_come read_items read_item events_items
  items_hole p n at k h =
      let g : Got Items = read_items l (node_in_of l p) true n (at + 1) k in
      rw (eq-eqb (byte_at l at) 0 h) (mapped_twice events_items hole g ∙ sym (mapped_twice (λ es. Event.hole ∷ es) events_items g))

  list_comes : (p : ℕ) (h : Bool) (at k : ℕ) → mapped events_piece (mapped list (read_list l (node_in_of l p) h at k)) ≡ accepted (ltb (wide_at l at) 65536) (led (opens (wide_at l at)) (mapped (λ es. es ++ (closes ∷ [])) (items_come l p h (wide_at l at) (at + 2) k)))
  unfolding read_list events_piece items_come
  list_comes p h at k =
      let n : ℕ = wide_at l at in
      let g : Got Items = read_items l (node_in_of l p) h n (at + 2) k in
      ap (mapped events_piece) (accepted_mapped list (ltb n 65536) g)
      ∙ accepted_mapped events_piece (ltb n 65536) (mapped list g)
      ∙ ap (accepted (ltb n 65536))
      (mapped_twice events_piece list g
      ∙ mapped_same (λ is. events_piece (list is)) (λ is. opens n ∷ (events_items is ++ (closes ∷ []))) g (weaker (Counted n) (λ is q j. events_piece (list is) ≡ opens n ∷ (events_items is ++ (closes ∷ []))) g (λ is q j c. ap (λ (x : ℕ). opens x ∷ (events_items is ++ (closes ∷ []))) c) (items_count (node_in_of l p) h n (at + 2) k))
      ∙ sym (mapped_twice (λ es. opens n ∷ es) (λ is. events_items is ++ (closes ∷ [])) g)
      ∙ ap (λ (x : Coming). led (opens n) x) (sym (mapped_twice (λ es. es ++ (closes ∷ [])) events_items g)))

  -- ---- the whole of what is pending

  -- what comes after the innermost task, which e closes
  abbrev after : Event → List Task → ℕ → ℕ → Coming
  after e [] q j = got [] q j
  after e (u ∷ us) q j = led e (pending l u us q j)

  pending_is : (t : Task) (us : List Task) (at k : ℕ) → pending l t us at k ≡ and_then (comes l t at k) (after (closing t) us)
  unfolding pending
  pending_is t [] at k = sym (then_nothing (comes l t at k))
  pending_is t (u ∷ us) at k = refl

  -- a node or a list is entered
  pub entered : (t u : Task) (us : List Task) (e : Event) (at k : ℕ) (g : Coming) → g ≡ led e (mapped (λ es. es ++ (closing t ∷ [])) (comes l t at k)) → and_then g (λ q j. pending l u us q j) ≡ led e (pending l t (u ∷ us) at k)
  unfolding pending
  entered t u us e at k g w =
      ap (λ (x : Coming). and_then x (λ q j. pending l u us q j)) w
      ∙ led_then e (mapped (λ es. es ++ (closing t ∷ [])) (comes l t at k)) (λ q j. pending l u us q j)
      ∙ ap (λ (x : Coming). led e x) (closed_then (closing t) (comes l t at k) (λ q j. pending l u us q j))

  -- the next field, and what is pending then
  pub field_next : (s : Sort) (ss : List Sort) (us : List Task) (at k : ℕ) → pending l (slots (s ∷ ss)) us at k ≡ and_then (piece_comes l s at k) (λ q j. pending l (slots ss) us q j)
  unfolding comes slots_come
  field_next s ss us at k =
      pending_is (slots (s ∷ ss)) us at k
      ∙ then_then (piece_comes l s at k) (λ q j. slots_come l ss q j) (after ends us)
      ∙ ap (λ (x : ℕ → ℕ → Coming). and_then (piece_comes l s at k) x) (fun_ext (λ q. fun_ext (λ j. sym (pending_is (slots ss) us q j))))

  -- the next item, a node
  pub item_next : (p : ℕ) (h : Bool) (n : ℕ) (us : List Task) (at k : ℕ) (g : Coming) → items_come l p h (suc n) at k ≡ and_then g (λ q j. items_come l p h n q j) → pending l (items p h (suc n)) us at k ≡ and_then g (λ q j. pending l (items p h n) us q j)
  unfolding comes
  item_next p h n us at k g e =
      pending_is (items p h (suc n)) us at k
      ∙ ap (λ (x : Coming). and_then x (after closes us)) e
      ∙ then_then g (λ q j. items_come l p h n q j) (after closes us)
      ∙ ap (λ (x : ℕ → ℕ → Coming). and_then g x) (fun_ext (λ q. fun_ext (λ j. sym (pending_is (items p h n) us q j))))

  pub item_hole : (p n : ℕ) (us : List Task) (at k : ℕ) → byte_at l at ≡ 0 → pending l (items p true (suc n)) us at k ≡ led Event.hole (pending l (items p true n) us (at + 1) k)
  unfolding comes
  item_hole p n us at k z =
      pending_is (items p true (suc n)) us at k
      ∙ ap (λ (x : Coming). and_then x (after closes us)) (items_hole p n at k z)
      ∙ led_then Event.hole (items_come l p true n (at + 1) k) (after closes us)
      ∙ ap (λ (x : Coming). led Event.hole x) (sym (pending_is (items p true n) us (at + 1) k))

  -- the innermost task is done
  pub node_ends : (u : Task) (us : List Task) (at k : ℕ) → pending l (slots []) (u ∷ us) at k ≡ led ends (pending l u us at k)
  unfolding pending comes slots_come
  node_ends u us at k = nothing_then (led ends (pending l u us at k))

  pub list_closes : (p : ℕ) (h : Bool) (u : Task) (us : List Task) (at k : ℕ) → pending l (items p h 0) (u ∷ us) at k ≡ led closes (pending l u us at k)
  unfolding pending comes
  list_closes p h u us at k = ap (λ (x : Coming). and_then x (λ q j. led closes (pending l u us q j))) (items_none p h at k) ∙ nothing_then (led closes (pending l u us at k))

  pub all_done : (at k : ℕ) → pending l (slots []) [] at k ≡ got [] at k
  unfolding pending comes slots_come
  all_done at k = refl

  -- ---- the ways a node and a list are met

  pub node_wrong : (p at k : ℕ) → form_at rewritten p (byte_at l at) ≡ 0 → node_comes l p at k ≡ refused not_a_tree
  node_wrong p at k z = node_comes_lem p at k ∙ rw (le-ltb 0 (form_at rewritten p (byte_at l at)) (omega arith))

  module _ (p at k kind form map : ℕ) (v : kind ≡ byte_at l at) (f : form ≡ form_at rewritten p (byte_at l at)) (m : map ≡ byte_at l (at + 1)) (h : 0 < form) where
    pub node_unfit : map_ok (fields_of form) map ≡ false → node_comes l p at k ≡ refused not_a_tree
    node_unfit bad =
        let b : map_ok (fields_of (form_at rewritten p (byte_at l at))) (byte_at l (at + 1)) ≡ false = rw (f, m) at bad in
        node_comes_lem p at k ∙ rw (lt-ltb 0 (form_at rewritten p (byte_at l at)) (omega arith), b)

    pub node_fits : map_ok (fields_of form) map ≡ true → node_comes l p at k ≡ led (begins at kind map) (mapped (λ es. es ++ (ends ∷ [])) (slots_come l (standing (fields_of form) map) (at + 2) k))
    node_fits ok =
        let b : map_ok (fields_of (form_at rewritten p (byte_at l at))) (byte_at l (at + 1)) ≡ true = rw (f, m) at ok in
        rw (v, f, m) (node_comes_lem p at k ∙ rw (lt-ltb 0 (form_at rewritten p (byte_at l at)) (omega arith), b))

  pub piece_list : (p : ℕ) (h : Bool) (at k : ℕ) → piece_comes l (list_sort h p) at k ≡ accepted (ltb (wide_at l at) 65536) (led (opens (wide_at l at)) (mapped (λ es. es ++ (closes ∷ [])) (items_come l p h (wide_at l at) (at + 2) k)))
  unfolding piece_comes read_field
  piece_list p true at k = list_comes p true at k
  piece_list p false at k = list_comes p false at k

  pub piece_child : (p at k : ℕ) → piece_comes l (child p) at k ≡ node_comes l p at k
  unfolding piece_comes read_field node_comes events_piece
  piece_child p at k = mapped_twice events_piece one (node_in_of l p at k)

  pub piece_chosen : (p q at k : ℕ) → piece_comes l (chosen p q) at k ≡ node_comes l (chosen_place l p q at) at k
  unfolding piece_comes read_field node_comes events_piece
  piece_chosen p q at k = mapped_twice events_piece one (node_in_of l (chosen_place l p q at) at k)
