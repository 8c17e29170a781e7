-- What is done for lists: item by item, and one list after another.
-- Assumes nothing.
use mathlib.Core.Path.{◌≡◌, refl, sym, ap, ap₂, ◌∙◌}
use mathlib.Core.Bool.{Bool, false}
use mathlib.Core.List.{[], ◌∷◌}
use Rattle.tree.specs.Tree.{Node, Items}
use Rattle.lowering.specs.Parts.{gather, ◌+++◌, only, each}
use Rattle.lowering.proofs.Accepted.{NoHoles}
use Rattle.sink.specs.Machine.{Event}
use Rattle.sink.specs.Machine.Event.{put}
use Rattle.direct.specs.Events.{Place, Emit, emits}
use Rattle.direct.specs.Events.Deed.{does}
use Rattle.direct.specs.Emit.{say, ◌▷◌, emits_item, emits_items, in_turn}
use Rattle.direct.specs.Views.{each_does}
use Rattle.direct.proofs.Threads.{then_assoc, say_nothing, then_nothing}
use Rattle.direct.proofs.StatementMarks.{emits_item_lem}

pub items_append : (l : Bool) (c : Place) (ns ms : Items) → emits_items l c (ns +++ ms) ≡ emits_items l c ns ▷ emits_items l c ms
unfolding emits_items ◌+++◌
items_append l c Items.none ms = sym (say_nothing (emits_items l c ms))
items_append l c (Items.hole ns) ms =
    let z = say (does (Event.put 0) ∷ []) in
    ap (λ (x : Emit). z ▷ x) (items_append l c ns ms) ∙ sym (then_assoc z (emits_items l c ns) (emits_items l c ms))
items_append l c (Items.item n ns) ms =
    ap (λ (x : Emit). emits_item l c n ▷ x) (items_append l c ns ms) ∙ sym (then_assoc (emits_item l c n) (emits_items l c ns) (emits_items l c ms))

-- the lists of all items
pub items_gather : (l : Bool) (c : Place) (f : Node → Items) (ns : Items) → emits_items l c (gather f ns) ≡ in_turn (λ n. emits_items l c (f n)) ns
unfolding emits_items gather in_turn
items_gather l c f Items.none = refl
items_gather l c f (Items.hole ns) = items_gather l c f ns
items_gather l c f (Items.item n ns) =
    items_append l c (f n) (gather f ns) ∙ ap (λ (x : Emit). emits_items l c (f n) ▷ x) (items_gather l c f ns)

pub turn_append : (f : Node → Emit) (ns ms : Items) → in_turn f (ns +++ ms) ≡ in_turn f ns ▷ in_turn f ms
unfolding in_turn ◌+++◌
turn_append f Items.none ms = sym (say_nothing (in_turn f ms))
turn_append f (Items.hole ns) ms = turn_append f ns ms
turn_append f (Items.item n ns) ms = ap (λ (x : Emit). f n ▷ x) (turn_append f ns ms) ∙ sym (then_assoc (f n) (in_turn f ns) (in_turn f ms))

pub turn_gather : (f : Node → Emit) (g : Node → Items) (ns : Items) → in_turn f (gather g ns) ≡ in_turn (λ n. in_turn f (g n)) ns
unfolding in_turn gather
turn_gather f g Items.none = refl
turn_gather f g (Items.hole ns) = turn_gather f g ns
turn_gather f g (Items.item n ns) = turn_append f (g n) (gather g ns) ∙ ap (λ (x : Emit). in_turn f (g n) ▷ x) (turn_gather f g ns)

pub turn_same : (f g : Node → Emit) → ((n : Node) → f n ≡ g n) → (ns : Items) → in_turn f ns ≡ in_turn g ns
unfolding in_turn
turn_same f g h Items.none = refl
turn_same f g h (Items.hole ns) = turn_same f g h ns
turn_same f g h (Items.item n ns) = ap₂ (λ (x y : Emit). x ▷ y) (h n) (turn_same f g h ns)

pub holes_none : NoHoles Items.none
unfolding NoHoles
holes_none = tt

pub holes_only : (n : Node) → NoHoles (only n)
unfolding NoHoles
holes_only n = tt

pub holes_append : (ns ms : Items) → NoHoles ns → NoHoles ms → NoHoles (ns +++ ms)
unfolding NoHoles ◌+++◌
holes_append Items.none ms a b = b
holes_append (Items.hole ns) ms a b = absurd a
holes_append (Items.item n ns) ms a b = holes_append ns ms a b

pub items_each : (c : Place) (g : Node → Node) (is : Items) → emits_items false c (each g is) ≡ each_does (λ n. emits c (g n)) is
unfolding emits_items each each_does
items_each c g Items.none = refl
items_each c g (Items.hole is) = ap (λ (e : Emit). say (does (put 0) ∷ []) ▷ e) (items_each c g is)
items_each c g (Items.item n is) = ap₂ (λ (e f : Emit). e ▷ f) (emits_item_lem c (g n)) (items_each c g is)

pub turn_only : (f : Node → Emit) (n : Node) → in_turn f (only n) ≡ f n
unfolding in_turn
turn_only f n = then_nothing (f n)
