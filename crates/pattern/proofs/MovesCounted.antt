-- What heads move, counted, case by case.
-- Assumes nothing.
use mathlib.Core.Path.{◌≡◌, refl, sym, ap, ap₂, ◌∙◌}
use mathlib.Core.Bool.{Bool, true, false}
use mathlib.Core.List.{List}
use Prim.Native.Nat.{ℕ, ◌+◌, ◌-◌, ◌<◌, ◌≤◌}
use native.Mathlib.Omega.{arith}
use Rattle.tree.specs.Tree.{Node, Items, count, depth, depth_fields}
use Rattle.tree.specs.Tree.Node.{node}
use Rattle.tree.specs.Tree.Fields.{done}
use Rattle.tree.specs.Tree.Items.{none, hole, item}
use Rattle.tree.specs.Read.{byte_at}
use Rattle.tree.specs.Look.{look_item, look_items, look_node}
use Rattle.lowering.specs.Parts.{nothing, piece_in, node_at_of, items_at_of, gather, any, ◌+++◌}
use Rattle.lowering.specs.Patterns.{shape, items_of, rest, has_nested_object_rest}
use Rattle.lowering.specs.Patterns.Shape.{object_pattern, array_pattern, default, leaf}
use Rattle.lowering.specs.Heads.{moved, is_moved, moved_from}
use Rattle.lowering.proofs.Levels.{moved_levels, moved_nothing}
use Rattle.pattern.specs.declared.parts.Place.{Place}
use Rattle.pattern.specs.declared.parts.Run.{Run}
use Rattle.pattern.specs.Parts.{part_at, item_place, place_of, run_of, node_here}
use Rattle.pattern.specs.Tally.{limited, sum}
use Rattle.pattern.specs.Moves.{moved_below}
use Rattle.pattern.proofs.NodeParts.{Blank, child_is, list_is, array_list, kind_is, no_levels}
use Rattle.pattern.proofs.Below as below
use Rattle.pattern.proofs.Below.{node_free, gather_free}
use Rattle.pattern.proofs.CappedSums.{at_start, numbers, Adds, sum_of, list_sum, sum_start, sum_turn, sum_done, item_place_lem, plus_both}
use Rattle.lowering.proofs.ItemLaws.{count_append}

-- ---- counts of what is gathered

pub count_sum : (g : Node → Items) (is : Items) → sum_of numbers (λ n. limited (count (g n))) is ≡ limited (count (gather g is))
unfolding sum gather count limited
count_sum g none = refl
count_sum g (hole is) = count_sum g is
count_sum g (item n is) =
    let a = count_sum g is in
    let b = count_append (g n) (gather g is) in
    omega arith

-- ---- out of a pattern

abbrev pub amount : Node → ℕ
amount p = limited (count (moved_below p))

amount_blank : Blank amount
unfolding moved shape depth
amount_blank at = refl

amount_nothing : amount nothing ≡ 0
unfolding moved shape depth count limited
amount_nothing = refl

amount_object : (p : Node) → shape p ≡ object_pattern → 1 ≡ amount p
unfolding moved depth count limited
amount_object (node at k fs) s = rw (s, moved)

amount_array : (p : Node) → shape p ≡ array_pattern → limited (sum_of numbers amount (items_of p) + amount (rest p)) ≡ amount p
unfolding moved depth
amount_array (node at k fs) s =
    let m : Items = gather (λ e. moved_below e) (items_of (node at k fs)) in
    let r : Items = moved_below (rest (node at k fs)) in
    ap (λ (x : ℕ). limited (x + limited (count r))) (count_sum (λ e. moved_below e) (items_of (node at k fs)))
    ∙ plus_both (count m) (count r) ∙ ap limited (sym (count_append m r))
    ∙ rw (s, moved) (ap₂ (λ (x y : Items). limited (count (x +++ y))) (sym (gather_free (λ d p. moved d p) moved_levels moved_nothing 0 at k fs)) (sym (node_free (λ d p. moved d p) none moved_levels moved_nothing (depth_fields fs) 1 at k fs (omega arith))))

amount_default : (p : Node) → shape p ≡ default → 1 ≡ amount p
unfolding moved depth count limited
amount_default (node at k fs) s = rw (s, moved)

amount_leaf : (p : Node) → shape p ≡ leaf → 0 ≡ amount p
unfolding moved depth count limited
amount_leaf (node at k fs) s = rw (s, moved)

module _ (l : List ℕ) where
  pub moved_none : (d at : ℕ) → d ≡ 0 → 0 ≡ amount (look_node l d at).value
  moved_none d at z = sym (ap amount (no_levels l d at z) ∙ amount_blank at ∙ amount_nothing)

  abbrev pub ItemsLeft : ℕ → ℕ → ℕ → ℕ → ℕ → ℕ → Type 0
  ItemsLeft left at below n p t = Adds numbers t (list_sum numbers l amount below true n p) (sum_of numbers amount (items_at_of 0 (look_node l left at).value))

  pub item_more : (left at d n i p q : ℕ) (s : Place) (t x u : ℕ) → i < n → s ≡ item_place l true d p → x ≡ amount (node_here l s) → q ≡ (look_item l (look_node l d) true p).next → u ≡ limited (t + x) → ItemsLeft left at d (n - i) p t → ItemsLeft left at d (n - (i + 1)) q u
  item_more left at d n i p q s t x u z e y g v w =
      sum_turn numbers l amount d true n i p q t x u _ z (item_place_lem numbers l amount (λ at. amount_blank at ∙ amount_nothing) d true p s x e y) g v w

  module _ (d at k : ℕ) (z : d ≡ 0 → ⊥) (e : k ≡ byte_at l at) where
    abbrev here : Node
    here = (look_node l d at).value

    pub moved_object : k ≡ 34 → 1 ≡ amount here
    moved_object y = amount_object here (below.is_object_lem here (kind_is l d at k z e ∙ y))

    pub moved_default : k ≡ 37 → 1 ≡ amount here
    moved_default y = amount_default here (below.is_default here (kind_is l d at k z e ∙ y))

    pub moved_leaf : (k ≡ 34 → ⊥) → (k ≡ 36 → ⊥) → (k ≡ 37 → ⊥) → 0 ≡ amount here
    moved_leaf f g h =
        amount_leaf here (below.is_leaf here (λ y. f (sym (kind_is l d at k z e) ∙ y)) (λ y. g (sym (kind_is l d at k z e) ∙ y)) (λ y. h (sym (kind_is l d at k z e) ∙ y)))

    pub items_start : (r : Run) → k ≡ 36 → r ≡ run_of at (part_at l d at 0) → ItemsLeft d at (d - 1) (r.count - 0) r.from 0
    items_start r y w = at_start (λ (m : ℕ). ItemsLeft d at (d - 1) m r.from 0) r.count (sum_start numbers l amount (d - 1) true r.count r.from 0 _ refl (ap (sum_of numbers amount) (array_list l d at r (sym e ∙ y) w)))

    pub array_end : (b n i p t x u : ℕ) (s : Place) → k ≡ 36 → n ≤ i → ItemsLeft d at b (n - i) p t → s ≡ place_of d at (part_at l d at 1) → x ≡ amount (node_here l s) → u ≡ limited (t + x) → u ≡ amount here
    array_end b n i p t x u s y m w v a f =
        f ∙ ap₂ (λ (x y : ℕ). limited (x + y)) (sum_done numbers l amount b true n i p t _ m w) (a ∙ child_is l amount amount_blank d at 1 s v)
        ∙ amount_array here (below.is_array here (kind_is l d at k z e ∙ y))

  -- ---- out of a Param or Declarator

  pub is_moved_lem : (d at : ℕ) (s : Place) (b : Bool) → s ≡ place_of d at (part_at l d at 0) → b ≡ below.has (node_here l s) → b ≡ is_moved (look_node l d at).value
  unfolding is_moved
  is_moved_lem d at s b e a = a ∙ child_is l below.has below.has_blank d at 0 s e

  pub from_yes : (d at : ℕ) (b : Bool) (s : Place) (x : ℕ) → b ≡ is_moved (look_node l d at).value → b ≡ true → s ≡ place_of d at (part_at l d at 0) → x ≡ amount (node_here l s) → x ≡ limited (count (moved_from (look_node l d at).value))
  unfolding moved_from
  from_yes d at b s x y t e a = rw (sym y ∙ t) (a ∙ child_is l amount amount_blank d at 0 s e)

  pub from_no : (d at : ℕ) (b : Bool) → b ≡ is_moved (look_node l d at).value → b ≡ false → 0 ≡ limited (count (moved_from (look_node l d at).value))
  unfolding moved_from count limited
  from_no d at b y t = rw (sym y ∙ t)

  -- ---- in a list of them

  pub moved_empty : (at : ℕ) → is_moved (node at 0 done) ≡ false
  unfolding is_moved node_at_of piece_in has_nested_object_rest shape depth
  moved_empty at = refl

  abbrev pub all : ℕ → ℕ → ℕ → Items
  all left at i = items_at_of i (look_node l left at).value

  pub any_none : (d at i : ℕ) → d ≡ 0 → false ≡ any is_moved (all d at i)
  unfolding items_at_of piece_in any
  any_none d at i z = rw (no_levels l d at z)

  pub any_start : (d at i : ℕ) (r : Run) → r ≡ run_of at (part_at l d at i) → any is_moved (look_items l (look_node l (d - 1)) r.holes (r.count - 0) r.from).value ≡ any is_moved (all d at i)
  any_start d at i r e = at_start (λ (m : ℕ). any is_moved (look_items l (look_node l (d - 1)) r.holes m r.from).value ≡ any is_moved (all d at i)) r.count (ap (any is_moved) (list_is l d at i r e))
