-- The searches below patterns, case by case: what each way out answers is the definition, where the callees answer so.
-- Assumes nothing.
use mathlib.Core.Path.{◌≡◌, refl, sym, ap, ◌∙◌}
use mathlib.Core.Bool.{Bool, true, false, cond, ◌||◌}
use mathlib.Core.List.{List}
use Prim.Native.Nat.{ℕ, zero, suc, ◌+◌, ◌-◌, ◌<◌, ◌≤◌}
use native.Mathlib.Omega.{arith}
use lib.Dec.{eqb}
use Rattle.tree.specs.Tree.{Node, Items}
use Rattle.tree.specs.Tree.Node.{node}
use Rattle.tree.specs.Tree.Fields.{done}
use Rattle.tree.specs.Tree.Items.{hole, item}
use Rattle.tree.specs.Read.{byte_at}
use Rattle.tree.specs.Look.{seen, seen_as, onward, look_item, look_items, look_node}
use Rattle.lowering.specs.Parts.{nothing, node_at_of, items_at_of, stands, any}
use Rattle.lowering.specs.Patterns.{shape, value}
use Rattle.lowering.specs.Patterns.Shape.{object_pattern, array_pattern, default, leaf}
use Rattle.pattern.specs.declared.parts.Place.{Place}
use Rattle.pattern.specs.declared.parts.Run.{Run}
use Rattle.pattern.specs.Parts.{part_at, item_place, place_of, run_of, node_here}
use Rattle.pattern.proofs.NodeParts.{Blank, child_is, child_below, object_list, array_list, kind_is, no_levels}
use Rattle.pattern.proofs.Below as below
use Rattle.pattern.proofs.CappedSums.{at_start}

abbrev pub has : Node → Bool
has p = below.has p

abbrev pub deep : Node → Bool
deep p = below.below p

-- what a search asks of a pattern: an object rest below, or one below an array rest
abbrev pub sought : Bool → Node → Bool
sought b p = cond b (deep p) (has p)

pub sought_blank : (b : Bool) → Blank (sought b)
sought_blank true = below.below_blank
sought_blank false = below.has_blank

pub sought_nothing : (b : Bool) → sought b nothing ≡ false
sought_nothing true = below.below_nothing
sought_nothing false = below.has_nothing

pub sought_empty : (b : Bool) (at : ℕ) → sought b (node at 0 done) ≡ false
sought_empty b at = sought_blank b at ∙ sought_nothing b

module _ (l : List ℕ) where
  -- ---- whether an item of a list has what F asks

  module _ (F : Node → Bool) where
    -- n items, i of them passed
    pub any_end : (d : ℕ) (h : Bool) (n i at : ℕ) → n ≤ i → false ≡ any F (look_items l (look_node l d) h (n - i) at).value
    unfolding look_items any
    any_end d h n i at z = let s : n - i ≡ 0 = omega arith in rw s

    module _ (blank : (at : ℕ) → F (node at 0 done) ≡ false) where
      item_adds : (d : ℕ) (h : Bool) (at : ℕ) (is : Items) → any F ((look_item l (look_node l d) h at).value is) ≡ F (node_here l (item_place l h d at)) || any F is
      unfolding look_item item_place any look_node
      item_adds d true at is = go (eqb (byte_at l at) 0)
        where
          go : (b : Bool) → any F ((cond b (seen hole (onward l at 1)) (seen_as (λ n is. item n is) (look_node l d at))).value is) ≡ F (look_node l (cond b 0 d) at).value || any F is
          go true = ap (λ (x : Bool). x || any F is) (sym (blank at))
          go false = refl
      item_adds d false at is = refl

      any_split : (d : ℕ) (h : Bool) (n at : ℕ) → any F (look_items l (look_node l d) h (suc n) at).value ≡ F (node_here l (item_place l h d at)) || any F (look_items l (look_node l d) h n (look_item l (look_node l d) h at).next).value
      unfolding look_items
      any_split d h n at = item_adds d h at (look_items l (look_node l d) h n (look_item l (look_node l d) h at).next).value

      any_yes : (d : ℕ) (h : Bool) (n at : ℕ) → 0 < n → F (node_here l (item_place l h d at)) ≡ true → true ≡ any F (look_items l (look_node l d) h n at).value
      any_yes d h zero at z e = absurd (omega arith)
      any_yes d h (suc n) at z e = rw (any_split d h n at, e)

      any_more : (d : ℕ) (h : Bool) (n m at q : ℕ) → n ≡ suc m → F (node_here l (item_place l h d at)) ≡ false → q ≡ (look_item l (look_node l d) h at).next → any F (look_items l (look_node l d) h m q).value ≡ any F (look_items l (look_node l d) h n at).value
      any_more d h n m at q s e f = rw (s, any_split d h m at, e, f)

      -- an item that may be a hole
      module _ (d n i at : ℕ) (h b : Bool) (s : Place) (more : i < n) (e : s ≡ item_place l h d at) (a : b ≡ F (node_here l s)) where
        asked : F (node_here l (item_place l h d at)) ≡ b
        asked = ap (λ (x : Place). F (node_here l x)) (sym e) ∙ sym a

        pub item_found : b ≡ true → true ≡ any F (look_items l (look_node l d) h (n - i) at).value
        item_found t = any_yes d h (n - i) at (omega arith) (asked ∙ t)

        pub item_next : (q : ℕ) → b ≡ false → q ≡ (look_item l (look_node l d) h at).next → any F (look_items l (look_node l d) h (n - (i + 1)) q).value ≡ any F (look_items l (look_node l d) h (n - i) at).value
        item_next q t f = any_more d h (n - i) (n - (i + 1)) at q (omega arith) (asked ∙ t) f

        pub item_yes : (r : Bool) → b ≡ true → true ≡ any F (look_items l (look_node l d) h (n - i) at).value || r
        item_yes r t = ap (λ (x : Bool). x || r) (any_yes d h (n - i) at (omega arith) (asked ∙ t))

        pub item_more : (r : Bool) (q : ℕ) → b ≡ false → q ≡ (look_item l (look_node l d) h at).next → any F (look_items l (look_node l d) h (n - (i + 1)) q).value || r ≡ any F (look_items l (look_node l d) h (n - i) at).value || r
        item_more r q t f = ap (λ (x : Bool). x || r) (any_more d h (n - i) (n - (i + 1)) at q (omega arith) (asked ∙ t) f)

  -- ---- whether the value of a property has it

  module _ (F : Node → Bool) (blank : Blank F) (bare : F nothing ≡ false) where
    blank_value : (at : ℕ) → F (value (node at 0 done)) ≡ false
    unfolding node_at_of Rattle.lowering.specs.Parts.piece_in
    blank_value at = bare

    module _ (d n i at : ℕ) (b : Bool) (s : Place) (more : i < n) (e : s ≡ place_of d at (part_at l d at 1)) (a : b ≡ F (node_here l s)) where
      asked_value : F (value (node_here l (item_place l false d at))) ≡ b
      unfolding item_place
      asked_value = sym (child_is l F blank d at 1 s e) ∙ sym a

      pub value_yes : b ≡ true → true ≡ any (λ q. F (value q)) (look_items l (look_node l d) false (n - i) at).value
      value_yes t = any_yes (λ q. F (value q)) blank_value d false (n - i) at (omega arith) (asked_value ∙ t)

      pub value_more : (q : ℕ) → b ≡ false → q ≡ (look_node l d at).next → any (λ q. F (value q)) (look_items l (look_node l d) false (n - (i + 1)) q).value ≡ any (λ q. F (value q)) (look_items l (look_node l d) false (n - i) at).value
      unfolding look_item
      value_more q t f = any_more (λ q. F (value q)) blank_value d false (n - i) (n - (i + 1)) at q (omega arith) (asked_value ∙ t) f

  -- ---- falling levels

  pub value_falls : (d at : ℕ) (s : Place) → (d ≡ 0 → ⊥) → s ≡ place_of (d - 1) at (part_at l (d - 1) at 1) → s.left < d
  value_falls d at s z e = child_below l d (d - 1) at 1 s z e

  -- ---- the nodes themselves

  pub sought_none : (f : Bool) (d at : ℕ) → d ≡ 0 → false ≡ sought f (look_node l d at).value
  sought_none f d at z = sym (sought_empty f at) ∙ ap (sought f) (sym (no_levels l d at z))

  module _ (d at k : ℕ) (z : d ≡ 0 → ⊥) (e : k ≡ byte_at l at) where
    abbrev here : Node
    here = (look_node l d at).value

    pub object_shape : k ≡ 34 → shape here ≡ object_pattern
    object_shape t = below.is_object_lem here (kind_is l d at k z e ∙ t)

    pub array_shape : k ≡ 36 → shape here ≡ array_pattern
    array_shape t = below.is_array here (kind_is l d at k z e ∙ t)

    default_shape : k ≡ 37 → shape here ≡ default
    default_shape t = below.is_default here (kind_is l d at k z e ∙ t)

    pub leaf_shape : (k ≡ 34 → ⊥) → (k ≡ 36 → ⊥) → (k ≡ 37 → ⊥) → shape here ≡ leaf
    leaf_shape a b c =
        below.is_leaf here (λ w. a (sym (kind_is l d at k z e) ∙ w)) (λ w. b (sym (kind_is l d at k z e) ∙ w)) (λ w. c (sym (kind_is l d at k z e) ∙ w))

    -- an object's own rest, which is not asked for below an array rest
    pub sought_rest : (f b : Bool) → k ≡ 34 → f ≡ false → b ≡ stands 1 here → b ≡ true → true ≡ sought f here
    sought_rest true b t g s y = cc
    sought_rest false b t g s y = sym (below.has_object here (object_shape t) ∙ ap (λ (x : Bool). x || any (λ q. has (value q)) (items_at_of 0 here)) (sym s ∙ y))

    -- where there is none, or it is not asked for, the values decide
    bare_values : (f b : Bool) → k ≡ 34 → b ≡ stands 1 here → b ≡ false → any (λ q. sought f (value q)) (items_at_of 0 here) ≡ sought f here
    bare_values true b t s y = sym (below.below_object here (object_shape t))
    bare_values false b t s y = sym (below.has_object here (object_shape t) ∙ ap (λ (x : Bool). x || any (λ q. has (value q)) (items_at_of 0 here)) (sym s ∙ y))

    deep_values : (f : Bool) → k ≡ 34 → f ≡ true → any (λ q. sought f (value q)) (items_at_of 0 here) ≡ sought f here
    deep_values true t g = sym (below.below_object here (object_shape t))
    deep_values false t g = cc

    module _ (f : Bool) (r : Run) (t : k ≡ 34) (w : r ≡ run_of at (part_at l d at 0)) where
      abbrev pub Begun : Type 0
      Begun = any (λ q. sought f (value q)) (look_items l (look_node l (d - 1)) false (r.count - 0) r.from).value ≡ sought f here

      values_begun : any (λ q. sought f (value q)) (items_at_of 0 here) ≡ sought f here → Begun
      values_begun a =
          at_start (λ (m : ℕ). any (λ q. sought f (value q)) (look_items l (look_node l (d - 1)) false m r.from).value ≡ sought f here) r.count
          (ap (any (λ q. sought f (value q))) (object_list l d at r (sym e ∙ t) w) ∙ a)

      pub begun_bare : (b : Bool) → b ≡ stands 1 here → b ≡ false → Begun
      begun_bare b s y = values_begun (bare_values f b t s y)

      pub begun_deep : f ≡ true → Begun
      begun_deep g = values_begun (deep_values f t g)

    sought_array : (f : Bool) → shape here ≡ array_pattern → any (sought f) (items_at_of 0 here) || has (node_at_of 1 here) ≡ sought f here
    sought_array true s = sym (below.below_array here s)
    sought_array false s = sym (below.has_array here s)

    pub sought_items : (f : Bool) (r : Run) → k ≡ 36 → r ≡ run_of at (part_at l d at 0) → any (sought f) (look_items l (look_node l (d - 1)) true (r.count - 0) r.from).value || has (node_at_of 1 here) ≡ sought f here
    sought_items f r t w =
        at_start (λ (m : ℕ). any (sought f) (look_items l (look_node l (d - 1)) true m r.from).value || has (node_at_of 1 here) ≡ sought f here) r.count
        (ap (λ (is : Items). any (sought f) is || has (node_at_of 1 here)) (array_list l d at r (sym e ∙ t) w) ∙ sought_array f (array_shape t))

    sought_default : (f : Bool) → shape here ≡ default → sought f here ≡ sought f (node_at_of 0 here)
    sought_default true s = below.below_default here s
    sought_default false s = below.has_default here s

    pub sought_left : (f b : Bool) (s : Place) → k ≡ 37 → s ≡ place_of d at (part_at l d at 0) → b ≡ sought f (node_here l s) → b ≡ sought f here
    sought_left f b s t w a = a ∙ child_is l (sought f) (sought_blank f) d at 0 s w ∙ sym (sought_default f (default_shape t))

    pub sought_leaf : (f : Bool) → (k ≡ 34 → ⊥) → (k ≡ 36 → ⊥) → (k ≡ 37 → ⊥) → false ≡ sought f here
    sought_leaf true a b c = sym (below.below_leaf here (leaf_shape a b c))
    sought_leaf false a b c = sym (below.has_leaf here (leaf_shape a b c))

  -- after the last item: what the array's rest has
  pub items_done : (F : Node → Bool) (d at e n i p : ℕ) (b : Bool) (s : Place) → n ≤ i → s ≡ place_of d at (part_at l d at 1) → b ≡ has (node_here l s) → b ≡ any F (look_items l (look_node l e) true (n - i) p).value || has (node_at_of 1 (look_node l d at).value)
  items_done F d at e n i p b s z w a =
      a ∙ child_is l has below.has_blank d at 1 s w ∙ ap (λ (x : Bool). x || has (node_at_of 1 (look_node l d at).value)) (any_end F e true n i p z)
