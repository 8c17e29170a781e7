-- How many objects with rest stand nearest below a target, as the code counts them.
-- Assumes nothing.
use mathlib.Core.Path.{◌≡◌, refl, sym, ap, ◌∙◌}
use mathlib.Core.Bool.{Bool, true, false, cond}
use mathlib.Core.List.{List}
use Prim.Native.Nat.{ℕ, zero, suc, ◌+◌, ◌-◌, ◌<◌, ◌≤◌}
use native.Mathlib.Omega.{arith}
use native.Mathlib.Decide.{dec_lt}
use Rattle.tree.specs.Tree.{Node, Items, count, depth, depth_fields}
use Rattle.tree.specs.Tree.Node.{node}
use Rattle.tree.specs.Tree.Items.{none}
use Rattle.tree.specs.Read.{byte_at}
use Rattle.tree.specs.Look.{look_item, look_items, look_node}
use Rattle.lowering.specs.Parts.{nothing, only, gather}
use Rattle.lowering.specs.Patterns.{shape, items_of, has_rest_of, left_of, value}
use Rattle.lowering.specs.Patterns.Shape.{object_pattern, array_pattern, default}
use Rattle.pattern.specs.declared.parts.Place.{Place}
use Rattle.pattern.specs.declared.parts.Run.{Run}
use Rattle.pattern.specs.Parts.{part_at, place_of, run_of, node_here, item_place}
use Rattle.pattern.specs.Tally.{limited}
use Rattle.pattern.proofs.NodeParts.{Blank, child_is, object_list, array_list, kind_is, no_levels}
use Rattle.pattern.proofs.Below as below
use Rattle.pattern.proofs.Below.{gather_values, gather_free, node_free}
use Rattle.pattern.proofs.Searches.{leaf_shape}
use Rattle.pattern.proofs.CappedSums.{numbers, Adds, sum_of, list_sum, sum_start, sum_more, sum_end, item_place_lem}
use Rattle.pattern.proofs.MovesCounted.{count_sum}
use Rattle.pattern.proofs.CountsFit.{limited_below}
use Rattle.direct.specs.Objects.{Reach, counts, enters, reached_at, reached, reached_in}
use Rattle.direct.specs.Objects.Reach.{anywhere}
use Rattle.direct.proofs.NearestObjects.{reached_nothing, reached_levels, reached_leaf}
use Rattle.walk.specs.Turns.{reach_of, values_count}
use Rattle.walk.specs.declared.reaches.Reach as reaches
use Rattle.walk.specs.declared.reaches.Reach.TheVariants.{Anywhere}

-- ---- one level

abbrev pub places : Reach → Node → ℕ
places r p = limited (count (reached r p))

none_counted : limited (count none) ≡ 0
unfolding limited count
none_counted = refl

one_counted : (p : Node) → limited (count (only p)) ≡ 1
unfolding limited count
one_counted p = refl

module _ (r : Reach) where
  object_places : (p : Node) → shape p ≡ object_pattern → reached r p ≡ cond (has_rest_of p) (cond (counts r) (only p) none) (reached_in r p)
  unfolding reached_at depth
  object_places (node at k fs) s =
      rw (s, reached_at)
      (ap (λ (x : Items). cond (has_rest_of (node at k fs)) (cond (counts r) (only (node at k fs)) none) x)
      (gather_values (λ d p. reached_at r d p) (λ d p h. reached_levels r d p h) (reached_nothing r) 0 at k fs))

  array_places : (p : Node) → shape p ≡ array_pattern → reached r p ≡ cond (enters r) (gather (reached anywhere) (items_of p)) none
  unfolding reached_at depth
  array_places (node at k fs) s =
      rw (s, reached_at)
      (ap (λ (x : Items). cond (enters r) x none)
      (gather_free (λ d p. reached_at anywhere d p) (λ d p h. reached_levels anywhere d p h) (reached_nothing anywhere) 0 at k fs))

  default_places : (p : Node) → shape p ≡ default → reached r p ≡ reached r (left_of p)
  unfolding reached_at depth
  default_places (node at k fs) s =
      rw (s, reached_at) (node_free (λ d p. reached_at r d p) none (λ d p h. reached_levels r d p h) (reached_nothing r) (depth_fields fs) 0 at k fs (omega arith))

  places_nothing : places r nothing ≡ 0
  places_nothing = ap (λ (is : Items). limited (count is)) (reached_nothing r (depth nothing)) ∙ none_counted

  places_blank : Blank (places r)
  unfolding reached_at shape depth
  places_blank at = refl

-- one that is come to through objects
module _ (reach : reaches.Reach) (b : Bool) (e : b ≡ counts (reach_of reach)) where
  pub found_counts : b ≡ true → ◌≡◌ {A = ℕ} 1 (cond (counts (reach_of reach)) 1 0)
  found_counts h = ap (λ (x : Bool). cond x 1 0) (sym h ∙ e)

  pub found_not : b ≡ false → ◌≡◌ {A = ℕ} 0 (cond (counts (reach_of reach)) 1 0)
  found_not h = ap (λ (x : Bool). cond x 1 0) (sym h ∙ e)

pub by_one : (p : Node) → places (reach_of Anywhere) p ≡ places anywhere p
unfolding reach_of
by_one p = refl

-- ---- as the code finds them

-- what is left to be counted of the items of an array that is entered
module _ (l : List ℕ) where
  abbrev pub ItemsLeft : ℕ → ℕ → ℕ → ℕ → ℕ → ℕ → Type 0
  ItemsLeft d at e n p t = Adds numbers t (list_sum numbers l (λ q. places anywhere q) e true n p) (places anywhere (look_node l d at).value)

  pub items_more : (d at e n p q t x u : ℕ) (s : Place) → 0 < n → s ≡ item_place l true e p → x ≡ places anywhere (node_here l s) → q ≡ (look_item l (look_node l e) true p).next → u ≡ limited (t + x) → ItemsLeft d at e n p t → ItemsLeft d at e (n - 1) q u
  items_more d at e n p q t x u s z f y g v w =
      sum_more numbers l (λ q. places anywhere q) e true n p q t x u _ z
      (item_place_lem numbers l (λ q. places anywhere q) (λ at. places_blank anywhere at ∙ places_nothing anywhere) e true p s x f y) g v w

  pub items_end : (d at e n p t : ℕ) → n ≤ 0 → ItemsLeft d at e n p t → t ≡ places anywhere (look_node l d at).value
  items_end d at e n p t z w = sum_end numbers l (λ q. places anywhere q) e true n p t _ z w

  pub items_start : (d at k : ℕ) → (d ≡ 0 → ⊥) → k ≡ byte_at l at → (run : Run) → k ≡ 36 → run ≡ run_of at (part_at l d at 0) → ItemsLeft d at (d - 1) run.count run.from 0
  items_start d at k z e run t w =
      let here : Node = (look_node l d at).value in
      sum_start numbers l (λ q. places anywhere q) (d - 1) true run.count run.from 0 _ refl
      (ap (sum_of numbers (λ q. places anywhere q)) (array_list l d at run (sym e ∙ t) w)
      ∙ count_sum (λ q. reached anywhere q) (items_of here)
      ∙ ap (λ (is : Items). limited (count is)) (sym (array_places anywhere here (below.is_array here (kind_is l d at k z e ∙ t)))))

module _ (l : List ℕ) (r : Reach) where
  pub count_none : (d at : ℕ) → d ≡ 0 → 0 ≡ places r (look_node l d at).value
  count_none d at z = sym (ap (places r) (no_levels l d at z) ∙ places_blank r at ∙ places_nothing r)

  pub inside_none : (d at : ℕ) → d ≡ 0 → 0 ≡ values_count l r d at
  unfolding values_count part_at run_of look_items gather limited count
  inside_none zero at z = refl
  inside_none (suc d) at z = absurd (omega arith)

  -- what is left to be counted of the values of an object
  abbrev pub ValuesLeft : ℕ → ℕ → ℕ → ℕ → ℕ → ℕ → Type 0
  ValuesLeft d at e n p t = Adds numbers t (list_sum numbers l (λ q. places r (value q)) e false n p) (values_count l r d at)

  pub values_more : (d at e n p q t x u : ℕ) (s : Place) → 0 < n → s ≡ place_of e p (part_at l e p 1) → x ≡ places r (node_here l s) → q ≡ (look_node l e p).next → u ≡ limited (t + x) → ValuesLeft d at e n p t → ValuesLeft d at e (n - 1) q u
  unfolding look_item
  values_more d at e n p q t x u s z f y g v w =
      sum_more numbers l (λ q. places r (value q)) e false n p q t x u _ z (y ∙ child_is l (places r) (places_blank r) e p 1 s f) g v w

  pub values_end : (d at e n p t : ℕ) → n ≤ 0 → ValuesLeft d at e n p t → t ≡ values_count l r d at
  values_end d at e n p t z w = sum_end numbers l (λ q. places r (value q)) e false n p t _ z w

  pub values_start : (d at : ℕ) (run : Run) → run ≡ run_of at (part_at l d at 0) → ValuesLeft d at (d - 1) run.count run.from 0
  unfolding values_count
  values_start d at run w =
      sum_start numbers l (λ q. places r (value q)) (d - 1) false run.count run.from 0 _ refl
      (count_sum (λ q. reached r (value q)) (look_items l (look_node l (d - 1)) false run.count run.from).value
      ∙ ap (λ (x : Run). limited (count (gather (λ q. reached r (value q)) (look_items l (look_node l (d - 1)) false x.count x.from).value))) w)

  -- of an object they are its values
  pub values_object : (d at : ℕ) → byte_at l at ≡ 34 → values_count l r d at ≡ limited (count (reached_in r (look_node l d at).value))
  unfolding values_count
  values_object d at k = ap (λ (is : Items). limited (count (gather (λ q. reached r (value q)) is))) (object_list l d at (run_of at (part_at l d at 0)) k refl)

  pub values_below : (d at n : ℕ) → n ≡ values_count l r d at → n ≤ 65536
  unfolding values_count
  values_below d at n e = limited_below n _ e

  module _ (d at k : ℕ) (z : d ≡ 0 → ⊥) (e : k ≡ byte_at l at) where
    abbrev here : Node
    here = (look_node l d at).value

    -- an object with rest, and one without
    pub count_found : (x : ℕ) (b : Bool) → k ≡ 34 → b ≡ has_rest_of here → b ≡ true → x ≡ cond (counts r) 1 0 → x ≡ places r here
    count_found x b t h y w =
        w ∙ go (counts r)
        ∙ ap (λ (is : Items). limited (count is)) (sym (object_places r here (below.is_object_lem here (kind_is l d at k z e ∙ t)) ∙ ap (λ (c : Bool). cond c (cond (counts r) (only here) none) (reached_in r here)) (sym h ∙ y)))
      where
        go : (c : Bool) → cond c 1 0 ≡ limited (count (cond c (only here) none))
        go true = sym (one_counted here)
        go false = sym none_counted

    pub count_values : (x : ℕ) (b : Bool) → k ≡ 34 → b ≡ has_rest_of here → b ≡ false → x ≡ limited (count (reached_in r here)) → x ≡ places r here
    count_values x b t h y w =
        w ∙ ap (λ (is : Items). limited (count is)) (sym (object_places r here (below.is_object_lem here (kind_is l d at k z e ∙ t)) ∙ ap (λ (c : Bool). cond c (cond (counts r) (only here) none) (reached_in r here)) (sym h ∙ y)))

    -- an array that is not entered, and one that is
    pub count_passed : k ≡ 36 → enters r ≡ false → 0 ≡ places r here
    count_passed t h =
        sym (ap (λ (is : Items). limited (count is)) (array_places r here (below.is_array here (kind_is l d at k z e ∙ t)) ∙ ap (λ (c : Bool). cond c (gather (reached anywhere) (items_of here)) none) h) ∙ none_counted)

    pub count_entered : (x : ℕ) → k ≡ 36 → enters r ≡ true → x ≡ places anywhere here → x ≡ places r here
    count_entered x t h w =
        let s = below.is_array here (kind_is l d at k z e ∙ t) in
        w ∙ ap (λ (is : Items). limited (count is)) (array_places anywhere here s ∙ sym (array_places r here s ∙ ap (λ (c : Bool). cond c (gather (reached anywhere) (items_of here)) none) h))

    pub count_left : (x : ℕ) (s : Place) → k ≡ 37 → s ≡ place_of d at (part_at l d at 0) → x ≡ places r (node_here l s) → x ≡ places r here
    count_left x s t w a =
        a ∙ child_is l (places r) (places_blank r) d at 0 s w ∙ ap (λ (is : Items). limited (count is)) (sym (default_places r here (below.is_default here (kind_is l d at k z e ∙ t))))

    pub count_other : (k ≡ 34 → ⊥) → (k ≡ 36 → ⊥) → (k ≡ 37 → ⊥) → 0 ≡ places r here
    count_other a b c = sym (ap (λ (is : Items). limited (count is)) (reached_leaf r here (leaf_shape l d at k z e a b c)) ∙ none_counted)

  -- a value that is no pattern by its kind adds nothing
  passed_none : (s : Place) (k : ℕ) → k ≡ byte_at l s.at → k ≤ 33 → 0 ≡ places r (node_here l s)
  passed_none s k e h = elim (dec_lt 0 s.left) [
    | yes z ↦ count_other s.left s.at k (λ n. absurd (omega arith)) e (λ y. absurd (omega arith)) (λ y. absurd (omega arith)) (λ y. absurd (omega arith))
    | no z ↦ count_none s.left s.at (omega arith)
  ]

  pub values_passed : (d at e n p q k t : ℕ) (s : Place) → 0 < n → s ≡ place_of e p (part_at l e p 1) → k ≡ byte_at l s.at → k ≤ 33 → q ≡ (look_node l e p).next → ValuesLeft d at e n p t → ValuesLeft d at e (n - 1) q t
  unfolding look_item
  values_passed d at e n p q k t s z f a y g w =
      sum_more numbers l (λ q. places r (value q)) e false n p q t 0 t _ z (passed_none s k a y ∙ child_is l (places r) (places_blank r) e p 1 s f) g (sym w.1) w
