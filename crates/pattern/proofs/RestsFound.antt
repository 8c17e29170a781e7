-- The objects with rest that are found below a pattern, counted: the counts without levels, and as the code makes them.
-- Assumes nothing.
use mathlib.Core.Path.{◌≡◌, refl, sym, ap, ap₂, ◌∙◌}
use mathlib.Core.Bool.{Bool, true, false, cond}
use mathlib.Core.List.{List}
use Prim.Native.Nat.{ℕ, ◌+◌, ◌-◌, ◌<◌, ◌≤◌}
use native.Mathlib.Omega.{arith}
use native.Mathlib.Decide.{dec_lt}
use Rattle.tree.specs.Tree.{Node, Piece, Items, depth, depth_fields}
use Rattle.tree.specs.Tree.Node.{node}
use Rattle.tree.specs.Tree.Fields.{done, absent, field}
use Rattle.tree.specs.Tree.Piece.{one, list, text, byte, mark, number}
use Rattle.tree.specs.Tree.Items.{none, hole, item}
use Rattle.tree.specs.Read.{byte_at}
use Rattle.tree.specs.Look.{look_item, look_node}
use Rattle.lowering.specs.Parts.{nothing, piece_in, change_in, change, on_items, change_node, change_items, as_items_of, items_at_of, stands, only, each, gather, is_empty}
use Rattle.lowering.specs.Made.{Context}
use Rattle.lowering.specs.Patterns.{shape, properties, items_of, has_rest_of, left_of, value, key, with_values, replaced, objects_with_rest, objects_below}
use Rattle.lowering.specs.Patterns.Shape.{object_pattern, array_pattern, default, leaf}
use Rattle.lowering.specs.Rests.{has_no_properties}
use Rattle.lowering.proofs.Levels.{objects_levels}
use Rattle.pattern.specs.declared.parts.Place.{Place}
use Rattle.pattern.specs.declared.parts.Run.{Run}
use Rattle.pattern.specs.Parts.{part_at, item_place, place_of, run_of, node_here}
use Rattle.pattern.specs.Tally as tally
use Rattle.pattern.specs.Tally.{Totals, both, sum}
use Rattle.pattern.specs.Keys.{key_tally, keys_of}
use Rattle.pattern.specs.Objects.{object_itself, object_tally, own_tally, objects_tally, rests_tally}
use Rattle.pattern.proofs.NodeParts.{Blank, child_is, object_list, array_list, kind_is, no_levels}
use Rattle.pattern.proofs.Below as below
use Rattle.pattern.proofs.Below.{node_free, gather_free, gather_values}
use Rattle.pattern.proofs.CappedSums.{at_start, tallies, Adds, sum_of, list_sum, sum_append, sum_gather, sum_start, sum_turn, sum_done, item_place_lem, both_right}
use Rattle.lowering.proofs.ItemLaws.{empty_each}
use Rattle.lowering.proofs.Levels.{objects_nothing}
use Rattle.lowering.proofs.SoundKeys.{key_kept}

-- ---- an object's own count is that of its keys: its values play no part

pub items_changed : (g : Items → Items) → g none ≡ none → (p : Piece) → as_items_of (on_items g p) ≡ g (as_items_of p)
unfolding on_items
items_changed g e (one n) = sym e
items_changed g e (list is) = refl
items_changed g e (text bs) = sym e
items_changed g e (byte b) = sym e
items_changed g e (mark b) = sym e
items_changed g e (number b) = sym e

items_kept : (g : Items → Items) → g none ≡ none → (p : Node) → items_at_of 0 (change_items 0 g p) ≡ g (items_at_of 0 p)
unfolding change change_in items_at_of piece_in
items_kept g e (node at k done) = sym e
items_kept g e (node at k (absent fs)) = sym e
items_kept g e (node at k (field p fs)) = items_changed g e p

keys_each : (f : Node → Node) (is : Items) → sum tally.no_tally both (λ q. key_tally (key q)) (each (λ q. change_node 1 f q) is) ≡ sum tally.no_tally both (λ q. key_tally (key q)) is
unfolding sum each
keys_each f none = refl
keys_each f (hole is) = keys_each f is
keys_each f (item q is) = ap₂ (λ (k : Node) (t : Totals). both (key_tally k) t) (key_kept f q) (keys_each f is)

pub values_changed : (f : Node → Node) (p : Node) → properties (with_values f p) ≡ each (λ q. change_node 1 f q) (properties p)
unfolding each
values_changed f p = items_kept (each (λ q. change_node 1 f q)) refl p

pub no_properties_kept : (f : Node → Node) (p : Node) → has_no_properties (with_values f p) ≡ has_no_properties p
no_properties_kept f p = ap is_empty (values_changed f p) ∙ empty_each (λ q. change_node 1 f q) (properties p)

pub keys_kept : (f : Node → Node) (p : Node) → keys_of (with_values f p) ≡ keys_of p
unfolding keys_of
keys_kept f p = ap (sum tally.no_tally both (λ q. key_tally (key q))) (values_changed f p) ∙ keys_each f (properties p)

pub tally_kept : (f : Node → Node) (p : Node) → object_tally (with_values f p) ≡ object_tally p
unfolding object_tally
tally_kept f p = ap₂ (λ (t : Totals) (b : Bool). both t (object_itself b)) (keys_kept f p) (no_properties_kept f p)

-- ---- the count of all that are found, by shape

pub only_tally : (p : Node) → objects_tally (only p) ≡ object_tally p
unfolding sum object_tally
only_tally p = both_right (keys_of p) (object_itself (has_no_properties p))

pub own_is : (f : Node → Node) (p : Node) → objects_tally (cond (has_rest_of p) (only (with_values f p)) none) ≡ own_tally p
unfolding own_tally sum
own_is f p = go (has_rest_of p)
  where
    go : (b : Bool) → objects_tally (cond b (only (with_values f p)) none) ≡ cond b (object_tally p) tally.no_tally
    go true = only_tally (with_values f p) ∙ tally_kept f p
    go false = refl

module _ (c : Context) where
  pub levels : (d : ℕ) (p : Node) → depth p ≤ d → objects_with_rest c d p ≡ objects_with_rest c (depth p) p
  levels d p h = objects_levels d p h c

  pub rests_blank : Blank (rests_tally c)
  unfolding rests_tally objects_with_rest shape depth sum
  rests_blank at = refl

  pub tally_nothing : rests_tally c nothing ≡ tally.no_tally
  unfolding rests_tally objects_with_rest shape depth sum
  tally_nothing = refl

  pub rests_object : (p : Node) → shape p ≡ object_pattern → rests_tally c p ≡ both (sum_of tallies (λ q. rests_tally c (value q)) (properties p)) (own_tally p)
  unfolding rests_tally objects_with_rest depth
  rests_object (node at k fs) s =
      rw (s, objects_with_rest)
      (sum_append tallies object_tally (gather (λ q. objects_with_rest c (depth_fields fs) (value q)) (properties (node at k fs))) (cond (has_rest_of (node at k fs)) (only (with_values (λ v. replaced c (depth_fields fs) v) (node at k fs))) none)
      ∙ ap₂ both
      (ap objects_tally (gather_values (λ d p. objects_with_rest c d p) levels (objects_nothing c) 0 at k fs) ∙ sum_gather tallies object_tally (λ q. objects_below c (value q)) (properties (node at k fs)))
      (own_is (λ v. replaced c (depth_fields fs) v) (node at k fs)))

  pub rests_array : (p : Node) → shape p ≡ array_pattern → rests_tally c p ≡ sum_of tallies (λ e. rests_tally c e) (items_of p)
  unfolding rests_tally objects_with_rest depth
  rests_array (node at k fs) s =
      rw (s, objects_with_rest)
      (ap objects_tally (gather_free (λ d p. objects_with_rest c d p) levels (objects_nothing c) 0 at k fs) ∙ sum_gather tallies object_tally (λ e. objects_below c e) (items_of (node at k fs)))

  rests_default : (p : Node) → shape p ≡ default → rests_tally c p ≡ rests_tally c (left_of p)
  unfolding rests_tally objects_with_rest depth
  rests_default (node at k fs) s =
      rw (s, objects_with_rest) (ap objects_tally (node_free (λ d p. objects_with_rest c d p) none levels (objects_nothing c) (depth_fields fs) 0 at k fs (omega arith)))

  rests_leaf : (p : Node) → shape p ≡ leaf → rests_tally c p ≡ tally.no_tally
  unfolding rests_tally objects_with_rest depth sum
  rests_leaf (node at k fs) s = rw (s, objects_with_rest)

-- ---- as the code makes them

module _ (l : List ℕ) where
  pub itself_empty : (b : Bool) → b ≡ true → object_itself true ≡ object_itself b
  itself_empty b e = ap object_itself (sym e)

  pub itself_filled : (b : Bool) → b ≡ false → object_itself false ≡ object_itself b
  itself_filled b e = ap object_itself (sym e)

  pub own_rest : (d at : ℕ) (b e : Bool) (t u r : Totals) → b ≡ stands 1 (look_node l d at).value → b ≡ true → t ≡ keys_of (look_node l d at).value → e ≡ has_no_properties (look_node l d at).value → u ≡ object_itself e → r ≡ both t u → r ≡ own_tally (look_node l d at).value
  unfolding own_tally object_tally
  own_rest d at b e t u r s y k z v w =
      rw (sym s ∙ y) (w ∙ ap₂ both k (v ∙ ap object_itself z))

  pub own_none : (d at : ℕ) (b : Bool) (r : Totals) → b ≡ stands 1 (look_node l d at).value → b ≡ false → r ≡ tally.no_tally → r ≡ own_tally (look_node l d at).value
  unfolding own_tally
  own_none d at b r s y w = rw (sym s ∙ y) w

  -- what is left of the properties' values, or of the items
  abbrev pub ValuesLeft : ℕ → ℕ → ℕ → ℕ → ℕ → Totals → Type 0
  ValuesLeft left at below n p t = (c : Context) → Adds tallies t (list_sum tallies l (λ q. rests_tally c (value q)) below false n p) (sum_of tallies (λ q. rests_tally c (value q)) (items_at_of 0 (look_node l left at).value))

  abbrev pub ItemsLeft : ℕ → ℕ → ℕ → ℕ → ℕ → Totals → Type 0
  ItemsLeft left at below n p t = (c : Context) → Adds tallies t (list_sum tallies l (λ e. rests_tally c e) below true n p) (sum_of tallies (λ e. rests_tally c e) (items_at_of 0 (look_node l left at).value))

  pub value_more : (left at d n i p q : ℕ) (s : Place) (t x u : Totals) → i < n → s ≡ place_of d p (part_at l d p 1) → ((c : Context) → x ≡ rests_tally c (node_here l s)) → q ≡ (look_node l d p).next → u ≡ both t x → ValuesLeft left at d (n - i) p t → ValuesLeft left at d (n - (i + 1)) q u
  unfolding look_item
  value_more left at d n i p q s t x u z e y g v w c =
      sum_turn tallies l (λ q. rests_tally c (value q)) d false n i p q t x u _ z (y c ∙ child_is l (rests_tally c) (rests_blank c) d p 1 s e) g v (w c)

  pub item_more : (left at d n i p q : ℕ) (s : Place) (t x u : Totals) → i < n → s ≡ item_place l true d p → ((c : Context) → x ≡ rests_tally c (node_here l s)) → q ≡ (look_item l (look_node l d) true p).next → u ≡ both t x → ItemsLeft left at d (n - i) p t → ItemsLeft left at d (n - (i + 1)) q u
  item_more left at d n i p q s t x u z e y g v w c =
      sum_turn tallies l (λ e. rests_tally c e) d true n i p q t x u _ z (item_place_lem tallies l (λ e. rests_tally c e) (λ at. rests_blank c at ∙ tally_nothing c) d true p s x e (y c)) g v (w c)

  pub rests_none : (c : Context) (d at : ℕ) (r : Totals) → d ≡ 0 → r ≡ tally.no_tally → r ≡ rests_tally c (look_node l d at).value
  rests_none c d at r z e = e ∙ sym (ap (rests_tally c) (no_levels l d at z) ∙ rests_blank c at ∙ tally_nothing c)

  module _ (d at k : ℕ) (z : d ≡ 0 → ⊥) (e : k ≡ byte_at l at) where
    abbrev here : Node
    here = (look_node l d at).value

    pub values_start : (r : Run) (t : Totals) → k ≡ 34 → r ≡ run_of at (part_at l d at 0) → t ≡ tally.no_tally → ValuesLeft d at (d - 1) (r.count - 0) r.from t
    values_start r t y w s =
        at_start (λ (m : ℕ). ValuesLeft d at (d - 1) m r.from t) r.count
        (λ c. sum_start tallies l (λ q. rests_tally c (value q)) (d - 1) false r.count r.from t _ s (ap (sum_of tallies (λ q. rests_tally c (value q))) (object_list l d at r (sym e ∙ y) w)))

    pub object_end : (c : Context) (b n i p : ℕ) (t o r : Totals) → k ≡ 34 → n ≤ i → ValuesLeft d at b (n - i) p t → o ≡ own_tally here → r ≡ both t o → r ≡ rests_tally c here
    object_end c b n i p t o r y m w v u =
        u ∙ ap₂ both (sum_done tallies l (λ q. rests_tally c (value q)) b false n i p t _ m (w c)) v ∙ sym (rests_object c here (below.is_object_lem here (kind_is l d at k z e ∙ y)))

    pub items_start : (r : Run) (t : Totals) → k ≡ 36 → r ≡ run_of at (part_at l d at 0) → t ≡ tally.no_tally → ItemsLeft d at (d - 1) (r.count - 0) r.from t
    items_start r t y w s =
        at_start (λ (m : ℕ). ItemsLeft d at (d - 1) m r.from t) r.count
        (λ c. sum_start tallies l (λ e. rests_tally c e) (d - 1) true r.count r.from t _ s (ap (sum_of tallies (λ e. rests_tally c e)) (array_list l d at r (sym e ∙ y) w)))

    pub array_end : (c : Context) (b n i p : ℕ) (t : Totals) → k ≡ 36 → n ≤ i → ItemsLeft d at b (n - i) p t → t ≡ rests_tally c here
    array_end c b n i p t y m w =
        sum_done tallies l (λ e. rests_tally c e) b true n i p t _ m (w c) ∙ sym (rests_array c here (below.is_array here (kind_is l d at k z e ∙ y)))

    pub default_left : (c : Context) (s : Place) (r : Totals) → k ≡ 37 → s ≡ place_of d at (part_at l d at 0) → ((c : Context) → r ≡ rests_tally c (node_here l s)) → r ≡ rests_tally c here
    default_left c s r y w v =
        v c ∙ child_is l (rests_tally c) (rests_blank c) d at 0 s w ∙ sym (rests_default c here (below.is_default here (kind_is l d at k z e ∙ y)))

    pub leaf_none : (c : Context) (r : Totals) → (k ≡ 34 → ⊥) → (k ≡ 36 → ⊥) → (k ≡ 37 → ⊥) → r ≡ tally.no_tally → r ≡ rests_tally c here
    leaf_none c r f g h w =
        w ∙ sym (rests_leaf c here (below.is_leaf here (λ y. f (sym (kind_is l d at k z e) ∙ y)) (λ y. g (sym (kind_is l d at k z e) ∙ y)) (λ y. h (sym (kind_is l d at k z e) ∙ y))))

  -- a value that is no pattern by its kind adds nothing
  passed_none : (c : Context) (s : Place) (k : ℕ) → k ≡ byte_at l s.at → k ≤ 33 → tally.no_tally ≡ rests_tally c (node_here l s)
  passed_none c s k e h = elim (dec_lt 0 s.left) [
    | yes z ↦ leaf_none s.left s.at k (λ n. absurd (omega arith)) e c tally.no_tally (λ y. absurd (omega arith)) (λ y. absurd (omega arith)) (λ y. absurd (omega arith)) refl
    | no z ↦ rests_none c s.left s.at tally.no_tally (omega arith) refl
  ]

  pub value_passed : (left at d n i p q k : ℕ) (s : Place) (t : Totals) → i < n → s ≡ place_of d p (part_at l d p 1) → k ≡ byte_at l s.at → k ≤ 33 → q ≡ (look_node l d p).next → ValuesLeft left at d (n - i) p t → ValuesLeft left at d (n - (i + 1)) q t
  unfolding look_item
  value_passed left at d n i p q k s t z e a y g w c =
      sum_turn tallies l (λ q. rests_tally c (value q)) d false n i p q t tally.no_tally t _ z (passed_none c s k a y ∙ child_is l (rests_tally c) (rests_blank c) d p 1 s e) g (sym (w c).1) (w c)
