-- Patterns through a view: one level of an input pattern at a time.
-- Assumes nothing.
use mathlib.Core.Path.{◌≡◌, refl, sym, ap, ap₂, ◌∙◌}
use mathlib.Core.Bool.{Bool, true, false, cond, false≢true}
use mathlib.Core.List.{List, [], ◌∷◌}
use Prim.Native.Nat.{ℕ, max}
use native.Mathlib.Omega.{arith}
use lib.Dec.{eqb}
use Rattle.tree.specs.Tree.{Node, Fields, Piece, Items, wide_bytes, map_of, count, depth, depth_fields, depth_items}
use Rattle.tree.specs.Tree.Node.{node}
use Rattle.tree.specs.Tree.Fields.{done, absent, field}
use Rattle.tree.specs.Tree.Piece.{one, list, byte}
use Rattle.lowering.specs.Parts.{kind, is, piece_in, stands_in, change_in, drop_in, node_at_of, stands, change, on_node, on_items, change_node, without, each}
use Rattle.lowering.specs.Made.{Context, temporary, key_of}
use Rattle.lowering.specs.Patterns.{shape, key, with_values, replaced, replaced_below}
use Rattle.lowering.specs.Patterns.Shape.{object_pattern, array_pattern, default, leaf}
use Rattle.lowering.specs.Keys.{key_sort, kept_key, taken}
use Rattle.lowering.specs.Walk.{rule_of, opens_scope}
use Rattle.lowering.specs.Collect.{is_container}
use Rattle.lowering.proofs.Cases.{by_test, by_key, shape_34}
use Rattle.lowering.proofs.Levels.{values_agree, replaced_levels, each_agrees}
use Rattle.sink.specs.Machine.{Event}
use Rattle.direct.specs.Events.{Place, Emit, puts, cell, emits}
use Rattle.direct.specs.Events.Deed.{does}
use Rattle.direct.specs.Emit.{say, ◌▷◌, below, inner, emits_items, emits_piece, emits_parts, stays}
use Rattle.direct.specs.Views.{View, takes, object_at, object_rest_at, property_at, array_at, array_rest_at, default_at, viewed, viewed_property, nameless, each_does, says_cell, emits_view, emits_property, is_other, emits_key}
use Rattle.direct.specs.Views.View.{replacing, taking}
use Rattle.direct.proofs.Threads.{then_assoc, then_nothing}
use Rattle.direct.proofs.Alike.{Alike, alike_refl, key_kept}
use Rattle.direct.proofs.AlikePatterns.{replaced_alike, taken_alike, values_alike, shape_values}
use Rattle.direct.proofs.PathFree.{names_free}
use Rattle.direct.proofs.OneLevel.{emits_nowhere}
use Rattle.direct.proofs.MadeNodes.{say_then, below_inner, two_fields, three_fields, emits_temporary}
use Rattle.lowering.proofs.ItemLaws.{each_each, count_each}
use Rattle.lowering.proofs.ChangeLaws.{position_changed, node_on_twice}
use Rattle.direct.proofs.ListsInTurn.{items_each}

-- ---- pattern nodes by their bytes and their parts

pub emits_object_at : (c : Place) (at : ℕ) (ps : Items) → emits c (object_at at ps) ≡ say (puts (34 ∷ 1 ∷ wide_bytes (count ps))) ▷ emits_items false (inner c) ps
unfolding rule_of stays map_of is_container emits_piece emits_parts is opens_scope
emits_object_at c at ps =
    emits_nowhere c (object_at at ps) refl
    ∙ ap (λ (x : Emit). say (puts (34 ∷ 1 ∷ [])) ▷ x)
    (then_nothing (say (puts (wide_bytes (count ps))) ▷ emits_items false (below c (object_at at ps) 0) ps)
    ∙ ap (λ (d : ℕ → Place). say (puts (wide_bytes (count ps))) ▷ emits_items false (d 0) ps) (below_inner c (object_at at ps) (λ i. refl) refl refl))
    ∙ say_then (puts (34 ∷ 1 ∷ [])) (puts (wide_bytes (count ps))) (emits_items false (inner c) ps)

pub emits_array_at : (c : Place) (at : ℕ) (is : Items) → emits c (array_at at is) ≡ say (puts (36 ∷ 1 ∷ wide_bytes (count is))) ▷ emits_items false (inner c) is
unfolding rule_of stays map_of is_container emits_piece emits_parts is opens_scope
emits_array_at c at ps =
    emits_nowhere c (array_at at ps) refl
    ∙ ap (λ (x : Emit). say (puts (36 ∷ 1 ∷ [])) ▷ x)
    (then_nothing (say (puts (wide_bytes (count ps))) ▷ emits_items false (below c (array_at at ps) 0) ps)
    ∙ ap (λ (d : ℕ → Place). say (puts (wide_bytes (count ps))) ▷ emits_items false (d 0) ps) (below_inner c (array_at at ps) (λ i. refl) refl refl))
    ∙ say_then (puts (36 ∷ 1 ∷ [])) (puts (wide_bytes (count ps))) (emits_items false (inner c) ps)

pub emits_array_rest_at : (c : Place) (at : ℕ) (is : Items) (r : Node)
    → emits c (array_rest_at at is r) ≡ say (puts (36 ∷ 3 ∷ wide_bytes (count is))) ▷ emits_items false (inner c) is ▷ emits (inner c) r
unfolding rule_of stays map_of is_container emits_piece is opens_scope
emits_array_rest_at c at ps r =
    let n = array_rest_at at ps r in
    emits_nowhere c n refl
    ∙ ap (λ (x : Emit). say (puts (36 ∷ 3 ∷ [])) ▷ x)
    (two_fields false (below c n) (list ps) (one r)
    ∙ then_assoc (say (puts (wide_bytes (count ps)))) (emits_items false (below c n 0) ps) (emits (below c n 1) r)
    ∙ ap (λ (d : ℕ → Place). say (puts (wide_bytes (count ps))) ▷ emits_items false (d 0) ps ▷ emits (d 1) r) (below_inner c n (λ i. refl) refl refl))
    ∙ say_then (puts (36 ∷ 3 ∷ [])) (puts (wide_bytes (count ps))) (emits_items false (inner c) ps ▷ emits (inner c) r)

pub emits_default_at : (c : Place) (at : ℕ) (l r : Node) → emits c (default_at at l r) ≡ say (puts (37 ∷ 3 ∷ [])) ▷ emits (inner c) l ▷ emits (inner c) r
unfolding rule_of stays map_of is_container emits_piece is opens_scope
emits_default_at c at l r =
    let n = default_at at l r in
    emits_nowhere c n refl
    ∙ ap (λ (x : Emit). say (puts (37 ∷ 3 ∷ [])) ▷ x)
    (two_fields false (below c n) (one l) (one r)
    ∙ ap (λ (d : ℕ → Place). emits (d 0) l ▷ emits (d 1) r) (below_inner c n (λ i. refl) refl refl))

pub emits_property_at : (c : Place) (at : ℕ) (k v : Node) (b : ℕ)
    → emits c (property_at at k v b) ≡ say (puts (35 ∷ 7 ∷ [])) ▷ emits (inner c) k ▷ emits (inner c) v ▷ say (puts (b ∷ []))
unfolding rule_of stays map_of is_container emits_piece is opens_scope
emits_property_at c at k v b =
    let n = property_at at k v b in
    emits_nowhere c n refl
    ∙ ap (λ (x : Emit). say (puts (35 ∷ 7 ∷ [])) ▷ x)
    (three_fields false (below c n) (one k) (one v) (byte b)
    ∙ ap (λ (d : ℕ → Place). emits (d 0) k ▷ emits (d 1) v ▷ say (puts (b ∷ []))) (below_inner c n (λ i. refl) refl refl))

-- ---- properties and their keys

-- the value changed twice
pub value_twice : (f g : Node → Node) (q : Node) → change_node 1 f (change_node 1 g q) ≡ change_node 1 (λ n. f (g n)) q
unfolding change change_in
value_twice f g (node at k done) = refl
value_twice f g (node at k (absent done)) = refl
value_twice f g (node at k (absent (absent fs))) = refl
value_twice f g (node at k (absent (field p fs))) = ap (λ (x : Piece). node at k (absent (field x fs))) (node_on_twice f g p)
value_twice f g (node at k (field r done)) = refl
value_twice f g (node at k (field r (absent fs))) = refl
value_twice f g (node at k (field r (field p fs))) = ap (λ (x : Piece). node at k (field r (field x fs))) (node_on_twice f g p)

-- key and value changed in either order
swapped : (f g : Piece → Piece) (q : Node) → change 1 f (change 0 g q) ≡ change 0 g (change 1 f q)
unfolding change change_in
swapped f g (node at k done) = refl
swapped f g (node at k (absent done)) = refl
swapped f g (node at k (absent (absent fs))) = refl
swapped f g (node at k (absent (field p fs))) = refl
swapped f g (node at k (field r done)) = refl
swapped f g (node at k (field r (absent fs))) = refl
swapped f g (node at k (field r (field p fs))) = refl

leaf_34 : (p : Node) → shape p ≡ leaf → is 34 p ≡ false
unfolding shape is
leaf_34 p e = go (eqb (kind p) 34) (eqb (kind p) 36) (eqb (kind p) 37) e
  where
    go : (a b c : Bool) → cond a object_pattern (cond b array_pattern (cond c default leaf)) ≡ leaf → a ≡ false
    go true b c h = let z : ◌≡◌ {A = ℕ} 0 1 = cc in absurd (omega arith)
    go false b c h = refl

module _ (κ : Context) where
  pub kept_key_is : (q : Node) → kept_key κ q ≡ cond (is_other (key q)) (change_node 0 (λ k. key_of κ q) q) q
  unfolding kept_key is_other
  kept_key_is q =
      by_key (key_sort (key q)) (λ e. rw (e, kept_key, is_other) refl) (λ e. rw (e, kept_key, is_other) refl) (λ e. rw (e, kept_key, is_other) refl)
      (λ e. rw (e, kept_key, is_other) refl) (λ e. rw (e, kept_key, is_other) refl) (λ e. rw (e, kept_key, is_other) refl)

  -- the value of a property is changed before or after its key
  pub kept_value_lem : (f : Node → Node) (q : Node) → change_node 1 f (kept_key κ q) ≡ kept_key κ (change_node 1 f q)
  kept_value_lem f q =
      let r = change_node 1 f q in
      ap (λ (x : Node). change_node 1 f x) (kept_key_is q)
      ∙ go (is_other (key q))
      ∙ ap (λ (b : Bool). cond b (change_node 0 (λ k. key_of κ r) r) r) (ap is_other (sym (key_kept (on_node f) q)))
      ∙ sym (kept_key_is r)
    where
      go : (b : Bool) → change_node 1 f (cond b (change_node 0 (λ k. key_of κ q) q) q) ≡ cond b (change_node 0 (λ k. key_of κ (change_node 1 f q)) (change_node 1 f q)) (change_node 1 f q)
      go true =
          swapped (on_node f) (on_node (λ k. key_of κ q)) q
          ∙ ap (λ (x : ℕ). change_node 0 (λ k. temporary κ.path 4 x) (change_node 1 f q)) (sym (position_changed 1 (on_node f) q))
      go false = refl

  -- ---- objects with rest replaced

  replaced_object_at : (at : ℕ) (ps : Items) → replaced_below κ (object_at at ps) ≡ object_at at (each (λ q. change_node 1 (λ v. replaced_below κ v) q) ps)
  unfolding replaced shape depth stands stands_in change change_in on_items
  replaced_object_at at ps =
      values_agree (λ v. replaced κ (max (depth_items ps) 0) v) (λ v. replaced_below κ v) (max (depth_items ps) 0)
      (λ m l. replaced_levels (max (depth_items ps) 0) m l κ) (object_at at ps) (omega arith)

  replaced_rest_at : (at : ℕ) (ps : Items) (r : Node) → replaced_below κ (object_rest_at at ps r) ≡ temporary κ.path 1 at
  unfolding replaced shape depth stands stands_in
  replaced_rest_at at ps r = refl

  replaced_array_at : (at : ℕ) (is : Items) (fs : Fields) → replaced_below κ (node at 36 (field (list is) fs)) ≡ node at 36 (field (list (each (λ v. replaced_below κ v) is)) fs)
  unfolding replaced shape depth change change_in on_items
  replaced_array_at at is fs =
      let d = max (depth_items is) (depth_fields fs) in
      ap (λ (js : Items). node at 36 (field (list js) fs))
      (each_agrees (λ v. replaced κ d v) (λ v. replaced_below κ v) d (λ m l. replaced_levels d m l κ) is (omega arith))

  replaced_default_at : (at : ℕ) (l : Node) (fs : Fields) → replaced_below κ (node at 37 (field (one l) fs)) ≡ node at 37 (field (one (replaced_below κ l)) fs)
  unfolding replaced shape depth change change_in on_node
  replaced_default_at at l fs =
      ap (λ (x : Node). node at 37 (field (one x) fs)) (replaced_levels (max (depth l) (depth_fields fs)) l (omega arith) κ)

  pub replaced_leaf_at : (p : Node) → shape p ≡ leaf → replaced_below κ p ≡ p
  unfolding replaced depth
  replaced_leaf_at (node at k fs) e = rw (e, replaced) refl

  -- ---- rests taken

  pub taken_object : (at : ℕ) (ps : Items) → taken κ (object_at at ps) ≡ object_at at ps
  unfolding taken stands stands_in
  taken_object at ps = refl

  pub taken_rest : (at : ℕ) (ps : Items) (r : Node) → taken κ (object_rest_at at ps r) ≡ object_at at (each (kept_key κ) ps)
  unfolding taken stands stands_in without drop_in change change_in on_items
  taken_rest at ps r = refl

  pub values_object : (f : Node → Node) (at : ℕ) (ps : Items) → with_values f (object_at at ps) ≡ object_at at (each (λ q. change_node 1 f q) ps)
  unfolding change change_in on_items
  values_object f at ps = refl

  pub values_rest : (f : Node → Node) (at : ℕ) (ps : Items) (r : Node) → with_values f (object_rest_at at ps r) ≡ object_rest_at at (each (λ q. change_node 1 f q) ps) r
  unfolding change change_in on_items
  values_rest f at ps r = refl

  -- ---- the viewed node, one level

  pub viewed_object : (v : View) (at : ℕ) (ps : Items) → viewed κ v (object_at at ps) ≡ object_at at (each (viewed_property κ false replacing) ps)
  unfolding viewed viewed_property is
  viewed_object replacing at ps = replaced_object_at at ps
  viewed_object taking at ps =
      ap (taken κ) (values_object (λ v. replaced_below κ v) at ps) ∙ taken_object at (each (λ q. change_node 1 (λ v. replaced_below κ v) q) ps)

  pub viewed_replaced : (at : ℕ) (ps : Items) (r : Node) → viewed κ replacing (object_rest_at at ps r) ≡ temporary κ.path 1 at
  unfolding viewed
  viewed_replaced at ps r = replaced_rest_at at ps r

  pub viewed_rest : (v : View) → takes v ≡ true → (at : ℕ) (ps : Items) (r : Node)
      → viewed κ v (object_rest_at at ps r) ≡ object_at at (each (viewed_property κ true replacing) ps)
  unfolding viewed viewed_property is
  viewed_rest replacing h at ps r = absurd (false≢true h)
  viewed_rest taking h at ps r =
      let f : Node → Node = λ v. replaced_below κ v in
      ap (taken κ) (values_rest f at ps r)
      ∙ taken_rest at (each (λ q. change_node 1 f q) ps) r
      ∙ ap (object_at at) (each_each (kept_key κ) (λ q. change_node 1 f q) ps)

  pub viewed_array : (v : View) (at : ℕ) (is : Items) (fs : Fields)
      → viewed κ v (node at 36 (field (list is) fs)) ≡ node at 36 (field (list (each (viewed κ replacing) is)) fs)
  unfolding viewed is
  viewed_array replacing at is fs = replaced_array_at at is fs
  viewed_array taking at is fs = replaced_array_at at is fs

  pub viewed_default : (v : View) (at : ℕ) (l : Node) (fs : Fields)
      → viewed κ v (node at 37 (field (one l) fs)) ≡ node at 37 (field (one (viewed κ replacing l)) fs)
  unfolding viewed is
  viewed_default replacing at l fs = replaced_default_at at l fs
  viewed_default taking at l fs = replaced_default_at at l fs

  pub viewed_leaf : (v : View) (p : Node) → shape p ≡ leaf → viewed κ v p ≡ p
  unfolding viewed
  viewed_leaf replacing p e = replaced_leaf_at p e
  viewed_leaf taking p e = ap (λ (b : Bool). cond b (taken κ (with_values (λ v. replaced_below κ v) p)) (replaced_below κ p)) (leaf_34 p e) ∙ replaced_leaf_at p e

-- ---- the names of temporaries play no part

module _ (κ μ : Context) where
  pub viewed_alike : (v : View) (p : Node) → Alike false (viewed κ v p) (viewed μ v p)
  unfolding viewed
  viewed_alike replacing p = replaced_alike κ μ (alike_refl p)
  viewed_alike taking p =
      by_test (is 34 p)
      (λ e. rw e
      (taken_alike κ μ (shape_values (λ v. replaced_below κ v) p ∙ shape_34 p e)
      (values_alike (λ v. replaced_below κ v) (λ v. replaced_below μ v) (λ n m a. replaced_alike κ μ a) (alike_refl p))))
      (λ e. rw e (replaced_alike κ μ (alike_refl p)))

-- ---- what is done for a pattern, one level

cell_said : (stem at : ℕ) → says_cell stem at ≡ say (does (Event.temporary (cell stem at) stem) ∷ [])
unfolding says_cell
cell_said stem at = refl

module _ (c : Place) where
  pub emits_viewed : (κ : Context) (v : View) (p : Node) → emits c (viewed κ v p) ≡ emits_view c v p
  unfolding emits_view
  emits_viewed κ v p = names_free c (viewed κ v p) (viewed nameless v p) (viewed_alike κ nameless v p)

  pub says_cell_lem : (path : List ℕ) (stem at : ℕ) → emits c (temporary path stem at) ≡ says_cell stem at
  unfolding says_cell
  says_cell_lem path stem at = emits_temporary c path stem at

  properties_done : (t : Bool) (v : View) (at : ℕ) (ps : Items)
      → emits c (object_at at (each (viewed_property nameless t v) ps)) ≡ say (puts (34 ∷ 1 ∷ wide_bytes (count ps))) ▷ each_does (emits_property (inner c) t v) ps
  unfolding emits_property
  properties_done t v at ps =
      emits_object_at c at (each (viewed_property nameless t v) ps)
      ∙ ap₂ (λ (n : ℕ) (e : Emit). say (puts (34 ∷ 1 ∷ wide_bytes n)) ▷ e) (count_each (viewed_property nameless t v) ps) (items_each (inner c) (viewed_property nameless t v) ps)

  -- an object without rest
  pub view_object : (v : View) (at : ℕ) (ps : Items)
      → emits_view c v (object_at at ps) ≡ say (puts (34 ∷ 1 ∷ wide_bytes (count ps))) ▷ each_does (emits_property (inner c) false replacing) ps
  unfolding emits_view
  view_object v at ps = ap (emits c) (viewed_object nameless v at ps) ∙ properties_done false replacing at ps

  -- one with rest: replaced, or without its rest
  pub view_replaced : (at : ℕ) (ps : Items) (r : Node) → emits_view c replacing (object_rest_at at ps r) ≡ says_cell 1 at
  unfolding emits_view
  view_replaced at ps r = ap (emits c) (viewed_replaced nameless at ps r) ∙ says_cell_lem [] 1 at

  pub view_rest : (v : View) → takes v ≡ true → (at : ℕ) (ps : Items) (r : Node)
      → emits_view c v (object_rest_at at ps r) ≡ say (puts (34 ∷ 1 ∷ wide_bytes (count ps))) ▷ each_does (emits_property (inner c) true replacing) ps
  unfolding emits_view
  view_rest v h at ps r = ap (emits c) (viewed_rest nameless v h at ps r) ∙ properties_done true replacing at ps

  -- an array; its rest as it stands
  pub view_array : (v : View) (at : ℕ) (is : Items)
      → emits_view c v (array_at at is) ≡ say (puts (36 ∷ 1 ∷ wide_bytes (count is))) ▷ each_does (emits_view (inner c) replacing) is
  unfolding emits_view
  view_array v at is =
      ap (emits c) (viewed_array nameless v at is (absent done))
      ∙ emits_array_at c at (each (viewed nameless replacing) is)
      ∙ ap₂ (λ (n : ℕ) (e : Emit). say (puts (36 ∷ 1 ∷ wide_bytes n)) ▷ e) (count_each (viewed nameless replacing) is) (items_each (inner c) (viewed nameless replacing) is)

  pub view_array_rest : (v : View) (at : ℕ) (is : Items) (r : Node)
      → emits_view c v (array_rest_at at is r) ≡ say (puts (36 ∷ 3 ∷ wide_bytes (count is))) ▷ each_does (emits_view (inner c) replacing) is ▷ emits (inner c) r
  unfolding emits_view
  view_array_rest v at is r =
      ap (emits c) (viewed_array nameless v at is (field (one r) done))
      ∙ emits_array_rest_at c at (each (viewed nameless replacing) is) r
      ∙ ap₂ (λ (n : ℕ) (e : Emit). say (puts (36 ∷ 3 ∷ wide_bytes n)) ▷ e ▷ emits (inner c) r) (count_each (viewed nameless replacing) is) (items_each (inner c) (viewed nameless replacing) is)

  -- a default
  pub view_default : (v : View) (at : ℕ) (l r : Node)
      → emits_view c v (default_at at l r) ≡ say (puts (37 ∷ 3 ∷ [])) ▷ emits_view (inner c) replacing l ▷ emits (inner c) r
  unfolding emits_view
  view_default v at l r =
      ap (emits c) (viewed_default nameless v at l (field (one r) done)) ∙ emits_default_at c at (viewed nameless replacing l) r

  -- anything else
  pub view_leaf : (v : View) (p : Node) → shape p ≡ leaf → emits_view c v p ≡ emits c p
  unfolding emits_view
  view_leaf v p e = ap (emits c) (viewed_leaf nameless v p e)

  -- a property: its key, which may have become a temporary, and its value
  pub view_property : (t : Bool) (v : View) (at : ℕ) (k x : Node) (b : ℕ)
      → emits_property c t v (property_at at k x b)
      ≡ say (puts (35 ∷ 7 ∷ [])) ▷ emits_key (inner c) t at k ▷ emits_view (inner c) v x ▷ say (puts (b ∷ []))
  unfolding emits_property emits_view emits_key viewed_property change change_in on_node node_at_of piece_in
  view_property true v at k x b =
      ap (emits c) (kept_key_is nameless (property_at at k (viewed nameless v x) b)) ∙ go (is_other k)
    where
      go : (o : Bool) → emits c (cond o (property_at at (temporary [] 4 at) (viewed nameless v x) b) (property_at at k (viewed nameless v x) b))
          ≡ say (puts (35 ∷ 7 ∷ [])) ▷ cond o (says_cell 4 at) (emits (inner c) k) ▷ emits (inner c) (viewed nameless v x) ▷ say (puts (b ∷ []))
      go true =
          emits_property_at c at (temporary [] 4 at) (viewed nameless v x) b
          ∙ ap (λ (e : Emit). say (puts (35 ∷ 7 ∷ [])) ▷ e ▷ emits (inner c) (viewed nameless v x) ▷ say (puts (b ∷ []))) (emits_temporary (inner c) [] 4 at ∙ sym (cell_said 4 at))
      go false = emits_property_at c at k (viewed nameless v x) b
  view_property false v at k x b = emits_property_at c at k (viewed nameless v x) b
