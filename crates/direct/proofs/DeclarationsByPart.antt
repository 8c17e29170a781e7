-- Declarations, declarator by declarator.
-- Assumes nothing.
use mathlib.Core.Path.{◌≡◌, refl, sym, ap, ap₂, ◌∙◌}
use mathlib.Core.Bool.{Bool, true, false, cond}
use mathlib.Core.List.{[], ◌∷◌, ◌++◌}
use Prim.Native.Nat.{ℕ, ◌≤◌, max, zero, suc, ◌<◌}
use native.Mathlib.Omega.{arith}
use Rattle.tree.specs.Tree.{Node, Fields, Piece, Items, wide_bytes, count, depth, depth_fields, depth_items}
use Rattle.tree.specs.Tree.Node.{node}
use Rattle.tree.specs.Tree.Fields.{done, absent, field}
use Rattle.tree.specs.Tree.Piece.{one, list}
use Rattle.lowering.specs.Parts.{nothing, position, is, piece_in, stands_in, change_in, node_at_of, items_at_of, stands, is_empty, change, on_node, on_items, change_node, change_items, only, each, gather, ◌+++◌}
use Rattle.lowering.specs.Made.{Context, declares, reference, value_of, key_of}
use Rattle.lowering.specs.Patterns.{shape, properties, key, value, rest, has_rest_of, with_values, replaced, replaced_below}
use Rattle.lowering.specs.Patterns.Shape.{object_pattern, array_pattern, leaf}
use Rattle.lowering.specs.Keys.{key_temporary, key_temporaries, taken}
use Rattle.lowering.specs.Rests.{rest_value}
use Rattle.lowering.specs.Declarations.{is_name_of, source, source_declarator, keys_before, pattern_declarator, rest_declarator, own, nested, nested_below, object_declarators, pattern_declarators, lower_declarator, is_lowered, declarators, declaration, declaration_makes, declaration_excludes, declaration_refusal}
use Rattle.lowering.specs.Walk.{rewrite, refuse, step_declaration}
use Rattle.lowering.proofs.Cases.{by_test, by_shape, object_is, rule_4}
use Rattle.lowering.proofs.Levels.{gather_agrees, node_in, values_agree, replaced_levels, nested_levels, nested_nothing}
use Rattle.lowering.proofs.WeightKeys.{rest_changed}
use Rattle.direct.specs.Events.{Place, Emit, puts, marks, refused, context_of, emits}
use Rattle.direct.specs.Emit.{say, ◌▷◌, inner, emits_items, stays, in_turn}
use Rattle.direct.specs.Views.{object_at, object_rest_at, viewed, says_cell, emits_view, is_other}
use Rattle.direct.specs.Views.View.{replacing, taking}
use Rattle.direct.specs.Keys.{emits_rest}
use Rattle.direct.specs.Handed.{declarator_made, declarator_excludes}
use Rattle.direct.specs.Declared.{declaration_at, emits_key_value, emits_own_keys, emits_own_pattern, emits_own_rest, emits_found, emits_pattern, emits_lowered, emits_declarator, declarator_count}
use Rattle.direct.proofs.Threads.{then_assoc, say_nothing}
use Rattle.direct.proofs.Alike.{key_kept}
use Rattle.direct.proofs.OneLevel.{emits_as, emits_refused}
use Rattle.direct.proofs.MadeNodes.{only_item, no_items, emits_declares, stays_declaration}
use Rattle.direct.proofs.ListsInTurn.{turn_same, items_append, items_gather}
use Rattle.direct.proofs.ViewedPatterns.{emits_viewed, says_cell_lem}
use Rattle.direct.proofs.RestValues.{does_each, rest_value_lem, rest_values}
use Rattle.direct.proofs.HandedByObject.{key_temporary_is, declaration_handed}
use Rattle.lowering.proofs.ItemLaws.{empty_each}
use Rattle.lowering.proofs.ChangeLaws.{position_changed, each_on}

-- ---- an object with its values changed

pub properties_changed : (f : Node → Node) (p : Node) → properties (change_items 0 (each f) p) ≡ each f (properties p)
unfolding items_at_of change change_in piece_in each
properties_changed f (node at k done) = refl
properties_changed f (node at k (absent fs)) = refl
properties_changed f (node at k (field p fs)) = each_on f p

pub rest_beside : (f : Piece → Piece) (p : Node) → rest (change 0 f p) ≡ rest p
unfolding node_at_of change change_in piece_in
rest_beside f (node at k done) = refl
rest_beside f (node at k (absent fs)) = refl
rest_beside f (node at k (field p fs)) = refl

pub inner_inner : (c : Place) → inner (inner c) ≡ inner c
unfolding inner
inner_inner c = refl

root_inner : (c : Place) → c.root ≡ (inner c).root
unfolding inner
root_inner c = refl

module _ (c : Place) where
  declares_done : (id init : Node) → emits_items false (inner c) (only (declares id init)) ≡ say (puts (5 ∷ 3 ∷ [])) ▷ emits (inner c) id ▷ emits (inner c) init
  declares_done id init =
      only_item (inner c) (declares id init)
      ∙ emits_declares (inner c) id init
      ∙ ap (λ (d : Place). say (puts (5 ∷ 3 ∷ [])) ▷ emits d id ▷ emits d init) (inner_inner c)

  key_value_done : (κ : Context) (q : Node) → emits_items false (inner c) (key_temporary κ q) ≡ emits_key_value c q
  unfolding emits_key_value
  key_value_done κ q = ap (emits_items false (inner c)) (key_temporary_is κ q) ∙ go (is_other (key q))
    where
      go : (b : Bool) → emits_items false (inner c) (cond b (only (declares (key_of κ q) (key q))) Items.none)
          ≡ cond b (say (puts (5 ∷ 3 ∷ [])) ▷ says_cell 4 (position q) ▷ emits (inner c) (key q)) (say [])
      go true =
          declares_done (key_of κ q) (key q)
          ∙ ap (λ (e : Emit). say (puts (5 ∷ 3 ∷ [])) ▷ e ▷ emits (inner c) (key q)) (says_cell_lem (inner c) κ.path 4 (position q))
      go false = no_items false (inner c)

  key_value_kept : (g : Node → Node) (q : Node) → emits_key_value c (change_node 1 g q) ≡ emits_key_value c q
  unfolding emits_key_value
  key_value_kept g q =
      ap₂ (λ (at : ℕ) (k : Node). cond (is_other k) (say (puts (5 ∷ 3 ∷ [])) ▷ says_cell 4 at ▷ emits (inner c) k) (say []))
      (position_changed 1 (on_node g) q) (key_kept (on_node g) q)

  module _ (κ : Context) (rooted : κ.root ≡ c.root) (g : Node → Node) (p : Node) where
    own_keys : emits_items false (inner c) (keys_before κ (with_values g p)) ≡ emits_own_keys c p
    unfolding keys_before emits_own_keys key_temporaries
    own_keys =
        let h : Node → Node = λ q. change_node 1 g q in
        ap₂ (λ (b : Bool) (qs : Items). emits_items false (inner c) (cond b (gather (key_temporary κ) qs) Items.none)) (rest_changed 0 (on_items (each h)) p) (properties_changed h p)
        ∙ go (has_rest_of p)
      where
        go : (b : Bool) → emits_items false (inner c) (cond b (gather (key_temporary κ) (each (λ q. change_node 1 g q) (properties p))) Items.none)
            ≡ cond b (in_turn (emits_key_value c) (properties p)) (say [])
        go true =
            items_gather false (inner c) (key_temporary κ) (each (λ q. change_node 1 g q) (properties p))
            ∙ turn_same (λ q. emits_items false (inner c) (key_temporary κ q)) (emits_key_value c) (λ q. key_value_done κ q) (each (λ q. change_node 1 g q) (properties p))
            ∙ does_each (emits_key_value c) (λ q. change_node 1 g q) (λ q. key_value_kept g q) (properties p)
        go false = no_items false (inner c)

    own_rest : (s : Node) → emits_items false (inner c) (rest_declarator κ (with_values g p) s) ≡ emits_own_rest c p (emits (inner c) s)
    unfolding rest_declarator emits_own_rest
    own_rest s =
        let h : Node → Node = λ q. change_node 1 g q in
        let q = with_values g p in
        ap₂ (λ (b : Bool) (r : Node). emits_items false (inner c) (cond b (only (declares r (rest_value κ q s))) Items.none)) (rest_changed 0 (on_items (each h)) p) (rest_beside (on_items (each h)) p)
        ∙ go (has_rest_of p)
      where
        value_done : emits (inner c) (rest_value κ (with_values g p) s) ≡ emits_rest (inner c) (position p) (properties p) (emits (inner c) s)
        value_done =
            rest_value_lem (inner c) κ (with_values g p) s (rooted ∙ root_inner c)
            ∙ ap₂ (λ (at : ℕ) (qs : Items). emits_rest (inner c) at qs (emits (inner (inner c)) s)) (position_changed 0 (on_items (each (λ q. change_node 1 g q))) p) (properties_changed (λ q. change_node 1 g q) p)
            ∙ ap (λ (d : Place). emits_rest (inner c) (position p) (each (λ q. change_node 1 g q) (properties p)) (emits d s)) (inner_inner c)
            ∙ rest_values g (inner c) (position p) (properties p) (emits (inner c) s)

        go : (b : Bool) → emits_items false (inner c) (cond b (only (declares (rest p) (rest_value κ (with_values g p) s))) Items.none)
            ≡ cond b (say (puts (5 ∷ 3 ∷ [])) ▷ emits (inner c) (rest p) ▷ emits_rest (inner c) (position p) (properties p) (emits (inner c) s)) (say [])
        go true =
            declares_done (rest p) (rest_value κ (with_values g p) s)
            ∙ ap (λ (e : Emit). say (puts (5 ∷ 3 ∷ [])) ▷ emits (inner c) (rest p) ▷ e) value_done
        go false = no_items false (inner c)

  taking_is : (κ : Context) (p : Node) → is 34 p ≡ true → viewed κ taking p ≡ taken κ (with_values (λ v. replaced_below κ v) p)
  unfolding viewed
  taking_is κ p e = rw e refl

  own_pattern : (κ : Context) (p s : Node) → is 34 p ≡ true
      → emits_items false (inner c) (pattern_declarator κ (with_values (λ v. replaced_below κ v) p) s) ≡ emits_own_pattern c p (emits (inner c) s)
  unfolding pattern_declarator emits_own_pattern
  own_pattern κ p s k =
      let h : Node → Node = λ q. change_node 1 (λ v. replaced_below κ v) q in
      ap₂ (λ (b : Bool) (t : Node). emits_items false (inner c) (cond b Items.none (only (declares t s))))
      (ap is_empty (properties_changed h p) ∙ empty_each h (properties p)) (sym (taking_is κ p k))
      ∙ go (is_empty (properties p))
    where
      go : (b : Bool) → emits_items false (inner c) (cond b Items.none (only (declares (viewed κ taking p) s)))
          ≡ cond b (say []) (say (puts (5 ∷ 3 ∷ [])) ▷ emits_view (inner c) taking p ▷ emits (inner c) s)
      go true = no_items false (inner c)
      go false =
          declares_done (viewed κ taking p) s
          ∙ ap (λ (e : Emit). say (puts (5 ∷ 3 ∷ [])) ▷ e ▷ emits (inner c) s) (emits_viewed (inner c) κ taking p)

-- ---- what is found below a pattern, as lists

module _ (κ : Context) where
  found_value_lem : (d : ℕ) (q : Node) → depth q ≤ d → nested κ d (value q) ≡ nested_below κ (value q)
  found_value_lem d q l =
      node_in (λ m. nested κ d m) (λ m. nested_below κ m) d (λ m h. nested_levels d m h κ)
      (nested_nothing κ d ∙ sym (nested_nothing κ (depth nothing))) 1 q (omega arith)

  pub nested_object : (at : ℕ) (ps : Items) → nested_below κ (object_at at ps) ≡ gather (λ q. nested_below κ (value q)) ps
  unfolding nested shape depth stands stands_in items_at_of piece_in ◌+++◌
  nested_object at ps =
      let d = max (depth_items ps) 0 in
      gather_agrees (λ q. nested κ d (value q)) (λ q. nested_below κ (value q)) d (λ q l. found_value_lem d q l) ps (omega arith)

  pub nested_rest : (at : ℕ) (ps : Items) (r : Node)
      → nested_below κ (object_rest_at at ps r)
      ≡ own κ (with_values (λ v. replaced_below κ v) (object_rest_at at ps r)) (reference κ (object_rest_at at ps r)) +++ gather (λ q. nested_below κ (value q)) ps
  unfolding nested shape depth stands stands_in items_at_of piece_in
  nested_rest at ps r =
      let d = max (depth_items ps) (max (depth r) 0) in
      ap₂ (λ (x : Node) (y : Items). own κ x (reference κ (object_rest_at at ps r)) +++ y)
      (values_agree (λ v. replaced κ d v) (λ v. replaced_below κ v) d (λ m l. replaced_levels d m l κ) (object_rest_at at ps r) (omega arith))
      (gather_agrees (λ q. nested κ d (value q)) (λ q. nested_below κ (value q)) d (λ q l. found_value_lem d q l) ps (omega arith))

  pub nested_array : (at : ℕ) (is : Items) (fs : Fields) → nested_below κ (node at 36 (field (list is) fs)) ≡ gather (λ n. nested_below κ n) is
  unfolding nested shape depth items_at_of piece_in
  nested_array at is fs =
      let d = max (depth_items is) (depth_fields fs) in
      gather_agrees (λ n. nested κ d n) (λ n. nested_below κ n) d (λ m l. nested_levels d m l κ) is (omega arith)

  pub nested_default : (at : ℕ) (l : Node) (fs : Fields) → nested_below κ (node at 37 (field (one l) fs)) ≡ nested_below κ l
  unfolding nested shape depth node_at_of piece_in
  nested_default at l fs = nested_levels (max (depth l) (depth_fields fs)) l (omega arith) κ

  pub nested_leaf : (p : Node) → shape p ≡ leaf → nested_below κ p ≡ Items.none
  unfolding nested depth
  nested_leaf (node at k fs) e = rw (e, nested) refl

-- ---- and what is done for it, one level

pub items_at : (at m b : ℕ) (ds : Items) → items_at_of 2 (declaration_at at m b ds) ≡ ds
unfolding items_at_of piece_in
items_at at m b ds = refl

module _ (c : Place) where
  -- an object's own declarators, read from s
  pub own_done : (p s : Node) → is 34 p ≡ true
      → emits_items false (inner c) (own (context_of c) (with_values (λ v. replaced_below (context_of c) v) p) s)
      ≡ emits_own_keys c p ▷ emits_own_pattern c p (emits (inner c) s) ▷ emits_own_rest c p (emits (inner c) s)
  unfolding own
  own_done p s k =
      let κ = context_of c in
      let g : Node → Node = λ v. replaced_below (context_of c) v in
      let q = with_values g p in
      items_append false (inner c) (keys_before κ q) (pattern_declarator κ q s +++ rest_declarator κ q s)
      ∙ ap₂ (λ (e f : Emit). e ▷ f) (own_keys c κ refl g p)
      (items_append false (inner c) (pattern_declarator κ q s) (rest_declarator κ q s)
      ∙ ap₂ (λ (e f : Emit). e ▷ f) (own_pattern c κ p s k) (own_rest c κ refl g p s))

  found_gather : (ps : Items) → emits_items false (inner c) (gather (λ q. nested_below (context_of c) (value q)) ps) ≡ in_turn (λ q. emits_found c (value q)) ps
  unfolding emits_found
  found_gather ps = items_gather false (inner c) (λ q. nested_below (context_of c) (value q)) ps

  -- below an object without rest; one with rest: its own before those inside it
  pub found_object : (at : ℕ) (ps : Items) → emits_found c (object_at at ps) ≡ in_turn (λ q. emits_found c (value q)) ps
  unfolding emits_found
  found_object at ps = ap (emits_items false (inner c)) (nested_object (context_of c) at ps) ∙ found_gather ps

  pub found_rest : (at : ℕ) (ps : Items) (r : Node)
      → emits_found c (object_rest_at at ps r)
      ≡ emits_own_keys c (object_rest_at at ps r)
      ▷ emits_own_pattern c (object_rest_at at ps r) (says_cell 1 at)
      ▷ emits_own_rest c (object_rest_at at ps r) (says_cell 1 at)
      ▷ in_turn (λ q. emits_found c (value q)) ps
  unfolding emits_found is
  found_rest at ps r =
      let κ = context_of c in
      let p = object_rest_at at ps r in
      let xs = own κ (with_values (λ v. replaced_below (context_of c) v) p) (reference κ p) in
      let k = emits_own_keys c p in
      let f = in_turn (λ q. emits_found c (value q)) ps in
      ap (emits_items false (inner c)) (nested_rest κ at ps r)
      ∙ items_append false (inner c) xs (gather (λ q. nested_below κ (value q)) ps)
      ∙ ap₂ (λ (e d : Emit). e ▷ d) (own_done p (reference κ p) refl) (found_gather ps)
      ∙ ap (λ (s : Emit). (k ▷ emits_own_pattern c p s ▷ emits_own_rest c p s) ▷ f) (says_cell_lem (inner c) [] 1 at)
      ∙ then_assoc k (emits_own_pattern c p (says_cell 1 at) ▷ emits_own_rest c p (says_cell 1 at)) f
      ∙ ap (λ (e : Emit). k ▷ e) (then_assoc (emits_own_pattern c p (says_cell 1 at)) (emits_own_rest c p (says_cell 1 at)) f)

  pub found_array : (at : ℕ) (is : Items) (fs : Fields) → emits_found c (node at 36 (field (list is) fs)) ≡ in_turn (emits_found c) is
  unfolding emits_found
  found_array at is fs = ap (emits_items false (inner c)) (nested_array (context_of c) at is fs) ∙ items_gather false (inner c) (λ n. nested_below (context_of c) n) is

  pub found_default : (at : ℕ) (l : Node) (fs : Fields) → emits_found c (node at 37 (field (one l) fs)) ≡ emits_found c l
  unfolding emits_found
  found_default at l fs = ap (emits_items false (inner c)) (nested_default (context_of c) at l fs)

  pub found_leaf : (p : Node) → shape p ≡ leaf → emits_found c p ≡ say []
  unfolding emits_found
  found_leaf p e = ap (emits_items false (inner c)) (nested_leaf (context_of c) p e) ∙ no_items false (inner c)

  -- ---- the declarators of a pattern

  object_done : (p s : Node) → is 34 p ≡ true
      → emits_items false (inner c) (object_declarators (context_of c) p s)
      ≡ emits_own_keys c p ▷ emits_own_pattern c p (emits (inner c) s) ▷ in_turn (λ q. emits_found c (value q)) (properties p) ▷ emits_own_rest c p (emits (inner c) s)
  unfolding object_declarators
  object_done p s k =
      let κ = context_of c in
      let g : Node → Node = λ v. replaced_below (context_of c) v in
      let q = with_values g p in
      let f = gather (λ r. nested_below κ (value r)) (properties p) in
      items_append false (inner c) (keys_before κ q) (pattern_declarator κ q s +++ f +++ rest_declarator κ q s)
      ∙ ap₂ (λ (x y : Emit). x ▷ y) (own_keys c κ refl g p)
      (items_append false (inner c) (pattern_declarator κ q s) (f +++ rest_declarator κ q s)
      ∙ ap₂ (λ (x y : Emit). x ▷ y) (own_pattern c κ p s k)
      (items_append false (inner c) f (rest_declarator κ q s)
      ∙ ap₂ (λ (x y : Emit). x ▷ y) (found_gather (properties p)) (own_rest c κ refl g p s)))

  array_done : (p s : Node)
      → emits_items false (inner c) (only (declares (replaced_below (context_of c) p) s) +++ nested_below (context_of c) p)
      ≡ say (puts (5 ∷ 3 ∷ [])) ▷ emits_view (inner c) replacing p ▷ emits (inner c) s ▷ emits_found c p
  unfolding emits_found viewed
  array_done p s =
      let κ = context_of c in
      let f = emits_items false (inner c) (nested_below κ p) in
      let h = say (puts (5 ∷ 3 ∷ [])) in
      let e = emits_view (inner c) replacing p in
      items_append false (inner c) (only (declares (replaced_below κ p) s)) (nested_below κ p)
      ∙ ap (λ (x : Emit). x ▷ f) (declares_done c (replaced_below κ p) s ∙ ap (λ (x : Emit). h ▷ x ▷ emits (inner c) s) (emits_viewed (inner c) κ replacing p))
      ∙ then_assoc h (e ▷ emits (inner c) s) f
      ∙ ap (λ (x : Emit). h ▷ x) (then_assoc e (emits (inner c) s) f)

  pub pattern_done : (p s : Node) → emits_items false (inner c) (pattern_declarators (context_of c) p s) ≡ emits_pattern c p (emits (inner c) s)
  unfolding pattern_declarators emits_pattern
  pattern_done p s =
      by_shape (shape p)
      (λ e. rw (e, pattern_declarators, emits_pattern) (object_done p s (object_is p e)))
      (λ e. rw (e, pattern_declarators, emits_pattern) (array_done p s))
      (λ e. rw (e, pattern_declarators, emits_pattern) (no_items false (inner c)))
      (λ e. rw (e, pattern_declarators, emits_pattern) (no_items false (inner c)))

  -- one way each
  pub pattern_object : (p : Node) (s : Emit) → shape p ≡ object_pattern
      → emits_pattern c p s ≡ emits_own_keys c p ▷ emits_own_pattern c p s ▷ in_turn (λ q. emits_found c (value q)) (properties p) ▷ emits_own_rest c p s
  unfolding emits_pattern
  pattern_object p s e = rw (e, emits_pattern) refl

  pub pattern_array : (p : Node) (s : Emit) → shape p ≡ array_pattern
      → emits_pattern c p s ≡ say (puts (5 ∷ 3 ∷ [])) ▷ emits_view (inner c) replacing p ▷ s ▷ emits_found c p
  unfolding emits_pattern
  pattern_array p s e = rw (e, emits_pattern) refl

  pub lowered_done : (p init : Node) → emits_items false (inner c) (lower_declarator (context_of c) p init) ≡ emits_lowered c p init
  unfolding lower_declarator emits_lowered source source_declarator
  lowered_done p init = go (is_name_of init)
    where
      go : (b : Bool) → emits_items false (inner c) (cond b Items.none (only (declares (value_of (context_of c) p) init)) +++ pattern_declarators (context_of c) p (cond b init (value_of (context_of c) p)))
          ≡ cond b (emits_pattern c p (emits (inner c) init)) (say (puts (5 ∷ 3 ∷ [])) ▷ says_cell 3 (position p) ▷ emits (inner c) init ▷ emits_pattern c p (says_cell 3 (position p)))
      go true = items_append false (inner c) Items.none (pattern_declarators (context_of c) p init) ∙ ap₂ (λ (x y : Emit). x ▷ y) (no_items false (inner c)) (pattern_done p init) ∙ say_nothing (emits_pattern c p (emits (inner c) init))
      go false =
          let t = value_of (context_of c) p in
          let h = say (puts (5 ∷ 3 ∷ [])) in
          items_append false (inner c) (only (declares t init)) (pattern_declarators (context_of c) p t)
          ∙ ap₂ (λ (x y : Emit). x ▷ y) (declares_done c t init) (pattern_done p t)
          ∙ ap (λ (x : Emit). (h ▷ x ▷ emits (inner c) init) ▷ emits_pattern c p x) (says_cell_lem (inner c) [] 3 (position p))
          ∙ then_assoc h (says_cell 3 (position p) ▷ emits (inner c) init) (emits_pattern c p (says_cell 3 (position p)))
          ∙ ap (λ (x : Emit). h ▷ x) (then_assoc (says_cell 3 (position p)) (emits (inner c) init) (emits_pattern c p (says_cell 3 (position p))))

  pub declarator_done : (d : Node) → emits_items false (inner c) (declarators (context_of c) d) ≡ emits_declarator c d
  unfolding declarators emits_declarator
  declarator_done d =
      by_test (is_lowered d) (λ e. rw e (lowered_done (node_at_of 0 d) (node_at_of 1 d))) (λ e. rw e (only_item (inner c) d))

  -- ---- the declaration

  step_declares : (n : Node) → is 4 n ≡ true → declaration_refusal (context_of c) n ≡ 0
      → rewrite (context_of c) n ≡ record { note = record { refusal = 0; made = declaration_makes (context_of c) n; entry = Items.none; excluded = declaration_excludes (context_of c) n }; result = declaration (context_of c) n }
  unfolding rewrite step_declaration
  step_declares n k h = rw (rule_4 n k, rewrite, h, step_declaration) refl

  step_refuses : (n : Node) (r : ℕ) → is 4 n ≡ true → 0 < r → declaration_refusal (context_of c) n ≡ r → rewrite (context_of c) n ≡ refuse r
  unfolding rewrite step_declaration
  step_refuses n zero k z h = absurd (omega arith)
  step_refuses n (suc r) k z h = rw (rule_4 n k, rewrite, h, step_declaration) refl

  -- a key that is refused
  pub declaration_refused : (n : Node) (r : ℕ) → is 4 n ≡ true → 0 < r → declaration_refusal (context_of c) n ≡ r → emits c n ≡ say (refused r ++ puts (0 ∷ 0 ∷ []))
  declaration_refused n r k z h = emits_refused c n r (step_refuses n r k z h)

  declaration_at_lem : (at m b : ℕ) (ds : Items) → declaration (context_of c) (declaration_at at m b ds) ≡ declaration_at at m b (gather (declarators (context_of c)) ds)
  unfolding declaration change change_in on_items
  declaration_at_lem at m b ds = refl

  pub declaration_done : (at m b : ℕ) (ds : Items) → declaration_refusal (context_of c) (declaration_at at m b ds) ≡ 0
      → emits c (declaration_at at m b ds)
      ≡ in_turn declarator_made ds
      ▷ in_turn (declarator_excludes c.root) ds
      ▷ say (puts (4 ∷ 7 ∷ []) ++ (marks m ++ puts (b ∷ wide_bytes (declarator_count c ds))))
      ▷ in_turn (emits_declarator c) ds
  unfolding is declarator_count
  declaration_done at m b ds h =
      let κ = context_of c in
      let n = declaration_at at m b ds in
      let xs = gather (declarators κ) ds in
      let head = say (puts (4 ∷ 7 ∷ []) ++ (marks m ++ puts (b ∷ wide_bytes (count xs)))) in
      let tail = head ▷ in_turn (emits_declarator c) ds in
      emits_as c n (record { note = record { refusal = 0; made = declaration_makes (context_of c) n; entry = Items.none; excluded = declaration_excludes (context_of c) n }; result = declaration (context_of c) n }) (step_declares n refl h)
      ∙ ap₂ (λ (x y : Emit). x ▷ y)
      (declaration_handed κ refl c.mark n ∙ ap (λ (is : Items). in_turn declarator_made is ▷ in_turn (declarator_excludes c.root) is) (items_at at m b ds))
      (ap (stays c) (declaration_at_lem at m b ds)
      ∙ stays_declaration c at m b xs
      ∙ ap (λ (x : Emit). head ▷ x) (items_gather false (inner c) (declarators κ) ds ∙ turn_same (λ d. emits_items false (inner c) (declarators κ d)) (emits_declarator c) declarator_done ds))
      ∙ then_assoc (in_turn declarator_made ds) (in_turn (declarator_excludes c.root) ds) tail
