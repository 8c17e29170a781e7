-- Patterns that are moved out, and the Params and Declarators that they stand in.
-- Assumes nothing.
use mathlib.Core.Path.{◌≡◌, refl, ap, ap₂, ◌∙◌, fun_ext}
use mathlib.Core.Bool.{true, false, cond}
use mathlib.Core.List.{[], ◌∷◌, ◌++◌}
use Prim.Native.Nat.{ℕ, zero, suc, ◌≤◌}
use native.Mathlib.Omega.{arith}
use borrow.Author.Tests.{eqb-true}
use Rattle.tree.specs.Tree.{Node, Fields, Piece, Items, wide_bytes, map_of, count, depth, depth_fields, depth_items}
use Rattle.tree.specs.Tree.Node.{node}
use Rattle.lowering.specs.Parts.{position, is, piece_in, node_at_of, change, change_in, on_node, on_items, each}
use Rattle.lowering.specs.Patterns.{shape, with_items, with_rest, has_object_rest}
use Rattle.lowering.specs.Patterns.Shape.{object_pattern, default, leaf}
use Rattle.lowering.specs.Heads.{moved_out_of, is_moved, left_behind}
use Rattle.lowering.specs.Walk.{rule_of, opens_scope}
use Rattle.lowering.specs.Collect.{is_container}
use Rattle.lowering.proofs.Cases.{by_shape}
use Rattle.lowering.proofs.Levels.{moved_out_levels}
use Rattle.direct.specs.Events.{Place, Emit, puts, context_of, emits}
use Rattle.direct.specs.Emit.{say, ◌▷◌, below, inner, emits_items, emits_piece, emits_parts, stays}
use Rattle.direct.specs.Moved.{stand_in, stand, out_of, behind, Binder}
use Rattle.direct.proofs.Threads.{then_assoc, then_nothing}
use Rattle.direct.proofs.OneLevel.{emits_nowhere}
use Rattle.direct.proofs.MadeNodes.{say_then, below_inner, two_fields, emits_temporary}
use Rattle.lowering.proofs.ItemLaws.{count_each}
use Rattle.direct.specs.Views.{nameless}

-- ---- the context plays no part

out_here : (c : Place) (d : ℕ) (p : Node) → moved_out_of (context_of c) d p ≡ moved_out_of nameless d p
unfolding moved_out_of
out_here c zero p = refl
out_here c (suc d) p =
    by_shape (shape p)
    (λ e. rw (e, moved_out_of) refl)
    (λ e. rw (e, moved_out_of) (ap (λ (f : Node → Node). with_rest f (with_items f p)) (fun_ext (λ r. out_here c d r))))
    (λ e. rw (e, moved_out_of) refl)
    (λ e. rw (e, moved_out_of) refl)

pub behind_here : (c : Place) → left_behind (context_of c) ≡ left_behind nameless
unfolding left_behind
behind_here c =
    fun_ext (λ q. ap (λ (f : Node → Node). cond (is_moved q) (change 0 (on_node f) q) q) (fun_ext (λ p. out_here c (depth p) p)))

-- ---- shapes by kind

pub shape_37 : (p : Node) → is 37 p ≡ true → shape p ≡ default
unfolding is shape
shape_37 (node at k fs) e = rw (eqb-true k 37 e) refl

pub shape_leaf : (p : Node) → is 34 p ≡ false → is 36 p ≡ false → is 37 p ≡ false → shape p ≡ leaf
unfolding is shape
shape_leaf p a b c = rw (a, b, c) refl

-- ---- what a whole pattern becomes

pub out_object : (p : Node) → shape p ≡ object_pattern → out_of p ≡ stand_in p
unfolding out_of moved_out_of depth
out_object (node at k fs) e = rw (e, moved_out_of) refl

pub out_leaf : (p : Node) → shape p ≡ leaf → out_of p ≡ p
unfolding out_of moved_out_of depth
out_leaf (node at k fs) e = rw (e, moved_out_of) refl

each_out : (d : ℕ) (is : Items) → depth_items is ≤ d → each (λ e. moved_out_of nameless d e) is ≡ each out_of is
unfolding each depth out_of
each_out d Items.none h = refl
each_out d (Items.hole ns) h = ap Items.hole (each_out d ns h)
each_out d (Items.item n ns) h = ap₂ Items.item (moved_out_levels d n (omega arith) nameless) (each_out d ns (omega arith))

pub out_array_rest : (at : ℕ) (is : Items) (r : Node)
    → out_of (node at 36 (Fields.field (Piece.list is) (Fields.field (Piece.one r) Fields.done)))
    ≡ node at 36 (Fields.field (Piece.list (each out_of is)) (Fields.field (Piece.one (out_of r)) Fields.done))
unfolding out_of moved_out_of shape depth change change_in on_items on_node
out_array_rest at ns r =
    let d = depth_fields (Fields.field (Piece.list ns) (Fields.field (Piece.one r) Fields.done)) in
    ap₂ (λ (x : Items) (y : Node). node at 36 (Fields.field (Piece.list x) (Fields.field (Piece.one y) Fields.done)))
    (each_out d ns (omega arith)) (moved_out_levels d r (omega arith) nameless)

pub out_array : (at : ℕ) (is : Items)
    → out_of (node at 36 (Fields.field (Piece.list is) (Fields.absent Fields.done)))
    ≡ node at 36 (Fields.field (Piece.list (each out_of is)) (Fields.absent Fields.done))
unfolding out_of moved_out_of shape depth change change_in on_items on_node
out_array at ns =
    let d = depth_fields (Fields.field (Piece.list ns) (Fields.absent Fields.done)) in
    ap (λ (x : Items). node at 36 (Fields.field (Piece.list x) (Fields.absent Fields.done))) (each_out d ns (omega arith))

pub out_default : (at : ℕ) (l r : Node)
    → out_of (node at 37 (Fields.field (Piece.one l) (Fields.field (Piece.one r) Fields.done)))
    ≡ node at 37 (Fields.field (Piece.one (stand_in (node at 37 (Fields.field (Piece.one l) (Fields.field (Piece.one r) Fields.done))))) (Fields.field (Piece.one r) Fields.done))
unfolding out_of moved_out_of shape depth change change_in on_node
out_default at l r = refl

-- ---- what it does

emits_stand : (c : Place) (p : Node) → emits c (stand_in p) ≡ say (stand (position p))
emits_stand c p = emits_temporary c [] 1 (position p)

pub emits_out_object : (c : Place) (p : Node) → shape p ≡ object_pattern → emits c (out_of p) ≡ say (stand (position p))
emits_out_object c p e = ap (emits c) (out_object p e) ∙ emits_stand c p

pub emits_out_leaf : (c : Place) (p : Node) → shape p ≡ leaf → emits c (out_of p) ≡ emits c p
emits_out_leaf c p e = ap (emits c) (out_leaf p e)

-- an array pattern as it stands
emits_items_rest : (c : Place) (at : ℕ) (is : Items) (r : Node)
    → emits c (node at 36 (Fields.field (Piece.list is) (Fields.field (Piece.one r) Fields.done)))
    ≡ say (puts (36 ∷ 3 ∷ wide_bytes (count is))) ▷ emits_items false (inner c) is ▷ emits (inner c) r
unfolding rule_of stays map_of is_container emits_piece is opens_scope
emits_items_rest c at ns r =
    let n = node at 36 (Fields.field (Piece.list ns) (Fields.field (Piece.one r) Fields.done)) in
    emits_nowhere c n refl
    ∙ ap (λ (x : Emit). say (puts (36 ∷ 3 ∷ [])) ▷ x)
    (two_fields false (below c n) (Piece.list ns) (Piece.one r)
    ∙ ap (λ (d : ℕ → Place). (say (puts (wide_bytes (count ns))) ▷ emits_items false (d 0) ns) ▷ emits (d 1) r) (below_inner c n (λ i. refl) refl refl)
    ∙ then_assoc (say (puts (wide_bytes (count ns)))) (emits_items false (inner c) ns) (emits (inner c) r))
    ∙ say_then (puts (36 ∷ 3 ∷ [])) (puts (wide_bytes (count ns))) (emits_items false (inner c) ns ▷ emits (inner c) r)

emits_items_lem : (c : Place) (at : ℕ) (is : Items)
    → emits c (node at 36 (Fields.field (Piece.list is) (Fields.absent Fields.done))) ≡ say (puts (36 ∷ 1 ∷ wide_bytes (count is))) ▷ emits_items false (inner c) is
unfolding rule_of stays map_of is_container emits_piece emits_parts is opens_scope
emits_items_lem c at ns =
    let n = node at 36 (Fields.field (Piece.list ns) (Fields.absent Fields.done)) in
    emits_nowhere c n refl
    ∙ ap (λ (x : Emit). say (puts (36 ∷ 1 ∷ [])) ▷ x)
    (then_nothing (say (puts (wide_bytes (count ns))) ▷ emits_items false (below c n 0) ns)
    ∙ ap (λ (d : ℕ → Place). say (puts (wide_bytes (count ns))) ▷ emits_items false (d 0) ns) (below_inner c n (λ i. refl) refl refl))
    ∙ say_then (puts (36 ∷ 1 ∷ [])) (puts (wide_bytes (count ns))) (emits_items false (inner c) ns)

pub emits_out_array_rest : (c : Place) (at : ℕ) (is : Items) (r : Node)
    → emits c (out_of (node at 36 (Fields.field (Piece.list is) (Fields.field (Piece.one r) Fields.done))))
    ≡ say (puts (36 ∷ 3 ∷ wide_bytes (count is))) ▷ emits_items false (inner c) (each out_of is) ▷ emits (inner c) (out_of r)
emits_out_array_rest c at ns r =
    ap (emits c) (out_array_rest at ns r)
    ∙ emits_items_rest c at (each out_of ns) (out_of r)
    ∙ ap (λ (x : ℕ). say (puts (36 ∷ 3 ∷ wide_bytes x)) ▷ emits_items false (inner c) (each out_of ns) ▷ emits (inner c) (out_of r)) (count_each out_of ns)

pub emits_out_array : (c : Place) (at : ℕ) (is : Items)
    → emits c (out_of (node at 36 (Fields.field (Piece.list is) (Fields.absent Fields.done))))
    ≡ say (puts (36 ∷ 1 ∷ wide_bytes (count is))) ▷ emits_items false (inner c) (each out_of is)
emits_out_array c at ns =
    ap (emits c) (out_array at ns)
    ∙ emits_items_lem c at (each out_of ns)
    ∙ ap (λ (x : ℕ). say (puts (36 ∷ 1 ∷ wide_bytes x)) ▷ emits_items false (inner c) (each out_of ns)) (count_each out_of ns)

-- the temporary has the position of the default
pub emits_out_default : (c : Place) (at : ℕ) (l r : Node)
    → emits c (out_of (node at 37 (Fields.field (Piece.one l) (Fields.field (Piece.one r) Fields.done))))
    ≡ say (puts (37 ∷ 3 ∷ []) ++ stand at) ▷ emits (inner c) r
unfolding rule_of stays map_of is_container emits_piece is opens_scope
emits_out_default c at l r =
    let p = node at 37 (Fields.field (Piece.one l) (Fields.field (Piece.one r) Fields.done)) in
    let n = node at 37 (Fields.field (Piece.one (stand_in p)) (Fields.field (Piece.one r) Fields.done)) in
    ap (emits c) (out_default at l r)
    ∙ emits_nowhere c n refl
    ∙ ap (λ (x : Emit). say (puts (37 ∷ 3 ∷ [])) ▷ x)
    (two_fields false (below c n) (Piece.one (stand_in p)) (Piece.one r)
    ∙ ap (λ (d : ℕ → Place). emits (d 0) (stand_in p) ▷ emits (d 1) r) (below_inner c n (λ i. refl) refl refl)
    ∙ ap (λ (x : Emit). x ▷ emits (inner c) r) (emits_stand (inner c) p))
    ∙ say_then (puts (37 ∷ 3 ∷ [])) (stand at) (emits (inner c) r)

-- ---- Params and Declarators

pub behind_kept : (q : Node) → is_moved q ≡ false → behind q ≡ q
unfolding left_behind
behind_kept q h = rw h refl

pub behind_moved : (at k : ℕ) (p : Node) (fs : Fields) → has_object_rest p ≡ true
    → behind (node at k (Fields.field (Piece.one p) fs)) ≡ node at k (Fields.field (Piece.one (out_of p)) fs)
unfolding left_behind is_moved node_at_of piece_in change change_in on_node out_of
behind_moved at k p fs h = rw h refl

-- as they stand
emits_binder_value : (c : Place) (at : ℕ) {k : ℕ} → Binder k → (p v : Node)
    → emits c (node at k (Fields.field (Piece.one p) (Fields.field (Piece.one v) Fields.done))) ≡ say (puts (k ∷ 3 ∷ [])) ▷ emits (inner c) p ▷ emits (inner c) v
unfolding rule_of stays map_of is_container emits_piece is opens_scope
emits_binder_value c at Binder.param p v =
    let n = node at 15 (Fields.field (Piece.one p) (Fields.field (Piece.one v) Fields.done)) in
    emits_nowhere c n refl
    ∙ ap (λ (x : Emit). say (puts (15 ∷ 3 ∷ [])) ▷ x)
    (two_fields false (below c n) (Piece.one p) (Piece.one v) ∙ ap (λ (d : ℕ → Place). emits (d 0) p ▷ emits (d 1) v) (below_inner c n (λ i. refl) refl refl))
emits_binder_value c at Binder.declarator p v =
    let n = node at 5 (Fields.field (Piece.one p) (Fields.field (Piece.one v) Fields.done)) in
    emits_nowhere c n refl
    ∙ ap (λ (x : Emit). say (puts (5 ∷ 3 ∷ [])) ▷ x)
    (two_fields false (below c n) (Piece.one p) (Piece.one v) ∙ ap (λ (d : ℕ → Place). emits (d 0) p ▷ emits (d 1) v) (below_inner c n (λ i. refl) refl refl))

emits_binder : (c : Place) (at : ℕ) {k : ℕ} → Binder k → (p : Node)
    → emits c (node at k (Fields.field (Piece.one p) (Fields.absent Fields.done))) ≡ say (puts (k ∷ 1 ∷ [])) ▷ emits (inner c) p
unfolding rule_of stays map_of is_container emits_piece emits_parts is opens_scope
emits_binder c at Binder.param p =
    let n = node at 15 (Fields.field (Piece.one p) (Fields.absent Fields.done)) in
    emits_nowhere c n refl
    ∙ ap (λ (x : Emit). say (puts (15 ∷ 1 ∷ [])) ▷ x) (then_nothing (emits (below c n 0) p) ∙ ap (λ (d : ℕ → Place). emits (d 0) p) (below_inner c n (λ i. refl) refl refl))
emits_binder c at Binder.declarator p =
    let n = node at 5 (Fields.field (Piece.one p) (Fields.absent Fields.done)) in
    emits_nowhere c n refl
    ∙ ap (λ (x : Emit). say (puts (5 ∷ 1 ∷ [])) ▷ x) (then_nothing (emits (below c n 0) p) ∙ ap (λ (d : ℕ → Place). emits (d 0) p) (below_inner c n (λ i. refl) refl refl))

-- one that is not looked at
pub emits_behind_kept : (c : Place) (q : Node) → is_moved q ≡ false → emits c (behind q) ≡ emits c q
emits_behind_kept c q h = ap (emits c) (behind_kept q h)

-- one with a default or a starting value, which stays
pub emits_behind_value : (c : Place) (at : ℕ) {k : ℕ} → Binder k → (p v : Node) → has_object_rest p ≡ true
    → emits c (behind (node at k (Fields.field (Piece.one p) (Fields.field (Piece.one v) Fields.done))))
    ≡ say (puts (k ∷ 3 ∷ [])) ▷ emits (inner c) (out_of p) ▷ emits (inner c) v
emits_behind_value c at {k = k} b p v h =
    ap (emits c) (behind_moved at k p (Fields.field (Piece.one v) Fields.done) h) ∙ emits_binder_value c at b (out_of p) v

-- one without
pub emits_behind : (c : Place) (at : ℕ) {k : ℕ} → Binder k → (p : Node) → has_object_rest p ≡ true
    → emits c (behind (node at k (Fields.field (Piece.one p) (Fields.absent Fields.done)))) ≡ say (puts (k ∷ 1 ∷ [])) ▷ emits (inner c) (out_of p)
emits_behind c at {k = k} b p h = ap (emits c) (behind_moved at k p (Fields.absent Fields.done) h) ∙ emits_binder c at b (out_of p)
