-- Bodies with statements put in front, and the bodies that are made only for this.
-- Assumes nothing.
use mathlib.Core.Path.{◌≡◌, refl, ap, ap₂, ◌∙◌, fun_ext}
use mathlib.Core.Bool.{true, false}
use mathlib.Core.List.{[], ◌∷◌, ◌++◌}
use Prim.Native.Nat.{ℕ, suc, ◌+◌}
use native.Mathlib.Omega.{arith}
use borrow.Author.Tests.{eqb-true}
use Rattle.tree.specs.Tree.{Node, Fields, Piece, Items, wide_bytes, map_of, count}
use Rattle.tree.specs.Tree.Node.{node}
use Rattle.lowering.specs.Parts.{is, piece_in, change, change_in, on_items, change_items, only}
use Rattle.lowering.specs.Made.{assign, assigning, returning, block, function_body}
use Rattle.lowering.specs.Heads.{in_front, in_body, as_function_body, as_block}
use Rattle.lowering.specs.Walk.{rule_of, opens_scope}
use Rattle.lowering.specs.Collect.{is_container}
use Rattle.sink.specs.Machine.{Event}
use Rattle.direct.specs.Events.{Place, Emit, puts, marks, context_of, emits}
use Rattle.direct.specs.Events.Deed.{does}
use Rattle.direct.specs.Emit.{say, ◌▷◌, below, inner, scoped, unused, marking, start_mark, emits_statement, emits_items, emits_piece, stays}
use Rattle.direct.specs.Moved.{stand_in, number, fronts, fresh, body_in, block_in, target_in}
use Rattle.direct.proofs.Threads.{then_assoc, then_nothing}
use Rattle.direct.proofs.OneLevel.{emits_nowhere}
use Rattle.direct.proofs.MadeNodes.{say_then, below_inner, two_fields, no_items, more_statements, emits_assigning, emits_returning, emits_block, emits_new_block, emits_body}
use Rattle.direct.proofs.Fronts.{front_here, emits_in_front, count_in_front, marked_new}
use Rattle.direct.specs.Views.{nameless}

-- ---- places

pub inner_scoped : (c : Place) → inner (scoped c) ≡ scoped c
unfolding inner scoped
inner_scoped c = refl

pub scoped_scoped : (c : Place) → scoped (scoped c) ≡ scoped c
unfolding scoped
scoped_scoped c = refl

pub inner_marking : (c : Place) (m : ℕ) → inner (marking c m) ≡ marking (inner c) m
unfolding inner marking
inner_marking c m = refl

-- ---- lists of statements

only_statement : (c : Place) (n : Node) → is 24 n ≡ false → is 27 n ≡ false → emits_items true c (only n) ≡ emits_statement c n
only_statement c n a b =
    more_statements c n Items.none a b ∙ ap (λ (x : Emit). emits_statement c n ▷ x) (no_items true c) ∙ then_nothing (emits_statement c n)

-- a return of what was all of an arrow's body
pub emits_return : (c : Place) (e : Node)
    → emits_statement c (returning e) ≡ fresh (λ m. say (puts (11 ∷ 3 ∷ []) ++ (does Event.new_mark ∷ [])) ▷ emits (marking (inner c) m) e)
unfolding start_mark piece_in
emits_return c e =
    marked_new c (returning e) refl
    ∙ fun_ext (λ next.
    ap (λ (f : Emit). f next)
    (emits_returning (marking c next) e
    ∙ ap (λ (d : Place). say (puts (11 ∷ 3 ∷ []) ++ (does Event.new_mark ∷ [])) ▷ emits d e) (inner_marking c next)))

-- `left = right` as a statement
pub emits_assigned : (c : Place) (left right : Node)
    → emits_statement c (assigning left right) ≡ fresh (λ m. say (puts (3 ∷ 3 ∷ []) ++ (does Event.new_mark ∷ [])) ▷ emits (unused (marking c m)) (assign left right))
unfolding start_mark piece_in
emits_assigned c left right =
    marked_new c (assigning left right) refl ∙ fun_ext (λ next. ap (λ (f : Emit). f next) (emits_assigning (marking c next) left right))

-- ---- the body of a function or an arrow

pub body_here : (c : Place) (ps : Items) → in_body (context_of c) ps ≡ in_body nameless ps
unfolding in_body
body_here c ps = fun_ext (λ b. ap (λ (f : Items → Items). change_items 1 f b) (fun_ext (λ ns. front_here c ps ns)))

-- without directives
pub emits_body_in : (c : Place) (ps : Items) (at : ℕ) (ns : Items)
    → emits c (body_in ps (node at 16 (Fields.absent (Fields.field (Piece.list ns) Fields.done))))
    ≡ say (puts (16 ∷ 2 ∷ wide_bytes (count ns + number ps))) ▷ fronts (inner c) ps ▷ emits_items true (inner c) ns
unfolding body_in in_body as_function_body is change change_in on_items
emits_body_in c ps at ns =
    emits_body c at (in_front nameless ps ns)
    ∙ ap₂ (λ (x : ℕ) (y : Emit). say (puts (16 ∷ 2 ∷ wide_bytes x)) ▷ y) (count_in_front ps ns) (emits_in_front (inner c) ps ns)

-- with directives, as it stands
pub emits_directed : (c : Place) (at : ℕ) (ds ns : Items)
    → emits c (node at 16 (Fields.field (Piece.list ds) (Fields.field (Piece.list ns) Fields.done)))
    ≡ say (puts (16 ∷ 3 ∷ wide_bytes (count ds))) ▷ emits_items true (inner c) ds ▷ say (puts (wide_bytes (count ns))) ▷ emits_items true (inner c) ns
unfolding rule_of stays map_of is_container emits_piece is opens_scope
emits_directed c at ds ns =
    let n = node at 16 (Fields.field (Piece.list ds) (Fields.field (Piece.list ns) Fields.done)) in
    let rest = say (puts (wide_bytes (count ns))) ▷ emits_items true (inner c) ns in
    emits_nowhere c n refl
    ∙ ap (λ (x : Emit). say (puts (16 ∷ 3 ∷ [])) ▷ x)
    (two_fields true (below c n) (Piece.list ds) (Piece.list ns)
    ∙ ap (λ (d : ℕ → Place). (say (puts (wide_bytes (count ds))) ▷ emits_items true (d 0) ds) ▷ say (puts (wide_bytes (count ns))) ▷ emits_items true (d 1) ns) (below_inner c n (λ i. refl) refl refl)
    ∙ then_assoc (say (puts (wide_bytes (count ds)))) (emits_items true (inner c) ds) rest)
    ∙ say_then (puts (16 ∷ 3 ∷ [])) (puts (wide_bytes (count ds))) (emits_items true (inner c) ds ▷ rest)

-- with directives
pub emits_directed_in : (c : Place) (ps : Items) (at : ℕ) (ds ns : Items)
    → emits c (body_in ps (node at 16 (Fields.field (Piece.list ds) (Fields.field (Piece.list ns) Fields.done))))
    ≡ say (puts (16 ∷ 3 ∷ wide_bytes (count ds))) ▷ emits_items true (inner c) ds
    ▷ say (puts (wide_bytes (count ns + number ps))) ▷ fronts (inner c) ps ▷ emits_items true (inner c) ns
unfolding body_in in_body as_function_body is change change_in on_items
emits_directed_in c ps at ds ns =
    emits_directed c at ds (in_front nameless ps ns)
    ∙ ap₂ (λ (x : ℕ) (y : Emit). say (puts (16 ∷ 3 ∷ wide_bytes (count ds))) ▷ emits_items true (inner c) ds ▷ say (puts (wide_bytes x)) ▷ y)
    (count_in_front ps ns) (emits_in_front (inner c) ps ns)

made_body : (ps : Items) (b : Node) → is 16 b ≡ false → body_in ps b ≡ function_body (in_front nameless ps (only (returning b)))
unfolding body_in in_body as_function_body change change_in on_items
made_body ps b h = rw h refl

-- an expression: a body of one return
pub emits_return_in : (c : Place) (ps : Items) (b : Node) → is 16 b ≡ false
    → emits c (body_in ps b)
    ≡ say (puts (16 ∷ 2 ∷ wide_bytes (suc (number ps)))) ▷ fronts (inner c) ps
    ▷ fresh (λ m. say (puts (11 ∷ 3 ∷ []) ++ (does Event.new_mark ∷ [])) ▷ emits (marking (inner c) m) b)
unfolding is count inner
emits_return_in c ps b h =
    let ns = only (returning b) in
    let e : count (in_front nameless ps ns) ≡ suc (number ps) = count_in_front ps ns ∙ omega arith in
    ap (emits c) (made_body ps b h)
    ∙ emits_body c 0 (in_front nameless ps ns)
    ∙ ap₂ (λ (x : ℕ) (y : Emit). say (puts (16 ∷ 2 ∷ wide_bytes x)) ▷ y) e
    (emits_in_front (inner c) ps ns
    ∙ ap (λ (x : Emit). fronts (inner c) ps ▷ x) (only_statement (inner c) (returning b) refl refl ∙ emits_return (inner c) b))

-- ---- the body of a catch or a loop

-- a Block
pub emits_block_in : (c : Place) (ps : Items) (at m : ℕ) (ns : Items)
    → emits c (block_in ps (node at 2 (Fields.field (Piece.mark m) (Fields.field (Piece.list ns) Fields.done))))
    ≡ say (puts (2 ∷ 3 ∷ []) ++ (marks m ++ puts (wide_bytes (count ns + number ps)))) ▷ fronts (scoped c) ps ▷ emits_items true (scoped c) ns
unfolding block_in in_body as_block is change change_in on_items
emits_block_in c ps at m ns =
    emits_block c at m (in_front nameless ps ns)
    ∙ ap₂ (λ (x : ℕ) (y : Emit). say (puts (2 ∷ 3 ∷ []) ++ (marks m ++ puts (wide_bytes x))) ▷ y) (count_in_front ps ns) (emits_in_front (scoped c) ps ns)

empty_block : (b : Node) → is 13 b ≡ true → as_block b ≡ block Items.none
unfolding is as_block
empty_block (node at k fs) e = rw (eqb-true k 13 e) refl

block_front : (ps : Items) (b : Node) (ns : Items) → as_block b ≡ block ns → block_in ps b ≡ block (in_front nameless ps ns)
unfolding block_in in_body change change_in on_items
block_front ps b ns e = ap (λ (x : Node). change_items 1 (in_front nameless ps) x) e

-- an Empty: a new Block that holds nothing else
pub emits_empty_in : (c : Place) (ps : Items) (b : Node) → is 13 b ≡ true
    → emits c (block_in ps b) ≡ say (puts (2 ∷ 3 ∷ []) ++ (does Event.new_mark ∷ puts (wide_bytes (number ps)))) ▷ fronts (scoped c) ps
unfolding count
emits_empty_in c ps b h =
    let e : count (in_front nameless ps Items.none) ≡ number ps = count_in_front ps Items.none ∙ omega arith in
    ap (emits c) (block_front ps b Items.none (empty_block b h))
    ∙ emits_new_block c (in_front nameless ps Items.none)
    ∙ ap₂ (λ (x : ℕ) (y : Emit). say (puts (2 ∷ 3 ∷ []) ++ (does Event.new_mark ∷ puts (wide_bytes x))) ▷ y) e
    (emits_in_front (scoped c) ps Items.none
    ∙ ap (λ (x : Emit). fronts (scoped c) ps ▷ x) (no_items true (scoped c))
    ∙ then_nothing (fronts (scoped c) ps))

-- ---- the body of a loop that assigns to p

first_assigned : (c : Place) (p : Node) (ns : Items)
    → emits_items true c (Items.item (assigning p (stand_in p)) ns) ≡ emits_statement c (assigning p (stand_in p)) ▷ emits_items true c ns
unfolding is
first_assigned c p ns = more_statements c (assigning p (stand_in p)) ns refl refl

pub emits_target_block : (c : Place) (p : Node) (at m : ℕ) (ns : Items)
    → emits c (target_in p (node at 2 (Fields.field (Piece.mark m) (Fields.field (Piece.list ns) Fields.done))))
    ≡ say (puts (2 ∷ 3 ∷ []) ++ (marks m ++ puts (wide_bytes (suc (count ns))))) ▷ emits_statement (scoped c) (assigning p (stand_in p)) ▷ emits_items true (scoped c) ns
unfolding target_in as_block is change change_in on_items count
emits_target_block c p at m ns =
    emits_block c at m (Items.item (assigning p (stand_in p)) ns)
    ∙ ap (λ (y : Emit). say (puts (2 ∷ 3 ∷ []) ++ (marks m ++ puts (wide_bytes (suc (count ns))))) ▷ y) (first_assigned (scoped c) p ns)

target_front : (p b : Node) (ns : Items) → as_block b ≡ block ns → target_in p b ≡ block (Items.item (assigning p (stand_in p)) ns)
unfolding target_in change change_in on_items
target_front p b ns e = ap (λ (x : Node). change_items 1 (Items.item (assigning p (stand_in p))) x) e

pub emits_target_empty : (c : Place) (p b : Node) → is 13 b ≡ true
    → emits c (target_in p b) ≡ say (puts (2 ∷ 3 ∷ []) ++ (does Event.new_mark ∷ puts (wide_bytes 1))) ▷ emits_statement (scoped c) (assigning p (stand_in p))
unfolding count
emits_target_empty c p b h =
    let s = emits_statement (scoped c) (assigning p (stand_in p)) in
    ap (emits c) (target_front p b Items.none (empty_block b h))
    ∙ emits_new_block c (only (assigning p (stand_in p)))
    ∙ ap (λ (y : Emit). say (puts (2 ∷ 3 ∷ []) ++ (does Event.new_mark ∷ puts (wide_bytes 1))) ▷ y)
    (first_assigned (scoped c) p Items.none ∙ ap (λ (x : Emit). s ▷ x) (no_items true (scoped c)) ∙ then_nothing s)
