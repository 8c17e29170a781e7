-- The statements in front of a body, later ones first.
-- Assumes nothing.
use mathlib.Core.Path.{◌≡◌, refl, sym, ap, ◌∙◌, fun_ext}
use mathlib.Core.Bool.{true, false}
use mathlib.Core.List.{[], ◌∷◌, ◌++◌}
use Prim.Native.Nat.{ℕ, suc, ◌+◌}
use native.Mathlib.Omega.{arith}
use Rattle.tree.specs.Tree.{Node, Fields, Piece, Items, count}
use Rattle.tree.specs.Tree.Node.{node}
use Rattle.lowering.specs.Parts.{position, is, piece_in, only, gather, ◌+++◌}
use Rattle.lowering.specs.Made.{let_of}
use Rattle.lowering.specs.Patterns.{shape, left_of, has_object_rest}
use Rattle.lowering.specs.Patterns.Shape.{object_pattern, default, leaf}
use Rattle.lowering.specs.Heads.{moved_pattern, is_moved, moved_from, in_front}
use Rattle.lowering.specs.Collect.{marked}
use Rattle.direct.specs.Events.{Place, Emit, puts, context_of, emits}
use Rattle.direct.specs.Emit.{say, ◌▷◌, inner, marking, start_mark, emits_statement, emits_items}
use Rattle.direct.specs.Moved.{stand_in, stand, moved_in_of, number, front_of, fronts, fresh}
use Rattle.direct.proofs.Threads.{then_assoc, say_nothing, then_nothing}
use Rattle.direct.proofs.MadeNodes.{more_statements, new_declaration, emits_let, emits_temporary}
use Rattle.direct.proofs.MovedMade.{gather_hole, moved_object, moved_default, moved_leaf, moved_array_rest, moved_array, from_kept, from_moved}
use Rattle.lowering.proofs.ItemLaws.{gather_none, gather_append, gather_only}
use Rattle.direct.specs.Views.{nameless}

-- ---- in front of a body

-- the context plays no part
pub front_here : (c : Place) (ps body : Items) → in_front (context_of c) ps body ≡ in_front nameless ps body
unfolding in_front
front_here c Items.none body = refl
front_here c (Items.hole ps) body = front_here c ps body
front_here c (Items.item p ps) body = front_here c ps (Items.item (front_of p) body)

pub emits_in_front : (c : Place) (ps body : Items) → emits_items true c (in_front nameless ps body) ≡ fronts c ps ▷ emits_items true c body
unfolding in_front fronts is
emits_in_front c Items.none body = sym (say_nothing (emits_items true c body))
emits_in_front c (Items.hole ps) body = emits_in_front c ps body
emits_in_front c (Items.item p ps) body =
    emits_in_front c ps (Items.item (front_of p) body)
    ∙ ap (λ (x : Emit). fronts c ps ▷ x) (more_statements c (front_of p) body refl refl)
    ∙ sym (then_assoc (fronts c ps) (emits_statement c (front_of p)) (emits_items true c body))

pub count_in_front : (ps body : Items) → count (in_front nameless ps body) ≡ count body + number ps
unfolding in_front count number
count_in_front Items.none body = omega arith
count_in_front (Items.hole ps) body = count_in_front ps body
count_in_front (Items.item p ps) body = let e = count_in_front ps (Items.item (front_of p) body) in omega arith

-- ---- lists: those of a later part come first

pub fronts_none : (c : Place) → fronts c Items.none ≡ say []
unfolding fronts
fronts_none c = refl

pub fronts_only : (c : Place) (p : Node) → fronts c (only p) ≡ emits_statement c (front_of p)
unfolding fronts
fronts_only c p = say_nothing (emits_statement c (front_of p))

pub fronts_join : (c : Place) (ps qs : Items) → fronts c (ps +++ qs) ≡ fronts c qs ▷ fronts c ps
unfolding fronts ◌+++◌
fronts_join c Items.none qs = sym (then_nothing (fronts c qs))
fronts_join c (Items.hole ps) qs = fronts_join c ps qs
fronts_join c (Items.item p ps) qs =
    ap (λ (x : Emit). x ▷ emits_statement c (front_of p)) (fronts_join c ps qs)
    ∙ then_assoc (fronts c qs) (fronts c ps) (emits_statement c (front_of p))

-- items of an array pattern (f is movedIn), or Params and Declarators (f is movedFrom), cut in two
pub fronts_cut : (c : Place) (f : Node → Items) (is js : Items) → fronts c (gather f (is +++ js)) ≡ fronts c (gather f js) ▷ fronts c (gather f is)
fronts_cut c f ns js = ap (fronts c) (gather_append f ns js) ∙ fronts_join c (gather f ns) (gather f js)

pub fronts_empty : (c : Place) (f : Node → Items) → fronts c (gather f Items.none) ≡ say []
fronts_empty c f = ap (fronts c) (gather_none f) ∙ fronts_none c

pub fronts_hole : (c : Place) (f : Node → Items) (is : Items) → fronts c (gather f (Items.hole is)) ≡ fronts c (gather f is)
fronts_hole c f ns = ap (fronts c) (gather_hole f ns)

pub fronts_one : (c : Place) (f : Node → Items) (n : Node) → fronts c (gather f (only n)) ≡ fronts c (f n)
fronts_one c f n = ap (fronts c) (gather_only f n)

-- a Param or a Declarator
pub fronts_kept : (c : Place) (q : Node) → is_moved q ≡ false → fronts c (moved_from q) ≡ say []
fronts_kept c q h = ap (fronts c) (from_kept q h) ∙ fronts_none c

pub fronts_moved : (c : Place) (at k : ℕ) (p : Node) (fs : Fields) → has_object_rest p ≡ true
    → fronts c (moved_from (node at k (Fields.field (Piece.one p) fs))) ≡ fronts c (moved_in_of p)
fronts_moved c at k p fs h = ap (fronts c) (from_moved at k p fs h)

-- ---- patterns

object_itself_lem : (p : Node) → shape p ≡ object_pattern → moved_pattern p ≡ p
unfolding moved_pattern
object_itself_lem p e = rw (e, moved_pattern) refl

default_left : (p : Node) → shape p ≡ default → moved_pattern p ≡ left_of p
unfolding moved_pattern
default_left p e = rw (e, moved_pattern) refl

pub fronts_object : (c : Place) (p : Node) → shape p ≡ object_pattern → fronts c (moved_in_of p) ≡ emits_statement c (let_of p (stand_in p))
fronts_object c p e =
    ap (fronts c) (moved_object p e) ∙ fronts_only c p ∙ ap (λ (x : Node). emits_statement c (let_of x (stand_in p))) (object_itself_lem p e)

pub fronts_default : (c : Place) (p : Node) → shape p ≡ default → fronts c (moved_in_of p) ≡ emits_statement c (let_of (left_of p) (stand_in p))
fronts_default c p e =
    ap (fronts c) (moved_default p e) ∙ fronts_only c p ∙ ap (λ (x : Node). emits_statement c (let_of x (stand_in p))) (default_left p e)

pub fronts_leaf : (c : Place) (p : Node) → shape p ≡ leaf → fronts c (moved_in_of p) ≡ say []
fronts_leaf c p e = ap (fronts c) (moved_leaf p e) ∙ fronts_none c

pub fronts_array_rest : (c : Place) (at : ℕ) (is : Items) (r : Node)
    → fronts c (moved_in_of (node at 36 (Fields.field (Piece.list is) (Fields.field (Piece.one r) Fields.done)))) ≡ fronts c (moved_in_of r) ▷ fronts c (gather moved_in_of is)
fronts_array_rest c at ns r = ap (fronts c) (moved_array_rest at ns r) ∙ fronts_join c (gather moved_in_of ns) (moved_in_of r)

pub fronts_array : (c : Place) (at : ℕ) (is : Items)
    → fronts c (moved_in_of (node at 36 (Fields.field (Piece.list is) (Fields.absent Fields.done)))) ≡ fronts c (gather moved_in_of is)
fronts_array c at ns = ap (fronts c) (moved_array at ns)

-- ---- marks

-- a new statement takes the next mark
pub marked_new : (c : Place) (n : Node) → start_mark n ≡ 0 → emits_statement c n ≡ fresh (λ m. emits (marking c m) n)
unfolding emits_statement
marked_new c n e = fun_ext (λ next. ap (λ (x : ℕ). emits (marking c (marked next x)) n next) e)

pub marked_let : (c : Place) (id init : Node) → emits_statement c (let_of id init) ≡ fresh (λ m. emits (marking c m) (let_of id init))
unfolding start_mark piece_in
marked_let c id init = marked_new c (let_of id init) refl

-- any other has its own
pub marked_own : (c : Place) (n : Node) (m : ℕ) → start_mark n ≡ suc m → emits_statement c n ≡ emits (marking c (suc m)) n
unfolding emits_statement
marked_own c n m e = fun_ext (λ next. ap (λ (x : ℕ). emits (marking c (marked next x)) n next) e)

-- a let without an object rest below its pattern
pub front_kept : (c : Place) (id q : Node) → has_object_rest id ≡ false
    → emits_statement c (let_of id (stand_in q))
    ≡ fresh (λ m. say (new_declaration 2 ++ puts (5 ∷ 3 ∷ [])) ▷ emits (marking (inner c) m) id ▷ say (stand (position q)))
unfolding inner marking
front_kept c id q h =
    marked_let c id (stand_in q)
    ∙ fun_ext (λ next.
    ap (λ (f : Emit). f next)
    (emits_let (marking c next) id (stand_in q) h
    ∙ ap (λ (x : Emit). say (new_declaration 2 ++ puts (5 ∷ 3 ∷ [])) ▷ emits (inner (marking c next)) id ▷ x) (emits_temporary (inner (marking c next)) [] 1 (position q))))
