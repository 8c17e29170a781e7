-- Deeds one after another, and a node as it stands: its bytes, and what its parts do.
use Rattle.std.specs.Prelude.{ℕ, suc, Bool, true, false, cond, not, ◌&&◌, ◌||◌, List, [], ◌∷◌, ◌++◌, eqb, length}
use Rattle.tree.specs.Tree.{Node, Fields, Piece, Items, wide_bytes, map_of, count}
use Rattle.tree.specs.Tree.Node.{node}
use Rattle.tree.specs.Tree.Fields.{done, absent, field}
use Rattle.tree.specs.Tree.Piece.{one, list, text, byte, mark, number}
use Rattle.tree.specs.Tree.Items.{none, hole, item}
use Rattle.lowering.specs.Parts.{kind, is, piece_in, as_number}
use Rattle.lowering.specs.Walk.{opens_scope}
use Rattle.lowering.specs.Weight.{walked}
use Rattle.lowering.specs.Collect.{is_container, marked, mark_of}
use Rattle.sink.specs.Machine.Event.{put, helper, temporary}
use Rattle.direct.specs.Events.{Deed, Place, Emit, puts, cell, marks, after, context_of, emits}
use Rattle.direct.specs.Events.Deed.{does}

infixr 35 ◌▷◌
-- ---- deeds that need no mark, and one thing after another

unfoldable pub say : List Deed → Emit
say ds next = ds

unfoldable pub ◌▷◌ : Emit → Emit → Emit
(e ▷ f) next = e next ++ f (after next (e next))

-- ---- places

-- the place of field i of n, as `within` has it
unfoldable pub below : Place → Node → ℕ → Place
below c n i =
    record {
      root = c.root && not (opens_scope (kind n) i);
      statement = is 3 n || (is 31 n && c.statement);
      mark = c.mark;
    }

-- that of the parts of an expression or a declarator; that inside a scope; that of an expression statement's expression
unfoldable pub inner : Place → Place
inner c = record { root = c.root; statement = false; mark = c.mark }

unfoldable pub scoped : Place → Place
scoped c = record { root = false; statement = false; mark = c.mark }

unfoldable pub unused : Place → Place
unused c = record { root = c.root; statement = true; mark = c.mark }

-- the same place with m for the mark of the containing statement
unfoldable pub marking : Place → ℕ → Place
marking c m = record { root = c.root; statement = c.statement; mark = m }

-- the mark that n begins with when it is rewritten
unfoldable pub mark_here : Place → Node → ℕ
mark_here c n = mark_of (walked (context_of c) n)

-- the mark that n begins with as it stands, 0 where it begins with none
abbrev pub as_mark : Piece → ℕ
as_mark (one n) = 0
as_mark (list is) = 0
as_mark (text bs) = 0
as_mark (byte b) = 0
as_mark (mark m) = m
as_mark (number b) = 0

unfoldable pub start_mark : Node → ℕ
start_mark (node at k fs) = as_mark (piece_in fs 0)

-- a statement of a container: its mark, or the next one if it is new, is that of the containing statement
unfoldable pub emits_statement : Place → Node → Emit
emits_statement c n next = emits (marking c (marked next (start_mark n))) n next

-- ---- lists and fields. l says whether a list holds containing statements

unfoldable pub emits_item : Bool → Place → Node → Emit
emits_item l c n next = emits (cond l (marking c (marked next (mark_here c n))) c) n next

unfoldable pub emits_items : Bool → Place → Items → Emit
emits_items l c none = say []
emits_items l c (hole is) = say (does (put 0) ∷ []) ▷ emits_items l c is
emits_items l c (item n is) = emits_item l c n ▷ emits_items l c is

unfoldable pub emits_piece : Bool → Place → Piece → Emit
emits_piece l c (one n) = emits c n
emits_piece l c (list is) = say (puts (wide_bytes (count is))) ▷ emits_items l c is
emits_piece l c (text bs) = say (puts (wide_bytes (length bs) ++ bs))
emits_piece l c (byte b) = say (does (put b) ∷ [])
emits_piece l c (mark b) = say (marks b)
emits_piece l c (number b) = say (puts (wide_bytes b))

-- c has the place of each field, by its number
unfoldable pub emits_parts : Bool → (ℕ → Place) → Fields → Emit
emits_parts l c done = say []
emits_parts l c (absent fs) = emits_parts l (λ i. c (suc i)) fs
emits_parts l c (field p fs) = emits_piece l (c 0) p ▷ emits_parts l (λ i. c (suc i)) fs

-- all fields at one place
abbrev pub emits_fields : Bool → Place → Fields → Emit
emits_fields l c fs = emits_parts l (λ i. c) fs

-- what f does with each item; a hole does nothing
unfoldable pub in_turn : (Node → Emit) → Items → Emit
in_turn f none = say []
in_turn f (hole ns) = in_turn f ns
in_turn f (item n ns) = f n ▷ in_turn f ns

-- ---- a node that stays as it is, its parts walked

unfoldable pub stays : Place → Node → Emit
stays c (node at k fs) =
    cond (eqb k 20) (say (does (temporary (cell (as_number (piece_in fs 0)) at) (as_number (piece_in fs 0))) ∷ []))
    (cond (eqb k 21) (say (does (helper (as_number (piece_in fs 0))) ∷ []))
    (say (puts (k ∷ map_of fs ∷ [])) ▷ emits_parts (is_container k) (below c (node at k fs)) fs))

-- the head of a call of helper h with n arguments
abbrev pub call_head : ℕ → ℕ → List Deed
call_head h n = puts (29 ∷ 3 ∷ []) ++ (does (helper h) ∷ puts (wide_bytes n))
