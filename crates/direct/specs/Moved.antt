-- The heads with patterns that are moved out: what they make, what stands in front of their bodies, what their parts become.
use Rattle.std.specs.Prelude.{ℕ, suc, List, [], ◌∷◌}
use Rattle.std.proofs.Math.Option.{Option}
use Rattle.tree.specs.Tree.{Node, Fields, Items, depth}
use Rattle.tree.specs.Tree.Fields.{done, absent, field}
use Rattle.tree.specs.Tree.Piece.{one, list, byte, mark}
use Rattle.tree.specs.Tree.Items.{none, hole, item}
use Rattle.lowering.specs.Parts.{position, change_items}
use Rattle.lowering.specs.Made.{reference, let_of, assigning}
use Rattle.lowering.specs.Heads.{moved, moved_pattern, moved_out_of, left_behind, in_body, as_function_body, as_block}
use Rattle.sink.specs.Machine.{Event}
use Rattle.direct.specs.Events.{Deed, Place, Emit, cell}
use Rattle.direct.specs.Events.Deed.{does}
use Rattle.direct.specs.Emit.{say, ◌▷◌, emits_statement}
use Rattle.direct.specs.Views.{nameless}

-- the temporary in place of p, and what it does
abbrev pub stand_in : Node → Node
stand_in p = reference nameless p

abbrev pub stand : ℕ → List Deed
stand at = does (Event.temporary (cell 1 at) 1) ∷ []

-- ---- patterns and what binds them

-- a whole pattern, moved out
unfoldable pub out_of : Node → Node
out_of p = moved_out_of nameless (depth p) p

-- where patterns are moved out of a whole pattern
unfoldable pub moved_in_of : Node → Items
moved_in_of p = moved (depth p) p

-- a Param or a Declarator, its pattern moved out if there is an object rest below
abbrev pub behind : Node → Node
behind q = left_behind nameless q

-- the kinds that bind: 15 Param(pattern default?), 5 Declarator(id init?)
pub data Binder : ℕ → Type 0 where
  param : Binder 15
  declarator : Binder 5

-- ---- what is made, and what is put in front

-- a temporary for each pattern that is moved
unfoldable pub makes : Items → List Deed
makes none = []
makes (hole ps) = makes ps
makes (item p ps) = does (Event.make (cell 1 (position p))) ∷ makes ps

-- how many they are
unfoldable pub number : Items → ℕ
number none = 0
number (hole ps) = number ps
number (item p ps) = suc (number ps)

-- `let pattern = temporary` for one, and for each, later ones first
abbrev pub front_of : Node → Node
front_of p = let_of (moved_pattern p) (stand_in p)

unfoldable pub fronts : Place → Items → Emit
fronts c none = say []
fronts c (hole ps) = fronts c ps
fronts c (item p ps) = fronts c ps ▷ emits_statement c (front_of p)

-- with the next new mark
abbrev pub fresh : (ℕ → Emit) → Emit
fresh f next = f next next

-- ---- bodies

-- the body of a function or an arrow, and that of a catch or a loop, with what is put in front
unfoldable pub body_in : Items → Node → Node
body_in ps b = in_body nameless ps (as_function_body b)

unfoldable pub block_in : Items → Node → Node
block_in ps b = in_body nameless ps (as_block b)

-- the body of a loop that assigns to p
unfoldable pub target_in : Node → Node → Node
target_in p b = change_items 1 (item (assigning p (stand_in p))) (as_block b)

-- ---- the heads by their fields

-- a node that may be absent
abbrev pub given : Option Node → Fields → Fields
given Option.none fs = absent fs
given (Option.some n) fs = field (one n) fs

-- and what it does
abbrev pub emits_given : (Node → Emit) → Option Node → Emit
emits_given f Option.none = say []
emits_given f (Option.some n) = f n

-- 14 Function(# sort= name? params* rest? body?), with a body
abbrev pub function_fields : ℕ → ℕ → Option Node → Items → Option Node → Node → Fields
function_fields m sort name qs rest b = field (mark m) (field (byte sort) (given name (field (list qs) (given rest (field (one b) done)))))

-- 17 Arrow(params* rest? body)
abbrev pub arrow_fields : Items → Option Node → Node → Fields
arrow_fields qs rest b = field (list qs) (given rest (field (one b) done))

-- 10 Catch(param? body), with a param
abbrev pub catch_fields : Node → Node → Fields
catch_fields q b = field (one q) (field (one b) done)

-- 7 ForIn(# left right body), 8 ForOf(# left right body await=?): more has the fields behind the body
abbrev pub for_fields : ℕ → Node → Node → Node → Fields → Fields
for_fields m left right b more = field (mark m) (field (one left) (field (one right) (field (one b) more)))

pub data Loop : ℕ → Type 0 where
  for_in : Loop 7
  for_of : Loop 8

-- 4 Declaration(# kind= declarators*)
abbrev pub declaration_fields : ℕ → ℕ → Items → Fields
declaration_fields m sort ds = field (mark m) (field (byte sort) (field (list ds) done))
