-- The nodes that the rules make. They have no place in the input, so their position is 0; a temporary has that of what it stands for.
use Rattle.std.specs.Prelude.{ℕ, Bool, List, []}
use Rattle.tree.specs.Tree.{Node, Items}
use Rattle.tree.specs.Tree.Node.{node}
use Rattle.tree.specs.Tree.Fields.{done, absent, field}
use Rattle.tree.specs.Tree.Piece.{one, list, text, byte, mark, number}
use Rattle.tree.specs.Tree.Items.{item}
use Rattle.lowering.specs.Parts.{position, node_at_of, only}

-- ---- where a node stands when the walk gets to it

pub record Context : Type 0 where
  pub path : List ℕ  -- its place in the result: a pair of numbers for each node around it, the nearest first
  pub root : Bool  -- no node around it but the Program opens a scope
  pub statement : Bool  -- it is all of an expression statement, parentheses aside

-- ---- temporaries

-- Until the end a Temporary has no number but a name: the path of the node whose rewriting makes it, a stem for what it is made for, and the
-- position of what it stands for. No two that are made have one name (proofs/DistinctNames.antt); numbers are given to names (Collect).
abbrev pub temporary : List ℕ → ℕ → ℕ → Node
temporary path stem at = node at 20 (field (number stem) (field (text path) done))

module _ (c : Context) where
  -- stem 1: in place of the pattern p; of a Default p, in place of its left
  abbrev pub reference : Node → Node
  reference p = temporary c.path 1 (position p)

  -- stem 2: the excluded keys of the object pattern p
  abbrev pub excluded_of : Node → Node
  excluded_of p = temporary c.path 2 (position p)

  -- stem 3: the value that the pattern p takes apart
  abbrev pub value_of : Node → Node
  value_of p = temporary c.path 3 (position p)

  -- stem 4: the key of the PatternProperty q
  abbrev pub key_of : Node → Node
  key_of q = temporary c.path 4 (position q)

-- ---- helpers and their calls (document 01, 'The rewriting', Helpers; helper_call)

-- 21 Helper(number=)
abbrev pub helper : ℕ → Node
helper h = node 0 21 (field (byte h) done)

abbrev pub call : Node → Items → Node
call f xs = node 0 29 (field (one f) (field (list xs) done))

-- ObjectSpread2
abbrev pub S : Items → Node
S xs = call (helper 1) xs

-- Extends
abbrev pub X : Node → Node → Node
X a b = call (helper 2) (item a (only b))

-- ObjectDestructuringEmpty
abbrev pub E : Node → Node
E a = call (helper 3) (only a)

-- ObjectWithoutProperties
abbrev pub W : Node → Node → Node
W a b = call (helper 4) (item a (only b))

-- ToPropertyKey, as a value
abbrev pub K : Node
K = helper 5

-- ---- expressions

-- `{..}`, `[..]`, `(.., ..)` and `a.name`
abbrev pub object : Items → Node
object ps = node 0 24 (field (list ps) done)

abbrev pub array : Items → Node
array xs = node 0 32 (field (list xs) done)

abbrev pub sequence : Items → Node
sequence xs = node 0 28 (field (list xs) done)

abbrev pub member : Node → List ℕ → Node
member a name = node 0 30 (field (one a) (field (text name) done))

-- `left = right`
abbrev pub assign : Node → Node → Node
assign left right = node 0 27 (field (byte 1) (field (one left) (field (one right) done)))

-- a string has its form, and a spelling of no bytes (document 01, end of 'Tree bytes')
abbrev pub string : List ℕ → Node
string form = node 0 22 (field (byte 1) (field (text []) (field (text form) done)))

-- ---- declarators

-- `id = init`
abbrev pub declares : Node → Node → Node
declares id init = node 0 5 (field (one id) (field (one init) done))

-- `id`, without a starting value
abbrev pub declared : Node → Node
declared id = node 0 5 (field (one id) (absent done))

-- the id of a declarator
abbrev pub id_of : Node → Node
id_of d = node_at_of 0 d

-- ---- statements. A new one has mark 0 until the walk is done (Collect)

-- `let id = init`
abbrev pub let_of : Node → Node → Node
let_of id init = node 0 4 (field (mark 0) (field (byte 2) (field (list (only (declares id init))) done)))

-- `var id`
abbrev pub var_of : Node → Node
var_of id = node 0 4 (field (mark 0) (field (byte 1) (field (list (only (declared id))) done)))

-- `left = right` as a statement
abbrev pub assigning : Node → Node → Node
assigning left right = node 0 3 (field (mark 0) (field (one (assign left right)) done))

-- `return e`
abbrev pub returning : Node → Node
returning e = node 0 11 (field (mark 0) (field (one e) done))

-- `{ .. }`
abbrev pub block : Items → Node
block is = node 0 2 (field (mark 0) (field (list is) done))

-- a FunctionBody, directives absent
abbrev pub function_body : Items → Node
function_body is = node 0 16 (absent (field (list is) done))
