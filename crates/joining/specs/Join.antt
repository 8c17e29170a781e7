-- The joined tree, by recursion on the tree (request 10): a statement of a container comes behind the `var`s of its mark, in list order, and one `const` of
-- the excluded keys, if there are any, at the Program's head.
use Rattle.std.specs.Prelude.{ℕ, zero, suc, ◌+◌, ◌-◌, List, [], ◌∷◌, ◌++◌, Bool, true, false, cond, eqb, length}
use Rattle.std.proofs.Math.Option.{Option, none, some}
use Rattle.tree.specs.Tree.{Node, Fields, Piece, Items}
use Rattle.tree.specs.Tree.Node.{node}
use Rattle.tree.specs.Tree.Fields.{done, absent, field}
use Rattle.tree.specs.Tree.Piece.{one, list, text, byte, mark, number}
use Rattle.tree.specs.Tree.Items.{hole, item}
use Rattle.tree.specs.Grammar.{among}
use Rattle.lowering.specs.Collect.{Entry}
use Rattle.joining.specs.List.{Handed}

-- ---- containers and their statements

-- Program, Block, FunctionBody, StaticBlock, Case
abbrev pub is_container : ℕ → Bool
is_container kind = among (1 ∷ 2 ∷ 16 ∷ 42 ∷ 44 ∷ []) kind

-- a statement's own mark is the first field that stands. What else is an item of a container's list, a directive, has none
abbrev pub piece_mark : Piece → Option ℕ
piece_mark (one n) = none
piece_mark (list is) = none
piece_mark (text bs) = none
piece_mark (byte b) = none
piece_mark (mark m) = some m
piece_mark (number n) = none

unfoldable pub first_mark : Fields → Option ℕ
first_mark done = none
first_mark (absent fs) = first_mark fs
first_mark (field p fs) = piece_mark p

abbrev pub own_mark : Node → Option ℕ
own_mark (node at kind fs) = first_mark fs

-- the mark of an item, if it stands in a container (c)
abbrev pub found_by : Bool → Node → Option ℕ
found_by true n = own_mark n
found_by false n = none

abbrev pub as_list : Option ℕ → List ℕ
as_list none = []
as_list (some m) = m ∷ []

-- the marks of the statements that stand in a container, in byte order
unfoldable mutual
  pub found : Node → List ℕ
  found (node at kind fs) = found_fields (is_container kind) fs

  pub found_fields : Bool → Fields → List ℕ
  found_fields c done = []
  found_fields c (absent fs) = found_fields c fs
  found_fields c (field p fs) = found_piece c p ++ found_fields c fs

  pub found_piece : Bool → Piece → List ℕ
  found_piece c (one n) = found n
  found_piece c (list is) = found_items c is
  found_piece c (text bs) = []
  found_piece c (byte b) = []
  found_piece c (mark m) = []
  found_piece c (number n) = []

  pub found_items : Bool → Items → List ℕ
  found_items c Items.none = []
  found_items c (hole is) = found_items c is
  found_items c (item n is) = as_list (found_by c n) ++ found n ++ found_items c is

-- ---- free marks

-- the first number above m that is not taken, no further than so many
unfoldable pub seek : List ℕ → ℕ → ℕ → ℕ
seek taken zero m = m
seek taken (suc most) m = cond (among taken (suc m)) (seek taken most (suc m)) (suc m)

-- the lowest marks from 1 that are not taken, rising; a mark is at most 65,535
unfoldable pub fresh : List ℕ → ℕ → ℕ
fresh taken zero = seek taken 65535 0
fresh taken (suc i) = seek taken (65535 - fresh taken i) (fresh taken i)

-- ---- new statements

-- a Declaration of the kind: 1 `var`, 3 `const`
abbrev pub declaration : ℕ → ℕ → Items → Node
declaration kind m ds = node 0 4 (field (mark m) (field (byte kind) (field (list ds) done)))

-- what the entries of a mark hold, in list order
unfoldable pub handed_to : List Entry → ℕ → List Items
handed_to [] m = []
handed_to (e ∷ es) m = cond (eqb e.containing m) (e.declarators ∷ handed_to es m) (handed_to es m)

abbrev pub handed_by : List Entry → Option ℕ → List Items
handed_by es none = []
handed_by es (some m) = handed_to es m

-- i of the new statements stand before; `free i` is the mark of the next
module _ (free : ℕ → ℕ) (es : List Entry) where
  -- what goes before an item
  abbrev pub before : Bool → Node → List Items
  before c n = handed_by es (found_by c n)

  -- `var`s before some items
  unfoldable pub vars : ℕ → List Items → Items → Items
  vars i [] is = is
  vars i (ds ∷ rest) is = item (declaration 1 (free i) ds) (vars (suc i) rest is)

  -- how many new statements a tree gets
  unfoldable mutual
    pub news : Node → ℕ
    news (node at kind fs) = news_fields (is_container kind) fs

    pub news_fields : Bool → Fields → ℕ
    news_fields c done = 0
    news_fields c (absent fs) = news_fields c fs
    news_fields c (field p fs) = news_piece c p + news_fields c fs

    pub news_piece : Bool → Piece → ℕ
    news_piece c (one n) = news n
    news_piece c (list is) = news_items c is
    news_piece c (text bs) = 0
    news_piece c (byte b) = 0
    news_piece c (mark m) = 0
    news_piece c (number n) = 0

    pub news_items : Bool → Items → ℕ
    news_items c Items.none = 0
    news_items c (hole is) = news_items c is
    news_items c (item n is) = length (before c n) + (news n + news_items c is)

  unfoldable mutual
    pub join : ℕ → Node → Node
    join i (node at kind fs) = node at kind (join_fields (is_container kind) i fs)

    pub join_fields : Bool → ℕ → Fields → Fields
    join_fields c i done = done
    join_fields c i (absent fs) = absent (join_fields c i fs)
    join_fields c i (field p fs) = field (join_piece c i p) (join_fields c (i + news_piece c p) fs)

    pub join_piece : Bool → ℕ → Piece → Piece
    join_piece c i (one n) = one (join i n)
    join_piece c i (list is) = list (join_items c i is)
    join_piece c i (text bs) = text bs
    join_piece c i (byte b) = byte b
    join_piece c i (mark m) = mark m
    join_piece c i (number n) = number n

    pub join_items : Bool → ℕ → Items → Items
    join_items c i Items.none = Items.none
    join_items c i (hole is) = hole (join_items c i is)
    join_items c i (item n is) =
        vars i (before c n) (item (join (i + length (before c n)) n) (join_items c (i + length (before c n) + news n) is))

-- ---- the head of the Program

-- a statement before the first of a Program
abbrev pub headed : Node → Node → Node
headed new (node at kind done) = node at kind done
headed new (node at kind (absent fs)) = node at kind (absent fs)
headed new (node at kind (field (one n) fs)) = node at kind (field (one n) fs)
headed new (node at kind (field (list is) fs)) = node at kind (field (list (item new is)) fs)
headed new (node at kind (field (text bs) fs)) = node at kind (field (text bs) fs)
headed new (node at kind (field (byte b) fs)) = node at kind (field (byte b) fs)
headed new (node at kind (field (mark m) fs)) = node at kind (field (mark m) fs)
headed new (node at kind (field (number n) fs)) = node at kind (field (number n) fs)

-- with a `const` at the head, if there are excluded keys; it comes first, and takes the first of the free marks
abbrev pub joined_by : (ℕ → ℕ) → List Entry → Items → Node → Node
joined_by free es Items.none n = join free es 0 n
joined_by free es (hole is) n = headed (declaration 3 (free 0) (hole is)) (join free es 1 n)
joined_by free es (item d is) n = headed (declaration 3 (free 0) (item d is)) (join free es 1 n)

-- the joined tree, where those marks are taken
unfoldable pub joined_tree : List ℕ → Node → Handed → Node
joined_tree taken n h = joined_by (fresh taken) h.entries h.excluded n
