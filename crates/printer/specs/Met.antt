-- What the first pass meets: what was found of a sort, and what is kept of it.
use Rattle.std.specs.Prelude.{ℕ, ◌+◌, ◌-◌, ◌*◌, ◌/◌, ◌%◌, ◌<◌, ◌≤◌, ◌≡◌, List, [], ◌∷◌, Bool, true, false, cond, eqb, length, get_or, set, Option, Some, None, IfSome}
use Rattle.tree.specs.Grammar.{Sort}
use Rattle.tree.specs.Read.{Got, byte_at}
use Rattle.rewritten.specs.Events.{Event}
use Rattle.rewritten.specs.Steps.{coming_piece, coming_node}
use Rattle.rewritten.specs.Look.{Ahead, Coded, deeper, new_for, noted_for}
use Rattle.rewritten.specs.declared.step.Cursor.{Cursor}

-- a number by its parts: a code, what stands above it, and a node's byte
abbrev pub number_of : ℕ → ℕ → ℕ → ℕ
number_of code n note = code + 16 * (n + 65536 * note)

-- ---- leaves

-- what `look` finds of a node of one text, and of one of a byte and two texts
abbrev pub one_text : ℕ
one_text = 10753

abbrev pub byte_and_texts : ℕ
byte_and_texts = 11285311585

-- the kind of a name by its code
abbrev pub name_kind : ℕ → ℕ
name_kind code = get_or (18 ∷ 19 ∷ 38 ∷ []) (code - 10) 0

-- r is the code of a leaf, if it is one
pub record Leafed (kind map what : ℕ) (r : Option ℕ) : Type 0 where
  pub name : (code : ℕ) → r ≡ Some code → (code ≡ 13 → ⊥) → (kind ≡ name_kind code) × (map ≡ 1) × (what ≡ one_text) × (9 < code) × (code < 13)
  pub literal : r ≡ Some 13 → (kind ≡ 22) × (map ≡ 7) × (what ≡ byte_and_texts)

-- ---- where the tour stands then

-- further on in the tree, if it is: what is left, with a byte for each frame that is open, falls
abbrev pub Moved : List ℕ → ℕ → ℕ → Option Cursor → Type 0
Moved tree at deep r = IfSome r (λ d. (d.at ≤ length tree) × (at + d.deep < d.at + deep))

-- ---- what was found: nothing, and there is no cursor; or something, and then

pub record Met (tree : List ℕ) (at : ℕ) (pending : ℕ → List ℕ → ℕ → Got (List Event)) (code : ℕ) (then : ℕ → Type 0) (r : Option Cursor) : Type 0 where
  pub what : ℕ
  pub is : (rest : ℕ) → Ahead tree at rest (λ frames deep. pending rest frames deep) what
  pub coded : Coded code what
  pub none : what ≡ 0 → r ≡ None
  pub some : (what ≡ 0 → ⊥) → then what

-- a field of a sort
abbrev pub MetField : List ℕ → Sort → ℕ → ℕ → (ℕ → Type 0) → Option Cursor → Type 0
MetField tree s at code then r = Met tree at (λ rest frames deep. coming_piece tree frames s at deep rest) code then r

-- a node at a place
abbrev pub MetNode : List ℕ → ℕ → ℕ → (ℕ → Type 0) → Option Cursor → Type 0
MetNode tree place at then r = Met tree at (λ rest frames deep. coming_node tree frames place at deep rest) 1 then r

-- ---- and then: where the tour stands, and what the arrays are

-- a text, a number or a mark has one number more
pub record Leaf (log later : List ℕ) (count v end deep rest : ℕ) (r : Option Cursor) : Type 0 where
  pub cursor : r ≡ Some (record { at = end; deep = deep; top = rest })
  pub logged : later ≡ set log count v

-- a node or a list begins
pub record Begun (frames frames' stack stack' log later : List ℕ) (count v end deep rest top : ℕ) (r : Option Cursor) : Type 0 where
  pub cursor : r ≡ Some (record { at = end; deep = deeper frames deep; top = top })
  pub framed : frames' ≡ set frames deep rest
  pub placed : stack' ≡ set stack deep count
  pub logged : later ≡ set log count v

-- a leaf from its begin to its end: its frame was open
pub record Whole (frames frames' log later : List ℕ) (count v end deep rest : ℕ) (r : Option Cursor) : Type 0 where
  pub cursor : r ≡ Some (record { at = end; deep = deep; top = rest })
  pub framed : frames' ≡ set frames deep rest
  pub logged : later ≡ set log count v

-- a name's text
abbrev pub MetName : List ℕ → List ℕ → List ℕ → List ℕ → List ℕ → ℕ → ℕ → ℕ → ℕ → ℕ → Option Cursor → Type 0
MetName tree frames frames' log later code at deep rest count r = MetField tree Sort.text at 3 (λ what. Whole frames frames' log later count (number_of code (at % 65536) 0) (at + 2 + what / 16) deep rest r) r

-- a Literal's byte, and its texts
abbrev pub MetLiteral : List ℕ → List ℕ → List ℕ → List ℕ → List ℕ → ℕ → ℕ → ℕ → ℕ → Option Cursor → Type 0
MetLiteral tree frames frames' log later at deep rest count r =
    MetField tree (Sort.byte 1 6) at 5
    (λ b. MetField tree Sort.text (at + 1) 3
    (λ first. MetField tree Sort.text (at + 3 + first / 16) 3
    (λ second. Whole frames frames' log later count (number_of 13 ((at + 1) % 65536) (b / 16 % 256)) (at + 3 + first / 16 + 2 + second / 16) deep rest r)
    r)
    r)
    r

-- a node: a leaf by its code, or not
pub record NodeMet (tree frames frames' stack stack' log later : List ℕ) (at deep rest count what : ℕ) (r : Option Cursor) : Type 0 where
  pub code : Option ℕ
  pub leaf : Leafed (byte_at tree at) (byte_at tree (at + 1)) what code
  pub begun : code ≡ None → Begun frames frames' stack stack' log later count (number_of 1 (byte_at tree at % 64 + 64 * (byte_at tree (at + 1) % 256)) 0) (at + 2) deep rest (what / 16 * 2) r
  pub name : (k : ℕ) → code ≡ Some k → (k ≡ 13 → ⊥) → (stack' ≡ stack) × MetName tree frames frames' log later k (at + 2) deep rest count r
  pub literal : code ≡ Some 13 → (stack' ≡ stack) × MetLiteral tree frames frames' log later (at + 2) deep rest count r

-- a byte goes into the number of its node: at the depth of what is open stands the place of its number
abbrev pub with_byte : ℕ → ℕ → ℕ
with_byte v b = v % 1048576 + 1048576 * (b % 256)

abbrev pub byte_noted : List ℕ → List ℕ → ℕ → ℕ → List ℕ
byte_noted stack log deep b = cond (eqb deep 0) log (set log (get_or stack (deep - 1) 0) (with_byte (get_or log (get_or stack (deep - 1) 0) 0) b))

-- a mark that was met before is refused
pub record MarkMet (seen seen' log later : List ℕ) (at deep rest count what : ℕ) (r : Option Cursor) : Type 0 where
  pub new : Bool
  pub is : new ≡ new_for seen (what % 16) (what / 16)
  pub twice : new ≡ false → r ≡ None
  pub cursor : new ≡ true → r ≡ Some (record { at = at + 2; deep = deep; top = rest })
  pub noted : new ≡ true → seen' ≡ noted_for seen (what % 16) (what / 16)
  pub logged : new ≡ true → later ≡ set log count 4
