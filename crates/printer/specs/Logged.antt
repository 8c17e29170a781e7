-- The entries of a tree as a list of numbers (src/entries.rt), and what the second pass has from the first.
use Rattle.std.specs.Prelude.{ℕ, zero, suc, ◌+◌, ◌-◌, ◌/◌, ◌%◌, ◌<◌, ◌≤◌, ◌≡◌, List, [], ◌∷◌, ◌++◌, cond, eqb, length, get_or, Option, Some, is_some}
use Rattle.tree.specs.Tree.{Node}
use Rattle.tree.specs.Grammar.Stage.{rewritten}
use Rattle.tree.specs.Read.{wide_at, read_tree}
use Rattle.tree.specs.Read.Got.{got}
use Rattle.rewritten.specs.Rewritten.{is_rewritten}
use Rattle.printer.specs.Names.{in_quotes}
use Rattle.printer.specs.Places.{key_name}
use Rattle.printer.specs.Entries.{Entry, entries}
use Rattle.printer.specs.Stacks.{text_at_of, is_empty}

-- ---- a number: a code in the last four binary digits, sixteen digits above it, and a node's byte above those

-- a leaf is one number, from its begin to its end: the code is 10 for a Reference, 11 for a Binding, 12 for a StaticKey, 13 for a
-- Literal of a byte and two texts; p is where its (first) text stands
abbrev pub name_in_of : List ℕ → ℕ → ℕ → ℕ → List Entry
name_in_of tree kind note p = Entry.node kind 1 note ∷ Entry.text (text_at_of tree p) ∷ Entry.ends ∷ []

abbrev pub literal_in : List ℕ → ℕ → ℕ → List Entry
literal_in tree note p = Entry.node 22 7 note ∷ Entry.quiet ∷ Entry.text (text_at_of tree p) ∷ Entry.text (text_at_of tree (p + 2 + wide_at tree p)) ∷ Entry.ends ∷ []

unfoldable pub entries_for : List ℕ → ℕ → ℕ → ℕ → List Entry
entries_for tree code n note =
    get_or
    ((Entry.hole ∷ [])
    ∷ (Entry.node (n % 64) (n / 64 % 256) note ∷ [])
    ∷ (Entry.opens n ∷ [])
    ∷ (Entry.text (text_at_of tree n) ∷ [])
    ∷ (Entry.quiet ∷ [])
    ∷ (Entry.hole ∷ [])
    ∷ (Entry.number n ∷ [])
    ∷ (Entry.hole ∷ [])
    ∷ (Entry.ends ∷ [])
    ∷ (Entry.closes ∷ [])
    ∷ name_in_of tree 18 note n
    ∷ name_in_of tree 19 note n
    ∷ name_in_of tree 38 note n
    ∷ literal_in tree note n
    ∷ [])
    code (Entry.hole ∷ [])

unfoldable pub entries_in : List ℕ → ℕ → List Entry
entries_in tree v = entries_for tree (v % 16) (v / 16 % 65536) (v / 1048576 % 256)

-- those of a leaf
abbrev pub leaf_in : List ℕ → ℕ → ℕ → ℕ → List Entry
leaf_in tree code note p = entries_for tree code p note

-- and what it prints but for what is around it, unless it is a quasi
abbrev pub leaf_text : List ℕ → ℕ → ℕ → List ℕ
leaf_text tree code p =
    cond (eqb code 12) (key_name (text_at_of tree p))
    (cond (eqb code 13) (cond (is_empty (text_at_of tree p)) (in_quotes (text_at_of tree (p + 2 + wide_at tree p))) (text_at_of tree p))
    (text_at_of tree p))

-- ---- a list of numbers

-- the entries of the first n numbers
unfoldable pub entries_to : List ℕ → List ℕ → ℕ → List Entry
entries_to tree log zero = []
entries_to tree log (suc n) = entries_to tree log n ++ entries_in tree (get_or log n 0)

-- how many frames are open after a number, and after the first n
abbrev pub deep_by : ℕ → ℕ → ℕ
deep_by code deep = get_or (deep ∷ (deep + 1) ∷ (deep + 1) ∷ deep ∷ deep ∷ deep ∷ deep ∷ deep ∷ (deep - 1) ∷ (deep - 1) ∷ []) code deep

unfoldable pub deep_to : List ℕ → ℕ → ℕ
deep_to log zero = 0
deep_to log (suc n) = deep_by (get_or log n 0 % 16) (deep_to log n)

-- and how many bytes of the tree they have at least
abbrev pub bytes_by : ℕ → ℕ
bytes_by code = get_or (0 ∷ 2 ∷ 2 ∷ 2 ∷ 0 ∷ 0 ∷ 0 ∷ 0 ∷ 0 ∷ 0 ∷ 2 ∷ 2 ∷ 2 ∷ 2 ∷ []) code 0

unfoldable pub bytes_to : List ℕ → ℕ → ℕ
bytes_to log zero = 0
bytes_to log (suc n) = bytes_to log n + bytes_by (get_or log n 0 % 16)

-- what is closed is open, and a text's position can be held
abbrev pub Allowed : ℕ → ℕ → ℕ → Type 0
Allowed code n deep =
    get_or
    (Unit {0}
    ∷ Unit {0}
    ∷ Unit {0}
    ∷ (n < 65535)
    ∷ Unit {0}
    ∷ Unit {0}
    ∷ Unit {0}
    ∷ Unit {0}
    ∷ (0 < deep)
    ∷ (0 < deep)
    ∷ (n < 65535)
    ∷ (n < 65535)
    ∷ (n < 65535)
    ∷ (n < 65535)
    ∷ [])
    code (Unit {0})

pub record Sound (log : List ℕ) (i : ℕ) : Type 0 where
  pub allowed : Allowed (get_or log i 0 % 16) (get_or log i 0 / 16 % 65536) (deep_to log i)
  pub within : bytes_to log (suc i) ≤ 32768

-- the first n numbers are the tree's entries
pub record Logged (tree log : List ℕ) (n : ℕ) (t : Node) : Type 0 where
  pub entries : entries_to tree log n ≡ entries t
  pub sound : (i : ℕ) → i < n → Sound log i

-- r is how many numbers there are, if the bytes are a rewritten tree
pub record Recorded (tree log : List ℕ) (r : Option ℕ) : Type 0 where
  pub is : is_some r ≡ is_rewritten tree
  pub logged : (n : ℕ) → r ≡ Some n → (t : Node) (q k : ℕ) → read_tree rewritten (length tree) tree ≡ got t q k → Logged tree log n t
