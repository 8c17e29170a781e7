-- What the reader answers while it writes notes, and what it leaves in the slice that it writes.
use Rattle.std.specs.Prelude.{ℕ, ◌+◌, ◌≡◌, Bool, false, cond, List, eqb, length, Result, Ok, Err}
use Rattle.tree.specs.Tree.{Node}
use Rattle.tree.specs.Grammar.Stage.{input}
use Rattle.tree.specs.Read.{Got, read_tree}
use Rattle.tree.specs.Read.Got.{got, refused}
use Rattle.tree.specs.Answer.{Answers}
use Rattle.tree.specs.Note.{Noting, noted, note_node, zeros, filled}
use Rattle.tree.specs.declared.read.Reading.{Reading}
use Rattle.tree.specs.declared.read.Refusal.{Refusal}
use Rattle.tree.specs.declared.read.Part.{Part}

-- a field without a node, with something met before it or not
abbrev pub leaf_of : Result Reading Refusal → Bool → Result Part Refusal
leaf_of (Ok x) b = Ok (record { end = x.end; mark = x.mark; loud = b })
leaf_of (Err e) b = Err e

-- the answer, whatever was met
abbrev pub plain : Result Part Refusal → Result Reading Refusal
plain (Ok p) = Ok (record { end = p.end; mark = p.mark })
plain (Err e) = Err e

-- r answers what the definition gives; and where it was read, the pass that notes it ends with these notes, where r says, and met what r says
pub record Told {A : Type 0} (r : Result Part Refusal) (g : Got A) (notes : List ℕ) (t : Noting) : Type 0 where
  pub answers : Answers (plain r) g
  pub writes : (p : Part) → r ≡ Ok p → noted notes p.end p.loud ≡ t

-- the same of the whole input
pub record ReadWhole (d : ℕ) (tree : List ℕ) (r : Result Reading Refusal) (before after : List ℕ) : Type 0 where
  pub answers : Answers r (read_tree input d tree)
  pub writes : (x : Reading) → r ≡ Ok x → after ≡ (note_node tree d (noted before 0 false)).notes

-- a slice that a tree is read into: the tree and its notes, or zeros, if it is twice as long as the tree
unfoldable pub read_into : Got Node → ℕ → List ℕ → List ℕ → List ℕ
read_into (got n q k) d tree room = filled d tree room
read_into (refused r) d tree room = cond (eqb (length room) (length tree + length tree)) (zeros room) room
