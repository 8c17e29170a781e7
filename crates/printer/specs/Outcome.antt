-- What the entry hands back, with the slice.
use Rattle.std.specs.Prelude.{ℕ, ◌-◌, List, ◌++◌, cond, leb, length, replicate, Result, Ok, Err}
use Rattle.tree.specs.Tree.{Node}
use Rattle.tree.specs.Read.{Got}
use Rattle.tree.specs.Read.Got.{got, refused}
use Rattle.printer.specs.Text.{text_of}
use Rattle.printer.specs.declared.Printed.{Printed}
use Rattle.printer.specs.declared.Refusal.{Refusal}
use Rattle.printer.specs.declared.Refusal.TheVariants.{NotATree, TextTooLong}

pub record Handed : Type 0 where
  pub answer : ℕ
  pub long : ℕ
  pub bytes : List ℕ

abbrev pub handed : Printed → List ℕ → Handed
handed r l = record { answer = r.answer; long = r.text_len; bytes = l }

-- 3: no rewritten tree
abbrev pub not_a_tree : ℕ
not_a_tree = 3

-- 10, after all others: the text is longer than the slice
abbrev pub text_too_long : ℕ
text_too_long = 10

abbrev pub answer_of : Refusal → ℕ
answer_of NotATree = not_a_tree
answer_of TextTooLong = text_too_long

-- the length of the text, or the refusal, as C reads it
abbrev pub printed : Result ℕ Refusal → Printed
printed (Ok n) = record { answer = 0; text_len = n }
printed (Err r) = record { answer = answer_of r; text_len = 0 }

-- a refusal: its number, and zeros
unfoldable pub refusal : ℕ → ℕ → Handed
refusal size number = record { answer = number; long = 0; bytes = replicate size 0 }

-- the text, then zeros
unfoldable pub fitted : ℕ → List ℕ → Handed
fitted size text = cond (leb (length text) size) (record { answer = 0; long = length text; bytes = text ++ replicate (size - length text) 0 }) (refusal size text_too_long)

-- of what was read of the bytes
abbrev pub outcome : Got Node → ℕ → Handed
outcome (got n q k) size = fitted size (text_of n)
outcome (refused r) size = refusal size not_a_tree
