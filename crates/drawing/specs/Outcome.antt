-- What the entry hands back, with the slice.
use Rattle.std.specs.Prelude.{ℕ, ◌-◌, cond, Result, Ok, Err, List, ◌++◌, length, replicate, ◌==◌, nat_le}
use Rattle.tree.specs.Tree.{Node, encode}
use Rattle.drawing.specs.Draw.{Drawn, draw_tree}
use Rattle.drawing.specs.Draw.Drawn.{drawn}
use Rattle.drawing.specs.declared.Drawn.{Drawn as Answer}
use Rattle.drawing.specs.declared.Refusal.{Refusal}
use Rattle.drawing.specs.declared.Refusal.TheVariants.{SliceTooShort, ZeroSeed}
use Rattle.drawing.specs.declared.pen.Pen.{Pen}

pub record Handed : Type 0 where
  pub answer : ℕ
  pub next : ℕ
  pub long : ℕ
  pub bytes : List ℕ

abbrev pub handed : Answer → List ℕ → Handed
handed r l = record { answer = r.answer; next = r.next; long = r.tree_len; bytes = l }

-- 8: 'a zero seed, checked before anything else in the generator'
abbrev pub zero_seed : ℕ
zero_seed = 8

-- 7: 'last there, its slice too short'
abbrev pub slice_too_short : ℕ
slice_too_short = 7

abbrev pub number_of : Refusal → ℕ
number_of SliceTooShort = slice_too_short
number_of ZeroSeed = zero_seed

-- the pen behind the tree, or a refusal
abbrev pub told : Result Pen Refusal → List ℕ → Handed
told (Ok pen) l = record { answer = 0; next = pen.state; long = pen.at; bytes = l }
told (Err refusal) l = record { answer = number_of refusal; next = 0; long = 0; bytes = l }

-- a refusal: its number, and zeros
unfoldable pub refused : ℕ → ℕ → Handed
refused size number = record { answer = number; next = 0; long = 0; bytes = replicate size 0 }

-- the tree, then zeros; 7 if it is longer than the slice
unfoldable pub fitted : ℕ → Drawn Node → Handed
fitted size (drawn n s b k) =
    cond (nat_le (length (encode n)) size)
    (record { answer = 0; next = s; long = length (encode n); bytes = encode n ++ replicate (size - length (encode n)) 0 })
    (refused size slice_too_short)

-- 8 for a zero seed comes before anything else
unfoldable pub outcome : ℕ → ℕ → Handed
outcome seed size = cond (seed == 0) (refused size zero_seed) (fitted size (draw_tree seed))
