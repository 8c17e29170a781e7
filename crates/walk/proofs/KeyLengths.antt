-- The string that is promised for a number has at most 16 bytes.
-- Assumes nothing.
use mathlib.Core.List.{List}
use mathlib.Core.Option.{Option, some}
use Prim.Native.Nat.{ℕ, ◌≤◌}
use lib.Dec.{eqb, ltb}
use lib.ListN.{length}
use borrow.Author.Tests.{ltb-false}
use Rattle.tree.specs.Tree.{Node}
use Rattle.lowering.specs.Parts.{text_at_of, number_at}
use Rattle.lowering.specs.Numbers.{Spelling, value_from, spelling_of, string_of, number_string, highest_number}
use Rattle.lowering.specs.Numbers.Spelling.{decimal, hexadecimal, another}
use Rattle.lowering.specs.Keys.{promised}
use Rattle.lowering.proofs.Cases.{by_test}
use Rattle.lowering.proofs.NumberLaws.{string_short}

abbrev pub ShortString : Option (List ℕ) → Type 0
ShortString Option.none = Unit {0}
ShortString (some s) = length s ≤ 16

value_short : (v : ℕ) → ShortString (string_of v)
unfolding string_of
value_short v = by_test (ltb highest_number v) (λ e. rw (e, ShortString) tt) (λ e. rw (e, ShortString) (string_short v (ltb-false highest_number v e)))

spelling_short : (bs : List ℕ) → ShortString (number_string bs)
unfolding number_string
spelling_short bs = go (spelling_of bs)
  where
    go : (x : Spelling) → ShortString (elim x [ decimal ds ↦ string_of (value_from 10 0 ds) | hexadecimal ds ↦ string_of (value_from 16 0 ds) | another ↦ Option.none ])
    go (decimal ds) = value_short (value_from 10 0 ds)
    go (hexadecimal ds) = value_short (value_from 16 0 ds)
    go another = tt

pub promised_short : (k : Node) → ShortString (promised k)
unfolding promised
promised_short k = by_test (eqb (number_at 0 k) 2) (λ e. rw (e, ShortString) (spelling_short (text_at_of 1 k))) (λ e. rw (e, ShortString) tt)
