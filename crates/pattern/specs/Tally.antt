-- Counts as the code has them, and sums of them over lists of nodes.
use Rattle.std.specs.Prelude.{ℕ, ◌+◌, min}
use Rattle.tree.specs.Tree.{Node, Items}
use Rattle.tree.specs.Tree.Items.{none, hole, item}
use Rattle.lowering.specs.Parts.{or_else}
use Rattle.pattern.specs.declared.tally.Tally.{Tally}
use Rattle.pattern.specs.Refusals.{refusal_number}

-- a count, 65536 for any larger
unfoldable pub limited : ℕ → ℕ
limited n = min n 65536

-- what a tally holds, the first refusal by its number
pub record Totals : Type 0 where
  pub excluded : ℕ
  pub temporaries : ℕ
  pub computed : ℕ
  pub refusal : ℕ
  pub objects : ℕ
  pub patterns : ℕ

abbrev pub tally_values : Tally → Totals
tally_values t =
    record {
      excluded = t.excluded;
      temporaries = t.temporaries;
      computed = t.computed;
      refusal = refusal_number t.refusal;
      objects = t.objects;
      patterns = t.patterns;
    }

-- nothing is counted
abbrev pub no_tally : Totals
no_tally = record { excluded = 0; temporaries = 0; computed = 0; refusal = 0; objects = 0; patterns = 0 }

-- two of them, one behind the other: numbers are added, and the first refusal is that of both
unfoldable pub both : Totals → Totals → Totals
both a b =
    record {
      excluded = limited (a.excluded + b.excluded);
      temporaries = limited (a.temporaries + b.temporaries);
      computed = limited (a.computed + b.computed);
      refusal = or_else a.refusal b.refusal;
      objects = limited (a.objects + b.objects);
      patterns = limited (a.patterns + b.patterns);
    }

-- what f says of each item, added up; a hole adds nothing
module _ {A : Type 0} (empty : A) (add : A → A → A) (f : Node → A) where
  unfoldable pub sum : Items → A
  sum none = empty
  sum (hole is) = sum is
  sum (item n is) = add (f n) (sum is)
