-- `vectors::joined::within` is safe. A part's length is its count, since the count is at most the whole's length.
use Rattle.std.proofs.Common.{length-take-le, rules}
use Rattle.vectors.proofs.joined.within.Goals as goal

pub slice_bounds-judged-end : goal.slice_bounds-judged-end
slice_bounds-judged-end c = search (rules, length-take-le)
