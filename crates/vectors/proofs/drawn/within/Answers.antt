-- `vectors::drawn::within` is safe. A part's length is its count, since the count is at most the whole's length.
use Rattle.std.proofs.Common.{length-take-le, rules}
use Rattle.vectors.proofs.drawn.within.Goals as goal

pub slice_bounds-drawn-end : goal.slice_bounds-drawn-end
slice_bounds-drawn-end c = search (rules, length-take-le)
