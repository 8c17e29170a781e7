-- The lengths that the entry hands back lie within the slices, by its contract.
use mathlib.Core.Path.{sym}
use lib.Seq.{length-take-le}
use Rattle.rest_spread.proofs.LoweringEntry.{handed_within}
use Rattle.lower.proofs.report.Goals as goal

pub slice_bounds-say_line-end : goal.slice_bounds-say_line-end
slice_bounds-say_line-end c = (handed_within _ _ _ _ _ _ _ _ c.rest_spread_lower-r.ensures).0

pub slice_bounds-say_line-end-2 : goal.slice_bounds-say_line-end-2
slice_bounds-say_line-end-2 c = sym (length-take-le _ _ (handed_within _ _ _ _ _ _ _ _ c.rest_spread_lower-r.ensures).0)

pub slice_bounds-say_line-end-3 : goal.slice_bounds-say_line-end-3
slice_bounds-say_line-end-3 c = (handed_within _ _ _ _ _ _ _ _ c.rest_spread_lower-r.ensures).1

pub slice_bounds-say_line-end-4 : goal.slice_bounds-say_line-end-4
slice_bounds-say_line-end-4 c = sym (length-take-le _ _ (handed_within _ _ _ _ _ _ _ _ c.rest_spread_lower-r.ensures).1)
