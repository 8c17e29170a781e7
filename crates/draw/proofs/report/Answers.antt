-- The length that the entry hands back lies within the slice, by its contract.
use mathlib.Core.Path.{sym}
use Prim.Native.Nat.{◌≤◌}
use lib.ListN.{length}
use lib.Seq.{length-take-le}
use Rattle.drawing.proofs.DrawingEntry.{handed_within}
use Rattle.draw.proofs.report.Goals as goal

pub slice_bounds-say_tree-end : goal.slice_bounds-say_tree-end
slice_bounds-say_tree-end c =
    handed_within c.args.seed c.args.out.now _ c.rest_spread_draw-r.result c.rest_spread_draw-r.ensures

pub slice_bounds-say_tree-end-2 : goal.slice_bounds-say_tree-end-2
slice_bounds-say_tree-end-2 c =
    sym (length-take-le _ _ (handed_within c.args.seed c.args.out.now _ c.rest_spread_draw-r.result c.rest_spread_draw-r.ensures))
