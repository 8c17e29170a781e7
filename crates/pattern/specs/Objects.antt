-- Counts over the objects with rest that are found below a pattern.
use Rattle.std.specs.Prelude.{Bool, cond}
use Rattle.tree.specs.Tree.{Node, Items}
use Rattle.lowering.specs.Made.{Context}
use Rattle.lowering.specs.Patterns.{has_rest_of, objects_below}
use Rattle.lowering.specs.Rests.{has_no_properties}
use Rattle.pattern.specs.Tally.{Totals, no_tally, both, sum}
use Rattle.pattern.specs.Keys.{keys_of}

-- an object itself, by whether it has no properties
unfoldable pub object_itself : Bool → Totals
object_itself empty =
    record { excluded = 0; temporaries = 0; computed = 0; refusal = 0; objects = 1; patterns = cond empty 0 1 }

-- an object with rest: its keys and itself
unfoldable pub object_tally : Node → Totals
object_tally p = both (keys_of p) (object_itself (has_no_properties p))

-- what an object pattern adds itself
unfoldable pub own_tally : Node → Totals
own_tally p = cond (has_rest_of p) (object_tally p) no_tally

-- all objects of a list
abbrev pub objects_tally : Items → Totals
objects_tally is = sum no_tally both object_tally is

-- those below a pattern
unfoldable pub rests_tally : Context → Node → Totals
rests_tally c p = objects_tally (objects_below c p)
