-- What events are compared by, as the code works it out.
-- Assumes nothing.
use mathlib.Core.Path.{◌≡◌, ap₂, ◌∙◌}
use mathlib.Core.List.{List}
use Prim.Native.Nat.{ℕ}
use Rattle.rewritten.specs.Steps.{event_in}
use Rattle.rewritten.specs.declared.step.Event as told
use Rattle.std.specs.declared.cmp.Ordering.{Ordering}
use Rattle.ordering.specs.Order.{by_key_of, by_event}
use Rattle.ordering.specs.Sides.{KeyIs, key_in}
use Rattle.ordering.specs.declared.key.Key as told-key

pub event_by : (l m : List ℕ) (e f : told.Event) (k j : told-key.Key) → KeyIs l e k → KeyIs m f j → (r : Ordering) → r ≡ by_key_of (key_in k) (key_in j) → r ≡ by_event (event_in l e) (event_in m f)
unfolding by_event
event_by l m e f k j left right r h = h ∙ ap₂ by_key_of left.is right.is
