-- Patterns as the rules write them: an input pattern seen through a view, and what is done for it.
use Rattle.std.specs.Prelude.{ℕ, Bool, true, false, cond, ◌&&◌, [], ◌∷◌}
use Rattle.tree.specs.Tree.{Node, Items}
use Rattle.tree.specs.Tree.Node.{node}
use Rattle.tree.specs.Tree.Fields.{done, absent, field}
use Rattle.tree.specs.Tree.Piece.{one, list, byte}
use Rattle.tree.specs.Tree.Items.{none, hole, item}
use Rattle.lowering.specs.Parts.{is, change_node}
use Rattle.lowering.specs.Made.{Context}
use Rattle.lowering.specs.Patterns.{replaced_below, with_values}
use Rattle.lowering.specs.Keys.{key_sort, kept_key, taken, entry_of}
use Rattle.sink.specs.Machine.Event.{put, temporary}
use Rattle.direct.specs.Events.{Place, Emit, cell, emits}
use Rattle.direct.specs.Events.Deed.{does}
use Rattle.direct.specs.Emit.{say, ◌▷◌}
use Rattle.lowering.specs.Keys.Entry.{spelt, itself, omitted, saved}

-- ---- lists: what is done for each item; a hole is a zero byte

unfoldable pub each_does : (Node → Emit) → Items → Emit
each_does f none = say []
each_does f (hole is) = say (does (put 0) ∷ []) ▷ each_does f is
each_does f (item n is) = f n ▷ each_does f is

-- the temporary of a stem and a position
unfoldable pub says_cell : ℕ → ℕ → Emit
says_cell stem at = say (does (temporary (cell stem at) stem) ∷ [])

-- ---- the patterns of input, by the parts that stand

abbrev pub object_at : ℕ → Items → Node
object_at at ps = node at 34 (field (list ps) (absent done))

abbrev pub object_rest_at : ℕ → Items → Node → Node
object_rest_at at ps r = node at 34 (field (list ps) (field (one r) done))

abbrev pub property_at : ℕ → Node → Node → ℕ → Node
property_at at k v b = node at 35 (field (one k) (field (one v) (field (byte b) done)))

abbrev pub array_at : ℕ → Items → Node
array_at at is = node at 36 (field (list is) (absent done))

abbrev pub array_rest_at : ℕ → Items → Node → Node
array_rest_at at is r = node at 36 (field (list is) (field (one r) done))

abbrev pub default_at : ℕ → Node → Node → Node
default_at at l r = node at 37 (field (one l) (field (one r) done))

-- ---- views

-- objects with rest replaced; the object's own rest taken, and those below replaced
pub data View : Type 0 where
  replacing taking : View

-- whether an object with rest is written at all
abbrev pub takes : View → Bool
takes replacing = false
takes taking = true

module _ (κ : Context) where
  unfoldable pub viewed : View → Node → Node
  viewed replacing p = replaced_below κ p
  viewed taking p = cond (is 34 p) (taken κ (with_values (λ v. replaced_below κ v) p)) (replaced_below κ p)

  -- a property of an object, whose rest is taken or not
  unfoldable pub viewed_property : Bool → View → Node → Node
  viewed_property true v q = kept_key κ (change_node 1 (viewed v) q)
  viewed_property false v q = change_node 1 (viewed v) q

-- ---- what is done for them. The names of temporaries play no part

abbrev pub nameless : Context
nameless = record { path = []; root = false; statement = false }

unfoldable pub emits_view : Place → View → Node → Emit
emits_view c v p = emits c (viewed nameless v p)

unfoldable pub emits_property : Place → Bool → View → Node → Emit
emits_property c t v q = emits c (viewed_property nameless t v q)

-- whether a key becomes a temporary where the rest is taken
unfoldable pub is_other : Node → Bool
is_other k = elim (entry_of (key_sort k)) [ spelt ↦ false | itself ↦ false | omitted ↦ false | saved ↦ true ]

-- the key k of the property at `at`
unfoldable pub emits_key : Place → Bool → ℕ → Node → Emit
emits_key c t at k = cond (t && is_other k) (says_cell 4 at) (emits c k)
