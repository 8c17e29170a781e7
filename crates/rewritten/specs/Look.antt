-- What stands next in the innermost task, as a code and a number (src/look.rt), and the step that it is.
use Rattle.std.specs.Prelude.{ℕ, ◌+◌, ◌-◌, ◌*◌, ◌/◌, ◌%◌, ◌<◌, ◌≤◌, ◌≡◌, List, [], ◌∷◌, Bool, true, cond, eqb, ltb, length, get_or, set}
use Rattle.tree.specs.Grammar.{Sort}
use Rattle.tree.specs.Read.{Got, byte_at, chosen_place}
use Rattle.tree.specs.Read.Got.{got, refused}
use Rattle.tree.specs.Read.Refusal.{not_a_tree}
use Rattle.rewritten.specs.Events.{Event}
use Rattle.rewritten.specs.Pending.{piece_comes}
use Rattle.rewritten.specs.Steps.{event_in, Stands, deep_after, frames_after, Took}
use Rattle.rewritten.specs.declared.step.Cursor.{Cursor}
use Rattle.rewritten.specs.declared.step.Event as told
use Rattle.rewritten.specs.declared.step.Event.TheVariants.{Begins, Opens, Hole, Text, Byte, Mark, Number}
use Rattle.rewritten.specs.declared.step.Step.{Step}
use Rattle.rewritten.specs.declared.step.Step.TheVariants.{Next, Refused, Full}

-- ---- tasks as numbers

-- nothing is left
abbrev pub is_closed : ℕ → Bool
is_closed top = cond (eqb (top % 2) 0) (eqb top 0) (ltb top 128)

-- what is left after the next field or item
abbrev pub rest_of : ℕ → ℕ
rest_of top = cond (eqb (top % 2) 0) (top / 2 / 1024 * 2) ((top / 2 - 64) * 2 + 1)

-- the place of the node that comes next, or 33: something else does
unfoldable pub place_next : List ℕ → ℕ → ℕ → ℕ
place_next tree at top =
    cond (eqb (top % 2) 1)
    (cond (eqb (top / 2 % 2) 1) (cond (eqb (byte_at tree at) 0) 33 (top / 4 % 32)) (top / 4 % 32))
    (cond (eqb (top / 64 % 16) 1) (top / 2 % 32)
    (cond (eqb (top / 64 % 16) 2) (chosen_place tree (top / 2 % 32) (top / 2 % 32 + 1) at) 33))

-- ---- a field that holds no node

-- the event that it is and the position after it
pub data Leaf : Type 0 where
  found : told.Event → ℕ → Leaf
  missing : Leaf

abbrev pub LeafSo : List ℕ → Sort → ℕ → Leaf → Type 0
LeafSo tree s at (found e q) =
    (piece_comes tree s at 1 ≡ got (event_in tree e ∷ []) q 1)
    × Stands tree at e q
    × (at < q)
    × (q ≤ length tree)
    × ((deep : ℕ) → deep_after e deep ≡ deep)
    × ((deep rest : ℕ) (frames : List ℕ) → frames_after e deep rest frames ≡ frames)
LeafSo tree s at missing = piece_comes tree s at 1 ≡ refused not_a_tree

pub record LeafIs (tree : List ℕ) (s : Sort) (at : ℕ) (r : Leaf) : Type 0 where
  pub so : LeafSo tree s at r

abbrev pub step_after : Leaf → ℕ → ℕ → Step
step_after (found e q) deep rest = Next e (record { at = q; deep = deep; top = rest })
step_after missing deep rest = Refused

-- ---- a code and a number

abbrev pub leaf_for : ℕ → ℕ → ℕ → Leaf
leaf_for at code n =
    get_or
    (missing
    ∷ missing
    ∷ missing
    ∷ found (Text (at + 2) n) (at + 2 + n)
    ∷ found (Mark n) (at + 2)
    ∷ found (Byte n) (at + 1)
    ∷ found (Number n) (at + 2)
    ∷ found Hole (at + 1)
    ∷ [])
    code missing

abbrev pub event_for : List ℕ → ℕ → ℕ → ℕ → told.Event
event_for tree at code n =
    get_or
    (Hole
    ∷ Begins at (byte_at tree at) (byte_at tree (at + 1))
    ∷ Opens (n / 64)
    ∷ Text (at + 2) n
    ∷ Mark n
    ∷ Byte n
    ∷ Number n
    ∷ [])
    code Hole

-- where it ends
abbrev pub end_for : ℕ → ℕ → ℕ → ℕ
end_for at code n = get_or ((at + 1) ∷ (at + 2) ∷ (at + 2) ∷ (at + 2 + n) ∷ (at + 2) ∷ (at + 1) ∷ (at + 2) ∷ []) code (at + 1)

-- one frame more, if there is one
abbrev pub deeper : List ℕ → ℕ → ℕ
deeper frames deep = cond (ltb deep (length frames)) (deep + 1) deep

abbrev pub cursor_for : List ℕ → ℕ → ℕ → ℕ → ℕ → ℕ → Cursor
cursor_for frames at deep rest code n = record {
  at = end_for at code n;
  deep = get_or (deep ∷ deeper frames deep ∷ deeper frames deep ∷ []) code deep;
  top = get_or (rest ∷ (n * 2) ∷ (n * 2 + 1) ∷ []) code rest;
}

abbrev pub frames_for : List ℕ → ℕ → ℕ → ℕ → List ℕ
frames_for frames deep rest code = get_or (frames ∷ set frames deep rest ∷ set frames deep rest ∷ []) code frames

abbrev pub next_for : List ℕ → List ℕ → ℕ → ℕ → ℕ → ℕ → ℕ → Step
next_for tree frames at deep rest code n = Next (event_for tree at code n) (cursor_for frames at deep rest code n)

abbrev pub step_for : List ℕ → List ℕ → ℕ → ℕ → ℕ → ℕ → ℕ → Step
step_for tree frames at deep rest code n =
    get_or
    (Refused
    ∷ cond (ltb deep (length frames)) (next_for tree frames at deep rest 1 n) Full
    ∷ cond (ltb deep (length frames)) (next_for tree frames at deep rest 2 n) Full
    ∷ next_for tree frames at deep rest 3 n
    ∷ next_for tree frames at deep rest 4 n
    ∷ next_for tree frames at deep rest 5 n
    ∷ next_for tree frames at deep rest 6 n
    ∷ next_for tree frames at deep rest 7 n
    ∷ [])
    code Refused

-- Whatever the frames are: r is the step of what is pending, and ends within the tree if it is an event.
pub record Ahead (tree : List ℕ) (at rest : ℕ) (g : List ℕ → ℕ → Got (List Event)) (r : ℕ) : Type 0 where
  pub so : (frames : List ℕ) (deep : ℕ) → Took tree frames (frames_for frames deep rest (r % 16)) (g frames deep) at deep (step_for tree frames at deep rest (r % 16) (r / 16))
  pub fits : (r % 16 ≡ 0 → ⊥) → end_for at (r % 16) (r / 16) ≤ length tree
  pub low : r % 16 < 8

-- what was found, if anything, has this code
abbrev pub Coded : ℕ → ℕ → Type 0
Coded code r = (r ≡ 0 → ⊥) → r % 16 ≡ code

-- ---- marks

abbrev pub new_for : List ℕ → ℕ → ℕ → Bool
new_for seen code n = cond (eqb code 4) (eqb (get_or seen n 0) 0) true

abbrev pub noted_for : List ℕ → ℕ → ℕ → List ℕ
noted_for seen code n = cond (eqb code 4) (set seen n 1) seen
