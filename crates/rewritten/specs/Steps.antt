-- What a step of the tour does, in terms of what is pending.
use Rattle.std.specs.Prelude.{ℕ, zero, suc, ◌+◌, ◌-◌, ◌*◌, ◌^◌, ◌<◌, ◌≤◌, ◌≡◌, List, [], ◌∷◌, Bool, true, false, length, get_or, set, take, drop}
use Rattle.std.proofs.Math.Option.{Option, none, some}
use Rattle.tree.specs.Grammar.{Sort}
use Rattle.tree.specs.Grammar.Sort.{many, gaps}
use Rattle.tree.specs.Rows.{fields_in_of}
use Rattle.tree.specs.Read.{Got, mapped, byte_at, wide_at}
use Rattle.tree.specs.Read.Got.{got, refused}
use Rattle.tree.specs.Read.Refusal.{not_a_tree}
use Rattle.tree.specs.Answer.{got_number}
use Rattle.rewritten.specs.Events.{Event}
use Rattle.rewritten.specs.Events.Event.{begins, ends, opens, closes}
use Rattle.rewritten.specs.Pending.{standing, sorts, and_then, node_comes, piece_comes, pending, items_in, task_of, stack}
use Rattle.rewritten.specs.Pending.Task.{slots}
use Rattle.rewritten.specs.declared.step.Cursor.{Cursor}
use Rattle.rewritten.specs.declared.step.Event as told
use Rattle.rewritten.specs.declared.step.Event.TheVariants.{Begins, Ends, Opens, Closes, Hole, Text, Byte, Mark, Number}
use Rattle.rewritten.specs.declared.step.Step.{Step}
use Rattle.rewritten.specs.declared.step.Step.TheVariants.{Next, Done, Refused, Full}

-- the event that the code tells
abbrev pub event_in : List ℕ → told.Event → Event
event_in tree (Begins at kind map) = begins at kind map
event_in tree Ends = ends
event_in tree (Opens n) = opens n
event_in tree Closes = closes
event_in tree Hole = Event.hole
event_in tree (Text at n) = Event.text (take n (drop at tree))
event_in tree (Byte b) = Event.byte b
event_in tree (Mark n) = Event.mark n
event_in tree (Number n) = Event.number n

-- where an event stands in the bytes: from `at` to q
abbrev pub Stands : List ℕ → ℕ → told.Event → ℕ → Type 0
Stands tree at (Begins p kind map) q = (p ≡ at) × (kind ≡ byte_at tree at) × (map ≡ byte_at tree (at + 1)) × (kind < 64) × (map < 256) × (q ≡ at + 2)
Stands tree at Ends q = q ≡ at
Stands tree at (Opens n) q = (n ≡ wide_at tree at) × (n < 65536) × (q ≡ at + 2)
Stands tree at Closes q = q ≡ at
Stands tree at Hole q = (byte_at tree at ≡ 0) × (q ≡ at + 1)
Stands tree at (Text p n) q = (p ≡ at + 2) × (n ≡ wide_at tree at) × (n < 65536) × (q ≡ p + n)
Stands tree at (Byte b) q = (b ≡ byte_at tree at) × (b < 256) × (q ≡ at + 1)
Stands tree at (Mark n) q = (n ≡ wide_at tree at) × (n < 65536) × (q ≡ at + 2)
Stands tree at (Number n) q = (n ≡ wide_at tree at) × (n < 65536) × (q ≡ at + 2)

-- how many frames are open after it
abbrev pub deep_after : told.Event → ℕ → ℕ
deep_after (Begins p kind map) deep = deep + 1
deep_after Ends deep = deep - 1
deep_after (Opens n) deep = deep + 1
deep_after Closes deep = deep - 1
deep_after Hole deep = deep
deep_after (Text p n) deep = deep
deep_after (Byte b) deep = deep
deep_after (Mark n) deep = deep
deep_after (Number n) deep = deep

-- the frames after it: a node or a list that begins puts the task around it into the next frame
abbrev pub frames_after : told.Event → ℕ → ℕ → List ℕ → List ℕ
frames_after (Begins p kind map) deep rest frames = set frames deep rest
frames_after Ends deep rest frames = frames
frames_after (Opens n) deep rest frames = set frames deep rest
frames_after Closes deep rest frames = frames
frames_after Hole deep rest frames = frames
frames_after (Text p n) deep rest frames = frames
frames_after (Byte b) deep rest frames = frames
frames_after (Mark n) deep rest frames = frames
frames_after (Number n) deep rest frames = frames

-- the fields of the row whose bits stand, as a frame
pub record Planned (row map r : ℕ) : Type 0 where
  pub less : (n : ℕ) → row < 1024 ^ n → r < 1024 ^ n
  pub is : row < 1024 ^ 6 → sorts (fields_in_of r) ≡ standing (fields_in_of row) map

-- where a tour starts: at the root, which is the one node to come (1088 is its frame)
abbrev pub start : Cursor
start = record { at = 0; deep = 0; top = 1088 }

-- what is pending at a cursor
unfoldable pub coming_at : List ℕ → List ℕ → ℕ → ℕ → ℕ → Got (List Event)
coming_at tree frames at deep top = pending tree (task_of top) (stack frames deep) at 1

unfoldable pub coming_fields : List ℕ → List ℕ → ℕ → ℕ → ℕ → Got (List Event)
coming_fields tree frames at deep row = pending tree (slots (sorts (fields_in_of row))) (stack frames deep) at 1

unfoldable pub coming_items : List ℕ → List ℕ → ℕ → ℕ → ℕ → Got (List Event)
coming_items tree frames at deep w = pending tree (items_in w) (stack frames deep) at 1

-- a field, and then the task around it
unfoldable pub coming_piece : List ℕ → List ℕ → Sort → ℕ → ℕ → ℕ → Got (List Event)
coming_piece tree frames s at deep rest = and_then (piece_comes tree s at 1) (λ q j. pending tree (task_of rest) (stack frames deep) q j)

-- a node, and then the task around it
unfoldable pub coming_node : List ℕ → List ℕ → ℕ → ℕ → ℕ → ℕ → Got (List Event)
coming_node tree frames p at deep rest = and_then (node_comes tree p at 1) (λ q j. pending tree (task_of rest) (stack frames deep) q j)

abbrev pub list_sort : Bool → ℕ → Sort
list_sort true p = gaps p
list_sort false p = many p

-- g is the event and what is pending at the cursor; what the cursor has left falls, and an open frame has two bytes
pub record Onward (tree frames later : List ℕ) (g : Got (List Event)) (at deep : ℕ) (e : told.Event) (c : Cursor) : Type 0 where
  pub is : g ≡ mapped (λ es. event_in tree e ∷ es) (coming_at tree later c.at c.deep c.top)
  pub stands : Stands tree at e c.at
  pub level : c.deep ≡ deep_after e deep
  pub rest : ℕ
  pub kept : later ≡ frames_after e deep rest frames
  pub inside : at ≤ length tree → c.at ≤ length tree
  pub room : 2 * deep ≤ at → 2 * c.deep ≤ c.at
  pub falls : at ≤ length tree → (length tree - c.at) + c.deep < (length tree - at) + deep

-- document 01's number of a step: 3 where the bytes are no tree, else 0. It has none for frames that do not suffice
abbrev pub step_number : Step → Option ℕ
step_number (Next e c) = some 0
step_number Done = some 0
step_number Refused = some 3
step_number Full = none

-- its values: the event, and where the tour stands then
abbrev pub step_values : Step → Option (told.Event × Cursor)
step_values (Next e c) = some (e, c)
step_values Done = none
step_values Refused = none
step_values Full = none

-- r is s by its number and its values
pub record StepIs (r s : Step) : Type 0 where
  pub number : step_number r ≡ step_number s
  pub values : step_values r ≡ step_values s

-- what each case says of what is pending
abbrev pub Stepped : List ℕ → List ℕ → List ℕ → Got (List Event) → ℕ → ℕ → Step → Type 0
Stepped tree frames later g at deep (Next e c) = Onward tree frames later g at deep e c
Stepped tree frames later g at deep Done = (g ≡ got [] at 1) × (later ≡ frames)
Stepped tree frames later g at deep Refused = (g ≡ refused not_a_tree) × (later ≡ frames)
Stepped tree frames later g at deep Full = (length frames ≤ deep) × (at + 1 < length tree) × (later ≡ frames)

pub record Took (tree frames later : List ℕ) (g : Got (List Event)) (at deep : ℕ) (r : Step) : Type 0 where
  pub number : (n : ℕ) → step_number r ≡ some (suc n) → got_number g ≡ suc n
  pub so : Stepped tree frames later g at deep r

-- ---- the end of a task

abbrev pub closing_in : Bool → told.Event
closing_in true = Ends
closing_in false = Closes

abbrev pub step_closed : List ℕ → ℕ → ℕ → Bool → Step
step_closed frames at zero node = Done
step_closed frames at (suc n) node = Next (closing_in node) (record { at = at; deep = n; top = get_or frames n 0 })
