-- What a step of the code does, in terms of the pass.
use Rattle.std.specs.Prelude.{ℕ, zero, suc, ◌+◌, ◌<◌, ◌≤◌, ◌≡◌, List, [], ◌∷◌, ◌++◌, cond, ltb, length, get_or, Option, Some, None}
use Rattle.printer.specs.Text.{Cell, outside}
use Rattle.printer.specs.Machine.{Printing}
use Rattle.printer.specs.Stacks.{frame_in, next_in, packed_frame, opens_in, held_in, Buffer, write}
use Rattle.printer.specs.declared.frame.Frame.{Frame}
use Rattle.printer.specs.declared.print.State.{State}

-- where the quasi with a place stands, both counted from 1; 0 if there is none
abbrev pub start_of : List ℕ → ℕ → ℕ → ℕ
start_of starts count zero = 0
start_of starts count (suc i) = cond (ltb i count) (get_or starts i 0) 0

-- a position as one more, and none as 0
abbrev pub counted : Option ℕ → ℕ
counted None = 0
counted (Some p) = p + 1

-- the state of the pass that the code has in its arrays; what was written is kept apart
abbrev pub state_in : List ℕ → List ℕ → List ℕ → State → Printing
state_in tree stack starts s = record {
  top = frame_in s.top;
  next = next_in s.top;
  stack = opens_in stack s.level;
  held = held_in tree starts s.count;
  out = [];
}

abbrev pub unwritten : Printing → Printing
unwritten t = record { top = t.top; next = t.next; stack = t.stack; held = t.held; out = [] }

-- nothing is written
abbrev pub empty : ℕ
empty = 0

-- around the Program
abbrev pub start : State
start = record { top = packed_frame outside 0; level = 0; count = 0; spot = empty }

-- another frame, and more is written
abbrev pub moved : State → ℕ → ℕ → State
moved s top spot = record { top = top; level = s.level; count = s.count; spot = spot }

-- a frame and a place fit into a number
pub record Small (f : Frame) (x : ℕ) : Type 0 where
  pub kind : f.kind < 64
  pub map : f.map < 256
  pub note : f.note < 256
  pub how : f.how < 128
  pub seen : f.seen < 4
  pub rem : f.rem < 256
  pub list : f.list < 2
  pub next : x < 16777216

-- what a number with a code wants, n being what stands above the code: places left in the arrays, something open where it closes,
-- and a position that can be held
abbrev pub Ready : List ℕ → List ℕ → State → ℕ → ℕ → Type 0
Ready stack starts s code n =
    get_or
    (Unit {0}
    ∷ (s.level < length stack)
    ∷ (s.level < length stack)
    ∷ ((n < 65535) × (s.count < length starts))
    ∷ Unit {0}
    ∷ Unit {0}
    ∷ Unit {0}
    ∷ Unit {0}
    ∷ (0 < s.level)
    ∷ ((0 < s.level) × (s.count < length starts))
    ∷ ((n < 65535) × (s.count < length starts))
    ∷ ((n < 65535) × (s.count < length starts))
    ∷ ((n < 65535) × (s.count < length starts))
    ∷ ((n < 65535) × (s.count < length starts))
    ∷ [])
    code (Unit {0})

-- how many quasis and stops are held after it at most
abbrev pub count_by : ℕ → ℕ → ℕ
count_by code n = get_or (n ∷ n ∷ n ∷ (n + 1) ∷ n ∷ n ∷ n ∷ n ∷ n ∷ (n + 1) ∷ (n + 1) ∷ (n + 1) ∷ (n + 1) ∷ (n + 1) ∷ []) code n

-- more is held, at most one cell
pub record Kept (tree starts starts' : List ℕ) (count r : ℕ) (more : List Cell) : Type 0 where
  pub few : r ≤ count + 1
  pub cells : held_in tree starts' r ≡ held_in tree starts count ++ more

-- r is the state t of the pass, and its text is written
pub record Turned (tree stack starts : List ℕ) (before after : Buffer) (r : State) (t : Printing) (deep most : ℕ) : Type 0 where
  pub state : state_in tree stack starts r ≡ unwritten t
  pub wrote : after ≡ write before t.out
  pub level : r.level ≡ deep
  pub count : r.count ≤ most
