-- What the code has in arrays: frames as numbers, quasis as positions, the text so far.
use Rattle.std.specs.Prelude.{ℕ, zero, suc, ◌+◌, ◌-◌, ◌*◌, ◌/◌, ◌%◌, ◌<◌, ◌≤◌, List, [], ◌∷◌, ◌++◌, Bool, true, false, cond, ltb, eqb, ◌≡◌, length, get_or, set, take, drop}
use Rattle.tree.specs.Read.{wide_at}
use Rattle.printer.specs.Text.{Cell}
use Rattle.printer.specs.Text.Cell.{quasi, stop}
use Rattle.printer.specs.Machine.{Open}
use Rattle.printer.specs.declared.frame.Frame.{Frame}

-- ---- a frame as a number

abbrev pub frame_in : ℕ → Frame
frame_in v = record {
  kind = v % 64;
  map = v / 64 % 256;
  note = v / 64 / 256 % 256;
  how = v / 64 / 256 / 256 / 256 / 4 / 2 % 128;
  seen = v / 64 / 256 / 256 / 256 % 4;
  rem = v / 64 / 256 / 256 % 256;
  list = v / 64 / 256 / 256 / 256 / 4 % 2;
}

abbrev pub next_in : ℕ → ℕ
next_in v = v / 64 / 256 / 256 / 256 / 4 / 2 / 128 % 16777216

unfoldable pub packed_frame : Frame → ℕ → ℕ
packed_frame f x =
    f.kind % 64
    + 64 * (f.map % 256 + 256 * (f.note % 256 + 256 * (f.rem % 256 + 256 * (f.seen % 4 + 4 * (f.list % 2 + 2 * (f.how % 128 + 128 * (x % 16777216)))))))

abbrev pub open_in : ℕ → Open
open_in v = record { frame = frame_in v; next = next_in v }

-- the first n numbers of a stack, the last first
unfoldable pub opens_in : List ℕ → ℕ → List Open
opens_in stack zero = []
opens_in stack (suc n) = open_in (get_or stack n 0) ∷ opens_in stack n

-- ---- texts by their position: a length and so many bytes

unfoldable pub text_at_of : List ℕ → ℕ → List ℕ
text_at_of tree p = take (wide_at tree p) (drop (p + 2) tree)

-- quasis: a position from 1 on; a stop is 0
abbrev pub cell_in_of : List ℕ → ℕ → Cell
cell_in_of tree zero = stop
cell_in_of tree (suc p) = quasi (text_at_of tree p)

unfoldable pub held_in : List ℕ → List ℕ → ℕ → List Cell
held_in tree starts zero = []
held_in tree starts (suc n) = held_in tree starts n ++ (cell_in_of tree (get_or starts n 0) ∷ [])

-- ---- the bytes of a number, the lowest first

unfoldable pub bytes_from : ℕ → ℕ → List ℕ
bytes_from zero w = []
bytes_from (suc f) w = elim (eqb w 0) [ true ↦ [] | false ↦ (w % 256) ∷ bytes_from f (w / 256) ]

unfoldable pub bytes_in : ℕ → List ℕ
bytes_in w = bytes_from w w

abbrev pub is_empty : List ℕ → Bool
is_empty [] = true
is_empty (b ∷ bs) = false

-- the end of a part of a list: what is past the list's end does not count
pub record EndIs (l : List ℕ) (at n r : ℕ) : Type 0 where
  pub low : at ≤ r
  pub inside : at < r → r ≤ length l
  pub same : take (r - at) (drop at l) ≡ take n (drop at l)

-- ---- the text so far: what fits of it is written, and whether all did

pub record Buffer : Type 0 where
  pub bytes : List ℕ
  pub len : ℕ
  pub over : Bool

unfoldable pub put : Buffer → ℕ → Buffer
put b x =
    cond b.over b
    (cond (ltb b.len (length b.bytes))
    (record { bytes = set b.bytes b.len x; len = b.len + 1; over = false })
    (record { bytes = b.bytes; len = b.len; over = true }))

unfoldable pub write : Buffer → List ℕ → Buffer
write b [] = b
write b (x ∷ xs) = write (put b x) xs

-- how many bytes are written, or more than the length: there was no room for more
abbrev pub buffer_in : List ℕ → ℕ → Buffer
buffer_in bytes s = record { bytes = bytes; len = cond (ltb (length bytes) s) (length bytes) s; over = ltb (length bytes) s }
