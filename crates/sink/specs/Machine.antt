-- The output machine: what each event does to the lent slices and to the numbers beside them.
use Rattle.std.specs.Prelude.{ℕ, Option, Some, None, ◌+◌, ◌-◌, ◌*◌, ◌/◌, ◌%◌, min, Bool, true, false, cond, ◌||◌, List, [], ◌∷◌, eqb, ltb, length, get_or, set, replicate}
use Rattle.std.proofs.Math.Seq.{slice}
use Rattle.sink.specs.declared.Helpers.{Helpers}
use Rattle.sink.specs.declared.Sink.{Sink}
use Rattle.sink.specs.declared.Written.{Written}

pub data Event : Type 0 where
  put : ℕ → Event  -- a byte of the tree
  helper : ℕ → Event  -- the node of a helper
  temporary : ℕ → ℕ → Event  -- the node of the temporary that a cell stands for, with its stem
  new_mark : Event  -- the mark of a new statement
  make : ℕ → Event  -- a new temporary, in a cell
  listed : ℕ → Event  -- a byte of the list
  listed_temporary : ℕ → ℕ → Event  -- a new temporary, in a cell and with its stem, whose node stands in the list
  entry : ℕ → ℕ → Event  -- the head of an entry: a mark, a count of declarators
  excluded : ℕ → Event  -- a byte of the excluded declarators
  excluded_temporary : ℕ → ℕ → Event  -- a new temporary, in a cell and with its stem, whose node stands among them
  declarator : Event  -- the head of an excluded declarator, with both fields

-- the lent slices, and the numbers beside them
pub record State : Type 0 where
  pub out : List ℕ
  pub list : List ℕ
  pub work : List ℕ
  pub sink : Sink

abbrev pub state_of : List ℕ → List ℕ → List ℕ → Sink → State
state_of out list work k = record { out = out; list = list; work = work; sink = k }

-- ---- the parts of a sink, one replaced

abbrev pub with_tree : Sink → ℕ → Sink
with_tree k n = record { tree = n; list = k.list; keys = k.keys; entries = k.entries; declarators = k.declarators; next = k.next; mark = k.mark; helpers = k.helpers }

abbrev pub with_list : Sink → ℕ → Sink
with_list k n = record { tree = k.tree; list = n; keys = k.keys; entries = k.entries; declarators = k.declarators; next = k.next; mark = k.mark; helpers = k.helpers }

abbrev pub with_keys_of : Sink → ℕ → Sink
with_keys_of k n = record { tree = k.tree; list = k.list; keys = n; entries = k.entries; declarators = k.declarators; next = k.next; mark = k.mark; helpers = k.helpers }

abbrev pub with_entries : Sink → ℕ → Sink
with_entries k n = record { tree = k.tree; list = k.list; keys = k.keys; entries = n; declarators = k.declarators; next = k.next; mark = k.mark; helpers = k.helpers }

abbrev pub with_declarators : Sink → ℕ → Sink
with_declarators k n = record { tree = k.tree; list = k.list; keys = k.keys; entries = k.entries; declarators = n; next = k.next; mark = k.mark; helpers = k.helpers }

abbrev pub with_next : Sink → ℕ → Sink
with_next k n = record { tree = k.tree; list = k.list; keys = k.keys; entries = k.entries; declarators = k.declarators; next = n; mark = k.mark; helpers = k.helpers }

abbrev pub with_mark : Sink → ℕ → Sink
with_mark k n = record { tree = k.tree; list = k.list; keys = k.keys; entries = k.entries; declarators = k.declarators; next = k.next; mark = n; helpers = k.helpers }

abbrev pub with_helpers : Sink → Helpers → Sink
with_helpers k h = record { tree = k.tree; list = k.list; keys = k.keys; entries = k.entries; declarators = k.declarators; next = k.next; mark = k.mark; helpers = h }

-- ---- 16-bit numbers, little-endian

unfoldable pub low : ℕ → ℕ
low n = n % 256

unfoldable pub high : ℕ → ℕ
high n = n / 256 % 256

-- the bytes from a position up to another
unfoldable pub part : ℕ → ℕ → List ℕ → List ℕ
part from to l = slice from to l

-- one more, up to a greatest number
unfoldable pub one_more_of : ℕ → ℕ → ℕ
one_more_of greatest n = cond (ltb n greatest) (n + 1) greatest

-- the number at a position, a missing byte being 0
unfoldable pub wide_in : List ℕ → ℕ → ℕ
wide_in l at = get_or l at 0 + 256 * get_or l (at + 1) 0

-- a number written at a position; what is past the end is not written
unfoldable pub set_wide : List ℕ → ℕ → ℕ → List ℕ
set_wide l at n = set (set l at (low n)) (at + 1) (high n)

-- ---- limits, and the parts of the work slice

abbrev pub tree_limit : ℕ
tree_limit = 32768

abbrev pub list_limit : ℕ
list_limit = 16384

-- how many cells there are, two bytes each, from the start of the work slice
abbrev pub cells : ℕ
cells = 16384

-- where the bytes of the excluded declarators start; there are at most listLimit of them
abbrev pub keys_at : ℕ
keys_at = 32768

-- ---- bytes: within the limit a byte is written and counted, past it the count stays one above

unfoldable pub put_tree : State → ℕ → State
put_tree s b =
    cond (ltb s.sink.tree tree_limit)
    (state_of (set s.out s.sink.tree b) s.list s.work (with_tree s.sink (s.sink.tree + 1)))
    (state_of s.out s.list s.work (with_tree s.sink (tree_limit + 1)))

unfoldable pub put_list : State → ℕ → State
put_list s b =
    cond (ltb s.sink.list list_limit)
    (state_of s.out (set s.list s.sink.list b) s.work (with_list s.sink (s.sink.list + 1)))
    (state_of s.out s.list s.work (with_list s.sink (list_limit + 1)))

unfoldable pub put_keys : State → ℕ → State
put_keys s b =
    cond (ltb s.sink.keys list_limit)
    (state_of s.out s.list (set s.work (keys_at + s.sink.keys) b) (with_keys_of s.sink (s.sink.keys + 1)))
    (state_of s.out s.list s.work (with_keys_of s.sink (list_limit + 1)))

-- the head of an entry, whole or not at all
unfoldable pub put_entry : State → ℕ → ℕ → State
put_entry s m n =
    cond (ltb s.sink.list 16381)
    (state_of s.out (set_wide (set_wide s.list s.sink.list m) (s.sink.list + 2) n) s.work (with_list s.sink (s.sink.list + 4)))
    (state_of s.out s.list s.work (with_list s.sink (list_limit + 1)))

-- ---- cells: 0 for a temporary without a number and in no list, below 16384 its number, else where its number will stand:
-- 16384 and a position of the list, or a position of the work slice among the excluded declarators

unfoldable pub cell_of : List ℕ → ℕ → ℕ
cell_of w c = cond (ltb c cells) (wide_in w (2 * c)) 0

unfoldable pub set_cell : List ℕ → ℕ → ℕ → List ℕ
set_cell w c n = cond (ltb c cells) (set_wide w (2 * c) n) w

-- a number that a cell has
unfoldable pub known : ℕ → Bool
known v = cond (ltb 0 v) (ltb v 16384) false

-- a number is written where a cell's temporary stands in the list, or among the excluded declarators
unfoldable pub patch_list : ℕ → ℕ → List ℕ → List ℕ
patch_list v n l = cond (ltb v 16384) l (cond (ltb v 32768) (set_wide l (v - 16384) n) l)

unfoldable pub patch_work : ℕ → ℕ → List ℕ → List ℕ
patch_work v n w = cond (ltb v 32768) w (set_wide w v n)

-- the number of a cell: its own, or the next
unfoldable pub number_of : State → ℕ → ℕ
number_of s c = cond (known (cell_of s.work c)) (cell_of s.work c) s.sink.next

-- a cell without a number takes the next one
unfoldable pub settle : State → ℕ → State
settle s c =
    cond (known (cell_of s.work c)) s
    (state_of s.out (patch_list (cell_of s.work c) s.sink.next s.list)
    (set_cell (patch_work (cell_of s.work c) s.sink.next s.work) c s.sink.next)
    (with_next s.sink (one_more_of 16383 s.sink.next)))

-- what a cell says of a temporary whose node is written from a position on: where its number stands, if it is within the limit
unfoldable pub listed_at : ℕ → ℕ
listed_at at = cond (ltb at 16381) (16384 + (at + 2)) 0

unfoldable pub excluded_at : ℕ → ℕ
excluded_at at = cond (ltb at 16381) (keys_at + (at + 2)) 0

unfoldable pub set_cell_in : State → ℕ → ℕ → State
set_cell_in s c n = state_of s.out s.list (set_cell s.work c n) s.sink

-- ---- helpers

unfoldable pub with_helper : Helpers → ℕ → Helpers
with_helper u h =
    record {
      spread = eqb h 1 || u.spread;
      extends = eqb h 2 || u.extends;
      empty = eqb h 3 || u.empty;
      without = eqb h 4 || u.without;
      key = eqb h 5 || u.key;
    }

-- bit h - 1 for helper h
unfoldable pub mask_of : Helpers → ℕ
mask_of u =
    cond u.spread 1 0
    + (cond u.extends 2 0 + (cond u.empty 4 0 + (cond u.without 8 0 + cond u.key 16 0)))

unfoldable pub use_helper : State → ℕ → State
use_helper s h = state_of s.out s.list s.work (with_helpers s.sink (with_helper s.sink.helpers h))

-- ---- counts

unfoldable pub next_mark : State → State
next_mark s = state_of s.out s.list s.work (with_mark s.sink (one_more_of 65535 s.sink.mark))

unfoldable pub count_entry : State → State
count_entry s = state_of s.out s.list s.work (with_entries s.sink (one_more_of 65535 s.sink.entries))

unfoldable pub count_declarator : State → State
count_declarator s = state_of s.out s.list s.work (with_declarators s.sink (one_more_of 65535 s.sink.declarators))

-- ---- runs of bytes

unfoldable pub all_tree : State → List ℕ → State
all_tree s [] = s
all_tree s (b ∷ bs) = all_tree (put_tree s b) bs

unfoldable pub all_list_of : State → List ℕ → State
all_list_of s [] = s
all_list_of s (b ∷ bs) = all_list_of (put_list s b) bs

unfoldable pub all_keys : State → List ℕ → State
all_keys s [] = s
all_keys s (b ∷ bs) = all_keys (put_keys s b) bs

-- ---- the machine

unfoldable pub step : State → Event → State
step s (put b) = put_tree s b
step s (helper h) = all_tree (use_helper s h) (21 ∷ 1 ∷ h ∷ [])
step s (temporary c stem) = all_tree (settle s c) (20 ∷ 3 ∷ low (number_of s c) ∷ high (number_of s c) ∷ stem ∷ [])
step s new_mark = all_tree (next_mark s) (low s.sink.mark ∷ high s.sink.mark ∷ [])
step s (make c) = set_cell_in s c 0
step s (listed b) = put_list s b
step s (listed_temporary c stem) = all_list_of (set_cell_in s c (listed_at s.sink.list)) (20 ∷ 3 ∷ 0 ∷ 0 ∷ stem ∷ [])
step s (entry m n) = put_entry (count_entry s) m n
step s (excluded b) = put_keys s b
step s (excluded_temporary c stem) = all_keys (set_cell_in s c (excluded_at s.sink.keys)) (20 ∷ 3 ∷ 0 ∷ 0 ∷ stem ∷ [])
step s declarator = all_keys (count_declarator s) (5 ∷ 3 ∷ [])

unfoldable pub steps : State → List Event → State
steps s [] = s
steps s (e ∷ es) = steps (step s e) es

-- bytes as events
unfoldable pub puts : List ℕ → List Event
puts [] = []
puts (b ∷ bs) = put b ∷ puts bs

unfoldable pub lists : List ℕ → List Event
lists [] = []
lists (b ∷ bs) = listed b ∷ lists bs

unfoldable pub excludes : List ℕ → List Event
excludes [] = []
excludes (b ∷ bs) = excluded b ∷ excludes bs

-- ---- beginning and end

abbrev pub no_helpers : Helpers
no_helpers = record { spread = false; extends = false; empty = false; without = false; key = false }

-- all bytes 0, the list's first two kept for the count of entries, and the next mark m
unfoldable pub start : ℕ → ℕ → ℕ → ℕ → State
start a b w m =
    state_of (replicate a 0) (replicate b 0) (replicate w 0)
    (record { tree = 0; list = 2; keys = 0; entries = 0; declarators = 0; next = 1; mark = m; helpers = no_helpers })

-- the list's count of entries goes into its first two bytes, and the excluded declarators after the entries
unfoldable pub closed : State → State
closed s =
    cond (ltb s.sink.keys (list_limit + 1))
    (all_list_of (state_of s.out (set_wide s.list 0 s.sink.entries) s.work s.sink)
    (low s.sink.declarators ∷ high s.sink.declarators ∷ part keys_at (keys_at + s.sink.keys) s.work))
    (state_of s.out s.list s.work (with_list s.sink (list_limit + 1)))

-- what is said of the lent slices at the end: whether tree and list fit, the helper mask, both lengths
pub record Handed : Type 0 where
  pub fits : Bool
  pub helpers : ℕ
  pub tree : ℕ
  pub list : ℕ

abbrev pub handed_of : Option Written → Handed
handed_of None = record { fits = false; helpers = 0; tree = 0; list = 0 }
handed_of (Some w) = record { fits = true; helpers = w.helpers; tree = w.tree; list = w.list }

-- the lent slices at the end, and what is said of them
pub record Ended : Type 0 where
  pub out : List ℕ
  pub list : List ℕ
  pub work : List ℕ
  pub written : Handed

abbrev pub end_of : List ℕ → List ℕ → List ℕ → Handed → Ended
end_of out list work r = record { out = out; list = list; work = work; written = r }

-- a length above its limit or its slice
unfoldable pub over : ℕ → ℕ → ℕ → Bool
over limit slice n = ltb (min limit slice) n

-- nothing is handed back
unfoldable pub nothing : ℕ → ℕ → ℕ → Ended
nothing a b w = end_of (replicate a 0) (replicate b 0) (replicate w 0) (record { fits = false; helpers = 0; tree = 0; list = 0 })

unfoldable pub ended : State → Ended
ended s =
    cond (over tree_limit (length s.out) s.sink.tree || over list_limit (length s.list) s.sink.list)
    (nothing (length s.out) (length s.list) (length s.work))
    (end_of s.out s.list (replicate (length s.work) 0)
    (record { fits = true; helpers = mask_of s.sink.helpers; tree = s.sink.tree; list = s.sink.list }))

unfoldable pub finished : State → Ended
finished s = ended (closed s)
