-- A tree that is full stays full.
-- Assumes nothing.
use mathlib.Core.Bool.{Bool, true, false, cond}
use mathlib.Core.List.{List, [], ◌∷◌}
use Prim.Native.Nat.{ℕ}
use native.Mathlib.Omega.{arith}
use lib.Dec.{ltb}
use borrow.Author.Tests.{le-ltb}
use Rattle.sink.specs.Machine.{Event, State, step, steps, put_tree, put_list, put_keys, put_entry, settle, set_cell_in, use_helper, next_mark, count_entry, count_declarator, all_tree, all_list_of, all_keys, known, cell_of}
use Rattle.sink.specs.Machine.Event.{put, helper, temporary, new_mark, make, listed, listed_temporary, entry, excluded, excluded_temporary, declarator}
use Rattle.walk.specs.Run.{Full}

either : (b : Bool) (s t : State) → Full s → Full t → Full (cond b s t)
either true s t e f = e
either false s t e f = f

tree_full : (s : State) (b : ℕ) → Full s → Full (put_tree s b)
unfolding put_tree
tree_full s b f = rw (le-ltb s.sink.tree 32768 (omega arith)) (omega arith)

list_full : (s : State) (b : ℕ) → Full s → Full (put_list s b)
unfolding put_list
list_full s b f = either (ltb s.sink.list 16384) _ _ f f

keys_full : (s : State) (b : ℕ) → Full s → Full (put_keys s b)
unfolding put_keys
keys_full s b f = either (ltb s.sink.keys 16384) _ _ f f

all_tree_full : (s : State) (bs : List ℕ) → Full s → Full (all_tree s bs)
unfolding all_tree
all_tree_full s [] f = f
all_tree_full s (b ∷ bs) f = all_tree_full (put_tree s b) bs (tree_full s b f)

all_list_full : (s : State) (bs : List ℕ) → Full s → Full (all_list_of s bs)
unfolding all_list_of
all_list_full s [] f = f
all_list_full s (b ∷ bs) f = all_list_full (put_list s b) bs (list_full s b f)

all_keys_full : (s : State) (bs : List ℕ) → Full s → Full (all_keys s bs)
unfolding all_keys
all_keys_full s [] f = f
all_keys_full s (b ∷ bs) f = all_keys_full (put_keys s b) bs (keys_full s b f)

settle_full : (s : State) (c : ℕ) → Full s → Full (settle s c)
unfolding settle
settle_full s c f = either (known (cell_of s.work c)) _ _ f f

entry_full : (s : State) (m n : ℕ) → Full s → Full (put_entry s m n)
unfolding put_entry
entry_full s m n f = either (ltb s.sink.list 16381) _ _ f f

step_full : (s : State) (e : Event) → Full s → Full (step s e)
unfolding step use_helper next_mark set_cell_in count_entry count_declarator
step_full s (put b) f = tree_full s b f
step_full s (helper h) f = all_tree_full (use_helper s h) _ f
step_full s (temporary c stem) f = all_tree_full (settle s c) _ (settle_full s c f)
step_full s new_mark f = all_tree_full (next_mark s) _ f
step_full s (make c) f = f
step_full s (listed b) f = list_full s b f
step_full s (listed_temporary c stem) f = all_list_full (set_cell_in s c _) _ f
step_full s (entry m n) f = entry_full (count_entry s) m n f
step_full s (excluded b) f = keys_full s b f
step_full s (excluded_temporary c stem) f = all_keys_full (set_cell_in s c _) _ f
step_full s declarator f = all_keys_full (count_declarator s) _ f

pub stays_full : (s : State) (es : List Event) → Full s → Full (steps s es)
unfolding steps
stays_full s [] f = f
stays_full s (e ∷ es) f = stays_full (step s e) es (step_full s e f)
