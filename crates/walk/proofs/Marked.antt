-- The sink's next mark after deeds: it is what `after` says, whatever it was before.
-- Assumes nothing.
use mathlib.Core.Path.{◌≡◌, refl, ap, ◌∙◌}
use mathlib.Core.Bool.{Bool, true, false, cond}
use mathlib.Core.List.{List, [], ◌∷◌}
use Prim.Native.Nat.{ℕ, ◌+◌}
use native.Mathlib.Omega.{arith}
use native.Mathlib.Decide.{dec_lt}
use lib.Dec.{ltb}
use Rattle.sink.specs.Machine.{Event, State, step, steps, put_tree, put_list, put_keys, put_entry, settle, set_cell_in, use_helper, next_mark, count_entry, count_declarator, all_tree, all_list_of, all_keys, one_more_of, known, cell_of}
use Rattle.sink.specs.Machine.Event.{put, helper, temporary, new_mark, make, listed, listed_temporary, entry, excluded, excluded_temporary, declarator}
use Rattle.direct.specs.Events.{Deed, later, after, counted, new_marks}
use Rattle.direct.specs.Events.Deed.{does, refuses}
use Rattle.direct.proofs.Threads.{later_later}
use Rattle.sink.proofs.WaysOut.{more_below, more_at}
use Rattle.outcome.specs.Named.{events_in}

abbrev pub mark_in : State → ℕ
mark_in s = s.sink.mark

-- the mark of one or the other
either : (b : Bool) (s t : State) (m : ℕ) → mark_in s ≡ m → mark_in t ≡ m → mark_in (cond b s t) ≡ m
either true s t m e f = e
either false s t m e f = f

tree_mark : (s : State) (b : ℕ) → mark_in (put_tree s b) ≡ mark_in s
unfolding put_tree
tree_mark s b = either (ltb s.sink.tree 32768) _ _ _ refl refl

list_mark : (s : State) (b : ℕ) → mark_in (put_list s b) ≡ mark_in s
unfolding put_list
list_mark s b = either (ltb s.sink.list 16384) _ _ _ refl refl

keys_mark : (s : State) (b : ℕ) → mark_in (put_keys s b) ≡ mark_in s
unfolding put_keys
keys_mark s b = either (ltb s.sink.keys 16384) _ _ _ refl refl

all_tree_mark : (s : State) (bs : List ℕ) → mark_in (all_tree s bs) ≡ mark_in s
unfolding all_tree
all_tree_mark s [] = refl
all_tree_mark s (b ∷ bs) = all_tree_mark (put_tree s b) bs ∙ tree_mark s b

all_list_mark : (s : State) (bs : List ℕ) → mark_in (all_list_of s bs) ≡ mark_in s
unfolding all_list_of
all_list_mark s [] = refl
all_list_mark s (b ∷ bs) = all_list_mark (put_list s b) bs ∙ list_mark s b

all_keys_mark : (s : State) (bs : List ℕ) → mark_in (all_keys s bs) ≡ mark_in s
unfolding all_keys
all_keys_mark s [] = refl
all_keys_mark s (b ∷ bs) = all_keys_mark (put_keys s b) bs ∙ keys_mark s b

settle_mark : (s : State) (c : ℕ) → mark_in (settle s c) ≡ mark_in s
unfolding settle
settle_mark s c = either (known (cell_of s.work c)) _ _ _ refl refl

entry_mark : (s : State) (m n : ℕ) → mark_in (put_entry s m n) ≡ mark_in s
unfolding put_entry
entry_mark s m n = either (ltb s.sink.list 16381) _ _ _ refl refl

more_mark : (m : ℕ) → one_more_of 65535 m ≡ later m 1
more_mark m =
    elim (dec_lt m 65535) [
      | yes h ↦ (let e : m + 1 ≡ one_more_of 65535 m = more_below 65535 m h in omega (arith, e))
      | no h ↦ (let e : 65535 ≡ one_more_of 65535 m = more_at 65535 m (omega arith) in omega (arith, e))
    ]

pub step_mark : (s : State) (e : Event) → mark_in (step s e) ≡ later (mark_in s) (counted e 0)
unfolding step counted use_helper next_mark set_cell_in count_entry count_declarator
step_mark s (put b) = tree_mark s b
step_mark s (helper h) = all_tree_mark (use_helper s h) _
step_mark s (temporary c stem) = all_tree_mark (settle s c) _ ∙ settle_mark s c
step_mark s new_mark = all_tree_mark (next_mark s) _ ∙ more_mark (mark_in s)
step_mark s (make c) = refl
step_mark s (listed b) = list_mark s b
step_mark s (listed_temporary c stem) = all_list_mark (set_cell_in s c _) _
step_mark s (entry m n) = entry_mark (count_entry s) m n
step_mark s (excluded b) = keys_mark s b
step_mark s (excluded_temporary c stem) = all_keys_mark (set_cell_in s c _) _
step_mark s declarator = all_keys_mark (count_declarator s) _

counted_more : (e : Event) (n : ℕ) → counted e 0 + n ≡ counted e n
unfolding counted
counted_more (put b) n = omega arith
counted_more (helper h) n = omega arith
counted_more (temporary c stem) n = omega arith
counted_more new_mark n = omega arith
counted_more (make c) n = omega arith
counted_more (listed b) n = omega arith
counted_more (listed_temporary c stem) n = omega arith
counted_more (entry m k) n = omega arith
counted_more (excluded b) n = omega arith
counted_more (excluded_temporary c stem) n = omega arith
counted_more declarator n = omega arith

pub mark_after_lem : (s : State) (ds : List Deed) → mark_in (steps s (events_in ds)) ≡ after (mark_in s) ds
unfolding steps events_in new_marks
mark_after_lem s [] = refl
mark_after_lem s (does e ∷ ds) =
    mark_after_lem (step s e) ds
    ∙ ap (λ (m : ℕ). later m (new_marks ds)) (step_mark s e)
    ∙ later_later (mark_in s) (counted e 0) (new_marks ds)
    ∙ ap (λ (n : ℕ). later (mark_in s) n) (counted_more e (new_marks ds))
mark_after_lem s (refuses r ∷ ds) = mark_after_lem s ds
