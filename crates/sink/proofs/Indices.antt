-- Any run of events, each new temporary named by the index of its making.
-- Assumes nothing.
use mathlib.Core.Path.{◌≡◌, refl, sym, ap, subst, ◌∙◌}
use mathlib.Core.Bool.{Bool, true, ◌||◌}
use mathlib.Core.List.{List, [], ◌∷◌, ◌++◌}
use Prim.Native.Nat.{ℕ, suc, ◌+◌, ◌<◌, ◌≤◌, min}
use native.Mathlib.Omega.{arith}
use borrow.Author.Tests.{lt-ltb}
use Rattle.sink.specs.Machine.{Event, State, start, steps, closed, ended, finished, nothing, over}
use Rattle.sink.specs.Shown.{event_of, events_of, name_each, own_name, tree_tokens, list_tokens, keys_tokens}
use Rattle.sink.proofs.WaysOut.{steps_append}
use Rattle.sink.proofs.Names.{size}
use Rattle.sink.proofs.Lengths.{Long, long_events, long_closed}
use Rattle.sink.proofs.Result.{first_long, ended_long}

pub events_back : (es : List Event) (k : ℕ) → events_of (name_each k es) ≡ es
unfolding events_of event_of name_each
events_back [] k = refl
events_back (Event.put b ∷ es) k = ap (λ (l : List Event). Event.put b ∷ l) (events_back es k)
events_back (Event.helper h ∷ es) k = ap (λ (l : List Event). Event.helper h ∷ l) (events_back es k)
events_back (Event.temporary c stem ∷ es) k = ap (λ (l : List Event). Event.temporary c stem ∷ l) (events_back es k)
events_back (Event.new_mark ∷ es) k = ap (λ (l : List Event). Event.new_mark ∷ l) (events_back es k)
events_back (Event.make c ∷ es) k = ap (λ (l : List Event). Event.make c ∷ l) (events_back es (suc k))
events_back (Event.listed b ∷ es) k = ap (λ (l : List Event). Event.listed b ∷ l) (events_back es k)
events_back (Event.listed_temporary c stem ∷ es) k = ap (λ (l : List Event). Event.listed_temporary c stem ∷ l) (events_back es (suc k))
events_back (Event.entry m n ∷ es) k = ap (λ (l : List Event). Event.entry m n ∷ l) (events_back es k)
events_back (Event.excluded b ∷ es) k = ap (λ (l : List Event). Event.excluded b ∷ l) (events_back es k)
events_back (Event.excluded_temporary c stem ∷ es) k = ap (λ (l : List Event). Event.excluded_temporary c stem ∷ l) (events_back es (suc k))
events_back (Event.declarator ∷ es) k = ap (λ (l : List Event). Event.declarator ∷ l) (events_back es k)

-- ---- a tree past its limit

either_true : (x y : Bool) → x ≡ true → x || y ≡ true
either_true x y e = ap (λ (v : Bool). v || y) e

-- once it is, nothing is handed back, whatever comes after
pub full_nothing : (a b n m : ℕ) (x y : List Event) → 49152 ≤ n → 32768 < (steps (start a b n m) x).sink.tree → finished (steps (start a b n m) (x ++ y)) ≡ nothing a b n
unfolding finished over
full_nothing a b n m x y big h =
    let s : State = steps (start a b n m) x in
    let p : Long a b n (0 + size (tree_tokens own_name m (name_each 0 x))) (2 + size (list_tokens (name_each 0 x))) (0 + size (keys_tokens (name_each 0 x))) s
    = subst (λ (l : List Event). Long a b n (0 + size (tree_tokens own_name m (name_each 0 x))) (2 + size (list_tokens (name_each 0 x))) (0 + size (keys_tokens (name_each 0 x))) (steps (start a b n m) l))
    (events_back x 0) (long_events a b n (name_each 0 x) own_name m 0 2 0 (start a b n m) (first_long a b n m)) in
    let q = long_closed a b n _ _ _ (steps s (events_of (name_each 0 y))) big (long_events a b n (name_each 0 y) own_name m _ _ _ s p) in
    let t : min 32768 a < 0 + size (tree_tokens own_name m (name_each 0 x)) + size (tree_tokens own_name m (name_each 0 y)) = omega (arith, p.tree) in
    ap (λ (z : State). ended (closed z)) (steps_append (start a b n m) x y ∙ ap (steps s) (sym (events_back y 0)))
    ∙ ended_long a b n _ _ _ (closed (steps s (events_of (name_each 0 y)))) q (either_true _ _ (lt-ltb (min 32768 a) _ t))
