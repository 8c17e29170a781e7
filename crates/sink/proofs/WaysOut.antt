-- One law for each way out of a function: what it leaves is what the machine's definition says.
-- Assumes nothing.
use mathlib.Core.Path.{◌≡◌, refl, sym, ap, ◌∙◌}
use mathlib.Core.Bool.{true, cond}
use mathlib.Core.List.{List, [], ◌∷◌, ◌++◌, append-nil}
use Prim.Native.Nat.{ℕ, suc, ◌+◌, ◌-◌, ◌<◌, ◌≤◌}
use native.Mathlib.Nat.{add-zero}
use native.Mathlib.Omega.{arith}
use native.Mathlib.Numerals.{add-one}
use lib.Dec.{ltb}
use lib.ListN.{length, get_or, set, take, drop, length-drop, drop_of_length-le, take-append-drop}
use lib.Seq.{set_out, paste, drop-cons, take_all, length-take-le}
use borrow.Rule.Slice.PartMut.{put_mid, mid_of, mid_len, set_mid_at}
use Rattle.std.proofs.lemmas.List.Edits.{sets, sets-eq}
use Rattle.std.proofs.lemmas.Slice.{put_mid-paste}
use borrow.Author.Tests.{lt-ltb, le-ltb, ne_eqb}
use Rattle.sink.specs.Machine.{State, Event, state_of, with_tree, with_list, with_keys_of, with_entries, with_declarators, with_mark, with_helpers, low, high, part, one_more_of, set_wide, put_tree, put_list, put_keys, put_entry, set_cell, number_of, settle, listed_at, excluded_at, set_cell_in, with_helper, use_helper, next_mark, count_entry, count_declarator, all_tree, all_list_of, all_keys, step, steps, puts, lists, excludes, closed}
use Rattle.sink.specs.Machine.Event.{put, helper, temporary, new_mark, make, listed, listed_temporary, entry, excluded, excluded_temporary, declarator}
use Rattle.sink.proofs.Runs.{wide_right}
use Rattle.sink.specs.declared.Helpers.{Helpers}
use Rattle.sink.specs.declared.Sink.{Sink}

-- ---- numbers and bytes

pub more_below : (g n : ℕ) → n < g → n + 1 ≡ one_more_of g n
unfolding one_more_of
more_below g n h = rw (lt-ltb n g h)

pub more_at : (g n : ℕ) → g ≤ n → g ≡ one_more_of g n
unfolding one_more_of
more_at g n h = rw (le-ltb n g h)

pub set_wide_out : (l : List ℕ) (at n : ℕ) → length l ≤ at → l ≡ set_wide l at n
unfolding set_wide
set_wide_out l at n h = sym (ap (λ (x : List ℕ). set x (at + 1) (high n)) (set_out l at (low n) h) ∙ set_out l (at + 1) (high n) (omega arith))

-- ---- cells

pub made : (t l w w₁ : List ℕ) (k : Sink) (c : ℕ) → w₁ ≡ set_cell w c 0 → state_of t l w₁ k ≡ step (state_of t l w k) (make c)
unfolding step set_cell_in
made t l w w₁ k c e = ap (λ (x : List ℕ). state_of t l x k) e

-- ---- a byte

pub put_in : (s : State) (o : List ℕ) (b : ℕ) → s.sink.tree < 32768 → o ≡ set s.out s.sink.tree b
    → state_of o s.list s.work (with_tree s.sink (s.sink.tree + 1)) ≡ step s (put b)
unfolding step put_tree
put_in s o b h e = rw (lt-ltb s.sink.tree 32768 h) (ap (λ (x : List ℕ). state_of x s.list s.work (with_tree s.sink (s.sink.tree + 1))) e)

pub put_over : (s : State) (b : ℕ) → 32768 ≤ s.sink.tree → state_of s.out s.list s.work (with_tree s.sink 32769) ≡ step s (put b)
unfolding step put_tree
put_over s b h = rw (le-ltb s.sink.tree 32768 h)

pub listed_in : (s : State) (l : List ℕ) (b : ℕ) → s.sink.list < 16384 → l ≡ set s.list s.sink.list b
    → state_of s.out l s.work (with_list s.sink (s.sink.list + 1)) ≡ step s (listed b)
unfolding step put_list
listed_in s l b h e = rw (lt-ltb s.sink.list 16384 h) (ap (λ (x : List ℕ). state_of s.out x s.work (with_list s.sink (s.sink.list + 1))) e)

pub listed_over : (s : State) (b : ℕ) → 16384 ≤ s.sink.list → state_of s.out s.list s.work (with_list s.sink 16385) ≡ step s (listed b)
unfolding step put_list
listed_over s b h = rw (le-ltb s.sink.list 16384 h)

pub excluded_in_lem : (s : State) (w : List ℕ) (b : ℕ) → s.sink.keys < 16384 → w ≡ set s.work (32768 + s.sink.keys) b
    → state_of s.out s.list w (with_keys_of s.sink (s.sink.keys + 1)) ≡ step s (excluded b)
unfolding step put_keys
excluded_in_lem s w b h e = rw (lt-ltb s.sink.keys 16384 h) (ap (λ (x : List ℕ). state_of s.out s.list x (with_keys_of s.sink (s.sink.keys + 1))) e)

pub excluded_over : (s : State) (b : ℕ) → 16384 ≤ s.sink.keys → state_of s.out s.list s.work (with_keys_of s.sink 16385) ≡ step s (excluded b)
unfolding step put_keys
excluded_over s b h = rw (le-ltb s.sink.keys 16384 h)

-- a byte at the start of what is left of a list
pub part_set : (l ys : List ℕ) (n b : ℕ) → n < length l → ys ≡ set (mid_of n (length l - n) l) 0 b → put_mid n (length l - n) l ys ≡ set l n b
part_set l ys n b h e =
    let k : length (mid_of n (length l - n) l) ≡ length l - n = mid_len n (length l) l (omega arith) in
    ap (λ (z : List ℕ). put_mid n (length l - n) l z) e ∙ set_mid_at n (length l - n) 0 l b (omega arith) ∙ ap (λ (i : ℕ). set l i b) (add-zero n)

pub entry_written : (l l₁ l₂ : List ℕ) (m n : ℕ) → l₁ ≡ set_wide l 0 m → l₂ ≡ set_wide l₁ 2 n → l₂ ≡ set_wide (set_wide l 0 m) 2 n
entry_written l l₁ l₂ m n p q = q ∙ ap (λ (x : List ℕ). set_wide x 2 n) p

pub part_entry : (l ys : List ℕ) (n m c : ℕ) → n < length l → ys ≡ set_wide (set_wide (mid_of n (length l - n) l) 0 m) 2 c
    → put_mid n (length l - n) l ys ≡ set_wide (set_wide l n m) (n + 2) c
part_entry l ys n m c h e =
    let k : length (drop n l) ≡ length l - n = length-drop n l in
    let t : length (take n l) ≡ n = length-take-le n l (omega arith) in
    let mid : mid_of n (length l - n) l ≡ drop n l = take_all (length l - n) (drop n l) (omega arith) in
    let post : drop (length l - n) (drop n l) ≡ [] = drop_of_length-le (drop n l) {i = length l - n} (omega arith) in
    let z : n + 0 ≡ n = add-zero n in
    ap (λ (r : List ℕ). take n l ++ (ys ++ r)) post ∙ ap (λ (r : List ℕ). take n l ++ r) (append-nil ys ∙ e ∙ ap (λ (r : List ℕ). set_wide (set_wide r 0 m) 2 c) mid)
    ∙ sym (wide_right (take n l) (set_wide (drop n l) 0 m) 2 n c t) ∙ ap (λ (r : List ℕ). set_wide r (n + 2) c) (sym (wide_right (take n l) (drop n l) 0 n m t))
    ∙ ap (λ (i : ℕ). set_wide (set_wide (take n l ++ drop n l) i m) (n + 2) c) z ∙ ap (λ (r : List ℕ). set_wide (set_wide r n m) (n + 2) c) (take-append-drop n l)

pub entry_out : (l : List ℕ) (n m c : ℕ) → length l ≤ n → l ≡ set_wide (set_wide l n m) (n + 2) c
entry_out l n m c h = set_wide_out l (n + 2) c (omega arith) ∙ ap (λ (r : List ℕ). set_wide r (n + 2) c) (set_wide_out l n m h)

-- ---- runs of events

pub steps_append : (s : State) (a b : List Event) → steps s (a ++ b) ≡ steps (steps s a) b
unfolding steps
steps_append s [] b = refl
steps_append s (e ∷ a) b = steps_append (step s e) a b

pub chain : (s s₁ s₂ : State) (a b : List Event) → s₁ ≡ steps s a → s₂ ≡ steps s₁ b → s₂ ≡ steps s (a ++ b)
chain s s₁ s₂ a b p q = q ∙ ap (λ (x : State). steps x b) p ∙ sym (steps_append s a b)

pub one_step : (s : State) (e : Event) → steps s (e ∷ []) ≡ step s e
unfolding steps
one_step s e = refl

pub two_steps : (s s₁ s₂ : State) (e f : Event) → s₁ ≡ step s e → s₂ ≡ step s₁ f → s₂ ≡ steps s (e ∷ f ∷ [])
unfolding steps
two_steps s s₁ s₂ e f p q = cc

pub all_puts : (s : State) (bs : List ℕ) → steps s (puts bs) ≡ all_tree s bs
unfolding steps step puts all_tree
all_puts s [] = refl
all_puts s (b ∷ bs) = all_puts (put_tree s b) bs

pub all_lists : (s : State) (bs : List ℕ) → steps s (lists bs) ≡ all_list_of s bs
unfolding steps step lists all_list_of
all_lists s [] = refl
all_lists s (b ∷ bs) = all_lists (put_list s b) bs

pub all_excludes : (s : State) (bs : List ℕ) → steps s (excludes bs) ≡ all_keys s bs
unfolding steps step excludes all_keys
all_excludes s [] = refl
all_excludes s (b ∷ bs) = all_excludes (put_keys s b) bs

pub puts_append : (a b : List ℕ) → puts (a ++ b) ≡ puts a ++ puts b
unfolding puts
puts_append [] b = refl
puts_append (x ∷ a) b = ap (λ (l : List Event). put x ∷ l) (puts_append a b)

pub lists_append : (a b : List ℕ) → lists (a ++ b) ≡ lists a ++ lists b
unfolding lists
lists_append [] b = refl
lists_append (x ∷ a) b = ap (λ (l : List Event). listed x ∷ l) (lists_append a b)

pub excludes_append : (a b : List ℕ) → excludes (a ++ b) ≡ excludes a ++ excludes b
unfolding excludes
excludes_append [] b = refl
excludes_append (x ∷ a) b = ap (λ (l : List Event). excluded x ∷ l) (excludes_append a b)

pub put_two : (s s₁ s₂ : State) (a b : ℕ) → s₁ ≡ step s (put a) → s₂ ≡ step s₁ (put b) → s₂ ≡ steps s (puts (a ∷ b ∷ []))
unfolding puts
put_two s s₁ s₂ a b p q = two_steps s s₁ s₂ (put a) (put b) p q

pub put_more : (s s₁ s₂ : State) (a b : List ℕ) → s₁ ≡ steps s (puts a) → s₂ ≡ steps s₁ (puts b) → s₂ ≡ steps s (puts (a ++ b))
put_more s s₁ s₂ a b p q = chain s s₁ s₂ (puts a) (puts b) p q ∙ ap (steps s) (sym (puts_append a b))

pub listed_two : (s s₁ s₂ : State) (a b : ℕ) → s₁ ≡ step s (listed a) → s₂ ≡ step s₁ (listed b) → s₂ ≡ steps s (lists (a ∷ b ∷ []))
unfolding lists
listed_two s s₁ s₂ a b p q = two_steps s s₁ s₂ (listed a) (listed b) p q

pub listed_more : (s s₁ s₂ : State) (a b : List ℕ) → s₁ ≡ steps s (lists a) → s₂ ≡ steps s₁ (lists b) → s₂ ≡ steps s (lists (a ++ b))
listed_more s s₁ s₂ a b p q = chain s s₁ s₂ (lists a) (lists b) p q ∙ ap (steps s) (sym (lists_append a b))

pub excluded_two : (s s₁ s₂ : State) (a b : ℕ) → s₁ ≡ step s (excluded a) → s₂ ≡ step s₁ (excluded b) → s₂ ≡ steps s (excludes (a ∷ b ∷ []))
unfolding excludes
excluded_two s s₁ s₂ a b p q = two_steps s s₁ s₂ (excluded a) (excluded b) p q

pub excluded_more : (s s₁ s₂ : State) (a b : List ℕ) → s₁ ≡ steps s (excludes a) → s₂ ≡ steps s₁ (excludes b) → s₂ ≡ steps s (excludes (a ++ b))
excluded_more s s₁ s₂ a b p q = chain s s₁ s₂ (excludes a) (excludes b) p q ∙ ap (steps s) (sym (excludes_append a b))

-- ---- helpers

-- ---- what is more than a byte

-- ---- helpers

pub with_spread : (u : Helpers) (h : ℕ) → h ≡ 1 → record { spread = true; extends = u.extends; empty = u.empty; without = u.without; key = u.key } ≡ with_helper u h
unfolding with_helper
with_spread u h e = rw e

pub with_extends : (u : Helpers) (h : ℕ) → h ≡ 2 → record { spread = u.spread; extends = true; empty = u.empty; without = u.without; key = u.key } ≡ with_helper u h
unfolding with_helper
with_extends u h e = rw e

pub with_empty : (u : Helpers) (h : ℕ) → h ≡ 3 → record { spread = u.spread; extends = u.extends; empty = true; without = u.without; key = u.key } ≡ with_helper u h
unfolding with_helper
with_empty u h e = rw e

pub with_without : (u : Helpers) (h : ℕ) → h ≡ 4 → record { spread = u.spread; extends = u.extends; empty = u.empty; without = true; key = u.key } ≡ with_helper u h
unfolding with_helper
with_without u h e = rw e

pub with_key : (u : Helpers) (h : ℕ) → h ≡ 5 → record { spread = u.spread; extends = u.extends; empty = u.empty; without = u.without; key = true } ≡ with_helper u h
unfolding with_helper
with_key u h e = rw e

pub with_none : (u : Helpers) (h : ℕ) → (h ≡ 1 → ⊥) → (h ≡ 2 → ⊥) → (h ≡ 3 → ⊥) → (h ≡ 4 → ⊥) → (h ≡ 5 → ⊥) → u ≡ with_helper u h
unfolding with_helper
with_none u h a b c d e = rw (ne_eqb h 1 a, ne_eqb h 2 b, ne_eqb h 3 c, ne_eqb h 4 d, ne_eqb h 5 e)

pub helper_is : (s s₁ s₂ : State) (u : Helpers) (h : ℕ) → u ≡ with_helper s.sink.helpers h
    → s₁ ≡ steps (state_of s.out s.list s.work (with_helpers s.sink u)) (puts (21 ∷ 1 ∷ [])) → s₂ ≡ step s₁ (put h) → s₂ ≡ step s (helper h)
unfolding step use_helper all_tree
helper_is s s₁ s₂ u h e p q =
    let x : s₁ ≡ all_tree (state_of s.out s.list s.work (with_helpers s.sink u)) (21 ∷ 1 ∷ []) = p ∙ all_puts _ _ in
    q ∙ ap (λ (z : State). put_tree z h) x ∙ ap (λ (v : Helpers). all_tree (state_of s.out s.list s.work (with_helpers s.sink v)) (21 ∷ 1 ∷ h ∷ [])) e

pub mark_is : (s s₁ : State) (m : ℕ) → m ≡ one_more_of 65535 s.sink.mark
    → s₁ ≡ steps (state_of s.out s.list s.work (with_mark s.sink m)) (puts (low s.sink.mark ∷ high s.sink.mark ∷ [])) → s₁ ≡ step s new_mark
unfolding step next_mark
mark_is s s₁ m e p = p ∙ all_puts _ _ ∙ ap (λ (v : ℕ). all_tree (state_of s.out s.list s.work (with_mark s.sink v)) (low s.sink.mark ∷ high s.sink.mark ∷ [])) e

pub temporary_is : (s s₁ s₂ s₃ : State) (c stem n a b : ℕ) → n ≡ number_of s c → s₁ ≡ settle s c → a ≡ low n → b ≡ high n → s₂ ≡ steps s₁ (puts (20 ∷ 3 ∷ a ∷ b ∷ [])) → s₃ ≡ step s₂ (put stem) → s₃ ≡ step s (temporary c stem)
unfolding step steps puts
temporary_is s s₁ s₂ s₃ c stem n a b e p x y q r =
    let z : s₃ ≡ steps s₁ (puts (20 ∷ 3 ∷ a ∷ b ∷ stem ∷ [])) = r ∙ ap (λ (t : State). put_tree t stem) q in
    let w : s₃ ≡ all_tree s₁ (20 ∷ 3 ∷ a ∷ b ∷ stem ∷ []) = z ∙ all_puts s₁ (20 ∷ 3 ∷ a ∷ b ∷ stem ∷ []) in
    cc

pub listed_temporary_is : (s s₂ s₃ : State) (w : List ℕ) (c stem v : ℕ) → v ≡ listed_at s.sink.list → w ≡ set_cell s.work c v
    → s₂ ≡ steps (state_of s.out s.list w s.sink) (lists (20 ∷ 3 ∷ 0 ∷ 0 ∷ [])) → s₃ ≡ step s₂ (listed stem) → s₃ ≡ step s (listed_temporary c stem)
unfolding step steps lists set_cell_in
listed_temporary_is s s₂ s₃ w c stem v e p q r =
    let z : s₃ ≡ steps (state_of s.out s.list w s.sink) (lists (20 ∷ 3 ∷ 0 ∷ 0 ∷ stem ∷ [])) = r ∙ ap (λ (t : State). put_list t stem) q in
    z ∙ all_lists _ _ ∙ ap (λ (x : List ℕ). all_list_of (state_of s.out s.list x s.sink) (20 ∷ 3 ∷ 0 ∷ 0 ∷ stem ∷ [])) (p ∙ ap (set_cell s.work c) e)

pub excluded_temporary_is : (s s₂ s₃ : State) (w : List ℕ) (c stem v : ℕ) → v ≡ excluded_at s.sink.keys → w ≡ set_cell s.work c v
    → s₂ ≡ steps (state_of s.out s.list w s.sink) (excludes (20 ∷ 3 ∷ 0 ∷ 0 ∷ [])) → s₃ ≡ step s₂ (excluded stem) → s₃ ≡ step s (excluded_temporary c stem)
unfolding step steps excludes set_cell_in
excluded_temporary_is s s₂ s₃ w c stem v e p q r =
    let z : s₃ ≡ steps (state_of s.out s.list w s.sink) (excludes (20 ∷ 3 ∷ 0 ∷ 0 ∷ stem ∷ [])) = r ∙ ap (λ (t : State). put_keys t stem) q in
    z ∙ all_excludes _ _ ∙ ap (λ (x : List ℕ). all_keys (state_of s.out s.list x s.sink) (20 ∷ 3 ∷ 0 ∷ 0 ∷ stem ∷ [])) (p ∙ ap (set_cell s.work c) e)

pub entry_in : (s : State) (l : List ℕ) (m n k : ℕ) → k ≡ one_more_of 65535 s.sink.entries → s.sink.list < 16381 → l ≡ set_wide (set_wide s.list s.sink.list m) (s.sink.list + 2) n
    → state_of s.out l s.work (with_list (with_entries s.sink k) (s.sink.list + 4)) ≡ step s (entry m n)
unfolding step put_entry count_entry
entry_in s l m n k e h p =
    rw (lt-ltb s.sink.list 16381 h) (λ j. state_of s.out ((p) j) s.work (with_list (with_entries s.sink ((e) j)) (s.sink.list + 4)))

pub entry_over : (s : State) (m n k : ℕ) → k ≡ one_more_of 65535 s.sink.entries → 16381 ≤ s.sink.list
    → state_of s.out s.list s.work (with_list (with_entries s.sink k) 16385) ≡ step s (entry m n)
unfolding step put_entry count_entry
entry_over s m n k e h =
    rw (le-ltb s.sink.list 16381 h) (λ j. state_of s.out s.list s.work (with_list (with_entries s.sink ((e) j)) 16385))

pub declarator_is : (s s₁ : State) (k : ℕ) → k ≡ one_more_of 65535 s.sink.declarators
    → s₁ ≡ steps (state_of s.out s.list s.work (with_declarators s.sink k)) (excludes (5 ∷ 3 ∷ [])) → s₁ ≡ step s declarator
unfolding step count_declarator
declarator_is s s₁ k e p = p ∙ all_excludes _ _ ∙ ap (λ (v : ℕ). all_keys (state_of s.out s.list s.work (with_declarators s.sink v)) (5 ∷ 3 ∷ [])) e

-- what a cell says of a temporary that is written in the list or among the excluded declarators
pub listed_at_is : (at v : ℕ) → v ≡ cond (ltb at 16381) (16384 + (at + 2)) 0 → v ≡ listed_at at
unfolding listed_at
listed_at_is at v e = e

pub excluded_at_is : (at v : ℕ) → v ≡ cond (ltb at 16381) (32768 + (at + 2)) 0 → v ≡ excluded_at at
unfolding excluded_at
excluded_at_is at v e = e

-- ---- a run of bytes that is copied, one by one: f has an event e for each

module _ (f : List ℕ → List Event) (e : ℕ → Event) (none : f [] ≡ []) (more : (b : ℕ) (bs : List ℕ) → f (b ∷ bs) ≡ e b ∷ f bs) where
  pub run_end : (bs : List ℕ) (i : ℕ) (s s₀ : State) → length bs ≤ i → steps s (f (drop i bs)) ≡ s₀ → s ≡ s₀
  unfolding steps
  run_end bs i s s₀ h p = sym (ap (λ (x : List ℕ). steps s (f x)) (drop_of_length-le bs {i = i} h) ∙ ap (steps s) none) ∙ p

  pub run_more : (bs : List ℕ) (i : ℕ) (s s₁ s₀ : State) → i < length bs → s₁ ≡ step s (e (get_or bs i 0)) → steps s (f (drop i bs)) ≡ s₀ → steps s₁ (f (drop (i + 1) bs)) ≡ s₀
  unfolding steps
  run_more bs i s s₁ s₀ h q p =
      let d : drop i bs ≡ get_or bs i 0 ∷ drop (i + 1) bs = drop-cons bs i 0 h ∙ ap (λ (j : ℕ). get_or bs i 0 ∷ drop j bs) (sym (add-one i)) in
      ap (λ (z : State). steps z (f (drop (i + 1) bs))) q ∙ sym (ap (λ (x : List ℕ). steps s (f x)) d ∙ ap (steps s) (more (get_or bs i 0) (drop (i + 1) bs))) ∙ p

pub puts_more : (b : ℕ) (bs : List ℕ) → puts (b ∷ bs) ≡ put b ∷ puts bs
unfolding puts
puts_more b bs = refl

pub lists_more : (b : ℕ) (bs : List ℕ) → lists (b ∷ bs) ≡ listed b ∷ lists bs
unfolding lists
lists_more b bs = refl

pub excludes_more : (b : ℕ) (bs : List ℕ) → excludes (b ∷ bs) ≡ excluded b ∷ excludes bs
unfolding excludes
excludes_more b bs = refl

pub puts_none : puts [] ≡ []
unfolding puts
puts_none = refl

pub lists_none : lists [] ≡ []
unfolding lists
lists_none = refl

pub excludes_none : excludes [] ≡ []
unfolding excludes
excludes_none = refl

-- ---- bytes that have room, in one block

block_run : (bs out l w : List ℕ) (k : Sink) (at : ℕ) → at + length bs ≤ 32768 → steps (state_of out l w (with_tree k at)) (puts bs) ≡ state_of (sets out at bs) l w (with_tree k (at + length bs))
unfolding steps puts
block_run [] out l w k at h = ap (λ (n : ℕ). state_of out l w (with_tree k n)) (sym (add-zero at))
block_run (b ∷ bs) out l w k at h =
    let p : at + 1 ≡ suc at = add-one at in
    let q : at + 1 + length bs ≡ at + suc (length bs) = omega arith in
    ap (λ (z : State). steps z (puts bs)) (sym (put_in (state_of out l w (with_tree k at)) (set out at b) b (omega arith) refl))
    ∙ block_run bs (set out at b) l w k (at + 1) (omega arith)
    ∙ (λ j. state_of (sets (set out at b) ((p) j) bs) l w (with_tree k ((q) j)))

pub block_copied : (bs out new : List ℕ) (at : ℕ) → new ≡ bs → at + length bs ≤ length out → at + length bs ≤ 32768
    → (k : Sink) (l w : List ℕ) → state_of (put_mid at (at + length bs - at) out new) l w (with_tree k (at + length bs)) ≡ steps (state_of out l w (with_tree k at)) (puts bs)
block_copied bs out new at e h g k l w =
    let p : put_mid at (at + length bs - at) out new ≡ paste out at bs (length bs) = put_mid-paste at (at + length bs - at) out new bs (length bs) e (omega arith) refl in
    let q : take (length bs) bs ≡ bs = take_all (length bs) bs (omega arith) in
    let r : paste out at bs (length bs) ≡ sets out at bs = ap (λ (z : List ℕ). take at out ++ z ++ drop (at + length bs) out) q ∙ sym (sets-eq bs out at h) in
    ap (λ (z : List ℕ). state_of z l w (with_tree k (at + length bs))) (p ∙ r) ∙ sym (block_run bs out l w k at g)

-- ---- the end

pub closed_in : (s s₁ s₂ : State) (l : List ℕ) → s.sink.keys < 16385 → l ≡ set_wide s.list 0 s.sink.entries
    → s₁ ≡ steps (state_of s.out l s.work s.sink) (lists (low s.sink.declarators ∷ high s.sink.declarators ∷ []))
    → s₂ ≡ steps s₁ (lists (part 32768 (32768 + s.sink.keys) s.work)) → s₂ ≡ closed s
unfolding closed
closed_in s s₁ s₂ l h e p q =
    rw (lt-ltb s.sink.keys 16385 h)
    (listed_more _ s₁ s₂ (low s.sink.declarators ∷ high s.sink.declarators ∷ []) (part 32768 (32768 + s.sink.keys) s.work) p q ∙ all_lists _ _
    ∙ ap (λ (x : List ℕ). all_list_of (state_of s.out x s.work s.sink) (low s.sink.declarators ∷ high s.sink.declarators ∷ part 32768 (32768 + s.sink.keys) s.work)) e)

pub closed_over : (s : State) → 16385 ≤ s.sink.keys → state_of s.out s.list s.work (with_list s.sink 16385) ≡ closed s
unfolding closed
closed_over s h = rw (le-ltb s.sink.keys 16385 h)
