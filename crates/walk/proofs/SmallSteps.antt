-- The small steps that emitters are made of: one law for each, and what it does where its numbers are small enough.
-- Assumes nothing.
use mathlib.Core.Path.{◌≡◌, refl, sym, ap, ap₂, ◌∙◌}
use mathlib.Core.List.{List, [], ◌∷◌, ◌++◌}
use Prim.Native.Nat.{ℕ, ◌+◌, ◌-◌, ◌%◌, ◌≤◌, ◌<◌}
use native.Mathlib.Omega.{arith}
use lib.ListN.{length}
use lib.Seq.{length-slice}
use Rattle.tree.specs.Tree.{wide_bytes}
use Rattle.tree.specs.Look.{onward}
use Rattle.tree.proofs.Look.{on_fits}
use Rattle.sink.specs.Machine.{State, step, steps, low, high, part}
use Rattle.sink.specs.Machine as machine
use Rattle.sink.specs.Machine.Event.{put, helper, new_mark, listed, excluded, excluded_temporary, declarator}
use Rattle.direct.specs.Events.{Deed, puts, lists, excludes, all}
use Rattle.direct.specs.Events.Deed.{does}
use Rattle.direct.specs.Emit.{say, call_head}
use Rattle.direct.specs.Keys.{string_bytes_of}
use Rattle.walk.specs.Run.{Going, Runs, Does}
use Rattle.walk.specs.Turns.{declaration_head, block_head, string_at}
use Rattle.walk.proofs.Running.{going, runs_does, runs_then, runs_as, by_events, by_event_lem, by_puts, by_wide, two_bytes}

-- ---- bytes of the list and of the excluded declarators

all_lists : (bs : List ℕ) → all (machine.lists bs) ≡ lists bs
unfolding machine.lists
all_lists [] = refl
all_lists (b ∷ bs) = ap (λ (ds : List Deed). does (listed b) ∷ ds) (all_lists bs)

all_excludes : (bs : List ℕ) → all (machine.excludes bs) ≡ excludes bs
unfolding machine.excludes
all_excludes [] = refl
all_excludes (b ∷ bs) = ap (λ (ds : List Deed). does (excluded b) ∷ ds) (all_excludes bs)

pub by_lists : (s s' : State) (r : ℕ) (bs : List ℕ) → s' ≡ steps s (machine.lists bs) → Runs (going s r) (going s' r) (lists bs)
by_lists s s' r bs e = runs_as (by_events s s' r (machine.lists bs) e) (all_lists bs)

pub by_excludes : (s s' : State) (r : ℕ) (bs : List ℕ) → s' ≡ steps s (machine.excludes bs) → Runs (going s r) (going s' r) (excludes bs)
by_excludes s s' r bs e = runs_as (by_events s s' r (machine.excludes bs) e) (all_excludes bs)

by_excluded_wide : (s s' : State) (r n : ℕ) → s' ≡ steps s (machine.excludes (low n ∷ high n ∷ [])) → Runs (going s r) (going s' r) (excludes (wide_bytes (n % 65536)))
by_excluded_wide s s' r n e = by_excludes s s' r (wide_bytes (n % 65536)) (e ∙ ap (λ (bs : List ℕ). steps s (machine.excludes bs)) (two_bytes n))

-- ---- heads

pub by_assign : (s s₁ s₂ : State) (r op : ℕ) → s₁ ≡ steps s (machine.puts (27 ∷ 7 ∷ [])) → s₂ ≡ step s₁ (put op)
    → Runs (going s r) (going s₂ r) (puts (27 ∷ 7 ∷ op ∷ []))
by_assign s s₁ s₂ r op a d =
    runs_then (puts (27 ∷ 7 ∷ [])) (does (put op) ∷ []) (by_puts s s₁ r (27 ∷ 7 ∷ []) a) (by_event_lem s₁ s₂ r (put op) d)

pub by_declaration : (s s₁ s₂ s₃ s₄ : State) (r sort n : ℕ) → s₁ ≡ steps s (machine.puts (4 ∷ 7 ∷ [])) → s₂ ≡ step s₁ new_mark → s₃ ≡ step s₂ (put sort)
    → s₄ ≡ steps s₃ (machine.puts (low n ∷ high n ∷ [])) → Runs (going s r) (going s₄ r) (declaration_head sort (n % 65536))
by_declaration s s₁ s₂ s₃ s₄ r sort n a b d e =
    let bs = wide_bytes (n % 65536) in
    runs_then (puts (4 ∷ 7 ∷ [])) (does new_mark ∷ puts (sort ∷ bs)) (by_puts s s₁ r (4 ∷ 7 ∷ []) a)
    (runs_then (does new_mark ∷ []) (puts (sort ∷ bs)) (by_event_lem s₁ s₂ r new_mark b)
    (runs_then (does (put sort) ∷ []) (puts bs) (by_event_lem s₂ s₃ r (put sort) d) (by_wide s₃ s₄ r n e)))

pub by_block : (s s₁ s₂ s₃ : State) (r n : ℕ) → s₁ ≡ steps s (machine.puts (2 ∷ 3 ∷ [])) → s₂ ≡ step s₁ new_mark → s₃ ≡ steps s₂ (machine.puts (low n ∷ high n ∷ []))
    → Runs (going s r) (going s₃ r) (block_head (n % 65536))
by_block s s₁ s₂ s₃ r n a b d =
    runs_then (puts (2 ∷ 3 ∷ [])) (does new_mark ∷ puts (wide_bytes (n % 65536))) (by_puts s s₁ r (2 ∷ 3 ∷ []) a)
    (runs_then (does new_mark ∷ []) (puts (wide_bytes (n % 65536))) (by_event_lem s₁ s₂ r new_mark b) (by_wide s₂ s₃ r n d))

pub empty_rest : {g g₁ g₂ g₃ g₄ g₅ g₆ : Going} → Runs g g₁ (call_head 2 2) → Runs g₁ g₂ (puts (24 ∷ 1 ∷ [])) → Runs g₂ g₃ (puts (0 ∷ 0 ∷ []))
    → Runs g₃ g₄ (puts (28 ∷ 1 ∷ [])) → Runs g₄ g₅ (puts (2 ∷ 0 ∷ [])) → Runs g₅ g₆ (call_head 3 1)
    → Runs g g₆ (call_head 2 2 ++ (puts (24 ∷ 1 ∷ 0 ∷ 0 ∷ 28 ∷ 1 ∷ 2 ∷ 0 ∷ []) ++ call_head 3 1))
empty_rest a b d e f h =
    runs_then (call_head 2 2) (puts (24 ∷ 1 ∷ 0 ∷ 0 ∷ 28 ∷ 1 ∷ 2 ∷ 0 ∷ []) ++ call_head 3 1) a
    (runs_then (puts (24 ∷ 1 ∷ [])) (puts (0 ∷ 0 ∷ 28 ∷ 1 ∷ 2 ∷ 0 ∷ []) ++ call_head 3 1) b
    (runs_then (puts (0 ∷ 0 ∷ [])) (puts (28 ∷ 1 ∷ 2 ∷ 0 ∷ []) ++ call_head 3 1) d
    (runs_then (puts (28 ∷ 1 ∷ [])) (puts (2 ∷ 0 ∷ []) ++ call_head 3 1) e
    (runs_then (puts (2 ∷ 0 ∷ [])) (call_head 3 1) f h))))

pub by_mapped : (s s₁ s₂ s₃ s₄ : State) (r : ℕ) → s₁ ≡ steps s (machine.puts (3 ∷ 0 ∷ 109 ∷ 97 ∷ [])) → s₂ ≡ step s₁ (put 112) → s₃ ≡ steps s₂ (machine.puts (1 ∷ 0 ∷ []))
    → s₄ ≡ step s₃ (helper 5) → Runs (going s r) (going s₄ r) (puts (3 ∷ 0 ∷ 109 ∷ 97 ∷ 112 ∷ 1 ∷ 0 ∷ []) ++ (does (helper 5) ∷ []))
by_mapped s s₁ s₂ s₃ s₄ r a b d e =
    runs_then (puts (3 ∷ 0 ∷ 109 ∷ 97 ∷ [])) (puts (112 ∷ 1 ∷ 0 ∷ []) ++ (does (helper 5) ∷ [])) (by_puts s s₁ r (3 ∷ 0 ∷ 109 ∷ 97 ∷ []) a)
    (runs_then (does (put 112) ∷ []) (puts (1 ∷ 0 ∷ []) ++ (does (helper 5) ∷ [])) (by_event_lem s₁ s₂ r (put 112) b)
    (runs_then (puts (1 ∷ 0 ∷ [])) (does (helper 5) ∷ []) (by_puts s₂ s₃ r (1 ∷ 0 ∷ []) d) (by_event_lem s₃ s₄ r (helper 5) e)))

-- ---- strings

module _ (t : List ℕ) (s s₁ s₂ s₃ s₄ : State) (r at n q : ℕ) (ends : q ≡ onward t at n) where
  abbrev copied : List ℕ
  copied = part at (onward t at n) t

  pub by_string : s₁ ≡ steps s (machine.puts (22 ∷ 7 ∷ 1 ∷ 0 ∷ [])) → s₂ ≡ step s₁ (put 0) → s₃ ≡ steps s₂ (machine.puts (low n ∷ high n ∷ []))
      → s₄ ≡ steps s₃ (machine.puts (part at q t)) → Runs (going s r) (going s₄ r) (puts (string_at t at n))
  by_string a b d e =
      runs_then (puts (22 ∷ 7 ∷ 1 ∷ 0 ∷ [])) (puts (0 ∷ wide_bytes (n % 65536) ++ copied)) (by_puts s s₁ r (22 ∷ 7 ∷ 1 ∷ 0 ∷ []) a)
      (runs_then (does (put 0) ∷ []) (puts (wide_bytes (n % 65536) ++ copied)) (by_event_lem s₁ s₂ r (put 0) b)
      (runs_then (puts (wide_bytes (n % 65536))) (puts copied) (by_wide s₂ s₃ r n d) (by_puts s₃ s₄ r copied (e ∙ ap (λ (x : ℕ). steps s₃ (machine.puts (part at x t))) ends))))

  pub by_excluded_string : s₁ ≡ steps s (machine.excludes (22 ∷ 7 ∷ 1 ∷ 0 ∷ [])) → s₂ ≡ step s₁ (excluded 0) → s₃ ≡ steps s₂ (machine.excludes (low n ∷ high n ∷ []))
      → s₄ ≡ steps s₃ (machine.excludes (part at q t)) → Runs (going s r) (going s₄ r) (excludes (string_at t at n))
  by_excluded_string a b d e =
      runs_then (excludes (22 ∷ 7 ∷ 1 ∷ 0 ∷ [])) (excludes (0 ∷ wide_bytes (n % 65536) ++ copied)) (by_excludes s s₁ r (22 ∷ 7 ∷ 1 ∷ 0 ∷ []) a)
      (runs_then (does (excluded 0) ∷ []) (excludes (wide_bytes (n % 65536) ++ copied)) (by_event_lem s₁ s₂ r (excluded 0) b)
      (runs_then (excludes (wide_bytes (n % 65536))) (excludes copied) (by_excluded_wide s₂ s₃ r n d) (by_excludes s₃ s₄ r copied (e ∙ ap (λ (x : ℕ). steps s₃ (machine.excludes (part at x t))) ends))))

-- the declarator of excluded keys, up to the array's count
pub by_excluded_head : (s s₁ s₂ s₃ s₄ : State) (r c n : ℕ) → s₁ ≡ step s declarator → s₂ ≡ step s₁ (excluded_temporary c 2) → s₃ ≡ steps s₂ (machine.excludes (32 ∷ 1 ∷ []))
    → s₄ ≡ steps s₃ (machine.excludes (low n ∷ high n ∷ []))
    → Runs (going s r) (going s₄ r) (does declarator ∷ does (excluded_temporary c 2) ∷ excludes (32 ∷ 1 ∷ wide_bytes (n % 65536)))
by_excluded_head s s₁ s₂ s₃ s₄ r c n a b d e =
    let bs = wide_bytes (n % 65536) in
    runs_then (does declarator ∷ []) (does (excluded_temporary c 2) ∷ excludes (32 ∷ 1 ∷ bs)) (by_event_lem s s₁ r declarator a)
    (runs_then (does (excluded_temporary c 2) ∷ []) (excludes (32 ∷ 1 ∷ bs)) (by_event_lem s₁ s₂ r (excluded_temporary c 2) b)
    (runs_then (excludes (32 ∷ 1 ∷ [])) (excludes bs) (by_excludes s₂ s₃ r (32 ∷ 1 ∷ []) d) (by_excluded_wide s₃ s₄ r n e)))

-- ---- what is done where a number fits its bytes

does_whole : {g g' : Going} (f : ℕ → List Deed) (n : ℕ) → n < 65536 → Runs g g' (f (n % 65536)) → Does g g' (say (f n))
does_whole f n h e =
    let w : n % 65536 ≡ n = omega arith in
    runs_does (runs_as e (ap f w))

pub does_wide : {g g' : Going} (n : ℕ) → Runs g g' (puts (wide_bytes (n % 65536))) → n < 65536 → Does g g' (say (puts (wide_bytes n)))
does_wide n e h = does_whole (λ k. puts (wide_bytes k)) n h e

pub does_call : {g g' : Going} (h n : ℕ) → Runs g g' (call_head h (n % 65536)) → n < 65536 → Does g g' (say (call_head h n))
does_call h n e w = does_whole (call_head h) n w e

pub does_declaration : {g g' : Going} (sort n : ℕ) → Runs g g' (declaration_head sort (n % 65536)) → n < 65536 → Does g g' (say (declaration_head sort n))
does_declaration sort n e h = does_whole (declaration_head sort) n h e

pub does_block : {g g' : Going} (n : ℕ) → Runs g g' (block_head (n % 65536)) → n < 65536 → Does g g' (say (block_head n))
does_block n e h = does_whole block_head n h e

pub does_excluded_head : {g g' : Going} (c n : ℕ) → Runs g g' (does declarator ∷ does (excluded_temporary c 2) ∷ excludes (32 ∷ 1 ∷ wide_bytes (n % 65536)))
    → n < 65536 → Does g g' (say (does declarator ∷ does (excluded_temporary c 2) ∷ excludes (32 ∷ 1 ∷ wide_bytes n)))
does_excluded_head c n e h = does_whole (λ k. does declarator ∷ does (excluded_temporary c 2) ∷ excludes (32 ∷ 1 ∷ wide_bytes k)) n h e

part_length : (t : List ℕ) (at n : ℕ) → at + n ≤ length t → length (part at (at + n) t) ≡ n
unfolding part
part_length t at n h = let e : at + n - at ≡ n = omega arith in length-slice at (at + n) t h ∙ e

-- a string whose bytes are all there
pub string_whole : (t : List ℕ) (at n : ℕ) → n < 65536 → at + n ≤ length t → string_at t at n ≡ string_bytes_of (part at (at + n) t)
string_whole t at n h f =
    let w : n % 65536 ≡ n = omega arith in
    ap₂ (λ (k q : ℕ). 22 ∷ 7 ∷ 1 ∷ 0 ∷ 0 ∷ wide_bytes k ++ part at q t) (w ∙ sym (part_length t at n f)) (on_fits t at n f)

pub does_excluded_string : {g g' : Going} (t : List ℕ) (at n : ℕ) → Runs g g' (excludes (string_at t at n))
    → n < 65536 → at + n ≤ length t → Does g g' (say (excludes (string_bytes_of (part at (at + n) t))))
does_excluded_string t at n e h f = runs_does (runs_as e (ap excludes (string_whole t at n h f)))
