-- Deeds one after another: what two emitters do in turn is what their emissions do, the first before the second.
-- Assumes nothing.
use mathlib.Core.Path.{◌≡◌, refl, sym, ap, ap₂, ◌∙◌, subst}
use mathlib.Core.Bool.{Bool, cond}
use mathlib.Core.List.{List, [], ◌∷◌, ◌++◌}
use Prim.Native.Nat.{ℕ, zero, suc, ◌%◌}
use native.Mathlib.Omega.{arith}
use lib.Dec.{eqb}
use lib.Pow.{field, mod-mod-pow}
use Rattle.sink.specs.Machine.{Event, State, step, steps, low, high}
use Rattle.sink.specs.Machine as machine
use Rattle.sink.specs.Machine.Event.{put, helper}
use Rattle.sink.proofs.WaysOut.{one_step, steps_append, chain}
use Rattle.tree.specs.Tree.{wide_bytes}
use Rattle.direct.specs.Events.{Deed, Emit, puts, all, after}
use Rattle.direct.specs.Events.Deed.{does, refuses}
use Rattle.direct.specs.Emit.{say, ◌▷◌, call_head}
use borrow.Author.Tests.{ne_eqb}
use Rattle.direct.specs.Moved.{fresh}
use Rattle.outcome.specs.Named.{events_in}
use Rattle.walk.specs.Run.{Going, met, Runs, Full, Way, Does, Clear}
use Rattle.walk.specs.Run.Way.{whole, full}
use Rattle.walk.proofs.Marked.{mark_in, mark_after_lem}
use Rattle.walk.proofs.FullStaysFull.{stays_full}
use Rattle.outcome.proofs.SameEvents.{in_append}

-- ---- refusals

pub met_append : (r : ℕ) (ds es : List Deed) → met r (ds ++ es) ≡ met (met r ds) es
unfolding met
met_append r [] es = refl
met_append r (does e ∷ ds) es = met_append r ds es
met_append r (refuses n ∷ ds) es = met_append (cond (eqb r 0) n r) ds es

-- a refusal is the first for good
pub met_later : (r : ℕ) (ds : List Deed) → met (suc r) ds ≡ suc r
unfolding met
met_later r [] = refl
met_later r (does e ∷ ds) = met_later r ds
met_later r (refuses n ∷ ds) = ap (λ (b : Bool). met (cond b n (suc r)) ds) (ne_eqb (suc r) 0 (λ e. omega arith)) ∙ met_later r ds

pub met_events : (r : ℕ) (es : List Event) → met r (all es) ≡ r
unfolding met
met_events r [] = refl
met_events r (e ∷ es) = met_events r es

-- two emissions that meet the same first refusal, whatever the next mark
pub record Agree (e f : Emit) : Type 0 where
  pub same : (r k j : ℕ) → met r (e k) ≡ met r (f j)

-- ---- events

in_events : (es : List Event) → events_in (all es) ≡ es
unfolding events_in
in_events [] = refl
in_events (e ∷ es) = ap (λ (l : List Event). e ∷ l) (in_events es)

-- after the events that are due
after_whole : (s s' s'' : State) (es fs : List Event) → s' ≡ steps s es → Way s' s'' fs → Way s s'' (es ++ fs)
after_whole s s' s'' es fs p (whole q) = whole (chain s s' s'' es fs p q)
after_whole s s' s'' es fs p (full gs q f g) = full (es ++ gs) (chain s s' s'' es gs p q) f (subst Full (chain s s' (steps s' fs) es fs p refl) g)

-- after others: the tree is full already
after_full : (s s' s'' : State) (es fs xs bs : List Event) → s' ≡ steps s xs → Full s' → Full (steps s es) → Way s' s'' bs → Way s s'' (es ++ fs)
after_full s s' s'' es fs xs bs p f g (whole q) =
    full (xs ++ bs) (chain s s' s'' xs bs p q) (subst Full (sym q) (stays_full s' bs f))
    (subst Full (sym (steps_append s es fs)) (stays_full (steps s es) fs g))
after_full s s' s'' es fs xs bs p f g (full cs q h k) =
    full (xs ++ cs) (chain s s' s'' xs cs p q) h
    (subst Full (sym (steps_append s es fs)) (stays_full (steps s es) fs g))

both : (s s' s'' : State) (ds : List Deed) (f : Emit) → Way s s' (events_in ds) → Way s' s'' (events_in (f (mark_in s'))) → Way s s'' (events_in (ds ++ f (after (mark_in s) ds)))
both s s' s'' ds f (whole p) b =
    let m = after (mark_in s) ds in
    subst (λ (l : List Event). Way s s'' l) (sym (in_append ds (f m)))
    (after_whole s s' s'' (events_in ds) (events_in (f m)) p (subst (λ (n : ℕ). Way s' s'' (events_in (f n))) (ap mark_in p ∙ mark_after_lem s ds) b))
both s s' s'' ds f (full xs p h k) b =
    let m = after (mark_in s) ds in
    subst (λ (l : List Event). Way s s'' l) (sym (in_append ds (f m)))
    (after_full s s' s'' (events_in ds) (events_in (f m)) xs (events_in (f (mark_in s'))) p h k b)

-- ---- what is done

-- one thing and then another
pub does_then : {g g' g'' : Going} {e f : Emit} → Does g g' e → Does g' g'' f → Does g g'' (e ▷ f)
unfolding ◌▷◌
does_then {g = g} {g' = g'} {g'' = g''} {e = e} {f = f} a b =
    record {
      refusal = λ m. b.refusal (after m (e m)) ∙ ap (λ (r : ℕ). met r (f (after m (e m)))) (a.refusal m) ∙ sym (met_append g.refusal (e m) (f (after m (e m))));
      output = both g.state g'.state g''.state (e (mark_in g.state)) f a.output b.output;
    }

-- nothing done
pub does_nothing : (g : Going) → Does g g (say [])
unfolding say met events_in steps
does_nothing g = record { refusal = λ m. refl; output = whole refl }

-- what is done with the next new mark, if it says nothing of what is refused
pub does_fresh : {g g' : Going} (f : ℕ → Emit) (m : ℕ) → m ≡ mark_in g.state → ((k : ℕ) → Agree (f m) (f k)) → Does g g' (f m) → Does g g' (fresh f)
does_fresh {g = g} {g' = g'} f m e h d =
    record {
      refusal = λ k. d.refusal k ∙ (h k).same g.refusal k k;
      output = subst (λ (x : ℕ). Way g.state g'.state (events_in (f x (mark_in g.state)))) e d.output;
    }

-- ---- once the tree is full

reached_full : (s s' : State) (es : List Event) → Full s → Way s s' es → (fs : List Event) → Way s s' fs
reached_full s s' es f (whole p) fs = full es p (subst Full (sym p) (stays_full s es f)) (stays_full s fs f)
reached_full s s' es f (full gs p h k) fs = full gs p h (stays_full s fs f)

-- one thing in place of another, if it meets the same refusals
pub does_instead : {g g' : Going} {e f : Emit} → Full g.state → (g.refusal ≡ 0 → (m k : ℕ) → met 0 (e m) ≡ met 0 (f k)) → Does g g' e → Does g g' f
does_instead {g = g} {g' = g'} {e = e} {f = f} h k d =
    record {
      refusal = λ m. d.refusal m ∙ go g.refusal m (k);
      output = reached_full g.state g'.state (events_in (e (mark_in g.state))) h d.output (events_in (f (mark_in g.state)));
    }
  where
    go : (r m : ℕ) → (r ≡ 0 → (m k : ℕ) → met 0 (e m) ≡ met 0 (f k)) → met r (e m) ≡ met r (f m)
    go zero m k = k refl m m
    go (suc r) m k = met_later r (e m) ∙ sym (met_later r (f m))

-- nothing in place of what refuses nothing
pub does_without : {g : Going} {e : Emit} → Full g.state → (g.refusal ≡ 0 → (m : ℕ) → met 0 (e m) ≡ 0) → Does g g e
unfolding say met
does_without {g = g} {e = e} h k = does_instead h (λ z m j. sym (k z j)) (does_nothing g)

-- ---- where nothing is refused

from_zero : (r : ℕ) (ds : List Deed) → met r ds ≡ 0 → (r ≡ 0) × (met 0 ds ≡ 0)
from_zero zero ds h = (refl, h)
from_zero (suc r) ds h = absurd (let e = met_later r ds in omega (arith, e, h))

-- nothing was before
pub clear_before : {g g' : Going} {e : Emit} → Does g g' e → g'.refusal ≡ 0 → g.refusal ≡ 0
clear_before {g = g} {e = e} d z = (from_zero g.refusal (e 0) (sym (d.refusal 0) ∙ z)).0

-- none of what was done is
pub clear_after : {g g' : Going} {e : Emit} → Does g g' e → Clear g' e
clear_after {g = g} {e = e} d = record { calm = λ z m. (from_zero g.refusal (e m) (sym (d.refusal m) ∙ z)).1 }

pub clear_still : {g g' : Going} {e f : Emit} → Clear g e → Does g g' f → Clear g' e
clear_still k d = record { calm = λ z. k.calm (clear_before d z) }

-- the same deeds, said in another way
pub does_as : {g g' : Going} {e f : Emit} → Does g g' e → e ≡ f → Does g g' f
does_as {g = g} {g' = g'} d h = subst (λ (x : Emit). Does g g' x) h d

-- the same at the end
pub does_to : {g g₁ g' : Going} {e : Emit} → g' ≡ g₁ → Does g g₁ e → Does g g' e
does_to {g = g} {e = e} k d = subst (λ (x : Going). Does g x e) (sym k) d

-- ---- deeds that go by no mark

abbrev pub going : State → ℕ → Going
going s r = record { state = s; refusal = r }

-- what they leave is what they do
pub runs_does : {g g' : Going} {ds : List Deed} → Runs g g' ds → Does g g' (say ds)
unfolding say
runs_does h = record { refusal = λ m. h.refusal; output = whole h.output }

-- and it is all that can be left
pub runs_same : {g g' g'' : Going} {ds : List Deed} → Runs g g' ds → Runs g g'' ds → g' ≡ g''
runs_same a b = ap₂ going (a.output ∙ sym b.output) (a.refusal ∙ sym b.refusal)

pub runs_none : {g : Going} → Runs g g []
unfolding met events_in steps
runs_none = record { refusal = refl; output = refl }

-- one thing and then another
pub runs_then : {g g' g'' : Going} (ds es : List Deed) → Runs g g' ds → Runs g' g'' es → Runs g g'' (ds ++ es)
runs_then {g = g} {g' = g'} {g'' = g''} ds es a b =
    record {
      refusal = b.refusal ∙ ap (λ (r : ℕ). met r es) a.refusal ∙ sym (met_append g.refusal ds es);
      output = chain g.state g'.state g''.state (events_in ds) (events_in es) a.output b.output ∙ ap (steps g.state) (sym (in_append ds es));
    }

-- the same deeds, said in another way
pub runs_as : {g g' : Going} {ds es : List Deed} → Runs g g' ds → ds ≡ es → Runs g g' es
runs_as {g = g} {g' = g'} a e = subst (λ (x : List Deed). Runs g g' x) e a

-- ---- a step of the sink

-- it is what it says
pub by_events : (s s' : State) (r : ℕ) (es : List Event) → s' ≡ steps s es → Runs (going s r) (going s' r) (all es)
by_events s s' r es e = record { refusal = sym (met_events r es); output = e ∙ ap (steps s) (sym (in_events es)) }

all_puts : (bs : List ℕ) → all (machine.puts bs) ≡ puts bs
unfolding machine.puts
all_puts [] = refl
all_puts (b ∷ bs) = ap (λ (ds : List Deed). does (put b) ∷ ds) (all_puts bs)

pub by_puts : (s s' : State) (r : ℕ) (bs : List ℕ) → s' ≡ steps s (machine.puts bs) → Runs (going s r) (going s' r) (puts bs)
by_puts s s' r bs e = runs_as (by_events s s' r (machine.puts bs) e) (all_puts bs)

pub by_event_lem : (s s' : State) (r : ℕ) (e : Event) → s' ≡ step s e → Runs (going s r) (going s' r) (does e ∷ [])
by_event_lem s s' r e h = by_events s s' r (e ∷ []) (h ∙ sym (one_step s e))

-- two bytes hold what is left of a number below 65536
pub two_bytes : (n : ℕ) → low n ∷ high n ∷ [] ≡ wide_bytes (n % 65536)
unfolding low high
two_bytes n = ap₂ (λ (x y : ℕ). x ∷ y ∷ []) (sym (mod-mod-pow n 8 8)) (sym (field n 8 8))

pub by_wide : (s s' : State) (r n : ℕ) → s' ≡ steps s (machine.puts (low n ∷ high n ∷ [])) → Runs (going s r) (going s' r) (puts (wide_bytes (n % 65536)))
by_wide s s' r n e = by_puts s s' r (wide_bytes (n % 65536)) (e ∙ ap (λ (bs : List ℕ). steps s (machine.puts bs)) (two_bytes n))

-- the head of a call, in three steps
pub by_call : (s s₁ s₂ s₃ : State) (r h n : ℕ) → s₁ ≡ steps s (machine.puts (29 ∷ 3 ∷ [])) → s₂ ≡ step s₁ (helper h) → s₃ ≡ steps s₂ (machine.puts (low n ∷ high n ∷ []))
    → Runs (going s r) (going s₃ r) (call_head h (n % 65536))
by_call s s₁ s₂ s₃ r h n a b c =
    runs_then (puts (29 ∷ 3 ∷ [])) (does (helper h) ∷ puts (wide_bytes (n % 65536))) (by_puts s s₁ r (29 ∷ 3 ∷ []) a)
    (runs_then (does (helper h) ∷ []) (puts (wide_bytes (n % 65536))) (by_event_lem s₁ s₂ r (helper h) b) (by_wide s₂ s₃ r n c))

-- a refusal is noted if it is the first
pub by_refusal : (s s' : State) (r r' n : ℕ) → r' ≡ cond (eqb r 0) n r → s' ≡ steps s (machine.puts (0 ∷ 0 ∷ []))
    → Runs (going s r) (going s' r') (refuses n ∷ puts (0 ∷ 0 ∷ []))
unfolding met events_in
by_refusal s s' r r' n k e =
    let d = by_puts s s' (cond (eqb r 0) n r) (0 ∷ 0 ∷ []) e in
    record { refusal = k ∙ d.refusal; output = d.output }

pub first_refusal_lem : (r n : ℕ) → r ≡ 0 → n ≡ cond (eqb r 0) n r
first_refusal_lem r n e = rw e refl

pub later_refusal : (r n : ℕ) → (r ≡ 0 → ⊥) → r ≡ cond (eqb r 0) n r
later_refusal r n e = rw (ne_eqb r 0 e) refl
