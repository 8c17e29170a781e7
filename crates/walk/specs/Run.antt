-- What an emitter does to the output: deeds, one after the other.
use Rattle.std.specs.Prelude.{ℕ, ◌<◌, ◌≡◌, cond, List, [], ◌∷◌, eqb}
use Rattle.sink.specs.Machine.{Event, State, state_of, steps, tree_limit}
use Rattle.direct.specs.Events.{Deed, Emit}
use Rattle.direct.specs.Events.Deed.{does, refuses}
use Rattle.outcome.specs.Named.{events_in}
use Rattle.walk.specs.declared.walk.Walk.{Walk}

-- the output, and the first refusal, 0 if there is none
pub record Going : Type 0 where
  pub state : State
  pub refusal : ℕ

abbrev pub going_of : List ℕ → List ℕ → List ℕ → Walk → Going
going_of out list work w = record { state = state_of out list work w.sink; refusal = w.refusal }

-- the first refusal after deeds, r if there is one before
unfoldable pub met : ℕ → List Deed → ℕ
met r [] = r
met r (does e ∷ ds) = met r ds
met r (refuses n ∷ ds) = met (cond (eqb r 0) n r) ds

-- from g to g' by deeds that go by no mark, to the last byte: their events in turn, and the first refusal
pub record Runs (g g' : Going) (ds : List Deed) : Type 0 where
  pub refusal : g'.refusal ≡ met g.refusal ds
  pub output : g'.state ≡ steps g.state (events_in ds)

-- the tree is longer than it may be, so no byte of it will be handed back
abbrev pub Full : State → Type 0
Full s = tree_limit < s.sink.tree

-- from s to s' by the events es; or by others, where the tree is full after either
pub data Way (s s' : State) (es : List Event) : Type 0 where
  whole : s' ≡ steps s es → Way s s' es
  full : (fs : List Event) → s' ≡ steps s fs → Full s' → Full (steps s es) → Way s s' es

-- from g to g' by what e does: its first refusal is the same for every next mark, its events are those where the next mark is g's
pub record Does (g g' : Going) (e : Emit) : Type 0 where
  pub refusal : (m : ℕ) → g'.refusal ≡ met g.refusal (e m)
  pub output : Way g.state g'.state (events_in (e g.state.sink.mark))

-- if nothing is refused up to g, nothing of e is
pub record Clear (g : Going) (e : Emit) : Type 0 where
  pub calm : g.refusal ≡ 0 → (m : ℕ) → met 0 (e m) ≡ 0
