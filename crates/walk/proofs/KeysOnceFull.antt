-- Once the tree is full the copies of keys need not be written: they refuse nothing that the pattern has not refused.
-- Assumes nothing.
use mathlib.Core.Path.{◌≡◌, refl, sym, ◌∙◌}
use mathlib.Core.Bool.{Bool, true, false, ◌&&◌, false≢true}
use mathlib.Core.List.{List, [], ◌∷◌}
use Prim.Native.Nat.{ℕ, zero, suc}
use native.Mathlib.Omega.{arith}
use lib.Dec.{ltb}
use borrow.Author.Tests.{ltb-true, eq-eqb}
use Rattle.sink.specs.Machine.{tree_limit, part}
use Rattle.sink.specs.Machine.Event.{temporary}
use Rattle.tree.specs.Tree.{Node}
use Rattle.tree.specs.Grammar.Stage.{input}
use Rattle.tree.specs.Read.{byte_at}
use Rattle.tree.specs.Look.{look_node}
use Rattle.tree.specs.WellFormed.{Fits}
use Rattle.lowering.specs.Parts.{is}
use Rattle.lowering.specs.Patterns.{properties, has_rest_of}
use Rattle.direct.specs.Events.{Deed, Place, Emit, puts}
use Rattle.direct.specs.Events.Deed.{does, refuses}
use Rattle.pattern.specs.declared.source.ReferenceBuilder.{ReferenceBuilder}
use Rattle.pattern.specs.Source.{Given, read_of}
use Rattle.direct.specs.Emit.{say, ◌▷◌, inner}
use Rattle.direct.specs.Keys.{emits_rest}
use Rattle.direct.specs.Declared.{emits_own_keys, emits_own_pattern}
use Rattle.direct.specs.Assigned.{emits_target}
use Rattle.outcome.specs.Named.{first_refused}
use Rattle.outcome.proofs.Refusals.{Sound, silent_none, puts_silent}
use Rattle.outcome.proofs.Calm.{Sounds, say_sounds, rest_sounds, own_calm, target_value_calm}
use Rattle.walk.specs.Run.{Going, met, Does, Clear}
use Rattle.walk.specs.Whole.{Good}
use Rattle.walk.specs.Turns.{reads, source_of}
use Rattle.walk.proofs.Opened.{is_here}
use Rattle.walk.proofs.Running.{met_later, does_without}

-- ---- the first refusal, told in two ways

pub none_first : (ds : List Deed) → met 0 ds ≡ 0 → first_refused ds ≡ 0
unfolding met first_refused
none_first [] h = refl
none_first (does e ∷ ds) h = none_first ds h
none_first (refuses zero ∷ ds) h = refl
none_first (refuses (suc n) ∷ ds) h = absurd (let e = met_later n ds in omega (arith, e, h))

pub met_first : (ds : List Deed) → Sound ds → met 0 ds ≡ first_refused ds
unfolding met first_refused
met_first [] h = refl
met_first (does e ∷ ds) h = met_first ds h
met_first (refuses zero ∷ ds) h = absurd h
met_first (refuses (suc n) ∷ ds) h = met_later n ds

-- ---- nothing is written again

pub passed : {g : Going} {e : Emit} (b p : Bool) → p ≡ b && ltb tree_limit g.state.sink.tree → p ≡ true → (b ≡ true → Clear g e) → Does g g e
passed {g = g} b p h k c =
    let x : b && ltb tree_limit g.state.sink.tree ≡ true = sym h ∙ k in
    let z = both_true b (ltb tree_limit g.state.sink.tree) x in
    does_without (ltb-true tree_limit g.state.sink.tree z.1) (c z.0).calm
  where
    both_true : (a b : Bool) → a && b ≡ true → (a ≡ true) × (b ≡ true)
    both_true true b h = (refl, h)
    both_true false b h = absurd (false≢true h)

-- ---- the value of a rest, behind its pattern

-- nothing of it is refused
pub record Quiet (e : Emit) : Type 0 where
  sound : Sounds e
  calm : (m : ℕ) → first_refused (e m) ≡ 0

pub source_quiet : (tree : List ℕ) (b : ReferenceBuilder) → Quiet (source_of tree b)
unfolding reads say first_refused
source_quiet tree b = go (read_of b)
  where
    go : (r : Given) → Quiet (say (reads tree r))
    go (Given.expression left at) = let bs = part at (look_node tree left at).next tree in record { sound = say_sounds (puts bs) (puts_silent bs); calm = λ m. silent_none (puts bs) (puts_silent bs) }
    go (Given.temporary c stem) = record { sound = say_sounds (does (temporary c stem) ∷ []) tt; calm = λ m. refl }

-- an object pattern of input
pub record Object (p : Node) : Type 0 where
  place : ℕ
  fits : Fits input place p
  object : is 34 p ≡ true

pub object_here : (tree : List ℕ) (d at : ℕ) → Good tree d at → byte_at tree at ≡ 34 → Object (look_node tree d at).value
unfolding Good look_node
object_here tree zero at good k = absurd good
object_here tree (suc d) at good k = record { place = good.place; fits = good.fits; object = is_here tree d at 34 ∙ eq-eqb (byte_at tree at) 34 k }

module _ (c : Place) (p : Node) (here : Object p) where
  module _ (resting : has_rest_of p ≡ true) (s : Emit) (quiet : Quiet s) (at : ℕ) where
    again_calm : ((m : ℕ) → first_refused (emits_rest (inner c) at (properties p) s m) ≡ 0) → (m : ℕ) → met 0 (emits_rest (inner c) at (properties p) s m) ≡ 0
    again_calm h m = met_first (emits_rest (inner c) at (properties p) s m) ((rest_sounds (inner c) at (properties p) s quiet.sound).always m) ∙ h m

    pub own_again : {g : Going} → Clear g (emits_own_keys c p ▷ emits_own_pattern c p s) → Clear g (emits_rest (inner c) at (properties p) s)
    own_again k =
        record { calm = λ z. again_calm (own_calm c here.place p here.fits here.object resting s quiet.calm 0 (none_first _ (k.calm z 0)) at) }

    -- behind the target without it
    pub target_again : {g : Going} → Clear g (emits_target c p) → Clear g (emits_rest (inner c) at (properties p) s)
    target_again k =
        record { calm = λ z. again_calm (target_value_calm c here.place p here.fits here.object resting 0 (none_first _ (k.calm z 0)) at s quiet.calm) }
