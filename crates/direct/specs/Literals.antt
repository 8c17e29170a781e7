-- Object literals with a spread, in the order in which they are written: the heads of the calls of S, the outermost first, then the
-- object that they begin with, then each property.
use Rattle.std.specs.Prelude.{ℕ, zero, suc, Bool, cond, List, [], ◌∷◌, ◌++◌, eqb}
use Rattle.tree.specs.Tree.{Node, Items, wide_bytes}
use Rattle.tree.specs.Tree.Items.{none, hole, item}
use Rattle.lowering.specs.Parts.{is, node_at_of}
use Rattle.direct.specs.Events.{Deed, Place, Emit, puts, emits}
use Rattle.direct.specs.Emit.{say, ◌▷◌, inner, call_head}

-- 26 Spread(arg)
abbrev pub is_spread : Node → Bool
is_spread p = is 26 p

-- ---- heads

-- the call so far: there is none, nothing is pending behind it, something is
abbrev pub no_call_of : ℕ
no_call_of = 0

abbrev pub nothing_pending : ℕ
nothing_pending = 1

abbrev pub some_pending : ℕ
some_pending = 2

-- the same after one more property
unfoldable pub mode_next : ℕ → Node → ℕ
mode_next zero p = cond (is_spread p) nothing_pending no_call_of
mode_next (suc m) p = cond (is_spread p) nothing_pending some_pending

unfoldable pub mode_after : ℕ → Items → ℕ
mode_after m none = m
mode_after m (hole ps) = mode_after m ps
mode_after m (item p ps) = mode_after (mode_next m p) ps

-- a spread ends a call: of what came before and its argument, with {} and {pending} between them if something is pending
unfoldable pub head_at : ℕ → Node → List Deed
head_at m p = cond (is_spread p) (call_head 1 (cond (eqb m some_pending) 4 2)) []

-- a later call is around an earlier one
unfoldable pub inner_heads : ℕ → Items → List Deed
inner_heads m none = []
inner_heads m (hole ps) = inner_heads m ps
inner_heads m (item p ps) = inner_heads (mode_next m p) ps ++ head_at m p

-- what is pending at the end makes one more call
unfoldable pub last_head : ℕ → List Deed
last_head m = cond (eqb m some_pending) (call_head 1 3) []

unfoldable pub heads : ℕ → Items → List Deed
heads m ps = last_head (mode_after m ps) ++ inner_heads m ps

-- ---- properties

-- how many there are up to the first spread
unfoldable pub run : Items → ℕ
run none = 0
run (hole ps) = run ps
run (item p ps) = cond (is_spread p) 0 (suc (run ps))

-- {} and the head of {pending}, if r properties are pending
unfoldable pub pending_head : ℕ → List Deed
pending_head zero = []
pending_head (suc r) = puts (24 ∷ 1 ∷ 0 ∷ 0 ∷ 24 ∷ 1 ∷ wide_bytes (suc r))

-- a spread's argument, then the head of what is pending behind it; any other property as it stands
unfoldable pub part : Place → Node → ℕ → Emit
part c p r = cond (is_spread p) (emits c (node_at_of 0 p) ▷ say (pending_head r)) (emits c p)

unfoldable pub parts : Place → Items → Emit
parts c none = say []
parts c (hole ps) = parts c ps
parts c (item p ps) = part c p (run ps) ▷ parts c ps

unfoldable pub spreads : Place → Items → Emit
spreads c ps = say (heads no_call_of ps) ▷ say (puts (24 ∷ 1 ∷ wide_bytes (run ps))) ▷ parts (inner c) ps
