-- How many declarators there are.
use Rattle.std.specs.Prelude.{ℕ, zero, suc, ◌+◌, ◌-◌, Bool, cond, ◌&&◌, List, [], ◌∷◌, eqb}
use Rattle.tree.specs.Tree.{Node}
use Rattle.tree.specs.Read.{byte_at}
use Rattle.tree.specs.Look.{look_item, look_node}
use Rattle.lowering.specs.Made.{Context}
use Rattle.lowering.specs.Parts.{first}
use Rattle.lowering.specs.Keys.{keys_refusal}
use Rattle.lowering.specs.Declarations.{lowered_in}
use Rattle.pattern.specs.declared.parts.Run.{Run}
use Rattle.pattern.specs.Parts.{part_at, run_of}
use Rattle.pattern.specs.Tally.{Totals, limited}

-- of the objects that were counted: one for each key temporary, each pattern with properties and each rest
unfoldable pub made : Totals → ℕ
made t = limited (limited (t.temporaries + t.patterns) + t.objects)

-- the first refusal at the keys of the objects whose rest a declarator lowers
abbrev pub declarator_refusal : Context → Node → ℕ
declarator_refusal c d = first keys_refusal (lowered_in c d)

-- where the nodes of n items of a list start, with d levels for each; a hole has none
unfoldable pub starts : List ℕ → ℕ → Bool → ℕ → ℕ → List ℕ
starts tree d holes zero at = []
starts tree d holes (suc n) at =
    cond (holes && eqb (byte_at tree at) 0) (starts tree d holes n (look_item tree (look_node tree d) holes at).next)
    (at ∷ starts tree d holes n (look_item tree (look_node tree d) holes at).next)

-- of a run
abbrev pub run_starts : List ℕ → ℕ → Run → List ℕ
run_starts tree d r = starts tree d r.holes r.count r.from

-- where the declarators of a declaration start
abbrev pub starts_in : List ℕ → ℕ → ℕ → List ℕ
starts_in tree left at = run_starts tree (left - 1) (run_of at (part_at tree left at 2))
