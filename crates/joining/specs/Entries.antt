-- The list read from its start, with the marks that were met: what each of its parts is answered.
use Rattle.std.specs.Prelude.{ℕ, zero, suc, ◌+◌, ◌≤◌, ◌≡◌, List, cond, eqb, ltb, leb, length, get_or}
use Rattle.std.proofs.Math.Option.{Option, none, some}
use Rattle.tree.specs.Tree.{Items}
use Rattle.tree.specs.Read.{Got, mapped, wide_at}
use Rattle.tree.specs.Read.Got.{got, refused}
use Rattle.rewritten.specs.Events.{Event, events_items}
use Rattle.rewritten.specs.Pass.{folded}
use Rattle.rewritten.specs.Marks.{meet}
use Rattle.joining.specs.List.{read_declarators, longest_list}
use Rattle.joining.specs.Files.{Notes}
use Rattle.std.specs.Prelude as prelude
use Rattle.std.specs.Prelude.{Some, None}

-- where it ends and the marks that were met then; or it is off its layout, or has a mark that was met before
pub data Told : Type 0 where
  lost : Told
  told : ℕ → List ℕ → Told

abbrev pub tells : Option (List ℕ) → ℕ → Told
tells none q = lost
tells (some m) q = told q m

abbrev pub telling : List ℕ → Got (List Event) → Told
telling met (got es q k) = tells (folded meet (some met) es) q
telling met (refused r) = lost

abbrev pub onward : Told → (ℕ → List ℕ → Told) → Told
onward lost f = lost
onward (told q m) f = f q m

module _ (l : List ℕ) where
  unfoldable pub run_declarators : ℕ → List ℕ → Told
  run_declarators at met = telling met (mapped events_items (read_declarators l at 1))

  unfoldable pub run_entries : ℕ → ℕ → List ℕ → Told
  run_entries zero at met = told at met
  run_entries (suc n) at met = cond (ltb (wide_at l at) 65536) (onward (run_declarators (at + 2) met) (λ q m. run_entries n q m)) lost

  unfoldable pub run_head : List ℕ → Told
  run_head met = cond (ltb (wide_at l 0) 65536) (run_entries (wide_at l 0) 2 met) lost

  -- the position of the excluded keys
  unfoldable pub run_list : List ℕ → Told
  run_list met =
      cond (leb (length l) longest_list)
      (onward (run_head met) (λ q m. onward (run_declarators q m) (λ e m'. cond (eqb e (length l)) (told q m') lost)))
      lost

  -- a table has the end of each entry at its position
  unfoldable pub Listed : List ℕ → ℕ → ℕ → Type 0
  Listed ends zero at = Unit {0}
  Listed ends (suc n) at = ((ds : Items) (q k : ℕ) → read_declarators l (at + 2) 1 ≡ got ds q k → get_or ends at 0 ≡ q) × Listed ends n (get_or ends at 0)

-- ---- what the code answers

pub record Ended (seen : List ℕ) (q : ℕ) (v : Told) : Type 0 where
  pub met : List ℕ
  pub is : v ≡ told q met
  pub known : Notes seen met

-- document 01's number of an ending: 12 where there is no list, else 0
abbrev pub ending_number : prelude.Option ℕ → ℕ
ending_number (Some q) = 0
ending_number None = 12

-- the same of what is told
abbrev pub told_number : Told → ℕ
told_number lost = 12
told_number (told q m) = 0

-- its values: the position and the marks that were met
abbrev pub EndsAt : prelude.Option ℕ → List ℕ → Told → Type 0
EndsAt (Some q) seen v = Ended seen q v
EndsAt None seen v = Unit {0}

pub record Ends (r : prelude.Option ℕ) (seen : List ℕ) (v : Told) : Type 0 where
  pub number : ending_number r ≡ told_number v
  pub values : EndsAt r seen v

abbrev pub Within : prelude.Option ℕ → ℕ → ℕ → Type 0
Within (Some q) low size = (low ≤ q) × (q ≤ size)
Within None low size = Unit {0}

abbrev pub IfAt : prelude.Option ℕ → Type 0 → Type 0
IfAt (Some q) A = A
IfAt None A = Unit {0}
