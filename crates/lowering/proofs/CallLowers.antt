-- What a call that lowers has read, and what it hands back: no refusal is met, and the bytes are the result's and fit.
-- Assumes nothing.
use mathlib.Core.Path.{◌≡◌, refl}
use mathlib.Core.Bool.{true}
use mathlib.Core.List.{List}
use Prim.Native.Nat.{ℕ, suc}
use native.Mathlib.Omega.{arith}
use Rattle.tree.specs.Tree.{Node}
use Rattle.tree.specs.Grammar.Stage.{input}
use Rattle.tree.specs.Read.{Got, read_tree}
use Rattle.tree.specs.Read.Got.{got, refused}
use Rattle.lowering.specs.Weight.{walked}
use Rattle.lowering.specs.Collect.{bare, helper_mask}
use Rattle.lowering.specs.Refusals.{limit_outside, unknown_options, small_work, too_long_of}
use Rattle.lowering.specs.Answer.{Lent, fits, fitted, collected, after_walk, after_reading, in_force, lowering, top}
use Rattle.lowering.specs.Answer.Result.{refusal, lowered}
use Rattle.lowering.specs.Table.{met, result_tree, result_list}
use Rattle.lowering.proofs.Cases.{by_test, by_number}
use Rattle.lowering.proofs.RefusalOrder.{by_order}

pub record Lowers (limit : ℕ) (tree : List ℕ) (s : Lent) (t l : List ℕ) : Type 0 where
  pub n : Node
  pub end : ℕ
  pub next : ℕ
  pub read : read_tree input limit tree ≡ got n end next
  pub unrefused : met n next ≡ 0
  pub tree_bytes_lem : t ≡ result_tree n next
  pub list_bytes_lem : l ≡ result_list n next
  pub fit : fits s t l ≡ true

module _ (h o : ℕ) (t l : List ℕ) where
  no_refusal : {A : Type 0} (r : ℕ) → refusal r ≡ lowered h o t l → A
  no_refusal r e = let z : ◌≡◌ {A = ℕ} 0 1 = cc in absurd (omega arith)

  of_fitted : (s : Lent) (helpers options : ℕ) (t' l' : List ℕ) → fitted s helpers options t' l' ≡ lowered h o t l → (t ≡ t') × (l ≡ l') × (fits s t' l' ≡ true)
  unfolding fitted
  of_fitted s helpers options t' l' e =
      by_test (fits s t' l')
      (λ a. let z : lowered helpers options t' l' ≡ lowered h o t l = rw a at e in (cc, cc, a))
      (λ a. no_refusal too_long_of (rw a at e))

  of_walk : (limit options : ℕ) (tree : List ℕ) (s : Lent) (n : Node) (q next : ℕ) → read_tree input limit tree ≡ got n q next
      → after_walk options s next (walked top n) ≡ lowered h o t l → Lowers limit tree s t l
  unfolding after_walk collected
  of_walk limit options tree s n q next k e =
      by_number (met n next)
      (λ r z. no_refusal (suc r) (rw (z, after_walk) at e))
      (λ z.
      let f = of_fitted s (helper_mask (bare next (walked top n))) options (result_tree n next) (result_list n next) (rw (z, after_walk) at e) in
      let a : t ≡ result_tree n next = f.0 in
      let b : l ≡ result_list n next = f.1 in
      record { n = n; end = q; next = next; read = k; unrefused = z; tree_bytes_lem = a; list_bytes_lem = b; fit = rw (a, b) f.2 })

  of_reading : (limit options : ℕ) (tree : List ℕ) (s : Lent) (g : Got Node) → read_tree input limit tree ≡ g → after_reading options s g ≡ lowered h o t l → Lowers limit tree s t l
  unfolding after_reading
  of_reading limit options tree s (refused r) k e = no_refusal _ e
  of_reading limit options tree s (got n q next) k e = of_walk limit options tree s n q next k e

  pub lowers : (limit options : ℕ) (tree : List ℕ) (s : Lent) → lowering limit options tree s ≡ lowered h o t l → Lowers limit tree s t l
  lowers limit options tree s =
      by_order limit options tree s (λ x. x ≡ lowered h o t l → Lowers limit tree s t l) (no_refusal limit_outside) (no_refusal unknown_options) (no_refusal small_work)
      (of_reading limit (in_force options) tree s (read_tree input limit tree) refl)
