-- The table of refusals: every call hands back what the line says that applies to it, and no other line applies.
-- Assumes nothing.
use mathlib.Core.Path.{◌≡◌, refl, ap, ◌∙◌}
use mathlib.Core.Bool.{Bool, cond}
use mathlib.Core.List.{List}
use Prim.Native.Nat.{ℕ, suc}
use native.Mathlib.Omega.{arith}
use lib.Dec.{ltb}
use borrow.Author.Tests.{ltb-true, ltb-false}
use Rattle.tree.specs.Tree.{Node}
use Rattle.tree.specs.Grammar.Stage.{input}
use Rattle.tree.specs.Read.{Got, Refusal, number_of, read_tree}
use Rattle.tree.specs.Read.Got.{got, refused}
use Rattle.tree.specs.Read.Refusal.{not_a_tree, too_deep}
use Rattle.lowering.specs.Weight.{walked}
use Rattle.lowering.specs.Collect.{bare, helper_mask}
use Rattle.lowering.specs.Refusals.{too_long_of}
use Rattle.lowering.specs.Answer.{Lent, Result, fits, fitted, collected, after_walk, limit_refused, in_force, after_reading, lowering, outcome_of, outcome, top}
use Rattle.lowering.specs.Answer.Result.{refusal, lowered}
use Rattle.lowering.specs.Table.{Meets, Five, Six, Eleven, Admitted, Accepted, met, result_tree, result_list, HandedBack, IsTable}
use Rattle.lowering.proofs.Cases.{by_test}
use Rattle.lowering.proofs.Answers.{ByWalk, walk_refuses}
use Rattle.lowering.proofs.RefusalOrder.{limit_outside_lem, options_unknown, work_small, reading_decides}
use Rattle.lowering.proofs.RefusalsMet.{OneMet, five_where, six_where, eleven_where, refused_if, accepted_if}

-- ---- a line that applies is what the definition gives

-- a refusal of the walk
walk_refused : (o : ℕ) (s : Lent) (n : Node) (next r : ℕ) → met n next ≡ suc r → after_walk o s next (walked top n) ≡ refusal (suc r)
unfolding after_walk
walk_refused o s n next r e = rw (e, after_walk) refl

-- none
walk_passed : (o : ℕ) (s : Lent) (n : Node) (next : ℕ) → met n next ≡ 0
    → after_walk o s next (walked top n) ≡ fitted s (helper_mask (bare next (walked top n))) o (result_tree n next) (result_list n next)
unfolding after_walk collected
walk_passed o s n next e = rw (e, after_walk) refl

module _ (limit options : ℕ) (tree : List ℕ) (s : Lent) where
  read_refused : Admitted limit options s → (r : Refusal) → read_tree input limit tree ≡ refused r
      → lowering limit options tree s ≡ refusal (number_of r)
  unfolding after_reading
  read_refused a r e = reading_decides limit options tree s a ∙ ap (λ (g : Got Node). after_reading (in_force options) s g) e

  read_accepted : {n : Node} {next : ℕ} → Accepted limit options tree s n next → lowering limit options tree s ≡ after_walk (in_force options) s next (walked top n)
  unfolding after_reading
  read_accepted a = reading_decides limit options tree s a.admitted ∙ ap (λ (g : Got Node). after_reading (in_force options) s g) a.read

  fits_or_not : {n : Node} {next : ℕ} → Accepted limit options tree s n next → (OneMet top n → ⊥)
      → lowering limit options tree s ≡ fitted s (helper_mask (bare next (walked top n))) (in_force options) (result_tree n next) (result_list n next)
  fits_or_not {n} {next} a f = read_accepted a ∙ walk_passed (in_force options) s n next (accepted_if top n next 0 f)

  none_met : {n : Node} → (Meets Five top n → ⊥) → (Meets Six top n → ⊥) → (Meets Eleven top n → ⊥) → OneMet top n → ⊥
  none_met f x y (OneMet.five m) = f m
  none_met f x y (OneMet.six m) = x m
  none_met f x y (OneMet.eleven m) = y m

  line_is : (r : Result) → HandedBack limit options tree s r → lowering limit options tree s ≡ r
  unfolding fitted
  line_is r (HandedBack.nine e) = limit_outside_lem limit options tree s e
  line_is r (HandedBack.one e h) = options_unknown limit options tree s e h
  line_is r (HandedBack.two e k h) = work_small limit options tree s e k h
  line_is r (HandedBack.three a e) = read_refused a not_a_tree e
  line_is r (HandedBack.four a e) = read_refused a too_deep e
  line_is r (HandedBack.five {n = n} {next = next} a e m) = read_accepted a ∙ walk_refused (in_force options) s n next 4 e
  line_is r (HandedBack.six {n = n} {next = next} a e m) = read_accepted a ∙ walk_refused (in_force options) s n next 5 e
  line_is r (HandedBack.eleven {n = n} {next = next} a e m) = read_accepted a ∙ walk_refused (in_force options) s n next 10 e
  line_is r (HandedBack.seven {n = n} {next = next} a f x y e) =
      fits_or_not a (none_met f x y)
      ∙ ap (λ (b : Bool). cond b (lowered (helper_mask (bare next (walked top n))) (in_force options) (result_tree n next) (result_list n next)) (refusal too_long_of)) e
  line_is r (HandedBack.zero {n = n} {next = next} a f x y e) =
      fits_or_not a (none_met f x y)
      ∙ ap (λ (b : Bool). cond b (lowered (helper_mask (bare next (walked top n))) (in_force options) (result_tree n next) (result_list n next)) (refusal too_long_of)) e

  -- ---- and one applies

  some_walk : {n : Node} {next : ℕ} → Accepted limit options tree s n next → (m : ℕ) → ByWalk m → met n next ≡ m → (r : Result) × HandedBack limit options tree s r
  some_walk {n} {next} a m ByWalk.no e =
      by_test (fits s (result_tree n next) (result_list n next))
      (λ t. (_, HandedBack.zero a (λ f. none (OneMet.five f)) (λ x. none (OneMet.six x)) (λ y. none (OneMet.eleven y)) t))
      (λ t. (_, HandedBack.seven a (λ f. none (OneMet.five f)) (λ x. none (OneMet.six x)) (λ y. none (OneMet.eleven y)) t))
    where
      none : OneMet top n → ⊥
      none o = let h = refused_if top n next 0 o in absurd (omega arith)
  some_walk {n} {next} a m ByWalk.five e = (_, HandedBack.five a e (five_where top n next 0 e))
  some_walk {n} {next} a m ByWalk.six e = (_, HandedBack.six a e (six_where top n next 0 e))
  some_walk {n} {next} a m ByWalk.eleven e = (_, HandedBack.eleven a e (eleven_where top n next 0 e))

  some_reading : Admitted limit options s → (g : Got Node) → read_tree input limit tree ≡ g → (r : Result) × HandedBack limit options tree s r
  some_reading a (got n q next) e = some_walk (record { admitted = a; end = q; read = e }) (met n next) (walk_refuses next 0 top n) refl
  some_reading a (refused not_a_tree) e = (_, HandedBack.three a e)
  some_reading a (refused too_deep) e = (_, HandedBack.four a e)

  some_line : (r : Result) × HandedBack limit options tree s r
  some_line =
      by_test (limit_refused limit)
      (λ e. (_, HandedBack.nine e))
      (λ e. by_test (ltb 15 options)
      (λ f. (_, HandedBack.one e (ltb-true 15 options f)))
      (λ f. by_test (ltb s.work_slice 65536)
      (λ g. (_, HandedBack.two e (ltb-false 15 options f) (ltb-true s.work_slice 65536 g)))
      (λ g. some_reading (record { allowed = e; known = ltb-false 15 options f; roomy = ltb-false s.work_slice 65536 g }) (read_tree input limit tree) refl)))

-- the table of refusals, of every call
pub table : (limit options : ℕ) (tree : List ℕ) (s : Lent) → IsTable limit options tree s (outcome limit options tree s)
unfolding outcome
table limit options tree s =
    let l = some_line limit options tree s in
    record {
      result = l.0;
      applies = l.1;
      is = ap (outcome_of s) (line_is limit options tree s l.0 l.1);
      only = λ r h. ap (outcome_of s) (line_is limit options tree s r h);
    }
