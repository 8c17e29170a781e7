use lib.ListN.{length}
use mathlib.Core.Path.{ap, ◌∙◌}
use native.Mathlib.Omega.{arith}
use Rattle.std.specs.Result.{result_ok}
use Rattle.std.proofs.lemmas.Result.{err_from_is_err_and}
use Rattle.joining.proofs.TablesFilled as tables
use Rattle.joining.proofs.Answering as law
use Rattle.joining.proofs.join.joined.Goals as goal
use Rattle.joining.proofs.join.joined.Goals.{then-n-gt32768-via-then-n-gt32768, then-n-gt32768-via-else-n-gt32768+then-out-n}

pub returns-in_err-latest : goal.returns-in_err-latest
returns-in_err-latest c = λ n h i j. let p = err_from_is_err_and c.from_residual.result c.from_residual.ensures.1 in law.told_missing _ _ _ _ _ _ _ _ _ _ c.ok_or.ensures.value c.in_err-latest.was p.1 p.2 (law.way_3 c.args.tree.now c.args.list.now (λ x. omega (arith, c.type_inv.tree x)) (λ x. omega (arith, c.type_inv.list x)) (length c.args.out.now) _ _ _ _ _ (c.collect.ensures n) (c.ok_or.ensures.ok_part ∙ ap result_ok c.in_err-latest.was))

pub returns-in_err-excluded : goal.returns-in_err-excluded
returns-in_err-excluded c = λ n h i j. let p = err_from_is_err_and c.from_residual-in_err-excluded.result c.from_residual-in_err-excluded.ensures.1 in law.told_missing _ _ _ _ _ _ _ _ _ _ c.ok_or-2.ensures.value c.in_err-excluded.was p.1 p.2 (law.way_12 c.args.tree.now c.args.list.now (λ x. omega (arith, c.type_inv.tree x)) (λ x. omega (arith, c.type_inv.list x)) (length c.args.out.now) _ _ _ _ _ (c.collect.ensures n) _ (c.ok_or.ensures.ok_part ∙ ap result_ok c.in_ok-latest.was) _ _ _ (λ met k. c.read.ensures met k (omega (arith, n.enough, c.collect.auto.frames)) h) (c.ok_or-2.ensures.ok_part ∙ ap result_ok c.in_err-excluded.was))

pub returns-then-not-settle : goal.returns-then-not-settle
returns-then-not-settle c = λ n h i j. law.way_13 c.args.tree.now c.args.list.now (λ x. omega (arith, c.type_inv.tree x)) (λ x. omega (arith, c.type_inv.list x)) (length c.args.out.now) _ _ _ _ _ (c.collect.ensures n) _ (c.ok_or.ensures.ok_part ∙ ap result_ok c.in_ok-latest.was) _ _ _ (λ met k. c.read.ensures met k (omega (arith, n.enough, c.collect.auto.frames)) h) _ (c.ok_or-2.ensures.ok_part ∙ ap result_ok c.in_ok-excluded.was) _ _ (omega (arith, i, c.fill.ensures.len)) (omega (arith, j, c.fill-2.ensures.len)) (tables.cleared _ _ (c.fill.ensures.after (λ y e. e))).1 (tables.cleared _ _ (c.fill-2.ensures.after (λ y e. e))).1 _ _ _ c.settle.ensures c.if-not-settle.true

pub returns-then-n-gt32768 : goal.returns-then-n-gt32768
returns-then-n-gt32768 c = λ n h i j. law.way_7 c.args.tree.now c.args.list.now (λ x. omega (arith, c.type_inv.tree x)) (λ x. omega (arith, c.type_inv.list x)) (length c.args.out.now) _ _ _ _ _ (c.collect.ensures n) _ (c.ok_or.ensures.ok_part ∙ ap result_ok c.in_ok-latest.was) _ _ _ (λ met k. c.read.ensures met k (omega (arith, n.enough, c.collect.auto.frames)) h) _ (c.ok_or-2.ensures.ok_part ∙ ap result_ok c.in_ok-excluded.was) _ _ (omega (arith, i, c.fill.ensures.len)) (omega (arith, j, c.fill-2.ensures.len)) (tables.cleared _ _ (c.fill.ensures.after (λ y e. e))).1 (tables.cleared _ _ (c.fill-2.ensures.after (λ y e. e))).1 _ _ _ c.settle.ensures c.if-not-settle.false _ (c.fill-3.ensures.after (λ y e. e)) _ _ c.write-n.ensures (elim c.then-n-gt32768.branch [
  | then-n-gt32768-via-then-n-gt32768 w ↦ omega (arith, w.if-n-gt32768.true)
  | then-n-gt32768-via-else-n-gt32768+then-out-n w ↦ omega (arith, w.if-out-n.true)
])

pub returns : goal.returns
returns c = λ n h i j. law.way_0 c.args.tree.now c.args.list.now (λ x. omega (arith, c.type_inv.tree x)) (λ x. omega (arith, c.type_inv.list x)) (length c.args.out.now) _ _ _ _ _ (c.collect.ensures n) _ (c.ok_or.ensures.ok_part ∙ ap result_ok c.in_ok-latest.was) _ _ _ (λ met k. c.read.ensures met k (omega (arith, n.enough, c.collect.auto.frames)) h) _ (c.ok_or-2.ensures.ok_part ∙ ap result_ok c.in_ok-excluded.was) _ _ (omega (arith, i, c.fill.ensures.len)) (omega (arith, j, c.fill-2.ensures.len)) (tables.cleared _ _ (c.fill.ensures.after (λ y e. e))).1 (tables.cleared _ _ (c.fill-2.ensures.after (λ y e. e))).1 _ _ _ c.settle.ensures c.if-not-settle.false _ (c.fill-3.ensures.after (λ y e. e)) _ _ c.write-n.ensures (omega (arith, c.if-n-gt32768.false, c.if-out-n.false))
