use native.Mathlib.Omega.{arith}
use borrow.Author.Rules.{rules}
use Rattle.std.proofs.lemmas.Result.{err_from_is_err_and}
use Rattle.rest_spread.specs.Entry.{lent_of, Ends}
use Rattle.rest_spread.proofs.LoweringEntry as law
use Rattle.rest_spread.proofs.read_and_lower.Goals as goal

pub returns-in_err-reading : goal.returns-in_err-reading
returns-in_err-reading c = λ long big.
    let p = err_from_is_err_and c.from_residual.result c.from_residual.ensures.1 in
    rw (p.1, p.2) (law.read_refused _ _ c.args.tree.now c.args.room.now c.args.out.now c.args.list.now c.args.work.now _ c.read_into.ensures.0 _ c.in_err-reading.was)

pub returns : goal.returns
returns c = λ long big.
    law.read_lowered _ _ c.args.tree.now c.args.room.now c.args.out.now c.args.list.now c.args.work.now _ c.read_into.ensures.0 (λ o. Ends c.lower.result c.lower.new.out c.lower.new.list c.lower.new.work (lent_of c.args.out.now c.args.list.now c.args.work.now) o) _ _ c.in_ok-reading.was
    (λ i. omega (arith, c.type_inv.tree i))
    (λ i. search rules)
    c.read_into.ensures.1 c.lower.ensures long big
