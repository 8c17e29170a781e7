use native.Mathlib.Omega.{arith}
use Rattle.rewritten.proofs.Frames as law
use Rattle.rewritten.proofs.task.planned.Goals as goal

pub overflow_cast-count : goal.overflow_cast-count
overflow_cast-count c = omega (arith, law.few_zeros_lem c.args.map c.requires)

pub overflow_shl-count : goal.overflow_shl-count
overflow_shl-count c = omega (arith, law.few_zeros_lem c.args.map c.requires)

pub overflow_mul-result : goal.overflow_mul-result
overflow_mul-result c = omega (arith, law.few_zeros_lem c.args.map c.requires)

pub overflow_cast-result : goal.overflow_cast-result
overflow_cast-result c = omega (arith, law.few_zeros_lem c.args.map c.requires)

pub overflow_shl-result : goal.overflow_shl-result
overflow_shl-result c = omega (arith, law.few_zeros_lem c.args.map c.requires)

pub nonzero_rem-result : goal.nonzero_rem-result
nonzero_rem-result c = law.shifted_some _ (law.few_zeros_lem c.args.map c.requires)

pub returns-then-map-count : goal.returns-then-map-count
returns-then-map-count c = law.plan_firsts _ _ _ (law.few_zeros_lem c.args.map c.requires) c.if-map-count.true

pub returns-else-map-count : goal.returns-else-map-count
returns-else-map-count c = (c.plan.ensures.0, λ _. c.plan.ensures.1)
