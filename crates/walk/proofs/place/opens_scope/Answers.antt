use native.Mathlib.Omega.{arith}
use mathlib.Core.Path.{sym, ap}
use Rattle.lowering.specs.Walk.{opens_scope}
use Rattle.walk.proofs.Emits as law
use Rattle.walk.proofs.place.opens_scope.Goals as goal

pub returns-in_default : goal.returns-in_default
returns-in_default c = law.no_scope c.args.kind c.args.field (grind arith) (grind arith) (grind arith) (grind arith) (grind arith) (grind arith) (grind arith) (grind arith) (grind arith) (grind arith)

pub returns-in_default-2 : goal.returns-in_default-2
returns-in_default-2 c = law.no_scope c.args.kind c.args.field (grind arith) (grind arith) (grind arith) (grind arith) (grind arith) (grind arith) (grind arith) (grind arith) (grind arith) (grind arith)

pub returns-in-2 : goal.returns-in-2
returns-in-2 c = law.some_scope c.args.kind c.args.field (λ h i j k l m n o p. omega arith)

pub returns-in-2-2 : goal.returns-in-2-2
returns-in-2-2 c = law.some_scope c.args.kind c.args.field (λ h i j k l m n o p. omega arith)

pub returns-in-43 : goal.returns-in-43
unfolding opens_scope
returns-in-43 c = ap (λ k. opens_scope k c.args.field) (sym c.in-43.is)
