use native.Mathlib.Omega.{arith}
use Rattle.walk.proofs.Emits as law
use Rattle.walk.proofs.place.container.Goals as goal

pub returns-in_default : goal.returns-in_default
returns-in_default c = law.no_container c.args.kind (grind arith) (grind arith) (grind arith) (grind arith) (grind arith)

pub returns-in_default-2 : goal.returns-in_default-2
returns-in_default-2 c = law.no_container c.args.kind (grind arith) (grind arith) (grind arith) (grind arith) (grind arith)

pub returns-in-1 : goal.returns-in-1
returns-in-1 c = law.some_container c.args.kind (λ x y z u v. omega arith)

pub returns-in-1-2 : goal.returns-in-1-2
returns-in-1-2 c = law.some_container c.args.kind (λ x y z u v. omega arith)
