-- `counting::figured` meets its contract, one law for each way out.
use Prim.Native.Nat.{◌-◌}
use native.Mathlib.Omega.{arith}
use Rattle.counting.proofs.Figures.{choose_largest, figured_above, figured_one, figured_twice}
use Rattle.counting.proofs.figured.Goals as goal

pub returns-then-c-n : goal.returns-then-c-n
returns-then-c-n c = figured_above _ _ (omega arith)

pub returns-then-c-lt2 : goal.returns-then-c-lt2
returns-then-c-lt2 c = figured_one _ _ (omega arith) (omega arith)

pub overflow_mul-result : goal.overflow_mul-result
overflow_mul-result c = let s = choose_largest (c.args.n - 1) (c.args.c - 1) (omega arith) in
    omega (arith, c.ways.ensures)

pub overflow_cast-result : goal.overflow_cast-result
overflow_cast-result c = let s = choose_largest (c.args.n - 1) (c.args.c - 1) (omega arith) in
    omega (arith, c.ways.ensures)

pub returns : goal.returns
returns c = figured_twice _ _ c.ways.result (omega arith) (omega arith) c.ways.ensures
