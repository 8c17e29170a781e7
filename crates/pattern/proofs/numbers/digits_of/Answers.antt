use mathlib.Core.Path.{refl}
use native.Mathlib.Omega.{arith}
use Rattle.pattern.proofs.NumberCases as law
use Rattle.pattern.proofs.numbers.digits_of.Goals as goal

pub loop-n-init : goal.loop-n-init
loop-n-init c = law.writing_start _ _ refl (omega arith)

pub bounds-bytes-i : goal.bounds-bytes-i
bounds-bytes-i c = let p = c.loop-n.invariant.place in omega arith

pub overflow_sub-i : goal.overflow_sub-i
overflow_sub-i c = let z = law.writing_left _ _ _ _ c.loop-n.invariant c.loop-n-test.true in omega arith

pub loop-n-preserved : goal.loop-n-preserved
loop-n-preserved c = law.writing_on _ _ _ _ c.loop-n.invariant c.loop-n-test.true

pub bounds-bytes-i-2 : goal.bounds-bytes-i-2
bounds-bytes-i-2 c = let p = c.loop-n.invariant.place in omega arith

pub returns : goal.returns
returns c = let p = c.loop-n.invariant.place in
    (law.writing_array _ _ _ _ c.loop-n.invariant _, omega arith, law.writing_end _ _ _ _ c.loop-n.invariant c.loop-n-test.false)
