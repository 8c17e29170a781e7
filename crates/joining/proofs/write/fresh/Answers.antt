use native.Mathlib.Omega.{arith}
use native.Mathlib.Decide.{dec_lt}
use Prim.Native.Nat.{◌≤◌}
use mathlib.Core.Path.{◌≡◌}
use Rattle.joining.specs.Writing.{free_after}
use Rattle.joining.proofs.BytesWritten as law
use Rattle.joining.proofs.write.fresh.Goals as goal

pub loop-m-init : goal.loop-m-init
loop-m-init c = law.free_start _ _

pub returns-then-peek-ne1 : goal.returns-then-peek-ne1
returns-then-peek-ne1 c = law.free_found _ _ _ _ c.loop-m-test.true c.loop-m.invariant c.peek.ensures.value c.if-peek-ne1.true

pub loop-m-preserved : goal.loop-m-preserved
loop-m-preserved c = law.free_next _ _ _ _ c.loop-m-test.true c.loop-m.invariant c.peek.ensures.value c.if-peek-ne1.false

pub returns : goal.returns
returns c =
    let high : 65535 ≤ c.args.mark → c.args.mark ≡ free_after c.args.seen.now c.args.mark = λ h. law.free_last c.args.seen.now c.args.mark _ h (law.free_start c.args.seen.now c.args.mark) in
    let ended : c.loop-m.m ≡ free_after c.args.seen.now c.args.mark = law.free_last c.args.seen.now c.loop-m.m _ c.loop-m-test.false c.loop-m.invariant in
    elim (dec_lt 65535 c.args.mark) [ yes h ↦ (let e : c.args.mark ≡ free_after c.args.seen.now c.args.mark = high (omega arith) in omega arith) | no h ↦ omega arith ]
