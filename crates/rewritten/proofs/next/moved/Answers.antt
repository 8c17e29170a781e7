use native.Mathlib.Omega.{arith}
use Prim.Native.Nat.{◌+◌, ◌*◌, ◌/◌, ◌%◌}
use Rattle.rewritten.proofs.Ahead as law
use Rattle.rewritten.specs.Look.{frames_for}
use mathlib.Core.Path.{refl, sym, ap, ◌∙◌}
use Rattle.rewritten.proofs.next.moved.Goals as goal

pub returns-in-1 : goal.returns-in-1
returns-in-1 c = (c.begun.ensures.0, c.begun.ensures.1 ∙ sym (ap (frames_for c.args.frames.now _ _) c.in-1.is), law.moved_deeper c.args.tree.now c.args.frames.now c.args.at c.args.deep c.args.rest (c.args.what % 16) (c.args.what / 16) _ _ c.size_of.ensures c.step-end.ensures (c.args.what / 16 * 2) _ c.begun.ensures.2 (rw c.in-1.is refl))

pub returns-in-2 : goal.returns-in-2
returns-in-2 c = (c.begun-in-2.ensures.0, c.begun-in-2.ensures.1 ∙ sym (ap (frames_for c.args.frames.now _ _) c.in-2.is), law.moved_deeper c.args.tree.now c.args.frames.now c.args.at c.args.deep c.args.rest (c.args.what % 16) (c.args.what / 16) _ _ c.size_of.ensures c.step-end.ensures (c.args.what / 16 * 2 + 1) _ c.begun-in-2.ensures.2 (rw c.in-2.is refl))

pub returns-in_default : goal.returns-in_default
returns-in_default c = (refl, law.moved_kept c.args.tree.now c.args.frames.now c.args.at c.args.deep c.args.rest (c.args.what % 16) (c.args.what / 16) _ _ c.size_of.ensures c.step-end.ensures (λ z. omega (arith, z)) (λ z. omega (arith, z)), law.moved_on c.args.tree.now c.args.frames.now c.args.at c.args.deep c.args.rest (c.args.what % 16) (c.args.what / 16) _ _ c.size_of.ensures c.step-end.ensures (λ z. omega (arith, z)) (λ z. omega (arith, z)))
