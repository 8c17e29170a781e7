use Rattle.result.proofs.Looking as law
use Rattle.rewritten.proofs.Pass as pass
use Rattle.std.proofs.Common.{arith, inl, inr, ne_eqb, ◌∙◌}
use Rattle.result.proofs.leftover.look.Goals as goal

pub returns-then-tree-gt32768 : goal.returns-then-tree-gt32768
returns-then-tree-gt32768 c = elim c.then-tree-gt32768.either [
  | inl long ↦ λ _. law.too_long c.args.tree.now long
  | inr few ↦ λ a. absurd (omega (arith, a, few.1))
]

pub loop-e-init : goal.loop-e-init
loop-e-init c = law.looking_start c.args.tree.now c.args.frames.now c.if-tree-gt32768.false _ c.begin-cursor.ensures

pub loop-e-smaller : goal.loop-e-smaller
loop-e-smaller c = law.looking_falls _ _ _ _ _ _ _ c.loop-e.invariant _ c.next.ensures.1 c.in-Next.e _ c.in-Next.is

pub loop-e-preserved : goal.loop-e-preserved
loop-e-preserved c = law.looking_next _ _ _ _ _ _ _ c.loop-e.invariant _ c.next.ensures.1 c.in-Next.e _ c.in-Next.is c.next.ensures.0 _ c.meet-met.ensures

pub returns-then-cursor-tree : goal.returns-then-cursor-tree
returns-then-cursor-tree c = λ _. law.looking_ends _ _ _ _ _ _ _ c.loop-e.invariant _ c.next.ensures.1 c.in-Done.is c.if-cursor-tree.true

pub returns-else-cursor-tree : goal.returns-else-cursor-tree
returns-else-cursor-tree c = λ _. ne_eqb _ _ c.if-cursor-tree.false ∙ law.looking_early _ _ _ _ _ _ _ c.loop-e.invariant _ c.next.ensures.1 c.in-Done.is c.if-cursor-tree.false

pub returns-in-Refused : goal.returns-in-Refused
returns-in-Refused c = elim c.in-Refused.is [
  | inl refused ↦ λ _. law.looking_refused _ _ _ _ _ _ _ c.loop-e.invariant _ c.next.ensures.1 refused
  | inr full ↦ λ _. absurd (pass.frames_suffice _ _ _ _ _ c.loop-e.invariant.tour _ c.next.ensures.1 full c.if-tree-gt32768.false c.if-frames-lt16384.false)
]
