use Rattle.tree.proofs.Skipping as law
use native.Mathlib.Omega.{arith}
use Rattle.tree.proofs.skip.note_at.Goals as goal
use Rattle.tree.proofs.skip.note_at.Goals.{else-at-half-via-else-at-half, else-at-half-via-then-at-half+else-at-half-2}

pub returns-then-at-half-2 : goal.returns-then-at-half-2
returns-then-at-half-2 c = law.note_in _ _ _ c.if-at-half-2.true c.wide_at.ensures.value

pub returns-else-at-half : goal.returns-else-at-half
returns-else-at-half c = law.note_out _ _ (elim c.else-at-half.branch [ else-at-half-via-else-at-half w ↦ omega (arith, w.if-at-half.false) | else-at-half-via-then-at-half+else-at-half-2 w ↦ w.if-at-half-2.false ])
