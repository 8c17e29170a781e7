use Rattle.walk.proofs.SourcesRead as law
use Rattle.walk.proofs.pieces.await_of.Goals.{else-peek-eq-FOR_OF-via-then-peek-eq-FOR_OF+else-peek-eq1, else-peek-eq-FOR_OF-via-else-peek-eq-FOR_OF}
use Rattle.walk.proofs.pieces.await_of.Goals as goal

pub returns-then-peek-eq1 : goal.returns-then-peek-eq1
returns-then-peek-eq1 c = let b = law.await_yes _ _ _ _ _ c.peek.ensures c.if-peek-eq-FOR_OF.true c.step.ensures c.peek-then-peek-eq-FOR_OF.ensures c.if-peek-eq1.true in
    (law.passes_byte _ _ _ _ _ b c.step-then-peek-eq1.ensures c.copy.ensures.1, λ l k. law.copies_byte _ _ _ _ b c.step-then-peek-eq1.ensures (c.copy.ensures.0 l k))

pub returns : goal.returns
returns c = elim c.else-peek-eq-FOR_OF.branch [
  | else-peek-eq-FOR_OF-via-then-peek-eq-FOR_OF+else-peek-eq1 w ↦ let b = law.await_no _ _ _ _ _ c.peek.ensures w.step.ensures w.peek-then-peek-eq-FOR_OF.ensures w.if-peek-eq1.false in (law.passes_none _ _ _ b, λ l k. law.copies_none _ _ _ b)
  | else-peek-eq-FOR_OF-via-else-peek-eq-FOR_OF w ↦ let b = law.await_other _ _ _ c.peek.ensures w.if-peek-eq-FOR_OF.false in (law.passes_none _ _ _ b, λ l k. law.copies_none _ _ _ b)
]
