use Rattle.pattern.proofs.DeclaratorsCounted as law
use mathlib.Core.Path.{sym, ◌∙◌}
use Rattle.pattern.proofs.declarators.joined.Goals as goal
use Rattle.pattern.proofs.declarators.joined.Goals.{then-not-run, then-not-run-via-then-not-run, then-not-run-via-else-not-run+then-peek-ne0, else-not-run+else-peek-ne0}

pub returns-then-left-eq0 : goal.returns-then-left-eq0
returns-then-left-eq0 g c = law.folds_none _ _ _ _ _ c.if-left-eq0.true

pub loop-init : goal.loop-init
loop-init g c = (c.requires, λ u a. law.folds_start _ _ _ _ _ _ _ c.list-run.ensures a)

pub loop-preserved : goal.loop-preserved
loop-preserved g c = (
  c.loop.invariant.0,
  λ u a. c.loop.invariant.1 u (elim c.if-not-run.branch [
    | then-not-run w ↦ law.folds_node _ _ _ _ _ _ _ _ _ _ c.loop-test.true c.skip_item-p.ensures _
        (elim w.then-not-run.branch [
          | then-not-run-via-then-not-run v ↦ law.no_holes _ _ _ v.if-not-run.true
          | then-not-run-via-else-not-run+then-peek-ne0 v ↦ law.no_hole _ _ _ _ v.peek.ensures v.if-peek-ne0.true
        ])
        (rw w.t-is w.join-t.ensures) a
    | else-not-run+else-peek-ne0 w ↦ law.folds_hole _ _ _ _ _ _ _ _ _ _ c.loop-test.true c.skip_item-p.ensures _ w.if-not-run.false (sym w.peek.ensures.value ∙ w.if-peek-ne0.false) w.t-is a
  ]),
)

pub returns : goal.returns
returns g c = c.loop.invariant.1 _ (law.folds_end _ _ _ _ _ _ _ _ c.loop-test.false)
