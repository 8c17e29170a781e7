use mathlib.Core.Path.{sym}
use Rattle.tree.proofs.GrammarRows.{no_kind, form_none, form_declaration, form_either, form_expression, form_target, form_member, form_leaf, form_kind}
use Rattle.tree.proofs.grammar.form_at.Goals as goal
use Rattle.tree.proofs.grammar.form_at.Goals.{then-kind-gt63-via-then-kind-gt63, then-kind-gt63-via-else-kind-gt63+then-kinds-kind-eq0, else-place-gt18-via-then-place-gt18+then-kind-gt33+else-kind-lt38, else-place-gt18-via-then-place-gt18+else-kind-gt33, else-place-gt18-via-else-place-gt18}
use native.Mathlib.Omega.{arith}

pub returns-then-kind-gt63 : goal.returns-then-kind-gt63
returns-then-kind-gt63 c = elim c.then-kind-gt63.branch [ then-kind-gt63-via-then-kind-gt63 w ↦ sym (no_kind _ _ w.if-kind-gt63.true) | then-kind-gt63-via-else-kind-gt63+then-kinds-kind-eq0 w ↦ form_none _ _ _ w.if-kind-gt63.false w.kinds.ensures w.if-kinds-kind-eq0.true ]

pub returns-in-1 : goal.returns-in-1
returns-in-1 c = form_declaration _ _ _ c.if-kind-gt63.false c.kinds.ensures c.if-kinds-kind-eq0.false c.if-kind-eq-FUNCTION.true c.in-1.is

pub returns-in-2 : goal.returns-in-2
returns-in-2 c = form_either _ _ _ c.if-kind-gt63.false c.kinds.ensures c.if-kinds-kind-eq0.false c.if-kind-eq-FUNCTION.true (λ e. omega (arith, e, c.in-2.is)) c.in-2.is

pub returns-in_default : goal.returns-in_default
returns-in_default c = form_expression _ _ _ c.if-kind-gt63.false c.kinds.ensures c.if-kinds-kind-eq0.false c.if-kind-eq-FUNCTION.true c.in_default.in_default-own.rest.0.1 c.in_default.in_default-own.rest.1

pub returns-then-kind-lt38 : goal.returns-then-kind-lt38
returns-then-kind-lt38 c = form_target _ _ _ c.if-kind-gt63.false c.kinds.ensures c.if-kinds-kind-eq0.false c.if-kind-eq-FUNCTION.false c.if-place-gt18.true c.if-kind-gt33.true c.if-kind-lt38.true

pub returns : goal.returns
returns c = elim c.else-place-gt18.branch [
  | else-place-gt18-via-then-place-gt18+then-kind-gt33+else-kind-lt38 w ↦ form_member _ _ _ c.if-kind-gt63.false c.kinds.ensures c.if-kinds-kind-eq0.false c.if-kind-eq-FUNCTION.false w.if-place-gt18.true w.if-kind-gt33.true w.if-kind-lt38.false
  | else-place-gt18-via-then-place-gt18+else-kind-gt33 w ↦ form_leaf _ _ _ c.if-kind-gt63.false c.kinds.ensures c.if-kinds-kind-eq0.false c.if-kind-eq-FUNCTION.false w.if-place-gt18.true w.if-kind-gt33.false
  | else-place-gt18-via-else-place-gt18 w ↦ form_kind _ _ _ c.if-kind-gt63.false c.kinds.ensures c.if-kinds-kind-eq0.false c.if-kind-eq-FUNCTION.false w.if-place-gt18.false
]
