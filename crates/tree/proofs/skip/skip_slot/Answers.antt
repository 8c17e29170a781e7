use Rattle.tree.proofs.Skipping as law
use mathlib.Core.Path.{◌∙◌}
use native.Mathlib.Decide.{dec_lt}
use native.Mathlib.Omega.{arith}
use Prim.Native.Nat.{◌/◌}
use Rattle.tree.proofs.skip.skip_slot.Goals as goal
use Rattle.tree.proofs.skip.skip_slot.Goals.{in_default-via-then-this-lt1, in_default-via-else-this-lt1+else-this-lt3+then-this-lt7, in_default-via-else-this-lt1+else-this-lt3+else-this-lt7+else-this-lt10}

pub returns-then-bit-eq0 : goal.returns-then-bit-eq0
returns-then-bit-eq0 c = law.slot_absent _ _ _ _ _ c.if-bit-eq0.true

pub returns-in-1 : goal.returns-in-1
returns-in-1 c = c.skip.ensures ∙ (elim (dec_lt (c.args.code / 32) 2) [
  | yes h ↦ law.slot_class _ _ _ _ _ c.if-bit-eq0.false 1 (omega arith)
  | no h ↦ law.slot_class _ _ _ _ _ c.if-bit-eq0.false 2 (omega arith)
])

pub returns-in-3 : goal.returns-in-3
returns-in-3 c = law.slot_many _ _ _ _ _ c.if-bit-eq0.false _ _ _ c.wide_at.ensures.value c.step.ensures c.skip_items.ensures c.in-3.is

pub returns-in-4 : goal.returns-in-4
returns-in-4 c = law.slot_gaps _ _ _ _ _ c.if-bit-eq0.false _ _ _ c.wide_at-in-4.ensures.value c.step-in-4.ensures c.skip_items-in-4.ensures c.in-4.is

pub returns-in-5 : goal.returns-in-5
returns-in-5 c = law.slot_text _ _ _ _ _ c.if-bit-eq0.false _ _ c.wide_at-in-5.ensures.value c.step-in-5.ensures c.in-5.is

pub returns-in-7 : goal.returns-in-7
returns-in-7 c = c.step-in-7.ensures ∙ (elim (dec_lt (c.args.code / 32) 8) [
  | yes h ↦ law.slot_class _ _ _ _ _ c.if-bit-eq0.false 7 (omega arith)
  | no h ↦ elim (dec_lt (c.args.code / 32) 9) [
    | yes g ↦ law.slot_class _ _ _ _ _ c.if-bit-eq0.false 8 (omega arith)
    | no g ↦ law.slot_class _ _ _ _ _ c.if-bit-eq0.false 9 (omega arith)
  ]
])

pub returns-in_default : goal.returns-in_default
returns-in_default c = c.step-in_default.ensures ∙ law.slot_wide _ _ _ _ _ c.if-bit-eq0.false (λ a b. elim c.in_default.branch [
  | in_default-via-then-this-lt1 w ↦ omega (arith, a)
  | in_default-via-else-this-lt1+else-this-lt3+then-this-lt7 w ↦ omega (arith, b)
  | in_default-via-else-this-lt1+else-this-lt3+else-this-lt7+else-this-lt10 w ↦ omega arith
])
