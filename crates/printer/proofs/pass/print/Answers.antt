use mathlib.Core.Path.{refl, ◌∙◌}
use native.Mathlib.Omega.{arith}
use Rattle.printer.proofs.Going as law
use Rattle.printer.proofs.pass.print.Goals as goal

pub loop-i-init : goal.loop-i-init
loop-i-init c = (omega arith, refl, refl, refl, λ hs hr hw n w a b. law.going_start c.args.tree.now c.args.log.now c.args.stack.now c.args.starts.now c.args.text.now a b _ c.begin-s.ensures)

pub loop-i-smaller : goal.loop-i-smaller
loop-i-smaller c = omega (arith, c.loop-i-test.true)

pub loop-i-preserved : goal.loop-i-preserved
loop-i-preserved c = (
  omega (arith, c.loop-i-test.true),
  c.turn-s.auto.stack ∙ c.loop-i.invariant.1,
  c.turn-s.auto.starts ∙ c.loop-i.invariant.2,
  c.turn-s.auto.text ∙ c.loop-i.invariant.3,
  λ hs hr hw n w a b.
      let g = c.loop-i.invariant.4 hs hr hw n w a b in
      let h = w.sound _ c.loop-i-test.true in
      let e = c.entry_at.ensures in
      law.going_next c.args.tree.now c.args.log.now c.loop-i.stack c.loop-i.starts _ c.loop-i.text c.loop-i.s c.loop-i.i g h _ e _ _ _ _ c.turn-s.auto.stack c.turn-s.auto.starts
      (c.turn-s.ensures hs hr hw (law.few_held c.args.tree.now c.args.log.now c.loop-i.stack c.loop-i.starts _ c.loop-i.text c.loop-i.s c.loop-i.i g h _ e) (law.ready c.args.tree.now c.args.log.now c.loop-i.stack c.loop-i.starts _ c.loop-i.text c.loop-i.s c.loop-i.i g h _ e)),
)

pub returns : goal.returns
returns c = λ hs hr hw n w a b. law.going_done c.args.tree.now c.args.log.now c.loop-i.stack c.loop-i.starts _ c.loop-i.text c.loop-i.s c.loop-i.i _ (c.loop-i.invariant.4 hs hr hw n w a b) (omega (arith, c.loop-i.invariant.0, c.loop-i-test.false)) n w
