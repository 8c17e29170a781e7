use mathlib.Core.Path.{ap, ◌∙◌}
use mathlib.Core.List.{List}
use Prim.Native.Nat.{ℕ}
use native.Mathlib.Omega.{arith}
use Rattle.printer.specs.Places.{text_bytes, spelled}
use Rattle.printer.specs.Stacks.{frame_in, text_at_of, write, buffer_in}
use Rattle.printer.proofs.StepTurns as law
use Rattle.printer.proofs.TextsRead as read
use Rattle.printer.proofs.step.text_met.Goals as goal

pub returns : goal.returns
returns c = λ hs hw k hp hc.
    let e = read.text_read c.args.tree.now c.args.p _ c.wide_at-n.result (read.within_short c.args.p (omega arith)) c.wide_at-n.ensures.value in
    law.text_turned c.args.tree.now k c.args.starts.now (buffer_in c.args.text.now c.args.s.spot) _ c.args.s (text_at_of c.args.tree.now c.args.p) _ _ _ _ c.text_bytes-spot.result (c.text_bytes-spot.ensures hs hw ∙ ap (λ (z : List ℕ). write (buffer_in c.args.text.now c.args.s.spot) (text_bytes (frame_in c.args.s.top) z)) e) (c.spelled.ensures ∙ ap (spelled (frame_in c.args.s.top)) e) c.noting_in-top.ensures (c.hold_text-count.ensures hp hc c.args.tree.now)
