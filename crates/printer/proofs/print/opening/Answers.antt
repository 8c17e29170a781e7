use mathlib.Core.Path.{sym, ap, ◌∙◌}
use Prim.Native.Nat.{ℕ}
use Rattle.printer.proofs.Openings as law
use Rattle.printer.specs.Places.{is_statement}
use Rattle.printer.specs.Stacks.{frame_in}
use Rattle.printer.proofs.print.opening.Goals as goal

pub returns : goal.returns
returns c = λ w k m n hm ho hd hs hw hh hf. law.opened (frame_in c.args.p) (frame_in c.args.f) k m n hf _ _ c.args.wrapped c.is_computed.result (c.leading.ensures k m hm ho hd) hd hh hw c.kind_in.ensures c.kind_in-2.ensures c.note_in.ensures c.choose.ensures c.is_computed.ensures (c.say_any-a.ensures w) (c.joint-c.ensures w n hm (hs ∙ ap (λ (x : ℕ). is_statement x n) (sym (law.kind_is (frame_in c.args.p) (frame_in c.args.f) k m n hf _ c.kind_in.ensures)))) c.bracket-d.ensures (c.say_any-e.ensures w) c.bracket.ensures
