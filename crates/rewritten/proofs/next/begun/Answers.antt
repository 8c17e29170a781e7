use lib.ListN.{length-set}
use lib.Seq.{set_out}
use mathlib.Core.Path.{refl, sym}
use borrow.Author.Tests.{lt-ltb, le-ltb}
use Rattle.rewritten.proofs.next.begun.Goals as goal

pub returns-then-deep-frames : goal.returns-then-deep-frames
returns-then-deep-frames c = (length-set c.args.frames.now _ _, refl, rw (lt-ltb _ _ c.if-deep-frames.true) refl)

pub returns : goal.returns
returns c = (refl, sym (set_out c.args.frames.now _ _ c.if-deep-frames.false), rw (le-ltb _ _ c.if-deep-frames.false) refl)
