use native.Mathlib.Omega.{arith}
use mathlib.Core.Path.{◌∙◌}
use Rattle.std.proofs.lemmas.List.{ext_get_or}
use Rattle.sink.proofs.bytes.copy_over.Goals as goal

pub returns : goal.returns
returns c = ext_get_or 0 _ _ (c.loop-i.auto.to ∙ c.requires) (λ k g. c.loop-i.invariant k (omega (arith, g, c.loop-i-test.false, c.loop-i.auto.to, c.requires)))
