use mathlib.Core.Path.{refl}
use Rattle.rewritten.specs.Numbers.{plan_numbers}
use Rattle.rewritten.proofs.tables.plans.Goals as goal

pub returns : goal.returns
unfolding plan_numbers
returns c = refl
