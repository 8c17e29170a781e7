use mathlib.Core.List.{List}
use Prim.Native.Nat.{ℕ}
use mathlib.Core.Path.{ap, ◌∙◌}
use Rattle.printer.proofs.TextsRead as law
use Rattle.printer.specs.Names.{in_quotes}
use Rattle.printer.specs.Stacks.{write, buffer_in}
use Rattle.printer.proofs.texts.quoted.Goals as goal

pub returns : goal.returns
returns c = λ h. c.quote.ensures ∙ ap (λ (bs : List ℕ). write (buffer_in c.args.text.now c.args.spot) (in_quotes bs)) (law.text_read _ _ _ _ (law.within_long _ h) c.wide_at.ensures.value)
