use Rattle.printer.proofs.PiecesWritten as law
use Rattle.printer.specs.Stacks.{Buffer, put}
use mathlib.Core.Path.{sym, ap, ◌∙◌}
use native.Mathlib.Omega.{arith}
use Prim.Native.Nat.{ℕ, ◌/◌, ◌%◌}
use Rattle.printer.specs.Names.{hex_digit}
use Rattle.printer.proofs.out.put_escaped.Goals as goal

pub returns-then-needs_escape : goal.returns-then-needs_escape
returns-then-needs_escape c = c.put.ensures ∙ ap (λ (b : Buffer). put b c.hex_digit-low.result) (c.put-r.ensures ∙ ap (λ (b : Buffer). put b c.hex_digit-high.result) (c.put-q.ensures ∙ ap (λ (b : Buffer). put b 120) c.put-p.ensures)) ∙ law.escape_written _ _ _ _ (sym c.needs_escape.ensures ∙ c.if-needs_escape.true) (c.hex_digit-high.ensures (omega (arith, c.from.ensures, c.well_formed)) ∙ ap (λ (x : ℕ). hex_digit (x / 16)) c.from.ensures) (c.hex_digit-low.ensures (omega (arith, c.from-then-needs_escape.ensures)) ∙ ap (λ (x : ℕ). hex_digit (x % 16)) c.from-then-needs_escape.ensures)

pub returns : goal.returns
returns c = c.put-2.ensures ∙ law.plain_written _ _ (sym c.needs_escape.ensures ∙ c.if-needs_escape.false)
