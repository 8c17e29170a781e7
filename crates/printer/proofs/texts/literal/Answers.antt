use mathlib.Core.Path.{sym, ap, ◌∙◌}
use Rattle.printer.proofs.Spelling as law
use Rattle.printer.specs.Stacks.{frame_in, write, buffer_in}
use Rattle.printer.proofs.texts.literal.Goals as goal

pub returns-then-seen_in-gt0 : goal.returns-then-seen_in-gt0
unfolding write
returns-then-seen_in-gt0 c = ap (write (buffer_in c.args.text.now c.args.spot)) (sym (law.literal_seen (frame_in c.args.f) _ (rw c.seen_in.ensures at c.if-seen_in-gt0.true)))

pub returns-then-map_in-eq0 : goal.returns-then-map_in-eq0
returns-then-map_in-eq0 c = c.quote.ensures ∙ ap (write (buffer_in c.args.text.now c.args.spot)) (sym (law.literal_alone (frame_in c.args.f) (rw c.seen_in.ensures at c.if-seen_in-gt0.false) _ (sym c.field_in.ensures ∙ c.if-field_in-eq1.true) (sym c.is_empty.ensures ∙ c.if-is_empty.true) (rw c.map_in.ensures at c.if-map_in-eq0.true)))

pub returns-then-is_empty : goal.returns-then-is_empty
unfolding write
returns-then-is_empty c = ap (write (buffer_in c.args.text.now c.args.spot)) (sym (law.literal_none (frame_in c.args.f) (rw c.seen_in.ensures at c.if-seen_in-gt0.false) _ (sym c.field_in.ensures ∙ c.if-field_in-eq1.true) (sym c.is_empty.ensures ∙ c.if-is_empty.true) (rw c.map_in.ensures at c.if-map_in-eq0.false)))

pub returns-then-field_in-eq1 : goal.returns-then-field_in-eq1
returns-then-field_in-eq1 c = c.copy.ensures ∙ ap (write (buffer_in c.args.text.now c.args.spot)) (sym (law.literal_spelled (frame_in c.args.f) (rw c.seen_in.ensures at c.if-seen_in-gt0.false) _ (sym c.field_in.ensures ∙ c.if-field_in-eq1.true) (sym c.is_empty.ensures ∙ c.if-is_empty.false)))

pub returns : goal.returns
returns c = c.quote-2.ensures ∙ ap (write (buffer_in c.args.text.now c.args.spot)) (sym (law.literal_form (frame_in c.args.f) (rw c.seen_in.ensures at c.if-seen_in-gt0.false) _ (λ e. c.if-field_in-eq1.false (c.field_in.ensures ∙ e))))
