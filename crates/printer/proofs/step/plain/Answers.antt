use mathlib.Core.Path.{refl, ap, ◌∙◌}
use native.Mathlib.Omega.{arith}
use Rattle.printer.specs.Machine.{Open, cell_at}
use Rattle.printer.specs.Stacks.{frame_in, next_in, held_in, buffer_in}
use Rattle.printer.specs.Text.{cell_text}
use Rattle.printer.proofs.Openings as place
use Rattle.printer.proofs.StepTurns as law
use Rattle.printer.proofs.step.plain.Goals as goal

pub returns-then-level-stack : goal.returns-then-level-stack
returns-then-level-stack c = λ w tree starts pl hm ho sorted hc hk hx hn hl.
    let s = c.args.s in
    let p = frame_in s.top in
    let m = c.args.m in
    let kind = c.args.kind in
    let map = c.args.map in
    let note = c.args.note in
    let z = place.plain_method p m kind map note pl hm in
    let wrapped = c.wraps-wrapped.ensures p kind map note sorted z in
    let how = c.plain_following-how.ensures.0 s.top kind map note pl hm wrapped in
    let f = law.begun_in p kind map note _ _ _ c.begun-f.ensures hk hx hn how c.plain_following-how.ensures.1 (place.plain_seen p m kind map note pl hm) (omega arith) in
    rw c.keep.ensures (law.begin_turned tree c.args.stack.now starts (buffer_in c.args.text.now s.spot) _ s kind map note _ _ c.plain_opening-spot.result hc hl
    (c.plain_opening-spot.ensures w kind map note (cell_text (cell_at (held_in tree starts s.count) (next_in s.top))) pl hm ho wrapped sorted.head (ap (λ (o : Open). o.frame) f))
    f (c.around.ensures kind map z ∙ rw (place.unfilled p m kind map note pl hm) refl))

pub returns : goal.returns
returns c = λ w tree starts pl hm ho sorted hc hk hx hn hl. absurd (omega (arith, hl, c.if-level-stack.false))
