use mathlib.Core.Path.{refl}
use mathlib.Core.Bool.{cond}
use mathlib.Core.List.{[]}
use Rattle.printer.specs.Places.{is_filled}
use Rattle.printer.specs.Stacks.{frame_in}
use Rattle.printer.proofs.Openings as law
use Rattle.printer.proofs.print.plain_opening.Goals as goal

pub returns : goal.returns
returns c = λ w k n t q pl hm ho hw hh hf.
    let p = frame_in c.args.p in
    let f = frame_in c.args.f in
    let z = law.plain_method p c.args.m k n t pl hm in
    law.opened p f k n t hf _ (cond (is_filled p) q []) c.args.wrapped c.is_computed.result refl z hh hw (law.own_kind p f k n t hf) c.kind_in.ensures c.note_in.ensures c.choose.ensures c.is_computed.ensures (c.lead-a.ensures w k n hm ho z) (law.plain_joint p c.args.m k n t pl hm _ q) c.bracket-b.ensures (c.say_any-c.ensures w) c.bracket.ensures
