use Rattle.std.proofs.Common.{◌≡◌, arith, get_or, ◌/◌}
use Rattle.std.proofs.lemmas.Grind.{common_steps}
use Rattle.printer.specs.Names.{entry_in_of}
use Rattle.printer.proofs.names.entry.Goals as goal

pub returns : goal.returns
unfolding entry_in_of
returns c =
    let e : c.from.result ≡ get_or c.args.table.now (c.args.b / 4) 0 = grind (arith, common_steps) in
    let f : c.from-b.result ≡ c.args.b = grind arith in
    rw (e, f)
