use Rattle.printer.proofs.Named as law
use mathlib.Core.Path.{◌≡◌, sym, ap, ◌∙◌}
use mathlib.Core.Bool.{Bool}
use Prim.Native.Nat.{ℕ, ◌/◌}
use native.Mathlib.Omega.{arith}
use borrow.Author.Rules.{rules}
use borrow.Author.Tests.{tests}
use lib.Dec.{eqb}
use Rattle.std.specs.List.{list_all}
use Rattle.std.proofs.lemmas.Iterator.{YieldsList-from_slice}
use Rattle.std.proofs.lemmas.Iterator.Search.{all_from_yields_List}
use Rattle.printer.specs.Names.{entry_in_of}
use Rattle.printer.proofs.names.all_follow.Goals as goal

pub returns-in-Some : goal.returns-in-Some
returns-in-Some c = λ e h.
    let p : ℕ → Bool = λ x. eqb (entry_in_of c.args.table.now x / 2) 1 in
    let r : c.all.result ≡ list_all p c.in-Some.bytes.now = all_from_yields_List p _ _ _ c.all.ensures.ran (YieldsList-from_slice c.in-Some.bytes.now cc) (λ x b q k. search (rules, tests)) in
    r ∙ ap (list_all p) c.in-Some.ensures.lookup.0.2 ∙ law.part_follows c.args.table.now e c.args.tree.now (λ k. omega (arith, c.type_inv.tree k)) _ _

pub returns-in-None : goal.returns-in-None
returns-in-None c = λ e h. let z = c.in-None.ensures in sym (law.follow_end c.args.tree.now c.args.from c.args.end (omega (arith, h, z.lookup.0)))
