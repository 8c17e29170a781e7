use Rattle.std.proofs.Common.{◌≡◌, ℕ, ◌<◌, length, get_or}
use Rattle.printer.specs.Names.{name_bytes}
use Rattle.printer.proofs.names.make.Given as goal

abbrev pub invariant-loop-i : goal.invariant-loop-i
invariant-loop-i l = length l.fn.table ≡ 64 → (k : ℕ) → k < l.i → get_or l.table k 0 ≡ get_or name_bytes k 0
