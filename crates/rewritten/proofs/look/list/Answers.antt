use Rattle.rewritten.proofs.Ahead as law
use native.Mathlib.Omega.{arith}
use mathlib.Core.Bool.{Bool, true, false, cond}
use mathlib.Core.Path.{◌≡◌, refl, ◌∙◌}
use Prim.Native.Nat.{◌<◌}
use mir.Val.{bool_byte}
use Rattle.rewritten.proofs.look.list.Goals as goal

bit : (b : Bool) → bool_byte b ≡ cond b 1 0
bit true = refl
bit false = refl

bit_small : (b : Bool) → bool_byte b < 2
bit_small true = omega arith
bit_small false = omega arith

pub returns-then-n-gt65535 : goal.returns-then-n-gt65535
returns-then-n-gt65535 c = (law.list_missing _ _ c.args.place c.args.holes _ c.wide_at-n.ensures c.if-n-gt65535.true, law.coded_none 2)

pub returns : goal.returns
returns c =
    let s : c.from.result < 2 = omega (arith, c.from.ensures, bit_small c.args.holes) in
    (law.list_begins _ _ c.args.place c.args.holes _ c.wide_at-n.ensures c.if-n-gt65535.false c.from.result (c.from.ensures ∙ bit c.args.holes) s, law.coded 2 _ (omega arith))
