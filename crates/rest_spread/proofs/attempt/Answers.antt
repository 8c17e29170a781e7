use mathlib.Core.Path.{refl}
use Rattle.rest_spread.specs.Entry.{lent_of, Ends}
use native.Mathlib.Omega.{arith}
use lib.ListN.{length}
use Rattle.rest_spread.proofs.LoweringEntry as law
use Rattle.rest_spread.proofs.attempt.Goals as goal

pub returns-then-limit_refused : goal.returns-then-limit_refused
returns-then-limit_refused c =
    law.entry_limit _ _ _ c.args.out.now c.args.list.now c.args.work.now _ c.limit_refused.ensures _ c.if-limit_refused.true refl

pub returns-then-options-gt15 : goal.returns-then-options-gt15
returns-then-options-gt15 c =
    law.entry_options _ _ _ c.args.out.now c.args.list.now c.args.work.now _ c.limit_refused.ensures _ c.if-limit_refused.false c.if-options-gt15.true refl

pub returns-then-work-lt65536 : goal.returns-then-work-lt65536
returns-then-work-lt65536 c =
    law.entry_work _ _ _ c.args.out.now c.args.list.now c.args.work.now _ c.limit_refused.ensures _ c.if-limit_refused.false c.if-options-gt15.false c.if-work-lt65536.true refl

pub returns-then-n-gt16384 : goal.returns-then-n-gt16384
returns-then-n-gt16384 c =
    law.entry_long _ _ _ c.args.out.now c.args.list.now c.args.work.now _ c.limit_refused.ensures _ c.if-limit_refused.false c.if-options-gt15.false c.if-work-lt65536.false c.if-n-gt16384.true refl

pub slice_bounds-read_and_lower-end : goal.slice_bounds-read_and_lower-end
slice_bounds-read_and_lower-end c = law.room_part _ 2048 (omega (arith, c.if-n-le1024.true))

pub returns-then-n-le1024 : goal.returns-then-n-le1024
returns-then-n-le1024 c =
    law.entry_read _ _ _ c.args.out.now c.args.list.now c.args.work.now _ c.limit_refused.ensures (λ o. Ends c.read_and_lower.result c.read_and_lower.new.out c.read_and_lower.new.list c.read_and_lower.new.work (lent_of c.args.out.now c.args.list.now c.args.work.now) o) c.if-limit_refused.false c.if-options-gt15.false c.if-work-lt65536.false (c.read_and_lower.ensures (law.room_twice (length c.args.tree.now) 2048 (omega (arith, c.if-n-le1024.true))) c.if-work-lt65536.false)

pub slice_bounds-read_and_lower-end-2 : goal.slice_bounds-read_and_lower-end-2
slice_bounds-read_and_lower-end-2 c = law.room_part _ 32768 (omega (arith, c.if-n-gt16384.false))

pub returns : goal.returns
returns c =
    law.entry_read _ _ _ c.args.out.now c.args.list.now c.args.work.now _ c.limit_refused.ensures (λ o. Ends c.read_and_lower-2.result c.read_and_lower-2.new.out c.read_and_lower-2.new.list c.read_and_lower-2.new.work (lent_of c.args.out.now c.args.list.now c.args.work.now) o) c.if-limit_refused.false c.if-options-gt15.false c.if-work-lt65536.false (c.read_and_lower-2.ensures (law.room_twice (length c.args.tree.now) 32768 (omega (arith, c.if-n-gt16384.false))) c.if-work-lt65536.false)
