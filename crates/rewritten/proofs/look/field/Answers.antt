use Rattle.rewritten.proofs.Ahead as law
use Rattle.rewritten.proofs.Moves as moves
use Rattle.tree.proofs.ReaderCycle.{other_class}
use Rattle.rewritten.proofs.look.field.Goals as goal

pub returns-in-1 : goal.returns-in-1
returns-in-1 c = λ some. law.ahead_as (λ fs deep. moves.field_child _ fs _ deep _ some c.in-1.is) (c.node.ensures _)

pub returns-in-2 : goal.returns-in-2
returns-in-2 c = λ some. law.ahead_as (λ fs deep. moves.field_chosen _ fs _ deep _ some c.in-2.is _ c.choose.ensures) (c.node-in-2.ensures _)

pub returns-in-3 : goal.returns-in-3
returns-in-3 c = λ some. law.ahead_as (λ fs deep. moves.field_many _ fs _ deep _ some c.in-3.is) (c.list.ensures.0 _)

pub returns-in-4 : goal.returns-in-4
returns-in-4 c = λ some. law.ahead_as (λ fs deep. moves.field_gaps _ fs _ deep _ some c.in-4.is) (c.list-in-4.ensures.0 _)

pub returns-in-5 : goal.returns-in-5
returns-in-5 c = λ some. law.ahead_as (λ fs deep. moves.field_class _ fs _ deep _ some 5 c.in-5.is) (c.text.ensures.0 _)

pub returns-in-6 : goal.returns-in-6
returns-in-6 c = λ some. law.ahead_as (λ fs deep. moves.field_class _ fs _ deep _ some 6 c.in-6.is) (c.mark.ensures.0 _)

pub returns-in-7 : goal.returns-in-7
returns-in-7 c = λ some. law.ahead_as (λ fs deep. moves.field_class _ fs _ deep _ some 7 c.in-7.is) (c.byte.ensures.0 _)

pub returns-in-8 : goal.returns-in-8
returns-in-8 c = λ some. law.ahead_as (λ fs deep. moves.field_class _ fs _ deep _ some 8 c.in-8.is) (c.byte-in-8.ensures.0 _)

pub returns-in-9 : goal.returns-in-9
returns-in-9 c = λ some. law.ahead_as (λ fs deep. moves.field_class _ fs _ deep _ some 9 c.in-9.is) (c.byte-in-9.ensures.0 _)

pub returns-in_default : goal.returns-in_default
returns-in_default c = λ some. law.ahead_as (λ fs deep. moves.field_other _ fs _ deep _ some (other_class _ _ c.in_default.in_default-own.rest)) (c.number.ensures.0 _)
