-- each number is what the grammar works out to
use mathlib.Core.Path.{sym, ap}
use Rattle.tree.specs.Grammar.{places, allowed, kind_of}
use Rattle.tree.specs.Rows.{bits, kinds_at}
use Rattle.tree.proofs.GrammarRows.{no_kinds}
use Rattle.tree.proofs.grammar.kinds.Goals as goal

pub returns-in-0 : goal.returns-in-0
unfolding kinds_at bits allowed places kind_of
returns-in-0 c = ap kinds_at (sym c.in-0.is)

pub returns-in-1 : goal.returns-in-1
unfolding kinds_at bits allowed places kind_of
returns-in-1 c = ap kinds_at (sym c.in-1.is)

pub returns-in-2 : goal.returns-in-2
unfolding kinds_at bits allowed places kind_of
returns-in-2 c = ap kinds_at (sym c.in-2.is)

pub returns-in-3 : goal.returns-in-3
unfolding kinds_at bits allowed places kind_of
returns-in-3 c = ap kinds_at (sym c.in-3.is)

pub returns-in-4 : goal.returns-in-4
unfolding kinds_at bits allowed places kind_of
returns-in-4 c = ap kinds_at (sym c.in-4.is)

pub returns-in-5 : goal.returns-in-5
unfolding kinds_at bits allowed places kind_of
returns-in-5 c = ap kinds_at (sym c.in-5.is)

pub returns-in-6 : goal.returns-in-6
unfolding kinds_at bits allowed places kind_of
returns-in-6 c = ap kinds_at (sym c.in-6.is)

pub returns-in-7 : goal.returns-in-7
unfolding kinds_at bits allowed places kind_of
returns-in-7 c = ap kinds_at (sym c.in-7.is)

pub returns-in-8 : goal.returns-in-8
unfolding kinds_at bits allowed places kind_of
returns-in-8 c = ap kinds_at (sym c.in-8.is)

pub returns-in-9 : goal.returns-in-9
unfolding kinds_at bits allowed places kind_of
returns-in-9 c = ap kinds_at (sym c.in-9.is)

pub returns-in-10 : goal.returns-in-10
unfolding kinds_at bits allowed places kind_of
returns-in-10 c = ap kinds_at (sym c.in-10.is)

pub returns-in-11 : goal.returns-in-11
unfolding kinds_at bits allowed places kind_of
returns-in-11 c = ap kinds_at (sym c.in-11.is)

pub returns-in-12 : goal.returns-in-12
unfolding kinds_at bits allowed places kind_of
returns-in-12 c = ap kinds_at (sym c.in-12.is)

pub returns-in-13 : goal.returns-in-13
unfolding kinds_at bits allowed places kind_of
returns-in-13 c = ap kinds_at (sym c.in-13.is)

pub returns-in-14 : goal.returns-in-14
unfolding kinds_at bits allowed places kind_of
returns-in-14 c = ap kinds_at (sym c.in-14.is)

pub returns-in-15 : goal.returns-in-15
unfolding kinds_at bits allowed places kind_of
returns-in-15 c = ap kinds_at (sym c.in-15.is)

pub returns-in-16 : goal.returns-in-16
unfolding kinds_at bits allowed places kind_of
returns-in-16 c = ap kinds_at (sym c.in-16.is)

pub returns-in-17 : goal.returns-in-17
unfolding kinds_at bits allowed places kind_of
returns-in-17 c = ap kinds_at (sym c.in-17.is)

pub returns-in-18 : goal.returns-in-18
unfolding kinds_at bits allowed places kind_of
returns-in-18 c = ap kinds_at (sym c.in-18.is)

pub returns-in-19 : goal.returns-in-19
unfolding kinds_at bits allowed places kind_of
returns-in-19 c = ap kinds_at (sym c.in-19.is)

pub returns-in-20 : goal.returns-in-20
unfolding kinds_at bits allowed places kind_of
returns-in-20 c = ap kinds_at (sym c.in-20.is)

pub returns-in-21 : goal.returns-in-21
unfolding kinds_at bits allowed places kind_of
returns-in-21 c = ap kinds_at (sym c.in-21.is)

pub returns-in-22 : goal.returns-in-22
unfolding kinds_at bits allowed places kind_of
returns-in-22 c = ap kinds_at (sym c.in-22.is)

pub returns-in-23 : goal.returns-in-23
unfolding kinds_at bits allowed places kind_of
returns-in-23 c = ap kinds_at (sym c.in-23.is)

pub returns-in-24 : goal.returns-in-24
unfolding kinds_at bits allowed places kind_of
returns-in-24 c = ap kinds_at (sym c.in-24.is)

pub returns-in-25 : goal.returns-in-25
unfolding kinds_at bits allowed places kind_of
returns-in-25 c = ap kinds_at (sym c.in-25.is)

pub returns-in_default : goal.returns-in_default
unfolding kinds_at bits allowed places kind_of
returns-in_default c = no_kinds _ c.in_default.in_default-own.rest
