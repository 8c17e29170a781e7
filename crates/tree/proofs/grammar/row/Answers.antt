-- each number is what the grammar works out to
use mathlib.Core.Path.{sym, ap}
use Rattle.tree.specs.Grammar.{kinds, variants, fields_of}
use Rattle.tree.specs.Rows.{unpacked}
use Rattle.tree.proofs.GrammarRows.{no_fields}
use Rattle.tree.proofs.grammar.row.Goals as goal

pub returns-in-1 : goal.returns-in-1
unfolding unpacked fields_of kinds variants
returns-in-1 c = ap fields_of (sym c.in-1.is)

pub returns-in-2 : goal.returns-in-2
unfolding unpacked fields_of kinds variants
returns-in-2 c = ap fields_of (sym c.in-2.is)

pub returns-in-3 : goal.returns-in-3
unfolding unpacked fields_of kinds variants
returns-in-3 c = ap fields_of (sym c.in-3.is)

pub returns-in-4 : goal.returns-in-4
unfolding unpacked fields_of kinds variants
returns-in-4 c = ap fields_of (sym c.in-4.is)

pub returns-in-5 : goal.returns-in-5
unfolding unpacked fields_of kinds variants
returns-in-5 c = ap fields_of (sym c.in-5.is)

pub returns-in-6 : goal.returns-in-6
unfolding unpacked fields_of kinds variants
returns-in-6 c = ap fields_of (sym c.in-6.is)

pub returns-in-7 : goal.returns-in-7
unfolding unpacked fields_of kinds variants
returns-in-7 c = ap fields_of (sym c.in-7.is)

pub returns-in-8 : goal.returns-in-8
unfolding unpacked fields_of kinds variants
returns-in-8 c = ap fields_of (sym c.in-8.is)

pub returns-in-9 : goal.returns-in-9
unfolding unpacked fields_of kinds variants
returns-in-9 c = ap fields_of (sym c.in-9.is)

pub returns-in-10 : goal.returns-in-10
unfolding unpacked fields_of kinds variants
returns-in-10 c = ap fields_of (sym c.in-10.is)

pub returns-in-11 : goal.returns-in-11
unfolding unpacked fields_of kinds variants
returns-in-11 c = ap fields_of (sym c.in-11.is)

pub returns-in-12 : goal.returns-in-12
unfolding unpacked fields_of kinds variants
returns-in-12 c = ap fields_of (sym c.in-12.is)

pub returns-in-13 : goal.returns-in-13
unfolding unpacked fields_of kinds variants
returns-in-13 c = ap fields_of (sym c.in-13.is)

pub returns-in-14 : goal.returns-in-14
unfolding unpacked fields_of kinds variants
returns-in-14 c = ap fields_of (sym c.in-14.is)

pub returns-in-15 : goal.returns-in-15
unfolding unpacked fields_of kinds variants
returns-in-15 c = ap fields_of (sym c.in-15.is)

pub returns-in-16 : goal.returns-in-16
unfolding unpacked fields_of kinds variants
returns-in-16 c = ap fields_of (sym c.in-16.is)

pub returns-in-17 : goal.returns-in-17
unfolding unpacked fields_of kinds variants
returns-in-17 c = ap fields_of (sym c.in-17.is)

pub returns-in-18 : goal.returns-in-18
unfolding unpacked fields_of kinds variants
returns-in-18 c = ap fields_of (sym c.in-18.is)

pub returns-in-19 : goal.returns-in-19
unfolding unpacked fields_of kinds variants
returns-in-19 c = ap fields_of (sym c.in-19.is)

pub returns-in-20 : goal.returns-in-20
unfolding unpacked fields_of kinds variants
returns-in-20 c = ap fields_of (sym c.in-20.is)

pub returns-in-21 : goal.returns-in-21
unfolding unpacked fields_of kinds variants
returns-in-21 c = ap fields_of (sym c.in-21.is)

pub returns-in-22 : goal.returns-in-22
unfolding unpacked fields_of kinds variants
returns-in-22 c = ap fields_of (sym c.in-22.is)

pub returns-in-23 : goal.returns-in-23
unfolding unpacked fields_of kinds variants
returns-in-23 c = ap fields_of (sym c.in-23.is)

pub returns-in-24 : goal.returns-in-24
unfolding unpacked fields_of kinds variants
returns-in-24 c = ap fields_of (sym c.in-24.is)

pub returns-in-25 : goal.returns-in-25
unfolding unpacked fields_of kinds variants
returns-in-25 c = ap fields_of (sym c.in-25.is)

pub returns-in-26 : goal.returns-in-26
unfolding unpacked fields_of kinds variants
returns-in-26 c = ap fields_of (sym c.in-26.is)

pub returns-in-27 : goal.returns-in-27
unfolding unpacked fields_of kinds variants
returns-in-27 c = ap fields_of (sym c.in-27.is)

pub returns-in-28 : goal.returns-in-28
unfolding unpacked fields_of kinds variants
returns-in-28 c = ap fields_of (sym c.in-28.is)

pub returns-in-29 : goal.returns-in-29
unfolding unpacked fields_of kinds variants
returns-in-29 c = ap fields_of (sym c.in-29.is)

pub returns-in-30 : goal.returns-in-30
unfolding unpacked fields_of kinds variants
returns-in-30 c = ap fields_of (sym c.in-30.is)

pub returns-in-31 : goal.returns-in-31
unfolding unpacked fields_of kinds variants
returns-in-31 c = ap fields_of (sym c.in-31.is)

pub returns-in-32 : goal.returns-in-32
unfolding unpacked fields_of kinds variants
returns-in-32 c = ap fields_of (sym c.in-32.is)

pub returns-in-33 : goal.returns-in-33
unfolding unpacked fields_of kinds variants
returns-in-33 c = ap fields_of (sym c.in-33.is)

pub returns-in-34 : goal.returns-in-34
unfolding unpacked fields_of kinds variants
returns-in-34 c = ap fields_of (sym c.in-34.is)

pub returns-in-35 : goal.returns-in-35
unfolding unpacked fields_of kinds variants
returns-in-35 c = ap fields_of (sym c.in-35.is)

pub returns-in-36 : goal.returns-in-36
unfolding unpacked fields_of kinds variants
returns-in-36 c = ap fields_of (sym c.in-36.is)

pub returns-in-37 : goal.returns-in-37
unfolding unpacked fields_of kinds variants
returns-in-37 c = ap fields_of (sym c.in-37.is)

pub returns-in-38 : goal.returns-in-38
unfolding unpacked fields_of kinds variants
returns-in-38 c = ap fields_of (sym c.in-38.is)

pub returns-in-39 : goal.returns-in-39
unfolding unpacked fields_of kinds variants
returns-in-39 c = ap fields_of (sym c.in-39.is)

pub returns-in-40 : goal.returns-in-40
unfolding unpacked fields_of kinds variants
returns-in-40 c = ap fields_of (sym c.in-40.is)

pub returns-in-41 : goal.returns-in-41
unfolding unpacked fields_of kinds variants
returns-in-41 c = ap fields_of (sym c.in-41.is)

pub returns-in-42 : goal.returns-in-42
unfolding unpacked fields_of kinds variants
returns-in-42 c = ap fields_of (sym c.in-42.is)

pub returns-in-43 : goal.returns-in-43
unfolding unpacked fields_of kinds variants
returns-in-43 c = ap fields_of (sym c.in-43.is)

pub returns-in-44 : goal.returns-in-44
unfolding unpacked fields_of kinds variants
returns-in-44 c = ap fields_of (sym c.in-44.is)

pub returns-in-64 : goal.returns-in-64
unfolding unpacked fields_of kinds variants
returns-in-64 c = ap fields_of (sym c.in-64.is)

pub returns-in-65 : goal.returns-in-65
unfolding unpacked fields_of kinds variants
returns-in-65 c = ap fields_of (sym c.in-65.is)

pub returns-in-66 : goal.returns-in-66
unfolding unpacked fields_of kinds variants
returns-in-66 c = ap fields_of (sym c.in-66.is)

pub returns-in-67 : goal.returns-in-67
unfolding unpacked fields_of kinds variants
returns-in-67 c = ap fields_of (sym c.in-67.is)

pub returns-in-68 : goal.returns-in-68
unfolding unpacked fields_of kinds variants
returns-in-68 c = ap fields_of (sym c.in-68.is)

pub returns-in-69 : goal.returns-in-69
unfolding unpacked fields_of kinds variants
returns-in-69 c = ap fields_of (sym c.in-69.is)

pub returns-in_default : goal.returns-in_default
unfolding unpacked fields_of kinds variants
returns-in_default c = no_fields _ c.in_default.in_default-own.rest
