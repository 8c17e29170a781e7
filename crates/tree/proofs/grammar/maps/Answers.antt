-- each bit is what the grammar says of its map
use mathlib.Core.Path.{sym, ap}
use Rattle.tree.specs.Grammar.{kinds, variants, fields_of, map_ok}
use Rattle.tree.proofs.GrammarRows.{map_right, maps_at, no_maps}
use Rattle.tree.proofs.grammar.maps.Goals as goal

pub returns-in-1 : goal.returns-in-1
unfolding fields_of kinds variants map_ok map_right
returns-in-1 c = maps_at _ (fields_of 1) 0x2 (ap fields_of (sym c.in-1.is)) tt

pub returns-in-2 : goal.returns-in-2
unfolding fields_of kinds variants map_ok map_right
returns-in-2 c = maps_at _ (fields_of 2) 0x8 (ap fields_of (sym c.in-2.is)) tt

pub returns-in-3 : goal.returns-in-3
unfolding fields_of kinds variants map_ok map_right
returns-in-3 c = maps_at _ (fields_of 3) 0x8 (ap fields_of (sym c.in-3.is)) tt

pub returns-in-4 : goal.returns-in-4
unfolding fields_of kinds variants map_ok map_right
returns-in-4 c = maps_at _ (fields_of 4) 0x80 (ap fields_of (sym c.in-4.is)) tt

pub returns-in-5 : goal.returns-in-5
unfolding fields_of kinds variants map_ok map_right
returns-in-5 c = maps_at _ (fields_of 5) 0xa (ap fields_of (sym c.in-5.is)) tt

pub returns-in-6 : goal.returns-in-6
unfolding fields_of kinds variants map_ok map_right
returns-in-6 c = maps_at _ (fields_of 6) 0xaaaa0000 (ap fields_of (sym c.in-6.is)) tt

pub returns-in-7 : goal.returns-in-7
unfolding fields_of kinds variants map_ok map_right
returns-in-7 c = maps_at _ (fields_of 7) 0x8000 (ap fields_of (sym c.in-7.is)) tt

pub returns-in-8 : goal.returns-in-8
unfolding fields_of kinds variants map_ok map_right
returns-in-8 c = maps_at _ (fields_of 8) 0x80008000 (ap fields_of (sym c.in-8.is)) tt

pub returns-in-9 : goal.returns-in-9
unfolding fields_of kinds variants map_ok map_right
returns-in-9 c = maps_at _ (fields_of 9) 0x8888 (ap fields_of (sym c.in-9.is)) tt

pub returns-in-10 : goal.returns-in-10
unfolding fields_of kinds variants map_ok map_right
returns-in-10 c = maps_at _ (fields_of 10) 0xc (ap fields_of (sym c.in-10.is)) tt

pub returns-in-11 : goal.returns-in-11
unfolding fields_of kinds variants map_ok map_right
returns-in-11 c = maps_at _ (fields_of 11) 0xa (ap fields_of (sym c.in-11.is)) tt

pub returns-in-12 : goal.returns-in-12
unfolding fields_of kinds variants map_ok map_right
returns-in-12 c = maps_at _ (fields_of 12) 0x80 (ap fields_of (sym c.in-12.is)) tt

pub returns-in-13 : goal.returns-in-13
unfolding fields_of kinds variants map_ok map_right
returns-in-13 c = maps_at _ (fields_of 13) 0x2 (ap fields_of (sym c.in-13.is)) tt

pub returns-in-14 : goal.returns-in-14
unfolding fields_of kinds variants map_ok map_right
returns-in-14 c = maps_at _ (fields_of 14) 0x8800880088008800 (ap fields_of (sym c.in-14.is)) tt

pub returns-in-15 : goal.returns-in-15
unfolding fields_of kinds variants map_ok map_right
returns-in-15 c = maps_at _ (fields_of 15) 0xa (ap fields_of (sym c.in-15.is)) tt

pub returns-in-16 : goal.returns-in-16
unfolding fields_of kinds variants map_ok map_right
returns-in-16 c = maps_at _ (fields_of 16) 0xc (ap fields_of (sym c.in-16.is)) tt

pub returns-in-17 : goal.returns-in-17
unfolding fields_of kinds variants map_ok map_right
returns-in-17 c = maps_at _ (fields_of 17) 0xa0 (ap fields_of (sym c.in-17.is)) tt

pub returns-in-18 : goal.returns-in-18
unfolding fields_of kinds variants map_ok map_right
returns-in-18 c = maps_at _ (fields_of 18) 0xa (ap fields_of (sym c.in-18.is)) tt

pub returns-in-19 : goal.returns-in-19
unfolding fields_of kinds variants map_ok map_right
returns-in-19 c = maps_at _ (fields_of 19) 0xa (ap fields_of (sym c.in-19.is)) tt

pub returns-in-20 : goal.returns-in-20
unfolding fields_of kinds variants map_ok map_right
returns-in-20 c = maps_at _ (fields_of 20) 0x8 (ap fields_of (sym c.in-20.is)) tt

pub returns-in-21 : goal.returns-in-21
unfolding fields_of kinds variants map_ok map_right
returns-in-21 c = maps_at _ (fields_of 21) 0x2 (ap fields_of (sym c.in-21.is)) tt

pub returns-in-22 : goal.returns-in-22
unfolding fields_of kinds variants map_ok map_right
returns-in-22 c = maps_at _ (fields_of 22) 0x88 (ap fields_of (sym c.in-22.is)) tt

pub returns-in-23 : goal.returns-in-23
unfolding fields_of kinds variants map_ok map_right
returns-in-23 c = maps_at _ (fields_of 23) 0xa (ap fields_of (sym c.in-23.is)) tt

pub returns-in-24 : goal.returns-in-24
unfolding fields_of kinds variants map_ok map_right
returns-in-24 c = maps_at _ (fields_of 24) 0x2 (ap fields_of (sym c.in-24.is)) tt

pub returns-in-25 : goal.returns-in-25
unfolding fields_of kinds variants map_ok map_right
returns-in-25 c = maps_at _ (fields_of 25) 0x80 (ap fields_of (sym c.in-25.is)) tt

pub returns-in-26 : goal.returns-in-26
unfolding fields_of kinds variants map_ok map_right
returns-in-26 c = maps_at _ (fields_of 26) 0x2 (ap fields_of (sym c.in-26.is)) tt

pub returns-in-27 : goal.returns-in-27
unfolding fields_of kinds variants map_ok map_right
returns-in-27 c = maps_at _ (fields_of 27) 0x80 (ap fields_of (sym c.in-27.is)) tt

pub returns-in-28 : goal.returns-in-28
unfolding fields_of kinds variants map_ok map_right
returns-in-28 c = maps_at _ (fields_of 28) 0x2 (ap fields_of (sym c.in-28.is)) tt

pub returns-in-29 : goal.returns-in-29
unfolding fields_of kinds variants map_ok map_right
returns-in-29 c = maps_at _ (fields_of 29) 0x8 (ap fields_of (sym c.in-29.is)) tt

pub returns-in-30 : goal.returns-in-30
unfolding fields_of kinds variants map_ok map_right
returns-in-30 c = maps_at _ (fields_of 30) 0x8 (ap fields_of (sym c.in-30.is)) tt

pub returns-in-31 : goal.returns-in-31
unfolding fields_of kinds variants map_ok map_right
returns-in-31 c = maps_at _ (fields_of 31) 0x2 (ap fields_of (sym c.in-31.is)) tt

pub returns-in-32 : goal.returns-in-32
unfolding fields_of kinds variants map_ok map_right
returns-in-32 c = maps_at _ (fields_of 32) 0x2 (ap fields_of (sym c.in-32.is)) tt

pub returns-in-33 : goal.returns-in-33
unfolding fields_of kinds variants map_ok map_right
returns-in-33 c = maps_at _ (fields_of 33) 0x8 (ap fields_of (sym c.in-33.is)) tt

pub returns-in-34 : goal.returns-in-34
unfolding fields_of kinds variants map_ok map_right
returns-in-34 c = maps_at _ (fields_of 34) 0xa (ap fields_of (sym c.in-34.is)) tt

pub returns-in-35 : goal.returns-in-35
unfolding fields_of kinds variants map_ok map_right
returns-in-35 c = maps_at _ (fields_of 35) 0x80 (ap fields_of (sym c.in-35.is)) tt

pub returns-in-36 : goal.returns-in-36
unfolding fields_of kinds variants map_ok map_right
returns-in-36 c = maps_at _ (fields_of 36) 0xa (ap fields_of (sym c.in-36.is)) tt

pub returns-in-37 : goal.returns-in-37
unfolding fields_of kinds variants map_ok map_right
returns-in-37 c = maps_at _ (fields_of 37) 0x8 (ap fields_of (sym c.in-37.is)) tt

pub returns-in-38 : goal.returns-in-38
unfolding fields_of kinds variants map_ok map_right
returns-in-38 c = maps_at _ (fields_of 38) 0x2 (ap fields_of (sym c.in-38.is)) tt

pub returns-in-39 : goal.returns-in-39
unfolding fields_of kinds variants map_ok map_right
returns-in-39 c = maps_at _ (fields_of 39) 0x2 (ap fields_of (sym c.in-39.is)) tt

pub returns-in-40 : goal.returns-in-40
unfolding fields_of kinds variants map_ok map_right
returns-in-40 c = maps_at _ (fields_of 40) 0xf0 (ap fields_of (sym c.in-40.is)) tt

pub returns-in-41 : goal.returns-in-41
unfolding fields_of kinds variants map_ok map_right
returns-in-41 c = maps_at _ (fields_of 41) 0xa0 (ap fields_of (sym c.in-41.is)) tt

pub returns-in-42 : goal.returns-in-42
unfolding fields_of kinds variants map_ok map_right
returns-in-42 c = maps_at _ (fields_of 42) 0x2 (ap fields_of (sym c.in-42.is)) tt

pub returns-in-43 : goal.returns-in-43
unfolding fields_of kinds variants map_ok map_right
returns-in-43 c = maps_at _ (fields_of 43) 0x80 (ap fields_of (sym c.in-43.is)) tt

pub returns-in-44 : goal.returns-in-44
unfolding fields_of kinds variants map_ok map_right
returns-in-44 c = maps_at _ (fields_of 44) 0xc (ap fields_of (sym c.in-44.is)) tt

pub returns-in-64 : goal.returns-in-64
unfolding fields_of kinds variants map_ok map_right
returns-in-64 c = maps_at _ (fields_of 64) 0x8800880088008800 (ap fields_of (sym c.in-64.is)) tt

pub returns-in-65 : goal.returns-in-65
unfolding fields_of kinds variants map_ok map_right
returns-in-65 c = maps_at _ (fields_of 65) 0x8800880088008800 (ap fields_of (sym c.in-65.is)) tt

pub returns-in-66 : goal.returns-in-66
unfolding fields_of kinds variants map_ok map_right
returns-in-66 c = maps_at _ (fields_of 66) 0xa (ap fields_of (sym c.in-66.is)) tt

pub returns-in-67 : goal.returns-in-67
unfolding fields_of kinds variants map_ok map_right
returns-in-67 c = maps_at _ (fields_of 67) 0x80 (ap fields_of (sym c.in-67.is)) tt

pub returns-in-68 : goal.returns-in-68
unfolding fields_of kinds variants map_ok map_right
returns-in-68 c = maps_at _ (fields_of 68) 0xa (ap fields_of (sym c.in-68.is)) tt

pub returns-in-69 : goal.returns-in-69
unfolding fields_of kinds variants map_ok map_right
returns-in-69 c = maps_at _ (fields_of 69) 0x8 (ap fields_of (sym c.in-69.is)) tt

pub returns-in_default : goal.returns-in_default
unfolding fields_of kinds variants map_ok map_right
returns-in_default c = no_maps _ c.in_default.in_default-own.rest
