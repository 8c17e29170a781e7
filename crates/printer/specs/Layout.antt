-- The layout of every kind as data, in the order of docs/TEXT.md: own bytes, manners of fields, what stands only with a field.
-- tools/layout.py works the numbers out; ⏎ is a line end.
use Rattle.std.specs.Prelude.{ℕ, ◌+◌, ◌-◌, ◌*◌, ◌/◌, ◌%◌, List, [], ◌∷◌, cond, ltb, eqb, get_or}

-- ---- own bytes

-- the texts that a node's own bytes are made of, by number
unfoldable pub words : List (List ℕ)
words =
    [] ∷  -- 0 nothing
    (118 ∷ 97 ∷ 114 ∷ 32 ∷ []) ∷  -- 1 `var `
    (108 ∷ 101 ∷ 116 ∷ 32 ∷ []) ∷  -- 2 `let `
    (99 ∷ 111 ∷ 110 ∷ 115 ∷ 116 ∷ 32 ∷ []) ∷  -- 3 `const `
    (102 ∷ 111 ∷ 114 ∷ 32 ∷ 40 ∷ []) ∷  -- 4 `for (`
    (102 ∷ 111 ∷ 114 ∷ 32 ∷ 97 ∷ 119 ∷ 97 ∷ 105 ∷ 116 ∷ 32 ∷ 40 ∷ []) ∷  -- 5 `for await (`
    (95 ∷ 114 ∷ 101 ∷ 102 ∷ []) ∷  -- 6 `_ref`
    (95 ∷ 101 ∷ 120 ∷ 99 ∷ 108 ∷ 117 ∷ 100 ∷ 101 ∷ 100 ∷ []) ∷  -- 7 `_excluded`
    (95 ∷ 118 ∷ 97 ∷ 108 ∷ 117 ∷ 101 ∷ []) ∷  -- 8 `_value`
    (95 ∷ 107 ∷ 101 ∷ 121 ∷ []) ∷  -- 9 `_key`
    (79 ∷ 98 ∷ 106 ∷ 101 ∷ 99 ∷ 116 ∷ 83 ∷ 112 ∷ 114 ∷ 101 ∷ 97 ∷ 100 ∷ 50 ∷ []) ∷  -- 10 `ObjectSpread2`
    (69 ∷ 120 ∷ 116 ∷ 101 ∷ 110 ∷ 100 ∷ 115 ∷ []) ∷  -- 11 `Extends`
    (79 ∷ 98 ∷ 106 ∷ 101 ∷ 99 ∷ 116 ∷ 68 ∷ 101 ∷ 115 ∷ 116 ∷ 114 ∷ 117 ∷ 99 ∷ 116 ∷ 117 ∷ 114 ∷ 105 ∷ 110 ∷ 103 ∷ 69 ∷ 109 ∷ 112 ∷ 116 ∷ 121 ∷ []) ∷  -- 12 `ObjectDestructuringEmpty`
    (79 ∷ 98 ∷ 106 ∷ 101 ∷ 99 ∷ 116 ∷ 87 ∷ 105 ∷ 116 ∷ 104 ∷ 111 ∷ 117 ∷ 116 ∷ 80 ∷ 114 ∷ 111 ∷ 112 ∷ 101 ∷ 114 ∷ 116 ∷ 105 ∷ 101 ∷ 115 ∷ []) ∷  -- 13 `ObjectWithoutProperties`
    (84 ∷ 111 ∷ 80 ∷ 114 ∷ 111 ∷ 112 ∷ 101 ∷ 114 ∷ 116 ∷ 121 ∷ 75 ∷ 101 ∷ 121 ∷ []) ∷  -- 14 `ToPropertyKey`
    (32 ∷ 61 ∷ 32 ∷ []) ∷  -- 15 ` = `
    (32 ∷ 63 ∷ 61 ∷ 32 ∷ []) ∷  -- 16 ` ?= `
    (59 ∷ 32 ∷ 59 ∷ 32 ∷ []) ∷  -- 17 `; ; `
    (59 ∷ 32 ∷ []) ∷  -- 18 `; `
    (59 ∷ 32 ∷ 59 ∷ 32 ∷ 41 ∷ []) ∷  -- 19 `; ; )`
    (59 ∷ 32 ∷ 41 ∷ []) ∷  -- 20 `; )`
    (41 ∷ []) ∷  -- 21 `)`
    (41 ∷ []) ∷  -- 22 `)`
    (100 ∷ 101 ∷ 102 ∷ 97 ∷ 117 ∷ 108 ∷ 116 ∷ 58 ∷ 10 ∷ []) ∷  -- 23 `default:⏎`
    (58 ∷ 10 ∷ []) ∷  -- 24 `:⏎`
    (46 ∷ 46 ∷ 46 ∷ []) ∷  -- 25 `...`
    (44 ∷ 32 ∷ 46 ∷ 46 ∷ 46 ∷ []) ∷  -- 26 `, ...`
    (58 ∷ 32 ∷ []) ∷  -- 27 `: `
    [] ∷  -- 28 nothing
    (32 ∷ 61 ∷ 32 ∷ []) ∷  -- 29 ` = `
    [] ∷  -- 30 nothing
    (102 ∷ 117 ∷ 110 ∷ 99 ∷ 116 ∷ 105 ∷ 111 ∷ 110 ∷ []) ∷  -- 31 `function`
    [] ∷  -- 32 nothing
    (59 ∷ []) ∷  -- 33 `;`
    [] ∷  -- 34 nothing
    [] ∷  -- 35 nothing
    (59 ∷ []) ∷  -- 36 `;`
    [] ∷  -- 37 nothing
    [] ∷  -- 38 nothing
    [] ∷  -- 39 nothing
    (41 ∷ []) ∷  -- 40 `)`
    [] ∷  -- 41 nothing
    [] ∷  -- 42 nothing
    (103 ∷ 101 ∷ 116 ∷ 32 ∷ []) ∷  -- 43 `get `
    (115 ∷ 101 ∷ 116 ∷ 32 ∷ []) ∷  -- 44 `set `
    (103 ∷ 101 ∷ 116 ∷ 32 ∷ 115 ∷ 101 ∷ 116 ∷ 32 ∷ []) ∷  -- 45 `get set `
    (115 ∷ 116 ∷ 97 ∷ 116 ∷ 105 ∷ 99 ∷ 32 ∷ []) ∷  -- 46 `static `
    (115 ∷ 116 ∷ 97 ∷ 116 ∷ 105 ∷ 99 ∷ 32 ∷ 103 ∷ 101 ∷ 116 ∷ 32 ∷ []) ∷  -- 47 `static get `
    (115 ∷ 116 ∷ 97 ∷ 116 ∷ 105 ∷ 99 ∷ 32 ∷ 115 ∷ 101 ∷ 116 ∷ 32 ∷ []) ∷  -- 48 `static set `
    (115 ∷ 116 ∷ 97 ∷ 116 ∷ 105 ∷ 99 ∷ 32 ∷ 103 ∷ 101 ∷ 116 ∷ 32 ∷ 115 ∷ 101 ∷ 116 ∷ 32 ∷ []) ∷  -- 49 `static get set `
    [] ∷  -- 50 nothing
    (41 ∷ []) ∷  -- 51 `)`
    (10 ∷ []) ∷  -- 52 `⏎`
    (41 ∷ 10 ∷ []) ∷  -- 53 `)⏎`
    (59 ∷ 10 ∷ []) ∷  -- 54 `;⏎`
    (41 ∷ 59 ∷ 10 ∷ []) ∷  -- 55 `);⏎`
    (41 ∷ 32 ∷ []) ∷  -- 56 `) `
    (41 ∷ 41 ∷ 32 ∷ []) ∷  -- 57 `)) `
    (41 ∷ []) ∷  -- 58 `)`
    (41 ∷ 41 ∷ []) ∷  -- 59 `))`
    (93 ∷ []) ∷  -- 60 `]`
    (41 ∷ 93 ∷ []) ∷  -- 61 `)]`
    (125 ∷ []) ∷  -- 62 `}`
    (41 ∷ 125 ∷ []) ∷  -- 63 `)}`
    (40 ∷ []) ∷  -- 64 `(`
    (123 ∷ []) ∷  -- 65 `{`
    (125 ∷ []) ∷  -- 66 `}`
    (91 ∷ []) ∷  -- 67 `[`
    (44 ∷ []) ∷  -- 68 `,`
    (123 ∷ 10 ∷ []) ∷  -- 69 `{⏎`
    (44 ∷ 32 ∷ []) ∷  -- 70 `, `
    (32 ∷ []) ∷  -- 71 ` `
    (32 ∷ 61 ∷ 62 ∷ 32 ∷ []) ∷  -- 72 ` => `
    (41 ∷ 32 ∷ 123 ∷ 10 ∷ []) ∷  -- 73 `) {⏎`
    (36 ∷ 123 ∷ []) ∷  -- 74 `${`
    (96 ∷ []) ∷  -- 75 ```
    (35 ∷ []) ∷  -- 76 `#`
    (32 ∷ 105 ∷ 110 ∷ 32 ∷ []) ∷  -- 77 ` in `
    (32 ∷ 111 ∷ 102 ∷ 32 ∷ []) ∷  -- 78 ` of `
    (116 ∷ 114 ∷ 121 ∷ 32 ∷ []) ∷  -- 79 `try `
    (32 ∷ 99 ∷ 97 ∷ 116 ∷ 99 ∷ 104 ∷ 32 ∷ []) ∷  -- 80 ` catch `
    (32 ∷ 102 ∷ 105 ∷ 110 ∷ 97 ∷ 108 ∷ 108 ∷ 121 ∷ 32 ∷ []) ∷  -- 81 ` finally `
    (114 ∷ 101 ∷ 116 ∷ 117 ∷ 114 ∷ 110 ∷ []) ∷  -- 82 `return`
    (99 ∷ 108 ∷ 97 ∷ 115 ∷ 115 ∷ []) ∷  -- 83 `class`
    (32 ∷ 101 ∷ 120 ∷ 116 ∷ 101 ∷ 110 ∷ 100 ∷ 115 ∷ 32 ∷ []) ∷  -- 84 ` extends `
    (32 ∷ 123 ∷ 10 ∷ []) ∷  -- 85 ` {⏎`
    (115 ∷ 116 ∷ 97 ∷ 116 ∷ 105 ∷ 99 ∷ 32 ∷ 123 ∷ 10 ∷ []) ∷  -- 86 `static {⏎`
    (115 ∷ 119 ∷ 105 ∷ 116 ∷ 99 ∷ 104 ∷ 32 ∷ 40 ∷ []) ∷  -- 87 `switch (`
    (99 ∷ 97 ∷ 115 ∷ 101 ∷ 32 ∷ []) ∷  -- 88 `case `
    (41 ∷ 59 ∷ []) ∷  -- 89 `);`
    (46 ∷ []) ∷  -- 90 `.`
    (91 ∷ 34 ∷ []) ∷  -- 91 `["`
    (34 ∷ 93 ∷ []) ∷  -- 92 `"]`
    (34 ∷ []) ∷  -- 93 `"`
    []

unfoldable pub word : ℕ → List ℕ
word i = get_or words i []

-- Numbers from 100 on choose a word: by the node's byte n, its bit map m, what was noted of it s, and whether it is in method form o.
-- Three bits of n, two of s and one of o are enough for every tree.
unfoldable pub choices : ℕ → ℕ → ℕ → ℕ → List ℕ
choices n m s o =
    (n % 8) ∷  -- 100 `var `, `let ` or `const `, by the byte
    (4 + n % 8) ∷  -- 101 `for (`, or `for await (` if the byte is 1
    (5 + n % 8) ∷  -- 102 `_ref`, `_excluded`, `_value` or `_key`, by the byte
    (9 + n % 8) ∷  -- 103 a helper's name, by the byte
    (14 + n % 8) ∷  -- 104 ` = ` or ` ?= `, by the byte
    (17 + m / 4 % 2) ∷  -- 105 `; `, twice if the test is absent
    (19 + m / 4 % 4) ∷  -- 106 `)`, and `; ` for each of test and update that is absent behind the last that stands
    (23 + m % 2) ∷  -- 107 `:⏎`, or `default:⏎` without a test
    (25 + s % 4) ∷  -- 108 `...`, with `, ` before it if the list before has items
    (27 + o % 2) ∷  -- 109 `: `, nothing in method form
    (29 + o % 2) ∷  -- 110 ` = `, nothing in method form
    (31 + o % 2) ∷  -- 111 `function`, nothing in method form
    (33 + s % 4) ∷  -- 112 `;`, nothing if the node was noted
    (35 + (n % 8 + 2 * (m / 32 % 2))) ∷  -- 113 `;` if a statement has no body
    (40 + m / 16 % 2) ∷  -- 114 `)`, unless a rest stands
    (40 + m / 2 % 2) ∷  -- 115 `)`, unless a rest stands
    (42 + n / 8 % 4) ∷  -- 116 `get `, `set `, by the flags
    (42 + (n / 2 % 2 * 4 + n / 8 % 4)) ∷  -- 117 `static `, `get `, `set `, by the flags
    (cond (eqb s 2) 68 0) ∷  -- 118 `,` if the last item is a hole
    (cond (eqb s 2) (cond (eqb (m / 2 % 2) 0) 68 0) 0) ∷  -- 119 `,` if the last item is a hole and no rest stands
    []

unfoldable pub chosen_word : ℕ → ℕ → ℕ → ℕ → ℕ → ℕ
chosen_word own n m s o = cond (ltb own 100) own (get_or (choices n m s o) (own - 100) 0)

-- ---- manners: how a field that holds nodes is written

-- nested or plain, by its kind
abbrev pub plain : ℕ
plain = 0

-- an item, and a line end behind it
abbrev pub lines : ℕ
lines = 1

-- an item, and `;⏎` behind it
abbrev pub directives : ℕ
directives = 2

-- `) ` behind it
abbrev pub caught : ℕ
caught = 3

-- `)` behind it
abbrev pub closed : ℕ
closed = 4

-- `]` behind it if flag 1 stands
abbrev pub keyed : ℕ
keyed = 5

-- `${` before an item, `}` behind it, and the next quasi before both
abbrev pub filled : ℕ
filled = 6

-- an item, parted by `, `; a statement between two line ends
abbrev pub called : ℕ
called = 7

-- a loop body: a blank before a Block, `⏎` before another statement
abbrev pub looped : ℕ
looped = 8

-- the head of a loop: a Declaration has no `;`
abbrev pub headed : ℕ
headed = 9

-- quasis, which stand among the expressions
abbrev pub quoted : ℕ
quoted = 10

-- items parted by `, `
abbrev pub parted : ℕ
parted = 11

-- a value, which may be in method form
abbrev pub valued : ℕ
valued = 12

-- ---- the layout

-- own bytes at the head and at the tail of the node, at the end of its list, before each field; and the manner of each field
pub record Line : Type 0 where
  pub head : ℕ
  pub tail : ℕ
  pub close : ℕ
  pub leads : List ℕ
  pub manners : List ℕ

abbrev line : ℕ → List ℕ → List ℕ → ℕ → ℕ → Line
line h ls ms c t = record { head = h; tail = t; close = c; leads = ls; manners = ms }

-- head, before each field, manners, end of the list, tail
unfoldable pub layout : List Line
layout =
    line 0 [] [] 0 0 ∷
    line 0 [] (lines ∷ []) 0 0 ∷  -- 1 Program: lines of body
    line 69 [] (plain ∷ lines ∷ []) 0 66 ∷  -- 2 Block: `{⏎`, lines of body, `}`
    line 0 [] [] 0 33 ∷  -- 3 ExpressionStatement: `‹expr›;`
    line 100 [] (plain ∷ plain ∷ parted ∷ []) 0 112 ∷  -- 4 Declaration: `var `, `let ` or `const `, declarators; `;` behind it, but not in the head of a loop
    line 0 (0 ∷ 15 ∷ []) [] 0 0 ∷  -- 5 Declarator: `«id»`, and ` = ‹init›` if it stands
    line 4 (0 ∷ 0 ∷ 18 ∷ 105 ∷ 106 ∷ []) (plain ∷ headed ∷ plain ∷ plain ∷ looped ∷ []) 0 0 ∷  -- 6 For: `for (`, init, `; `, `‹test›`, `; `, `‹update›`, `)`, loop body; what is absent prints nothing
    line 4 (0 ∷ 0 ∷ 77 ∷ 21 ∷ []) (plain ∷ headed ∷ plain ∷ looped ∷ []) 0 0 ∷  -- 7 ForIn: `for (`, left, ` in ‹right›)`, loop body
    line 101 (0 ∷ 0 ∷ 78 ∷ 21 ∷ []) (plain ∷ headed ∷ plain ∷ looped ∷ []) 0 0 ∷  -- 8 ForOf: the same with ` of `; `for await (` if await is 1
    line 79 (0 ∷ 0 ∷ 80 ∷ 81 ∷ []) [] 0 0 ∷  -- 9 Try: `try «block»`, and if they stand ` catch `, handler and ` finally «finalizer»`
    line 0 (64 ∷ []) (caught ∷ []) 0 0 ∷  -- 10 Catch: `(«param») ` if it stands, then `«body»`
    line 82 (0 ∷ 71 ∷ []) [] 0 33 ∷  -- 11 Return: `return`, ` ‹arg›` if it stands, `;`
    line 0 (0 ∷ 0 ∷ 64 ∷ []) (plain ∷ plain ∷ called ∷ []) 0 89 ∷  -- 12 OtherStatement: name, `(`, children, `);`
    line 0 [] [] 0 33 ∷  -- 13 Empty: `;`
    line 111 (0 ∷ 0 ∷ 71 ∷ 64 ∷ 108 ∷ 71 ∷ []) (plain ∷ plain ∷ plain ∷ parted ∷ closed ∷ []) 114 113 ∷  -- 14 Function: `function`, ` «name»` if it stands, parameters, a blank and the body if it stands; a statement without body has `;` behind it
    line 0 (0 ∷ 15 ∷ []) [] 0 0 ∷  -- 15 Param: `«pattern»`, and ` = ‹default›` if it stands
    line 69 [] (directives ∷ lines ∷ []) 0 66 ∷  -- 16 FunctionBody: `{⏎`, each directive and `;⏎`, lines of body, `}`
    line 64 (0 ∷ 108 ∷ 72 ∷ []) (parted ∷ closed ∷ []) 115 0 ∷  -- 17 Arrow: parameters, ` => `, the FunctionBody, or `‹body›`
    line 0 [] [] 0 0 ∷  -- 18 Reference: the name's bytes
    line 0 [] [] 0 0 ∷  -- 19 Binding: the name's bytes
    line 102 [] [] 0 0 ∷  -- 20 Temporary: `_ref`, `_excluded`, `_value` or `_key`, and the number in decimal
    line 103 [] [] 0 0 ∷  -- 21 Helper: its name
    line 0 [] [] 0 0 ∷  -- 22 Literal: its spelling, or its form in quotes
    line 75 [] (quoted ∷ filled ∷ []) 0 75 ∷  -- 23 Template: `` ` ``, quasi 0, `${‹expr 0›}`, quasi 1, ..; what is left over of either follows in order; `` ` ``
    line 65 [] (parted ∷ []) 0 66 ∷  -- 24 Object: `{`, properties, `}`
    line 116 (0 ∷ 109 ∷ []) (keyed ∷ valued ∷ []) 0 0 ∷  -- 25 Property: `get ` if flag 8, `set ` if flag 16, key, then `: ‹value›`; or in method form parameters, a blank and the body
    line 25 [] [] 0 0 ∷  -- 26 Spread: `...‹arg›`
    line 0 (0 ∷ 0 ∷ 104 ∷ []) [] 0 0 ∷  -- 27 Assignment: target, ` = ` or (op 2) ` ?= `, `‹right›`
    line 0 [] (parted ∷ []) 0 0 ∷  -- 28 Sequence: `‹exprs›`
    line 0 (0 ∷ 64 ∷ []) (plain ∷ parted ∷ []) 0 21 ∷  -- 29 Call: `‹callee›(`, args, `)`
    line 0 [] [] 0 0 ∷  -- 30 Member: `‹object›.name`, or `‹object›["name"]`
    line 64 [] [] 0 21 ∷  -- 31 Parenthesised: `(‹expr›)`
    line 67 [] (parted ∷ []) 118 60 ∷  -- 32 Array: `[`, items, `]`; a hole prints nothing, and if the last item is one a `,` stands behind it
    line 0 (0 ∷ 64 ∷ []) (plain ∷ called ∷ []) 0 21 ∷  -- 33 OtherExpression: name, `(`, children, `)`
    line 65 (0 ∷ 108 ∷ []) (parted ∷ []) 0 66 ∷  -- 34 ObjectPattern: `{`, properties, then `...` and the rest, `}`
    line 0 (0 ∷ 27 ∷ []) (keyed ∷ []) 0 0 ∷  -- 35 PatternProperty: key, `: `, value
    line 67 (0 ∷ 108 ∷ []) (parted ∷ []) 119 60 ∷  -- 36 ArrayPattern: as 32, the rest as a last item `...rest`; the `,` of a last hole only where no rest stands
    line 0 (0 ∷ 15 ∷ []) [] 0 0 ∷  -- 37 Default: left, ` = ‹right›`
    line 0 [] [] 0 0 ∷  -- 38 StaticKey: its name
    line 76 [] [] 0 0 ∷  -- 39 PrivateKey: `#` and its bytes
    line 83 (71 ∷ 84 ∷ 85 ∷ []) (plain ∷ plain ∷ lines ∷ []) 0 66 ∷  -- 40 Class: `class`, a blank and the name if it stands, ` extends ‹super›` if it stands, ` {⏎`, lines of members, `}`
    line 117 (0 ∷ 110 ∷ []) (keyed ∷ valued ∷ []) 0 112 ∷  -- 41 ClassMember: `static ` if flag 2, `get `, `set ` and key as 25; method form; else ` = ‹value›` if it stands, and `;`
    line 86 [] (lines ∷ []) 0 66 ∷  -- 42 StaticBlock: `static {⏎`, lines of body, `}`
    line 87 (0 ∷ 0 ∷ 73 ∷ []) [] 0 66 ∷  -- 43 Switch: `switch (‹discriminant›) {⏎`, cases one after another, `}`
    line 0 (88 ∷ 107 ∷ []) (plain ∷ lines ∷ []) 0 0 ∷  -- 44 Case: `case ‹test›:⏎`, or `default:⏎` without a test; lines of body
    []

abbrev pub line_of : ℕ → Line
line_of kind = get_or layout kind (record { head = 0; tail = 0; close = 0; leads = []; manners = [] })

unfoldable pub head_of : ℕ → ℕ
head_of kind = (line_of kind).head

unfoldable pub tail_of : ℕ → ℕ
tail_of kind = (line_of kind).tail

unfoldable pub close_of : ℕ → ℕ
close_of kind = (line_of kind).close

unfoldable pub lead_of : ℕ → ℕ → ℕ
lead_of kind j = get_or (line_of kind).leads j 0

unfoldable pub manner_of : ℕ → ℕ → ℕ
manner_of kind j = get_or (line_of kind).manners j 0
