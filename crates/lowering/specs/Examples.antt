-- Examples, by computation: document 01's table, its listing, the small inputs of its refusal table, and others that it names. What comes
-- out stands as bytes, beside it in words, so that it owes nothing to the definitions that make it.
use Rattle.std.specs.Prelude.{◌≡◌, refl, List, [], ◌∷◌, ◌++◌, ℕ, zero, suc, length, replicate}
use Rattle.tree.specs.Tree.{Node, Items, encode, marks}
use Rattle.tree.specs.Tree.Node.{node}
use Rattle.tree.specs.Tree.Fields.{done, absent, field}
use Rattle.tree.specs.Tree.Piece.{one, list, text, byte, mark}
use Rattle.tree.specs.Tree.Items.{none, item}
use Rattle.lowering.specs.Parts.{only}
use Rattle.lowering.specs.Made.{call, W, object, array, assign, declares}
use Rattle.lowering.specs.Answer.{Lent, highest_limit, lowering, outcome}
use Rattle.lowering.specs.Answer.Result.{refusal, lowered}

-- ---- small trees

-- letters
abbrev a : ℕ
a = 97

abbrev b : ℕ
b = 98

abbrev c : ℕ
c = 99

abbrev d : ℕ
d = 100

abbrev e : ℕ
e = 101

abbrev f : ℕ
f = 102

abbrev g : ℕ
g = 103

abbrev r : ℕ
r = 114

abbrev s : ℕ
s = 115

abbrev x : ℕ
x = 120

abbrev all : List Node → Items
all [] = none
all (n ∷ ns) = item n (all ns)

-- names of one letter
abbrev ref : ℕ → Node
ref letter = node 0 18 (field (text (letter ∷ [])) (absent done))

abbrev bind : ℕ → Node
bind letter = node 0 19 (field (text (letter ∷ [])) (absent done))

abbrev name : ℕ → Node
name letter = node 0 38 (field (text (letter ∷ [])) done)

-- the number 1
abbrev num : Node
num = node 0 22 (field (byte 2) (field (text (49 ∷ [])) (field (text (49 ∷ [])) done)))

-- a number by its spelling, without a form and with one
abbrev unformed : List ℕ → Node
unformed spelling = node 0 22 (field (byte 2) (field (text spelling) (absent done)))

abbrev formed : List ℕ → List ℕ → Node
formed spelling form = node 0 22 (field (byte 2) (field (text spelling) (field (text form) done)))

-- `5` without a form, `5` with the form `6`, `1.5` without a form
abbrev plain_five : Node
plain_five = unformed (53 ∷ [])

abbrev wrong_five : Node
wrong_five = formed (53 ∷ []) (54 ∷ [])

abbrev fraction : Node
fraction = unformed (49 ∷ 46 ∷ 53 ∷ [])

-- 9007199254740991, that with `0x`, and both one higher
abbrev bound : List ℕ
bound = 57 ∷ 48 ∷ 48 ∷ 55 ∷ 49 ∷ 57 ∷ 57 ∷ 50 ∷ 53 ∷ 52 ∷ 55 ∷ 52 ∷ 48 ∷ 57 ∷ 57 ∷ 49 ∷ []

abbrev above_bound : List ℕ
above_bound = 57 ∷ 48 ∷ 48 ∷ 55 ∷ 49 ∷ 57 ∷ 57 ∷ 50 ∷ 53 ∷ 52 ∷ 55 ∷ 52 ∷ 48 ∷ 57 ∷ 57 ∷ 50 ∷ []

abbrev bound_in16 : List ℕ
bound_in16 = 48 ∷ 120 ∷ 49 ∷ replicate 13 102

abbrev above_in16 : List ℕ
above_in16 = 48 ∷ 120 ∷ 50 ∷ replicate 13 48

-- `/q/`, without a form
abbrev regexp : Node
regexp = node 0 22 (field (byte 6) (field (text (47 ∷ 113 ∷ 47 ∷ [])) (absent done)))

-- `letter: value` in a literal, `...e`
abbrev prop : ℕ → Node → Node
prop letter value = node 0 25 (field (one (name letter)) (field (one value) (field (byte 0) done)))

abbrev spread : Node → Node
spread e = node 0 26 (field (one e) done)

-- patterns: `key: value`, with its flags; `{properties}`, `{properties, ...rest}`; `[items]`, `[...rest]`
abbrev part : Node → Node → ℕ → Node
part key value flags = node 0 35 (field (one key) (field (one value) (field (byte flags) done)))

abbrev taking : Items → Node
taking ps = node 0 34 (field (list ps) (absent done))

abbrev taking_rest : Items → Node → Node
taking_rest ps rest = node 0 34 (field (list ps) (field (one rest) done))

abbrev items : Items → Node
items is = node 0 36 (field (list is) (absent done))

abbrev items_rest : Node → Node
items_rest rest = node 0 36 (field (list none) (field (one rest) done))

abbrev parens : Node → Node
parens e = node 0 31 (field (one e) done)

-- statements with their marks; kind 1 var, 2 let
abbrev says : ℕ → Node → Node
says m e = node 0 3 (field (mark m) (field (one e) done))

abbrev declaring : ℕ → ℕ → Items → Node
declaring m kind ds = node 0 4 (field (mark m) (field (byte kind) (field (list ds) done)))

abbrev block_of : ℕ → Items → Node
block_of m ss = node 0 2 (field (mark m) (field (list ss) done))

-- `switch (on) { cases }`, `case test: ss`
abbrev switching : ℕ → Node → Items → Node
switching m on cases = node 0 43 (field (mark m) (field (one on) (field (list cases) done)))

abbrev case_of : Node → Items → Node
case_of test ss = node 0 44 (field (one test) (field (list ss) done))

-- `class { members }`, `class extends e { }`, `static { ss }`, a method `key(params) { ss }` whose Function has the mark m
abbrev class_of : Items → Node
class_of members = node 0 40 (absent (absent (field (list members) done)))

abbrev extending : Node → Node
extending e = node 0 40 (absent (field (one e) (field (list none) done)))

abbrev static_block : Items → Node
static_block ss = node 0 42 (field (list ss) done)

abbrev method : ℕ → Node → Items → Items → Node
method m key params ss =
    let body = node 0 16 (absent (field (list ss) done)) in
    let function = node 0 14 (field (mark m) (field (byte 2) (absent (field (list params) (absent (field (one body) done)))))) in
    node 0 41 (field (one key) (field (one function) (field (byte 4) done)))

abbrev param : Node → Node
param pattern = node 0 15 (field (one pattern) (absent done))

-- blocks each in the last, their marks from m on
abbrev blocks : ℕ → ℕ → Items
blocks m zero = none
blocks m (suc d) = only (block_of m (blocks (suc m) d))

abbrev program : Items → List ℕ
program ss = encode (node 0 1 (field (list ss) done))

-- ---- slices that are long enough, and what is asked of an example

abbrev lent : ℕ → ℕ → ℕ → Lent
lent t l w = record { tree_slice = t; list_slice = l; work_slice = w }

abbrev plenty : Lent
plenty = lent 32768 16384 65536

abbrev empty : List ℕ
empty = 0 ∷ 0 ∷ 0 ∷ 0 ∷ []

-- a statement becomes the tree of these bytes with these helpers, and an empty list
abbrev Becomes : Node → ℕ → List ℕ → Type 0
Becomes before helpers after = lowering highest_limit 0 (program (only before)) plenty ≡ lowered helpers 0 after empty

abbrev Refused : Node → ℕ → Type 0
Refused n r = lowering highest_limit 0 (program (only n)) plenty ≡ refusal r

-- `` `a`[function() { }] ``, the function with mark 2
abbrev templated : Node
templated =
    let empty = node 0 16 (absent (field (list none) done)) in
    let function = node 0 14 (field (mark 2) (field (byte 2) (absent (field (list none) (absent (field (one empty) done)))))) in
    node 0 23 (field (list (only (node 0 22 (field (byte 1) (field (text (a ∷ [])) (field (text (a ∷ [])) done)))))) (field (list (only function)) done))

-- document 01's listing
abbrev listing : List ℕ
listing = 1 ∷ 1 ∷ 1 ∷ 0 ∷ 3 ∷ 3 ∷ 1 ∷ 0 ∷ 24 ∷ 1 ∷ 1 ∷ 0 ∷ 26 ∷ 1 ∷ 18 ∷ 1 ∷ 1 ∷ 0 ∷ 97 ∷ []

abbrev listed : List ℕ
listed = 1 ∷ 1 ∷ 1 ∷ 0 ∷ 3 ∷ 3 ∷ 1 ∷ 0 ∷ 29 ∷ 3 ∷ 21 ∷ 1 ∷ 1 ∷ 2 ∷ 0 ∷ 24 ∷ 1 ∷ 0 ∷ 0 ∷ 18 ∷ 1 ∷ 1 ∷ 0 ∷ 97 ∷ []

-- document 01, 'Literals and declarations, to be proved'
pub record Table : Type 0 where
  -- `{}`
  empty_literal : Becomes
      (says 1 (object none)) 0
      (1 ∷ 1 ∷ 1 ∷ 0 ∷ 3 ∷ 3 ∷ 1 ∷ 0 ∷ 24 ∷ 1 ∷ 0 ∷ 0 ∷ [])
  -- `{a: 1}`
  plain_literal : Becomes
      (says 1 (object (only (prop a num)))) 0
      (1 ∷ 1 ∷ 1 ∷ 0 ∷ 3 ∷ 3 ∷ 1 ∷ 0 ∷ 24 ∷ 1 ∷ 1 ∷ 0 ∷ 25 ∷ 7 ∷ 38 ∷ 1 ∷ 1 ∷ 0 ∷ 97 ∷ 22 ∷ 7 ∷ 2 ∷ 1 ∷ 0 ∷ 49 ∷ 1 ∷ 0 ∷ 49 ∷ 0 ∷ [])
  -- `{...a, ...b}`: S(S({}, a), b)
  two_spreads : Becomes
      (says 1 (object (all (spread (ref a) ∷ spread (ref b) ∷ [])))) 1
      (1 ∷ 1 ∷ 1 ∷ 0 ∷ 3 ∷ 3 ∷ 1 ∷ 0 ∷ 29 ∷ 3 ∷ 21 ∷ 1 ∷ 1 ∷ 2 ∷ 0 ∷ 29 ∷ 3 ∷ 21 ∷ 1 ∷ 1 ∷ 2 ∷ 0 ∷ 24 ∷ 1 ∷ 0 ∷ 0 ∷ 18 ∷ 1 ∷ 1 ∷ 0
      ∷ 97 ∷ 18 ∷ 1 ∷ 1 ∷ 0 ∷ 98 ∷ [])
  -- `{x: 1, ...a}`: S({x: 1}, a)
  spread_last : Becomes
      (says 1 (object (all (prop x num ∷ spread (ref a) ∷ [])))) 1
      (1 ∷ 1 ∷ 1 ∷ 0 ∷ 3 ∷ 3 ∷ 1 ∷ 0 ∷ 29 ∷ 3 ∷ 21 ∷ 1 ∷ 1 ∷ 2 ∷ 0 ∷ 24 ∷ 1 ∷ 1 ∷ 0 ∷ 25 ∷ 7 ∷ 38 ∷ 1 ∷ 1 ∷ 0 ∷ 120 ∷ 22 ∷ 7 ∷ 2 ∷ 1
      ∷ 0 ∷ 49 ∷ 1 ∷ 0 ∷ 49 ∷ 0 ∷ 18 ∷ 1 ∷ 1 ∷ 0 ∷ 97 ∷ [])
  -- `{...a, x: 1}`: S(S({}, a), {}, {x: 1})
  spread_first : Becomes
      (says 1 (object (all (spread (ref a) ∷ prop x num ∷ [])))) 1
      (1 ∷ 1 ∷ 1 ∷ 0 ∷ 3 ∷ 3 ∷ 1 ∷ 0 ∷ 29 ∷ 3 ∷ 21 ∷ 1 ∷ 1 ∷ 3 ∷ 0 ∷ 29 ∷ 3 ∷ 21 ∷ 1 ∷ 1 ∷ 2 ∷ 0 ∷ 24 ∷ 1 ∷ 0 ∷ 0 ∷ 18 ∷ 1 ∷ 1 ∷ 0
      ∷ 97 ∷ 24 ∷ 1 ∷ 0 ∷ 0 ∷ 24 ∷ 1 ∷ 1 ∷ 0 ∷ 25 ∷ 7 ∷ 38 ∷ 1 ∷ 1 ∷ 0 ∷ 120 ∷ 22 ∷ 7 ∷ 2 ∷ 1 ∷ 0 ∷ 49 ∷ 1 ∷ 0 ∷ 49 ∷ 0 ∷ [])
  -- `{...a, x: 1, ...b}`: S(S({}, a), {}, {x: 1}, b)
  spread_around : Becomes
      (says 1 (object (all (spread (ref a) ∷ prop x num ∷ spread (ref b) ∷ [])))) 1
      (1 ∷ 1 ∷ 1 ∷ 0 ∷ 3 ∷ 3 ∷ 1 ∷ 0 ∷ 29 ∷ 3 ∷ 21 ∷ 1 ∷ 1 ∷ 4 ∷ 0 ∷ 29 ∷ 3 ∷ 21 ∷ 1 ∷ 1 ∷ 2 ∷ 0 ∷ 24 ∷ 1 ∷ 0 ∷ 0 ∷ 18 ∷ 1 ∷ 1 ∷ 0
      ∷ 97 ∷ 24 ∷ 1 ∷ 0 ∷ 0 ∷ 24 ∷ 1 ∷ 1 ∷ 0 ∷ 25 ∷ 7 ∷ 38 ∷ 1 ∷ 1 ∷ 0 ∷ 120 ∷ 22 ∷ 7 ∷ 2 ∷ 1 ∷ 0 ∷ 49 ∷ 1 ∷ 0 ∷ 49 ∷ 0 ∷ 18 ∷ 1 ∷ 1
      ∷ 0 ∷ 98 ∷ [])
  -- `let {a, ...r} = s` at root: {a} = s, r = W(s, ["a"])
  rest : Becomes
      (declaring 1 2 (only (declares (taking_rest (only (part (name a) (bind a) 2)) (bind r)) (ref s)))) 8
      (1 ∷ 1 ∷ 1 ∷ 0 ∷ 4 ∷ 7 ∷ 1 ∷ 0 ∷ 2 ∷ 2 ∷ 0 ∷ 5 ∷ 3 ∷ 34 ∷ 1 ∷ 1 ∷ 0 ∷ 35 ∷ 7 ∷ 38 ∷ 1 ∷ 1 ∷ 0 ∷ 97 ∷ 19 ∷ 1 ∷ 1 ∷ 0 ∷ 97 ∷ 2
      ∷ 18 ∷ 1 ∷ 1 ∷ 0 ∷ 115 ∷ 5 ∷ 3 ∷ 19 ∷ 1 ∷ 1 ∷ 0 ∷ 114 ∷ 29 ∷ 3 ∷ 21 ∷ 1 ∷ 4 ∷ 2 ∷ 0 ∷ 18 ∷ 1 ∷ 1 ∷ 0 ∷ 115 ∷ 32 ∷ 1 ∷ 1 ∷ 0
      ∷ 22 ∷ 7 ∷ 1 ∷ 0 ∷ 0 ∷ 1 ∷ 0 ∷ 97 ∷ [])
  -- `let {...r} = f()`: t = f(), r = X({}, (E(t), t))
  rest_only : Becomes
      (declaring 1 2 (only (declares (taking_rest none (bind r)) (call (ref f) none)))) 6
      (1 ∷ 1 ∷ 1 ∷ 0 ∷ 4 ∷ 7 ∷ 1 ∷ 0 ∷ 2 ∷ 2 ∷ 0 ∷ 5 ∷ 3 ∷ 20 ∷ 3 ∷ 1 ∷ 0 ∷ 3 ∷ 29 ∷ 3 ∷ 18 ∷ 1 ∷ 1 ∷ 0 ∷ 102 ∷ 0 ∷ 0 ∷ 5 ∷ 3 ∷ 19
      ∷ 1 ∷ 1 ∷ 0 ∷ 114 ∷ 29 ∷ 3 ∷ 21 ∷ 1 ∷ 2 ∷ 2 ∷ 0 ∷ 24 ∷ 1 ∷ 0 ∷ 0 ∷ 28 ∷ 1 ∷ 2 ∷ 0 ∷ 29 ∷ 3 ∷ 21 ∷ 1 ∷ 3 ∷ 1 ∷ 0 ∷ 20 ∷ 3 ∷ 1
      ∷ 0 ∷ 3 ∷ 20 ∷ 3 ∷ 1 ∷ 0 ∷ 3 ∷ [])

-- request 6: the parts of a nested assignment, both sides as bytes
pub record Parts : Type 0 where
  -- `({left: {gain, ...tuning}, ...rest} = bench)`: `tuning` is taken from the part, `bench.left`
  coach_script : lowering highest_limit 0
      (1 ∷ 1 ∷ 1 ∷ 0 ∷ 3 ∷ 3 ∷ 1 ∷ 0 ∷ 31 ∷ 1 ∷ 27 ∷ 7 ∷ 1 ∷ 34 ∷ 3 ∷ 1 ∷ 0 ∷ 35 ∷ 7 ∷ 38 ∷ 1 ∷ 4 ∷ 0 ∷ 108 ∷ 101 ∷ 102 ∷ 116
      ∷ 34 ∷ 3 ∷ 1 ∷ 0 ∷ 35 ∷ 7 ∷ 38 ∷ 1 ∷ 4 ∷ 0 ∷ 103 ∷ 97 ∷ 105 ∷ 110 ∷ 18 ∷ 1 ∷ 4 ∷ 0 ∷ 103 ∷ 97 ∷ 105 ∷ 110 ∷ 2 ∷ 18 ∷ 1 ∷ 6
      ∷ 0 ∷ 116 ∷ 117 ∷ 110 ∷ 105 ∷ 110 ∷ 103 ∷ 0 ∷ 18 ∷ 1 ∷ 4 ∷ 0 ∷ 114 ∷ 101 ∷ 115 ∷ 116 ∷ 18 ∷ 1 ∷ 5 ∷ 0 ∷ 98 ∷ 101 ∷ 110
      ∷ 99 ∷ 104 ∷ []) plenty
      ≡ lowered 8 0
      (1 ∷ 1 ∷ 1 ∷ 0 ∷ 3 ∷ 3 ∷ 1 ∷ 0 ∷ 31 ∷ 1 ∷ 28 ∷ 1 ∷ 4 ∷ 0 ∷ 27 ∷ 7 ∷ 1 ∷ 20 ∷ 3 ∷ 1 ∷ 0 ∷ 3 ∷ 18 ∷ 1 ∷ 5 ∷ 0 ∷ 98 ∷ 101
      ∷ 110 ∷ 99 ∷ 104 ∷ 27 ∷ 7 ∷ 1 ∷ 34 ∷ 1 ∷ 1 ∷ 0 ∷ 35 ∷ 7 ∷ 38 ∷ 1 ∷ 4 ∷ 0 ∷ 108 ∷ 101 ∷ 102 ∷ 116 ∷ 20 ∷ 3 ∷ 2 ∷ 0 ∷ 1 ∷ 0
      ∷ 20 ∷ 3 ∷ 1 ∷ 0 ∷ 3 ∷ 28 ∷ 1 ∷ 4 ∷ 0 ∷ 27 ∷ 7 ∷ 1 ∷ 20 ∷ 3 ∷ 3 ∷ 0 ∷ 3 ∷ 20 ∷ 3 ∷ 2 ∷ 0 ∷ 1 ∷ 27 ∷ 7 ∷ 1 ∷ 34 ∷ 1 ∷ 1 ∷ 0
      ∷ 35 ∷ 7 ∷ 38 ∷ 1 ∷ 4 ∷ 0 ∷ 103 ∷ 97 ∷ 105 ∷ 110 ∷ 18 ∷ 1 ∷ 4 ∷ 0 ∷ 103 ∷ 97 ∷ 105 ∷ 110 ∷ 2 ∷ 20 ∷ 3 ∷ 3 ∷ 0 ∷ 3 ∷ 27 ∷ 7
      ∷ 1 ∷ 18 ∷ 1 ∷ 6 ∷ 0 ∷ 116 ∷ 117 ∷ 110 ∷ 105 ∷ 110 ∷ 103 ∷ 29 ∷ 3 ∷ 21 ∷ 1 ∷ 4 ∷ 2 ∷ 0 ∷ 20 ∷ 3 ∷ 3 ∷ 0 ∷ 3 ∷ 32 ∷ 1 ∷ 1
      ∷ 0 ∷ 22 ∷ 7 ∷ 1 ∷ 0 ∷ 0 ∷ 4 ∷ 0 ∷ 103 ∷ 97 ∷ 105 ∷ 110 ∷ 20 ∷ 3 ∷ 3 ∷ 0 ∷ 3 ∷ 27 ∷ 7 ∷ 1 ∷ 18 ∷ 1 ∷ 4 ∷ 0 ∷ 114 ∷ 101
      ∷ 115 ∷ 116 ∷ 29 ∷ 3 ∷ 21 ∷ 1 ∷ 4 ∷ 2 ∷ 0 ∷ 20 ∷ 3 ∷ 1 ∷ 0 ∷ 3 ∷ 32 ∷ 1 ∷ 1 ∷ 0 ∷ 22 ∷ 7 ∷ 1 ∷ 0 ∷ 0 ∷ 4 ∷ 0 ∷ 108 ∷ 101
      ∷ 102 ∷ 116 ∷ [])
      (2 ∷ 0 ∷ 1 ∷ 0 ∷ 2 ∷ 0 ∷ 5 ∷ 1 ∷ 20 ∷ 3 ∷ 1 ∷ 0 ∷ 3 ∷ 5 ∷ 1 ∷ 20 ∷ 3 ∷ 2 ∷ 0 ∷ 1 ∷ 1 ∷ 0 ∷ 1 ∷ 0 ∷ 5 ∷ 1 ∷ 20 ∷ 3 ∷ 3 ∷ 0
      ∷ 3 ∷ 0 ∷ 0 ∷ [])
  -- `{ ({a: {b, ...c}, ...d} = e); }`: excluded keys: the outer object's first
  parts_keys_later : lowering highest_limit 0
      (1 ∷ 1 ∷ 1 ∷ 0 ∷ 2 ∷ 3 ∷ 1 ∷ 0 ∷ 1 ∷ 0 ∷ 3 ∷ 3 ∷ 2 ∷ 0 ∷ 31 ∷ 1 ∷ 27 ∷ 7 ∷ 1 ∷ 34 ∷ 3 ∷ 1 ∷ 0 ∷ 35 ∷ 7 ∷ 38 ∷ 1 ∷ 1 ∷ 0
      ∷ 97 ∷ 34 ∷ 3 ∷ 1 ∷ 0 ∷ 35 ∷ 7 ∷ 38 ∷ 1 ∷ 1 ∷ 0 ∷ 98 ∷ 18 ∷ 1 ∷ 1 ∷ 0 ∷ 98 ∷ 2 ∷ 18 ∷ 1 ∷ 1 ∷ 0 ∷ 99 ∷ 0 ∷ 18 ∷ 1 ∷ 1 ∷ 0
      ∷ 100 ∷ 18 ∷ 1 ∷ 1 ∷ 0 ∷ 101 ∷ []) plenty
      ≡ lowered 8 0
      (1 ∷ 1 ∷ 1 ∷ 0 ∷ 2 ∷ 3 ∷ 1 ∷ 0 ∷ 1 ∷ 0 ∷ 3 ∷ 3 ∷ 2 ∷ 0 ∷ 31 ∷ 1 ∷ 28 ∷ 1 ∷ 4 ∷ 0 ∷ 27 ∷ 7 ∷ 1 ∷ 20 ∷ 3 ∷ 1 ∷ 0 ∷ 3 ∷ 18 ∷ 1
      ∷ 1 ∷ 0 ∷ 101 ∷ 27 ∷ 7 ∷ 1 ∷ 34 ∷ 1 ∷ 1 ∷ 0 ∷ 35 ∷ 7 ∷ 38 ∷ 1 ∷ 1 ∷ 0 ∷ 97 ∷ 20 ∷ 3 ∷ 2 ∷ 0 ∷ 1 ∷ 0 ∷ 20 ∷ 3 ∷ 1 ∷ 0 ∷ 3
      ∷ 28 ∷ 1 ∷ 4 ∷ 0 ∷ 27 ∷ 7 ∷ 1 ∷ 20 ∷ 3 ∷ 3 ∷ 0 ∷ 3 ∷ 20 ∷ 3 ∷ 2 ∷ 0 ∷ 1 ∷ 27 ∷ 7 ∷ 1 ∷ 34 ∷ 1 ∷ 1 ∷ 0 ∷ 35 ∷ 7 ∷ 38 ∷ 1
      ∷ 1 ∷ 0 ∷ 98 ∷ 18 ∷ 1 ∷ 1 ∷ 0 ∷ 98 ∷ 2 ∷ 20 ∷ 3 ∷ 3 ∷ 0 ∷ 3 ∷ 27 ∷ 7 ∷ 1 ∷ 18 ∷ 1 ∷ 1 ∷ 0 ∷ 99 ∷ 29 ∷ 3 ∷ 21 ∷ 1 ∷ 4 ∷ 2
      ∷ 0 ∷ 20 ∷ 3 ∷ 3 ∷ 0 ∷ 3 ∷ 20 ∷ 3 ∷ 4 ∷ 0 ∷ 2 ∷ 20 ∷ 3 ∷ 3 ∷ 0 ∷ 3 ∷ 27 ∷ 7 ∷ 1 ∷ 18 ∷ 1 ∷ 1 ∷ 0 ∷ 100 ∷ 29 ∷ 3 ∷ 21 ∷ 1
      ∷ 4 ∷ 2 ∷ 0 ∷ 20 ∷ 3 ∷ 1 ∷ 0 ∷ 3 ∷ 20 ∷ 3 ∷ 5 ∷ 0 ∷ 2 ∷ [])
      (2 ∷ 0 ∷ 2 ∷ 0 ∷ 2 ∷ 0 ∷ 5 ∷ 1 ∷ 20 ∷ 3 ∷ 1 ∷ 0 ∷ 3 ∷ 5 ∷ 1 ∷ 20 ∷ 3 ∷ 2 ∷ 0 ∷ 1 ∷ 2 ∷ 0 ∷ 1 ∷ 0 ∷ 5 ∷ 1 ∷ 20 ∷ 3 ∷ 3 ∷ 0
      ∷ 3 ∷ 2 ∷ 0 ∷ 5 ∷ 3 ∷ 20 ∷ 3 ∷ 5 ∷ 0 ∷ 2 ∷ 32 ∷ 1 ∷ 1 ∷ 0 ∷ 22 ∷ 7 ∷ 1 ∷ 0 ∷ 0 ∷ 1 ∷ 0 ∷ 97 ∷ 5 ∷ 3 ∷ 20 ∷ 3 ∷ 4 ∷ 0 ∷ 2
      ∷ 32 ∷ 1 ∷ 1 ∷ 0 ∷ 22 ∷ 7 ∷ 1 ∷ 0 ∷ 0 ∷ 1 ∷ 0 ∷ 98 ∷ [])
  -- `{[k()]: {...a}, b: {...c}, ...d} = e`: in the entry the parts' temporaries come before the keys'
  parts_before_keys : lowering highest_limit 0
      (1 ∷ 1 ∷ 1 ∷ 0 ∷ 3 ∷ 3 ∷ 1 ∷ 0 ∷ 27 ∷ 7 ∷ 1 ∷ 34 ∷ 3 ∷ 2 ∷ 0 ∷ 35 ∷ 7 ∷ 29 ∷ 3 ∷ 18 ∷ 1 ∷ 1 ∷ 0 ∷ 107 ∷ 0 ∷ 0 ∷ 34 ∷ 3 ∷ 0
      ∷ 0 ∷ 18 ∷ 1 ∷ 1 ∷ 0 ∷ 97 ∷ 1 ∷ 35 ∷ 7 ∷ 38 ∷ 1 ∷ 1 ∷ 0 ∷ 98 ∷ 34 ∷ 3 ∷ 0 ∷ 0 ∷ 18 ∷ 1 ∷ 1 ∷ 0 ∷ 99 ∷ 0 ∷ 18 ∷ 1 ∷ 1 ∷ 0
      ∷ 100 ∷ 18 ∷ 1 ∷ 1 ∷ 0 ∷ 101 ∷ []) plenty
      ≡ lowered 30 0
      (1 ∷ 1 ∷ 1 ∷ 0 ∷ 3 ∷ 3 ∷ 1 ∷ 0 ∷ 28 ∷ 1 ∷ 5 ∷ 0 ∷ 27 ∷ 7 ∷ 1 ∷ 20 ∷ 3 ∷ 1 ∷ 0 ∷ 3 ∷ 18 ∷ 1 ∷ 1 ∷ 0 ∷ 101 ∷ 27 ∷ 7 ∷ 1 ∷ 34
      ∷ 1 ∷ 2 ∷ 0 ∷ 35 ∷ 7 ∷ 20 ∷ 3 ∷ 2 ∷ 0 ∷ 4 ∷ 20 ∷ 3 ∷ 3 ∷ 0 ∷ 1 ∷ 1 ∷ 35 ∷ 7 ∷ 38 ∷ 1 ∷ 1 ∷ 0 ∷ 98 ∷ 20 ∷ 3 ∷ 4 ∷ 0 ∷ 1 ∷ 0
      ∷ 20 ∷ 3 ∷ 1 ∷ 0 ∷ 3 ∷ 28 ∷ 1 ∷ 4 ∷ 0 ∷ 27 ∷ 7 ∷ 1 ∷ 20 ∷ 3 ∷ 5 ∷ 0 ∷ 3 ∷ 20 ∷ 3 ∷ 3 ∷ 0 ∷ 1 ∷ 27 ∷ 7 ∷ 1 ∷ 34 ∷ 1 ∷ 0 ∷ 0
      ∷ 20 ∷ 3 ∷ 5 ∷ 0 ∷ 3 ∷ 27 ∷ 7 ∷ 1 ∷ 18 ∷ 1 ∷ 1 ∷ 0 ∷ 97 ∷ 29 ∷ 3 ∷ 21 ∷ 1 ∷ 2 ∷ 2 ∷ 0 ∷ 24 ∷ 1 ∷ 0 ∷ 0 ∷ 28 ∷ 1 ∷ 2 ∷ 0
      ∷ 29 ∷ 3 ∷ 21 ∷ 1 ∷ 3 ∷ 1 ∷ 0 ∷ 20 ∷ 3 ∷ 5 ∷ 0 ∷ 3 ∷ 20 ∷ 3 ∷ 5 ∷ 0 ∷ 3 ∷ 20 ∷ 3 ∷ 5 ∷ 0 ∷ 3 ∷ 28 ∷ 1 ∷ 4 ∷ 0 ∷ 27 ∷ 7 ∷ 1
      ∷ 20 ∷ 3 ∷ 6 ∷ 0 ∷ 3 ∷ 20 ∷ 3 ∷ 4 ∷ 0 ∷ 1 ∷ 27 ∷ 7 ∷ 1 ∷ 34 ∷ 1 ∷ 0 ∷ 0 ∷ 20 ∷ 3 ∷ 6 ∷ 0 ∷ 3 ∷ 27 ∷ 7 ∷ 1 ∷ 18 ∷ 1 ∷ 1 ∷ 0
      ∷ 99 ∷ 29 ∷ 3 ∷ 21 ∷ 1 ∷ 2 ∷ 2 ∷ 0 ∷ 24 ∷ 1 ∷ 0 ∷ 0 ∷ 28 ∷ 1 ∷ 2 ∷ 0 ∷ 29 ∷ 3 ∷ 21 ∷ 1 ∷ 3 ∷ 1 ∷ 0 ∷ 20 ∷ 3 ∷ 6 ∷ 0 ∷ 3
      ∷ 20 ∷ 3 ∷ 6 ∷ 0 ∷ 3 ∷ 20 ∷ 3 ∷ 6 ∷ 0 ∷ 3 ∷ 27 ∷ 7 ∷ 1 ∷ 18 ∷ 1 ∷ 1 ∷ 0 ∷ 100 ∷ 29 ∷ 3 ∷ 21 ∷ 1 ∷ 4 ∷ 2 ∷ 0 ∷ 20 ∷ 3 ∷ 1
      ∷ 0 ∷ 3 ∷ 29 ∷ 3 ∷ 30 ∷ 3 ∷ 32 ∷ 1 ∷ 2 ∷ 0 ∷ 20 ∷ 3 ∷ 2 ∷ 0 ∷ 4 ∷ 22 ∷ 7 ∷ 1 ∷ 0 ∷ 0 ∷ 1 ∷ 0 ∷ 98 ∷ 3 ∷ 0 ∷ 109 ∷ 97 ∷ 112
      ∷ 1 ∷ 0 ∷ 21 ∷ 1 ∷ 5 ∷ [])
      (3 ∷ 0 ∷ 1 ∷ 0 ∷ 4 ∷ 0 ∷ 5 ∷ 1 ∷ 20 ∷ 3 ∷ 1 ∷ 0 ∷ 3 ∷ 5 ∷ 1 ∷ 20 ∷ 3 ∷ 3 ∷ 0 ∷ 1 ∷ 5 ∷ 1 ∷ 20 ∷ 3 ∷ 4 ∷ 0 ∷ 1 ∷ 5 ∷ 3 ∷ 20
      ∷ 3 ∷ 2 ∷ 0 ∷ 4 ∷ 29 ∷ 3 ∷ 18 ∷ 1 ∷ 1 ∷ 0 ∷ 107 ∷ 0 ∷ 0 ∷ 1 ∷ 0 ∷ 1 ∷ 0 ∷ 5 ∷ 1 ∷ 20 ∷ 3 ∷ 5 ∷ 0 ∷ 3 ∷ 1 ∷ 0 ∷ 1 ∷ 0 ∷ 5
      ∷ 1 ∷ 20 ∷ 3 ∷ 6 ∷ 0 ∷ 3 ∷ 0 ∷ 0 ∷ [])
  -- `{a: {...x}, b: [{...y}], ...z} = v`: y is assigned first, in the pattern's own sequence
  array_beside_part : lowering highest_limit 0
      (1 ∷ 1 ∷ 1 ∷ 0 ∷ 3 ∷ 3 ∷ 1 ∷ 0 ∷ 27 ∷ 7 ∷ 1 ∷ 34 ∷ 3 ∷ 2 ∷ 0 ∷ 35 ∷ 7 ∷ 38 ∷ 1 ∷ 1 ∷ 0 ∷ 97 ∷ 34 ∷ 3 ∷ 0 ∷ 0 ∷ 18 ∷ 1 ∷ 1
      ∷ 0 ∷ 120 ∷ 0 ∷ 35 ∷ 7 ∷ 38 ∷ 1 ∷ 1 ∷ 0 ∷ 98 ∷ 36 ∷ 1 ∷ 1 ∷ 0 ∷ 34 ∷ 3 ∷ 0 ∷ 0 ∷ 18 ∷ 1 ∷ 1 ∷ 0 ∷ 121 ∷ 0 ∷ 18 ∷ 1 ∷ 1 ∷ 0
      ∷ 122 ∷ 18 ∷ 1 ∷ 1 ∷ 0 ∷ 118 ∷ []) plenty
      ≡ lowered 14 0
      (1 ∷ 1 ∷ 1 ∷ 0 ∷ 3 ∷ 3 ∷ 1 ∷ 0 ∷ 28 ∷ 1 ∷ 4 ∷ 0 ∷ 27 ∷ 7 ∷ 1 ∷ 20 ∷ 3 ∷ 1 ∷ 0 ∷ 3 ∷ 18 ∷ 1 ∷ 1 ∷ 0 ∷ 118 ∷ 28 ∷ 1 ∷ 2 ∷ 0
      ∷ 27 ∷ 7 ∷ 1 ∷ 34 ∷ 1 ∷ 2 ∷ 0 ∷ 35 ∷ 7 ∷ 38 ∷ 1 ∷ 1 ∷ 0 ∷ 97 ∷ 20 ∷ 3 ∷ 2 ∷ 0 ∷ 1 ∷ 0 ∷ 35 ∷ 7 ∷ 38 ∷ 1 ∷ 1 ∷ 0 ∷ 98 ∷ 36
      ∷ 1 ∷ 1 ∷ 0 ∷ 20 ∷ 3 ∷ 3 ∷ 0 ∷ 1 ∷ 0 ∷ 20 ∷ 3 ∷ 1 ∷ 0 ∷ 3 ∷ 28 ∷ 1 ∷ 4 ∷ 0 ∷ 27 ∷ 7 ∷ 1 ∷ 20 ∷ 3 ∷ 4 ∷ 0 ∷ 3 ∷ 20 ∷ 3 ∷ 3
      ∷ 0 ∷ 1 ∷ 27 ∷ 7 ∷ 1 ∷ 34 ∷ 1 ∷ 0 ∷ 0 ∷ 20 ∷ 3 ∷ 4 ∷ 0 ∷ 3 ∷ 27 ∷ 7 ∷ 1 ∷ 18 ∷ 1 ∷ 1 ∷ 0 ∷ 121 ∷ 29 ∷ 3 ∷ 21 ∷ 1 ∷ 2 ∷ 2
      ∷ 0 ∷ 24 ∷ 1 ∷ 0 ∷ 0 ∷ 28 ∷ 1 ∷ 2 ∷ 0 ∷ 29 ∷ 3 ∷ 21 ∷ 1 ∷ 3 ∷ 1 ∷ 0 ∷ 20 ∷ 3 ∷ 4 ∷ 0 ∷ 3 ∷ 20 ∷ 3 ∷ 4 ∷ 0 ∷ 3 ∷ 20 ∷ 3 ∷ 4
      ∷ 0 ∷ 3 ∷ 28 ∷ 1 ∷ 4 ∷ 0 ∷ 27 ∷ 7 ∷ 1 ∷ 20 ∷ 3 ∷ 5 ∷ 0 ∷ 3 ∷ 20 ∷ 3 ∷ 2 ∷ 0 ∷ 1 ∷ 27 ∷ 7 ∷ 1 ∷ 34 ∷ 1 ∷ 0 ∷ 0 ∷ 20 ∷ 3 ∷ 5
      ∷ 0 ∷ 3 ∷ 27 ∷ 7 ∷ 1 ∷ 18 ∷ 1 ∷ 1 ∷ 0 ∷ 120 ∷ 29 ∷ 3 ∷ 21 ∷ 1 ∷ 2 ∷ 2 ∷ 0 ∷ 24 ∷ 1 ∷ 0 ∷ 0 ∷ 28 ∷ 1 ∷ 2 ∷ 0 ∷ 29 ∷ 3 ∷ 21
      ∷ 1 ∷ 3 ∷ 1 ∷ 0 ∷ 20 ∷ 3 ∷ 5 ∷ 0 ∷ 3 ∷ 20 ∷ 3 ∷ 5 ∷ 0 ∷ 3 ∷ 20 ∷ 3 ∷ 5 ∷ 0 ∷ 3 ∷ 27 ∷ 7 ∷ 1 ∷ 18 ∷ 1 ∷ 1 ∷ 0 ∷ 122 ∷ 29
      ∷ 3 ∷ 21 ∷ 1 ∷ 4 ∷ 2 ∷ 0 ∷ 20 ∷ 3 ∷ 1 ∷ 0 ∷ 3 ∷ 32 ∷ 1 ∷ 2 ∷ 0 ∷ 22 ∷ 7 ∷ 1 ∷ 0 ∷ 0 ∷ 1 ∷ 0 ∷ 97 ∷ 22 ∷ 7 ∷ 1 ∷ 0 ∷ 0 ∷ 1
      ∷ 0 ∷ 98 ∷ [])
      (4 ∷ 0 ∷ 1 ∷ 0 ∷ 2 ∷ 0 ∷ 5 ∷ 1 ∷ 20 ∷ 3 ∷ 1 ∷ 0 ∷ 3 ∷ 5 ∷ 1 ∷ 20 ∷ 3 ∷ 2 ∷ 0 ∷ 1 ∷ 1 ∷ 0 ∷ 1 ∷ 0 ∷ 5 ∷ 1 ∷ 20 ∷ 3 ∷ 3 ∷ 0
      ∷ 1 ∷ 1 ∷ 0 ∷ 1 ∷ 0 ∷ 5 ∷ 1 ∷ 20 ∷ 3 ∷ 4 ∷ 0 ∷ 3 ∷ 1 ∷ 0 ∷ 1 ∷ 0 ∷ 5 ∷ 1 ∷ 20 ∷ 3 ∷ 5 ∷ 0 ∷ 3 ∷ 0 ∷ 0 ∷ [])
  -- `[{a: [{...b}], ...c}, {...d}] = e`: the outermost in walk order, what lies below one when its assignment is walked
  outermost_through_arrays : lowering highest_limit 0
      (1 ∷ 1 ∷ 1 ∷ 0 ∷ 3 ∷ 3 ∷ 1 ∷ 0 ∷ 27 ∷ 7 ∷ 1 ∷ 36 ∷ 1 ∷ 2 ∷ 0 ∷ 34 ∷ 3 ∷ 1 ∷ 0 ∷ 35 ∷ 7 ∷ 38 ∷ 1 ∷ 1 ∷ 0 ∷ 97 ∷ 36 ∷ 1 ∷ 1
      ∷ 0 ∷ 34 ∷ 3 ∷ 0 ∷ 0 ∷ 18 ∷ 1 ∷ 1 ∷ 0 ∷ 98 ∷ 0 ∷ 18 ∷ 1 ∷ 1 ∷ 0 ∷ 99 ∷ 34 ∷ 3 ∷ 0 ∷ 0 ∷ 18 ∷ 1 ∷ 1 ∷ 0 ∷ 100 ∷ 18 ∷ 1 ∷ 1
      ∷ 0 ∷ 101 ∷ []) plenty
      ≡ lowered 14 0
      (1 ∷ 1 ∷ 1 ∷ 0 ∷ 3 ∷ 3 ∷ 1 ∷ 0 ∷ 28 ∷ 1 ∷ 3 ∷ 0 ∷ 27 ∷ 7 ∷ 1 ∷ 36 ∷ 1 ∷ 2 ∷ 0 ∷ 20 ∷ 3 ∷ 1 ∷ 0 ∷ 1 ∷ 20 ∷ 3 ∷ 2 ∷ 0 ∷ 1
      ∷ 18 ∷ 1 ∷ 1 ∷ 0 ∷ 101 ∷ 28 ∷ 1 ∷ 4 ∷ 0 ∷ 27 ∷ 7 ∷ 1 ∷ 20 ∷ 3 ∷ 3 ∷ 0 ∷ 3 ∷ 20 ∷ 3 ∷ 1 ∷ 0 ∷ 1 ∷ 28 ∷ 1 ∷ 2 ∷ 0 ∷ 27 ∷ 7
      ∷ 1 ∷ 34 ∷ 1 ∷ 1 ∷ 0 ∷ 35 ∷ 7 ∷ 38 ∷ 1 ∷ 1 ∷ 0 ∷ 97 ∷ 36 ∷ 1 ∷ 1 ∷ 0 ∷ 20 ∷ 3 ∷ 4 ∷ 0 ∷ 1 ∷ 0 ∷ 20 ∷ 3 ∷ 3 ∷ 0 ∷ 3 ∷ 28
      ∷ 1 ∷ 4 ∷ 0 ∷ 27 ∷ 7 ∷ 1 ∷ 20 ∷ 3 ∷ 5 ∷ 0 ∷ 3 ∷ 20 ∷ 3 ∷ 4 ∷ 0 ∷ 1 ∷ 27 ∷ 7 ∷ 1 ∷ 34 ∷ 1 ∷ 0 ∷ 0 ∷ 20 ∷ 3 ∷ 5 ∷ 0 ∷ 3 ∷ 27
      ∷ 7 ∷ 1 ∷ 18 ∷ 1 ∷ 1 ∷ 0 ∷ 98 ∷ 29 ∷ 3 ∷ 21 ∷ 1 ∷ 2 ∷ 2 ∷ 0 ∷ 24 ∷ 1 ∷ 0 ∷ 0 ∷ 28 ∷ 1 ∷ 2 ∷ 0 ∷ 29 ∷ 3 ∷ 21 ∷ 1 ∷ 3 ∷ 1
      ∷ 0 ∷ 20 ∷ 3 ∷ 5 ∷ 0 ∷ 3 ∷ 20 ∷ 3 ∷ 5 ∷ 0 ∷ 3 ∷ 20 ∷ 3 ∷ 5 ∷ 0 ∷ 3 ∷ 27 ∷ 7 ∷ 1 ∷ 18 ∷ 1 ∷ 1 ∷ 0 ∷ 99 ∷ 29 ∷ 3 ∷ 21 ∷ 1
      ∷ 4 ∷ 2 ∷ 0 ∷ 20 ∷ 3 ∷ 3 ∷ 0 ∷ 3 ∷ 32 ∷ 1 ∷ 1 ∷ 0 ∷ 22 ∷ 7 ∷ 1 ∷ 0 ∷ 0 ∷ 1 ∷ 0 ∷ 97 ∷ 20 ∷ 3 ∷ 3 ∷ 0 ∷ 3 ∷ 28 ∷ 1 ∷ 4 ∷ 0
      ∷ 27 ∷ 7 ∷ 1 ∷ 20 ∷ 3 ∷ 6 ∷ 0 ∷ 3 ∷ 20 ∷ 3 ∷ 2 ∷ 0 ∷ 1 ∷ 27 ∷ 7 ∷ 1 ∷ 34 ∷ 1 ∷ 0 ∷ 0 ∷ 20 ∷ 3 ∷ 6 ∷ 0 ∷ 3 ∷ 27 ∷ 7 ∷ 1
      ∷ 18 ∷ 1 ∷ 1 ∷ 0 ∷ 100 ∷ 29 ∷ 3 ∷ 21 ∷ 1 ∷ 2 ∷ 2 ∷ 0 ∷ 24 ∷ 1 ∷ 0 ∷ 0 ∷ 28 ∷ 1 ∷ 2 ∷ 0 ∷ 29 ∷ 3 ∷ 21 ∷ 1 ∷ 3 ∷ 1 ∷ 0 ∷ 20
      ∷ 3 ∷ 6 ∷ 0 ∷ 3 ∷ 20 ∷ 3 ∷ 6 ∷ 0 ∷ 3 ∷ 20 ∷ 3 ∷ 6 ∷ 0 ∷ 3 ∷ [])
      (5 ∷ 0 ∷ 1 ∷ 0 ∷ 2 ∷ 0 ∷ 5 ∷ 1 ∷ 20 ∷ 3 ∷ 1 ∷ 0 ∷ 1 ∷ 5 ∷ 1 ∷ 20 ∷ 3 ∷ 2 ∷ 0 ∷ 1 ∷ 1 ∷ 0 ∷ 1 ∷ 0 ∷ 5 ∷ 1 ∷ 20 ∷ 3 ∷ 3 ∷ 0
      ∷ 3 ∷ 1 ∷ 0 ∷ 1 ∷ 0 ∷ 5 ∷ 1 ∷ 20 ∷ 3 ∷ 4 ∷ 0 ∷ 1 ∷ 1 ∷ 0 ∷ 1 ∷ 0 ∷ 5 ∷ 1 ∷ 20 ∷ 3 ∷ 5 ∷ 0 ∷ 3 ∷ 1 ∷ 0 ∷ 1 ∷ 0 ∷ 5 ∷ 1 ∷ 20
      ∷ 3 ∷ 6 ∷ 0 ∷ 3 ∷ 0 ∷ 0 ∷ [])
  -- `({a: {1.5: x, ...y}, ...z} = ([...{...q}] = w))`: the key without a form is met when the part is walked, behind 5 in the value
  five_before_six : lowering highest_limit 0
      (1 ∷ 1 ∷ 1 ∷ 0 ∷ 3 ∷ 3 ∷ 1 ∷ 0 ∷ 31 ∷ 1 ∷ 27 ∷ 7 ∷ 1 ∷ 34 ∷ 3 ∷ 1 ∷ 0 ∷ 35 ∷ 7 ∷ 38 ∷ 1 ∷ 1 ∷ 0 ∷ 97 ∷ 34 ∷ 3 ∷ 1 ∷ 0 ∷ 35
      ∷ 7 ∷ 22 ∷ 3 ∷ 2 ∷ 3 ∷ 0 ∷ 49 ∷ 46 ∷ 53 ∷ 18 ∷ 1 ∷ 1 ∷ 0 ∷ 120 ∷ 0 ∷ 18 ∷ 1 ∷ 1 ∷ 0 ∷ 121 ∷ 0 ∷ 18 ∷ 1 ∷ 1 ∷ 0 ∷ 122 ∷ 31
      ∷ 1 ∷ 27 ∷ 7 ∷ 1 ∷ 36 ∷ 3 ∷ 0 ∷ 0 ∷ 34 ∷ 3 ∷ 0 ∷ 0 ∷ 18 ∷ 1 ∷ 1 ∷ 0 ∷ 113 ∷ 18 ∷ 1 ∷ 1 ∷ 0 ∷ 119 ∷ []) plenty
      ≡ refusal 5

-- `let {key: a, ...r} = s`: {key: a} = s, r = W(s, ["string"])
abbrev Excludes : Node → List ℕ → Type 0
Excludes key bs =
    Becomes
    (declaring 1 2 (only (declares (taking_rest (only (part key (bind a) 0)) (bind r)) (ref s)))) 8
    ((1 ∷ 1 ∷ 1 ∷ 0 ∷ 4 ∷ 7 ∷ 1 ∷ 0 ∷ 2 ∷ 2 ∷ 0 ∷ 5 ∷ 3 ∷ 34 ∷ 1 ∷ 1 ∷ 0 ∷ 35 ∷ 7 ∷ []) ++ encode key
    ++ (19 ∷ 1 ∷ 1 ∷ 0 ∷ 97 ∷ 0 ∷ 18 ∷ 1 ∷ 1 ∷ 0 ∷ 115 ∷ 5 ∷ 3 ∷ 19 ∷ 1 ∷ 1 ∷ 0 ∷ 114 ∷ 29 ∷ 3 ∷ 21 ∷ 1 ∷ 4 ∷ 2 ∷ 0 ∷ 18 ∷ 1 ∷ 1 ∷ 0 ∷ 115
    ∷ 32 ∷ 1 ∷ 1 ∷ 0 ∷ 22 ∷ 7 ∷ 1 ∷ 0 ∷ 0 ∷ length bs ∷ 0 ∷ bs))

-- `let {keys, ...r} = s`, each key with `a`
abbrev declared_keys : Items → Node
declared_keys ps = declaring 1 2 (only (declares (taking_rest ps (bind r)) (ref s)))

abbrev RefusesKey : Node → ℕ → Type 0
RefusesKey key n = Refused (declared_keys (only (part key (bind a) 0))) n

-- request 8: number keys worked out; the Literal in the pattern stays as it is
pub record NumberKeys : Type 0 where
  -- `5`, `0xfF`, `0x00`, each without a form
  of_digits : Excludes plain_five (53 ∷ [])
  of_hexadecimal : Excludes (unformed (48 ∷ 120 ∷ 102 ∷ 70 ∷ [])) (50 ∷ 53 ∷ 53 ∷ [])
  of_zeros : Excludes (unformed (48 ∷ 120 ∷ 48 ∷ 48 ∷ [])) (48 ∷ [])
  -- the bound in both spellings, and one above: nothing is promised, so it is 6, or the form whatever it is
  at_bound : Excludes (unformed bound) bound
  at_bound_in_16 : Excludes (unformed bound_in16) bound
  above_bound_lem : RefusesKey (unformed above_bound) 6
  above_bound_in_16 : RefusesKey (unformed above_in16) 6
  above_with_form : Excludes (formed above_bound (54 ∷ [])) (54 ∷ [])
  -- other spellings and another sort: `0X1f`, `05`, `0x`, the empty one; a bigint spelled `5`
  capital_x : RefusesKey (unformed (48 ∷ 88 ∷ 49 ∷ 102 ∷ [])) 6
  leading_zero : RefusesKey (unformed (48 ∷ 53 ∷ [])) 6
  no_digit : RefusesKey (unformed (48 ∷ 120 ∷ [])) 6
  no_spelling : RefusesKey (unformed []) 6
  bigint : RefusesKey (node 0 22 (field (byte 5) (field (text (53 ∷ [])) (absent done)))) 6
  -- a form that is the string, `0x10` with `16`, and one that is not, `5` with `6`
  same_form : Excludes (formed (48 ∷ 120 ∷ 49 ∷ 48 ∷ []) (49 ∷ 54 ∷ [])) (49 ∷ 54 ∷ [])
  differing_form : RefusesKey wrong_five 11
  -- 6 and 11 in one pattern, both ways round
  six_first : Refused (declared_keys (all (part fraction (bind a) 0 ∷ part wrong_five (bind b) 0 ∷ []))) 6
  eleven_first : Refused (declared_keys (all (part wrong_five (bind a) 0 ∷ part fraction (bind b) 0 ∷ []))) 11
  -- one in each object: `let {1.5: {5: a, ...b}, ...r} = s` meets the inner object's first, `{1.5: {5: a, ...b}, ...r} = s` the outer's
  inner_first : Refused (declared_keys (only (part fraction (taking_rest (only (part wrong_five (bind a) 0)) (bind b)) 0))) 11
  outer_first : Refused (says 1 (assign (taking_rest (only (part fraction (taking_rest (only (part wrong_five (ref a) 0)) (ref b)) 0)) (ref r)) (ref s))) 6

pub record Examples : Type 0 where
  table : Table
  parts : Parts
  number_keys : NumberKeys
  -- ---- the listing

  the_listing : lowering highest_limit 0 listing plenty ≡ lowered 1 0 listed empty
  -- options go into the mask, and lowering goes on; 8 is left out (request 12)
  retired_option : lowering highest_limit 8 listing plenty ≡ lowered 1 0 listed empty
  all_options : lowering highest_limit 15 listing plenty ≡ lowered 1 7 listed empty
  -- ---- the small inputs of the refusal table

  one_options : lowering highest_limit 16 listing plenty ≡ refusal 1
  one_retired : lowering highest_limit 24 listing plenty ≡ refusal 1
  two_work : lowering highest_limit 0 listing (lent 32768 16384 65535) ≡ refusal 2
  three_empty : lowering highest_limit 0 [] plenty ≡ refusal 3
  -- Program, 64 blocks each in the last, with a limit of 64; with 63 it is a tree
  four_deep : lowering 64 0 (program (blocks 1 64)) plenty ≡ refusal 4
  not_so_deep : lowering 64 0 (program (blocks 1 63)) plenty ≡ lowered 0 0 (program (blocks 1 63)) empty
  -- `[...[{...a}]] = b`
  five_array_rest : Refused (says 1 (assign (items_rest (items (only (taking_rest none (ref a))))) (ref b))) 5
  -- `var {[/q/]: a, ...r} = s`
  six_no_form : Refused (declaring 1 1 (only (declares (taking_rest (only (part regexp (bind a) 1)) (bind r)) (ref s)))) 6
  -- the listing with a tree slice of 23; with 24, and a list slice of 4, it fits
  seven_short : lowering highest_limit 0 listing (lent 23 16384 65536) ≡ refusal 7
  just_fits : lowering highest_limit 0 listing (lent 24 4 65536) ≡ lowered 1 0 listed empty
  -- ---- the limit (request 5)

  -- 64 blocks, 127 and 128 where none is named
  deeper : lowering highest_limit 0 (program (blocks 1 64)) plenty ≡ lowered 0 0 (program (blocks 1 64)) empty
  deepest : lowering highest_limit 0 (program (blocks 1 127)) plenty ≡ lowered 0 0 (program (blocks 1 127)) empty
  too_deep_lem : lowering highest_limit 0 (program (blocks 1 128)) plenty ≡ refusal 4
  -- limits that there are not; 9 comes before 1, and 1 before 4
  nine_zero : lowering 0 0 listing plenty ≡ refusal 9
  nine_above : lowering 129 0 listing plenty ≡ refusal 9
  nine_first : lowering 0 16 listing plenty ≡ refusal 9
  one_next : lowering 1 16 listing plenty ≡ refusal 1
  -- a limit of 1 leaves the empty Program; a statement in it is met as 4, a byte that is no statement's kind as 3
  one_level : lowering 1 0 (program none) plenty ≡ lowered 0 0
      (1 ∷ 1 ∷ 0 ∷ 0 ∷ []) empty
  one_level_deep : lowering 1 0 listing plenty ≡ refusal 4
  one_level_no_tree : lowering 1 0 (1 ∷ 1 ∷ 1 ∷ 0 ∷ 20 ∷ []) plenty ≡ refusal 3
  -- ---- every lent byte

  -- the listing with slices of 26 and 6 bytes: the result, then zeros
  tree_slice_lem : (outcome highest_limit 0 listing (lent 26 6 65536)).tree_out ≡ listed ++ (0 ∷ 0 ∷ [])
  list_slice_lem : (outcome highest_limit 0 listing (lent 26 6 65536)).list_out ≡ replicate 6 0
  -- with a tree slice of 23: zeros
  refused_slice : (outcome highest_limit 0 listing (lent 23 6 65536)).tree_out ≡ replicate 23 0
  -- ---- others that document 01 names

  -- `var [...[{...a}]] = b` keeps its rest
  array_rest_stays : Becomes
      (declaring 1 1 (only (declares (items_rest (items (only (taking_rest none (bind a))))) (ref b)))) 0
      (1 ∷ 1 ∷ 1 ∷ 0 ∷ 4 ∷ 7 ∷ 1 ∷ 0 ∷ 1 ∷ 1 ∷ 0 ∷ 5 ∷ 3 ∷ 36 ∷ 3 ∷ 0 ∷ 0 ∷ 36 ∷ 1 ∷ 1 ∷ 0 ∷ 34 ∷ 3 ∷ 0 ∷ 0 ∷ 19 ∷ 1 ∷ 1 ∷ 0 ∷ 97
      ∷ 18 ∷ 1 ∷ 1 ∷ 0 ∷ 98 ∷ [])
  -- `({a: {...b}, ...c} = d)`: (t = d, {a: p} = t, (u = p, {} = u, b = X({}, (E(u), u)), u), c = W(t, ["a"])): b is copied from d.a (request
  -- 6); before statement 1: t, p, then u
  nested_rest : lowering highest_limit 0 (program (only (says 1 (parens (assign (taking_rest (only (part (name a) (taking_rest none (ref b)) 0)) (ref c)) (ref d)))))) plenty
      ≡ lowered 14 0
      (1 ∷ 1 ∷ 1 ∷ 0 ∷ 3 ∷ 3 ∷ 1 ∷ 0 ∷ 31 ∷ 1 ∷ 28 ∷ 1 ∷ 4 ∷ 0 ∷ 27 ∷ 7 ∷ 1 ∷ 20 ∷ 3 ∷ 1 ∷ 0 ∷ 3 ∷ 18 ∷ 1 ∷ 1 ∷ 0 ∷ 100 ∷ 27 ∷ 7 ∷ 1
      ∷ 34 ∷ 1 ∷ 1 ∷ 0 ∷ 35 ∷ 7 ∷ 38 ∷ 1 ∷ 1 ∷ 0 ∷ 97 ∷ 20 ∷ 3 ∷ 2 ∷ 0 ∷ 1 ∷ 0 ∷ 20 ∷ 3 ∷ 1 ∷ 0 ∷ 3 ∷ 28 ∷ 1 ∷ 4 ∷ 0 ∷ 27 ∷ 7 ∷ 1
      ∷ 20 ∷ 3 ∷ 3 ∷ 0 ∷ 3 ∷ 20 ∷ 3 ∷ 2 ∷ 0 ∷ 1 ∷ 27 ∷ 7 ∷ 1 ∷ 34 ∷ 1 ∷ 0 ∷ 0 ∷ 20 ∷ 3 ∷ 3 ∷ 0 ∷ 3 ∷ 27 ∷ 7 ∷ 1 ∷ 18 ∷ 1 ∷ 1 ∷ 0 ∷ 98
      ∷ 29 ∷ 3 ∷ 21 ∷ 1 ∷ 2 ∷ 2 ∷ 0 ∷ 24 ∷ 1 ∷ 0 ∷ 0 ∷ 28 ∷ 1 ∷ 2 ∷ 0 ∷ 29 ∷ 3 ∷ 21 ∷ 1 ∷ 3 ∷ 1 ∷ 0 ∷ 20 ∷ 3 ∷ 3 ∷ 0 ∷ 3 ∷ 20 ∷ 3 ∷ 3
      ∷ 0 ∷ 3 ∷ 20 ∷ 3 ∷ 3 ∷ 0 ∷ 3 ∷ 27 ∷ 7 ∷ 1 ∷ 18 ∷ 1 ∷ 1 ∷ 0 ∷ 99 ∷ 29 ∷ 3 ∷ 21 ∷ 1 ∷ 4 ∷ 2 ∷ 0 ∷ 20 ∷ 3 ∷ 1 ∷ 0 ∷ 3 ∷ 32 ∷ 1 ∷ 1
      ∷ 0 ∷ 22 ∷ 7 ∷ 1 ∷ 0 ∷ 0 ∷ 1 ∷ 0 ∷ 97 ∷ [])
      (2 ∷ 0 ∷ 1 ∷ 0 ∷ 2 ∷ 0 ∷ 5 ∷ 1 ∷ 20 ∷ 3 ∷ 1 ∷ 0 ∷ 3 ∷ 5 ∷ 1 ∷ 20 ∷ 3 ∷ 2 ∷ 0 ∷ 1 ∷ 1 ∷ 0 ∷ 1 ∷ 0 ∷ 5 ∷ 1 ∷ 20 ∷ 3 ∷ 3 ∷ 0 ∷ 3 ∷ 0 ∷ 0 ∷ [])
  -- `{ let {a, ...r} = s; }`: not at root the keys go to the list, t = ["a"]
  hoisted_keys : lowering highest_limit 0 (program (only (block_of 1 (only (declaring 2 2 (only (declares (taking_rest (only (part (name a) (bind a) 2)) (bind r)) (ref s)))))))) plenty
      ≡ lowered 8 0
      (1 ∷ 1 ∷ 1 ∷ 0 ∷ 2 ∷ 3 ∷ 1 ∷ 0 ∷ 1 ∷ 0 ∷ 4 ∷ 7 ∷ 2 ∷ 0 ∷ 2 ∷ 2 ∷ 0 ∷ 5 ∷ 3 ∷ 34 ∷ 1 ∷ 1 ∷ 0 ∷ 35 ∷ 7 ∷ 38 ∷ 1 ∷ 1 ∷ 0 ∷ 97 ∷ 19
      ∷ 1 ∷ 1 ∷ 0 ∷ 97 ∷ 2 ∷ 18 ∷ 1 ∷ 1 ∷ 0 ∷ 115 ∷ 5 ∷ 3 ∷ 19 ∷ 1 ∷ 1 ∷ 0 ∷ 114 ∷ 29 ∷ 3 ∷ 21 ∷ 1 ∷ 4 ∷ 2 ∷ 0 ∷ 18 ∷ 1 ∷ 1 ∷ 0 ∷ 115
      ∷ 20 ∷ 3 ∷ 1 ∷ 0 ∷ 2 ∷ [])
      (0 ∷ 0 ∷ 1 ∷ 0 ∷ 5 ∷ 3 ∷ 20 ∷ 3 ∷ 1 ∷ 0 ∷ 2 ∷ 32 ∷ 1 ∷ 1 ∷ 0 ∷ 22 ∷ 7 ∷ 1 ∷ 0 ∷ 0 ∷ 1 ∷ 0 ∷ 97 ∷ [])
  -- ---- classes and switch (request 1)

  -- `switch ({a, ...b} = c) { case ({d, ...e} = f): g; }`: the discriminant is at root, ["a"] inline; the test is not, t = ["d"]
  switch_scope : lowering highest_limit 0
      (program (only (switching 1 (assign (taking_rest (only (part (name a) (ref a) 2)) (ref b)) (ref c))
      (only (case_of (assign (taking_rest (only (part (name d) (ref d) 2)) (ref e)) (ref f)) (only (says 2 (ref g))))))))
      plenty
      ≡ lowered 8 0
      (1 ∷ 1 ∷ 1 ∷ 0 ∷ 43 ∷ 7 ∷ 1 ∷ 0 ∷ 28 ∷ 1 ∷ 4 ∷ 0 ∷ 27 ∷ 7 ∷ 1 ∷ 20 ∷ 3 ∷ 1 ∷ 0 ∷ 3 ∷ 18 ∷ 1 ∷ 1 ∷ 0 ∷ 99 ∷ 27 ∷ 7 ∷ 1 ∷ 34 ∷ 1
      ∷ 1 ∷ 0 ∷ 35 ∷ 7 ∷ 38 ∷ 1 ∷ 1 ∷ 0 ∷ 97 ∷ 18 ∷ 1 ∷ 1 ∷ 0 ∷ 97 ∷ 2 ∷ 20 ∷ 3 ∷ 1 ∷ 0 ∷ 3 ∷ 27 ∷ 7 ∷ 1 ∷ 18 ∷ 1 ∷ 1 ∷ 0 ∷ 98 ∷ 29
      ∷ 3 ∷ 21 ∷ 1 ∷ 4 ∷ 2 ∷ 0 ∷ 20 ∷ 3 ∷ 1 ∷ 0 ∷ 3 ∷ 32 ∷ 1 ∷ 1 ∷ 0 ∷ 22 ∷ 7 ∷ 1 ∷ 0 ∷ 0 ∷ 1 ∷ 0 ∷ 97 ∷ 20 ∷ 3 ∷ 1 ∷ 0 ∷ 3 ∷ 1 ∷ 0
      ∷ 44 ∷ 3 ∷ 28 ∷ 1 ∷ 4 ∷ 0 ∷ 27 ∷ 7 ∷ 1 ∷ 20 ∷ 3 ∷ 2 ∷ 0 ∷ 3 ∷ 18 ∷ 1 ∷ 1 ∷ 0 ∷ 102 ∷ 27 ∷ 7 ∷ 1 ∷ 34 ∷ 1 ∷ 1 ∷ 0 ∷ 35 ∷ 7 ∷ 38
      ∷ 1 ∷ 1 ∷ 0 ∷ 100 ∷ 18 ∷ 1 ∷ 1 ∷ 0 ∷ 100 ∷ 2 ∷ 20 ∷ 3 ∷ 2 ∷ 0 ∷ 3 ∷ 27 ∷ 7 ∷ 1 ∷ 18 ∷ 1 ∷ 1 ∷ 0 ∷ 101 ∷ 29 ∷ 3 ∷ 21 ∷ 1 ∷ 4 ∷ 2
      ∷ 0 ∷ 20 ∷ 3 ∷ 2 ∷ 0 ∷ 3 ∷ 20 ∷ 3 ∷ 3 ∷ 0 ∷ 2 ∷ 20 ∷ 3 ∷ 2 ∷ 0 ∷ 3 ∷ 1 ∷ 0 ∷ 3 ∷ 3 ∷ 2 ∷ 0 ∷ 18 ∷ 1 ∷ 1 ∷ 0 ∷ 103 ∷ [])
      (2 ∷ 0 ∷ 1 ∷ 0 ∷ 1 ∷ 0 ∷ 5 ∷ 1 ∷ 20 ∷ 3 ∷ 1 ∷ 0 ∷ 3 ∷ 1 ∷ 0 ∷ 1 ∷ 0 ∷ 5 ∷ 1 ∷ 20 ∷ 3 ∷ 2 ∷ 0 ∷ 3
      ∷ 1 ∷ 0 ∷ 5 ∷ 3 ∷ 20 ∷ 3 ∷ 3 ∷ 0 ∷ 2 ∷ 32 ∷ 1 ∷ 1 ∷ 0 ∷ 22 ∷ 7 ∷ 1 ∷ 0 ∷ 0 ∷ 1 ∷ 0 ∷ 100 ∷ [])
  -- `class extends ({a, ...b} = c) { }`: `super` is not at root, t = ["a"]
  class_scope : lowering highest_limit 0 (program (only (says 1 (extending (assign (taking_rest (only (part (name a) (ref a) 2)) (ref b)) (ref c)))))) plenty
      ≡ lowered 8 0
      (1 ∷ 1 ∷ 1 ∷ 0 ∷ 3 ∷ 3 ∷ 1 ∷ 0 ∷ 40 ∷ 6 ∷ 28 ∷ 1 ∷ 4 ∷ 0 ∷ 27 ∷ 7 ∷ 1 ∷ 20 ∷ 3 ∷ 1 ∷ 0 ∷ 3 ∷ 18 ∷ 1 ∷ 1 ∷ 0 ∷ 99 ∷ 27 ∷ 7 ∷ 1
      ∷ 34 ∷ 1 ∷ 1 ∷ 0 ∷ 35 ∷ 7 ∷ 38 ∷ 1 ∷ 1 ∷ 0 ∷ 97 ∷ 18 ∷ 1 ∷ 1 ∷ 0 ∷ 97 ∷ 2 ∷ 20 ∷ 3 ∷ 1 ∷ 0 ∷ 3 ∷ 27 ∷ 7 ∷ 1 ∷ 18 ∷ 1 ∷ 1 ∷ 0
      ∷ 98 ∷ 29 ∷ 3 ∷ 21 ∷ 1 ∷ 4 ∷ 2 ∷ 0 ∷ 20 ∷ 3 ∷ 1 ∷ 0 ∷ 3 ∷ 20 ∷ 3 ∷ 2 ∷ 0 ∷ 2 ∷ 20 ∷ 3 ∷ 1 ∷ 0 ∷ 3 ∷ 0 ∷ 0 ∷ [])
      (1 ∷ 0 ∷ 1 ∷ 0 ∷ 1 ∷ 0 ∷ 5 ∷ 1 ∷ 20 ∷ 3 ∷ 1 ∷ 0 ∷ 3 ∷ 1 ∷ 0 ∷ 5 ∷ 3 ∷ 20 ∷ 3 ∷ 2 ∷ 0 ∷ 2 ∷ 32 ∷ 1 ∷ 1 ∷ 0 ∷ 22 ∷ 7 ∷ 1 ∷ 0 ∷ 0 ∷ 1 ∷ 0 ∷ 97 ∷ [])
  -- `class { static { {...a} = b; } }`: before statement 2: t
  static_block_contains : lowering highest_limit 0 (program (only (says 1 (class_of (only (static_block (only (says 2 (assign (taking_rest none (ref a)) (ref b)))))))))) plenty
      ≡ lowered 6 0
      (1 ∷ 1 ∷ 1 ∷ 0 ∷ 3 ∷ 3 ∷ 1 ∷ 0 ∷ 40 ∷ 4 ∷ 1 ∷ 0 ∷ 42 ∷ 1 ∷ 1 ∷ 0 ∷ 3 ∷ 3 ∷ 2 ∷ 0 ∷ 28 ∷ 1 ∷ 3 ∷ 0 ∷ 27 ∷ 7 ∷ 1 ∷ 20 ∷ 3 ∷ 1 ∷ 0
      ∷ 3 ∷ 18 ∷ 1 ∷ 1 ∷ 0 ∷ 98 ∷ 27 ∷ 7 ∷ 1 ∷ 34 ∷ 1 ∷ 0 ∷ 0 ∷ 20 ∷ 3 ∷ 1 ∷ 0 ∷ 3 ∷ 27 ∷ 7 ∷ 1 ∷ 18 ∷ 1 ∷ 1 ∷ 0 ∷ 97 ∷ 29 ∷ 3 ∷ 21
      ∷ 1 ∷ 2 ∷ 2 ∷ 0 ∷ 24 ∷ 1 ∷ 0 ∷ 0 ∷ 28 ∷ 1 ∷ 2 ∷ 0 ∷ 29 ∷ 3 ∷ 21 ∷ 1 ∷ 3 ∷ 1 ∷ 0 ∷ 20 ∷ 3 ∷ 1 ∷ 0 ∷ 3 ∷ 20 ∷ 3 ∷ 1 ∷ 0 ∷ 3 ∷ [])
      (1 ∷ 0 ∷ 2 ∷ 0 ∷ 1 ∷ 0 ∷ 5 ∷ 1 ∷ 20 ∷ 3 ∷ 1 ∷ 0 ∷ 3 ∷ 0 ∷ 0 ∷ [])
  -- `switch (x) { case s: {...a} = b; }`: before statement 2: t
  case_contains : lowering highest_limit 0 (program (only (switching 1 (ref x) (only (case_of (ref s) (only (says 2 (assign (taking_rest none (ref a)) (ref b))))))))) plenty
      ≡ lowered 6 0
      (1 ∷ 1 ∷ 1 ∷ 0 ∷ 43 ∷ 7 ∷ 1 ∷ 0 ∷ 18 ∷ 1 ∷ 1 ∷ 0 ∷ 120 ∷ 1 ∷ 0 ∷ 44 ∷ 3 ∷ 18 ∷ 1 ∷ 1 ∷ 0 ∷ 115 ∷ 1 ∷ 0 ∷ 3 ∷ 3 ∷ 2 ∷ 0 ∷ 28 ∷ 1
      ∷ 3 ∷ 0 ∷ 27 ∷ 7 ∷ 1 ∷ 20 ∷ 3 ∷ 1 ∷ 0 ∷ 3 ∷ 18 ∷ 1 ∷ 1 ∷ 0 ∷ 98 ∷ 27 ∷ 7 ∷ 1 ∷ 34 ∷ 1 ∷ 0 ∷ 0 ∷ 20 ∷ 3 ∷ 1 ∷ 0 ∷ 3 ∷ 27 ∷ 7 ∷ 1
      ∷ 18 ∷ 1 ∷ 1 ∷ 0 ∷ 97 ∷ 29 ∷ 3 ∷ 21 ∷ 1 ∷ 2 ∷ 2 ∷ 0 ∷ 24 ∷ 1 ∷ 0 ∷ 0 ∷ 28 ∷ 1 ∷ 2 ∷ 0 ∷ 29 ∷ 3 ∷ 21 ∷ 1 ∷ 3 ∷ 1 ∷ 0 ∷ 20 ∷ 3
      ∷ 1 ∷ 0 ∷ 3 ∷ 20 ∷ 3 ∷ 1 ∷ 0 ∷ 3 ∷ [])
      (1 ∷ 0 ∷ 2 ∷ 0 ∷ 1 ∷ 0 ∷ 5 ∷ 1 ∷ 20 ∷ 3 ∷ 1 ∷ 0 ∷ 3 ∷ 0 ∷ 0 ∷ [])
  -- `class { x({a, ...r}) { } }`: x(t) { let {a} = t, r = W(t, u); }, with u = ["a"]
  method_parameter : lowering highest_limit 0 (program (only (says 1 (class_of (only (method 2 (name x) (only (param (taking_rest (only (part (name a) (bind a) 2)) (bind r)))) none)))))) plenty
      ≡ lowered 8 0
      (1 ∷ 1 ∷ 1 ∷ 0 ∷ 3 ∷ 3 ∷ 1 ∷ 0 ∷ 40 ∷ 4 ∷ 1 ∷ 0 ∷ 41 ∷ 7 ∷ 38 ∷ 1 ∷ 1 ∷ 0 ∷ 120 ∷ 14 ∷ 43 ∷ 2 ∷ 0 ∷ 2 ∷ 1 ∷ 0 ∷ 15 ∷ 1 ∷ 20 ∷ 3
      ∷ 1 ∷ 0 ∷ 1 ∷ 16 ∷ 2 ∷ 1 ∷ 0 ∷ 4 ∷ 7 ∷ 3 ∷ 0 ∷ 2 ∷ 2 ∷ 0 ∷ 5 ∷ 3 ∷ 34 ∷ 1 ∷ 1 ∷ 0 ∷ 35 ∷ 7 ∷ 38 ∷ 1 ∷ 1 ∷ 0 ∷ 97 ∷ 19 ∷ 1 ∷ 1
      ∷ 0 ∷ 97 ∷ 2 ∷ 20 ∷ 3 ∷ 1 ∷ 0 ∷ 1 ∷ 5 ∷ 3 ∷ 19 ∷ 1 ∷ 1 ∷ 0 ∷ 114 ∷ 29 ∷ 3 ∷ 21 ∷ 1 ∷ 4 ∷ 2 ∷ 0 ∷ 20 ∷ 3 ∷ 1 ∷ 0 ∷ 1 ∷ 20 ∷ 3
      ∷ 2 ∷ 0 ∷ 2 ∷ 4 ∷ [])
      (0 ∷ 0 ∷ 1 ∷ 0 ∷ 5 ∷ 3 ∷ 20 ∷ 3 ∷ 2 ∷ 0 ∷ 2 ∷ 32 ∷ 1 ∷ 1 ∷ 0 ∷ 22 ∷ 7 ∷ 1 ∷ 0 ∷ 0 ∷ 1 ∷ 0 ∷ 97 ∷ [])
  -- ---- the stem of a temporary (request 4): 3 in `rest_only`, 2 in `hoisted_keys`

  -- `let [{...a}] = s`: [t] = s, a = X({}, (E(t), t)); t stands in place of a pattern
  stem_of_a_pattern : Becomes
      (declaring 1 2 (only (declares (items (only (taking_rest none (bind a)))) (ref s)))) 6
      (1 ∷ 1 ∷ 1 ∷ 0 ∷ 4 ∷ 7 ∷ 1 ∷ 0 ∷ 2 ∷ 2 ∷ 0 ∷ 5 ∷ 3 ∷ 36 ∷ 1 ∷ 1 ∷ 0 ∷ 20 ∷ 3 ∷ 1 ∷ 0 ∷ 1 ∷ 18 ∷ 1 ∷ 1 ∷ 0 ∷ 115 ∷ 5 ∷ 3 ∷ 19
      ∷ 1 ∷ 1 ∷ 0 ∷ 97 ∷ 29 ∷ 3 ∷ 21 ∷ 1 ∷ 2 ∷ 2 ∷ 0 ∷ 24 ∷ 1 ∷ 0 ∷ 0 ∷ 28 ∷ 1 ∷ 2 ∷ 0 ∷ 29 ∷ 3 ∷ 21 ∷ 1 ∷ 3 ∷ 1 ∷ 0 ∷ 20 ∷ 3 ∷ 1 ∷ 0
      ∷ 1 ∷ 20 ∷ 3 ∷ 1 ∷ 0 ∷ 1 ∷ [])
  -- `let {[f()]: a, ...r} = s`: t = f(), {[t]: a} = s, r = W(s, [t].map(K)); t is a key
  stem_of_a_key : Becomes
      (declaring 1 2 (only (declares (taking_rest (only (part (call (ref f) none) (bind a) 1)) (bind r)) (ref s)))) 24
      (1 ∷ 1 ∷ 1 ∷ 0 ∷ 4 ∷ 7 ∷ 1 ∷ 0 ∷ 2 ∷ 3 ∷ 0 ∷ 5 ∷ 3 ∷ 20 ∷ 3 ∷ 1 ∷ 0 ∷ 4 ∷ 29 ∷ 3 ∷ 18 ∷ 1 ∷ 1 ∷ 0 ∷ 102 ∷ 0 ∷ 0 ∷ 5 ∷ 3 ∷ 34
      ∷ 1 ∷ 1 ∷ 0 ∷ 35 ∷ 7 ∷ 20 ∷ 3 ∷ 1 ∷ 0 ∷ 4 ∷ 19 ∷ 1 ∷ 1 ∷ 0 ∷ 97 ∷ 1 ∷ 18 ∷ 1 ∷ 1 ∷ 0 ∷ 115 ∷ 5 ∷ 3 ∷ 19 ∷ 1 ∷ 1 ∷ 0 ∷ 114 ∷ 29
      ∷ 3 ∷ 21 ∷ 1 ∷ 4 ∷ 2 ∷ 0 ∷ 18 ∷ 1 ∷ 1 ∷ 0 ∷ 115 ∷ 29 ∷ 3 ∷ 30 ∷ 3 ∷ 32 ∷ 1 ∷ 1 ∷ 0 ∷ 20 ∷ 3 ∷ 1 ∷ 0 ∷ 4 ∷ 3 ∷ 0 ∷ 109 ∷ 97
      ∷ 112 ∷ 1 ∷ 0 ∷ 21 ∷ 1 ∷ 5 ∷ [])
  -- `{ ({a, ...r} = s); }`: (t = s, {a} = t, r = W(t, u)); before statement 2: t, and u = ["a"]
  stems_in_the_list : lowering highest_limit 0 (program (only (block_of 1 (only (says 2 (parens (assign (taking_rest (only (part (name a) (ref a) 2)) (ref r)) (ref s)))))))) plenty
      ≡ lowered 8 0
      (1 ∷ 1 ∷ 1 ∷ 0 ∷ 2 ∷ 3 ∷ 1 ∷ 0 ∷ 1 ∷ 0 ∷ 3 ∷ 3 ∷ 2 ∷ 0 ∷ 31 ∷ 1 ∷ 28 ∷ 1 ∷ 3 ∷ 0 ∷ 27 ∷ 7 ∷ 1 ∷ 20 ∷ 3 ∷ 1 ∷ 0 ∷ 3 ∷ 18 ∷ 1 ∷ 1
      ∷ 0 ∷ 115 ∷ 27 ∷ 7 ∷ 1 ∷ 34 ∷ 1 ∷ 1 ∷ 0 ∷ 35 ∷ 7 ∷ 38 ∷ 1 ∷ 1 ∷ 0 ∷ 97 ∷ 18 ∷ 1 ∷ 1 ∷ 0 ∷ 97 ∷ 2 ∷ 20 ∷ 3 ∷ 1 ∷ 0 ∷ 3 ∷ 27 ∷ 7
      ∷ 1 ∷ 18 ∷ 1 ∷ 1 ∷ 0 ∷ 114 ∷ 29 ∷ 3 ∷ 21 ∷ 1 ∷ 4 ∷ 2 ∷ 0 ∷ 20 ∷ 3 ∷ 1 ∷ 0 ∷ 3 ∷ 20 ∷ 3 ∷ 2 ∷ 0 ∷ 2 ∷ [])
      (1 ∷ 0 ∷ 2 ∷ 0 ∷ 1 ∷ 0 ∷ 5 ∷ 1 ∷ 20 ∷ 3 ∷ 1 ∷ 0 ∷ 3 ∷ 1 ∷ 0 ∷ 5 ∷ 3 ∷ 20 ∷ 3 ∷ 2 ∷ 0 ∷ 2 ∷ 32 ∷ 1 ∷ 1 ∷ 0 ∷ 22 ∷ 7 ∷ 1 ∷ 0 ∷ 0 ∷ 1 ∷ 0 ∷ 97 ∷ [])
  -- ---- marks of a result need not be distinct

  -- `` let {[`a`[function() { }]]: b, ...c} = d ``: {[`a`[function() { }]]: b} = d, c = W(d, [`a`[function() { }]])
  template_copied : Becomes
      (declaring 1 2 (only (declares (taking_rest (only (part templated (bind b) 1)) (bind c)) (ref d)))) 8
      (1 ∷ 1 ∷ 1 ∷ 0 ∷ 4 ∷ 7 ∷ 1 ∷ 0 ∷ 2 ∷ 2 ∷ 0 ∷ 5 ∷ 3 ∷ 34 ∷ 1 ∷ 1 ∷ 0 ∷ 35 ∷ 7 ∷ 23 ∷ 3 ∷ 1 ∷ 0 ∷ 22 ∷ 7 ∷ 1 ∷ 1 ∷ 0 ∷ 97 ∷ 1 ∷ 0
      ∷ 97 ∷ 1 ∷ 0 ∷ 14 ∷ 43 ∷ 2 ∷ 0 ∷ 2 ∷ 0 ∷ 0 ∷ 16 ∷ 2 ∷ 0 ∷ 0 ∷ 19 ∷ 1 ∷ 1 ∷ 0 ∷ 98 ∷ 1 ∷ 18 ∷ 1 ∷ 1 ∷ 0 ∷ 100 ∷ 5 ∷ 3 ∷ 19 ∷ 1
      ∷ 1 ∷ 0 ∷ 99 ∷ 29 ∷ 3 ∷ 21 ∷ 1 ∷ 4 ∷ 2 ∷ 0 ∷ 18 ∷ 1 ∷ 1 ∷ 0 ∷ 100 ∷ 32 ∷ 1 ∷ 1 ∷ 0 ∷ 23 ∷ 3 ∷ 1 ∷ 0 ∷ 22 ∷ 7 ∷ 1 ∷ 1 ∷ 0 ∷ 97
      ∷ 1 ∷ 0 ∷ 97 ∷ 1 ∷ 0 ∷ 14 ∷ 43 ∷ 2 ∷ 0 ∷ 2 ∷ 0 ∷ 0 ∷ 16 ∷ 2 ∷ 0 ∷ 0 ∷ [])
  -- the function's mark stands in it twice
  mark_twice : marks (declaring 1 2 (all (declares (taking (only (part templated (bind b) 1))) (ref d) ∷ declares (bind c) (W (ref d) (array (only templated))) ∷ [])))
      ≡ 1 ∷ 2 ∷ 2 ∷ []

pub examples : Examples
unfolding
    Rattle.tree.specs.Tree.map_of Rattle.tree.specs.Tree.count Rattle.tree.specs.Tree.encode Rattle.tree.specs.Tree.placed
    Rattle.tree.specs.Tree.depth Rattle.tree.specs.Tree.marks Rattle.tree.specs.Grammar.places Rattle.tree.specs.Grammar.kind_of
    Rattle.tree.specs.Grammar.among Rattle.tree.specs.Grammar.also Rattle.tree.specs.Grammar.allowed Rattle.tree.specs.Grammar.form_in
    Rattle.tree.specs.Grammar.form_at Rattle.tree.specs.Grammar.kinds Rattle.tree.specs.Grammar.variants
    Rattle.tree.specs.Grammar.fields_of Rattle.tree.specs.Grammar.map_ok Rattle.tree.specs.Read.byte_at Rattle.tree.specs.Read.wide_at
    Rattle.tree.specs.Read.read_text Rattle.tree.specs.Read.read_byte Rattle.tree.specs.Read.read_mark Rattle.tree.specs.Read.read_number
    Rattle.tree.specs.Read.chosen_place Rattle.tree.specs.Read.read_item Rattle.tree.specs.Read.read_items
    Rattle.tree.specs.Read.read_list Rattle.tree.specs.Read.read_field Rattle.tree.specs.Read.read_slot Rattle.tree.specs.Read.read_fields
    Rattle.tree.specs.Read.read_node Rattle.tree.specs.Read.read_tree Rattle.lowering.specs.Parts.is
    Rattle.lowering.specs.Parts.piece_in Rattle.lowering.specs.Parts.stands_in
    Rattle.lowering.specs.Parts.change_in Rattle.lowering.specs.Parts.drop_in
    Rattle.lowering.specs.Parts.node_at_of Rattle.lowering.specs.Parts.items_at_of
    Rattle.lowering.specs.Parts.text_at_of Rattle.lowering.specs.Parts.number_at
    Rattle.lowering.specs.Parts.stands Rattle.lowering.specs.Parts.change
    Rattle.lowering.specs.Parts.on_node Rattle.lowering.specs.Parts.on_items
    Rattle.lowering.specs.Parts.without Rattle.lowering.specs.Parts.◌+++◌ Rattle.lowering.specs.Parts.each
    Rattle.lowering.specs.Parts.gather Rattle.lowering.specs.Parts.any
    Rattle.lowering.specs.Parts.or_else Rattle.lowering.specs.Parts.first Rattle.lowering.specs.Parts.is_empty
    Rattle.lowering.specs.Patterns.shape Rattle.lowering.specs.Patterns.has_nested_object_rest
    Rattle.lowering.specs.Patterns.has_nested_array_rest Rattle.lowering.specs.Patterns.replaced
    Rattle.lowering.specs.Patterns.objects_with_rest
    Rattle.lowering.specs.Numbers.digit_of Rattle.lowering.specs.Numbers.are_digits Rattle.lowering.specs.Numbers.value_from Rattle.lowering.specs.Numbers.spelling_of_one Rattle.lowering.specs.Numbers.spelling_behind_zero Rattle.lowering.specs.Numbers.spelling_of Rattle.lowering.specs.Numbers.digits_up_to Rattle.lowering.specs.Numbers.digits_of Rattle.lowering.specs.Numbers.string_of Rattle.lowering.specs.Numbers.number_string
    Rattle.lowering.specs.Keys.key_sort
    Rattle.lowering.specs.Keys.is_primitive Rattle.lowering.specs.Keys.promised
    Rattle.lowering.specs.Keys.literal_text Rattle.lowering.specs.Keys.literal_refusal
    Rattle.lowering.specs.Keys.key_refusal
    Rattle.lowering.specs.Keys.key_text Rattle.lowering.specs.Keys.excluded_key Rattle.lowering.specs.Keys.kept_key
    Rattle.lowering.specs.Keys.key_temporary Rattle.lowering.specs.Keys.all_primitive
    Rattle.lowering.specs.Keys.keys_refusal Rattle.lowering.specs.Keys.excluded_keys
    Rattle.lowering.specs.Keys.key_temporaries Rattle.lowering.specs.Keys.taken
    Rattle.lowering.specs.Rests.mapped Rattle.lowering.specs.Rests.is_hoisted
    Rattle.lowering.specs.Rests.keys_read Rattle.lowering.specs.Rests.rest_value
    Rattle.lowering.specs.Rests.excluded_for Rattle.lowering.specs.Rests.rest_makes
    Rattle.lowering.specs.Literals.opened Rattle.lowering.specs.Literals.closed
    Rattle.lowering.specs.Literals.scan Rattle.lowering.specs.Literals.literal
    Rattle.lowering.specs.Declarations.is_name_of Rattle.lowering.specs.Declarations.source
    Rattle.lowering.specs.Declarations.source_declarator Rattle.lowering.specs.Declarations.keys_before
    Rattle.lowering.specs.Declarations.pattern_declarator Rattle.lowering.specs.Declarations.rest_declarator
    Rattle.lowering.specs.Declarations.own Rattle.lowering.specs.Declarations.nested
    Rattle.lowering.specs.Declarations.object_declarators Rattle.lowering.specs.Declarations.pattern_declarators
    Rattle.lowering.specs.Declarations.lower_declarator Rattle.lowering.specs.Declarations.inner_objects
    Rattle.lowering.specs.Declarations.declarator_makes Rattle.lowering.specs.Declarations.is_lowered
    Rattle.lowering.specs.Declarations.declarators Rattle.lowering.specs.Declarations.lowered_in
    Rattle.lowering.specs.Declarations.declaration Rattle.lowering.specs.Declarations.declaration_makes
    Rattle.lowering.specs.Declarations.declaration_excludes Rattle.lowering.specs.Declarations.declaration_refusal
    Rattle.lowering.specs.Assignments.is_top Rattle.lowering.specs.Assignments.nearest
    Rattle.lowering.specs.Assignments.top_refusal Rattle.lowering.specs.Assignments.parts_replaced
    Rattle.lowering.specs.Assignments.top_sequence Rattle.lowering.specs.Assignments.top_entry
    Rattle.lowering.specs.Assignments.top_excludes Rattle.lowering.specs.Assignments.top_makes
    Rattle.lowering.specs.Assignments.nested_sequence Rattle.lowering.specs.Assignments.nested_entry
    Rattle.lowering.specs.Assignments.nested_makes Rattle.lowering.specs.Heads.moved
    Rattle.lowering.specs.Heads.moved_pattern Rattle.lowering.specs.Heads.is_moved
    Rattle.lowering.specs.Heads.moved_from Rattle.lowering.specs.Heads.moved_out_of
    Rattle.lowering.specs.Heads.left_behind Rattle.lowering.specs.Heads.in_front
    Rattle.lowering.specs.Heads.in_body Rattle.lowering.specs.Heads.as_function_body
    Rattle.lowering.specs.Heads.as_block Rattle.lowering.specs.Heads.function
    Rattle.lowering.specs.Heads.function_makes Rattle.lowering.specs.Heads.arrow
    Rattle.lowering.specs.Heads.arrow_makes Rattle.lowering.specs.Heads.catch
    Rattle.lowering.specs.Heads.catch_makes Rattle.lowering.specs.Heads.declaring_head
    Rattle.lowering.specs.Heads.declaring_makes Rattle.lowering.specs.Heads.assigning_head
    Rattle.lowering.specs.Heads.assigning_makes Rattle.lowering.specs.Walk.step_declaration
    Rattle.lowering.specs.Walk.step_top Rattle.lowering.specs.Walk.step_assignment
    Rattle.lowering.specs.Walk.step_for Rattle.lowering.specs.Walk.rule_of Rattle.lowering.specs.Walk.rewrite
    Rattle.lowering.specs.Walk.opens_scope Rattle.lowering.specs.Walk.within
    Rattle.lowering.specs.Walk.each_item_of Rattle.lowering.specs.Walk.each_piece
    Rattle.lowering.specs.Walk.each_field Rattle.lowering.specs.Walk.inside Rattle.lowering.specs.Walk.walk
    Rattle.lowering.specs.Weight.is_head Rattle.lowering.specs.Weight.extra
    Rattle.lowering.specs.Weight.factor Rattle.lowering.specs.Weight.walked
    Rattle.lowering.specs.Weight.weight Rattle.lowering.specs.Collect.over
    Rattle.lowering.specs.Collect.is_container Rattle.lowering.specs.Collect.mark_in
    Rattle.lowering.specs.Collect.first_refusal Rattle.lowering.specs.Collect.entry_at
    Rattle.lowering.specs.Collect.entries Rattle.lowering.specs.Collect.excluded_in
    Rattle.lowering.specs.Collect.made_in_of Rattle.lowering.specs.Collect.list_nodes
    Rattle.lowering.specs.Collect.uses Rattle.lowering.specs.Collect.mask_from
    Rattle.lowering.specs.Collect.helper_mask Rattle.lowering.specs.Collect.name_of
    Rattle.lowering.specs.Parts.same_numbers Rattle.lowering.specs.Collect.same
    Rattle.lowering.specs.Collect.name_at Rattle.lowering.specs.Collect.except
    Rattle.lowering.specs.Collect.distinct Rattle.lowering.specs.Collect.number_in
    Rattle.lowering.specs.Collect.names_of Rattle.lowering.specs.Collect.with_number
    Rattle.lowering.specs.Collect.declarator_bytes Rattle.lowering.specs.Collect.entry_bytes
    Rattle.lowering.specs.Collect.list_bytes Rattle.lowering.specs.Collect.new_in
    Rattle.lowering.specs.Collect.bare Rattle.lowering.specs.Collect.visits
    Rattle.lowering.specs.Collect.nodes Rattle.lowering.specs.Collect.numbered
    Rattle.lowering.specs.Answer.fits Rattle.lowering.specs.Answer.fitted
    Rattle.lowering.specs.Answer.collected Rattle.lowering.specs.Answer.after_walk
    Rattle.lowering.specs.Answer.after_reading Rattle.lowering.specs.Answer.lowering
    Rattle.lowering.specs.Answer.filled Rattle.lowering.specs.Answer.outcome_of
    Rattle.lowering.specs.Answer.outcome Rattle.lowering.specs.Answer.in_force
examples = record { table = record { empty_literal = refl; plain_literal = refl; two_spreads = refl; spread_last = refl; spread_first = refl; spread_around = refl; rest = refl; rest_only = refl }; parts = record { coach_script = refl; parts_keys_later = refl; parts_before_keys = refl; array_beside_part = refl; outermost_through_arrays = refl; five_before_six = refl }; number_keys = record { of_digits = refl; of_hexadecimal = refl; of_zeros = refl; at_bound = refl; at_bound_in_16 = refl; above_bound_lem = refl; above_bound_in_16 = refl; above_with_form = refl; capital_x = refl; leading_zero = refl; no_digit = refl; no_spelling = refl; bigint = refl; same_form = refl; differing_form = refl; six_first = refl; eleven_first = refl; inner_first = refl; outer_first = refl }; the_listing = refl; retired_option = refl; all_options = refl; one_options = refl; one_retired = refl; two_work = refl; three_empty = refl; four_deep = refl; not_so_deep = refl; five_array_rest = refl; six_no_form = refl; seven_short = refl; just_fits = refl; deeper = refl; deepest = refl; too_deep_lem = refl; nine_zero = refl; nine_above = refl; nine_first = refl; one_next = refl; one_level = refl; one_level_deep = refl; one_level_no_tree = refl; tree_slice_lem = refl; list_slice_lem = refl; refused_slice = refl; array_rest_stays = refl; nested_rest = refl; hoisted_keys = refl; switch_scope = refl; class_scope = refl; static_block_contains = refl; case_contains = refl; method_parameter = refl; stem_of_a_pattern = refl; stem_of_a_key = refl; stems_in_the_list = refl; template_copied = refl; mark_twice = refl }
