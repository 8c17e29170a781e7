-- Patterns: of the items of a literal, which are spread (true) and which ordinary (false).
use Rattle.std.specs.Prelude.{ℕ, zero, suc, ◌+◌, Bool, true, false, ◌&&◌, List, [], ◌∷◌, ◌++◌, eqb}
use Rattle.tree.specs.Tree.{Node, Items}
use Rattle.tree.specs.Tree.Items.{none, hole, item}
use Rattle.lowering.specs.Parts.{is, items_at_of}

abbrev pub Pattern : Type 0
Pattern = List Bool

-- ---- all patterns of a length

-- each with one more choice before it
unfoldable pub before : Bool → List Pattern → List Pattern
before b [] = []
before b (p ∷ ps) = (b ∷ p) ∷ before b ps

unfoldable pub patterns : ℕ → List Pattern
patterns zero = [] ∷ []
patterns (suc n) = before false (patterns n) ++ before true (patterns n)

-- ---- counting

abbrev pub number : Bool → ℕ
number true = 1
number false = 0

-- of how many patterns of a list the test holds
unfoldable pub count : (Pattern → Bool) → List Pattern → ℕ
count f [] = 0
count f (p ∷ ps) = number (f p) + count f ps

-- for how many patterns of length n the number f is c
abbrev pub having : (Pattern → ℕ) → ℕ → ℕ → ℕ
having f n c = count (λ p. eqb (f p) c) (patterns n)

-- how many items of a pattern are spread
unfoldable pub spreads : Pattern → ℕ
spreads [] = 0
spreads (true ∷ p) = suc (spreads p)
spreads (false ∷ p) = spreads p

-- ---- whether two patterns are one

abbrev pub alike : Bool → Bool → Bool
alike true true = true
alike true false = false
alike false true = false
alike false false = true

unfoldable pub same : Pattern → Pattern → Bool
same [] [] = true
same [] (b ∷ q) = false
same (a ∷ p) [] = false
same (a ∷ p) (b ∷ q) = alike a b && same p q

-- ---- the pattern of a literal: which of its properties are 26 Spread

-- a hole is none of them, and the rule passes over it; no Object of an accepted tree has one
unfoldable pub pattern_of : Items → Pattern
pattern_of none = []
pattern_of (hole ps) = pattern_of ps
pattern_of (item p ps) = is 26 p ∷ pattern_of ps

-- 24 Object(properties*)
unfoldable pub pattern : Node → Pattern
pattern n = pattern_of (items_at_of 0 n)
