-- By computation: the six literals of request 14, rows 0 to 5 counted pattern by pattern, and the largest figures.
use Rattle.std.specs.Prelude.{ℕ, zero, suc, ◌≡◌, refl, true, false, List, [], ◌∷◌}
use Rattle.tree.specs.Tree.{Node, Items}
use Rattle.tree.specs.Tree.Items.{none, item}
use Rattle.lowering.specs.Parts.{is, node_at_of, number_at, items_at_of, piece_in, any, only, ◌+++◌}
use Rattle.lowering.specs.Made.{S, object}
use Rattle.lowering.specs.Literals.{literal, scan, closed, opened}
use Rattle.counting.specs.Patterns.{Pattern, patterns, before, count, having, pattern, pattern_of}
use Rattle.counting.specs.Calls.{calls_s, nested, reference, spread, ordinary, properties, calls}
use Rattle.counting.specs.Figures.{choose, figure, answer_of, number_of}

abbrev a : ℕ
a = 97

abbrev b : ℕ
b = 98

abbrev all : List Node → Items
all [] = none
all (n ∷ ns) = item n (all ns)

-- f 0, .., f (n - 1)
unfoldable listed : (ℕ → ℕ) → ℕ → List ℕ
listed f zero = []
listed f (suc n) = f 0 ∷ listed (λ c. f (suc c)) n

-- the literal of these properties has this pattern, becomes this, and so many calls are nested in that
abbrev Gives : List Node → Pattern → Node → ℕ → Type 0
Gives ps p made c = (pattern (object (all ps)) ≡ p) × (literal (object (all ps)) ≡ made) × (nested (literal (object (all ps))) ≡ c)

-- of all patterns of length n so many give 0, 1, .., n + 1 calls, and these are the figures
abbrev Row : ℕ → List ℕ → Type 0
Row n cs = (listed (having calls n) (suc (suc n)) ≡ cs) × (listed (figure n) (suc (suc n)) ≡ cs)

pub record Examples : Type 0 where
  -- ---- the six literals

  -- `{}`
  empty : Gives [] [] (object none) 0
  -- `{x: 1}`
  plain : Gives (ordinary ∷ []) (false ∷ []) (object (only ordinary)) 0
  -- `{...a}`: S({}, a)
  spread_alone : Gives (spread a ∷ []) (true ∷ []) (S (all (object none ∷ reference a ∷ []))) 1
  -- `{...a, x: 1}`: S(S({}, a), {}, {x: 1})
  spread_first : Gives
      (spread a ∷ ordinary ∷ []) (true ∷ false ∷ [])
      (S (all (S (all (object none ∷ reference a ∷ [])) ∷ object none ∷ object (only ordinary) ∷ []))) 2
  -- `{x: 1, ...a}`: S({x: 1}, a)
  spread_last : Gives (ordinary ∷ spread a ∷ []) (false ∷ true ∷ []) (S (all (object (only ordinary) ∷ reference a ∷ []))) 1
  -- `{...a, x: 1, ...b}`: S(S({}, a), {}, {x: 1}, b)
  spread_around : Gives
      (spread a ∷ ordinary ∷ spread b ∷ []) (true ∷ false ∷ true ∷ [])
      (S (all (S (all (object none ∷ reference a ∷ [])) ∷ object none ∷ object (only ordinary) ∷ reference b ∷ []))) 2
  -- ---- rows

  row_0 : Row 0 (1 ∷ 0 ∷ [])
  row_1 : Row 1 (1 ∷ 1 ∷ 0 ∷ [])
  row_2 : Row 2 (1 ∷ 1 ∷ 2 ∷ 0 ∷ [])
  row_3 : Row 3 (1 ∷ 1 ∷ 4 ∷ 2 ∷ 0 ∷ [])
  row_4 : Row 4 (1 ∷ 1 ∷ 6 ∷ 6 ∷ 2 ∷ 0 ∷ [])
  row_5 : Row 5 (1 ∷ 1 ∷ 8 ∷ 12 ∷ 8 ∷ 2 ∷ 0 ∷ [])
  -- ---- the largest figures, and the first length that is refused

  largest : figure 32 16 ≡ 601080390
  largest_too : figure 32 17 ≡ 601080390
  last_answered : (answer_of 32 ≡ 0) × (number_of 32 16 ≡ 601080390)
  first_refused_lem : (answer_of 33 ≡ 14) × (number_of 33 16 ≡ 0)

pub examples : Examples
unfolding
    is node_at_of number_at items_at_of piece_in any ◌+++◌ literal scan closed opened patterns before count pattern pattern_of calls_s nested
    properties calls choose figure number_of listed
examples =
    record {
      empty = (refl, refl, refl);
      plain = (refl, refl, refl);
      spread_alone = (refl, refl, refl);
      spread_first = (refl, refl, refl);
      spread_last = (refl, refl, refl);
      spread_around = (refl, refl, refl);
      row_0 = (refl, refl);
      row_1 = (refl, refl);
      row_2 = (refl, refl);
      row_3 = (refl, refl);
      row_4 = (refl, refl);
      row_5 = (refl, refl);
      largest = refl;
      largest_too = refl;
      last_answered = (refl, refl);
      first_refused_lem = (refl, refl);
    }
