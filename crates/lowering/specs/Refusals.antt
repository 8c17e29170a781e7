-- The refusals by their numbers: document 01's table ('What the lowering hands back'), request 5's line in front of it and request 8's in it.
use Rattle.std.specs.Prelude.{ℕ, Bool, List, [], ◌∷◌}
use Rattle.tree.specs.Grammar.{among}
use Rattle.tree.specs.Read.{number_of}
use Rattle.tree.specs.Read.Refusal.{not_a_tree, too_deep}

-- 9: 'a limit of 0 or above 128'
abbrev pub limit_outside : ℕ
limit_outside = 9

-- 1: 'options above 15'
abbrev pub unknown_options : ℕ
unknown_options = 1

-- 2: 'work below 65,536 bytes'
abbrev pub small_work : ℕ
small_work = 2

-- 3: 'tree over 16,384 bytes, or not a tree below'. The reader's, as 4 is
abbrev pub no_tree : ℕ
no_tree = number_of not_a_tree

-- 4: 'a node at depth 65 (Program is depth 1)', where the limit is 64; from request 5 on 'the first node deeper than the limit in force'
abbrev pub deeper_tree : ℕ
deeper_tree = number_of too_deep

-- 5: 'a walked assignment or for head whose target has an array rest with an object rest below it'
abbrev pub rest_below_array_rest : ℕ
rest_below_array_rest = 5

-- 6: 'an excluded key is a Literal whose form field is absent', and no string is promised for it (request 8)
abbrev pub key_without_form : ℕ
key_without_form = 6

-- 11: 'an excluded key's form that differs from the promised string', met like 6, key by key
abbrev pub other_form : ℕ
other_form = 11

-- 7: 'result tree over 32,768 bytes, list over 16,384, or either longer than its slice'
abbrev pub too_long_of : ℕ
too_long_of = 7

-- all of them, in the order in which they are asked
abbrev pub refusals : List ℕ
refusals = limit_outside ∷ unknown_options ∷ small_work ∷ no_tree ∷ deeper_tree ∷ rest_below_array_rest ∷ key_without_form ∷ other_form ∷ too_long_of ∷ []

-- the number is that of a refusal
abbrev pub is_refusal : ℕ → Bool
is_refusal n = among refusals n

-- the number can be answered: 0 is for a lowering
abbrev pub is_answer : ℕ → Bool
is_answer n = among (0 ∷ refusals) n
