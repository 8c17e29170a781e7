-- What a call hands back: the answer, and every byte that was lent (document 01, 'What the lowering hands back').
use Rattle.std.specs.Prelude.{ℕ, zero, suc, ◌-◌, ◌%◌, min, Bool, true, false, cond, not, ◌||◌, List, [], ◌++◌, eqb, ltb, length, replicate}
use Rattle.tree.specs.Tree.{Node, Items, encode}
use Rattle.tree.specs.Grammar.Stage.{input}
use Rattle.tree.specs.Read.{Got, number_of, read_tree}
use Rattle.tree.specs.Read.Got.{got, refused}
use Rattle.lowering.specs.Made.{Context}
use Rattle.lowering.specs.Walk.{Walked}
use Rattle.lowering.specs.Weight.{walked}
use Rattle.lowering.specs.Collect.{Entry, bare, visits, first_refusal, entries, excluded_in, helper_mask, names_of, numbered, list_bytes}
use Rattle.lowering.specs.Refusals.{limit_outside, unknown_options, small_work, too_long_of}

-- the slices that are lent, by their lengths
pub record Lent : Type 0 where
  pub tree_slice : ℕ
  pub list_slice : ℕ
  pub work_slice : ℕ

-- a refusal by its number, or a lowering
pub data Result : Type 0 where
  refusal : ℕ → Result
  lowered : ℕ → ℕ → List ℕ → List ℕ → Result  -- helper mask, options mask, tree, list

-- ---- from the walked tree to the result

-- tree and list fit their limits and their slices
unfoldable pub fits : Lent → List ℕ → List ℕ → Bool
fits s t l = not (ltb (min 32768 s.tree_slice) (length t) || ltb (min 16384 s.list_slice) (length l))

-- the result, if it fits
unfoldable pub fitted : Lent → ℕ → ℕ → List ℕ → List ℕ → Result
fitted s helpers options t l = cond (fits s t l) (lowered helpers options t l) (refusal too_long_of)

-- the tree n with its marks, and what the walk handed out: numbers are given, and all is written
unfoldable pub collected : ℕ → Lent → Node → List Entry → Items → Result
collected options s n es excluded =
    let ns = names_of n es excluded in
    fitted s (helper_mask n) options (encode (numbered ns n)) (list_bytes ns es excluded)

-- the walked tree w, where the next mark is `next`. A refusal of the walk comes first; what fits is asked after the whole walk
unfoldable pub after_walk : ℕ → Lent → ℕ → Walked → Result
after_walk options s next w =
    let vs = visits next 0 w in
    elim (first_refusal vs) [
      | zero ↦ collected options s (bare next w) (entries vs) (excluded_in vs)
      | suc r ↦ refusal (suc r)
    ]

-- ---- from the bytes to the result

-- where the Program stands
abbrev pub top : Context
top = record { path = []; root = true; statement = false }

-- 3 and 4 are the reader's: the first that is met in byte order
unfoldable pub after_reading : ℕ → Lent → Got Node → Result
after_reading options s (got n q next) = after_walk options s next (walked top n)
after_reading options s (refused r) = refusal (number_of r)

-- the highest limit, which is also that of a caller who names none (request 5)
abbrev pub highest_limit : ℕ
highest_limit = 128

-- a limit that there is not. A tree has at most as many levels as the limit says: the Program is at depth 1
abbrev pub limit_refused : ℕ → Bool
limit_refused limit = eqb limit 0 || ltb highest_limit limit

-- the options mask of a lowering: the options, at most 15, without the 8. That option, `ignoreFunctionLength`, is retired (request 12):
-- with it a tree is lowered as without it, and the mask never shows it
unfoldable pub in_force : ℕ → ℕ
in_force options = options % 8

-- the order of the refusals: the limit, options, work, the tree, the walk, lengths
unfoldable pub lowering : ℕ → ℕ → List ℕ → Lent → Result
lowering limit options tree s =
    elim (limit_refused limit) [
      | true ↦ refusal limit_outside
      | false ↦
          elim (ltb 15 options) [
            | true ↦ refusal unknown_options
            | false ↦
                elim (ltb s.work_slice 65536) [
                  | true ↦ refusal small_work
                  | false ↦ after_reading (in_force options) s (read_tree input limit tree)
                ]
          ]
    ]

-- ---- the call

-- what is returned, and the lent slices after the call
pub record Outcome : Type 0 where
  pub answer : ℕ
  pub helpers : ℕ
  pub options : ℕ
  pub tree_length : ℕ
  pub list_length_of : ℕ
  pub tree_out : List ℕ
  pub list_out : List ℕ
  pub work : List ℕ

-- a slice of n bytes that begins with bs, then zeros
unfoldable pub filled : ℕ → List ℕ → List ℕ
filled n bs = bs ++ replicate (n - length bs) 0

-- a refusal returns its number and nothing else; a lowering returns 0, the masks, and both lengths. Work is zero after either
unfoldable pub outcome_of : Lent → Result → Outcome
outcome_of s (refusal n) =
    record {
      answer = n;
      helpers = 0;
      options = 0;
      tree_length = 0;
      list_length_of = 0;
      tree_out = filled s.tree_slice [];
      list_out = filled s.list_slice [];
      work = filled s.work_slice [];
    }
outcome_of s (lowered helpers options t l) =
    record {
      answer = 0;
      helpers = helpers;
      options = options;
      tree_length = length t;
      list_length_of = length l;
      tree_out = filled s.tree_slice t;
      list_out = filled s.list_slice l;
      work = filled s.work_slice [];
    }

-- what a call gives for the limit, options, tree bytes and the lengths of its three slices
unfoldable pub outcome : ℕ → ℕ → List ℕ → Lent → Outcome
outcome limit options tree s = outcome_of s (lowering limit options tree s)
