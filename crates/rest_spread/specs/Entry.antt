-- What a call hands back, in the definition's terms: the returned numbers and every lent byte.
use Rattle.std.specs.Prelude.{ℕ, ◌≡◌, List, length, MatchResult}
use Rattle.std.specs.Prelude as std
use Rattle.tree.specs.Answer.{refusal_number}
use Rattle.lowering.specs.Refusals.{limit_outside, unknown_options, small_work, too_long_of}
use Rattle.lowering.specs.Answer.{Lent, Result, Outcome, outcome_of}
use Rattle.rest_spread.specs.declared.Lowered.{Lowered}
use Rattle.rest_spread.specs.declared.Refusal.{Refusal}
use Rattle.rest_spread.specs.declared.Refusal.TheVariants.{Limit, Options, Work, Tree, Walk, TooLong}

-- the lengths of what is lent
abbrev pub lent_of : List ℕ → List ℕ → List ℕ → Lent
lent_of tree_out list_out work = record { tree_slice = length tree_out; list_slice = length list_out; work_slice = length work }

-- what the caller has after the call
abbrev pub handed_back : Lowered → List ℕ → List ℕ → List ℕ → Outcome
handed_back r tree_out list_out work =
    record {
      answer = r.answer;
      helpers = r.helpers;
      options = r.options;
      tree_length = r.tree_len;
      list_length_of = r.list_len;
      tree_out = tree_out;
      list_out = list_out;
      work = work;
    }

-- the number of a refusal
abbrev pub number_of : Refusal → ℕ
number_of Limit = limit_outside
number_of Options = unknown_options
number_of Work = small_work
number_of (Tree e) = refusal_number e
number_of (Walk n) = n
number_of TooLong = too_long_of

-- what the caller has after a refusal
abbrev pub refused_with : Lent → Refusal → Outcome
refused_with s e = outcome_of s (Result.refusal (number_of e))

-- the outcome is handed back, or it is that of the refusal
abbrev pub Ends : std.Result Lowered Refusal → List ℕ → List ℕ → List ℕ → Lent → Outcome → Type 0
Ends r tree_out list_out work s o = MatchResult r (λ l. handed_back l tree_out list_out work ≡ o) (λ e. refused_with s e ≡ o)
