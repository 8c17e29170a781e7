-- The numbers of the refusals.
use Rattle.std.specs.Prelude.{ℕ, Option, Some, None}
use Rattle.pattern.specs.declared.tally.Refusal.{Refusal}
use Rattle.pattern.specs.declared.tally.Refusal.TheVariants.{NoForm, OtherForm}

abbrev pub refusal_code : Refusal → ℕ
refusal_code NoForm = 6
refusal_code OtherForm = 11

-- 0 for none
abbrev pub refusal_number : Option Refusal → ℕ
refusal_number None = 0
refusal_number (Some r) = refusal_code r
