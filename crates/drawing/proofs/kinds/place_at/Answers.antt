use Rattle.std.proofs.Common.{[], ◌∷◌, refl, sym, arith}
use Rattle.drawing.proofs.KindTables.{kinds_told, least, entry_at, no_rising, no_shortest}
use Rattle.drawing.proofs.kinds.place_at.Goals as goal

pub returns-then-place-lt26 : goal.returns-then-place-lt26
unfolding kinds_told least
returns-then-place-lt26 c = entry_at (_ ∷ _ ∷ _ ∷ _ ∷ _ ∷ _ ∷ _ ∷ _ ∷ _ ∷ _ ∷ _ ∷ _ ∷ _ ∷ _ ∷ _ ∷ _ ∷ _ ∷ _ ∷ _ ∷ _ ∷ _ ∷ _ ∷ _ ∷ _ ∷ _ ∷ _ ∷ []) c.args.place _ refl refl refl c.if-place-lt26.true

pub returns-else-place-lt26 : goal.returns-else-place-lt26
returns-else-place-lt26 c = (sym (no_rising c.args.place (omega (arith, c.if-place-lt26.false))), no_shortest c.args.place (omega (arith, c.if-place-lt26.false)))
