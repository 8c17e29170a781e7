use Rattle.std.proofs.Common.{rules}
use Rattle.pattern.proofs.CappedSums.{or_refusal}
use Rattle.pattern.proofs.DeclaratorsCounted as law
use Rattle.pattern.proofs.declarators.declaration_refusal.Goals as goal

pub returns : goal.returns
returns c = law.refuses_all _ _ _ _ _ (λ t p u a k. search (rules, or_refusal)) c.joined.ensures
