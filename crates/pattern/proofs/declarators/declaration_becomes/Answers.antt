use Rattle.std.proofs.Common.{rules}
use Rattle.pattern.proofs.DeclaratorsCounted as law
use Rattle.pattern.proofs.declarators.declaration_becomes.Goals as goal

pub returns : goal.returns
returns c = law.becomes_all _ _ _ _ _ (λ t p u a k. search rules) c.joined.ensures
