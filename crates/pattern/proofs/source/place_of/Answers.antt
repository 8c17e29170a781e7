use Rattle.pattern.proofs.SourceReads as law
use Rattle.pattern.proofs.source.place_of.Goals as goal

pub returns-in-Expression : goal.returns-in-Expression
returns-in-Expression c = law.place_expression _ _ _ c.in-Expression.is

pub returns-in-Temporary : goal.returns-in-Temporary
returns-in-Temporary c = law.place_temporary _ _ _ c.in-Temporary.is
