use Rattle.walk.proofs.SourcesRead as law
use Rattle.walk.proofs.pieces.source.Goals as goal

pub returns-in-Expression : goal.returns-in-Expression
returns-in-Expression c = (c.to-in-Expression.ensures.1, c.create_read_expression-taken.ensures.1, law.source_copied _ _ _ _ _ _ _ c.create_read_expression-taken.ensures.0 c.in-Expression.is (c.to.ensures.0 _ _ _) c.to.ensures.1 c.skip.ensures (c.copy.ensures.0 _ _) (c.to-in-Expression.ensures.0 _ _ _))

pub returns-in-Temporary : goal.returns-in-Temporary
returns-in-Temporary c = (c.temporary.ensures.1, c.create_read_expression-taken.ensures.1, law.source_written _ _ _ _ _ c.create_read_expression-taken.ensures.0 c.in-Temporary.is c.temporary.ensures.0)
