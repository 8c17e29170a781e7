use Rattle.pattern.proofs.SourceReads as law
use Rattle.pattern.proofs.source.ReferenceBuilder.held.Goals as goal

pub returns : goal.returns
returns c = law.held_is _ _
