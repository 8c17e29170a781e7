use Rattle.pattern.proofs.SourceReads as law
use Rattle.pattern.proofs.source.ReferenceBuilder.create_read_expression.Goals as goal

pub returns-in-Direct : goal.returns-in-Direct
returns-in-Direct c = law.read_direct _ _ _ c.in-Direct.is

pub returns-in-Wanted : goal.returns-in-Wanted
returns-in-Wanted c = law.read_wanted _ _ _ _ _ c.in-Wanted.is

pub returns-in-Held : goal.returns-in-Held
returns-in-Held c = law.read_held _ _ _ c.in-Held.is
