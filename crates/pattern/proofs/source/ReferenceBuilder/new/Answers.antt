use Rattle.pattern.proofs.SourceReads as law
use Rattle.pattern.proofs.source.ReferenceBuilder.new.Goals as goal
use Rattle.pattern.proofs.source.ReferenceBuilder.new.Goals.{then-force-via-then-force, then-force-via-else-force+then-not-is_name}

pub returns-then-force : goal.returns-then-force
returns-then-force c = (elim c.then-force.branch [ then-force-via-then-force w ↦ law.built_forced _ _ _ _ _ _ w.if-force.true | then-force-via-else-force+then-not-is_name w ↦ law.built_other _ _ _ _ _ _ _ w.is_name.ensures w.if-not-is_name.true ])

pub returns : goal.returns
returns c = law.built_name _ _ _ _ _ _ _ c.if-force.false c.is_name.ensures c.if-not-is_name.false
