use Rattle.std.proofs.Common.{rules}
use Rattle.pattern.proofs.KeyCases as law
use Rattle.pattern.proofs.keys.beside_form.Goals as goal

pub returns-then-is_none : goal.returns-then-is_none
returns-then-is_none c = law.keyed_by (law.beside_none _ _ _ _ (search rules))

pub returns-then-is_string : goal.returns-then-is_string
returns-then-is_string c = law.keyed_by (law.beside_same _ _ _ _ _ _ c.spelled_in.ensures c.is_string.ensures (search rules) c.if-is_string.true _ (law.key_is c.formed.ensures))

pub returns : goal.returns
returns c = law.keyed_by (law.beside_other _ _ _ _ _ _ c.spelled_in.ensures c.is_string.ensures (search rules) c.if-is_string.false)
