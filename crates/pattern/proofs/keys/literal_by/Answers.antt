use Rattle.std.proofs.Common.{rules}
use Rattle.pattern.specs.Numbers.{spelling_value}
use Rattle.pattern.proofs.KeyCases as law
use Rattle.pattern.proofs.keys.literal_by.Goals as goal

pub returns-in-Some-Decimal : goal.returns-in-Some-Decimal
returns-in-Some-Decimal c = law.keyed_by (law.by_decimal c.args.tree.now (spelling_value c.args.s) _ _ c.in-Some-Decimal.v (search rules) _ (law.key_is c.formed.ensures) _ (law.key_is c.beside_form.ensures))

pub returns-in-Some-Hexadecimal : goal.returns-in-Some-Hexadecimal
returns-in-Some-Hexadecimal c = law.keyed_by (law.by_hexadecimal c.args.tree.now (spelling_value c.args.s) _ _ c.in-Some-Hexadecimal.v (search rules) _ (law.key_is c.beside_form-in-Some-Hexadecimal.ensures))

pub returns-in-None : goal.returns-in-None
returns-in-None c = law.keyed_by (law.by_another c.args.tree.now (spelling_value c.args.s) _ _ (search rules) _ (law.key_is c.formed-in-None.ensures))
