use Rattle.pattern.proofs.KeyCases as law
use Rattle.pattern.proofs.keys.literal.Goals as goal

pub returns-then-literal_sort-eq2 : goal.returns-then-literal_sort-eq2
returns-then-literal_sort-eq2 c = λ k. law.keyed_by (law.literal_number _ _ _ _ _ _ c.literal_sort.ensures c.field-spelling.ensures c.field-form.ensures c.if-literal_sort-eq2.true _ _ c.spelled_in.ensures (law.key_is c.literal_by.ensures) k)

pub returns : goal.returns
returns c = λ k. law.keyed_by (law.literal_other _ _ _ _ _ _ c.literal_sort.ensures c.field-spelling.ensures c.field-form.ensures c.if-literal_sort-eq2.false _ (law.key_is c.formed.ensures) k)
