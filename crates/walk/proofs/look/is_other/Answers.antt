use Rattle.walk.proofs.Lookups as law
use Rattle.walk.proofs.look.is_other.Goals as goal

pub returns-in-AsTemporary : goal.returns-in-AsTemporary
returns-in-AsTemporary c = law.other_is _ _ _ c.key_sort.ensures c.in-AsTemporary.is

pub returns-in_default : goal.returns-in_default
returns-in_default c = law.other_not _ _ c.key_sort.ensures c.in_default.not-AsTemporary
