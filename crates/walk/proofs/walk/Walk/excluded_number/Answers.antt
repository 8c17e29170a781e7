use Rattle.walk.proofs.SourcesRead as law
use Rattle.walk.proofs.walk.Walk.excluded_number.Goals as goal

pub returns : goal.returns
returns c = let d = c.digits_of-d.ensures in
    let s = c.excluded_string.ensures in
    ((λ l w. law.digits_excluded _ _ _ d.0 d.1 d.2 (s.0 l w)), s.1)
