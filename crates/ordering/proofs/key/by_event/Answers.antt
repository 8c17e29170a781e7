use Rattle.ordering.proofs.EventKeys as law
use Rattle.ordering.specs.Order.{by_key_of}
use Rattle.ordering.proofs.key.by_event.Goals as goal

pub returns : goal.returns
unfolding by_key_of
returns c = λ a b. law.event_by c.args.first.now c.args.second.now _ _ _ _ (c.key_of.ensures a) (c.key_of-2.ensures b) c.cmp.result c.cmp.ensures
