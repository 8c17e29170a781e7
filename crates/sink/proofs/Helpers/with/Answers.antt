use Rattle.sink.proofs.WaysOut as law
use Rattle.sink.proofs.Helpers.with.Goals as goal

pub returns-in-1 : goal.returns-in-1
returns-in-1 c = law.with_spread _ _ c.in-1.is

pub returns-in-2 : goal.returns-in-2
returns-in-2 c = law.with_extends _ _ c.in-2.is

pub returns-in-3 : goal.returns-in-3
returns-in-3 c = law.with_empty _ _ c.in-3.is

pub returns-in-4 : goal.returns-in-4
returns-in-4 c = law.with_without _ _ c.in-4.is

pub returns-in-5 : goal.returns-in-5
returns-in-5 c = law.with_key _ _ c.in-5.is

pub returns-in_default : goal.returns-in_default
returns-in_default c = law.with_none _ _ c.in_default.in_default-own.rest.0.0.0.0.1 c.in_default.in_default-own.rest.0.0.0.1 c.in_default.in_default-own.rest.0.0.1 c.in_default.in_default-own.rest.0.1 c.in_default.in_default-own.rest.1
