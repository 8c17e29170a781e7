use Rattle.walk.proofs.Viewing.{replaces_yes, replaces_not}
use Rattle.walk.proofs.look.replaces.Goals as goal

pub returns-in-Replacing : goal.returns-in-Replacing
returns-in-Replacing c = replaces_yes _ c.in-Replacing.is

pub returns-in_default : goal.returns-in_default
returns-in_default c = replaces_not _ c.in_default.is
