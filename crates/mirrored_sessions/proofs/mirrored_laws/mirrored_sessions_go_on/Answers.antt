use Rattle.mirrored_sessions.proofs.Going.{MirroredSession-none, MirroredSession-on}
use Rattle.mirrored_sessions.proofs.mirrored_laws.mirrored_sessions_go_on.Goals as goal

pub returns-clause-none : goal.returns-clause-none
returns-clause-none c = MirroredSession-none

pub returns-clause-on : goal.returns-clause-on
returns-clause-on c = MirroredSession-on
