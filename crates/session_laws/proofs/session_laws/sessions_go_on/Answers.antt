use Rattle.session_laws.proofs.Going.{Session-none, Session-on}
use Rattle.session_laws.proofs.session_laws.sessions_go_on.Goals as goal

pub returns-clause-none : goal.returns-clause-none
returns-clause-none c = Session-none

pub returns-clause-on : goal.returns-clause-on
returns-clause-on c = Session-on
