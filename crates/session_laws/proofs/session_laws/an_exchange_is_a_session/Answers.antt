use Rattle.session_laws.proofs.OneTurn.{Session-turn, Session-quiet}
use Rattle.session_laws.proofs.session_laws.an_exchange_is_a_session.Goals as goal

pub returns-clause-turn : goal.returns-clause-turn
returns-clause-turn c = Session-turn

pub returns-clause-quiet : goal.returns-clause-quiet
returns-clause-quiet c = Session-quiet
