use Rattle.session_laws.proofs.Serving.{Served-by_session}
use Rattle.session_laws.proofs.served_laws.a_session_is_served.Goals as goal

pub returns : goal.returns
returns c = Served-by_session
