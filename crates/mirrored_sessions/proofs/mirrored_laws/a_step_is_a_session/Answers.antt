use Rattle.mirrored_sessions.proofs.Going.{MirroredSession-turned, MirroredSession-read}
use Rattle.mirrored_sessions.proofs.mirrored_laws.a_step_is_a_session.Goals as goal

pub returns-clause-turned : goal.returns-clause-turned
returns-clause-turned c = MirroredSession-turned

pub returns-clause-read : goal.returns-clause-read
returns-clause-read c = MirroredSession-read
