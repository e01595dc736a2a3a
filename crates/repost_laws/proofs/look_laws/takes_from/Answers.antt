use Rattle.repost_laws.proofs.LooksTaken.{takes-looks}
use Rattle.repost_laws.proofs.look_laws.takes_from.Goals as goal

pub returns : goal.returns
returns c = takes-looks
