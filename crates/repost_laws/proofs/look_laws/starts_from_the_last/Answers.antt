use Rattle.repost_laws.proofs.LooksStarted.{starts-looks}
use Rattle.repost_laws.proofs.look_laws.starts_from_the_last.Goals as goal

pub returns : goal.returns
returns c = starts-looks
