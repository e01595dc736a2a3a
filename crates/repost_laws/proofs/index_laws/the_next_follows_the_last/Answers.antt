use Rattle.repost_laws.proofs.NextOnes.{next-last}
use Rattle.repost_laws.proofs.index_laws.the_next_follows_the_last.Goals as goal

pub returns : goal.returns
returns c = next-last
