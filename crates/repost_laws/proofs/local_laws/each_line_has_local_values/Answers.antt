use Rattle.repost_laws.proofs.InOrderFound.{AreLocal-in_order}
use Rattle.repost_laws.proofs.local_laws.each_line_has_local_values.Goals as goal

pub returns : goal.returns
returns c = AreLocal-in_order
