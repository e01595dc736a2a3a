use Rattle.repost_laws.proofs.ChangedLines.{IsBuilt-change}
use Rattle.repost_laws.proofs.build_laws.a_change_keeps_what_is_built.Goals as goal

pub returns : goal.returns
returns c = IsBuilt-change
