use Rattle.repost_laws.proofs.LocalRows.{found_rows-replay}
use Rattle.repost_laws.proofs.local_laws.all_local_is_the_replay.Goals as goal

pub returns : goal.returns
returns c = found_rows-replay
