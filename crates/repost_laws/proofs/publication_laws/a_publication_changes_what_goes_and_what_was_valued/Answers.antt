use Rattle.repost_laws.proofs.SinceChanges.{replay-changed}
use Rattle.repost_laws.proofs.publication_laws.a_publication_changes_what_goes_and_what_was_valued.Goals as goal

pub returns : goal.returns
returns c = replay-changed
