use Rattle.repost_laws.proofs.ChangedJournals.{IsChange-more}
use Rattle.repost_laws.proofs.journal_laws.more_records_are_a_change.Goals as goal

pub returns : goal.returns
returns c = IsChange-more
