use Rattle.repost_laws.proofs.MoreCharges.{is_charged_by-more, charges-fit}
use Rattle.repost_laws.proofs.fetch_laws.a_longer_journal_has_more_charges.Goals as goal

pub returns-clause-named : goal.returns-clause-named
returns-clause-named c = is_charged_by-more

pub returns-clause-fits : goal.returns-clause-fits
returns-clause-fits c = charges-fit
