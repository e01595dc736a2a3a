use Rattle.repost_frontier.proofs.SlotOrder.{entries-published}
use Rattle.repost_frontier.proofs.SlotReadings.{revalued-published, found-published, suspects-published}
use Rattle.repost_frontier.proofs.slot_laws.a_publication_forgets_what_was_valued.Goals as goal

pub returns-clause-revalued : goal.returns-clause-revalued
returns-clause-revalued c = revalued-published

pub returns-clause-found : goal.returns-clause-found
returns-clause-found c = found-published

pub returns-clause-suspects : goal.returns-clause-suspects
returns-clause-suspects c = suspects-published

pub returns-clause-entries : goal.returns-clause-entries
returns-clause-entries c = entries-published
