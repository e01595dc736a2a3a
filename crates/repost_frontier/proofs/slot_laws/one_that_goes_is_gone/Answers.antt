-- What is left at each place.
use Rattle.repost_frontier.proofs.SlotsLeft.{left-gone, left-others, left-entries}
use Rattle.repost_frontier.proofs.slot_laws.one_that_goes_is_gone.Goals as goal

pub returns-clause-gone : goal.returns-clause-gone
returns-clause-gone c = left-gone

pub returns-clause-others : goal.returns-clause-others
returns-clause-others c = left-others

pub returns-clause-entries : goal.returns-clause-entries
returns-clause-entries c = left-entries
