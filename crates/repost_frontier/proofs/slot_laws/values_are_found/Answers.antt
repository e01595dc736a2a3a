use Rattle.repost_frontier.proofs.SlotOrder.{entries-with_value}
use Rattle.repost_frontier.proofs.SlotReadings.{found-valued, revalued-valued, suspect-valued, suspects-valued}
use Rattle.repost_frontier.proofs.slot_laws.values_are_found.Goals as goal

pub returns-clause-found : goal.returns-clause-found
returns-clause-found c = found-valued

pub returns-clause-revalued : goal.returns-clause-revalued
returns-clause-revalued c = revalued-valued

pub returns-clause-suspect : goal.returns-clause-suspect
returns-clause-suspect c = suspect-valued

pub returns-clause-suspects : goal.returns-clause-suspects
returns-clause-suspects c = suspects-valued

pub returns-clause-entries : goal.returns-clause-entries
returns-clause-entries c = entries-with_value
