use Rattle.repost_frontier.proofs.SlotOrder.{entries-marks}
use Rattle.repost_frontier.proofs.SlotReadings.{suspect-marked, suspects-marked, found-marked, revalued-marked}
use Rattle.repost_frontier.proofs.slot_laws.marks_are_made.Goals as goal

pub returns-clause-suspect : goal.returns-clause-suspect
returns-clause-suspect c = suspect-marked

pub returns-clause-suspects : goal.returns-clause-suspects
returns-clause-suspects c = suspects-marked

pub returns-clause-found : goal.returns-clause-found
returns-clause-found c = found-marked

pub returns-clause-revalued : goal.returns-clause-revalued
returns-clause-revalued c = revalued-marked

pub returns-clause-entries : goal.returns-clause-entries
returns-clause-entries c = entries-marks
