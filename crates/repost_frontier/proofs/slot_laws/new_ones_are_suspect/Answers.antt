use Rattle.repost_frontier.specs.Slots.{new_slot}
use Rattle.repost_frontier.proofs.SlotOrder.{entries-put_slot}
use Rattle.repost_frontier.proofs.SlotReadings.{suspect-put, suspects-put, found-put, revalued-put}
use Rattle.repost_frontier.proofs.slot_laws.new_ones_are_suspect.Goals as goal

pub returns-clause-suspect : goal.returns-clause-suspect
returns-clause-suspect c = suspect-put

pub returns-clause-suspects : goal.returns-clause-suspects
returns-clause-suspects c = suspects-put

pub returns-clause-found : goal.returns-clause-found
returns-clause-found c = found-put

pub returns-clause-revalued : goal.returns-clause-revalued
returns-clause-revalued c = revalued-put

pub returns-clause-entries : goal.returns-clause-entries
returns-clause-entries c = λ slots e. entries-put_slot slots (new_slot e)
