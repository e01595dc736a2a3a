use Rattle.repost_frontier.proofs.SlotReadings.{first-first, suspect-first, slot-first, clean-first}
use Rattle.repost_frontier.proofs.slot_laws.the_first_is_the_first_suspect.Goals as goal

pub returns-clause-first : goal.returns-clause-first
returns-clause-first c = first-first

pub returns-clause-suspect : goal.returns-clause-suspect
returns-clause-suspect c = suspect-first

pub returns-clause-slot : goal.returns-clause-slot
returns-clause-slot c = slot-first

pub returns-clause-clean : goal.returns-clause-clean
returns-clause-clean c = clean-first
