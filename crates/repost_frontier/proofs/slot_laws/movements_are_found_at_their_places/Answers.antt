use Rattle.std.proofs.Common.{List}
use Rattle.stock_nums.specs.declared.place.Place.{Place}
use Rattle.repost_frontier.specs.Slots.{is_slot_at}
use Rattle.repost_frontier.specs.declared.slot.Slot.{Slot}
use Rattle.repost_frontier.proofs.OnePasses.{find-found}
use Rattle.repost_frontier.proofs.SlotPlaces.{Contains-found, found-place}
use Rattle.repost_frontier.proofs.SlotReadings.{entry-found}
use Rattle.repost_frontier.proofs.slot_laws.movements_are_found_at_their_places.Goals as goal

pub returns-clause-at : goal.returns-clause-at
returns-clause-at c = Contains-found

pub returns-clause-held : goal.returns-clause-held
returns-clause-held c = λ (slots : List Slot) (place : Place) (s : Slot) found. (find-found (is_slot_at place) slots s found).1

pub returns-clause-place : goal.returns-clause-place
returns-clause-place c = found-place

pub returns-clause-entry : goal.returns-clause-entry
returns-clause-entry c = entry-found
