-- Movements that are added, and what stays where only suspects change.
use Rattle.std.specs.Prelude.{◌≡◌, List, fold}
use Rattle.stock_nums.specs.declared.cause.Target.{Target}
use Rattle.stock_nums.specs.declared.entry.Entry.{Entry}
use Rattle.stock_nums.specs.declared.place.Place.{Place}
use Rattle.repost_frontier.specs.Readings.{found_of, revalued_of}
use Rattle.repost_frontier.specs.Slots.{new_slot, put_slot}
use Rattle.repost_frontier.specs.declared.slot.Slot.{Slot}
use Rattle.repost_spread.specs.Movements.{slots_of, line_of, charged_by}
use Rattle.repost_spread.specs.declared.movements.Movements.{Movements}

-- the movements with these among them, suspect and with nothing found
abbrev pub put_new : List Slot → Entry → List Slot
put_new slots e = put_slot slots (new_slot e)

abbrev pub put_all_new : List Slot → List Entry → List Slot
put_all_new slots es = fold put_new slots es

-- the movements are the same, with what was found of them and what was revalued, and so are the charges: only what is
-- suspect may differ
pub record AreFoundAlike (old new : Movements) : Type 0 where
  pub entries : line_of new ≡ line_of old
  pub found : (place : Place) → found_of (slots_of new) place ≡ found_of (slots_of old) place
  pub revalued : (place : Place) → revalued_of (slots_of new) place ≡ revalued_of (slots_of old) place
  pub charged : (line : Target) → charged_by new line ≡ charged_by old line
