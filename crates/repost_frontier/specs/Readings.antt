-- Movements with what was last found of them, as the laws of a revaluation see them: by places.
use Rattle.std.specs.Prelude.{false, List, Option, Some, None}
use Rattle.std.specs.Option.{option_map, option_map_or}
use Rattle.cost_links.specs.Tables.{held_by}
use Rattle.cost_links.specs.declared.values.Valued.{Valued as ValuedAt}
use Rattle.repost_laws.specs.Builds.{Suspects, ValuedSince}
use Rattle.repost_laws.specs.Valuations.{Valued, Found}
use Rattle.repost_frontier.specs.Slots.{slot_at, is_suspect, is_revalued}
use Rattle.repost_frontier.specs.declared.slot.Slot.{Slot}

-- what was found, as the laws see it
abbrev pub value_of : ValuedAt → Valued
value_of found = record { worth = found.worth; after = held_by (Some found.after) }

-- what was last found of a movement
abbrev pub slot_found : Slot → Option Valued
slot_found s = option_map value_of s.found

-- what was last found of the movement at each place: nothing where there is none
abbrev pub found_of : List Slot → Found
found_of slots place = option_map_or slot_found (slot_at slots place) None

-- whether the movement at each place is suspect
abbrev pub suspects_of : List Slot → Suspects
suspects_of slots place = option_map_or is_suspect (slot_at slots place) false

-- whether the movement at each place was valued since the last publication
abbrev pub revalued_of : List Slot → ValuedSince
revalued_of slots place = option_map_or is_revalued (slot_at slots place) false
