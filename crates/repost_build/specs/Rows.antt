-- What is found of movements, as rows.
use Rattle.std.specs.Prelude.{ℕ, ◌≡◌, ◌+◌, ◌-◌, ◌≤◌, List, length, map, filter, take, drop}
use Rattle.std.specs.Option.{option_map_or}
use Rattle.stock_nums.specs.declared.entry.Row.{Row}
use Rattle.repost_frontier.specs.Readings.{slot_found}
use Rattle.repost_frontier.specs.Slots.{is_revalued}
use Rattle.repost_frontier.specs.declared.slot.Slot.{Slot}
use Rattle.repost_laws.specs.Valuations.{worth_of, no_worth}

-- a movement with what it was found to be worth: nothing where it was never valued
abbrev pub slot_row : Slot → Row
slot_row s = record { entry = s.entry; worth = option_map_or worth_of (slot_found s) no_worth }

-- the rows of those that were valued since the last publication
abbrev pub valued_rows : List Slot → List Row
valued_rows slots = map slot_row (filter is_revalued slots)

-- these are the rows of movements up to so many, and all of them stand behind the first `made` ones
pub record IsRunUntil (slots : List Slot) (made end : ℕ) (rows : List Row) : Type 0 where
  pub later : made + length rows ≤ end
  pub within : end ≤ length slots
  pub same : rows ≡ map slot_row (take (length rows) (drop (end - length rows) slots))
