-- Movements with what was found of each, and the lists by which those that look at one another are found.
use Rattle.std.specs.Prelude.{ℕ, ◌≤◌, List, map, filter}
use Rattle.std.specs.List.Sorted.{IsPermutation}
use Rattle.stock_nums.specs.declared.cause.Target.{Target}
use Rattle.stock_nums.specs.declared.entry.Entry.{Entry}
use Rattle.stock_model.specs.Returns.{returns_of}
use Rattle.cost_links.specs.Linked.{charged_of, returns_to}
use Rattle.cost_links.specs.declared.links.Links.{Links}
use Rattle.repost_frontier.specs.Slots.{slot_entry}
use Rattle.repost_frontier.specs.declared.slot.Slot.{Slot}
use Rattle.repost_index.specs.IndexState.{IndexState}
use Rattle.repost_index.specs.Indexed.{AreIndexed, HasNoMoreRoom}
use Rattle.repost_spread.specs.declared.movements.Movements.{Movements}

-- the movements, in posting order
abbrev pub entries_of : List Slot → List Entry
entries_of slots = map slot_entry slots

-- each movement with what was last found of it, in posting order, and what is charged to each line
abbrev pub slots_of : Movements → List Slot
slots_of movements = movements.frontier.slots

abbrev pub line_of : Movements → List Entry
line_of movements = entries_of (slots_of movements)

abbrev pub charged_by : Movements → Target → ℕ
charged_by movements = charged_of movements.links

-- the index is of these movements, and of each line the returns are those among them
pub record AreFoundBy (line : List Entry) (index : IndexState) (links : Links) : Type 0 where
  pub indexed : AreIndexed line index
  pub returns : (target : Target) → IsPermutation (returns_to links target) (filter (returns_of target) line)

abbrev pub AreKept : Movements → Type 0
AreKept movements = AreFoundBy (line_of movements) movements.index movements.links

-- no more than so many movements fit without memory
pub record HaveNoMoreRoom (most : ℕ) (movements : Movements) : Type 0 where
  pub slots : movements.frontier.spare ≤ most
  pub index : HasNoMoreRoom most movements.index
