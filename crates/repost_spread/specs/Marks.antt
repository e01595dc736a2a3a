-- What a call makes suspect.
use Rattle.std.specs.Prelude.{◌⊎◌, ◌↔◌, IsTrue, Contains}
use Rattle.stock_nums.specs.declared.entry.Entry.{Entry}
use Rattle.repost_frontier.specs.Readings.{suspects_of}
use Rattle.repost_spread.specs.Adding.{AreFoundAlike}
use Rattle.repost_spread.specs.Movements.{AreKept, slots_of, line_of}
use Rattle.repost_spread.specs.declared.movements.Movements.{Movements}

-- those movements of which this is so are suspect now, beside those that were, and nothing else changed
pub record AreMarked (old new : Movements) (is_marked : Entry → Type 0) : Type 0 where
  pub kept : AreKept new
  pub alike : AreFoundAlike old new
  pub marked : (f : Entry) → Contains (line_of old) f → IsTrue (suspects_of (slots_of new) f.place)
      ↔ (IsTrue (suspects_of (slots_of old) f.place) ⊎ is_marked f)
