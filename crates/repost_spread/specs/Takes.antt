-- What is taken over, by places.
use Rattle.std.specs.Prelude.{Option, Some, None}
use Rattle.std.specs.Option.{option_map_or}
use Rattle.stock_nums.specs.declared.place.Place.{Place}
use Rattle.cost_links.specs.Tables.{Held}
use Rattle.repost_laws.specs.Valuations.{Found, empty, after_of}

-- what was found to be held after the movement at the place, and where there is none, nothing
abbrev pub held_at : Found → Option Place → Held
held_at found None = empty
held_at found (Some place) = option_map_or after_of (found place) empty
