-- What is found at the place stands there.
use Rattle.std.specs.Option.{option_copied}
use Rattle.repost_frontier.proofs.SlotPlaces.{told-place}
use Rattle.repost_frontier.proofs.frontier.Frontier.get.Goals as goal

pub returns-clause-place : goal.returns-clause-place
returns-clause-place c = told-place c.self.inside.list.items c.args.place.now (option_copied c.standing_at.result) c.standing_at.ensures
