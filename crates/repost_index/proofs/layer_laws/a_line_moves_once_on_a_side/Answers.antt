-- Both have the moment that is kept for their record, and so one place.
use Rattle.repost_index.proofs.OwnPlaces.{line-once}
use Rattle.repost_index.proofs.layer_laws.a_line_moves_once_on_a_side.Goals as goal

pub returns : goal.returns
returns c = line-once
