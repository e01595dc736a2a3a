-- What the first units cost grows, along a movement's units, by the parts of what it is worth.
use Rattle.repost_index.proofs.LayerParts.{worth-split, worth-none, worth-past}
use Rattle.repost_index.proofs.layer_laws.layers_make_up_pieces.Goals as goal

pub returns-clause-first : goal.returns-clause-first
returns-clause-first c = worth-split

pub returns-clause-none : goal.returns-clause-none
returns-clause-none c = worth-none

pub returns-clause-past : goal.returns-clause-past
returns-clause-past c = worth-past
