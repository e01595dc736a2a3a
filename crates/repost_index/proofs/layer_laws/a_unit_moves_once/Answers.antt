-- Of two movements of a side the later one's units have higher numbers.
use Rattle.stock_model.specs.Enough.{enters_under, leaves_under}
use Rattle.std.proofs.Common.{filter}
use Rattle.repost_index.proofs.UnitsAhead.{side-ordered, unit-once, in-range, out-range, in-layer, out-layer}
use Rattle.repost_index.proofs.layer_laws.a_unit_moves_once.Goals as goal

pub returns-clause-came : goal.returns-clause-came
returns-clause-came c line key unit a b first second ordered =
    unit-once (filter (enters_under key) line) unit first.giver second.giver (side-ordered (enters_under key) line ordered)
    (in-layer line key unit a first) (in-layer line key unit b second)

pub returns-clause-came_with : goal.returns-clause-came_with
returns-clause-came_with c line key unit e a found ordered held enters begun later =
    unit-once (filter (enters_under key) line) unit found.giver e (side-ordered (enters_under key) line ordered)
    (in-layer line key unit a found) (in-range line key unit e held enters begun later)

pub returns-clause-left : goal.returns-clause-left
returns-clause-left c line key unit a b first second ordered =
    unit-once (filter (leaves_under key) line) unit first.taker second.taker (side-ordered (leaves_under key) line ordered)
    (out-layer line key unit a first) (out-layer line key unit b second)

pub returns-clause-left_with : goal.returns-clause-left_with
returns-clause-left_with c line key unit e a found ordered held leaves begun later =
    unit-once (filter (leaves_under key) line) unit found.taker e (side-ordered (leaves_under key) line ordered)
    (out-layer line key unit a found) (out-range line key unit e held leaves begun later)
