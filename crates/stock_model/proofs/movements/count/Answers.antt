-- A record makes a movement for each warehouse that a line of it names, where it has no fault of its own.
use Rattle.std.proofs.Common.{◌+◌, length, ◌∙◌}
use Rattle.stock_model.proofs.MovementCount.{movements-count, move_count-each}
use Rattle.stock_model.proofs.movements.count.Goals as goal

pub returns : goal.returns
returns c journal sound none =
    rw (c.line_count.ensures, c.stores_each.ensures) (move_count-each c.args.item.now.what) ∙ movements-count journal (length journal + 1) c.args.item.now.what sound none
