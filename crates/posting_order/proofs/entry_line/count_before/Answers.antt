-- The bound parts the movements, and it falls where as many come before it as pass.
use Rattle.posting_order.specs.Timelines.{comes_before}
use Rattle.posting_order.proofs.Places.{comes_before-back, IsPartitionedBy-HoldsBack, length-filter-point}
use Rattle.posting_order.proofs.entry_line.count_before.Goals as goal

pub returns-clause-count : goal.returns-clause-count
returns-clause-count c =
    let place = c.args.place.now in
    let es = c.args.list.now.items in
    let parted = IsPartitionedBy-HoldsBack (comes_before place) (comes_before-back place) es c.requires in
    length-filter-point (comes_before place) es c.partition_point.result c.partition_point.ensures.sides.within (c.partition_point.ensures.point parted)
