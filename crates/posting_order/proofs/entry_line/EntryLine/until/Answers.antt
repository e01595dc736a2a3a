-- The bound parts the movements, and it falls where as many come before it as pass.
use Rattle.std.proofs.Common.{◌≡◌, List, take, filter, ap, subst}
use Rattle.stock_nums.specs.declared.entry.Entry.{Entry}
use Rattle.stock_model.specs.InOrder.{IsBefore}
use Rattle.stock_model.proofs.Pairwise.{Pairwise-from_AllPairs}
use Rattle.posting_order.specs.State.{TimelineState}
use Rattle.posting_order.specs.Timelines.{is_until, count_until}
use Rattle.posting_order.proofs.Parting.{take-passing}
use Rattle.posting_order.proofs.Places.{until-back, Pairwise-back, IsPartitionedBy-HoldsBack, length-filter-point}
use Rattle.posting_order.proofs.entry_line.EntryLine.until.Goals as goal

pub returns : goal.returns
returns c =
    let test = is_until c.args.moment in
    let inside = c.self.inside.list.items in
    let told : inside ≡ c.args.self.now.entries = ap (λ (s : TimelineState). s.entries) c.self.view_is in
    let parted = IsPartitionedBy-HoldsBack test (until-back c.args.moment) inside c.self.invariant in
    let count = length-filter-point test inside c.partition_point.result c.partition_point.ensures.sides.within (c.partition_point.ensures.point parted) in
    let front = take-passing test inside c.partition_point.result (Pairwise-back test (until-back c.args.moment) inside (Pairwise-from_AllPairs IsBefore inside c.self.invariant)) count in
    record {
      count = subst (λ (es : List Entry). c.partition_point.result ≡ count_until es c.args.moment) told count;
      first_ones = subst (λ (es : List Entry). take c.partition_point.result es ≡ filter test es) told front;
    }
