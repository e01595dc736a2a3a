use Rattle.std.proofs.Common.{◌≡◌, ◌-◌, length}
use Rattle.stock_io.specs.Streams.{Chained}
use Rattle.desk_wire.specs.Streams.{ReadsMore}
use Rattle.desk_wire.proofs.inbox.Inbox.take_until_heard.Given as goal

abbrev pub invariant-loop-head : goal.invariant-loop-head
invariant-loop-head g l =
    record {
      reads : Chained (ReadsMore g.S.Source.left g.S.Source.taken g.S.Source.read_leaves) (l.initial.self, l.initial.source) (l.self, l.source);
      faults_kept : g.S.Source.faults l.source ≡ g.S.Source.faults l.initial.source;
    }

abbrev pub decreases-loop-head : goal.decreases-loop-head
decreases-loop-head g l = 131072 - length l.self.bytes
