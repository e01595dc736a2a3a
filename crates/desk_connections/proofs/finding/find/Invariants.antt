-- Nothing was noted so far.
use Rattle.std.proofs.Common.{◌≡◌}
use Rattle.desk_connections.specs.Ways.{IsWay, LeavesWay}
use Rattle.desk_connections.proofs.finding.find.Given as goal

abbrev pub invariant-loop : goal.invariant-loop
invariant-loop g l = record {
  same_lock : l.way.lock ≡ l.initial.way.lock;
  rest : LeavesWay l.initial.way.view l.way.view;
  way : IsWay l.way.view;
  nothing : l.way.view.made ≡ l.initial.way.view.made;
}
