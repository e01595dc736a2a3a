-- All peers that came so far were served and handed back.
use Rattle.std.proofs.Common.{◌≡◌, length}
use Rattle.desk_server.specs.Exchanging.{LeavesRest}
use Rattle.shared_listener.specs.Steps.{comes, hangs}
use Rattle.desk_connections.specs.Desks.{HasServed}
use Rattle.desk_connections.specs.Visits.{Learnt, learnt, IsVisit}
use Rattle.desk_connections.specs.Ways.{IsWay, LeavesWay}
use Rattle.desk_connections.proofs.desk.go_further.Given as goal

abbrev pub invariant-loop : goal.invariant-loop
invariant-loop g l = record {
  same_lock : l.desk.pass.lock ≡ l.initial.desk.pass.lock;
  same_way_lock : l.desk.way.lock ≡ l.initial.desk.way.lock;
  rest : LeavesRest l.initial.desk.pass.view l.desk.pass.view;
  way_rest : LeavesWay l.initial.desk.way.view l.desk.way.view;
  way : IsWay l.desk.way.view;
  all_back : length (hangs l.desk.way.view.made) ≡ length (comes l.desk.way.view.made);
  served : (before : Learnt)
      → HasServed (IsVisit g.P.Source.left g.P.Source.taken g.P.Sink.written g.P.Source.faults g.P.Link.ended l.number.0) before
      (learnt l.initial.desk.pass.view l.initial.desk.reader) l.initial.desk.way.view.made
      → HasServed (IsVisit g.P.Source.left g.P.Source.taken g.P.Sink.written g.P.Source.faults g.P.Link.ended l.number.0) before
      (learnt l.desk.pass.view l.desk.reader) l.desk.way.view.made;
}
