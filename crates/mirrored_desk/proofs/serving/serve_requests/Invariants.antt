-- The requests so far were answered.
use Rattle.std.proofs.Common.{◌≡◌, true}
use Rattle.voucher_json.specs.Requests.{IsReadAs}
use Rattle.mirrored_sessions.specs.Sessions.{Known, HasMirroredSession}
use Rattle.desk_server.proofs.Steps.{HasServed}
use Rattle.mirrored_desk.specs.Exchanging.{known}
use Rattle.mirrored_desk.proofs.serving.serve_requests.Given as goal

abbrev pub invariant-loop : goal.invariant-loop
invariant-loop g l = record {
  same_lock : l.state.pass.lock ≡ l.initial.state.pass.lock;
  served : HasServed g.P.Source.left g.P.Source.taken g.P.Sink.written g.P.Source.faults (λ (k : Known). k.view)
      (HasMirroredSession (IsReadAs true) l.initial.desk.0) (known l.initial.state.pass.view l.initial.state.reader l.initial.state.printed.0)
      (known l.state.pass.view l.state.reader l.state.printed.0) l.initial.link l.link l.inbox;
  still_open : g.P.Link.ended l.link ≡ g.P.Link.ended l.initial.link;
}
