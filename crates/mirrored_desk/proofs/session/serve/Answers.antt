-- Memory was wanting before the session began.
use Rattle.std.proofs.Common.{true}
use Rattle.voucher_json.specs.Requests.{IsReadAs}
use Rattle.mirrored_sessions.specs.Sessions.{Known, HasMirroredSession}
use Rattle.mirrored_sessions.proofs.Bodies.{HasMirroredSession-none}
use Rattle.desk_server.proofs.Ending.{serves-none}
use Rattle.mirrored_desk.specs.Exchanging.{known}
use Rattle.mirrored_desk.proofs.session.serve.Goals as goal

pub returns-in-Err-clause-serves : goal.returns-in-Err-clause-serves
returns-in-Err-clause-serves g c = record {
  printed = 0;
  served = serves-none g.P.Source.left g.P.Source.taken g.P.Sink.written g.P.Source.faults (λ (k : Known). k.view)
      (HasMirroredSession (IsReadAs true) c.args.desk.0) (known c.args.pass.view c.args.reader 0) c.args.link.now
      (HasMirroredSession-none (IsReadAs true) c.args.desk.0 (known c.args.pass.view c.args.reader 0));
}
