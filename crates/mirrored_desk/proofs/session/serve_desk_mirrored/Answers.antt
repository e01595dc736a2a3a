-- The peer was served, and then the link was ended.
use Rattle.std.proofs.Common.{true}
use Rattle.voucher_json.specs.Requests.{IsReadAs}
use Rattle.mirrored_sessions.specs.Sessions.{Known, HasMirroredSession}
use Rattle.desk_server.proofs.Ending.{serves-ended}
use Rattle.mirrored_desk.specs.Exchanging.{known}
use Rattle.mirrored_desk.proofs.session.serve_desk_mirrored.Goals as goal

pub returns-clause-serves : goal.returns-clause-serves
returns-clause-serves g c =
    let left = c.serve-left in
    let printed = left.ensures.serves.printed in
    record {
      printed = printed;
      served = serves-ended g.P.Source.left g.P.Source.taken g.P.Sink.written g.P.Source.faults (λ (k : Known). k.view)
          (HasMirroredSession (IsReadAs true) c.args.desk.0) (known c.args.pass.view c.args.reader 0) c.args.link.now
          (known left.result.pass.view left.result.reader printed) left.new.link c.end.new.self left.result.end left.ensures.serves.served
          c.end.ensures.left_kept c.end.ensures.taken_kept c.end.ensures.written_kept c.end.ensures.faults_kept;
    }

pub returns-clause-still_open : goal.returns-clause-still_open
returns-clause-still_open g c =
    let left = c.serve-left in
    record { link_then = left.new.link; still_open = left.ensures.still_open; served = left.ensures.serves }
