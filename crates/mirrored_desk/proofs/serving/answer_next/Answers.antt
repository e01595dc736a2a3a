-- The body that waits at the front is answered, and the bytes of its response are written.
use Rattle.std.proofs.Common.{ℕ, true, List, sym, subst}
use Rattle.voucher_json.specs.Requests.{IsReadAs}
use Rattle.session_laws.specs.Sessions.{IsAsked}
use Rattle.desk_server.specs.Responding.{bytes_of}
use Rattle.desk_server.specs.Served.{body_of}
use Rattle.mirrored_desk.specs.Exchanging.{known, RespondsInStep}
use Rattle.mirrored_desk.proofs.serving.answer_next.Goals as goal

pub returns-clause-answered : goal.returns-clause-answered
returns-clause-answered g c =
    let exchanged = c.exchange-exchanged in
    let before = c.args.state in
    let after = exchanged.result.state in
    record {
      response = c.bytes-2.result.now;
      answered =
          subst (RespondsInStep c.args.desk.0 (known before.pass.view before.reader before.printed.0)
          (known after.pass.view after.reader after.printed.0)
          (IsAsked (IsReadAs true) (body_of c.args.inbox.now.bytes c.args.request)) c.args.request.close) (sym c.bytes-2.ensures)
          (subst (λ (bytes : List ℕ). RespondsInStep c.args.desk.0 (known before.pass.view before.reader before.printed.0)
          (known after.pass.view after.reader after.printed.0)
          (IsAsked (IsReadAs true) (body_of bytes c.args.request)) c.args.request.close (bytes_of exchanged.result.response))
          c.bytes.ensures exchanged.ensures.responds);
      wrote = c.write_response-end.ensures.written;
    }
