-- Each status of the table has a phrase in http, and it is the table's.
use Rattle.std.proofs.Common.{◌≡◌, ap}
use Rattle.http.specs.StatusCode.{reason_phrase}
use Rattle.desk_wire.proofs.ResponseLemmas.{phrase_is}
use Rattle.desk_wire.proofs.response.phrase.Goals as goal

pub unreachable-requires-in-None : goal.unreachable-requires-in-None
unreachable-requires-in-None c =
    let known = phrase_is c.args.status c.requires in
    let same : reason_phrase c.in-Ok.code ≡ reason_phrase c.args.status = ap reason_phrase c.in-Ok.ensures.1 in
    cc (c.in-None.ensures.value, same, known)

pub returns : goal.returns
returns c =
    let known = phrase_is c.args.status c.requires in
    let same : reason_phrase c.in-Ok.code ≡ reason_phrase c.args.status = ap reason_phrase c.in-Ok.ensures.1 in
    cc (c.in-Some.ensures.value, same, known)
