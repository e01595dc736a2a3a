-- What was read of the body was answered.
use Rattle.std.proofs.Common.{true, Ok, Err}
use Rattle.voucher_json.specs.Requests.{IsReadAs}
use Rattle.desk_server.proofs.AtDesk.{read-of_desk}
use Rattle.mirrored_desk.proofs.InSteps.{responds-body}
use Rattle.mirrored_desk.proofs.exchanging.exchange.Goals as goal

pub answer_request-requires-clause-of_desk : goal.answer_request-requires-clause-of_desk
answer_request-requires-clause-of_desk g c = read-of_desk c.args.body.now c.in-Ok.request c.in-Ok.ensures.read

pub returns-in-Ok-clause-responds : goal.returns-in-Ok-clause-responds
returns-in-Ok-clause-responds g c =
    responds-body c.args.desk.0 c.args.close _ (IsReadAs true) c.args.body.now (Ok c.in-Ok.request) _ _ c.in-Ok.ensures.read
    c.answer_request.ensures.responds

pub returns-in-Err-clause-responds : goal.returns-in-Err-clause-responds
returns-in-Err-clause-responds g c =
    responds-body c.args.desk.0 c.args.close _ (IsReadAs true) c.args.body.now (Err c.in-Err.fault) _ _ c.in-Err.ensures.fault
    c.ask_lock.ensures.responds
