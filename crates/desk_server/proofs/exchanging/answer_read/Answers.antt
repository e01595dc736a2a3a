-- A request gets a turn, and what is no request gets none.
use Rattle.desk_server.proofs.Bodies.{responds-turn, responds-quiet}
use Rattle.desk_server.proofs.exchanging.answer_read.Goals as goal

pub returns-in-Ok-clause-responds : goal.returns-in-Ok-clause-responds
returns-in-Ok-clause-responds g c =
    rw c.in-Ok.is (responds-turn c.args.desk.0 c.args.close _ _ c.args.pass.view c.take_turn.result.pass.view c.in-Ok.request
    c.take_turn.ensures.responds)

pub returns-in-Err-clause-responds : goal.returns-in-Err-clause-responds
returns-in-Err-clause-responds g c =
    rw c.in-Err.is (responds-quiet c.args.desk.0 c.args.close _ 0 c.args.pass.view c.in-Err.fault c.bad_response.ensures)
