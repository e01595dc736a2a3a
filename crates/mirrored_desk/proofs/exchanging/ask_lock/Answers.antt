-- What the lock answers is one step, in which nothing is read.
use Rattle.std.proofs.Common.{arith}
use Rattle.desk_server.specs.Exchanging.{IsAskedAs}
use Rattle.mirrored_desk.proofs.InSteps.{responds-locked}
use Rattle.mirrored_desk.proofs.exchanging.ask_lock.Goals as goal

pub returns-clause-responds : goal.returns-clause-responds
returns-clause-responds g c =
    let answered = c.answer_read-answered in
    responds-locked c.args.desk.0 c.args.close _ c.args.state.pass.view answered.result.pass.view c.args.state.reader c.args.state.printed.0
    answered.result.covered.0 _ (IsAskedAs c.args.read) answered.ensures.responds (omega (arith, c.max.ensures))
