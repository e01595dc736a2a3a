-- The mirror shows the report, or the lock is asked after it.
use Rattle.std.proofs.Common.{Ok}
use Rattle.stock_model.specs.declared.requests.Request.TheVariants as request
use Rattle.desk_server.specs.Exchanging.{IsAskedAs}
use Rattle.mirrored_desk.proofs.InSteps.{responds-since}
use Rattle.mirrored_desk.proofs.exchanging.report.Goals as goal

pub returns-in-Ok-Report-clause-responds : goal.returns-in-Ok-Report-clause-responds
returns-in-Ok-Report-clause-responds g c =
    responds-since c.args.desk.0 c.args.close _ c.args.state.pass.view c.args.state.reader c.look-reader.result.reader c.args.state.printed.0 _
    (IsAskedAs (Ok (request.Report c.args.query))) c.look-reader.ensures.grows (c.show.ensures.responds c.args.desk.0)
