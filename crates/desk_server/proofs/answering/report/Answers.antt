-- A report is still to be told, or memory was wanting for that.
use Rattle.desk_server.proofs.Over.{over-report}
use Rattle.desk_server.proofs.answering.report.Goals as goal

pub returns-in-Ok-clause-answers : goal.returns-in-Ok-clause-answers
returns-in-Ok-clause-answers g c =
    λ desk. over-report desk c.args.query c.args.close c.args.book.now c.in-Ok.answer c.in-Ok.ensures.answer
