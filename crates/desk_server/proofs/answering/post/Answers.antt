-- What was not accepted is still to be told, or memory was wanting for that.
use Rattle.std.proofs.Common.{refl}
use Rattle.stock_model.specs.declared.requests.Request.TheVariants as request
use Rattle.desk_server.proofs.Over.{over-not_accepted}
use Rattle.desk_server.proofs.answering.post.Goals as goal

pub returns-in-None-clause-answers : goal.returns-in-None-clause-answers
returns-in-None-clause-answers g c =
    over-not_accepted c.args.desk.0 (request.Post c.args.what) c.args.close c.args.book.now c.post.new.book
    c.args.what c.in-Ok.answer refl c.in-Ok.ensures.posts c.in-Ok.ensures.faults c.in-Ok.ensures.follows c.in-None.ensures
