-- The record was kept, or it was refused for its first fault, or for its keeper.
use Rattle.std.proofs.Common.{◌≡◌, List, IfOk, refl, sym, subst}
use Rattle.stock_model.specs.History.{records}
use Rattle.stock_model.specs.PostReplies.{refusal}
use Rattle.stock_model.specs.declared.deeds.Deed.{Deed}
use Rattle.stock_model.specs.declared.answers.Answer.{Answer}
use Rattle.stock_model.specs.declared.requests.Request.TheVariants.{Post}
use Rattle.stock_model.specs.Run.{IsAnswerTo}
use Rattle.stock_batch.specs.Paces.{CallsKeeper}
use Rattle.stock_batch.proofs.KeeperCalls.{calls-accepted, calls-refused, stopped-refused}
use Rattle.stock_batch.proofs.Runs.{IsAnswerTo-accepted, IsAnswerTo-refusal}
use Rattle.stock_batch.proofs.answering.post.Goals as goal

pub returns-in-Ok-clause-answers : goal.returns-in-Ok-clause-answers
returns-in-Ok-clause-answers g c =
    subst (λ (answer : Answer). IsAnswerTo c.args.book.now.history (Post c.args.what) answer c.post.new.self.history) (sym c.told.ensures)
    (IsAnswerTo-accepted _ _ _ c.in-Ok.number refl c.in-Ok.ensures.sound c.in-Ok.ensures.kept c.in-Ok.ensures.number)

pub returns-in-Ok-clause-calls : goal.returns-in-Ok-clause-calls
returns-in-Ok-clause-calls g c =
    subst (λ (answer : Answer). CallsKeeper c.args.book.now answer c.post.new.self) (sym c.told.ensures)
    (calls-accepted c.args.book.now c.post.new.self _ c.in-Ok.number c.in-Ok.ensures.kept c.in-Ok.ensures.done)

pub returns-in-Err-clause-answers : goal.returns-in-Err-clause-answers
returns-in-Err-clause-answers g c =
    IsAnswerTo-refusal _ _ _ c.in-Err.fault c.refused.result refl c.in-Err.ensures.fault c.in-Err.ensures.unchanged
    (subst (λ (h : List Deed). IfOk c.refused.result (λ answer. answer ≡ refusal (records h) c.in-Err.fault)) c.book.ensures.history c.refused.ensures.answer)
    c.refused.ensures.text

pub returns-in-Err-clause-calls : goal.returns-in-Err-clause-calls
returns-in-Err-clause-calls g c =
    calls-refused c.refused.result c.args.book.now c.post.new.self _ c.in-Err.fault c.in-Err.ensures.unchanged c.in-Err.ensures.refused
    c.refused.ensures.answer c.refused.ensures.text

pub returns-in-Err-clause-stopped : goal.returns-in-Err-clause-stopped
returns-in-Err-clause-stopped g c = stopped-refused c.refused.result c.args.book.now c.post.new.self c.in-Err.fault c.in-Err.ensures.unchanged c.in-Err.ensures.refused
