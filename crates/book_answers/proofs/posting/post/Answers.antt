-- The record was kept, or it was refused for its first fault, or for its keeper.
use Rattle.std.proofs.Common.{sym, subst}
use Rattle.stock_model.specs.declared.answers.Answer.{Answer}
use Rattle.book_answers.specs.Posts.{Posts}
use Rattle.book_answers.proofs.PostAnswers.{Posts-accepted, Posts-refusal}
use Rattle.generation_book.proofs.Following.{follows-kept, follows-refused}
use Rattle.book_answers.proofs.posting.post.Goals as goal

pub returns-in-Ok-clause-posts : goal.returns-in-Ok-clause-posts
returns-in-Ok-clause-posts g c =
    subst (λ (answer : Answer). Posts c.args.desk.0 c.args.book.now.history c.args.what answer c.post.new.self.history) (sym c.told.ensures)
    (Posts-accepted _ _ _ c.in-Ok.number c.in-Ok.ensures.sound c.in-Ok.ensures.kept c.in-Ok.ensures.number)

pub returns-in-Err-clause-posts : goal.returns-in-Err-clause-posts
returns-in-Err-clause-posts g c =
    Posts-refusal _ _ _ c.in-Err.fault c.refused.result c.in-Err.ensures.fault c.in-Err.ensures.unchanged c.refused.ensures.answer
    c.refused.ensures.text

pub returns-in-Ok-clause-follows : goal.returns-in-Ok-clause-follows
returns-in-Ok-clause-follows g c =
    follows-kept c.args.book.now c.post.new.self _ c.in-Ok.ensures.kept c.in-Ok.ensures.done

pub returns-in-Err-clause-follows : goal.returns-in-Err-clause-follows
returns-in-Err-clause-follows g c =
    follows-refused c.args.book.now c.post.new.self c.in-Err.fault c.in-Err.ensures.unchanged c.in-Err.ensures.refused
