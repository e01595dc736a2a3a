-- The line is asked, and its one answer waits.
use Rattle.std.proofs.Common.{ℕ, List, sym, ◌∙◌, inl, inr}
use Rattle.std.proofs.lemmas.Result.{on_ok_weaker}
use Rattle.stock_batch.specs.OpenLines.{StandsForLine}
use Rattle.stock_batch.specs.Replies.{IsCutShort}
use Rattle.stock_batch.proofs.Batches.{AnswersLine-asked, on_err_of}
use Rattle.stock_batch.proofs.batch.Batch.answer_line.Goals as goal

pub returns-clause-answers : goal.returns-clause-answers
returns-clause-answers g c =
    on_ok_weaker c.append_answer.result
    (λ e line stands. AnswersLine-asked line _ _ _ _ c.in_ok-answer.answer (sym stands.blank ∙ c.if-self.false) (c.in_ok-answer.ensures.step line stands) c.in_ok-answer.ensures.keeps e)
    c.append_answer.ensures

pub returns-in_err-answer-clause-cut_short : goal.returns-in_err-answer-clause-cut_short
returns-in_err-answer-clause-cut_short g c =
    let cut : (line : List ℕ) → StandsForLine c.args.self.now.line line → IsCutShort line c.args.self.now.book c.answer_to.new.book =
    λ line stands. (sym stands.blank ∙ c.if-self.false, inl c.in_err-answer.ensures.stopped) in
    on_err_of _ cut

pub returns-clause-cut_short : goal.returns-clause-cut_short
returns-clause-cut_short g c =
    on_err_of c.append_answer.result
    (λ line stands. (sym stands.blank ∙ c.if-self.false, inr (c.in_ok-answer.answer, c.in_ok-answer.ensures.step line stands)))
