-- The voucher was posted, and its answer could not be kept.
use Rattle.std.proofs.Common.{inr}
use Rattle.stock_batch.proofs.Batches.{on_err_of}
use Rattle.stock_import.proofs.import.Import.post.Goals as goal

pub returns-in_err-append_answer-clause-cut_short : goal.returns-in_err-append_answer-clause-cut_short
returns-in_err-append_answer-clause-cut_short g c =
    on_err_of _
    (inr (
      c.in_ok-answer.answer,
      record {
        answers = c.in_ok-answer.ensures.answers;
        calls = c.in_ok-answer.ensures.calls;
        pace = c.post.ensures.pace;
      },
    ))
