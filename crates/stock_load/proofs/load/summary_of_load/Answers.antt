-- It is the summary of the book to which the script leads.
use Rattle.std.proofs.Common.{ap, ◌∙◌}
use Rattle.std.proofs.lemmas.Result.{IfOk-weaker}
use Rattle.stock_load.specs.Loads.{summary_text}
use Rattle.stock_load.proofs.load.summary_of_load.Goals as goal

pub returns : goal.returns
returns c =
    IfOk-weaker c.summary_text.result _ _
    (λ text is. (c.in_ok-book.book, c.in_ok-book.ensures, is ∙ ap summary_text c.book-2.ensures.history))
    c.summary_text.ensures
