-- The differences were told, and then the issue and the receipt posted in turn.
use Rattle.std.proofs.Common.{ℤ, List, ◌++◌, inr, ap, ◌∙◌}
use Rattle.std.proofs.lemmas.Result.{on_ok_weaker, on_err_weaker}
use Rattle.sheet_io.specs.Lines.{diffs_line}
use Rattle.stock_import.proofs.Posts.{counted, cut-receipt}
use Rattle.stock_import.proofs.import.Import.correct.Goals as goal

pub returns-clause-counted : goal.returns-clause-counted
returns-clause-counted g c =
    on_ok_weaker c.post_if.result
    (λ posted. counted c.args.self.now.book c.post_some.new.self.book c.post_if.new.self.book c.args.plan c.args.self.now.waiting.items
    c.push_diffs.new.text.items c.post_some.new.self.waiting.items c.post_if.new.self.waiting.items c.in_ok-accepted.accepted
    (c.in_ok-push_diffs.ensures ∙ ap (λ (diffs : List ℤ). c.args.self.now.waiting.items ++ diffs_line diffs) c.as_slice.ensures) c.in_ok-accepted.ensures.posted posted) c.post_if.ensures.posted

pub returns-clause-cut_short : goal.returns-clause-cut_short
returns-clause-cut_short g c =
    on_err_weaker c.post_if.result
    (λ cut. inr (cut-receipt c.args.self.now.book c.post_some.new.self.book c.post_if.new.self.book c.args.plan
    c.push_diffs.new.text.items c.post_some.new.self.waiting.items c.in_ok-accepted.accepted c.in_ok-accepted.ensures.posted cut.0 cut.1))
    c.post_if.ensures.cut_short
