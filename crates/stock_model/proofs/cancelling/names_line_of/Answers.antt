use Rattle.std.proofs.Common.{◌+◌, Bool, drop, sym, ap, ◌∙◌}
use Rattle.std.specs.Prelude.{◌||◌}
use Rattle.std.specs.List.{list_any}
use Rattle.stock_model.specs.Cancelling.{is_line_of}
use Rattle.stock_model.specs.VoucherLines.{targets_of}
use Rattle.stock_model.proofs.Numbered.{any-drop_all}
use Rattle.stock_model.proofs.cancelling.names_line_of.Goals as goal

pub returns-then-is_line_of_at : goal.returns-then-is_line_of_at
returns-then-is_line_of_at c =
    let targets = targets_of c.args.what.now in
    let test = is_line_of c.args.number.0 in
    let i = c.loop-index.index in
    sym (any-drop_all test i targets ∙ ap (λ (b : Bool). b || list_any test (drop (i + 1) targets)) (sym c.is_line_of_at.ensures ∙ c.if-is_line_of_at.true))
    ∙ c.loop-index.invariant

pub loop-index-preserved : goal.loop-index-preserved
loop-index-preserved c =
    let targets = targets_of c.args.what.now in
    let test = is_line_of c.args.number.0 in
    let i = c.loop-index.index in
    sym (any-drop_all test i targets ∙ ap (λ (b : Bool). b || list_any test (drop (i + 1) targets)) (sym c.is_line_of_at.ensures ∙ c.if-is_line_of_at.false))
    ∙ c.loop-index.invariant
