use Rattle.std.proofs.Common.{◌+◌, ◌<◌, length, take, sym, ◌∙◌, arith}
use Rattle.stock_model.specs.VoucherLines.{targets_of}
use Rattle.stock_model.proofs.Numbered.{repeated-here, repeated-drop}
use Rattle.stock_model.proofs.target_faults.first_repeated.Goals as goal

pub overflow_cast-result : goal.overflow_cast-result
overflow_cast-result c = omega (arith, c.requires, c.target_count-index-end.ensures)

pub overflow_add-result : goal.overflow_add-result
overflow_add-result c = omega (arith, c.requires, c.target_count-index-end.ensures)

pub returns-then-is_repeated_at : goal.returns-then-is_repeated_at
returns-then-is_repeated_at c =
    let targets = targets_of c.args.what.now in
    let i = c.loop-index.index in
    sym (repeated-here (take i targets) (i + 1) i targets (sym c.is_repeated_at.ensures ∙ c.if-is_repeated_at.true)) ∙ c.loop-index.invariant

pub loop-index-preserved : goal.loop-index-preserved
loop-index-preserved c =
    let targets = targets_of c.args.what.now in
    let i = c.loop-index.index in
    let within : i < length targets = omega (arith, c.target_count-index-end.ensures) in
    sym (repeated-drop (i + 1) i targets within (sym c.is_repeated_at.ensures ∙ c.if-is_repeated_at.false)) ∙ c.loop-index.invariant
