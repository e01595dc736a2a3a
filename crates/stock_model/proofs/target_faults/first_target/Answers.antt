use Rattle.std.proofs.Common.{◌+◌, ◌<◌, length, sym, ◌∙◌, arith}
use Rattle.stock_model.specs.Faults.{target_test}
use Rattle.stock_model.specs.VoucherLines.{targets_of}
use Rattle.stock_model.proofs.Numbered.{first_line-here, first_line-drop}
use Rattle.stock_model.proofs.target_faults.first_target.Goals as goal

pub overflow_cast-result : goal.overflow_cast-result
overflow_cast-result g c = omega (arith, c.requires, c.target_count-index-end.ensures)

pub overflow_add-result : goal.overflow_add-result
overflow_add-result g c = omega (arith, c.requires, c.target_count-index-end.ensures)

pub returns-then-has_at : goal.returns-then-has_at
returns-then-has_at g c =
    let test = target_test c.args.test (g.N.Names.journal c.args.names.now) in
    let i = c.loop-index.index in
    sym (first_line-here test (i + 1) i (targets_of c.args.what.now) (sym c.has_at.ensures ∙ c.if-has_at.true)) ∙ c.loop-index.invariant

pub loop-index-preserved : goal.loop-index-preserved
loop-index-preserved g c =
    let test = target_test c.args.test (g.N.Names.journal c.args.names.now) in
    let targets = targets_of c.args.what.now in
    let i = c.loop-index.index in
    let within : i < length targets = omega (arith, c.target_count-index-end.ensures) in
    sym (first_line-drop test (i + 1) i targets within (sym c.has_at.ensures ∙ c.if-has_at.false)) ∙ c.loop-index.invariant
