use Rattle.std.proofs.Common.{◌≡◌, Bool, take, drop, suc, sym, ap, ◌∙◌, subst, add-one, ℕ}
use Rattle.std.specs.Prelude.{◌||◌}
use Rattle.std.specs.List.{list_any}
use Rattle.stock_model.specs.Faults.{name_one_line}
use Rattle.stock_model.specs.VoucherLines.{targets_of}
use Rattle.stock_model.proofs.Numbered.{any-drop}
use Rattle.stock_model.proofs.target_faults.is_among_first.Goals as goal

pub returns-then-is_line_at : goal.returns-then-is_line_at
returns-then-is_line_at c =
    let targets = targets_of c.args.what.now in
    let test = name_one_line c.args.named in
    let i = c.loop-index.index in
    sym (any-drop test i c.args.count targets c.loop-index-test.true ∙ ap (λ (b : Bool). b || list_any test (drop (suc i) (take c.args.count targets))) (sym c.is_line_at.ensures ∙ c.if-is_line_at.true))
    ∙ c.loop-index.invariant

pub loop-index-preserved : goal.loop-index-preserved
loop-index-preserved c =
    let targets = targets_of c.args.what.now in
    let test = name_one_line c.args.named in
    let i = c.loop-index.index in
    let step = any-drop test i c.args.count targets c.loop-index-test.true ∙ ap (λ (b : Bool). b || list_any test (drop (suc i) (take c.args.count targets))) (sym c.is_line_at.ensures ∙ c.if-is_line_at.false) in
    subst (λ (k : ℕ). list_any test (drop k (take c.args.count targets)) ≡ list_any test (take c.args.count targets)) (sym (add-one i)) (sym step ∙ c.loop-index.invariant)
