use Rattle.std.proofs.Common.{◌≡◌, List, ◌++◌, sym, ap, ◌∙◌, subst, append_assoc, option_to_list}
use Rattle.stock_model.specs.declared.ledger_lines.GlLine.{GlLine}
use Rattle.stock_model.specs.LedgerLines.{gl_lines}
use Rattle.gl_lines.specs.Totals.{AreTotals}
use Rattle.gl_lines.proofs.totals.Totals.add_row.Goals as goal

pub returns-clause-added : goal.returns-clause-added
returns-clause-added c lines are =
    let first = option_to_list c.first.inside.first in
    let second = option_to_list c.first.inside.second in
    let third = option_to_list c.first.inside.third in
    let all : lines ++ gl_lines c.args.account.0 c.args.row.now ≡ ((lines ++ first) ++ second) ++ third =
    ap (λ (made : List GlLine). lines ++ made) (sym (c.first.view_is ∙ c.lines_of.ensures.lines))
    ∙ sym (append_assoc lines first (second ++ third)) ∙ sym (append_assoc (lines ++ first) second third) in
    subst (AreTotals c.add-3.new.self.by_account) (sym all)
    (c.in_ok-add-3.ensures ((lines ++ first) ++ second) (c.in_ok-add-2.ensures (lines ++ first) (c.in_ok-add.ensures lines are)))
