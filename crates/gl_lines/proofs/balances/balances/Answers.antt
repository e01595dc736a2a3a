use Rattle.std.proofs.Common.{◌≡◌, true, List, take, sym, ap, ◌∙◌, subst}
use Rattle.std.proofs.lemmas.List.{take_all}
use Rattle.std.proofs.lemmas.List.Sums.{AllPass-from_list_all}
use Rattle.stock_nums.specs.declared.entry.Row.{Row}
use Rattle.stock_model.specs.Accounts.{balances, balances_of}
use Rattle.stock_model.specs.Books.{has_lines}
use Rattle.stock_model.specs.LedgerLines.{all_lines}
use Rattle.gl_lines.proofs.balances.balances.Goals as goal

pub add_row-requires-clause-lines : goal.add_row-requires-clause-lines
add_row-requires-clause-lines c =
    subst (λ (row : Row). has_lines row ≡ true) (sym c.row-item.is)
    (AllPass-from_list_all has_lines c.args.rows.now c.requires.lines c.loop-row.row-index c.row-item.result c.loop-row-test.true)

pub returns : goal.returns
unfolding balances
returns c =
    c.in_ok-found.ensures (all_lines c.args.heads.now (take c.loop-row.row-index c.args.rows.now)) c.loop-row.invariant.1
    ∙ ap (λ (rows : List Row). balances_of (all_lines c.args.heads.now rows)) (take_all c.loop-row.row-index c.args.rows.now c.loop-row-test.false)
