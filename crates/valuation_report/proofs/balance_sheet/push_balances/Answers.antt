-- The entries are what is held, and their rows are the sheet's.
use Rattle.std.proofs.Common.{◌≡◌, ℕ, List, ◌++◌, sym, ap, ◌∙◌, append-nil}
use Rattle.std.specs.List.{flat_map}
use Rattle.stock_nums.specs.declared.entry.Key.{Key}
use Rattle.stock_nums.specs.declared.head.Head.{Head}
use Rattle.valuation_report.specs.declared.holdings.Holding.{Holding}
use Rattle.valuation_report.proofs.GroupLists.{holdings_of, holdings-are}
use Rattle.valuation_report.proofs.GroupsWritten.{entry_piece, holdings-written}
use Rattle.valuation_report.proofs.OwnRows.{AreHeld-own}
use Rattle.valuation_report.proofs.balance_sheet.push_balances.Goals as goal

pub holdings_by_key-requires-clause-held : goal.holdings_by_key-requires-clause-held
holdings_by_key-requires-clause-held c =
    record { at = λ key. AreHeld-own key c.args.selected.now.rows c.requires.bounded }

pub returns : goal.returns
returns c =
    let query = c.args.query.now in
    let chosen = c.args.selected.now in
    let heads = c.as_slice-heads.result.now in
    let rows = chosen.rows in
    let pieces = entry_piece query.format heads in
    let gives = c.into_iter-key-iterator.ensures.into_iter_gives in
    let none : c.loop-key.text.items ++ flat_map pieces c.loop-key.key-iterator ≡ c.loop-key.text.items =
    ap (λ (entries : List (Key × Holding)). c.loop-key.text.items ++ flat_map pieces entries) c.in-None.ensures.steps.0 ∙ append-nil c.loop-key.text.items in
    let all = ap (flat_map pieces) (gives.0 ∙ holdings-are query heads c.in_ok-by_key.by_key rows gives.5 c.in_ok-by_key.ensures)
    ∙ ap (λ (them : List Head). flat_map (entry_piece query.format them) (holdings_of query them rows)) c.as_slice-heads.ensures
    ∙ holdings-written query.format query chosen in
    record { is = sym none ∙ c.loop-key.invariant ∙ ap (λ (added : List ℕ). c.args.text.now.items ++ added) all }
