-- The rows that were added, and those of the entries to come.
use Rattle.std.proofs.Common.{◌≡◌, ◌++◌}
use Rattle.std.specs.List.{flat_map}
use Rattle.valuation_report.proofs.GroupsWritten.{entry_piece}
use Rattle.valuation_report.proofs.balance_sheet.push_balances.Given as goal

abbrev pub invariant-loop-key : goal.invariant-loop-key
invariant-loop-key l =
    let pieces = entry_piece l.query.format l.heads in
    l.text.items ++ flat_map pieces l.key-iterator ≡ l.initial.text.items ++ flat_map pieces l.initial.key-iterator
