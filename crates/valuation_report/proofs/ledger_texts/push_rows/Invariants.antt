-- What is held so far, the movements that were added, and those to come.
use Rattle.std.proofs.Common.{◌≡◌, ◌++◌, take, drop}
use Rattle.std.specs.List.{flat_map}
use Rattle.valuation_report.specs.GroupRows.{movements_after, own_movements}
use Rattle.valuation_report.specs.Holdings.{holding_of}
use Rattle.valuation_report.specs.Pieces.{ledger_piece}
use Rattle.valuation_report.proofs.ledger_texts.push_rows.Given as goal

abbrev pub invariant-loop-row : goal.invariant-loop-row
invariant-loop-row l =
    (l.holding ≡ holding_of (take l.row-index l.rows))
    × (l.text.items ++ flat_map (ledger_piece l.format) (movements_after l.item l.store (take l.row-index l.rows) (drop l.row-index l.rows))
    ≡ l.initial.text.items ++ flat_map (ledger_piece l.format) (own_movements l.item l.store l.rows))
