-- The rows that were added, and those of the groups to come.
use Rattle.std.proofs.Common.{◌≡◌, ◌++◌, drop}
use Rattle.std.specs.List.{flat_map}
use Rattle.valuation_report.specs.SheetPieces.{group_pieces}
use Rattle.valuation_report.proofs.sheets.push_each.Given as goal

abbrev pub invariant-loop-group : goal.invariant-loop-group
invariant-loop-group l =
    let pieces = group_pieces l.query.format l.query.sheet l.heads in
    l.text.items ++ flat_map pieces (drop l.group-index l.groups) ≡ l.initial.text.items ++ flat_map pieces l.groups
