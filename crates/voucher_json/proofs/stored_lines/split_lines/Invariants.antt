-- The text begins with the lines so far, each with a comma behind it.
use Rattle.std.proofs.Common.{◌≡◌, ◌-◌, ◌++◌, length}
use denote.Text.{Utf8}
use denote.Shadow.{shadow}
use Rattle.voucher_json.specs.Tables.{line_data}
use Rattle.voucher_json.proofs.UsualRecords.{with_commas}
use Rattle.voucher_json.proofs.stored_lines.split_lines.Given as goal

abbrev pub invariant-loop-rest : goal.invariant-loop-rest
invariant-loop-rest g l = shadow (Utf8 l.rest) × (l.initial.text ≡ with_commas (line_data g.L.StoredLine.table) l.lines ++ l.rest)

abbrev pub decreases-loop-rest : goal.decreases-loop-rest
decreases-loop-rest g l = 100 - length l.lines
