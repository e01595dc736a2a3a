-- Those so far with those of the rest are all.
use Rattle.std.proofs.Common.{◌≡◌, ◌++◌, drop}
use Rattle.std.specs.List.{flat_map}
use Rattle.sheet_io.specs.Lines.{further_number}
use Rattle.sheet_io.proofs.lines.push_further.Given as goal

abbrev pub invariant-loop-number : goal.invariant-loop-number
invariant-loop-number l =
    l.text.items ++ flat_map further_number (drop l.number-index l.numbers) ≡ l.initial.text.items ++ flat_map further_number l.numbers
