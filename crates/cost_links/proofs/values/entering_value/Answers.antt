-- A receipt's value is in range.
use Rattle.std.proofs.Common.{◌≡◌, pos, ◌+ℤ◌, ap, arith}
use Rattle.std.proofs.lemmas.Int.{ints}
use Rattle.cost_links.specs.Taken.{taken_of, value_taken}
use Rattle.cost_links.proofs.RowSums.{bounds, amount-not_below}
use Rattle.cost_links.proofs.values.entering_value.Goals as goal

pub returns-in-Receipt : goal.returns-in-Receipt
returns-in-Receipt c = λ enters.
    let e = c.args.entry.now in
    let t = taken_of c.args.taken.now in
    let told : value_taken t e e.cause ≡ c.in-Receipt.amount.0 +ℤ pos t.charged = ap (value_taken t e) c.in-Receipt.is in
    omega (arith, ints, told, c.requires.charged_from_zero, bounds (value_taken t e e.cause) c.requires.taken.in_range, amount-not_below e c.in-Receipt.amount c.in-Receipt.is)
