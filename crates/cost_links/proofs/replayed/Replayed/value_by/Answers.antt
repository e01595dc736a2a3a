-- A receipt's value is in range.
use Rattle.std.proofs.Common.{◌≡◌, pos, ◌+ℤ◌, ap, ◌∙◌, arith}
use Rattle.std.proofs.lemmas.Int.{ints}
use Rattle.stock_model.specs.LandedCost.{added}
use Rattle.stock_model.specs.Values.{own_line, value_by}
use Rattle.cost_links.proofs.RowSums.{receipt-bounds}
use Rattle.cost_links.proofs.replayed.Replayed.value_by.Goals as goal

pub returns-in-Receipt : goal.returns-in-Receipt
returns-in-Receipt c = λ enters.
    let journal = c.args.charges.now.records.now in
    let e = c.args.entry.now in
    let told : value_by journal c.args.self.now e e.cause ≡ c.in-Receipt.amount.0 +ℤ pos (added journal (own_line e)) = ap (value_by journal c.args.self.now e) c.in-Receipt.is in
    let charged : c.of.result ≡ added journal (own_line e) = c.of.ensures ∙ ap (added journal) c.own_line.ensures in
    let small = receipt-bounds journal c.args.self.now e c.in-Receipt.amount c.requires c.in-Receipt.is in
    omega (arith, ints, told, charged, small)
