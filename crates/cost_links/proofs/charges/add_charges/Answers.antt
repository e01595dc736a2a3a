-- There is room for the next charge, and it fits.
use Rattle.std.proofs.Common.{pos, get_or, arith}
use Rattle.std.proofs.lemmas.List.{get_or_default}
use Rattle.std.proofs.lemmas.List.Elements.{Contains-get_or}
use Rattle.stock_nums.specs.LineSums.{number_of}
use Rattle.cost_links.specs.declared.charges.Charge.{Charge}
use Rattle.cost_links.proofs.ChargeSums.{charge-fits}
use Rattle.cost_links.proofs.charges.add_charges.Goals as goal

pub add-requires-clause-room : goal.add-requires-clause-room
add-requires-clause-room c =
    let none : Charge = record { line = record { voucher = record { 0 = 0 }; line = 0 }; amount = record { 0 = pos 0 } } in
    let i = c.loop-charge.charge-index in
    c.loop-charge.invariant.room (get_or c.args.charges.now i none) (Contains-get_or c.args.charges.now i none c.loop-charge-test.true)

pub add-requires-clause-fits : goal.add-requires-clause-fits
add-requires-clause-fits c =
    let none : Charge = record { line = record { voucher = record { 0 = 0 }; line = 0 }; amount = record { 0 = pos 0 } } in
    let charges = c.args.charges.now in
    let i = c.loop-charge.charge-index in
    let charge : Charge = get_or charges i none in
    let fits = charge-fits charges i charge _ (number_of c.loop-charge.sums charge.line) c.loop-charge-test.true (get_or_default charges i none charge c.loop-charge-test.true) (c.loop-charge.invariant.all charge.line) in
    omega (arith, fits, c.requires.fits charge.line, c.amount.ensures.number)
