-- The next charge is no more than what is left, and is taken off.
use Rattle.std.proofs.Common.{ℕ, ◌-◌, pos, cond, get_or, ap, ◌∙◌, arith}
use Rattle.std.proofs.lemmas.List.{get_or_default}
use Rattle.stock_nums.specs.LineSums.{number_of}
use Rattle.stock_nums.specs.Targets.{is_same_target}
use Rattle.cost_links.specs.declared.charges.Charge.{Charge}
use Rattle.cost_links.proofs.ChargeSums.{charge-held, charge-off}
use Rattle.cost_links.proofs.charges.subtract_charges.Goals as goal

pub subtract-requires : goal.subtract-requires
subtract-requires c =
    let none : Charge = record { line = record { voucher = record { 0 = 0 }; line = 0 }; amount = record { 0 = pos 0 } } in
    let charges = c.args.charges.now in
    let i = c.loop-charge.charge-index in
    let charge : Charge = get_or charges i none in
    let held = charge-held charges i charge (number_of c.args.sums.now charge.line) (number_of c.loop-charge.sums charge.line) c.loop-charge-test.true
    (get_or_default charges i none charge c.loop-charge-test.true) (c.requires.within charge.line) (c.loop-charge.invariant charge.line) in
    record { within = omega (arith, held, c.amount.ensures.number) }

pub loop-charge-preserved : goal.loop-charge-preserved
loop-charge-preserved c = λ line.
    let none : Charge = record { line = record { voucher = record { 0 = 0 }; line = 0 }; amount = record { 0 = pos 0 } } in
    let charges = c.args.charges.now in
    let i = c.loop-charge.charge-index in
    let charge : Charge = get_or charges i none in
    charge-off charges i charge line (number_of c.args.sums.now line) (number_of c.loop-charge.sums line) (number_of c.subtract.new.self line) c.loop-charge-test.true
    (get_or_default charges i none charge c.loop-charge-test.true) (c.requires.within line) (c.loop-charge.invariant line)
    (c.subtract.ensures.taken line ∙ ap (λ (n : ℕ). number_of c.loop-charge.sums line - cond (is_same_target charge.line line) n 0) c.amount.ensures.number)
