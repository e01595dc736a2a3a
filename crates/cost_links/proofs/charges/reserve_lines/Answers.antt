-- There is room for one more charge.
use Rattle.std.proofs.Common.{pos, get_or, ◌∙◌}
use Rattle.std.proofs.lemmas.List.{get_or_default}
use Rattle.cost_links.specs.declared.charges.Charge.{Charge}
use Rattle.cost_links.proofs.ChargeSums.{room-next}
use Rattle.cost_links.proofs.charges.reserve_lines.Goals as goal

pub loop-charge-preserved : goal.loop-charge-preserved
loop-charge-preserved c =
    let none : Charge = record { line = record { voucher = record { 0 = 0 }; line = 0 }; amount = record { 0 = pos 0 } } in
    let charges = c.args.charges.now in
    let i = c.loop-charge.charge-index in
    let charge : Charge = get_or charges i none in
    record {
      same = λ line. c.reserve.ensures.same line ∙ c.loop-charge.invariant.same line;
      room = room-next c.reserve.new.self charges i charge c.loop-charge-test.true (get_or_default charges i none charge c.loop-charge-test.true)
          (λ other held. c.reserve.ensures.kept other.line (c.loop-charge.invariant.room other held)) c.in_ok-reserve.ensures.room;
    }
