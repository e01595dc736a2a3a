-- One more share was added.
use Rattle.std.proofs.Common.{pos, get_or, take, map, sym, ap, ◌∙◌, ◌++◌, arith}
use Rattle.std.proofs.lemmas.List.{get_or_default}
use Rattle.std.specs.List.{zip}
use Rattle.stock_nums.specs.declared.cause.Target.{Target}
use Rattle.stock_nums.specs.declared.numbers.Minor.{Minor}
use Rattle.cost_links.specs.Charged.{amount, charge_pairs}
use Rattle.cost_links.specs.declared.charges.Charge.{Charge}
use Rattle.cost_links.proofs.ChargeSums.{zip-next, pairs-next}
use Rattle.generation_audit.proofs.charges.push_shares.Goals as goal

pub loop-index-preserved : goal.loop-index-preserved
loop-index-preserved c =
    let targets = c.args.targets.now in
    let parts = c.args.parts.now in
    let i = c.loop-index.index in
    let no_target : Target = record { voucher = record { 0 = 0 }; line = 0 } in
    let no_part : Minor = record { 0 = pos 0 } in
    let t : Target = get_or targets i no_target in
    let m : Minor = get_or parts i no_part in
    let within = c.loop-index-test.true in
    let charge : Charge = record { line = t; amount = m } in
    pairs-next c.loop-index.charges c.push.new.self charge (charge_pairs c.args.charges.now) (zip (take i targets) (map amount (take i parts))) c.in_ok-push.ensures.added c.loop-index.invariant
    ∙ ap (λ cs. charge_pairs c.args.charges.now ++ cs)
    (sym (zip-next targets parts i t m within c.requires.count (get_or_default targets i no_target t within) (get_or_default parts i no_part m (omega (arith, within, c.requires.count)))))
