-- What is charged fits, and what was added is what the vouchers in force charge.
use Rattle.std.proofs.Common.{ap, ◌∙◌, arith}
use Rattle.cost_links.specs.Charged.{charge_pairs, charged_to}
use Rattle.cost_links.proofs.LinkSteps.{added-le}
use Rattle.generation_audit.proofs.charges.Charges.new.Goals as goal

pub add-requires : goal.add-requires
add-requires c = record {
  fits = λ line.
      let all = ap (λ cs. charged_to line (charge_pairs cs)) c.as_slice.ensures ∙ ap (charged_to line) c.in_ok-charges.ensures in
      omega (arith, all, added-le c.args.records.now line, c.requires, c.new-links.ensures.charges line);
}

pub invariant_of-result : goal.invariant_of-result
invariant_of-result c = record {
  stands = λ line.
      let all = ap (λ cs. charged_to line (charge_pairs cs)) c.as_slice.ensures ∙ ap (charged_to line) c.in_ok-charges.ensures in
      omega (arith, all, c.in_ok-add.ensures.charges line, c.new-links.ensures.charges line);
}
