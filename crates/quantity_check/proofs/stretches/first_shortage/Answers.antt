-- No more movements go than there are, and what is found first in all stretches is the first shortage.
use Rattle.std.proofs.Common.{Option, ◌∙◌, ap, arith}
use Rattle.stock_model.specs.declared.shortages.Shortage.{Shortage}
use Rattle.quantity_check.specs.Stretches.{earlier, shortage_by_adds}
use Rattle.quantity_check.proofs.StretchLemmas.{gone-split, first_of_stretches-shortage}
use Rattle.quantity_check.proofs.stretches.first_shortage.Goals as goal

pub shortage_by_adds-requires-clause-gone : goal.shortage_by_adds-requires-clause-gone
shortage_by_adds-requires-clause-gone c =
    omega (arith, c.requires.few, (gone-split c.args.line.now.entries c.args.gone.now c.requires.in_order c.requires.held c.requires.once).count)

pub shortage_by_gone-requires-clause-gone : goal.shortage_by_gone-requires-clause-gone
shortage_by_gone-requires-clause-gone c =
    omega (arith, c.requires.few, (gone-split c.args.line.now.entries c.args.gone.now c.requires.in_order c.requires.held c.requires.once).count)

pub returns : goal.returns
returns c =
    let line = c.args.line.now.entries in
    let adds = c.args.adds.now in
    let gone = c.args.gone.now in
    c.earlier.ensures
    ∙ ap (λ (s : Option Shortage). earlier s c.shortage_by_gone.result) c.shortage_by_adds.ensures
    ∙ ap (earlier (shortage_by_adds line adds gone)) c.shortage_by_gone.ensures
    ∙ first_of_stretches-shortage line adds gone c.requires.in_order c.requires.enough c.requires.apart c.requires.held c.requires.once
