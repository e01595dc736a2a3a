-- What is left of movements in posting order is in posting order.
use Rattle.std.proofs.Common.{sym, subst}
use Rattle.std.proofs.lemmas.List.Quantifiers.{all_pairs_remove}
use Rattle.stock_model.specs.InOrder.{IsBefore, IsInPostingOrder}
use Rattle.posting_order.proofs.entry_line.EntryLine.remove.Goals as goal

pub invariant_of-self : goal.invariant_of-self
invariant_of-self c =
    subst IsInPostingOrder (sym c.remove.ensures.rest) (all_pairs_remove IsBefore c.self.inside.list.items c.in_ok-index.index c.in_ok-index.ensures.found.0 c.self.invariant)

pub returns-clause-in_order : goal.returns-clause-in_order
returns-clause-in_order c = invariant_of-self c
