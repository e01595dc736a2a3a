-- What is left of movements in posting order is in posting order.
use Rattle.std.proofs.Common.{List, map, sym, ◌∙◌, subst}
use Rattle.stock_model.specs.InOrder.{IsInPostingOrder}
use Rattle.repost_frontier.specs.Slots.{slot_entry}
use Rattle.repost_frontier.specs.declared.slot.Slot.{Slot}
use Rattle.repost_frontier.proofs.SlotsLeft.{left-in_order}
use Rattle.repost_frontier.proofs.frontier.Frontier.remove.Goals as goal

pub invariant_of-self : goal.invariant_of-self
invariant_of-self c =
    subst (λ (slots : List Slot). IsInPostingOrder (map slot_entry slots)) (sym (c.remove.ensures.rest ∙ sym c.in_ok-index.ensures.rest))
    (left-in_order c.self.inside.list.items c.args.place.now c.self.invariant)

pub returns-clause-in_order : goal.returns-clause-in_order
returns-clause-in_order c = invariant_of-self c
