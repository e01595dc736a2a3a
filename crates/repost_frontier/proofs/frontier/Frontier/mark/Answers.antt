-- The mark reaches the one movement that stands at the place.
use Rattle.std.proofs.Common.{◌≡◌, map, sym, ap, ◌∙◌, subst}
use Rattle.stock_model.specs.InOrder.{IsInPostingOrder}
use Rattle.repost_frontier.specs.FrontierState.{FrontierState}
use Rattle.repost_frontier.specs.Slots.{slot_entry, marked, mark_change, marks}
use Rattle.repost_frontier.proofs.SlotOrder.{change-standing, mark_change-is, entries-marks}
use Rattle.repost_frontier.proofs.frontier.Frontier.mark.Goals as goal

pub invariant_of-self : goal.invariant_of-self
invariant_of-self c =
    let inside = c.self.inside.list.items in
    let place = c.args.place.now in
    let made : c.update_first_from.new.self.items ≡ marks inside place =
    change-standing marked (mark_change place) inside c.update_first_from.new.self.items place (mark_change-is place) c.self.invariant
    c.update_first_from.ensures.items in
    subst IsInPostingOrder (sym (ap (map slot_entry) made ∙ entries-marks inside place)) c.self.invariant

pub returns-clause-marked : goal.returns-clause-marked
returns-clause-marked c =
    let inside = c.self.inside.list.items in
    let place = c.args.place.now in
    change-standing marked (mark_change place) inside c.update_first_from.new.self.items place (mark_change-is place) c.self.invariant
    c.update_first_from.ensures.items
    ∙ ap (λ (s : FrontierState). marks s.slots place) c.self.view_is
