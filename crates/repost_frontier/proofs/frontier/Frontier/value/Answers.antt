-- The value reaches the one movement that stands at the place.
use Rattle.std.proofs.Common.{◌≡◌, map, sym, ap, ◌∙◌, subst}
use Rattle.stock_model.specs.InOrder.{IsInPostingOrder}
use Rattle.repost_frontier.specs.FrontierState.{FrontierState}
use Rattle.repost_frontier.specs.Slots.{slot_entry, with_found, value_change, with_value}
use Rattle.repost_frontier.proofs.SlotOrder.{change-standing, value_change-is, entries-with_value}
use Rattle.repost_frontier.proofs.frontier.Frontier.value.Goals as goal

pub invariant_of-self : goal.invariant_of-self
invariant_of-self c =
    let inside = c.self.inside.list.items in
    let place = c.args.place.now in
    let found = c.args.found in
    let made : c.update_first_from.new.self.items ≡ with_value inside place found =
    change-standing (with_found found) (value_change place found) inside c.update_first_from.new.self.items place (value_change-is place found)
    c.self.invariant c.update_first_from.ensures.items in
    subst IsInPostingOrder (sym (ap (map slot_entry) made ∙ entries-with_value inside place found)) c.self.invariant

pub returns-clause-valued : goal.returns-clause-valued
returns-clause-valued c =
    let inside = c.self.inside.list.items in
    let place = c.args.place.now in
    let found = c.args.found in
    change-standing (with_found found) (value_change place found) inside c.update_first_from.new.self.items place (value_change-is place found)
    c.self.invariant c.update_first_from.ensures.items
    ∙ ap (λ (s : FrontierState). with_value s.slots place found) c.self.view_is
