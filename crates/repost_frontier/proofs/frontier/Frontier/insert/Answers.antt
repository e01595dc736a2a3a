-- The movement goes in after all those that do not come after it.
use Rattle.std.proofs.Common.{◌≡◌, List, None, map, insert, sym, ap, ◌∙◌, subst}
use Rattle.stock_model.specs.InOrder.{IsInPostingOrder}
use Rattle.repost_frontier.specs.FrontierState.{FrontierState}
use Rattle.repost_frontier.specs.Slots.{slot_entry, slot_at, put_slot, new_slot}
use Rattle.repost_frontier.specs.declared.slot.Slot.{Slot}
use Rattle.repost_frontier.proofs.SlotOrder.{put_slot-sides, put_slot-in_order, entries-put_slot}
use Rattle.repost_frontier.proofs.frontier.Frontier.insert.Goals as goal

pub invariant_of-self : goal.invariant_of-self
invariant_of-self c =
    let inside = c.self.inside.list.items in
    let e = c.args.entry in
    let told : inside ≡ c.args.self.now.slots = ap (λ (s : FrontierState). s.slots) c.self.view_is in
    let found = c.insert_before.ensures.items in
    let made : c.insert_before.new.self.items ≡ put_slot inside (new_slot e) =
    put_slot-sides inside c.insert_before.new.self.items (new_slot e) c.self.invariant
    (found.0, found.1, found.2 ∙ ap (insert inside found.0) c.new.ensures) in
    let none : slot_at inside e.place ≡ None = ap (λ (slots : List Slot). slot_at slots e.place) told ∙ c.requires.apart in
    subst (λ (slots : List Slot). IsInPostingOrder (map slot_entry slots)) (sym made) (put_slot-in_order inside (new_slot e) c.self.invariant none)

pub returns-clause-put : goal.returns-clause-put
returns-clause-put c =
    let inside = c.self.inside.list.items in
    let e = c.args.entry in
    let told : inside ≡ c.args.self.now.slots = ap (λ (s : FrontierState). s.slots) c.self.view_is in
    let found = c.insert_before.ensures.items in
    put_slot-sides inside c.insert_before.new.self.items (new_slot e) c.self.invariant
    (found.0, found.1, found.2 ∙ ap (insert inside found.0) c.new.ensures)
    ∙ ap (λ (slots : List Slot). put_slot slots (new_slot e)) told

pub returns-clause-entries : goal.returns-clause-entries
returns-clause-entries c =
    ap (map slot_entry) (returns-clause-put c) ∙ entries-put_slot c.args.self.now.slots (new_slot c.args.entry)

pub returns-clause-in_order : goal.returns-clause-in_order
returns-clause-in_order c = invariant_of-self c
