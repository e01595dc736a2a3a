-- At the end all are forgotten.
use Rattle.std.proofs.Common.{◌≡◌, ◌≤◌, length, map, sym, ap, ◌∙◌, subst, arith}
use Rattle.stock_model.specs.InOrder.{IsInPostingOrder}
use Rattle.repost_frontier.specs.FrontierState.{FrontierState}
use Rattle.repost_frontier.specs.Slots.{slot_entry}
use Rattle.repost_frontier.proofs.Published.{published-all, length-published}
use Rattle.repost_frontier.proofs.SlotOrder.{entries-published}
use Rattle.repost_frontier.proofs.frontier.Frontier.forget_revalued.Goals as goal

pub loop-index-init : goal.loop-index-init
loop-index-init c = (ap (λ (s : FrontierState). s.slots) c.self.view_is, omega arith, ap (λ (s : FrontierState). s.spare) c.self.view_is)

pub loop-index-preserved : goal.loop-index-preserved
loop-index-preserved c =
    let slots = c.args.self.now.slots in
    let next = c.forget_next-index in
    let before = c.loop-index.invariant.0 in (
      next.ensures.slots slots before,
      omega (arith, next.ensures.within, ap length before, length-published slots c.loop-index.index),
      next.ensures.room ∙ c.loop-index.invariant.2,
    )

pub loop-index-smaller : goal.loop-index-smaller
loop-index-smaller c =
    let slots = c.args.self.now.slots in
    let before = c.loop-index.invariant.0 in
    omega (arith, c.forget_next-index.ensures.onward, c.forget_next-index.ensures.within, ap length before, length-published slots c.loop-index.index)

pub returns-clause-published : goal.returns-clause-published
returns-clause-published c =
    let slots = c.args.self.now.slots in
    let before = c.loop-index.invariant.0 in
    let past : length slots ≤ c.loop-index.index =
    omega (arith, c.loop-index-test.false, c.len.ensures, ap length before, length-published slots c.loop-index.index) in
    before ∙ published-all slots c.loop-index.index past

pub invariant_of-self : goal.invariant_of-self
invariant_of-self c =
    let told : map slot_entry c.loop-index.self-inside.list.items ≡ map slot_entry c.self.inside.list.items =
    ap (map slot_entry) (returns-clause-published c) ∙ entries-published c.args.self.now.slots
    ∙ sym (ap (λ (s : FrontierState). map slot_entry s.slots) c.self.view_is) in
    subst IsInPostingOrder (sym told) c.self.invariant

pub returns-clause-room : goal.returns-clause-room
returns-clause-room c = c.loop-index.invariant.2
