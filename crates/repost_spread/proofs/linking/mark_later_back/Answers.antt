-- The next one is marked if it is a customer's return and comes after the place.
use Rattle.std.proofs.Common.{◌≡◌, Bool, true, false, cond, sym, ap, ◌∙◌}
use Rattle.std.proofs.lemmas.Bool.{and_from, and_left, and_right}
use Rattle.stock_nums.specs.Places.{is_before}
use Rattle.stock_model.specs.Conservation.{is_customer_return}
use Rattle.repost_frontier.specs.FrontierState.{FrontierState}
use Rattle.repost_frontier.specs.Slots.{marks}
use Rattle.repost_spread.specs.Spreads.{is_back_after}
use Rattle.repost_spread.proofs.TouchingReturns.{passing-step}
use Rattle.repost_spread.proofs.linking.mark_later_back.Goals as goal
use Rattle.repost_spread.proofs.linking.mark_later_back.Goals.{then-is_customer_return+then-is_before, else-is_customer_return, else-is_customer_return-via-then-is_customer_return+else-is_before, else-is_customer_return-via-else-is_customer_return}

pub loop-other-preserved : goal.loop-other-preserved
loop-other-preserved c =
    let place = c.args.place.now in
    let e = c.other-item.result in
    let was = c.loop-other.frontier.slots in
    let now = c.if-is_customer_return.frontier.slots in
    let back = is_customer_return e.cause in
    let after = is_before place e.place in
    let step = λ (passes : Bool) (does : is_back_after place e ≡ passes) (made : now ≡ cond passes (marks was e.place) was).
    passing-step (is_back_after place) was now c.args.frontier.now.slots c.args.movements.now c.loop-other.other-index e passes
    c.loop-other-test.true c.other-item.is does made c.loop-other.invariant in
    elim c.if-is_customer_return.branch [
      | then-is_customer_return+then-is_before w ↦
          step true (and_from back after (sym c.is_customer_return.ensures ∙ w.if-is_customer_return.true) (sym w.is_before.ensures ∙ w.if-is_before.true))
          (ap (λ (f : FrontierState). f.slots) w.frontier-is ∙ w.mark.ensures.marked)
      | else-is_customer_return w ↦
          let made = ap (λ (f : FrontierState). f.slots) w.frontier-is in
          elim w.else-is_customer_return.branch [
            | else-is_customer_return-via-then-is_customer_return+else-is_before w' ↦
                step false (and_right back after (sym w'.is_before.ensures ∙ w'.if-is_before.false)) made
            | else-is_customer_return-via-else-is_customer_return w' ↦
                step false (and_left back after (sym c.is_customer_return.ensures ∙ w'.if-is_customer_return.false)) made
          ]
    ]
