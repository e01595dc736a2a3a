-- The previous change of the key is that of its previous movement.
use Rattle.std.proofs.Common.{◌≡◌, List, IfSome, IfNone, ap, ◌∙◌, subst}
use Rattle.stock_nums.specs.declared.entry.Entry.{Entry}
use Rattle.posting_order.specs.State.{TimelineState}
use Rattle.posting_order.specs.Timelines.{previous_place, IsPreviousPlace, HasNoneBefore}
use Rattle.posting_order.proofs.KeyQueries.{previous_place-change}
use Rattle.posting_order.proofs.Neighbours.{previous_place-answer}
use Rattle.posting_order.proofs.timeline.Timeline.prev_of_key.Goals as goal

pub returns : goal.returns
returns c =
    let es = c.self.inside.line.entries in
    let key = c.args.key in
    let place = c.args.place.now in
    let told : es ≡ c.args.self.now.entries = ap (λ (s : TimelineState). s.entries) c.self.view_is in
    let value = c.previous.ensures ∙ previous_place-change es c.self.inside.keys.changes key place c.self.invariant.same in
    let answer = previous_place-answer es key place c.previous.result c.self.invariant.in_order value in
    record {
      value = value ∙ ap (λ (fs : List Entry). previous_place fs key place) told;
      previous = subst (λ (fs : List Entry). IfSome c.previous.result (IsPreviousPlace fs key place)) told answer.0;
      first = subst (λ (fs : List Entry). IfNone c.previous.result (HasNoneBefore fs key place)) told answer.1;
    }
