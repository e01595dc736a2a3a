-- The next change of the key is that of its next movement.
use Rattle.std.proofs.Common.{◌≡◌, List, IfSome, IfNone, ap, ◌∙◌, subst}
use Rattle.stock_nums.specs.declared.entry.Entry.{Entry}
use Rattle.posting_order.specs.State.{TimelineState}
use Rattle.posting_order.specs.Timelines.{next_place, IsNextPlace, HasNoneAfter}
use Rattle.posting_order.proofs.KeyQueries.{next_place-change}
use Rattle.posting_order.proofs.Neighbours.{next_place-answer}
use Rattle.posting_order.proofs.timeline.Timeline.next_of_key.Goals as goal

pub returns : goal.returns
returns c =
    let es = c.self.inside.line.entries in
    let key = c.args.key in
    let place = c.args.place.now in
    let told : es ≡ c.args.self.now.entries = ap (λ (s : TimelineState). s.entries) c.self.view_is in
    let value = c.next.ensures ∙ next_place-change es c.self.inside.keys.changes key place c.self.invariant.same in
    let answer = next_place-answer es key place c.next.result c.self.invariant.in_order value in
    record {
      value = value ∙ ap (λ (fs : List Entry). next_place fs key place) told;
      next = subst (λ (fs : List Entry). IfSome c.next.result (IsNextPlace fs key place)) told answer.0;
      last = subst (λ (fs : List Entry). IfNone c.next.result (HasNoneAfter fs key place)) told answer.1;
    }
