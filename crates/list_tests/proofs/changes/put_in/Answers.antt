-- Where a change was taken out there is none.
use Rattle.std.proofs.Common.{List, sym, subst}
use Rattle.key_order.specs.declared.change.Change.{Change}
use Rattle.key_order.specs.KeyOrders.{HasNoneAt}
use Rattle.key_order.proofs.KeyPlaces.{HasNoneAt-without_change}
use Rattle.list_tests.proofs.changes.put_in.Goals as goal

pub insert-requires-clause-apart : goal.insert-requires-clause-apart
insert-requires-clause-apart c =
    let change = c.args.change in
    subst (λ (l : List Change). HasNoneAt l change.key change.place) (sym c.remove.ensures.rest)
    (HasNoneAt-without_change _ change.key change.place)
