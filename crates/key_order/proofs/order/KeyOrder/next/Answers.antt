-- The change where the bound falls, if it is of the key.
use Rattle.std.proofs.Common.{ap, ◌∙◌}
use Rattle.key_order.specs.Changes.{next_change}
use Rattle.key_order.specs.KeyOrderState.{KeyOrderState}
use Rattle.key_order.specs.KeyBounds.{place_of_key}
use Rattle.key_order.proofs.KeyRuns.{next_change-at}
use Rattle.key_order.proofs.order.KeyOrder.next.Goals as goal

pub returns : goal.returns
returns c =
    let cs = c.self.inside.changes.items in
    let key = c.args.key in
    let from = c.args.from in
    let found = c.first_after.ensures in
    c.place_of.ensures ∙ ap (place_of_key key) found.2
    ∙ next_change-at cs key from found.0 c.self.invariant.0 found.1
    ∙ ap (λ (s : KeyOrderState). next_change s.changes key from) c.self.view_is
