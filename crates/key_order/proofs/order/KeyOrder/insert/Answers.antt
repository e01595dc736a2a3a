-- The change goes in where its bound falls, and leaves the changes in order.
use Rattle.std.proofs.Common.{◌≡◌, List, length, sym, ap, ◌∙◌, subst, arith}
use Rattle.std.proofs.lemmas.List.Edits.{length-insert}
use Rattle.block_list.proofs.Sides.{point-from_sides}
use Rattle.key_order.specs.declared.change.Change.{Change}
use Rattle.key_order.specs.KeyOrderState.{KeyOrderState}
use Rattle.key_order.specs.KeyOrders.{AreInKeyOrder, HasNoneAt, put_change}
use Rattle.key_order.specs.KeyBounds.{is_before_place}
use Rattle.key_order.proofs.KeyOrdering.{is_before_place-back, IsPartitionedBy-back}
use Rattle.key_order.proofs.KeyPlaces.{put_change-at, AreInKeyOrder-put_change}
use Rattle.key_order.proofs.order.KeyOrder.insert.Goals as goal

pub invariant_of-self : goal.invariant_of-self
invariant_of-self c =
    let cs = c.self.inside.changes.items in
    let change = c.args.change in
    let told : cs ≡ c.args.self.now.changes = ap (λ (s : KeyOrderState). s.changes) c.self.view_is in
    let apart = subst (λ (l : List Change). HasNoneAt l change.key change.place) (sym told) c.requires.apart in
    let found = c.insert_before.ensures.items in
    let point = point-from_sides (is_before_place change.key change.place) cs found.0
    (IsPartitionedBy-back (is_before_place change.key change.place)
    (is_before_place-back change.key change.place) cs c.self.invariant.0) found.1 in
    let made : c.insert_before.new.self.items ≡ put_change cs change = found.2
    ∙ sym (put_change-at cs change found.0 found.1.within apart point) in
    let longer = ap length found.2 ∙ length-insert cs found.0 change found.1.within in (
      subst AreInKeyOrder (sym made) (AreInKeyOrder-put_change cs change c.self.invariant.0 apart),
      omega (arith, longer, ap length told, c.requires.few),
    )

pub returns-clause-put : goal.returns-clause-put
returns-clause-put c =
    let cs = c.self.inside.changes.items in
    let change = c.args.change in
    let told : cs ≡ c.args.self.now.changes = ap (λ (s : KeyOrderState). s.changes) c.self.view_is in
    let apart = subst (λ (l : List Change). HasNoneAt l change.key change.place) (sym told) c.requires.apart in
    let found = c.insert_before.ensures.items in
    let point = point-from_sides (is_before_place change.key change.place) cs found.0
    (IsPartitionedBy-back (is_before_place change.key change.place)
    (is_before_place-back change.key change.place) cs c.self.invariant.0) found.1 in
    found.2 ∙ sym (put_change-at cs change found.0 found.1.within apart point)
    ∙ ap (λ (l : List Change). put_change l change) told
