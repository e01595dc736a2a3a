-- What stands where the bound falls is taken out, if it is at the place; the others stay in order.
use Rattle.std.proofs.Common.{◌≡◌, List, length, not, slice_get, sym, ap, ◌∙◌, subst, arith}
use Rattle.std.proofs.lemmas.List.Edits.{length-remove}
use Rattle.std.proofs.lemmas.List.Kept.{AllPairs-filter}
use Rattle.block_list.proofs.Sides.{point-from_sides, sides-same}
use Rattle.key_order.specs.declared.change.Change.{Change}
use Rattle.key_order.specs.KeyOrderState.{KeyOrderState}
use Rattle.key_order.specs.KeyOrders.{AreInKeyOrder, is_change_at, without_change}
use Rattle.key_order.specs.KeyBounds.{is_before_place, is_some_at}
use Rattle.key_order.proofs.KeyOrdering.{Before, is_before_place-back, IsPartitionedBy-back}
use Rattle.key_order.proofs.KeyPlaces.{without_change-present, without_change-absent, within-some_at}
use Rattle.key_order.proofs.order.KeyOrder.remove.Goals as goal

pub remove-requires : goal.remove-requires
remove-requires c =
    let cs = c.self.inside.changes.items in
    let key = c.args.key in
    let place = c.args.place.now in
    let index = c.partition_point-index.result in
    let found = c.first_from.ensures in
    let parted = IsPartitionedBy-back (is_before_place key place) (is_before_place-back key place) cs c.self.invariant.0 in
    let same = sides-same (is_before_place key place) cs found.0 index parted found.1 c.partition_point-index.ensures.sides in
    let read = found.2 ∙ ap (slice_get cs) same in
    within-some_at cs key place index (ap (is_some_at key place) (sym read) ∙ sym c.is_at.ensures ∙ c.if-is_at.true)

pub invariant_of-self : goal.invariant_of-self
invariant_of-self c =
    let cs = c.self.inside.changes.items in
    let key = c.args.key in
    let place = c.args.place.now in
    let index = c.partition_point-index.result in
    let order = c.self.invariant.0 in
    let found = c.first_from.ensures in
    let parted = IsPartitionedBy-back (is_before_place key place) (is_before_place-back key place) cs order in
    let same = sides-same (is_before_place key place) cs found.0 index parted found.1 c.partition_point-index.ensures.sides in
    let read = found.2 ∙ ap (slice_get cs) same in
    let there = ap (is_some_at key place) (sym read) ∙ sym c.is_at.ensures ∙ c.if-is_at.true in
    let inside = within-some_at cs key place index there in
    let gone = without_change-present cs key place index order (c.partition_point-index.ensures.point parted) inside there in
    let made : c.remove.new.self.items ≡ without_change cs key place = c.remove.ensures.rest ∙ sym gone in
    let shorter = ap length c.remove.ensures.rest in
    let one = length-remove cs index inside in (
      subst AreInKeyOrder (sym made) (AllPairs-filter Before (λ d. not (is_change_at key place d)) cs order),
      omega (arith, shorter, one, c.self.invariant.1),
    )

pub returns-then-is_at-clause-rest : goal.returns-then-is_at-clause-rest
returns-then-is_at-clause-rest c =
    let cs = c.self.inside.changes.items in
    let key = c.args.key in
    let place = c.args.place.now in
    let index = c.partition_point-index.result in
    let order = c.self.invariant.0 in
    let told : cs ≡ c.args.self.now.changes = ap (λ (s : KeyOrderState). s.changes) c.self.view_is in
    let found = c.first_from.ensures in
    let parted = IsPartitionedBy-back (is_before_place key place) (is_before_place-back key place) cs order in
    let same = sides-same (is_before_place key place) cs found.0 index parted found.1 c.partition_point-index.ensures.sides in
    let read = found.2 ∙ ap (slice_get cs) same in
    let there = ap (is_some_at key place) (sym read) ∙ sym c.is_at.ensures ∙ c.if-is_at.true in
    c.remove.ensures.rest
    ∙ sym (without_change-present cs key place index order (c.partition_point-index.ensures.point parted)
    (within-some_at cs key place index there) there)
    ∙ ap (λ (l : List Change). without_change l key place) told

pub returns-else-is_at-clause-rest : goal.returns-else-is_at-clause-rest
returns-else-is_at-clause-rest c =
    let cs = c.self.inside.changes.items in
    let key = c.args.key in
    let place = c.args.place.now in
    let order = c.self.invariant.0 in
    let told : cs ≡ c.args.self.now.changes = ap (λ (s : KeyOrderState). s.changes) c.self.view_is in
    let found = c.first_from.ensures in
    let parted = IsPartitionedBy-back (is_before_place key place) (is_before_place-back key place) cs order in
    sym told
    ∙ sym (without_change-absent cs key place found.0 order
    (point-from_sides (is_before_place key place) cs found.0 parted found.1)
    (ap (is_some_at key place) (sym found.2) ∙ sym c.is_at.ensures ∙ c.if-is_at.false))
    ∙ ap (λ (l : List Change). without_change l key place) told
