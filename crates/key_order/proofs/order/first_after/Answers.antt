-- The start of the key, or a place of it.
use Rattle.std.proofs.Common.{Option, sym, subst}
use Rattle.stock_nums.specs.declared.place.Place.{Place}
use Rattle.block_list.proofs.Sides.{point-from_sides}
use Rattle.key_order.specs.KeyBounds.{is_before_key, is_up_to_place, is_up_to_start_of}
use Rattle.key_order.proofs.KeyOrdering.{is_before_key-back, is_up_to_place-back, IsPartitionedBy-back}
use Rattle.key_order.proofs.KeyPoints.{IsPoint}
use Rattle.key_order.proofs.order.first_after.Goals as goal

pub returns-in-Some : goal.returns-in-Some
returns-in-Some c =
    let cs = c.args.changes.now.items in
    let key = c.args.key in
    let place = c.in-Some.place in
    let found = c.first_from.ensures in
    let parted = IsPartitionedBy-back (is_up_to_place key place) (is_up_to_place-back key place) cs c.requires in (
      found.0,
      subst (λ (from : Option Place). IsPoint (is_up_to_start_of key from) cs found.0) (sym c.in-Some.is)
          (point-from_sides (is_up_to_place key place) cs found.0 parted found.1),
      found.2,
    )

pub returns-in-None : goal.returns-in-None
returns-in-None c =
    let cs = c.args.changes.now.items in
    let key = c.args.key in
    let found = c.first_from-in-None.ensures in
    let parted = IsPartitionedBy-back (is_before_key key) (is_before_key-back key) cs c.requires in (
      found.0,
      subst (λ (from : Option Place). IsPoint (is_up_to_start_of key from) cs found.0) (sym c.in-None.is)
          (point-from_sides (is_before_key key) cs found.0 parted found.1),
      found.2,
    )
