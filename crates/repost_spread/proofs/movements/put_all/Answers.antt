-- The next of the movements can be put among the others.
use Rattle.std.proofs.Common.{◌+◌, ◌-◌, ◌++◌, List, length, drop, refl, sym, ap, subst, arith}
use Rattle.stock_nums.specs.declared.entry.Entry.{Entry}
use Rattle.stock_model.proofs.Growth.{length-put}
use Rattle.quantity_check.specs.OwnPlaces.{HaveOwnPlaces}
use Rattle.quantity_check.proofs.OwnPlaceLemmas.{HaveOwnPlaces-step, put_all-step}
use Rattle.repost_index.specs.Indexed.{AreIndexed}
use Rattle.repost_laws.specs.Fetches.{AreDated}
use Rattle.repost_spread.specs.Movements.{entries_of}
use Rattle.repost_spread.proofs.Puts.{AreDated-step, CanBeIndexed-next, count-of, few-next, room-next, slots-step}
use Rattle.repost_spread.proofs.movements.put_all.Goals as goal

pub put-requires : goal.put-requires
put-requires c =
    let es = c.args.entries.now in
    let i = c.loop-entry.entry-index in
    let line = entries_of c.loop-entry.frontier.slots in
    let within = c.loop-entry-test.true in (
      refl,
      (
        c.loop-entry.invariant.indexed,
        (
          CanBeIndexed-next line es i c.entry-item.result within c.entry-item.is c.loop-entry.invariant.apart c.loop-entry.invariant.dated,
          (
            omega (arith, c.loop-entry.invariant.count, count-of c.args.frontier.now.slots, c.requires.few, within),
            (
              omega (arith, c.loop-entry.invariant.room, within),
              room-next (length es - i) c.loop-entry.index (omega (arith, within)) c.loop-entry.invariant.index_room,
            ),
          ),
        ),
      ),
    )

pub loop-entry-preserved : goal.loop-entry-preserved
loop-entry-preserved c =
    let es = c.args.entries.now in
    let i = c.loop-entry.entry-index in
    let e = c.entry-item.result in
    let slots = c.loop-entry.frontier.slots in
    let line = entries_of slots in
    let within = c.loop-entry-test.true in
    let made = c.put.ensures.line in
    let next = HaveOwnPlaces-step line es i e within c.entry-item.is c.loop-entry.invariant.apart in
    record {
      slots = slots-step slots c.put.new.frontier.slots c.args.frontier.now.slots es i e within c.entry-item.is c.put.ensures.slots c.loop-entry.invariant.slots;
      line = put_all-step line (entries_of c.put.new.frontier.slots) (entries_of c.args.frontier.now.slots) es i e within c.entry-item.is made c.loop-entry.invariant.line;
      apart = subst (λ (l : List Entry). HaveOwnPlaces (l ++ drop (i + 1) es)) (sym made) next.1;
      dated = subst (λ (l : List Entry). AreDated (l ++ drop (i + 1) es)) (sym made) (AreDated-step line es i e within c.entry-item.is c.loop-entry.invariant.dated);
      indexed = subst (λ (l : List Entry). AreIndexed l c.put.new.index) (sym made) c.put.ensures.indexed;
      room = omega (arith, c.loop-entry.invariant.room, c.put.ensures.room);
      index_room = few-next (length es) i c.loop-entry.index c.put.new.index within c.put.ensures.index_room c.loop-entry.invariant.index_room;
      count = omega (arith, c.loop-entry.invariant.count, ap (λ (l : List Entry). length l) made, length-put line e);
    }
