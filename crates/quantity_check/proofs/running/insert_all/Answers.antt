-- Each has a place where the line has none.
use Rattle.std.proofs.Common.{◌+◌, ◌++◌, List, length, drop, sym, ap, subst, arith}
use Rattle.stock_nums.specs.declared.entry.Entry.{Entry}
use Rattle.stock_model.proofs.Growth.{length-put}
use Rattle.quantity_check.specs.OwnPlaces.{HaveOwnPlaces}
use Rattle.quantity_check.proofs.OwnPlaceLemmas.{HaveOwnPlaces-step, put_all-step}
use Rattle.quantity_check.proofs.running.insert_all.Goals as goal

pub insert-requires-clause-apart : goal.insert-requires-clause-apart
insert-requires-clause-apart c =
    (HaveOwnPlaces-step c.loop-entry.line.entries c.args.entries.now c.loop-entry.entry-index c.entry-item.result c.loop-entry-test.true c.entry-item.is c.loop-entry.invariant.apart).0

pub loop-entry-preserved : goal.loop-entry-preserved
loop-entry-preserved c =
    let next = HaveOwnPlaces-step c.loop-entry.line.entries c.args.entries.now c.loop-entry.entry-index c.entry-item.result c.loop-entry-test.true c.entry-item.is c.loop-entry.invariant.apart in
    record {
      added = put_all-step c.loop-entry.line.entries c.insert.new.self.entries c.args.line.now.entries c.args.entries.now c.loop-entry.entry-index c.entry-item.result c.loop-entry-test.true c.entry-item.is c.insert.ensures.put c.loop-entry.invariant.added;
      apart = subst (λ (line : List Entry). HaveOwnPlaces (line ++ drop (c.loop-entry.entry-index + 1) c.args.entries.now)) (sym c.insert.ensures.put) next.1;
      room = omega (arith, c.loop-entry.invariant.room, c.insert.ensures.room);
      count = omega (arith, c.loop-entry.invariant.count, ap length c.insert.ensures.put, length-put c.loop-entry.line.entries c.entry-item.result);
    }
