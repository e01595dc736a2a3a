-- The movement's change goes where the movement goes in the line, and its moment is kept.
use Rattle.std.proofs.Common.{◌≡◌, ◌<◌, ◌^◌, Bool, not, length, sym, ap, ◌∙◌, subst, arith}
use Rattle.stock_nums.specs.Causes.{is_entering}
use Rattle.stock_nums.specs.declared.entry.Entry.{Entry}
use Rattle.stock_model.specs.Enough.{entry_key}
use Rattle.stock_model.specs.PostingOrder.{put}
use Rattle.stock_model.proofs.Growth.{length-put}
use Rattle.key_order.specs.Changes.{of_key, change_of, leaving_change}
use Rattle.key_order.specs.KeyOrders.{HasNoneAt, put_change}
use Rattle.key_order.specs.declared.change.Change.{Change}
use Rattle.posting_order.specs.KeyLines.{AreOf}
use Rattle.posting_order.proofs.KeyLines.{AreOf-length, AreOf-put, HasNoneAt-from_none}
use Rattle.posting_order.proofs.Places.{IsInPostingOrder-put}
use Rattle.repost_index.specs.Indexed.{AreIndexed}
use Rattle.repost_index.proofs.PutLines.{beside-put, beside-length, beside-apart, none-at, on-either, cond-not}
use Rattle.repost_index.proofs.PutMoments.{moments-put}
use Rattle.repost_index.proofs.index.Index.insert.Goals as goal

-- whether a movement enters, or leaves
abbrev enters : Entry → Bool
enters f = is_entering f.place.side

abbrev leaves : Entry → Bool
leaves f = not (is_entering f.place.side)

pub insert-requires-clause-few : goal.insert-requires-clause-few
insert-requires-clause-few g c =
    let indexed = subst (AreIndexed g.line) (sym c.self.view_is) c.requires.0 in
    omega (arith, AreOf-length g.line c.self.inside.keys.changes indexed.keys, c.requires.1.1.0)

pub insert-requires-clause-apart : goal.insert-requires-clause-apart
insert-requires-clause-apart g c =
    let e = c.args.entry.now in
    let cs = c.self.inside.keys.changes in
    let indexed = subst (AreIndexed g.line) (sym c.self.view_is) c.requires.0 in
    subst (λ (d : Change). HasNoneAt cs d.key d.place) (sym c.of.ensures)
    (HasNoneAt-from_none g.line cs e indexed.keys (none-at g.line e.place c.requires.1.0.apart))

pub insert-requires-2-clause-few : goal.insert-requires-2-clause-few
insert-requires-2-clause-few g c =
    let ranges = c.self.inside.ranges in
    let indexed = subst (AreIndexed g.line) (sym c.self.view_is) c.requires.0 in
    on-either (λ cs. length cs < 2 ^ 20) (is_entering c.args.entry.now.place.side) ranges.entering ranges.leaving
    (omega (arith, beside-length enters g.line ranges.entering indexed.entering, c.requires.1.1.0))
    (omega (arith, beside-length leaves g.line ranges.leaving indexed.leaving, c.requires.1.1.0))

pub insert-requires-2-clause-apart : goal.insert-requires-2-clause-apart
insert-requires-2-clause-apart g c =
    let e = c.args.entry.now in
    let ranges = c.self.inside.ranges in
    let indexed = subst (AreIndexed g.line) (sym c.self.view_is) c.requires.0 in
    on-either (λ cs. HasNoneAt cs (entry_key e) e.place) (is_entering e.place.side) ranges.entering ranges.leaving
    (beside-apart enters g.line ranges.entering (entry_key e) e.place indexed.entering c.requires.1.0.apart)
    (beside-apart leaves g.line ranges.leaving (entry_key e) e.place indexed.leaving c.requires.1.0.apart)

pub returns-clause-indexed : goal.returns-clause-indexed
returns-clause-indexed g c =
    let line = g.line in
    let e = c.args.entry.now in
    let cs = c.self.inside.keys.changes in
    let ranges = c.self.inside.ranges in
    let indexed = subst (AreIndexed line) (sym c.self.view_is) c.requires.0 in
    let keys : c.insert.new.self.changes ≡ put_change cs (change_of e) = c.insert.ensures.put ∙ ap (put_change cs) c.of.ensures in
    record {
      in_order = IsInPostingOrder-put line e indexed.in_order (none-at line e.place c.requires.1.0.apart);
      few = omega (arith, length-put line e, c.requires.1.1.0);
      keys = subst (AreOf (put line e)) (sym keys) (AreOf-put line cs e indexed.in_order c.insert.ensures.in_order indexed.keys);
      entering = λ key. ap (of_key key) c.insert-2.ensures.entering
          ∙ beside-put enters line e ranges.entering c.insert-2.ensures.entering_before.in_order indexed.in_order
          indexed.entering key;
      leaving = λ key. ap (of_key key) (c.insert-2.ensures.leaving
          ∙ sym (cond-not (is_entering e.place.side) (put_change ranges.leaving (leaving_change e)) ranges.leaving))
          ∙ beside-put leaves line e ranges.leaving c.insert-2.ensures.leaving_before.in_order indexed.in_order
          indexed.leaving key;
      moments = moments-put line e c.self.inside.moments.items c.keep.new.moments.items c.requires.1.0 c.keep.ensures.put
          indexed.moments;
    }
