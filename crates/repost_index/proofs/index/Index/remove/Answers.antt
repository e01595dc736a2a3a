-- The movement's change goes with the movement, and the moments of those that are left are kept.
use Rattle.std.proofs.Common.{◌≡◌, Bool, not, length, sym, ap, ◌∙◌, subst, arith}
use Rattle.std.proofs.lemmas.List.Kept.{AllPairs-filter}
use Rattle.stock_nums.specs.Causes.{is_entering}
use Rattle.stock_nums.specs.declared.entry.Entry.{Entry}
use Rattle.stock_nums.specs.declared.entry.Key.{Key}
use Rattle.stock_model.specs.Enough.{entry_key}
use Rattle.stock_model.specs.InOrder.{IsBefore}
use Rattle.stock_model.proofs.Pairwise.{Pairwise-from_AllPairs}
use Rattle.stock_laws.proofs.LiveEntries.{length-filter-le}
use Rattle.key_order.specs.Changes.{of_key}
use Rattle.key_order.specs.KeyOrders.{without_change}
use Rattle.posting_order.specs.KeyLines.{AreOf}
use Rattle.posting_order.specs.Timelines.{is_at, without}
use Rattle.posting_order.proofs.KeyLines.{AreOf-without}
use Rattle.repost_laws.proofs.Filtered.{Contains-filtered}
use Rattle.repost_index.specs.Indexed.{AreIndexed}
use Rattle.repost_index.proofs.LeftLines.{found-held, beside-without}
use Rattle.repost_index.proofs.PutLines.{cond-not}
use Rattle.repost_index.proofs.index.Index.remove.Goals as goal

abbrev enters : Entry → Bool
enters f = is_entering f.place.side

abbrev leaves : Entry → Bool
leaves f = not (is_entering f.place.side)

pub returns-clause-indexed : goal.returns-clause-indexed
returns-clause-indexed g c =
    let line = g.line in
    let e = c.args.entry.now in
    let cs = c.self.inside.keys.changes in
    let ranges = c.self.inside.ranges in
    let left : Entry → Bool = λ f. not (is_at e.place f) in
    let indexed = subst (AreIndexed line) (sym c.self.view_is) c.requires.0 in
    let keys : c.remove.new.self.changes ≡ without_change cs (entry_key e) e.place =
    c.remove.ensures.rest ∙ ap (λ (k : Key). without_change cs k e.place) c.key_of.ensures in
    let found = found-held line e (Pairwise-from_AllPairs IsBefore line indexed.in_order) c.requires.1 in
    record {
      in_order = AllPairs-filter IsBefore left line indexed.in_order;
      few = omega (arith, length-filter-le left line, indexed.few);
      keys = subst (AreOf (without line e.place)) (sym keys) (AreOf-without line cs e.place e indexed.in_order indexed.keys found);
      entering = λ key. ap (of_key key) c.remove-2.ensures.entering
          ∙ beside-without enters line e ranges.entering indexed.in_order c.requires.1 indexed.entering key;
      leaving = λ key. ap (of_key key) (c.remove-2.ensures.leaving
          ∙ sym (cond-not (is_entering e.place.side) (without_change ranges.leaving (entry_key e) e.place) ranges.leaving))
          ∙ beside-without leaves line e ranges.leaving indexed.in_order c.requires.1 indexed.leaving key;
      moments = λ f held. indexed.moments f (Contains-filtered left line f held).0;
    }
