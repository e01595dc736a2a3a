-- The movements that are held have places of their own, and each more does.
use Rattle.std.proofs.Common.{◌≡◌, ◌++◌, List, [], None, take, refl, subst, arith}
use Rattle.std.proofs.lemmas.List.{take_all}
use Rattle.stock_nums.specs.declared.entry.Entry.{Entry}
use Rattle.posting_order.specs.Timelines.{entry_at}
use Rattle.quantity_check.specs.OwnPlaces.{HaveOwnPlaces}
use Rattle.quantity_check.proofs.OwnPlaceLemmas.{HaveOwnPlaces-put_all}
use Rattle.parts_bench.proofs.OwnPlaces.{HaveOwnPlaces-more}
use Rattle.parts_bench.proofs.posting.have_own_places.Goals as goal

pub loop-entry-init : goal.loop-entry-init
loop-entry-init c = record {
  count = refl;
  apart = HaveOwnPlaces-put_all c.args.running.now.entries [] c.timeline-line.ensures.in_order;
}

pub loop-entry-preserved : goal.loop-entry-preserved
loop-entry-preserved c = record {
  count = omega (arith, c.loop-entry.invariant.count);
  apart =
      HaveOwnPlaces-more c.args.running.now.entries c.args.entries.now c.loop-entry.entry-index c.entry-item.result c.loop-entry-test.true c.entry-item.is
      (subst (λ (es : List Entry). entry_at es c.entry-item.result.place ≡ None) c.timeline-line.ensures.entries (c.is_free.ensures.held c.if-not-is_free.false))
      (subst (λ k. entry_at (take k c.args.entries.now) c.entry-item.result.place ≡ None) c.loop-entry.invariant.count (c.is_free.ensures.others c.if-not-is_free.false))
      c.loop-entry.invariant.apart;
}

pub returns : goal.returns
returns c _ =
    subst (λ (es : List Entry). HaveOwnPlaces (c.args.running.now.entries ++ es)) (take_all c.loop-entry.entry-index c.args.entries.now c.loop-entry-test.false) c.loop-entry.invariant.apart
