-- The next of the movements is there, and the rest still is once it is taken out.
use Rattle.std.proofs.Common.{◌+◌, List, ◌∷◌, drop, refl, sym, ap, ◌∙◌, subst}
use Rattle.stock_nums.specs.declared.entry.Entry.{Entry}
use Rattle.stock_model.proofs.Pairwise.{Contains-first, AllPairs-from_Pairwise, Pairwise-from_AllPairs}
use Rattle.quantity_check.specs.OwnPlaces.{StandApart, HaveOwnPlaces}
use Rattle.repost_frontier.specs.declared.slot.Slot.{Slot}
use Rattle.repost_index.specs.Indexed.{AreIndexed}
use Rattle.repost_spread.specs.Movements.{entries_of}
use Rattle.repost_spread.specs.Removing.{slots_but_all, line_but_all}
use Rattle.repost_spread.proofs.LeftOnes.{Holds, held-after}
use Rattle.repost_spread.proofs.Puts.{rest-is}
use Rattle.repost_spread.proofs.movements.take_all.Goals as goal

pub take-requires : goal.take-requires
take-requires c =
    let gone = c.args.gone.now in
    let i = c.loop-entry.entry-index in
    let e = c.entry-item.result in
    let line = entries_of c.loop-entry.frontier.slots in
    let rest = rest-is gone i e c.loop-entry-test.true c.entry-item.is in
    let held = subst (λ (es : List Entry). Holds line es) rest c.loop-entry.invariant.held in
    (refl, (c.loop-entry.invariant.indexed, held e (Contains-first e (drop (i + 1) gone))))

pub loop-entry-preserved : goal.loop-entry-preserved
loop-entry-preserved c =
    let gone = c.args.gone.now in
    let i = c.loop-entry.entry-index in
    let e = c.entry-item.result in
    let slots = c.loop-entry.frontier.slots in
    let line = entries_of slots in
    let later = drop (i + 1) gone in
    let rest = rest-is gone i e c.loop-entry-test.true c.entry-item.is in
    let held = subst (λ (es : List Entry). Holds line es) rest c.loop-entry.invariant.held in
    let apart = subst HaveOwnPlaces rest c.loop-entry.invariant.apart in
    let left = c.take.ensures.line in
    record {
      slots = ap (λ (l : List Slot). slots_but_all l later) c.take.ensures.slots ∙ ap (slots_but_all slots) (sym rest) ∙ c.loop-entry.invariant.slots;
      line = ap (λ (l : List Entry). line_but_all l later) left ∙ ap (line_but_all line) (sym rest) ∙ c.loop-entry.invariant.line;
      held = subst (λ (l : List Entry). Holds l later) (sym left) (held-after line e later apart held);
      apart = AllPairs-from_Pairwise StandApart later (Pairwise-from_AllPairs StandApart (e ∷ later) apart).1;
      indexed = subst (λ (l : List Entry). AreIndexed l c.take.new.index) (sym left) c.take.ensures.indexed;
    }
