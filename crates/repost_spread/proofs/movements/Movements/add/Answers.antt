-- Movements that are added are found.
use Rattle.std.proofs.Common.{List, filter, ap, ◌∙◌, sym, subst}
use Rattle.std.specs.List.Sorted.{IsPermutation}
use Rattle.stock_nums.specs.declared.entry.Entry.{Entry}
use Rattle.stock_model.specs.PostingOrder.{put_all}
use Rattle.stock_model.specs.Returns.{returns_of}
use Rattle.cost_links.specs.Linked.{returns_to}
use Rattle.repost_frontier.specs.declared.slot.Slot.{Slot}
use Rattle.repost_index.specs.Indexed.{AreIndexed}
use Rattle.repost_spread.specs.Movements.{AreFoundBy, entries_of}
use Rattle.repost_spread.proofs.Kept.{AreIndexed-same, AreFoundBy-same}
use Rattle.repost_spread.proofs.ReturnedOnes.{returns-put_all}
use Rattle.repost_spread.proofs.movements.Movements.add.Goals as goal

pub returns-in_err-reserve-2-clause-kept : goal.returns-in_err-reserve-2-clause-kept
returns-in_err-reserve-2-clause-kept c =
    let line = entries_of c.args.self.now.frontier.slots in
    subst (λ (l : List Entry). AreFoundBy l c.reserve-2.new.self c.args.self.now.links) (sym (ap (λ (slots : List Slot). entries_of slots) c.reserve.ensures.unchanged))
    (record {
      indexed = AreIndexed-same line c.args.self.now.index c.reserve-2.new.self c.reserve-2.ensures.keys c.reserve-2.ensures.entering c.reserve-2.ensures.leaving c.reserve-2.ensures.moments c.requires.kept.indexed;
      returns = c.requires.kept.returns;
    })

pub returns-in_err-add-clause-kept : goal.returns-in_err-add-clause-kept
returns-in_err-add-clause-kept c =
    let line = entries_of c.args.self.now.frontier.slots in
    subst (λ (l : List Entry). AreFoundBy l c.reserve-2.new.self c.add.new.self) (sym (ap (λ (slots : List Slot). entries_of slots) c.reserve.ensures.unchanged))
    (AreFoundBy-same line c.reserve-2.new.self c.args.self.now.links c.add.new.self c.in_err-add.ensures.returns_stay
    (record {
      indexed = AreIndexed-same line c.args.self.now.index c.reserve-2.new.self c.reserve-2.ensures.keys c.reserve-2.ensures.entering c.reserve-2.ensures.leaving c.reserve-2.ensures.moments c.requires.kept.indexed;
      returns = c.requires.kept.returns;
    }))

pub put_all-requires-clause-indexed : goal.put_all-requires-clause-indexed
put_all-requires-clause-indexed c =
    let line = entries_of c.args.self.now.frontier.slots in
    subst (λ (l : List Entry). AreIndexed l c.reserve-2.new.self) (sym (ap (λ (slots : List Slot). entries_of slots) c.reserve.ensures.unchanged))
    (AreIndexed-same line c.args.self.now.index c.reserve-2.new.self c.reserve-2.ensures.keys c.reserve-2.ensures.entering c.reserve-2.ensures.leaving c.reserve-2.ensures.moments c.requires.kept.indexed)

pub returns-clause-kept : goal.returns-clause-kept
returns-clause-kept c =
    let was = entries_of c.args.self.now.frontier.slots in
    let es = c.args.entries.now in
    let there = ap (λ (slots : List Slot). entries_of slots) c.give_back.ensures.slots in
    let line = there ∙ c.put_all.ensures.line ∙ ap (λ (slots : List Slot). put_all (entries_of slots) es) c.reserve.ensures.unchanged in
    record {
      indexed =
          subst (λ (l : List Entry). AreIndexed l c.give_back.new.index) (sym there)
          (AreIndexed-same (entries_of c.put_all.new.frontier.slots) c.put_all.new.index c.give_back.new.index c.give_back.ensures.keys c.give_back.ensures.entering c.give_back.ensures.leaving c.give_back.ensures.moments c.put_all.ensures.indexed);
      returns = λ target.
          subst (λ (l : List Entry). IsPermutation (returns_to c.add.new.self target) (filter (returns_of target) l)) (sym line)
          (subst (λ (l : List Entry). IsPermutation l (filter (returns_of target) (put_all was es))) (sym (c.in_ok-add.ensures.returns target))
          (returns-put_all (returns_of target) was es (returns_to c.args.self.now.links target) (c.requires.kept.returns target)));
    }
