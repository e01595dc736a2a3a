-- What is left is found.
use Rattle.std.proofs.Common.{List, filter, sym, subst}
use Rattle.std.specs.List.Sorted.{IsPermutation}
use Rattle.stock_nums.specs.declared.entry.Entry.{Entry}
use Rattle.stock_model.specs.Returns.{returns_of}
use Rattle.cost_links.specs.Linked.{returns_to}
use Rattle.repost_spread.specs.Movements.{entries_of}
use Rattle.repost_spread.specs.Removing.{line_but_all}
use Rattle.repost_spread.proofs.LeftOnes.{returns-left}
use Rattle.repost_spread.proofs.movements.Movements.remove.Goals as goal

pub returns-clause-kept : goal.returns-clause-kept
returns-clause-kept c =
    let was = entries_of c.args.self.now.frontier.slots in
    let gone = c.args.gone.now in
    let links = c.args.self.now.links in
    record {
      indexed = c.take_all.ensures.indexed;
      returns = λ target.
          let test = returns_of target in
          subst (λ (l : List Entry). IsPermutation (returns_to c.remove.new.self target) (filter test l)) (sym c.take_all.ensures.line)
          (subst (λ (l : List Entry). IsPermutation l (filter test (line_but_all was gone))) (sym (c.remove.ensures.returns target))
          (returns-left test was gone (returns_to links target) c.requires.kept.indexed.in_order c.requires.apart c.requires.held (c.requires.kept.returns target)));
    }
