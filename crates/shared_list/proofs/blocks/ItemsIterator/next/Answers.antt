-- What was to come is the item that is answered, and what comes behind it.
use Rattle.std.proofs.Common.{◌++◌, sym, ◌∙◌, arith}
use Rattle.std.specs.List.{flat_map}
use Rattle.shared_list.proofs.Fronts.{steps-all, steps-some}
use Rattle.shared_list.proofs.blocks.ItemsIterator.next.Goals as goal
use Rattle.shared_list.proofs.blocks.ItemsIterator.next.Goals.{in-Some+in_ok-checked_sub-in-Some, in-None}

pub returns-clause-steps : goal.returns-clause-steps
returns-clause-steps g c =
    let was = c.self.inside.block.now ++ flat_map (λ block. block) c.self.inside.blocks.now in
    let rest = c.in_ok-first.block.now ++ flat_map (λ block. block) c.in_ok-first.behind.now in
    let first = c.in_ok-first.first.now in
    elim c.match-self.branch [
      | in-Some+in_ok-checked_sub-in-Some w ↦ sym c.self.view_is ∙ steps-some c.self.inside.most c.match-self.most w.in-Some.most
          w.in_ok-checked_sub-in-Some.field-0 was first rest w.in-Some.is w.most-is (omega arith) c.in_ok-first.ensures
      | in-None w ↦ sym c.self.view_is ∙ steps-all c.self.inside.most c.match-self.most was first rest w.in-None.is w.most-is c.in_ok-first.ensures
    ]
