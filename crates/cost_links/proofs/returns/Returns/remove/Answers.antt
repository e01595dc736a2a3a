-- Those that stand where one more movement does are taken out.
use Rattle.cost_links.specs.Tables.{entries_to}
use Rattle.cost_links.proofs.ReturnSteps.{removed-next}
use Rattle.cost_links.proofs.returns.Returns.remove.Goals as goal

pub loop-entry-preserved : goal.loop-entry-preserved
loop-entry-preserved c = λ line.
    removed-next c.args.entries.now c.loop-entry.entry-index c.entry-item.result line (entries_to c.args.self.now line) (entries_to c.loop-entry.self line) (entries_to c.remove_one.new.self line)
    c.loop-entry-test.true c.entry-item.is (c.loop-entry.invariant line) (c.remove_one.ensures line)
