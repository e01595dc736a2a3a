-- One more movement is taken away.
use Rattle.std.proofs.Common.{arith}
use Rattle.cost_links.specs.Tables.{entries_to}
use Rattle.cost_links.proofs.ReturnSteps.{ends-next}
use Rattle.cost_links.proofs.returns.Returns.take_back.Goals as goal

pub take_back_one-requires : goal.take_back_one-requires
take_back_one-requires c = λ line.
    ends-next c.args.entries.now c.loop-left.left c.index-entries-left.result line (entries_to c.args.self.now line) (entries_to c.loop-left.self line)
    c.loop-left-test.true (omega (arith, c.loop-left.invariant.within, c.loop-left-test.true)) c.index-entries-left.is (c.requires line) (c.loop-left.invariant.all line)
