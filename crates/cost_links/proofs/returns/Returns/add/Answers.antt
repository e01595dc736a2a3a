-- What was added before a refusal is taken away again.
use Rattle.std.proofs.Common.{take, filter, ◌∙◌}
use Rattle.std.proofs.lemmas.List.{append_cancel_right}
use Rattle.stock_model.specs.Returns.{returns_of}
use Rattle.cost_links.specs.Tables.{entries_to}
use Rattle.cost_links.proofs.returns.Returns.add.Goals as goal

pub take_back-requires : goal.take_back-requires
take_back-requires c = λ line.
    (entries_to c.args.self.now line, c.in-Err.ensures.unchanged line ∙ c.loop-index.invariant line)

pub returns-in-Err-clause-unchanged : goal.returns-in-Err-clause-unchanged
returns-in-Err-clause-unchanged c = λ line.
    append_cancel_right (entries_to c.take_back.new.self line) (entries_to c.args.self.now line) (filter (returns_of line) (take c.loop-index.index c.args.entries.now))
    (c.take_back.ensures line ∙ c.in-Err.ensures.unchanged line ∙ c.loop-index.invariant line)
