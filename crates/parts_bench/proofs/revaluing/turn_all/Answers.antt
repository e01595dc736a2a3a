-- The turn that found no suspect changed nothing.
use Rattle.std.proofs.Common.{not, ap, ◌∙◌}
use Rattle.repost_worker.proofs.Works.{clean-still}
use Rattle.parts_bench.proofs.revaluing.turn_all.Goals as goal

pub returns-then-is_none-clause-clean : goal.returns-then-is_none-clause-clean
returns-then-is_none-clause-clean g c =
    let none = c.is_none.ensures ∙ ap not c.if-is_none.true in
    clean-still g.history c.loop-turns.build c.turn.new.self (c.turn.ensures.unchanged none) (c.turn.ensures.clean none)
