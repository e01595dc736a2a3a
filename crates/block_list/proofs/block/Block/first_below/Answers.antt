-- A whole block is passed at once.
use Rattle.std.proofs.Common.{List, length, sym, ap, ◌∙◌, subst}
use Rattle.block_list.specs.Sums.{IsFirstBelow}
use Rattle.block_list.proofs.Crossings.{IsFirstBelow-passed}
use Rattle.block_list.proofs.block.Block.first_below.Goals as goal

pub returns-then-stays_enough-clause-found : goal.returns-then-stays_enough-clause-found
returns-then-stays_enough-clause-found g c =
    let w = g.W.Weigh.weight in
    let start = c.args.start in
    let passed = c.past.result in
    subst (λ (xs : List g.row.T.Denot). IsFirstBelow w xs start.index c.args.end start.before passed.index passed.before) c.self.view_is
    (IsFirstBelow-passed w c.self.inside.items.items start.before c.self.inside.sums.low c.self.inside.sums.sum c.self.invariant.3 (c.stays_enough.ensures c.if-stays_enough.true) c.self.invariant.2 start.index c.args.end passed.before passed.index c.if-start-eq0.true (c.if-end-len.true ∙ c.len.ensures.length ∙ ap length (sym c.self.view_is)) c.past.ensures.index c.past.ensures.before)
