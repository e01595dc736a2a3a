-- The sum comes one item further, or falls below 0 with it.
use Rattle.std.proofs.Common.{ℕ, subst, sym, arith}
use Rattle.std.proofs.lemmas.Int.{ints}
use Rattle.block_list.specs.Sums.{HasCome}
use Rattle.block_list.proofs.Crossings.{HasCome-next, IsFirstBelow-crossed}
use Rattle.block_list.proofs.crossing.first_below.Goals as goal

pub returns-then-next-lt0-clause-found : goal.returns-then-next-lt0-clause-found
returns-then-next-lt0-clause-found g c =
    IsFirstBelow-crossed g.W.Weigh.weight c.args.items.now c.args.start.index c.args.end c.args.start.before c.loop-at.at.index c.loop-at.at.before c.index-items-at.result c.with-next.result.before
    c.loop-at.invariant.0 c.loop-at-test.true c.requires.within c.index-items-at.is c.with-next.ensures.before (omega (arith, ints, c.if-next-lt0.true))

pub loop-at-preserved : goal.loop-at-preserved
loop-at-preserved g c =
    let come =
    HasCome-next g.W.Weigh.weight c.args.items.now c.args.start.index c.args.end c.args.start.before c.loop-at.at.index c.loop-at.at.before c.index-items-at.result c.with-next.result.before
    c.loop-at.invariant.0 c.loop-at-test.true c.requires.within c.index-items-at.is c.with-next.ensures.before (omega (arith, ints, c.if-next-lt0.false)) in (
      subst (λ (i : ℕ). HasCome g.W.Weigh.weight c.args.items.now c.args.start.index c.args.end c.args.start.before i c.with-next.result.before) (sym c.with-next.ensures.index) come,
      omega (arith, c.loop-at.invariant.0.after, c.loop-at.invariant.1, c.with-next.ensures.bound, c.with-next.ensures.index),
    )
