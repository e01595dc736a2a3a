-- Each block takes the sum further, or is the one in which it falls below 0.
use Rattle.std.proofs.Common.{◌≡◌, ◌+◌, suc, ◌++◌, max, min, List, [], length, take, drop, ap, sym, ◌∙◌, subst, arith, length-append}
use Rattle.std.proofs.lemmas.List.{get_or_default}
use Rattle.block_list.specs.Blocks.{joined, block_at}
use Rattle.block_list.specs.Sums.{IsFirstBelow}
use Rattle.block_list.proofs.Joined.{joined-around, joined_more}
use Rattle.block_list.proofs.Crossings.{HasCome-further, IsFirstBelow-further}
use Rattle.block_list.proofs.walks.first_below.Goals.{then-found-next-via-then-found-next, then-found-next-via-else-found-next+then-end-found}
use Rattle.block_list.proofs.walks.first_below.Goals as goal

pub returns-then-found-next-clause-found : goal.returns-then-found-next-clause-found
returns-then-found-next-clause-found g c =
    let w = g.W.Weigh.weight in
    let bs = c.args.blocks.now in
    let i = c.loop-place.place.block in
    let at = c.loop-place.at in
    let found = c.over-found.result in
    let front = joined (take i bs) in
    let rest = joined (drop (suc i) bs) in
    let read : c.index-blocks-place.result ≡ block_at bs i = c.index-blocks-place.is ∙ get_or_default bs i c.index-blocks-place.result [] c.loop-place-test.true in
    let here = ap (λ (b : List g.row.T.Denot). front ++ (b ++ rest)) read ∙ sym (joined-around bs i c.loop-place-test.true) in
    let limit = max at.index (min c.args.end (c.loop-place.place.index + length c.index-blocks-place.result)) in
    let first = subst (λ (xs : List g.row.T.Denot). IsFirstBelow w xs at.index limit at.before found.index found.before) here (c.over-found.ensures.found front rest (sym c.loop-place.invariant.3)) in
    IsFirstBelow-further w (joined bs) c.args.start.index c.args.end c.args.start.before at.index at.before limit found.index found.before c.loop-place.invariant.0 first
    (omega (arith, c.loop-place.invariant.0.within))
    (λ less.
    elim c.then-found-next.branch [
      | then-found-next-via-then-found-next w ↦ omega (arith, less, w.if-found-next.true, c.len.ensures.length)
      | then-found-next-via-else-found-next+then-end-found w ↦ absurd (omega (arith, less, w.if-end-found.true))
    ])

pub loop-place-preserved : goal.loop-place-preserved
loop-place-preserved g c =
    let w = g.W.Weigh.weight in
    let bs = c.args.blocks.now in
    let i = c.loop-place.place.block in
    let at = c.loop-place.at in
    let found = c.over-found.result in
    let front = joined (take i bs) in
    let rest = joined (drop (suc i) bs) in
    let read : c.index-blocks-place.result ≡ block_at bs i = c.index-blocks-place.is ∙ get_or_default bs i c.index-blocks-place.result [] c.loop-place-test.true in
    let here = ap (λ (b : List g.row.T.Denot). front ++ (b ++ rest)) read ∙ sym (joined-around bs i c.loop-place-test.true) in
    let limit = max at.index (min c.args.end (c.loop-place.place.index + length c.index-blocks-place.result)) in
    let first = subst (λ (xs : List g.row.T.Denot). IsFirstBelow w xs at.index limit at.before found.index found.before) here (c.over-found.ensures.found front rest (sym c.loop-place.invariant.3)) in
    let more = ap length (joined_more bs i c.loop-place-test.true) ∙ length-append front (block_at bs i) in (
      HasCome-further w (joined bs) c.args.start.index c.args.end c.args.start.before at.index at.before limit found.index found.before c.loop-place.invariant.0 first
          (omega (arith, c.loop-place.invariant.0.within)),
      omega (arith, c.over-found.ensures.bound, c.loop-place.invariant.1, c.loop-place.invariant.0.after, first.after),
      omega (arith, c.loop-place-test.true),
      omega (arith, more, c.loop-place.invariant.3, c.len.ensures.length, ap length read),
      omega (arith, c.if-found-next.false),
    )

pub returns-then-found-next-clause-bound : goal.returns-then-found-next-clause-bound
returns-then-found-next-clause-bound g c =
    let i = c.loop-place.place.block in
    let at = c.loop-place.at in
    let found = c.over-found.result in
    let first = c.over-found.ensures.found (joined (take i c.args.blocks.now)) [] (sym c.loop-place.invariant.3) in
    omega (arith, c.over-found.ensures.bound, c.loop-place.invariant.1, c.loop-place.invariant.0.after, first.after)
