-- Each group takes the sum further, or is the one in which it falls below 0.
use Rattle.std.proofs.Common.{◌+◌, ◌*◌, ◌++◌, max, min, List, length, take, drop, ap, sym, ◌∙◌, subst, arith, length-append}
use Rattle.block_list.specs.Blocks.{joined}
use Rattle.block_list.specs.Heads.{group_at}
use Rattle.block_list.specs.Sums.{IsFirstBelow}
use Rattle.block_list.specs.declared.sums.TheConstants.{GROUP}
use Rattle.block_list.proofs.Grouped.{joined-groups_more, joined-around_group, group-fits, no_items}
use Rattle.block_list.proofs.Crossings.{HasCome-further, IsFirstBelow-further}
use Rattle.block_list.proofs.groups.first_below.Goals.{then-found-next-via-then-found-next, then-found-next-via-else-found-next+then-end-found}
use Rattle.block_list.proofs.groups.first_below.Goals as goal

pub overflow_add-next : goal.overflow_add-next
overflow_add-next g c =
    let p = c.loop-place.place.group in
    omega (arith, (c.requires.heads.each p no_items c.loop-place-test.true).items, c.loop-place.invariant.3, group-fits c.args.blocks.now p, c.requires.few)

pub over-found-requires-clause-few : goal.over-found-requires-clause-few
over-found-requires-clause-few g c =
    omega (arith, ap (λ (xs : List (List g.row.T.Denot)). length (joined xs)) c.group_of.ensures, c.loop-place.invariant.3, group-fits c.args.blocks.now c.loop-place.place.group, c.requires.few)

pub returns-then-found-next : goal.returns-then-found-next
returns-then-found-next g c =
    let w = g.W.Weigh.weight in
    let bs = c.args.blocks.now in
    let p = c.loop-place.place.group in
    let at = c.loop-place.at in
    let found = c.over-found.result in
    let front = joined (take (GROUP * p) bs) in
    let rest = joined (drop GROUP (drop (GROUP * p) bs)) in
    let here = ap (λ (xs : List (List g.row.T.Denot)). front ++ (joined xs ++ rest)) c.group_of.ensures ∙ sym (joined-around_group bs p) in
    let limit = max at.index (min c.args.end (c.loop-place.place.index + length (joined c.group_of.result.now))) in
    let first = subst (λ (xs : List g.row.T.Denot). IsFirstBelow w xs at.index limit at.before found.index found.before) here (c.over-found.ensures.found front rest (sym c.loop-place.invariant.3)) in
    let size = (c.requires.heads.each p no_items c.loop-place-test.true).items in
    let own = ap (λ (xs : List (List g.row.T.Denot)). length (joined xs)) c.group_of.ensures in
    IsFirstBelow-further w (joined bs) c.args.start.index c.args.end c.args.start.before at.index at.before limit found.index found.before c.loop-place.invariant.0 first
    (omega (arith, c.loop-place.invariant.0.within))
    (λ less.
    elim c.then-found-next.branch [
      | then-found-next-via-then-found-next w ↦ omega (arith, less, w.if-found-next.true, size, own)
      | then-found-next-via-else-found-next+then-end-found w ↦ absurd (omega (arith, less, w.if-end-found.true))
    ])

pub loop-place-preserved : goal.loop-place-preserved
loop-place-preserved g c =
    let w = g.W.Weigh.weight in
    let bs = c.args.blocks.now in
    let p = c.loop-place.place.group in
    let at = c.loop-place.at in
    let found = c.over-found.result in
    let front = joined (take (GROUP * p) bs) in
    let rest = joined (drop GROUP (drop (GROUP * p) bs)) in
    let here = ap (λ (xs : List (List g.row.T.Denot)). front ++ (joined xs ++ rest)) c.group_of.ensures ∙ sym (joined-around_group bs p) in
    let limit = max at.index (min c.args.end (c.loop-place.place.index + length (joined c.group_of.result.now))) in
    let first = subst (λ (xs : List g.row.T.Denot). IsFirstBelow w xs at.index limit at.before found.index found.before) here (c.over-found.ensures.found front rest (sym c.loop-place.invariant.3)) in
    let size = (c.requires.heads.each p no_items c.loop-place-test.true).items in
    let more = ap length (joined-groups_more bs p) ∙ length-append front (joined (group_at bs p)) in (
      HasCome-further w (joined bs) c.args.start.index c.args.end c.args.start.before at.index at.before limit found.index found.before c.loop-place.invariant.0 first
          (omega (arith, c.loop-place.invariant.0.within)),
      omega (arith, c.over-found.ensures.bound, c.loop-place.invariant.1, c.loop-place.invariant.0.after, first.after),
      omega (arith, c.loop-place-test.true),
      omega (arith, more, c.loop-place.invariant.3, size),
      omega (arith, c.if-found-next.false),
    )
