-- The next group gets its head.
use Rattle.std.proofs.Common.{◌≡◌, ℕ, ◌<◌, slice_index_or, List, length, sym, ap, ◌∙◌, subst, arith}
use Rattle.block_list.specs.Blocks.{joined}
use Rattle.block_list.specs.Heads.{group_at, IsHead}
use Rattle.block_list.specs.declared.heads.Head.{Head}
use Rattle.block_list.proofs.Grouped.{length-group_at, heads-more}
use Rattle.block_list.proofs.heads.renew_all.Goals as goal

pub head_of-head-requires : goal.head_of-head-requires
head_of-head-requires g c = omega (arith, ap length c.group_of.ensures, length-group_at c.args.blocks.now c.len-in-loop-heads.result)

pub loop-heads-preserved : goal.loop-heads-preserved
loop-heads-preserved g c =
    let w = g.W.Weigh.weight in
    let bs = c.args.blocks.now in
    let hs = c.loop-heads.heads.items in
    let h = c.head_of-head.result in
    let at : c.len-in-loop-heads.result ≡ length hs = omega (arith, c.len-in-loop-heads.ensures, c.loop-heads.heads.ok) in
    let here : c.group_of.result.now ≡ group_at bs (length hs) = c.group_of.ensures ∙ ap (group_at bs) at in
    let own = subst (λ (xs : List (List g.row.T.Denot)). IsHead w h (joined xs)) here c.head_of-head.ensures in (
      subst (λ (xs : List Head). (k : ℕ) (d : Head) → k < length xs → IsHead w (slice_index_or xs k d) (joined (group_at bs k))) (sym c.push_reserved.ensures.items)
          (heads-more w hs bs h c.loop-heads.invariant.0 own),
      c.push_reserved.ensures.capacity ∙ c.loop-heads.invariant.1,
    )
