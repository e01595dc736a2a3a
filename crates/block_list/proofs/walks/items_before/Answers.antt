-- No front of the list is longer than the list.
use Rattle.std.proofs.Common.{◌≡◌, suc, ◌<◌, ◌++◌, [], length, take, drop, ap, ◌∙◌, arith, length-append}
use Rattle.std.proofs.lemmas.List.{get_or_default}
use Rattle.block_list.specs.Blocks.{joined, block_at}
use Rattle.block_list.proofs.Joined.{joined-around}
use Rattle.block_list.proofs.walks.items_before.Goals as goal

pub overflow_add-place-in-loop-place : goal.overflow_add-place-in-loop-place
overflow_add-place-in-loop-place g c =
    let bs = c.args.blocks.now in
    let i = c.loop-place.place.block in
    let within : i < length bs = omega (arith, c.loop-place-test.true, c.requires.within) in
    let b = block_at bs i in
    let front = joined (take i bs) in
    let rest = joined (drop (suc i) bs) in
    let read : c.index-blocks-place.result ≡ b = c.index-blocks-place.is ∙ get_or_default bs i c.index-blocks-place.result [] within in
    omega (arith, c.loop-place.invariant.1, c.requires.few, ap length (joined-around bs i within), length-append front (b ++ rest), length-append b rest, c.len.ensures.length, ap length read)
