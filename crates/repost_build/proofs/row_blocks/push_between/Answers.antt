-- One block more is made, until the blocks are of all.
use Rattle.std.proofs.Common.{◌≡◌, ◌+◌, ◌-◌, ◌≤◌, take, map, ap, ◌∙◌, arith}
use Rattle.repost_spread.specs.Movements.{slots_of}
use Rattle.repost_build.specs.Rows.{slot_row}
use Rattle.repost_build.proofs.BlockRows.{rows-block}
use Rattle.repost_build.proofs.row_blocks.push_between.Goals as goal

pub loop-index-preserved : goal.loop-index-preserved
loop-index-preserved c =
    let slots = slots_of c.args.movements.now in
    let i = c.loop-index.index in
    let k = c.min.result in
    let within : i + k ≤ c.args.upto = omega (arith, c.min.ensures, c.loop-index.invariant.within) in
    let next : i + (i + k - i) ≡ i + k = omega arith in
    record {
      within = within;
      rows = rows-block slots i (i + k - i) c.loop-index.blocks c.push.new.self c.in_ok-block_of.field-0 c.loop-index.invariant.rows
          c.in_ok-block_of.ensures c.in_ok-push.ensures.added
          ∙ ap (λ n. map slot_row (take n slots)) next;
    }
