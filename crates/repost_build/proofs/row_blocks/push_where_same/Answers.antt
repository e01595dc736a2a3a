-- The block's rows are those of the movements that come next.
use Rattle.std.proofs.Common.{◌≡◌, ◌+◌, ◌-◌, length, take, map, sym, ap, ◌∙◌, arith}
use Rattle.repost_spread.specs.Movements.{slots_of}
use Rattle.repost_build.specs.Rows.{slot_row}
use Rattle.repost_build.proofs.BlockRows.{rows-block}
use Rattle.repost_build.proofs.row_blocks.push_where_same.Goals as goal

pub returns-clause-rows : goal.returns-clause-rows
returns-clause-rows c =
    let slots = slots_of c.args.movements.now in
    let rows = c.as_slice-rows.result.now in
    let end = c.in-Some.end in
    let block = c.in_ok-share.ensures ∙ sym c.as_slice-rows.ensures ∙ c.in-Some.ensures.same in
    let whole : end - length rows + length rows ≡ end = omega (arith, c.in-Some.ensures.later) in
    rows-block slots (end - length rows) (length rows) c.push_between.new.blocks c.push.new.self c.in_ok-share.field-0
    c.in_ok-push_between.ensures block c.in_ok-push.ensures.added
    ∙ ap (λ n. map slot_row (take n slots)) whole
