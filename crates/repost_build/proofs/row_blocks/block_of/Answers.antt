-- Some more rows come from movements side by side, until the block has all.
use Rattle.std.proofs.Common.{◌≡◌, ◌+◌, ◌-◌, ◌≤◌, List, IfOk, length, take, drop, map, ap, ◌∙◌, subst, arith}
use Rattle.stock_nums.specs.declared.entry.Row.{Row}
use Rattle.repost_spread.specs.Movements.{slots_of}
use Rattle.repost_build.specs.Rows.{slot_row}
use Rattle.repost_build.proofs.BlockRows.{rows-some}
use Rattle.repost_build.proofs.row_blocks.block_of.Goals as goal

pub loop-index-preserved : goal.loop-index-preserved
loop-index-preserved c =
    let run = c.run_from-run.result.now in
    let i = c.loop-index.index in
    let k = c.min-count.result in
    let some : k ≤ length run = omega (arith, c.min-count.ensures) in
    let within : i + k ≤ c.args.upto = omega (arith, c.min-count.ensures, c.loop-index.invariant.within) in
    let begun : c.args.from ≤ i + k = omega (arith, c.loop-index.invariant.begun) in
    record {
      begun = begun;
      within = within;
      same = rows-some (slots_of c.args.movements.now) run c.args.from i k c.loop-index.rows c.push_rows.new.rows c.run_from-run.ensures.slots some
          c.loop-index.invariant.begun c.loop-index.invariant.same c.in_ok-push_rows.ensures;
    }

pub returns : goal.returns
returns c =
    let all : c.loop-index.index - c.args.from ≡ c.args.upto - c.args.from =
    omega (arith, c.loop-index.invariant.begun, c.loop-index.invariant.within, c.loop-index-test.false) in
    subst (λ (rows : List Row). IfOk c.of.result (λ block. block ≡ rows))
    (c.loop-index.invariant.same ∙ ap (λ n. map slot_row (take n (drop c.args.from (slots_of c.args.movements.now)))) all) c.of.ensures
