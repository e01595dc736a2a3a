-- Some more rows are those of movements side by side, until all are.
use Rattle.std.proofs.Common.{◌≡◌, ◌+◌, ◌-◌, ◌≤◌, length, take, drop, map, sym, ap, ◌∙◌, arith}
use Rattle.std.proofs.lemmas.List.{take_all}
use Rattle.repost_spread.specs.Movements.{slots_of}
use Rattle.repost_build.specs.Rows.{slot_row}
use Rattle.repost_build.proofs.BlockRows.{same-some}
use Rattle.repost_build.proofs.row_blocks.are_rows.Goals as goal

pub loop-index-preserved : goal.loop-index-preserved
loop-index-preserved c =
    let rows = c.args.rows.now in
    let run = c.run_from-run.result.now in
    let start = c.args.end - length rows in
    let i = c.loop-index.index in
    let k = c.min-count.result in
    let some : k ≤ length run = omega (arith, c.min-count.ensures) in
    let within : i + k ≤ c.args.end = omega (arith, c.min-count.ensures, c.loop-index.invariant.within) in
    let begun : start ≤ i + k = omega (arith, c.loop-index.invariant.begun) in
    let many : i - start + k - (i - start) ≡ k = omega arith in
    let next = ap (λ n. take n (drop (i - start) rows)) (sym many) ∙ c.is_run.ensures c.if-not-is_run.false in
    record {
      begun = begun;
      within = within;
      same = same-some (slots_of c.args.movements.now) run rows start i k c.run_from-run.ensures.slots some c.loop-index.invariant.begun
          c.loop-index.invariant.same next;
    }

pub returns : goal.returns
returns c same =
    let rows = c.args.rows.now in
    let start = c.args.end - length rows in
    let i = c.loop-index.index in
    let all : i - start ≡ length rows =
    omega (arith, c.loop-index.invariant.begun, c.loop-index.invariant.within, c.loop-index-test.false, c.requires.as_many) in
    sym (take_all (i - start) rows (omega (arith, all)))
    ∙ c.loop-index.invariant.same
    ∙ ap (λ n. map slot_row (take n (drop start (slots_of c.args.movements.now)))) all
