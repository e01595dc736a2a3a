-- The next one is taken out first of the rest.
use Rattle.std.proofs.Common.{◌+◌, List, drop, sym, ap, ◌∙◌, arith}
use Rattle.stock_nums.specs.declared.entry.Entry.{Entry}
use Rattle.quantity_check.specs.ChangedLines.{line_without}
use Rattle.quantity_check.proofs.OwnPlaceLemmas.{drop-next}
use Rattle.quantity_check.proofs.running.remove_all.Goals as goal

pub loop-entry-preserved : goal.loop-entry-preserved
loop-entry-preserved c =
    let line = c.loop-entry.line.entries in
    let later = drop (c.loop-entry.entry-index + 1) c.args.gone.now in
    let next = drop-next c.args.gone.now c.loop-entry.entry-index c.entry-item.result c.loop-entry-test.true c.entry-item.is in
    record {
      left = ap (λ (l : List Entry). line_without l later) c.remove.ensures.rest ∙ ap (line_without line) (sym next) ∙ c.loop-entry.invariant.left;
      room = omega (arith, c.loop-entry.invariant.room, c.remove.ensures.room);
    }
