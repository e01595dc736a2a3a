use Rattle.std.proofs.Common.{arith, ap, ◌∙◌, length}
use Rattle.std.proofs.lemmas.Grind.{common_steps}
use Rattle.stock_model.specs.Entries.{all_entries}
use Rattle.stock_count.proofs.JournalEntries.{kept-next}
use Rattle.stock_count.proofs.holding.entries_until.Goals as goal

pub loop-index-preserved : goal.loop-index-preserved
loop-index-preserved c =
    kept-next c.args.journal.now c.args.at c.loop-index.index c.loop-index.found c.push_until.new.found c.as_slice.result.now
    (omega (arith, c.loop-index-test.true, ap length c.records-index-end.ensures.records)) (c.as_slice.ensures ∙ c.in_ok-entries.ensures)
    c.in_ok-push_until.ensures c.loop-index.invariant

pub returns : goal.returns
unfolding all_entries
returns c = grind (arith, common_steps)
