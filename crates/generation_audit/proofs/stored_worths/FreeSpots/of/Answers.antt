-- One more spot was marked.
use Rattle.std.proofs.Common.{true, cond, take, List, sym, ap, ◌∙◌}
use Rattle.std.specs.List.{list_any}
use Rattle.stock_nums.specs.declared.entry.Entry.{Entry}
use Rattle.stock_nums.specs.declared.place.Spot.{Spot}
use Rattle.stock_keeper.specs.Worths.{is_same_spot}
use Rattle.generation_audit.specs.RightRows.{stands_at}
use Rattle.generation_audit.specs.StoredAt.{mark_at}
use Rattle.generation_audit.proofs.MarkedSpots.{one_more, mark-next}
use Rattle.generation_audit.proofs.stored_worths.FreeSpots.of.Goals as goal

pub loop-entry-preserved : goal.loop-entry-preserved
loop-entry-preserved c = λ spot.
    let line = c.args.line.now in
    let i = c.loop-entry.entry-index in
    let e = c.entry-item.result in
    let old = mark_at c.loop-entry.free spot in
    mark-next (take i line) e spot old (mark_at c.mark.new.self spot) (c.loop-entry.invariant spot)
    (c.in_ok-mark.ensures spot ∙ ap (λ (s : Spot). cond (is_same_spot s spot) true old) c.spot_of.ensures)
    ∙ ap (λ (es : List Entry). list_any (stands_at spot) es) (sym (one_more line i e c.loop-entry-test.true c.entry-item.is))
