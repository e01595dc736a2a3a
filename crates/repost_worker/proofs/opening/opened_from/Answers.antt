-- A book of all that is stored is opened, or the first fault is found.
use Rattle.std.proofs.Common.{List, ap, ◌∙◌}
use Rattle.stock_model.specs.Replay.{replay}
use Rattle.stock_model.specs.History.{covered_records}
use Rattle.stock_model.specs.declared.deeds.Deed.{Deed}
use Rattle.repost_worker.proofs.OpenedBooks.{opened-tables, found-worths, found-head, found-record}
use Rattle.repost_worker.proofs.opening.opened_from.Goals as goal

pub returns-in-Err-clause-fault : goal.returns-in-Err-clause-fault
returns-in-Err-clause-fault c = found-head c.args.tables.now c.in-Err.fault c.in-Err.ensures.bad c.in-Err.ensures.told

pub returns-in-Err-posted-clause-fault : goal.returns-in-Err-posted-clause-fault
returns-in-Err-posted-clause-fault c =
    found-record c.args.tables.now c.in-Err-posted.fault c.in-Ok.ensures.head c.in-Err-posted.ensures.fault

pub returns-in-Err-check_worths-clause-fault : goal.returns-in-Err-check_worths-clause-fault
returns-in-Err-check_worths-clause-fault c =
    let made = c.in-Ok-posted.ensures in
    found-worths c.args.tables.now c.in-Ok-posted.book.history c.in-Ok.part c.in-Ok.ensures.covered made.stored made.all made.covered
    c.as_slice.result.now c.rows.result.now
    (c.rows.ensures ∙ ap (λ (h : List Deed). replay (covered_records h)) c.book-revalued.ensures.history) c.as_slice.ensures
    c.in-Err-check_worths.fault c.in-Ok.ensures.head c.in-Err-check_worths.ensures.fault

pub returns-clause-opened : goal.returns-clause-opened
returns-clause-opened c =
    let made = c.in-Ok-posted.ensures in
    opened-tables c.args.tables.now c.in-Ok-posted.book.history c.in-Ok.part c.in-Ok.ensures.covered made.stored made.all made.covered
    c.as_slice.result.now c.rows.result.now
    (c.rows.ensures ∙ ap (λ (h : List Deed). replay (covered_records h)) c.book-revalued.ensures.history) c.as_slice.ensures
    c.in-Ok.ensures.version c.in_default.ensures.same
