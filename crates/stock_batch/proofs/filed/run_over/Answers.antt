-- The shelf fails, or the run is that over its keeper.
use Rattle.std.proofs.Common.{Err, ap, inl, refl, ◌∙◌}
use Rattle.stock_batch.proofs.FiledRuns.{over-kept}
use Rattle.stock_batch.proofs.filed.run_over.Goals as goal

pub returns-in-Err-Failed-clause-runs : goal.returns-in-Err-Failed-clause-runs
returns-in-Err-Failed-clause-runs g c = inl (record { nothing_taken = refl; nothing_written = refl; tables_stay = inl c.in-Err-Failed.ensures.tables_kept; cause = inl (c.in-Err-Failed.ensures.cause (ap Err c.in-Err-Failed.field-0-is)) })

pub returns-clause-runs : goal.returns-clause-runs
returns-clause-runs g c =
    over-kept g.H.Kept.Keeper.tells g.H.Kept.Keeper.may_leave g.H.Kept.Keeper.faults g.H.Kept.Keeper.plan g.H.Kept.Keeper.calls g.H.Shelf.tells g.H.Shelf.plan
    g.H.Shelf.faults g.H.Shelf.kept_faults g.S.Source.left g.S.Source.taken g.S.Source.faults g.O.Sink.written g.O.Sink.faults
    c.args.shelf.now c.put_back.new.self c.in-Ok-open_keeper.keeper c.run_kept-end.result.keeper c.args.input.now c.run_kept-end.new.input
    c.args.output.now c.run_kept-end.new.output c.run_kept-end.result.end c.in-Ok-open_keeper.ensures.tables c.in-Ok-open_keeper.ensures.fresh
    c.in-Ok-open_keeper.ensures.plan c.in-Ok-open_keeper.ensures.uncalled c.put_back.ensures.tables c.put_back.ensures.plan c.put_back.ensures.kept_faults
    c.run_kept-end.ensures

pub returns-in-Err-Failed-clause-opens : goal.returns-in-Err-Failed-clause-opens
returns-in-Err-Failed-clause-opens g c = inl (record { path_is = c.open_keeper.ensures.opened; once = c.open_keeper.ensures.counted })

pub returns-in-Err-NoMemory-clause-opens : goal.returns-in-Err-NoMemory-clause-opens
returns-in-Err-NoMemory-clause-opens g c = inl (record { path_is = c.open_keeper.ensures.opened; once = c.open_keeper.ensures.counted })

pub returns-clause-opens : goal.returns-clause-opens
returns-clause-opens g c =
    inl (record {
      path_is = c.put_back.ensures.opened_kept ∙ c.open_keeper.ensures.opened;
      once = c.put_back.ensures.openings_kept ∙ c.open_keeper.ensures.counted;
    })
