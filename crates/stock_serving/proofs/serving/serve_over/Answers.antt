-- The shelf fails, or the service is that over its keeper.
use Rattle.std.proofs.Common.{Err, ap, inl, inr, refl, ◌∙◌}
use Rattle.stock_io.specs.Listeners.{IsFresh}
use Rattle.stock_io.specs.Heard.{heard}
use Rattle.desk_service.specs.Service.{AreServedBy}
use Rattle.stock_ends.proofs.Openings.{unopened-refused}
use Rattle.stock_serving.proofs.ServedRuns.{over-served}
use Rattle.stock_serving.proofs.serving.serve_over.Goals as goal

pub returns-in-Err-clause-serves : goal.returns-in-Err-clause-serves
returns-in-Err-clause-serves g c =
    let refused = c.in-Err in
    inl (record {
      nothing_taken = refl;
      nothing_written = refl;
      tables_stay = inl refused.ensures.tables_kept;
      cause =
          unopened-refused g.H.Kept.Keeper.tells (g.H.Shelf.tells c.args.shelf.now) (g.H.Shelf.plan c.args.shelf.now) (g.H.Shelf.faults c.args.shelf.now)
          (g.H.Shelf.faults c.open_keeper.new.self) (g.H.Shelf.kept_faults c.open_keeper.new.self) refused.fault
          c.end_of_refusal.result c.end_of_refusal.ensures (λ is. refused.ensures.cause (ap Err is));
    })

pub returns-clause-serves : goal.returns-clause-serves
returns-clause-serves g c =
    let opened = c.in-Ok in
    let served = c.serve_kept-summary in
    over-served g.H.Kept.Keeper.tells g.H.Kept.Keeper.may_leave g.H.Kept.Keeper.faults g.H.Kept.Keeper.plan g.H.Kept.Keeper.calls g.H.Shelf.tells g.H.Shelf.plan
    g.H.Shelf.faults g.H.Shelf.kept_faults
    (heard g.L.Listener.waiting g.L.Listener.hung_up g.L.Listener.accepts g.L.Listener.hang_ups g.L.Listener.faults)
    g.O.Sink.written g.O.Sink.faults
    (AreServedBy g.P.Source.left g.P.Source.taken g.P.Sink.written g.P.Source.faults g.P.Link.ended)
    (IsFresh g.P.Source.taken g.P.Sink.written g.P.Source.faults g.P.Link.ended) c.args.desks c.args.connections
    c.args.shelf.now c.put_back-back.new.shelf opened.keeper served.result.keeper c.args.listener served.result.listener c.args.output.now
    c.write_summary-end.new.output served.result.summary c.write_summary-end.result opened.ensures.tables opened.ensures.fresh
    opened.ensures.plan opened.ensures.uncalled c.put_back-back.ensures.tables c.put_back-back.ensures.plan c.put_back-back.ensures.kept_faults served.ensures.serves
    c.write_summary-end.ensures.written c.write_summary-end.ensures.end_kept c.write_summary-end.ensures.nothing_written

pub returns-in-Err-clause-opens : goal.returns-in-Err-clause-opens
returns-in-Err-clause-opens g c = record { path_is = c.open_keeper.ensures.opened; once = c.open_keeper.ensures.counted }

pub returns-in-Err-clause-listens : goal.returns-in-Err-clause-listens
returns-in-Err-clause-listens g c = inr (refl, refl)

pub returns-clause-opens : goal.returns-clause-opens
returns-clause-opens g c =
    record {
      path_is = c.put_back-back.ensures.opened_kept ∙ c.open_keeper.ensures.opened;
      once = c.put_back-back.ensures.openings_kept ∙ c.open_keeper.ensures.counted;
    }
