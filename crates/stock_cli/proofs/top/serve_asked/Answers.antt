-- The end that is told is that of the service.
use Rattle.std.proofs.Common.{◌≡◌, ℕ, ◌⊎◌, sym, ◌∙◌, subst}
use Rattle.stock_io.specs.Listeners.{IsFresh}
use Rattle.stock_io.specs.Heard.{heard}
use Rattle.desk_service.specs.Service.{AreServedBy}
use Rattle.stock_serving.proofs.ServedRuns.{served-told, served-complete}
use Rattle.stock_ends.proofs.Told.{status_not_2}
use Rattle.stock_cli.proofs.top.serve_asked.Goals as goal

pub returns-clause-serves : goal.returns-clause-serves
returns-clause-serves g c = (c.serve_over-end.result.end, c.tell.ensures.told, c.serve_over-end.ensures.serves)

pub returns-clause-complete : goal.returns-clause-complete
returns-clause-complete g c shelf kept listener output =
    let told = c.tell.ensures.told in
    let serves = served-told g.H.Kept.Keeper.tells g.H.Shelf.tells g.H.Shelf.plan g.H.Shelf.faults g.H.Shelf.kept_faults
    (heard g.L.Listener.waiting g.L.Listener.hung_up g.L.Listener.accepts g.L.Listener.hang_ups g.L.Listener.faults)
    g.O.Sink.written g.O.Sink.faults
    (AreServedBy g.P.Source.left g.P.Source.taken g.P.Sink.written g.P.Source.faults g.P.Link.ended)
    (IsFresh g.P.Source.taken g.P.Sink.written g.P.Source.faults g.P.Link.ended) c.args.asked.desks c.args.asked.connections
    _ _ _ _ _ _ _ told.told told.told_as c.serve_over-end.ensures.serves
    in
    subst (λ (n : ℕ). (n ≡ 0) ⊎ ((n ≡ 3) ⊎ (n ≡ 7))) (sym told.status_is)
    (served-complete _ _ _ _ _ _ _ _ _ _ c.args.asked.desks c.args.asked.connections _ _ _ _ _ _ told.told serves shelf kept listener output)

pub returns-clause-served : goal.returns-clause-served
returns-clause-served g c two = let told = c.tell.ensures.told in status_not_2 told.told (sym told.status_is ∙ two)
