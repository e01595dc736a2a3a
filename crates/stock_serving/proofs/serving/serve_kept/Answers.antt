-- The ledger of the keeper was opened.
use Rattle.std.proofs.Common.{inr, refl}
use Rattle.stock_io.specs.Listeners.{IsFresh}
use Rattle.stock_io.specs.Heard.{heard}
use Rattle.desk_service.specs.Service.{AreServedBy}
use Rattle.stock_serving.proofs.Services.{leaves-begun}
use Rattle.stock_serving.proofs.serving.serve_kept.Goals as goal

pub returns-in-Ok-clause-serves : goal.returns-in-Ok-clause-serves
returns-in-Ok-clause-serves g c =
    leaves-begun g.K.Keeper.tells g.K.Keeper.may_leave g.K.Keeper.faults g.K.Keeper.plan g.K.Keeper.calls
    (heard g.L.Listener.waiting g.L.Listener.hung_up g.L.Listener.accepts g.L.Listener.hang_ups g.L.Listener.faults)
    (AreServedBy g.P.Source.left g.P.Source.taken g.P.Sink.written g.P.Source.faults g.P.Link.ended)
    (IsFresh g.P.Source.taken g.P.Sink.written g.P.Source.faults g.P.Link.ended) c.args.desks c.args.connections
    c.serve_book-summary.result.summary c.args.keeper c.keeper_of.result c.args.listener c.serve_book-summary.result.listener
    (record {
      first = c.in-Ok.book;
      last = c.serve_book-summary.result.book;
      loaded = c.in-Ok.ensures.opened;
      legal = c.in-Ok.ensures.legal;
      order = c.in-Ok.ensures.order;
      at_rest = c.in-Ok.ensures.at_rest;
      begun = c.in-Ok.ensures.done;
      kept = c.keeper_of.ensures.kept.1.told;
      plan_is = c.keeper_of.ensures.plan;
      faults_are = c.keeper_of.ensures.faults;
      done = c.serve_book-summary.ensures.serves;
    })

pub returns-in-Err-clause-listens : goal.returns-in-Err-clause-listens
returns-in-Err-clause-listens g c = inr (refl, refl)
