-- The ledger of the keeper was opened, and the lines were answered.
use Rattle.std.proofs.Common.{inr, sym, subst}
use Rattle.repost_worker.specs.Paces.{Pace}
use Rattle.stock_batch.specs.Ran.{Ran}
use Rattle.stock_batch.proofs.filed.run_kept.Goals as goal

pub returns-in-Ok : goal.returns-in-Ok
returns-in-Ok g c =
    let ran =
    subst (λ (first : Pace). Ran g.S.Source.left g.S.Source.taken g.S.Source.faults g.O.Sink.written g.O.Sink.faults c.args.input.now
    c.pump-end.new.input c.args.output.now c.pump-end.new.output first c.pump-end.new.batch.book c.pump-end.result) c.new-batch.ensures.book
    c.pump-end.ensures in
    inr (record {
      first = c.in-Ok.book;
      last = c.into_book.result;
      loaded = c.in-Ok.ensures.opened;
      legal = c.in-Ok.ensures.legal;
      order = c.in-Ok.ensures.order;
      at_rest = c.in-Ok.ensures.at_rest;
      begun = c.in-Ok.ensures.done;
      kept = c.keeper_of.ensures.kept.1.told;
      plan_is = c.keeper_of.ensures.plan;
      faults_are = c.keeper_of.ensures.faults;
      ran =
          subst (λ (last : Pace). Ran g.S.Source.left g.S.Source.taken g.S.Source.faults g.O.Sink.written g.O.Sink.faults c.args.input.now
          c.pump-end.new.input c.args.output.now c.pump-end.new.output c.in-Ok.book last c.pump-end.result) (sym c.into_book.ensures) ran;
    })
