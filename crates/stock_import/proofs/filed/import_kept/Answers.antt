-- The ledger of the keeper was opened, and the vouchers were imported.
use Rattle.std.proofs.Common.{inr, sym, subst}
use Rattle.repost_worker.specs.Paces.{Pace}
use Rattle.stock_import.specs.Runs.{IsRun}
use Rattle.stock_import.proofs.filed.import_kept.Goals as goal

pub returns-in-Ok : goal.returns-in-Ok
returns-in-Ok g c =
    let ran =
    subst (λ (first : Pace). IsRun g.O.Sink.written g.O.Sink.faults c.args.output.now c.import_all-end.new.output first
    c.import_all-end.new.import.book c.args.vouchers.now c.import_all-end.result) c.new-import.ensures.book c.import_all-end.ensures in
    inr (record {
      first = c.in-Ok.book;
      last = c.into_book.result;
      loaded = c.in-Ok.ensures.opened;
      legal = c.in-Ok.ensures.legal;
      order = c.in-Ok.ensures.order;
      at_rest = c.in-Ok.ensures.at_rest;
      begun = c.in-Ok.ensures.done;
      kept = c.keeper_of.ensures.kept.1.told;
      plan_is = c.keeper_of.ensures.plan;
      faults_are = c.keeper_of.ensures.faults;
      ran =
          subst (λ (last : Pace). IsRun g.O.Sink.written g.O.Sink.faults c.args.output.now c.import_all-end.new.output c.in-Ok.book last
          c.args.vouchers.now c.import_all-end.result) (sym c.into_book.ensures) ran;
    })
