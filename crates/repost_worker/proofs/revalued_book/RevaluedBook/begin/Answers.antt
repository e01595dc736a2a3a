-- The keeper of the opened history, or the fault of what it tells.
use Rattle.std.proofs.Common.{◌≡◌, List, sym, ap, ◌∙◌, subst}
use Rattle.stock_model.specs.History.{records, covered}
use Rattle.stock_model.specs.declared.deeds.Deed.{Deed}
use Rattle.stock_keeper.specs.declared.tables.Tables.{Tables}
use Rattle.repost_worker.specs.Openings.{opened_history, IsFoundIn}
use Rattle.repost_worker.proofs.OpenedBooks.{fault-found, kept-opened, loaded-opened}
use Rattle.repost_worker.proofs.revalued_book.RevaluedBook.begin.Goals as goal

pub with_keeper-requires : goal.with_keeper-requires
with_keeper-requires g c κs lives = (
  lives,
  kept-opened (g.K.Keeper.tells c.args.keeper) (g.K.Keeper.may_leave c.args.keeper) (g.K.Keeper.tells c.load.new.self)
      (g.K.Keeper.may_leave c.load.new.self) c.in-Ok-opened_from.book.history c.in-Ok.tables c.in-Ok-opened_from.ensures.opened
      c.in-Ok.ensures.tables c.in-Ok.ensures.left c.in-Ok.ensures.crash c.requires.settled,
)

pub returns-clause-opened : goal.returns-clause-opened
returns-clause-opened g c =
    loaded-opened g.K.Keeper.tells g.K.Keeper.may_leave c.args.keeper c.load.new.self c.in-Ok-opened_from.book.history c.with_keeper.result.history
    c.in-Ok.tables c.with_keeper.ensures.history c.in-Ok-opened_from.ensures.opened c.in-Ok.ensures.tables c.in-Ok.ensures.left c.in-Ok.ensures.tables_kept

pub returns-in-Err-opened_from-clause-fault : goal.returns-in-Err-opened_from-clause-fault
returns-in-Err-opened_from-clause-fault g c t tells =
    let told = c.in-Err-opened_from.fault in
    fault-found t told
    (subst (λ (ts : Tables). IsFoundIn ts told) (c.in-Ok.ensures.tables t tells) c.in-Err-opened_from.ensures.fault)

pub returns-clause-order : goal.returns-clause-order
returns-clause-order g c =
    subst (λ (h : List Deed). h ≡ opened_history (records h) (covered h)) (sym c.with_keeper.ensures.history)
    c.in-Ok-opened_from.ensures.order

pub returns-clause-at_rest : goal.returns-clause-at_rest
returns-clause-at_rest g c =
    let rest = c.in-Ok-opened_from.ensures.at_rest in
    record {
      known = c.with_keeper.ensures.pace.known ∙ rest.known ∙ sym (ap covered c.with_keeper.ensures.history);
      turns = c.with_keeper.ensures.pace.turns ∙ rest.turns;
    }
