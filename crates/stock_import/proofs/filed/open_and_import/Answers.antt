-- The import is that over the keeper of the shelf.
use Rattle.stock_import.proofs.FiledImports.{imported-kept}
use Rattle.stock_import.proofs.filed.open_and_import.Goals as goal

pub returns-clause-imports : goal.returns-clause-imports
returns-clause-imports g c =
    imported-kept g.H.Kept.Keeper.tells g.H.Kept.Keeper.may_leave g.H.Kept.Keeper.faults g.H.Kept.Keeper.plan g.H.Kept.Keeper.calls
    g.H.Shelf.tells g.H.Shelf.plan g.H.Shelf.faults g.H.Shelf.kept_faults g.O.Sink.written g.O.Sink.faults c.args.shelf.now
    c.put_back.new.self c.in-Ok.keeper c.import_kept-end.result.keeper c.args.output.now c.import_kept-end.new.output c.args.vouchers.now
    c.import_kept-end.result.end c.in-Ok.ensures.tables c.in-Ok.ensures.fresh c.in-Ok.ensures.plan c.in-Ok.ensures.uncalled
    c.put_back.ensures.tables c.put_back.ensures.plan c.put_back.ensures.kept_faults c.import_kept-end.ensures
