-- The audit is that by the keeper of the shelf.
use Rattle.stock_audit.proofs.AuditedRuns.{over-kept}
use Rattle.stock_audit.proofs.audited.audit_over.Goals as goal

pub returns-clause-audits : goal.returns-clause-audits
returns-clause-audits g c =
    over-kept g.H.Kept.Keeper.tells g.H.Kept.Keeper.faults g.H.Kept.Keeper.plan g.H.Kept.Keeper.calls g.H.Shelf.tells g.H.Shelf.plan
    g.H.Shelf.faults g.H.Shelf.kept_faults g.O.Sink.written g.O.Sink.faults c.args.shelf.now c.put_back.new.self c.in-Ok.keeper
    c.audit_kept-end.new.keeper c.args.output.now c.audit_kept-end.new.output c.audit_kept-end.result c.in-Ok.ensures.tables c.in-Ok.ensures.fresh
    c.in-Ok.ensures.plan c.in-Ok.ensures.uncalled c.put_back.ensures.tables c.put_back.ensures.kept_faults c.audit_kept-end.ensures
