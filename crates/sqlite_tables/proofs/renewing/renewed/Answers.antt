use Rattle.std.proofs.Common.{◌∙◌, sym}
use Rattle.sqlite_tables.proofs.RenewLaw.{renewed_order, renewed_is}
use Rattle.sqlite_tables.proofs.renewing.renewed.Goals as goal

pub returns-clause-renewed : goal.returns-clause-renewed
returns-clause-renewed g c =
    renewed_is g.S.Store c.args.conn c.in_ok-conn.conn c.into_store-store.result (λ clean. sym (c.is_broken.ensures clean) ∙ c.if-is_broken.false) c.in_ok-conn.ensures.clean
    c.in_ok-conn.ensures.opens c.in_ok-conn.ensures.trees c.into_store-store.ensures.undone c.into_store-store.ensures.quiet c.in_ok-conn.ensures.shield
    g.met.S.Store.broken_if_shut g.met.S.Store.settled g.met.S.Store.stays

pub returns-clause-order : goal.returns-clause-order
returns-clause-order g c =
    renewed_order g.S.Store c.args.conn c.in_ok-conn.conn c.into_store-store.result (λ clean. sym (c.is_broken.ensures clean) ∙ c.if-is_broken.false) c.in_ok-conn.ensures.clean
    c.in_ok-conn.ensures.opens c.in_ok-conn.ensures.trees g.met.S.Store.ordered g.met.S.Alter.listed c.in_ok-conn.ensures.fresh
