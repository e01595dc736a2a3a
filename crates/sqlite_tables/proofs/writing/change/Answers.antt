-- The three parts are the publication.
use Rattle.std.proofs.Common.{subst}
use Rattle.sqlite_tables.specs.Turning.{HasGone, with_worths, without_spots}
use Rattle.sqlite_tables.proofs.Loops.{published_then}
use Rattle.sqlite_tables.proofs.writing.change.Goals as goal

pub returns-clause-turned : goal.returns-clause-turned
returns-clause-turned g c =
    let old = c.args.tx.now.conn.now in
    let put = c.put_all.new.tx.conn.now in
    let removed = c.remove_all.new.tx.conn.now in
    let new = c.cover.new.tx.conn.now in
    published_then g.S.Store c.args.covered c.args.changes.now old put removed new
    (subst (λ rows. HasGone g.S.Store (with_worths rows) old put) c.as_slice.ensures c.in_ok-put_all.ensures.gone) c.remove_all.ensures.survives
    (subst (λ spots. HasGone g.S.Store (without_spots spots) put removed) c.as_slice-2.ensures c.in_ok-remove_all.ensures.gone) c.cover.ensures.survives
    c.in_ok-cover.ensures.turned
