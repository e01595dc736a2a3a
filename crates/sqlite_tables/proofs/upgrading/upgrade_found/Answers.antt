use Rattle.std.proofs.Common.{arith}
use Rattle.sqlite_tables.proofs.TurnLemmas.{turned_then}
use Rattle.sqlite_tables.proofs.upgrading.upgrade_found.Goals as goal

pub returns-clause-found : goal.returns-clause-found
returns-clause-found g c =
    (c.in_ok-found.found, (λ clean. c.in_ok-found.ensures.found (omega (arith, c.upgrade.ensures.survives.clean, clean))), c.as_written_now.ensures)

pub returns-clause-turned : goal.returns-clause-turned
returns-clause-turned g c =
    turned_then g.S.Store _ c.args.tx.now.conn.now c.find_tables.new.tx.conn.now c.upgrade.new.tx.conn.now c.in_ok-found.ensures.turned
    c.upgrade.ensures.survives c.in_ok-upgrade.ensures.turned
