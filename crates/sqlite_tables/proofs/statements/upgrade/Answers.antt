use Rattle.sqlite_tables.proofs.UpgradeLaw.{upgrades}
use Rattle.sqlite_tables.proofs.TurnLemmas.{has_turned}
use Rattle.sqlite_tables.proofs.statements.upgrade.Goals as goal

pub returns-clause-turned : goal.returns-clause-turned
returns-clause-turned g c =
    has_turned g.S.Store _ _ _ _ c.args.tx.now.conn.now c.execute.new.self.conn.now c.execute.result c.execute.ensures.runs (upgrades _ _)
