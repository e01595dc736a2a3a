use Rattle.sqlite_tables.proofs.DeleteLaw.{removes}
use Rattle.sqlite_tables.proofs.TurnLemmas.{has_turned}
use Rattle.sqlite_tables.proofs.statements.remove_worth.Goals as goal

pub returns-clause-turned : goal.returns-clause-turned
returns-clause-turned g c =
    has_turned g.S.Store _ _ _ _ c.args.tx.now.conn.now c.execute.new.self.conn.now c.execute.result
    (λ clean inside. rw c.spot_values.ensures at (c.execute.ensures.runs clean inside)) (removes _ _ c.args.spot.now)
