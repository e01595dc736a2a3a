use Rattle.sqlite_tables.proofs.MakeLaw.{begin_led}
use Rattle.sqlite_tables.proofs.TurnLemmas.{has_led}
use Rattle.sqlite_tables.proofs.making.begin_head.Goals as goal

pub returns-clause-led : goal.returns-clause-led
returns-clause-led g c =
    has_led g.S.Store _ _ _ _ c.args.tx.now.conn.now c.execute.new.self.conn.now c.execute.result c.execute.ensures.runs (begin_led _ _)
