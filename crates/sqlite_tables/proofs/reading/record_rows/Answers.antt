use Rattle.sqlite_tables.specs.Texts as texts
use Rattle.sqlite_tables.proofs.LoadLaw.{records_shown}
use Rattle.sqlite_tables.proofs.ReadLaw.{all_stayed, all_kept, all_turned, all_shown}
use Rattle.sqlite_tables.proofs.TextLaws.{records_is, records_plain}
use Rattle.sqlite_tables.proofs.reading.record_rows.Goals as goal

pub returns-clause-shown : goal.returns-clause-shown
returns-clause-shown g c =
    all_shown g.S.Store _ texts.select_records c.args.tx.now.conn.now c.query_all.new.self.conn.now _ _ records_is records_plain.0 records_plain.1 records_shown c.query_all.result
    c.query_all.ensures.ok

pub returns-clause-stayed : goal.returns-clause-stayed
returns-clause-stayed g c = all_stayed g.S.Store _ texts.select_records c.args.tx.now.conn.now c.query_all.new.self.conn.now c.query_all.result c.query_all.ensures.ok

pub returns-clause-kept : goal.returns-clause-kept
returns-clause-kept g c =
    all_kept g.S.Store _ texts.select_records c.args.tx.now.conn.now c.query_all.new.self.conn.now c.query_all.result c.query_all.ensures.ok c.query_all.ensures.err

pub returns-clause-turned : goal.returns-clause-turned
returns-clause-turned g c =
    all_turned g.S.Store _ texts.select_records c.args.tx.now.conn.now c.query_all.new.self.conn.now records_plain.0 c.query_all.result c.query_all.ensures.ok
