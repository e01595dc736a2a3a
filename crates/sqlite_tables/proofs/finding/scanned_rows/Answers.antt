use Rattle.sqlite_tables.specs.Texts as texts
use Rattle.sqlite_tables.proofs.ReadLaw.{all_kept, all_looked, all_turned}
use Rattle.sqlite_tables.proofs.TextLaws.{scan_plain}
use Rattle.sqlite_tables.proofs.finding.scanned_rows.Goals as goal

pub returns-clause-looked : goal.returns-clause-looked
returns-clause-looked g c =
    all_looked g.S.Store _ texts.scan_worths c.args.tx.now.conn.now c.query_all.new.self.conn.now scan_plain.0 c.query_all.result c.query_all.ensures.ok

pub returns-clause-turned : goal.returns-clause-turned
returns-clause-turned g c =
    all_turned g.S.Store _ texts.scan_worths c.args.tx.now.conn.now c.query_all.new.self.conn.now scan_plain.0 c.query_all.result c.query_all.ensures.ok

pub returns-clause-kept : goal.returns-clause-kept
returns-clause-kept g c =
    all_kept g.S.Store _ texts.scan_worths c.args.tx.now.conn.now c.query_all.new.self.conn.now c.query_all.result c.query_all.ensures.ok c.query_all.ensures.err
