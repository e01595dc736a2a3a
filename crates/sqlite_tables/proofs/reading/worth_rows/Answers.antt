use Rattle.sqlite_tables.specs.Texts as texts
use Rattle.sqlite_tables.proofs.WorthOrder.{worths_shown}
use Rattle.sqlite_tables.proofs.ReadLaw.{all_stayed, all_kept, all_looked, all_turned, all_shown}
use Rattle.sqlite_tables.proofs.TextLaws.{worths_is, worths_plain}
use Rattle.sqlite_tables.proofs.reading.worth_rows.Goals as goal

pub returns-clause-shown : goal.returns-clause-shown
returns-clause-shown g c =
    all_shown g.S.Store _ texts.select_worths c.args.tx.now.conn.now c.query_all.new.self.conn.now _ _ worths_is worths_plain.0 worths_plain.1 worths_shown c.query_all.result
    c.query_all.ensures.ok

pub returns-clause-stayed : goal.returns-clause-stayed
returns-clause-stayed g c = all_stayed g.S.Store _ texts.select_worths c.args.tx.now.conn.now c.query_all.new.self.conn.now c.query_all.result c.query_all.ensures.ok

pub returns-clause-kept : goal.returns-clause-kept
returns-clause-kept g c =
    all_kept g.S.Store _ texts.select_worths c.args.tx.now.conn.now c.query_all.new.self.conn.now c.query_all.result c.query_all.ensures.ok c.query_all.ensures.err

pub returns-clause-looked : goal.returns-clause-looked
returns-clause-looked g c =
    all_looked g.S.Store _ texts.select_worths c.args.tx.now.conn.now c.query_all.new.self.conn.now worths_plain.0 c.query_all.result c.query_all.ensures.ok

pub returns-clause-turned : goal.returns-clause-turned
returns-clause-turned g c =
    all_turned g.S.Store _ texts.select_worths c.args.tx.now.conn.now c.query_all.new.self.conn.now worths_plain.0 c.query_all.result c.query_all.ensures.ok
