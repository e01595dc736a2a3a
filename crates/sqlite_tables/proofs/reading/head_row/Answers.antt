use Rattle.sqlite_tables.specs.Rows.{head_row}
use Rattle.sqlite_tables.specs.Texts as texts
use Rattle.sqlite_tables.proofs.LoadLaw.{head_first}
use Rattle.sqlite_tables.proofs.ReadLaw.{row_stayed, row_kept, row_shown}
use Rattle.sqlite_tables.proofs.TextLaws.{head_is, head_plain}
use Rattle.sqlite_tables.proofs.reading.head_row.Goals as goal

pub returns-clause-shown : goal.returns-clause-shown
returns-clause-shown g c =
    row_shown g.S.Store texts.select_head c.args.tx.now.conn.now c.query_row.new.self.conn.now head_row _ head_is head_plain.0 head_plain.1 head_first
    c.query_row.result c.query_row.ensures.row

pub returns-clause-stayed : goal.returns-clause-stayed
returns-clause-stayed g c = row_stayed g.S.Store texts.select_head c.args.tx.now.conn.now c.query_row.new.self.conn.now c.query_row.result c.query_row.ensures.row

pub returns-clause-kept : goal.returns-clause-kept
returns-clause-kept g c = row_kept g.S.Store texts.select_head c.args.tx.now.conn.now c.query_row.new.self.conn.now c.query_row.result c.query_row.ensures.row
