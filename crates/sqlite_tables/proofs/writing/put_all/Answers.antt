-- One more worth was put in.
use Rattle.std.proofs.Common.{◌∙◌}
use Rattle.sqlite_tables.proofs.Loops.{gone_then, survives_next, with_more}
use Rattle.sqlite_tables.proofs.writing.put_all.Goals as goal

pub loop-row-preserved : goal.loop-row-preserved
loop-row-preserved g c =
    let so_far = c.loop-row.invariant in
    let old = c.args.tx.now.conn.now in
    let mid = c.loop-row.tx.conn.now in
    let new = c.put_worth.new.tx.conn.now in
    record {
      same_reference = c.put_worth.ensures.same_reference ∙ so_far.same_reference;
      gone =
          gone_then g.S.Store _ _ _ old mid new (with_more c.args.rows.now c.loop-row.row-index _ c.loop-row-test.true) so_far.gone c.put_worth.ensures.survives
          c.in_ok-put_worth.ensures.turned;
      survives = survives_next g.S.Store old mid new so_far.survives c.put_worth.ensures.survives;
    }
