use Rattle.std.proofs.Common.{take}
use Rattle.sqlite_tables.specs.Turning.{with_worths}
use Rattle.sqlite_tables.proofs.Loops.{HasLooped}
use Rattle.sqlite_tables.proofs.writing.put_all.Given as goal

abbrev pub invariant-loop-row : goal.invariant-loop-row
invariant-loop-row g l =
    HasLooped g.S.Store (with_worths (take l.row-index l.rows)) l.initial.tx.conn.ghost_name l.tx.conn.ghost_name l.initial.tx.conn.now l.tx.conn.now
