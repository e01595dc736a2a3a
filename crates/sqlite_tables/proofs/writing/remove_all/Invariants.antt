use Rattle.std.proofs.Common.{take}
use Rattle.sqlite_tables.specs.Turning.{without_spots}
use Rattle.sqlite_tables.proofs.Loops.{HasLooped}
use Rattle.sqlite_tables.proofs.writing.remove_all.Given as goal

abbrev pub invariant-loop-spot : goal.invariant-loop-spot
invariant-loop-spot g l =
    HasLooped g.S.Store (without_spots (take l.spot-index l.spots)) l.initial.tx.conn.ghost_name l.tx.conn.ghost_name l.initial.tx.conn.now l.tx.conn.now
