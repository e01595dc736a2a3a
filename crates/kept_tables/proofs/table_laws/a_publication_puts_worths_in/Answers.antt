use Rattle.std.proofs.Common.{arith}
use Rattle.std.proofs.lemmas.Int.{ints}
use Rattle.stock_model.specs.History.{covered_records}
use Rattle.stock_model.specs.Replay.{replay}
use Rattle.kept_tables.proofs.KeptRecords.{CoversRecords-accepted}
use Rattle.kept_tables.proofs.Revalued.{tables_of-published}
use Rattle.kept_tables.proofs.RowWorths.{AreInOrder-worths_of}
use Rattle.kept_tables.proofs.table_laws.a_publication_puts_worths_in.Goals as goal

pub returns-clause-in_order : goal.returns-clause-in_order
returns-clause-in_order c history = AreInOrder-worths_of (replay (covered_records history))

pub returns-clause-more : goal.returns-clause-more
returns-clause-more c history n more = omega (arith, ints)

pub returns-clause-within : goal.returns-clause-within
returns-clause-within c = CoversRecords-accepted

pub returns-clause-published : goal.returns-clause-published
returns-clause-published c history n changed spots legal more within are = tables_of-published history n changed spots more are
