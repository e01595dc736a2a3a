use Rattle.kept_tables.proofs.Readings.{refused}
use Rattle.kept_tables.proofs.checking.read.Goals as goal

pub returns-in-Err : goal.returns-in-Err
returns-in-Err c = record {
  read = tt;
  fault = refused c.args.text.now c.args.number.0 c.in-Err.fault c.unread.result c.in-Err.ensures.fault
      c.unread.ensures.memory c.unread.ensures.told;
}
