-- What was made anew stands in place of what was given, and so does what stands in its place.
use Rattle.sqlite_tables.proofs.RenewLaw.{renewed_twice}
use Rattle.sqlite_tables.proofs.stored_tables.StoredTables.prepared.Goals as goal

pub returns-in-Ok-prepared_in_order-clause-told : goal.returns-in-Ok-prepared_in_order-clause-told
returns-in-Ok-prepared_in_order-clause-told g c =
    let told = c.in-Ok-prepared_in_order.ensures.told in
    record {
      renewed = told.renewed;
      is_renewed = renewed_twice g.S.Store c.args.conn c.in-Ok.conn told.renewed c.in-Ok.ensures.renewed told.is_renewed;
      order = told.order;
      is_ready = told.is_ready;
      telling = told.telling;
      told = told.told;
      crash = told.crash;
    }

pub returns-in-Err-prepared_in_order-clause-refused : goal.returns-in-Err-prepared_in_order-clause-refused
returns-in-Err-prepared_in_order-clause-refused g c =
    let refused = c.in-Err-prepared_in_order.ensures.refused in
    record {
      renewed = refused.renewed;
      is_renewed = renewed_twice g.S.Store c.args.conn c.in-Ok.conn refused.renewed c.in-Ok.ensures.renewed refused.is_renewed;
      undone = refused.undone;
      crash = refused.crash;
    }
