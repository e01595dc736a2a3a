-- What was made, or found, is told.
use Rattle.std.proofs.Common.{refl}
use Rattle.sqlite_tables.proofs.RenewLaw.{renewed_itself}
use Rattle.sqlite_tables.proofs.StoredLaw.{prepared_telling, prepared_stored, prepared_told, prepared_durable}
use Rattle.sqlite_tables.proofs.stored_tables.StoredTables.prepared_in_order.Goals as goal

pub invariant_of-result : goal.invariant_of-result
invariant_of-result g c =
    prepared_stored g.S.Store c.args.conn c.prepare.new.conn c.requires.order _ c.prepare.ensures.crash c.in-Ok.kept c.in-Ok.ensures.prepared c.in-Ok.ensures.in_order c.prepare.ensures.ended

pub returns-in-Ok-clause-told : goal.returns-in-Ok-clause-told
returns-in-Ok-clause-told g c = record {
  renewed = c.args.conn;
  is_renewed = renewed_itself g.S.Store c.args.conn c.requires.unchanged;
  order = c.requires.order;
  is_ready = refl;
  telling = prepared_telling g.S.Store c.args.conn c.prepare.new.conn c.requires.order _ c.prepare.ensures.crash c.in-Ok.kept c.in-Ok.ensures.prepared;
  told = prepared_told g.S.Store c.args.conn c.prepare.new.conn c.requires.order _ c.prepare.ensures.crash c.in-Ok.kept c.in-Ok.ensures.prepared;
  crash = c.prepare.ensures.crash;
}

pub returns-in-Ok-clause-durable : goal.returns-in-Ok-clause-durable
returns-in-Ok-clause-durable g c =
    prepared_durable g.S.Store c.args.conn c.prepare.new.conn c.requires.order _ c.prepare.ensures.crash c.in-Ok.kept c.in-Ok.ensures.prepared g.met.S.Store.settled

pub returns-in-Err-clause-refused : goal.returns-in-Err-clause-refused
returns-in-Err-clause-refused g c = record {
  renewed = c.args.conn;
  is_renewed = renewed_itself g.S.Store c.args.conn c.requires.unchanged;
  undone = c.in-Err.ensures.undone;
  crash = c.prepare.ensures.crash;
}
