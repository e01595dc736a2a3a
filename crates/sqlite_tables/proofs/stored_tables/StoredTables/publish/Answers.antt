use Rattle.std.proofs.Common.{OnOk, OnErr, subst}
use Rattle.std.specs.Prelude.{⊤}
use Rattle.stock_keeper.specs.Changed.{published}
use Rattle.stock_keeper.specs.Keeping.{Within, Makes, MayMake}
use Rattle.sqlite_tables.specs.Stored.{TellsTables, MayLeaveTables}
use Rattle.sqlite_tables.proofs.StoredLaw.{base, changed_made, changed_crash, changed_durable, changed_kept, changed_stored}
use Rattle.sqlite_tables.proofs.stored_tables.StoredTables.publish.Goals as goal

pub returns-clause-made : goal.returns-clause-made
returns-clause-made g c =
    subst (λ b. OnOk c.publish.result (Makes (published c.args.covered c.args.changes.now) (TellsTables g.S.Store b) (TellsTables g.S.Store (base c.publish.new.conn c.self.inside.ready)))) c.self.view_is
    (changed_made g.S.Store c.self.inside.conn c.publish.new.conn c.self.inside.ready c.self.invariant.settled (λ _. ⊤) (published c.args.covered c.args.changes.now)
    (λ t told. tt) c.publish.ensures.crash c.publish.result c.publish.ensures.made)

pub returns-clause-durable : goal.returns-clause-durable
returns-clause-durable g c =
    changed_durable g.S.Store c.self.inside.conn c.publish.new.conn c.self.inside.ready c.self.invariant.settled (λ _. ⊤) (published c.args.covered c.args.changes.now)
    (λ t told. tt) c.publish.ensures.crash c.publish.result c.publish.ensures.made g.met.S.Store.settled

pub returns-clause-tables_kept : goal.returns-clause-tables_kept
returns-clause-tables_kept g c =
    subst (λ b. OnErr c.publish.result (Within (TellsTables g.S.Store b) (TellsTables g.S.Store (base c.publish.new.conn c.self.inside.ready)))) c.self.view_is
    (changed_kept g.S.Store c.self.inside.conn c.publish.new.conn c.self.inside.ready c.self.invariant.settled (λ _. ⊤) (published c.args.covered c.args.changes.now)
    (λ t told. tt) c.publish.ensures.crash c.publish.result c.publish.ensures.made c.publish.ensures.undone)

pub returns-clause-crash : goal.returns-clause-crash
returns-clause-crash g c =
    subst (λ b. OnErr c.publish.result (MayMake (published c.args.covered c.args.changes.now) (TellsTables g.S.Store b) (MayLeaveTables g.S.Store b) (MayLeaveTables g.S.Store (base c.publish.new.conn c.self.inside.ready)))) c.self.view_is
    (changed_crash g.S.Store c.self.inside.conn c.publish.new.conn c.self.inside.ready c.self.invariant.settled (λ _. ⊤) (published c.args.covered c.args.changes.now)
    (λ t told. tt) c.publish.ensures.crash c.publish.result c.publish.ensures.made)

pub invariant_of-self : goal.invariant_of-self
invariant_of-self g c =
    changed_stored g.S.Store c.self.inside.conn c.publish.new.conn c.self.inside.ready c.self.invariant.settled (λ _. ⊤) (published c.args.covered c.args.changes.now)
    (λ t told. tt) c.publish.ensures.crash c.publish.result c.publish.ensures.made c.publish.ensures.undone
    c.publish.ensures.ended
