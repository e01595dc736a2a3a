use Rattle.std.proofs.Common.{OnOk, OnErr, subst}
use Rattle.stock_keeper.specs.Changed.{appended, Follows}
use Rattle.stock_keeper.specs.Keeping.{Within, Makes, MayMake}
use Rattle.sqlite_tables.specs.Stored.{TellsTables, MayLeaveTables}
use Rattle.sqlite_tables.proofs.StoredLaw.{base, changed_made, changed_crash, changed_durable, changed_kept, changed_stored}
use Rattle.sqlite_tables.proofs.stored_tables.StoredTables.append.Goals as goal

pub returns-clause-made : goal.returns-clause-made
returns-clause-made g c =
    subst (λ b. OnOk c.append.result (Makes (appended c.args.number c.args.body.now) (TellsTables g.S.Store b) (TellsTables g.S.Store (base c.append.new.conn c.self.inside.ready)))) c.self.view_is
    (changed_made g.S.Store c.self.inside.conn c.append.new.conn c.self.inside.ready c.self.invariant.settled (λ t. Follows t c.args.number) (appended c.args.number c.args.body.now)
    (λ t told. c.requires t (subst (λ b. TellsTables g.S.Store b t) c.self.view_is told)) c.append.ensures.crash c.append.result c.append.ensures.made)

pub returns-clause-durable : goal.returns-clause-durable
returns-clause-durable g c =
    changed_durable g.S.Store c.self.inside.conn c.append.new.conn c.self.inside.ready c.self.invariant.settled (λ t. Follows t c.args.number) (appended c.args.number c.args.body.now)
    (λ t told. c.requires t (subst (λ b. TellsTables g.S.Store b t) c.self.view_is told)) c.append.ensures.crash c.append.result c.append.ensures.made g.met.S.Store.settled

pub returns-clause-tables_kept : goal.returns-clause-tables_kept
returns-clause-tables_kept g c =
    subst (λ b. OnErr c.append.result (Within (TellsTables g.S.Store b) (TellsTables g.S.Store (base c.append.new.conn c.self.inside.ready)))) c.self.view_is
    (changed_kept g.S.Store c.self.inside.conn c.append.new.conn c.self.inside.ready c.self.invariant.settled (λ t. Follows t c.args.number) (appended c.args.number c.args.body.now)
    (λ t told. c.requires t (subst (λ b. TellsTables g.S.Store b t) c.self.view_is told)) c.append.ensures.crash c.append.result c.append.ensures.made c.append.ensures.undone)

pub returns-clause-crash : goal.returns-clause-crash
returns-clause-crash g c =
    subst (λ b. OnErr c.append.result (MayMake (appended c.args.number c.args.body.now) (TellsTables g.S.Store b) (MayLeaveTables g.S.Store b) (MayLeaveTables g.S.Store (base c.append.new.conn c.self.inside.ready)))) c.self.view_is
    (changed_crash g.S.Store c.self.inside.conn c.append.new.conn c.self.inside.ready c.self.invariant.settled (λ t. Follows t c.args.number) (appended c.args.number c.args.body.now)
    (λ t told. c.requires t (subst (λ b. TellsTables g.S.Store b t) c.self.view_is told)) c.append.ensures.crash c.append.result c.append.ensures.made)

pub invariant_of-self : goal.invariant_of-self
invariant_of-self g c =
    changed_stored g.S.Store c.self.inside.conn c.append.new.conn c.self.inside.ready c.self.invariant.settled (λ t. Follows t c.args.number) (appended c.args.number c.args.body.now)
    (λ t told. c.requires t (subst (λ b. TellsTables g.S.Store b t) c.self.view_is told)) c.append.ensures.crash c.append.result c.append.ensures.made c.append.ensures.undone
    c.append.ensures.ended
