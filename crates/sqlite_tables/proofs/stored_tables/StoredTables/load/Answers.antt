use Rattle.std.proofs.Common.{◌≡◌, IfOk, sym, ◌∙◌, subst}
use Rattle.stock_keeper.specs.Keeping.{Within}
use Rattle.sqlite_tables.specs.Stored.{TellsTables, MayLeaveTables}
use Rattle.stock_keeper.specs.declared.tables.Tables.{Tables}
use Rattle.sqlite_tables.proofs.StoredLaw.{base, loaded_tables, loaded_left, loaded_kept, loaded_crash, copied_tables, copied_order}
use Rattle.sqlite_tables.proofs.stored_tables.StoredTables.load.Goals as goal

pub returns-in-None-clause-tables : goal.returns-in-None-clause-tables
returns-in-None-clause-tables g c =
    loaded_tables g.S.Store c.self.inside.conn c.load.new.conn c.self.inside.ready c.self.invariant.settled c.load.ensures.survives c.load.ensures.undone c.load.result c.load.ensures.loaded

pub returns-in-None-clause-left : goal.returns-in-None-clause-left
returns-in-None-clause-left g c =
    subst (λ b. IfOk c.load.result (λ copy. (t : Tables) → TellsTables g.S.Store b t → MayLeaveTables g.S.Store (base c.load.new.conn c.self.inside.ready) t → copy ≡ t)) c.self.view_is
    (loaded_left g.S.Store c.self.inside.conn c.load.new.conn c.self.inside.ready c.self.invariant.settled c.load.ensures.survives c.load.ensures.undone c.load.result c.load.ensures.loaded)

pub returns-in-None-clause-tables_kept : goal.returns-in-None-clause-tables_kept
returns-in-None-clause-tables_kept g c =
    subst (λ b. Within (TellsTables g.S.Store b) (TellsTables g.S.Store (base c.load.new.conn c.self.inside.ready))) c.self.view_is
    (loaded_kept g.S.Store c.self.inside.conn c.load.new.conn c.self.inside.ready c.self.invariant.settled c.load.ensures.survives c.load.ensures.undone)

pub returns-in-None-clause-crash : goal.returns-in-None-clause-crash
returns-in-None-clause-crash g c =
    subst (λ b. Within (MayLeaveTables g.S.Store b) (MayLeaveTables g.S.Store (base c.load.new.conn c.self.inside.ready))) c.self.view_is
    (loaded_crash g.S.Store c.self.inside.conn c.load.new.conn c.self.inside.ready c.self.invariant.settled c.load.ensures.survives c.load.ensures.undone)

pub returns-in-Some-clause-tables : goal.returns-in-Some-clause-tables
returns-in-Some-clause-tables g c =
    copied_tables g.S.Store c.self.inside.conn c.self.inside.ready c.self.inside.kept c.self.invariant c.in-Some.copy (sym c.take.ensures.value ∙ c.in-Some.is)

pub returns-in-Some-clause-left : goal.returns-in-Some-clause-left
returns-in-Some-clause-left g c t told left =
    copied_tables g.S.Store c.self.inside.conn c.self.inside.ready c.self.inside.kept c.self.invariant c.in-Some.copy (sym c.take.ensures.value ∙ c.in-Some.is) t
    (subst (λ b. TellsTables g.S.Store b t) (sym c.self.view_is) told)

pub returns-in-Some-clause-in_order : goal.returns-in-Some-clause-in_order
returns-in-Some-clause-in_order g c =
    copied_order g.S.Store c.self.inside.conn c.self.inside.ready c.self.inside.kept c.self.invariant c.in-Some.copy (sym c.take.ensures.value ∙ c.in-Some.is)

pub returns-in-Some-clause-tables_kept : goal.returns-in-Some-clause-tables_kept
returns-in-Some-clause-tables_kept g c t told = subst (λ b. TellsTables g.S.Store b t) c.self.view_is told

pub returns-in-Some-clause-crash : goal.returns-in-Some-clause-crash
returns-in-Some-clause-crash g c t left = subst (λ b. MayLeaveTables g.S.Store b t) c.self.view_is left
