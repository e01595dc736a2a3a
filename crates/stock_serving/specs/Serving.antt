-- A service of desks over the ledger that a shelf has at a path: how far it comes by its end, and what it writes.
use Rattle.std.specs.Prelude.{ℕ, ◌≡◌, ◌⊎◌, ◌+◌, ◌-◌, ◌<◌, ◌≤◌, Option, Some, None, IfSome, Contains, length, Result, Ok, Err, List, ◌++◌, codes, decimal, String, string_bytes}
use Rattle.std.specs.declared.alloc.Global.{Global}
use Rattle.std.specs.Io.KnownBytes.{Appends}
use Rattle.stock_io.specs.Counts.{Rose}
use Rattle.stock_io.specs.Streams.{AppendsFront}
use Rattle.stock_model.specs.History.{records, accepted, covered, IsLegal}
use Rattle.stock_model.specs.declared.deeds.Deed.{Deed}
use Rattle.stock_keeper.specs.Calls.{IsDone, HasCalled}
use Rattle.stock_keeper.specs.Keeping.{Within}
use Rattle.stock_keeper.specs.declared.fault.KeepFault.{KeepFault}
use Rattle.stock_keeper.specs.declared.fault.KeepFault.TheVariants as keep
use Rattle.stock_keeper.specs.declared.tables.Tables.{Tables}
use Rattle.kept_tables.specs.TablesOf.{tables_of}
use Rattle.repost_worker.specs.Openings.{state_of, opened_history, IsLoaded}
use Rattle.repost_worker.specs.Paces.{Pace, IsAtRest}
use Rattle.repost_worker.specs.Published.{Publishes}
use Rattle.stock_io.specs.Heard.{Heard}
use Rattle.desk_connections.specs.Visits.{Visit}
use Rattle.desk_service.specs.Service.{IsService}
use Rattle.stock_ends.specs.Openings.{IsNotOpened, IsUnbegunFor, IsOpenedAs, IsPutBack}
use Rattle.stock_ends.specs.declared.end.End.{End}
use Rattle.stock_ends.specs.declared.end.End.TheVariants.{Done, NoMemory, WriteFailed, StoreFailed, ListenFailed}

-- the line that is printed: how many records the reports cover, and how many were accepted
abbrev pub summary_text : List Deed → List ℕ
summary_text history =
    codes "{\"covered\":" ++ (decimal (covered history) ++ (codes ",\"records\":" ++ (decimal (accepted history) ++ codes "}\n")))

-- some turns published, and the last one was refused for this
abbrev pub IsRefusedFor : KeepFault → Pace → Pace → Type 0
IsRefusedFor fault served last = Publishes (Some fault) served.history served.keeper last.history last.keeper

-- publications alone were added, and the reports cover all that was accepted
pub record IsSettled (served last : Pace) : Type 0 where
  pub publishes : Publishes None served.history served.keeper last.history last.keeper
  pub covers : covered last.history ≡ accepted last.history

-- after the service a turn was refused by the keeper, or memory was wanting, if only for the summary
abbrev pub IsUnsettledFor : End → Pace → Pace → Type 0
IsUnsettledFor StoreFailed served last = IsRefusedFor keep.Failed served last × Rose 0 last.keeper.faults
IsUnsettledFor NoMemory served last = IsRefusedFor keep.NoMemory served last ⊎ IsSettled served last
IsUnsettledFor end served last = ⊥

-- what is left of the ledger once it was settled: the text of its summary, or the end that it came to instead
abbrev pub Settles : Result (String Global) End → Pace → Pace → Type 0
Settles (Ok text) served last = IsSettled served last × (string_bytes text ≡ summary_text last.history)
Settles (Err end) served last = IsUnsettledFor end served last

-- no event was lost, the plan of the keeper's failures stays, and where it is told, there was a call for each event since at least
pub record CallsEach (first last : Pace) : Type 0 where
  pub longer : length first.history ≤ length last.history
  pub called : HasCalled (length last.history - length first.history) first.keeper.plan first.keeper.calls last.keeper

-- where a plan is told, a call fails that comes after the one of the opening and one for each of so many events
abbrev pub HasLater : Option (List ℕ) → ℕ → Type 0
HasLater plan events = IfSome plan (λ numbers. (n : ℕ) × Contains numbers n × (2 + events ≤ n))

-- nobody was accepted, and the ledger is as it was
pub record IsUnserved {P : Type 0} (first last : Pace) (old new : Heard P) : Type 0 where
  pub nothing_heard : new ≡ old
  pub nothing_kept : last ≡ first

-- the listener counted a fault as it should listen, nobody was accepted, and the ledger is as it was
pub record IsUnheard {P : Type 0} (first last : Pace) (old new : Heard P) : Type 0 where
  pub nobody : new ≡ record old { faults = new.faults }
  pub nothing_kept : last ≡ first
  pub cause : Rose old.faults new.faults

module _ {P : Type 0} (serves : ℕ → ℕ → ℕ → List Deed → List Deed → List (Visit P) → Type 0) (is_fresh : P → Type 0)
    (desks connections : ℕ) where
  -- fewer peers came than were wanted, as the listener failed: those were served, and nothing was settled
  pub record IsCutShort (first last : Pace) (old new : Heard P) : Type 0 where
    pub came : ℕ
    pub few : came < connections
    pub service : IsService serves is_fresh desks connections came first.history last.history first.keeper.faults last.keeper.faults old new
    pub calls : CallsEach first last
    pub cause : Rose old.faults new.faults

  -- as many peers came as were wanted. Once all were served this was done with what they had left of the ledger, and its history is
  -- legal still.
  pub record IsServedThen (settles : Pace → Pace → Type 0) (first last : Pace) (old new : Heard P) : Type 0 where
    pub served : Pace
    pub service : IsService serves is_fresh desks connections connections first.history served.history first.keeper.faults served.keeper.faults old new
    pub calls : CallsEach first served
    pub then : settles served last
    pub legal : IsLegal last.history

  -- how far a service came that ended so before its summary was told
  abbrev pub Stops : End → Pace → Pace → Heard P → Heard P → Type 0
  Stops ListenFailed first last old new = IsUnheard first last old new ⊎ IsCutShort first last old new
  Stops StoreFailed first last old new = IsServedThen (IsUnsettledFor StoreFailed) first last old new
  Stops NoMemory first last old new = IsUnserved first last old new ⊎ IsServedThen (IsUnsettledFor NoMemory) first last old new
  Stops end first last old new = ⊥

  -- or with it
  abbrev pub ServesTo : End → Pace → Pace → Heard P → Heard P → Type 0
  ServesTo Done first last old new = IsServedThen IsSettled first last old new
  ServesTo WriteFailed first last old new = IsServedThen IsSettled first last old new
  ServesTo end first last old new = Stops end first last old new

  -- what a service leaves: the text of its summary, or the end that it came to without one
  abbrev pub Leaves : Result (String Global) End → Pace → Pace → Heard P → Heard P → Type 0
  Leaves (Ok text) first last old new = IsServedThen IsSettled first last old new × (string_bytes text ≡ summary_text last.history)
  Leaves (Err end) first last old new = Stops end first last old new

-- the text was written, or a front of it as the output failed
abbrev pub IsWritten : {O : Type 0} → (O → Option (List ℕ)) → (O → ℕ) → End → List ℕ → O → O → Type 0
IsWritten written faults Done text before after = Appends (written before) (written after) text × (faults after ≡ faults before)
IsWritten written faults WriteFailed text before after =
    AppendsFront (written before) (written after) text × Rose (faults before) (faults after)
IsWritten written faults end text before after = ⊥

-- and nothing was where a service ended without it
abbrev pub Tells : {O : Type 0} → (O → Option (List ℕ)) → (O → ℕ) → End → List ℕ → O → O → Type 0
Tells written faults Done text before after = IsWritten written faults Done text before after
Tells written faults WriteFailed text before after = IsWritten written faults WriteFailed text before after
Tells written faults end text before after = after ≡ before

-- a keeper could not be begun with: the listener is as it was, and the keeper tells no other tables
pub record IsUnbegunKeeper {Kt L : Type 0} (tells : Kt → Tables → Type 0) (faults : Kt → ℕ) (plan : Kt → Option (List ℕ)) (calls : Kt → ℕ)
    (keeper_before keeper_after : Kt)
    (listener_before listener_after : L) (end : End) : Type 0 where
  pub nothing_heard : listener_after ≡ listener_before
  pub tables_kept : Within (tells keeper_before) (tells keeper_after)
  pub cause : IsUnbegunFor end (tells keeper_after) (state_of (faults keeper_before) (plan keeper_before) (calls keeper_before))
      (state_of (faults keeper_after) (plan keeper_after) (calls keeper_after))

-- or its ledger was opened, and this was done from the history that its tables are of, once they were loaded, to the one that they
-- are of then; the worker began with what was covered and no turn
pub record IsBegun {Kt : Type 0} (tells may_leave : Kt → Tables → Type 0) (faults : Kt → ℕ) (plan : Kt → Option (List ℕ)) (calls : Kt → ℕ)
    (does : Pace → Pace → Type 0) (keeper_before keeper_after : Kt) : Type 0 where
  pub first : Pace
  pub last : Pace
  pub loaded : IsLoaded tells may_leave keeper_before first.history
  pub legal : IsLegal first.history
  pub order : first.history ≡ opened_history (records first.history) (covered first.history)
  pub at_rest : IsAtRest first
  pub begun : IsDone (state_of (faults keeper_before) (plan keeper_before) (calls keeper_before)) first.keeper
  pub kept : (t : Tables) → tells keeper_after t → t ≡ tables_of last.history
  pub plan_is : plan keeper_after ≡ last.keeper.plan
  pub faults_are : faults keeper_after ≡ last.keeper.faults
  pub done : does first last

-- what a service over a keeper leaves: the text of its summary, or the end that it came to without one
module _ {Kt L P : Type 0} (tells may_leave : Kt → Tables → Type 0) (faults : Kt → ℕ) (plan : Kt → Option (List ℕ)) (calls : Kt → ℕ)
    (hears : L → Heard P) (serves : ℕ → ℕ → ℕ → List Deed → List Deed → List (Visit P) → Type 0) (is_fresh : P → Type 0)
    (desks connections : ℕ) where
  abbrev pub LeavesKept : Result (String Global) End → Kt → Kt → L → L → Type 0
  LeavesKept (Ok text) keeper_before keeper_after listener_before listener_after =
      IsBegun tells may_leave faults plan calls (λ first last. Leaves serves is_fresh desks connections (Ok text) first last (hears listener_before) (hears listener_after))
      keeper_before keeper_after
  LeavesKept (Err end) keeper_before keeper_after listener_before listener_after =
      IsUnbegunKeeper tells faults plan calls keeper_before keeper_after listener_before listener_after end
      ⊎ IsBegun tells may_leave faults plan calls (λ first last. Leaves serves is_fresh desks connections (Err end) first last (hears listener_before) (hears listener_after))
      keeper_before keeper_after

module _ {H Kt L P O : Type 0} (kept_tells : Kt → Tables → Type 0) (tells : H → Tables → Type 0) (plan : H → Option (List ℕ))
    (faults kept_faults : H → ℕ) (hears : L → Heard P) (written : O → Option (List ℕ)) (write_faults : O → ℕ)
    (serves : ℕ → ℕ → ℕ → List Deed → List Deed → List (Visit P) → Type 0) (is_fresh : P → Type 0) (desks connections : ℕ) where
  -- the ledger was opened and served, the keeper that is back on the shelf has the tables of the last history, which is legal, and
  -- the summary of that was told
  pub record IsServedOver (shelf_before shelf_after : H) (listener_before listener_after : L) (output_before output_after : O) (end : End) : Type 0 where
    pub first : Pace
    pub last : Pace
    pub opened : IsOpenedAs kept_tells (tells shelf_before) (plan shelf_before) first
    pub put_back : IsPutBack (tells shelf_after) (plan shelf_after) (kept_faults shelf_after) last
    pub served : ServesTo serves is_fresh desks connections end first last (hears listener_before) (hears listener_after)
    pub legal : IsLegal last.history
    pub failed : end ≡ StoreFailed → HasLater (plan shelf_before) (length last.history - length first.history)
    pub told : Tells written write_faults end (summary_text last.history) output_before output_after

  -- that, or it was not opened, and neither the listener nor the output was used
  abbrev pub ServesOverShelf : H → H → L → L → O → O → End → Type 0
  ServesOverShelf shelf_before shelf_after listener_before listener_after output_before output_after end =
      IsNotOpened kept_tells tells plan faults kept_faults shelf_before shelf_after listener_before listener_after output_before output_after end
      ⊎ IsServedOver shelf_before shelf_after listener_before listener_after output_before output_after end

-- the listener listens to this port, where a peer may be silent for so many seconds if that is limited; or it listens as it did before, and
-- nobody was accepted
abbrev pub ListensTo : {L : Type 0} → (L → Option (ℕ × Option ℕ)) → (L → ℕ) → ℕ → Option ℕ → L → L → Type 0
ListensTo listens_to accepts port idle before after =
    (listens_to after ≡ Some (port, idle)) ⊎ ((listens_to after ≡ listens_to before) × (accepts after ≡ accepts before))
