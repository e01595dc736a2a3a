-- What turns add to a history, and which calls of its keeper they make.
use Rattle.std.specs.Prelude.{◌≡◌, ◌++◌, List, map, Option, Some, None}
use Rattle.stock_model.specs.Run.{ArePublications}
use Rattle.stock_model.specs.declared.deeds.Deed.{Deed}
use Rattle.stock_model.specs.declared.deeds.Deed.TheVariants.{Kept}
use Rattle.stock_model.specs.declared.records.Record.{Record}
use Rattle.stock_keeper.specs.Calls.{KeeperState, IsRefused, AreDone}
use Rattle.stock_keeper.specs.declared.fault.KeepFault.{KeepFault}

-- one more call was refused so, or none was made
abbrev pub IsLast : Option KeepFault → KeeperState → KeeperState → Type 0
IsLast None old new = new ≡ old
IsLast (Some fault) old new = IsRefused fault old new

-- some publications come, each by a call of the keeper, and then nothing or a refusal
pub record Publishes (stopped : Option KeepFault) (old : List Deed) (keeper : KeeperState) (new : List Deed) (keeper' : KeeperState) : Type 0 where
  pub more : List Deed
  pub publications : ArePublications more
  pub grows : new ≡ old ++ more
  pub between : KeeperState
  pub done : AreDone more keeper between
  pub last : IsLast stopped between keeper'

-- records alone were kept, and nothing published
abbrev pub KeepsAlone : List Deed → List Deed → Type 0
KeepsAlone old new = (items : List Record) × (new ≡ old ++ map Kept items)
