-- Why a book refuses a record, and what a refusal leaves of its keeper and of what was tried.
use Rattle.std.specs.Prelude.{◌≡◌, ◌⊎◌, ℕ, List, [], ◌∷◌, ◌++◌, Some, None}
use Rattle.stock_io.specs.Counts.{raised}
use Rattle.stock_model.specs.Faults.{fault, fault_but_short}
use Rattle.stock_model.specs.declared.deeds.Deed.{Deed}
use Rattle.stock_model.specs.declared.faults.PostFault.{PostFault}
use Rattle.stock_model.specs.declared.faults.PostFault.TheVariants as post_fault
use Rattle.stock_model.specs.declared.records.Record.{Record}
use Rattle.stock_keeper.specs.Calls.{KeeperState, IsRefused}
use Rattle.stock_keeper.specs.declared.fault.KeepFault.{KeepFault}
use Rattle.stock_keeper.specs.declared.fault.KeepFault.TheVariants.{Failed, NoMemory}

-- why a post is refused that the keeper refused
abbrev pub refusal_of : KeepFault → PostFault
refusal_of Failed = post_fault.KeeperFailed
refusal_of NoMemory = post_fault.NoMemory

-- the keeper failed, or memory was wanting, for a record without a fault, or but a shortage; or it is the record's first fault
abbrev pub IsRefusalOf : List Record → Record → PostFault → Type 0
IsRefusalOf journal item post_fault.KeeperFailed = fault journal item ≡ None
IsRefusalOf journal item post_fault.NoMemory = fault_but_short journal item ≡ None
IsRefusalOf journal item f = fault journal item ≡ Some f

-- the keeper was called and refused it, perhaps, or was not called
abbrev pub IsAfterRefusal : PostFault → KeeperState → KeeperState → Type 0
IsAfterRefusal post_fault.KeeperFailed old new = IsRefused Failed old new
IsAfterRefusal post_fault.NoMemory old new = IsRefused NoMemory old new
IsAfterRefusal f old new = new ≡ old

-- what was tried since the keeper last did what it was asked for, before and after it refused this, if it was asked at all: for want
-- of memory it may not have been
abbrev pub HasTried : KeepFault → Deed → List Deed → List Deed → Type 0
HasTried Failed event old new = new ≡ old ++ event ∷ []
HasTried NoMemory event old new = (new ≡ old) ⊎ (new ≡ old ++ event ∷ [])

-- the same where a post was refused so: for its own fault the keeper was not asked
abbrev pub HasTriedFor : PostFault → Deed → List Deed → List Deed → Type 0
HasTriedFor post_fault.KeeperFailed event old new = HasTried Failed event old new
HasTriedFor post_fault.NoMemory event old new = HasTried NoMemory event old new
HasTriedFor f event old new = new ≡ old

-- how many calls of the keeper were made, before and after it refused one, if it was asked at all
abbrev pub HasAsked : KeepFault → ℕ → ℕ → Type 0
HasAsked Failed old new = new ≡ raised old
HasAsked NoMemory old new = (new ≡ old) ⊎ (new ≡ raised old)

abbrev pub HasAskedFor : PostFault → ℕ → ℕ → Type 0
HasAskedFor post_fault.KeeperFailed old new = HasAsked Failed old new
HasAskedFor post_fault.NoMemory old new = HasAsked NoMemory old new
HasAskedFor f old new = new ≡ old
