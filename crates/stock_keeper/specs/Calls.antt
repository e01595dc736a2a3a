-- What contracts see of a keeper beside its tables: its faults, and where it tells a plan, which of its calls fail and how many
-- there were. And what calls make of that.
use Rattle.std.specs.Prelude.{◌≡◌, ◌⊎◌, ℕ, ◌+◌, ◌-◌, ◌^◌, ◌≤◌, min, List, [], ◌∷◌, Option, Some, IfSome, OnSome, Contains}
use Rattle.stock_io.specs.Counts.{Rose, NeverFalls, raised}
use Rattle.stock_keeper.specs.declared.fault.KeepFault.{KeepFault}
use Rattle.stock_keeper.specs.declared.fault.KeepFault.TheVariants.{Failed, NoMemory}

pub record KeeperState : Type 0 where
  pub faults : ℕ
  pub plan : Option (List ℕ)
  pub calls : ℕ

-- one call was made, and it is counted where a plan is told
pub record IsCounted (old new : KeeperState) : Type 0 where
  pub plan_kept : new.plan ≡ old.plan
  pub counted : OnSome old.plan (new.calls ≡ raised old.calls)

-- the next call is one of those that fail, where a plan is told, or it is not
abbrev pub IsPlanned : KeeperState → Type 0
IsPlanned keeper = IfSome keeper.plan (λ numbers. Contains numbers (raised keeper.calls))

abbrev pub IsUnplanned : KeeperState → Type 0
IsUnplanned keeper = IfSome keeper.plan (λ numbers. Contains numbers (raised keeper.calls) → ⊥)

-- one call was made, and it did what it was asked for
pub record IsDone (old new : KeeperState) : Type 0 where
  pub no_fault : new.faults ≡ old.faults
  pub unplanned : IsUnplanned old
  pub count : IsCounted old new

-- one call was made, and the keeper failed
pub record IsFailed (old new : KeeperState) : Type 0 where
  pub fault : Rose old.faults new.faults
  pub never_falls : NeverFalls old.faults new.faults
  pub planned : IsPlanned old
  pub count : IsCounted old new

-- one call was made, which was refused so; for want of memory none may have been made, and then all is as it was
abbrev pub IsRefused : KeepFault → KeeperState → KeeperState → Type 0
IsRefused Failed old new = IsFailed old new
IsRefused NoMemory old new = (new ≡ old) ⊎ (NeverFalls old.faults new.faults × IsCounted old new)

-- one call was made for each of these, and all did what they were asked for
abbrev pub AreDone : {T : Type 0} → List T → KeeperState → KeeperState → Type 0
AreDone [] old new = new ≡ old
AreDone (x ∷ xs) old new = (mid : KeeperState) × IsDone old mid × AreDone xs mid new

-- A keeper that told this plan and so many calls has that plan still, and where it is told, so many more calls were counted at
-- least.
pub record HasCalled (more : ℕ) (plan : Option (List ℕ)) (calls : ℕ) (new : KeeperState) : Type 0 where
  pub plan_kept : new.plan ≡ plan
  pub counted : OnSome plan (min (calls + more) (2 ^ 64 - 1) ≤ new.calls)

-- a keeper that never fails, before its first call
abbrev pub first_state : KeeperState
first_state = record { faults = 0; plan = Some []; calls = 0 }
