-- An input that is taken to its end, or why it was not.
use Rattle.std.specs.Prelude.{ℕ, ◌≡◌, ◌+◌, ◌<◌, ◌≤◌, Option, List, length, IfSome, Result, Ok, Err}
use Rattle.std.specs.Io.KnownBytes.{Consumes}
use Rattle.stock_io.specs.Counts.{Rose, NeverFalls}
use Rattle.sheet_io.specs.declared.taking.TakeFault.{TakeFault}
use Rattle.sheet_io.specs.declared.taking.TakeFault.TheVariants.{Failed, TooLong, NoMemory}
use Rattle.sheet_io.specs.declared.taking.TheConstants.{MAX_SHEET}

-- the bytes that were taken are all that the source had, where it told them
abbrev pub AreAll : Option (List ℕ) → List ℕ → Type 0
AreAll left taken = IfSome left (λ all. taken ≡ all)

-- what comes of an input of which these bytes were taken: all of them, at its end, or why it was not taken to its end
abbrev pub IsOutcome : Option (List ℕ) → List ℕ → ℕ → ℕ → Result (List ℕ) TakeFault → Type 0
IsOutcome left bytes before after (Ok all) = (all ≡ bytes) × AreAll left bytes × (length bytes < MAX_SHEET) × (after ≡ before)
IsOutcome left bytes before after (Err Failed) = (length bytes < MAX_SHEET) × Rose before after
IsOutcome left bytes before after (Err TooLong) = (length bytes ≡ MAX_SHEET) × (after ≡ before)
IsOutcome left bytes before after (Err NoMemory) = (length bytes ≤ MAX_SHEET) × (after ≡ before)

-- some bytes were taken from the source, and this came of them. left, taken, and faults are what the source tells
pub record IsTakenFrom {S : Type 0} (left : S → Option (List ℕ)) (taken faults : S → ℕ) (before after : S) (result : Result (List ℕ) TakeFault)
    : Type 0 where
  pub bytes : List ℕ
  pub took : Consumes (left before) (left after) bytes
  pub counted : taken after ≡ taken before + length bytes
  pub outcome : IsOutcome (left before) bytes (faults before) (faults after) result
  pub never_falls : NeverFalls (faults before) (faults after)

-- so far these bytes were taken, without a fault
pub record IsUnderWay {S : Type 0} (left : S → Option (List ℕ)) (taken faults : S → ℕ) (before now : S) (bytes : List ℕ) : Type 0 where
  pub took : Consumes (left before) (left now) bytes
  pub counted : taken now ≡ taken before + length bytes
  pub no_fault : faults now ≡ faults before
