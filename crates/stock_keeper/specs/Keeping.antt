-- What the clauses of keepers and shelves say. Which tables something tells is a fact of tables: it holds of one, or of none
-- where nothing is told. What a crash may leave is another.
use Rattle.std.specs.Prelude.{◌≡◌, ◌↔◌, ◌⊎◌, ℕ, List, Option, Some, Contains, Result, Err, IfSome}
use Rattle.stock_io.specs.Counts.{raised}
use Rattle.stock_keeper.specs.declared.fault.KeepFault.{KeepFault}
use Rattle.stock_keeper.specs.declared.fault.KeepFault.TheVariants.{Failed}
use Rattle.stock_keeper.specs.declared.tables.Tables.{Tables}

-- the second holds of nothing of which the first did not hold
abbrev pub Within : (Tables → Type 0) → (Tables → Type 0) → Type 0
Within first second = (t : Tables) → second t → first t

-- the tables are those that were told, with the change made
abbrev pub IsMade : (Tables → Tables) → (Tables → Type 0) → Tables → Type 0
IsMade change told t = (old : Tables) × told old × (t ≡ change old)

-- where tables are told now, they are those that were told before, with the change made
abbrev pub Makes : (Tables → Tables) → (Tables → Type 0) → (Tables → Type 0) → Type 0
Makes change before now = Within (IsMade change before) now

-- a crash may leave what it might have left before, or the tables that were told with the change made, and nothing else
abbrev pub MayMake : (Tables → Tables) → (Tables → Type 0) → (Tables → Type 0) → (Tables → Type 0) → Type 0
MayMake change told before now = Within (λ t. before t ⊎ IsMade change told t) now

-- after so many calls this one failed if the plan has its number, and only then, where a plan is told
abbrev pub FailsAsPlanned : {T : Type 0} → Option (List ℕ) → ℕ → Result T KeepFault → Type 0
FailsAsPlanned plan calls result = IfSome plan (λ numbers. (result ≡ Err Failed) ↔ Contains numbers (raised calls))

-- the tables that are told first and those that are told second are the same, where both are
abbrev pub TellSame : (Tables → Type 0) → (Tables → Type 0) → Type 0
TellSame first second = (s t : Tables) → first s → second t → t ≡ s

-- it holds of no tables
abbrev pub HoldsOfNone : (Tables → Type 0) → Type 0
HoldsOfNone told = (t : Tables) → told t → ⊥

-- a keeper was asked for once, at this path
pub record AsksAt {H : Type 0} (opened : H → Option (List ℕ)) (openings : H → ℕ) (path : List ℕ) (old new : H) : Type 0 where
  pub path_is : opened new ≡ Some path
  pub once : openings new ≡ raised (openings old)

-- so one was, or none was, and the shelf is as it was
abbrev pub AsksAtMost : {H : Type 0} → (H → Option (List ℕ)) → (H → ℕ) → List ℕ → H → H → Type 0
AsksAtMost opened openings path old new = AsksAt opened openings path old new ⊎ (new ≡ old)
