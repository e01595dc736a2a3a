-- What an audit of tables comes to.
use Rattle.std.specs.Prelude.{ℕ, ◌≡◌, ◌≤◌, pos, List, length, take}
use Rattle.stock_model.specs.declared.records.Record.{Record}
use Rattle.stock_keeper.specs.Changed.{current_version}
use Rattle.stock_keeper.specs.declared.tables.Tables.{Tables}
use Rattle.kept_tables.specs.Openings.{IsAllStored, HasBadHead, IsBadStored}
use Rattle.generation_audit.specs.Findings.{IsFoundIn, AreSound}
use Rattle.generation_audit.specs.declared.verdict.Verdict.{Verdict}
use Rattle.generation_audit.specs.declared.verdict.Verdict.TheVariants as verdict

-- these are all stored records, of which the first so many are covered, and none has a fault at its place
pub record AreRead (t : Tables) (items : List Record) (covered : ℕ) : Type 0 where
  pub stored : IsAllStored items t
  pub version : t.version ≡ current_version
  pub covers : t.covered ≡ pos covered
  pub within : covered ≤ length items

-- this is the verdict on the tables
abbrev pub IsVerdictOn : Tables → Verdict → Type 0
IsVerdictOn t verdict.Head = HasBadHead t
IsVerdictOn t (verdict.Record n) = (HasBadHead t → ⊥) × IsBadStored n t
IsVerdictOn t (verdict.Differs spot stored due) =
    (items : List Record) × (covered : ℕ) × AreRead t items covered
    × IsFoundIn (take covered items) t.worths (record { spot = spot; stored = stored; due = due })
IsVerdictOn t (verdict.Sound records covered accounts) =
    (items : List Record) × AreRead t items covered.0 × (records ≡ length items) × AreSound (take covered.0 items) t.worths accounts
