-- An audit of the ledger that a shelf has at a path.
use Rattle.std.specs.Prelude.{◌≡◌, ◌⊎◌, ℕ, Option, List}
use Rattle.std.specs.Io.KnownBytes.{Appends}
use Rattle.stock_io.specs.Counts.{Rose}
use Rattle.stock_io.specs.Streams.{AppendsFront}
use Rattle.stock_keeper.specs.Calls.{KeeperState, IsFailed}
use Rattle.stock_keeper.specs.Keeping.{TellSame, Within}
use Rattle.stock_keeper.specs.declared.tables.Tables.{Tables}
use Rattle.repost_worker.specs.Openings.{state_of}
use Rattle.stock_ends.specs.Openings.{HasFirst, TablesStay}
use Rattle.stock_ends.specs.declared.damage.Damage.TheVariants as damage
use Rattle.stock_ends.specs.declared.end.End.{End}
use Rattle.stock_ends.specs.declared.end.End.TheVariants.{Done, NoMemory, StoreFailed, WriteFailed, Damaged}
use Rattle.generation_audit.specs.Verdicts.{IsVerdictOn}
use Rattle.generation_audit.specs.declared.verdict.Verdict.{Verdict}
use Rattle.generation_audit.specs.declared.verdict.Verdict.TheVariants as verdict
use Rattle.stock_audit.specs.Texts.{verdict_text}

-- how an audit ends whose verdict was written
abbrev pub end_of : Verdict → End
end_of (verdict.Sound records covered accounts) = Done
end_of verdict.Head = Damaged damage.Head
end_of (verdict.Record number) = Damaged (damage.Record number)
end_of (verdict.Differs spot stored due) = Damaged (damage.Worth spot)

-- the text was written, and the audit ends by its verdict; or a front of it was
abbrev pub TellsVerdict : {O : Type 0} → (O → Option (List ℕ)) → (O → ℕ) → O → O → Verdict → End → Type 0
TellsVerdict written faults before after v end =
    ((end ≡ end_of v) × Appends (written before) (written after) (verdict_text v) × (faults after ≡ faults before))
    ⊎ ((end ≡ WriteFailed) × AppendsFront (written before) (written after) (verdict_text v) × Rose (faults before) (faults after))

-- the tables were loaded, the verdict is that on what the keeper tells then, which are the tables of the shelf, where both tell
-- them, and it was told; the keeper that is back had no fault
pub record IsAudited {H Kt O : Type 0} (kept_tells : Kt → Tables → Type 0) (tells : H → Tables → Type 0) (kept_faults : H → ℕ)
    (written : O → Option (List ℕ)) (write_faults : O → ℕ) (shelf_before shelf_after : H) (output_before output_after : O) (end : End) : Type 0 where
  pub kept : Kt
  pub copy : Tables
  pub verdict_is : Verdict
  pub same : TellSame (tells shelf_before) (kept_tells kept)
  pub copied : (t : Tables) → kept_tells kept t → copy ≡ t
  pub judged : IsVerdictOn copy verdict_is
  pub told : TellsVerdict written write_faults output_before output_after verdict_is end
  pub tables_stay : TablesStay (tells shelf_before) (tells shelf_after)
  pub fresh : kept_faults shelf_after ≡ 0

-- an end before: the shelf or the first call of its keeper failed, or memory was wanting
abbrev pub IsUnauditedFor : End → Option (List ℕ) → ℕ → ℕ → ℕ → Type 0
IsUnauditedFor NoMemory plan faults faults' kept_faults' = Unit {0}
IsUnauditedFor StoreFailed plan faults faults' kept_faults' = Rose faults faults' ⊎ (Rose 0 kept_faults' × HasFirst plan)
IsUnauditedFor end plan faults faults' kept_faults' = ⊥

-- nothing was written then, and the tables of the shelf stay
pub record IsUnaudited {H O : Type 0} (tells : H → Tables → Type 0) (plan : H → Option (List ℕ)) (faults kept_faults : H → ℕ)
    (shelf_before shelf_after : H) (output_before output_after : O) (end : End) : Type 0 where
  pub nothing_written : output_after ≡ output_before
  pub tables_stay : TablesStay (tells shelf_before) (tells shelf_after)
  pub cause : IsUnauditedFor end (plan shelf_before) (faults shelf_before) (faults shelf_after) (kept_faults shelf_after)

abbrev pub AuditsOverShelf : {H Kt O : Type 0} (kept_tells : Kt → Tables → Type 0) (tells : H → Tables → Type 0) (plan : H → Option (List ℕ))
    (faults kept_faults : H → ℕ) (written : O → Option (List ℕ)) (write_faults : O → ℕ) (shelf_before shelf_after : H)
    (output_before output_after : O) (end : End) → Type 0
AuditsOverShelf kept_tells tells plan faults kept_faults written write_faults shelf_before shelf_after output_before output_after end =
    IsUnaudited tells plan faults kept_faults shelf_before shelf_after output_before output_after end
    ⊎ IsAudited kept_tells tells kept_faults written write_faults shelf_before shelf_after output_before output_after end

-- what an audit by a keeper comes to before it is put back: the load was refused, or memory was wanting
abbrev pub IsUnloadedFor : End → KeeperState → KeeperState → Type 0
IsUnloadedFor NoMemory old new = Unit {0}
IsUnloadedFor StoreFailed old new = IsFailed old new
IsUnloadedFor end old new = ⊥

-- nothing was written then, and the keeper tells no other tables
pub record IsUnloaded {Kt O : Type 0} (tells : Kt → Tables → Type 0) (faults : Kt → ℕ) (plan : Kt → Option (List ℕ)) (calls : Kt → ℕ)
    (keeper_before keeper_after : Kt) (output_before output_after : O) (end : End) : Type 0 where
  pub nothing_written : output_after ≡ output_before
  pub tables_kept : Within (tells keeper_before) (tells keeper_after)
  pub cause : IsUnloadedFor end (state_of (faults keeper_before) (plan keeper_before) (calls keeper_before))
      (state_of (faults keeper_after) (plan keeper_after) (calls keeper_after))

-- or the verdict on what was loaded was told
pub record IsJudged {Kt O : Type 0} (tells : Kt → Tables → Type 0) (faults : Kt → ℕ) (written : O → Option (List ℕ)) (write_faults : O → ℕ)
    (keeper_before keeper_after : Kt) (output_before output_after : O) (end : End) : Type 0 where
  pub copy : Tables
  pub verdict_is : Verdict
  pub copied : (t : Tables) → tells keeper_after t → copy ≡ t
  pub judged : IsVerdictOn copy verdict_is
  pub told : TellsVerdict written write_faults output_before output_after verdict_is end
  pub tables_kept : Within (tells keeper_before) (tells keeper_after)
  pub faults_kept : faults keeper_after ≡ faults keeper_before

abbrev pub KeepsAudited : {Kt O : Type 0} (tells : Kt → Tables → Type 0) (faults : Kt → ℕ) (plan : Kt → Option (List ℕ)) (calls : Kt → ℕ)
    (written : O → Option (List ℕ)) (write_faults : O → ℕ) (keeper_before keeper_after : Kt) (output_before output_after : O) (end : End) → Type 0
KeepsAudited tells faults plan calls written write_faults keeper_before keeper_after output_before output_after end =
    IsUnloaded tells faults plan calls keeper_before keeper_after output_before output_after end
    ⊎ IsJudged tells faults written write_faults keeper_before keeper_after output_before output_after end
