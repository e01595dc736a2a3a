-- The ends of an audit as they are told, and which it has without a fault.
use Rattle.std.proofs.Common.{◌≡◌, ◌⊎◌, ◌∙◌, ℕ, List, Option, inl, inr, refl, ap, arith}
use Rattle.stock_io.specs.Counts.{Rose}
use Rattle.stock_keeper.specs.declared.tables.Tables.{Tables}
use Rattle.stock_ends.specs.Statuses.{status_of, IsToldAs, CountsNoFault}
use Rattle.stock_ends.specs.declared.end.End.{End}
use Rattle.stock_ends.specs.declared.end.End.TheVariants.{Done, NoMemory, ReadFailed, WriteFailed, TooLong, StoreFailed, ListenFailed, BadSheet, Damaged}
use Rattle.generation_audit.specs.declared.verdict.Verdict.{Verdict}
use Rattle.generation_audit.specs.declared.verdict.Verdict.TheVariants as verdict
use Rattle.stock_audit.specs.Audits.{AuditsOverShelf, IsUnauditedFor, end_of}

-- a status of an audit that had no fault of what it writes and keeps
abbrev IsFaultless : ℕ → Type 0
IsFaultless status = (status ≡ 0) ⊎ ((status ≡ 3) ⊎ (status ≡ 7))

-- a count that rose counts a fault
rose-not : (before after : ℕ) → CountsNoFault before after → Rose before after → ⊥
rose-not before after none rose =
    let less = rose none.1 in
    absurd (omega (arith, less, none.0))

unaudited-faultless : (end : End) (plan : Option (List ℕ)) (before after kept : ℕ) → IsUnauditedFor end plan before after kept
    → CountsNoFault before after → CountsNoFault 0 kept → IsFaultless (status_of end)
unaudited-faultless NoMemory plan before after kept cause shelf keeper = inr (inl refl)
unaudited-faultless StoreFailed plan before after kept (inl rose) shelf keeper = absurd (rose-not before after shelf rose)
unaudited-faultless StoreFailed plan before after kept (inr failed) shelf keeper = absurd (rose-not 0 kept keeper failed.0)
unaudited-faultless Done plan before after kept cause shelf keeper = absurd cause
unaudited-faultless ReadFailed plan before after kept cause shelf keeper = absurd cause
unaudited-faultless WriteFailed plan before after kept cause shelf keeper = absurd cause
unaudited-faultless TooLong plan before after kept cause shelf keeper = absurd cause
unaudited-faultless ListenFailed plan before after kept cause shelf keeper = absurd cause
unaudited-faultless BadSheet plan before after kept cause shelf keeper = absurd cause
unaudited-faultless (Damaged damage) plan before after kept cause shelf keeper = absurd cause

verdict-faultless : (v : Verdict) → IsFaultless (status_of (end_of v))
verdict-faultless (verdict.Sound records covered accounts) = inl refl
verdict-faultless verdict.Head = inr (inr refl)
verdict-faultless (verdict.Record number) = inr (inr refl)
verdict-faultless (verdict.Differs spot stored due) = inr (inr refl)

status-faultless : (a b : ℕ) → a ≡ b → IsFaultless b → IsFaultless a
status-faultless a b is (inl done) = inl (is ∙ done)
status-faultless a b is (inr (inl memory)) = inr (inl (is ∙ memory))
status-faultless a b is (inr (inr damage)) = inr (inr (is ∙ damage))

same-faultless : (end other : End) → end ≡ other → IsFaultless (status_of other) → IsFaultless (status_of end)
same-faultless end other is = status-faultless (status_of end) (status_of other) (ap status_of is)

-- the end that is told has a status of the same kind
told-faultless : (end told : End) → IsToldAs end told → IsFaultless (status_of end) → IsFaultless (status_of told)
told-faultless (Damaged damage) told (inl is) status = same-faultless told (Damaged damage) is status
told-faultless (Damaged damage) told (inr is) status = same-faultless told NoMemory is (inr (inl refl))
told-faultless Done told is status = same-faultless told Done is status
told-faultless NoMemory told is status = same-faultless told NoMemory is status
told-faultless ReadFailed told is status = same-faultless told ReadFailed is status
told-faultless WriteFailed told is status = same-faultless told WriteFailed is status
told-faultless TooLong told is status = same-faultless told TooLong is status
told-faultless StoreFailed told is status = same-faultless told StoreFailed is status
told-faultless ListenFailed told is status = same-faultless told ListenFailed is status
told-faultless BadSheet told is status = same-faultless told BadSheet is status

module _ {H Kt O : Type 0} (kept_tells : Kt → Tables → Type 0) (tells : H → Tables → Type 0) (plan : H → Option (List ℕ)) (faults kept_faults : H → ℕ)
    (written : O → Option (List ℕ)) (write_faults : O → ℕ) (shelf shelf' : H) (output output' : O) where
  abbrev AuditsBy : End → Type 0
  AuditsBy end = AuditsOverShelf kept_tells tells plan faults kept_faults written write_faults shelf shelf' output output' end

  audit-faultless : (end : End) → AuditsBy end → CountsNoFault (write_faults output) (write_faults output')
      → CountsNoFault (faults shelf) (faults shelf') → CountsNoFault 0 (kept_faults shelf') → IsFaultless (status_of end)
  audit-faultless end (inl unaudited) out none kept =
      unaudited-faultless end (plan shelf) (faults shelf) (faults shelf') (kept_faults shelf') unaudited.cause none kept
  audit-faultless end (inr audited) out none kept =
      elim audited.told [
        | inl whole ↦ same-faultless end (end_of audited.verdict_is) whole.0 (verdict-faultless audited.verdict_is)
        | inr front ↦ absurd (rose-not (write_faults output) (write_faults output') out front.2)
      ]

  -- without a fault it is done, unless memory was wanting or the tables are not right
  pub audit-complete : (end told : End) (status : ℕ) → AuditsBy end → CountsNoFault (write_faults output) (write_faults output')
      → CountsNoFault (faults shelf) (faults shelf') → CountsNoFault 0 (kept_faults shelf') → IsToldAs end told → status ≡ status_of told
      → (status ≡ 0) ⊎ ((status ≡ 3) ⊎ (status ≡ 7))
  audit-complete end told status audits out none kept told_as is =
      status-faultless status (status_of told) is (told-faultless end told told_as (audit-faultless end audits out none kept))

-- memory was wanting before anything was opened
pub audit-no_memory : {H Kt O : Type 0} (kept_tells : Kt → Tables → Type 0) (tells : H → Tables → Type 0) (plan : H → Option (List ℕ))
    (faults kept_faults : H → ℕ) (written : O → Option (List ℕ)) (write_faults : O → ℕ) (shelf : H) (output : O)
    → AuditsOverShelf kept_tells tells plan faults kept_faults written write_faults shelf shelf output output NoMemory
audit-no_memory kept_tells tells plan faults kept_faults written write_faults shelf output =
    inl (record { nothing_written = refl; tables_stay = inl (λ t told. told); cause = tt })
