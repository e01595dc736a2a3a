-- The ends of an import as they are told, and which it has without a fault.
use Rattle.std.proofs.Common.{◌≡◌, ◌⊎◌, ℕ, ◌+◌, ◌<◌, List, [], length, Option, Result, Ok, Err, inl, inr, refl, sym, subst, arith}
use Rattle.std.proofs.KnownBytes.{Consumes-nil}
use Rattle.stock_io.specs.Counts.{Rose}
use Rattle.stock_keeper.specs.declared.tables.Tables.{Tables}
use Rattle.voucher_import.specs.declared.sheet.SheetFault.{SheetFault}
use Rattle.voucher_import.specs.declared.sheet.SheetVoucher.{SheetVoucher}
use Rattle.sheet_io.specs.Taking.{IsOutcome}
use Rattle.sheet_io.specs.declared.taking.TakeFault.{TakeFault}
use Rattle.sheet_io.specs.declared.taking.TakeFault.TheVariants as take_fault
use Rattle.sheet_io.specs.declared.taking.TheConstants.{MAX_SHEET}
use Rattle.stock_ends.specs.Openings.{IsUnopened}
use Rattle.stock_ends.specs.Statuses.{status_of, IsToldAs, CountsNoFault}
use Rattle.stock_ends.specs.declared.end.End.{End}
use Rattle.stock_ends.specs.declared.end.End.TheVariants.{Done, NoMemory, ReadFailed, WriteFailed, TooLong, StoreFailed, ListenFailed, BadSheet, Damaged}
use Rattle.stock_batch.specs.Ran.{IsLastEnd}
use Rattle.stock_import.specs.Filed.{ImportsOverShelf}
use Rattle.stock_import.specs.Imports.{ImportsOver, ImportsSheet, TellsFault, end_of}

-- a status of an import that had no fault of what it reads, writes and keeps
abbrev pub IsFaultless : ℕ → Type 0
IsFaultless status = (status ≡ 0) ⊎ ((status ≡ 3) ⊎ ((status ≡ 7) ⊎ (status ≡ 10)))

-- a count that rose counts a fault
rose-not : (before after : ℕ) → CountsNoFault before after → Rose before after → ⊥
rose-not before after none rose =
    let less = rose none.1 in
    absurd (omega (arith, less, none.0))

unopened-faultless : {Kt : Type 0} (kept_tells : Kt → Tables → Type 0) (end : End) (told : Tables → Type 0) (plan : Option (List ℕ))
    (before after kept : ℕ) → IsUnopened kept_tells end told plan before after kept → CountsNoFault before after → CountsNoFault 0 kept
    → IsFaultless (status_of end)
unopened-faultless kept_tells Done told plan before after kept cause shelf keeper = absurd cause
unopened-faultless kept_tells NoMemory told plan before after kept cause shelf keeper = inr (inl refl)
unopened-faultless kept_tells ReadFailed told plan before after kept cause shelf keeper = absurd cause
unopened-faultless kept_tells WriteFailed told plan before after kept cause shelf keeper = absurd cause
unopened-faultless kept_tells TooLong told plan before after kept cause shelf keeper = absurd cause
unopened-faultless kept_tells StoreFailed told plan before after kept (inl rose) shelf keeper = absurd (rose-not before after shelf rose)
unopened-faultless kept_tells StoreFailed told plan before after kept (inr failed) shelf keeper = absurd (rose-not 0 kept keeper failed.0)
unopened-faultless kept_tells ListenFailed told plan before after kept cause shelf keeper = absurd cause
unopened-faultless kept_tells BadSheet told plan before after kept cause shelf keeper = absurd cause
unopened-faultless kept_tells (Damaged damage) told plan before after kept cause shelf keeper = inr (inr (inl refl))

run-faultless : (end : End) (before after : ℕ) → IsLastEnd before after end → CountsNoFault before after → IsFaultless (status_of end)
run-faultless Done before after cause none = inl refl
run-faultless NoMemory before after cause none = inr (inl refl)
run-faultless WriteFailed before after cause none = absurd (rose-not before after none cause)
run-faultless ReadFailed before after cause none = absurd cause
run-faultless TooLong before after cause none = absurd cause
run-faultless StoreFailed before after cause none = absurd cause
run-faultless ListenFailed before after cause none = absurd cause
run-faultless BadSheet before after cause none = absurd cause
run-faultless (Damaged damage) before after cause none = absurd cause

module _ {H Kt S O : Type 0} (kept_tells : Kt → Tables → Type 0) (tells : H → Tables → Type 0) (plan : H → Option (List ℕ)) (faults kept_faults : H → ℕ)
    (left : S → Option (List ℕ)) (taken read_faults : S → ℕ) (written : O → Option (List ℕ)) (write_faults : O → ℕ)
    (shelf shelf' : H) (input input' : S) (output output' : O) where
  abbrev ImportsBy : End → Type 0
  ImportsBy end =
      ImportsOver kept_tells tells plan faults kept_faults left taken read_faults written write_faults shelf shelf' input input' output output' end

  abbrev SheetBy : End → Result (List SheetVoucher) SheetFault → Type 0
  SheetBy end =
      ImportsSheet kept_tells tells plan faults kept_faults left taken read_faults written write_faults shelf shelf' input input' output output' end

  fault-faultless : (fault : SheetFault) (end : End) → TellsFault written write_faults output output' fault end
      → CountsNoFault (write_faults output) (write_faults output') → IsFaultless (status_of end)
  fault-faultless fault BadSheet tells_it none = inr (inr (inr refl))
  fault-faultless fault WriteFailed tells_it none = absurd (rose-not (write_faults output) (write_faults output') none tells_it.2)
  fault-faultless fault NoMemory tells_it none = inr (inl refl)
  fault-faultless fault Done tells_it none = absurd tells_it
  fault-faultless fault ReadFailed tells_it none = absurd tells_it
  fault-faultless fault TooLong tells_it none = absurd tells_it
  fault-faultless fault StoreFailed tells_it none = absurd tells_it
  fault-faultless fault ListenFailed tells_it none = absurd tells_it
  fault-faultless fault (Damaged damage) tells_it none = absurd tells_it

  vouchers-faultless : (vouchers : List SheetVoucher) (end : End)
      → ImportsOverShelf kept_tells tells plan faults kept_faults written write_faults shelf shelf' output output' vouchers end
      → CountsNoFault (write_faults output) (write_faults output') → CountsNoFault (faults shelf) (faults shelf')
      → CountsNoFault 0 (kept_faults shelf') → IsFaultless (status_of end)
  vouchers-faultless vouchers end (inl unopened) out none kept =
      unopened-faultless kept_tells end (tells shelf) (plan shelf) (faults shelf) (faults shelf') (kept_faults shelf') unopened.cause none kept
  vouchers-faultless vouchers end (inr over) out none kept =
      run-faultless end (write_faults output) (write_faults output') over.ran.cause out

  sheet-faultless : (sheet : Result (List SheetVoucher) SheetFault) (end : End) → SheetBy end sheet
      → CountsNoFault (write_faults output) (write_faults output') → CountsNoFault (faults shelf) (faults shelf')
      → CountsNoFault 0 (kept_faults shelf') → IsFaultless (status_of end)
  sheet-faultless (Ok vouchers) end imports out none kept = vouchers-faultless vouchers end imports out none kept
  sheet-faultless (Err fault) end imports out none kept = fault-faultless fault end imports.0 out

  untaken-faultless : (fault : TakeFault) (bytes : List ℕ) → IsOutcome (left input) bytes (read_faults input) (read_faults input') (Err fault)
      → taken input' ≡ taken input + length bytes → CountsNoFault (read_faults input) (read_faults input')
      → taken input' < taken input + MAX_SHEET → IsFaultless (status_of (end_of fault))
  untaken-faultless take_fault.Failed bytes outcome counted none few = absurd (rose-not (read_faults input) (read_faults input') none outcome.1)
  untaken-faultless take_fault.TooLong bytes outcome counted none few = absurd (omega (arith, outcome.0, counted, few))
  untaken-faultless take_fault.NoMemory bytes outcome counted none few = inr (inl refl)

  -- without a fault it is done, or the input is no sheet, unless memory was wanting or the tables are none of a ledger
  pub import-faultless : (end : End) → ImportsBy end → CountsNoFault (read_faults input) (read_faults input')
      → CountsNoFault (write_faults output) (write_faults output') → CountsNoFault (faults shelf) (faults shelf')
      → CountsNoFault 0 (kept_faults shelf') → taken input' < taken input + MAX_SHEET → IsFaultless (status_of end)
  import-faultless end (Ok bytes, took, (sheet, is, imports)) source out none kept few = sheet-faultless sheet end imports out none kept
  import-faultless end (Err fault, took, (is, nothing, same)) source out none kept few =
      subst (λ (e : End). IsFaultless (status_of e)) (sym is) (untaken-faultless fault took.bytes took.outcome took.counted source few)

-- memory was wanting before anything was taken
pub import-no_memory : {H Kt S O : Type 0} (kept_tells : Kt → Tables → Type 0) (tells : H → Tables → Type 0) (plan : H → Option (List ℕ))
    (faults kept_faults : H → ℕ) (left : S → Option (List ℕ)) (taken read_faults : S → ℕ) (written : O → Option (List ℕ))
    (write_faults : O → ℕ) (shelf : H) (input : S) (output : O)
    → ImportsOver kept_tells tells plan faults kept_faults left taken read_faults written write_faults shelf shelf input input output output NoMemory
import-no_memory kept_tells tells plan faults kept_faults left taken read_faults written write_faults shelf input output = (
  Err take_fault.NoMemory,
  record {
    bytes = [];
    took = Consumes-nil (left input);
    counted = omega arith;
    outcome = (omega arith, refl);
    never_falls = omega arith;
  },
  (refl, refl, refl),
)

-- the end that is told has a status of the same kind
pub told-faultless : (end told : End) → IsToldAs end told → IsFaultless (status_of end) → IsFaultless (status_of told)
told-faultless (Damaged damage) told (inl is) status = subst (λ (e : End). IsFaultless (status_of e)) (sym is) status
told-faultless (Damaged damage) told (inr is) status = subst (λ (e : End). IsFaultless (status_of e)) (sym is) (inr (inl refl))
told-faultless Done told is status = subst (λ (e : End). IsFaultless (status_of e)) (sym is) status
told-faultless NoMemory told is status = subst (λ (e : End). IsFaultless (status_of e)) (sym is) status
told-faultless ReadFailed told is status = subst (λ (e : End). IsFaultless (status_of e)) (sym is) status
told-faultless WriteFailed told is status = subst (λ (e : End). IsFaultless (status_of e)) (sym is) status
told-faultless TooLong told is status = subst (λ (e : End). IsFaultless (status_of e)) (sym is) status
told-faultless StoreFailed told is status = subst (λ (e : End). IsFaultless (status_of e)) (sym is) status
told-faultless ListenFailed told is status = subst (λ (e : End). IsFaultless (status_of e)) (sym is) status
told-faultless BadSheet told is status = subst (λ (e : End). IsFaultless (status_of e)) (sym is) status
