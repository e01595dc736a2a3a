-- What an import comes to: the input is taken whole, and read, before anything is opened or posted.
use Rattle.std.specs.Prelude.{◌≡◌, ℕ, Option, List, Result, Ok, Err}
use Rattle.std.specs.Io.KnownBytes.{Appends}
use Rattle.stock_io.specs.Counts.{Rose}
use Rattle.stock_io.specs.Streams.{AppendsFront}
use Rattle.stock_keeper.specs.declared.tables.Tables.{Tables}
use Rattle.voucher_import.specs.Rows.{rows_of}
use Rattle.voucher_import.specs.Sheets.{IsSheet}
use Rattle.voucher_import.specs.declared.sheet.SheetFault.{SheetFault}
use Rattle.voucher_import.specs.declared.sheet.SheetFault.TheVariants as sheet_fault
use Rattle.voucher_import.specs.declared.sheet.SheetVoucher.{SheetVoucher}
use Rattle.sheet_io.specs.Lines.{fault_line}
use Rattle.sheet_io.specs.Taking.{IsTakenFrom}
use Rattle.sheet_io.specs.declared.taking.TakeFault.{TakeFault}
use Rattle.sheet_io.specs.declared.taking.TakeFault.TheVariants as take_fault
use Rattle.stock_ends.specs.declared.end.End.{End}
use Rattle.stock_ends.specs.declared.end.End.TheVariants.{NoMemory, ReadFailed, WriteFailed, TooLong, BadSheet}
use Rattle.stock_import.specs.Filed.{ImportsOverShelf}

-- how an import ends where the input is not taken to its end
abbrev pub end_of : TakeFault → End
end_of take_fault.Failed = ReadFailed
end_of take_fault.TooLong = TooLong
end_of take_fault.NoMemory = NoMemory

-- what is wrong with the sheet is told, or a front of it as the output fails; or memory was wanting and nothing is told
abbrev pub TellsFault : {O : Type 0} → (O → Option (List ℕ)) → (O → ℕ) → O → O → SheetFault → End → Type 0
TellsFault written faults before after fault BadSheet =
    (fault ≡ sheet_fault.NoMemory → ⊥) × Appends (written before) (written after) (fault_line fault) × (faults after ≡ faults before)
TellsFault written faults before after fault WriteFailed =
    (fault ≡ sheet_fault.NoMemory → ⊥) × AppendsFront (written before) (written after) (fault_line fault) × Rose (faults before) (faults after)
TellsFault written faults before after fault NoMemory = after ≡ before
TellsFault written faults before after fault end = ⊥

module _ {H Kt S O : Type 0} (kept_tells : Kt → Tables → Type 0) (tells : H → Tables → Type 0) (plan : H → Option (List ℕ)) (faults kept_faults : H → ℕ)
    (left : S → Option (List ℕ)) (taken read_faults : S → ℕ) (written : O → Option (List ℕ)) (write_faults : O → ℕ)
    (shelf shelf' : H) (input input' : S) (output output' : O) (end : End) where
  -- a wrong sheet is told and the shelf stays as it is; the vouchers of a right one are imported into the ledger that it has
  abbrev pub ImportsSheet : Result (List SheetVoucher) SheetFault → Type 0
  ImportsSheet (Ok vouchers) =
      ImportsOverShelf kept_tells tells plan faults kept_faults written write_faults shelf shelf' output output' vouchers end
  ImportsSheet (Err fault) = TellsFault written write_faults output output' fault end × (shelf' ≡ shelf)

  -- what comes of the bytes that were taken, or of why they were not: nothing is posted or written then
  abbrev pub ImportsBytes : Result (List ℕ) TakeFault → Type 0
  ImportsBytes (Ok bytes) = (sheet : Result (List SheetVoucher) SheetFault) × IsSheet (rows_of bytes) sheet × ImportsSheet sheet
  ImportsBytes (Err fault) = (end ≡ end_of fault) × (shelf' ≡ shelf) × (output' ≡ output)

  -- the input was taken, to its end or not, and this came of it
  abbrev pub ImportsOver : Type 0
  ImportsOver = (bytes : Result (List ℕ) TakeFault) × IsTakenFrom left taken read_faults input input' bytes × ImportsBytes bytes
