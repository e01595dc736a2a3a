-- The vouchers of a sheet over a book, one after another, and what was written of them in the end.
use Rattle.std.specs.Prelude.{ℕ, ◌≡◌, ◌⊎◌, Option, List, [], ◌∷◌, ◌++◌}
use Rattle.std.specs.Io.KnownBytes.{Appends}
use Rattle.stock_io.specs.Counts.{Rose, NeverFalls}
use Rattle.stock_model.specs.declared.answers.Answer.{Answer}
use Rattle.stock_model.specs.History.{IsLegal}
use Rattle.repost_worker.specs.Paces.{Pace}
use Rattle.voucher_import.specs.declared.sheet.SheetVoucher.{SheetVoucher}
use Rattle.stock_ends.specs.declared.end.End.{End}
use Rattle.stock_ends.specs.declared.end.End.TheVariants.{Done, NoMemory, ReadFailed, WriteFailed, TooLong, StoreFailed, ListenFailed, BadSheet, Damaged}
use Rattle.stock_batch.specs.Answers.{answer_line}
use Rattle.stock_batch.specs.Ran.{IsLastEnd}
use Rattle.stock_import.specs.Posts.{IsSettled, IsSettleCut}
use Rattle.stock_import.specs.Vouchers.{IsImported, IsCutShort}

-- the vouchers are imported, each at its point of one history, and these are their lines
abbrev pub AreImported : Pace → List SheetVoucher → List ℕ → Pace → Type 0
AreImported old [] text new = (text ≡ []) × (new ≡ old)
AreImported old (voucher ∷ rest) text new =
    (mid : Pace) × (own : List ℕ) × (others : List ℕ) × (text ≡ own ++ others) × IsImported old voucher own mid
    × AreImported mid rest others new

-- the text is the lines of all vouchers, and of the settling of the ledger after them
pub record IsWhole (first : Pace) (vouchers : List SheetVoucher) (text : List ℕ) (last : Pace) : Type 0 where
  pub mid : Pace
  pub lines : List ℕ
  pub answer : Answer
  pub imported : AreImported first vouchers lines mid
  pub settled : IsSettled mid answer last
  pub text_is : text ≡ lines ++ answer_line answer
  pub legal : IsLegal last.history

-- the text is the lines of a front of the vouchers, and no more was done
pub record IsFront (first : Pace) (vouchers : List SheetVoucher) (text : List ℕ) (last : Pace) : Type 0 where
  pub done : List SheetVoucher
  pub rest : List SheetVoucher
  pub are : vouchers ≡ done ++ rest
  pub imported : AreImported first done text last
  pub legal : IsLegal last.history

-- memory was wanting for the first of these vouchers, or where there is none, for the settling
abbrev pub EndsWithin : List SheetVoucher → Pace → Pace → Type 0
EndsWithin [] old new = IsSettleCut old new
EndsWithin (voucher ∷ rest) old new = IsCutShort voucher old new

-- the text is the lines of a front of the vouchers, and memory was wanting for what came next
pub record IsShort (first : Pace) (vouchers : List SheetVoucher) (text : List ℕ) (last : Pace) : Type 0 where
  pub done : List SheetVoucher
  pub rest : List SheetVoucher
  pub mid : Pace
  pub are : vouchers ≡ done ++ rest
  pub imported : AreImported first done text mid
  pub ends : EndsWithin rest mid last

-- what is written in the end of these vouchers, from the first state of the book to the last
abbrev pub Says : End → Pace → Pace → List SheetVoucher → List ℕ → Type 0
Says Done first last vouchers text = IsWhole first vouchers text last
Says NoMemory first last vouchers text = IsShort first vouchers text last
-- a front of the lines of those that were imported
Says WriteFailed first last vouchers text =
    (rest : List ℕ) × (IsFront first vouchers (text ++ rest) last ⊎ IsWhole first vouchers (text ++ rest) last)
-- these come to no vouchers
Says ReadFailed first last vouchers text = ⊥
Says TooLong first last vouchers text = ⊥
Says StoreFailed first last vouchers text = ⊥
Says ListenFailed first last vouchers text = ⊥
Says BadSheet first last vouchers text = ⊥
Says (Damaged damage) first last vouchers text = ⊥

-- the vouchers were imported and this text written, as the end says, which has its cause. written and faults are what the output
-- tells
pub record IsRun {O : Type 0} (written : O → Option (List ℕ)) (faults : O → ℕ) (before after : O) (first last : Pace) (vouchers : List SheetVoucher) (end : End)
    : Type 0 where
  pub text : List ℕ
  pub wrote : Appends (written before) (written after) text
  pub says : Says end first last vouchers text
  pub cause : IsLastEnd (faults before) (faults after) end
  pub never_falls : NeverFalls (faults before) (faults after)

-- so far the lines of these vouchers were written, without a fault
pub record IsUnderWay {O : Type 0} (written : O → Option (List ℕ)) (faults : O → ℕ) (before now : O) (first mid : Pace) (done : List SheetVoucher) : Type 0 where
  pub text : List ℕ
  pub wrote : Appends (written before) (written now) text
  pub imported : AreImported first done text mid
  pub legal : IsLegal mid.history
  pub no_fault : faults now ≡ faults before

-- the lines of one voucher were written
pub record TakesVoucher {O : Type 0} (written : O → Option (List ℕ)) (before after : O) (old : Pace) (voucher : SheetVoucher) (new : Pace) : Type 0 where
  pub text : List ℕ
  pub wrote : Appends (written before) (written after) text
  pub imported : IsImported old voucher text new

-- where an import ends with one voucher
abbrev pub Stops : {O : Type 0} → (O → Option (List ℕ)) → (O → ℕ) → O → O → Pace → SheetVoucher → Pace → End → Type 0
Stops written faults before after old voucher new NoMemory = IsCutShort voucher old new × (after ≡ before)
Stops written faults before after old voucher new WriteFailed =
    (front : List ℕ) × (rest : List ℕ) × IsImported old voucher (front ++ rest) new × Appends (written before) (written after) front
    × Rose (faults before) (faults after) × IsLegal new.history
Stops written faults before after old voucher new end = ⊥

-- and where it ends after the last
abbrev pub Finishes : {O : Type 0} → (O → Option (List ℕ)) → (O → ℕ) → O → O → Pace → Pace → End → Type 0
Finishes written faults before after old new Done =
    (answer : Answer) × IsSettled old answer new × Appends (written before) (written after) (answer_line answer)
    × (faults after ≡ faults before) × IsLegal new.history
Finishes written faults before after old new NoMemory = IsSettleCut old new × (after ≡ before)
Finishes written faults before after old new WriteFailed =
    (answer : Answer) × (front : List ℕ) × (rest : List ℕ) × IsSettled old answer new × (front ++ rest ≡ answer_line answer)
    × Appends (written before) (written after) front × Rose (faults before) (faults after) × IsLegal new.history
Finishes written faults before after old new end = ⊥
