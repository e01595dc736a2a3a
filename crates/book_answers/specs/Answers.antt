-- The texts of answers, and what holds of each.
use Rattle.std.specs.Prelude.{ℕ, List}
use Rattle.stock_model.specs.declared.answers.Answer.{Answer}
use Rattle.stock_model.specs.declared.answers.Answer.TheVariants.{Told, Shown}
use Rattle.stock_model.specs.declared.faults.PostFault.{PostFault}
use Rattle.stock_model.specs.declared.faults.PostFault.TheVariants as fault_of
use Rattle.stock_model.specs.Books.{KeepsStock}
use Rattle.stock_model.specs.Reports.{IsSelected}
use Rattle.valuation_report.specs.SheetTexts.{report_text}
use Rattle.voucher_json.specs.ReplyText.{reply_text, IsPrinted}

-- the text of an answer: of a reply, or of a sheet
abbrev pub answer_text : Answer → List ℕ
answer_text (Told reply heads) = reply_text heads reply
answer_text (Shown query chosen) = report_text query chosen

-- the answer has a text: its reply is printed, or its sheet was selected from a book
abbrev pub HasText : Answer → Type 0
HasText (Told reply heads) = IsPrinted reply
HasText (Shown query chosen) = IsSelected query chosen

-- where it is a sheet, the ledger keeps the stock that it is made from
abbrev pub ShowsKeptStock : Answer → Type 0
ShowsKeptStock (Told reply heads) = Unit {0}
ShowsKeptStock (Shown query chosen) = KeepsStock chosen

-- the reply to this fault tells codes, and so it takes memory
abbrev pub TellsCodes : PostFault → Type 0
TellsCodes (fault_of.Short place item store lacking) = Unit {0}
TellsCodes _ = ⊥
