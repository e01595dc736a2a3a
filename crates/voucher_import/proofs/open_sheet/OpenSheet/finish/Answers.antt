-- With the last voucher closed all are read.
use Rattle.std.proofs.Common.{[]}
use Rattle.std.proofs.lemmas.Result.{err_from_is_err_and}
use Rattle.voucher_import.proofs.OpenSheets.{finishes, same_fault}
use Rattle.voucher_import.specs.Reading.{IsOpen}
use Rattle.voucher_import.specs.Sheets.{AreVouchers}
use Rattle.voucher_import.proofs.open_sheet.OpenSheet.finish.Goals as goal

pub returns-in_err-close-clause-outcome : goal.returns-in_err-close-clause-outcome
returns-in_err-close-clause-outcome c rows is_open =
    let p = err_from_is_err_and c.from_residual.result c.from_residual.ensures.1 in
    rw (p.1, p.2) (same_fault (λ (u : Unit {0}). IsOpen rows [] c.close.new.self) (AreVouchers rows) rows c.in_err-close.field-0.0 (c.in_err-close.ensures.step rows [] is_open tt))

pub returns : goal.returns
returns c = record {
  outcome = λ rows is_open. finishes rows c.close.new.self (c.in_ok-close.ensures.step rows [] is_open tt) c.in_ok-close.ensures.empty;
  limits = λ rows is_open. (c.in_ok-close.ensures.step rows [] is_open tt).limits;
}
