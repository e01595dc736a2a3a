use Rattle.voucher_import.proofs.OneReading.{one_fault, no_fault}
use Rattle.voucher_import.proofs.reading.sheets_have_one_fault.Goals as goal

pub returns-clause-one : goal.returns-clause-one
returns-clause-one c = one_fault

pub returns-clause-right : goal.returns-clause-right
returns-clause-right c = no_fault
