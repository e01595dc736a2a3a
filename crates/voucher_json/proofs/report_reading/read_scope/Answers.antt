use Rattle.std.proofs.Common.{inr}
use Rattle.voucher_json.proofs.report_reading.read_scope.Goals as goal

pub returns-in-Balance : goal.returns-in-Balance
returns-in-Balance c = rw c.in-Balance.is c.read_by_key.ensures

pub returns-in-Layers : goal.returns-in-Layers
returns-in-Layers c = rw c.in-Layers.is c.read_by_key-in-Layers.ensures

pub returns-in-Ledger : goal.returns-in-Ledger
returns-in-Ledger c = rw c.in-Ledger.is c.read_by_key-in-Ledger.ensures

pub returns-in-Accounts : goal.returns-in-Accounts
returns-in-Accounts c = rw c.in-Accounts.is (inr c.read_of_accounts.ensures)

pub returns-in-Voucher : goal.returns-in-Voucher
returns-in-Voucher c = rw c.in-Voucher.is (inr c.read_of_voucher.ensures)
