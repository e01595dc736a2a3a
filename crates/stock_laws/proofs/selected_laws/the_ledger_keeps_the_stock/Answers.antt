use Rattle.stock_laws.proofs.AccountStocks.{chosen-stock}
use Rattle.stock_laws.proofs.LedgerBalance.{vouchers-even, balances-even}
use Rattle.stock_laws.proofs.Selections.{chosen-layers}
use Rattle.stock_laws.proofs.selected_laws.the_ledger_keeps_the_stock.Goals as goal

pub returns : goal.returns
returns c query chosen is =
    record {
      stock = λ account least. chosen-stock query chosen account is least;
      layers = λ key. chosen-layers query chosen key is;
      balanced = balances-even query chosen is;
      vouchers = λ number. vouchers-even query chosen number is;
    }
