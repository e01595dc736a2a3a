-- All that is selected from a book can be shown.
use Rattle.stock_laws.proofs.HeadOrder.{chosen-heads}
use Rattle.stock_laws.proofs.LedgerBalance.{lines-told}
use Rattle.stock_laws.proofs.Selections.{chosen-bounded}
use Rattle.stock_laws.proofs.SmallBalances.{chosen-small}
use Rattle.stock_laws.proofs.selected_laws.all_can_be_shown.Goals as goal

pub returns : goal.returns
returns c query chosen is =
    let bounded = chosen-bounded query chosen is in
    record {
      bounded = bounded;
      posted = record { few = bounded.few; lines = lines-told query chosen is; small = λ account. chosen-small query chosen account is };
      heads = chosen-heads query chosen is;
    }
