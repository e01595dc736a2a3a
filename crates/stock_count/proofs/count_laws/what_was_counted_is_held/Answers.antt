use Rattle.stock_count.proofs.HeldAsCounted.{all-held}
use Rattle.stock_count.proofs.count_laws.what_was_counted_is_held.Goals as goal

pub returns : goal.returns
returns c = all-held
