use Rattle.stock_laws.proofs.GoneEntries.{own-live}
use Rattle.stock_laws.proofs.order_laws.a_record_is_in_force_as_a_whole.Goals as goal

pub returns : goal.returns
returns c = own-live
