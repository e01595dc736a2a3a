use Rattle.stock_laws.proofs.LiveTargets.{live-where-none, HaveLiveTargets-sound}
use Rattle.stock_laws.proofs.order_laws.what_is_linked_stays.Goals as goal

pub returns-clause-live : goal.returns-clause-live
returns-clause-live c = live-where-none

pub returns-clause-linked : goal.returns-clause-linked
returns-clause-linked c = λ journal k item sound held live n names. HaveLiveTargets-sound journal sound k item held live n names
