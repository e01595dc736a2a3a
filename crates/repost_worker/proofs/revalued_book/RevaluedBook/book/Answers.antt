-- A build that works for its book is in pace.
use Rattle.std.proofs.Common.{subst}
use Rattle.repost_worker.specs.Paces.{IsInPace}
use Rattle.repost_worker.proofs.Paces.{in_pace-work}
use Rattle.repost_worker.proofs.revalued_book.RevaluedBook.book.Goals as goal

pub returns-clause-in_pace : goal.returns-clause-in_pace
returns-clause-in_pace g c =
    subst IsInPace c.self.view_is (in_pace-work c.self.inside.book c.self.inside.build c.self.invariant)
