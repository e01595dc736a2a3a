-- The first records are kept and published, and then the others kept.
use Rattle.std.proofs.Common.{ap}
use Rattle.repost_worker.specs.Paces.{Pace}
use Rattle.repost_worker.proofs.OpenedOrder.{opened-order}
use Rattle.repost_worker.proofs.opening.posted.Goals as goal

pub returns-clause-order : goal.returns-clause-order
returns-clause-order c =
    let front = c.in_default.ensures in
    let settled = c.in_default-settle.ensures in
    let rest = c.in_default-post_between.ensures in
    opened-order c.start-book.result.history c.post_between.new.book.history c.settle.new.book.history c.post_between-2.new.book.history
    (ap (λ (p : Pace). p.history) c.start-book.ensures) front.kept settled.history settled.records settled.covered rest.kept rest.covered
