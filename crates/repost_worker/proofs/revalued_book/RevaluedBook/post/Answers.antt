-- The build works on, whether the record came in or not.
use Rattle.repost_worker.proofs.Working.{work-posted}
use Rattle.repost_worker.proofs.revalued_book.RevaluedBook.post.Goals as goal

pub invariant_of-self : goal.invariant_of-self
invariant_of-self g c =
    work-posted c.post.result c.self.inside.book c.post.new.self c.args.item c.self.inside.build c.post.ensures.kept c.post.ensures.unchanged
    c.self.invariant
