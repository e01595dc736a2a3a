-- The lines were fed, and the replies dropped.
use Rattle.std.proofs.Common.{List, ℕ, subst}
use Rattle.stock_batch.specs.Batches.{GoesOn}
use Rattle.stock_load.proofs.Loading.{TakesMore-dropped}
use Rattle.stock_load.proofs.load.take_lines.Goals as goal

pub returns : goal.returns
returns c =
    TakesMore-dropped c.args.batch.now c.feed.new.self c.drop_replies.new.self c.args.lines.now
    (subst (λ (bytes : List ℕ). GoesOn c.args.batch.now bytes c.feed.new.self) c.as_bytes.ensures.value c.in_ok-feed.ensures.goes_on)
    c.drop_replies.ensures
