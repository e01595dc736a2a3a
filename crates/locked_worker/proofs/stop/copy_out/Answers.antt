-- What is copied out is what the book fetches past what the build is of.
use Rattle.std.proofs.Common.{ℕ, take, drop, refl, subst}
use Rattle.stock_model.specs.History.{records}
use Rattle.repost_fetch.specs.Fetched.{IsFetchedOf}
use Rattle.locked_worker.proofs.stop.copy_out.Goals as goal

pub returns : goal.returns
returns g c =
    let history = c.args.book.now.history in (
      refl,
      (
        c.requires.waiting,
        c.accepted-accepted.ensures.accepted,
        c.accepted-accepted.ensures.legal,
        subst (λ (n : ℕ). IsFetchedOf (take n (records history)) (drop n (records history)) c.in_ok-fetched.fetched) c.target.ensures
            c.in_ok-fetched.ensures,
        refl,
      ),
    )
