-- No byte before the first line feed is one.
use Rattle.std.proofs.Common.{length, arith, subst}
use Rattle.std.proofs.lemmas.List.{take_all}
use Rattle.stock_batch.specs.InputParts.{HasNoFeed}
use Rattle.stock_batch.proofs.Parts.{HasNoFeed-below}
use Rattle.stock_batch.proofs.split.split_line.Goals as goal

pub returns-in_err-at-clause-none : goal.returns-in_err-at-clause-none
returns-in_err-at-clause-none c =
    rw c.from_residual.ensures
    (subst HasNoFeed (take_all (length c.args.bytes.now) c.args.bytes.now (omega arith))
    (HasNoFeed-below c.args.bytes.now (length c.args.bytes.now) (λ k below. c.in_err-at.ensures k (omega arith) below)))

pub returns-clause-first : goal.returns-clause-first
returns-clause-first c = HasNoFeed-below c.args.bytes.now c.in_ok-at.at (λ k below. c.in_ok-at.ensures.0.before k (omega arith) below)
