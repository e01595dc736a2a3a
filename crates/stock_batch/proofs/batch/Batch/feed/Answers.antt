-- Each line is fed, and then the rest.
use Rattle.stock_batch.proofs.Batches.{HasFed-line, HasFed-rest, StopsShort-rest, StopsShort-line, on_err_of}
use Rattle.stock_batch.proofs.batch.Batch.feed.Goals as goal

pub loop-line-preserved : goal.loop-line-preserved
loop-line-preserved g c =
    HasFed-line c.args.self.now c.loop-line.self c.args.piece.now c.loop-line.rest.now c.in-Some.line.now c.in-Some.after.now c.add.new.self c.end_line.new.self c.loop-line.invariant c.in-Some.ensures.parts c.in-Some.ensures.first c.in_ok-add.ensures.added c.in_ok-end_line.ensures.goes_on

pub returns-clause-goes_on : goal.returns-clause-goes_on
returns-clause-goes_on g c =
    HasFed-rest c.args.self.now c.loop-line.self c.args.piece.now c.loop-line.rest.now c.add-2.new.self c.loop-line.invariant c.in_default.ensures.none c.in_ok-add-2.ensures.added

pub returns-in_err-add-clause-cut_short : goal.returns-in_err-add-clause-cut_short
returns-in_err-add-clause-cut_short g c =
    on_err_of _ (StopsShort-rest c.args.self.now c.loop-line.self c.args.piece.now c.loop-line.rest.now c.loop-line.invariant)

pub returns-in_err-end_line-clause-cut_short : goal.returns-in_err-end_line-clause-cut_short
returns-in_err-end_line-clause-cut_short g c =
    on_err_of _
    (StopsShort-line c.args.self.now c.loop-line.self c.args.piece.now c.loop-line.rest.now c.in-Some.line.now c.in-Some.after.now c.add.new.self
    c.end_line.new.self.book c.loop-line.invariant c.in-Some.ensures.parts c.in-Some.ensures.first c.in_ok-add.ensures.added
    c.in_err-end_line.ensures.cut_short)

pub returns-in_err-add-2-clause-cut_short : goal.returns-in_err-add-2-clause-cut_short
returns-in_err-add-2-clause-cut_short g c =
    on_err_of _ (StopsShort-rest c.args.self.now c.loop-line.self c.args.piece.now c.loop-line.rest.now c.loop-line.invariant)
