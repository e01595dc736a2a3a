-- A line is the request that it is read as, or none.
use Rattle.std.proofs.Common.{false}
use Rattle.voucher_json.specs.Requests.{IsReadAs}
use Rattle.stock_batch.proofs.PacedRuns.{PacedStep-request, PacedStep-bad}
use Rattle.stock_batch.proofs.answering.answer_to.Goals as goal

pub returns-in-Ok-clause-step : goal.returns-in-Ok-clause-step
returns-in-Ok-clause-step g c =
    PacedStep-request (IsReadAs false) (c.requests_have_one_reading.ensures.one false) c.args.line.now c.if-line.false c.args.book.now
    c.answer.result c.in-Ok.request c.answer.new.book c.as_slice.result.now c.as_slice.ensures.value c.in-Ok.ensures.read
    c.answer.ensures.answers c.answer.ensures.pace c.answer.ensures.calls

pub returns-in-Err-clause-step : goal.returns-in-Err-clause-step
returns-in-Err-clause-step g c =
    PacedStep-bad (IsReadAs false) (c.requests_have_one_reading.ensures.one false) c.args.line.now c.if-line.false c.args.book.now
    c.bad.result c.in-Err.fault c.as_slice.result.now c.as_slice.ensures.value c.in-Err.ensures.fault c.bad.ensures.answer
    c.bad.ensures.text
