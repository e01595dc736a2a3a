-- What httparse answers is how the rules read the buffer.
use Rattle.std.proofs.Common.{length, sym, ◌∙◌}
use Rattle.std.proofs.lemmas.Bool.{cond-true, cond-false, le-leb, lt-leb}
use Rattle.httparse.specs.Spans.{IsRequestOf, IsRequestWithin}
use Rattle.httparse.proofs.HeadLemmas.{at_complete, on_partial}
use Rattle.desk_wire.proofs.RuleLemmas.{complete_answers, partial_answers, refused_answers}
use Rattle.desk_wire.proofs.wire.first_answer.Goals as goal

pub returns-in-Ok-Complete : goal.returns-in-Ok-Complete
returns-in-Ok-Complete c =
    complete_answers c.args.buffer.now c.min.result c.min.ensures c.parse_request.new.headers c.in-Ok-Complete.head c.answer_head.result
    (at_complete (IsRequestOf _ _) c.in-Ok-Complete.is c.in-Ok-Complete.field-0-is c.parse_request.ensures.complete)
    (at_complete (IsRequestWithin _ _) c.in-Ok-Complete.is c.in-Ok-Complete.field-0-is c.parse_request.ensures.within)
    c.parse_request.auto.headers c.answer_head.ensures

pub returns-in-Ok-Partial : goal.returns-in-Ok-Partial
returns-in-Ok-Partial c =
    partial_answers c.args.buffer.now c.min.result c.min.ensures _
    (on_partial c.in-Ok-Partial.is c.in-Ok-Partial.field-0-is c.parse_request.ensures.partial)
    (on_partial c.in-Ok-Partial.is c.in-Ok-Partial.field-0-is c.parse_request.ensures.unfinished)
    (sym (cond-false _ _ _ (lt-leb 65536 (length c.args.buffer.now) c.if-buffer-lt-HEAD_LIMIT.true)))

pub returns-in-Ok-Partial-2 : goal.returns-in-Ok-Partial-2
returns-in-Ok-Partial-2 c =
    partial_answers c.args.buffer.now c.min.result c.min.ensures _
    (on_partial c.in-Ok-Partial.is c.in-Ok-Partial.field-0-is c.parse_request.ensures.partial)
    (on_partial c.in-Ok-Partial.is c.in-Ok-Partial.field-0-is c.parse_request.ensures.unfinished)
    (c.bad.ensures ∙ sym (cond-true _ _ _ (le-leb 65536 (length c.args.buffer.now) c.if-buffer-lt-HEAD_LIMIT.false)))

pub returns-in-Err : goal.returns-in-Err
returns-in-Err c =
    refused_answers c.args.buffer.now c.min.result c.min.ensures _ c.in-Err.ensures.no_room c.bad-in-Err.ensures
