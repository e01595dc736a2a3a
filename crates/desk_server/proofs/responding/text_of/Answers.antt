-- The response has the status of the answer, and its text.
use Rattle.std.proofs.Common.{◌∙◌}
use Rattle.desk_server.proofs.ResponseTexts.{made-of, none-made}
use Rattle.desk_server.proofs.responding.text_of.Goals as goal

pub answer_text-requires : goal.answer_text-requires
answer_text-requires c = c.requires

pub returns-in_err-body : goal.returns-in_err-body
returns-in_err-body c = none-made c.args.answer.now c.args.close c.from_residual.result c.from_residual.ensures.0

pub response_text-requires : goal.response_text-requires
response_text-requires c = c.status_of.ensures.known

pub returns : goal.returns
returns c =
    made-of c.args.answer.now c.args.close c.status_of.result c.as_slice.result.now c.response_text.result
    c.status_of.ensures.status (c.as_slice.ensures ∙ c.in_ok-body.ensures) c.response_text.ensures
