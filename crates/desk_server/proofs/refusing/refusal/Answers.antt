-- Each text is the response, written out.
use Rattle.std.proofs.Common.{sym, ap, ◌∙◌, arith}
use Rattle.desk_server.specs.Responses.{refusal_response}
use Rattle.desk_server.proofs.FixedTexts.{refusal_400, refusal_404, refusal_405, refusal_411, refusal_413, refusal_501}
use Rattle.desk_server.proofs.Refusals.{else_501}
use Rattle.desk_server.proofs.refusing.refusal.Goals as goal

pub returns-in-400 : goal.returns-in-400
returns-in-400 c = sym refusal_400 ∙ ap refusal_response (sym c.in-400.is)

pub returns-in-404 : goal.returns-in-404
returns-in-404 c = sym refusal_404 ∙ ap refusal_response (sym c.in-404.is)

pub returns-in-405 : goal.returns-in-405
returns-in-405 c = sym refusal_405 ∙ ap refusal_response (sym c.in-405.is)

pub returns-in-411 : goal.returns-in-411
returns-in-411 c = sym refusal_411 ∙ ap refusal_response (sym c.in-411.is)

pub returns-in-413 : goal.returns-in-413
returns-in-413 c = sym refusal_413 ∙ ap refusal_response (sym c.in-413.is)

pub returns-in_default : goal.returns-in_default
returns-in_default c =
    let is = else_501 c.args.status c.requires (λ same. omega (arith, same)) (λ same. omega (arith, same)) (λ same. omega (arith, same))
    (λ same. omega (arith, same)) (λ same. omega (arith, same)) in
    sym refusal_501 ∙ ap refusal_response (sym is)
