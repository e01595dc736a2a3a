-- The response tells what was read, or that memory was wanting for that.
use Rattle.std.proofs.Common.{◌≡◌, List, Ok, ⊎_elim, ap, subst, sym}
use Rattle.stock_model.specs.declared.answers.Answer.TheVariants.{Shown}
use Rattle.stock_model.specs.declared.records.Record.{Record}
use Rattle.stock_model.specs.declared.requests.Request.TheVariants as request
use Rattle.desk_server.specs.Exchanging.{IsAskedAs}
use Rattle.desk_server.specs.Responding.{bytes_of}
use Rattle.desk_server.specs.Responses.{response_to}
use Rattle.desk_server.specs.declared.responding.Response.TheVariants.{NoMemory}
use Rattle.mirrored_desk.specs.Exchanging.{known, RespondsInStep}
use Rattle.mirrored_desk.proofs.InSteps.{responds-shown, responds-untold}
use Rattle.mirrored_desk.proofs.exchanging.show.Goals as goal

pub returns-clause-responds : goal.returns-clause-responds
returns-clause-responds g c desk =
    let made = c.respond-reader in
    subst (λ (read : List Record). RespondsInStep desk (known c.args.state.pass.view c.args.state.reader c.args.state.printed.0)
    (known c.args.state.pass.view read c.args.selected.covered.0) (IsAskedAs (Ok (request.Report c.args.query))) c.args.close
    (bytes_of made.result.response)) (sym made.ensures.reader)
    (⊎_elim
    (λ (text : bytes_of made.result.response ≡ response_to (Shown c.args.query c.args.selected) c.args.close).
    responds-shown desk c.args.close (bytes_of made.result.response) c.args.state.pass.view c.args.state.reader c.args.state.printed.0
    c.args.query c.args.selected c.requires text)
    (λ (no_memory : made.result.response ≡ NoMemory c.args.close).
    responds-untold desk c.args.close (bytes_of made.result.response) c.args.state.pass.view c.args.state.reader c.args.state.printed.0
    c.args.query c.args.selected c.requires (ap bytes_of no_memory))
    made.ensures.response)
