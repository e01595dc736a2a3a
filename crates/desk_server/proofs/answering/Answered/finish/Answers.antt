-- An answer is told, or memory was wanting for that.
use Rattle.std.proofs.Common.{◌≡◌, ⊎_elim, inl, inr, ap}
use Rattle.desk_server.specs.Responding.{bytes_of}
use Rattle.desk_server.specs.Responses.{response_to}
use Rattle.desk_server.specs.declared.responding.Response.TheVariants.{NoMemory}
use Rattle.desk_server.proofs.answering.Answered.finish.Goals as goal

pub returns-in-Untold : goal.returns-in-Untold
returns-in-Untold g c =
    rw c.in-Untold.is (⊎_elim
    (λ (text : bytes_of c.response_to.result ≡ response_to c.in-Untold.answer c.args.close). inl text)
    (λ (no_memory : c.response_to.result ≡ NoMemory c.args.close). inr (ap bytes_of no_memory))
    c.response_to.ensures)
