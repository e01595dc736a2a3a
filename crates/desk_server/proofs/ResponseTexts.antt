-- The text of a response, put together from the status and the text of its answer.
use Rattle.std.proofs.Common.{◌≡◌, ℕ, Bool, List, IfOk, Result, Ok, Err, subst}
use Rattle.std.specs.Result.{IsErr}
use Rattle.std.proofs.lemmas.Bool.{false≢true}
use Rattle.stock_model.specs.declared.answers.Answer.{Answer}
use Rattle.desk_wire.specs.Responses.{response_text}
use Rattle.book_answers.specs.Answers.{answer_text}
use Rattle.desk_server.specs.Responses.{status_of, response_to}

pub made-of : {E : Type 0} (answer : Answer) (close : Bool) (status : ℕ) (body : List ℕ) (result : Result (List ℕ) E)
    → status ≡ status_of answer → body ≡ answer_text answer → IfOk result (λ text. text ≡ response_text status body close)
    → IfOk result (λ text. text ≡ response_to answer close)
unfolding response_to
made-of {E} answer close status body result status_is body_is made =
    let with_status : IfOk result (λ text. text ≡ response_text (status_of answer) body close) =
    subst (λ (s : ℕ). IfOk result (λ text. text ≡ response_text s body close)) status_is made in
    subst (λ (b : List ℕ). IfOk result (λ text. text ≡ response_text (status_of answer) b close)) body_is with_status

-- where memory was wanting there is no text
pub none-made : {E : Type 0} (answer : Answer) (close : Bool) (result : Result (List ℕ) E) → IsErr result
    → IfOk result (λ text. text ≡ response_to answer close)
none-made answer close (Ok text) is = absurd (false≢true is)
none-made answer close (Err e) is = tt
