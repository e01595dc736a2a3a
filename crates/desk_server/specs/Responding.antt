-- The bytes of responses that wait to be written.
use Rattle.std.specs.Prelude.{ℕ, ◌≡◌, ◌⊎◌, Bool, List, []}
use Rattle.stock_model.specs.declared.answers.Answer.{Answer}
use Rattle.stock_model.specs.declared.answers.Answer.TheVariants.{Told}
use Rattle.stock_model.specs.declared.replies.Reply.TheVariants.{MemoryFailed}
use Rattle.desk_server.specs.Responses.{response_to}
use Rattle.desk_server.specs.declared.responding.Response.{Response}
use Rattle.desk_server.specs.declared.responding.Response.TheVariants.{Text, NoMemory}

abbrev pub bytes_of : Response → List ℕ
bytes_of (Text text) = text
bytes_of (NoMemory close) = response_to (Told MemoryFailed []) close

-- it is the response to this answer, or the one for want of memory
abbrev pub IsResponse : Answer → Bool → Response → Type 0
IsResponse answer close response = (bytes_of response ≡ response_to answer close) ⊎ (response ≡ NoMemory close)
