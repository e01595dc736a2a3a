-- The responses of a desk, byte for byte.
use Rattle.std.specs.Prelude.{ℕ, ◌==◌, Bool, true, List, [], ◌∷◌, ◌++◌, Option, Some, None, IsTrue}
use Rattle.std.specs.List.{list_any}
use Rattle.desk_wire.specs.declared.heard.Request.{Request}
use Rattle.desk_wire.specs.Responses.{response_text}
use Rattle.stock_model.specs.declared.answers.Answer.{Answer}
use Rattle.stock_model.specs.declared.answers.Answer.TheVariants.{Told, Shown}
use Rattle.stock_model.specs.declared.replies.Reply.{Reply}
use Rattle.stock_model.specs.declared.replies.Reply.TheVariants.{Accepted, Refused, Pending, NoSuchRecord, Worked, Settled, Long, Bad, StoreFailed, MemoryFailed, Http}
use Rattle.voucher_json.specs.ReplyText.{reply_text}
use Rattle.book_answers.specs.Answers.{answer_text}

abbrev pub reply_status : Reply → ℕ
reply_status (Accepted n) = 200
reply_status (Refused f) = 409
reply_status (Pending covered wanted) = 202
reply_status (NoSuchRecord accepted wanted) = 404
reply_status (Worked covered) = 200
reply_status (Settled covered) = 200
reply_status Long = 400
reply_status (Bad f) = 400
reply_status StoreFailed = 503
reply_status MemoryFailed = 500
reply_status Http = 400

abbrev pub status_of : Answer → ℕ
status_of (Told reply heads) = reply_status reply
status_of (Shown query chosen) = 200

-- the response to a request that has this answer, and asks to close or not
unfoldable pub response_to : Answer → Bool → List ℕ
response_to answer close = response_text (status_of answer) (answer_text answer) close

-- the responses to requests with these answers, in order
abbrev pub responses : List Request → List Answer → List ℕ
responses (request ∷ requests) (answer ∷ answers) = response_to answer request.close ++ responses requests answers
responses _ _ = []

-- the statuses of a request that is refused
abbrev pub refusal_statuses : List ℕ
refusal_statuses = 400 ∷ 404 ∷ 405 ∷ 411 ∷ 413 ∷ 501 ∷ []

abbrev pub IsRefusalStatus : ℕ → Type 0
IsRefusalStatus status = IsTrue (list_any (λ known. known == status) refusal_statuses)

-- the response to bytes that are refused with this status: it closes
unfoldable pub refusal_response : ℕ → List ℕ
refusal_response status = response_text status (reply_text [] Http) true

-- the response to the bytes that were refused, if some were
abbrev pub last_response : Option ℕ → List ℕ
last_response None = []
last_response (Some status) = refusal_response status
