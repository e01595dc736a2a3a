-- The text of a response (RFC 9112, section 4).
use Rattle.std.specs.Prelude.{ℕ, ◌==◌, Bool, if◌then◌else◌, List, [], ◌∷◌, ◌++◌, length, codes, decimal, IsTrue}
use Rattle.std.specs.List.{list_any}

-- the statuses that a desk answers with
abbrev pub statuses : List ℕ
statuses = 200 ∷ 202 ∷ 400 ∷ 404 ∷ 405 ∷ 409 ∷ 411 ∷ 413 ∷ 500 ∷ 501 ∷ 503 ∷ []

abbrev pub IsDeskStatus : ℕ → Type 0
IsDeskStatus status = IsTrue (list_any (λ known. known == status) statuses)

-- the phrase of a status that a desk answers with
abbrev pub phrase : ℕ → List ℕ
phrase status =
    if status == 200 then codes "OK" else (
    if status == 202 then codes "Accepted" else (
    if status == 400 then codes "Bad Request" else (
    if status == 404 then codes "Not Found" else (
    if status == 405 then codes "Method Not Allowed" else (
    if status == 409 then codes "Conflict" else (
    if status == 411 then codes "Length Required" else (
    if status == 413 then codes "Payload Too Large" else (
    if status == 500 then codes "Internal Server Error" else (
    if status == 501 then codes "Not Implemented" else
    codes "Service Unavailable")))))))))

-- carriage return and line feed
abbrev pub crlf : List ℕ
crlf = 13 ∷ 10 ∷ []

abbrev pub status_line : ℕ → List ℕ
status_line status = codes "HTTP/1.1 " ++ decimal status ++ codes " " ++ phrase status ++ crlf

abbrev pub field_line : List ℕ → List ℕ → List ℕ
field_line name value = name ++ codes ": " ++ value ++ crlf

-- a refused method is told which one is allowed
abbrev pub allow_field : ℕ → List ℕ
allow_field status = if status == 405 then field_line (codes "Allow") (codes "POST") else []

abbrev pub close_field : Bool → List ℕ
close_field close = if close then field_line (codes "Connection") (codes "close") else []

-- a response with this body: the status line, the fields, an empty line and the body
abbrev pub response_text : ℕ → List ℕ → Bool → List ℕ
response_text status body close =
    status_line status
    ++ field_line (codes "Content-Type") (codes "application/json")
    ++ field_line (codes "Content-Length") (decimal (length body))
    ++ allow_field status
    ++ close_field close
    ++ crlf
    ++ body
