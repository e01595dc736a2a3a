-- The responses that are written out, step by step: their bodies, the numbers in them, and their lines.
use Rattle.std.proofs.Common.{◌≡◌, ℕ, Bool, true, false, List, [], ◌++◌, length, refl, ap, ◌∙◌}
use Rattle.std.specs.Fmt.{digits}
use Rattle.std.specs.Prelude.{codes, decimal}
use Rattle.json.specs.Print.{escape_byte}
use Rattle.stock_model.specs.declared.answers.Answer.TheVariants.{Told}
use Rattle.stock_model.specs.declared.replies.Reply.TheVariants.{MemoryFailed, Http}
use Rattle.voucher_json.specs.ReplyText.{reply_text}
use Rattle.desk_wire.specs.Responses.{status_line, field_line, allow_field, close_field, crlf, response_text}
use Rattle.desk_server.specs.Responses.{refusal_response, response_to}

abbrev http_body : List ℕ
http_body = codes "{\"fault\":\"http\",\"status\":\"bad\"}"

abbrev memory_body : List ℕ
memory_body = codes "{\"fault\":\"memory\",\"status\":\"failed\"}"

http_body-is : reply_text [] Http ≡ http_body
unfolding escape_byte
http_body-is = refl

memory_body-is : reply_text [] MemoryFailed ≡ memory_body
unfolding escape_byte
memory_body-is = refl

http_length : decimal (length http_body) ≡ codes "31"
unfolding digits
http_length = refl

memory_length : decimal (length memory_body) ≡ codes "36"
unfolding digits
memory_length = refl

-- the response with its first line and the length of its body written out
abbrev with_line : List ℕ → List ℕ → ℕ → List ℕ → Bool → List ℕ
with_line line number status body close =
    line ++ field_line (codes "Content-Type") (codes "application/json") ++ field_line (codes "Content-Length") number
    ++ allow_field status ++ close_field close ++ crlf ++ body

response_text-with : (status : ℕ) (body line number : List ℕ) (close : Bool) → status_line status ≡ line → decimal (length body) ≡ number
    → response_text status body close ≡ with_line line number status body close
response_text-with status body line number close first second =
    ap (λ (l : List ℕ). with_line l (decimal (length body)) status body close) first
    ∙ ap (λ (n : List ℕ). with_line line n status body close) second

line_400 : status_line 400 ≡ codes "HTTP/1.1 400 Bad Request\r\n"
unfolding digits
line_400 = refl

pub refusal_400 : refusal_response 400 ≡ codes "HTTP/1.1 400 Bad Request\r\nContent-Type: application/json\r\nContent-Length: 31\r\nConnection: close\r\n\r\n{\"fault\":\"http\",\"status\":\"bad\"}"
unfolding refusal_response
refusal_400 =
    ap (λ (body : List ℕ). response_text 400 body true) http_body-is
    ∙ response_text-with 400 http_body (codes "HTTP/1.1 400 Bad Request\r\n") (codes "31") true line_400 http_length

line_404 : status_line 404 ≡ codes "HTTP/1.1 404 Not Found\r\n"
unfolding digits
line_404 = refl

pub refusal_404 : refusal_response 404 ≡ codes "HTTP/1.1 404 Not Found\r\nContent-Type: application/json\r\nContent-Length: 31\r\nConnection: close\r\n\r\n{\"fault\":\"http\",\"status\":\"bad\"}"
unfolding refusal_response
refusal_404 =
    ap (λ (body : List ℕ). response_text 404 body true) http_body-is
    ∙ response_text-with 404 http_body (codes "HTTP/1.1 404 Not Found\r\n") (codes "31") true line_404 http_length

line_405 : status_line 405 ≡ codes "HTTP/1.1 405 Method Not Allowed\r\n"
unfolding digits
line_405 = refl

pub refusal_405 : refusal_response 405 ≡ codes "HTTP/1.1 405 Method Not Allowed\r\nContent-Type: application/json\r\nContent-Length: 31\r\nAllow: POST\r\nConnection: close\r\n\r\n{\"fault\":\"http\",\"status\":\"bad\"}"
unfolding refusal_response
refusal_405 =
    ap (λ (body : List ℕ). response_text 405 body true) http_body-is
    ∙ response_text-with 405 http_body (codes "HTTP/1.1 405 Method Not Allowed\r\n") (codes "31") true line_405 http_length

line_411 : status_line 411 ≡ codes "HTTP/1.1 411 Length Required\r\n"
unfolding digits
line_411 = refl

pub refusal_411 : refusal_response 411 ≡ codes "HTTP/1.1 411 Length Required\r\nContent-Type: application/json\r\nContent-Length: 31\r\nConnection: close\r\n\r\n{\"fault\":\"http\",\"status\":\"bad\"}"
unfolding refusal_response
refusal_411 =
    ap (λ (body : List ℕ). response_text 411 body true) http_body-is
    ∙ response_text-with 411 http_body (codes "HTTP/1.1 411 Length Required\r\n") (codes "31") true line_411 http_length

line_413 : status_line 413 ≡ codes "HTTP/1.1 413 Payload Too Large\r\n"
unfolding digits
line_413 = refl

pub refusal_413 : refusal_response 413 ≡ codes "HTTP/1.1 413 Payload Too Large\r\nContent-Type: application/json\r\nContent-Length: 31\r\nConnection: close\r\n\r\n{\"fault\":\"http\",\"status\":\"bad\"}"
unfolding refusal_response
refusal_413 =
    ap (λ (body : List ℕ). response_text 413 body true) http_body-is
    ∙ response_text-with 413 http_body (codes "HTTP/1.1 413 Payload Too Large\r\n") (codes "31") true line_413 http_length

line_501 : status_line 501 ≡ codes "HTTP/1.1 501 Not Implemented\r\n"
unfolding digits
line_501 = refl

pub refusal_501 : refusal_response 501 ≡ codes "HTTP/1.1 501 Not Implemented\r\nContent-Type: application/json\r\nContent-Length: 31\r\nConnection: close\r\n\r\n{\"fault\":\"http\",\"status\":\"bad\"}"
unfolding refusal_response
refusal_501 =
    ap (λ (body : List ℕ). response_text 501 body true) http_body-is
    ∙ response_text-with 501 http_body (codes "HTTP/1.1 501 Not Implemented\r\n") (codes "31") true line_501 http_length

line_500 : status_line 500 ≡ codes "HTTP/1.1 500 Internal Server Error\r\n"
unfolding digits
line_500 = refl

pub memory_closing : response_to (Told MemoryFailed []) true
    ≡ codes "HTTP/1.1 500 Internal Server Error\r\nContent-Type: application/json\r\nContent-Length: 36\r\nConnection: close\r\n\r\n{\"fault\":\"memory\",\"status\":\"failed\"}"
unfolding response_to
memory_closing =
    ap (λ (body : List ℕ). response_text 500 body true) memory_body-is
    ∙ response_text-with 500 memory_body (codes "HTTP/1.1 500 Internal Server Error\r\n") (codes "36") true line_500 memory_length

pub memory_open : response_to (Told MemoryFailed []) false
    ≡ codes "HTTP/1.1 500 Internal Server Error\r\nContent-Type: application/json\r\nContent-Length: 36\r\n\r\n{\"fault\":\"memory\",\"status\":\"failed\"}"
unfolding response_to
memory_open =
    ap (λ (body : List ℕ). response_text 500 body false) memory_body-is
    ∙ response_text-with 500 memory_body (codes "HTTP/1.1 500 Internal Server Error\r\n") (codes "36") false line_500 memory_length
