-- How a buffer is answered, by the rules of the HTTP profile. The first rule that holds decides.
use Rattle.std.specs.Prelude.{◌≡◌, ℕ, ◌-◌, ◌≤◌, ◌==◌, nat_lt, nat_le, Bool, not, ◌&&◌, if◌then◌else◌, List, [], ◌∷◌, length, take, codes, bytes_eq, ⊤}
use Rattle.std.specs.Str.Parse.{digits_value}
use Rattle.httparse.specs.Grammar.{RequestHead, print_request, ReadsRequest, HasNoRequest, MayBecomeRequest}
use Rattle.httparse.specs.Spans.{RequestOverflows}
use Rattle.desk_wire.specs.declared.wire.Wire.{Wire}
use Rattle.desk_wire.specs.declared.wire.Wire.TheVariants.{Whole, More, Bad}
use Rattle.desk_wire.specs.Heads.{Fields, fields_of, values_of, is_length, asks_to_close}

-- the most bytes of a head
abbrev pub head_limit : ℕ
head_limit = 65536

-- the most bytes of a body
abbrev pub body_limit : ℕ
body_limit = 65536

-- the most fields of a head
abbrev pub field_limit : ℕ
field_limit = 64

-- the part of a buffer in which a head has to stand
abbrev pub head_part : List ℕ → List ℕ
head_part buffer = take head_limit buffer

-- how the head part of a buffer is read, as httparse reads it
pub data Reading : Type 0 where
  Hopeless : Reading
  Unfinished : Reading
  Head : RequestHead → Reading

-- Hopeless: whatever bytes follow, they begin no whole head with at most 64 fields.
-- Unfinished: they begin no whole head, and more bytes may make them one; where a target is still
-- being read, its test for UTF-8 waits for its end.
-- Head: they begin with this whole head of at most 64 fields.
-- Of bytes that can be completed to no head, both of the first two may hold: it isn't said how soon
-- such a head is refused.
abbrev pub IsReading : List ℕ → Reading → Type 0
IsReading front Hopeless = RequestOverflows field_limit front
IsReading front Unfinished = HasNoRequest front × MayBecomeRequest front
IsReading front (Head head) = ((rest : List ℕ) × ReadsRequest front head rest) × (length head.fields ≤ field_limit)

-- the rules on the body: the values of the Content-Length fields, the length of the head, how many
-- bytes follow it, and whether the connection ends after the request
abbrev pub body_answer : List (List ℕ) → ℕ → ℕ → Bool → Wire
body_answer [] head after close = Bad 411
body_answer (value ∷ []) head after close =
    if not (is_length value) then Bad 400 else (
    if nat_lt body_limit (digits_value 10 value) then Bad 413 else (
    if nat_lt after (digits_value 10 value) then More else
    Whole head (digits_value 10 value) close))
body_answer (value ∷ other ∷ values) head after close = Bad 400

-- the rules on a whole head: its version, method, target and fields, its length, and how many bytes
-- follow it
abbrev pub head_answer : ℕ → List ℕ → List ℕ → Fields → ℕ → ℕ → Wire
head_answer minor method target fields head after =
    if minor == 1 && not (length (values_of (codes "host") fields) == 1) then Bad 400 else (
    if not (length (values_of (codes "transfer-encoding") fields) == 0) then Bad 501 else (
    if not (bytes_eq method (codes "POST")) then Bad 405 else (
    if not (bytes_eq target (codes "/desk")) then Bad 404 else
    body_answer (values_of (codes "content-length") fields) head after (asks_to_close minor fields))))

-- all rules, by the reading of the head part and the bytes that are there
abbrev pub answer : Reading → ℕ → Wire
answer Hopeless there = Bad 400
answer Unfinished there = if nat_le head_limit there then Bad 400 else More
answer (Head head) there =
    let len = length (print_request head) in
    head_answer head.minor head.method head.target (fields_of head) len (there - len)

-- the rules answer this to the buffer
abbrev pub Answers : List ℕ → Wire → Type 0
Answers buffer wire =
    (reading : Reading) × IsReading (head_part buffer) reading × (wire ≡ answer reading (length buffer))

-- P of the lengths of head and body, and of whether the connection ends, where the request is whole
abbrev pub IfWhole : Wire → (ℕ → ℕ → Bool → Type 0) → Type 0
IfWhole (Whole head body close) P = P head body close
IfWhole More P = ⊤
IfWhole (Bad status) P = ⊤
