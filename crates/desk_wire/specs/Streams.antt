-- Requests in a stream of bytes, which comes in pieces.
use Rattle.std.specs.Prelude.{◌≡◌, ℕ, ◌+◌, ◌<◌, ◌≤◌, Option, List, ◌++◌, length, ⊤}
use Rattle.std.specs.Io.KnownBytes.{Consumes}
use Rattle.desk_wire.specs.declared.wire.Wire.{Wire}
use Rattle.desk_wire.specs.declared.wire.Wire.TheVariants.{Whole, More, Bad}
use Rattle.desk_wire.specs.declared.heard.Request.{Request}
use Rattle.desk_wire.specs.declared.heard.Stop.{Stop}
use Rattle.desk_wire.specs.declared.heard.Stop.TheVariants.{Refused, Ended, TooMuch}
use Rattle.desk_wire.specs.declared.heard.Heard.{Heard}
use Rattle.desk_wire.specs.declared.heard.Heard.TheVariants.{Next, Last}
use Rattle.desk_wire.specs.Waiting.{Waiting}
use Rattle.desk_wire.specs.Rules.{head_limit, body_limit, head_part, IsReading, Hopeless, Answers}

-- the rules answer this whole request
abbrev pub whole : Request → Wire
whole request = Whole request.head request.body request.close

-- how many bytes a request has
abbrev pub size : Request → ℕ
size request = request.head + request.body

-- the request lies in the bytes, within the limits, and has a head
pub record LiesIn (bytes : List ℕ) (request : Request) : Type 0 where
  pub some : 0 < request.head
  pub head : request.head ≤ head_limit
  pub body : request.body ≤ body_limit
  pub within : size request ≤ length bytes

-- P of the next request, if there is one
abbrev pub IfNext : Heard → (Request → Type 0) → Type 0
IfNext (Next request) P = P request
IfNext (Last stop) P = ⊤

-- the answer of the rules where the requests of a stream stop
abbrev pub stop_answer : Stop → Wire
stop_answer (Refused status) = Bad status
stop_answer Ended = More
stop_answer TooMuch = More

-- the answer of the rules that was heard
abbrev pub heard_answer : Heard → Wire
heard_answer (Next request) = whole request
heard_answer (Last stop) = stop_answer stop

-- a piece of a source was put behind the bytes that wait, and no more than may be taken. left and taken
-- are what the source tells
pub record TakesIn {S : Type 0} (left : S → Option (List ℕ)) (taken : S → ℕ) (waits waits' : Waiting) (source source' : S) : Type 0 where
  pub piece : List ℕ
  pub behind : waits'.bytes ≡ waits.bytes ++ piece
  pub spare : waits.spare ≡ waits'.spare + length piece
  pub took : Consumes (left source) (left source') piece
  pub counted : taken source' ≡ taken source + length piece

-- one read that was needed, of an inbox and its source: the rules answered More to the bytes that waited,
-- more might be taken, and what was read was put behind them. leaves is what the source says of one read,
-- so that several don't pass for one
pub record ReadsMore {S : Type 0} (left : S → Option (List ℕ)) (taken : S → ℕ) (leaves : S → S → Type 0) (before after : Waiting × S) : Type 0 where
  pub needed : Answers before.0.bytes More
  pub allowed : 0 < before.0.spare
  pub takes_in : TakesIn left taken before.0 after.0 before.1 after.1
  pub frame : leaves before.1 after.1

-- where no whole request waits, the stop tells whether the limit was reached: no more bytes may be taken
-- after TooMuch, and some more after the end
abbrev pub TellsLimit : Heard → Waiting → Type 0
TellsLimit (Next request) waits = ⊤
TellsLimit (Last (Refused status)) waits = ⊤
TellsLimit (Last Ended) waits = 0 < waits.spare
TellsLimit (Last TooMuch) waits = waits.spare ≡ 0

-- what was heard is what the rules answer to the whole stream, unless the limit came first
abbrev pub IsOfStream : List ℕ → Heard → Type 0
IsOfStream stream (Next request) = Answers stream (whole request)
IsOfStream stream (Last (Refused status)) = Answers stream (Bad status)
IsOfStream stream (Last Ended) = Answers stream More
IsOfStream stream (Last TooMuch) = ⊤

-- the stream begins with no whole head of at most 64 fields, whatever bytes follow, and is shorter than
-- the largest head. It isn't said how soon such a head is refused
abbrev pub IsHopeless : List ℕ → Type 0
IsHopeless stream = (length stream < head_limit) × IsReading (head_part stream) Hopeless

-- this answer to the stream was heard, unless the limit came first, or the end, where a head is hopeless
abbrev pub IsHeardAs : List ℕ → Wire → Heard → Type 0
IsHeardAs stream wire (Next request) = whole request ≡ wire
IsHeardAs stream wire (Last (Refused status)) = Bad status ≡ wire
IsHeardAs stream wire (Last Ended) = IsHopeless stream
IsHeardAs stream wire (Last TooMuch) = ⊤
