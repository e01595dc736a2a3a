-- What a session did for its peer.
use Rattle.std.specs.Prelude.{ℕ, ◌≡◌, ◌+◌, ◌^◌, ◌<◌, ◌≤◌, ◌⊎◌, Bool, true, false, Option, Some, None, List, [], ◌∷◌, ◌++◌, length, drop, slice_range, IfSome, ⊤}
use Rattle.std.specs.Io.KnownBytes.{Consumes, Appends}
use Rattle.stock_io.specs.Counts.{Rose}
use Rattle.stock_io.specs.Streams.{AppendsFront}
use Rattle.desk_wire.specs.declared.heard.Request.{Request}
use Rattle.desk_wire.specs.declared.wire.Wire.TheVariants.{More, Bad}
use Rattle.desk_wire.specs.Framings.{Parts}
use Rattle.desk_wire.specs.Rules.{Answers}
use Rattle.desk_wire.specs.Streams.{size}
use Rattle.stock_model.specs.declared.answers.Answer.{Answer}
use Rattle.desk_server.specs.Responses.{responses, last_response}
use Rattle.desk_server.specs.declared.session.End.{End}
use Rattle.desk_server.specs.declared.session.End.TheVariants.{Closed, Cut, Refused, ReadFault, WriteFault, TooMuch, NoMemory}

-- the most bytes that are taken of a peer
abbrev pub byte_limit : ℕ
byte_limit = 2 ^ 32

-- the body of the request that the bytes begin with
abbrev pub body_of : List ℕ → Request → List ℕ
body_of bytes request = slice_range bytes request.head (size request)

-- the bodies of the requests that a stream begins with, in order
abbrev pub bodies : List ℕ → List Request → List (List ℕ)
bodies stream [] = []
bodies stream (request ∷ requests) = body_of stream request ∷ bodies (drop (size request) stream) requests

-- none of the requests asks to close
abbrev pub StayOpen : List Request → Type 0
StayOpen [] = ⊤
StayOpen (request ∷ requests) = (request.close ≡ false) × StayOpen requests

-- the last request asks to close, and it is the first that does
abbrev pub LastCloses : List Request → Type 0
LastCloses [] = ⊥
LastCloses (request ∷ []) = request.close ≡ true
LastCloses (request ∷ next ∷ requests) = (request.close ≡ false) × LastCloses (next ∷ requests)

-- what was taken of a peer: its requests, and the bytes behind them
pub record Taken : Type 0 where
  pub stream : List ℕ
  pub requests : List Request
  pub rest : List ℕ

-- The peer ended, which had these bytes if that is told: all of them were taken, and more might have been. It asked to close
-- nowhere, and the rest is no whole request.
pub record PeerEnded (left : Option (List ℕ)) (taken : Taken) : Type 0 where
  pub stays_open : StayOpen taken.requests
  pub needs : Answers taken.rest More
  pub in_reach : length taken.stream < byte_limit
  pub all : IfSome left (λ bytes. taken.stream ≡ bytes)

-- The end has its cause: what the peer had, if that is told, and what was taken of it, the status with which the rest was refused, if it was,
-- and the count of the link's faults before and now.
abbrev pub HasCause : Option (List ℕ) → Taken → Option ℕ → ℕ → ℕ → End → Type 0
HasCause left taken None before now Closed = LastCloses taken.requests ⊎ ((taken.rest ≡ []) × PeerEnded left taken)
HasCause left taken None before now (Cut n) = (0 < n) × (length taken.rest ≡ n) × PeerEnded left taken
HasCause left taken (Some status) before now (Refused told) =
    (told ≡ status) × StayOpen taken.requests × Answers taken.rest (Bad status)
HasCause left taken None before now ReadFault = StayOpen taken.requests × Rose before now
HasCause left taken None before now WriteFault = (StayOpen taken.requests ⊎ LastCloses taken.requests) × Rose before now
HasCause left taken (Some status) before now WriteFault =
    StayOpen taken.requests × Answers taken.rest (Bad status) × Rose before now
HasCause left taken None before now TooMuch =
    StayOpen taken.requests × Answers taken.rest More × (length taken.stream ≡ byte_limit)
HasCause left taken None before now NoMemory = taken ≡ record { stream = []; requests = []; rest = [] }
HasCause left taken _ before now _ = ⊥

-- the text was written, or a front of it
abbrev pub IsWritten : End → Option (List ℕ) → Option (List ℕ) → List ℕ → Type 0
IsWritten WriteFault old new text = AppendsFront old new text
IsWritten _ old new text = Appends old new text

-- These bytes were taken. They are whole requests one after another, and a rest. Each request was answered, the bodies of all in
-- such a session. The responses were written, and then the one to the rest, if it was refused. The session ended for its cause.
pub record ServesIn {P : Type 0} (left : P → Option (List ℕ)) (taken : P → ℕ) (written : P → Option (List ℕ)) (faults : P → ℕ)
    (is_session : List (List ℕ) → List Answer → Type 0) (link link' : P) (end : End) : Type 0 where
  pub bytes : Taken
  pub took : Consumes (left link) (left link') bytes.stream
  pub counted : taken link' ≡ taken link + length bytes.stream
  pub within : length bytes.stream ≤ byte_limit
  pub parts : Parts bytes.stream bytes.requests bytes.rest
  pub answers : List Answer
  pub session : is_session (bodies bytes.stream bytes.requests) answers
  pub refused : Option ℕ
  pub wrote : IsWritten end (written link) (written link') (responses bytes.requests answers ++ last_response refused)
  pub cause : HasCause (left link) bytes refused (faults link) (faults link') end

-- the session that serves the peer was over while the link was as open as it was at first
pub record IsServedOpen {P : Type 0} (ended : P → Bool) (serves : P → P → End → Type 0) (link : P) (end : End) : Type 0 where
  pub link_then : P
  pub still_open : ended link_then ≡ ended link
  pub served : serves link link_then end
