-- The requests of a stream and their bodies, as bytes come and requests are let go.
use Rattle.std.proofs.Common.{◌≡◌, ℕ, ◌-◌, ◌≤◌, List, [], ◌∷◌, ◌++◌, length, take, drop, refl, sym, ap, ◌∙◌, subst, arith}
use Rattle.std.specs.Prelude.{true, false}
use Rattle.std.proofs.Math.Seq.{drop-append-le}
use Rattle.std.proofs.lemmas.List.{take-append-le, length-drop}
use Rattle.desk_wire.specs.declared.heard.Request.{Request}
use Rattle.desk_wire.specs.Framings.{Parts}
use Rattle.desk_wire.specs.Rules.{Answers}
use Rattle.desk_wire.specs.Streams.{whole, size}
use Rattle.desk_wire.proofs.RuleLemmas.{Answers-append, whole_within}
use Rattle.desk_server.specs.Served.{body_of, bodies, StayOpen, LastCloses}

size-within : (stream : List ℕ) (request : Request) → Answers stream (whole request) → size request ≤ length stream
size-within stream request answers = let within = whole_within stream (whole request) answers in within.3

-- one more request
pub Parts-push : (stream : List ℕ) (requests : List Request) (rest : List ℕ) (request : Request) → Parts stream requests rest
    → Answers rest (whole request) → Parts stream (requests ++ request ∷ []) (drop (size request) rest)
Parts-push stream [] rest request same answers =
    (subst (λ (l : List ℕ). Answers l (whole request)) (sym same) answers, ap (drop (size request)) same)
Parts-push stream (first ∷ requests) rest request parts answers =
    (parts.0, Parts-push (drop (size first) stream) requests rest request parts.1 answers)

pub bodies-push : (stream : List ℕ) (requests : List Request) (rest : List ℕ) (request : Request) → Parts stream requests rest
    → bodies stream (requests ++ request ∷ []) ≡ bodies stream requests ++ body_of rest request ∷ []
bodies-push stream [] rest request same = ap (λ (l : List ℕ). body_of l request ∷ []) same
bodies-push stream (first ∷ requests) rest request parts =
    ap (λ (l : List (List ℕ)). body_of stream first ∷ l) (bodies-push (drop (size first) stream) requests rest request parts.1)

-- more bytes
pub Parts-behind : (stream piece : List ℕ) (requests : List Request) (rest : List ℕ) → Parts stream requests rest
    → Parts (stream ++ piece) requests (rest ++ piece)
Parts-behind stream piece [] rest same = ap (λ (l : List ℕ). l ++ piece) same
Parts-behind stream piece (first ∷ requests) rest parts = (
  Answers-append stream piece (whole first) parts.0 (λ same. cc),
  subst (λ (l : List ℕ). Parts l requests (rest ++ piece)) (sym (drop-append-le (size first) stream piece (size-within stream first parts.0)))
      (Parts-behind (drop (size first) stream) piece requests rest parts.1),
)

body_of-behind : (stream piece : List ℕ) (request : Request) → size request ≤ length stream
    → body_of (stream ++ piece) request ≡ body_of stream request
body_of-behind stream piece request within =
    let some : request.head ≤ length stream = omega arith in
    let left : size request - request.head ≤ length (drop request.head stream) = omega (arith, length-drop request.head stream) in
    ap (take (size request - request.head)) (drop-append-le request.head stream piece some)
    ∙ take-append-le (size request - request.head) (drop request.head stream) piece left

pub bodies-behind : (stream piece : List ℕ) (requests : List Request) (rest : List ℕ) → Parts stream requests rest
    → bodies (stream ++ piece) requests ≡ bodies stream requests
bodies-behind stream piece [] rest same = refl
bodies-behind stream piece (first ∷ requests) rest parts =
    let within = size-within stream first parts.0 in
    ap (λ (b : List ℕ). b ∷ bodies (drop (size first) (stream ++ piece)) requests) (body_of-behind stream piece first within)
    ∙ ap (λ (l : List (List ℕ)). body_of stream first ∷ l)
    (ap (λ (l : List ℕ). bodies l requests) (drop-append-le (size first) stream piece within)
    ∙ bodies-behind (drop (size first) stream) piece requests rest parts.1)

-- a request that asks to close is the last
pub StayOpen-push : (requests : List Request) (request : Request) → StayOpen requests → request.close ≡ false
    → StayOpen (requests ++ request ∷ [])
StayOpen-push [] request stays_open is = (is, tt)
StayOpen-push (first ∷ requests) request stays_open is = (stays_open.0, StayOpen-push requests request stays_open.1 is)

pub LastCloses-push : (requests : List Request) (request : Request) → StayOpen requests → request.close ≡ true
    → LastCloses (requests ++ request ∷ [])
LastCloses-push [] request stays_open is = is
LastCloses-push (first ∷ []) request stays_open is = (stays_open.0, is)
LastCloses-push (first ∷ next ∷ requests) request stays_open is = (stays_open.0, LastCloses-push (next ∷ requests) request stays_open.1 is)
