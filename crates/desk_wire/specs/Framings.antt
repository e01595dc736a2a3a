-- All requests of a stream of bytes.
use Rattle.std.specs.Prelude.{◌≡◌, ℕ, ◌<◌, ◌≤◌, ◌⊎◌, Option, Some, None, List, [], ◌∷◌, length, drop, ⊤}
use Rattle.desk_wire.specs.declared.heard.Request.{Request}
use Rattle.desk_wire.specs.declared.heard.Stop.{Stop}
use Rattle.desk_wire.specs.declared.heard.Stop.TheVariants.{Refused, Ended, TooMuch}
use Rattle.desk_wire.specs.declared.framing.Framing.{Framing}
use Rattle.desk_wire.specs.Waiting.{Waiting, in_reach}
use Rattle.desk_wire.specs.Rules.{Answers}
use Rattle.desk_wire.specs.Streams.{whole, size, stop_answer, IsHopeless}

-- the stream is these whole requests one after another, and then the rest
abbrev pub Parts : List ℕ → List Request → List ℕ → Type 0
Parts stream [] rest = stream ≡ rest
Parts stream (request ∷ requests) rest = Answers stream (whole request) × Parts (drop (size request) stream) requests rest

-- what was ahead is these whole requests one after another, and then what is ahead now, where that is told
abbrev pub Follows : Option (List ℕ) → List Request → Option (List ℕ) → Type 0
Follows None requests now = ⊤
Follows (Some stream) requests None = ⊥
Follows (Some stream) requests (Some rest) = Parts stream requests rest

-- the limit allows the stop, where so many bytes may be taken of so many that are left: the stream ends
-- where fewer are left, and the limit is reached where as many are
abbrev pub AllowsStop : ℕ → ℕ → Stop → Type 0
AllowsStop spare left (Refused status) = ⊤
AllowsStop spare left Ended = left < spare
AllowsStop spare left TooMuch = spare ≤ left

-- what may be heard is these whole requests, and then they stop: the rest is answered as the stop says
pub record Framed (waits : Waiting) (left : List ℕ) (requests : List Request) (stop : Stop) : Type 0 where
  pub rest : List ℕ
  pub parts : Parts (in_reach waits left) requests rest
  pub answered : Answers rest (stop_answer stop)
  pub allowed : AllowsStop waits.spare (length left) stop

-- the requests and the stop are these, but that one of two stops may be the refusal of a head that is cut
-- off and can't be completed, and the other the end or the limit
pub record IsSameFraming (reach : List ℕ) (a b : Framing) : Type 0 where
  pub requests : a.requests ≡ b.requests
  pub stop : (a.stop ≡ b.stop) ⊎ ((rest : List ℕ) × Parts reach a.requests rest × IsHopeless rest)
