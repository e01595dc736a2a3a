-- What a write of a response does to a link, and whether the session ends with it.
use Rattle.std.specs.Prelude.{ℕ, ◌≡◌, ◌<◌, ◌⊎◌, Bool, true, false, Option, Some, None, List, ⊤}
use Rattle.std.specs.Io.KnownBytes.{Appends}
use Rattle.stock_io.specs.Counts.{Rose}
use Rattle.stock_io.specs.Streams.{AppendsFront}
use Rattle.desk_wire.specs.declared.heard.Stop.{Stop}
use Rattle.desk_wire.specs.declared.heard.Stop.TheVariants as stop
use Rattle.desk_server.specs.Responses.{refusal_response, IsRefusalStatus}
use Rattle.desk_server.specs.declared.session.End.{End}
use Rattle.desk_server.specs.declared.session.End.TheVariants.{Closed, Cut, Refused, WriteFault, TooMuch}

-- the whole text was written and no fault was counted
pub record WritesAll {P : Type 0} (written : P → Option (List ℕ)) (faults : P → ℕ) (link link' : P) (text : List ℕ) : Type 0 where
  pub appends : Appends (written link) (written link') text
  pub no_fault : faults link' ≡ faults link

-- a front of the text was written, and then a fault was counted
pub record WritesFront {P : Type 0} (written : P → Option (List ℕ)) (faults : P → ℕ) (link link' : P) (text : List ℕ) : Type 0 where
  pub front : AppendsFront (written link) (written link') text
  pub fault : Rose (faults link) (faults link')

-- a response to a request that asks to close or not was written, and this is the end that came of it, if one did
abbrev pub Written : {P : Type 0} → (P → Option (List ℕ)) → (P → ℕ) → P → P → List ℕ → Bool → Option End → Type 0
Written written faults link link' text close None = (close ≡ false) × WritesAll written faults link link' text
Written written faults link link' text close (Some Closed) = (close ≡ true) × WritesAll written faults link link' text
Written written faults link link' text close (Some WriteFault) = WritesFront written faults link link' text
Written written faults link link' text close (Some _) = ⊥

-- no request follows, for this reason, so many bytes wait, and this is the end that came of it
abbrev pub Ended : {P : Type 0} → (P → Option (List ℕ)) → (P → ℕ) → P → P → Stop → ℕ → End → Type 0
Ended written faults link link' (stop.Refused status) waiting end =
    ((end ≡ Refused status) × WritesAll written faults link link' (refusal_response status))
    ⊎ ((end ≡ WriteFault) × WritesFront written faults link link' (refusal_response status))
Ended written faults link link' stop.Ended waiting end =
    (link' ≡ link) × (((waiting ≡ 0) × (end ≡ Closed)) ⊎ ((0 < waiting) × (end ≡ Cut waiting)))
Ended written faults link link' stop.TooMuch waiting end = (link' ≡ link) × (end ≡ TooMuch)

-- the status of a refusal is one that can be told
abbrev pub MayBeTold : Stop → Type 0
MayBeTold (stop.Refused status) = IsRefusalStatus status
MayBeTold stop.Ended = ⊤
MayBeTold stop.TooMuch = ⊤

-- a request that asks to close or not got a response of this kind, which was written
pub record AnswersNext {P : Type 0} (written : P → Option (List ℕ)) (faults : P → ℕ) (responds : List ℕ → Type 0) (close : Bool)
    (link link' : P) (end : Option End) : Type 0 where
  pub response : List ℕ
  pub answered : responds response
  pub wrote : Written written faults link link' response close end
