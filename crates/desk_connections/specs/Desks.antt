-- What a desk does, for one peer after another.
use Rattle.std.specs.Prelude.{ℕ, ◌≡◌, List, map}
use Rattle.shared_listener.specs.Steps.{comes, hangs, NotesHungUp}
use Rattle.shared_listener.specs.declared.step.Step.{Step}
use Rattle.desk_connections.specs.Visits.{Visit, Learnt, Lead}
use Rattle.desk_connections.specs.Ways.{OneAtATime}

-- The desk with this number knew so much, served this peer, knew so much then, and handed the peer back as it was then.
pub record ServesOne {L P : Type 0} (is_visit : Visit P → Type 0) (number : ℕ) (old new : Learnt) (made made' : List (ℕ × Step L P))
    (peer : P) : Type 0 where
  pub visit : Visit P
  pub is : is_visit visit
  pub of : visit.peer ≡ peer
  pub before : visit.old ≡ old
  pub after : visit.new ≡ new
  pub went : NotesHungUp number visit.peer_then made made'

-- Since it knew so much, the desk served each peer that came to it, one after another, and handed each of them
-- back as it was then, before the next one came.
pub record HasServed {L P : Type 0} (is_visit : Visit P → Type 0) (old new : Learnt) (made : List (ℕ × Step L P)) : Type 0 where
  pub visits : List (Visit P)
  pub lead : Lead is_visit old new visits
  pub came : comes made ≡ map (λ visit. visit.peer) visits
  pub went : hangs made ≡ map (λ visit. visit.peer_then) visits
  pub one_at_a_time : OneAtATime made
