-- The peers that one desk serves, one after another.
use Rattle.std.specs.Prelude.{ℕ, ◌≡◌, Bool, true, Option, List, [], ◌∷◌}
use Rattle.std.specs.List.{AllZip, flat_map}
use Rattle.turn_lock.specs.Histories.{BeginsWith}
use Rattle.turn_lock.specs.declared.view.View.{View}
use Rattle.stock_model.specs.declared.deeds.Deed.{Deed}
use Rattle.stock_model.specs.declared.records.Record.{Record}
use Rattle.mirrored_sessions.specs.Sessions.{MirroredSession}
use Rattle.mirrored_sessions.specs.Steps.{Step}
use Rattle.desk_server.specs.Served.{IsServedOpen}
use Rattle.desk_server.specs.declared.session.End.{End}
use Rattle.mirrored_desk.specs.Exchanging.{known}
use Rattle.mirrored_desk.specs.Served.{ServesMirrored}

-- what a desk knows from one peer to the next: of the lock by its pass, and of the mirror the records that it read there last
pub record Learnt : Type 0 where
  pub view : View Deed
  pub read : List Record

abbrev pub learnt : View Deed → List Record → Learnt
learnt view read = record { view = view; read = read }

-- it knows all that was known before
abbrev pub Remembers : Learnt → Learnt → Type 0
Remembers later earlier = BeginsWith later.view.seen earlier.view.seen × BeginsWith later.read earlier.read

-- a peer that a desk served, before and after, and what the desk knew, before and after
pub record Visit (P : Type 0) : Type 0 where
  pub peer : P
  pub peer_then : P
  pub old : Learnt
  pub new : Learnt

-- the desk with this number served the peer, and then the connection was ended
pub record IsVisit {P : Type 0} (left : P → Option (List ℕ)) (taken : P → ℕ) (written : P → Option (List ℕ)) (faults : P → ℕ)
    (ended : P → Bool) (desk : ℕ) (visit : Visit P) : Type 0 where
  pub over : ended visit.peer_then ≡ true
  pub end : End
  pub serves : ServesMirrored left taken written faults desk visit.old.view visit.new.view visit.old.read visit.new.read
      visit.peer visit.peer_then end
  pub still_open : IsServedOpen ended
      (ServesMirrored left taken written faults desk visit.old.view visit.new.view visit.old.read visit.new.read) visit.peer end

-- These visits lead the desk from what it knew at first to what it knows then: each begins with what the one before it left.
abbrev pub Lead : {P : Type 0} → (Visit P → Type 0) → Learnt → Learnt → List (Visit P) → Type 0
Lead is_visit old new [] = new ≡ old
Lead is_visit old new (visit ∷ visits) = (visit.old ≡ old) × is_visit visit × Lead is_visit visit.new new visits

-- these steps are a session of the desk in the visit, before which nothing was said to be covered
abbrev pub IsSession : {P : Type 0} → ℕ → Visit P → List Step → Type 0
IsSession desk visit steps =
    (printed : ℕ) × MirroredSession desk (known visit.old.view visit.old.read 0) (known visit.new.view visit.new.read printed) steps

-- and these one for each of the visits
abbrev pub AreSessions : {P : Type 0} → ℕ → List (Visit P) → List (List Step) → Type 0
AreSessions desk visits sessions = AllZip (IsSession desk) visits sessions

-- the steps of all sessions, in order
abbrev pub all_steps : List (List Step) → List Step
all_steps sessions = flat_map (λ steps. steps) sessions
