-- What the clauses of listeners say, and what contracts see of a listener in memory.
use Rattle.std.specs.Prelude.{◌≡◌, ℕ, ◌+◌, ◌-◌, Bool, false, Option, Some, None, List, [], ◌∷◌, ◌++◌, IfSome, ⊤}
use Rattle.stock_io.specs.Memory.{Plan, new_plan, after_call, after_failure}
use Rattle.stock_io.specs.Links.{PlannedLink, link_faults}

-- the first of the waiting peers was handed out, where they are told
abbrev pub HandsOut : {P : Type 0} → Option (List P) → Option (List P) → P → Type 0
HandsOut None new peer = ⊤
HandsOut (Some peers) None peer = ⊥
HandsOut (Some peers) (Some rest) peer = peers ≡ peer ∷ rest

-- the peer was put behind those that were hung up, where they are told
abbrev pub HangsUp : {P : Type 0} → Option (List P) → Option (List P) → P → Type 0
HangsUp None new peer = ⊤
HangsUp (Some peers) None peer = ⊥
HangsUp (Some peers) (Some more) peer = more ≡ peers ++ peer ∷ []

-- nothing was taken from a peer, nothing written to it where that is told, its count is 0, and it wasn't ended
pub record IsFresh {P : Type 0} (taken : P → ℕ) (written : P → Option (List ℕ)) (faults : P → ℕ) (ended : P → Bool) (peer : P) : Type 0 where
  pub nothing_taken : taken peer ≡ 0
  pub nothing_written : IfSome (written peer) (λ bytes. bytes ≡ [])
  pub no_fault : faults peer ≡ 0
  pub not_ended : ended peer ≡ false

-- the same of a link in memory
abbrev pub IsNewPeer : PlannedLink → Type 0
IsNewPeer link =
    (link.source.supply.taken ≡ 0) × (link.sink.written ≡ []) × (link_faults link ≡ 0) × (link.ended ≡ false)

-- a listener in memory: the peers that wait, those that were hung up, how many were handed out and were not hung up yet, the port
-- that it listens to once it does, with the seconds that a peer may be silent, and which calls fail
pub record PlannedPeers : Type 0 where
  pub waiting : List PlannedLink
  pub hung_up : List PlannedLink
  pub outstanding : ℕ
  pub asked : Option (ℕ × Option ℕ)
  pub plan : Plan

-- the listener before the first call
abbrev pub new_peers : List PlannedLink → List ℕ → PlannedPeers
new_peers peers failing = record { waiting = peers; hung_up = []; outstanding = 0; asked = None; plan = new_plan failing }

-- the listener after it listens to this port, and after a call that failed
abbrev pub after_listen : ℕ → Option ℕ → PlannedPeers → PlannedPeers
after_listen port idle peers = record peers { asked = Some (port, idle); plan = after_call peers.plan }

abbrev pub after_failed_call : PlannedPeers → PlannedPeers
after_failed_call peers = record peers { plan = after_failure peers.plan }

-- the listener once a peer was handed out, and these wait
abbrev pub after_accept : PlannedPeers → List PlannedLink → PlannedPeers
after_accept peers rest =
    record { waiting = rest; hung_up = peers.hung_up; outstanding = peers.outstanding + 1; asked = peers.asked; plan = after_call peers.plan }

-- the listener once a peer was hung up
abbrev pub after_hang_up : PlannedPeers → PlannedLink → PlannedPeers
after_hang_up peers peer = record peers { hung_up = peers.hung_up ++ peer ∷ []; outstanding = peers.outstanding - 1 }
