-- What contracts see of a shared listener, and what a desk is told that wants a peer.
use Rattle.std.specs.Prelude.{ℕ, ◌≡◌, ◌≢◌, ◌+◌, ◌<◌, ◌⊎◌, Bool, true, false, List, length, ⊤}
use Rattle.shared_listener.specs.Steps.{comes}
use Rattle.shared_listener.specs.declared.step.Step.{Step}
use Rattle.shared_listener.specs.declared.listener.Next.{Next}
use Rattle.shared_listener.specs.declared.listener.Next.TheVariants.{Peer, NotYet, Over}

-- how many desks there are, how many peers they want, whether one could not be had, and what desks did
pub record SharedView (L P : Type 0) : Type 0 where
  pub desks : ℕ
  pub wanted : ℕ
  pub failed : Bool
  pub log : List (ℕ × Step L P)

-- no further peer comes
abbrev pub IsOver : {L P : Type 0} → SharedView L P → Type 0
IsOver shared = (shared.failed ≡ true) ⊎ (length (comes shared.log) ≡ shared.wanted)

-- a further peer may come, and it is for the first time of a desk with another number
pub record IsTooEarly {L P : Type 0} (number : ℕ) (shared : SharedView L P) : Type 0 where
  pub not_failed : shared.failed ≡ false
  pub some_wanted : length (comes shared.log) < shared.wanted
  pub some_not_begun : length (comes shared.log) < shared.desks
  pub other_number : number ≢ length (comes shared.log) + 1

module _ {P : Type 0} where
  abbrev pub IfPeer : Next P → (P → Type 0) → Type 0
  IfPeer (Peer peer) fact = fact peer
  IfPeer NotYet fact = ⊤
  IfPeer Over fact = ⊤

  abbrev pub OnOver : Next P → Type 0 → Type 0
  OnOver (Peer peer) fact = ⊤
  OnOver NotYet fact = ⊤
  OnOver Over fact = fact
