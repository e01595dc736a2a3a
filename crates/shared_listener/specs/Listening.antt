-- Peers that come from a listener, one after another, and peers that it takes back.
use Rattle.std.specs.Prelude.{ℕ, ◌≡◌, ◌+◌, ◌<◌, ◌≤◌, List, length, All}
use Rattle.stock_io.specs.Counts.{Rose, NeverFalls}
use Rattle.stock_io.specs.Heard.{Heard, HandsOutAll, HangsUpAll}

-- of so many peers that were wanted these came, and all where there was no fault
pub record Accepts {P : Type 0} (is_fresh : P → Type 0) (wanted : ℕ) (old new : Heard P) (peers : List P) : Type 0 where
  pub came : HandsOutAll old.waiting new.waiting peers
  pub are_fresh : All is_fresh peers
  pub accepts : new.accepts ≡ old.accepts + length peers
  pub hung_up : new.hung_up ≡ old.hung_up
  pub hang_ups : new.hang_ups ≡ old.hang_ups
  pub no_more : length peers ≤ wanted
  pub never_falls : NeverFalls old.faults new.faults
  pub all : length peers ≡ wanted → new.faults ≡ old.faults
  pub cause : length peers < wanted → Rose old.faults new.faults

-- these peers were hung up
pub record HangsUp {P : Type 0} (old new : Heard P) (peers : List P) : Type 0 where
  pub last : HangsUpAll old.hung_up new.hung_up peers
  pub hang_ups : new.hang_ups ≡ old.hang_ups + length peers
  pub waiting : new.waiting ≡ old.waiting
  pub accepts : new.accepts ≡ old.accepts
  pub faults : new.faults ≡ old.faults
