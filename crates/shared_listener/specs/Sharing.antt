-- What a listener that desks share gave them and took back.
use Rattle.std.specs.Prelude.{ℕ, ◌≡◌, ◌+◌, ◌<◌, ◌≤◌, ◌⊎◌, Bool, true, false, Option, List, [], ◌∷◌, length, All}
use Rattle.turn_lock.specs.Histories.{made_by}
use Rattle.stock_io.specs.Counts.{Rose, NeverFalls}
use Rattle.stock_io.specs.Heard.{HandsOutAll, HangsUpAll, Heard}
use Rattle.shared_listener.specs.Steps.{comes, hangs, comers, has_ended}
use Rattle.shared_listener.specs.declared.step.Opening.{Opening}
use Rattle.shared_listener.specs.declared.step.Step.{Step}
use Rattle.shared_listener.specs.declared.step.Step.TheVariants.{Opened}

-- behind so many peers, those that make up the first ones, one for each of so many desks, came to the desks in the order of their numbers
abbrev pub AreFirstInOrder : ℕ → ℕ → List ℕ → Type 0
AreFirstInOrder place desks [] = Unit {0}
AreFirstInOrder place desks (k ∷ ks) = (place < desks → k ≡ place + 1) × AreFirstInOrder (place + 1) desks ks

-- What desks did led the listener from what it told before to what it tells now. No more peers came than were wanted, and no desk handed
-- back more than came to it. The listener failed at most once, and then, or once all peers came, desks were told that no further one comes.
pub record Shares {L P : Type 0} (is_fresh : P → Type 0) (desks wanted : ℕ) (failed : Bool) (log : List (ℕ × Step L P)) (old new : Heard P) : Type 0 where
  pub handed_out : HandsOutAll old.waiting new.waiting (comes log)
  pub are_fresh : All is_fresh (comes log)
  pub accepts : new.accepts ≡ old.accepts + length (comes log)
  pub no_more : length (comes log) ≤ wanted
  pub in_order : AreFirstInOrder 0 desks (comers log)
  pub hung_up : HangsUpAll old.hung_up new.hung_up (hangs log)
  pub hang_ups : new.hang_ups ≡ old.hang_ups + length (hangs log)
  pub back_after : (k : ℕ) → length (hangs (made_by k log)) ≤ length (comes (made_by k log))
  pub never_falls : NeverFalls old.faults new.faults
  pub no_fault : failed ≡ false → new.faults ≡ old.faults
  pub cause : failed ≡ true → Rose old.faults new.faults
  pub few : failed ≡ true → length (comes log) < wanted
  pub ended : has_ended log ≡ true → (failed ≡ true) ⊎ (length (comes log) ≡ wanted)

-- the log tells what desks did since they share the listener
pub record IsShared {L P : Type 0} (telling : L → Heard P) (listens_to : L → Option (ℕ × Option ℕ)) (is_fresh : P → Type 0)
    (desks wanted : ℕ) (failed : Bool) (log : List (ℕ × Step L P)) (listener : L) : Type 0 where
  pub opening : Opening L
  pub steps : List (ℕ × Step L P)
  pub since : log ≡ (0, Opened opening) ∷ steps
  pub desks_are : opening.desks ≡ desks
  pub wanted_are : opening.wanted ≡ wanted
  pub no_more_hung_up : (telling opening.listener.value).hang_ups ≤ (telling opening.listener.value).accepts
  pub port_kept : listens_to listener ≡ listens_to opening.listener.value
  pub untouched : steps ≡ [] → listener ≡ opening.listener.value
  pub shares : Shares is_fresh desks wanted failed steps (telling opening.listener.value) (telling listener)
