-- Visits of peers to desks that share a listener. Of each visit it is known which peer came, and as what it was handed back.
use Rattle.std.specs.Prelude.{ℕ, ◌≡◌, ◌+◌, ◌<◌, ◌≤◌, Bool, true, List, length, map, All, IsPermutation}
use Rattle.turn_lock.specs.Histories.{made_by}
use Rattle.stock_io.specs.Counts.{Rose, NeverFalls}
use Rattle.stock_io.specs.Heard.{HandsOutAll, HangsUpAll, Heard}
use Rattle.shared_listener.specs.Sharing.{AreFirstInOrder}

-- the visits to the desk with this number, of visits that stand with the numbers of their desks
abbrev pub visits_to : {V : Type 0} → ℕ → List (ℕ × V) → List V
visits_to k all = map (λ visit. visit.1) (made_by k all)

-- Each desk had these visits, in turn. So many peers were wanted and no more came, the first ones to the desks in the order of their
-- numbers, and each was handed back. Where a desk was told that no further peer comes and some are missing, the listener had failed.
pub record IsVisited {P V : Type 0} (peer peer_then : V → P) (is_fresh : P → Type 0) (desks wanted : ℕ) (visits : ℕ → List V)
    (is_told : ℕ → Bool) (old new : Heard P) : Type 0 where
  -- all visits as the peers came, and as they were handed back
  pub came : List (ℕ × V)
  pub left : List (ℕ × V)
  pub to_each : (k : ℕ) → visits_to k came ≡ visits k
  pub all_left : IsPermutation came left
  pub left_each : (k : ℕ) → visits_to k left ≡ visits k
  pub handed_out : HandsOutAll old.waiting new.waiting (map (λ visit. peer visit.1) came)
  pub are_fresh : All is_fresh (map (λ visit. peer visit.1) came)
  pub accepts : new.accepts ≡ old.accepts + length came
  pub no_more : length came ≤ wanted
  pub in_order : AreFirstInOrder 0 desks (map (λ visit. visit.0) came)
  pub hung_up : HangsUpAll old.hung_up new.hung_up (map (λ visit. peer_then visit.1) left)
  pub hang_ups : new.hang_ups ≡ old.hang_ups + length came
  pub never_falls : NeverFalls old.faults new.faults
  pub no_fault : length came ≡ wanted → new.faults ≡ old.faults
  pub cause : (k : ℕ) → is_told k ≡ true → length came < wanted → Rose old.faults new.faults
