-- What a listener tells of its peers, before and after several calls.
use Rattle.std.specs.Prelude.{ℕ, ◌≡◌, Option, Some, None, List, ◌++◌, ⊤}

-- these peers were handed out, the first that waits first, where they are told
abbrev pub HandsOutAll : {P : Type 0} → Option (List P) → Option (List P) → List P → Type 0
HandsOutAll None new peers = ⊤
HandsOutAll (Some waiting) None peers = ⊥
HandsOutAll (Some waiting) (Some rest) peers = waiting ≡ peers ++ rest

-- these peers were put behind those that were hung up, where they are told
abbrev pub HangsUpAll : {P : Type 0} → Option (List P) → Option (List P) → List P → Type 0
HangsUpAll None new peers = ⊤
HangsUpAll (Some hung_up) None peers = ⊥
HangsUpAll (Some hung_up) (Some more) peers = more ≡ hung_up ++ peers

-- what a listener tells of its peers, and its counts
pub record Heard (P : Type 0) : Type 0 where
  pub waiting : Option (List P)
  pub hung_up : Option (List P)
  pub accepts : ℕ
  pub hang_ups : ℕ
  pub faults : ℕ

abbrev pub heard : {L P : Type 0} → (L → Option (List P)) → (L → Option (List P)) → (L → ℕ) → (L → ℕ) → (L → ℕ) → L → Heard P
heard waiting hung_up accepts hang_ups faults listener = record {
  waiting = waiting listener;
  hung_up = hung_up listener;
  accepts = accepts listener;
  hang_ups = hang_ups listener;
  faults = faults listener;
}
