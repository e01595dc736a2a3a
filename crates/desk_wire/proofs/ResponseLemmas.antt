-- The phrases of http are those of the table.
use Rattle.std.proofs.Common.{◌≡◌, ℕ, ◌⊎◌, inl, inr, true, List, [], ◌∷◌, refl, subst, Some}
use Rattle.std.specs.Prelude.{◌==◌}
use Rattle.std.specs.List.{list_any}
use Rattle.std.proofs.lemmas.Bool.{false≢true, or_cases, eqb-true}
use Rattle.http.specs.StatusCode.{reason_phrase}
use Rattle.desk_wire.specs.Responses.{statuses, IsDeskStatus, phrase}

abbrev Each : (ℕ → Type 0) → List ℕ → Type 0
Each P [] = Unit {0}
Each P (x ∷ xs) = P x × Each P xs

at_known : (P : ℕ → Type 0) (status : ℕ) (known : List ℕ) → Each P known → list_any (λ x. x == status) known ≡ true → P status
at_known P status [] each found = absurd (false≢true found)
at_known P status (x ∷ known) each found =
    by_first (or_cases (x == status) (list_any (λ y. y == status) known) found) (at_known P status known each.1)
  where
    by_first : ((x == status) ≡ true) ⊎ (list_any (λ y. y == status) known ≡ true)
        → (list_any (λ y. y == status) known ≡ true → P status) → P status
    by_first (inl same) later = subst P (eqb-true x status same) each.0
    by_first (inr known) later = later known

abbrev HasPhrase : ℕ → Type 0
HasPhrase status = reason_phrase status ≡ Some (phrase status)

pub phrase_is : (status : ℕ) → IsDeskStatus status → reason_phrase status ≡ Some (phrase status)
phrase_is status known =
    at_known HasPhrase status statuses (refl, (refl, (refl, (refl, (refl, (refl, (refl, (refl, (refl, (refl, (refl, tt))))))))))) known
