-- The fields of a row by their columns.
use Rattle.std.proofs.Common.{◌≡◌, ℕ, zero, suc, List, [], ◌∷◌, get_or, length, Some, None, refl, arith}
use Rattle.csv.specs.Records.{field_at}
use Rattle.voucher_import.specs.Rows.{Row}

-- the field that the record gives in a column
pub field_found : (xs : Row) (i : ℕ) (x : List ℕ) → field_at xs i ≡ Some x → get_or xs i [] ≡ x
unfolding field_at
field_found [] i x e = cc e
field_found (f ∷ fs) zero x e = cc e
field_found (f ∷ fs) (suc i) x e = field_found fs i x e

-- a column past the last of the record
pub field_missing : (xs : Row) (i : ℕ) → field_at xs i ≡ None → get_or xs i [] ≡ []
unfolding field_at
field_missing [] i e = refl
field_missing (f ∷ fs) zero e = cc e
field_missing (f ∷ fs) (suc i) e = field_missing fs i e

-- a row of eight fields is these
pub eight_fields : (xs : Row) → length xs ≡ 8
    → xs ≡ get_or xs 0 [] ∷ get_or xs 1 [] ∷ get_or xs 2 [] ∷ get_or xs 3 [] ∷ get_or xs 4 [] ∷ get_or xs 5 [] ∷ get_or xs 6 [] ∷ get_or xs 7 [] ∷ []
eight_fields [] e = absurd (omega arith)
eight_fields (a ∷ []) e = absurd (omega arith)
eight_fields (a ∷ b ∷ []) e = absurd (omega arith)
eight_fields (a ∷ b ∷ c ∷ []) e = absurd (omega arith)
eight_fields (a ∷ b ∷ c ∷ d ∷ []) e = absurd (omega arith)
eight_fields (a ∷ b ∷ c ∷ d ∷ f ∷ []) e = absurd (omega arith)
eight_fields (a ∷ b ∷ c ∷ d ∷ f ∷ g ∷ []) e = absurd (omega arith)
eight_fields (a ∷ b ∷ c ∷ d ∷ f ∷ g ∷ h ∷ []) e = absurd (omega arith)
eight_fields (a ∷ b ∷ c ∷ d ∷ f ∷ g ∷ h ∷ i ∷ []) e = refl
eight_fields (a ∷ b ∷ c ∷ d ∷ f ∷ g ∷ h ∷ i ∷ j ∷ rest) e = absurd (omega arith)
