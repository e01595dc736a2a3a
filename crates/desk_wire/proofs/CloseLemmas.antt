-- A value that lists close, one element after another.
use Rattle.std.proofs.Common.{◌≡◌, ℕ, Bool, true, false, List, ◌∷◌, ◌++◌, refl, ap, ◌∙◌, ◌||◌}
use Rattle.std.specs.List.{All, list_any, slice_split}
use Rattle.std.proofs.lemmas.Bool.{or_left}
use Rattle.std.proofs.lemmas.List.Splits.{slice_split_at, slice_split_none}
use Rattle.desk_wire.specs.Heads.{is_comma, is_close, lists_close}

or-false : (b : Bool) → (b || false) ≡ b
or-false true = refl
or-false false = refl

lists_close_at : (value element tail : List ℕ) → value ≡ element ++ 44 ∷ tail → All (λ b. is_comma b ≡ false) element
    → lists_close value ≡ list_any is_close (element ∷ slice_split is_comma tail)
lists_close_at value element tail whole none =
    ap lists_close whole ∙ ap (list_any is_close) (slice_split_at is_comma element 44 tail none refl)

-- the first element is close
pub closes_first : (value element tail : List ℕ) → value ≡ element ++ 44 ∷ tail → All (λ b. is_comma b ≡ false) element
    → is_close element ≡ true → lists_close value ≡ true
closes_first value element tail whole none first =
    lists_close_at value element tail whole none ∙ or_left (is_close element) (lists_close tail) first

-- the first element is another word
pub closes_later : (value element tail : List ℕ) → value ≡ element ++ 44 ∷ tail → All (λ b. is_comma b ≡ false) element
    → is_close element ≡ false → lists_close value ≡ lists_close tail
closes_later value element tail whole none first =
    lists_close_at value element tail whole none ∙ rw first

-- there is one element
pub closes_last : (value : List ℕ) → All (λ b. is_comma b ≡ false) value → lists_close value ≡ is_close value
closes_last value none = ap (list_any is_close) (slice_split_none is_comma value none) ∙ or-false (is_close value)
