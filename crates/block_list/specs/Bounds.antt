-- Where a bound falls in a list.
use Rattle.std.specs.Prelude.{◌≡◌, ℕ, zero, suc, ◌-◌, ◌<◌, ◌≤◌, Bool, true, false, Option, None, List, [], ◌∷◌, length, slice_get, slice_index_or}

-- the item before the index passes the test, if there is one, and the item at the index does not
pub record HasSides {T : Type 0} (test : T → Bool) (xs : List T) (at : ℕ) : Type 0 where
  pub within : at ≤ length xs
  pub before : (d : T) → 0 < at → test (slice_index_or xs (at - 1) d) ≡ true
  pub after : (d : T) → at < length xs → test (slice_index_or xs at d) ≡ false

-- the first item passes the test
abbrev pub first_passes : {T : Type 0} → (T → Bool) → List T → Bool
first_passes test [] = false
first_passes test (x ∷ xs) = test x

-- the item before the index, if there is one
abbrev pub get_before : {T : Type 0} → List T → ℕ → Option T
get_before xs zero = None
get_before xs (suc i) = slice_get xs i
