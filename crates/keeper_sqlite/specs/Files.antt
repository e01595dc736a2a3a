-- Which files the database may open, by their first sixteen bytes, which are zeros past the end.
use Rattle.std.specs.Prelude.{◌≡◌, ◌≤◌, ◌⊎◌, ℕ, Bool, List, IsTrue, Some, codes, [], ◌∷◌, ◌++◌, slice_get}

-- the first bytes of each database
abbrev pub database_head : List ℕ
database_head = codes "SQLite format 3" ++ 0 ∷ []

-- an interrupted first opening leaves at most a page that begins with a zero, beside the log that it began
abbrev pub IsHalfMade : List ℕ → ℕ → Bool → Type 0
IsHalfMade first len has_log = IsTrue has_log × (len ≤ 4096) × (slice_get first 0 ≡ Some 0)

abbrev pub MayOpen : List ℕ → ℕ → Bool → Type 0
MayOpen first len has_log = (len ≡ 0) ⊎ (first ≡ database_head) ⊎ IsHalfMade first len has_log
