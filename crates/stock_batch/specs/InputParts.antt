-- An input that has come in part: its whole lines, and the line under way.
use Rattle.std.specs.Prelude.{ℕ, ◌≡◌, Bool, true, not, ◌==◌, List, [], ◌∷◌, ◌++◌}
use Rattle.std.specs.List.{list_all, flat_map}

abbrev pub is_no_feed : ℕ → Bool
is_no_feed b = not (b == 10)

-- the bytes have no line feed
abbrev pub HasNoFeed : List ℕ → Type 0
HasNoFeed bytes = list_all is_no_feed bytes ≡ true

-- each line has no line feed
abbrev pub HaveNoFeed : List (List ℕ) → Type 0
HaveNoFeed [] = Unit {0}
HaveNoFeed (line ∷ lines) = HasNoFeed line × HaveNoFeed lines

-- a line with its line feed
abbrev pub with_feed : List ℕ → List ℕ
with_feed line = line ++ 10 ∷ []

-- the bytes are these whole lines, each with its line feed, and then a rest without one
pub record Parted (bytes : List ℕ) (whole : List (List ℕ)) (rest : List ℕ) : Type 0 where
  pub is : bytes ≡ flat_map with_feed whole ++ rest
  pub lines : HaveNoFeed whole
  pub open_line : HasNoFeed rest
