-- The lines of an input.
use Rattle.std.specs.Prelude.{ℕ, Bool, not, ◌||◌, ◌==◌, List, [], ◌∷◌, if◌then◌else◌, filter}
use Rattle.std.specs.List.{list_all}

-- the lines with a byte put before the first of them
abbrev pub onto_first : ℕ → List (List ℕ) → List (List ℕ)
onto_first b [] = (b ∷ []) ∷ []
onto_first b (line ∷ lines) = (b ∷ line) ∷ lines

-- the parts between line feeds. A last part that isn't empty is a line
abbrev pub lines_of : List ℕ → List (List ℕ)
lines_of [] = []
lines_of (b ∷ bytes) = if b == 10 then [] ∷ lines_of bytes else onto_first b (lines_of bytes)

-- the whole lines with a byte put before the first of them, if there is one
abbrev pub onto_whole : ℕ → List (List ℕ) → List (List ℕ)
onto_whole b [] = []
onto_whole b (line ∷ lines) = (b ∷ line) ∷ lines

-- the lines that end with a line feed
abbrev pub whole_lines_of : List ℕ → List (List ℕ)
whole_lines_of [] = []
whole_lines_of (b ∷ bytes) = if b == 10 then [] ∷ whole_lines_of bytes else onto_whole b (whole_lines_of bytes)

-- a space, a tab or a carriage return
abbrev pub is_blank_byte : ℕ → Bool
is_blank_byte b = (b == 32) || (b == 9) || (b == 13)

abbrev pub is_blank : List ℕ → Bool
is_blank line = list_all is_blank_byte line

abbrev pub is_asked : List ℕ → Bool
is_asked line = not (is_blank line)

-- the lines that have a reply: those that are not blank, in their order
abbrev pub asked_lines : List ℕ → List (List ℕ)
asked_lines bytes = filter is_asked (lines_of bytes)
