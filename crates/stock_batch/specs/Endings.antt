-- What a run over lines wrote by its end, and the cause of that end.
use Rattle.std.specs.Prelude.{ℕ, ◌≡◌, ◌^◌, ◌<◌, ◌≤◌, ◌⊎◌, Option, List, ◌++◌, IfSome}
use Rattle.stock_io.specs.Counts.{Rose}
use Rattle.stock_model.specs.InputLines.{lines_of, whole_lines_of}
use Rattle.repost_worker.specs.Paces.{Pace}
use Rattle.stock_ends.specs.declared.end.End.{End}
use Rattle.stock_ends.specs.declared.end.End.TheVariants.{Done, NoMemory, ReadFailed, WriteFailed, TooLong, StoreFailed, ListenFailed, BadSheet, Damaged}
use Rattle.stock_batch.specs.Replies.{Answered, RunsShort}

-- how many bytes a run takes at most
abbrev pub max_input : ℕ
max_input = 2 ^ 32

-- the bytes that were taken are all that the source had, where it told them
abbrev pub IsReadToEnd : Option (List ℕ) → List ℕ → Type 0
IsReadToEnd left taken = IfSome left (λ all. taken ≡ all)

-- what is written in the end, of the bytes that were taken from what the source had left, from the first state of the book to the
-- last
abbrev pub Says : End → Pace → Pace → Option (List ℕ) → List ℕ → List ℕ → Type 0
-- the replies to all lines, a last one without a line feed included
Says Done first last left taken text = IsReadToEnd left taken × Answered first (lines_of taken) text last
-- the replies to the whole lines of a front of them; the book may have answered more lines than were told, and begun one more
Says NoMemory first last left taken text =
    ((front rest : List ℕ) × (mid : Pace) × (front ++ rest ≡ taken) × Answered first (whole_lines_of front) text mid)
    × RunsShort first (lines_of taken) text last
-- the replies to all whole lines
Says ReadFailed first last left taken text = Answered first (whole_lines_of taken) text last
Says TooLong first last left taken text = Answered first (whole_lines_of taken) text last
-- a front of the replies to all whole lines, or at the end of the source to all lines
Says WriteFailed first last left taken text =
    (rest : List ℕ) × (Answered first (whole_lines_of taken) (text ++ rest) last
    ⊎ (IsReadToEnd left taken × Answered first (lines_of taken) (text ++ rest) last))
-- these come before the first read, or to no run over lines
Says StoreFailed first last left taken text = ⊥
Says ListenFailed first last left taken text = ⊥
Says BadSheet first last left taken text = ⊥
Says (Damaged damage) first last left taken text = ⊥

-- Each end comes only with its cause, and the first fault ends a run: no other end has a count that rose.
abbrev pub HasCause : End → ℕ → ℕ → ℕ → ℕ → ℕ → Type 0
HasCause Done read_before read_after write_before write_after taken =
    (taken < max_input) × (read_after ≡ read_before) × (write_after ≡ write_before)
HasCause NoMemory read_before read_after write_before write_after taken =
    (taken ≤ max_input) × (read_after ≡ read_before) × (write_after ≡ write_before)
HasCause ReadFailed read_before read_after write_before write_after taken =
    (taken < max_input) × Rose read_before read_after × (write_after ≡ write_before)
HasCause WriteFailed read_before read_after write_before write_after taken =
    (taken ≤ max_input) × (read_after ≡ read_before) × Rose write_before write_after
HasCause TooLong read_before read_after write_before write_after taken =
    (taken ≡ max_input) × (read_after ≡ read_before) × (write_after ≡ write_before)
HasCause StoreFailed read_before read_after write_before write_after taken = ⊥
HasCause ListenFailed read_before read_after write_before write_after taken = ⊥
HasCause BadSheet read_before read_after write_before write_after taken = ⊥
HasCause (Damaged damage) read_before read_after write_before write_after taken = ⊥
