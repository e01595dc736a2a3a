-- What a run leaves of its input and its output.
use Rattle.std.specs.Prelude.{ℕ, ◌≡◌, ◌+◌, Option, List, [], ◌++◌, length}
use Rattle.std.specs.Io.KnownBytes.{Appends, Consumes}
use Rattle.stock_io.specs.Counts.{Rose, NeverFalls}
use Rattle.stock_ends.specs.declared.end.End.{End}
use Rattle.stock_ends.specs.declared.end.End.TheVariants.{Done, NoMemory, ReadFailed, WriteFailed, TooLong, StoreFailed, ListenFailed, BadSheet, Damaged}
use Rattle.repost_worker.specs.Paces.{Pace}
use Rattle.stock_batch.specs.declared.batch.Batch.{Batch}
use Rattle.stock_batch.specs.Batches.{StandsFor}
use Rattle.stock_batch.specs.Endings.{Says, HasCause, IsReadToEnd}

-- The run took these bytes from the source and wrote this text to the output; what it wrote, and what it made of the book, is said by its end,
-- and its end has its cause. left, taken, and read_faults are what the source tells, written and write_faults
-- what the output does.
pub record Ran {S O : Type 0} (left : S → Option (List ℕ)) (taken read_faults : S → ℕ) (written : O → Option (List ℕ)) (write_faults : O → ℕ)
    (input_before input_after : S) (output_before output_after : O) (first last : Pace) (end : End) : Type 0 where
  pub bytes : List ℕ
  pub text : List ℕ
  pub took : Consumes (left input_before) (left input_after) bytes
  pub counted : taken input_after ≡ taken input_before + length bytes
  pub wrote : Appends (written output_before) (written output_after) text
  pub says : Says end first last (left input_before) bytes text
  pub cause : HasCause end (read_faults input_before) (read_faults input_after) (write_faults output_before) (write_faults output_after) (length bytes)
  pub reads : NeverFalls (read_faults input_before) (read_faults input_after)
  pub writes : NeverFalls (write_faults output_before) (write_faults output_after)

-- So far the run took these bytes and wrote this text, for which the batch stands, and nothing waits to be written.
-- There was no fault yet.
pub record UnderWay {S O K : Type 0} (left : S → Option (List ℕ)) (taken read_faults : S → ℕ) (written : O → Option (List ℕ)) (write_faults : O → ℕ)
    (input_before input_now : S) (output_before output_now : O) (first : Pace) (batch : Batch K) (count : ℕ) : Type 0 where
  pub bytes : List ℕ
  pub text : List ℕ
  pub took : Consumes (left input_before) (left input_now) bytes
  pub counted : taken input_now ≡ taken input_before + length bytes
  pub count_is : count ≡ length bytes
  pub wrote : Appends (written output_before) (written output_now) text
  pub stands : StandsFor first batch bytes text
  pub nothing_waits : batch.waiting.items ≡ []
  pub reads : read_faults input_now ≡ read_faults input_before
  pub writes : write_faults output_now ≡ write_faults output_before

-- after a piece was taken and the replies to its lines written
pub record TakesPiece {O K : Type 0} (written : O → Option (List ℕ)) (old new : Batch K) (piece : List ℕ) (output_before output_after : O) : Type 0 where
  pub text : List ℕ
  pub wrote : Appends (written output_before) (written output_after) text
  pub stands : (first : Pace) (bytes before : List ℕ) → StandsFor first old bytes before → StandsFor first new (bytes ++ piece) (before ++ text)
  pub nothing_waits : new.waiting.items ≡ []

-- where a run ends while it takes a piece
pub record Stops {O K : Type 0} (written : O → Option (List ℕ)) (old : Batch K) (last : Pace) (piece : List ℕ) (output_before output_after : O) (end : End) : Type 0 where
  pub text : List ℕ
  pub wrote : Appends (written output_before) (written output_after) text
  pub says : (left : Option (List ℕ)) (first : Pace) (bytes before : List ℕ) → StandsFor first old bytes before → old.waiting.items ≡ []
      → Says end first last left (bytes ++ piece) (before ++ text)

-- where it ends at the end of the source
pub record Finishes {O K : Type 0} (written : O → Option (List ℕ)) (old : Batch K) (last : Pace) (output_before output_after : O) (end : End) : Type 0 where
  pub text : List ℕ
  pub wrote : Appends (written output_before) (written output_after) text
  pub says : (left : Option (List ℕ)) (first : Pace) (bytes before : List ℕ) → IsReadToEnd left bytes → StandsFor first old bytes before
      → old.waiting.items ≡ [] → Says end first last left bytes (before ++ text)

-- an end that memory or the output may cause, and what the output's count of faults does
abbrev pub IsOutputEnd : ℕ → ℕ → End → Type 0
IsOutputEnd before after Done = ⊥
IsOutputEnd before after NoMemory = after ≡ before
IsOutputEnd before after ReadFailed = ⊥
IsOutputEnd before after WriteFailed = Rose before after
IsOutputEnd before after TooLong = ⊥
IsOutputEnd before after StoreFailed = ⊥
IsOutputEnd before after ListenFailed = ⊥
IsOutputEnd before after BadSheet = ⊥
IsOutputEnd before after (Damaged damage) = ⊥

-- an end at the end of the source
abbrev pub IsLastEnd : ℕ → ℕ → End → Type 0
IsLastEnd before after Done = after ≡ before
IsLastEnd before after NoMemory = after ≡ before
IsLastEnd before after ReadFailed = ⊥
IsLastEnd before after WriteFailed = Rose before after
IsLastEnd before after TooLong = ⊥
IsLastEnd before after StoreFailed = ⊥
IsLastEnd before after ListenFailed = ⊥
IsLastEnd before after BadSheet = ⊥
IsLastEnd before after (Damaged damage) = ⊥
