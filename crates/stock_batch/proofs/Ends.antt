-- What stands where a run ends.
use Rattle.std.proofs.Common.{◌≡◌, ℕ, ◌+◌, ◌<◌, ◌≤◌, List, [], ◌++◌, length, length-append, arith, Option, None, Some, refl, sym, ap, ◌∙◌, subst, append_assoc, inl, inr}
use Rattle.std.proofs.lemmas.List.{append-nil}
use Rattle.std.proofs.KnownBytes.{Appends-nil, Appends-trans, Consumes-nil, Consumes-trans, Consumes-kept}
use Rattle.std.specs.Io.KnownBytes.{Consumes, Keeps, IsAtEnd}
use Rattle.stock_io.specs.Counts.{Rose, NeverFalls}
use Rattle.stock_io.specs.Streams.{AppendsFront}
use Rattle.stock_model.specs.History.{IsLegal}
use Rattle.stock_model.specs.InputLines.{lines_of, whole_lines_of}
use Rattle.stock_batch.specs.declared.batch.Batch.{Batch}
use Rattle.stock_ends.specs.declared.end.End.{End}
use Rattle.stock_ends.specs.declared.end.End.TheVariants.{Done, NoMemory, ReadFailed, WriteFailed, TooLong, StoreFailed, ListenFailed, BadSheet, Damaged}
use Rattle.repost_worker.specs.Paces.{Pace}
use Rattle.stock_batch.specs.Endings.{HasCause, IsReadToEnd, max_input}
use Rattle.stock_batch.specs.Replies.{Answered, RunsShort}
use Rattle.std.proofs.lemmas.List.Elements.{All-nil}
use Rattle.book_answers.specs.Answers.{ShowsKeptStock}
use Rattle.stock_batch.specs.Batches.{StandsFor, GoesOn, StopsShort}
use Rattle.stock_batch.specs.Ran.{Ran, UnderWay, TakesPiece, Stops, Finishes, IsOutputEnd, IsLastEnd}
use Rattle.stock_batch.proofs.Batches.{Answered-whole}

-- where nothing waits, what was written are the replies to all whole lines
pub Answered-written : {K : Type 0} (first : Pace) (batch : Batch K) (taken written : List ℕ) → StandsFor first batch taken written → batch.waiting.items ≡ []
    → Answered first (whole_lines_of taken) written batch.book
Answered-written first batch taken written stands waits =
    subst (λ (text : List ℕ). Answered first (whole_lines_of taken) text batch.book) (ap (λ (text : List ℕ). written ++ text) waits ∙ append-nil written) (Answered-whole first batch taken written stands)

-- and they still are where nothing more is written
Answered-unwritten : {K : Type 0} (first : Pace) (batch : Batch K) (taken written : List ℕ) → StandsFor first batch taken written
    → batch.waiting.items ≡ [] → Answered first (whole_lines_of taken) (written ++ []) batch.book
Answered-unwritten first batch taken written stands waits =
    subst (λ (text : List ℕ). Answered first (whole_lines_of taken) text batch.book) (sym (append-nil written))
    (Answered-written first batch taken written stands waits)

-- how far a run came where nothing more was written
RunsShort-unwritten : (first : Pace) (lines : List (List ℕ)) (written : List ℕ) (last : Pace) → RunsShort first lines written last
    → RunsShort first lines (written ++ []) last
RunsShort-unwritten first lines written last short = subst (λ (text : List ℕ). RunsShort first lines text last) (sym (append-nil written)) short

-- for want of memory what waits is dropped
pub Stops-memory : {O K : Type 0} (written : O → Option (List ℕ)) (batch : Batch K) (last : Pace) (piece : List ℕ) (output : O)
    → StopsShort batch piece last → Stops written batch last piece output output NoMemory
Stops-memory written batch last piece output short =
    record {
      text = [];
      wrote = Appends-nil (written output);
      says =
          λ left first bytes before stands waits. (
            (bytes, piece, batch.book, refl, Answered-unwritten first batch bytes before stands waits),
            RunsShort-unwritten first (lines_of (bytes ++ piece)) before last (short first bytes before stands),
          );
    }

pub Finishes-memory : {O K : Type 0} (written : O → Option (List ℕ)) (batch : Batch K) (last : Pace) (output : O)
    → ((first : Pace) (taken text : List ℕ) → StandsFor first batch taken text → RunsShort first (lines_of taken) text last)
    → Finishes written batch last output output NoMemory
Finishes-memory written batch last output short =
    record {
      text = [];
      wrote = Appends-nil (written output);
      says =
          λ left first bytes before to_end stands waits. (
            (bytes, [], batch.book, append-nil bytes, Answered-unwritten first batch bytes before stands waits),
            RunsShort-unwritten first (lines_of bytes) before last (short first bytes before stands),
          );
    }

front_text : (before front rest waiting : List ℕ) → front ++ rest ≡ waiting → before ++ waiting ≡ (before ++ front) ++ rest
front_text before front rest waiting is = ap (λ (text : List ℕ). before ++ text) (sym is) ∙ sym (append_assoc before front rest)

-- where the output fails after a piece, a front of the replies to its lines was written
pub Stops-write : {O K : Type 0} (written : O → Option (List ℕ)) (old mid : Batch K) (piece : List ℕ) (before after : O) → GoesOn old piece mid
    → AppendsFront (written before) (written after) mid.waiting.items → Stops written old mid.book piece before after WriteFailed
Stops-write written old mid piece before after goes wrote =
    record {
      text = wrote.0;
      wrote = wrote.3;
      says =
          λ left first bytes text stands waits. (
            wrote.1,
            inl (subst (λ (all : List ℕ). Answered first (whole_lines_of (bytes ++ piece)) all mid.book)
                (front_text text wrote.0 wrote.1 mid.waiting.items wrote.2)
                (Answered-whole first mid (bytes ++ piece) text (goes first bytes text stands))),
          );
    }

-- and where it fails at the end of the source
pub Finishes-write : {O K : Type 0} (written : O → Option (List ℕ)) (old mid : Batch K) (before after : O)
    → ((first : Pace) (taken text : List ℕ) → StandsFor first old taken text → Answered first (lines_of taken) (text ++ mid.waiting.items) mid.book)
    → AppendsFront (written before) (written after) mid.waiting.items → Finishes written old mid.book before after WriteFailed
Finishes-write written old mid before after answered wrote =
    record {
      text = wrote.0;
      wrote = wrote.3;
      says =
          λ left first bytes text to_end stands waits. (
            wrote.1,
            inr (
              to_end,
              subst (λ (all : List ℕ). Answered first (lines_of bytes) all mid.book)
                  (front_text text wrote.0 wrote.1 mid.waiting.items wrote.2) (answered first bytes text stands),
            ),
          );
    }

-- a fault that is counted late in a run
Rose-later : (before now after : ℕ) → now ≡ before → Rose now after → Rose before after
Rose-later before now after kept rose = subst (λ (n : ℕ). Rose n after) kept rose

HasCause-output : (end : End) (read_before read_after before now after taken : ℕ) → taken ≤ max_input → read_after ≡ read_before → now ≡ before → IsOutputEnd now after end
    → HasCause end read_before read_after before after taken
HasCause-output Done read_before read_after before now after taken most reads kept cause = absurd cause
HasCause-output NoMemory read_before read_after before now after taken most reads kept cause = (most, reads, cause ∙ kept)
HasCause-output ReadFailed read_before read_after before now after taken most reads kept cause = absurd cause
HasCause-output WriteFailed read_before read_after before now after taken most reads kept cause = (most, reads, Rose-later before now after kept cause)
HasCause-output TooLong read_before read_after before now after taken most reads kept cause = absurd cause
HasCause-output StoreFailed read_before read_after before now after taken most reads kept cause = absurd cause
HasCause-output ListenFailed read_before read_after before now after taken most reads kept cause = absurd cause
HasCause-output BadSheet read_before read_after before now after taken most reads kept cause = absurd cause
HasCause-output (Damaged damage) read_before read_after before now after taken most reads kept cause = absurd cause

HasCause-last : (end : End) (read_before read_after before now after taken : ℕ) → taken < max_input → read_after ≡ read_before → now ≡ before → IsLastEnd now after end
    → HasCause end read_before read_after before after taken
HasCause-last Done read_before read_after before now after taken few reads kept cause = (few, reads, cause ∙ kept)
HasCause-last NoMemory read_before read_after before now after taken few reads kept cause = (omega arith, reads, cause ∙ kept)
HasCause-last ReadFailed read_before read_after before now after taken few reads kept cause = absurd cause
HasCause-last WriteFailed read_before read_after before now after taken few reads kept cause = (omega arith, reads, Rose-later before now after kept cause)
HasCause-last TooLong read_before read_after before now after taken few reads kept cause = absurd cause
HasCause-last StoreFailed read_before read_after before now after taken few reads kept cause = absurd cause
HasCause-last ListenFailed read_before read_after before now after taken few reads kept cause = absurd cause
HasCause-last BadSheet read_before read_after before now after taken few reads kept cause = absurd cause
HasCause-last (Damaged damage) read_before read_after before now after taken few reads kept cause = absurd cause

-- what was taken up to the end of a source is all that it had
consumed_all : (before now : Option (List ℕ)) (taken : List ℕ) → Consumes before now taken → IsAtEnd now → IsReadToEnd before taken
consumed_all None now taken took at_end = tt
consumed_all (Some xs) None taken took at_end = absurd took
consumed_all (Some xs) (Some ys) taken took at_end = sym (took ∙ ap (λ (rest : List ℕ). taken ++ rest) at_end ∙ append-nil taken)

-- nothing is answered where nothing was taken
pub Answered-nothing : (first : Pace) → IsLegal first.history → Answered first [] [] first
Answered-nothing first legal = record { answers = []; run = refl; paced = refl; legal = legal; keeps = All-nil ShowsKeptStock; text_is = refl }

-- and memory may have been wanting before
RunsShort-nothing : (first : Pace) → IsLegal first.history → RunsShort first [] [] first
RunsShort-nothing first legal =
    record { done = []; rest = []; are = refl; untold = []; mid = first; answered = Answered-nothing first legal; ends = refl }

module _ {S O : Type 0} (left : S → Option (List ℕ)) (taken read_faults : S → ℕ) (written : O → Option (List ℕ)) (write_faults : O → ℕ) where
  -- a run for which memory is wanting before it begins
  pub Ran-no_memory : (input : S) (output : O) (first : Pace) → IsLegal first.history
      → Ran left taken read_faults written write_faults input input output output first first NoMemory
  Ran-no_memory input output first legal =
      record {
        bytes = [];
        text = [];
        took = Consumes-nil (left input);
        counted = omega arith;
        wrote = Appends-nil (written output);
        says = (([], [], first, refl, Answered-nothing first legal), RunsShort-nothing first legal);
        cause = (omega arith, refl, refl);
        reads = omega arith;
        writes = omega arith;
      }

  -- the source fails
  pub Ran-read_failed : {K : Type 0} (input now after : S) (output out_now : O) (first : Pace) (batch : Batch K) (count : ℕ)
      → UnderWay left taken read_faults written write_faults input now output out_now first batch count → count < max_input
      → Keeps (left now) (left after) → taken after ≡ taken now → NeverFalls (read_faults now) (read_faults after) → Rose (read_faults now) (read_faults after)
      → Ran left taken read_faults written write_faults input after output out_now first batch.book ReadFailed
  Ran-read_failed input now after output out_now first batch count so_far few kept same falls rose =
      record {
        bytes = so_far.bytes;
        text = so_far.text;
        took = Consumes-kept (left input) (left now) (left after) so_far.bytes so_far.took kept;
        counted = same ∙ so_far.counted;
        wrote = so_far.wrote;
        says = Answered-written first batch so_far.bytes so_far.text so_far.stands so_far.nothing_waits;
        cause = (omega (arith, so_far.count_is), Rose-later (read_faults input) (read_faults now) (read_faults after) so_far.reads rose, so_far.writes);
        reads = omega (arith, so_far.reads, falls);
        writes = omega (arith, so_far.writes);
      }

  -- all bytes that may be taken were taken
  pub Ran-too_long : {K : Type 0} (input now : S) (output out_now : O) (first : Pace) (batch : Batch K) (count : ℕ)
      → UnderWay left taken read_faults written write_faults input now output out_now first batch count → count ≡ max_input
      → Ran left taken read_faults written write_faults input now output out_now first batch.book TooLong
  Ran-too_long input now output out_now first batch count so_far all =
      record {
        bytes = so_far.bytes;
        text = so_far.text;
        took = so_far.took;
        counted = so_far.counted;
        wrote = so_far.wrote;
        says = Answered-written first batch so_far.bytes so_far.text so_far.stands so_far.nothing_waits;
        cause = (sym so_far.count_is ∙ all, so_far.reads, so_far.writes);
        reads = omega (arith, so_far.reads);
        writes = omega (arith, so_far.writes);
      }

  -- memory or the output ends the run over a piece
  pub Ran-stopped : {K : Type 0} (input now after : S) (output out_now out_after : O) (first : Pace) (batch : Batch K) (last : Pace) (count n : ℕ) (piece : List ℕ) (end : End)
      → UnderWay left taken read_faults written write_faults input now output out_now first batch count → count + n ≤ max_input
      → Consumes (left now) (left after) piece → taken after ≡ taken now + n → n ≡ length piece → read_faults after ≡ read_faults now
      → Stops written batch last piece out_now out_after end → NeverFalls (write_faults out_now) (write_faults out_after)
      → IsOutputEnd (write_faults out_now) (write_faults out_after) end
      → Ran left taken read_faults written write_faults input after output out_after first last end
  Ran-stopped input now after output out_now out_after first batch last count n piece end so_far most consumed counted size kept stops writes cause =
      record {
        bytes = so_far.bytes ++ piece;
        text = so_far.text ++ stops.text;
        took = Consumes-trans (left input) (left now) (left after) so_far.bytes piece so_far.took consumed;
        counted = omega (arith, so_far.counted, counted, size, length-append so_far.bytes piece);
        wrote = Appends-trans (written output) (written out_now) (written out_after) so_far.text stops.text so_far.wrote stops.wrote;
        says = stops.says (left input) first so_far.bytes so_far.text so_far.stands so_far.nothing_waits;
        cause =
            HasCause-output end (read_faults input) (read_faults after) (write_faults output) (write_faults out_now) (write_faults out_after) (length (so_far.bytes ++ piece))
            (omega (arith, most, so_far.count_is, size, length-append so_far.bytes piece)) (kept ∙ so_far.reads) so_far.writes cause;
        reads = omega (arith, so_far.reads, kept);
        writes = omega (arith, so_far.writes, writes);
      }

  -- the source came to its end
  pub Ran-ended : {K : Type 0} (input now after : S) (output out_now out_after : O) (first : Pace) (batch : Batch K) (last : Pace) (count : ℕ) (end : End)
      → UnderWay left taken read_faults written write_faults input now output out_now first batch count → count < max_input
      → Consumes (left now) (left after) [] → taken after ≡ taken now + 0 → IsAtEnd (left now) → read_faults after ≡ read_faults now
      → Finishes written batch last out_now out_after end → NeverFalls (write_faults out_now) (write_faults out_after)
      → IsLastEnd (write_faults out_now) (write_faults out_after) end
      → Ran left taken read_faults written write_faults input after output out_after first last end
  Ran-ended input now after output out_now out_after first batch last count end so_far few consumed counted at_end kept finishes writes cause =
      record {
        bytes = so_far.bytes;
        text = so_far.text ++ finishes.text;
        took =
            subst (Consumes (left input) (left after)) (append-nil so_far.bytes)
            (Consumes-trans (left input) (left now) (left after) so_far.bytes [] so_far.took consumed);
        counted = omega (arith, so_far.counted, counted);
        wrote = Appends-trans (written output) (written out_now) (written out_after) so_far.text finishes.text so_far.wrote finishes.wrote;
        says =
            finishes.says (left input) first so_far.bytes so_far.text (consumed_all (left input) (left now) so_far.bytes so_far.took at_end)
            so_far.stands so_far.nothing_waits;
        cause =
            HasCause-last end (read_faults input) (read_faults after) (write_faults output) (write_faults out_now) (write_faults out_after) (length so_far.bytes)
            (omega (arith, so_far.count_is)) (kept ∙ so_far.reads) so_far.writes cause;
        reads = omega (arith, so_far.reads, kept);
        writes = omega (arith, so_far.writes, writes);
      }

  -- a piece was taken, and the replies to its lines written
  pub UnderWay-piece : {K : Type 0} (input now after : S) (output out_now out_after : O) (first : Pace) (old new : Batch K) (count n : ℕ) (piece : List ℕ)
      → UnderWay left taken read_faults written write_faults input now output out_now first old count
      → Consumes (left now) (left after) piece → taken after ≡ taken now + n → n ≡ length piece → read_faults after ≡ read_faults now
      → TakesPiece written old new piece out_now out_after → write_faults out_after ≡ write_faults out_now
      → UnderWay left taken read_faults written write_faults input after output out_after first new (count + n)
  UnderWay-piece input now after output out_now out_after first old new count n piece so_far consumed counted size reads takes writes =
      record {
        bytes = so_far.bytes ++ piece;
        text = so_far.text ++ takes.text;
        took = Consumes-trans (left input) (left now) (left after) so_far.bytes piece so_far.took consumed;
        counted = omega (arith, so_far.counted, counted, size, length-append so_far.bytes piece);
        count_is = omega (arith, so_far.count_is, size, length-append so_far.bytes piece);
        wrote = Appends-trans (written output) (written out_now) (written out_after) so_far.text takes.text so_far.wrote takes.wrote;
        stands = takes.stands first so_far.bytes so_far.text so_far.stands;
        nothing_waits = takes.nothing_waits;
        reads = reads ∙ so_far.reads;
        writes = writes ∙ so_far.writes;
      }
