-- What was taken where the taking ends.
use Rattle.std.proofs.Common.{◌≡◌, ℕ, ◌+◌, ◌<◌, List, [], ◌++◌, length, length-append, arith, Option, None, Some, Result, Ok, Err, refl, sym, ap, ◌∙◌, subst}
use Rattle.std.proofs.lemmas.List.{append-nil}
use Rattle.std.proofs.KnownBytes.{Consumes-nil, Consumes-trans, Consumes-kept}
use Rattle.std.specs.Io.KnownBytes.{Consumes, Keeps, IsAtEnd}
use Rattle.stock_io.specs.Counts.{Rose, NeverFalls}
use Rattle.sheet_io.specs.Taking.{AreAll, IsOutcome, IsTakenFrom, IsUnderWay}
use Rattle.sheet_io.specs.declared.taking.TakeFault.{TakeFault}
use Rattle.sheet_io.specs.declared.taking.TakeFault.TheVariants.{Failed}
use Rattle.sheet_io.specs.declared.taking.TheConstants.{MAX_SHEET}

-- what was taken up to the end of a source is all that it had
all-taken : (before now : Option (List ℕ)) (bytes : List ℕ) → Consumes before now bytes → IsAtEnd now → AreAll before bytes
all-taken None now bytes took at_end = tt
all-taken (Some xs) None bytes took at_end = absurd took
all-taken (Some xs) (Some ys) bytes took at_end = sym (took ∙ ap (λ (rest : List ℕ). bytes ++ rest) at_end ∙ append-nil bytes)

module _ {S : Type 0} (left : S → Option (List ℕ)) (taken faults : S → ℕ) where
  -- nothing was taken
  pub nothing-taken : (input : S) → IsUnderWay left taken faults input input []
  nothing-taken input = record { took = Consumes-nil (left input); counted = omega arith; no_fault = refl }

  -- some more was taken
  pub more-taken : (before now after : S) (bytes piece : List ℕ) (n : ℕ) → IsUnderWay left taken faults before now bytes
      → Consumes (left now) (left after) piece → taken after ≡ taken now + n → n ≡ length piece → faults after ≡ faults now
      → IsUnderWay left taken faults before after (bytes ++ piece)
  more-taken before now after bytes piece n so_far consumed counted size kept =
      record {
        took = Consumes-trans (left before) (left now) (left after) bytes piece so_far.took consumed;
        counted = omega (arith, so_far.counted, counted, size, length-append bytes piece);
        no_fault = kept ∙ so_far.no_fault;
      }

  -- the taking ends without a read
  pub taking-stopped : (before now : S) (bytes : List ℕ) (result : Result (List ℕ) TakeFault) → IsUnderWay left taken faults before now bytes
      → IsOutcome (left before) bytes (faults before) (faults now) result → IsTakenFrom left taken faults before now result
  taking-stopped before now bytes result so_far outcome =
      record {
        bytes = bytes;
        took = so_far.took;
        counted = so_far.counted;
        outcome = outcome;
        never_falls = omega (arith, so_far.no_fault);
      }

  -- a read failed
  pub taking-failed : (before now after : S) (bytes : List ℕ) → IsUnderWay left taken faults before now bytes → length bytes < MAX_SHEET
      → Keeps (left now) (left after) → taken after ≡ taken now → NeverFalls (faults now) (faults after) → Rose (faults now) (faults after)
      → IsTakenFrom left taken faults before after (Err Failed)
  taking-failed before now after bytes so_far few kept same falls rose =
      record {
        bytes = bytes;
        took = Consumes-kept (left before) (left now) (left after) bytes so_far.took kept;
        counted = same ∙ so_far.counted;
        outcome = (few, subst (λ (n : ℕ). Rose n (faults after)) so_far.no_fault rose);
        never_falls = omega (arith, so_far.no_fault, falls);
      }

  -- a read took nothing, at the end
  pub taking-ended : (before now after : S) (bytes : List ℕ) → IsUnderWay left taken faults before now bytes → length bytes < MAX_SHEET
      → Consumes (left now) (left after) [] → taken after ≡ taken now + 0 → IsAtEnd (left now) → faults after ≡ faults now
      → IsTakenFrom left taken faults before after (Ok bytes)
  taking-ended before now after bytes so_far few consumed counted at_end kept =
      record {
        bytes = bytes;
        took =
            subst (Consumes (left before) (left after)) (append-nil bytes)
            (Consumes-trans (left before) (left now) (left after) bytes [] so_far.took consumed);
        counted = omega (arith, so_far.counted, counted);
        outcome = (refl, all-taken (left before) (left now) bytes so_far.took at_end, few, kept ∙ so_far.no_fault);
        never_falls = omega (arith, so_far.no_fault, kept);
      }
