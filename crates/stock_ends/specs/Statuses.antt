-- How a run ends: the status and the note that tell it.
use Rattle.std.specs.Prelude.{ℕ, ◌≡◌, ◌-◌, ◌^◌, ◌<◌, ◌⊎◌, Option, List, [], codes}
use Rattle.std.specs.Io.KnownBytes.{Appends}
use Rattle.stock_io.specs.Counts.{Rose}
use Rattle.stock_io.specs.Streams.{AppendsFront}
use Rattle.stock_ends.specs.Damages.{damage_note}
use Rattle.stock_ends.specs.declared.end.End.{End}
use Rattle.stock_ends.specs.declared.end.End.TheVariants.{Done, NoMemory, ReadFailed, WriteFailed, TooLong, StoreFailed, ListenFailed, BadSheet, Damaged}

-- the status that tells this end
abbrev pub status_of : End → ℕ
status_of Done = 0
status_of NoMemory = 3
status_of ReadFailed = 4
status_of WriteFailed = 5
status_of TooLong = 8
status_of StoreFailed = 6
status_of ListenFailed = 9
status_of BadSheet = 10
status_of (Damaged damage) = 7

-- the line that notes this end; a run that is done needs none
abbrev pub note_text : End → List ℕ
note_text Done = []
note_text NoMemory = codes "stockd: memory\n"
note_text ReadFailed = codes "stockd: read failed\n"
note_text WriteFailed = codes "stockd: write failed\n"
note_text TooLong = codes "stockd: input too long\n"
note_text StoreFailed = codes "stockd: store failed\n"
note_text ListenFailed = codes "stockd: listen failed\n"
note_text BadSheet = codes "stockd: sheet\n"
note_text (Damaged damage) = damage_note damage

-- the end that is told: the same, or want of memory where a damage could not be noted for want of it
abbrev pub IsToldAs : End → End → Type 0
IsToldAs (Damaged damage) told = (told ≡ Damaged damage) ⊎ (told ≡ NoMemory)
IsToldAs end told = told ≡ end

-- the text is the line of this end, but for a damage
abbrev pub IsNote : End → List ℕ → Type 0
IsNote (Damaged damage) text = Unit {0}
IsNote end text = text ≡ note_text end

-- the line that notes other words
abbrev pub usage_text : List ℕ
usage_text = codes "stockd: words: batch [--file P] | serve --file P --port N --desks D | load N | import --file P | audit --file P\n"

-- the text was written and no fault counted, or a front of it was and the count of faults rose
abbrev pub WritesOrFails : {N : Type 0} → (N → Option (List ℕ)) → (N → ℕ) → N → N → List ℕ → Type 0
WritesOrFails written faults before after text =
    (Appends (written before) (written after) text × (faults after ≡ faults before))
    ⊎ (AppendsFront (written before) (written after) text × Rose (faults before) (faults after))

-- no fault was counted, and the count is not at its end, where it would stay
abbrev pub CountsNoFault : ℕ → ℕ → Type 0
CountsNoFault before after = (after ≡ before) × (after < 2 ^ 64 - 1)

-- the status and the notes tell this end by one end, which is the same, or want of memory where a damage could not be noted for want
-- of it
pub record TellsEnd {N : Type 0} (written : N → Option (List ℕ)) (faults : N → ℕ) (before after : N) (status : ℕ) (end : End) : Type 0 where
  pub told : End
  pub told_as : IsToldAs end told
  pub status_is : status ≡ status_of told
  pub noted : WritesOrFails written faults before after (note_text told)
