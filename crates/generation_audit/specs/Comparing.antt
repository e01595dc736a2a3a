-- What the comparison of stored worths comes to.
use Rattle.std.specs.Prelude.{◌≡◌, List}
use Rattle.stock_model.specs.PostingOrder.{posting_line}
use Rattle.stock_model.specs.Replay.{replay}
use Rattle.stock_model.specs.declared.records.Record.{Record}
use Rattle.stock_keeper.specs.declared.changes.SpotWorth.{SpotWorth}
use Rattle.generation_audit.specs.Findings.{IsWrongAt, IsFoundIn, AreSound}
use Rattle.generation_audit.specs.RightRows.{stored_rows, AreRight}
use Rattle.generation_audit.specs.declared.comparing.Compared.{Compared}
use Rattle.generation_audit.specs.declared.comparing.Compared.TheVariants.{Same, Apart}
use Rattle.generation_audit.specs.declared.comparing.Walked.{Walked}
use Rattle.generation_audit.specs.declared.comparing.Walked.TheVariants.{Right, Wrong}

-- what is stored of all movements is right, and so the stored rows are those of the replay; or this is the first that is not
abbrev pub IsWalked : List Record → List SpotWorth → Walked → Type 0
IsWalked journal worths (Right rows) =
    AreRight journal worths (posting_line journal) × (rows ≡ stored_rows worths (posting_line journal)) × (rows ≡ replay journal)
IsWalked journal worths (Wrong found) = IsWrongAt journal worths found

-- the worths are sound, with these balances, or this is the first place at which they are not
abbrev pub IsCompared : List Record → List SpotWorth → Compared → Type 0
IsCompared journal worths (Same accounts) = AreSound journal worths accounts
IsCompared journal worths (Apart found) = IsFoundIn journal worths found
