-- What differs is not the replay's.
use Rattle.std.proofs.Common.{take}
use Rattle.generation_audit.proofs.WrongWorths.{found-differs}
use Rattle.generation_audit.proofs.audit_laws.what_differs_is_not_the_replay.Goals as goal

pub returns : goal.returns
returns c t spot stored due (items, covered, read, found) order =
    let differs = found-differs (take covered items) t.worths (record { spot = spot; stored = stored; due = due }) found order in
    (items, covered, read, differs.0, differs.1)
