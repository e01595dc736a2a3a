-- It is not ready, so nothing has to be told.
use Rattle.std.proofs.lemmas.Bool.{false≢true}
use Rattle.sqlite_tables.proofs.stored_tables.StoredTables.over.Goals as goal

pub invariant_of-result : goal.invariant_of-result
invariant_of-result g c = record { settled = record { settled = c.requires; telling = λ ready. absurd (false≢true ready) }; copied = tt }
