-- Each movement of a sound journal is known by its record.
use Rattle.std.proofs.Common.{List, [], ◌∷◌, ◌++◌, subst, append_assoc}
use Rattle.stock_model.specs.declared.records.Record.{Record}
use Rattle.stock_model.specs.Entries.{entries, entries_after, all_entries}
use Rattle.stock_model.specs.Journals.{AreSoundAfter, AreSound}
use Rattle.stock_laws.proofs.EntryRecords.{IsOfRecord, movements-known}
use Rattle.stock_laws.proofs.LiveEntries.{Each-live}
use Rattle.stock_model.proofs.NoFaults.{NoFaults-from}
use Rattle.stock_model.proofs.Pairwise.{Each, Each-append}
use Rattle.stock_laws.proofs.RecordsAt.{what_at-here}

-- the movements of further records, each without a fault of its own in the journal before it
pub entries_after-known : (done rest : List Record) → AreSoundAfter done rest → Each (IsOfRecord (done ++ rest)) (entries_after done rest)
entries_after-known done [] sound = tt
entries_after-known done (item ∷ rest) sound =
    let next = done ++ item ∷ [] in
    let known = IsOfRecord (done ++ item ∷ rest) in
    Each-append known (entries done item) (entries_after next rest)
    (movements-known done (item ∷ rest) item.what (NoFaults-from done item.what sound.0) (what_at-here done item rest))
    (subst (λ (all : List Record). Each (IsOfRecord all) (entries_after next rest)) (append_assoc done (item ∷ []) rest) (entries_after-known next rest sound.1))

pub entries-known : (journal : List Record) → AreSound journal → Each (IsOfRecord journal) (all_entries journal)
entries-known journal sound = Each-live (IsOfRecord journal) journal (entries_after-known [] journal sound)
