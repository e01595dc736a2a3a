-- Journals each of whose records had no fault when it was posted.
use Rattle.std.specs.Prelude.{◌≡◌, List, [], ◌∷◌, ◌++◌, None}
use Rattle.stock_model.specs.declared.records.Record.{Record}
use Rattle.stock_model.specs.Faults.{voucher_fault, fault}

-- each of the further records has no fault, read in the journal before it
abbrev pub AreLegalAfter : List Record → List Record → Type 0
AreLegalAfter journal [] = Unit {0}
AreLegalAfter journal (item ∷ rest) = (fault journal item ≡ None) × AreLegalAfter (journal ++ item ∷ []) rest

abbrev pub AreLegal : List Record → Type 0
AreLegal journal = AreLegalAfter [] journal

-- the same of the faults of what records say alone, whatever room and stock there is
abbrev pub AreSoundAfter : List Record → List Record → Type 0
AreSoundAfter journal [] = Unit {0}
AreSoundAfter journal (item ∷ rest) = (voucher_fault journal item.what ≡ None) × AreSoundAfter (journal ++ item ∷ []) rest

abbrev pub AreSound : List Record → Type 0
AreSound journal = AreSoundAfter [] journal
