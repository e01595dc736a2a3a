-- The one history of a book: which records were accepted, and which generations were published.
use Rattle.std.specs.Prelude.{ℕ, ◌≡◌, ◌<◌, ◌≤◌, List, [], ◌∷◌, ◌++◌, length, take, nat_lt, if◌then◌else◌, None}
use Rattle.stock_model.specs.declared.records.Record.{Record}
use Rattle.stock_model.specs.declared.deeds.Deed.{Deed}
use Rattle.stock_model.specs.declared.deeds.Deed.TheVariants.{Kept, Published}
use Rattle.stock_model.specs.Faults.{fault}

-- the accepted records, in their order
abbrev pub records : List Deed → List Record
records [] = []
records (Kept item ∷ history) = item ∷ records history
records (Published n ∷ history) = records history

-- how many records were accepted
abbrev pub accepted : List Deed → ℕ
accepted history = length (records history)

-- how many records the reports cover in the end, where they covered this many before
abbrev pub covered_after : ℕ → List Deed → ℕ
covered_after covered [] = covered
covered_after covered (Kept item ∷ history) = covered_after covered history
covered_after covered (Published n ∷ history) = covered_after n.0 history

-- how many records the reports cover: those of the last publication
abbrev pub covered : List Deed → ℕ
covered history = covered_after 0 history

-- the records that the reports cover
abbrev pub covered_records : List Deed → List Record
covered_records history = take (covered history) (records history)

-- each record was accepted without a fault at its place, and each publication covers more than the one
-- before and no more than was accepted
abbrev pub IsLegalAfter : List Record → ℕ → List Deed → Type 0
IsLegalAfter journal covered [] = Unit {0}
IsLegalAfter journal covered (Kept item ∷ history) = (fault journal item ≡ None) × IsLegalAfter (journal ++ item ∷ []) covered history
IsLegalAfter journal covered (Published n ∷ history) = (covered < n.0) × (n.0 ≤ length journal) × IsLegalAfter journal n.0 history

abbrev pub IsLegal : List Deed → Type 0
IsLegal history = IsLegalAfter [] 0 history

-- the history after all accepted records were published, where some were not
abbrev pub settled : List Deed → List Deed
settled history = if nat_lt (covered history) (accepted history) then history ++ Published (record { 0 = accepted history }) ∷ [] else history
