-- What a keeper is handed of a record and of a publication.
use Rattle.std.specs.Prelude.{◌≡◌, ◌⊎◌, ℕ, List}
use Rattle.stock_nums.specs.declared.entry.Row.{Row}
use Rattle.stock_nums.specs.declared.place.Spot.{Spot}
use Rattle.stock_model.specs.declared.records.Record.{Record}
use Rattle.stock_keeper.specs.Keeping.{HoldsOfNone}
use Rattle.stock_keeper.specs.declared.changes.Changes.{Changes}
use Rattle.stock_keeper.specs.declared.tables.Tables.{Tables}
use Rattle.kept_tables.specs.TablesOf.{changes_of}
use Rattle.voucher_json.specs.RecordTexts.{record_text}

-- the stored text of the record, unless no tables are told and a crash leaves none
abbrev pub IsHanded : (Tables → Type 0) → (Tables → Type 0) → Record → List ℕ → Type 0
IsHanded tells may_leave item text = (HoldsOfNone tells × HoldsOfNone may_leave) ⊎ (text ≡ record_text item)

-- the changes that put the worths of these rows in and take those at these spots out, unless no tables are told and a crash leaves
-- none
abbrev pub AreHanded : (Tables → Type 0) → (Tables → Type 0) → List Row → List Spot → Changes → Type 0
AreHanded tells may_leave changed spots changes = (HoldsOfNone tells × HoldsOfNone may_leave) ⊎ (changes ≡ changes_of changed spots)
