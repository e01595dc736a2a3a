-- What the insert of a record makes of the tables.
use Rattle.std.proofs.Common.{◌≡◌, ℕ, pos, List, [], ◌∷◌, ◌++◌, map, None, Ok, refl, sym, ap, ◌∙◌, subst}
use Rattle.std.proofs.lemmas.List.{map-append}
use Rattle.sqlite_value.specs.declared.value.Value.TheVariants.{Null, Int, Blob}
use Rattle.sqlite_value.specs.Order.{Row}
use Rattle.sqlite_trees.specs.Tree.{Trees, put_row}
use Rattle.sqlite_trees.proofs.TreeLemmas.{IsTable-put_row}
use Rattle.sqlite_schema.specs.declared.command.Source.TheVariants.{Values}
use Rattle.sqlite_schema.specs.declared.command.Command.TheVariants.{Insert}
use Rattle.sqlite_rules.specs.declared.error.Rowids.TheVariants.{Chosen}
use Rattle.sqlite_rules.specs.Edit.{edit_of, edited}
use Rattle.sqlite.specs.Does.{Does}
use Rattle.sqlite.specs.Rows.{Task, Written}
use Rattle.sqlite.specs.Listing.{understood}
use Rattle.sqlite.specs.State.{State, mode_of, Executes}
use Rattle.sqlite.proofs.Callers.{statement_of, runs_as, one_step}
use Rattle.stock_nums.specs.declared.numbers.RecordNo.{RecordNo}
use Rattle.stock_keeper.specs.Changed.{stored, appended, Follows}
use Rattle.stock_keeper.specs.declared.tables.Tables.{Tables}
use Rattle.sqlite_tables.specs.Rows.{record_row, record_cells}
use Rattle.sqlite_tables.specs.Standing.{StandsFor}
use Rattle.sqlite_tables.specs.Texts as texts
use Rattle.sqlite_tables.specs.Whole.{whole, records_table}
use Rattle.sqlite_tables.proofs.Ends.{put_row-last, below_next}
use Rattle.sqlite_tables.proofs.Steps.{went, same_value, cast-Int, cast-Null, concluded, one≢zero, three≢zero}
use Rattle.sqlite_tables.proofs.TextLaws.{insert_terms, insert_is, insert_plain}

-- the row of a record as it is stored
abbrev stored_row : RecordNo → List ℕ → Row
stored_row number body = Int (pos number.0) ∷ Null ∷ Blob body ∷ []

-- the insert puts this row into the tree of the records, and no other tree changes
inserts : (old new : State) (number : RecordNo) (body : List ℕ) (count : ℕ) → old.now.schema ≡ whole
    → Executes texts.insert_record (record_row (stored number body)) old new (Ok count)
    → (next : Trees) × (new.now ≡ record { schema = whole; trees = next }) × (next 0 ≡ put_row (stored_row number body) (old.now.trees 0)) × (next 1 ≡ old.now.trees 1) × (next 3 ≡ old.now.trees 3)
inserts old new number body count has h =
    let params = record_row (stored number body) in
    let db = old.now.trees in
    let command = Insert 0 (Values insert_terms 3) in
    let w = runs_as texts.insert_record params old new whole has command insert_is insert_plain count h in
    let text = statement_of texts.insert_record (understood whole texts.insert_record) in
    let task : Task = record { limit = old.step_limit; keys = (mode_of old).keys; schema = whole; table = records_table; params = params } in
    let done = concluded task (mode_of old) command db w.tally new.now
    (subst (λ s. Does old.step_limit (mode_of old) params (record old.now { schema = s }) text None command (Ok (w.tally, new.now))) has w.changed) in
    let given = went done.1 in
    let written = went (went given.2).2 in
    let counted = went written.2 in
    let trees : done.0.trees ≡ written.0 = ap (λ (it : Written). it.trees) (same_value counted.2) ∙ same_value counted.1 in
    let applied = one_step whole _ db written.0 (edit_of db records_table [] Chosen 0 given.0) refl written.1 in
    let edit : edited db (edit_of db records_table [] Chosen 0 given.0) ≡ put_row (stored_row number body) (db 0) =
    ap (λ all. edited db (edit_of db records_table [] Chosen 0 all)) given.1.1 ∙ rw (cast-Int, cast-Null) refl in (
      written.0,
      done.2 ∙ ap (λ (t : Trees). record { schema = whole; trees = t }) trees,
      applied.rows ∙ edit,
      applied.tables.1.0 one≢zero,
      applied.tables.1.1.0 three≢zero,
    )

pub appends : (old new : State) (number : RecordNo) (body : List ℕ) (count : ℕ) → Executes texts.insert_record (record_row (stored number body)) old new (Ok count)
    → (t : Tables) → StandsFor old.now t → Follows t number → StandsFor new.now (appended number body t)
appends old new number body count h t stands follows =
    let made = inserts old new number body count stands.schema h in
    let row = stored_row number body in
    let rows = old.now.trees 0 in
    let below = below_next (pos number.0) (pos 0) rows t.records stands.rises stands.records follows in
    let records : map record_cells (made.0 0) ≡ map record_row (t.records ++ stored number body ∷ []) =
    ap (map record_cells) (made.2 ∙ put_row-last row rows below) ∙ map-append record_cells rows (row ∷ []) ∙ ap (λ l. l ++ record_row (stored number body) ∷ []) stands.records
    ∙ sym (map-append record_row t.records (stored number body ∷ [])) in
    rw made.1 (record {
      schema = refl;
      records = records;
      rises = rw made.2 (IsTable-put_row row rows stands.rises);
      worths = rw made.3 stands.worths;
      head = rw made.4 stands.head;
    })
