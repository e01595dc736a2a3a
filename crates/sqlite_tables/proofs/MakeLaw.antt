-- What the texts that make the tables make of a database with nothing in it.
use Rattle.std.proofs.Common.{◌≡◌, ℕ, pos, List, [], ◌∷◌, map, arith, false, None, Ok, refl, sym, ap, ◌∙◌, subst}
use Rattle.std.specs.Fmt.{digits}
use Rattle.sqlite_value.specs.declared.value.Value.TheVariants.{Null, Int}
use Rattle.sqlite_value.specs.Order.{Row}
use Rattle.sqlite_trees.specs.Tree.{Trees}
use Rattle.sqlite_sql.specs.Term.{Term, lit}
use Rattle.sqlite_schema.specs.declared.command.Command.TheVariants.{Insert, CreateTable}
use Rattle.sqlite_schema.specs.declared.command.Source.TheVariants.{Values}
use Rattle.sqlite_schema.specs.declared.schema.Schema.{Schema}
use Rattle.sqlite_schema.specs.declared.schema.Table.{Table}
use Rattle.sqlite_resolve.specs.Compile.{table_defined_by}
use Rattle.sqlite_catalog.specs.Change.{created, next_tree, KeepsRows}
use Rattle.sqlite_tied.specs.Compute.{everything}
use Rattle.sqlite_rules.specs.declared.error.Rowids.TheVariants.{Chosen}
use Rattle.sqlite_rules.specs.Edit.{edit_of, edited}
use Rattle.sqlite.specs.Does.{Tally, Does, lacks_sequence}
use Rattle.sqlite.specs.Effect.{Database}
use Rattle.sqlite.specs.Listing.{understood}
use Rattle.sqlite.specs.Rows.{Task, Written}
use Rattle.sqlite.specs.State.{State, mode_of, Writes, Executes}
use Rattle.sqlite.proofs.Callers.{IsPlain, command_of, statement_of, runs_as, one_step}
use Rattle.stock_keeper.specs.Changed.{current_version}
use Rattle.sqlite_tables.specs.Making.{no_schema, records_alone, no_head, IsBlank, HasRecords, HasWorths, HasHead, IsNew}
use Rattle.sqlite_tables.specs.Rows.{record_cells, head_cells}
use Rattle.sqlite_tables.specs.Standing.{HoldsWorths}
use Rattle.sqlite_tables.specs.Texts as texts
use Rattle.sqlite_tables.specs.Whole.{whole, records_table, worths_table, head_table}
use Rattle.sqlite_tables.proofs.Steps.{went, same_value, cast-Int, cast-Null, concluded, zero≢three, one≢three}

-- the tables as their texts define them, before they have trees
abbrev records_made : Table
records_made = record records_table { tree = 0 }

abbrev worths_made : Table
worths_made = record worths_table { tree = 0 }

abbrev head_made : Table
head_made = record head_table { tree = 0 }

records_is : (command_of (understood no_schema texts.make_records) ≡ CreateTable) × (statement_of texts.make_records (understood no_schema texts.make_records) ≡ texts.make_records)
    × (table_defined_by texts.make_records ≡ Ok records_made)
unfolding understood everything
records_is = (refl, refl, refl)

records_plain : IsPlain (understood no_schema texts.make_records)
unfolding understood everything
records_plain = (refl, refl)

worths_is : (command_of (understood records_alone texts.make_worths) ≡ CreateTable) × (statement_of texts.make_worths (understood records_alone texts.make_worths) ≡ texts.make_worths)
    × (table_defined_by texts.make_worths ≡ Ok worths_made)
unfolding understood everything
worths_is = (refl, refl, refl)

worths_plain : IsPlain (understood records_alone texts.make_worths)
unfolding understood everything
worths_plain = (refl, refl)

head_is : (command_of (understood no_head texts.make_head) ≡ CreateTable) × (statement_of texts.make_head (understood no_head texts.make_head) ≡ texts.make_head)
    × (table_defined_by texts.make_head ≡ Ok head_made)
unfolding understood everything
head_is = (refl, refl, refl)

head_plain : IsPlain (understood no_head texts.make_head)
unfolding understood everything
head_plain = (refl, refl)

records_then : created no_schema records_made ≡ records_alone
records_then = refl

worths_then : created records_alone worths_made ≡ no_head
unfolding digits
worths_then = refl

head_then : created no_head head_made ≡ whole
head_then = refl

abbrev begin_terms : List Term
begin_terms = lit (Int (pos 1)) ∷ lit Null ∷ lit (Int current_version) ∷ lit (Int (pos 0)) ∷ []

begin_is : command_of (understood whole texts.begin_head) ≡ Insert 2 (Values begin_terms 4)
unfolding understood everything
begin_is = refl

begin_plain : IsPlain (understood whole texts.begin_head)
unfolding understood everything
begin_plain = (refl, refl)

-- ---- what each makes of a database

-- a table is made: it has no row, and the rows of the others stay
made : (old new : State) (schema : Schema) (table : Table) (text : List ℕ) (count : ℕ) → old.now.schema ≡ schema
    → (command_of (understood schema text) ≡ CreateTable) × (statement_of text (understood schema text) ≡ text) × (table_defined_by text ≡ Ok table) → IsPlain (understood schema text)
    → lacks_sequence (created schema table) ≡ false → Executes text [] old new (Ok count)
    → (new.now.schema ≡ created schema table) × (new.now.trees (next_tree schema) ≡ []) × KeepsRows schema.tables old.now.trees new.now.trees
made old new schema table text count has is plain lacks h =
    let w = subst (λ t. Writes old new None CreateTable t [] count) is.1 (runs_as text [] old new schema has CreateTable is.0 plain count h) in
    let all = went w.changed in
    let first = went all.1 in
    let it = first.1 in
    let both : Ok it.table ≡ Ok table = sym it.defined ∙ is.2 in
    let same : it.table ≡ table = same_value both in
    let after : first.0.schema ≡ created schema table = it.is ∙ ap (λ s. created s it.table) has ∙ ap (created schema) same in
    let none : lacks_sequence first.0.schema ≡ false = ap lacks_sequence after ∙ lacks in
    let now : new.now ≡ first.0 = ap (λ (p : Tally × Database). p.1) (same_value all.2) ∙ same_value (rw none at first.2) in (
      ap (λ (d : Database). d.schema) now ∙ after,
      ap (λ (d : Database). d.trees (next_tree schema)) now ∙ subst (λ s. first.0.trees (next_tree s) ≡ []) has it.empty,
      subst (λ (d : Database). KeepsRows schema.tables old.now.trees d.trees) (sym now) (subst (λ (s : Schema). KeepsRows s.tables old.now.trees first.0.trees) has it.others),
    )

pub records_led : (old new : State) (count : ℕ) → Executes texts.make_records [] old new (Ok count) → IsBlank old.now → HasRecords new.now
records_led old new count h blank =
    let it = made old new no_schema records_made texts.make_records count blank records_is records_plain refl h in
    (it.0 ∙ records_then, it.1)

pub worths_led : (old new : State) (count : ℕ) → Executes texts.make_worths [] old new (Ok count) → HasRecords old.now → HasWorths new.now
worths_led old new count h has =
    let it = made old new records_alone worths_made texts.make_worths count has.0 worths_is worths_plain refl h in
    (it.0 ∙ worths_then, it.2.0 ∙ has.1, it.1)

pub head_led : (old new : State) (count : ℕ) → Executes texts.make_head [] old new (Ok count) → HasWorths old.now → HasHead new.now
head_led old new count h has =
    let it = made old new no_head head_made texts.make_head count has.0 head_is head_plain refl h in
    (it.0 ∙ head_then, it.2.0 ∙ has.1, it.2.1.0 ∙ has.2, it.1)

-- the first row of the head, as it is stored
abbrev first_head : Row
first_head = Int (pos 1) ∷ Null ∷ Int current_version ∷ Int (pos 0) ∷ []

pub begin_led : (old new : State) (count : ℕ) → Executes texts.begin_head [] old new (Ok count) → HasHead old.now → IsNew new.now
begin_led old new count h has =
    let db = old.now.trees in
    let command = Insert 2 (Values begin_terms 4) in
    let w = runs_as texts.begin_head [] old new whole has.0 command begin_is begin_plain count h in
    let text = statement_of texts.begin_head (understood whole texts.begin_head) in
    let task : Task = record { limit = old.step_limit; keys = (mode_of old).keys; schema = whole; table = head_table; params = [] } in
    let done = concluded task (mode_of old) command db w.tally new.now
    (subst (λ s. Does old.step_limit (mode_of old) [] (record old.now { schema = s }) text None command (Ok (w.tally, new.now))) has.0 w.changed) in
    let given = went done.1 in
    let written = went (went given.2).2 in
    let counted = went written.2 in
    let trees : done.0.trees ≡ written.0 = ap (λ (it : Written). it.trees) (same_value counted.2) ∙ same_value counted.1 in
    let applied = one_step whole _ db written.0 (edit_of db head_table [] Chosen 0 given.0) refl written.1 in
    let edit : edited db (edit_of db head_table [] Chosen 0 given.0) ≡ first_head ∷ [] =
    ap (λ all. edited db (edit_of db head_table [] Chosen 0 all)) given.1.1 ∙ rw (has.3, cast-Int (pos 1), cast-Int current_version, cast-Int (pos 0), cast-Null) refl in
    let now : new.now ≡ record { schema = whole; trees = written.0 } = done.2 ∙ ap (λ (ts : Trees). record { schema = whole; trees = ts }) trees in
    let records : written.0 0 ≡ [] = applied.tables.0 zero≢three ∙ has.1 in
    let worths : written.0 1 ≡ [] = applied.tables.1.0 one≢three ∙ has.2 in
    let none : HoldsWorths [] [] =
    record { rises = tt; rows_are = λ r h. absurd h; worths_are = λ v h. absurd h; apart = λ r q h k same. absurd h; in_order = λ i j d low within. absurd (omega (arith, low, within)) } in
    rw now (record {
      schema = refl;
      records = ap (map record_cells) records;
      rises = rw records tt;
      worths = rw worths none;
      head = ap (map head_cells) (applied.rows ∙ edit);
    })
