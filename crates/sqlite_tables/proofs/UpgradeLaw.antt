-- What the update of the version makes of the tables.
use Rattle.std.proofs.Common.{◌≡◌, ℕ, ℤ, pos, Bool, true, false, ◌&&◌, cond, List, [], ◌∷◌, map, filter, None, Ok, refl, ap, ◌∙◌, subst, arith}
use Rattle.std.specs.List.Sorted.{IsPermutation}
use Rattle.std.specs.Ordering.{int_eq}
use Rattle.std.proofs.lemmas.Cmp.{tied_itself}
use Rattle.std.proofs.lemmas.List.Sorted.{length_permutation}
use Rattle.sqlite_value.specs.declared.value.Value.TheVariants.{Null, Int}
use Rattle.sqlite_value.specs.Order.{Row, column}
use Rattle.sqlite_value.proofs.OrderLemmas.{value_cmp_total}
use Rattle.sqlite_trees.specs.Tree.{Trees}
use Rattle.sqlite_sql.specs.Query.{Output, output}
use Rattle.sqlite_schema.specs.declared.command.Command.TheVariants.{Update}
use Rattle.sqlite_rules.specs.declared.error.Rowids.TheVariants.{Given}
use Rattle.sqlite_rules.specs.Calls.{ids_of}
use Rattle.sqlite_rules.specs.Edit.{edit_of, edited}
use Rattle.sqlite.specs.Does.{Does}
use Rattle.sqlite.specs.Effect.{Answers}
use Rattle.sqlite.specs.Rows.{Task, Written}
use Rattle.sqlite.specs.Listing.{understood}
use Rattle.sqlite.specs.State.{State, mode_of, Executes}
use Rattle.sqlite.proofs.Callers.{statement_of, runs_as, one_step, one_permutation}
use Rattle.stock_keeper.specs.Changed.{current_version, upgraded}
use Rattle.stock_keeper.specs.declared.tables.Tables.{Tables}
use Rattle.sqlite_tables.specs.Rows.{head_cells}
use Rattle.sqlite_tables.specs.Standing.{StandsFor}
use Rattle.sqlite_tables.specs.Texts as texts
use Rattle.sqlite_tables.specs.Whole.{whole, head_table}
use Rattle.sqlite_tables.proofs.CoverLaw.{head_is_one}
use Rattle.sqlite_tables.proofs.QueryLaw.{passes, outputs, shows}
use Rattle.sqlite_tables.proofs.Steps.{went, same_value, cast-Int, cast-Null, concluded, zero≢three, one≢three}
use Rattle.sqlite_tables.proofs.Tests.{equal-Int, equal_self}
use Rattle.sqlite_tables.proofs.TextLaws.{alone, upgrade_tests, upgrade_terms, upgrade_query, upgrade_is, upgrade_plain}

and-true : (b : Bool) → (b && true) ≡ b
and-true true = refl
and-true false = refl

none_permuted : {X : Type 0} (ys : List X) → IsPermutation [] ys → ys ≡ []
none_permuted [] same = refl
none_permuted (y ∷ ys) same = absurd (omega (arith, length_permutation [] (y ∷ ys) same))

-- the row as the query shows it
abbrev shown_upgraded : Row → Row
shown_upgraded r = column r 0 ∷ column r 0 ∷ Null ∷ Int current_version ∷ column r 3 ∷ []

-- what is stored then, where the row is shown and where none is
edited_version : (db : Trees) (r : Row) (covered : ℤ) → db 3 ≡ r ∷ [] → column r 0 ≡ Int (pos 1) → column r 3 ≡ Int covered
    → edited db (edit_of db head_table (ids_of (shown_upgraded r ∷ [])) Given 1 (shown_upgraded r ∷ [])) ≡ (Int (pos 1) ∷ Null ∷ Int current_version ∷ Int covered ∷ []) ∷ []
edited_version db r covered only id cov = rw (only, id, cov, cast-Int (pos 1), cast-Int current_version, cast-Int covered, cast-Null, tied_itself value_cmp_total (Int (pos 1))) refl

edited_none : (db : Trees) (r : Row) → db 3 ≡ r ∷ [] → edited db (edit_of db head_table (ids_of []) Given 1 []) ≡ r ∷ []
edited_none db r only = rw only refl

-- the row passes where the version is 1
passes_is : (db : Trees) (r : Row) (version : ℤ) → column r 0 ≡ Int (pos 1) → column r 2 ≡ Int version → passes 3 upgrade_tests upgrade_terms [] db [] r ≡ int_eq version (pos 1)
passes_is db r version id ver = rw (id, ver, equal_self (pos 1), equal-Int version (pos 1)) (and-true (int_eq version (pos 1)))

-- so the query shows it, or none
shows_old : (db : Trees) (r : Row) (rows : List Row) (b : Bool) → db 3 ≡ r ∷ [] → passes 3 upgrade_tests upgrade_terms [] db [] r ≡ b
    → Answers (record { schema = whole; trees = db }) (alone upgrade_query) [] rows → rows ≡ cond b (shown_upgraded r ∷ []) []
shows_old db r rows true only pass answers =
    let it = shows 3 upgrade_tests upgrade_terms [] db [] whole rows refl answers in
    let one : Output = output upgrade_query ([] ∷ r ∷ []) in
    let out : outputs 3 upgrade_tests upgrade_terms [] db [] ≡ one ∷ [] =
    ap (λ l. map (output upgrade_query) (map (λ (x : Row). [] ∷ x ∷ []) (filter (passes 3 upgrade_tests upgrade_terms [] db []) l))) only ∙ rw pass refl in
    it.shown ∙ ap (map (λ (o : Output). o.1)) (one_permutation one it.ordered (subst (λ k. IsPermutation k it.ordered) out it.same))
shows_old db r rows false only pass answers =
    let it = shows 3 upgrade_tests upgrade_terms [] db [] whole rows refl answers in
    let out : outputs 3 upgrade_tests upgrade_terms [] db [] ≡ [] =
    ap (λ l. map (output upgrade_query) (map (λ (x : Row). [] ∷ x ∷ []) (filter (passes 3 upgrade_tests upgrade_terms [] db []) l))) only ∙ rw pass refl in
    it.shown ∙ ap (map (λ (o : Output). o.1)) (none_permuted it.ordered (subst (λ k. IsPermutation k it.ordered) out it.same))

-- the head that is stored then
head_upgraded : (db : Trees) (r : Row) (version covered : ℤ) (b : Bool) → db 3 ≡ r ∷ [] → column r 0 ≡ Int (pos 1) → column r 2 ≡ Int version → column r 3 ≡ Int covered
    → map head_cells (edited db (edit_of db head_table (ids_of (cond b (shown_upgraded r ∷ []) [])) Given 1 (cond b (shown_upgraded r ∷ []) [])))
    ≡ (Int (pos 1) ∷ Int (cond b current_version version) ∷ Int covered ∷ []) ∷ []
head_upgraded db r version covered true only id ver cov = ap (map head_cells) (edited_version db r covered only id cov)
head_upgraded db r version covered false only id ver cov = ap (map head_cells) (edited_none db r only) ∙ rw (id, ver, cov) refl

pub upgrades : (old new : State) (count : ℕ) → Executes texts.upgrade [] old new (Ok count)
    → (t : Tables) → StandsFor old.now t → Unit {0} → StandsFor new.now (upgraded t)
upgrades old new count h t stands _ =
    let db = old.now.trees in
    let head = head_is_one (db 3) t.version t.covered stands.head in
    let command = Update 2 (alone upgrade_query) in
    let w = runs_as texts.upgrade [] old new whole stands.schema command upgrade_is upgrade_plain count h in
    let text = statement_of texts.upgrade (understood whole texts.upgrade) in
    let task : Task = record { limit = old.step_limit; keys = (mode_of old).keys; schema = whole; table = head_table; params = [] } in
    let done = concluded task (mode_of old) command db w.tally new.now
    (subst (λ s. Does old.step_limit (mode_of old) [] (record old.now { schema = s }) text None command (Ok (w.tally, new.now))) stands.schema w.changed) in
    let asked = went done.1 in
    let written = went asked.2 in
    let trees : done.0.trees ≡ written.0 = ap (λ (it : Written). it.trees) (same_value written.2) in
    let applied = one_step whole _ db written.0 (edit_of db head_table (ids_of asked.0) Given 1 asked.0) refl written.1 in
    let b = int_eq t.version (pos 1) in
    let shown = shows_old db head.row asked.0 b head.only (passes_is db head.row t.version head.id head.version_is) asked.1 in
    let rows = applied.rows ∙ ap (λ all. edited db (edit_of db head_table (ids_of all) Given 1 all)) shown in
    let now : new.now ≡ record { schema = whole; trees = written.0 } = done.2 ∙ ap (λ (ts : Trees). record { schema = whole; trees = ts }) trees in
    let records = applied.tables.0 zero≢three in
    rw now (record {
      schema = refl;
      records = rw records stands.records;
      rises = rw records stands.rises;
      worths = rw (applied.tables.1.0 one≢three) stands.worths;
      head = ap (map head_cells) rows ∙ head_upgraded db head.row t.version t.covered b head.only head.id head.version_is head.covered_is;
    })
