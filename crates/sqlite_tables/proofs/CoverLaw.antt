-- What the update of the head makes of the tables.
use Rattle.std.proofs.Common.{◌≡◌, ℕ, ℤ, pos, List, [], ◌∷◌, map, filter, true, None, Ok, refl, ap, ◌∙◌, subst}
use Rattle.std.specs.List.Sorted.{IsPermutation}
use Rattle.std.proofs.lemmas.Bool.{and_from}
use Rattle.std.proofs.lemmas.Cmp.{tied_itself}
use Rattle.sqlite_value.specs.declared.value.Value.TheVariants.{Null, Int}
use Rattle.sqlite_value.specs.Order.{Row, column}
use Rattle.sqlite_value.proofs.OrderLemmas.{value_cmp_total}
use Rattle.sqlite_trees.specs.Tree.{Trees}
use Rattle.sqlite_sql.specs.Query.{Output, output}
use Rattle.sqlite_schema.specs.declared.command.Command.TheVariants.{Update}
use Rattle.sqlite_rules.specs.declared.error.Rowids.TheVariants.{Given}
use Rattle.sqlite_rules.specs.Calls.{ids_of}
use Rattle.sqlite_rules.specs.Edit.{edit_of, edited}
use Rattle.sqlite.specs.Does.{Does}
use Rattle.sqlite.specs.Effect.{Answers}
use Rattle.sqlite.specs.Rows.{Task, Written}
use Rattle.sqlite.specs.Listing.{understood}
use Rattle.sqlite.specs.State.{State, mode_of, Executes}
use Rattle.sqlite.proofs.Callers.{statement_of, runs_as, one_step, one_permutation}
use Rattle.stock_nums.specs.declared.numbers.RecordNo.{RecordNo}
use Rattle.stock_keeper.specs.declared.tables.Tables.{Tables}
use Rattle.sqlite_tables.specs.Rows.{head_cells}
use Rattle.sqlite_tables.specs.Standing.{StandsFor}
use Rattle.sqlite_tables.specs.Texts as texts
use Rattle.sqlite_tables.specs.Turning.{with_covered}
use Rattle.sqlite_tables.specs.Whole.{whole, head_table}
use Rattle.sqlite_tables.proofs.QueryLaw.{passes, outputs, shows}
use Rattle.sqlite_tables.proofs.Steps.{went, same_value, cast-Int, cast-Null, concluded, zero≢three, one≢three}
use Rattle.sqlite_tables.proofs.Tests.{equal_self}
use Rattle.sqlite_tables.proofs.TextLaws.{alone, cover_tests, cover_terms, cover_query, cover_is, cover_plain}

-- the row of the head
pub record IsHead (rows : List Row) (version covered : ℤ) : Type 0 where
  pub row : Row
  pub only : rows ≡ row ∷ []
  pub id : column row 0 ≡ Int (pos 1)
  pub version_is : column row 2 ≡ Int version
  pub covered_is : column row 3 ≡ Int covered

pub head_is_one : (rows : List Row) (version covered : ℤ) → map head_cells rows ≡ (Int (pos 1) ∷ Int version ∷ Int covered ∷ []) ∷ [] → IsHead rows version covered
head_is_one [] version covered h = absurd cc
head_is_one (r ∷ s ∷ more) version covered h = absurd cc
head_is_one (r ∷ []) version covered h = record { row = r; only = refl; id = cc; version_is = cc; covered_is = cc }

-- the row as the query shows it, and as it is stored then
abbrev shown_head : Row → ℤ → Row
shown_head r n = column r 0 ∷ column r 0 ∷ Null ∷ column r 2 ∷ Int n ∷ []

edited_head : (db : Trees) (r : Row) (version n : ℤ) → db 3 ≡ r ∷ [] → column r 0 ≡ Int (pos 1) → column r 2 ≡ Int version
    → edited db (edit_of db head_table (ids_of (shown_head r n ∷ [])) Given 1 (shown_head r n ∷ [])) ≡ (Int (pos 1) ∷ Null ∷ Int version ∷ Int n ∷ []) ∷ []
edited_head db r version n only id ver = rw (only, id, ver, cast-Int (pos 1), cast-Int version, cast-Int n, cast-Null, tied_itself value_cmp_total (Int (pos 1))) refl

-- the query shows the one row of the head
shows_head : (db : Trees) (n : ℤ) (r : Row) (rows : List Row) → db 3 ≡ r ∷ [] → column r 0 ≡ Int (pos 1)
    → Answers (record { schema = whole; trees = db }) (alone cover_query) (Int n ∷ []) rows → rows ≡ shown_head r n ∷ []
shows_head db n r rows only id answers =
    let params = Int n ∷ [] in
    let it = shows 3 cover_tests cover_terms [] db params whole rows refl answers in
    let pass : passes 3 cover_tests cover_terms [] db params r ≡ true = rw id (and_from _ _ (equal_self (pos 1)) refl) in
    let one : Output = output cover_query (params ∷ r ∷ []) in
    let out : outputs 3 cover_tests cover_terms [] db params ≡ one ∷ [] =
    ap (λ l. map (output cover_query) (map (λ (x : Row). params ∷ x ∷ []) (filter (passes 3 cover_tests cover_terms [] db params) l))) only ∙ rw pass refl in
    it.shown ∙ ap (map (λ (o : Output). o.1)) (one_permutation one it.ordered (subst (λ k. IsPermutation k it.ordered) out it.same))

pub covers : (old new : State) (covered : RecordNo) (count : ℕ) → Executes texts.cover (Int (pos covered.0) ∷ []) old new (Ok count)
    → (t : Tables) → StandsFor old.now t → Unit {0} → StandsFor new.now (with_covered covered t)
covers old new covered count h t stands _ =
    let n = pos covered.0 in
    let params = Int n ∷ [] in
    let db = old.now.trees in
    let head = head_is_one (db 3) t.version t.covered stands.head in
    let command = Update 2 (alone cover_query) in
    let w = runs_as texts.cover params old new whole stands.schema command cover_is cover_plain count h in
    let text = statement_of texts.cover (understood whole texts.cover) in
    let task : Task = record { limit = old.step_limit; keys = (mode_of old).keys; schema = whole; table = head_table; params = params } in
    let done = concluded task (mode_of old) command db w.tally new.now
    (subst (λ s. Does old.step_limit (mode_of old) params (record old.now { schema = s }) text None command (Ok (w.tally, new.now))) stands.schema w.changed) in
    let asked = went done.1 in
    let written = went asked.2 in
    let trees : done.0.trees ≡ written.0 = ap (λ (it : Written). it.trees) (same_value written.2) in
    let applied = one_step whole _ db written.0 (edit_of db head_table (ids_of asked.0) Given 1 asked.0) refl written.1 in
    let shown = shows_head db n head.row asked.0 head.only head.id asked.1 in
    let rows : written.0 3 ≡ (Int (pos 1) ∷ Null ∷ Int t.version ∷ Int n ∷ []) ∷ [] =
    applied.rows ∙ ap (λ all. edited db (edit_of db head_table (ids_of all) Given 1 all)) shown ∙ edited_head db head.row t.version n head.only head.id head.version_is in
    let now : new.now ≡ record { schema = whole; trees = written.0 } = done.2 ∙ ap (λ (ts : Trees). record { schema = whole; trees = ts }) trees in
    let records = applied.tables.0 zero≢three in
    rw now (record {
      schema = refl;
      records = rw records stands.records;
      rises = rw records stands.rises;
      worths = rw (applied.tables.1.0 one≢three) stands.worths;
      head = ap (map head_cells) rows;
    })
