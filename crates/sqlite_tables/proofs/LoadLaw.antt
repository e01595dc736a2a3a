-- What the three queries show of the tables.
use Rattle.std.proofs.Common.{◌≡◌, true, Less, List, [], ◌∷◌, map, filter, refl, ap, ◌∙◌, subst}
use Rattle.std.specs.List.{AllByRecursion}
use Rattle.std.specs.List.Sorted.{IsPermutation, IsStrictlySortedBy}
use Rattle.std.proofs.lemmas.List.Sorted.{IsPermutation-sym}
use Rattle.sqlite_value.specs.Order.{Row, column, value_cmp}
use Rattle.sqlite_trees.specs.Tree.{rowid, IsTable}
use Rattle.sqlite_sql.specs.Query.{Output, output, output_cmp}
use Rattle.sqlite_sql.proofs.QueryLemmas.{output_cmp_total}
use Rattle.sqlite.specs.Effect.{Database, Answers, ReadsFirst}
use Rattle.sqlite.proofs.Callers.{one_permutation}
use Rattle.stock_keeper.specs.declared.tables.Tables.{Tables}
use Rattle.sqlite_tables.specs.Rows.{record_row, head_row, record_cells}
use Rattle.sqlite_tables.specs.Standing.{StandsFor}
use Rattle.sqlite_tables.proofs.CoverLaw.{head_is_one}
use Rattle.sqlite_tables.proofs.Members.{has_permutation}
use Rattle.sqlite_tables.proofs.QueryLaw.{outputs, shows}
use Rattle.sqlite_tables.proofs.Sorting.{same_members, sorted_rises, rises_apart}
use Rattle.sqlite_tables.proofs.TextLaws.{alone, records_query, records_terms, records_order, head_command, head_query, head_terms, head_order}

pub filter_all : (rows : List Row) → filter (λ _. true) rows ≡ rows
filter_all [] = refl
filter_all (r ∷ rows) = ap (λ l. r ∷ l) (filter_all rows)

-- ---- records

-- what the query makes of a row of the records
abbrev record_output : Row → Output
record_output r = (column r 0 ∷ [], record_cells r)

records_out : (rows : List Row) → map (output records_query) (map (λ (r : Row). [] ∷ r ∷ []) rows) ≡ map record_output rows
records_out [] = refl
records_out (r ∷ rows) = ap (λ l. record_output r ∷ l) (records_out rows)

records_cells : (rows : List Row) → map (λ (o : Output). o.1) (map record_output rows) ≡ map record_cells rows
records_cells [] = refl
records_cells (r ∷ rows) = ap (λ l. record_cells r ∷ l) (records_cells rows)

records_rise : (rows : List Row) → IsTable rows → IsStrictlySortedBy (output_cmp records_query) (map record_output rows)
unfolding IsStrictlySortedBy
records_rise [] table = tt
records_rise (r ∷ rows) table = (each rows table.0, records_rise rows table.1)
  where
    each : (ss : List Row) → AllByRecursion (λ s. value_cmp (rowid r) (rowid s) ≡ Less) ss → AllByRecursion (λ o. output_cmp records_query (record_output r) o ≡ Less) (map record_output ss)
    each [] all = tt
    each (s ∷ ss) all = (rw all.0 refl, each ss all.1)

pub records_shown : (db : Database) (t : Tables) (rows : List Row) → StandsFor db t → Answers db (alone records_query) [] rows → rows ≡ map record_row t.records
records_shown db t rows stands answers =
    let total = output_cmp_total records_query in
    let it = shows 0 [] records_terms records_order db.trees [] db.schema rows refl answers in
    let all = map record_output (db.trees 0) in
    let out : outputs 0 [] records_terms records_order db.trees [] ≡ all =
    ap (λ l. map (output records_query) (map (λ (r : Row). [] ∷ r ∷ []) l)) (filter_all (db.trees 0)) ∙ records_out (db.trees 0) in
    let rise = records_rise (db.trees 0) stands.rises in
    let same = subst (λ l. IsPermutation l it.ordered) out it.same in
    let ordered : it.ordered ≡ all = same_members total it.ordered all (sorted_rises total all it.ordered (rises_apart total all rise) same it.sorted) rise
    (λ v h. has_permutation it.ordered all v (IsPermutation-sym all it.ordered same) h) (λ v h. has_permutation all it.ordered v same h) in
    it.shown ∙ ap (map (λ (o : Output). o.1)) ordered ∙ records_cells (db.trees 0) ∙ stands.records

-- ---- the head

pub head_shown : (db : Database) (t : Tables) (rows : List Row) → StandsFor db t → Answers db (alone head_query) [] rows → rows ≡ head_row t ∷ []
head_shown db t rows stands answers =
    let it = shows 3 [] head_terms head_order db.trees [] db.schema rows refl answers in
    let head = head_is_one (db.trees 3) t.version t.covered stands.head in
    let one : Output = output head_query ([] ∷ head.row ∷ []) in
    let out : outputs 3 [] head_terms head_order db.trees [] ≡ one ∷ [] =
    ap (λ l. map (output head_query) (map (λ (r : Row). [] ∷ r ∷ []) (filter (λ _. true) l))) head.only in
    it.shown ∙ ap (map (λ (o : Output). o.1)) (one_permutation one it.ordered (subst (λ l. IsPermutation l it.ordered) out it.same))
    ∙ rw (head.version_is, head.covered_is) refl

-- the row that the query begins with
pub head_first : (db : Database) (t : Tables) (row : Row) → StandsFor db t → ReadsFirst head_command db [] (row ∷ []) → row ≡ head_row t
head_first db t row stands first =
    let answers : Answers db (alone head_query) [] (row ∷ first.1.0) = record { typed = first.0; answer = first.1.1 } in
    let one = head_shown db t (row ∷ first.1.0) stands answers in
    cc
