-- A database with the schema of a ledger's, whose rows stand by rowid, stands for tables if its worths and its head can be read.
use Rattle.std.proofs.Common.{◌≡◌, ℤ, pos, Bool, true, false, not, ◌&&◌, List, [], ◌∷◌, length, map, filter, Some, IsTrue, refl, sym, ap, ◌∙◌, subst, subst₂, arith, true≢false}
use Rattle.std.specs.List.{AllByRecursion}
use Rattle.std.specs.List.Sorted.{IsPermutation}
use Rattle.std.specs.FinMap.{int_cmp-IsAntisymmetric}
use Rattle.std.proofs.lemmas.Bool.{and_parts, and_from, not-true, false_from_ne_true}
use Rattle.std.proofs.lemmas.List.Sorted.{IsPermutation-sym, length_permutation}
use Rattle.sqlite_value.specs.Keys.{plain, first_key}
use Rattle.sqlite_value.specs.declared.value.Value.{Value}
use Rattle.sqlite_value.specs.declared.value.Value.TheVariants.{Null, Int, Real, Text, Blob}
use Rattle.sqlite_value.specs.declared.keys.Collation.TheVariants.{Binary}
use Rattle.sqlite_value.specs.Order.{Row, column, bytes}
use Rattle.sqlite_trees.specs.Tree.{Trees, rowid, IsTable}
use Rattle.sqlite_trees.specs.View.{is_int}
use Rattle.sqlite_schema.specs.Rules.{passes, are_typed, equal, differ, agree, clashes}
use Rattle.sqlite_schema.specs.declared.schema.Constraint.TheVariants.{Datatype, NotNull, Unique}
use Rattle.sqlite_sql.specs.Query.{Output, output}
use Rattle.sqlite_rules.specs.Lists.{Has}
use Rattle.sqlite_rules.proofs.ListLemmas.{all_has, some_from}
use Rattle.sqlite.specs.Effect.{Database, IsDatabase, Answers}
use Rattle.sqlite.proofs.Callers.{one_permutation}
use Rattle.stock_keeper.specs.declared.changes.SpotWorth.{SpotWorth}
use Rattle.stock_keeper.specs.declared.tables.StoredRecord.{StoredRecord}
use Rattle.stock_keeper.specs.Worths.{AreInOrder}
use Rattle.sqlite_tables.specs.Finding.{IsOneHead}
use Rattle.sqlite_tables.specs.Rows.{record_row, worth_row, record_cells, spot_cells, worth_cells, head_cells, worth_columns, AreWorthsOf, AreSortedOf}
use Rattle.sqlite_tables.specs.Sorted.{IsSorted}
use Rattle.sqlite_tables.specs.Standing.{HoldsWorths, StandsFor}
use Rattle.sqlite_tables.specs.Whole.{whole, records_table, worths_table}
use Rattle.sqlite_tables.proofs.DeleteLaw.{rowid_is, has_itself}
use Rattle.sqlite_tables.proofs.Members.{has_map, has_mapped, has_permutation}
use Rattle.sqlite_tables.proofs.QueryLaw.{shows, shown_has, shown_all}
use Rattle.sqlite_tables.proofs.Tests.{equal_self, differ-Int, tied}
use Rattle.sqlite_tables.proofs.TextLaws.{alone, head_order, whole_head_query, whole_head_terms, worths_terms, scan_query}
use Rattle.sqlite_tables.proofs.WorthLaw.{spot_of_cells}

-- ---- the rows of the records

abbrev int_in : Value → ℤ
int_in (Int n) = n
int_in _ = pos 0

int_is : (v : Value) → IsTrue (is_int v) → v ≡ Int (int_in v)
int_is Null h = absurd (true≢false (sym h))
int_is (Int n) h = refl
int_is (Real x) h = absurd (true≢false (sym h))
int_is (Text t) h = absurd (true≢false (sym h))
int_is (Blob b) h = absurd (true≢false (sym h))

abbrev pub record_of : Row → StoredRecord
record_of r = record { number = int_in (column r 0); body = bytes (column r 2) }

-- a row that keeps the types, and has no NULL where none may be, has a blob for its body
blob_is : (db : Trees) (r : Row) → passes Datatype whole db records_table r ≡ true → passes NotNull whole db records_table r ≡ true → column r 2 ≡ Blob (bytes (column r 2))
blob_is db [] typed present = absurd (true≢false (sym present))
blob_is db (id ∷ []) typed present = absurd (true≢false (sym present))
blob_is db (id ∷ n ∷ []) typed present = absurd (true≢false (sym present))
blob_is db (id ∷ n ∷ Null ∷ more) typed present = absurd (true≢false (sym present))
blob_is db (id ∷ n ∷ Int m ∷ more) typed present = absurd (true≢false (sym (and_parts _ (are_typed (Some 0) 2 [] more) (and_parts _ _ (and_parts _ _ typed).0).1).0))
blob_is db (id ∷ n ∷ Real x ∷ more) typed present = absurd (true≢false (sym (and_parts _ (are_typed (Some 0) 2 [] more) (and_parts _ _ (and_parts _ _ typed).0).1).0))
blob_is db (id ∷ n ∷ Text t ∷ more) typed present = absurd (true≢false (sym (and_parts _ (are_typed (Some 0) 2 [] more) (and_parts _ _ (and_parts _ _ typed).0).1).0))
blob_is db (id ∷ n ∷ Blob b ∷ more) typed present = refl

records_are : (db : Trees) (rows : List Row) → AllByRecursion (λ r. IsTrue (is_int (rowid r))) rows → AllByRecursion (λ r. passes Datatype whole db records_table r ≡ true) rows
    → AllByRecursion (λ r. passes NotNull whole db records_table r ≡ true) rows → map record_cells rows ≡ map record_row (map record_of rows)
records_are db [] ints typed present = refl
records_are db (r ∷ rows) ints typed present =
    let number = int_is (column r 0) ints.0 in
    let body = blob_is db r typed.0 present.0 in
    let later = records_are db rows ints.1 typed.1 present.1 in
    λ i. (number i ∷ body i ∷ []) ∷ later i

-- ---- the rows of the worths

not_false : (b : Bool) → not b ≡ false → b ≡ true
not_false true h = refl
not_false false h = absurd (true≢false h)

same_number : (m n : ℤ) → differ (Int m) (Int n) ≡ false → m ≡ n
same_number m n h = int_cmp-IsAntisymmetric m n (tied _ (not_false _ (sym (differ-Int m n) ∙ h)))

agree_is : (s r : Row) → agree plain (1 ∷ 2 ∷ 3 ∷ []) s (1 ∷ 2 ∷ 3 ∷ []) r
    ≡ (equal Binary (column s 1) (column r 1) && (equal Binary (column s 2) (column r 2) && (equal Binary (column s 3) (column r 3) && true)))
unfolding first_key
agree_is s r = refl

agree_from : (s r : Row) (a b c : ℤ) → spot_cells r ≡ Int a ∷ Int b ∷ Int c ∷ [] → spot_cells s ≡ spot_cells r → agree plain (1 ∷ 2 ∷ 3 ∷ []) s (1 ∷ 2 ∷ 3 ∷ []) r ≡ true
agree_from s r a b c cells same =
    let first : column r 1 ≡ Int a = cc in
    let second : column r 2 ≡ Int b = cc in
    let third : column r 3 ≡ Int c = cc in
    let also : column s 1 ≡ Int a = cc in
    let too : column s 2 ≡ Int b = cc in
    let last : column s 3 ≡ Int c = cc in
    agree_is s r ∙ rw (first, second, third, also, too, last) (and_from _ _ (equal_self a) (and_from _ _ (equal_self b) (and_from _ _ (equal_self c) refl)))

module _ (db : Trees) (rows : List Row) (ws : List SpotWorth) (table : IsTable (db 1)) (ints : AllByRecursion (λ r. IsTrue (is_int (rowid r))) (db 1))
    (unique : AllByRecursion (λ r. passes Unique whole db worths_table r ≡ true) (db 1)) (answers : Answers (record { schema = whole; trees = db }) (alone scan_query) [] rows)
    (seen : List SpotWorth) (read : AreWorthsOf rows seen) (sorted : IsPermutation seen ws) (in_order : AreInOrder ws) where
  keyed : (r : Row) → Has (db 1) r → column r 0 ≡ Int (int_in (column r 0))
  keyed r h = int_is (column r 0) (all_has (λ x. IsTrue (is_int (rowid x))) (db 1) r ints h)

  worth_at : (r : Row) → Has (db 1) r → (w : SpotWorth) × Has ws w × (worth_cells r ≡ worth_row w)
  worth_at r h =
      let there = has_map worth_columns rows (worth_cells r) (shown_all 1 [] worths_terms [] db [] whole rows refl answers r h refl) in
      let found = has_mapped worth_row seen (worth_cells r) (subst (λ l. Has l (worth_cells r)) (sym read) there) in
      (found.0, has_permutation seen ws found.0 sorted found.1, found.2)

  row_of : (w : SpotWorth) → Has ws w → (r : Row) × Has (db 1) r × (worth_cells r ≡ worth_row w)
  row_of w h =
      let there = has_permutation ws seen w (IsPermutation-sym seen ws sorted) h in
      let found = has_mapped worth_columns rows (worth_row w) (subst (λ l. Has l (worth_row w)) read (has_map worth_row seen w there)) in
      let row = shown_has 1 [] worths_terms [] db [] whole rows refl answers found.0 found.1 in
      (row.0, row.1, sym (found.2 ∙ ap worth_columns row.3))

  -- what has the same spot has the same rowid, since the spot is unique
  same_row : (r s : Row) → Has (db 1) r → Has (db 1) s → spot_cells r ≡ spot_cells s → r ≡ s
  same_row r s h k same =
      let it = worth_at r h in
      let spot = spot_of_cells r it.0 it.2 in
      let free : clashes plain (1 ∷ 2 ∷ 3 ∷ []) (db 1) r ≡ false = not-true _ (and_parts _ _ (all_has (λ x. passes Unique whole db worths_table x ≡ true) (db 1) r unique h)).0 in
      let apart : differ (rowid s) (rowid r) ≡ false = false_from_ne_true _ (λ other.
      true≢false (sym (some_from (λ x. agree plain (1 ∷ 2 ∷ 3 ∷ []) x (1 ∷ 2 ∷ 3 ∷ []) r && differ (rowid x) (rowid r)) (db 1) s k (and_from _ _ (agree_from s r _ _ _ spot (sym same)) other)) ∙ free)) in
      let ids = same_number (int_in (column s 0)) (int_in (column r 0)) (subst₂ (λ a b. differ a b ≡ false) (keyed s k) (keyed r h) apart) in
      rowid_is (db 1) r s (int_in (column s 0)) table h k (keyed s k) (has_itself r (int_in (column s 0)) (keyed r h ∙ ap Int (sym ids)))

  holds_found : HoldsWorths (db 1) ws
  holds_found = record {
    rises = table;
    rows_are = λ r h. let it = worth_at r h in (it.0, int_in (column r 0), it.1, it.2, keyed r h);
    worths_are = row_of;
    apart = same_row;
    in_order = in_order;
  }

-- ---- the row of the head

head_found : (db : Trees) (rows : List Row) (version covered : ℤ) → Answers (record { schema = whole; trees = db }) (alone whole_head_query) [] rows → IsOneHead rows version covered
    → map head_cells (db 3) ≡ (Int (pos 1) ∷ Int version ∷ Int covered ∷ []) ∷ []
head_found db rows version covered answers one = go (db 3) refl
  where
    shown_head : Row → Output
    shown_head r = output whole_head_query ([] ∷ r ∷ [])

    heads_of : List Row → List Output
    heads_of l = map (output whole_head_query) (map (λ (r : Row). [] ∷ r ∷ []) (filter (λ _. true) l))

    alone_shown : (row : Row) (os : List Output) → row ∷ [] ≡ map (λ (o : Output). o.1) os → length os ≡ 1
    alone_shown row [] h = absurd cc
    alone_shown row (o ∷ []) h = refl
    alone_shown row (o ∷ p ∷ os) h = absurd cc

    go : (l : List Row) → db 3 ≡ l → map head_cells l ≡ (Int (pos 1) ∷ Int version ∷ Int covered ∷ []) ∷ []
    go l is =
        let it = shows 3 [] whole_head_terms head_order db [] whole rows refl answers in
        let same : IsPermutation (heads_of l) it.ordered = subst (λ k. IsPermutation (heads_of k) it.ordered) is it.same in
        let row : one.0 ∷ [] ≡ map (λ (o : Output). o.1) it.ordered = sym one.1 ∙ it.shown in
        cells l it.ordered same row (alone_shown one.0 it.ordered row)
      where
        cells : (l : List Row) (os : List Output) → IsPermutation (heads_of l) os → one.0 ∷ [] ≡ map (λ (o : Output). o.1) os → length os ≡ 1
            → map head_cells l ≡ (Int (pos 1) ∷ Int version ∷ Int covered ∷ []) ∷ []
        cells [] os same row len = absurd (omega (arith, length_permutation [] os same, len))
        cells (r ∷ s ∷ more) os same row len = absurd (omega (arith, length_permutation (heads_of (r ∷ s ∷ more)) os same, len))
        cells (r ∷ []) os same row len =
            let ordered : os ≡ shown_head r ∷ [] = one_permutation (shown_head r) os same in
            let shown : one.0 ∷ [] ≡ head_cells r ∷ [] = row ∙ ap (map (λ (o : Output). o.1)) ordered in
            let is : one.0 ≡ head_cells r = cc in
            let id : column r 0 ≡ Int (pos 1) = ap (λ x. column x 0) (sym is) ∙ one.2.0 in
            let ver : column r 2 ≡ Int version = ap (λ x. column x 1) (sym is) ∙ one.2.1 in
            let cov : column r 3 ≡ Int covered = ap (λ x. column x 2) (sym is) ∙ one.2.2 in
            rw (id, ver, cov) refl

-- ---- the whole database

pub found_stands : (db : Database) (worths heads : List Row) (ws : List SpotWorth) (version covered : ℤ) → db.schema ≡ whole → IsSorted db → Answers db (alone scan_query) [] worths
    → AreSortedOf worths ws → AreInOrder ws → Answers db (alone whole_head_query) [] heads → IsOneHead heads version covered
    → StandsFor db (record { version = version; records = map record_of (db.trees 0); covered = covered; worths = ws })
found_stands db worths heads ws version covered has sorted shown read in_order head_shown head =
    let same : db ≡ record { schema = whole; trees = db.trees } = λ i. record { schema = has i; trees = db.trees } in
    let sound : IsDatabase (record { schema = whole; trees = db.trees }) = subst IsDatabase same sorted.sound in
    let rises = (subst IsSorted same sorted).rises in
    let rules = sound.obeys.rules in
    record {
      schema = has;
      records = records_are db.trees (db.trees 0) rises.0.1 (rules Datatype).0 (rules NotNull).0;
      rises = rises.0.0;
      worths = holds_found db.trees worths ws rises.1.0.0 rises.1.0.1 (rules Unique).1.0 (subst (λ d. Answers d (alone scan_query) [] worths) same shown) read.0 read.1 read.2 in_order;
      head = head_found db.trees heads version covered (subst (λ d. Answers d (alone whole_head_query) [] heads) same head_shown) head;
    }
