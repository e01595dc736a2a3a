-- A map that has the rows of each key, as rows are added.
use Rattle.std.proofs.Common.{◌≡◌, ℕ, ◌+◌, ◌<◌, Bool, true, false, cond, List, [], ◌∷◌, ◌++◌, length, take, get_or, filter, Some, refl, sym, ap, ◌∙◌, subst}
use Rattle.std.specs.Prelude.{unwrap_or}
use Rattle.std.specs.BTreeMap.{BTreeMap, get}
use Rattle.std.proofs.lemmas.List.{append-nil}
use Rattle.std.proofs.lemmas.List.Elements.{filter-append, filter_more}
use Rattle.stock_nums.specs.declared.entry.Key.{Key}
use Rattle.stock_nums.specs.declared.entry.Row.{Row}
use Rattle.stock_model.specs.Enough.{entry_key, is_same_key}
use Rattle.stock_model.specs.Sums.{is_of}
use Rattle.valuation_report.specs.Grouping.{key_cmp, some_rows, IsByKey}

-- one more row at the end of rows that there are or are not
some_rows-snoc : (rows : List Row) (row : Row) → some_rows (rows ++ row ∷ []) ≡ Some (unwrap_or (some_rows rows) [] ++ row ∷ [])
some_rows-snoc [] row = refl
some_rows-snoc (first ∷ rows) row = refl

by_test : (own : Bool) (rows : List Row) (row : Row) → cond own (Some (unwrap_or (some_rows rows) [] ++ row ∷ [])) (some_rows rows) ≡ some_rows (rows ++ cond own (row ∷ []) [])
by_test true rows row = sym (some_rows-snoc rows row)
by_test false rows row = ap some_rows (sym (append-nil rows))

-- the map that has one more row at the row's key
IsByKey-snoc : (old new : BTreeMap Key (List Row)) (rows : List Row) (row : Row) → IsByKey old rows
    → ((key : Key) → get key_cmp new key ≡ cond (is_same_key (entry_key row.entry) key) (Some (unwrap_or (get key_cmp old key) [] ++ row ∷ [])) (get key_cmp old key))
    → IsByKey new (rows ++ row ∷ [])
IsByKey-snoc old new rows row grouped added = record {
  at = λ key.
      added key
      ∙ ap (λ found. cond (is_of key row) (Some (unwrap_or found [] ++ row ∷ [])) found) (grouped.at key)
      ∙ by_test (is_of key row) (filter (is_of key) rows) row
      ∙ ap some_rows (sym (filter-append (is_of key) rows (row ∷ [])));
}

-- the next of the rows, which passes the test or is left out
pub with_next : (asked : Row → Bool) (rows : List Row) (i : ℕ) (row : Row) → i < length rows → row ≡ get_or rows i row → asked row ≡ true
    → filter asked (take (i + 1) rows) ≡ filter asked (take i rows) ++ row ∷ []
with_next asked rows i row within read passes =
    filter_more asked rows i row within
    ∙ ap (λ (r : Row). filter asked (take i rows) ++ cond (asked r) (r ∷ []) []) (sym read)
    ∙ ap (λ (b : Bool). filter asked (take i rows) ++ cond b (row ∷ []) []) passes

pub without_next : (asked : Row → Bool) (rows : List Row) (i : ℕ) (row : Row) → i < length rows → row ≡ get_or rows i row → asked row ≡ false
    → filter asked (take (i + 1) rows) ≡ filter asked (take i rows)
without_next asked rows i row within read fails =
    filter_more asked rows i row within
    ∙ ap (λ (r : Row). filter asked (take i rows) ++ cond (asked r) (r ∷ []) []) (sym read)
    ∙ ap (λ (b : Bool). filter asked (take i rows) ++ cond b (row ∷ []) []) fails
    ∙ append-nil (filter asked (take i rows))

-- the map of them
pub IsByKey-more : (asked : Row → Bool) (old new : BTreeMap Key (List Row)) (rows : List Row) (i : ℕ) (row : Row) (own : Key) → i < length rows → row ≡ get_or rows i row → asked row ≡ true
    → own ≡ entry_key row.entry → IsByKey old (filter asked (take i rows))
    → ((key : Key) → get key_cmp new key ≡ cond (is_same_key own key) (Some (unwrap_or (get key_cmp old key) [] ++ row ∷ [])) (get key_cmp old key))
    → IsByKey new (filter asked (take (i + 1) rows))
IsByKey-more asked old new rows i row own within read passes own_is grouped added =
    subst (IsByKey new) (sym (with_next asked rows i row within read passes))
    (IsByKey-snoc old new (filter asked (take i rows)) row grouped
    (λ key. added key ∙ ap (λ (k : Key). cond (is_same_key k key) (Some (unwrap_or (get key_cmp old key) [] ++ row ∷ [])) (get key_cmp old key)) own_is))

pub IsByKey-same : (asked : Row → Bool) (by_key : BTreeMap Key (List Row)) (rows : List Row) (i : ℕ) (row : Row) → i < length rows → row ≡ get_or rows i row → asked row ≡ false
    → IsByKey by_key (filter asked (take i rows)) → IsByKey by_key (filter asked (take (i + 1) rows))
IsByKey-same asked by_key rows i row within read fails grouped =
    subst (IsByKey by_key) (sym (without_next asked rows i row within read fails)) grouped
