-- A map that has what is held of each key, as rows are added.
use Rattle.std.proofs.Common.{◌≡◌, ℕ, ◌+◌, ◌<◌, ◌≤◌, Bool, true, false, cond, List, [], ◌∷◌, ◌++◌, length, take, drop, get_or, filter, Some, refl, sym, ap, ◌∙◌, subst, arith, length-append}
use Rattle.std.specs.Prelude.{Option, unwrap_or}
use Rattle.std.specs.BTreeMap.{BTreeMap, get, get_by, UpdatesBy}
use Rattle.std.proofs.Math.Seq.{get_or-append_seam}
use Rattle.std.proofs.lemmas.Grind.{common_steps}
use Rattle.std.proofs.lemmas.List.{append-nil, take-append-drop, take_at, drop_more}
use Rattle.std.proofs.lemmas.List.Elements.{filter-append}
use Rattle.stock_nums.specs.declared.entry.Key.{Key}
use Rattle.stock_nums.specs.declared.entry.Row.{Row}
use Rattle.stock_nums.specs.declared.head.Head.{Head}
use Rattle.stock_model.specs.declared.queries.Query.{Query}
use Rattle.stock_model.specs.Enough.{entry_key, is_same_key}
use Rattle.stock_model.specs.Sheets.{is_asked_key}
use Rattle.stock_model.specs.Sums.{is_of}
use Rattle.stock_laws.proofs.Enough.{is_same_key-refl}
use Rattle.valuation_report.specs.declared.holdings.Holding.{Holding}
use Rattle.valuation_report.specs.Grouping.{key_cmp, some_holding, IsHeldByKey, AreHeldByKey, is_asked_row}
use Rattle.valuation_report.specs.Holdings.{worth_in, worth_out, holding_of, next_holding, HasRoom, AreHeld}
use Rattle.valuation_report.proofs.GroupLists.{kept}
use Rattle.valuation_report.proofs.RowsByKey.{with_next, without_next}
use Rattle.valuation_report.proofs.RunningHoldings.{holding_of-snoc, room_for}

-- a value that was lent by a map comes back changed
pub lent : {V : Type 0} (change : Option V → V) (old new : BTreeMap Key V) (key : Key) (before after : V) → get_by (key_cmp key) old ≡ Some before → after ≡ change (Some before)
    → UpdatesBy key_cmp (key_cmp key) old new (Some after)
    → (other : Key) → get key_cmp new other ≡ cond (is_same_key key other) (Some (change (get key_cmp old other))) (get key_cmp old other)
lent change old new key before after found changed updated other = grind (arith, common_steps)

-- what is held by rows that there are or are not
some_holding-or : (rows : List Row) → unwrap_or (some_holding rows) (holding_of []) ≡ holding_of rows
some_holding-or [] = refl
some_holding-or (row ∷ rows) = refl

some_holding-snoc : (rows : List Row) (row : Row) → some_holding (rows ++ row ∷ []) ≡ Some (holding_of (rows ++ row ∷ []))
some_holding-snoc [] row = refl
some_holding-snoc (first ∷ rows) row = refl

by_test : (own : Bool) (rows : List Row) (row : Row) → worth_out rows ≤ worth_in rows
    → cond own (Some (next_holding (unwrap_or (some_holding rows) (holding_of [])) row)) (some_holding rows) ≡ some_holding (rows ++ cond own (row ∷ []) [])
by_test true rows row covered =
    ap (λ (holding : Holding). Some (next_holding holding row)) (some_holding-or rows)
    ∙ ap (λ (holding : Holding). Some holding) (sym (holding_of-snoc rows row covered))
    ∙ sym (some_holding-snoc rows row)
by_test false rows row covered = ap some_holding (sym (append-nil rows))

-- what is left of the first rows comes first of what is left
front-left : (p : Row → Bool) (rows : List Row) (i : ℕ) → filter p rows ≡ filter p (take i rows) ++ filter p (drop i rows)
front-left p rows i = ap (filter p) (sym (take-append-drop i rows)) ∙ filter-append p (take i rows) (drop i rows)

take-left : (p : Row → Bool) (rows : List Row) (i : ℕ) → take (length (filter p (take i rows))) (filter p rows) ≡ filter p (take i rows)
take-left p rows i =
    ap (take (length (filter p (take i rows)))) (front-left p rows i) ∙ take_at (filter p (take i rows)) (filter p (drop i rows)) (length (filter p (take i rows))) refl

module _ (query : Query) (heads : List Head) (rows : List Row) (held : AreHeldByKey rows) where
  abbrev asked : List Row → List Row
  asked some = filter (is_asked_row query heads) some

  -- what left was there before
  covered : (key : Key) (i : ℕ) → worth_out (filter (is_of key) (asked (take i rows))) ≤ worth_in (filter (is_of key) (asked (take i rows)))
  covered key i =
      let own = filter (is_of key) (take i rows) in
      let first : worth_out own ≤ worth_in own = subst (λ (some : List Row). worth_out some ≤ worth_in some) (take-left (is_of key) rows i) ((held.at key).never_negative (length own)) in
      let by_asked : (b : Bool) → worth_out (cond b own []) ≤ worth_in (cond b own []) = λ b. elim b as (λ v. worth_out (cond v own []) ≤ worth_in (cond v own [])) [
        | true ↦ first
        | false ↦ omega arith
      ] in
      subst (λ (some : List Row). worth_out some ≤ worth_in some) (sym (kept query heads (is_asked_key query heads key) key (take i rows) refl)) (by_asked (is_asked_key query heads key))

  -- a row that is asked for fits into what is held of its key
  pub room-by_key : (by_key : BTreeMap Key Holding) (i : ℕ) (row : Row) (own : Key) → i < length rows → row ≡ get_or rows i row → is_asked_key query heads own ≡ true → own ≡ entry_key row.entry
      → IsHeldByKey by_key (asked (take i rows)) → HasRoom (unwrap_or (get key_cmp by_key own) (holding_of [])) row
  room-by_key by_key i row own within read passes own_is so_far =
      let front = filter (is_of own) (take i rows) in
      let back = filter (is_of own) (drop (i + 1) rows) in
      let mine : is_of own row ≡ true = subst (λ (key : Key). is_same_key (entry_key row.entry) key ≡ true) (sym own_is) (is_same_key-refl (entry_key row.entry)) in
      let rest : filter (is_of own) (drop i rows) ≡ row ∷ back =
      ap (filter (is_of own)) (drop_more rows i row within ∙ ap (λ (r : Row). r ∷ drop (i + 1) rows) (sym read)) ∙ ap (λ (b : Bool). cond b (row ∷ back) back) mine in
      let all : filter (is_of own) rows ≡ front ++ row ∷ back = front-left (is_of own) rows i ∙ ap (λ (some : List Row). front ++ some) rest in
      let found : unwrap_or (get key_cmp by_key own) (holding_of []) ≡ holding_of front =
      ap (λ (o : Option Holding). unwrap_or o (holding_of [])) (so_far.at own ∙ ap some_holding (kept query heads true own (take i rows) passes)) ∙ some_holding-or front in
      room_for (front ++ row ∷ back) (length front) row (unwrap_or (get key_cmp by_key own) (holding_of [])) (subst AreHeld all (held.at own))
      (omega (arith, length-append front (row ∷ back))) (sym (get_or-append_seam front row back row)) (found ∙ ap holding_of (sym (take_at front (row ∷ back) (length front) refl)))

  -- the next of the rows, which is asked for or left out
  pub held-more : (old new : BTreeMap Key Holding) (i : ℕ) (row : Row) (own : Key) → i < length rows → row ≡ get_or rows i row → is_asked_row query heads row ≡ true → own ≡ entry_key row.entry
      → IsHeldByKey old (asked (take i rows))
      → ((key : Key) → get key_cmp new key ≡ cond (is_same_key own key) (Some (next_holding (unwrap_or (get key_cmp old key) (holding_of [])) row)) (get key_cmp old key))
      → IsHeldByKey new (asked (take (i + 1) rows))
  held-more old new i row own within read passes own_is so_far added = record {
    at = λ key.
        added key
        ∙ ap (λ (found : Option Holding). cond (is_same_key own key) (Some (next_holding (unwrap_or found (holding_of [])) row)) found) (so_far.at key)
        ∙ ap (λ (k : Key). cond (is_same_key k key) (Some (next_holding (unwrap_or (some_holding (filter (is_of key) (asked (take i rows)))) (holding_of [])) row)) (some_holding (filter (is_of key) (asked (take i rows))))) own_is
        ∙ by_test (is_of key row) (filter (is_of key) (asked (take i rows))) row (covered key i)
        ∙ ap some_holding (sym (filter-append (is_of key) (asked (take i rows)) (row ∷ [])) ∙ ap (filter (is_of key)) (sym (with_next (is_asked_row query heads) rows i row within read passes)));
  }

  pub held-same : (by_key : BTreeMap Key Holding) (i : ℕ) (row : Row) → i < length rows → row ≡ get_or rows i row → is_asked_row query heads row ≡ false
      → IsHeldByKey by_key (asked (take i rows)) → IsHeldByKey by_key (asked (take (i + 1) rows))
  held-same by_key i row within read fails so_far = subst (IsHeldByKey by_key) (sym (without_next (is_asked_row query heads) rows i row within read fails)) so_far
