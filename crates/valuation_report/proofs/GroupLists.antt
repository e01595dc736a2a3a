-- The entries of the map of rows by their keys are the groups that are asked for.
use Rattle.std.proofs.Common.{◌≡◌, ℕ, ◌<◌, Bool, true, false, cond, List, [], ◌∷◌, map, filter, Some, ◌⊎◌, inl, inr, refl, sym, ap, ◌∙◌, subst, arith, IsSome}
use Rattle.std.specs.Prelude.{Contains, Option, unwrap_or}
use Rattle.std.specs.BTreeMap.{BTreeMap, get, keys, IsOrdered}
use Rattle.std.specs.Cmp.{IsTotalOrder, nat_cmp_is}
use Rattle.std.specs.Ordering.{nat_cmp, ordering_then}
use Rattle.std.specs.declared.cmp.Ordering.{Ordering}
use Rattle.std.proofs.lemmas.Bool.{cases_lt}
use Rattle.std.specs.List.{All, AllByRecursion}
use Rattle.std.proofs.lemmas.List.Elements.{All-head, All-tail, All-weaker}
use Rattle.std.proofs.lemmas.Map.Views.{All-found, btree_map_contains_key_iff}
use Rattle.std.proofs.lemmas.Map.Lookups.{CmpEqualImpliesEq}
use Rattle.std.specs.List.Sorted.{IsStrictlySortedBy}
use Rattle.std.proofs.lemmas.Map.Keys.{sorted_head, sorted_tail}
use Rattle.std.specs.declared.cmp.Ordering.TheVariants.{Less, Equal, Greater}
use Rattle.std.proofs.lemmas.Bool.{false≢true}
use Rattle.std.proofs.lemmas.Bool.Decides.{nat_tests}
use Rattle.stock_nums.specs.declared.entry.Key.{Key}
use Rattle.stock_nums.specs.declared.entry.Row.{Row}
use Rattle.stock_nums.specs.declared.head.Head.{Head}
use Rattle.stock_nums.specs.contracts.entry.KeyOrd.TheImpl.Laws as key_laws
use Rattle.stock_model.specs.declared.queries.Query.{Query}
use Rattle.stock_model.specs.Enough.{entry_key, is_same_key}
use Rattle.stock_model.specs.Sheets.{IsKeyBefore, keys_of, is_asked_key}
use Rattle.stock_model.specs.Sums.{is_of}
use Rattle.stock_laws.proofs.Enough.{is_same_key-true, is_same_key-refl}
use Rattle.stock_model.proofs.Pairwise.{Precedes, Pairwise, Pairwise-from_AllPairs, Pairwise-unique, Contains-cases, Contains-first, Contains-later}
use Rattle.stock_laws.proofs.SheetKeys.{keys_of-ascending, keys_of-of_rows, keys_of-complete}
use Rattle.valuation_report.specs.declared.grouping.Group.{Group}
use Rattle.valuation_report.specs.declared.holdings.Holding.{Holding}
use Rattle.valuation_report.specs.Grouping.{key_cmp, some_rows, some_holding, IsByKey, IsHeldByKey, is_asked_row}
use Rattle.valuation_report.specs.Holdings.{holding_of}
use Rattle.valuation_report.specs.Groups.{group_of}

-- the first of two comparisons decides, or they tie and the second does
less_then : (a b : ℕ) (rest : Ordering) → ordering_then (nat_cmp a b) rest ≡ Less → (a < b) ⊎ ((a ≡ b) × (rest ≡ Less))
less_then a b rest h =
    elim (cases_lt a b) [
      | inl below ↦ inl below
      | inr above ↦ elim (cases_lt b a) [
        | inl past ↦ let more : Greater ≡ nat_cmp a b = nat_cmp_is a b Greater past in
            let greater : Greater ≡ Less = ap (λ (o : Ordering). ordering_then o rest) more ∙ h in cc
        | inr upto ↦ let same : a ≡ b = omega arith in
            let tie : Equal ≡ nat_cmp a b = nat_cmp_is a b Equal same in
            inr (same, ap (λ (o : Ordering). ordering_then o rest) tie ∙ h)
      ]
    ]

less_is : (a b : ℕ) → nat_cmp a b ≡ Less → a < b
less_is a b h = elim (less_then a b Equal (ap (λ (o : Ordering). ordering_then o Equal) h)) [ inl below ↦ below | inr tie ↦ cc ]

-- the order of keys in a map is that of the sheets
pub less-before : (a b : Key) → key_cmp a b ≡ Less → IsKeyBefore a b
less-before a b h =
    elim (less_then a.item.0 b.item.0 (nat_cmp a.store.0 b.store.0) h) [
      | inl below ↦ grind (arith, nat_tests)
      | inr tie ↦ let below : a.store.0 < b.store.0 = less_is a.store.0 b.store.0 tie.1 in let same : a.item.0 ≡ b.item.0 = tie.0 in grind (arith, nat_tests)
    ]

key_order : IsTotalOrder key_cmp
key_order = key_laws.total-law

never_before_itself : (a : Key) → IsKeyBefore a a → ⊥
never_before_itself a h = grind (arith, nat_tests)

one_way : (a b : Key) → IsKeyBefore a b → IsKeyBefore b a → ⊥
one_way a b h k = grind (arith, nat_tests)

equal_then : (a b : ℕ) (rest : Ordering) → ordering_then (nat_cmp a b) rest ≡ Equal → (a ≡ b) × (rest ≡ Equal)
equal_then a b rest h =
    elim (cases_lt a b) [
      | inl below ↦ let less : Less ≡ nat_cmp a b = nat_cmp_is a b Less below in
          let equal : Less ≡ Equal = ap (λ (o : Ordering). ordering_then o rest) less ∙ h in cc
      | inr above ↦ elim (cases_lt b a) [
        | inl past ↦ let more : Greater ≡ nat_cmp a b = nat_cmp_is a b Greater past in
            let equal : Greater ≡ Equal = ap (λ (o : Ordering). ordering_then o rest) more ∙ h in cc
        | inr upto ↦ let same : a ≡ b = omega arith in
            let tie : Equal ≡ nat_cmp a b = nat_cmp_is a b Equal same in
            (same, ap (λ (o : Ordering). ordering_then o rest) tie ∙ h)
      ]
    ]

-- equal keys are one key
exact : CmpEqualImpliesEq key_cmp
exact a b h =
    let items = equal_then a.item.0 b.item.0 (nat_cmp a.store.0 b.store.0) h in
    let stores = equal_then a.store.0 b.store.0 Equal (ap (λ (o : Ordering). ordering_then o Equal) items.1) in
    λ i. record { item = record { 0 = items.0 i }; store = record { 0 = stores.0 i } }

precedes-from_sorted : (key : Key) (ks : List Key) → AllByRecursion (λ other. key_cmp key other ≡ Less) ks → Precedes IsKeyBefore key ks
precedes-from_sorted key [] h = tt
precedes-from_sorted key (k ∷ ks) h = (less-before key k h.0, precedes-from_sorted key ks h.1)

pairwise-from_sorted : (ks : List Key) → IsStrictlySortedBy key_cmp ks → Pairwise IsKeyBefore ks
pairwise-from_sorted [] h = tt
pairwise-from_sorted (k ∷ ks) h = (precedes-from_sorted k ks (sorted_head key_cmp k ks h), pairwise-from_sorted ks (sorted_tail key_cmp k ks h))

-- what is left of a list in order is in order
precedes-filter : (p : Key → Bool) (key : Key) (ks : List Key) → Precedes IsKeyBefore key ks → Precedes IsKeyBefore key (filter p ks)
precedes-filter p key [] h = tt
precedes-filter p key (k ∷ ks) h =
    elim (p k) as (λ b. Precedes IsKeyBefore key (cond b (k ∷ filter p ks) (filter p ks))) [
      | true ↦ (h.0, precedes-filter p key ks h.1)
      | false ↦ precedes-filter p key ks h.1
    ]

pairwise-filter : (p : Key → Bool) (ks : List Key) → Pairwise IsKeyBefore ks → Pairwise IsKeyBefore (filter p ks)
pairwise-filter p [] h = tt
pairwise-filter p (k ∷ ks) h =
    elim (p k) as (λ b. Pairwise IsKeyBefore (cond b (k ∷ filter p ks) (filter p ks))) [
      | true ↦ (precedes-filter p k ks h.0, pairwise-filter p ks h.1)
      | false ↦ pairwise-filter p ks h.1
    ]

-- what a filter leaves is what passes
filter-from : {X : Type 0} (p : X → Bool) (xs : List X) (z : X) → Contains (filter p xs) z → Contains xs z × (p z ≡ true)
filter-from p [] z c = absurd (omega (arith, c.1))
filter-from {X = X} p (x ∷ xs) z c =
    let step : (b : Bool) → p x ≡ b → Contains (cond b (x ∷ filter p xs) (filter p xs)) z → Contains (x ∷ xs) z × (p z ≡ true) =
    λ b. elim b as (λ v. p x ≡ v → Contains (cond v (x ∷ filter p xs) (filter p xs)) z → Contains (x ∷ xs) z × (p z ≡ true)) [
      | true ↦ λ is d. elim (Contains-cases x (filter p xs) z d) [
        | inl e ↦ (subst (Contains (x ∷ xs)) e (Contains-first x xs), subst (λ (y : X). p y ≡ true) e is)
        | inr f ↦ let found = filter-from p xs z f in (Contains-later x xs z found.0, found.1)
      ]
      | false ↦ λ is d. let found = filter-from p xs z d in (Contains-later x xs z found.0, found.1)
    ] in
    step (p x) refl c

filter-to : {X : Type 0} (p : X → Bool) (xs : List X) (z : X) → Contains xs z → p z ≡ true → Contains (filter p xs) z
filter-to p [] z c passes = absurd (omega (arith, c.1))
filter-to {X = X} p (x ∷ xs) z c passes =
    let step : (b : Bool) → p x ≡ b → Contains (cond b (x ∷ filter p xs) (filter p xs)) z =
    λ b. elim b as (λ v. p x ≡ v → Contains (cond v (x ∷ filter p xs) (filter p xs)) z) [
      | true ↦ λ is. elim (Contains-cases x xs z c) [
        | inl e ↦ subst (Contains (x ∷ filter p xs)) e (Contains-first x (filter p xs))
        | inr d ↦ Contains-later x (filter p xs) z (filter-to p xs z d passes)
      ]
      | false ↦ λ is. elim (Contains-cases x xs z c) [
        | inl e ↦ absurd (false≢true (sym is ∙ subst (λ (y : X). p y ≡ true) (sym e) passes))
        | inr d ↦ filter-to p xs z d passes
      ]
    ] in
    step (p x) refl

-- where all that pass one test pass another, or none do
kept_all : {X : Type 0} (p q : X → Bool) → ((x : X) → p x ≡ true → q x ≡ true) → (xs : List X) → filter p (filter q xs) ≡ filter p xs
kept_all p q h [] = refl
kept_all p q h (x ∷ xs) =
    let step : (u v : Bool) → p x ≡ u → q x ≡ v → filter p (cond v (x ∷ filter q xs) (filter q xs)) ≡ cond u (x ∷ filter p xs) (filter p xs) =
    λ u v. elim u as (λ b. p x ≡ b → q x ≡ v → filter p (cond v (x ∷ filter q xs) (filter q xs)) ≡ cond b (x ∷ filter p xs) (filter p xs)) [
      | true ↦ elim v as (λ b. p x ≡ true → q x ≡ b → filter p (cond b (x ∷ filter q xs) (filter q xs)) ≡ x ∷ filter p xs) [
        | true ↦ λ passes is. ap (λ b. cond b (x ∷ filter p (filter q xs)) (filter p (filter q xs))) passes ∙ ap (λ ys. x ∷ ys) (kept_all p q h xs)
        | false ↦ λ passes is. absurd (false≢true (sym is ∙ h x passes))
      ]
      | false ↦ elim v as (λ b. p x ≡ false → q x ≡ b → filter p (cond b (x ∷ filter q xs) (filter q xs)) ≡ filter p xs) [
        | true ↦ λ fails is. ap (λ b. cond b (x ∷ filter p (filter q xs)) (filter p (filter q xs))) fails ∙ kept_all p q h xs
        | false ↦ λ fails is. kept_all p q h xs
      ]
    ] in
    step (p x) (q x) refl refl

kept_none : {X : Type 0} (p q : X → Bool) → ((x : X) → p x ≡ true → q x ≡ false) → (xs : List X) → filter p (filter q xs) ≡ []
kept_none p q h [] = refl
kept_none p q h (x ∷ xs) =
    let step : (u v : Bool) → p x ≡ u → q x ≡ v → filter p (cond v (x ∷ filter q xs) (filter q xs)) ≡ [] =
    λ u v. elim v as (λ b. p x ≡ u → q x ≡ b → filter p (cond b (x ∷ filter q xs) (filter q xs)) ≡ []) [
      | true ↦ elim u as (λ b. p x ≡ b → q x ≡ true → filter p (x ∷ filter q xs) ≡ []) [
        | true ↦ λ passes is. absurd (false≢true (sym (h x passes) ∙ is))
        | false ↦ λ fails is. ap (λ b. cond b (x ∷ filter p (filter q xs)) (filter p (filter q xs))) fails ∙ kept_none p q h xs
      ]
      | false ↦ λ passes is. kept_none p q h xs
    ] in
    step (p x) (q x) refl refl

-- rows, where there are any, are those rows
some_rows-is : (asked : Bool) (xs ys : List Row) → Some xs ≡ some_rows (cond asked ys []) → xs ≡ ys
some_rows-is true xs [] h = cc
some_rows-is true xs (y ∷ ys) h = cc
some_rows-is false xs ys h = cc

some_rows-first : (asked : Bool) (xs : List Row) → IsSome (some_rows (cond asked xs [])) → (asked ≡ true) × ((row : Row) × Contains xs row)
some_rows-first true [] h = absurd (false≢true h)
some_rows-first true (x ∷ xs) h = (refl, (x, Contains-first x xs))
some_rows-first false xs h = absurd (false≢true h)

some_rows-any : (asked : Bool) (xs : List Row) (row : Row) → asked ≡ true → Contains xs row → IsSome (some_rows (cond asked xs []))
some_rows-any true [] row h c = absurd (omega (arith, c.1))
some_rows-any true (x ∷ xs) row h c = refl
some_rows-any false xs row h c = absurd (false≢true h)

-- the same of what is held by rows
some_holding-is : (asked : Bool) (holding : Holding) (rows : List Row) → Some holding ≡ some_holding (cond asked rows []) → holding ≡ holding_of rows
some_holding-is true holding [] h = cc
some_holding-is true holding (row ∷ rows) h = ap (λ (found : Option Holding). unwrap_or found holding) h
some_holding-is false holding rows h = cc

some_holding-has : (rows : List Row) → IsSome (some_holding rows) → IsSome (some_rows rows)
some_holding-has [] h = h
some_holding-has (row ∷ rows) h = refl

some_holding-gives : (rows : List Row) → IsSome (some_rows rows) → IsSome (some_holding rows)
some_holding-gives [] h = h
some_holding-gives (row ∷ rows) h = refl

-- what is made of what was made
map-map : {X Y Z : Type 0} (f : Y → Z) (g : X → Y) (xs : List X) → map f (map g xs) ≡ map (λ x. f (g x)) xs
map-map f g [] = refl
map-map f g (x ∷ xs) = ap (λ zs. f (g x) ∷ zs) (map-map f g xs)

-- an entry of the map as a group
abbrev pub entry_group : Key × List Row → Group
entry_group entry = record { key = entry.0; rows = entry.1 }

-- what is held of the keys that are asked for
abbrev pub holdings_of : Query → List Head → List Row → List (Key × Holding)
holdings_of query heads rows = map (λ key. (key, holding_of (filter (is_of key) rows))) (filter (is_asked_key query heads) (keys_of rows))

-- of the rows that are asked for, a key has all its rows or none
module _ (query : Query) (heads : List Head) where
  own_asked : (key : Key) (row : Row) → is_of key row ≡ true → is_asked_row query heads row ≡ is_asked_key query heads key
  own_asked key row own = ap (is_asked_key query heads) (is_same_key-true (entry_key row.entry) key own)

  pub kept : (asked : Bool) (key : Key) (rows : List Row) → is_asked_key query heads key ≡ asked → filter (is_of key) (filter (is_asked_row query heads) rows) ≡ cond asked (filter (is_of key) rows) []
  kept true key rows is = kept_all (is_of key) (is_asked_row query heads) (λ row own. own_asked key row own ∙ is) rows
  kept false key rows is = kept_none (is_of key) (is_asked_row query heads) (λ row own. own_asked key row own ∙ is) rows

  -- a map that has at each key what is made of its rows, where there are any
  module _ {V : Type 0} (made : List Row → Option V) (has : (rows : List Row) → IsSome (made rows) → IsSome (some_rows rows)) (gives : (rows : List Row) → IsSome (some_rows rows) → IsSome (made rows)) where
    abbrev IsMadeByKey : BTreeMap Key V → List Row → Type 0
    IsMadeByKey by_key rows = (key : Key) → get key_cmp by_key key ≡ made (filter (is_of key) (filter (is_asked_row query heads) rows))

    -- what the map has at a key
    at_key : (by_key : BTreeMap Key V) (rows : List Row) (key : Key) → IsMadeByKey by_key rows → get key_cmp by_key key ≡ made (cond (is_asked_key query heads key) (filter (is_of key) rows) [])
    at_key by_key rows key grouped = grouped key ∙ ap made (kept (is_asked_key query heads key) key rows refl)

    -- its keys are those of the rows that are asked for
    key-from : (by_key : BTreeMap Key V) (rows : List Row) (key : Key) → IsMadeByKey by_key rows → Contains (keys by_key) key → Contains (filter (is_asked_key query heads) (keys_of rows)) key
    key-from by_key rows key grouped c =
        let found : IsSome (get key_cmp by_key key) = (btree_map_contains_key_iff key_order exact by_key key).1 c in
        let own_rows = cond (is_asked_key query heads key) (filter (is_of key) rows) [] in
        let some = some_rows-first (is_asked_key query heads key) (filter (is_of key) rows) (has own_rows (subst IsSome (at_key by_key rows key grouped) found)) in
        let row = some.1.0 in
        let own = filter-from (is_of key) rows row some.1.1 in
        filter-to (is_asked_key query heads) (keys_of rows) key (keys_of-complete rows key (row, own.0, is_same_key-true (entry_key row.entry) key own.1)) some.0

    key-to : (by_key : BTreeMap Key V) (rows : List Row) (key : Key) → IsMadeByKey by_key rows → Contains (filter (is_asked_key query heads) (keys_of rows)) key → Contains (keys by_key) key
    key-to by_key rows key grouped c =
        let among = filter-from (is_asked_key query heads) (keys_of rows) key c in
        let found = keys_of-of_rows rows key among.0 in
        let row = found.0 in
        let own : is_of key row ≡ true = subst (λ (k : Key). is_same_key (entry_key row.entry) k ≡ true) found.2 (is_same_key-refl (entry_key row.entry)) in
        let own_rows = cond (is_asked_key query heads key) (filter (is_of key) rows) [] in
        let some : IsSome (get key_cmp by_key key) = subst IsSome (sym (at_key by_key rows key grouped))
        (gives own_rows (some_rows-any (is_asked_key query heads key) (filter (is_of key) rows) row among.1 (filter-to (is_of key) rows row found.1 own))) in
        (btree_map_contains_key_iff key_order exact by_key key).0 some

    keys-are : (by_key : BTreeMap Key V) (rows : List Row) → IsOrdered key_cmp by_key → IsMadeByKey by_key rows → keys by_key ≡ filter (is_asked_key query heads) (keys_of rows)
    keys-are by_key rows order grouped =
        Pairwise-unique IsKeyBefore never_before_itself one_way (keys by_key) (filter (is_asked_key query heads) (keys_of rows)) (pairwise-from_sorted (keys by_key) order)
        (pairwise-filter (is_asked_key query heads) (keys_of rows) (Pairwise-from_AllPairs IsKeyBefore (keys_of rows) (keys_of-ascending rows)))
        (λ key c. key-from by_key rows key grouped c) (λ key c. key-to by_key rows key grouped c)

    -- its entries, where what is made of rows is also made by a function of them
    module _ (of : List Row → V) (is_of_rows : (asked : Bool) (value : V) (rows : List Row) → Some value ≡ made (cond asked rows []) → value ≡ of rows) where
      -- the entry has what is made of the rows of its key
      abbrev HasOwn : List Row → Key × V → Type 0
      HasOwn rows entry = Some entry.1 ≡ made (cond (is_asked_key query heads entry.0) (filter (is_of entry.0) rows) [])

      entry-is : (rows : List Row) (entries : List (Key × V)) → All (HasOwn rows) entries
          → entries ≡ map (λ key. (key, of (filter (is_of key) rows))) (map (λ entry. entry.0) entries)
      entry-is rows [] all = refl
      entry-is rows (entry ∷ entries) all =
          ap (λ (value : V). (entry.0, value) ∷ entries) (is_of_rows (is_asked_key query heads entry.0) entry.1 (filter (is_of entry.0) rows) (All-head (HasOwn rows) entry entries all))
          ∙ ap (λ others. (entry.0, of (filter (is_of entry.0) rows)) ∷ others) (entry-is rows entries (All-tail (HasOwn rows) entry entries all))

      made-are : (by_key : BTreeMap Key V) (rows : List Row) → IsOrdered key_cmp by_key → IsMadeByKey by_key rows
          → by_key.entries ≡ map (λ key. (key, of (filter (is_of key) rows))) (filter (is_asked_key query heads) (keys_of rows))
      made-are by_key rows order grouped =
          entry-is rows by_key.entries
          (All-weaker (λ entry. get key_cmp by_key entry.0 ≡ Some entry.1) (HasOwn rows) (λ entry found. sym found ∙ at_key by_key rows entry.0 grouped) by_key.entries (All-found key_order by_key order))
          ∙ ap (map (λ key. (key, of (filter (is_of key) rows)))) (keys-are by_key rows order grouped)

  -- so the entries are the groups
  pub entries-are : (by_key : BTreeMap Key (List Row)) (rows : List Row) → IsOrdered key_cmp by_key → IsByKey by_key (filter (is_asked_row query heads) rows)
      → map entry_group by_key.entries ≡ map (group_of rows) (filter (is_asked_key query heads) (keys_of rows))
  entries-are by_key rows order grouped =
      ap (map entry_group) (made-are some_rows (λ own h. h) (λ own h. h) (λ own. own) some_rows-is by_key rows order grouped.at)
      ∙ map-map entry_group (λ key. (key, filter (is_of key) rows)) (filter (is_asked_key query heads) (keys_of rows))

  -- and the entries of a map of what is held are the holdings
  pub holdings-are : (by_key : BTreeMap Key Holding) (rows : List Row) → IsOrdered key_cmp by_key → IsHeldByKey by_key (filter (is_asked_row query heads) rows)
      → by_key.entries ≡ holdings_of query heads rows
  holdings-are by_key rows order held =
      made-are some_holding some_holding-has some_holding-gives holding_of some_holding-is by_key rows order held.at
