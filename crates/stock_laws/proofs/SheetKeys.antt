-- The keys of a sheet are the one ascending list of the keys of its rows.
use Rattle.std.proofs.Common.{◌≡◌, Bool, true, false, cond, List, [], ◌∷◌, ◌⊎◌, inl, inr, refl, subst, fold, arith}
use Rattle.std.specs.Prelude.{AllPairs, Contains}
use Rattle.std.proofs.lemmas.Bool.Decides.{nat_tests}
use Rattle.stock_nums.specs.declared.entry.Key.{Key}
use Rattle.stock_nums.specs.declared.entry.Row.{Row}
use Rattle.stock_model.specs.Enough.{entry_key}
use Rattle.stock_model.specs.Sheets.{is_key_before, IsKeyBefore, put_key, put_key_of, keys_of, HasKey}
use Rattle.stock_model.proofs.Pairwise.{Precedes, Pairwise, AllPairs-from_Pairwise, Pairwise-from_AllPairs, Pairwise-unique, Contains-cases, Contains-first, Contains-later}

never_before_itself : (a : Key) → IsKeyBefore a a → ⊥
never_before_itself a h = grind (arith, nat_tests)

one_way : (a b : Key) → IsKeyBefore a b → IsKeyBefore b a → ⊥
one_way a b h k = grind (arith, nat_tests)

through : (a b c : Key) → IsKeyBefore a b → IsKeyBefore b c → IsKeyBefore a c
through a b c h k = grind (arith, nat_tests)

-- two keys of which neither comes first are one
neither : (a b : Key) → is_key_before a b ≡ false → is_key_before b a ≡ false → a ≡ b
neither a b h k =
    let items : a.item.0 ≡ b.item.0 = grind (arith, nat_tests) in
    let stores : a.store.0 ≡ b.store.0 = grind (arith, nat_tests) in
    λ i. record { item = record { 0 = items i }; store = record { 0 = stores i } }

along : (a b : Key) (keys : List Key) → IsKeyBefore a b → Precedes IsKeyBefore b keys → Precedes IsKeyBefore a keys
along a b [] h k = tt
along a b (c ∷ keys) h k = (through a b c h k.0, along a b keys h k.1)

-- what comes before each of the keys and before one more comes before each of the keys with that one
put_key-Precedes : (a : Key) (keys : List Key) (key : Key) → Precedes IsKeyBefore a keys → IsKeyBefore a key → Precedes IsKeyBefore a (put_key keys key)
put_key-Precedes a [] key h r = (r, tt)
put_key-Precedes a (k ∷ ks) key h r =
    elim (is_key_before key k) as (λ b. Precedes IsKeyBefore a (cond b (key ∷ k ∷ ks) (cond (is_key_before k key) (k ∷ put_key ks key) (k ∷ ks)))) [
      | true ↦ (r, h)
      | false ↦ elim (is_key_before k key) as (λ b. Precedes IsKeyBefore a (cond b (k ∷ put_key ks key) (k ∷ ks))) [
        | true ↦ (h.0, put_key-Precedes a ks key h.1 r)
        | false ↦ h
      ]
    ]

put_key-Pairwise : (keys : List Key) (key : Key) → Pairwise IsKeyBefore keys → Pairwise IsKeyBefore (put_key keys key)
put_key-Pairwise [] key h = (tt, tt)
put_key-Pairwise (k ∷ ks) key h =
    let later : (b : Bool) → is_key_before k key ≡ b → Pairwise IsKeyBefore (cond b (k ∷ put_key ks key) (k ∷ ks)) =
    λ b. elim b as (λ v. is_key_before k key ≡ v → Pairwise IsKeyBefore (cond v (k ∷ put_key ks key) (k ∷ ks))) [
      | true ↦ λ is. (put_key-Precedes k ks key h.0 is, put_key-Pairwise ks key h.1)
      | false ↦ λ is. h
    ] in
    let step : (b : Bool) → is_key_before key k ≡ b → Pairwise IsKeyBefore (cond b (key ∷ k ∷ ks) (cond (is_key_before k key) (k ∷ put_key ks key) (k ∷ ks))) =
    λ b. elim b as (λ v. is_key_before key k ≡ v → Pairwise IsKeyBefore (cond v (key ∷ k ∷ ks) (cond (is_key_before k key) (k ∷ put_key ks key) (k ∷ ks)))) [
      | true ↦ λ is. ((is, along key k ks is h.0), h)
      | false ↦ λ is. later (is_key_before k key) refl
    ] in
    step (is_key_before key k) refl

-- a key is among the keys with one more exactly where it is that one or was among them
put_key-from : (keys : List Key) (key z : Key) → Contains (put_key keys key) z → (key ≡ z) ⊎ Contains keys z
put_key-from [] key z c = Contains-cases key [] z c
put_key-from (k ∷ ks) key z c =
    let later : (b : Bool) → Contains (cond b (k ∷ put_key ks key) (k ∷ ks)) z → (key ≡ z) ⊎ Contains (k ∷ ks) z =
    λ b. elim b as (λ v. Contains (cond v (k ∷ put_key ks key) (k ∷ ks)) z → (key ≡ z) ⊎ Contains (k ∷ ks) z) [
      | true ↦ λ in_put. elim (Contains-cases k (put_key ks key) z in_put) [
        | inl e ↦ inr (subst (Contains (k ∷ ks)) e (Contains-first k ks))
        | inr d ↦ elim (put_key-from ks key z d) [ inl e ↦ inl e | inr f ↦ inr (Contains-later k ks z f) ]
      ]
      | false ↦ λ in_old. inr in_old
    ] in
    (elim (is_key_before key k) as (λ b. Contains (cond b (key ∷ k ∷ ks) (cond (is_key_before k key) (k ∷ put_key ks key) (k ∷ ks))) z → (key ≡ z) ⊎ Contains (k ∷ ks) z) [
      | true ↦ λ d. Contains-cases key (k ∷ ks) z d
      | false ↦ later (is_key_before k key)
    ]) c

put_key-old : (keys : List Key) (key z : Key) → Contains keys z → Contains (put_key keys key) z
put_key-old [] key z c = absurd (omega (arith, c.1))
put_key-old (k ∷ ks) key z c =
    elim (is_key_before key k) as (λ b. Contains (cond b (key ∷ k ∷ ks) (cond (is_key_before k key) (k ∷ put_key ks key) (k ∷ ks))) z) [
      | true ↦ Contains-later key (k ∷ ks) z c
      | false ↦ elim (is_key_before k key) as (λ b. Contains (cond b (k ∷ put_key ks key) (k ∷ ks)) z) [
        | true ↦ elim (Contains-cases k ks z c) [
          | inl e ↦ subst (Contains (k ∷ put_key ks key)) e (Contains-first k (put_key ks key))
          | inr d ↦ Contains-later k (put_key ks key) z (put_key-old ks key z d)
        ]
        | false ↦ c
      ]
    ]

put_key-new : (keys : List Key) (key : Key) → Contains (put_key keys key) key
put_key-new [] key = Contains-first key []
put_key-new (k ∷ ks) key =
    let later : (b : Bool) → is_key_before key k ≡ false → is_key_before k key ≡ b → Contains (cond b (k ∷ put_key ks key) (k ∷ ks)) key =
    λ b. elim b as (λ v. is_key_before key k ≡ false → is_key_before k key ≡ v → Contains (cond v (k ∷ put_key ks key) (k ∷ ks)) key) [
      | true ↦ λ h is. Contains-later k (put_key ks key) key (put_key-new ks key)
      | false ↦ λ h is. subst (Contains (k ∷ ks)) (neither k key is h) (Contains-first k ks)
    ] in
    let step : (b : Bool) → is_key_before key k ≡ b → Contains (cond b (key ∷ k ∷ ks) (cond (is_key_before k key) (k ∷ put_key ks key) (k ∷ ks))) key =
    λ b. elim b as (λ v. is_key_before key k ≡ v → Contains (cond v (key ∷ k ∷ ks) (cond (is_key_before k key) (k ∷ put_key ks key) (k ∷ ks))) key) [
      | true ↦ λ is. Contains-first key (k ∷ ks)
      | false ↦ λ is. later (is_key_before k key) is refl
    ] in
    step (is_key_before key k) refl

fold-Pairwise : (keys : List Key) (rows : List Row) → Pairwise IsKeyBefore keys → Pairwise IsKeyBefore (fold put_key_of keys rows)
fold-Pairwise keys [] h = h
fold-Pairwise keys (row ∷ rows) h = fold-Pairwise (put_key keys (entry_key row.entry)) rows (put_key-Pairwise keys (entry_key row.entry) h)

fold-old : (keys : List Key) (rows : List Row) (z : Key) → Contains keys z → Contains (fold put_key_of keys rows) z
fold-old keys [] z c = c
fold-old keys (row ∷ rows) z c = fold-old (put_key keys (entry_key row.entry)) rows z (put_key-old keys (entry_key row.entry) z c)

-- one more row has the keys of the others
HasKey-later : (row : Row) (rows : List Row) (z : Key) → HasKey rows z → HasKey (row ∷ rows) z
HasKey-later row rows z (found, c, e) = (found, Contains-later row rows found c, e)

fold-from : (keys : List Key) (rows : List Row) (z : Key) → Contains (fold put_key_of keys rows) z → Contains keys z ⊎ HasKey rows z
fold-from keys [] z c = inl c
fold-from keys (row ∷ rows) z c =
    elim (fold-from (put_key keys (entry_key row.entry)) rows z c) [
      | inl d ↦ elim (put_key-from keys (entry_key row.entry) z d) [
        | inl e ↦ inr (row, Contains-first row rows, e)
        | inr f ↦ inl f
      ]
      | inr h ↦ inr (HasKey-later row rows z h)
    ]

fold-of_rows : (keys : List Key) (rows : List Row) (row : Row) → Contains rows row → Contains (fold put_key_of keys rows) (entry_key row.entry)
fold-of_rows keys [] row c = absurd (omega (arith, c.1))
fold-of_rows keys (first ∷ rows) row c =
    elim (Contains-cases first rows row c) [
      | inl e ↦ fold-old (put_key keys (entry_key first.entry)) rows (entry_key row.entry)
          (subst (λ (r : Row). Contains (put_key keys (entry_key first.entry)) (entry_key r.entry)) e (put_key-new keys (entry_key first.entry)))
      | inr d ↦ fold-of_rows (put_key keys (entry_key first.entry)) rows row d
    ]

pub keys_of-ascending : (rows : List Row) → AllPairs IsKeyBefore (keys_of rows)
keys_of-ascending rows = AllPairs-from_Pairwise IsKeyBefore (keys_of rows) (fold-Pairwise [] rows tt)

pub keys_of-of_rows : (rows : List Row) (key : Key) → Contains (keys_of rows) key → HasKey rows key
keys_of-of_rows rows key c =
    elim (fold-from [] rows key c) [ inl d ↦ absurd (omega (arith, d.1)) | inr h ↦ h ]

pub keys_of-complete : (rows : List Row) (key : Key) → HasKey rows key → Contains (keys_of rows) key
keys_of-complete rows key (row, c, e) = subst (Contains (keys_of rows)) e (fold-of_rows [] rows row c)

pub keys_of-only : (rows : List Row) (keys : List Key) → AllPairs IsKeyBefore keys → ((key : Key) → Contains keys key → HasKey rows key)
    → ((key : Key) → HasKey rows key → Contains keys key) → keys ≡ keys_of rows
keys_of-only rows keys order from to =
    Pairwise-unique IsKeyBefore never_before_itself one_way keys (keys_of rows)
    (Pairwise-from_AllPairs IsKeyBefore keys order) (fold-Pairwise [] rows tt)
    (λ key c. keys_of-complete rows key (from key c)) (λ key c. to key (keys_of-of_rows rows key c))
