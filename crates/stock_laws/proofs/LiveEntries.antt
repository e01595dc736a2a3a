-- Which movements of a journal are in force, and what one more record does to them: those that it takes back go, and its own come.
use Rattle.std.proofs.Common.{◌≡◌, ℕ, ◌+◌, ◌<◌, ◌≤◌, Bool, true, false, ◌&&◌, ◌||◌, not, cond, List, [], ◌∷◌, ◌++◌, length, drop, filter, refl, sym, ap, ◌∙◌, subst, arith, append_assoc, length-append}
use Rattle.std.specs.List.{list_any}
use Rattle.std.proofs.lemmas.List.{drop-append-le, drop_all}
use Rattle.std.proofs.lemmas.List.Elements.{filter-append}
use Rattle.std.proofs.lemmas.List.Folds.{list_any-append}
use Rattle.stock_nums.specs.declared.entry.Entry.{Entry}
use Rattle.stock_model.specs.declared.records.Record.{Record}
use Rattle.stock_model.specs.declared.vouchers.What.{What}
use Rattle.stock_model.specs.Entries.{movements, entries, entries_after, takes_back, is_live, is_live_entry, is_spared, all_entries}
use Rattle.stock_model.specs.VoucherLines.{moves_of}
use Rattle.stock_model.proofs.Growth.{entries_after-snoc}
use Rattle.stock_model.proofs.Pairwise.{Each, Each-all, Each-append, Each-weaker, Precedes, Pairwise}
use Rattle.stock_laws.proofs.LineEntries.{HoldsOf, movements-each}

-- the movements of a record have its number
abbrev pub IsOfNumber : ℕ → Entry → Type 0
IsOfNumber n e = e.place.voucher.0 ≡ n

pub movements-number : (journal : List Record) (n : ℕ) (what : What) → Each (IsOfNumber n) (movements journal n what)
movements-number journal n what =
    movements-each journal n what (IsOfNumber n)
    (λ at timed i line is found found_is item named. Each-all (HoldsOf n at (1 + i) line item (IsOfNumber n)) (λ move store. refl) (moves_of what line found))

-- the movement is of a record after the first ones and among so many
abbrev pub IsBetween : ℕ → ℕ → Entry → Type 0
IsBetween first last e = (first < e.place.voucher.0) × (e.place.voucher.0 ≤ last)

pub entries_after-between : (journal more : List Record) → Each (IsBetween (length journal) (length (journal ++ more))) (entries_after journal more)
entries_after-between journal [] = tt
entries_after-between journal (r ∷ more) =
    let next = journal ++ r ∷ [] in
    let between = IsBetween (length journal) (length (journal ++ r ∷ more)) in
    let longer = length-append journal (r ∷ []) in
    let all = ap length (append_assoc journal (r ∷ []) more) in
    let count = length-append next more in
    Each-append between (entries journal r) (entries_after next more)
    (Each-weaker (IsOfNumber (length journal + 1)) between (λ e is. (omega (arith, is), omega (arith, is, longer, all, count)))
    (entries journal r) (movements-number journal (length journal + 1) r.what))
    (Each-weaker (IsBetween (length next) (length (next ++ more))) between
    (λ e is. (omega (arith, is.0, longer), omega (arith, is.1, all))) (entries_after next more)
    (entries_after-between next more))

-- what a filter does where it is known which elements pass
module _ {X : Type 0} (P : X → Type 0) where
  pub filter-passes : (p : X → Bool) → ((x : X) → P x → p x ≡ true) → (xs : List X) → Each P xs → filter p xs ≡ xs
  filter-passes p passes [] all = refl
  filter-passes p passes (x ∷ xs) all =
      ap (λ (b : Bool). cond b (x ∷ filter p xs) (filter p xs)) (passes x all.0) ∙ ap (λ (ys : List X). x ∷ ys) (filter-passes p passes xs all.1)

  pub filter-fails : (p : X → Bool) → ((x : X) → P x → p x ≡ false) → (xs : List X) → Each P xs → filter p xs ≡ []
  filter-fails p fails [] all = refl
  filter-fails p fails (x ∷ xs) all =
      ap (λ (b : Bool). cond b (x ∷ filter p xs) (filter p xs)) (fails x all.0) ∙ filter-fails p fails xs all.1

  -- a test that is passed where two others are, keeps what the one and then the other keeps
  pub filter-parts : (p q both : X → Bool) → ((x : X) → P x → both x ≡ (p x && q x)) → (xs : List X) → Each P xs → filter both xs ≡ filter q (filter p xs)
  filter-parts p q both parts [] all = refl
  filter-parts p q both parts (x ∷ xs) all =
      let rest = filter-parts p q both parts xs all.1 in
      let own = ap (λ (b : Bool). cond b (x ∷ filter both xs) (filter both xs)) (parts x all.0)
      ∙ ap (λ (ys : List X). cond (p x && q x) (x ∷ ys) ys) rest in
      own ∙ (elim (p x) as (λ b. cond (b && q x) (x ∷ filter q (filter p xs)) (filter q (filter p xs)) ≡ filter q (cond b (x ∷ filter p xs) (filter p xs))) [ true ↦ refl | false ↦ refl ])

-- what holds of all holds of those that are kept
pub Each-filter : {X : Type 0} (P : X → Type 0) (p : X → Bool) (xs : List X) → Each P xs → Each P (filter p xs)
Each-filter P p [] all = tt
Each-filter P p (x ∷ xs) all =
    elim (p x) as (λ b. Each P (cond b (x ∷ filter p xs) (filter p xs))) [
      | true ↦ (all.0, Each-filter P p xs all.1)
      | false ↦ Each-filter P p xs all.1
    ]

pub Precedes-filter : {X : Type 0} (R : X → X → Type 0) (x : X) (p : X → Bool) (xs : List X) → Precedes R x xs → Precedes R x (filter p xs)
Precedes-filter R x p [] all = tt
Precedes-filter R x p (y ∷ ys) all =
    elim (p y) as (λ b. Precedes R x (cond b (y ∷ filter p ys) (filter p ys))) [
      | true ↦ (all.0, Precedes-filter R x p ys all.1)
      | false ↦ Precedes-filter R x p ys all.1
    ]

pub Pairwise-filter : {X : Type 0} (R : X → X → Type 0) (p : X → Bool) (xs : List X) → Pairwise R xs → Pairwise R (filter p xs)
Pairwise-filter R p [] all = tt
Pairwise-filter R p (x ∷ xs) all =
    elim (p x) as (λ b. Pairwise R (cond b (x ∷ filter p xs) (filter p xs))) [
      | true ↦ (Precedes-filter R x p xs all.0, Pairwise-filter R p xs all.1)
      | false ↦ Pairwise-filter R p xs all.1
    ]

pub length-filter-le : {X : Type 0} (p : X → Bool) (xs : List X) → length (filter p xs) ≤ length xs
length-filter-le p [] = omega arith
length-filter-le p (x ∷ xs) =
    elim (p x) as (λ b. length (cond b (x ∷ filter p xs) (filter p xs)) ≤ length (x ∷ xs)) [
      | true ↦ omega (arith, length-filter-le p xs)
      | false ↦ omega (arith, length-filter-le p xs)
    ]

-- what holds of the movements of all records holds of those in force
pub Each-live : (P : Entry → Type 0) (journal : List Record) → Each P (entries_after [] journal) → Each P (all_entries journal)
unfolding all_entries
Each-live P journal all = Each-filter P (is_live_entry journal) (entries_after [] journal) all

pub Pairwise-live : (R : Entry → Entry → Type 0) (journal : List Record) → Pairwise R (entries_after [] journal) → Pairwise R (all_entries journal)
unfolding all_entries
Pairwise-live R journal all = Pairwise-filter R (is_live_entry journal) (entries_after [] journal) all

-- the movements of one record are in force together, or none of them is
pub live-alike : (Q : List Entry → Type 0) (journal : List Record) (n : ℕ) (es : List Entry) → Each (IsOfNumber n) es → Q [] → Q es → Q (filter (is_live_entry journal) es)
live-alike Q journal n es own none all =
    let same : (e : Entry) → IsOfNumber n e → is_live_entry journal e ≡ is_live journal n = λ e is. ap (is_live journal) is in
    let step : (b : Bool) → is_live journal n ≡ b → Q (filter (is_live_entry journal) es) =
    λ b. elim b as (λ v. is_live journal n ≡ v → Q (filter (is_live_entry journal) es)) [
      | true ↦ λ live. subst Q (sym (filter-passes (IsOfNumber n) (is_live_entry journal) (λ e is. same e is ∙ live) es own)) all
      | false ↦ λ dead. subst Q (sym (filter-fails (IsOfNumber n) (is_live_entry journal) (λ e is. same e is ∙ dead) es own)) none
    ] in
    step (is_live journal n) refl

-- a record of before is in force where it was and the new one does not take it back
neither-not : (a b : Bool) → not (a || (b || false)) ≡ (not a && not b)
neither-not true b = refl
neither-not false true = refl
neither-not false false = refl

pub is_live-older : (journal : List Record) (item : Record) (n : ℕ) → n ≤ length journal → is_live (journal ++ item ∷ []) n ≡ (is_live journal n && not (takes_back n item))
is_live-older journal item n old =
    ap (λ (records : List Record). not (list_any (takes_back n) records)) (drop-append-le n journal (item ∷ []) old)
    ∙ ap not (list_any-append (takes_back n) (drop n journal) (item ∷ []))
    ∙ neither-not (list_any (takes_back n) (drop n journal)) (takes_back n item)

-- and the new one is
pub is_live-newest : (journal : List Record) (n : ℕ) → length journal ≤ n → is_live journal n ≡ true
is_live-newest journal n last = ap (λ (records : List Record). not (list_any (takes_back n) records)) (drop_all n journal last)

-- the movements that are in force with one more record: those of before that it does not take back, and its own
pub all_entries-step : (journal : List Record) (item : Record) → all_entries (journal ++ item ∷ []) ≡ filter (is_spared item) (all_entries journal) ++ entries journal item
unfolding all_entries
all_entries-step journal item =
    let next = journal ++ item ∷ [] in
    let live = is_live_entry next in
    let longer = length-append journal (item ∷ []) in
    let old : filter live (entries_after [] journal) ≡ filter (is_spared item) (filter (is_live_entry journal) (entries_after [] journal)) =
    filter-parts (IsBetween 0 (length journal)) (is_live_entry journal) (is_spared item) live
    (λ e is. is_live-older journal item e.place.voucher.0 is.1) (entries_after [] journal) (entries_after-between [] journal) in
    let own : filter live (entries journal item) ≡ entries journal item =
    filter-passes (IsOfNumber (length journal + 1)) live (λ e is. is_live-newest next e.place.voucher.0 (omega (arith, is, longer)))
    (entries journal item) (movements-number journal (length journal + 1) item.what) in
    ap (filter live) (entries_after-snoc [] journal item)
    ∙ filter-append live (entries_after [] journal) (entries journal item)
    ∙ ap (λ (es : List Entry). es ++ filter live (entries journal item)) old
    ∙ ap (λ (es : List Entry). filter (is_spared item) (filter (is_live_entry journal) (entries_after [] journal)) ++ es) own

-- so no more are in force than were and are new
pub length-all_entries-step : (journal : List Record) (item : Record) → length (all_entries (journal ++ item ∷ [])) ≤ length (all_entries journal) + length (entries journal item)
length-all_entries-step journal item =
    omega (
      arith,
      ap length (all_entries-step journal item),
      length-append (filter (is_spared item) (all_entries journal)) (entries journal item),
      length-filter-le (is_spared item) (all_entries journal),
    )
