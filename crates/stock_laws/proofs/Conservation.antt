-- What was received is in stock, on its way, or went by what was sold, used or given back.
use Rattle.std.proofs.Common.{◌≡◌, ℕ, ◌+◌, ◌≤◌, Bool, true, false, ◌&&◌, not, List, [], ◌∷◌, take, map, sum_by, inl, inr, refl, sym, ap, ◌∙◌, subst, arith}
use Rattle.std.specs.Prelude.{◌||◌, Contains}
use Rattle.std.specs.List.{list_any}
use Rattle.std.proofs.lemmas.Bool.{false≢true}
use Rattle.std.proofs.lemmas.Bool.Decides.{nat_tests}
use Rattle.std.proofs.lemmas.List.Elements.{filter_agree}
use Rattle.std.proofs.lemmas.List.Sums.{sum_by-cons}
use Rattle.stock_nums.specs.Causes.{is_entering}
use Rattle.stock_nums.specs.declared.entry.Entry.{Entry}
use Rattle.stock_nums.specs.declared.entry.Key.{Key}
use Rattle.stock_nums.specs.declared.entry.Row.{Row}
use Rattle.stock_model.specs.declared.records.Record.{Record}
use Rattle.stock_model.specs.Conservation.{received, purchases, charges, in_stock, sent, arrived, in_transit, sold, came_back, cost_of_sales, used, given_back}
use Rattle.stock_model.specs.Enough.{entry_key, is_same_key}
use Rattle.stock_model.specs.Journals.{AreLegal}
use Rattle.stock_model.specs.PostingOrder.{posting_line}
use Rattle.stock_model.specs.Replay.{replay}
use Rattle.stock_model.specs.Sheets.{IsKeyBefore, keys_of}
use Rattle.stock_model.specs.Sums.{row_entry, value_of, value_in, value_out, stock_value}
use Rattle.stock_laws.proofs.Conserved.{Conserved, enters_where, leaves_where, key_in, key_out, but_key, key_in-split, key_out-split, value_out-le_in}
use Rattle.stock_laws.proofs.Enough.{is_same_key-true, is_same_key-refl}
use Rattle.stock_laws.proofs.Formulas.{posting_line-formula}
use Rattle.stock_laws.proofs.LegalReplay.{IsLegalLine-journal}
use Rattle.stock_model.proofs.Pairwise.{Each, Precedes, Pairwise, Pairwise-from_AllPairs, Contains-cases, Contains-first, Contains-later}
use Rattle.stock_laws.proofs.Received.{received-le}
use Rattle.stock_laws.proofs.SheetKeys.{keys_of-ascending, keys_of-complete}
use Rattle.stock_laws.proofs.TestedSums.{tested-same_of}
use Rattle.stock_laws.proofs.Totals.{any_key, entering-all, leaving-all, arrived-le, came_back-le}
use Rattle.stock_laws.proofs.Valuation.{Kept, Kept-take, rows_of-take}

-- the key is one of these
abbrev pub is_one_of : List Key → Key → Bool
is_one_of keys key = list_any (is_same_key key) keys

same_key_not-before : (a b : Key) → IsKeyBefore a b → is_same_key a b ≡ false
same_key_not-before a b h = grind (arith, nat_tests)

-- a key that comes before all of these is none of them
none-before : (key : Key) (keys : List Key) → Precedes IsKeyBefore key keys → is_one_of keys key ≡ false
none-before key [] h = refl
none-before key (k ∷ keys) h =
    ap (λ (b : Bool). b || is_one_of keys key) (same_key_not-before key k h.0) ∙ none-before key keys h.1

first-parted : (same one : Bool) → (same ≡ true → one ≡ false) → ((same || one) && not same) ≡ one
first-parted true one h = sym (h refl)
first-parted false true h = refl
first-parted false false h = refl

-- but for the first key, the keys that are one of these are one of the others
but-first : (key : Key) (keys : List Key) → is_one_of keys key ≡ false → (k : Key) → but_key (is_one_of (key ∷ keys)) key k ≡ is_one_of keys k
but-first key keys none k =
    first-parted (is_same_key k key) (is_one_of keys k) (λ same. ap (is_one_of keys) (is_same_key-true k key same) ∙ none)

key_in-same : (p q : Key → Bool) → ((k : Key) → p k ≡ q k) → (rows : List Row) → key_in p rows ≡ key_in q rows
key_in-same p q agree rows =
    ap (sum_by value_of) (filter_agree (enters_where p) (enters_where q) (λ row. ap (λ (b : Bool). b && is_entering row.entry.place.side) (agree (entry_key row.entry))) rows)

key_out-same : (p q : Key → Bool) → ((k : Key) → p k ≡ q k) → (rows : List Row) → key_out p rows ≡ key_out q rows
key_out-same p q agree rows =
    ap (sum_by value_of) (filter_agree (leaves_where p) (leaves_where q) (λ row. ap (λ (b : Bool). b && not (is_entering row.entry.place.side)) (agree (entry_key row.entry))) rows)

first-one : (key : Key) (keys : List Key) → is_one_of (key ∷ keys) key ≡ true
first-one key keys = ap (λ (b : Bool). b || is_one_of keys key) (is_same_key-refl key)

none-of_nil : (rows : List Row) → key_in (is_one_of []) rows ≡ 0
none-of_nil [] = refl
none-of_nil (row ∷ rows) = none-of_nil rows

none-out_of_nil : (rows : List Row) → key_out (is_one_of []) rows ≡ 0
none-out_of_nil [] = refl
none-out_of_nil (row ∷ rows) = none-out_of_nil rows

-- the stocks of different keys are together what entered of them less what left
pub stocks : (rows : List Row) (keys : List Key) → Pairwise IsKeyBefore keys → ((key : Key) → value_out rows key ≤ value_in rows key)
    → sum_by (stock_value rows) keys + key_out (is_one_of keys) rows ≡ key_in (is_one_of keys) rows
stocks rows [] order covered = omega (arith, none-of_nil rows, none-out_of_nil rows)
stocks rows (key ∷ keys) order covered =
    let first = first-one key keys in
    let others = but-first key keys (none-before key keys order.0) in
    omega (
      arith,
      sum_by-cons (stock_value rows) key keys,
      stocks rows keys order.1 covered,
      covered key,
      key_in-split (is_one_of (key ∷ keys)) key rows first,
      key_out-split (is_one_of (key ∷ keys)) key rows first,
      key_in-same (but_key (is_one_of (key ∷ keys)) key) (is_one_of keys) others rows,
      key_out-same (but_key (is_one_of (key ∷ keys)) key) (is_one_of keys) others rows,
    )

-- a key that is among these is one of them
one_of-Contains : (keys : List Key) (key : Key) → Contains keys key → is_one_of keys key ≡ true
one_of-Contains [] key c = absurd (omega (arith, c.1))
one_of-Contains (k ∷ keys) key c =
    elim (is_same_key key k) as (λ b. (is_same_key key k ≡ b) → (b || is_one_of keys key) ≡ true) [
      | true ↦ λ is. refl
      | false ↦ λ is. elim (Contains-cases k keys key c) [
        | inl same ↦ absurd (false≢true (sym is ∙ ap (is_same_key key) same ∙ is_same_key-refl key))
        | inr later ↦ one_of-Contains keys key later
      ]
    ] refl

abbrev pub HasKeyOf : List Key → Entry → Type 0
HasKeyOf keys e = is_one_of keys (entry_key e) ≡ true

-- each row has one of the keys
pub rows-keyed : (all rows : List Row) → ((row : Row) → Contains rows row → Contains all row) → Each (HasKeyOf (keys_of all)) (map row_entry rows)
rows-keyed all [] within = tt
rows-keyed all (row ∷ rows) within = (
  one_of-Contains (keys_of all) (entry_key row.entry) (keys_of-complete all (entry_key row.entry) (row, within row (Contains-first row rows), refl)),
  rows-keyed all rows (λ r c. within r (Contains-later row rows r c)),
)

all-in : (rows : List Row) → key_in (is_one_of (keys_of rows)) rows ≡ key_in any_key rows
all-in rows =
    tested-same_of row_entry value_of (enters_where (is_one_of (keys_of rows))) (enters_where any_key) (HasKeyOf (keys_of rows))
    (λ row has. ap (λ (b : Bool). b && is_entering row.entry.place.side) has) rows (rows-keyed rows rows (λ row c. c))

all-out : (rows : List Row) → key_out (is_one_of (keys_of rows)) rows ≡ key_out any_key rows
all-out rows =
    tested-same_of row_entry value_of (leaves_where (is_one_of (keys_of rows))) (leaves_where any_key) (HasKeyOf (keys_of rows))
    (λ row has. ap (λ (b : Bool). b && not (is_entering row.entry.place.side)) has) rows (rows-keyed rows rows (λ row c. c))

pub in_stock-is : (rows : List Row) → Conserved rows → in_stock rows + key_out any_key rows ≡ key_in any_key rows
in_stock-is rows conserved =
    let order = Pairwise-from_AllPairs IsKeyBefore (keys_of rows) (keys_of-ascending rows) in
    omega (arith, stocks rows (keys_of rows) order (value_out-le_in rows conserved.keys), all-in rows, all-out rows)

-- the first rows of a legal journal's replay are kept
first-rows : (journal : List Record) (n : ℕ) → AreLegal journal → Kept (posting_line-formula journal).0 journal (take n (replay journal))
unfolding replay
first-rows journal n legal =
    subst (Kept (posting_line-formula journal).0 journal) (sym (rows_of-take journal (posting_line journal) n))
    (Kept-take (posting_line-formula journal).0 journal (posting_line journal) n (IsLegalLine-journal journal legal))

pub replay-conserved : (journal : List Record) (n : ℕ) → AreLegal journal
    → received (take n (replay journal))
    ≡ in_stock (take n (replay journal)) + in_transit (take n (replay journal)) + cost_of_sales (take n (replay journal)) + used (take n (replay journal)) + given_back (take n (replay journal))
replay-conserved journal n legal =
    let rows = take n (replay journal) in
    let kept = first-rows journal n legal in
    omega (arith, in_stock-is rows kept.conserved, entering-all rows, leaving-all rows, arrived-le rows kept.conserved, came_back-le rows kept.conserved)

pub replay-arrived : (journal : List Record) (n : ℕ) → AreLegal journal → arrived (take n (replay journal)) ≤ sent (take n (replay journal))
replay-arrived journal n legal = arrived-le (take n (replay journal)) (first-rows journal n legal).conserved

pub replay-came_back : (journal : List Record) (n : ℕ) → AreLegal journal → came_back (take n (replay journal)) ≤ sold (take n (replay journal))
replay-came_back journal n legal = came_back-le (take n (replay journal)) (first-rows journal n legal).conserved

pub replay-covered : (journal : List Record) (n : ℕ) (key : Key) → AreLegal journal → value_out (take n (replay journal)) key ≤ value_in (take n (replay journal)) key
replay-covered journal n key legal = value_out-le_in (take n (replay journal)) (first-rows journal n legal).conserved.keys key

pub replay-received : (journal : List Record) (n : ℕ) → AreLegal journal → received (take n (replay journal)) ≤ purchases (take n (replay journal)) + charges journal
replay-received journal n legal = received-le journal (take n (replay journal)) (first-rows journal n legal).priced
