-- What a journal holds once the vouchers of a plan are posted.
use Rattle.std.proofs.Common.{◌≡◌, ℕ, ◌+◌, Bool, true, not, cond, List, [], ◌∷◌, ◌++◌, length, map, filter, sum_by, Option, refl, sym, ap, ◌∙◌, subst, arith}
use Rattle.std.specs.Option.{option_to_list}
use Rattle.std.proofs.lemmas.List.{append-nil}
use Rattle.std.proofs.lemmas.List.Sums.{sum_by-append}
use Rattle.stock_nums.specs.declared.entry.Entry.{Entry}
use Rattle.stock_nums.specs.declared.entry.Key.{Key}
use Rattle.stock_nums.specs.declared.moment.Moment.{Moment}
use Rattle.stock_model.specs.declared.records.Record.{Record}
use Rattle.stock_model.specs.declared.vouchers.IssueLine.{IssueLine}
use Rattle.stock_model.specs.declared.vouchers.ReceiptLine.{ReceiptLine}
use Rattle.stock_model.specs.declared.vouchers.Purpose.TheVariants.{Used}
use Rattle.stock_model.specs.declared.vouchers.What.{What}
use Rattle.stock_model.specs.declared.vouchers.What.TheVariants.{Issue, Receipt}
use Rattle.stock_model.specs.Enough.{enters_under, leaves_under}
use Rattle.stock_model.specs.Entries.{cancels, entries, movements, is_spared, all_entries}
use Rattle.stock_model.specs.Masters.{item_made, store_made}
use Rattle.stock_laws.proofs.LiveEntries.{all_entries-step}
use Rattle.stock_count.specs.Corrections.{Correction, issue_said, receipt_said}
use Rattle.stock_count.specs.Held.{key_with}
use Rattle.stock_count.specs.Plans.{IsIssue, IsReceipt}
use Rattle.stock_count.specs.Posted.{said, ArePosted}
use Rattle.stock_count.proofs.CountedUnits.{units_for}
use Rattle.stock_count.proofs.HeldSums.{units_moved}
use Rattle.stock_count.proofs.KeyCodes.{key_with-same}
use Rattle.stock_count.proofs.PostedLines.{Moves, issue-moves, receipt-moves}

-- the later journal has the same items and warehouses, and so many units more that entered and that left
pub record Step (journal later : List Record) (at : Moment) (came went : Key → ℕ) : Type 0 where
  pub keys : (item store : List ℕ) → key_with later item store ≡ key_with journal item store
  pub enters : (key : Key) → sum_by (units_moved at (enters_under key)) (all_entries later) ≡ sum_by (units_moved at (enters_under key)) (all_entries journal) + came key
  pub leaves : (key : Key) → sum_by (units_moved at (leaves_under key)) (all_entries later) ≡ sum_by (units_moved at (leaves_under key)) (all_entries journal) + went key

all-pass : {X : Type 0} (p : X → Bool) → ((x : X) → p x ≡ true) → (xs : List X) → filter p xs ≡ xs
all-pass p passes [] = refl
all-pass {X = X} p passes (x ∷ xs) =
    ap (λ (b : Bool). cond b (x ∷ filter p xs) (filter p xs)) (passes x) ∙ ap (λ (ys : List X). x ∷ ys) (all-pass p passes xs)

-- a record that takes nothing back brings its movements
added : (journal : List Record) (item : Record) → ((e : Entry) → is_spared item e ≡ true) → all_entries (journal ++ item ∷ []) ≡ all_entries journal ++ entries journal item
added journal item spares =
    all_entries-step journal item ∙ ap (λ (es : List Entry). es ++ entries journal item) (all-pass (is_spared item) spares (all_entries journal))

-- by how much a sum grows
grown : (f : Entry → ℕ) (journal : List Record) (item : Record) (n : ℕ) → ((e : Entry) → is_spared item e ≡ true) → sum_by f (entries journal item) ≡ n
    → sum_by f (all_entries (journal ++ item ∷ [])) ≡ sum_by f (all_entries journal) + n
grown f journal item n spares is =
    ap (sum_by f) (added journal item spares) ∙ sum_by-append f (all_entries journal) (entries journal item) ∙ ap (λ (m : ℕ). sum_by f (all_entries journal) + m) is

unchanged : (journal : List Record) (at : Moment) (came went : Key → ℕ) → ((key : Key) → came key ≡ 0) → ((key : Key) → went key ≡ 0) → Step journal (journal ++ []) at came went
unchanged journal at came went none_came none_went =
    subst (λ (later : List Record). Step journal later at came went) (sym (append-nil journal))
    (record {
      keys = λ item store. refl;
      enters = λ key. omega (arith, none_came key);
      leaves = λ key. omega (arith, none_went key);
    })

none-posted : (records : List Record) → map said records ≡ [] → records ≡ []
none-posted [] is = refl
none-posted (r ∷ rest) is = cc

-- the one record of a voucher
pub record IsOne (records : List Record) (what : What) : Type 0 where
  pub item : Record
  pub says : item.what ≡ what
  pub is : records ≡ item ∷ []

pub one-posted : (records : List Record) (what : What) → map said records ≡ what ∷ [] → IsOne records what
one-posted [] what is = cc
one-posted (r ∷ []) what is = let says : r.what ≡ what = cc in record { item = r; says = says; is = refl }
one-posted (r ∷ s ∷ rest) what is = cc

-- no record that says so takes another back
issue-spares : (item : Record) (at : Moment) (lines : List IssueLine) → item.what ≡ Issue at Used lines → (e : Entry) → is_spared item e ≡ true
unfolding cancels
issue-spares item at lines says e = ap (λ (what : What). not (cancels e.place.voucher.0 what)) says

receipt-spares : (item : Record) (at : Moment) (lines : List ReceiptLine) → item.what ≡ Receipt at lines → (e : Entry) → is_spared item e ≡ true
unfolding cancels
receipt-spares item at lines says e = ap (λ (what : What). not (cancels e.place.voucher.0 what)) says

issue-posted : (journal : List Record) (at : Moment) (item : Record) (lines : List IssueLine) → item.what ≡ Issue at Used lines
    → Step journal (journal ++ item ∷ []) at (λ key. 0) (λ key. sum_by (units_for journal key) (map issue_said lines))
issue-posted journal at item lines says =
    let n = length journal + 1 in
    let spares = issue-spares item at lines says in
    let own : (key : Key) → Moves at key (leaves_under key) (enters_under key) (entries journal item) (sum_by (units_for journal key) (map issue_said lines)) =
    λ key. subst (λ (what : What). Moves at key (leaves_under key) (enters_under key) (movements journal n what) (sum_by (units_for journal key) (map issue_said lines))) (sym says) (issue-moves journal n at key Used lines) in
    record {
      keys = key_with-same journal item (λ k. ap (item_made k) says) (λ k. ap (store_made k) says);
      enters = λ key. grown (units_moved at (enters_under key)) journal item 0 spares (own key).alone;
      leaves = λ key. grown (units_moved at (leaves_under key)) journal item (sum_by (units_for journal key) (map issue_said lines)) spares (own key).moves;
    }

receipt-posted : (journal : List Record) (at : Moment) (item : Record) (lines : List ReceiptLine) → item.what ≡ Receipt at lines
    → Step journal (journal ++ item ∷ []) at (λ key. sum_by (units_for journal key) (map receipt_said lines)) (λ key. 0)
receipt-posted journal at item lines says =
    let n = length journal + 1 in
    let spares = receipt-spares item at lines says in
    let own : (key : Key) → Moves at key (enters_under key) (leaves_under key) (entries journal item) (sum_by (units_for journal key) (map receipt_said lines)) =
    λ key. subst (λ (what : What). Moves at key (enters_under key) (leaves_under key) (movements journal n what) (sum_by (units_for journal key) (map receipt_said lines))) (sym says) (receipt-moves journal n at key lines) in
    record {
      keys = key_with-same journal item (λ k. ap (item_made k) says) (λ k. ap (store_made k) says);
      enters = λ key. grown (units_moved at (enters_under key)) journal item (sum_by (units_for journal key) (map receipt_said lines)) spares (own key).moves;
      leaves = λ key. grown (units_moved at (leaves_under key)) journal item 0 spares (own key).alone;
    }

-- what is missing leaves
pub issue-step : (journal : List Record) (at : Moment) (missing : List Correction) (voucher : Option What) (records : List Record) → IsIssue at missing voucher → ArePosted voucher records
    → Step journal (journal ++ records) at (λ key. 0) (λ key. sum_by (units_for journal key) missing)
issue-step journal at [] voucher records is posted =
    let none : records ≡ [] = none-posted records (posted ∙ ap option_to_list is) in
    subst (λ (them : List Record). Step journal (journal ++ them) at (λ key. 0) (λ key. 0)) (sym none)
    (unchanged journal at (λ key. 0) (λ key. 0) (λ key. refl) (λ key. refl))
issue-step journal at (first ∷ rest) voucher records (lines, is, told) posted =
    let one = one-posted records (Issue at Used lines) (posted ∙ ap option_to_list is) in
    subst (λ (them : List Record). Step journal (journal ++ them) at (λ key. 0) (λ key. sum_by (units_for journal key) (first ∷ rest))) (sym one.is)
    (subst (λ (them : List Correction). Step journal (journal ++ one.item ∷ []) at (λ key. 0) (λ key. sum_by (units_for journal key) them)) told
    (issue-posted journal at one.item lines one.says))

-- what there is too much enters
pub receipt-step : (journal : List Record) (at : Moment) (more : List Correction) (voucher : Option What) (records : List Record) → IsReceipt at more voucher → ArePosted voucher records
    → Step journal (journal ++ records) at (λ key. sum_by (units_for journal key) more) (λ key. 0)
receipt-step journal at [] voucher records is posted =
    let none : records ≡ [] = none-posted records (posted ∙ ap option_to_list is) in
    subst (λ (them : List Record). Step journal (journal ++ them) at (λ key. 0) (λ key. 0)) (sym none)
    (unchanged journal at (λ key. 0) (λ key. 0) (λ key. refl) (λ key. refl))
receipt-step journal at (first ∷ rest) voucher records (lines, is, told) posted =
    let one = one-posted records (Receipt at lines) (posted ∙ ap option_to_list is) in
    subst (λ (them : List Record). Step journal (journal ++ them) at (λ key. sum_by (units_for journal key) (first ∷ rest)) (λ key. 0)) (sym one.is)
    (subst (λ (them : List Correction). Step journal (journal ++ one.item ∷ []) at (λ key. sum_by (units_for journal key) them) (λ key. 0)) told
    (receipt-posted journal at one.item lines one.says))
