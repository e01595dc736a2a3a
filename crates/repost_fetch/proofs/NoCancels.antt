-- Where no further record takes one back, nothing goes.
use Rattle.std.proofs.Common.{◌≡◌, ℕ, zero, suc, ◌+◌, ◌-◌, ◌&&◌, ◌||◌, Bool, true, false, cond, not, List, [], ◌∷◌, ◌++◌, length, length-drop, take, drop, filter, refl, sym, ap, ◌∙◌, arith}
use Rattle.std.proofs.lemmas.List.{take_all}
use Rattle.std.specs.List.{flat_map, enumerate_from, list_any}
use Rattle.stock_nums.specs.declared.entry.Entry.{Entry}
use Rattle.stock_model.specs.Entries.{cancels, takes_back, entries_after, is_live}
use Rattle.stock_model.specs.LandedCost.{record_charged}
use Rattle.stock_model.specs.declared.records.Record.{Record}
use Rattle.stock_model.specs.declared.vouchers.What.{What}
use Rattle.stock_model.specs.declared.vouchers.What.TheVariants.{Item, Store, Receipt, Issue, Transfer, CustomerReturn, SupplierReturn, Landed, Freeze, Cancel}
use Rattle.repost_laws.specs.Touched.{is_gone}
use Rattle.repost_fetch.specs.Cancels.{says_cancel, is_cancel, has_cancel}
use Rattle.repost_fetch.specs.Fetched.{is_taken, going, taken_charge, uncharged_after}

-- what is said takes no record back, where it is no cancel
says-none : (n : ℕ) (what : What) → says_cancel what ≡ false → cancels n what ≡ false
unfolding says_cancel cancels
says-none n (Item code method) none = refl
says-none n (Store code account) none = refl
says-none n (Receipt at lines) none = refl
says-none n (Issue at purpose lines) none = refl
says-none n (Transfer at lines) none = refl
says-none n (CustomerReturn at lines) none = refl
says-none n (SupplierReturn at lines) none = refl
says-none n (Landed charge basis targets) none = refl
says-none n (Freeze until) none = refl
says-none n (Cancel cancelled) none = absurd cc

-- of two tests neither passes
neither-passes : (a b : Bool) → (a || b) ≡ false → (a ≡ false) × (b ≡ false)
neither-passes true b none = absurd cc
neither-passes false b none = (refl, none)

-- none of the further records takes the record with this number back
module _ (n : ℕ) where
  none-takes : (more : List Record) → has_cancel more ≡ false → list_any (takes_back n) more ≡ false
  none-takes [] none = refl
  none-takes (item ∷ more) none =
      let both = neither-passes (is_cancel item) (has_cancel more) none in
      ap (λ (b : Bool). b || list_any (takes_back n) more) (says-none n item.what both.0) ∙ none-takes more both.1

  none-after : (k : ℕ) (more : List Record) → has_cancel more ≡ false → list_any (takes_back n) (drop k more) ≡ false
  none-after zero more none = none-takes more none
  none-after (suc k) [] none = refl
  none-after (suc k) (item ∷ more) none = none-after k more (neither-passes (is_cancel item) (has_cancel more) none).1

  -- so those after any record take it back that did before
  same-takers : (k : ℕ) (journal more : List Record) → has_cancel more ≡ false
      → list_any (takes_back n) (drop k (journal ++ more)) ≡ list_any (takes_back n) (drop k journal)
  same-takers zero [] more none = none-takes more none
  same-takers (suc k) [] more none = none-after (suc k) more none
  same-takers zero (item ∷ journal) more none = ap (λ (b : Bool). takes_back n item || b) (same-takers zero journal more none)
  same-takers (suc k) (item ∷ journal) more none = same-takers k journal more none

-- no record is taken back
none-taken : (journal more : List Record) → has_cancel more ≡ false → (n : ℕ) → is_taken journal more n ≡ false
none-taken journal more none n =
    ap (λ (b : Bool). is_live journal n && not (not b)) (same-takers n n journal more none) ∙ never (list_any (takes_back n) (drop n journal))
  where
    never : (b : Bool) → (not b && not (not b)) ≡ false
    never true = refl
    never false = refl

none-gone : (taken : ℕ → Bool) → ((n : ℕ) → taken n ≡ false) → (es : List Entry) → filter (is_gone taken) es ≡ []
none-gone taken none [] = refl
none-gone taken none (e ∷ es) =
    let rest = filter (is_gone taken) es in
    ap (λ (b : Bool). cond b (e ∷ rest) rest) (none e.place.voucher.0) ∙ none-gone taken none es

none-charged : (taken : ℕ → Bool) → ((n : ℕ) → taken n ≡ false) → (journal : List Record) (k : ℕ) (records : List Record)
    → flat_map (taken_charge taken journal) (enumerate_from k records) ≡ []
none-charged taken none journal k [] = refl
none-charged taken none journal k (item ∷ records) =
    let rest = flat_map (taken_charge taken journal) (enumerate_from (k + 1) records) in
    ap (λ (b : Bool). cond b (record_charged (take k journal) item) [] ++ rest) (none k) ∙ none-charged taken none journal (k + 1) records

-- so no movements go, and no charges
pub going-none : (journal more : List Record) → has_cancel more ≡ false → going journal more ≡ []
going-none journal more none = none-gone (is_taken journal more) (none-taken journal more none) (entries_after [] journal)

pub uncharged-none : (journal more : List Record) → has_cancel more ≡ false → uncharged_after journal more ≡ []
uncharged-none journal more none =
    none-charged (is_taken journal more) (none-taken journal more none) (journal ++ more) 1 (journal ++ more)

-- the further records, as a part of those that were lent
pub none-lent : (lent journal : List Record) (n : ℕ) → lent ≡ journal → has_cancel (take (length lent - n) (drop n lent)) ≡ false
    → has_cancel (drop n journal) ≡ false
none-lent lent journal n same none =
    ap (λ (rs : List Record). has_cancel (drop n rs)) (sym same)
    ∙ ap has_cancel (sym (take_all (length lent - n) (drop n lent) (omega (arith, length-drop n lent)))) ∙ none
