-- Which movements go with a record: none, or those of the one record that it cancels.
use Rattle.std.proofs.Common.{◌≡◌, ℕ, zero, suc, ◌<◌, ◌≤◌, Bool, true, false, ◌⊎◌, not, cond, List, [], ◌∷◌, length, filter, Some, inl, inr, refl, sym, ap, ◌∙◌, arith}
use Rattle.std.specs.Prelude.{nat_eq, slice_get}
use Rattle.std.proofs.lemmas.Bool.{false≢true}
use Rattle.std.proofs.lemmas.Bool.Decides.{nat_tests}
use Rattle.stock_model.specs.declared.records.Record.{Record}
use Rattle.stock_model.specs.Entries.{takes_back, is_live, is_live_entry, is_of_record, all_entries, entries_of}
use Rattle.stock_model.proofs.Pairwise.{Each}
use Rattle.stock_laws.proofs.GoneEntries.{own-live}
use Rattle.stock_laws.proofs.LiveEntries.{IsBetween, entries_after-between, filter-fails, Each-live}
use Rattle.quantity_check.proofs.Members.{IsIn, Each-own, Each-from_in}
use Rattle.record_effects.specs.Effects.{is_taken_back, gone_with}
use Rattle.record_effects.proofs.Effects.{in_force, taken_back-spared}

-- what takes nothing back takes no movement
pub gone_with-none : (journal : List Record) (item : Record) → ((k : ℕ) → takes_back k item ≡ false) → gone_with journal item ≡ []
gone_with-none journal item none =
    let all = all_entries journal in
    filter-fails (λ e. IsIn e all) (is_taken_back journal item)
    (λ e here. taken_back-spared journal item e here ∙ ap (λ (b : Bool). not (not b)) (none e.place.voucher.0)) all (Each-own all)

twice : (b : Bool) → not (not b) ≡ b
twice true = refl
twice false = refl

-- tests that agree on all elements keep the same ones
filter-alike : {X : Type 0} (P : X → Type 0) (p q : X → Bool) → ((x : X) → P x → p x ≡ q x) → (xs : List X) → Each P xs → filter p xs ≡ filter q xs
filter-alike P p q alike [] all = refl
filter-alike P p q alike (x ∷ xs) all =
    ap (λ (b : Bool). cond b (x ∷ filter p xs) (filter p xs)) (alike x all.0)
    ∙ ap (λ (ys : List _). cond (q x) (x ∷ ys) ys) (filter-alike P p q alike xs all.1)

-- a cancel takes the movements in force of the record that it names
pub gone_with-one : (journal : List Record) (item : Record) (n : ℕ) → ((k : ℕ) → takes_back k item ≡ nat_eq n k)
    → gone_with journal item ≡ filter (is_of_record n) (all_entries journal)
gone_with-one journal item n only =
    let all = all_entries journal in
    filter-alike (λ e. IsIn e all) (is_taken_back journal item) (is_of_record n)
    (λ e here. taken_back-spared journal item e here ∙ twice (takes_back e.place.voucher.0 item) ∙ only e.place.voucher.0) all (Each-own all)

is-number : (n k : ℕ) → nat_eq n k ≡ true → k ≡ n
is-number n k is = grind (arith, nat_tests)

other-number : (n k : ℕ) → (n ≡ k → ⊥) → nat_eq n k ≡ false
other-number n k other = grind (arith, nat_tests)

-- of a record that is in force no more no movement is
pub none-dead : (journal : List Record) (n : ℕ) → is_live journal n ≡ false → filter (is_of_record n) (all_entries journal) ≡ []
none-dead journal n dead =
    let all = all_entries journal in
    filter-fails (λ e. is_live_entry journal e ≡ true) (is_of_record n)
    (λ e live. other-number n e.place.voucher.0 (λ same. false≢true (sym dead ∙ ap (is_live journal) same ∙ live)))
    all (Each-from_in (λ e. is_live_entry journal e ≡ true) all (in_force journal))

-- nor of one that there is not
pub none-beyond : (journal : List Record) (n : ℕ) → (n ≡ 0) ⊎ (length journal < n) → filter (is_of_record n) (all_entries journal) ≡ []
none-beyond journal n beyond =
    filter-fails (IsBetween 0 (length journal)) (is_of_record n)
    (λ e is. other-number n e.place.voucher.0 (apart e.place.voucher.0 is.0 is.1)) (all_entries journal)
    (Each-live (IsBetween 0 (length journal)) journal (entries_after-between [] journal))
  where
    apart : (k : ℕ) → 0 < k → k ≤ length journal → n ≡ k → ⊥
    apart k first last same = elim beyond [ inl zero_is ↦ omega (arith, zero_is, first, same) | inr after ↦ omega (arith, after, last, same) ]

get-some : (records : List Record) (i : ℕ) → i < length records → (item : Record) × (slice_get records i ≡ Some item)
get-some [] i within = absurd (omega (arith, within))
get-some (r ∷ records) zero within = (r, refl)
get-some (r ∷ records) (suc i) within = get-some records i (omega (arith, within))

-- and of one in force all are
pub all-live : (journal : List Record) (n : ℕ) → 0 < n → n ≤ length journal → is_live journal n ≡ true
    → filter (is_of_record n) (all_entries journal) ≡ entries_of journal n
all-live journal zero first last live = absurd (omega (arith, first))
all-live journal (suc i) first last live =
    let held = get-some journal i (omega (arith, last)) in
    own-live journal (suc i) held.0 held.1 live
