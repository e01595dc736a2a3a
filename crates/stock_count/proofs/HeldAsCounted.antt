-- Once the vouchers of a count's plan are posted, what was counted is held.
use Rattle.std.proofs.Common.{◌≡◌, ℕ, zero, suc, ℤ, pos, negsuc, ◌+◌, ◌-ℤ◌, Bool, true, false, List, [], ◌∷◌, ◌++◌, filter, sum_by, All, Option, Some, None, refl, sym, ap, ◌∙◌, subst, append_assoc, arith, unsigned_abs}
use Rattle.std.specs.Prelude.{int_lt, if◌then◌else◌}
use Rattle.std.specs.Option.{option_map_or}
use Rattle.std.specs.List.{IsDistinct, filter_map, cons_option}
use Rattle.std.proofs.lemmas.Bool.Decides.{nat_tests}
use Rattle.std.proofs.lemmas.Int.{ints}
use Rattle.stock_nums.specs.declared.entry.Key.{Key}
use Rattle.stock_nums.specs.declared.moment.Moment.{Moment}
use Rattle.stock_model.specs.declared.records.Record.{Record}
use Rattle.stock_model.specs.Enough.{enters_under, leaves_under, departed}
use Rattle.stock_model.specs.Entries.{all_entries}
use Rattle.stock_model.specs.Journals.{AreLegal}
use Rattle.stock_model.proofs.Pairwise.{Each}
use Rattle.stock_laws.proofs.TestedSums.{counted, All-from_Each}
use Rattle.voucher_import.specs.declared.sheet.CountLine.{CountLine}
use Rattle.voucher_import.specs.declared.sheet.CountSheet.{CountSheet}
use Rattle.stock_count.specs.declared.plan.CountPlan.{CountPlan}
use Rattle.stock_count.specs.Corrections.{Correction, correction, surplus}
use Rattle.stock_count.specs.Differences.{difference}
use Rattle.stock_count.specs.Held.{is_until, held, held_until, key_with}
use Rattle.stock_count.specs.Plans.{IsPlan}
use Rattle.stock_count.specs.Posted.{ArePosted, IsHeldAsCounted}
use Rattle.stock_count.proofs.CountedUnits.{made, same_codes, apart-front, apart-rest, units_for, units-own}
use Rattle.stock_count.proofs.HeldSums.{units_moved, sum-units_moved, held_until-any_order}
use Rattle.stock_count.proofs.KnownLines.{IsKnown, IsKnown-key, legal-rest, all-known}
use Rattle.stock_count.proofs.PostedSteps.{Step, issue-step, receipt-step}

abbrev is_less : ℤ → Bool
is_less diff = int_lt diff (pos 0)

abbrev is_more : ℤ → Bool
is_more diff = int_lt (pos 0) diff

-- a difference above nothing is one that there is too much, and no other is
more-above : (n : ℕ) → is_more (pos (suc n)) ≡ true
more-above n = grind (arith, nat_tests)

less-above : (n : ℕ) → is_less (pos n) ≡ false
less-above n = grind (arith, nat_tests)

balanced : (q came went more less : ℕ) (diff : ℤ) → diff ≡ pos q -ℤ (pos came -ℤ pos went) → diff ≡ pos more -ℤ pos less
    → pos (came + more) -ℤ pos (went + less) ≡ pos q
balanced q came went more less diff is made = omega (arith, ints, is, made)

above : (n more less : ℕ) → more ≡ suc n → less ≡ 0 → pos (suc n) ≡ pos more -ℤ pos less
above n more less m l = omega (arith, ints, m, l)

below : (n more less : ℕ) → more ≡ 0 → less ≡ suc n → negsuc n ≡ pos more -ℤ pos less
below n more less m l = omega (arith, ints, m, l)

-- what is held, once what was missing left and what there was too much entered
settled : (q came went : ℕ) (diff : ℤ) (more less : ℕ) → diff ≡ pos q -ℤ (pos came -ℤ pos went)
    → more ≡ counted (is_more diff) (unsigned_abs diff) → less ≡ counted (is_less diff) (unsigned_abs diff)
    → pos (came + more) -ℤ pos (went + less) ≡ pos q
settled q came went (pos zero) more less is m l = balanced q came went more less (pos zero) is (grind (arith, ints))
settled q came went (pos (suc n)) more less is m l =
    balanced q came went more less (pos (suc n)) is
    (above n more less (m ∙ ap (λ (b : Bool). counted b (suc n)) (more-above n)) (l ∙ ap (λ (b : Bool). counted b (suc n)) (less-above (suc n))))
settled q came went (negsuc n) more less is m l = balanced q came went more less (negsuc n) is (below n more less m l)

-- what is held of a key, as sums over the movements
held-sums : (journal : List Record) (at : Moment) (key : Key) → held_until journal at key
    ≡ pos (sum_by (units_moved at (enters_under key)) (all_entries journal)) -ℤ pos (sum_by (units_moved at (leaves_under key)) (all_entries journal))
held-sums journal at key =
    held_until-any_order journal at key
    ∙ ap (λ (n : ℕ). pos n -ℤ pos (departed (filter (is_until at) (all_entries journal)) key)) (sum-units_moved at (enters_under key) (all_entries journal))
    ∙ ap (λ (n : ℕ). pos (sum_by (units_moved at (enters_under key)) (all_entries journal)) -ℤ pos n) (sum-units_moved at (leaves_under key) (all_entries journal))

held-known : (journal : List Record) (item store : List ℕ) (at : Moment) (key : Key) → key_with journal item store ≡ Some key
    → held journal item store at ≡ pos (sum_by (units_moved at (enters_under key)) (all_entries journal)) -ℤ pos (sum_by (units_moved at (leaves_under key)) (all_entries journal))
held-known journal item store at key is = ap (λ (o : Option Key). option_map_or (held_until journal at) o (pos 0)) is ∙ held-sums journal at key

held-unknown : (journal : List Record) (item store : List ℕ) (at : Moment) → key_with journal item store ≡ None → held journal item store at ≡ pos 0
held-unknown journal item store at is = ap (λ (o : Option Key). option_map_or (held_until journal at) o (pos 0)) is

-- of what is made of some things what is made of one of them has what all have
Each-made : {X Y : Type 0} (P : Y → Type 0) (f : X → Option Y) (front : List X) (x : X) (rest : List X) (y : Y) → Each P (filter_map f (front ++ x ∷ rest)) → f x ≡ Some y → P y
Each-made {Y = Y} P f [] x rest y all is = (subst (λ (o : Option Y). Each P (cons_option o (filter_map f rest))) is all).0
Each-made P f (z ∷ front) x rest y all is =
    Each-made P f front x rest y (later (f z) (filter_map f (front ++ x ∷ rest)) all) is
  where
    later : (o : Option _) (ys : List _) → Each P (cons_option o ys) → Each P ys
    later None ys h = h
    later (Some w) ys h = h.1

-- an unknown line was counted 0, where what there was too much is known
unknown-none : (journal : List Record) (line : CountLine) (n : ℕ) (diff : ℤ) → line.qty.0 ≡ n → diff ≡ pos line.qty.0 -ℤ pos 0
    → ((c : Correction) → surplus line diff ≡ Some c → IsKnown journal c) → key_with journal line.item line.store ≡ None → pos 0 ≡ pos line.qty.0
unknown-none journal line zero diff is differs known unknown = ap pos (sym is)
unknown-none journal line (suc n) diff is differs known unknown =
    let more : diff ≡ pos (suc n) = grind (arith, ints) in
    let passes : is_more diff ≡ true = ap is_more more ∙ more-above n in
    absurd (IsKnown-key journal (correction line diff) (known (correction line diff) (ap (λ (b : Bool). if b then Some (correction line diff) else None) passes)) unknown)

module _ (journal : List Record) (sheet : CountSheet) (plan : CountPlan) (issues receipts : List Record) (is : IsPlan journal sheet plan)
    (issued : ArePosted plan.issue issues) (received : ArePosted plan.receipt receipts) (legal : AreLegal ((journal ++ issues) ++ receipts)) where
  abbrev next : List Record
  next = journal ++ issues

  abbrev last : List Record
  last = next ++ receipts

  abbrev diff : CountLine → ℤ
  diff line = difference journal sheet.at line

  first_step : Step journal next sheet.at (λ key. 0) (λ key. sum_by (units_for journal key) (filter_map (made is_less diff) sheet.lines))
  first_step = issue-step journal sheet.at _ plan.issue issues is.issue issued

  last_step : Step next last sheet.at (λ key. sum_by (units_for next key) (filter_map (made is_more diff) sheet.lines)) (λ key. 0)
  last_step = receipt-step next sheet.at _ plan.receipt receipts is.receipt received

  known : Each (IsKnown next) (filter_map (made is_more diff) sheet.lines)
  known = all-known next sheet.at _ plan.receipt receipts is.receipt received (legal-rest next receipts legal)

  held-line : (front : List CountLine) (line : CountLine) (rest : List CountLine) → sheet.lines ≡ front ++ line ∷ rest → IsHeldAsCounted last sheet.at line
  held-line front line rest parts =
      let next_key = first_step.keys line.item line.store in
      let last_key = last_step.keys line.item line.store ∙ next_key in
      let keys : IsDistinct same_codes (front ++ line ∷ rest) = subst (IsDistinct same_codes) parts sheet.keys in
      (elim (key_with journal line.item line.store) as (λ o. key_with journal line.item line.store ≡ o → IsHeldAsCounted last sheet.at line) [
        | None ↦ λ unknown.
            held-unknown last line.item line.store sheet.at (last_key ∙ unknown)
            ∙ unknown-none next line line.qty.0 (diff line) refl
            (ap (λ (z : ℤ). pos line.qty.0 -ℤ z) (held-unknown journal line.item line.store sheet.at unknown))
            (λ c some. Each-made (IsKnown next) (made is_more diff) front line rest c (subst (λ (lines : List CountLine). Each (IsKnown next) (filter_map (made is_more diff) lines)) parts known) some)
            (next_key ∙ unknown)
        | Some key ↦ λ found.
            let came = sum_by (units_moved sheet.at (enters_under key)) (all_entries journal) in
            let went = sum_by (units_moved sheet.at (leaves_under key)) (all_entries journal) in
            let before = apart-front front line rest keys in
            let after = apart-rest front line rest keys in
            let less : sum_by (units_for journal key) (filter_map (made is_less diff) sheet.lines) ≡ counted (is_less (diff line)) (unsigned_abs (diff line)) =
            ap (λ (lines : List CountLine). sum_by (units_for journal key) (filter_map (made is_less diff) lines)) parts ∙ units-own journal key is_less diff front line rest found before after in
            let more : sum_by (units_for next key) (filter_map (made is_more diff) sheet.lines) ≡ counted (is_more (diff line)) (unsigned_abs (diff line)) =
            ap (λ (lines : List CountLine). sum_by (units_for next key) (filter_map (made is_more diff) lines)) parts ∙ units-own next key is_more diff front line rest (next_key ∙ found) before after in
            let all_came : sum_by (units_moved sheet.at (enters_under key)) (all_entries last) ≡ came + sum_by (units_for next key) (filter_map (made is_more diff) sheet.lines) =
            omega (arith, last_step.enters key, first_step.enters key) in
            let all_went : sum_by (units_moved sheet.at (leaves_under key)) (all_entries last) ≡ went + sum_by (units_for journal key) (filter_map (made is_less diff) sheet.lines) =
            omega (arith, last_step.leaves key, first_step.leaves key) in
            held-known last line.item line.store sheet.at key (last_key ∙ found)
            ∙ ap (λ (n : ℕ). pos n -ℤ pos (sum_by (units_moved sheet.at (leaves_under key)) (all_entries last))) all_came
            ∙ ap (λ (n : ℕ). pos (came + sum_by (units_for next key) (filter_map (made is_more diff) sheet.lines)) -ℤ pos n) all_went
            ∙ settled line.qty.0 came went (diff line) _ _ (ap (λ (z : ℤ). pos line.qty.0 -ℤ z) (held-known journal line.item line.store sheet.at key found)) more less
      ]) refl

  held-lines : (front rest : List CountLine) → sheet.lines ≡ front ++ rest → Each (IsHeldAsCounted last sheet.at) rest
  held-lines front [] parts = tt
  held-lines front (line ∷ rest) parts = (held-line front line rest parts, held-lines (front ++ line ∷ []) rest (parts ∙ sym (append_assoc front (line ∷ []) rest)))

  pub all-held : All (IsHeldAsCounted last sheet.at) sheet.lines
  all-held = All-from_Each (IsHeldAsCounted last sheet.at) sheet.lines (held-lines [] sheet.lines refl)
