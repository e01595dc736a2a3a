-- Where each movement is what it is valued at from the others, all rows are those of the replay.
use Rattle.std.proofs.Common.{◌≡◌, ℕ, ◌≤◌, Bool, true, false, cond, List, [], ◌∷◌, ◌++◌, length, take, Option, Some, refl, sym, ap, ◌∙◌, subst, arith, append_assoc, Contains}
use Rattle.std.specs.List.{find, All}
use Rattle.std.specs.Option.{option_map_or}
use Rattle.std.proofs.lemmas.List.{append-nil, map-append, reverse-append, take-append-le, take_all}
use Rattle.std.proofs.lemmas.List.Elements.{All-head, All-tail}
use Rattle.std.proofs.lemmas.List.Sums.{fold-append}
use Rattle.stock_nums.specs.declared.cause.Method.{Method}
use Rattle.stock_nums.specs.declared.cause.Method.TheVariants.{Average}
use Rattle.stock_nums.specs.declared.cause.Target.{Target}
use Rattle.stock_nums.specs.declared.entry.Entry.{Entry}
use Rattle.stock_nums.specs.declared.entry.Key.{Key}
use Rattle.stock_nums.specs.declared.entry.Row.{Row}
use Rattle.stock_model.specs.declared.records.Record.{Record}
use Rattle.stock_model.specs.Bounds.{AreBounded}
use Rattle.stock_model.specs.Enough.{entry_key, is_of_key}
use Rattle.stock_model.specs.Formulas.{HasFormula}
use Rattle.stock_model.specs.InOrder.{IsInPostingOrder}
use Rattle.stock_model.specs.Journals.{AreLegal}
use Rattle.stock_model.specs.LandedCost.{added}
use Rattle.stock_model.specs.PostingOrder.{posting_line}
use Rattle.stock_model.specs.Replay.{valued, value_next, rows_of, replay}
use Rattle.stock_model.specs.Sums.{is_of, quantity_in, quantity_out}
use Rattle.stock_model.proofs.Pairwise.{Contains-first, Contains-later}
use Rattle.stock_laws.proofs.Enough.{is_same_key-true}
use Rattle.stock_laws.proofs.Formulas.{posting_line-formula}
use Rattle.stock_laws.proofs.LegalReplay.{IsLegalLine-journal}
use Rattle.stock_laws.proofs.PostingLine.{IsInPostingOrder-posting_line}
use Rattle.stock_laws.proofs.Valuation.{IsLegalLine, AreBounded-take_line, Kept, Kept-take}
use Rattle.cost_links.specs.Stocks.{IsAverageOf}
use Rattle.cost_links.specs.Tables.{Held}
use Rattle.cost_links.specs.Taken.{held_after, IsTakenFrom}
use Rattle.cost_links.proofs.StockSteps.{AreSumsWith-other}
use Rattle.cost_links.proofs.TakenValues.{IsAverageOf-after}
use Rattle.repost_laws.specs.Valuations.{Valued, Found, empty, no_worth, worth_of, after_of, found_row, found_rows, earlier, last_of_key, held_then, taken_from, valued_with, valuation, IsLocal, AreLocal}
use Rattle.repost_laws.proofs.EarlierOnes.{earlier-is_past}
use Rattle.repost_laws.proofs.FoundRows.{IsTakenFrom-found, valued-is}

-- the first movements of a line, and one more
take-past : (past rest : List Entry) → take (length past) (past ++ rest) ≡ past
take-past past rest = take-append-le (length past) past rest (omega arith) ∙ take_all (length past) past (omega arith)

pub take-next : (past : List Entry) (e : Entry) (rest : List Entry) → take (length (past ++ e ∷ [])) (past ++ e ∷ rest)
    ≡ past ++ e ∷ []
take-next past e rest = ap (take (length (past ++ e ∷ []))) (sym (append_assoc past (e ∷ []) rest))
    ∙ take-past (past ++ e ∷ []) rest

-- the last of the key, with one more movement
last-next : (past : List Entry) (e : Entry) (key : Key) → last_of_key (past ++ e ∷ []) key
    ≡ cond (is_of_key key e) (Some e) (last_of_key past key)
last-next past e key = ap (find (is_of_key key)) (reverse-append past (e ∷ []))

pub rows_of-next : (journal : List Record) (past : List Entry) (e : Entry) → rows_of journal (past ++ e ∷ [])
    ≡ value_next journal (rows_of journal past) e
rows_of-next journal past e = fold-append (value_next journal) [] past (e ∷ [])

-- what stands before a movement of a legal line: with it the rows are bounded, and no more left than entered
pub record CanFollow (journal : List Record) (past : List Entry) (e : Entry) : Type 0 where
  pub bounded : AreBounded (value_next journal (rows_of journal past) e)
  pub covered : (key : Key) → quantity_out (rows_of journal past) key ≤ quantity_in (rows_of journal past) key

pub CanFollow-legal : (formula : ℕ → Method) (journal : List Record) (past : List Entry) (e : Entry) (rest : List Entry)
    → IsLegalLine formula journal (past ++ e ∷ rest) → CanFollow journal past e
CanFollow-legal formula journal past e rest legal =
    let line = past ++ e ∷ rest in
    let next : AreBounded (rows_of journal (past ++ e ∷ [])) =
    subst (λ (es : List Entry). AreBounded (rows_of journal es)) (take-next past e rest)
    (AreBounded-take_line formula journal line (length (past ++ e ∷ [])) legal) in
    let kept : Kept formula journal (rows_of journal past) =
    subst (λ (es : List Entry). Kept formula journal (rows_of journal es)) (take-past past (e ∷ rest))
    (Kept-take formula journal line (length past) legal) in
    record { bounded = subst AreBounded (rows_of-next journal past e) next; covered = kept.costed.held }

-- what was found of the first movements is what the replay says of them: each row, and what is held of each item at the
-- moving average
pub record IsFoundSoFar (formula : ℕ → Method) (journal : List Record) (found : Found) (past : List Entry) : Type 0 where
  pub rows : found_rows found past ≡ rows_of journal past
  pub averages : (key : Key) → formula key.item.0 ≡ Average → IsAverageOf (rows_of journal past) key
      (held_then found (last_of_key past key))

pub IsFoundSoFar-nil : (formula : ℕ → Method) (journal : List Record) (found : Found) → IsFoundSoFar formula journal found []
IsFoundSoFar-nil formula journal found =
    record { rows = refl; averages = λ key average. record { quantity = refl; worth = refl } }

-- a row of another key leaves what is held
IsAverageOf-other : (rows : List Row) (row : Row) (key : Key) (held : Held) → is_of key row ≡ false → IsAverageOf rows key held
    → IsAverageOf (rows ++ row ∷ []) key held
IsAverageOf-other rows row key held is average =
    let sums = AreSumsWith-other rows row key is in
    record {
      quantity = omega (arith, average.quantity, sums.units_in, sums.units_out);
      worth = omega (arith, average.worth, sums.worth_in, sums.worth_out);
    }

-- one more movement, valued from what was found of those before it
IsFoundSoFar-next : (formula : ℕ → Method) (journal : List Record) (found : Found) (past : List Entry) (e : Entry)
    → CanFollow journal past e → HasFormula formula e
    → found e.place ≡ Some (valued_with (taken_from (added journal) found past e) e) → IsFoundSoFar formula journal found past
    → IsFoundSoFar formula journal found (past ++ e ∷ [])
IsFoundSoFar-next formula journal found past e follows has local so_far =
    let rows = rows_of journal past in
    let t = taken_from (added journal) found past e in
    let more = rows_of-next journal past e in
    let from : IsTakenFrom journal rows e t =
    IsTakenFrom-found journal rows found past e so_far.rows (λ method. so_far.averages (entry_key e) (sym has ∙ method)) in
    let own : found_row found e ≡ valued journal rows e =
    ap (λ (v : Option Valued). record { entry = e; worth = option_map_or worth_of v no_worth }) local
    ∙ valued-is journal rows e t from in
    let held : held_then found (Some e) ≡ held_after t e = ap (λ (v : Option Valued). option_map_or after_of v empty) local in
    record {
      rows = map-append (found_row found) past (e ∷ []) ∙ ap (λ (front : List Row). front ++ found_row found e ∷ []) so_far.rows
          ∙ ap (λ (row : Row). rows ++ row ∷ []) own ∙ sym more;
      averages = λ key average. subst (λ (rs : List Row). IsAverageOf rs key
          (held_then found (last_of_key (past ++ e ∷ []) key))) (sym more)
          (subst (λ (last : Option Entry). IsAverageOf (value_next journal rows e) key (held_then found last))
          (sym (last-next past e key))
          (by_cases key average from held (is_of_key key e) refl));
    }
  where
    by_cases : (key : Key) → formula key.item.0 ≡ Average → IsTakenFrom journal (rows_of journal past) e
        (taken_from (added journal) found past e)
        → held_then found (Some e) ≡ held_after (taken_from (added journal) found past e) e → (b : Bool) → is_of_key key e ≡ b
        → IsAverageOf (value_next journal (rows_of journal past) e) key (held_then found (cond b (Some e) (last_of_key past key)))
    by_cases key average from held false other =
        IsAverageOf-other (rows_of journal past) (valued journal (rows_of journal past) e) key
        (held_then found (last_of_key past key)) other (so_far.averages key average)
    by_cases key average from held true own =
        let same : entry_key e ≡ key = is_same_key-true (entry_key e) key own in
        let method : e.method ≡ Average = has ∙ ap (λ (k : Key). formula k.item.0) same ∙ average in
        let after = IsAverageOf-after journal (rows_of journal past) e
        (taken_from (added journal) found past e) from follows.bounded (follows.covered (entry_key e)) method in
        subst (λ (k : Key). IsAverageOf (value_next journal (rows_of journal past) e) k (held_then found (Some e))) same
        (subst (IsAverageOf (value_next journal (rows_of journal past) e) (entry_key e)) (sym held) after)

-- a local movement of a line is valued from what stands before it
local-past : (charged : Target → ℕ) (found : Found) (past : List Entry) (e : Entry) (rest : List Entry)
    → IsInPostingOrder (past ++ e ∷ rest) → IsLocal charged found (past ++ e ∷ rest) e
    → found e.place ≡ Some (valued_with (taken_from charged found past e) e)
local-past charged found past e rest ordered local =
    local ∙ ap (λ (es : List Entry). Some (valued_with (taken_from charged found es e) e)) (earlier-is_past past e rest ordered)

pub has-middle : (formula : ℕ → Method) (past : List Entry) (e : Entry) (rest : List Entry)
    → All (HasFormula formula) (past ++ e ∷ rest) → HasFormula formula e
has-middle formula [] e rest all = All-head (HasFormula formula) e rest all
has-middle formula (f ∷ past) e rest all = has-middle formula past e rest (All-tail (HasFormula formula) f (past ++ e ∷ rest) all)

-- and so one after another, to where each is local
pub IsFoundSoFar-all : (formula : ℕ → Method) (journal : List Record) (found : Found) (past more tail : List Entry)
    → IsLegalLine formula journal ((past ++ more) ++ tail) → IsInPostingOrder ((past ++ more) ++ tail)
    → ((e : Entry) → Contains more e → IsLocal (added journal) found ((past ++ more) ++ tail) e)
    → IsFoundSoFar formula journal found past → IsFoundSoFar formula journal found (past ++ more)
IsFoundSoFar-all formula journal found past [] tail legal ordered local so_far =
    subst (IsFoundSoFar formula journal found) (sym (append-nil past)) so_far
IsFoundSoFar-all formula journal found past (e ∷ more) tail legal ordered local so_far =
    let line = (past ++ e ∷ more) ++ tail in
    let here : line ≡ past ++ e ∷ (more ++ tail) = append_assoc past (e ∷ more) tail in
    let front : (past ++ e ∷ []) ++ more ≡ past ++ e ∷ more = append_assoc past (e ∷ []) more in
    let all : ((past ++ e ∷ []) ++ more) ++ tail ≡ line = ap (λ (es : List Entry). es ++ tail) front in
    let legal_here : IsLegalLine formula journal (past ++ e ∷ (more ++ tail)) = subst (IsLegalLine formula journal) here legal in
    let next = IsFoundSoFar-next formula journal found past e (CanFollow-legal formula journal past e (more ++ tail) legal_here)
    (has-middle formula past e (more ++ tail) legal_here.formulas)
    (local-past (added journal) found past e (more ++ tail) (subst IsInPostingOrder here ordered)
    (subst (λ (es : List Entry). IsLocal (added journal) found es e) here (local e (Contains-first e more)))) so_far in
    subst (IsFoundSoFar formula journal found) front
    (IsFoundSoFar-all formula journal found (past ++ e ∷ []) more tail (subst (IsLegalLine formula journal) (sym all) legal)
    (subst IsInPostingOrder (sym all) ordered)
    (λ f held. subst (λ (es : List Entry). IsLocal (added journal) found es f) (sym all)
    (local f (Contains-later e more f held))) next)

pub found_rows-replay : (journal : List Record) (found : Found) → AreLegal journal
    → AreLocal (added journal) found (posting_line journal) → found_rows found (posting_line journal) ≡ replay journal
unfolding replay
found_rows-replay journal found legal local =
    let formula = (posting_line-formula journal).0 in
    let line = posting_line journal in
    let all : line ++ [] ≡ line = append-nil line in
    (IsFoundSoFar-all formula journal found [] line [] (subst (IsLegalLine formula journal) (sym all)
    (IsLegalLine-journal journal legal))
    (subst IsInPostingOrder (sym all) (IsInPostingOrder-posting_line journal))
    (λ e held. subst (λ (es : List Entry). IsLocal (added journal) found es e) (sym all) (local e held))
    (IsFoundSoFar-nil formula journal found)).rows

-- one valuation from rows of the replay
pub valuation-worth : (journal : List Record) (found : Found) (past rest : List Entry) (e : Entry) → past ++ e ∷ rest
    ≡ posting_line journal
    → found_rows found past ≡ rows_of journal past
    → (e.method ≡ Average → IsAverageOf (rows_of journal past) (entry_key e) (held_then found (last_of_key past (entry_key e))))
    → record { entry = e; worth = (valuation (added journal) found (posting_line journal) e).worth }
    ≡ valued journal (rows_of journal past) e
valuation-worth journal found past rest e parts same held =
    let ordered : IsInPostingOrder (past ++ e ∷ rest) = subst IsInPostingOrder (sym parts)
    (IsInPostingOrder-posting_line journal) in
    let front : earlier (posting_line journal) e ≡ past = ap (λ (line : List Entry). earlier line e) (sym parts)
    ∙ earlier-is_past past e rest ordered in
    let of : List Entry → Row = λ es. record {
      entry = e;
      worth =
          (valued_with (taken_from (added journal) found es e) e).worth;
    } in
    ap of front ∙ valued-is journal (rows_of journal past) e (taken_from (added journal) found past e)
    (IsTakenFrom-found journal (rows_of journal past) found past e same held)

pub valuation-after : (journal : List Record) (found : Found) (past rest : List Entry) (e : Entry) → AreLegal journal
    → past ++ e ∷ rest ≡ posting_line journal
    → found_rows found past ≡ rows_of journal past
    → (e.method ≡ Average → IsAverageOf (rows_of journal past) (entry_key e) (held_then found (last_of_key past (entry_key e))))
    → e.method ≡ Average → IsAverageOf (value_next journal (rows_of journal past) e) (entry_key e)
    (valuation (added journal) found (posting_line journal) e).after
valuation-after journal found past rest e legal parts same held method =
    let ordered : IsInPostingOrder (past ++ e ∷ rest) = subst IsInPostingOrder (sym parts)
    (IsInPostingOrder-posting_line journal) in
    let front : earlier (posting_line journal) e ≡ past = ap (λ (line : List Entry). earlier line e) (sym parts)
    ∙ earlier-is_past past e rest ordered in
    let formula = (posting_line-formula journal).0 in
    let follows = CanFollow-legal formula journal past e rest
    (subst (IsLegalLine formula journal) (sym parts) (IsLegalLine-journal journal legal)) in
    subst (λ (es : List Entry). IsAverageOf (value_next journal (rows_of journal past) e) (entry_key e)
    (held_after (taken_from (added journal) found es e) e)) (sym front)
    (IsAverageOf-after journal (rows_of journal past) e (taken_from (added journal) found past e)
    (IsTakenFrom-found journal (rows_of journal past) found past e same held)
    follows.bounded (follows.covered (entry_key e)) method)
