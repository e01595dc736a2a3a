-- What is selected for a report: its lines can be told, and its debits are its credits, record by record and in all.
use Rattle.std.proofs.Common.{◌≡◌, ℕ, ◌==◌, pos, Bool, true, false, cond, ◌&&◌, not, List, [], ◌∷◌, filter, sum_by, Option, Some, None, refl, sym, ap, ◌∙◌, subst, arith}
use Rattle.std.specs.List.{list_all}
use Rattle.std.proofs.lemmas.List.Elements.{filter_agree}
use Rattle.stock_nums.specs.Places.{is_later}
use Rattle.stock_nums.specs.declared.entry.Row.{Row}
use Rattle.stock_nums.specs.declared.head.Head.{Head}
use Rattle.stock_nums.specs.declared.moment.Moment.{Moment}
use Rattle.stock_model.specs.declared.deeds.Deed.{Deed}
use Rattle.stock_model.specs.declared.queries.Query.{Query}
use Rattle.stock_model.specs.declared.queries.Selected.{Selected}
use Rattle.stock_model.specs.declared.records.Record.{Record}
use Rattle.stock_model.specs.Accounts.{balances}
use Rattle.stock_model.specs.Books.{sum_of_balances, debit_shown, credit_shown, has_lines}
use Rattle.stock_model.specs.Conservation.{is_sent, is_arrived, worth_by}
use Rattle.stock_model.specs.History.{records, covered, covered_records, IsLegal}
use Rattle.stock_model.specs.Journals.{AreLegal}
use Rattle.stock_model.specs.LedgerLines.{all_lines, debit_of, credit_of}
use Rattle.stock_model.specs.LedgerSheets.{is_by_record, voucher}
use Rattle.stock_model.specs.Replay.{replay}
use Rattle.stock_model.specs.Reports.{is_until, selected, IsSelected}
use Rattle.stock_laws.proofs.BalanceSums.{balances_of-nothing}
use Rattle.stock_laws.proofs.Legality.{AreLegal-history, AreLegal-take}
use Rattle.stock_model.proofs.Pairwise.{Each}
use Rattle.stock_laws.proofs.ReplayRows.{Passes, Each-filter, list_all-from_Each}
use Rattle.stock_laws.proofs.RowLines.{all_lines-even, debits-shown, credits-shown}
use Rattle.stock_laws.proofs.ToldRows.{replay-told}
use Rattle.stock_laws.proofs.TransferWorth.{passes, transfers-even}

-- the covered records of a legal history are a legal journal
covered-legal : (history : List Deed) → IsLegal history → AreLegal (covered_records history)
covered-legal history legal = AreLegal-take (records history) (covered history) (AreLegal-history history legal)

-- the same of what a history selects
selected-told : (history : List Deed) (query : Query) → IsLegal history → list_all has_lines (selected history query).rows ≡ true
unfolding selected
selected-told history query legal =
    let rows = replay (covered_records history) in
    list_all-from_Each has_lines (filter (is_until query.until) rows)
    (Each-filter (Passes has_lines) (is_until query.until) rows (replay-told (covered_records history) (covered-legal history legal)))

-- each movement's lines can be told
pub lines-told : (query : Query) (chosen : Selected) → IsSelected query chosen → list_all has_lines chosen.rows ≡ true
lines-told query chosen is =
    subst (λ (s : Selected). list_all has_lines s.rows ≡ true) (sym is.is) (selected-told is.history query is.legal)

-- the moment is not after this one, where there is one, and the record has this number
abbrev not_after : Option Moment → Moment → Bool
not_after None at = true
not_after (Some until) at = not (is_later at until)

abbrev until_test : Option Moment → Moment → ℕ → Bool
until_test until at n = not_after until at

abbrev record_test : ℕ → Option Moment → Moment → ℕ → Bool
record_test number until at n = not_after until at && (n == number)

-- whether a movement is until a moment depends on its own alone
is_until-passes : (until : Option Moment) (row : Row) → is_until until row ≡ not_after until row.entry.place.moment
is_until-passes None row = refl
is_until-passes (Some until) row = refl

-- those of a list that pass one test and then another
filter-both : {X : Type 0} (p q r : X → Bool) → ((x : X) → (q x && p x) ≡ r x) → (xs : List X) → filter p (filter q xs) ≡ filter r xs
filter-both p q r same [] = refl
filter-both {X = X} p q r same (x ∷ xs) =
    let rest = filter-both p q r same xs in
    let step : (a : Bool) → filter p (cond a (x ∷ filter q xs) (filter q xs)) ≡ cond (a && p x) (x ∷ filter r xs) (filter r xs) =
    λ a. elim a as (λ v. filter p (cond v (x ∷ filter q xs) (filter q xs)) ≡ cond (v && p x) (x ∷ filter r xs) (filter r xs)) [
      | true ↦ ap (λ (ys : List X). cond (p x) (x ∷ ys) ys) rest
      | false ↦ rest
    ] in
    step (q x) ∙ ap (λ (b : Bool). cond b (x ∷ filter r xs) (filter r xs)) (same x)

-- movements whose lines can be told, and of which what left by transfers is worth what arrived, have even lines
lines-even : (heads : List Head) (rows : List Row) → Each (Passes has_lines) rows → worth_by is_sent rows ≡ worth_by is_arrived rows
    → sum_by debit_of (all_lines heads rows) ≡ sum_by credit_of (all_lines heads rows)
lines-even heads rows told even = omega (arith, all_lines-even heads rows told, even)

-- so have the movements of a legal journal whose moments and records pass any test
passing-even : (journal : List Record) (heads : List Head) (test : Moment → ℕ → Bool) → AreLegal journal
    → sum_by debit_of (all_lines heads (filter (passes test) (replay journal))) ≡ sum_by credit_of (all_lines heads (filter (passes test) (replay journal)))
passing-even journal heads test legal =
    lines-even heads (filter (passes test) (replay journal))
    (Each-filter (Passes has_lines) (passes test) (replay journal) (replay-told journal legal)) (transfers-even journal test legal)

-- so have those of a record up to a moment
selected-vouchers : (history : List Deed) (query : Query) (number : ℕ) → IsLegal history
    → sum_by debit_shown (voucher number (selected history query)) ≡ sum_by credit_shown (voucher number (selected history query))
unfolding selected voucher
selected-vouchers history query number legal =
    let journal = covered_records history in
    let heads = (selected history query).heads in
    let rows = filter (is_by_record number) (filter (is_until query.until) (replay journal)) in
    let test = record_test number query.until in
    let same : rows ≡ filter (passes test) (replay journal) =
    filter-both (is_by_record number) (is_until query.until) (passes test) (λ row. ap (λ (b : Bool). b && (row.entry.place.voucher.0 == number)) (is_until-passes query.until row)) (replay journal) in
    debits-shown heads rows
    ∙ subst (λ (rs : List Row). sum_by debit_of (all_lines heads rs) ≡ sum_by credit_of (all_lines heads rs)) (sym same) (passing-even journal heads test (covered-legal history legal))
    ∙ sym (credits-shown heads rows)

-- of each record the debits are the credits
pub vouchers-even : (query : Query) (chosen : Selected) (number : ℕ) → IsSelected query chosen → sum_by debit_shown (voucher number chosen) ≡ sum_by credit_shown (voucher number chosen)
vouchers-even query chosen number is =
    subst (λ (s : Selected). sum_by debit_shown (voucher number s) ≡ sum_by credit_shown (voucher number s)) (sym is.is) (selected-vouchers is.history query number is.legal)

-- and all of them up to a moment
selected-balanced : (history : List Deed) (query : Query) → IsLegal history → sum_of_balances (balances (selected history query).heads (selected history query).rows) ≡ pos 0
unfolding selected balances
selected-balanced history query legal =
    let journal = covered_records history in
    let heads = (selected history query).heads in
    let rows = filter (is_until query.until) (replay journal) in
    let test = until_test query.until in
    let same : rows ≡ filter (passes test) (replay journal) = filter_agree (is_until query.until) (passes test) (is_until-passes query.until) (replay journal) in
    balances_of-nothing (all_lines heads rows)
    (subst (λ (rs : List Row). sum_by debit_of (all_lines heads rs) ≡ sum_by credit_of (all_lines heads rs)) (sym same) (passing-even journal heads test (covered-legal history legal)))

-- the balances of all accounts sum to nothing
pub balances-even : (query : Query) (chosen : Selected) → IsSelected query chosen → sum_of_balances (balances chosen.heads chosen.rows) ≡ pos 0
balances-even query chosen is =
    subst (λ (s : Selected). sum_of_balances (balances s.heads s.rows) ≡ pos 0) (sym is.is) (selected-balanced is.history query is.legal)
