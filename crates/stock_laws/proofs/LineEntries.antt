-- What holds of each movement of a record, whatever its kind.
use Rattle.std.proofs.Common.{◌≡◌, ℕ, suc, zero, ◌+◌, List, [], ◌∷◌, ◌++◌, Option, Some, None, refl, subst, arith}
use Rattle.std.specs.Prelude.{slice_get}
use Rattle.std.specs.List.{filter_map, flat_map, enumerate_from, cons_option, zip}
use Rattle.std.specs.Option.{option_map, option_to_list}
use Rattle.stock_nums.specs.declared.cause.Method.{Method}
use Rattle.stock_nums.specs.declared.entry.Entry.{Entry}
use Rattle.stock_nums.specs.declared.moment.Moment.{Moment}
use Rattle.stock_nums.specs.declared.numbers.AccountNo.{AccountNo}
use Rattle.stock_nums.specs.declared.numbers.ItemNo.{ItemNo}
use Rattle.stock_nums.specs.declared.numbers.StoreNo.{StoreNo}
use Rattle.stock_model.specs.declared.records.Record.{Record}
use Rattle.stock_model.specs.declared.seen.Move.{Move}
use Rattle.stock_model.specs.declared.vouchers.What.{What}
use Rattle.stock_model.specs.Entries.{moved, move_made, moves_made, found_made, line_made, lines_made, movements}
use Rattle.stock_model.specs.Masters.{store_with}
use Rattle.stock_model.specs.TargetLines.{coded_item, line_found}
use Rattle.stock_model.specs.VoucherLines.{VoucherLine, lines_of, moves_of, moment_of}
use Rattle.stock_model.proofs.Pairwise.{Each, Each-append}

-- the property of the movement of a move of this line, into or out of whatever warehouse
abbrev pub HoldsOf : ℕ → Moment → ℕ → VoucherLine → ItemNo × Method → (Entry → Type 0) → Move → Type 0
HoldsOf n at number line item P move = (store : StoreNo × AccountNo) → P (moved n at number line item move store)

-- what is made of moves and the warehouses that are found
pub moves-each : (journal : List Record) (n : ℕ) (at : Moment) (number : ℕ) (line : VoucherLine) (item : ItemNo × Method) (P : Entry → Type 0) (moves : List Move) (stores : List (List ℕ))
    → Each (HoldsOf n at number line item P) moves → Each P (filter_map (move_made journal n at number line item) (zip moves stores))
moves-each journal n at number line item P [] stores all = tt
moves-each journal n at number line item P (move ∷ moves) [] all = tt
moves-each journal n at number line item P (move ∷ moves) (code ∷ stores) all =
    let rest = moves-each journal n at number line item P moves stores all.1 in
    elim (store_with journal code) as (λ o. Each P (cons_option (option_map (moved n at number line item move) o) (filter_map (move_made journal n at number line item) (zip moves stores)))) [
      | None ↦ rest
      | Some store ↦ (all.0 store, rest)
    ]

-- what is made of a line, where the line that its item is of is found
found-each : (journal : List Record) (n : ℕ) (at : Moment) (what : What) (number : ℕ) (line found : VoucherLine) (P : Entry → Type 0)
    → ((item : ItemNo × Method) → coded_item journal found.item ≡ Some item → Each (HoldsOf n at number line item P) (moves_of what line found))
    → Each P (found_made journal n at what number line found)
found-each journal n at what number line found P all =
    let step : (o : Option (ItemNo × Method)) → coded_item journal found.item ≡ o → Each P (flat_map (moves_made journal n at what number line found) (option_to_list o)) =
    λ o. elim o as (λ v. coded_item journal found.item ≡ v → Each P (flat_map (moves_made journal n at what number line found) (option_to_list v))) [
      | None ↦ λ is. tt
      | Some item ↦ λ is.
          Each-append P (moves_made journal n at what number line found item) []
          (moves-each journal n at number line item P (moves_of what line found) line.stores (all item is)) tt
    ] in
    step (coded_item journal found.item) refl

-- what is made of a line whose item is found
pub line-each : (journal : List Record) (n : ℕ) (at : Moment) (what : What) (number : ℕ) (line : VoucherLine) (P : Entry → Type 0)
    → ((found : VoucherLine) → line_found journal line ≡ Some found → (item : ItemNo × Method) → coded_item journal found.item ≡ Some item
    → Each (HoldsOf n at number line item P) (moves_of what line found))
    → Each P (line_made journal n at what (number, line))
line-each journal n at what number line P all =
    let step : (o : Option VoucherLine) → line_found journal line ≡ o → Each P (flat_map (found_made journal n at what number line) (option_to_list o)) =
    λ o. elim o as (λ v. line_found journal line ≡ v → Each P (flat_map (found_made journal n at what number line) (option_to_list v))) [
      | None ↦ λ is. tt
      | Some found ↦ λ is.
          Each-append P (found_made journal n at what number line found) [] (found-each journal n at what number line found P (all found is)) tt
    ] in
    step (line_found journal line) refl

-- what is made of lines, each with its index
pub lines-each : (P : Entry → Type 0) (by : ℕ × VoucherLine → List Entry) (k : ℕ) (lines : List VoucherLine)
    → ((i : ℕ) (line : VoucherLine) → slice_get lines i ≡ Some line → Each P (by (k + i, line))) → Each P (flat_map by (enumerate_from k lines))
lines-each P by k [] all = tt
lines-each P by k (line ∷ lines) all =
    let first : k + 0 ≡ k = omega arith in
    let later : (i : ℕ) → k + suc i ≡ k + 1 + i = λ i. omega arith in
    Each-append P (by (k, line)) (flat_map by (enumerate_from (k + 1) lines))
    (subst (λ (number : ℕ). Each P (by (number, line))) first (all zero line refl))
    (lines-each P by (k + 1) lines (λ i other is. subst (λ (number : ℕ). Each P (by (number, other))) (later i) (all (suc i) other is)))

-- what is made of the lines of a voucher with a moment, and nothing of another
pub movements-by : (journal : List Record) (n : ℕ) (what : What) (Q : List Entry → Type 0) → Q []
    → ((at : Moment) → moment_of what ≡ Some at → Q (lines_made journal n what at ++ [])) → Q (movements journal n what)
movements-by journal n what Q none some =
    let step : (o : Option Moment) → moment_of what ≡ o → Q (flat_map (lines_made journal n what) (option_to_list o)) =
    λ o. elim o as (λ v. moment_of what ≡ v → Q (flat_map (lines_made journal n what) (option_to_list v))) [
      | None ↦ λ is. none
      | Some at ↦ λ is. some at is
    ] in
    step (moment_of what) refl

-- each movement of a voucher is made of a move of one of its lines
pub movements-each : (journal : List Record) (n : ℕ) (what : What) (P : Entry → Type 0)
    → ((at : Moment) → moment_of what ≡ Some at → (i : ℕ) (line : VoucherLine) → slice_get (lines_of what) i ≡ Some line
    → (found : VoucherLine) → line_found journal line ≡ Some found → (item : ItemNo × Method) → coded_item journal found.item ≡ Some item
    → Each (HoldsOf n at (1 + i) line item P) (moves_of what line found))
    → Each P (movements journal n what)
movements-each journal n what P all =
    movements-by journal n what (Each P) tt
    (λ at timed. Each-append P (lines_made journal n what at) []
    (lines-each P (line_made journal n at what) 1 (lines_of what) (λ i line is. line-each journal n at what (1 + i) line P (all at timed i line is))) tt)
