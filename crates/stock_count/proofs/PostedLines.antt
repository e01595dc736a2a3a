-- What the lines of an issue take out, and those of a receipt bring, of one item in one warehouse.
use Rattle.std.proofs.Common.{◌≡◌, ℕ, ◌+◌, Bool, true, false, not, ◌&&◌, List, [], ◌∷◌, ◌++◌, map, sum_by, Some, None, refl, ap, ◌∙◌, arith}
use Rattle.std.specs.Option.{option_map, option_map_or, option_and_then, option_to_list}
use Rattle.std.specs.List.{flat_map, enumerate_from, cons_option}
use Rattle.std.proofs.lemmas.Bool.Decides.{nat_tests}
use Rattle.std.proofs.lemmas.List.Sums.{sum_by-append, sum_by-cons}
use Rattle.stock_nums.specs.Places.{is_later}
use Rattle.stock_nums.specs.declared.cause.Cause.TheVariants as cause
use Rattle.stock_nums.specs.declared.cause.Method.{Method}
use Rattle.stock_nums.specs.declared.entry.Entry.{Entry}
use Rattle.stock_nums.specs.declared.entry.Key.{Key}
use Rattle.stock_nums.specs.declared.moment.Moment.{Moment}
use Rattle.stock_nums.specs.declared.numbers.AccountNo.{AccountNo}
use Rattle.stock_nums.specs.declared.numbers.ItemNo.{ItemNo}
use Rattle.stock_nums.specs.declared.numbers.StoreNo.{StoreNo}
use Rattle.stock_model.specs.declared.records.Record.{Record}
use Rattle.stock_model.specs.declared.vouchers.IssueLine.{IssueLine}
use Rattle.stock_model.specs.declared.vouchers.ReceiptLine.{ReceiptLine}
use Rattle.stock_model.specs.declared.vouchers.Purpose.{Purpose}
use Rattle.stock_model.specs.declared.vouchers.What.TheVariants.{Issue, Receipt}
use Rattle.stock_model.specs.Enough.{enters_under, leaves_under, is_same_key}
use Rattle.stock_model.specs.Entries.{moved, moves_made, line_made, movements}
use Rattle.stock_model.specs.Masters.{item_with, store_with}
use Rattle.stock_model.specs.VoucherLines.{entering, leaving, issue_line, receipt_line, is_sold}
use Rattle.stock_laws.proofs.TestedSums.{counted, counted-fails}
use Rattle.stock_count.specs.Corrections.{issue_said, receipt_said}
use Rattle.stock_count.specs.Held.{key_found, key_beside}
use Rattle.stock_count.proofs.CountedUnits.{counted_units, units_for}
use Rattle.stock_count.proofs.HeldSums.{units_moved}

never_later : (at : Moment) → is_later at at ≡ false
never_later at = grind (arith, nat_tests)

-- a movement at the moment itself counts
at_moment : (at : Moment) (n : ℕ) → counted (not (is_later at at)) n ≡ n
at_moment at n = ap (λ (b : Bool). counted (not b) n) (never_later at)

counted-holds : (b : Bool) (n : ℕ) → counted (b && true) n ≡ counted b n
counted-holds true n = refl
counted-holds false n = refl

one : (f : Entry → ℕ) (e : Entry) (n : ℕ) → f e ≡ n → sum_by f (e ∷ []) ≡ n
one f e n is = omega (arith, sum_by-cons f e [], is)

-- what one line moves: so many units one way, and none the other way
pub record Moves (at : Moment) (key : Key) (with without : Entry → Bool) (es : List Entry) (n : ℕ) : Type 0 where
  pub moves : sum_by (units_moved at with) es ≡ n
  pub alone : sum_by (units_moved at without) es ≡ 0

no_moves : (at : Moment) (key : Key) (with without : Entry → Bool) → Moves at key with without [] 0
no_moves at key with without = record { moves = refl; alone = refl }

module _ (journal : List Record) (n : ℕ) (at : Moment) (key : Key) where
  abbrev Leave : List Entry → ℕ → Type 0
  Leave es units = Moves at key (leaves_under key) (enters_under key) es units

  abbrev Enter : List Entry → ℕ → Type 0
  Enter es units = Moves at key (enters_under key) (leaves_under key) es units

  leaves : (purpose : Purpose) (number : ℕ) (line : IssueLine) (item : ItemNo × Method) (store : StoreNo × AccountNo)
      → Leave (moved n at number (issue_line line) item (leaving (cause.Issue (is_sold purpose)) refl refl) store ∷ []) (counted_units key line.qty.0 (key_found item store))
  leaves purpose number line item store =
      let e = moved n at number (issue_line line) item (leaving (cause.Issue (is_sold purpose)) refl refl) store in
      let b = is_same_key (key_found item store) key in
      record {
        moves = one (units_moved at (leaves_under key)) e (counted b line.qty.0) (at_moment at (counted (b && true) line.qty.0) ∙ counted-holds b line.qty.0);
        alone = one (units_moved at (enters_under key)) e 0 (at_moment at (counted (b && false) line.qty.0) ∙ counted-fails b line.qty.0);
      }

  enters : (number : ℕ) (line : ReceiptLine) (item : ItemNo × Method) (store : StoreNo × AccountNo)
      → Enter (moved n at number (receipt_line line) item (entering (cause.Receipt line.amount) line.price refl) store ∷ []) (counted_units key line.qty.0 (key_found item store))
  enters number line item store =
      let e = moved n at number (receipt_line line) item (entering (cause.Receipt line.amount) line.price refl) store in
      let b = is_same_key (key_found item store) key in
      record {
        moves = one (units_moved at (enters_under key)) e (counted b line.qty.0) (at_moment at (counted (b && true) line.qty.0) ∙ counted-holds b line.qty.0);
        alone = one (units_moved at (leaves_under key)) e 0 (at_moment at (counted (b && false) line.qty.0) ∙ counted-fails b line.qty.0);
      }

  issue-line : (purpose : Purpose) (all : List IssueLine) (number : ℕ) (line : IssueLine)
      → Leave (line_made journal n at (Issue at purpose all) (number, issue_line line)) (units_for journal key (issue_said line))
  issue-line purpose all number line =
      elim (item_with journal line.item) as (λ o. Leave (flat_map (moves_made journal n at (Issue at purpose all) number (issue_line line) (issue_line line)) (option_to_list o) ++ [])
      (option_map_or (counted_units key line.qty.0) (option_and_then (key_beside journal line.store) o) 0)) [
        | None ↦ no_moves at key (leaves_under key) (enters_under key)
        | Some item ↦
            elim (store_with journal line.store) as (λ s. Leave ((cons_option (option_map (moved n at number (issue_line line) item (leaving (cause.Issue (is_sold purpose)) refl refl)) s) [] ++ []) ++ [])
            (option_map_or (counted_units key line.qty.0) (option_map (key_found item) s) 0)) [
              | None ↦ no_moves at key (leaves_under key) (enters_under key)
              | Some store ↦ leaves purpose number line item store
            ]
      ]

  receipt-line : (all : List ReceiptLine) (number : ℕ) (line : ReceiptLine)
      → Enter (line_made journal n at (Receipt at all) (number, receipt_line line)) (units_for journal key (receipt_said line))
  receipt-line all number line =
      elim (item_with journal line.item) as (λ o. Enter (flat_map (moves_made journal n at (Receipt at all) number (receipt_line line) (receipt_line line)) (option_to_list o) ++ [])
      (option_map_or (counted_units key line.qty.0) (option_and_then (key_beside journal line.store) o) 0)) [
        | None ↦ no_moves at key (enters_under key) (leaves_under key)
        | Some item ↦
            elim (store_with journal line.store) as (λ s. Enter ((cons_option (option_map (moved n at number (receipt_line line) item (entering (cause.Receipt line.amount) line.price refl)) s) [] ++ []) ++ [])
            (option_map_or (counted_units key line.qty.0) (option_map (key_found item) s) 0)) [
              | None ↦ no_moves at key (enters_under key) (leaves_under key)
              | Some store ↦ enters number line item store
            ]
      ]

  more : (with without : Entry → Bool) (first rest : List Entry) (a b all : ℕ) → Moves at key with without first a → Moves at key with without rest b → all ≡ a + b → Moves at key with without (first ++ rest) all
  more with without first rest a b all own later is =
      record {
        moves = omega (arith, sum_by-append (units_moved at with) first rest, own.moves, later.moves, is);
        alone = omega (arith, sum_by-append (units_moved at without) first rest, own.alone, later.alone);
      }

  issue-lines : (purpose : Purpose) (all : List IssueLine) (k : ℕ) (lines : List IssueLine)
      → Leave (flat_map (line_made journal n at (Issue at purpose all)) (enumerate_from k (map issue_line lines))) (sum_by (units_for journal key) (map issue_said lines))
  issue-lines purpose all k [] = no_moves at key (leaves_under key) (enters_under key)
  issue-lines purpose all k (line ∷ lines) =
      more (leaves_under key) (enters_under key) _ _ _ _ _ (issue-line purpose all k line) (issue-lines purpose all (k + 1) lines)
      (sum_by-cons (units_for journal key) (issue_said line) (map issue_said lines))

  receipt-lines : (all : List ReceiptLine) (k : ℕ) (lines : List ReceiptLine)
      → Enter (flat_map (line_made journal n at (Receipt at all)) (enumerate_from k (map receipt_line lines))) (sum_by (units_for journal key) (map receipt_said lines))
  receipt-lines all k [] = no_moves at key (enters_under key) (leaves_under key)
  receipt-lines all k (line ∷ lines) =
      more (enters_under key) (leaves_under key) _ _ _ _ _ (receipt-line all k line) (receipt-lines all (k + 1) lines)
      (sum_by-cons (units_for journal key) (receipt_said line) (map receipt_said lines))

  pub issue-moves : (purpose : Purpose) (lines : List IssueLine) → Leave (movements journal n (Issue at purpose lines)) (sum_by (units_for journal key) (map issue_said lines))
  issue-moves purpose lines =
      more (leaves_under key) (enters_under key) _ [] _ 0 _ (issue-lines purpose lines 1 lines) (no_moves at key (leaves_under key) (enters_under key)) (omega arith)

  pub receipt-moves : (lines : List ReceiptLine) → Enter (movements journal n (Receipt at lines)) (sum_by (units_for journal key) (map receipt_said lines))
  receipt-moves lines =
      more (enters_under key) (leaves_under key) _ [] _ 0 _ (receipt-lines lines 1 lines) (no_moves at key (enters_under key) (leaves_under key)) (omega arith)
