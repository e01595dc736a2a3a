-- The lines of each movement of a legal journal can be told: its value and its share are in range.
use Rattle.std.proofs.Common.{◌≡◌, ℕ, ◌≤◌, ℤ, pos, ◌+ℤ◌, Bool, true, ◌&&◌, List, ◌++◌, ◌∷◌, arith, unsigned_abs, int_le, nat_le}
use Rattle.std.proofs.lemmas.Bool.Decides.{nat_tests}
use Rattle.std.proofs.lemmas.Int.{ints}
use Rattle.stock_nums.specs.Causes.{has_amounts_in_range}
use Rattle.stock_nums.specs.Part.{part}
use Rattle.stock_nums.specs.Quantities.{is_line_amount}
use Rattle.stock_nums.specs.declared.cause.Cause.{Cause}
use Rattle.stock_nums.specs.declared.cause.Cause.TheVariants.{Receipt, Issue, TransferLeaves, TransferEnters, CustomerReturn, SupplierReturn}
use Rattle.stock_nums.specs.declared.entry.Entry.{Entry}
use Rattle.stock_nums.specs.declared.entry.Row.{Row}
use Rattle.stock_nums.specs.declared.limits.TheConstants.{MAX_VALUE}
use Rattle.stock_nums.proofs.PartLemmas.{part-le}
use Rattle.stock_model.specs.declared.records.Record.{Record}
use Rattle.stock_model.specs.Books.{holds_share, has_lines}
use Rattle.stock_model.specs.Journals.{AreLegal}
use Rattle.stock_model.specs.LandedCost.{added}
use Rattle.stock_model.specs.PostingOrder.{posting_line}
use Rattle.stock_model.specs.Replay.{valued, rows_of, replay}
use Rattle.stock_model.specs.Values.{own_line, returned_before, value_by, share_by, HasUnitsLeftBy}
use Rattle.stock_laws.proofs.CostedRows.{both}
use Rattle.stock_laws.proofs.LegalReplay.{CanBeValued-split}
use Rattle.stock_laws.proofs.Received.{amount-le}
use Rattle.stock_laws.proofs.ReplayRows.{replay-each, Passes}
use Rattle.stock_model.proofs.Pairwise.{Each}
use Rattle.stock_laws.proofs.TestedSums.{both-first}

-- the value and the share can be told, and landed charges are within a receipt's value
abbrev is_told : Cause → ℤ → ℤ → Bool
is_told cause value share =
    int_le (pos 0) share && (int_le share (pos MAX_VALUE) && holds_share cause (unsigned_abs value) (unsigned_abs share))

-- what is charged to a receipt is within its value
charge-told : (amount : ℤ) (n : ℕ) → is_line_amount amount ≡ true → (int_le (pos 0) (amount +ℤ pos n) && int_le (amount +ℤ pos n) (pos MAX_VALUE)) ≡ true
    → (int_le (pos 0) (pos n) && (int_le (pos n) (pos MAX_VALUE) && nat_le n (unsigned_abs (amount +ℤ pos n)))) ≡ true
charge-told amount n amounts value = grind (arith, ints, nat_tests)

-- a part of a line's amount is small
small-told : (n : ℕ) → n ≤ 1_000_000_000_000 → (int_le (pos 0) (pos n) && (int_le (pos n) (pos MAX_VALUE) && true)) ≡ true
small-told n small = grind (arith, ints, nat_tests)

-- the share of a movement can be told where its value can
share-told : (journal : List Record) (before : List Row) (e : Entry) (cause : Cause) → has_amounts_in_range cause ≡ true → HasUnitsLeftBy before e cause
    → (int_le (pos 0) (value_by journal before e cause) && int_le (value_by journal before e cause) (pos MAX_VALUE)) ≡ true
    → is_told cause (value_by journal before e cause) (share_by journal before e cause) ≡ true
share-told journal before e (Receipt amount) amounts left value = charge-told amount.0 (added journal (own_line e)) amounts value
share-told journal before e (Issue sold) amounts left value = small-told 0 (omega arith)
share-told journal before e TransferLeaves amounts left value = small-told 0 (omega arith)
share-told journal before e TransferEnters amounts left value = small-told 0 (omega arith)
share-told journal before e (CustomerReturn target issued) amounts left value = small-told 0 (omega arith)
share-told journal before e (SupplierReturn target amount received) amounts left value =
    let within = part-le (unsigned_abs amount.0) (returned_before before target) e.qty.0 received.0 left in
    let price = amount-le amount.0 (both-first (is_line_amount amount.0) _ amounts) in
    small-told (part (unsigned_abs amount.0) (returned_before before target) e.qty.0 received.0) (omega (arith, within, price))

-- the lines of a movement can be told, valued from the movements before it
valued-told : (journal : List Record) (past : List Entry) (e : Entry) (rest : List Entry) → AreLegal journal → past ++ e ∷ rest ≡ posting_line journal
    → has_lines (valued journal (rows_of journal past) e) ≡ true
valued-told journal past e rest legal parts =
    let can = CanBeValued-split journal past e rest legal parts in
    both can.small (share-told journal (rows_of journal past) e e.cause e.amounts can.left can.small)

-- so the lines of each movement of a legal journal can be told
pub replay-told : (journal : List Record) → AreLegal journal → Each (Passes has_lines) (replay journal)
replay-told journal legal = replay-each journal (Passes has_lines) (λ past e rest parts. valued-told journal past e rest legal parts)
