-- No two movements of a journal have the same record number, line and side.
use Rattle.std.proofs.Common.{◌≡◌, ℕ, ◌+◌, ◌≤◌, List, [], ◌∷◌, ◌++◌, length, Some, None, refl, arith, length-append}
use Rattle.std.proofs.lemmas.List.{append-nil}
use Rattle.std.specs.List.{filter_map, flat_map, enumerate_from, cons_option, zip}
use Rattle.std.specs.Option.{option_map, option_to_list}
use Rattle.stock_nums.specs.declared.cause.Method.{Method}
use Rattle.stock_nums.specs.declared.cause.Target.{Target}
use Rattle.stock_nums.specs.declared.entry.Entry.{Entry}
use Rattle.stock_nums.specs.declared.moment.Moment.{Moment}
use Rattle.stock_nums.specs.declared.numbers.AccountNo.{AccountNo}
use Rattle.stock_nums.specs.declared.numbers.ItemNo.{ItemNo}
use Rattle.stock_nums.specs.declared.numbers.StoreNo.{StoreNo}
use Rattle.stock_nums.specs.declared.place.Side.TheVariants.{Leaves, Enters}
use Rattle.stock_model.specs.declared.records.Record.{Record}
use Rattle.stock_model.specs.declared.seen.Move.{Move}
use Rattle.stock_model.specs.declared.vouchers.What.{What}
use Rattle.stock_model.specs.declared.vouchers.What.TheVariants.{Item, Store, Receipt, Issue, Transfer, CustomerReturn, SupplierReturn, Landed, Freeze, Cancel}
use Rattle.stock_model.specs.Entries.{moved, move_made, moves_made, found_made, line_made, movements, entries, entries_after, all_entries}
use Rattle.stock_model.specs.Masters.{store_with}
use Rattle.stock_model.specs.TargetLines.{coded_item, line_found}
use Rattle.stock_model.specs.VoucherLines.{Subject, Coded, OfTarget, VoucherLine, lines_of, moves_of, return_moves, customer_return, supplier_return}
use Rattle.stock_laws.proofs.LineEntries.{HoldsOf, moves-each, line-each, movements-by}
use Rattle.stock_laws.proofs.LiveEntries.{IsOfNumber, movements-number, IsBetween, entries_after-between, Pairwise-live}
use Rattle.stock_model.proofs.Pairwise.{Each, Precedes, Pairwise, Each-all, Each-append, Each-weaker, Each-from_Precedes, Precedes-from_Each, Pairwise-append, Across-from_Each}

-- two movements have not all of record number, line and side the same
abbrev pub Differ : Entry → Entry → Type 0
Differ a b = a.place.voucher.0 ≡ b.place.voucher.0 → a.place.line ≡ b.place.line → a.place.side ≡ b.place.side → ⊥

-- a movement is of the record with this number, from this line on
abbrev IsFromLine : ℕ → ℕ → Entry → Type 0
IsFromLine n k e = (e.place.voucher.0 ≡ n) × (k ≤ e.place.line)

-- a movement is of the record and the line with these numbers
abbrev IsOfLine : ℕ → ℕ → Entry → Type 0
IsOfLine n k e = (e.place.voucher.0 ≡ n) × (e.place.line ≡ k)

-- a movement is of another side than the move
abbrev HasOtherSide : Move → Entry → Type 0
HasOtherSide move e = move.side ≡ e.place.side → ⊥

-- two moves are of different sides
abbrev HaveOtherSides : Move → Move → Type 0
HaveOtherSides a b = a.side ≡ b.side → ⊥

-- moves of different sides make movements that differ
moves-Pairwise : (journal : List Record) (n : ℕ) (at : Moment) (number : ℕ) (line : VoucherLine) (item : ItemNo × Method) (moves : List Move) (stores : List (List ℕ))
    → Pairwise HaveOtherSides moves → Pairwise Differ (filter_map (move_made journal n at number line item) (zip moves stores))
moves-Pairwise journal n at number line item [] stores apart = tt
moves-Pairwise journal n at number line item (move ∷ moves) [] apart = tt
moves-Pairwise journal n at number line item (move ∷ moves) (code ∷ stores) apart =
    let rest = moves-Pairwise journal n at number line item moves stores apart.1 in
    let made = filter_map (move_made journal n at number line item) (zip moves stores) in
    let others : (store : StoreNo × AccountNo) → Precedes Differ (moved n at number line item move store) made =
    λ store. Precedes-from_Each Differ (HasOtherSide move) (moved n at number line item move store) (λ e other same_voucher same_line same_side. other same_side) made
    (moves-each journal n at number line item (HasOtherSide move) moves stores
    (Each-weaker (HaveOtherSides move) (HoldsOf n at number line item (HasOtherSide move)) (λ later other s same_side. other same_side) moves (Each-from_Precedes HaveOtherSides move moves apart.0))) in
    elim (store_with journal code) as (λ o. Pairwise Differ (cons_option (option_map (moved n at number line item move) o) made)) [
      | None ↦ rest
      | Some store ↦ (others store, rest)
    ]

-- what leaves does not enter
leaves_or_enters : Leaves ≡ Enters → ⊥
leaves_or_enters same = cc

return_moves-apart : (move : Target → VoucherLine → Move) (item : Subject) (found : VoucherLine) → Pairwise HaveOtherSides (return_moves move item found)
return_moves-apart move (Coded code) found = tt
return_moves-apart move (OfTarget named) found = (tt, tt)

-- the moves of a line are of different sides
moves_of-apart : (what : What) (line found : VoucherLine) → Pairwise HaveOtherSides (moves_of what line found)
moves_of-apart (Item code method) line found = tt
moves_of-apart (Store code account) line found = tt
moves_of-apart (Receipt at lines) line found = (tt, tt)
moves_of-apart (Issue at purpose lines) line found = (tt, tt)
moves_of-apart (Transfer at lines) line found = ((leaves_or_enters, tt), (tt, tt))
moves_of-apart (CustomerReturn at lines) line found = return_moves-apart customer_return line.item found
moves_of-apart (SupplierReturn at lines) line found = return_moves-apart supplier_return line.item found
moves_of-apart (Landed charge basis targets) line found = tt
moves_of-apart (Freeze until) line found = tt
moves_of-apart (Cancel cancelled) line found = tt

-- a line makes movements that differ
line-Pairwise : (journal : List Record) (n : ℕ) (at : Moment) (what : What) (number : ℕ) (line : VoucherLine) → Pairwise Differ (line_made journal n at what (number, line))
line-Pairwise journal n at what number line =
    elim (line_found journal line) as (λ o. Pairwise Differ (flat_map (found_made journal n at what number line) (option_to_list o))) [
      | None ↦ tt
      | Some found ↦
          rw append-nil
          (elim (coded_item journal found.item) as (λ o. Pairwise Differ (flat_map (moves_made journal n at what number line found) (option_to_list o))) [
            | None ↦ tt
            | Some item ↦ rw append-nil (moves-Pairwise journal n at number line item (moves_of what line found) line.stores (moves_of-apart what line found))
          ])
    ]

-- the movements of the lines from k on
lines-is_from_line : (by : ℕ × VoucherLine → List Entry) (n k : ℕ) (lines : List VoucherLine) → ((number : ℕ) (line : VoucherLine) → Each (IsOfLine n number) (by (number, line)))
    → Each (IsFromLine n k) (flat_map by (enumerate_from k lines))
lines-is_from_line by n k [] own = tt
lines-is_from_line by n k (line ∷ lines) own =
    Each-append (IsFromLine n k) (by (k, line)) (flat_map by (enumerate_from (k + 1) lines))
    (Each-weaker (IsOfLine n k) (IsFromLine n k) (λ e p. (p.0, omega (arith, p.1))) _ (own k line))
    (Each-weaker (IsFromLine n (k + 1)) (IsFromLine n k) (λ e p. (p.0, omega arith)) _ (lines-is_from_line by n (k + 1) lines own))

lines-Pairwise : (by : ℕ × VoucherLine → List Entry) (n k : ℕ) (lines : List VoucherLine) → ((number : ℕ) (line : VoucherLine) → Each (IsOfLine n number) (by (number, line)))
    → ((number : ℕ) (line : VoucherLine) → Pairwise Differ (by (number, line))) → Pairwise Differ (flat_map by (enumerate_from k lines))
lines-Pairwise by n k [] own apart = tt
lines-Pairwise by n k (line ∷ lines) own apart =
    Pairwise-append Differ (by (k, line)) (flat_map by (enumerate_from (k + 1) lines)) (apart k line) (lines-Pairwise by n (k + 1) lines own apart)
    (Across-from_Each Differ (IsOfLine n k) (IsFromLine n (k + 1)) (λ a b p q same_voucher same_line same_side. omega (arith, p.1, q.1, same_line)) _ _ (own k line) (lines-is_from_line by n (k + 1) lines own))

-- the movements of one record
movements-Pairwise : (journal : List Record) (n : ℕ) (what : What) → Pairwise Differ (movements journal n what)
movements-Pairwise journal n what =
    movements-by journal n what (Pairwise Differ) tt
    (λ at timed. rw append-nil
    (lines-Pairwise (line_made journal n at what) n 1 (lines_of what)
    (λ number line. line-each journal n at what number line (IsOfLine n number)
    (λ found found_is item named. Each-all (HoldsOf n at number line item (IsOfLine n number)) (λ move store. (refl, refl)) (moves_of what line found)))
    (line-Pairwise journal n at what)))

-- the movements of further records
pub entries_after-Pairwise : (journal records : List Record) → Pairwise Differ (entries_after journal records)
entries_after-Pairwise journal [] = tt
entries_after-Pairwise journal (r ∷ rs) =
    let n = length journal + 1 in
    let next = journal ++ r ∷ [] in
    let longer = length-append journal (r ∷ []) in
    Pairwise-append Differ (entries journal r) (entries_after next rs) (movements-Pairwise journal n r.what) (entries_after-Pairwise next rs)
    (Across-from_Each Differ (IsOfNumber n) (IsBetween (length next) (length (next ++ rs)))
    (λ a b p q same_voucher same_line same_side. omega (arith, p, q.0, same_voucher, longer)) _ _ (movements-number journal n r.what) (entries_after-between next rs))

-- the movements of a journal differ in their record number, in their line or in their side
pub all_entries-Pairwise : (journal : List Record) → Pairwise Differ (all_entries journal)
all_entries-Pairwise journal = Pairwise-live Differ journal (entries_after-Pairwise [] journal)
