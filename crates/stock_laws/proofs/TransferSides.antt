-- A journal has as many sides of transfers that leave as sides that enter, line by line.
use Rattle.std.proofs.Common.{◌≡◌, ℕ, ◌+◌, Bool, false, List, [], ◌∷◌, ◌++◌, length, filter, sum_by, Option, Some, None, refl, sym, ◌∙◌, subst, arith}
use Rattle.std.specs.Prelude.{is_none}
use Rattle.std.specs.Option.{option_map, option_to_list}
use Rattle.std.specs.List.{filter_map, flat_map, enumerate_from, cons_option, zip, list_any}
use Rattle.std.proofs.lemmas.Bool.{or_parts}
use Rattle.std.proofs.lemmas.List.Elements.{filter-append}
use Rattle.std.proofs.lemmas.List.Sums.{sum_by-append, sum_by-cons}
use Rattle.stock_nums.specs.declared.cause.Cause.{Cause}
use Rattle.stock_nums.specs.declared.cause.Method.{Method}
use Rattle.stock_nums.specs.declared.cause.Target.{Target}
use Rattle.stock_nums.specs.declared.entry.Entry.{Entry}
use Rattle.stock_nums.specs.declared.moment.Moment.{Moment}
use Rattle.stock_nums.specs.declared.numbers.ItemNo.{ItemNo}
use Rattle.stock_model.specs.declared.records.Record.{Record}
use Rattle.stock_model.specs.declared.seen.Move.{Move}
use Rattle.stock_model.specs.declared.vouchers.What.{What}
use Rattle.stock_model.specs.declared.vouchers.What.TheVariants.{Item, Store, Receipt, Issue, Transfer, CustomerReturn, SupplierReturn, Landed, Freeze, Cancel}
use Rattle.stock_model.specs.Conservation.{is_sent, is_arrived}
use Rattle.stock_model.specs.Entries.{moved, move_made, moves_made, found_made, line_made, lines_made, entries, entries_after, is_live_entry, all_entries}
use Rattle.stock_model.specs.Faults.{is_unknown_store, voucher_fault}
use Rattle.stock_model.specs.Journals.{AreSound, AreSoundAfter}
use Rattle.stock_model.specs.Masters.{store_with}
use Rattle.stock_model.specs.TargetLines.{coded_item}
use Rattle.stock_model.specs.Values.{own_line}
use Rattle.stock_model.specs.VoucherLines.{Subject, Coded, OfTarget, VoucherLine, lines_of, moves_of, return_moves, customer_return, supplier_return}
use Rattle.stock_laws.proofs.LineEntries.{movements-by}
use Rattle.stock_laws.proofs.LiveEntries.{movements-number, live-alike}
use Rattle.stock_model.proofs.MovementCount.{IsMade, lines-IsMade}
use Rattle.stock_model.proofs.NoFaults.{NoFaults-from}
use Rattle.stock_model.proofs.Pairwise.{Each}
use Rattle.stock_laws.proofs.ReturnedUnits.{AreSound-snoc}
use Rattle.stock_laws.proofs.TestedSums.{counted}

-- what a movement of this kind counts for, by its moment and its line
abbrev pub entry_weight : (Cause → Bool) → (Moment → Target → ℕ) → Entry → ℕ
entry_weight kind weight e = counted (kind e.cause) (weight e.place.moment (own_line e))

-- the same of a move of a line that counts for so much
abbrev move_weight : (Cause → Bool) → ℕ → Move → ℕ
move_weight kind n move = counted (kind move.cause) n

-- what leaves by transfers among movements counts for as much as what enters by them
abbrev pub AreEven : (Moment → Target → ℕ) → List Entry → Type 0
AreEven weight es = sum_by (entry_weight is_sent weight) es ≡ sum_by (entry_weight is_arrived weight) es

AreEven-append : (weight : Moment → Target → ℕ) (es fs : List Entry) → AreEven weight es → AreEven weight fs → AreEven weight (es ++ fs)
AreEven-append weight es fs h k =
    omega (arith, sum_by-append (entry_weight is_sent weight) es fs, sum_by-append (entry_weight is_arrived weight) es fs, h, k)

-- moves into or out of warehouses that are found count, each as a movement
moves-weight : (journal : List Record) (n : ℕ) (at : Moment) (number : ℕ) (line : VoucherLine) (item : ItemNo × Method) (kind : Cause → Bool) (weight : Moment → Target → ℕ)
    (moves : List Move) (stores : List (List ℕ)) → length moves ≡ length stores → list_any (is_unknown_store journal) stores ≡ false
    → sum_by (entry_weight kind weight) (filter_map (move_made journal n at number line item) (zip moves stores))
    ≡ sum_by (move_weight kind (weight at (record { voucher = record { 0 = n }; line = number }))) moves
moves-weight journal n at number line item kind weight [] stores same known = refl
moves-weight journal n at number line item kind weight (move ∷ moves) [] same known = absurd (omega (arith, same))
moves-weight journal n at number line item kind weight (move ∷ moves) (code ∷ stores) same known =
    let each = or_parts (is_unknown_store journal code) (list_any (is_unknown_store journal) stores) known in
    let made = filter_map (move_made journal n at number line item) (zip moves stores) in
    let own = weight at (record { voucher = record { 0 = n }; line = number }) in
    let rest = moves-weight journal n at number line item kind weight moves stores (omega (arith, same)) each.1 in
    let one : sum_by (entry_weight kind weight) (cons_option (option_map (moved n at number line item move) (store_with journal code)) made) ≡ move_weight kind own move + sum_by (entry_weight kind weight) made =
    (elim (store_with journal code) as (λ o. is_none o ≡ false → sum_by (entry_weight kind weight) (cons_option (option_map (moved n at number line item move) o) made) ≡ move_weight kind own move + sum_by (entry_weight kind weight) made) [
      | None ↦ λ h. cc
      | Some store ↦ λ h. sum_by-cons (entry_weight kind weight) (moved n at number line item move store) made
    ]) each.0 in
    omega (arith, one, rest, sum_by-cons (move_weight kind own) move moves)

-- the moves that leave by transfers count for as much as those that enter by them
abbrev AreMovesEven : ℕ → List Move → Type 0
AreMovesEven n moves = sum_by (move_weight is_sent n) moves ≡ sum_by (move_weight is_arrived n) moves

-- the moves of a line of any voucher are even
customer_moves-even : (n : ℕ) (item : Subject) (found : VoucherLine) → AreMovesEven n (return_moves customer_return item found)
customer_moves-even n (Coded code) found = refl
customer_moves-even n (OfTarget named) found = refl

supplier_moves-even : (n : ℕ) (item : Subject) (found : VoucherLine) → AreMovesEven n (return_moves supplier_return item found)
supplier_moves-even n (Coded code) found = refl
supplier_moves-even n (OfTarget named) found = refl

moves_of-even : (n : ℕ) (what : What) (line found : VoucherLine) → AreMovesEven n (moves_of what line found)
moves_of-even n (Item code method) line found = refl
moves_of-even n (Store code account) line found = refl
moves_of-even n (Receipt at lines) line found = refl
moves_of-even n (Issue at purpose lines) line found = refl
moves_of-even n (Transfer at lines) line found = omega arith
moves_of-even n (CustomerReturn at lines) line found = customer_moves-even n line.item found
moves_of-even n (SupplierReturn at lines) line found = supplier_moves-even n line.item found
moves_of-even n (Landed charge basis targets) line found = refl
moves_of-even n (Freeze until) line found = refl
moves_of-even n (Cancel cancelled) line found = refl

-- a line makes movements that are even
line-even : (journal : List Record) (n : ℕ) (at : Moment) (what : What) (number : ℕ) (line : VoucherLine) (weight : Moment → Target → ℕ) → IsMade journal what line
    → AreEven weight (line_made journal n at what (number, line))
line-even journal n at what number line weight made =
    let found = made.known.0 in
    let item = made.known.2 in
    let moves = moves_of what line found in
    let own : AreEven weight (moves_made journal n at what number line found item) =
    moves-weight journal n at number line item is_sent weight moves line.stores (made.each found) made.stores
    ∙ moves_of-even (weight at (record { voucher = record { 0 = n }; line = number })) what line found
    ∙ sym (moves-weight journal n at number line item is_arrived weight moves line.stores (made.each found) made.stores) in
    let by_item : AreEven weight (flat_map (moves_made journal n at what number line found) (option_to_list (coded_item journal found.item))) =
    subst (λ (o : Option (ItemNo × Method)). AreEven weight (flat_map (moves_made journal n at what number line found) (option_to_list o))) (sym made.known.3)
    (AreEven-append weight (moves_made journal n at what number line found item) [] own refl) in
    subst (λ (o : Option VoucherLine). AreEven weight (flat_map (found_made journal n at what number line) (option_to_list o))) (sym made.known.1)
    (AreEven-append weight (found_made journal n at what number line found) [] by_item refl)

lines-even : (journal : List Record) (n : ℕ) (at : Moment) (what : What) (k : ℕ) (lines : List VoucherLine) (weight : Moment → Target → ℕ) → Each (IsMade journal what) lines
    → AreEven weight (flat_map (line_made journal n at what) (enumerate_from k lines))
lines-even journal n at what k [] weight made = refl
lines-even journal n at what k (line ∷ lines) weight made =
    AreEven-append weight (line_made journal n at what (k, line)) (flat_map (line_made journal n at what) (enumerate_from (k + 1) lines))
    (line-even journal n at what k line weight made.0) (lines-even journal n at what (k + 1) lines weight made.1)

-- a record without a fault of its own makes movements that are even
entries-even : (journal : List Record) (item : Record) (weight : Moment → Target → ℕ) → AreSound journal → voucher_fault journal item.what ≡ None → AreEven weight (entries journal item)
entries-even journal item weight sound none =
    let made = lines-IsMade journal item.what sound (NoFaults-from journal item.what none) in
    movements-by journal (length journal + 1) item.what (AreEven weight) refl
    (λ at timed. AreEven-append weight (lines_made journal (length journal + 1) item.what at) []
    (lines-even journal (length journal + 1) at item.what 1 (lines_of item.what) weight made) refl)

-- so those of further records are that are in force, since those of one record are together
even-live : (journal done rest : List Record) (weight : Moment → Target → ℕ) → AreSound done → AreSoundAfter done rest → AreEven weight (filter (is_live_entry journal) (entries_after done rest))
even-live journal done [] weight sound after = refl
even-live journal done (item ∷ rest) weight sound after =
    let next = done ++ item ∷ [] in
    let live = is_live_entry journal in
    subst (AreEven weight) (sym (filter-append live (entries done item) (entries_after next rest)))
    (AreEven-append weight (filter live (entries done item)) (filter live (entries_after next rest))
    (live-alike (AreEven weight) journal (length done + 1) (entries done item) (movements-number done (length done + 1) item.what) refl (entries-even done item weight sound after.0))
    (even-live journal next rest weight (AreSound-snoc done item sound after.0) after.1))

-- and so are the movements of a sound journal
pub all_entries-even : (journal : List Record) (weight : Moment → Target → ℕ) → AreSound journal → AreEven weight (all_entries journal)
unfolding all_entries
all_entries-even journal weight sound = even-live journal [] journal weight tt sound
