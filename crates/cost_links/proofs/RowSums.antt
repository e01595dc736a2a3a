-- What later movements take over from rows, with one more row.
use Rattle.std.proofs.Common.{◌≡◌, ℤ, suc, pos, ◌+◌, ◌*◌, ◌^◌, ◌<◌, ◌≤◌, ◌+ℤ◌, ◌≤ℤ◌, Bool, true, false, cond, ◌&&◌, not, List, [], ◌∷◌, ◌++◌, length, map, filter, sum_by, int_le, refl, sym, ap, ◌∙◌, subst, length-append, arith}
use Rattle.std.specs.List.{list_all}
use Rattle.std.proofs.lemmas.Bool.{false≢true}
use Rattle.std.proofs.lemmas.Bool.Decides.{nat_tests}
use Rattle.std.proofs.lemmas.Int.{ints}
use Rattle.std.proofs.lemmas.List.{map-append}
use Rattle.std.proofs.lemmas.List.Folds.{list_all-append}
use Rattle.std.proofs.lemmas.List.Sums.{sum_by-cons}
use Rattle.stock_nums.specs.Causes.{has_amounts_in_range, has_side, enters_by, is_entering}
use Rattle.stock_nums.specs.Quantities.{is_line_amount}
use Rattle.stock_nums.specs.Targets.{is_same_target}
use Rattle.stock_nums.specs.declared.cause.Cause.{Cause}
use Rattle.stock_nums.specs.declared.cause.Cause.TheVariants.{Receipt, Issue, TransferLeaves, TransferEnters, CustomerReturn, SupplierReturn}
use Rattle.stock_nums.specs.declared.cause.Target.{Target}
use Rattle.stock_nums.specs.declared.entry.Entry.{Entry}
use Rattle.stock_nums.specs.declared.entry.Row.{Row}
use Rattle.stock_nums.specs.declared.limits.TheConstants.{MAX_VALUE}
use Rattle.stock_nums.specs.declared.numbers.Minor.{Minor}
use Rattle.stock_model.specs.Bounds.{has_value_in_range}
use Rattle.stock_model.specs.Enough.{entry_units}
use Rattle.stock_model.specs.LandedCost.{added}
use Rattle.stock_model.specs.Replay.{valued}
use Rattle.stock_model.specs.Returns.{is_return_of, returns_of, returned}
use Rattle.stock_model.specs.Sums.{row_entry, units_of, value_of}
use Rattle.stock_model.specs.Values.{cost, cost_by, own_line, leaves_by, line_cost, returned_before, value_by, share_by}
use Rattle.stock_model.specs.declared.records.Record.{Record}
use Rattle.stock_nums.specs.declared.line_sums.LineSums.{LineSums}
use Rattle.cost_links.specs.Ready.{IsReady}
use Rattle.cost_links.specs.Replayed.{AreSumsOf}
use Rattle.cost_links.specs.Rows.{costed}
use Rattle.stock_nums.specs.LineSums.{number_of}
use Rattle.cost_links.proofs.LastOne.{sum_where-next}

line_cost-next : (rows : List Row) (row : Row) (line : Target) → line_cost (rows ++ row ∷ []) line ≡ line_cost rows line + cond (leaves_by line row) (value_of row) 0
line_cost-next rows row line = sum_where-next value_of (leaves_by line) rows row

returned_before-next : (rows : List Row) (row : Row) (line : Target) → returned_before (rows ++ row ∷ []) line ≡ returned_before rows line + cond (is_return_of line row.entry.cause) (units_of row) 0
returned_before-next rows row line =
    ap (λ (es : List Entry). returned es line) (map-append row_entry rows (row ∷ []))
    ∙ sum_where-next entry_units (returns_of line) (map row_entry rows) row.entry

-- after a row that enters
pub AreSumsOf-entered : (rows : List Row) (row : Row) (costs old returns : LineSums) → AreSumsOf rows costs old → is_entering row.entry.place.side ≡ true
    → ((line : Target) → number_of returns line ≡ number_of old line + cond (is_return_of line row.entry.cause) (units_of row) 0) → AreSumsOf (rows ++ row ∷ []) costs returns
AreSumsOf-entered rows row costs old returns sums enters more =
    record {
      left = λ line. stays line (is_same_target (own_line row.entry) line) refl;
      back = λ line. omega (arith, sums.back line, more line, returned_before-next rows row line);
    }
  where
    stays : (line : Target) (own : Bool) → is_same_target (own_line row.entry) line ≡ own → number_of costs line ≡ line_cost (rows ++ row ∷ []) line
    stays line true own =
        let none : cond (leaves_by line row) (value_of row) 0 ≡ 0 = ap (λ (b : Bool). cond (is_same_target (own_line row.entry) line && not b) (value_of row) 0) enters ∙ ap (λ (b : Bool). cond (b && false) (value_of row) 0) own in
        omega (arith, sums.left line, line_cost-next rows row line, none)
    stays line false own =
        let none : cond (leaves_by line row) (value_of row) 0 ≡ 0 = ap (λ (b : Bool). cond (b && not (is_entering row.entry.place.side)) (value_of row) 0) own in
        omega (arith, sums.left line, line_cost-next rows row line, none)

-- after a row that leaves
pub AreSumsOf-left : (rows : List Row) (row : Row) (key : Target) (old costs old_returns returns : LineSums) → AreSumsOf rows old old_returns → not (is_entering row.entry.place.side) ≡ true → key ≡ own_line row.entry
    → ((line : Target) → number_of costs line ≡ number_of old line + cond (is_same_target key line) (value_of row) 0)
    → ((line : Target) → number_of returns line ≡ number_of old_returns line + cond (is_return_of line row.entry.cause) (units_of row) 0) → AreSumsOf (rows ++ row ∷ []) costs returns
AreSumsOf-left rows row key old costs old_returns returns sums leaves is_key more more_back =
    record {
      left = λ line.
          let told : number_of costs line ≡ number_of old line + cond (is_same_target (own_line row.entry) line) (value_of row) 0 =
          subst (λ (k : Target). number_of costs line ≡ number_of old line + cond (is_same_target k line) (value_of row) 0) is_key (more line) in
          omega (arith, sums.left line, told, line_cost-next rows row line, passes line (is_same_target (own_line row.entry) line) refl);
      back = λ line. omega (arith, sums.back line, more_back line, returned_before-next rows row line);
    }
  where
    passes : (line : Target) (own : Bool) → is_same_target (own_line row.entry) line ≡ own → cond (leaves_by line row) (value_of row) 0 ≡ cond (is_same_target (own_line row.entry) line) (value_of row) 0
    passes line true own =
        ap (λ (b : Bool). cond (is_same_target (own_line row.entry) line && b) (value_of row) 0) leaves
        ∙ ap (λ (b : Bool). cond (b && true) (value_of row) 0) own ∙ sym (ap (λ (b : Bool). cond b (value_of row) 0) own)
    passes line false own =
        ap (λ (b : Bool). cond (b && not (is_entering row.entry.place.side)) (value_of row) 0) own ∙ sym (ap (λ (b : Bool). cond b (value_of row) 0) own)

-- the units of some movements are at most so many
units-le : (p : Entry → Bool) (es : List Entry) → sum_by entry_units (filter p es) ≤ length es * 1_000_000_000
units-le p [] = omega arith
units-le p (e ∷ es) =
    let rest = units-le p es in
    let longer : length (e ∷ es) ≡ length es + 1 = omega arith in
    by_cases (p e) rest longer
  where
    by_cases : (b : Bool) → sum_by entry_units (filter p es) ≤ length es * 1_000_000_000 → length (e ∷ es) ≡ length es + 1 → sum_by entry_units (cond b (e ∷ filter p es) (filter p es)) ≤ length (e ∷ es) * 1_000_000_000
    by_cases true rest longer = omega (arith, sum_by-cons entry_units e (filter p es), rest, longer, e.quantity.1)
    by_cases false rest longer = omega (arith, rest, longer)

both_true : (a b : Bool) → (a && b) ≡ true → (a ≡ true) × (b ≡ true)
both_true true b h = (refl, h)
both_true false b h = absurd (false≢true h)

value-le : (row : Row) → has_value_in_range row ≡ true → value_of row ≤ MAX_VALUE
value-le row h = grind (arith, ints, nat_tests)

-- the values of some rows are at most so large
values-le : (p : Row → Bool) (rows : List Row) → list_all has_value_in_range rows ≡ true → sum_by value_of (filter p rows) ≤ length rows * MAX_VALUE
values-le p [] small = omega arith
values-le p (row ∷ rows) small =
    let parts = both_true (has_value_in_range row) (list_all has_value_in_range rows) small in
    let rest = values-le p rows parts.1 in
    let own = value-le row parts.0 in
    let longer : length (row ∷ rows) ≡ length rows + 1 = omega arith in
    by_cases (p row) rest own longer
  where
    by_cases : (b : Bool) → sum_by value_of (filter p rows) ≤ length rows * MAX_VALUE → value_of row ≤ MAX_VALUE → length (row ∷ rows) ≡ length rows + 1
        → sum_by value_of (cond b (row ∷ filter p rows) (filter p rows)) ≤ length (row ∷ rows) * MAX_VALUE
    by_cases true rest own longer = omega (arith, sum_by-cons value_of row (filter p rows), rest, own, longer)
    by_cases false rest own longer = omega (arith, rest, longer)

length-map_entries : (rows : List Row) → length (map row_entry rows) ≡ length rows
length-map_entries [] = refl
length-map_entries (row ∷ rows) = ap suc (length-map_entries rows)

-- what was returned of a line has room for more
pub returned_before-fits : (journal : List Record) (before : List Row) (e : Entry) (line : Target) → IsReady journal before e → returned_before before line < 2 ^ 127
returned_before-fits journal before e line ready =
    let few = ready.bounded.few in
    omega (arith, units-le (returns_of line) (map row_entry before), length-map_entries before, length-append before (valued journal before e ∷ []), few)

-- so has what left by a line
pub line_cost-fits : (journal : List Record) (before : List Row) (e : Entry) (line : Target) → IsReady journal before e → line_cost before line < 2 ^ 127
line_cost-fits journal before e line ready =
    let few = ready.bounded.few in
    let small = (both_true (list_all has_value_in_range before) _ (sym (list_all-append has_value_in_range before (valued journal before e ∷ [])) ∙ ready.bounded.in_range)).0 in
    omega (arith, values-le (leaves_by line) before small, length-append before (valued journal before e ∷ []), few)

-- the movement's value is in range
pub value-in_range : (journal : List Record) (before : List Row) (e : Entry) → IsReady journal before e → has_value_in_range (valued journal before e) ≡ true
value-in_range journal before e ready =
    let last : (has_value_in_range (valued journal before e) && true) ≡ true = (both_true (list_all has_value_in_range before) (list_all has_value_in_range (valued journal before e ∷ [])) (sym (list_all-append has_value_in_range before (valued journal before e ∷ [])) ∙ ready.bounded.in_range)).1 in
    (both_true (has_value_in_range (valued journal before e)) true last).0

-- what the test of the range says
pub bounds : (z : ℤ) → (int_le (pos 0) z && int_le z (pos MAX_VALUE)) ≡ true → (pos 0 ≤ℤ z) × (z ≤ℤ pos MAX_VALUE)
bounds z h = grind (arith, ints, nat_tests)

not_below : (amount : ℤ) → is_line_amount amount ≡ true → pos 0 ≤ℤ amount
not_below amount h = grind (arith, ints, nat_tests)

-- a receipt's amount is not below 0
pub amount-not_below : (e : Entry) (amount : Minor) → e.cause ≡ Receipt amount → pos 0 ≤ℤ amount.0
amount-not_below e amount is = not_below amount.0 (subst (λ (c : Cause). has_amounts_in_range c ≡ true) is e.amounts)

-- and with what is charged it is in range
pub receipt-bounds : (journal : List Record) (before : List Row) (e : Entry) (amount : Minor) → IsReady journal before e → e.cause ≡ Receipt amount
    → (pos 0 ≤ℤ amount.0) × ((amount.0 +ℤ pos (added journal (own_line e))) ≤ℤ pos MAX_VALUE)
receipt-bounds journal before e amount ready is =
    let value = bounds (value_by journal before e e.cause) (value-in_range journal before e ready) in
    let told : value_by journal before e e.cause ≡ amount.0 +ℤ pos (added journal (own_line e)) = ap (value_by journal before e) is in
    (amount-not_below e amount is, subst (λ (z : ℤ). z ≤ℤ pos MAX_VALUE) told value.1)

-- a movement on the side that enters has a cause that enters
pub enters_by-is : (e : Entry) → is_entering e.place.side ≡ true → enters_by e.cause ≡ true
enters_by-is e enters = by_cases (enters_by e.cause) e.sides
  where
    by_cases : (b : Bool) → cond b (is_entering e.place.side) (not (is_entering e.place.side)) ≡ true → b ≡ true
    by_cases true side = refl
    by_cases false side = absurd (false≢true (sym (ap not enters) ∙ side))

-- no side both enters and does not
both_sides : (b : Bool) → b ≡ true → not b ≡ true → ⊥
both_sides true h k = false≢true k
both_sides false h k = false≢true h

-- what leaves is worth its cost
pub value_by-leaving : (journal : List Record) (before : List Row) (e : Entry) (cause : Cause) → has_side cause e.place.side ≡ true → not (is_entering e.place.side) ≡ true → value_by journal before e cause ≡ pos (cost before e)
value_by-leaving journal before e (Receipt amount) side leaves = absurd (both_sides (is_entering e.place.side) side leaves)
value_by-leaving journal before e (Issue sold) side leaves = refl
value_by-leaving journal before e TransferLeaves side leaves = refl
value_by-leaving journal before e TransferEnters side leaves = absurd (both_sides (is_entering e.place.side) side leaves)
value_by-leaving journal before e (CustomerReturn target issued) side leaves = absurd (both_sides (is_entering e.place.side) side leaves)
value_by-leaving journal before e (SupplierReturn target amount received) side leaves = refl

-- a row with the movement's value and share is the valued movement
pub valued-is : (journal : List Record) (before : List Row) (e : Entry) (value share : Minor) → value.0 ≡ value_by journal before e e.cause → share.0 ≡ share_by journal before e e.cause
    → record { entry = e; worth = record { value = value; share = share } } ≡ valued journal before e
valued-is journal before e value share is_value is_share =
    let of : ℤ → ℤ → Row = λ v s. record { entry = e; worth = record { value = record { 0 = v }; share = record { 0 = s } } } in
    ap (λ (v : ℤ). of v share.0) is_value ∙ ap (of (value_by journal before e e.cause)) is_share

-- a movement that leaves, at its cost and with its share, is the valued movement
pub costed-valued : (journal : List Record) (before : List Row) (e : Entry) (share : Minor) → not (is_entering e.place.side) ≡ true → share.0 ≡ share_by journal before e e.cause → costed before e share ≡ valued journal before e
costed-valued journal before e share leaves is_share =
    valued-is journal before e (record { 0 = pos (cost_by e.method before e) }) share (sym (value_by-leaving journal before e e.cause e.sides leaves)) is_share
