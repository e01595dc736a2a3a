-- What is taken over makes the values of the replay.
use Rattle.std.proofs.Common.{◌≡◌, ℕ, ℤ, pos, ◌+◌, ◌-◌, ◌≤◌, ◌+ℤ◌, Bool, true, false, cond, not, List, unsigned_abs, int_le, ◌&&◌, length, refl, sym, ap, ◌∙◌, arith, [], ◌∷◌}
use Rattle.stock_nums.specs.Causes.{is_entering}
use Rattle.stock_nums.specs.HalfUp.{half_up}
use Rattle.stock_nums.specs.Part.{part}
use Rattle.stock_nums.specs.declared.cause.Cause.{Cause}
use Rattle.stock_nums.specs.declared.cause.Cause.TheVariants.{Receipt, Issue, TransferLeaves, TransferEnters, CustomerReturn, SupplierReturn}
use Rattle.stock_nums.specs.declared.cause.Method.{Method}
use Rattle.stock_nums.specs.declared.cause.Method.TheVariants.{Fifo, Average}
use Rattle.stock_nums.specs.declared.entry.Entry.{Entry}
use Rattle.stock_nums.specs.declared.entry.Row.{Row}
use Rattle.stock_nums.specs.declared.limits.TheConstants.{MAX_RECORDS, MAX_VALUE}
use Rattle.stock_model.specs.Bounds.{AreBounded}
use Rattle.stock_model.specs.Enough.{entry_key}
use Rattle.stock_model.specs.Replay.{valued, value_next}
use Rattle.stock_model.specs.Sums.{quantity_in, quantity_out, stock_value, value_of}
use Rattle.stock_model.specs.Values.{cost_by, line_cost, own_line, value_by, HasUnitsLeftBy}
use Rattle.stock_model.specs.declared.records.Record.{Record}
use Rattle.stock_laws.proofs.Bounds.{quantity_in-le}
use Rattle.cost_links.specs.Ready.{IsReady}
use Rattle.cost_links.specs.Stocks.{IsAverageOf}
use Rattle.cost_links.specs.Tables.{Held}
use Rattle.cost_links.specs.Taken.{Taken, cost_taken, value_taken, held_entered, held_left, held_after, IsCostOf, IsLinkedBy, IsBackBy, IsTakenFrom, HasUnitsBackBy, CanBeTaken}
use Rattle.cost_links.proofs.LinkSteps.{added-le}
use Rattle.cost_links.proofs.RowSums.{value-in_range, value_by-leaving}
use Rattle.cost_links.proofs.StockSteps.{AreSumsWith-is, IsAverageOf-entered, IsAverageOf-left, value_out-le, value_in-le_out, is_of-own}

-- what units cost at the moving average of what is held
average-is : (before : List Row) (e : Entry) (held : Held) → IsAverageOf before (entry_key e) held → half_up held.value e.qty.0 held.units ≡ cost_by Average before e
average-is before e held average =
    ap (λ (v : ℕ). half_up v e.qty.0 held.units) average.worth ∙ ap (half_up (stock_value before (entry_key e)) e.qty.0) average.quantity

-- and by the item's formula
cost-is : (method : Method) (before : List Row) (e : Entry) (t : Taken) → (method ≡ Average → IsAverageOf before (entry_key e) t.held) → IsCostOf method before e t.linked
    → cost_taken method t.held t.linked e.qty.0 ≡ cost_by method before e
cost-is Fifo before e t average linked = linked
cost-is Average before e t average linked = average-is before e t.held (average refl)

-- the value is that of the replay
value-is : (journal : List Record) (before : List Row) (e : Entry) (t : Taken) (cause : Cause) → IsTakenFrom journal before e t → IsBackBy before t.back cause → IsLinkedBy before e t.linked cause
    → value_taken t e cause ≡ value_by journal before e cause
value-is journal before e t (Receipt amount) from back linked = ap (λ (n : ℕ). amount.0 +ℤ pos n) from.charges
value-is journal before e t (Issue sold) from back linked = ap pos (cost-is e.method before e t from.average linked)
value-is journal before e t TransferLeaves from back linked = ap pos (cost-is e.method before e t from.average linked)
value-is journal before e t TransferEnters from back linked = ap pos linked
value-is journal before e t (CustomerReturn target issued) from back linked =
    ap (λ (n : ℕ). pos (part n t.back e.qty.0 issued.0)) linked ∙ ap (λ (n : ℕ). pos (part (line_cost before target) n e.qty.0 issued.0)) back
value-is journal before e t (SupplierReturn target amount received) from back linked = ap pos (cost-is e.method before e t from.average linked)

turned : (b : Bool) → b ≡ false → not b ≡ true
turned b is = ap not is

-- what is held after the movement at the moving average is the stock
pub IsAverageOf-after : (journal : List Record) (before : List Row) (e : Entry) (t : Taken) → IsTakenFrom journal before e t → AreBounded (value_next journal before e)
    → quantity_out before (entry_key e) ≤ quantity_in before (entry_key e) → e.method ≡ Average → IsAverageOf (value_next journal before e) (entry_key e) (held_after t e)
IsAverageOf-after journal before e t from bounded covered method = by_side (is_entering e.place.side) refl
  where
    by_side : (b : Bool) → is_entering e.place.side ≡ b → IsAverageOf (value_next journal before e) (entry_key e) (held_after t e)
    by_side true side =
        let row = valued journal before e in
        let value = value-is journal before e t e.cause from from.returns from.source in
        let now : held_after t e ≡ record { units = t.held.units + e.qty.0; value = t.held.value + value_of row } =
        ap (λ (b : Bool). cond b (held_entered e.method t.held e.qty.0 (unsigned_abs (value_taken t e e.cause))) (held_left e.method t.held e.qty.0)) side
        ∙ ap (λ (m : Method). held_entered m t.held e.qty.0 (unsigned_abs (value_taken t e e.cause))) method
        ∙ ap (λ (z : ℤ). held_entered Average t.held e.qty.0 (unsigned_abs z)) value in
        IsAverageOf-entered before row (entry_key e) t.held (held_after t e) (is_of-own row) side bounded covered (from.average method) now
    by_side false side =
        let row = valued journal before e in
        let cost : half_up t.held.value e.qty.0 t.held.units ≡ value_of row =
        average-is before e t.held (from.average method)
        ∙ ap (λ (m : Method). cost_by m before e) (sym method)
        ∙ ap unsigned_abs (sym (value_by-leaving journal before e e.cause e.sides (turned (is_entering e.place.side) side))) in
        let of : ℕ → Held = λ n. record { units = t.held.units - e.qty.0; value = t.held.value - n } in
        let now : held_after t e ≡ of (value_of row) =
        ap (λ (b : Bool). cond b (held_entered e.method t.held e.qty.0 (unsigned_abs (value_taken t e e.cause))) (held_left e.method t.held e.qty.0)) side
        ∙ ap (λ (m : Method). held_left m t.held e.qty.0) method
        ∙ ap of cost in
        IsAverageOf-left before row (entry_key e) t.held (held_after t e) (is_of-own row) side (from.average method) now

-- how many units of its target were left is what the rows before the movement say
back-by : (before : List Row) (e : Entry) (t : Taken) (cause : Cause) → IsBackBy before t.back cause → HasUnitsLeftBy before e cause → HasUnitsBackBy t e cause
back-by before e t (Receipt amount) back left = tt
back-by before e t (Issue sold) back left = tt
back-by before e t TransferLeaves back left = tt
back-by before e t TransferEnters back left = tt
back-by before e t (CustomerReturn target issued) back left = omega (arith, back, left)
back-by before e t (SupplierReturn target amount received) back left = omega (arith, back, left)

-- a movement that is ready can be valued from what it takes over
pub CanBeTaken-ready : (journal : List Record) (before : List Row) (e : Entry) (t : Taken) → length journal ≤ MAX_RECORDS → IsReady journal before e → t.linked ≤ MAX_VALUE → IsTakenFrom journal before e t → CanBeTaken t e
CanBeTaken-ready journal before e t few ready small from =
    let row = valued journal before e in
    let key = entry_key e in
    let value = value-is journal before e t e.cause from from.returns from.source in
    record {
      few = omega (arith, from.charges, added-le journal (own_line e), few);
      small = small;
      in_range = ap (λ (z : ℤ). int_le (pos 0) z && int_le z (pos MAX_VALUE)) value ∙ value-in_range journal before e ready;
      left = back-by before e t e.cause from.returns ready.left;
      enough = λ leaves method. let average = from.average method in omega (arith, average.quantity, ready.held (turned (is_entering e.place.side) leaves));
      units_fit = λ enters method.
          let average = from.average method in
          let sums = AreSumsWith-is before row key true true (is_of-own row) enters in
          omega (arith, average.quantity, sums.units_in, quantity_in-le (value_next journal before e) key ready.bounded);
      value_fits = λ enters method.
          let average = from.average method in
          let sums = AreSumsWith-is before row key true true (is_of-own row) enters in
          let same : unsigned_abs (value_taken t e e.cause) ≡ value_of row = ap unsigned_abs value in
          omega (arith, average.worth, same, sums.worth_in, sums.worth_out, value_out-le before (row ∷ []) key ready.bounded, value_in-le_out (value_next journal before e) key ready.bounded);
    }
