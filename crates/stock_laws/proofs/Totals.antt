-- No stock and no movement is worth more than what was received.
use Rattle.std.proofs.Common.{◌≡◌, ℕ, ◌+◌, ◌≤◌, Bool, true, false, ◌&&◌, not, List, [], ◌∷◌, ◌++◌, refl, ap, ◌∙◌, arith}
use Rattle.stock_nums.specs.Causes.{enters_by, is_entering}
use Rattle.stock_nums.specs.declared.cause.Cause.{Cause}
use Rattle.stock_nums.specs.declared.cause.Cause.TheVariants.{Receipt, Issue, TransferLeaves, TransferEnters, CustomerReturn, SupplierReturn}
use Rattle.stock_nums.specs.declared.cause.Target.{Target}
use Rattle.stock_nums.specs.declared.entry.Key.{Key}
use Rattle.stock_nums.specs.declared.entry.Row.{Row}
use Rattle.stock_model.specs.Conservation.{is_receipt, is_sale, is_use, is_sent, is_arrived, is_customer_return, is_supplier_return, has_cause, worth_by, received}
use Rattle.stock_model.specs.Enough.{entry_key}
use Rattle.stock_model.specs.Sums.{value_of, stock_value}
use Rattle.stock_laws.proofs.TestedSums.{counted, tested-cons, tested-snoc}
use Rattle.stock_laws.proofs.Conserved.{Conserved, enters_where, leaves_where, key_in, key_out, but_key, row_by, worth, key_in-split, key_out-split, value_out-le_in}
use Rattle.stock_laws.proofs.Conserving.{side-is, IsWorthBy}

-- tests that all pass
abbrev pub any_key : Key → Bool
any_key key = true

abbrev pub any_line : Target → Bool
any_line line = true

-- a cause by which something enters is one of three, and one by which something leaves one of four
entering-by : (cause : Cause) (n : ℕ) → counted (enters_by cause) n ≡ counted (is_receipt cause) n + counted (is_arrived cause) n + counted (is_customer_return cause) n
entering-by (Receipt amount) n = omega arith
entering-by (Issue sold) n = refl
entering-by TransferLeaves n = refl
entering-by TransferEnters n = omega arith
entering-by (CustomerReturn target issued) n = omega arith
entering-by (SupplierReturn target amount received) n = refl

issued-by : (sold : Bool) (n : ℕ) → n ≡ counted sold n + counted (not sold) n
issued-by true n = omega arith
issued-by false n = omega arith

leaving-by : (cause : Cause) (n : ℕ) → counted (not (enters_by cause)) n ≡ counted (is_sent cause) n + counted (is_sale cause) n + counted (is_use cause) n + counted (is_supplier_return cause) n
leaving-by (Receipt amount) n = refl
leaving-by (Issue sold) n = omega (arith, issued-by sold n)
leaving-by TransferLeaves n = omega arith
leaving-by TransferEnters n = refl
leaving-by (CustomerReturn target issued) n = refl
leaving-by (SupplierReturn target amount received) n = omega arith

pub row-side : (row : Row) → is_entering row.entry.place.side ≡ enters_by row.entry.cause
row-side row = side-is (enters_by row.entry.cause) row.entry.place.side row.entry.sides

-- all that entered was received, or arrived by a transfer, or was given back by customers
pub entering-all : (rows : List Row) → key_in any_key rows ≡ worth_by is_receipt rows + worth_by is_arrived rows + worth_by is_customer_return rows
entering-all [] = refl
entering-all (row ∷ rows) =
    let here : counted (is_entering row.entry.place.side) (value_of row) ≡ counted (enters_by row.entry.cause) (value_of row) =
    ap (λ (b : Bool). counted b (value_of row)) (row-side row) in
    omega (
      arith,
      tested-cons value_of (enters_where any_key) row rows,
      tested-cons value_of (has_cause is_receipt) row rows,
      tested-cons value_of (has_cause is_arrived) row rows,
      tested-cons value_of (has_cause is_customer_return) row rows,
      here,
      entering-by row.entry.cause (value_of row),
      entering-all rows,
    )

-- all that left was sent by a transfer, sold, used or given back to suppliers
pub leaving-all : (rows : List Row) → key_out any_key rows ≡ worth_by is_sent rows + worth_by is_sale rows + worth_by is_use rows + worth_by is_supplier_return rows
leaving-all [] = refl
leaving-all (row ∷ rows) =
    let here : counted (not (is_entering row.entry.place.side)) (value_of row) ≡ counted (not (enters_by row.entry.cause)) (value_of row) =
    ap (λ (b : Bool). counted (not b) (value_of row)) (row-side row) in
    omega (
      arith,
      tested-cons value_of (leaves_where any_key) row rows,
      tested-cons value_of (has_cause is_sent) row rows,
      tested-cons value_of (has_cause is_sale) row rows,
      tested-cons value_of (has_cause is_use) row rows,
      tested-cons value_of (has_cause is_supplier_return) row rows,
      here,
      leaving-by row.entry.cause (value_of row),
      leaving-all rows,
    )

pub any-passes : (b : Bool) (n : ℕ) → counted (b && true) n ≡ counted b n
any-passes true n = refl
any-passes false n = refl

worth-any : (kind : Cause → Bool) (rows : List Row) → worth kind any_line rows ≡ worth_by kind rows
worth-any kind [] = refl
worth-any kind (row ∷ rows) =
    omega (
      arith,
      tested-cons value_of (row_by kind any_line) row rows,
      tested-cons value_of (has_cause kind) row rows,
      any-passes (kind row.entry.cause) (value_of row),
      worth-any kind rows,
    )

-- no more arrived than was sent, and no more came back than was sold
pub arrived-le : (rows : List Row) → Conserved rows → worth_by is_arrived rows ≤ worth_by is_sent rows
arrived-le rows conserved = omega (arith, conserved.transfers any_line, worth-any is_arrived rows, worth-any is_sent rows)

pub came_back-le : (rows : List Row) → Conserved rows → worth_by is_customer_return rows ≤ worth_by is_sale rows
came_back-le rows conserved = omega (arith, conserved.sales any_line, worth-any is_customer_return rows, worth-any is_sale rows)

-- no stock is worth more than all that was received
pub stock_value-le : (rows : List Row) (key : Key) → Conserved rows → stock_value rows key ≤ received rows
stock_value-le rows key conserved =
    omega (
      arith,
      key_in-split any_key key rows refl,
      key_out-split any_key key rows refl,
      conserved.keys (but_key any_key key),
      value_out-le_in rows conserved.keys key,
      entering-all rows,
      leaving-all rows,
      arrived-le rows conserved,
      came_back-le rows conserved,
    )

pub worth_by-next : (kind : Cause → Bool) (rows : List Row) (row : Row) (cause : Cause) → row.entry.cause ≡ cause
    → worth_by kind (rows ++ row ∷ []) ≡ worth_by kind rows + counted (kind cause) (value_of row)
worth_by-next kind rows row cause is =
    tested-snoc value_of (has_cause kind) rows row ∙ ap (λ (c : Cause). worth_by kind rows + counted (kind c) (value_of row)) is

-- nor is a movement
pub value_of-le_received : (rows : List Row) (row : Row) (cause : Cause) → row.entry.cause ≡ cause → IsWorthBy rows row cause → Conserved rows → Conserved (rows ++ row ∷ [])
    → value_of row ≤ received (rows ++ row ∷ [])
value_of-le_received rows row (Receipt amount) is worth conserved after =
    omega (arith, worth_by-next is_receipt rows row (Receipt amount) is)
value_of-le_received rows row (Issue sold) is worth conserved after =
    omega (arith, worth_by-next is_receipt rows row (Issue sold) is, worth, stock_value-le rows (entry_key row.entry) conserved)
value_of-le_received rows row TransferLeaves is worth conserved after =
    omega (arith, worth_by-next is_receipt rows row TransferLeaves is, worth, stock_value-le rows (entry_key row.entry) conserved)
value_of-le_received rows row TransferEnters is worth conserved after =
    omega (
      arith,
      worth_by-next is_receipt rows row TransferEnters is,
      worth_by-next is_arrived rows row TransferEnters is,
      worth_by-next is_sent rows row TransferEnters is,
      arrived-le (rows ++ row ∷ []) after,
      came_back-le rows conserved,
      conserved.keys any_key,
      entering-all rows,
      leaving-all rows,
    )
value_of-le_received rows row (CustomerReturn target issued) is worth conserved after =
    omega (
      arith,
      worth_by-next is_receipt rows row (CustomerReturn target issued) is,
      worth_by-next is_customer_return rows row (CustomerReturn target issued) is,
      worth_by-next is_sale rows row (CustomerReturn target issued) is,
      came_back-le (rows ++ row ∷ []) after,
      arrived-le rows conserved,
      conserved.keys any_key,
      entering-all rows,
      leaving-all rows,
    )
value_of-le_received rows row (SupplierReturn target amount received) is worth conserved after =
    omega (arith, worth_by-next is_receipt rows row (SupplierReturn target amount received) is, worth, stock_value-le rows (entry_key row.entry) conserved)
