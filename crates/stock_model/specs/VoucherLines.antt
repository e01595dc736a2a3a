-- What a voucher says of goods, whatever its kind: its moment, its lines, what each moves, and the lines of earlier
-- vouchers that it names.
use Rattle.std.specs.Prelude.{ℕ, pos, Bool, true, false, IsTrue, List, [], ◌∷◌, map, Option, Some, None, refl}
use Rattle.stock_nums.specs.Causes.{has_amounts_in_range, has_side}
use Rattle.stock_nums.specs.Quantities.{IsLineQuantity, is_line_amount}
use Rattle.stock_nums.specs.declared.cause.Cause.{Cause}
use Rattle.stock_nums.specs.declared.cause.Cause.TheVariants as cause
use Rattle.stock_nums.specs.declared.cause.Target.{Target}
use Rattle.stock_nums.specs.declared.moment.Moment.{Moment}
use Rattle.stock_nums.specs.declared.numbers.Minor.{Minor}
use Rattle.stock_nums.specs.declared.numbers.Qty.{Qty}
use Rattle.stock_nums.specs.declared.place.Side.TheVariants.{Leaves, Enters}
use Rattle.stock_nums.proofs.LineQuantities.{is_line_quantity-true, both-in_range}
use Rattle.stock_model.specs.declared.seen.Move.{Move}
use Rattle.stock_model.specs.declared.targets.TargetKind.{TargetKind}
use Rattle.stock_model.specs.declared.targets.TargetKind.TheVariants.{OfSale, OfReceipt}
use Rattle.stock_model.specs.declared.targets.NamedTarget.{NamedTarget}
use Rattle.stock_model.specs.declared.vouchers.What.{What}
use Rattle.stock_model.specs.declared.vouchers.What.TheVariants.{Receipt, Issue, Transfer, CustomerReturn, SupplierReturn, Landed}
use Rattle.stock_model.specs.declared.vouchers.ReceiptLine.{ReceiptLine}
use Rattle.stock_model.specs.declared.vouchers.IssueLine.{IssueLine}
use Rattle.stock_model.specs.declared.vouchers.TransferLine.{TransferLine}
use Rattle.stock_model.specs.declared.vouchers.ReturnLine.{ReturnLine}
use Rattle.stock_model.specs.declared.vouchers.Purpose.{Purpose}
use Rattle.stock_model.specs.declared.vouchers.Purpose.TheVariants.{Sold, Used}

-- the item of a line: the one with a code, or that of a line of an earlier voucher
pub data Subject : Type 0 where
  Coded : List ℕ → Subject
  OfTarget : NamedTarget → Subject

-- a line: its item, the codes of the warehouses that it names, in the order in which they are looked up, how many units
-- it moves, and its purchase price, 0 where it has none
pub record VoucherLine : Type 0 where
  pub item : Subject
  pub stores : List (List ℕ)
  pub qty : Qty
  pub amount : Minor
  pub quantity : IsLineQuantity qty.0
  pub price : IsTrue (is_line_amount amount.0)

-- the moment at which the voucher moves goods
abbrev pub moment_of : What → Option Moment
moment_of (Receipt at lines) = Some at
moment_of (Issue at purpose lines) = Some at
moment_of (Transfer at lines) = Some at
moment_of (CustomerReturn at lines) = Some at
moment_of (SupplierReturn at lines) = Some at
moment_of _ = None

-- the target of a line of a return, and one of a charge
abbrev pub return_target : TargetKind → ReturnLine → NamedTarget
return_target kind line = record { kind = kind; target = line.target }

abbrev pub landed_target : Target → NamedTarget
landed_target target = record { kind = OfReceipt; target = target }

-- the lines of receipts whose goods a charge is for
abbrev pub charged_targets : What → List Target
charged_targets (Landed charge basis targets) = targets
charged_targets _ = []

-- the lines of earlier vouchers that the voucher names, each with the kind of voucher that it has to be of
abbrev pub targets_of : What → List NamedTarget
targets_of (CustomerReturn at lines) = map (return_target OfSale) lines
targets_of (SupplierReturn at lines) = map (return_target OfReceipt) lines
targets_of (Landed charge basis targets) = map landed_target targets
targets_of _ = []

abbrev pub receipt_line : ReceiptLine → VoucherLine
receipt_line line =
    record { item = Coded line.item; stores = line.store ∷ []; qty = line.qty; amount = line.amount; quantity = line.quantity; price = line.price }

-- a line that has no purchase price
abbrev pub unpriced : Subject → List (List ℕ) → (qty : Qty) → IsLineQuantity qty.0 → VoucherLine
unpriced item stores qty quantity =
    record { item = item; stores = stores; qty = qty; amount = record { 0 = pos 0 }; quantity = quantity; price = refl }

abbrev pub issue_line : IssueLine → VoucherLine
issue_line line = unpriced (Coded line.item) (line.store ∷ []) line.qty line.quantity

abbrev pub transfer_line : TransferLine → VoucherLine
transfer_line line = unpriced (Coded line.item) (line.from ∷ line.to ∷ []) line.qty line.quantity

abbrev pub return_line : TargetKind → ReturnLine → VoucherLine
return_line kind line = unpriced (OfTarget (return_target kind line)) (line.store ∷ []) line.qty line.quantity

-- the lines that move goods
abbrev pub lines_of : What → List VoucherLine
lines_of (Receipt at lines) = map receipt_line lines
lines_of (Issue at purpose lines) = map issue_line lines
lines_of (Transfer at lines) = map transfer_line lines
lines_of (CustomerReturn at lines) = map (return_line OfSale) lines
lines_of (SupplierReturn at lines) = map (return_line OfReceipt) lines
lines_of _ = []

-- how many warehouses each line names
abbrev pub stores_each : What → ℕ
stores_each (Transfer at lines) = 2
stores_each _ = 1

-- the goods were sold
abbrev pub is_sold : Purpose → Bool
is_sold Sold = true
is_sold Used = false

-- the voucher is of the kind that a target has to be of
abbrev pub is_of_kind : TargetKind → What → Bool
is_of_kind OfSale (Issue at purpose lines) = is_sold purpose
is_of_kind OfReceipt (Receipt at lines) = true
is_of_kind _ _ = false

-- a move of goods that come in, and of goods that go out
abbrev pub entering : (cause : Cause) → IsTrue (has_amounts_in_range cause) → IsTrue (has_side cause Enters) → Move
entering cause amounts sides = record { side = Enters; cause = cause; amounts = amounts; sides = sides }

abbrev pub leaving : (cause : Cause) → IsTrue (has_amounts_in_range cause) → IsTrue (has_side cause Leaves) → Move
leaving cause amounts sides = record { side = Leaves; cause = cause; amounts = amounts; sides = sides }

-- units of this line of an issue come back
abbrev pub customer_return : Target → VoucherLine → Move
customer_return target found = entering (cause.CustomerReturn target found.qty) (is_line_quantity-true found.qty.0 found.quantity) refl

-- units of this line of a receipt go back
abbrev pub supplier_return : Target → VoucherLine → Move
supplier_return target found =
    leaving (cause.SupplierReturn target found.amount found.qty)
    (both-in_range _ _ found.price (is_line_quantity-true found.qty.0 found.quantity)) refl

-- what a return of units of the target that was found moves
abbrev pub return_moves : (Target → VoucherLine → Move) → Subject → VoucherLine → List Move
return_moves move (OfTarget named) found = move named.target found ∷ []
return_moves move (Coded code) found = []

-- what a line of the voucher moves, one move for each warehouse that it names; found is the line that its item is of:
-- the line itself, or its target
abbrev pub moves_of : What → VoucherLine → VoucherLine → List Move
moves_of (Receipt at lines) line found = entering (cause.Receipt line.amount) line.price refl ∷ []
moves_of (Issue at purpose lines) line found = leaving (cause.Issue (is_sold purpose)) refl refl ∷ []
moves_of (Transfer at lines) line found = leaving cause.TransferLeaves refl refl ∷ entering cause.TransferEnters refl refl ∷ []
moves_of (CustomerReturn at lines) line found = return_moves customer_return line.item found
moves_of (SupplierReturn at lines) line found = return_moves supplier_return line.item found
moves_of _ line found = []
