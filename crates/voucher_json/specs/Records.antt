-- What a record says, by the fields of a JSON object: of a request, or of the stored text of the record. The
-- shared fields are those that an object may have beside those of its kind.
use Rattle.std.specs.Prelude.{ℕ, List, [], ◌∷◌, ◌++◌, codes, Result}
use Rattle.serde_json.specs.Data.{Data}
use Rattle.stock_nums.specs.declared.cause.Method.{Method}
use Rattle.stock_nums.specs.declared.cause.Method.TheVariants.{Fifo, Average}
use Rattle.stock_nums.specs.declared.cause.Target.{Target}
use Rattle.stock_nums.specs.declared.limits.TheConstants.{MAX_QUANTITY, MAX_LINES, MAX_SAID_ACCOUNT}
use Rattle.stock_nums.specs.declared.moment.Moment.{Moment}
use Rattle.stock_model.specs.declared.read_faults.FieldName.{FieldName}
use Rattle.stock_model.specs.declared.read_faults.FieldName.TheVariants as field
use Rattle.stock_model.specs.declared.read_faults.ReadFault.{ReadFault}
use Rattle.stock_model.specs.declared.vouchers.Basis.{Basis}
use Rattle.stock_model.specs.declared.vouchers.Basis.TheVariants as part_by
use Rattle.stock_model.specs.declared.vouchers.IssueLine.{IssueLine}
use Rattle.stock_model.specs.declared.vouchers.Purpose.{Purpose}
use Rattle.stock_model.specs.declared.vouchers.Purpose.TheVariants.{Sold, Used}
use Rattle.stock_model.specs.declared.vouchers.ReceiptLine.{ReceiptLine}
use Rattle.stock_model.specs.declared.vouchers.ReturnLine.{ReturnLine}
use Rattle.stock_model.specs.declared.vouchers.TransferLine.{TransferLine}
use Rattle.stock_model.specs.declared.vouchers.What.{What}
use Rattle.stock_model.specs.declared.vouchers.What.TheVariants.{Item, Store, Receipt, Issue, Transfer, CustomerReturn, SupplierReturn, Landed, Freeze, Cancel}
use Rattle.voucher_json.specs.Walks.{Then, Ends, Field}
use Rattle.voucher_json.specs.Fields.{IsText, IsWord, IsNumber, IsMoment, IsList, NoOther}
use Rattle.voucher_json.specs.Tables.{IsMoney, a_text, a_number, an_amount, LineTable, IsLine}
use Rattle.voucher_json.specs.declared.kinds.RecordKind.{RecordKind}
use Rattle.voucher_json.specs.declared.kinds.RecordKind.TheVariants as kind_of

-- the words of `do` that a record may have
abbrev pub record_kinds : List (List ℕ × RecordKind)
record_kinds =
    (codes "item", kind_of.Item)
    ∷ (codes "store", kind_of.Store)
    ∷ (codes "receipt", kind_of.Receipt)
    ∷ (codes "issue", kind_of.Issue)
    ∷ (codes "transfer", kind_of.Transfer)
    ∷ (codes "customer-return", kind_of.CustomerReturn)
    ∷ (codes "supplier-return", kind_of.SupplierReturn)
    ∷ (codes "landed", kind_of.Landed)
    ∷ (codes "freeze", kind_of.Freeze)
    ∷ (codes "cancel", kind_of.Cancel)
    ∷ []

-- the words of `method`
abbrev pub methods : List (List ℕ × Method)
methods = (codes "fifo", Fifo) ∷ (codes "average", Average) ∷ []

-- the words of `use`
abbrev pub purposes : List (List ℕ × Purpose)
purposes = (codes "sold", Sold) ∷ (codes "used", Used) ∷ []

-- the words of `basis`
abbrev pub bases : List (List ℕ × Basis)
bases = (codes "qty", part_by.Quantity) ∷ (codes "amount", part_by.Amount) ∷ []

-- `code` is a text, and `method` says how the item is valued
abbrev pub IsItem : List FieldName → Data → Result What ReadFault → Type 0
IsItem shared value =
    Then (Field IsText field.Code 0 value) (λ code.
    Then (Field (IsWord methods) field.Method 0 value) (λ method.
    Then (NoOther (shared ++ field.Code ∷ field.Method ∷ []) 0 value) (λ none.
    Ends (Item code method))))

-- `code` is a text, and `account` a number up to 10^9
abbrev pub IsStore : List FieldName → Data → Result What ReadFault → Type 0
IsStore shared value =
    Then (Field IsText field.Code 0 value) (λ code.
    Then (Field (IsNumber 0 MAX_SAID_ACCOUNT) field.Account 0 value) (λ account.
    Then (NoOther (shared ++ field.Code ∷ field.Account ∷ []) 0 value) (λ none.
    Ends (Store code (record { 0 = account })))))

-- a line of a receipt: `qty` is from 1 to 10^9, `amount` from 0 to 10^12
abbrev pub receipt_line : LineTable ReceiptLine
receipt_line = record {
  fields = (field.Item, a_text) ∷ (field.Store, a_text) ∷ (field.Qty, a_number 1 MAX_QUANTITY) ∷ (field.Amount, an_amount) ∷ [];
  parts = λ line. (line.item, (line.store, (line.qty.0, (line.amount, tt))));
}

-- a line of an issue
abbrev pub issue_line : LineTable IssueLine
issue_line = record {
  fields = (field.Item, a_text) ∷ (field.Store, a_text) ∷ (field.Qty, a_number 1 MAX_QUANTITY) ∷ [];
  parts = λ line. (line.item, (line.store, (line.qty.0, tt)));
}

-- a line of a transfer
abbrev pub transfer_line : LineTable TransferLine
transfer_line = record {
  fields = (field.Item, a_text) ∷ (field.From, a_text) ∷ (field.To, a_text) ∷ (field.Qty, a_number 1 MAX_QUANTITY) ∷ [];
  parts = λ line. (line.item, (line.from, (line.to, (line.qty.0, tt))));
}

-- a line of a return: `record` is from 1 to 2^32 - 1, `line` from 1 to 100
abbrev pub return_line : LineTable ReturnLine
return_line = record {
  fields = (field.Record, a_number 1 4_294_967_295) ∷ (field.Line, a_number 1 MAX_LINES) ∷ (field.Store, a_text) ∷ (field.Qty, a_number 1 MAX_QUANTITY) ∷ [];
  parts = λ line. (line.target.voucher.0, (line.target.line, (line.store, (line.qty.0, tt))));
}

-- a line that a charge is for
abbrev pub target_line : LineTable Target
target_line = record {
  fields = (field.Record, a_number 1 4_294_967_295) ∷ (field.Line, a_number 1 MAX_LINES) ∷ [];
  parts = λ target. (target.voucher.0, (target.line, tt));
}

-- the moment `at` and the `lines` of a voucher that has no fields but these
abbrev pub IsDated : {A : Type 0} → LineTable A → List FieldName → Data → Result (Moment × List A) ReadFault → Type 0
IsDated table shared value =
    Then (Field IsMoment field.At 0 value) (λ at.
    Then (Field (IsList (IsLine table)) field.Lines 0 value) (λ lines.
    Then (NoOther (shared ++ field.At ∷ field.Lines ∷ []) 0 value) (λ none.
    Ends (at, lines))))

-- a voucher of this kind, which has a moment and lines alone
abbrev pub IsVoucher : {A : Type 0} → LineTable A → (Moment → List A → What) → List FieldName → Data → Result What ReadFault → Type 0
IsVoucher table voucher shared value = Then (IsDated table shared value) (λ dated. Ends (voucher dated.0 dated.1))

-- goods left at the moment `at`, for the `use`, by these `lines`
abbrev pub IsIssue : List FieldName → Data → Result What ReadFault → Type 0
IsIssue shared value =
    Then (Field IsMoment field.At 0 value) (λ at.
    Then (Field (IsWord purposes) field.Use 0 value) (λ purpose.
    Then (Field (IsList (IsLine issue_line)) field.Lines 0 value) (λ lines.
    Then (NoOther (shared ++ field.At ∷ field.Use ∷ field.Lines ∷ []) 0 value) (λ none.
    Ends (Issue at purpose lines)))))

-- a `charge` from 0 to 10^12 is parted by its `basis` over the lines that the `targets` name
abbrev pub IsLanded : List FieldName → Data → Result What ReadFault → Type 0
IsLanded shared value =
    Then (Field IsMoney field.Charge 0 value) (λ charge.
    Then (Field (IsWord bases) field.Basis 0 value) (λ basis.
    Then (Field (IsList (IsLine target_line)) field.Targets 0 value) (λ targets.
    Then (NoOther (shared ++ field.Charge ∷ field.Basis ∷ field.Targets ∷ []) 0 value) (λ none.
    Ends (Landed charge basis targets)))))

-- the past is closed up to the moment `until`
abbrev pub IsFreeze : List FieldName → Data → Result What ReadFault → Type 0
IsFreeze shared value =
    Then (Field IsMoment field.Until 0 value) (λ until.
    Then (NoOther (shared ++ field.Until ∷ []) 0 value) (λ none.
    Ends (Freeze until)))

-- the voucher whose number is `record`, from 1 to 2^32 - 1, is taken back
abbrev pub IsCancel : List FieldName → Data → Result What ReadFault → Type 0
IsCancel shared value =
    Then (Field (IsNumber 1 4_294_967_295) field.Record 0 value) (λ number.
    Then (NoOther (shared ++ field.Record ∷ []) 0 value) (λ none.
    Ends (Cancel (record { 0 = number }))))

-- the fields of each kind
abbrev pub IsWhat : List FieldName → RecordKind → Data → Result What ReadFault → Type 0
IsWhat shared kind_of.Item = IsItem shared
IsWhat shared kind_of.Store = IsStore shared
IsWhat shared kind_of.Receipt = IsVoucher receipt_line Receipt shared
IsWhat shared kind_of.Issue = IsIssue shared
IsWhat shared kind_of.Transfer = IsVoucher transfer_line Transfer shared
IsWhat shared kind_of.CustomerReturn = IsVoucher return_line CustomerReturn shared
IsWhat shared kind_of.SupplierReturn = IsVoucher return_line SupplierReturn shared
IsWhat shared kind_of.Landed = IsLanded shared
IsWhat shared kind_of.Freeze = IsFreeze shared
IsWhat shared kind_of.Cancel = IsCancel shared
