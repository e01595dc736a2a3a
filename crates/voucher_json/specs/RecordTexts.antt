-- The stored texts of records: JSON objects with no space, their members in byte order of their keys.
use Rattle.std.specs.Prelude.{ℕ, List, [], ◌∷◌, map, flat_map, codes}
use Rattle.serde_json.specs.Data.{Data, string, number, unsigned, array, object, no_members, member}
use Rattle.serde_json.specs.Find.{of_integer}
use Rattle.serde_json.specs.View.{items_of}
use Rattle.serde_json.specs.Written.{compact_text}
use Rattle.stock_nums.specs.MomentText.{moment_text}
use Rattle.stock_nums.specs.declared.cause.Method.{Method}
use Rattle.stock_nums.specs.declared.cause.Method.TheVariants.{Fifo, Average}
use Rattle.stock_nums.specs.declared.moment.Moment.{Moment}
use Rattle.stock_model.specs.declared.records.Record.{Record}
use Rattle.stock_model.specs.declared.vouchers.Basis.{Basis}
use Rattle.stock_model.specs.declared.vouchers.Basis.TheVariants as part_by
use Rattle.stock_model.specs.declared.vouchers.Purpose.{Purpose}
use Rattle.stock_model.specs.declared.vouchers.Purpose.TheVariants.{Sold, Used}
use Rattle.stock_model.specs.declared.vouchers.What.{What}
use Rattle.stock_model.specs.declared.vouchers.What.TheVariants.{Item, Store, Receipt, Issue, Transfer, CustomerReturn, SupplierReturn, Landed, Freeze, Cancel}
use Rattle.voucher_json.specs.Records.{receipt_line, issue_line, transfer_line, return_line, target_line}
use Rattle.voucher_json.specs.Tables.{LineTable, line_data, line_codes}

-- the word of `method`
abbrev pub method_word : Method → List ℕ
method_word Fifo = codes "fifo"
method_word Average = codes "average"

-- the word of `use`
abbrev pub purpose_word : Purpose → List ℕ
purpose_word Sold = codes "sold"
purpose_word Used = codes "used"

-- the word of `basis`
abbrev pub basis_word : Basis → List ℕ
basis_word part_by.Quantity = codes "qty"
basis_word part_by.Amount = codes "amount"

-- what a voucher of this desk says, whose `do` is this word, and which has a moment and lines alone
abbrev pub dated_data : {A : Type 0} → LineTable A → ℕ → List ℕ → Moment → List A → Data
dated_data table desk word at lines =
    object
    (member (codes "at") (string (moment_text at))
    (member (codes "desk") (number (unsigned desk))
    (member (codes "do") (string word)
    (member (codes "lines") (array (items_of (map (line_data table) lines))) no_members))))

-- what a record of this desk says
abbrev pub what_data : ℕ → What → Data
what_data desk (Item code method) =
    object
    (member (codes "code") (string code)
    (member (codes "desk") (number (unsigned desk))
    (member (codes "do") (string (codes "item"))
    (member (codes "method") (string (method_word method)) no_members))))
what_data desk (Store code account) =
    object
    (member (codes "account") (number (unsigned account.0))
    (member (codes "code") (string code)
    (member (codes "desk") (number (unsigned desk))
    (member (codes "do") (string (codes "store")) no_members))))
what_data desk (Receipt at lines) = dated_data receipt_line desk (codes "receipt") at lines
what_data desk (Issue at purpose lines) =
    object
    (member (codes "at") (string (moment_text at))
    (member (codes "desk") (number (unsigned desk))
    (member (codes "do") (string (codes "issue"))
    (member (codes "lines") (array (items_of (map (line_data issue_line) lines)))
    (member (codes "use") (string (purpose_word purpose)) no_members)))))
what_data desk (Transfer at lines) = dated_data transfer_line desk (codes "transfer") at lines
what_data desk (CustomerReturn at lines) = dated_data return_line desk (codes "customer-return") at lines
what_data desk (SupplierReturn at lines) = dated_data return_line desk (codes "supplier-return") at lines
what_data desk (Landed charge basis targets) =
    object
    (member (codes "basis") (string (basis_word basis))
    (member (codes "charge") (number (of_integer charge.0))
    (member (codes "desk") (number (unsigned desk))
    (member (codes "do") (string (codes "landed"))
    (member (codes "targets") (array (items_of (map (line_data target_line) targets))) no_members)))))
what_data desk (Freeze until) =
    object
    (member (codes "desk") (number (unsigned desk))
    (member (codes "do") (string (codes "freeze"))
    (member (codes "until") (string (moment_text until)) no_members)))
what_data desk (Cancel target) =
    object
    (member (codes "desk") (number (unsigned desk))
    (member (codes "do") (string (codes "cancel"))
    (member (codes "record") (number (unsigned target.0)) no_members)))

-- the JSON value of a record
abbrev pub record_data : Record → Data
record_data r = what_data r.desk.0 r.what

-- the stored text of a record
abbrev pub record_text : Record → List ℕ
record_text r = compact_text (record_data r)

-- the codes of items and warehouses that a record has
abbrev pub codes_of : What → List (List ℕ)
codes_of (Item code method) = code ∷ []
codes_of (Store code account) = code ∷ []
codes_of (Receipt at lines) = flat_map (line_codes receipt_line) lines
codes_of (Issue at purpose lines) = flat_map (line_codes issue_line) lines
codes_of (Transfer at lines) = flat_map (line_codes transfer_line) lines
codes_of (CustomerReturn at lines) = flat_map (line_codes return_line) lines
codes_of (SupplierReturn at lines) = flat_map (line_codes return_line) lines
codes_of (Landed charge basis targets) = flat_map (line_codes target_line) targets
codes_of (Freeze until) = []
codes_of (Cancel target) = []
