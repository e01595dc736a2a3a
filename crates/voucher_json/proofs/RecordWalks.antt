-- The walk of a record's JSON value comes to the record.
use Rattle.std.proofs.Common.{◌≡◌, ℕ, ℤ, ◌+◌, ◌≤◌, Bool, true, List, [], ◌∷◌, map, length, codes, Option, Some, Result, Ok, IsTrue, refl, sym, ap, subst, arith}
use Rattle.std.proofs.lemmas.Bool.{and_parts}
use Rattle.std.proofs.lemmas.Bool.Decides.{nat_tests}
use Rattle.std.specs.List.{list_all}
use Rattle.serde_json.specs.Data.{Data, number, unsigned, string, array}
use Rattle.serde_json.specs.Find.{of_integer}
use Rattle.serde_json.specs.View.{items_of}
use Rattle.stock_nums.specs.declared.cause.Method.{Method}
use Rattle.stock_nums.specs.declared.cause.Method.TheVariants.{Fifo, Average}
use Rattle.stock_nums.specs.declared.moment.Moment.{Moment}
use Rattle.stock_nums.specs.declared.numbers.Minor.{Minor}
use Rattle.stock_nums.specs.MomentText.{moment_text}
use Rattle.stock_nums.specs.Quantities.{is_line_amount}
use Rattle.stock_nums.specs.Targets.{is_target}
use Rattle.stock_nums.proofs.MomentWriting.{moment_text-spells}
use Rattle.stock_model.specs.Limits.{is_line_count, is_within_limits}
use Rattle.stock_model.specs.declared.read_faults.FieldName.{FieldName}
use Rattle.stock_model.specs.declared.read_faults.FieldName.TheVariants as field
use Rattle.stock_model.specs.declared.read_faults.ReadFault.{ReadFault}
use Rattle.stock_model.specs.declared.records.Record.{Record}
use Rattle.stock_model.specs.declared.vouchers.Basis.{Basis}
use Rattle.stock_model.specs.declared.vouchers.Basis.TheVariants as part_by
use Rattle.stock_model.specs.declared.vouchers.Purpose.{Purpose}
use Rattle.stock_model.specs.declared.vouchers.Purpose.TheVariants.{Sold, Used}
use Rattle.stock_model.specs.declared.vouchers.What.{What}
use Rattle.stock_model.specs.declared.vouchers.What.TheVariants.{Item, Store, Receipt, Issue, Transfer, CustomerReturn, SupplierReturn, Landed, Freeze, Cancel}
use Rattle.voucher_json.specs.Walks.{IsPresent, Field, Elements}
use Rattle.voucher_json.specs.Fields.{IsObject, IsWord, IsNumber, IsMoment, IsList, NoOther, items_count, number_outcome}
use Rattle.voucher_json.specs.Records.{record_kinds, methods, purposes, bases, receipt_line, issue_line, transfer_line, return_line, target_line, IsVoucher, IsWhat}
use Rattle.voucher_json.specs.RecordTexts.{method_word, purpose_word, basis_word, dated_data, what_data, record_data}
use Rattle.voucher_json.specs.StoredRecords.{record_fields, IsRecord}
use Rattle.voucher_json.specs.Tables.{IsMoney, Cell, a_text, a_number, an_amount, CellValue, IsCell, cell_data, Values, LineTable, names_of, Cells, IsLine, line_data}
use Rattle.voucher_json.specs.declared.kinds.RecordKind.{RecordKind}
use Rattle.voucher_json.specs.declared.kinds.RecordKind.TheVariants as kind_of
use Rattle.voucher_json.proofs.FieldForms.{count_within}
use Rattle.voucher_json.proofs.LineFacts.{Fits, AllFit, AreFound, LineFacts, always, always-all, receipt_line-facts, issue_line-facts, transfer_line-facts, return_line-facts, target_line-facts}
use Rattle.voucher_json.proofs.StoredRecords.{amount-is}
use Rattle.voucher_json.proofs.Walks.{comes}

-- what a record is of
abbrev kind : What → RecordKind
kind (Item code method) = kind_of.Item
kind (Store code account) = kind_of.Store
kind (Receipt at lines) = kind_of.Receipt
kind (Issue at purpose lines) = kind_of.Issue
kind (Transfer at lines) = kind_of.Transfer
kind (CustomerReturn at lines) = kind_of.CustomerReturn
kind (SupplierReturn at lines) = kind_of.SupplierReturn
kind (Landed charge basis targets) = kind_of.Landed
kind (Freeze until) = kind_of.Freeze
kind (Cancel target) = kind_of.Cancel

number-read : (least most : ℕ) (name : FieldName) (line : ℕ) (n : ℕ) → least ≤ n → n ≤ most → Ok n ≡ number_outcome least most name line (Some (unsigned n))
number-read least most name line n above below = grind (arith, nat_tests)

money-read : (name : FieldName) (line : ℕ) (amount : Minor) → IsTrue (is_line_amount amount.0) → IsMoney name line (number (of_integer amount.0)) (Ok amount)
money-read name line amount within =
    let h = amount-is amount.0 within in
    let Q : ℤ → Type 0 = λ z. Ok h.number_of_it ≡ number_outcome 0 1_000_000_000_000 name line (Some (of_integer z)) in
    let P : ℤ → Result Minor ReadFault = λ z. Ok (record { 0 = z }) in
    comes _ _ h.number_of_it _ (subst Q (sym h.is) (number-read 0 1_000_000_000_000 name line h.number_of_it (omega arith) h.most)) (ap P h.is)

method-read : (name : FieldName) (method : Method) → IsWord methods name 0 (string (method_word method)) (Ok method)
method-read name Fifo = refl
method-read name Average = refl

purpose-read : (name : FieldName) (purpose : Purpose) → IsWord purposes name 0 (string (purpose_word purpose)) (Ok purpose)
purpose-read name Sold = refl
purpose-read name Used = refl

basis-read : (name : FieldName) (basis : Basis) → IsWord bases name 0 (string (basis_word basis)) (Ok basis)
basis-read name part_by.Quantity = refl
basis-read name part_by.Amount = refl

moment-read : (name : FieldName) (at : Moment) → IsMoment name 0 (string (moment_text at)) (Ok at)
moment-read name at = comes _ _ (moment_text at) _ refl (moment_text-spells at)

cell-read : (cell : Cell) (name : FieldName) (place : ℕ) (value : CellValue cell) → Fits cell value → IsCell cell name place (cell_data cell value) (Ok value)
cell-read a_text name place value fit = refl
cell-read (a_number least most) name place value fit = number-read least most name place value fit.0 fit.1
cell-read an_amount name place value fit = money-read name place value fit

-- the fields of an object
cells-read : {B : Type 0} (entries : List (FieldName × Cell)) (place : ℕ) (whole : Data) (values : Values entries) → AllFit entries values → AreFound entries values whole
    → (next : Values entries → Result B ReadFault → Type 0) (end : Result B ReadFault) → next values end → Cells entries place whole next end
cells-read [] place whole values fit found next end is = is
cells-read (entry ∷ entries) place whole values fit found next end is =
    let P : Option Data → Type 0 = λ d. IsPresent (IsCell entry.1) entry.0 place d (Ok values.0) in
    comes _ _ values.0 _ (subst P (sym found.0) (cell-read entry.1 entry.0 place values.0 fit.0))
    (cells-read entries place whole values.1 fit.1 found.1 (λ others. next (values.0, others)) end is)

lines-count : {A : Type 0} (data_of : A → Data) (lines : List A) → items_count (items_of (map data_of lines)) ≡ length lines
lines-count data_of [] = refl
lines-count data_of (line ∷ lines) = omega (arith, lines-count data_of lines)

-- lines that have a table
module _ {A : Type 0} (table : LineTable A) (passes : A → Bool) (facts : LineFacts table passes) where
  line-read : (name : FieldName) (place : ℕ) (line : A) → passes line ≡ true → IsLine table name place (line_data table line) (Ok line)
  line-read name place line pass =
      let none : NoOther (names_of table.fields) place (line_data table line) (Ok tt) = rw (facts.alone line) refl in
      comes _ _ tt _ refl (cells-read table.fields place (line_data table line) (table.parts line) (facts.fit line pass) (facts.found line) _ (Ok line) (comes _ _ tt _ none refl))

  elements-read : (name : FieldName) (place : ℕ) (lines : List A) → list_all passes lines ≡ true → Elements (IsLine table) name place (items_of (map (line_data table) lines)) (Ok lines)
  elements-read name place [] pass = refl
  elements-read name place (line ∷ lines) pass =
      let parts = and_parts (passes line) (list_all passes lines) pass in
      comes _ _ line _ (line-read name place line parts.0) (comes _ _ lines _ (elements-read name (place + 1) lines parts.1) refl)

  pub list-read : (name : FieldName) (lines : List A) → IsTrue (is_line_count (length lines)) → list_all passes lines ≡ true → IsList (IsLine table) name 0 (array (items_of (map (line_data table) lines))) (Ok lines)
  list-read name lines within pass =
      let least : 1 ≤ length lines = grind (arith, nat_tests) in
      let most : length lines ≤ 100 = grind (arith, nat_tests) in
      let items = items_of (map (line_data table) lines) in
      comes _ _ items _ (sym (count_within name 0 items (length lines) (lines-count (line_data table) lines) least most)) (elements-read name 1 lines pass)

-- a voucher that has a moment and lines alone
dated-read : {A : Type 0} (table : LineTable A) → LineFacts table always → (voucher : Moment → List A → What) (desk : ℕ) (word : List ℕ) (at : Moment) (lines : List A) → IsTrue (is_line_count (length lines))
    → IsVoucher table voucher record_fields (dated_data table desk word at lines) (Ok (voucher at lines))
dated-read table facts voucher desk word at lines within =
    comes _ _ (at, lines) _ (comes _ _ at _ (moment-read field.At at) (comes _ _ lines _ (list-read table always facts field.Lines lines within (always-all lines)) (comes _ _ tt _ refl refl))) refl

-- an object whose `do` says the kind, and `desk` the desk
head-read : (desk : ℕ) → desk ≤ 16 → (what : What)
    → IsObject field.Request 0 (what_data desk what) (Ok tt) × Field (IsWord record_kinds) field.Do 0 (what_data desk what) (Ok (kind what)) × Field (IsNumber 0 16) field.Desk 0 (what_data desk what) (Ok desk)
head-read desk most (Item code method) = (refl, refl, number-read 0 16 field.Desk 0 desk (omega arith) most)
head-read desk most (Store code account) = (refl, refl, number-read 0 16 field.Desk 0 desk (omega arith) most)
head-read desk most (Receipt at lines) = (refl, refl, number-read 0 16 field.Desk 0 desk (omega arith) most)
head-read desk most (Issue at purpose lines) = (refl, refl, number-read 0 16 field.Desk 0 desk (omega arith) most)
head-read desk most (Transfer at lines) = (refl, refl, number-read 0 16 field.Desk 0 desk (omega arith) most)
head-read desk most (CustomerReturn at lines) = (refl, refl, number-read 0 16 field.Desk 0 desk (omega arith) most)
head-read desk most (SupplierReturn at lines) = (refl, refl, number-read 0 16 field.Desk 0 desk (omega arith) most)
head-read desk most (Landed charge basis targets) = (refl, refl, number-read 0 16 field.Desk 0 desk (omega arith) most)
head-read desk most (Freeze until) = (refl, refl, number-read 0 16 field.Desk 0 desk (omega arith) most)
head-read desk most (Cancel target) = (refl, refl, number-read 0 16 field.Desk 0 desk (omega arith) most)

what-read : (desk : ℕ) (what : What) → IsTrue (is_within_limits what) → IsWhat record_fields (kind what) (what_data desk what) (Ok what)
what-read desk (Item code method) limits = comes _ _ code _ refl (comes _ _ method _ (method-read field.Method method) (comes _ _ tt _ refl refl))
what-read desk (Store code account) limits =
    let most : account.0 ≤ 1_000_000_000 = grind (arith, nat_tests) in
    comes _ _ code _ refl (comes _ _ account.0 _ (number-read 0 1_000_000_000 field.Account 0 account.0 (omega arith) most) (comes _ _ tt _ refl refl))
what-read desk (Receipt at lines) limits = dated-read receipt_line receipt_line-facts Receipt desk (codes "receipt") at lines limits
what-read desk (Issue at purpose lines) limits =
    comes _ _ at _ (moment-read field.At at)
    (comes _ _ purpose _ (purpose-read field.Use purpose)
    (comes _ _ lines _ (list-read issue_line always issue_line-facts field.Lines lines limits (always-all lines)) (comes _ _ tt _ refl refl)))
what-read desk (Transfer at lines) limits = dated-read transfer_line transfer_line-facts Transfer desk (codes "transfer") at lines limits
what-read desk (CustomerReturn at lines) limits = dated-read return_line return_line-facts CustomerReturn desk (codes "customer-return") at lines limits
what-read desk (SupplierReturn at lines) limits = dated-read return_line return_line-facts SupplierReturn desk (codes "supplier-return") at lines limits
what-read desk (Landed charge basis targets) limits =
    let parts = and_parts (is_line_amount charge.0) _ limits in
    let rest = and_parts (is_line_count (length targets)) (list_all is_target targets) parts.1 in
    comes _ _ charge _ (money-read field.Charge 0 charge parts.0)
    (comes _ _ basis _ (basis-read field.Basis basis)
    (comes _ _ targets _ (list-read target_line is_target target_line-facts field.Targets targets rest.0 rest.1) (comes _ _ tt _ refl refl)))
what-read desk (Freeze until) limits = comes _ _ until _ (moment-read field.Until until) (comes _ _ tt _ refl refl)
what-read desk (Cancel target) limits =
    let least : 1 ≤ target.0 = grind (arith, nat_tests) in
    let most : target.0 ≤ 4_294_967_295 = grind (arith, nat_tests) in
    comes _ _ target.0 _ (number-read 1 4_294_967_295 field.Record 0 target.0 least most) (comes _ _ tt _ refl refl)

-- the walk of a record's value comes to the record
pub record-read : (r : Record) → IsRecord (record_data r) (Ok r)
record-read r =
    let head = head-read r.desk.0 r.desks r.what in
    comes _ _ tt _ head.0 (comes _ _ (kind r.what) _ head.1 (comes _ _ r.desk.0 _ head.2 (comes _ _ r.what _ (what-read r.desk.0 r.what r.limits) (refl, refl))))
