-- A text is read in one way at most: each step of a walk comes to one outcome at most, and never to want of
-- memory.
use Rattle.std.proofs.Common.{◌≡◌, ℕ, ◌+◌, ◌≤◌, Bool, true, false, ◌&&◌, nat_le, is_some, option_and_then, List, [], ◌∷◌, ◌++◌, Option, Some, None, Result, Ok, Err, IsTrue, if◌then◌else◌, inl, inr, sym, ap, ◌∙◌, subst}
use Rattle.std.specs.Prelude.{⊤}
use Rattle.serde_json.specs.Data.{Num, unsigned, negative, float, Data, Items, no_items, item}
use Rattle.serde_json.specs.Find.{get, as_str, as_number, as_array, as_object}
use Rattle.serde_json.specs.Read.{read}
use Rattle.stock_nums.specs.Targets.{is_target}
use Rattle.stock_nums.specs.declared.moment.Moment.{Moment}
use Rattle.stock_nums.proofs.MomentSpelling.{one_moment}
use Rattle.stock_model.specs.Limits.{is_within_limits}
use Rattle.stock_model.specs.declared.queries.Sheet.{Sheet}
use Rattle.stock_model.specs.declared.queries.Sheet.TheVariants.{Balance, Layers, Ledger}
use Rattle.stock_model.specs.declared.read_faults.FieldName.{FieldName}
use Rattle.stock_model.specs.declared.read_faults.FieldName.TheVariants as field
use Rattle.stock_model.specs.declared.read_faults.ReadFault.{ReadFault}
use Rattle.stock_model.specs.declared.read_faults.ReadFault.TheVariants.{BadField, Limit, NoMemory}
use Rattle.stock_model.specs.declared.records.Record.{Record}
use Rattle.stock_model.specs.declared.requests.Request.{Request}
use Rattle.stock_model.specs.declared.vouchers.What.{What}
use Rattle.stock_model.specs.declared.vouchers.What.TheVariants.{Receipt, Transfer, CustomerReturn, SupplierReturn}
use Rattle.voucher_json.specs.Walks.{GoesOn, Then, Ends, Yields, found_or_bad, IsPresent, Field, IsOptional, Optional, Elements}
use Rattle.voucher_json.specs.FieldNames.{field_text}
use Rattle.voucher_json.specs.Fields.{IsObject, IsText, choose, IsWord, items_count, has_other, number_outcome, IsNumber, IsMomentText, IsMoment, list_outcome, IsList, NoOther}
use Rattle.voucher_json.specs.Records.{record_kinds, methods, purposes, bases, IsItem, IsStore, receipt_line, issue_line, transfer_line, return_line, target_line, IsVoucher, IsIssue, IsLanded, IsFreeze, IsCancel, IsWhat}
use Rattle.voucher_json.specs.Requests.{kinds, sheets, formats, IsByKey, IsOfAccounts, IsOfVoucher, IsScope, fields_of, IsReport, IsWork, IsOfKind, IsRequest, IsReadAs}
use Rattle.voucher_json.specs.StoredRecords.{record_fields, IsRecord, IsRecordReadAs}
use Rattle.voucher_json.specs.Tables.{IsMoney, Cell, a_text, a_number, an_amount, IsCell, Values, LineTable, names_of, Cells, IsLine}
use Rattle.voucher_json.specs.Texts.{IsJson, IsWalked}
use Rattle.voucher_json.specs.declared.kinds.Kind.{Kind}
use Rattle.voucher_json.specs.declared.kinds.Kind.TheVariants as kind_of
use Rattle.voucher_json.specs.declared.kinds.RecordKind.{RecordKind}
use Rattle.voucher_json.specs.declared.kinds.RecordKind.TheVariants as record_of
use Rattle.voucher_json.specs.declared.kinds.SheetKind.{SheetKind}
use Rattle.voucher_json.specs.declared.kinds.SheetKind.TheVariants as sheet_of
use Rattle.voucher_json.proofs.LineFacts.{LineFacts, always, made-same, receipt_line-facts, issue_line-facts, transfer_line-facts, return_line-facts, target_line-facts}
use denote.Struct.Props.{props}

-- a walk comes to one end at most, and not to want of memory
record IsDecided {A : Type 0} (walk : Result A ReadFault → Type 0) : Type 0 where
  one : (a b : Result A ReadFault) → walk a → walk b → a ≡ b
  memory : walk (Err NoMemory) → ⊥

-- where the end is given
given : {A : Type 0} (outcome : Result A ReadFault) → (outcome ≡ Err NoMemory → ⊥) → IsDecided (λ end. end ≡ outcome)
given outcome apart = record { one = λ a b is_a is_b. is_a ∙ sym is_b; memory = λ is. apart (sym is) }

goes_on_one : {A B : Type 0} (next : A → Result B ReadFault → Type 0) → ((value : A) → IsDecided (next value)) → (outcome : Result A ReadFault) (a b : Result B ReadFault)
    → GoesOn next outcome a → GoesOn next outcome b → a ≡ b
goes_on_one next decided (Ok value) a b is_a is_b = (decided value).one a b is_a is_b
goes_on_one next decided (Err fault) a b is_a is_b = is_a ∙ sym is_b

goes_on_had : {A B : Type 0} (first : Result A ReadFault → Type 0) (next : A → Result B ReadFault → Type 0) → (first (Err NoMemory) → ⊥) → ((value : A) → IsDecided (next value))
    → (outcome : Result A ReadFault) → first outcome → GoesOn next outcome (Err NoMemory) → ⊥
goes_on_had first next apart decided (Ok value) is goes_on = (decided value).memory goes_on
goes_on_had first next apart decided (Err fault) is goes_on =
    let same : fault ≡ NoMemory = cc in
    let P : ReadFault → Type 0 = λ f. first (Err f) in
    apart (subst P same is)

-- where the value is given
ends : {A : Type 0} (value : A) → IsDecided (Ends value)
ends value = given (Ok value) (λ (is : Ok value ≡ Err NoMemory). cc)

-- one step after another
both : {A B : Type 0} (first : Result A ReadFault → Type 0) (next : A → Result B ReadFault → Type 0) → IsDecided first → ((value : A) → IsDecided (next value)) → IsDecided (Then first next)
both {A} {B} first next is decided = record {
  one = λ (a : Result B ReadFault) (b : Result B ReadFault) (walk_a : Then first next a) (walk_b : Then first next b).
      let same : walk_a.outcome ≡ walk_b.outcome = is.one _ _ walk_a.is walk_b.is in
      let P : Result A ReadFault → Type 0 = λ outcome. GoesOn next outcome a in
      goes_on_one next decided walk_b.outcome a b (subst P same walk_a.goes_on) walk_b.goes_on;
  memory = λ (walk : Then first next (Err NoMemory)). goes_on_had first next is.memory decided walk.outcome walk.is walk.goes_on;
}

-- a value that is the only one of its kind
yields : {A : Type 0} (holds : A → Type 0) → ((a b : A) → holds a → holds b → a ≡ b) → IsDecided (Yields holds)
yields holds one = record { one = yields_one holds one; memory = λ none. none }
  where
    yields_one : {A : Type 0} (holds : A → Type 0) → ((a b : A) → holds a → holds b → a ≡ b) → (a b : Result A ReadFault) → Yields holds a → Yields holds b → a ≡ b
    yields_one holds one (Ok a) (Ok b) is_a is_b = ap Ok (one a b is_a is_b)
    yields_one holds one (Ok a) (Err g) is_a is_b = absurd is_b
    yields_one holds one (Err f) b is_a is_b = absurd is_a

found_apart : {A : Type 0} (name : FieldName) (line : ℕ) (found : Option A) → found_or_bad name line found ≡ Err NoMemory → ⊥
found_apart name line None is = cc
found_apart name line (Some value) is = cc

present : {A : Type 0} (form : FieldName → ℕ → Data → Result A ReadFault → Type 0) → ((name : FieldName) (line : ℕ) (value : Data) → IsDecided (form name line value))
    → (name : FieldName) (line : ℕ) (found : Option Data) → IsDecided (IsPresent form name line found)
present form decided name line None = given (Err (BadField name line)) (found_apart name line None)
present form decided name line (Some value) = decided name line value

one_field : {A : Type 0} (form : FieldName → ℕ → Data → Result A ReadFault → Type 0) → ((name : FieldName) (line : ℕ) (value : Data) → IsDecided (form name line value))
    → (name : FieldName) (line : ℕ) (value : Data) → IsDecided (Field form name line value)
one_field form decided name line value = present form decided name line (get (field_text name) value)

maybe : {A : Type 0} (form : FieldName → ℕ → Data → Result A ReadFault → Type 0) → ((name : FieldName) (line : ℕ) (value : Data) → IsDecided (form name line value))
    → (name : FieldName) (found : Option Data) → IsDecided (IsOptional form name found)
maybe form decided name None = ends None
maybe form decided name (Some value) = both (form name 0 value) (λ found. Ends (Some found)) (decided name 0 value) (λ found. ends (Some found))

optional : {A : Type 0} (form : FieldName → ℕ → Data → Result A ReadFault → Type 0) → ((name : FieldName) (line : ℕ) (value : Data) → IsDecided (form name line value))
    → (name : FieldName) (value : Data) → IsDecided (Optional form name value)
optional form decided name value = maybe form decided name (get (field_text name) value)

elements : {A : Type 0} (form : FieldName → ℕ → Data → Result A ReadFault → Type 0) → ((name : FieldName) (line : ℕ) (value : Data) → IsDecided (form name line value))
    → (name : FieldName) (values : Items) (place : ℕ) → IsDecided (Elements form name place values)
elements form decided name no_items place = ends []
elements form decided name (item value values) place =
    both (form name place value) (λ first. Then (Elements form name (place + 1) values) (λ others. Ends (first ∷ others))) (decided name place value)
    (λ first. both (Elements form name (place + 1) values) (λ others. Ends (first ∷ others)) (elements form decided name values (place + 1)) (λ others. ends (first ∷ others)))

ok_apart : {A : Type 0} (test : Bool) (value : A) (fault : ReadFault) → (fault ≡ NoMemory → ⊥) → (if test then Ok value else Err fault) ≡ Err NoMemory → ⊥
ok_apart true value fault apart is = cc
ok_apart false value fault apart is = let same : fault ≡ NoMemory = cc in apart same

err_apart : {A : Type 0} (test : Bool) (value : A) (fault : ReadFault) → (fault ≡ NoMemory → ⊥) → (if test then Err fault else Ok value) ≡ Err NoMemory → ⊥
err_apart true value fault apart is = let same : fault ≡ NoMemory = cc in apart same
err_apart false value fault apart is = cc

bad_apart : (name : FieldName) (line : ℕ) → BadField name line ≡ NoMemory → ⊥
bad_apart name line is = cc

limit_apart : (name : FieldName) (line : ℕ) → Limit name line ≡ NoMemory → ⊥
limit_apart name line is = cc

number_apart : (least most : ℕ) (name : FieldName) (line : ℕ) (found : Option Num) → number_outcome least most name line found ≡ Err NoMemory → ⊥
number_apart least most name line None is = cc
number_apart least most name line (Some (unsigned n)) is = ok_apart (nat_le least n && nat_le n most) n (Limit name line) (limit_apart name line) is
number_apart least most name line (Some (negative z)) is = cc
number_apart least most name line (Some (float x)) is = cc

list_apart : (name : FieldName) (line : ℕ) (found : Option Items) → list_outcome name line found ≡ Err NoMemory → ⊥
list_apart name line None is = cc
list_apart name line (Some values) is = ok_apart (nat_le 1 (items_count values) && nat_le (items_count values) 100) values (Limit name line) (limit_apart name line) is

one_object : (name : FieldName) (line : ℕ) (value : Data) → IsDecided (IsObject name line value)
one_object name line value =
    given (if is_some (as_object value) then Ok tt else Err (BadField name line)) (ok_apart {A = ⊤} (is_some (as_object value)) tt (BadField name line) (bad_apart name line))

one_text : (name : FieldName) (line : ℕ) (value : Data) → IsDecided (IsText name line value)
one_text name line value = given (found_or_bad name line (as_str value)) (found_apart name line (as_str value))

one_word : {A : Type 0} (words : List (List ℕ × A)) (name : FieldName) (line : ℕ) (value : Data) → IsDecided (IsWord words name line value)
one_word words name line value =
    given (found_or_bad name line (option_and_then (choose words) (as_str value))) (found_apart name line (option_and_then (choose words) (as_str value)))

one_number : (least most : ℕ) (name : FieldName) (line : ℕ) (value : Data) → IsDecided (IsNumber least most name line value)
one_number least most name line value = given (number_outcome least most name line (as_number value)) (number_apart least most name line (as_number value))

no_other : (names : List FieldName) (line : ℕ) (value : Data) → IsDecided (NoOther names line value)
no_other names line value =
    given (if has_other names (as_object value) then Err (BadField field.Other line) else Ok tt)
    (err_apart {A = ⊤} (has_other names (as_object value)) tt (BadField field.Other line) (bad_apart field.Other line))

one_end_of_moment : (name : FieldName) (line : ℕ) (text : List ℕ) (a b : Result Moment ReadFault) → IsMomentText name line text a → IsMomentText name line text b → a ≡ b
one_end_of_moment name line text (Ok m) (Ok n) is_a is_b = ap Ok (one_moment text m n is_a is_b)
one_end_of_moment name line text (Ok m) (Err g) is_a (inl is_b) = absurd (is_b.0 is_a.shape)
one_end_of_moment name line text (Ok m) (Err g) is_a (inr is_b) = absurd (is_b.1 is_a.in_range)
one_end_of_moment name line text (Err f) (Ok n) (inl is_a) is_b = absurd (is_a.0 is_b.shape)
one_end_of_moment name line text (Err f) (Ok n) (inr is_a) is_b = absurd (is_a.1 is_b.in_range)
one_end_of_moment name line text (Err f) (Err g) (inl is_a) (inl is_b) = ap Err (is_a.1 ∙ sym is_b.1)
one_end_of_moment name line text (Err f) (Err g) (inl is_a) (inr is_b) = absurd (is_a.0 is_b.0)
one_end_of_moment name line text (Err f) (Err g) (inr is_a) (inl is_b) = absurd (is_b.0 is_a.0)
one_end_of_moment name line text (Err f) (Err g) (inr is_a) (inr is_b) = ap Err (is_a.2 ∙ sym is_b.2)

moment_had : (name : FieldName) (line : ℕ) (text : List ℕ) → IsMomentText name line text (Err NoMemory) → ⊥
moment_had name line text (inl is) = let same : NoMemory ≡ BadField name line = is.1 in cc
moment_had name line text (inr is) = let same : NoMemory ≡ Limit name line = is.2 in cc

one_moment_text : (name : FieldName) (line : ℕ) (text : List ℕ) → IsDecided (IsMomentText name line text)
one_moment_text name line text = record { one = one_end_of_moment name line text; memory = moment_had name line text }

one_moment_in : (name : FieldName) (line : ℕ) (value : Data) → IsDecided (IsMoment name line value)
one_moment_in name line value = both _ _ (one_text name line value) (one_moment_text name line)

one_list : {A : Type 0} (form : FieldName → ℕ → Data → Result A ReadFault → Type 0) → ((name : FieldName) (line : ℕ) (value : Data) → IsDecided (form name line value))
    → (name : FieldName) (line : ℕ) (value : Data) → IsDecided (IsList form name line value)
one_list form decided name line value = both _ _ (given (list_outcome name line (as_array value)) (list_apart name line (as_array value))) (λ values. elements form decided name values 1)

at_most_16-prop : (n : ℕ) → IsProp (n ≤ 16)
at_most_16-prop n = hlevel props

within-prop : (what : What) → IsProp (IsTrue (is_within_limits what))
within-prop what = hlevel props

one_money : (name : FieldName) (line : ℕ) (value : Data) → IsDecided (IsMoney name line value)
one_money name line value = both _ _ (one_number 0 1_000_000_000_000 name line value) (λ amount. ends _)

one_cell : (cell : Cell) (name : FieldName) (line : ℕ) (value : Data) → IsDecided (IsCell cell name line value)
one_cell a_text = one_text
one_cell (a_number least most) = one_number least most
one_cell an_amount = one_money

-- the fields of a table, and the next step
one_cells : {B : Type 0} (entries : List (FieldName × Cell)) (place : ℕ) (value : Data) (next : Values entries → Result B ReadFault → Type 0) → ((values : Values entries) → IsDecided (next values)) → IsDecided (Cells entries place value next)
one_cells [] place value next decided = decided tt
one_cells (entry ∷ entries) place value next decided =
    both _ _ (one_field (IsCell entry.1) (one_cell entry.1) entry.0 place value) (λ found. one_cells entries place value (λ others. next (found, others)) (λ others. decided (found, others)))

-- a line that has a table
one_line : {A : Type 0} (table : LineTable A) (passes : A → Bool) → LineFacts table passes → (name : FieldName) (place : ℕ) (value : Data) → IsDecided (IsLine table name place value)
one_line {A} table passes facts name place value =
    both _ _ (one_object name place value) (λ is_one.
    one_cells table.fields place value _ (λ values.
    both _ _ (no_other (names_of table.fields) place value) (λ none.
    yields (λ (line : A). table.parts line ≡ values) (λ a b is_a is_b. facts.same a b (is_a ∙ sym is_b)))))

one_item : (shared : List FieldName) (value : Data) → IsDecided (IsItem shared value)
one_item shared value =
    both _ _ (one_field IsText one_text field.Code 0 value) (λ code.
    both _ _ (one_field (IsWord methods) (one_word methods) field.Method 0 value) (λ method.
    both _ _ (no_other (shared ++ field.Code ∷ field.Method ∷ []) 0 value) (λ none. ends _)))

one_store : (shared : List FieldName) (value : Data) → IsDecided (IsStore shared value)
one_store shared value =
    both _ _ (one_field IsText one_text field.Code 0 value) (λ code.
    both _ _ (one_field (IsNumber 0 1_000_000_000) (one_number 0 1_000_000_000) field.Account 0 value) (λ account.
    both _ _ (no_other (shared ++ field.Code ∷ field.Account ∷ []) 0 value) (λ none. ends _)))

-- a voucher that has a moment and lines alone
one_voucher : {A : Type 0} (table : LineTable A) → LineFacts table always → (voucher : Moment → List A → What) (shared : List FieldName) (value : Data) → IsDecided (IsVoucher table voucher shared value)
one_voucher table facts voucher shared value =
    both _ _
    (both _ _ (one_field IsMoment one_moment_in field.At 0 value) (λ at.
    both _ _ (one_field (IsList (IsLine table)) (one_list (IsLine table) (one_line table always facts)) field.Lines 0 value) (λ lines.
    both _ _ (no_other (shared ++ field.At ∷ field.Lines ∷ []) 0 value) (λ none. ends _))))
    (λ dated. ends _)

one_issue : (shared : List FieldName) (value : Data) → IsDecided (IsIssue shared value)
one_issue shared value =
    both _ _ (one_field IsMoment one_moment_in field.At 0 value) (λ at.
    both _ _ (one_field (IsWord purposes) (one_word purposes) field.Use 0 value) (λ purpose.
    both _ _ (one_field (IsList (IsLine issue_line)) (one_list (IsLine issue_line) (one_line issue_line always issue_line-facts)) field.Lines 0 value) (λ lines.
    both _ _ (no_other (shared ++ field.At ∷ field.Use ∷ field.Lines ∷ []) 0 value) (λ none. ends _))))

one_landed : (shared : List FieldName) (value : Data) → IsDecided (IsLanded shared value)
one_landed shared value =
    both _ _ (one_field IsMoney one_money field.Charge 0 value) (λ charge.
    both _ _ (one_field (IsWord bases) (one_word bases) field.Basis 0 value) (λ basis.
    both _ _ (one_field (IsList (IsLine target_line)) (one_list (IsLine target_line) (one_line target_line is_target target_line-facts)) field.Targets 0 value) (λ targets.
    both _ _ (no_other (shared ++ field.Charge ∷ field.Basis ∷ field.Targets ∷ []) 0 value) (λ none. ends _))))

one_freeze : (shared : List FieldName) (value : Data) → IsDecided (IsFreeze shared value)
one_freeze shared value =
    both _ _ (one_field IsMoment one_moment_in field.Until 0 value) (λ until.
    both _ _ (no_other (shared ++ field.Until ∷ []) 0 value) (λ none. ends _))

one_cancel : (shared : List FieldName) (value : Data) → IsDecided (IsCancel shared value)
one_cancel shared value =
    both _ _ (one_field (IsNumber 1 4_294_967_295) (one_number 1 4_294_967_295) field.Record 0 value) (λ number.
    both _ _ (no_other (shared ++ field.Record ∷ []) 0 value) (λ none. ends _))

-- a sheet by items and warehouses
one_by_key : (sheet : Sheet) (value : Data) → IsDecided (IsByKey sheet value)
one_by_key sheet value =
    both _ _ (optional IsMoment one_moment_in field.Until value) (λ until.
    both _ _ (optional IsText one_text field.Item value) (λ code.
    both _ _ (optional IsText one_text field.Store value) (λ store. ends _)))

-- the sheet of the accounts
one_of_accounts : (value : Data) → IsDecided (IsOfAccounts value)
one_of_accounts value = both _ _ (optional IsMoment one_moment_in field.Until value) (λ until. ends _)

-- the sheet of a record
one_of_voucher : (value : Data) → IsDecided (IsOfVoucher value)
one_of_voucher value = both _ _ (one_field (IsNumber 1 4_294_967_295) (one_number 1 4_294_967_295) field.Record 0 value) (λ number. ends _)

-- what a sheet of each kind shows
one_scope : (kind : SheetKind) (value : Data) → IsDecided (IsScope kind value)
one_scope sheet_of.Balance value = one_by_key Balance value
one_scope sheet_of.Layers value = one_by_key Layers value
one_scope sheet_of.Ledger value = one_by_key Ledger value
one_scope sheet_of.Accounts value = one_of_accounts value
one_scope sheet_of.Voucher value = one_of_voucher value

one_report : (value : Data) → IsDecided (IsReport value)
one_report value =
    both _ _ (one_field (IsWord sheets) (one_word sheets) field.Of 0 value) (λ kind.
    both _ _ (optional (IsNumber 0 4_294_967_295) (one_number 0 4_294_967_295) field.Need value) (λ need.
    both _ _ (one_scope kind value) (λ scope.
    both _ _ (optional (IsWord formats) (one_word formats) field.As value) (λ format.
    both _ _ (no_other (fields_of kind) 0 value) (λ none. ends _)))))

one_what : (shared : List FieldName) (kind : RecordKind) (value : Data) → IsDecided (IsWhat shared kind value)
one_what shared record_of.Item value = one_item shared value
one_what shared record_of.Store value = one_store shared value
one_what shared record_of.Receipt value = one_voucher receipt_line receipt_line-facts Receipt shared value
one_what shared record_of.Issue value = one_issue shared value
one_what shared record_of.Transfer value = one_voucher transfer_line transfer_line-facts Transfer shared value
one_what shared record_of.CustomerReturn value = one_voucher return_line return_line-facts CustomerReturn shared value
one_what shared record_of.SupplierReturn value = one_voucher return_line return_line-facts SupplierReturn shared value
one_what shared record_of.Landed value = one_landed shared value
one_what shared record_of.Freeze value = one_freeze shared value
one_what shared record_of.Cancel value = one_cancel shared value

one_work : (value : Data) → IsDecided (IsWork value)
one_work value =
    both _ _ (one_field (IsNumber 1 1_000_000) (one_number 1 1_000_000) field.Turns 0 value) (λ turns.
    both _ _ (no_other (field.Do ∷ field.Turns ∷ []) 0 value) (λ none. ends _))

one_of_kind : (kind : Kind) (value : Data) → IsDecided (IsOfKind kind value)
one_of_kind (kind_of.Post kind) value = both _ _ (one_what (field.Do ∷ []) kind value) (λ what. ends _)
one_of_kind kind_of.Work value = both _ _ (one_work value) (λ turns. ends _)
one_of_kind kind_of.Settle value = both _ _ (no_other (field.Do ∷ []) 0 value) (λ none. ends _)
one_of_kind kind_of.Report value = both _ _ (one_report value) (λ query. ends _)

one_request : (at_desk : Bool) (value : Data) → IsDecided (IsRequest at_desk value)
one_request at_desk value =
    both _ _ (one_object field.Request 0 value) (λ is_one.
    both _ _ (one_field (IsWord (kinds at_desk)) (one_word (kinds at_desk)) field.Do 0 value) (λ kind. one_of_kind kind value))

-- records of one desk that say the same are one record
record-same : (a b : Record) → a.desk.0 ≡ b.desk.0 → a.what ≡ b.what → a ≡ b
record-same a b desk_is what_is =
    made-same (λ (x : ℕ). x ≤ 16) at_most_16-prop (λ (x : ℕ) (p : x ≤ 16). record_of_parts x p a.what a.limits) a.desk.0 b.desk.0 desk_is a.desks b.desks
    ∙ made-same (λ (w : What). IsTrue (is_within_limits w)) within-prop (record_of_parts b.desk.0 b.desks) a.what b.what what_is a.limits b.limits
  where
    record_of_parts : (desk : ℕ) → desk ≤ 16 → (what : What) → IsTrue (is_within_limits what) → Record
    record_of_parts desk desks what limits = record { desk = record { 0 = desk }; what = what; desks = desks; limits = limits }

one_record : (value : Data) → IsDecided (IsRecord value)
one_record value =
    both _ _ (one_object field.Request 0 value) (λ is_one.
    both _ _ (one_field (IsWord record_kinds) (one_word record_kinds) field.Do 0 value) (λ kind.
    both _ _ (one_field (IsNumber 0 16) (one_number 0 16) field.Desk 0 value) (λ desk.
    both _ _ (one_what record_fields kind value) (λ what.
    yields (λ (found : Record). (found.desk.0 ≡ desk) × (found.what ≡ what)) (λ a b is_a is_b. record-same a b (is_a.0 ∙ sym is_b.0) (is_a.1 ∙ sym is_b.1))))))

one_json_of : (text : List ℕ) (a b : Result Data ReadFault) → IsJson text a → IsJson text b → a ≡ b
one_json_of text (Ok x) (Ok y) is_a is_b =
    let read_x : read text ≡ Some x = is_a.1 in
    let read_y : read text ≡ Some y = is_b.1 in
    cc
one_json_of text (Ok x) (Err g) is_a is_b =
    let reads : read text ≡ Some x = is_a.1 in
    let none : read text ≡ None = is_b.0 is_a.0 in
    cc
one_json_of text (Err f) (Ok y) is_a is_b =
    let reads : read text ≡ Some y = is_b.1 in
    let none : read text ≡ None = is_a.0 is_b.0 in
    cc
one_json_of text (Err f) (Err g) is_a is_b = ap Err (is_a.1 ∙ sym is_b.1)

one_json : (text : List ℕ) → IsDecided (IsJson text)
one_json text = record { one = one_json_of text; memory = λ (is : IsJson text (Err NoMemory)). let bad = is.1 in cc }

-- a text is read in one way at most
pub one_reading : (at_desk : Bool) (text : List ℕ) (a b : Result Request ReadFault) → IsReadAs at_desk text a → IsReadAs at_desk text b → a ≡ b
one_reading at_desk text = (both _ _ (one_json text) (one_request at_desk)).one

-- no text is read as want of memory
pub no_memory_read : (at_desk : Bool) (text : List ℕ) → IsReadAs at_desk text (Err NoMemory) → ⊥
no_memory_read at_desk text = (both _ _ (one_json text) (one_request at_desk)).memory

-- the walk of a stored text comes to one end at most
one_walk : (text : List ℕ) → IsDecided (IsWalked IsRecord text)
one_walk text = both _ _ (one_json text) one_record

-- a stored text is read in one way at most
pub one_record_reading : (text : List ℕ) (a b : Result Record ReadFault) → IsRecordReadAs text a → IsRecordReadAs text b → a ≡ b
one_record_reading text = (one_walk text).one

-- no stored text is read as want of memory
pub no_memory_record : (text : List ℕ) → IsRecordReadAs text (Err NoMemory) → ⊥
no_memory_record text = (one_walk text).memory
