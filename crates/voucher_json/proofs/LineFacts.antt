-- What is known of each table of fields, and of the lines that have one.
use Rattle.std.proofs.Common.{◌≡◌, ℕ, Bool, true, false, ◌≤◌, ◌<◌, ◌^◌, List, [], ◌∷◌, Some, IsTrue, refl, ap, ◌∙◌, subst, arith}
use Rattle.std.proofs.lemmas.Bool.Decides.{nat_tests}
use Rattle.std.specs.List.{list_all}
use Rattle.std.specs.Prelude.{⊤}
use Rattle.json.proofs.Printed.Utf8.{are_ascii}
use Rattle.serde_json.specs.Data.{Data, no_members, depth}
use Rattle.serde_json.specs.Find.{as_object, get}
use Rattle.stock_nums.specs.Quantities.{IsLineQuantity, is_line_amount}
use Rattle.stock_nums.specs.Targets.{is_target}
use Rattle.stock_nums.specs.declared.cause.Target.{Target}
use Rattle.stock_nums.specs.declared.numbers.Minor.{Minor}
use Rattle.stock_model.specs.declared.read_faults.FieldName.{FieldName}
use Rattle.stock_model.specs.declared.vouchers.IssueLine.{IssueLine}
use Rattle.stock_model.specs.declared.vouchers.ReceiptLine.{ReceiptLine}
use Rattle.stock_model.specs.declared.vouchers.ReturnLine.{ReturnLine}
use Rattle.stock_model.specs.declared.vouchers.TransferLine.{TransferLine}
use Rattle.voucher_json.specs.FieldNames.{field_text}
use Rattle.voucher_json.specs.Fields.{has_other}
use Rattle.voucher_json.specs.Records.{receipt_line, issue_line, transfer_line, return_line, target_line}
use Rattle.voucher_json.specs.Tables.{Cell, a_text, a_number, an_amount, CellValue, cell_data, Values, LineTable, names_of, members_of, line_data}
use Rattle.voucher_json.proofs.CompactTexts.{put_all}
use denote.Struct.Props.{props}

-- a value of a field is in its range, and the range below 2^64
abbrev pub Fits : (cell : Cell) → CellValue cell → Type 0
Fits a_text value = ⊤
Fits (a_number least most) value = (least ≤ value) × (value ≤ most) × (most < 2 ^ 64)
Fits an_amount value = IsTrue (is_line_amount value.0)

abbrev pub AllFit : (entries : List (FieldName × Cell)) → Values entries → Type 0
AllFit [] values = ⊤
AllFit (entry ∷ entries) values = Fits entry.1 values.0 × AllFit entries values.1

-- the values stand in an object under the names of the fields
abbrev pub AreFound : (entries : List (FieldName × Cell)) → Values entries → Data → Type 0
AreFound [] values whole = ⊤
AreFound (entry ∷ entries) values whole = (get (field_text entry.0) whole ≡ Some (cell_data entry.1 values.0)) × AreFound entries values.1 whole

-- what there is to know of a table, of whose lines those that pass a test have their values in range
pub record LineFacts {A : Type 0} (table : LineTable A) (passes : A → Bool) : Type 0 where
  -- lines with the same parts are one line
  pub same : (a b : A) → table.parts a ≡ table.parts b → a ≡ b
  pub fit : (line : A) → passes line ≡ true → AllFit table.fields (table.parts line)
  pub found : (line : A) → AreFound table.fields (table.parts line) (line_data table line)
  pub alone : (line : A) → has_other (names_of table.fields) (as_object (line_data table line)) ≡ false
  pub ordered : (line : A) → put_all (members_of table.fields (table.parts line)) no_members ≡ members_of table.fields (table.parts line)
  pub named : list_all (λ entry. are_ascii (field_text entry.0)) table.fields ≡ true
  pub shallow : (line : A) → depth (line_data table line) ≡ 1

-- the test that each line passes
abbrev pub always : {A : Type 0} → A → Bool
always line = true

pub always-all : {A : Type 0} (lines : List A) → list_all always lines ≡ true
always-all [] = refl
always-all (line ∷ lines) = always-all lines

-- values made of the same number, each with a fact that holds in one way only, are the same
pub made-same : {A X : Type 0} (P : A → Type 0) → ((x : A) → IsProp (P x)) → (make : (x : A) → P x → X) → (x y : A) → x ≡ y → (p : P x) (q : P y) → make x p ≡ make y q
made-same {A} P prop make x y same p q =
    let Q : A → Type 0 = λ z. (r : P z) → make x p ≡ make z r in
    subst Q same (λ r. ap (make x) (prop x p r)) q

IsLineQuantity-prop : (qty : ℕ) → IsProp (IsLineQuantity qty)
IsLineQuantity-prop qty = hlevel props

is_target-prop : (target : Target) → IsProp (IsTrue (is_target target))
is_target-prop target = hlevel props

is_line_amount-prop : (amount : Minor) → IsProp (IsTrue (is_line_amount amount.0))
is_line_amount-prop amount = hlevel props

-- a receipt's line from its parts
abbrev receipt_line_of : List ℕ → List ℕ → (qty : ℕ) → IsLineQuantity qty → (amount : Minor) → IsTrue (is_line_amount amount.0) → ReceiptLine
receipt_line_of code store qty quantity amount price = record { item = code; store = store; qty = record { 0 = qty }; amount = amount; quantity = quantity; price = price }

receipt_line-same : (a b : ReceiptLine) → receipt_line.parts a ≡ receipt_line.parts b → a ≡ b
receipt_line-same a b is =
    ap (λ (x : List ℕ). receipt_line_of x a.store a.qty.0 a.quantity a.amount a.price) (ap (λ (v : Values receipt_line.fields). v.0) is)
    ∙ ap (λ (x : List ℕ). receipt_line_of b.item x a.qty.0 a.quantity a.amount a.price) (ap (λ (v : Values receipt_line.fields). v.1.0) is)
    ∙ made-same IsLineQuantity IsLineQuantity-prop (λ (x : ℕ) (q : IsLineQuantity x). receipt_line_of b.item b.store x q a.amount a.price) a.qty.0 b.qty.0 (ap (λ (v : Values receipt_line.fields). v.1.1.0) is) a.quantity b.quantity
    ∙ made-same (λ (x : Minor). IsTrue (is_line_amount x.0)) is_line_amount-prop (receipt_line_of b.item b.store b.qty.0 b.quantity) a.amount b.amount (ap (λ (v : Values receipt_line.fields). v.1.1.1.0) is) a.price b.price

pub receipt_line-facts : LineFacts receipt_line always
receipt_line-facts = record {
  same = receipt_line-same;
  fit = λ line pass. (tt, (tt, ((line.quantity.0, line.quantity.1, omega arith), (line.price, tt))));
  found = λ line. (refl, (refl, (refl, (refl, tt))));
  alone = λ line. refl;
  ordered = λ line. refl;
  named = refl;
  shallow = λ line. refl;
}

-- an issue's line from its parts
abbrev issue_line_of : List ℕ → List ℕ → (qty : ℕ) → IsLineQuantity qty → IssueLine
issue_line_of code store qty quantity = record { item = code; store = store; qty = record { 0 = qty }; quantity = quantity }

issue_line-same : (a b : IssueLine) → issue_line.parts a ≡ issue_line.parts b → a ≡ b
issue_line-same a b is =
    ap (λ (x : List ℕ). issue_line_of x a.store a.qty.0 a.quantity) (ap (λ (v : Values issue_line.fields). v.0) is)
    ∙ ap (λ (x : List ℕ). issue_line_of b.item x a.qty.0 a.quantity) (ap (λ (v : Values issue_line.fields). v.1.0) is)
    ∙ made-same IsLineQuantity IsLineQuantity-prop (issue_line_of b.item b.store) a.qty.0 b.qty.0 (ap (λ (v : Values issue_line.fields). v.1.1.0) is) a.quantity b.quantity

pub issue_line-facts : LineFacts issue_line always
issue_line-facts = record {
  same = issue_line-same;
  fit = λ line pass. (tt, (tt, ((line.quantity.0, line.quantity.1, omega arith), tt)));
  found = λ line. (refl, (refl, (refl, tt)));
  alone = λ line. refl;
  ordered = λ line. refl;
  named = refl;
  shallow = λ line. refl;
}

-- a transfer's line from its parts
abbrev transfer_line_of : List ℕ → List ℕ → List ℕ → (qty : ℕ) → IsLineQuantity qty → TransferLine
transfer_line_of code leaves enters qty quantity = record { item = code; from = leaves; to = enters; qty = record { 0 = qty }; quantity = quantity }

transfer_line-same : (a b : TransferLine) → transfer_line.parts a ≡ transfer_line.parts b → a ≡ b
transfer_line-same a b is =
    ap (λ (x : List ℕ). transfer_line_of x a.from a.to a.qty.0 a.quantity) (ap (λ (v : Values transfer_line.fields). v.0) is)
    ∙ ap (λ (x : List ℕ). transfer_line_of b.item x a.to a.qty.0 a.quantity) (ap (λ (v : Values transfer_line.fields). v.1.0) is)
    ∙ ap (λ (x : List ℕ). transfer_line_of b.item b.from x a.qty.0 a.quantity) (ap (λ (v : Values transfer_line.fields). v.1.1.0) is)
    ∙ made-same IsLineQuantity IsLineQuantity-prop (transfer_line_of b.item b.from b.to) a.qty.0 b.qty.0 (ap (λ (v : Values transfer_line.fields). v.1.1.1.0) is) a.quantity b.quantity

pub transfer_line-facts : LineFacts transfer_line always
transfer_line-facts = record {
  same = transfer_line-same;
  fit = λ line pass. (tt, (tt, (tt, ((line.quantity.0, line.quantity.1, omega arith), tt))));
  found = λ line. (refl, (refl, (refl, (refl, tt))));
  alone = λ line. refl;
  ordered = λ line. refl;
  named = refl;
  shallow = λ line. refl;
}

-- the numbers of a target
pub record IsInRange (target : Target) : Type 0 where
  pub first_record : 1 ≤ target.voucher.0
  pub last_record : target.voucher.0 ≤ 4_294_967_295
  pub first_line : 1 ≤ target.line
  pub last_line : target.line ≤ 100

target-in_range : (target : Target) → IsTrue (is_target target) → IsInRange target
target-in_range target is = record {
  first_record = grind (arith, nat_tests);
  last_record = grind (arith, nat_tests);
  first_line = grind (arith, nat_tests);
  last_line = grind (arith, nat_tests);
}

-- a target from its parts
abbrev target_of : ℕ → ℕ → Target
target_of voucher line = record { voucher = record { 0 = voucher }; line = line }

target_line-same : (a b : Target) → target_line.parts a ≡ target_line.parts b → a ≡ b
target_line-same a b is = ap (λ (x : ℕ). target_of x a.line) (ap (λ (v : Values target_line.fields). v.0) is) ∙ ap (target_of b.voucher.0) (ap (λ (v : Values target_line.fields). v.1.0) is)

target_line-fit : (target : Target) → is_target target ≡ true → AllFit target_line.fields (target_line.parts target)
target_line-fit target is = let range = target-in_range target is in ((range.first_record, range.last_record, omega arith), ((range.first_line, range.last_line, omega arith), tt))

pub target_line-facts : LineFacts target_line is_target
target_line-facts = record {
  same = target_line-same;
  fit = target_line-fit;
  found = λ line. (refl, (refl, tt));
  alone = λ line. refl;
  ordered = λ line. refl;
  named = refl;
  shallow = λ line. refl;
}

-- a return's line from its parts
abbrev return_line_of : (target : Target) → IsTrue (is_target target) → List ℕ → (qty : ℕ) → IsLineQuantity qty → ReturnLine
return_line_of target named store qty quantity = record { target = target; store = store; qty = record { 0 = qty }; named = named; quantity = quantity }

return_line-same : (a b : ReturnLine) → return_line.parts a ≡ return_line.parts b → a ≡ b
return_line-same a b is =
    let target_is : a.target ≡ b.target = target_line-same a.target b.target (ap (λ (v : Values return_line.fields). (v.0, (v.1.0, tt))) is) in
    made-same (λ (x : Target). IsTrue (is_target x)) is_target-prop (λ (x : Target) (p : IsTrue (is_target x)). return_line_of x p a.store a.qty.0 a.quantity) a.target b.target target_is a.named b.named
    ∙ ap (λ (x : List ℕ). return_line_of b.target b.named x a.qty.0 a.quantity) (ap (λ (v : Values return_line.fields). v.1.1.0) is)
    ∙ made-same IsLineQuantity IsLineQuantity-prop (return_line_of b.target b.named b.store) a.qty.0 b.qty.0 (ap (λ (v : Values return_line.fields). v.1.1.1.0) is) a.quantity b.quantity

return_line-fit : (line : ReturnLine) → AllFit return_line.fields (return_line.parts line)
return_line-fit line =
    let range = target-in_range line.target line.named in
    ((range.first_record, range.last_record, omega arith), ((range.first_line, range.last_line, omega arith), (tt, ((line.quantity.0, line.quantity.1, omega arith), tt))))

pub return_line-facts : LineFacts return_line always
return_line-facts = record {
  same = return_line-same;
  fit = λ line pass. return_line-fit line;
  found = λ line. (refl, (refl, (refl, (refl, tt))));
  alone = λ line. refl;
  ordered = λ line. refl;
  named = refl;
  shallow = λ line. refl;
}
