-- What is written of a record may be stored, and is read as that record.
use Rattle.std.proofs.Common.{◌≡◌, ℕ, ℤ, pos, negsuc, Bool, true, false, ◌≤◌, ◌<◌, ◌^◌, List, [], ◌∷◌, ◌++◌, map, length, codes, Some, IsTrue, Less, Equal, Greater, refl, sym, subst, arith}
use Rattle.std.proofs.lemmas.Bool.{and_parts}
use Rattle.std.proofs.lemmas.Bool.Decides.{nat_tests}
use Rattle.std.proofs.lemmas.Int.{ints}
use Rattle.std.proofs.lemmas.List.Elements.{All-nil, All-cons, All-head, All-tail}
use Rattle.std.specs.Cmp.Lexicographic.{slice_cmp}
use Rattle.std.specs.List.{list_all}
use Rattle.std.specs.Ordering.{nat_cmp, match_ordering}
use Rattle.std.specs.Prelude.{⊤, All, flat_map}
use Rattle.json.proofs.Printed.Utf8.{are_ascii}
use Rattle.serde_json.specs.Data.{Data, number, unsigned, string, Members, no_members, member, put, items_depth, depth}
use Rattle.serde_json.specs.Find.{of_integer}
use Rattle.serde_json.specs.Read.{max_depth, read}
use Rattle.serde_json.specs.View.{items_of}
use Rattle.serde_json.specs.Written.{has_float}
use Rattle.stock_nums.specs.MomentText.{moment_text}
use Rattle.stock_nums.specs.Quantities.{is_line_amount}
use Rattle.stock_nums.specs.Targets.{is_target}
use Rattle.stock_nums.specs.declared.cause.Method.{Method}
use Rattle.stock_nums.specs.declared.cause.Method.TheVariants.{Fifo, Average}
use Rattle.stock_nums.specs.declared.moment.Moment.{Moment}
use Rattle.stock_model.specs.Limits.{is_line_count, is_within_limits}
use Rattle.stock_model.specs.declared.read_faults.FieldName.{FieldName}
use Rattle.stock_model.specs.declared.records.Record.{Record}
use Rattle.stock_model.specs.declared.vouchers.Basis.{Basis}
use Rattle.stock_model.specs.declared.vouchers.Basis.TheVariants as part_by
use Rattle.stock_model.specs.declared.vouchers.Purpose.{Purpose}
use Rattle.stock_model.specs.declared.vouchers.Purpose.TheVariants.{Sold, Used}
use Rattle.stock_model.specs.declared.vouchers.What.{What}
use Rattle.stock_model.specs.declared.vouchers.What.TheVariants.{Item, Store, Receipt, Issue, Transfer, CustomerReturn, SupplierReturn, Landed, Freeze, Cancel}
use Rattle.voucher_json.specs.FieldNames.{field_text}
use Rattle.voucher_json.specs.Records.{receipt_line, issue_line, transfer_line, return_line, target_line}
use Rattle.voucher_json.specs.RecordTexts.{method_word, purpose_word, basis_word, dated_data, what_data, record_data, record_text, codes_of}
use Rattle.voucher_json.specs.Tables.{Cell, a_text, a_number, an_amount, CellValue, cell_data, cell_codes, Values, LineTable, members_of, line_data, codes_in, line_codes}
use Rattle.voucher_json.proofs.CompactTexts.{IsStorable, AreStorable, MembersAreStorable, no_float, read-compact_text}
use Rattle.voucher_json.proofs.LineFacts.{Fits, AllFit, LineFacts, always, always-all, receipt_line-facts, issue_line-facts, transfer_line-facts, return_line-facts, target_line-facts}

-- an amount of a line is no negative number
pub record IsAmount (amount : ℤ) : Type 0 where
  pub number_of_it : ℕ
  pub is : amount ≡ pos number_of_it
  pub most : number_of_it ≤ 1_000_000_000_000

pub amount-is : (amount : ℤ) → IsTrue (is_line_amount amount) → IsAmount amount
amount-is (pos n) within = record { number_of_it = n; is = refl; most = grind (arith, ints, nat_tests) }
amount-is (negsuc n) within = absurd (cc)

-- what holds of all, holds of those in front and of those behind
module _ {A : Type 0} (P : A → Type 0) where
  front : (xs ys : List A) → All P (xs ++ ys) → All P xs
  front [] ys each = All-nil P
  front (x ∷ xs) ys each = All-cons P x xs (All-head P x (xs ++ ys) each) (front xs ys (All-tail P x (xs ++ ys) each))

  back : (xs ys : List A) → All P (xs ++ ys) → All P ys
  back [] ys each = each
  back (x ∷ xs) ys each = back xs ys (All-tail P x (xs ++ ys) each)

-- A record may be stored where this holds of its codes. It holds of ASCII texts and of those of moments.
module _ (P : List ℕ → Type 0) (ascii : (text : List ℕ) → are_ascii text ≡ true → P text) (moment : (at : Moment) → P (moment_text at)) where
  whole : (n : ℕ) → n < 2 ^ 64 → IsStorable P (number (unsigned n))
  whole n small = small

  amount-storable : (amount : ℤ) → IsAmount amount → IsStorable P (number (of_integer amount))
  amount-storable amount h =
      let Q : ℤ → Type 0 = λ z. IsStorable P (number (of_integer z)) in
      subst Q (sym h.is) (whole h.number_of_it (omega (arith, h.most)))

  method-storable : (method : Method) → IsStorable P (string (method_word method))
  method-storable Fifo = ascii (codes "fifo") refl
  method-storable Average = ascii (codes "average") refl

  purpose-storable : (purpose : Purpose) → IsStorable P (string (purpose_word purpose))
  purpose-storable Sold = ascii (codes "sold") refl
  purpose-storable Used = ascii (codes "used") refl

  basis-storable : (basis : Basis) → IsStorable P (string (basis_word basis))
  basis-storable part_by.Quantity = ascii (codes "qty") refl
  basis-storable part_by.Amount = ascii (codes "amount") refl

  cell-storable : (cell : Cell) (value : CellValue cell) → Fits cell value → All P (cell_codes cell value) → IsStorable P (cell_data cell value)
  cell-storable a_text value fit each = All-head P value [] each
  cell-storable (a_number least most) value fit each = whole value (omega (arith, fit.1, fit.2))
  cell-storable an_amount value fit each = amount-storable value.0 (amount-is value.0 fit)

  -- one more member
  put-storable : (key : List ℕ) (value : Data) (members : Members) → are_ascii key ≡ true → IsStorable P value → MembersAreStorable P members → MembersAreStorable P (put key value members)
  put-storable key value no_members named is each = (named, is, tt)
  put-storable key value (member other found members) named is each =
      elim (slice_cmp nat_cmp key other) as (λ order. MembersAreStorable P (match_ordering order (member key value (member other found members)) (member other value members) (member other found (put key value members)))) [
        | Less ↦ (named, is, each)
        | Equal ↦ (each.0, is, each.2)
        | Greater ↦ (each.0, each.1, put-storable key value members named is each.2)
      ]

  values-storable : (entries : List (FieldName × Cell)) (values : Values entries) → AllFit entries values → list_all (λ entry. are_ascii (field_text entry.0)) entries ≡ true → All P (codes_in entries values)
      → MembersAreStorable P (members_of entries values)
  values-storable [] values fit named each = tt
  values-storable (entry ∷ entries) values fit named each =
      let names = and_parts (are_ascii (field_text entry.0)) (list_all (λ entry. are_ascii (field_text entry.0)) entries) named in
      put-storable (field_text entry.0) (cell_data entry.1 values.0) (members_of entries values.1) names.0 (cell-storable entry.1 values.0 fit.0 (front P (cell_codes entry.1 values.0) (codes_in entries values.1) each))
      (values-storable entries values.1 fit.1 names.1 (back P (cell_codes entry.1 values.0) (codes_in entries values.1) each))

  lines-storable : {A : Type 0} (table : LineTable A) (passes : A → Bool) → LineFacts table passes → (lines : List A) → list_all passes lines ≡ true → All P (flat_map (line_codes table) lines)
      → AreStorable P (items_of (map (line_data table) lines))
  lines-storable table passes facts [] pass each = tt
  lines-storable table passes facts (line ∷ lines) pass each =
      let parts = and_parts (passes line) (list_all passes lines) pass in
      let own = front P (line_codes table line) (flat_map (line_codes table) lines) each in (
        (facts.ordered line, values-storable table.fields (table.parts line) (facts.fit line parts.0) facts.named own),
        lines-storable table passes facts lines parts.1 (back P (line_codes table line) (flat_map (line_codes table) lines) each),
      )

  dated-storable : {A : Type 0} (table : LineTable A) → LineFacts table always → (desk : ℕ) → desk ≤ 16 → (word : List ℕ) → are_ascii word ≡ true → (at : Moment) (lines : List A) → All P (flat_map (line_codes table) lines)
      → IsStorable P (dated_data table desk word at lines)
  dated-storable table facts desk most word is at lines each =
      (refl, (refl, moment at, (refl, whole desk (omega arith), (refl, ascii word is, (refl, lines-storable table always facts lines (always-all lines) each, tt)))))

  what-storable : (desk : ℕ) → desk ≤ 16 → (what : What) → IsTrue (is_within_limits what) → All P (codes_of what) → IsStorable P (what_data desk what)
  what-storable desk most (Item code method) limits each =
      (refl, (refl, All-head P code [] each, (refl, whole desk (omega arith), (refl, ascii (codes "item") refl, (refl, method-storable method, tt)))))
  what-storable desk most (Store code account) limits each =
      let below : account.0 ≤ 1_000_000_000 = grind (arith, nat_tests) in
      (refl, (refl, whole account.0 (omega arith), (refl, All-head P code [] each, (refl, whole desk (omega arith), (refl, ascii (codes "store") refl, tt)))))
  what-storable desk most (Receipt at lines) limits each = dated-storable receipt_line receipt_line-facts desk most (codes "receipt") refl at lines each
  what-storable desk most (Issue at purpose lines) limits each = (
    refl,
    (
      refl,
      moment at,
      (
        refl,
        whole desk (omega arith),
        (
          refl,
          ascii (codes "issue") refl,
          (refl, lines-storable issue_line always issue_line-facts lines (always-all lines) each, (refl, purpose-storable purpose, tt)),
        ),
      ),
    ),
  )
  what-storable desk most (Transfer at lines) limits each = dated-storable transfer_line transfer_line-facts desk most (codes "transfer") refl at lines each
  what-storable desk most (CustomerReturn at lines) limits each = dated-storable return_line return_line-facts desk most (codes "customer-return") refl at lines each
  what-storable desk most (SupplierReturn at lines) limits each = dated-storable return_line return_line-facts desk most (codes "supplier-return") refl at lines each
  what-storable desk most (Landed charge basis targets) limits each =
      let parts = and_parts (is_line_amount charge.0) _ limits in
      let rest = and_parts (is_line_count (length targets)) (list_all is_target targets) parts.1 in (
        refl,
        (
          refl,
          basis-storable basis,
          (
            refl,
            amount-storable charge.0 (amount-is charge.0 parts.0),
            (
              refl,
              whole desk (omega arith),
              (
                refl,
                ascii (codes "landed") refl,
                (refl, lines-storable target_line is_target target_line-facts targets rest.1 each, tt),
              ),
            ),
          ),
        ),
      )
  what-storable desk most (Freeze until) limits each =
      (refl, (refl, whole desk (omega arith), (refl, ascii (codes "freeze") refl, (refl, moment until, tt))))
  what-storable desk most (Cancel target) limits each =
      let below : target.0 ≤ 4_294_967_295 = grind (arith, nat_tests) in
      (refl, (refl, whole desk (omega arith), (refl, ascii (codes "cancel") refl, (refl, whole target.0 (omega arith), tt))))

  -- so may a record
  pub record-storable : (r : Record) → All P (codes_of r.what) → IsStorable P (record_data r)
  record-storable r each = what-storable r.desk.0 r.desks r.what r.limits each

-- lines nest no deeper than one object
lines-depth : {A : Type 0} (table : LineTable A) (passes : A → Bool) → LineFacts table passes → (lines : List A) → items_depth (items_of (map (line_data table) lines)) ≤ 1
lines-depth table passes facts [] = omega arith
lines-depth table passes facts (line ∷ lines) = omega (arith, facts.shallow line, lines-depth table passes facts lines)

dated-depth : {A : Type 0} (table : LineTable A) → LineFacts table always → (desk : ℕ) (word : List ℕ) (at : Moment) (lines : List A) → depth (dated_data table desk word at lines) ≤ max_depth
dated-depth table facts desk word at lines = omega (arith, lines-depth table always facts lines)

what-depth : (desk : ℕ) (what : What) → depth (what_data desk what) ≤ max_depth
what-depth desk (Item code method) = omega arith
what-depth desk (Store code account) = omega arith
what-depth desk (Receipt at lines) = dated-depth receipt_line receipt_line-facts desk (codes "receipt") at lines
what-depth desk (Issue at purpose lines) = omega (arith, lines-depth issue_line always issue_line-facts lines)
what-depth desk (Transfer at lines) = dated-depth transfer_line transfer_line-facts desk (codes "transfer") at lines
what-depth desk (CustomerReturn at lines) = dated-depth return_line return_line-facts desk (codes "customer-return") at lines
what-depth desk (SupplierReturn at lines) = dated-depth return_line return_line-facts desk (codes "supplier-return") at lines
what-depth desk (Landed charge basis targets) = omega (arith, lines-depth target_line is_target target_line-facts targets)
what-depth desk (Freeze until) = omega arith
what-depth desk (Cancel target) = omega arith

-- a text of which nothing is asked
abbrev AnyText : List ℕ → Type 0
AnyText text = ⊤

any-storable : (r : Record) → IsStorable AnyText (record_data r)
any-storable r = record-storable AnyText (λ text is. tt) (λ at. tt) r (λ k other within. tt)

-- no record has a float
pub no_float-record : (r : Record) → has_float (record_data r) ≡ false
no_float-record r = no_float AnyText (record_data r) (any-storable r)

-- the text of a record reads as the record's JSON value
pub read-record_text : (r : Record) → read (record_text r) ≡ Some (record_data r)
read-record_text r = read-compact_text AnyText (record_data r) (any-storable r) (what-depth r.desk.0 r.what)
