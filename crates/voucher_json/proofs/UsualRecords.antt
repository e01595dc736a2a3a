-- The stored texts of receipts and issues, by their parts.
use Rattle.std.proofs.Common.{◌≡◌, ℕ, ℤ, pos, List, [], ◌∷◌, ◌++◌, map, codes, decimal, Bool, true, false, refl, sym, ap, ◌∙◌, append_assoc}
use Rattle.std.specs.Prelude.{flat_map}
use Rattle.json.specs.Print.{escape_byte, quoted}
use Rattle.serde_json.specs.Data.{Data, object}
use Rattle.serde_json.specs.View.{items_of}
use Rattle.serde_json.specs.Written.{comma_if, compact_text, items_text}
use Rattle.stock_nums.specs.MomentText.{SpellsMoment, moment_text}
use Rattle.stock_nums.specs.declared.moment.Moment.{Moment}
use Rattle.stock_nums.proofs.MomentSpelling.{one_spelling}
use Rattle.stock_nums.proofs.MomentWriting.{moment_text-spells}
use Rattle.stock_model.specs.declared.vouchers.IssueLine.{IssueLine}
use Rattle.stock_model.specs.declared.vouchers.Purpose.{Purpose}
use Rattle.stock_model.specs.declared.vouchers.ReceiptLine.{ReceiptLine}
use Rattle.stock_model.specs.declared.vouchers.What.TheVariants.{Receipt, Issue}
use Rattle.voucher_json.specs.RecordTexts.{purpose_word}
use Rattle.voucher_json.specs.Records.{receipt_line, issue_line}
use Rattle.voucher_json.specs.Tables.{members_of, line_data}
use Rattle.voucher_json.specs.UsualRecords.{goods_text, EndsRecord}

-- what spells a moment is its text
pub moment-spelled : (text : List ℕ) (at : Moment) → SpellsMoment text at → text ≡ moment_text at
moment-spelled text at spells = one_spelling text (moment_text at) at at spells (moment_text-spells at) refl refl

-- the text of a line of an issue, and of a receipt
pub issue_line-text : (code store : List ℕ) (qty : ℕ) (rest : List ℕ)
    → 123 ∷ goods_text code qty store rest ≡ compact_text (object (members_of issue_line.fields (code, (store, (qty, tt))))) ++ rest
unfolding escape_byte
issue_line-text code store qty rest = simp append_assoc

-- the JSON value of a line of a receipt
abbrev receipt_line_data : List ℕ → List ℕ → ℕ → ℤ → Data
receipt_line_data code store qty price = object (members_of receipt_line.fields (code, (store, (qty, (record { 0 = price }, tt)))))

positive-text : (code store : List ℕ) (qty amount : ℕ) (rest : List ℕ)
    → codes "{\"amount\":" ++ (decimal amount ++ 44 ∷ goods_text code qty store rest) ≡ compact_text (receipt_line_data code store qty (pos amount)) ++ rest
unfolding escape_byte
positive-text code store qty amount rest = simp append_assoc

pub receipt_line-text : (code store : List ℕ) (qty amount : ℕ) (price : ℤ) (rest : List ℕ) → price ≡ pos amount
    → codes "{\"amount\":" ++ (decimal amount ++ 44 ∷ goods_text code qty store rest) ≡ compact_text (receipt_line_data code store qty price) ++ rest
receipt_line-text code store qty amount price rest same =
    positive-text code store qty amount rest ∙ ap (λ (z : ℤ). compact_text (receipt_line_data code store qty z) ++ rest) (sym same)

-- the texts of lines, each with a comma behind it
abbrev pub with_commas : {A : Type 0} → (A → Data) → List A → List ℕ
with_commas data_of = flat_map (λ line. compact_text (data_of line) ++ 44 ∷ [])

module _ {A : Type 0} (data_of : A → Data) where
  pub commas-more : (lines : List A) (line : A) (rest : List ℕ) → with_commas data_of lines ++ (compact_text (data_of line) ++ 44 ∷ rest) ≡ with_commas data_of (lines ++ line ∷ []) ++ rest
  commas-more [] line rest = simp append_assoc
  commas-more (first ∷ lines) line rest =
      append_assoc (compact_text (data_of first) ++ 44 ∷ []) (with_commas data_of lines) (compact_text (data_of line) ++ 44 ∷ rest)
      ∙ ap (λ t. (compact_text (data_of first) ++ 44 ∷ []) ++ t) (commas-more lines line rest)
      ∙ sym (append_assoc (compact_text (data_of first) ++ 44 ∷ []) (with_commas data_of (lines ++ line ∷ [])) rest)

  -- the last line, and the bracket that closes the list
  pub commas-over : (later : Bool) (lines : List A) (line : A) (rest : List ℕ)
      → comma_if later ++ (with_commas data_of lines ++ (compact_text (data_of line) ++ 93 ∷ rest)) ≡ items_text later (items_of (map data_of (lines ++ line ∷ []))) ++ rest
  commas-over later [] line rest = simp append_assoc
  commas-over later (first ∷ lines) line rest =
      let more = commas-over true lines line rest in
      ap (λ t. comma_if later ++ t) (simp append_assoc) ∙ ap (λ t. comma_if later ++ (compact_text (data_of first) ++ t)) more ∙ simp append_assoc

-- the text of a receipt, and of an issue
pub receipt-ends : (at : Moment) (lines : List ReceiptLine) → EndsRecord at (codes "\"receipt\",\"lines\":[" ++ (items_text false (items_of (map (line_data receipt_line) lines)) ++ codes "}")) (Receipt at lines)
unfolding escape_byte
receipt-ends at lines desk = refl

pub issue-ends : (at : Moment) (purpose : Purpose) (lines : List IssueLine)
    → EndsRecord at (codes "\"issue\",\"lines\":[" ++ (items_text false (items_of (map (line_data issue_line) lines)) ++ (codes ",\"use\":" ++ (quoted (purpose_word purpose) ++ codes "}")))) (Issue at purpose lines)
unfolding escape_byte
issue-ends at purpose lines desk = refl
