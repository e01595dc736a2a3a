-- The texts that are written with no JSON value in between.
use Rattle.std.proofs.Common.{◌≡◌, ℕ, List, [], ◌∷◌, ◌++◌, codes, decimal, refl, sym, ap, ◌∙◌, append_assoc}
use Rattle.json.specs.Print.{escape_byte, escape, quoted}
use Rattle.serde_json.specs.Data.{Data, number, unsigned, string, object, no_members, member}
use Rattle.serde_json.specs.Written.{compact_text}
use Rattle.stock_model.specs.declared.read_faults.FieldName.{FieldName}
use Rattle.stock_model.specs.declared.read_faults.FieldName.TheVariants as field
use Rattle.voucher_json.specs.FieldNames.{field_text}
use Rattle.voucher_json.specs.ReplyText.{fault_data, record_fault_data, line_fault_data, field_fault_data}

-- a number of a record under this key, and the status
abbrev counted_data : List ℕ → ℕ → List ℕ → Data
counted_data key n status = object (member key (number (unsigned n)) (member (codes "status") (string status) no_members))

pub accepted-text : (n : ℕ) → codes "{\"record\":" ++ (decimal n ++ codes ",\"status\":\"accepted\"}") ≡ compact_text (counted_data (codes "record") n (codes "accepted"))
unfolding escape_byte
accepted-text n = refl

pub worked-text : (n : ℕ) → codes "{\"covered\":" ++ (decimal n ++ codes ",\"status\":\"worked\"}") ≡ compact_text (counted_data (codes "covered") n (codes "worked"))
unfolding escape_byte
worked-text n = refl

pub settled-text : (n : ℕ) → codes "{\"covered\":" ++ (decimal n ++ codes ",\"status\":\"settled\"}") ≡ compact_text (counted_data (codes "covered") n (codes "settled"))
unfolding escape_byte
settled-text n = refl

pub long-text : codes "{\"fault\":\"long\",\"status\":\"bad\"}" ≡ compact_text (fault_data (codes "long") (codes "bad"))
unfolding escape_byte
long-text = refl

pub bad_json-text : codes "{\"fault\":\"bad-json\",\"status\":\"bad\"}" ≡ compact_text (fault_data (codes "bad-json") (codes "bad"))
unfolding escape_byte
bad_json-text = refl

pub store-text : codes "{\"fault\":\"store\",\"status\":\"failed\"}" ≡ compact_text (fault_data (codes "store") (codes "failed"))
unfolding escape_byte
store-text = refl

pub memory-text : codes "{\"fault\":\"memory\",\"status\":\"failed\"}" ≡ compact_text (fault_data (codes "memory") (codes "failed"))
unfolding escape_byte
memory-text = refl

pub http-text : codes "{\"fault\":\"http\",\"status\":\"bad\"}" ≡ compact_text (fault_data (codes "http") (codes "bad"))
unfolding escape_byte
http-text = refl

-- refusals of a whole record
pub code_taken-text : codes "{\"fault\":\"code-taken\",\"status\":\"refused\"}" ≡ compact_text (record_fault_data (codes "code-taken"))
unfolding escape_byte
code_taken-text = refl

pub code_shape-text : codes "{\"fault\":\"code-shape\",\"status\":\"refused\"}" ≡ compact_text (record_fault_data (codes "code-shape"))
unfolding escape_byte
code_shape-text = refl

pub account_range-text : codes "{\"fault\":\"account-range\",\"status\":\"refused\"}" ≡ compact_text (record_fault_data (codes "account-range"))
unfolding escape_byte
account_range-text = refl

pub no_basis-text : codes "{\"fault\":\"no-basis\",\"status\":\"refused\"}" ≡ compact_text (record_fault_data (codes "no-basis"))
unfolding escape_byte
no_basis-text = refl

-- refusals for a line
pub unknown_item-text : (line : ℕ) → codes "{\"fault\":\"unknown-item\",\"line\":" ++ (decimal line ++ codes ",\"status\":\"refused\"}") ≡ compact_text (line_fault_data (codes "unknown-item") line)
unfolding escape_byte
unknown_item-text line = refl

pub unknown_store-text : (line : ℕ) → codes "{\"fault\":\"unknown-store\",\"line\":" ++ (decimal line ++ codes ",\"status\":\"refused\"}") ≡ compact_text (line_fault_data (codes "unknown-store") line)
unfolding escape_byte
unknown_store-text line = refl

pub same_store-text : (line : ℕ) → codes "{\"fault\":\"same-store\",\"line\":" ++ (decimal line ++ codes ",\"status\":\"refused\"}") ≡ compact_text (line_fault_data (codes "same-store") line)
unfolding escape_byte
same_store-text line = refl

pub unknown_target-text : (line : ℕ) → codes "{\"fault\":\"unknown-target\",\"line\":" ++ (decimal line ++ codes ",\"status\":\"refused\"}") ≡ compact_text (line_fault_data (codes "unknown-target") line)
unfolding escape_byte
unknown_target-text line = refl

pub link_later-text : (line : ℕ) → codes "{\"fault\":\"link-later\",\"line\":" ++ (decimal line ++ codes ",\"status\":\"refused\"}") ≡ compact_text (line_fault_data (codes "link-later") line)
unfolding escape_byte
link_later-text line = refl

pub repeated_target-text : (line : ℕ) → codes "{\"fault\":\"repeated-target\",\"line\":" ++ (decimal line ++ codes ",\"status\":\"refused\"}") ≡ compact_text (line_fault_data (codes "repeated-target") line)
unfolding escape_byte
repeated_target-text line = refl

-- no field's name has anything to escape
pub field-plain : (name : FieldName) → escape (field_text name) ≡ field_text name
unfolding escape_byte
field-plain field.Do = refl
field-plain field.Code = refl
field-plain field.Method = refl
field-plain field.Account = refl
field-plain field.At = refl
field-plain field.Lines = refl
field-plain field.Item = refl
field-plain field.Store = refl
field-plain field.Qty = refl
field-plain field.Amount = refl
field-plain field.Use = refl
field-plain field.From = refl
field-plain field.To = refl
field-plain field.Record = refl
field-plain field.Line = refl
field-plain field.Charge = refl
field-plain field.Basis = refl
field-plain field.Targets = refl
field-plain field.Turns = refl
field-plain field.Of = refl
field-plain field.Need = refl
field-plain field.Until = refl
field-plain field.As = refl
field-plain field.Desk = refl
field-plain field.Request = refl
field-plain field.Other = refl

-- so its text in quotes is what stands before, the name and what comes after
field-quoted : (name : FieldName) (rest : List ℕ) → 34 ∷ (field_text name ++ 34 ∷ rest) ≡ quoted (field_text name) ++ rest
field-quoted name rest = ap (λ text. 34 ∷ (text ++ 34 ∷ rest)) (sym (field-plain name)) ∙ ap (λ text. 34 ∷ text) (sym (append_assoc (escape (field_text name)) (34 ∷ []) rest))

-- the line and the status
abbrev ending : ℕ → List ℕ
ending line = codes ",\"line\":" ++ (decimal line ++ codes ",\"status\":\"bad\"}")

pub bad_field-text : (name : FieldName) (line : ℕ)
    → codes "{\"fault\":\"bad-field\",\"field\":\"" ++ (field_text name ++ (codes "\",\"line\":" ++ (decimal line ++ codes ",\"status\":\"bad\"}"))) ≡ compact_text (field_fault_data (codes "bad-field") name line)
unfolding escape_byte
bad_field-text name line = ap (λ text. codes "{\"fault\":\"bad-field\",\"field\":" ++ text) (field-quoted name (ending line))

pub limit-text : (name : FieldName) (line : ℕ)
    → codes "{\"fault\":\"limit\",\"field\":\"" ++ (field_text name ++ (codes "\",\"line\":" ++ (decimal line ++ codes ",\"status\":\"bad\"}"))) ≡ compact_text (field_fault_data (codes "limit") name line)
unfolding escape_byte
limit-text name line = ap (λ text. codes "{\"fault\":\"limit\",\"field\":" ++ text) (field-quoted name (ending line))
