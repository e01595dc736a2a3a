-- The text of a record of CSV whose fields are plain.
use Rattle.std.proofs.Common.{◌≡◌, ℕ, true, List, [], ◌∷◌, ◌++◌, refl, sym, ap, ◌∙◌, append_assoc}
use Rattle.std.proofs.lemmas.List.Concat.{flat_map-append}
use Rattle.csv.specs.Writing.{default_writer, field_text, fields_text, is_blank}
use Rattle.json.specs.Print.{escape_byte, escape}
use Rattle.stock_model.proofs.Pairwise.{Each}
use Rattle.valuation_report.specs.Pieces.{csv_piece}
use Rattle.valuation_report.proofs.PlainBytes.{is_plain, escape-plain, field_text-plain}

-- the field has nothing that is set apart
abbrev pub IsPlain : List ℕ → Type 0
IsPlain bytes = is_plain bytes ≡ true

-- the fields after the first, each after a comma, and the line feed
abbrev pub later_fields : List (List ℕ) → List ℕ
later_fields [] = 92 ∷ 110 ∷ []
later_fields (field ∷ fields) = 44 ∷ (field ++ later_fields fields)

abbrev pub record_text : List (List ℕ) → List ℕ
record_text [] = 92 ∷ 110 ∷ []
record_text (field ∷ fields) = field ++ later_fields fields

-- one field, and what comes after it
first : (field rest : List ℕ) → IsPlain field → escape (field_text default_writer field ++ rest) ≡ field ++ escape rest
first field rest plain =
    flat_map-append escape_byte (field_text default_writer field) rest
    ∙ ap (λ (text : List ℕ). escape text ++ escape rest) (field_text-plain field plain)
    ∙ ap (λ (text : List ℕ). text ++ escape rest) (escape-plain field plain)

later : (fields : List (List ℕ)) → Each IsPlain fields → escape (fields_text default_writer fields ++ 10 ∷ []) ≡ later_fields fields
unfolding fields_text escape_byte
later [] plain = refl
later (field ∷ fields) plain =
    ap (λ (text : List ℕ). 44 ∷ text)
    (ap escape (append_assoc (field_text default_writer field) (fields_text default_writer fields) (10 ∷ []))
    ∙ first field (fields_text default_writer fields ++ 10 ∷ []) plain.0
    ∙ ap (λ (text : List ℕ). field ++ text) (later fields plain.1))

pub record_text-piece : (a b : List ℕ) (fields : List (List ℕ)) → Each IsPlain (a ∷ b ∷ fields) → record_text (a ∷ b ∷ fields) ≡ csv_piece (a ∷ b ∷ fields)
unfolding is_blank
record_text-piece a b fields plain =
    let rest = fields_text default_writer (b ∷ fields) in
    sym
    (ap escape (append_assoc (field_text default_writer a) rest (10 ∷ []))
    ∙ first a (rest ++ 10 ∷ []) plain.0
    ∙ ap (λ (text : List ℕ). a ++ text) (later (b ∷ fields) plain.1))
