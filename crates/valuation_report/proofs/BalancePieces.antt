-- The texts of a row of the balance sheet are made of its plain parts.
use Rattle.std.proofs.Common.{◌≡◌, ℕ, true, List, [], ◌∷◌, ◌++◌, codes, decimal, pos, refl}
use Rattle.std.specs.List.{list_all}
use Rattle.json.specs.Print.{escape_byte}
use Rattle.stock_nums.specs.Codes.{is_code_byte}
use Rattle.stock_model.specs.declared.queries.Format.TheVariants.{Json, Csv}
use Rattle.stock_model.specs.declared.sheet_rows.BalanceRow.{BalanceRow}
use Rattle.json_texts.specs.Members.{text, count, amount}
use Rattle.valuation_report.specs.Pieces.{balance_piece}
use Rattle.valuation_report.proofs.ObjectTexts.{object_text-piece}
use Rattle.valuation_report.proofs.PlainBytes.{escape-plain, plain-code, plain-decimal}
use Rattle.valuation_report.proofs.RecordTexts.{record_text-piece}

-- the row
abbrev pub row_of : (item store : List ℕ) (qty value : ℕ) → BalanceRow
row_of item store qty value = record { item = item; store = store; qty = record { 0 = qty }; value = record { 0 = pos value } }

pub json-is : (item store : List ℕ) (qty value : ℕ) → list_all is_code_byte item ≡ true → list_all is_code_byte store ≡ true
    → codes "{\"item\":\"" ++ (item ++ (codes "\",\"qty\":" ++ (decimal qty ++ (codes ",\"store\":\"" ++ (store ++ (codes "\",\"value\":" ++ (decimal value ++ codes "},")))))))
    ≡ balance_piece Json (row_of item store qty value)
unfolding escape_byte
json-is item store qty value item_code store_code =
    object_text-piece
    (text (codes "item") item ∷ count (codes "qty") qty ∷ text (codes "store") store ∷ amount (codes "value") (pos value) ∷ [])
    ((refl, escape-plain item (plain-code item item_code)), ((refl, tt), ((refl, escape-plain store (plain-code store store_code)), ((refl, tt), tt))))

pub csv-is : (item store : List ℕ) (qty value : ℕ) → list_all is_code_byte item ≡ true → list_all is_code_byte store ≡ true
    → item ++ (codes "," ++ (store ++ (codes "," ++ (decimal qty ++ (codes "," ++ (decimal value ++ codes "\\n"))))))
    ≡ balance_piece Csv (row_of item store qty value)
csv-is item store qty value item_code store_code =
    record_text-piece item store (decimal qty ∷ decimal value ∷ [])
    (plain-code item item_code, (plain-code store store_code, (plain-decimal qty, (plain-decimal value, tt))))
