-- The texts of a row of the layers sheet are made of its plain parts.
use Rattle.std.proofs.Common.{◌≡◌, ℕ, true, List, [], ◌∷◌, ◌++◌, codes, decimal, pos, refl}
use Rattle.std.specs.List.{list_all}
use Rattle.json.specs.Print.{escape_byte}
use Rattle.json_texts.specs.Members.{text, count, amount}
use Rattle.stock_nums.specs.Codes.{is_code_byte}
use Rattle.stock_model.specs.declared.queries.Format.TheVariants.{Json, Csv}
use Rattle.valuation_report.specs.declared.layer_texts.Remainder.{Remainder}
use Rattle.valuation_report.specs.GroupRows.{remainder_row}
use Rattle.valuation_report.specs.Pieces.{layer_piece}
use Rattle.valuation_report.proofs.ObjectTexts.{object_text-piece}
use Rattle.valuation_report.proofs.PlainBytes.{escape-plain, plain-code, plain-decimal}
use Rattle.valuation_report.proofs.RecordTexts.{record_text-piece}

pub json-is : (item store : List ℕ) (left : Remainder) → list_all is_code_byte item ≡ true → list_all is_code_byte store ≡ true
    → codes "{\"item\":\"" ++ (item ++ (codes "\",\"line\":" ++ (decimal left.line ++ (codes ",\"qty\":" ++ (decimal left.qty ++ (codes ",\"record\":" ++ (decimal left.voucher
    ++ (codes ",\"store\":\"" ++ (store ++ (codes "\",\"value\":" ++ (decimal left.value ++ codes "},")))))))))))
    ≡ layer_piece Json (remainder_row item store left)
unfolding escape_byte
json-is item store left item_code store_code =
    object_text-piece
    (text (codes "item") item ∷ count (codes "line") left.line ∷ count (codes "qty") left.qty ∷ count (codes "record") left.voucher ∷ text (codes "store") store
    ∷ amount (codes "value") (pos left.value) ∷ [])
    ((refl, escape-plain item (plain-code item item_code)), ((refl, tt), ((refl, tt), ((refl, tt), ((refl, escape-plain store (plain-code store store_code)), ((refl, tt), tt))))))

pub csv-is : (item store : List ℕ) (left : Remainder) → list_all is_code_byte item ≡ true → list_all is_code_byte store ≡ true
    → item ++ (codes "," ++ (store ++ (codes "," ++ (decimal left.voucher ++ (codes "," ++ (decimal left.line ++ (codes "," ++ (decimal left.qty ++ (codes "," ++ (decimal left.value ++ codes "\\n"))))))))))
    ≡ layer_piece Csv (remainder_row item store left)
csv-is item store left item_code store_code =
    record_text-piece item store (decimal left.voucher ∷ decimal left.line ∷ decimal left.qty ∷ decimal left.value ∷ [])
    (plain-code item item_code, (plain-code store store_code, (plain-decimal left.voucher, (plain-decimal left.line, (plain-decimal left.qty, (plain-decimal left.value, tt))))))
