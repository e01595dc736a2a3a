-- The texts of a row of the ledger sheet are made of its plain parts.
use Rattle.std.proofs.Common.{◌≡◌, ℕ, ◌+◌, ◌≤◌, ◌&&◌, Bool, true, List, [], ◌∷◌, ◌++◌, codes, decimal, pos, refl, ap, ◌∙◌, append_assoc, arith}
use Rattle.std.specs.Prelude.{slice_index}
use Rattle.std.specs.List.{list_all}
use Rattle.std.proofs.lemmas.Bool.Decides.{nat_tests}
use Rattle.json.specs.Print.{escape_byte}
use Rattle.json_texts.specs.Members.{text, count, amount}
use Rattle.stock_nums.specs.Codes.{is_code_byte}
use Rattle.stock_nums.specs.MomentText.{IsTwoDigits, moment_text}
use Rattle.stock_nums.proofs.MomentWriting.{moment_text-spells}
use Rattle.stock_nums.specs.declared.moment.Moment.{Moment}
use Rattle.stock_nums.specs.declared.place.Side.{Side}
use Rattle.stock_nums.specs.declared.place.Side.TheVariants.{Leaves, Enters}
use Rattle.stock_model.specs.declared.queries.Format.{Format}
use Rattle.stock_model.specs.declared.queries.Format.TheVariants.{Json, Csv}
use Rattle.stock_laws.proofs.CostedRows.{both}
use Rattle.valuation_report.specs.declared.ledger_texts.Movement.{Movement}
use Rattle.valuation_report.specs.GroupRows.{movement_row}
use Rattle.valuation_report.specs.LedgerParts.{item_part, store_part, row_text}
use Rattle.valuation_report.specs.Pieces.{ledger_piece}
use Rattle.valuation_report.specs.SheetRows.{side_word}
use Rattle.valuation_report.proofs.ObjectTexts.{object_text-piece}
use Rattle.valuation_report.proofs.PlainBytes.{is_plain_byte, is_plain, escape-plain, plain-code, plain-decimal}
use Rattle.valuation_report.proofs.RecordTexts.{record_text-piece}

-- digits are plain
digit-plain : (byte : ℕ) → (48 ≤ byte) × (byte ≤ 57) → is_plain_byte byte ≡ true
digit-plain byte (least, most) = grind (arith, nat_tests)

two-plain : {rest : Bool} (bytes : List ℕ) (at : ℕ) → IsTwoDigits bytes at → rest ≡ true → (is_plain_byte (slice_index bytes at) && (is_plain_byte (slice_index bytes (at + 1)) && rest)) ≡ true
two-plain bytes at digits rest = both (digit-plain (slice_index bytes at) digits.tens) (both (digit-plain (slice_index bytes (at + 1)) digits.ones) rest)

-- so a moment is
plain-moment : (moment : Moment) → is_plain (moment_text moment) ≡ true
plain-moment moment =
    let shape = (moment_text-spells moment).shape in
    let bytes = moment_text moment in
    two-plain bytes 0 shape.century
    (two-plain bytes 2 shape.year
    (two-plain bytes 5 shape.month
    (two-plain bytes 8 shape.day (two-plain bytes 11 shape.hour (two-plain bytes 14 shape.minute (two-plain bytes 17 shape.second refl))))))

plain-side : (side : Side) → is_plain (side_word side) ≡ true
plain-side Leaves = refl
plain-side Enters = refl

json-is : (item store : List ℕ) (movement : Movement) → list_all is_code_byte item ≡ true → list_all is_code_byte store ≡ true
    → codes "{\"at\":\"" ++ (moment_text movement.at ++ (codes "\",\"item\":\"" ++ (item ++ (codes "\",\"line\":" ++ (decimal movement.line ++ (codes ",\"qty\":" ++ (decimal movement.qty
    ++ (codes ",\"record\":" ++ (decimal movement.voucher ++ (codes ",\"side\":\"" ++ (side_word movement.side ++ (codes "\",\"stock\":" ++ (decimal movement.stock
    ++ (codes ",\"store\":\"" ++ (store ++ (codes "\",\"value\":" ++ (decimal movement.value ++ (codes ",\"worth\":" ++ (decimal movement.worth ++ codes "},")))))))))))))))))))
    ≡ ledger_piece Json (movement_row item store movement)
unfolding escape_byte
json-is item store movement item_code store_code =
    object_text-piece
    (text (codes "at") (moment_text movement.at) ∷ text (codes "item") item ∷ count (codes "line") movement.line ∷ count (codes "qty") movement.qty ∷ count (codes "record") movement.voucher
    ∷ text (codes "side") (side_word movement.side) ∷ count (codes "stock") movement.stock ∷ text (codes "store") store ∷ amount (codes "value") (pos movement.value)
    ∷ amount (codes "worth") (pos movement.worth) ∷ []) (
      (refl, escape-plain (moment_text movement.at) (plain-moment movement.at)),
      (
        (refl, escape-plain item (plain-code item item_code)),
        (
          (refl, tt),
          (
            (refl, tt),
            (
              (refl, tt),
              ((refl, escape-plain (side_word movement.side) (plain-side movement.side)), ((refl, tt), ((refl, escape-plain store (plain-code store store_code)), ((refl, tt), ((refl, tt), tt))))),
            ),
          ),
        ),
      ),
    )

csv-is : (item store : List ℕ) (movement : Movement) → list_all is_code_byte item ≡ true → list_all is_code_byte store ≡ true
    → item ++ (codes "," ++ (store ++ (codes "," ++ (moment_text movement.at ++ (codes "," ++ (decimal movement.voucher ++ (codes "," ++ (decimal movement.line ++ (codes ","
    ++ (side_word movement.side ++ (codes "," ++ (decimal movement.qty ++ (codes "," ++ (decimal movement.value ++ (codes "," ++ (decimal movement.stock ++ (codes ","
    ++ (decimal movement.worth ++ codes "\\n"))))))))))))))))))
    ≡ ledger_piece Csv (movement_row item store movement)
csv-is item store movement item_code store_code =
    record_text-piece item store
    (moment_text movement.at ∷ decimal movement.voucher ∷ decimal movement.line ∷ side_word movement.side ∷ decimal movement.qty ∷ decimal movement.value ∷ decimal movement.stock
    ∷ decimal movement.worth ∷ []) (
      plain-code item item_code,
      (
        plain-code store store_code,
        (
          plain-moment movement.at,
          (
            plain-decimal movement.voucher,
            (
              plain-decimal movement.line,
              (
                plain-side movement.side,
                (plain-decimal movement.qty, (plain-decimal movement.value, (plain-decimal movement.stock, (plain-decimal movement.worth, tt)))),
              ),
            ),
          ),
        ),
      ),
    )

-- so are those with the parts of the item and the warehouse
json-parts : (k1 at i1 item i2 line k2 qty k3 voucher k4 side k5 stock s1 store s2 last : List ℕ)
    → k1 ++ (at ++ ((i1 ++ (item ++ i2)) ++ (line ++ (k2 ++ (qty ++ (k3 ++ (voucher ++ (k4 ++ (side ++ (k5 ++ (stock ++ ((s1 ++ (store ++ s2)) ++ last))))))))))))
    ≡ k1 ++ (at ++ (i1 ++ (item ++ (i2 ++ (line ++ (k2 ++ (qty ++ (k3 ++ (voucher ++ (k4 ++ (side ++ (k5 ++ (stock ++ (s1 ++ (store ++ (s2 ++ last))))))))))))))))
json-parts k1 at i1 item i2 line k2 qty k3 voucher k4 side k5 stock s1 store s2 last = simp append_assoc

csv-parts : (item k store last : List ℕ) → (item ++ k) ++ ((store ++ k) ++ last) ≡ item ++ (k ++ (store ++ (k ++ last)))
csv-parts item k store last = simp append_assoc

pub row-is : (format : Format) (item store : List ℕ) (movement : Movement) → list_all is_code_byte item ≡ true → list_all is_code_byte store ≡ true
    → row_text format (item_part format item) (store_part format store) movement ≡ ledger_piece format (movement_row item store movement)
row-is Json item store movement item_code store_code =
    json-parts (codes "{\"at\":\"") (moment_text movement.at) (codes "\",\"item\":\"") item (codes "\",\"line\":") (decimal movement.line) (codes ",\"qty\":") (decimal movement.qty)
    (codes ",\"record\":") (decimal movement.voucher) (codes ",\"side\":\"") (side_word movement.side) (codes "\",\"stock\":") (decimal movement.stock)
    (codes ",\"store\":\"") store (codes "\",\"value\":") (decimal movement.value ++ (codes ",\"worth\":" ++ (decimal movement.worth ++ codes "},")))
    ∙ json-is item store movement item_code store_code
row-is Csv item store movement item_code store_code =
    csv-parts item (codes ",") store
    (moment_text movement.at ++ (codes "," ++ (decimal movement.voucher ++ (codes "," ++ (decimal movement.line ++ (codes ","
    ++ (side_word movement.side ++ (codes "," ++ (decimal movement.qty ++ (codes "," ++ (decimal movement.value ++ (codes "," ++ (decimal movement.stock ++ (codes ","
    ++ (decimal movement.worth ++ codes "\\n")))))))))))))))
    ∙ csv-is item store movement item_code store_code

-- the bytes of a row, as they are added
json-joined : (k1 at item line k2 qty k3 voucher s1 side s2 stock store value k4 worth last : List ℕ)
    → (k1 ++ at) ++ ((item ++ line) ++ ((k2 ++ qty) ++ ((k3 ++ voucher) ++ (((s1 ++ (side ++ s2)) ++ stock) ++ ((store ++ value) ++ ((k4 ++ worth) ++ last))))))
    ≡ k1 ++ (at ++ (item ++ (line ++ (k2 ++ (qty ++ (k3 ++ (voucher ++ (s1 ++ (side ++ (s2 ++ (stock ++ (store ++ (value ++ (k4 ++ (worth ++ last)))))))))))))))
json-joined k1 at item line k2 qty k3 voucher s1 side s2 stock store value k4 worth last = simp append_assoc

pub json-added : (item store side : List ℕ) (movement : Movement) → side ≡ codes ",\"side\":\"" ++ (side_word movement.side ++ codes "\",\"stock\":")
    → (codes "{\"at\":\"" ++ moment_text movement.at) ++ ((item ++ decimal movement.line) ++ ((codes ",\"qty\":" ++ decimal movement.qty) ++ ((codes ",\"record\":" ++ decimal movement.voucher)
    ++ ((side ++ decimal movement.stock) ++ ((store ++ decimal movement.value) ++ ((codes ",\"worth\":" ++ decimal movement.worth) ++ codes "},"))))))
    ≡ row_text Json item store movement
json-added item store side movement side_is =
    ap (λ (bytes : List ℕ).
    (codes "{\"at\":\"" ++ moment_text movement.at) ++ ((item ++ decimal movement.line) ++ ((codes ",\"qty\":" ++ decimal movement.qty) ++ ((codes ",\"record\":" ++ decimal movement.voucher)
    ++ ((bytes ++ decimal movement.stock) ++ ((store ++ decimal movement.value) ++ ((codes ",\"worth\":" ++ decimal movement.worth) ++ codes "},"))))))) side_is
    ∙ json-joined (codes "{\"at\":\"") (moment_text movement.at) item (decimal movement.line) (codes ",\"qty\":") (decimal movement.qty) (codes ",\"record\":") (decimal movement.voucher)
    (codes ",\"side\":\"") (side_word movement.side) (codes "\",\"stock\":") (decimal movement.stock) store (decimal movement.value) (codes ",\"worth\":") (decimal movement.worth) (codes "},")

csv-joined : (item store at k voucher line side qty value stock worth last : List ℕ)
    → item ++ ((store ++ at) ++ ((k ++ voucher) ++ ((k ++ line) ++ (((k ++ (side ++ k)) ++ qty) ++ ((k ++ value) ++ ((k ++ stock) ++ ((k ++ worth) ++ last)))))))
    ≡ item ++ (store ++ (at ++ (k ++ (voucher ++ (k ++ (line ++ (k ++ (side ++ (k ++ (qty ++ (k ++ (value ++ (k ++ (stock ++ (k ++ (worth ++ last))))))))))))))))
csv-joined item store at k voucher line side qty value stock worth last = simp append_assoc

pub csv-added : (item store side : List ℕ) (movement : Movement) → side ≡ codes "," ++ (side_word movement.side ++ codes ",")
    → item ++ ((store ++ moment_text movement.at) ++ ((codes "," ++ decimal movement.voucher) ++ ((codes "," ++ decimal movement.line) ++ ((side ++ decimal movement.qty)
    ++ ((codes "," ++ decimal movement.value) ++ ((codes "," ++ decimal movement.stock) ++ ((codes "," ++ decimal movement.worth) ++ codes "\\n")))))))
    ≡ row_text Csv item store movement
csv-added item store side movement side_is =
    ap (λ (bytes : List ℕ).
    item ++ ((store ++ moment_text movement.at) ++ ((codes "," ++ decimal movement.voucher) ++ ((codes "," ++ decimal movement.line) ++ ((bytes ++ decimal movement.qty)
    ++ ((codes "," ++ decimal movement.value) ++ ((codes "," ++ decimal movement.stock) ++ ((codes "," ++ decimal movement.worth) ++ codes "\\n")))))))) side_is
    ∙ csv-joined item store (moment_text movement.at) (codes ",") (decimal movement.voucher) (decimal movement.line) (side_word movement.side) (decimal movement.qty) (decimal movement.value)
    (decimal movement.stock) (decimal movement.worth) (codes "\\n")
