-- The text of a record is UTF-8 where the record's codes are.
use Rattle.std.proofs.Common.{◌≡◌, ℕ, true, ◌<◌, List, [], ◌∷◌, IsTrue, IsUtf8, refl, arith}
use Rattle.std.proofs.lemmas.Bool.{and_parts, lt-ltb}
use Rattle.std.proofs.lemmas.Bool.Decides.{nat_tests}
use Rattle.std.specs.List.{list_all}
use Rattle.std.specs.Prelude.{All}
use Rattle.json.proofs.Printed.Utf8.{are_ascii, IsUtf8-are_ascii}
use Rattle.stock_nums.specs.Codes.{is_code_byte, is_code}
use Rattle.stock_nums.specs.MomentText.{moment_text}
use Rattle.stock_nums.specs.declared.moment.Moment.{Moment}
use Rattle.stock_nums.proofs.MomentWriting.{moment_text-spells}
use Rattle.stock_model.specs.declared.records.Record.{Record}
use Rattle.voucher_json.specs.RecordTexts.{record_data, record_text, codes_of}
use Rattle.voucher_json.proofs.CompactTexts.{compact_text-utf8}
use Rattle.voucher_json.proofs.Moments.{moment_text-utf8}
use Rattle.voucher_json.proofs.StoredRecords.{record-storable}

moment-utf8 : (at : Moment) → IsUtf8 (moment_text at)
moment-utf8 at = moment_text-utf8 at (moment_text-spells at)

-- the text of a record whose codes are UTF-8 is UTF-8
pub record_text-utf8 : (r : Record) → All IsUtf8 (codes_of r.what) → IsUtf8 (record_text r)
record_text-utf8 r each = compact_text-utf8 (record_data r) (record-storable IsUtf8 IsUtf8-are_ascii moment-utf8 r each)

code_bytes-ascii : (bytes : List ℕ) → list_all is_code_byte bytes ≡ true → are_ascii bytes ≡ true
code_bytes-ascii [] each = refl
code_bytes-ascii (byte ∷ bytes) each =
    let parts = and_parts (is_code_byte byte) (list_all is_code_byte bytes) each in
    let small : byte < 128 = grind (arith, nat_tests) in
    rw (lt-ltb byte 128 small) (code_bytes-ascii bytes parts.1)

-- a well-formed code is ASCII
pub code-utf8 : (code : List ℕ) → IsTrue (is_code code) → IsUtf8 code
code-utf8 code formed =
    let parts = and_parts _ (list_all is_code_byte code) formed in
    IsUtf8-are_ascii code (code_bytes-ascii code parts.1)
