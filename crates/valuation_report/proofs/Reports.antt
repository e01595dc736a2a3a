-- What is written before the rows, the rows and what is written after them are the text of the report.
use Rattle.std.proofs.Common.{◌≡◌, ℕ, ◌-◌, true, false, cond, List, [], ◌∷◌, ◌++◌, length, take, codes, decimal, refl, sym, ap, ap₂, ◌∙◌, append_assoc, arith}
use Rattle.std.specs.Prelude.{slice_index, nat_eq}
use Rattle.std.specs.List.{flat_map}
use Rattle.std.proofs.lemmas.List.{append-nil, take_at, get_or_push, length_push}
use Rattle.std.proofs.lemmas.List.Concat.{flat_map-append}
use Rattle.csv.specs.Writing.{row_text, default_writer}
use Rattle.json.specs.Print.{escape_byte, escape}
use Rattle.json_texts.specs.Members.{text, count, rows, status, object_of}
use Rattle.serde_json.specs.Data.{Data, Items}
use Rattle.serde_json.specs.View.{items_of}
use Rattle.serde_json.specs.Written.{compact_text, items_text}
use Rattle.stock_model.specs.declared.queries.Format.{Format}
use Rattle.stock_model.specs.declared.queries.Format.TheVariants.{Json, Csv}
use Rattle.stock_model.specs.declared.queries.Query.{Query}
use Rattle.stock_model.specs.declared.queries.Selected.{Selected}
use Rattle.stock_model.specs.declared.queries.Sheet.{Sheet}
use Rattle.stock_model.specs.declared.queries.Sheet.TheVariants.{Balance, Layers, Ledger, Accounts, Voucher}
use Rattle.valuation_report.specs.Adding.{Adds}
use Rattle.valuation_report.specs.Pieces.{json_piece, csv_piece, column_names, opening, without_comma, closed}
use Rattle.valuation_report.specs.SheetPieces.{row_fields, sheet_pieces}
use Rattle.valuation_report.specs.SheetTexts.{sheet_word, rows_data, records_of, csv_text, report_by, report_text}

-- rows of JSON, each after a comma
abbrev later : List Data → List ℕ
later values = flat_map (λ value. 44 ∷ compact_text value) values

pieces-later : (values : List Data) → 44 ∷ flat_map json_piece values ≡ later values ++ 44 ∷ []
pieces-later [] = refl
pieces-later (value ∷ values) =
    ap (λ (bytes : List ℕ). 44 ∷ bytes)
    (append_assoc (compact_text value) (44 ∷ []) (flat_map json_piece values)
    ∙ ap (λ (bytes : List ℕ). compact_text value ++ bytes) (pieces-later values)
    ∙ sym (append_assoc (compact_text value) (later values) (44 ∷ [])))

items-later : (values : List Data) → items_text true (items_of values) ≡ later values ++ 93 ∷ []
items-later [] = refl
items-later (value ∷ values) =
    ap (λ (bytes : List ℕ). 44 ∷ bytes)
    (ap (λ (bytes : List ℕ). compact_text value ++ bytes) (items-later values)
    ∙ sym (append_assoc (compact_text value) (later values) (93 ∷ [])))

-- the last byte
last-of : (bytes : List ℕ) (byte : ℕ) → slice_index (bytes ++ byte ∷ []) (length (bytes ++ byte ∷ []) - 1) ≡ byte
last-of bytes byte = get_or_push bytes byte 0 (length (bytes ++ byte ∷ []) - 1) (omega (arith, length_push bytes byte))

without-comma : (bytes : List ℕ) → without_comma (bytes ++ 44 ∷ []) ≡ bytes
without-comma bytes =
    ap (λ (byte : ℕ). cond (nat_eq byte 44) (take (length (bytes ++ 44 ∷ []) - 1) (bytes ++ 44 ∷ [])) (bytes ++ 44 ∷ [])) (last-of bytes 44)
    ∙ take_at bytes (44 ∷ []) (length (bytes ++ 44 ∷ []) - 1) (omega (arith, length_push bytes 44))

without-bracket : (bytes : List ℕ) → without_comma (bytes ++ 91 ∷ []) ≡ bytes ++ 91 ∷ []
without-bracket bytes =
    ap (λ (byte : ℕ). cond (nat_eq byte 44) (take (length (bytes ++ 91 ∷ []) - 1) (bytes ++ 91 ∷ [])) (bytes ++ 91 ∷ [])) (last-of bytes 91)

regrouped : (front first others rest : List ℕ) → ((front ++ 91 ∷ []) ++ (first ++ others)) ++ 93 ∷ rest ≡ front ++ (91 ∷ ((first ++ (others ++ 93 ∷ [])) ++ rest))
regrouped front first others rest = simp append_assoc

-- the rows of JSON end without a comma
rows-closed : (front : List ℕ) (values : List Data) (rest : List ℕ)
    → without_comma ((front ++ 91 ∷ []) ++ flat_map json_piece values) ++ 93 ∷ rest ≡ front ++ (91 ∷ items_text false (items_of values) ++ rest)
rows-closed front [] rest =
    ap (λ (bytes : List ℕ). bytes ++ 93 ∷ rest) (ap without_comma (append-nil (front ++ 91 ∷ [])) ∙ without-bracket front)
    ∙ append_assoc front (91 ∷ []) (93 ∷ rest)
rows-closed front (value ∷ values) rest =
    let first = compact_text value in
    let shown : flat_map json_piece (value ∷ values) ≡ (first ++ later values) ++ 44 ∷ [] =
    append_assoc first (44 ∷ []) (flat_map json_piece values)
    ∙ ap (λ (bytes : List ℕ). first ++ bytes) (pieces-later values)
    ∙ sym (append_assoc first (later values) (44 ∷ [])) in
    let whole : (front ++ 91 ∷ []) ++ flat_map json_piece (value ∷ values) ≡ ((front ++ 91 ∷ []) ++ (first ++ later values)) ++ 44 ∷ [] =
    ap (λ (bytes : List ℕ). (front ++ 91 ∷ []) ++ bytes) shown ∙ sym (append_assoc (front ++ 91 ∷ []) (first ++ later values) (44 ∷ [])) in
    ap (λ (bytes : List ℕ). without_comma bytes ++ 93 ∷ rest) whole
    ∙ ap (λ (bytes : List ℕ). bytes ++ 93 ∷ rest) (without-comma ((front ++ 91 ∷ []) ++ (first ++ later values)))
    ∙ regrouped front first (later values) rest
    ∙ ap (λ (bytes : List ℕ). front ++ (91 ∷ ((first ++ bytes) ++ rest))) (sym (items-later values))

-- the word for a sheet has nothing to escape
word-plain : (sheet : Sheet) → escape (sheet_word sheet) ≡ sheet_word sheet
unfolding escape_byte
word-plain Balance = refl
word-plain Layers = refl
word-plain Ledger = refl
word-plain Accounts = refl
word-plain (Voucher number) = refl

-- the text of a report in JSON, by its parts
json-parts : (covered : ℕ) (word : List ℕ) (values : Items) → escape word ≡ word
    → compact_text (object_of (count (codes "covered") covered ∷ text (codes "report") word ∷ rows values ∷ status (codes "ok") ∷ []))
    ≡ (codes "{\"covered\":" ++ (decimal covered ++ (codes ",\"report\":\"" ++ (word ++ codes "\",\"rows\":")))) ++ ((91 ∷ items_text false values) ++ codes ",\"status\":\"ok\"}")
unfolding escape_byte
json-parts covered word values plain = simp (plain, append_assoc)

-- and in CSV
csv-parts : (covered : ℕ) (bytes word : List ℕ) → escape word ≡ word
    → compact_text (object_of (count (codes "covered") covered ∷ text (codes "csv") bytes ∷ text (codes "report") word ∷ status (codes "ok") ∷ []))
    ≡ codes "{\"covered\":" ++ (decimal covered ++ (codes ",\"csv\":\"" ++ (escape bytes ++ (codes "\",\"report\":\"" ++ (word ++ codes "\",\"status\":\"ok\"}")))))
unfolding escape_byte
csv-parts covered bytes word plain = simp (plain, append_assoc)

-- what stands before the rows of JSON ends with their bracket
opening-json : (sheet : Sheet) (covered : ℕ)
    → opening Json sheet covered ≡ (codes "{\"covered\":" ++ (decimal covered ++ (codes ",\"report\":\"" ++ (sheet_word sheet ++ codes "\",\"rows\":")))) ++ 91 ∷ []
opening-json sheet covered = simp append_assoc

-- the records of a sheet are the names of its columns and its rows
records-are : (sheet : Sheet) (query : Query) (chosen : Selected) → records_of sheet query chosen ≡ column_names sheet ∷ row_fields sheet query chosen
records-are Balance query chosen = refl
records-are Layers query chosen = refl
records-are Ledger query chosen = refl
records-are Accounts query chosen = refl
records-are (Voucher number) query chosen = refl

escape-records : (records : List (List (List ℕ))) → escape (flat_map (row_text default_writer) records) ≡ flat_map csv_piece records
escape-records [] = refl
escape-records (fields ∷ records) =
    flat_map-append escape_byte (row_text default_writer fields) (flat_map (row_text default_writer) records)
    ∙ ap (λ (bytes : List ℕ). csv_piece fields ++ bytes) (escape-records records)

csv-text : (sheet : Sheet) (query : Query) (chosen : Selected) → escape (csv_text sheet query chosen) ≡ csv_piece (column_names sheet) ++ sheet_pieces Csv sheet query chosen
csv-text sheet query chosen = escape-records (records_of sheet query chosen) ∙ ap (flat_map csv_piece) (records-are sheet query chosen)

csv-regrouped : (covered word names others : List ℕ)
    → ((codes "{\"covered\":" ++ (covered ++ (codes ",\"csv\":\"" ++ names))) ++ others) ++ (codes "\",\"report\":\"" ++ (word ++ codes "\",\"status\":\"ok\"}"))
    ≡ codes "{\"covered\":" ++ (covered ++ (codes ",\"csv\":\"" ++ ((names ++ others) ++ (codes "\",\"report\":\"" ++ (word ++ codes "\",\"status\":\"ok\"}")))))
csv-regrouped covered word names others = simp append_assoc

written-by : (format : Format) (query : Query) (chosen : Selected)
    → closed format query.sheet (opening format query.sheet chosen.covered.0 ++ sheet_pieces format query.sheet query chosen) ≡ compact_text (report_by format query chosen)
written-by Json query chosen =
    let covered = chosen.covered.0 in
    let word = sheet_word query.sheet in
    let values = rows_data query.sheet query chosen in
    ap (λ (before : List ℕ). without_comma (before ++ flat_map json_piece values) ++ codes "],\"status\":\"ok\"}") (opening-json query.sheet covered)
    ∙ rows-closed (codes "{\"covered\":" ++ (decimal covered ++ (codes ",\"report\":\"" ++ (word ++ codes "\",\"rows\":")))) values (codes ",\"status\":\"ok\"}")
    ∙ sym (json-parts covered word (items_of values) (word-plain query.sheet))
written-by Csv query chosen =
    let covered = chosen.covered.0 in
    let word = sheet_word query.sheet in
    csv-regrouped (decimal covered) word (csv_piece (column_names query.sheet)) (sheet_pieces Csv query.sheet query chosen)
    ∙ ap (λ (bytes : List ℕ). codes "{\"covered\":" ++ (decimal covered ++ (codes ",\"csv\":\"" ++ (bytes ++ (codes "\",\"report\":\"" ++ (word ++ codes "\",\"status\":\"ok\"}"))))))
    (sym (csv-text query.sheet query chosen))
    ∙ sym (csv-parts covered (csv_text query.sheet query chosen) word (word-plain query.sheet))

report-written : (query : Query) (chosen : Selected)
    → closed query.format query.sheet (opening query.format query.sheet chosen.covered.0 ++ sheet_pieces query.format query.sheet query chosen) ≡ report_text query chosen
unfolding report_text
report-written query chosen = written-by query.format query chosen

-- so the text that was opened, to which the pieces were added, and that was closed is the text of the report
pub reported : {opened text done pieces : List ℕ} (query : Query) (chosen : Selected) → opened ≡ opening query.format query.sheet chosen.covered.0
    → Adds opened text pieces → done ≡ closed query.format query.sheet text → pieces ≡ sheet_pieces query.format query.sheet query chosen → done ≡ report_text query chosen
reported query chosen begun added ended shown =
    ended ∙ ap (closed query.format query.sheet) (added.is ∙ ap₂ (λ (front rest : List ℕ). front ++ rest) begun shown) ∙ report-written query chosen
