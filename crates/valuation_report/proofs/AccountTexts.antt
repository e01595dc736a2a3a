-- The row of an account, and the row of a line of the general ledger, as they are written.
use Rattle.std.proofs.Common.{◌≡◌, ℕ, List, [], ◌∷◌, ◌++◌, codes, decimal, ℤ, sym, ap, ap₂, ◌∙◌, append_assoc}
use Rattle.std.specs.Fmt.{signed_decimal}
use Rattle.json.specs.Print.{escape_byte}
use Rattle.serde_json.specs.Find.{of_integer}
use Rattle.serde_json.specs.Written.{number_text}
use Rattle.stock_model.specs.declared.ledger_lines.Balance.{Balance}
use Rattle.stock_model.specs.declared.ledger_lines.GlLine.{GlLine}
use Rattle.stock_model.specs.declared.queries.Format.{Format}
use Rattle.stock_model.specs.declared.queries.Format.TheVariants.{Json, Csv}
use Rattle.stock_model.specs.LedgerSheets.{voucher_row}
use Rattle.valuation_report.specs.AccountPieces.{account_piece, voucher_piece}
use Rattle.valuation_report.specs.Adding.{Adds}
use Rattle.valuation_report.proofs.AmountTexts.{amount-text, plain-amount}
use Rattle.valuation_report.proofs.Joined.{joined, renamed}
use Rattle.valuation_report.proofs.PlainBytes.{plain-decimal}
use Rattle.valuation_report.proofs.RecordTexts.{record_text-piece}

-- parts that are joined from their end are what they are joined from their beginning
two_parts : (a n b z c d : List ℕ) → (a ++ n) ++ ((b ++ z) ++ (c ++ d)) ≡ (a ++ (n ++ (b ++ (z ++ c)))) ++ d
two_parts a n b z c d = simp append_assoc

-- the same of four
four_parts : (a n b z c y d m e f : List ℕ)
    → (a ++ n) ++ ((b ++ z) ++ ((c ++ y) ++ ((d ++ m) ++ (e ++ f)))) ≡ (a ++ (n ++ (b ++ (z ++ (c ++ (y ++ (d ++ (m ++ e)))))))) ++ f
four_parts a n b z c y d m e f = simp append_assoc

-- an account's row of JSON is its members
account-json : (row : Balance)
    → (codes "{\"account\":" ++ decimal row.account.0) ++ ((codes ",\"balance\":" ++ signed_decimal row.balance.0) ++ codes "},") ≡ account_piece Json row
unfolding escape_byte
account-json row =
    ap (λ (balance : List ℕ). (codes "{\"account\":" ++ decimal row.account.0) ++ ((codes ",\"balance\":" ++ balance) ++ codes "},")) (amount-text row.balance.0)
    ∙ two_parts (codes "{\"account\":") (decimal row.account.0) (codes ",\"balance\":") (number_text (of_integer row.balance.0)) (codes "}") (codes ",")

-- so it is what was added, where this balance was written
pub account_row-json : {t u v w : List ℕ} (row : Balance) (balance : ℤ) (format : Format) → balance ≡ row.balance.0 → format ≡ Json
    → Adds t u (codes "{\"account\":" ++ decimal row.account.0) → Adds u v (codes ",\"balance\":" ++ signed_decimal balance) → Adds v w (codes "},")
    → Adds t w (account_piece format row)
account_row-json row balance format is json first second third =
    renamed (joined first (joined second third))
    (ap (λ (z : ℤ). (codes "{\"account\":" ++ decimal row.account.0) ++ ((codes ",\"balance\":" ++ signed_decimal z) ++ codes "},")) is
    ∙ account-json row ∙ ap (λ (f : Format). account_piece f row) (sym json))

-- an account's record of CSV is its fields
account-csv : (row : Balance) → decimal row.account.0 ++ ((codes "," ++ signed_decimal row.balance.0) ++ codes "\\n") ≡ account_piece Csv row
account-csv row = record_text-piece (decimal row.account.0) (signed_decimal row.balance.0) [] (plain-decimal row.account.0, (plain-amount row.balance.0, tt))

-- so it is what was added
pub account_row-csv : {t u v w : List ℕ} (row : Balance) (balance : ℤ) (format : Format) → balance ≡ row.balance.0 → format ≡ Csv
    → Adds t u (decimal row.account.0) → Adds u v (codes "," ++ signed_decimal balance) → Adds v w (codes "\\n")
    → Adds t w (account_piece format row)
account_row-csv row balance format is csv first second third =
    renamed (joined first (joined second third))
    (ap (λ (z : ℤ). decimal row.account.0 ++ ((codes "," ++ signed_decimal z) ++ codes "\\n")) is
    ∙ account-csv row ∙ ap (λ (f : Format). account_piece f row) (sym csv))

-- a ledger line as its row of JSON is written
abbrev json_parts : ℕ → ℕ → List ℕ → List ℕ → List ℕ
json_parts line account credit debit =
    (codes "{\"account\":" ++ decimal account)
    ++ ((codes ",\"credit\":" ++ credit) ++ ((codes ",\"debit\":" ++ debit) ++ ((codes ",\"line\":" ++ decimal line) ++ codes "},")))

-- that is its members
voucher-json : (line : ℕ) (made : GlLine) → json_parts line made.account.0 (signed_decimal made.credit.0) (signed_decimal made.debit.0) ≡ voucher_piece Json (voucher_row line made)
unfolding escape_byte
voucher-json line made =
    ap₂ (json_parts line made.account.0) (amount-text made.credit.0) (amount-text made.debit.0)
    ∙ four_parts (codes "{\"account\":") (decimal made.account.0) (codes ",\"credit\":") (number_text (of_integer made.credit.0)) (codes ",\"debit\":")
    (number_text (of_integer made.debit.0)) (codes ",\"line\":") (decimal line) (codes "}") (codes ",")

-- so the row is what was added, where these amounts were written
pub voucher_row-json : {s t u v w x : List ℕ} (line : ℕ) (made : GlLine) (debit credit : ℤ) (format : Format)
    → debit ≡ made.debit.0 → credit ≡ made.credit.0 → format ≡ Json
    → Adds s t (codes "{\"account\":" ++ decimal made.account.0) → Adds t u (codes ",\"credit\":" ++ signed_decimal credit)
    → Adds u v (codes ",\"debit\":" ++ signed_decimal debit) → Adds v w (codes ",\"line\":" ++ decimal line) → Adds w x (codes "},")
    → Adds s x (voucher_piece format (voucher_row line made))
voucher_row-json line made debit credit format same_debit same_credit json first second third fourth fifth =
    renamed (joined first (joined second (joined third (joined fourth fifth))))
    (ap₂ (λ (c d : ℤ). json_parts line made.account.0 (signed_decimal c) (signed_decimal d)) same_credit same_debit
    ∙ voucher-json line made ∙ ap (λ (f : Format). voucher_piece f (voucher_row line made)) (sym json))

-- a ledger line as its record of CSV is written
abbrev csv_parts : ℕ → ℕ → List ℕ → List ℕ → List ℕ
csv_parts line account debit credit = decimal line ++ ((codes "," ++ decimal account) ++ ((codes "," ++ debit) ++ ((codes "," ++ credit) ++ codes "\\n")))

-- that is its fields
voucher-csv : (line : ℕ) (made : GlLine) → csv_parts line made.account.0 (signed_decimal made.debit.0) (signed_decimal made.credit.0) ≡ voucher_piece Csv (voucher_row line made)
voucher-csv line made =
    record_text-piece (decimal line) (decimal made.account.0) (signed_decimal made.debit.0 ∷ signed_decimal made.credit.0 ∷ [])
    (plain-decimal line, (plain-decimal made.account.0, (plain-amount made.debit.0, (plain-amount made.credit.0, tt))))

-- so the record is what was added
pub voucher_row-csv : {s t u v w x : List ℕ} (line : ℕ) (made : GlLine) (debit credit : ℤ) (format : Format)
    → debit ≡ made.debit.0 → credit ≡ made.credit.0 → format ≡ Csv
    → Adds s t (decimal line) → Adds t u (codes "," ++ decimal made.account.0) → Adds u v (codes "," ++ signed_decimal debit)
    → Adds v w (codes "," ++ signed_decimal credit) → Adds w x (codes "\\n")
    → Adds s x (voucher_piece format (voucher_row line made))
voucher_row-csv line made debit credit format same_debit same_credit csv first second third fourth fifth =
    renamed (joined first (joined second (joined third (joined fourth fifth))))
    (ap₂ (λ (d c : ℤ). csv_parts line made.account.0 (signed_decimal d) (signed_decimal c)) same_debit same_credit
    ∙ voucher-csv line made ∙ ap (λ (f : Format). voucher_piece f (voucher_row line made)) (sym csv))
