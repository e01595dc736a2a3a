-- Amounts as texts of JSON and of CSV: the digits, after a minus sign where an amount is below 0.
use Rattle.std.proofs.Common.{◌≡◌, suc, true, ℤ, pos, negsuc, refl}
use Rattle.std.specs.Fmt.{signed_decimal}
use Rattle.serde_json.specs.Find.{of_integer}
use Rattle.serde_json.specs.Written.{number_text}
use Rattle.valuation_report.proofs.PlainBytes.{is_plain, plain-decimal}

-- a number of JSON is written as `itoa` writes it
pub amount-text : (z : ℤ) → signed_decimal z ≡ number_text (of_integer z)
amount-text (pos n) = refl
amount-text (negsuc n) = refl

-- neither JSON nor CSV sets a byte of an amount apart
pub plain-amount : (z : ℤ) → is_plain (signed_decimal z) ≡ true
plain-amount (pos n) = plain-decimal n
plain-amount (negsuc n) = plain-decimal (suc n)
