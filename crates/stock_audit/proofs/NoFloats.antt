-- A verdict has no float.
use Rattle.std.proofs.Common.{◌≡◌, ℤ, pos, negsuc, false, List, [], ◌∷◌, Option, Some, None, map, refl}
use Rattle.serde_json.specs.View.{items_of}
use Rattle.serde_json.specs.Data.{number}
use Rattle.serde_json.specs.Find.{of_integer}
use Rattle.serde_json.specs.Written.{has_float, items_have_float}
use Rattle.stock_nums.specs.declared.entry.Worth.{Worth}
use Rattle.stock_model.specs.declared.ledger_lines.Balance.{Balance}
use Rattle.generation_audit.specs.declared.verdict.Verdict.{Verdict}
use Rattle.generation_audit.specs.declared.verdict.Verdict.TheVariants as verdict
use Rattle.stock_audit.specs.Texts.{account_data, worth_data, verdict_data}

no_float-integer : (z : ℤ) → has_float (number (of_integer z)) ≡ false
no_float-integer (pos n) = refl
no_float-integer (negsuc n) = refl

no_float-accounts : (rows : List Balance) → items_have_float (items_of (map account_data rows)) ≡ false
no_float-accounts [] = refl
no_float-accounts (row ∷ rows) = rw (no_float-integer row.balance.0, no_float-accounts rows) refl

no_float-worth : (worth : Option Worth) → has_float (worth_data worth) ≡ false
no_float-worth None = refl
no_float-worth (Some worth) = rw (no_float-integer worth.value.0, no_float-integer worth.share.0) refl

pub no_float-verdict : (v : Verdict) → has_float (verdict_data v) ≡ false
no_float-verdict (verdict.Sound records covered accounts) = rw (no_float-accounts accounts) refl
no_float-verdict verdict.Head = refl
no_float-verdict (verdict.Record n) = refl
no_float-verdict (verdict.Differs spot stored due) = rw (no_float-worth due, no_float-worth stored) refl
