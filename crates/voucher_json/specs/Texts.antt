-- Texts as JSON values.
use Rattle.std.specs.Prelude.{ℕ, ◌≡◌, List, Some, None, Result, Ok, Err, IsUtf8}
use Rattle.serde_json.specs.Data.{Data}
use Rattle.serde_json.specs.Read.{read}
use Rattle.stock_model.specs.declared.read_faults.ReadFault.{ReadFault}
use Rattle.stock_model.specs.declared.read_faults.ReadFault.TheVariants.{BadJson}
use Rattle.voucher_json.specs.Walks.{Then}

-- the text is UTF-8 and reads as this value, or else it is no JSON
abbrev pub IsJson : List ℕ → Result Data ReadFault → Type 0
IsJson text (Ok value) = IsUtf8 text × (read text ≡ Some value)
IsJson text (Err fault) = (IsUtf8 text → read text ≡ None) × (fault ≡ BadJson)

-- what the walk of the text's value comes to
abbrev pub IsWalked : {A : Type 0} → (Data → Result A ReadFault → Type 0) → List ℕ → Result A ReadFault → Type 0
IsWalked walk text = Then (IsJson text) walk
