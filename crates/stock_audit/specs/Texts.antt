-- What an audit prints: one line of JSON, the names of its fields in order.
use Rattle.std.specs.Prelude.{ℕ, List, [], ◌∷◌, ◌++◌, Option, Some, None, codes, map}
use Rattle.serde_json.specs.Data.{Data, array, number}
use Rattle.serde_json.specs.Find.{of_integer}
use Rattle.serde_json.specs.View.{items_of}
use Rattle.serde_json.specs.Written.{compact_text}
use Rattle.json_texts.specs.Members.{Member, text, count, amount, object_of, status}
use Rattle.stock_nums.specs.declared.entry.Worth.{Worth}
use Rattle.stock_nums.specs.declared.place.Side.{Side}
use Rattle.stock_nums.specs.declared.place.Side.TheVariants.{Leaves, Enters}
use Rattle.stock_nums.specs.declared.place.Spot.{Spot}
use Rattle.stock_model.specs.declared.ledger_lines.Balance.{Balance}
use Rattle.generation_audit.specs.declared.verdict.Verdict.{Verdict}
use Rattle.generation_audit.specs.declared.verdict.Verdict.TheVariants as verdict

-- an account with its debits less its credits
abbrev pub account_data : Balance → Data
account_data row = object_of (count (codes "account") row.account.0 ∷ amount (codes "balance") row.balance.0 ∷ [])

-- value and share, or nothing where there is no worth
abbrev pub worth_items : Option Worth → List Data
worth_items None = []
worth_items (Some worth) = number (of_integer worth.value.0) ∷ number (of_integer worth.share.0) ∷ []

abbrev pub worth_data : Option Worth → Data
worth_data worth = array (items_of (worth_items worth))

abbrev pub side_text : Side → List ℕ
side_text Leaves = codes "out"
side_text Enters = codes "in"

abbrev pub values : List ℕ → List Data → Member
values name items = (name, array (items_of items))

abbrev pub sound_data : ℕ → ℕ → List Balance → Data
sound_data records covered accounts =
    object_of (values (codes "accounts") (map account_data accounts) ∷ count (codes "covered") covered ∷ count (codes "records") records ∷ status (codes "sound") ∷ [])

abbrev pub differs_data : Spot → Option Worth → Option Worth → Data
differs_data spot stored due =
    object_of
    (count (codes "line") spot.line ∷ count (codes "record") spot.voucher.0 ∷ values (codes "replayed") (worth_items due)
    ∷ text (codes "side") (side_text spot.side) ∷ status (codes "differs") ∷ values (codes "stored") (worth_items stored) ∷ [])

abbrev pub verdict_data : Verdict → Data
verdict_data (verdict.Sound records covered accounts) = sound_data records covered.0 accounts
verdict_data verdict.Head = object_of (status (codes "head") ∷ [])
verdict_data (verdict.Record n) = object_of (count (codes "record") n ∷ status (codes "unreadable") ∷ [])
verdict_data (verdict.Differs spot stored due) = differs_data spot stored due

-- the line that tells a verdict
abbrev pub verdict_text : Verdict → List ℕ
verdict_text v = compact_text (verdict_data v) ++ codes "\n"
