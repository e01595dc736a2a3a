-- The values so far are those of the first accounts.
use Rattle.std.proofs.Common.{◌≡◌, map, take}
use Rattle.serde_json.specs.View.{view}
use Rattle.stock_audit.specs.Texts.{account_data}
use Rattle.stock_audit.proofs.verdict_texts.account_values.Given as goal

abbrev pub invariant-loop-account : goal.invariant-loop-account
invariant-loop-account l = map view l.values.items ≡ map account_data (take l.account-index l.accounts)
