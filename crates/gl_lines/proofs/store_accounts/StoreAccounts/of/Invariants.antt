use Rattle.std.proofs.Common.{take}
use Rattle.gl_lines.specs.StoreAccounts.{AreAccountsOf}
use Rattle.gl_lines.proofs.store_accounts.StoreAccounts.of.Given as goal

abbrev pub invariant-loop-head : goal.invariant-loop-head
invariant-loop-head l = AreAccountsOf l.accounts.by_number (take l.head-index l.heads)
