use Rattle.std.proofs.Common.{◌≡◌, ◌++◌, List, ℤ, map}
use Rattle.stock_nums.specs.declared.numbers.AccountNo.{AccountNo}
use Rattle.gl_lines.specs.Totals.{entry_balance}
use Rattle.gl_lines.proofs.totals.Totals.balances.Given as goal

abbrev pub invariant-loop-account : goal.invariant-loop-account
invariant-loop-account l =
    (goal.iterator-loop-account).can_next l.account-iterator ×
    (goal.iterator-loop-account).is_finite l.account-iterator ×
    ((done : List (AccountNo × ℤ)) × (l.self.by_account.entries ≡ done ++ l.account-iterator) × (l.found ≡ map entry_balance done))
