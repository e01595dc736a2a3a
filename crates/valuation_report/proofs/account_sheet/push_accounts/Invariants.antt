use Rattle.valuation_report.specs.AccountPieces.{account_piece}
use Rattle.valuation_report.specs.Adding.{Adds}
use Rattle.valuation_report.proofs.PiecesSoFar.{first_pieces}
use Rattle.valuation_report.proofs.account_sheet.push_accounts.Given as goal

abbrev pub invariant-loop-account : goal.invariant-loop-account
invariant-loop-account l = Adds l.fn.text.items l.text.items (first_pieces (account_piece l.format) l.accounts l.account-index)
