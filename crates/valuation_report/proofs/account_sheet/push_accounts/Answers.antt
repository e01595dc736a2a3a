-- One more account has its piece, until all have.
use Rattle.std.proofs.Common.{ap, ◌∙◌}
use Rattle.std.specs.List.{flat_map}
use Rattle.stock_model.specs.Accounts.{balances}
use Rattle.valuation_report.specs.AccountPieces.{account_piece}
use Rattle.valuation_report.proofs.Joined.{renamed}
use Rattle.valuation_report.proofs.PiecesSoFar.{no_piece, one_more, all_pieces}
use Rattle.valuation_report.proofs.account_sheet.push_accounts.Goals as goal

pub loop-account-init : goal.loop-account-init
loop-account-init c = no_piece c.args.text.now.items

pub loop-account-preserved : goal.loop-account-preserved
loop-account-preserved c =
    one_more (account_piece c.args.format) c.as_slice-accounts.result.now c.loop-account.account-index _ c.loop-account-test.true
    c.loop-account.invariant c.in_ok-push_account_row.ensures

pub returns : goal.returns
returns c =
    renamed
    (all_pieces (account_piece c.args.format) c.as_slice-accounts.result.now c.loop-account.account-index c.loop-account-test.false c.loop-account.invariant)
    (ap (flat_map (account_piece c.args.format)) (c.as_slice-accounts.ensures ∙ c.in_ok-found.ensures ∙ ap (balances c.args.heads.now) (c.as_slice.ensures.value ∙ c.in_ok-whole.ensures)))
