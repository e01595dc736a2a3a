use Rattle.std.proofs.Common.{◌≡◌, true, refl}
use Rattle.stock_model.specs.declared.vouchers.Purpose.{Purpose}
use Rattle.stock_model.specs.declared.vouchers.Purpose.TheVariants.{Sold, Used}
use Rattle.voucher_import.specs.Kinds.{is_issue, issue_kind}
use Rattle.voucher_import.proofs.vouchers.read_issue.Goals as goal

is_one : (purpose : Purpose) → is_issue (issue_kind purpose) ≡ true
is_one Sold = refl
is_one Used = refl

pub read_lines-requires-clause-begun : goal.read_lines-requires-clause-begun
read_lines-requires-clause-begun c = record {
  of_kind = issue_kind c.args.purpose;
  moment = c.args.at;
  is_one = is_one c.args.purpose;
  dated = c.requires.dated;
}
