-- The vouchers that correct what was held to what was counted.
use Rattle.std.specs.Prelude.{◌≡◌, List, [], ◌∷◌, map, Option, Some, None, IfSome, IsTrue}
use Rattle.stock_nums.specs.declared.moment.Moment.{Moment}
use Rattle.stock_model.specs.declared.records.Record.{Record}
use Rattle.stock_model.specs.declared.vouchers.IssueLine.{IssueLine}
use Rattle.stock_model.specs.declared.vouchers.ReceiptLine.{ReceiptLine}
use Rattle.stock_model.specs.declared.vouchers.Purpose.TheVariants.{Used}
use Rattle.stock_model.specs.declared.vouchers.What.{What}
use Rattle.stock_model.specs.declared.vouchers.What.TheVariants.{Issue, Receipt}
use Rattle.stock_model.specs.Limits.{is_within_limits}
use Rattle.voucher_import.specs.declared.sheet.CountSheet.{CountSheet}
use Rattle.stock_count.specs.declared.plan.CountPlan.{CountPlan}
use Rattle.stock_count.specs.Corrections.{Correction, issue_said, receipt_said, shortages, surpluses}
use Rattle.stock_count.specs.Differences.{differences}

-- the issue, at the moment, of what is missing, which the firm used: none where nothing is
abbrev pub IsIssue : Moment → List Correction → Option What → Type 0
IsIssue at [] made = made ≡ None
IsIssue at (first ∷ rest) made = (lines : List IssueLine) × (made ≡ Some (Issue at Used lines)) × (map issue_said lines ≡ first ∷ rest)

-- the receipt, at the moment, of what there is too much: none where there is not
abbrev pub IsReceipt : Moment → List Correction → Option What → Type 0
IsReceipt at [] made = made ≡ None
IsReceipt at (first ∷ rest) made = (lines : List ReceiptLine) × (made ≡ Some (Receipt at lines)) × (map receipt_said lines ≡ first ∷ rest)

-- the plan of a count: the difference of each line, and the vouchers that make up for them
pub record IsPlan (journal : List Record) (sheet : CountSheet) (plan : CountPlan) : Type 0 where
  pub diffs : plan.diffs ≡ differences journal sheet
  pub issue : IsIssue sheet.at (shortages journal sheet) plan.issue
  pub receipt : IsReceipt sheet.at (surpluses journal sheet) plan.receipt

-- what is said can be that of a record
abbrev pub IsWithinLimits : What → Type 0
IsWithinLimits what = IsTrue (is_within_limits what)

-- both vouchers can be posted
abbrev pub AreWithinLimits : CountPlan → Type 0
AreWithinLimits plan = IfSome plan.issue IsWithinLimits × IfSome plan.receipt IsWithinLimits
