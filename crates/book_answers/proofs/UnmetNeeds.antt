-- Reports whose need isn't met.
use Rattle.std.proofs.Common.{◌≡◌, List, [], Some}
use Rattle.stock_nums.specs.declared.numbers.RecordNo.{RecordNo}
use Rattle.stock_model.specs.declared.answers.Answer.TheVariants.{Told}
use Rattle.stock_model.specs.declared.deeds.Deed.{Deed}
use Rattle.stock_model.specs.declared.queries.Need.{Need}
use Rattle.stock_model.specs.declared.queries.Need.TheVariants as need
use Rattle.stock_model.specs.declared.queries.Query.{Query}
use Rattle.stock_model.specs.declared.queries.SelectFault.TheVariants as unmet
use Rattle.stock_model.specs.declared.replies.Reply.TheVariants.{Pending, NoSuchRecord}
use Rattle.stock_model.specs.Reports.{unmet_need, report_by}

-- a report whose need isn't met tells why
pub report-pending : (n : Need) (history : List Deed) (query : Query) (c w : RecordNo) → unmet_need n ≡ Some (unmet.Pending c w)
    → report_by n history query ≡ Told (Pending c w) []
report-pending need.Ready history query c w is = cc
report-pending (need.Pending covered wanted) history query c w is = cc
report-pending (need.NoSuchRecord accepted wanted) history query c w is = cc

pub report-none : (n : Need) (history : List Deed) (query : Query) (a w : RecordNo) → unmet_need n ≡ Some (unmet.NoSuchRecord a w)
    → report_by n history query ≡ Told (NoSuchRecord a w) []
report-none need.Ready history query a w is = cc
report-none (need.Pending covered wanted) history query a w is = cc
report-none (need.NoSuchRecord accepted wanted) history query a w is = cc
