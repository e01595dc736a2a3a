use Rattle.std.proofs.Common.{inr, refl}
use Rattle.std.proofs.lemmas.Result.{err_from_is_err_and}
use Rattle.voucher_json.proofs.Walks.{goes, goes_had, stops, stops_had}
use Rattle.voucher_json.proofs.reading.read_kind.Goals as goal

pub returns-in_err-read_what-in-Post-clause-outcome : goal.returns-in_err-read_what-in-Post-clause-outcome
returns-in_err-read_what-in-Post-clause-outcome c =
    let p = err_from_is_err_and c.from_residual.result c.from_residual.ensures.1 in
    rw (p.1, p.2, c.in-Post.is) (stops_had _ _ _ c.in_err-read_what-in-Post.ensures.outcome)

pub returns-in_ok-read_what-in-Post-clause-outcome : goal.returns-in_ok-read_what-in-Post-clause-outcome
returns-in_ok-read_what-in-Post-clause-outcome c = rw c.in-Post.is (goes_had _ _ c.in_ok-read_what-in-Post.field-0 _ c.in_ok-read_what-in-Post.ensures.outcome (inr refl))

pub returns-in_err-read_work-in-Work-clause-outcome : goal.returns-in_err-read_work-in-Work-clause-outcome
returns-in_err-read_work-in-Work-clause-outcome c =
    let p = err_from_is_err_and c.from_residual-in_err-read_work-in-Work.result c.from_residual-in_err-read_work-in-Work.ensures.1 in
    rw (p.1, p.2, c.in-Work.is) (stops _ _ _ c.in_err-read_work-in-Work.ensures.outcome)

pub returns-in_ok-read_work-in-Work-clause-outcome : goal.returns-in_ok-read_work-in-Work-clause-outcome
returns-in_ok-read_work-in-Work-clause-outcome c = rw c.in-Work.is (goes _ _ c.in_ok-read_work-in-Work.field-0 _ c.in_ok-read_work-in-Work.ensures.outcome (inr refl))

pub returns-in_err-no_other-in-Settle-clause-outcome : goal.returns-in_err-no_other-in-Settle-clause-outcome
returns-in_err-no_other-in-Settle-clause-outcome c =
    let p = err_from_is_err_and c.from_residual-in_err-no_other-in-Settle.result c.from_residual-in_err-no_other-in-Settle.ensures.1 in
    rw (p.1, p.2, c.in-Settle.is) (stops _ _ _ c.in_err-no_other-in-Settle.ensures)

pub returns-in_ok-no_other-in-Settle-clause-outcome : goal.returns-in_ok-no_other-in-Settle-clause-outcome
returns-in_ok-no_other-in-Settle-clause-outcome c = rw c.in-Settle.is (goes _ _ c.in_ok-no_other-in-Settle.field-0 _ c.in_ok-no_other-in-Settle.ensures (inr refl))

pub returns-in_err-read_report-in-Report-clause-outcome : goal.returns-in_err-read_report-in-Report-clause-outcome
returns-in_err-read_report-in-Report-clause-outcome c =
    let p = err_from_is_err_and c.from_residual-in_err-read_report-in-Report.result c.from_residual-in_err-read_report-in-Report.ensures.1 in
    rw (p.1, p.2, c.in-Report.is) (stops_had _ _ _ c.in_err-read_report-in-Report.ensures)

pub returns-in_ok-read_report-in-Report-clause-outcome : goal.returns-in_ok-read_report-in-Report-clause-outcome
returns-in_ok-read_report-in-Report-clause-outcome c = rw c.in-Report.is (goes_had _ _ c.in_ok-read_report-in-Report.field-0 _ c.in_ok-read_report-in-Report.ensures (inr refl))
