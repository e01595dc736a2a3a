use Rattle.std.proofs.lemmas.Result.{err_from_is_err_and}
use Rattle.voucher_json.proofs.Texts.{walked, refused, unread}
use Rattle.voucher_json.proofs.record_reading.read_record.Goals as goal

pub returns-in_err-value-clause-fault : goal.returns-in_err-value-clause-fault
returns-in_err-value-clause-fault c =
    let p = err_from_is_err_and c.from_residual.result c.from_residual.ensures.1 in
    rw (p.1, p.2) (unread _ _ _ c.in_err-value.ensures.err)

pub returns-clause-read : goal.returns-clause-read
returns-clause-read c = walked _ _ _ _ c.in_ok-value.ensures.ok c.record_of.ensures

pub returns-clause-fault : goal.returns-clause-fault
returns-clause-fault c = refused _ _ _ _ c.in_ok-value.ensures.ok c.record_of.ensures
