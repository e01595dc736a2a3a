use Rattle.std.proofs.Common.{inr, refl}
use Rattle.std.proofs.lemmas.Result.{err_from_is_err_and}
use Rattle.voucher_json.proofs.Walks.{goes_had, stops_had}
use Rattle.voucher_json.proofs.whats.read_what.Goals as goal

pub returns-in-Item-clause-outcome : goal.returns-in-Item-clause-outcome
returns-in-Item-clause-outcome c = rw c.in-Item.is c.read_item.ensures.outcome

pub returns-in-Store-clause-outcome : goal.returns-in-Store-clause-outcome
returns-in-Store-clause-outcome c = rw c.in-Store.is c.read_store.ensures.outcome

pub returns-in-Issue-clause-outcome : goal.returns-in-Issue-clause-outcome
returns-in-Issue-clause-outcome c = rw c.in-Issue.is c.read_issue.ensures.outcome

pub returns-in-Landed-clause-outcome : goal.returns-in-Landed-clause-outcome
returns-in-Landed-clause-outcome c = rw c.in-Landed.is c.read_landed.ensures.outcome

pub returns-in-Freeze-clause-outcome : goal.returns-in-Freeze-clause-outcome
returns-in-Freeze-clause-outcome c = rw c.in-Freeze.is c.read_freeze.ensures.outcome

pub returns-in-Cancel-clause-outcome : goal.returns-in-Cancel-clause-outcome
returns-in-Cancel-clause-outcome c = rw c.in-Cancel.is c.read_cancel.ensures.outcome

pub returns-in_err-at-in-Receipt-clause-outcome : goal.returns-in_err-at-in-Receipt-clause-outcome
returns-in_err-at-in-Receipt-clause-outcome c =
    let p = err_from_is_err_and c.from_residual.result c.from_residual.ensures.1 in
    rw (p.1, p.2, c.in-Receipt.is) (stops_had _ _ _ c.in_err-at-in-Receipt.ensures.outcome)

pub returns-in_ok-at-in-Receipt-clause-outcome : goal.returns-in_ok-at-in-Receipt-clause-outcome
returns-in_ok-at-in-Receipt-clause-outcome c = rw c.in-Receipt.is (goes_had _ _ (c.in_ok-at-in-Receipt.at, c.in_ok-at-in-Receipt.lines) _ c.in_ok-at-in-Receipt.ensures.outcome (inr refl))

pub returns-in_err-at-in-Transfer-clause-outcome : goal.returns-in_err-at-in-Transfer-clause-outcome
returns-in_err-at-in-Transfer-clause-outcome c =
    let p = err_from_is_err_and c.from_residual-in_err-at-in-Transfer.result c.from_residual-in_err-at-in-Transfer.ensures.1 in
    rw (p.1, p.2, c.in-Transfer.is) (stops_had _ _ _ c.in_err-at-in-Transfer.ensures.outcome)

pub returns-in_ok-at-in-Transfer-clause-outcome : goal.returns-in_ok-at-in-Transfer-clause-outcome
returns-in_ok-at-in-Transfer-clause-outcome c = rw c.in-Transfer.is (goes_had _ _ (c.in_ok-at-in-Transfer.at, c.in_ok-at-in-Transfer.lines) _ c.in_ok-at-in-Transfer.ensures.outcome (inr refl))

pub returns-in_err-at-in-CustomerReturn-clause-outcome : goal.returns-in_err-at-in-CustomerReturn-clause-outcome
returns-in_err-at-in-CustomerReturn-clause-outcome c =
    let p = err_from_is_err_and c.from_residual-in_err-at-in-CustomerReturn.result c.from_residual-in_err-at-in-CustomerReturn.ensures.1 in
    rw (p.1, p.2, c.in-CustomerReturn.is) (stops_had _ _ _ c.in_err-at-in-CustomerReturn.ensures.outcome)

pub returns-in_ok-at-in-CustomerReturn-clause-outcome : goal.returns-in_ok-at-in-CustomerReturn-clause-outcome
returns-in_ok-at-in-CustomerReturn-clause-outcome c = rw c.in-CustomerReturn.is (goes_had _ _ (c.in_ok-at-in-CustomerReturn.at, c.in_ok-at-in-CustomerReturn.lines) _ c.in_ok-at-in-CustomerReturn.ensures.outcome (inr refl))

pub returns-in_err-at-in-SupplierReturn-clause-outcome : goal.returns-in_err-at-in-SupplierReturn-clause-outcome
returns-in_err-at-in-SupplierReturn-clause-outcome c =
    let p = err_from_is_err_and c.from_residual-in_err-at-in-SupplierReturn.result c.from_residual-in_err-at-in-SupplierReturn.ensures.1 in
    rw (p.1, p.2, c.in-SupplierReturn.is) (stops_had _ _ _ c.in_err-at-in-SupplierReturn.ensures.outcome)

pub returns-in_ok-at-in-SupplierReturn-clause-outcome : goal.returns-in_ok-at-in-SupplierReturn-clause-outcome
returns-in_ok-at-in-SupplierReturn-clause-outcome c = rw c.in-SupplierReturn.is (goes_had _ _ (c.in_ok-at-in-SupplierReturn.at, c.in_ok-at-in-SupplierReturn.lines) _ c.in_ok-at-in-SupplierReturn.ensures.outcome (inr refl))
