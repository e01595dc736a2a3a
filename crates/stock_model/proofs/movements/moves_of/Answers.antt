use Rattle.std.proofs.Common.{[], ◌∷◌, refl, ap, ◌∙◌}
use Rattle.stock_nums.specs.declared.cause.Cause.TheVariants as cause
use Rattle.stock_model.specs.declared.seen.Move.{Move}
use Rattle.stock_model.specs.VoucherLines.{entering, leaving, is_sold}
use Rattle.stock_model.proofs.SeenLines.{move-same}
use Rattle.stock_model.proofs.movements.moves_of.Goals as goal

pub returns-in-Receipt : goal.returns-in-Receipt
returns-in-Receipt c = rw c.in-Receipt.is (ap (λ (one : Move). one ∷ []) (move-same _ _ c.entering.ensures.side c.entering.ensures.cause))

pub returns-in-Issue : goal.returns-in-Issue
returns-in-Issue c =
    rw c.in-Issue.is
    (ap (λ (one : Move). one ∷ [])
    (move-same _ (leaving (cause.Issue (is_sold c.in-Issue.purpose)) refl refl) c.leaving.ensures.side (c.leaving.ensures.cause ∙ ap cause.Issue c.is_sold.ensures)))

pub returns-in-Transfer : goal.returns-in-Transfer
returns-in-Transfer c =
    let out = move-same c.leaving-in-Transfer.result (leaving cause.TransferLeaves refl refl) c.leaving-in-Transfer.ensures.side c.leaving-in-Transfer.ensures.cause in
    let in_ = move-same c.entering-in-Transfer.result (entering cause.TransferEnters refl refl) c.entering-in-Transfer.ensures.side c.entering-in-Transfer.ensures.cause in
    rw c.in-Transfer.is
    (ap (λ (one : Move). one ∷ c.entering-in-Transfer.result ∷ []) out ∙ ap (λ (one : Move). leaving cause.TransferLeaves refl refl ∷ one ∷ []) in_)
