use Rattle.std.proofs.Common.{[], ◌∷◌, ap}
use Rattle.stock_model.specs.declared.seen.Move.{Move}
use Rattle.stock_model.proofs.SeenLines.{move-same}
use Rattle.stock_model.proofs.movements.customer_return.Goals as goal

pub returns-in-OfTarget : goal.returns-in-OfTarget
returns-in-OfTarget c = rw c.in-OfTarget.is (ap (λ (one : Move). one ∷ []) (move-same _ _ c.entering.ensures.side c.entering.ensures.cause))
