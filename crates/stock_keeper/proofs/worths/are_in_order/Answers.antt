-- The closure tests whether a worth comes before the next.
use Rattle.std.proofs.Common.{rules}
use Rattle.std.proofs.lemmas.Fn.{always_returns_same}
use Rattle.stock_keeper.specs.Worths.{is_spot_before}
use Rattle.stock_keeper.proofs.Neighbours.{order-from_answer}
use Rattle.stock_keeper.proofs.worths.are_in_order.Goals as goal

pub returns : goal.returns
returns c =
    order-from_answer c.args.worths.now c.is_sorted_by.result
    (c.is_sorted_by.ensures.cases (λ x y. is_spot_before x.spot y.spot) (always_returns_same _ _ _ (λ a r f' k. search rules)))
