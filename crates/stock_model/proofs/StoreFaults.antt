-- The faults of a new warehouse in their order.
use Rattle.std.proofs.Common.{◌≡◌, Bool, true, false, cond, Some, None, refl}
use Rattle.std.specs.Option.{option_or}
use Rattle.stock_model.specs.declared.faults.PostFault.TheVariants.{CodeTaken, CodeShape, AccountRange}

pub store-faults : (taken shape range : Bool)
    → cond taken (Some CodeTaken) (cond shape (cond range None (Some AccountRange)) (Some CodeShape))
    ≡ option_or (cond taken (Some CodeTaken) None) (option_or (cond shape None (Some CodeShape)) (option_or (cond range None (Some AccountRange)) None))
store-faults true shape range = refl
store-faults false false range = refl
store-faults false true false = refl
store-faults false true true = refl
