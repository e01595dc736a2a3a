-- At most 2^20 movements of a line have few units, so that numbers of units fit.
use Rattle.std.proofs.Common.{◌*◌, ◌^◌, ◌≤◌, Bool, true, false, cond, List, [], ◌∷◌, length, filter, sum_by, arith}
use Rattle.std.proofs.lemmas.List.Sums.{sum_by-cons}
use Rattle.stock_nums.specs.declared.entry.Entry.{Entry}
use Rattle.stock_nums.specs.declared.limits.TheConstants.{MAX_QUANTITY}
use Rattle.stock_model.specs.Enough.{entry_units}

-- those that pass two tests have no more than the greatest quantity for each
both-next : (e : Entry) (es : List Entry) (p q : Entry → Bool) (b : Bool)
    → sum_by entry_units (filter p (filter q es)) ≤ length es * MAX_QUANTITY
    → sum_by entry_units (filter p (cond b (e ∷ filter q es) (filter q es))) ≤ length (e ∷ es) * MAX_QUANTITY
both-next e es p q true rest = first (p e)
  where
    first : (a : Bool) → sum_by entry_units (cond a (e ∷ filter p (filter q es)) (filter p (filter q es)))
        ≤ length (e ∷ es) * MAX_QUANTITY
    first true = omega (arith, rest, sum_by-cons entry_units e (filter p (filter q es)), e.quantity.1)
    first false = omega (arith, rest)
both-next e es p q false rest = omega (arith, rest)

both-le : (p q : Entry → Bool) (es : List Entry) → sum_by entry_units (filter p (filter q es)) ≤ length es * MAX_QUANTITY
both-le p q [] = omega arith
both-le p q (e ∷ es) = both-next e es p q (q e) (both-le p q es)

-- so of a line of at most 2^20 movements
pub units-few : (p q : Entry → Bool) (line : List Entry) → length line ≤ 2 ^ 20
    → sum_by entry_units (filter p (filter q line)) ≤ 1_048_576_000_000_000
units-few p q line few =
    let most = both-le p q line in
    omega (arith, few, most)
