-- Lines that are seen alike are one line.
use Rattle.std.proofs.Common.{◌≡◌, ℕ, ℤ, List, IsTrue, ap, ◌∙◌, subst}
use Rattle.stock_nums.specs.Causes.{has_amounts_in_range, has_side}
use Rattle.stock_nums.specs.Quantities.{IsLineQuantity, is_line_amount}
use Rattle.stock_nums.specs.declared.cause.Cause.{Cause}
use Rattle.stock_nums.specs.declared.numbers.Minor.{Minor}
use Rattle.stock_nums.specs.declared.numbers.Qty.{Qty}
use Rattle.stock_nums.specs.declared.place.Side.{Side}
use Rattle.stock_model.specs.declared.seen.Move.{Move}
use Rattle.stock_model.specs.VoucherLines.{Subject, VoucherLine}
use denote.Struct.Props.{props}

IsLineQuantity-prop : (qty : ℕ) → IsProp (IsLineQuantity qty)
IsLineQuantity-prop qty = hlevel props

is_line_amount-prop : (amount : ℤ) → IsProp (IsTrue (is_line_amount amount))
is_line_amount-prop amount = hlevel props

-- a line from its parts
abbrev line_of : Subject → List (List ℕ) → (qty : Qty) → (amount : Minor) → IsLineQuantity qty.0 → IsTrue (is_line_amount amount.0) → VoucherLine
line_of item stores qty amount quantity price =
    record { item = item; stores = stores; qty = qty; amount = amount; quantity = quantity; price = price }

-- how the ranges of its numbers are known makes no difference
pub line-same : (item : Subject) (stores : List (List ℕ)) (qty : Qty) (amount : Minor) (q r : IsLineQuantity qty.0) (p s : IsTrue (is_line_amount amount.0))
    → line_of item stores qty amount q p ≡ line_of item stores qty amount r s
line-same item stores qty amount q r p s =
    ap (λ (x : IsLineQuantity qty.0). line_of item stores qty amount x p) (IsLineQuantity-prop qty.0 q r)
    ∙ ap (line_of item stores qty amount r) (is_line_amount-prop amount.0 p s)

amounts-prop : (cause : Cause) → IsProp (IsTrue (has_amounts_in_range cause))
amounts-prop cause = hlevel props

sides-prop : (cause : Cause) (side : Side) → IsProp (IsTrue (has_side cause side))
sides-prop cause side = hlevel props

-- a move from its parts
abbrev move_of : (cause : Cause) (side : Side) → IsTrue (has_amounts_in_range cause) → IsTrue (has_side cause side) → Move
move_of cause side amounts sides = record { side = side; cause = cause; amounts = amounts; sides = sides }

-- moves of one side and one cause are one move
pub move-same : (a b : Move) → a.side ≡ b.side → a.cause ≡ b.cause → a ≡ b
move-same a b side cause =
    let P : Side → Type 0 = λ s. (h : IsTrue (has_side a.cause s)) → a ≡ move_of a.cause s a.amounts h in
    let one_side : (h : IsTrue (has_side a.cause b.side)) → a ≡ move_of a.cause b.side a.amounts h =
    subst P side (λ h. ap (move_of a.cause a.side a.amounts) (sides-prop a.cause a.side a.sides h)) in
    let Q : Cause → Type 0 = λ c. (g : IsTrue (has_amounts_in_range c)) (h : IsTrue (has_side c b.side)) → a ≡ move_of c b.side g h in
    subst Q cause
    (λ g h. one_side h ∙ ap (λ (x : IsTrue (has_amounts_in_range a.cause)). move_of a.cause b.side x h) (amounts-prop a.cause a.amounts g))
    b.amounts b.sides
