-- The quantity of a line and its test agree.
use Rattle.std.proofs.Common.{◌≡◌, ℕ, Bool, true, false, ◌&&◌, IsTrue, arith}
use Rattle.std.proofs.lemmas.Bool.Decides.{nat_tests}
use Rattle.stock_nums.specs.Quantities.{IsLineQuantity, is_line_quantity}

pub is_line_quantity-true : (qty : ℕ) → IsLineQuantity qty → IsTrue (is_line_quantity qty)
is_line_quantity-true qty (some, few) = grind (arith, nat_tests)

pub is_line_quantity-is : (qty : ℕ) → is_line_quantity qty ≡ true → IsLineQuantity qty
is_line_quantity-is qty h = (grind (arith, nat_tests), grind (arith, nat_tests))

-- two numbers of a cause are in range
pub both-in_range : (a b : Bool) → a ≡ true → b ≡ true → (a && b) ≡ true
both-in_range true b h k = k
both-in_range false b h k = h
