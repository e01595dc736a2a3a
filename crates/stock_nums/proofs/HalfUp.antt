-- No units cost more than all that there was.
use Rattle.std.proofs.Common.{◌≡◌, ℕ, ◌+◌, ◌*◌, ◌/◌, ◌<◌, ◌≤◌, arith}
use Rattle.std.proofs.Math.Nat.{mul-le-mul_left, div-lt_iff_lt-mul}
use Rattle.std.proofs.lemmas.Bool.Decides.{nat_tests}
use Rattle.stock_nums.specs.HalfUp.{half_up}

-- a rounded share of a part is at most the whole
pub rounded-le : (V q Q : ℕ) → 0 < Q → q ≤ Q → (2 * V * q + Q) / (2 * Q) ≤ V
rounded-le V q Q some within =
    let part : V * q ≤ V * Q = mul-le-mul_left V within in
    let below : 2 * V * q + Q < (V + 1) * (2 * Q) = omega arith in
    let positive : 0 < 2 * Q = omega arith in
    let quotient : (2 * V * q + Q) / (2 * Q) < V + 1 = (div-lt_iff_lt-mul positive).1 below in
    omega arith

-- the last units take all that is left
pub half_up-all : (V Q : ℕ) → half_up V Q Q ≡ V
half_up-all V Q = grind (arith, nat_tests)

-- no units cost more than all that there was
pub half_up-le : (V q Q : ℕ) → 0 < Q → q ≤ Q → half_up V q Q ≤ V
half_up-le V q Q some within = grind (arith, nat_tests, rounded-le)
