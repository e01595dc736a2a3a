-- The parts of a total add up to it.
use Rattle.std.proofs.Common.{◌≡◌, ℕ, ◌+◌, ◌-◌, ◌*◌, ◌/◌, ◌<◌, ◌≤◌, ap, ◌∙◌, arith}
use Rattle.std.proofs.Math.Nat.{mul-le-mul_left, div-le_of_le-mul, div-mul-le_self, mul-div_cancel, zero-div}
use Rattle.std.proofs.lemmas.Nat.{le-div}
use Rattle.stock_nums.specs.Part.{part}

-- more units have no smaller share of the total
pub share-mono : (T x y W : ℕ) → 0 < W → x ≤ y → T * x / W ≤ T * y / W
share-mono T x y W some more =
    let products : T * x ≤ T * y = mul-le-mul_left T more in
    let below : T * x / W * W ≤ T * x = div-mul-le_self (T * x) W in
    le-div (T * x / W) (T * y) W some (omega arith)

-- no units have more than the total
pub share-le : (T x W : ℕ) → x ≤ W → T * x / W ≤ T
share-le T x W within =
    let products : T * x ≤ T * W = mul-le-mul_left T within in
    div-le_of_le-mul W (omega arith)

-- all units have the total
pub share-all : (T W : ℕ) → 0 < W → T * W / W ≡ T
share-all T W some = mul-div_cancel T some

-- no units have none of it
pub share-none : (T W : ℕ) → T * 0 / W ≡ 0
share-none T W =
    let none : T * 0 ≡ 0 = omega arith in
    ap (λ (x : ℕ). x / W) none ∙ zero-div W

-- the first units have their share
pub part-first : (T q W : ℕ) → part T 0 q W ≡ T * q / W
part-first T q W =
    let first : 0 + q ≡ q = omega arith in
    let none : T * 0 / W ≡ 0 = share-none T W in
    rw (first, none) (less-none (T * q / W))
  where
    less-none : (x : ℕ) → x - 0 ≡ x
    less-none x = omega arith

-- no units have none of the total
pub part-none : (T b W : ℕ) → part T b 0 W ≡ 0
part-none T b W =
    let same : b + 0 ≡ b = omega arith in
    rw same (less-all (T * b / W))
  where
    less-all : (x : ℕ) → x - x ≡ 0
    less-all x = omega arith

-- all units have the total
pub part-all : (T W : ℕ) → 0 < W → part T 0 W W ≡ T
part-all T W some = part-first T W W ∙ share-all T W some

-- no units have more than the total
pub part-le : (T b q W : ℕ) → b + q ≤ W → part T b q W ≤ T
part-le T b q W within =
    let share : T * (b + q) / W ≤ T = share-le T (b + q) W within in
    omega arith

-- what some units have and what the next have is what they have together
pub part-split : (T b q r W : ℕ) → 0 < W → part T b q W + part T (b + q) r W ≡ part T b (q + r) W
part-split T b q r W some =
    let first : T * b / W ≤ T * (b + q) / W = share-mono T b (b + q) W some (omega arith) in
    let second : T * (b + q) / W ≤ T * (b + q + r) / W = share-mono T (b + q) (b + q + r) W some (omega arith) in
    let together : b + q + r ≡ b + (q + r) = omega arith in
    chain _ _ _ first second ∙ ap (λ (x : ℕ). T * x / W - T * b / W) together
  where
    chain : (x y z : ℕ) → x ≤ y → y ≤ z → (y - x) + (z - y) ≡ z - x
    chain x y z first second = omega arith

-- the last units have all that is left
pub part-last : (T b q W : ℕ) → 0 < W → b + q ≡ W → T * b / W + part T b q W ≡ T
part-last T b q W some all =
    let end : T * (b + q) / W ≡ T = ap (λ (x : ℕ). T * x / W) all ∙ share-all T W some in
    let before : T * b / W ≤ T = share-le T b W (omega arith) in
    omega arith
