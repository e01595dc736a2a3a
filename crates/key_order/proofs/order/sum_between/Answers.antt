-- The sums of two fronts are small.
use Rattle.std.proofs.Common.{◌≡◌, ◌<◌, ◌≤◌, ◌^◌, ◌-ℤ◌, unsigned_abs, ap₂, sym, ◌∙◌, subst, ℤ, arith, to_z, of_z, w64}
use Rattle.std.proofs.lemmas.Int.{ints, fits_signed_from_abs}
use Rattle.key_order.proofs.KeyRuns.{total-take_small, small-kept}
use Rattle.key_order.proofs.order.sum_between.Goals as goal

-- the difference of two small numbers
difference : (a b x y : ℤ) → a ≡ x → b ≡ y → unsigned_abs x ≤ 2 ^ 50 → unsigned_abs y ≤ 2 ^ 50
    → (to_z w64 (of_z w64 a) -ℤ to_z w64 (of_z w64 b) ≡ x -ℤ y) × (unsigned_abs (x -ℤ y) ≤ 2 ^ 52)
difference a b x y first second small low =
    let one : to_z w64 (of_z w64 a) ≡ x = small-kept a (omega (arith, ints, first, small)) ∙ first in
    let other : to_z w64 (of_z w64 b) ≡ y = small-kept b (omega (arith, ints, second, low)) ∙ second in
    (ap₂ (λ (u v : ℤ). u -ℤ v) one other, omega (arith, ints, small, low))

pub overflow_sub-result : goal.overflow_sub-result
overflow_sub-result c =
    let cs = c.args.changes.now.items in
    let both = difference c.sum_before.result c.sum_before-2.result _ _ c.sum_before.ensures c.sum_before-2.ensures
    (total-take_small cs c.args.to c.requires.few) (total-take_small cs c.args.from c.requires.few) in
    fits_signed_from_abs w64 _ (subst (λ (z : ℤ). unsigned_abs z < 2 ^ 63) (sym both.0) (omega (arith, both.1)))

pub returns-clause-sum : goal.returns-clause-sum
returns-clause-sum c =
    let cs = c.args.changes.now.items in
    let both = difference c.sum_before.result c.sum_before-2.result _ _ c.sum_before.ensures c.sum_before-2.ensures
    (total-take_small cs c.args.to c.requires.few) (total-take_small cs c.args.from c.requires.few) in
    small-kept _ (subst (λ (z : ℤ). unsigned_abs z ≤ 2 ^ 60) (sym both.0) (omega (arith, both.1))) ∙ both.0

pub returns-clause-bound : goal.returns-clause-bound
returns-clause-bound c =
    let cs = c.args.changes.now.items in
    let both = difference c.sum_before.result c.sum_before-2.result _ _ c.sum_before.ensures c.sum_before-2.ensures
    (total-take_small cs c.args.to c.requires.few) (total-take_small cs c.args.from c.requires.few) in
    subst (λ (z : ℤ). unsigned_abs z ≤ 2 ^ 52)
    (sym (small-kept _ (subst (λ (z : ℤ). unsigned_abs z ≤ 2 ^ 60) (sym both.0) (omega (arith, both.1))) ∙ both.0)) both.1
