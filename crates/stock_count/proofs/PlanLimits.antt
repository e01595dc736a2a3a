-- The vouchers of a plan have 1 to 100 lines.
use Rattle.std.proofs.Common.{◌≡◌, ℕ, ◌≤◌, List, [], ◌∷◌, length, take, Option, Some, None, IsTrue, sym, ap, ◌∙◌, subst, arith}
use Rattle.std.specs.Prelude.{IfSome}
use Rattle.std.specs.List.{filter_map, cons_option}
use Rattle.std.proofs.lemmas.Bool.Decides.{nat_tests}
use Rattle.std.proofs.lemmas.List.{length-map, length-take}
use Rattle.stock_nums.specs.declared.limits.TheConstants.{MAX_LINES}
use Rattle.stock_nums.specs.declared.moment.Moment.{Moment}
use Rattle.stock_model.specs.declared.vouchers.What.{What}
use Rattle.stock_model.specs.Limits.{is_line_count}
use Rattle.stock_count.specs.Corrections.{Correction, issue_said, receipt_said}
use Rattle.stock_count.specs.Plans.{IsIssue, IsReceipt, IsWithinLimits}

-- no more is made than there was
pub length-filter_map : {X Y : Type 0} (f : X → Option Y) (i : ℕ) (xs : List X) → length (filter_map f (take i xs)) ≤ length xs
length-filter_map f i xs = omega (arith, made f (take i xs), length-take i xs)
  where
    made : {X Y : Type 0} (f : X → Option Y) (xs : List X) → length (filter_map f xs) ≤ length xs
    made f [] = omega arith
    made f (x ∷ xs) =
        elim (f x) as (λ o. length (cons_option o (filter_map f xs)) ≤ length (x ∷ xs)) [
          | None ↦ omega (arith, made f xs)
          | Some y ↦ omega (arith, made f xs)
        ]

counted : (n : ℕ) → 1 ≤ n → n ≤ MAX_LINES → IsTrue (is_line_count n)
counted n one few = grind (arith, nat_tests)

pub issue-limits : (at : Moment) (said : List Correction) (made : Option What) → IsIssue at said made → length said ≤ MAX_LINES → IfSome made IsWithinLimits
issue-limits at [] made is few = subst (λ (o : Option What). IfSome o IsWithinLimits) (sym is) tt
issue-limits at (first ∷ rest) made (lines, is, told) few =
    let many : length lines ≡ length (first ∷ rest) = sym (length-map lines issue_said) ∙ ap length told in
    subst (λ (o : Option What). IfSome o IsWithinLimits) (sym is) (counted (length lines) (omega (arith, many)) (omega (arith, many, few)))

pub receipt-limits : (at : Moment) (said : List Correction) (made : Option What) → IsReceipt at said made → length said ≤ MAX_LINES → IfSome made IsWithinLimits
receipt-limits at [] made is few = subst (λ (o : Option What). IfSome o IsWithinLimits) (sym is) tt
receipt-limits at (first ∷ rest) made (lines, is, told) few =
    let many : length lines ≡ length (first ∷ rest) = sym (length-map lines receipt_said) ∙ ap length told in
    subst (λ (o : Option What). IfSome o IsWithinLimits) (sym is) (counted (length lines) (omega (arith, many)) (omega (arith, many, few)))
