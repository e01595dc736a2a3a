-- The shares of a total add up to it.
use Rattle.std.proofs.Common.{length, ◌≡◌, ℕ, suc, ◌+◌, ◌<◌, ◌≤◌, List, [], ◌∷◌, sum, refl, sym, ap, ◌∙◌, inl, inr, arith}
use Rattle.std.proofs.lemmas.Bool.{cases_lt}
use Rattle.std.proofs.lemmas.List.Sums.{sum_by-cons}
use Rattle.stock_nums.specs.Part.{part}
use Rattle.stock_nums.specs.Shares.{shares_after, shares}
use Rattle.stock_nums.proofs.PartLemmas.{part-none, part-split, part-all}

-- a sum of numbers, one of them apart
pub sum-cons : (w : ℕ) (ws : List ℕ) → sum (w ∷ ws) ≡ w + sum ws
sum-cons w ws = sum_by-cons (λ n. n) w ws

-- the shares after some are together the part of the total that their weights have together
pub sum-shares_after : (T before all : ℕ) (ws : List ℕ) → 0 < all → sum (shares_after T before all ws) ≡ part T before (sum ws) all
sum-shares_after T before all [] some = sym (part-none T before all)
sum-shares_after T before all (w ∷ ws) some =
    sum-cons (part T before w all) (shares_after T (before + w) all ws)
    ∙ ap (λ (n : ℕ). part T before w all + n) (sum-shares_after T (before + w) all ws some)
    ∙ part-split T before w (sum ws) all some
    ∙ ap (λ (n : ℕ). part T before n all) (sym (sum-cons w ws))

-- where there is no weight at all, nothing has a share
pub sum-shares_after-none : (T before all : ℕ) (ws : List ℕ) → sum ws ≡ 0 → sum (shares_after T before all ws) ≡ 0
sum-shares_after-none T before all [] none = refl
sum-shares_after-none T before all (w ∷ ws) none =
    let weight : w ≡ 0 = omega (arith, sum-cons w ws, none) in
    let share : part T before w all ≡ 0 = ap (λ (n : ℕ). part T before n all) weight ∙ part-none T before all in
    let rest = sum-shares_after-none T (before + w) all ws (omega (arith, sum-cons w ws, none)) in
    omega (arith, sum-cons (part T before w all) (shares_after T (before + w) all ws), share, rest)

-- where there is some weight, the shares are together the total
pub sum-shares : (T : ℕ) (ws : List ℕ) → 0 < sum ws → sum (shares T ws) ≡ T
sum-shares T ws some = sum-shares_after T 0 (sum ws) ws some ∙ part-all T (sum ws) some

-- and never more
pub sum-shares-le : (T : ℕ) (ws : List ℕ) → sum (shares T ws) ≤ T
sum-shares-le T ws =
    elim (cases_lt 0 (sum ws)) [
      | inl some ↦ omega (arith, sum-shares T ws some)
      | inr none ↦ omega (arith, sum-shares_after-none T 0 (sum ws) ws (omega (arith, none)))
    ]

-- each weight has a share
pub length-shares_after : (T before all : ℕ) (ws : List ℕ) → length (shares_after T before all ws) ≡ length ws
length-shares_after T before all [] = refl
length-shares_after T before all (w ∷ ws) = ap suc (length-shares_after T (before + w) all ws)
