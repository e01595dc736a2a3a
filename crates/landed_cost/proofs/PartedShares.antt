-- The shares that are found one after another.
use Rattle.std.proofs.Common.{◌≡◌, ℕ, ℤ, suc, ◌+◌, ◌<◌, pos, List, [], ◌∷◌, ◌++◌, length, get_or, drop, sum, sym, ap, ◌∙◌, append_assoc, drop-cons, arith}
use Rattle.std.proofs.lemmas.List.Sums.{sum_by-drop_more}
use Rattle.stock_nums.specs.Part.{part}
use Rattle.stock_nums.specs.Shares.{shares_after}
use Rattle.stock_nums.specs.declared.numbers.Minor.{Minor}
use Rattle.landed_cost.specs.Charges.{minor, minors}

-- one share more, and the rest is that of the later weights
pub parted-next : (T before all : ℕ) (ws : List ℕ) (i : ℕ) (old new : List Minor) (share : Minor) → i < length ws
    → share.0 ≡ pos (part T before (get_or ws i 0) all) → new ≡ old ++ share ∷ []
    → new ++ minors (shares_after T (before + get_or ws i 0) all (drop (i + 1) ws)) ≡ old ++ minors (shares_after T before all (drop i ws))
parted-next T before all ws i old new share within is added =
    let of : ℤ → Minor = λ z. record { 0 = z } in
    let own : share ≡ minor (part T before (get_or ws i 0) all) = ap of is in
    let one_more : suc i ≡ i + 1 = omega arith in
    let rest = minors (shares_after T (before + get_or ws i 0) all (drop (i + 1) ws)) in
    ap (λ (ms : List Minor). ms ++ rest) added
    ∙ append_assoc old (share ∷ []) rest
    ∙ ap (λ (m : Minor). old ++ m ∷ rest) own
    ∙ ap (λ (k : ℕ). old ++ minors (shares_after T before all (get_or ws i 0 ∷ drop k ws))) (sym one_more)
    ∙ ap (λ (later : List ℕ). old ++ minors (shares_after T before all later)) (sym (drop-cons ws i 0 within))

-- and the weights before and those to come are all
pub before-next : (before all : ℕ) (ws : List ℕ) (i : ℕ) → i < length ws → before + sum (drop i ws) ≡ all → (before + get_or ws i 0) + sum (drop (i + 1) ws) ≡ all
before-next before all ws i within is =
    let more = sum_by-drop_more (λ (w : ℕ). w) ws i 0 within in
    omega arith
