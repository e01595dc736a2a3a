-- What the first units of rows cost, row by row, and the sums over rows with one more.
use Rattle.std.proofs.Common.{◌≡◌, ℕ, ◌+◌, ◌-◌, ◌<◌, ◌≤◌, Bool, true, false, cond, ◌&&◌, List, [], ◌∷◌, ◌++◌, length, get_or, take, drop, sum_by, refl, sym, ap, ◌∙◌, suc, zero, arith}
use Rattle.std.specs.Prelude.{nat_le}
use Rattle.std.specs.List.{list_all}
use Rattle.std.proofs.Math.Seq.{drop-cons}
use Rattle.std.proofs.lemmas.Bool.{false≢true}
use Rattle.std.proofs.lemmas.Bool.Decides.{nat_tests}
use Rattle.std.proofs.lemmas.List.{take_more, take_all, length-drop}
use Rattle.std.proofs.lemmas.List.Sums.{sum_by-cons, sum_by-append}
use Rattle.stock_nums.specs.FirstIn.{first_cost, next_cost}
use Rattle.stock_nums.specs.Part.{part}
use Rattle.stock_nums.specs.declared.entry.Row.{Row}
use Rattle.stock_nums.proofs.FirstIn.{first_cost-whole}
use Rattle.stock_model.specs.Sums.{units_of, value_of}
use Rattle.generation_audit.specs.KeySums.{AreGone}

-- the rows from an index on begin with the one there
pub rest_is : {X : Type 0} (xs : List X) (i : ℕ) (x : X) → i < length xs → x ≡ get_or xs i x → drop i xs ≡ x ∷ drop (i + 1) xs
rest_is xs i x within is =
    let one_more : suc i ≡ i + 1 = omega arith in
    drop-cons xs i x within ∙ ap (λ y. y ∷ drop (suc i) xs) (sym is) ∙ ap (λ (k : ℕ). x ∷ drop k xs) one_more

-- what all pass, each passes
pub passes : {X : Type 0} (p : X → Bool) (xs : List X) (i : ℕ) (x : X) → i < length xs → x ≡ get_or xs i x → list_all p xs ≡ true → p x ≡ true
passes p [] i x within is all = absurd (omega (arith, within))
passes p (y ∷ ys) zero x within is all = ap p is ∙ first (p y) (list_all p ys) all
  where
    first : (a b : Bool) → (a && b) ≡ true → a ≡ true
    first true b h = refl
    first false b h = absurd (false≢true h)
passes p (y ∷ ys) (suc i) x within is all = passes p ys i x (omega (arith, within)) is (second (p y) (list_all p ys) all)
  where
    second : (a b : Bool) → (a && b) ≡ true → b ≡ true
    second true b h = h
    second false b h = absurd (false≢true h)

le-true : (a b : ℕ) → a ≤ b → nat_le a b ≡ true
le-true a b h = grind (arith, nat_tests)

le-false : (a b : ℕ) → b < a → nat_le a b ≡ false
le-false a b h = grind (arith, nat_tests)

-- a whole row, and then the rest
pub cost-whole : {X : Type 0} (units value : X → ℕ) (xs : List X) (i x : ℕ) (e : X) → i < length xs → e ≡ get_or xs i e → units e ≤ x
    → first_cost units value (drop i xs) x ≡ value e + first_cost units value (drop (i + 1) xs) (x - units e)
cost-whole units value xs i x e within is whole =
    ap (λ es. first_cost units value es x) (rest_is xs i e within is)
    ∙ ap (λ (b : Bool). cond b (value e + first_cost units value (drop (i + 1) xs) (x - units e)) (part (value e) 0 x (units e))) (le-true (units e) x whole)

-- a part of a row, and no more
pub cost-part : {X : Type 0} (units value : X → ℕ) (xs : List X) (i x : ℕ) (e : X) → i < length xs → e ≡ get_or xs i e → x < units e
    → first_cost units value (drop i xs) x ≡ part (value e) 0 x (units e)
cost-part units value xs i x e within is less =
    ap (λ es. first_cost units value es x) (rest_is xs i e within is)
    ∙ ap (λ (b : Bool). cond b (value e + first_cost units value (drop (i + 1) xs) (x - units e)) (part (value e) 0 x (units e))) (le-false (units e) x less)

-- no row is left
pub cost-none : {X : Type 0} (units value : X → ℕ) (xs : List X) (i x : ℕ) → length xs ≤ i → first_cost units value (drop i xs) x ≡ 0
cost-none units value [] zero x past = refl
cost-none units value [] (suc i) x past = refl
cost-none units value (e ∷ es) zero x past = absurd (omega (arith, past))
cost-none units value (e ∷ es) (suc i) x past = cost-none units value es i x (omega (arith, past))

-- the units of one more row
pub units-more : (xs : List Row) (i : ℕ) (x : Row) → i < length xs → x ≡ get_or xs i x
    → sum_by units_of (take (i + 1) xs) ≡ sum_by units_of (take i xs) + units_of x
units-more xs i x within is =
    ap (sum_by units_of) (take_more xs i x within ∙ ap (λ (y : Row). take i xs ++ y ∷ []) (sym is))
    ∙ sum_by-append units_of (take i xs) (x ∷ []) ∙ ap (λ (n : ℕ). sum_by units_of (take i xs) + n) (sum_by-cons units_of x [] ∙ omega arith)

from-nothing : (f : ℕ → ℕ) (x : ℕ) → f x ≡ 0 + f (x - 0)
from-nothing f x =
    let same : f (x - 0) ≡ f x = ap f (omega arith) in
    omega (arith, same)

-- where the first rows have no more than so many units, these cost what those rows are worth, and the others the rest
pub cost-behind : {X : Type 0} (units value : X → ℕ) (xs : List X) (i x : ℕ) → i ≤ length xs → sum_by units (take i xs) ≤ x
    → first_cost units value xs x ≡ sum_by value (take i xs) + first_cost units value (drop i xs) (x - sum_by units (take i xs))
cost-behind units value xs zero x within enough = from-nothing (first_cost units value xs) x
cost-behind units value [] (suc i) x within enough = absurd (omega (arith, within))
cost-behind units value (e ∷ es) (suc i) x within enough =
    let all = sum_by-cons units e (take i es) in
    let worth = sum_by-cons value e (take i es) in
    let rest = cost-behind units value es i (x - units e) (omega (arith, within)) (omega (arith, all, enough)) in
    let same : x - units e - sum_by units (take i es) ≡ x - sum_by units (take (suc i) (e ∷ es)) = omega (arith, all) in
    let whole = first_cost-whole units value e es x (omega (arith, all, enough)) in
    omega (arith, whole, rest, worth, ap (first_cost units value (drop i es)) same)

-- what the next units cost is found among the rows that are not gone
pub next-behind : (entered : List Row) (gone gone_units out q : ℕ) → AreGone entered gone gone_units out
    → next_cost units_of value_of entered out q ≡ next_cost units_of value_of (drop gone entered) (out - gone_units) q
next-behind entered gone gone_units out q are =
    let sum = sum_by units_of (take gone entered) in
    let left : sum ≤ out = omega (arith, are.units, are.left) in
    let with = cost-behind units_of value_of entered gone (out + q) are.within (omega (arith, left)) in
    let without = cost-behind units_of value_of entered gone out are.within left in
    let more : out + q - sum ≡ out - gone_units + q = omega (arith, are.units, left) in
    let less : out - sum ≡ out - gone_units = omega (arith, are.units) in
    let rest = drop gone entered in
    omega (arith, with, without, ap (first_cost units_of value_of rest) more, ap (first_cost units_of value_of rest) less)

-- the rows from an index on, to the end
pub to_the_end : {X : Type 0} (xs : List X) (i : ℕ) → take (length xs - i) (drop i xs) ≡ drop i xs
to_the_end xs i = take_all (length xs - i) (drop i xs) (omega (arith, length-drop i xs))

-- what all rows pass, those from an index on pass
pub dropped-pass : {X : Type 0} (p : X → Bool) (xs : List X) (i : ℕ) → list_all p xs ≡ true → list_all p (drop i xs) ≡ true
dropped-pass p xs zero all = all
dropped-pass p [] (suc i) all = refl
dropped-pass p (x ∷ xs) (suc i) all = dropped-pass p xs i (second (p x) (list_all p xs) all)
  where
    second : (a b : Bool) → (a && b) ≡ true → b ≡ true
    second true b h = h
    second false b h = absurd (false≢true h)
