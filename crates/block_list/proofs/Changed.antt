-- Lists in which one item is changed.
use Rattle.std.proofs.Common.{◌≡◌, ℕ, zero, suc, ◌≤◌, slice_get, set, length, List, [], ◌∷◌, Option, Some, None, refl, ap, ◌∙◌, arith}
use Rattle.std.specs.Option.{unwrap_or}
use Rattle.block_list.specs.Changes.{changed_item, change_at}

-- the item at the index is what the change makes of it
pub change_at-set : {T : Type 0} (change : T → Option T) (xs : List T) (at : ℕ) (x : T) → slice_get xs at ≡ Some x
    → change_at change xs at ≡ set xs at (changed_item change x)
change_at-set change [] zero x read = cc
change_at-set change [] (suc at) x read = cc
change_at-set change (y ∷ xs) zero x read = let same : y ≡ x = cc in ap (λ z. changed_item change z ∷ xs) same
change_at-set change (y ∷ xs) (suc at) x read = ap (λ ys. y ∷ ys) (change_at-set change xs at x read)

-- where it stays, all stay
pub change_at-same : {T : Type 0} (change : T → Option T) (xs : List T) (at : ℕ) (x : T) → slice_get xs at ≡ Some x → change x ≡ None
    → change_at change xs at ≡ xs
change_at-same change [] at x read stays = refl
change_at-same change (y ∷ xs) zero x read stays =
    let same : y ≡ x = cc in
    let kept : change y ≡ None = ap change same ∙ stays in
    ap (λ o. unwrap_or o y ∷ xs) kept
change_at-same change (y ∷ xs) (suc at) x read stays = ap (λ ys. y ∷ ys) (change_at-same change xs at x read stays)

-- past the end there is none
pub change_at-past : {T : Type 0} (change : T → Option T) (xs : List T) (at : ℕ) → length xs ≤ at → change_at change xs at ≡ xs
change_at-past change [] at past = refl
change_at-past change (x ∷ xs) zero past = absurd (omega (arith, past))
change_at-past change (x ∷ xs) (suc at) past = ap (λ ys. x ∷ ys) (change_at-past change xs at (omega (arith, past)))
