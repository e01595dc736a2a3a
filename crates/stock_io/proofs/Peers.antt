-- The last of a list, and those before it.
use Rattle.std.proofs.Common.{List, [], ◌∷◌, ◌++◌, length, subst, arith, length-append}
use Rattle.std.specs.List.{All}
use Rattle.std.proofs.lemmas.List.{get_or_append_left}
use Rattle.std.proofs.Math.Seq.{get_or-append_seam}

-- what holds of each holds of each before the last
pub All-front : {X : Type 0} (P : X → Type 0) (xs : List X) (x : X) → All P (xs ++ x ∷ []) → All P xs
All-front P xs x all k d inside =
    subst P (get_or_append_left xs (x ∷ []) d k inside) (all k d (omega (arith, length-append xs (x ∷ []))))

-- and of the last
pub All-last : {X : Type 0} (P : X → Type 0) (xs : List X) (x : X) → All P (xs ++ x ∷ []) → P x
All-last P xs x all = subst P (get_or-append_seam xs x [] x) (all (length xs) x (omega (arith, length-append xs (x ∷ []))))
